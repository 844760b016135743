-- How a text lies around its lines.
use Rattle.std.proofs.Common.{◌≡◌, ◌≢◌, ℕ, ◌-◌, Bool, true, false, cond, eqb, List, [], ◌∷◌, ◌++◌, length, take, get_or, reverse, refl, sym, ap, ◌∙◌, subst, arith, append_assoc}
use Rattle.std.specs.List.{All}
use Rattle.std.specs.Str.Lines.{strip_carriage_return}
use Rattle.std.proofs.Math.Seq.{get_or-append_seam, take-append_seam}
use Rattle.std.proofs.lemmas.Bool.{eqb-true, eqb-false}
use Rattle.std.proofs.lemmas.List.{reverse-append, reverse-reverse, length-append}
use Rattle.std.proofs.lemmas.List.Elements.{All-nil, All-cons}
use Rattle.first_form.specs.Lines.{is_blank, without_leading_blanks, trimmed, text_lines}
use Rattle.first_form.proofs.TextLines.{text_lines-empty, text_lines-last, text_lines-first}

abbrev pub AreBlank : List ℕ → Type 0
AreBlank [] = Unit {0}
AreBlank (b ∷ bs) = (is_blank b ≡ true) × AreBlank bs

blank_append : (xs ys : List ℕ) → AreBlank xs → AreBlank ys → AreBlank (xs ++ ys)
blank_append [] ys p q = q
blank_append (x ∷ xs) ys p q = (p.0, blank_append xs ys p.1 q)

blank_reverse : (xs : List ℕ) → AreBlank xs → AreBlank (reverse xs)
blank_reverse [] p = tt
blank_reverse (x ∷ xs) p = subst AreBlank (sym (reverse-append (x ∷ []) xs)) (blank_append (reverse xs) (x ∷ []) (blank_reverse xs p.1) (p.0, tt))

-- blanks, and what begins with none
record Led (text : List ℕ) : Type 0 where
  blanks : List ℕ
  are : AreBlank blanks
  is : text ≡ blanks ++ without_leading_blanks text

led : (text : List ℕ) → Led text
led [] = record { blanks = []; are = tt; is = refl }
led (c ∷ cs) = pick (is_blank c) refl (led cs)
  where
    pick : (b : Bool) → is_blank c ≡ b → Led cs → Led (c ∷ cs)
    pick true e l = record {
      blanks = c ∷ l.blanks;
      are = (e, l.are);
      is = ap (λ (x : List ℕ). c ∷ x) l.is ∙ sym (ap (λ (t : Bool). c ∷ (l.blanks ++ cond t (without_leading_blanks cs) (c ∷ cs))) e);
    }
    pick false e l = record { blanks = []; are = tt; is = sym (ap (λ (t : Bool). cond t (without_leading_blanks cs) (c ∷ cs)) e) }

-- blanks around a line
pub record Around (text line : List ℕ) : Type 0 where
  pub lead : List ℕ
  pub trail : List ℕ
  pub leads : AreBlank lead
  pub trails : AreBlank trail
  pub is : text ≡ lead ++ (line ++ trail)

around : (text : List ℕ) → Around text (trimmed text)
around text =
    let front = led text in
    let inner = without_leading_blanks text in
    let back = led (reverse inner) in
    let whole : inner ≡ trimmed text ++ reverse back.blanks = sym (reverse-reverse inner) ∙ ap reverse back.is ∙ reverse-append back.blanks (without_leading_blanks (reverse inner)) in
    record { lead = front.blanks; trail = reverse back.blanks; leads = front.are; trails = blank_reverse back.blanks back.are; is = front.is ∙ ap (λ (x : List ℕ). front.blanks ++ x) whole }

-- ---- up to the first line feed

data Parted (text : List ℕ) : Type 0 where
  nothing : text ≡ [] → Parted text
  last : (length text ≡ 0 → ⊥) → All (λ b. b ≢ 10) text → Parted text
  first : (before rest : List ℕ) → All (λ b. b ≢ 10) before → text ≡ before ++ (10 ∷ rest) → Parted text

parted : (text : List ℕ) → Parted text
parted [] = nothing refl
parted (c ∷ cs) = pick (eqb c 10) refl (parted cs)
  where
    pick : (b : Bool) → eqb c 10 ≡ b → Parted cs → Parted (c ∷ cs)
    pick true e p = first [] cs (All-nil (λ b. b ≢ 10)) (ap (λ (n : ℕ). n ∷ cs) (eqb-true c 10 e))
    pick false e (nothing is) = last (λ z. absurd (omega (arith, z))) (All-cons (λ b. b ≢ 10) c cs (eqb-false c 10 e) (subst (All (λ b. b ≢ 10)) (sym is) (All-nil (λ b. b ≢ 10))))
    pick false e (last some free) = last (λ z. absurd (omega (arith, z))) (All-cons (λ b. b ≢ 10) c cs (eqb-false c 10 e) free)
    pick false e (first before rest free is) = first (c ∷ before) rest (All-cons (λ b. b ≢ 10) c before (eqb-false c 10 e) free) (ap (λ (x : List ℕ). c ∷ x) is)

-- ---- a carriage return before a line feed

data Ended (xs : List ℕ) : Type 0 where
  empty : xs ≡ [] → Ended xs
  ends : (front : List ℕ) (x : ℕ) → xs ≡ front ++ x ∷ [] → Ended xs

ended : (xs : List ℕ) → Ended xs
ended [] = empty refl
ended (x ∷ xs) = pick (ended xs)
  where
    pick : Ended xs → Ended (x ∷ xs)
    pick (empty is) = ends [] x (ap (λ (l : List ℕ). x ∷ l) is)
    pick (ends front y is) = ends (x ∷ front) y (ap (λ (l : List ℕ). x ∷ l) is)

-- what stands between a line and its line feed
data Stripped (before : List ℕ) : Type 0 where
  kept : strip_carriage_return before ≡ before → Stripped before
  cut : before ≡ strip_carriage_return before ++ 13 ∷ [] → Stripped before

stripped : (before : List ℕ) → Stripped before
stripped before = pick (ended before)
  where
    pick : Ended before → Stripped before
    pick (empty is) = kept (ap strip_carriage_return is ∙ sym is)
    pick (ends front x is) =
        let place : length (front ++ x ∷ []) - 1 ≡ length front = omega (arith, length-append front (x ∷ [])) in
        let end : get_or (front ++ x ∷ []) (length (front ++ x ∷ []) - 1) 0 ≡ x = ap (λ (n : ℕ). get_or (front ++ x ∷ []) n 0) place ∙ get_or-append_seam front x [] 0 in
        let begin : take (length (front ++ x ∷ []) - 1) (front ++ x ∷ []) ≡ front = ap (λ (n : ℕ). take n (front ++ x ∷ [])) place ∙ take-append_seam front (x ∷ []) in
        let test : strip_carriage_return before ≡ cond (eqb x 13) front (front ++ x ∷ []) =
        ap strip_carriage_return is
        ∙ ap (λ (n : ℕ). cond (eqb n 13) (take (length (front ++ x ∷ []) - 1) (front ++ x ∷ [])) (front ++ x ∷ [])) end
        ∙ ap (λ (l : List ℕ). cond (eqb x 13) l (front ++ x ∷ [])) begin in
        by_test (eqb x 13) refl test
      where
        by_test : (b : Bool) → eqb x 13 ≡ b → strip_carriage_return before ≡ cond (eqb x 13) front (front ++ x ∷ []) → Stripped before
        by_test true e t = cut (is ∙ ap (λ (n : ℕ). front ++ n ∷ []) (eqb-true x 13 e) ∙ ap (λ (l : List ℕ). l ++ 13 ∷ []) (sym (t ∙ ap (λ (b : Bool). cond b front (front ++ x ∷ [])) e)))
        by_test false e t = kept (t ∙ ap (λ (b : Bool). cond b front (front ++ x ∷ [])) e ∙ sym is)

-- ---- the first line

nil_behind : (xs : List ℕ) → xs ≡ xs ++ []
nil_behind [] = refl
nil_behind (x ∷ xs) = ap (λ (l : List ℕ). x ∷ l) (nil_behind xs)

-- what stands behind a line and its blanks, and what stands behind that
pub data Behind (tail rest : List ℕ) : Type 0 where
  at_end : tail ≡ [] → rest ≡ [] → Behind tail rest
  feed : tail ≡ 10 ∷ rest → Behind tail rest
  return_feed : tail ≡ 13 ∷ 10 ∷ rest → Behind tail rest

pub record FirstLine (text line : List ℕ) (lines : List (List ℕ)) : Type 0 where
  pub lead : List ℕ
  pub trail : List ℕ
  pub tail : List ℕ
  pub rest : List ℕ
  pub leads : AreBlank lead
  pub trails : AreBlank trail
  pub is : text ≡ lead ++ (line ++ (trail ++ tail))
  pub behind : Behind tail rest
  pub others : text_lines rest ≡ lines

head_is : (x y : List ℕ) (xs ys : List (List ℕ)) → x ∷ xs ≡ y ∷ ys → x ≡ y
head_is x y xs ys e = cc

tail_is : (x y : List ℕ) (xs ys : List (List ℕ)) → x ∷ xs ≡ y ∷ ys → xs ≡ ys
tail_is x y xs ys e = cc

no_line : (x : List ℕ) (xs : List (List ℕ)) → let e : List (List ℕ) = [] in e ≡ x ∷ xs → ⊥
no_line x xs e = cc

glued : (lead line trail tail : List ℕ) → (lead ++ (line ++ trail)) ++ tail ≡ lead ++ (line ++ (trail ++ tail))
glued lead line trail tail = append_assoc lead (line ++ trail) tail ∙ ap (λ (l : List ℕ). lead ++ l) (append_assoc line trail tail)

pub first_line : (text line : List ℕ) (lines : List (List ℕ)) → text_lines text ≡ line ∷ lines → FirstLine text line lines
first_line text line lines e = pick (parted text)
  where
    of_before : (before rest : List ℕ) → text ≡ before ++ (10 ∷ rest) → text_lines text ≡ trimmed (strip_carriage_return before) ∷ text_lines rest → Stripped before → Around (strip_carriage_return before) line → FirstLine text line lines
    of_before before rest is t (kept s) a = record {
      lead = a.lead;
      trail = a.trail;
      tail = 10 ∷ rest;
      rest = rest;
      leads = a.leads;
      trails = a.trails;
      is = is ∙ ap (λ (l : List ℕ). l ++ (10 ∷ rest)) (sym s ∙ a.is) ∙ glued a.lead line a.trail (10 ∷ rest);
      behind = feed refl;
      others = tail_is _ _ _ _ (sym t ∙ e);
    }
    of_before before rest is t (cut s) a = record {
      lead = a.lead;
      trail = a.trail;
      tail = 13 ∷ 10 ∷ rest;
      rest = rest;
      leads = a.leads;
      trails = a.trails;
      is = is ∙ ap (λ (l : List ℕ). l ++ (10 ∷ rest)) s ∙ append_assoc (strip_carriage_return before) (13 ∷ []) (10 ∷ rest) ∙ ap (λ (l : List ℕ). l ++ (13 ∷ 10 ∷ rest)) a.is ∙ glued a.lead line a.trail (13 ∷ 10 ∷ rest);
      behind = return_feed refl;
      others = tail_is _ _ _ _ (sym t ∙ e);
    }

    pick : Parted text → FirstLine text line lines
    pick (nothing is) = absurd (no_line line lines (sym (ap text_lines is ∙ text_lines-empty [] refl) ∙ e))
    pick (last some free) =
        let t = text_lines-last text (trimmed text) some free refl in
        let same : trimmed text ≡ line = head_is _ _ _ _ (sym t ∙ e) in
        let a : Around text line = subst (λ (l : List ℕ). Around text l) same (around text) in
        record {
          lead = a.lead;
          trail = a.trail;
          tail = [];
          rest = [];
          leads = a.leads;
          trails = a.trails;
          is = a.is ∙ ap (λ (l : List ℕ). a.lead ++ (line ++ l)) (nil_behind a.trail);
          behind = at_end refl refl;
          others = tail_is _ _ _ _ (sym t ∙ e);
        }
    pick (first before rest free is) =
        let t = text_lines-first text before rest (trimmed (strip_carriage_return before)) is free refl in
        let same : trimmed (strip_carriage_return before) ≡ line = head_is _ _ _ _ (sym t ∙ e) in
        of_before before rest is t (stripped before) (subst (λ (l : List ℕ). Around (strip_carriage_return before) l) same (around (strip_carriage_return before)))

-- a text without lines is empty
pub none_left : (text : List ℕ) → text_lines text ≡ [] → text ≡ []
none_left text e = pick (parted text)
  where
    pick : Parted text → text ≡ []
    pick (nothing is) = is
    pick (last some free) = absurd (no_line _ _ (sym e ∙ text_lines-last text (trimmed text) some free refl))
    pick (first before rest free is) = absurd (no_line _ _ (sym e ∙ text_lines-first text before rest (trimmed (strip_carriage_return before)) is free refl))
