-- Prefixes that are read one after the other, up to SUBROUTINE or FUNCTION.
use Rattle.std.proofs.Common.{◌≡◌, ℕ, zero, suc, ◌-◌, ◌+◌, ◌≤◌, ◌<◌, List, [], ◌∷◌, ◌++◌, length, map, Option, Some, None, Bool, refl, sym, ap, ◌∙◌, arith}
use Rattle.f_lex.specs.declared.token.Token.{Token}
use Rattle.f_grammar.specs.Reading.{◌>>=◌, Read}
use Rattle.f_declaration_grammar.specs.Declarations.{Prefix, Declared}
use Rattle.f_declaration_grammar.specs.DeclarationReading.{prefix_at, unit_word_at, prefixes_at, head_of, head_behind}
use Rattle.f_expr_read.specs.declared.error.ReadError.{ReadError}
use Rattle.f_expr_read.specs.declared.error.ReadError.TheVariants.{Memory, Form}
use Rattle.f_expr_read.specs.Gives.{Fails, onto, behind}
use Rattle.f_expr_read.proofs.Loops.{Next, goes_on, fails}
use Rattle.f_header_read.specs.Heads.{before}

onto_first : (ps : List Prefix) (b : Bool) → onto before ps ([], b) ≡ (ps, b)
onto_first [] b = refl
onto_first (p ∷ ps) b = ap (before p) (onto_first ps b)

prefix_next : (n : ℕ) (ts after : List Token) (p : Prefix) → unit_word_at ts ≡ None → prefix_at n ts ≡ Some (p, after) → Next before (prefixes_at n) ts p after
unfolding prefixes_at
prefix_next n ts after p e1 e2 = λ k. rw (e1, e2) refl

prefix_fails : (n : ℕ) (ts : List Token) (e : ReadError) → unit_word_at ts ≡ None → Fails e (prefix_at n ts) → (k : ℕ) → Fails e (prefixes_at n (suc k) ts)
unfolding prefixes_at
prefix_fails n ts Memory e1 f = λ k. tt
prefix_fails n ts Form e1 f = λ k. rw (e1, f) refl

unit_word_stops : (n k : ℕ) (ts after : List Token) (b : Bool) → unit_word_at ts ≡ Some (b, after) → prefixes_at n (suc k) ts ≡ Some (([], b), after)
unfolding prefixes_at
unit_word_stops n k ts after b e = rw e refl

none_at_zero : (n : ℕ) (ts : List Token) → prefixes_at n zero ts ≡ None
unfolding prefixes_at
none_at_zero n ts = refl

-- what was read before is there, and the rest is still to be read
module _ {X : Type 0} (n : ℕ) (see : X → Prefix) (xs : List X) (most i : ℕ) (ts : List Token) (total : Read (List Prefix × Bool)) (so_far : behind before (map see xs) (prefixes_at n (most - i) ts) ≡ total) where
  pub prefixes_go_on : (x : X) (after : List Token) → i < most → unit_word_at ts ≡ None → prefix_at n ts ≡ Some (see x, after) → behind before (map see (xs ++ x ∷ [])) (prefixes_at n (most - (i + 1)) after) ≡ total
  prefixes_go_on x after lt e1 e2 = goes_on ([], Bool.false) before (prefixes_at n) see xs most i ts total so_far x after lt (prefix_next n ts after (see x) e1 e2)

  pub prefixes_fail : (e : ReadError) → i < most → unit_word_at ts ≡ None → Fails e (prefix_at n ts) → Fails e total
  prefixes_fail e lt e1 f = fails ([], Bool.false) before (prefixes_at n) see xs most i ts total so_far e lt (prefix_fails n ts e e1 f)

  pub prefixes_end : (b : Bool) (after : List Token) → i < most → unit_word_at ts ≡ Some (b, after) → total ≡ Some ((map see xs, b), after)
  prefixes_end b after lt e =
      let k : most - i ≡ suc (most - (i + 1)) = omega arith in
      sym so_far ∙ ap (λ (m : ℕ). behind before (map see xs) (prefixes_at n m ts)) k ∙ ap (behind before (map see xs)) (unit_word_stops n (most - (i + 1)) ts after b e) ∙ ap (λ (l : List Prefix × Bool). Some (l, after)) (onto_first (map see xs) b)

  pub no_unit_word : most ≤ i → total ≡ None
  no_unit_word le =
      let k : most - i ≡ zero = omega arith in
      sym so_far ∙ ap (λ (m : ℕ). behind before (map see xs) (prefixes_at n m ts)) k ∙ ap (behind before (map see xs)) (none_at_zero n ts)

abbrev whole : Read (List Prefix × Bool) → Option Declared
whole r = r >>= λ x. head_of x.0.0 x.0.1 x.1

behind_first : (p : Prefix) (r : Read (List Prefix × Bool)) → (r >>= λ x. head_of (p ∷ x.0.0) x.0.1 x.1) ≡ whole (behind before (p ∷ []) r)
behind_first p None = refl
behind_first p (Some x) = refl

head_is : (n : ℕ) (p : Prefix) (ts : List Token) → head_behind n p ts ≡ whole (behind before (p ∷ []) (prefixes_at n (length ts) ts))
unfolding head_behind
head_is n p ts = behind_first p (prefixes_at n (length ts) ts)

pub same_length : {A B : Type 0} (f : A → B) (xs : List A) → length xs ≡ length (map f xs)
same_length f [] = refl
same_length f (x ∷ xs) = ap suc (same_length f xs)

-- behind its first prefix, which stands alone among those that were read before
module _ (n m : ℕ) (p : Prefix) (ps : List Prefix) (ts : List Token) (same : m ≡ length ts) (alone : ps ≡ p ∷ []) where
  as_read : behind before (p ∷ []) (prefixes_at n (length ts) ts) ≡ behind before ps (prefixes_at n m ts)
  as_read = sym (ap (λ (k : ℕ). behind before (p ∷ []) (prefixes_at n k ts)) same) ∙ sym (ap (λ (qs : List Prefix). behind before qs (prefixes_at n m ts)) alone)

  pub head_found : (x : (List Prefix × Bool) × List Token) → behind before ps (prefixes_at n m ts) ≡ Some x → head_behind n p ts ≡ head_of x.0.0 x.0.1 x.1
  head_found x is = head_is n p ts ∙ ap whole (as_read ∙ is)

  pub head_fails : (e : ReadError) → Fails e (behind before ps (prefixes_at n m ts)) → Fails e (head_behind n p ts)
  head_fails Memory f = tt
  head_fails Form f = head_is n p ts ∙ ap whole (as_read ∙ f)
