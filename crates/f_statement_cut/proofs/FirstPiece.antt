-- The first statement, and what stands behind it.
use Rattle.std.proofs.Common.{◌≡◌, ℕ, ◌-◌, ◌<◌, ◌+◌, Bool, true, false, cond, List, [], ◌∷◌, ◌++◌, length, take, Option, Some, None, refl, sym, ap, subst, ◌∙◌, arith}
use Rattle.jf_base.specs.declared.place.Place.{Place}
use Rattle.f_lex.specs.declared.token.Spanned.{Spanned}
use Rattle.f_statement_cut.specs.Pieces.{Piece, is_end, in_front, pieces, before_end, from_end, end_place, behind_first, BeginsAt, place_or}

pub both : (ts : List Spanned) → length (before_end ts) + length (from_end ts) ≡ length ts
unfolding before_end from_end
both [] = refl
both (t ∷ ts) = pick (is_end t.token) (both ts)
  where
    pick : (b : Bool) → length (before_end ts) + length (from_end ts) ≡ length ts → length (cond b [] (t ∷ before_end ts)) + length (cond b (t ∷ ts) (from_end ts)) ≡ length (t ∷ ts)
    pick true ih = omega arith
    pick false ih = omega (arith, ih)

take_before : (ts : List Spanned) → take (length (before_end ts)) ts ≡ before_end ts
unfolding before_end
take_before [] = refl
take_before (t ∷ ts) = pick (is_end t.token) (take_before ts)
  where
    pick : (b : Bool) → take (length (before_end ts)) ts ≡ before_end ts → take (length (cond b [] (t ∷ before_end ts))) (t ∷ ts) ≡ cond b [] (t ∷ before_end ts)
    pick true ih = refl
    pick false ih = ap (λ r. t ∷ r) ih

taken_before : (n : ℕ) (ts : List Spanned) → n ≡ length ts - length (from_end ts) → take n ts ≡ before_end ts
taken_before n ts e = let same : n ≡ length (before_end ts) = omega (arith, e, both ts) in ap (λ k. take k ts) same ∙ take_before ts

abbrev FirstPiece : List Spanned → Type 0
FirstPiece ts = pieces ts ≡ (before_end ts, end_place (from_end ts)) ∷ pieces (behind_first (from_end ts))

one_more : (t : Spanned) (ts : List Spanned) → is_end t.token ≡ false → in_front t (pieces ts) ≡ (t ∷ before_end ts, end_place (from_end ts)) ∷ pieces (behind_first (from_end ts)) → FirstPiece (t ∷ ts)
unfolding pieces before_end from_end
one_more t ts e f = rw e f

at_end : (t : Spanned) (ts : List Spanned) → is_end t.token ≡ true → FirstPiece (t ∷ ts)
unfolding pieces before_end from_end
at_end t ts e = rw e refl

last_piece : (t : Spanned) → in_front t (pieces []) ≡ (t ∷ before_end [], end_place (from_end [])) ∷ pieces (behind_first (from_end []))
unfolding pieces before_end from_end
last_piece t = refl

-- tokens that are some are the first statement and then the others
first_piece : (t : Spanned) (ts : List Spanned) → FirstPiece (t ∷ ts)
first_piece t [] = pick (is_end t.token) refl
  where
    pick : (b : Bool) → is_end t.token ≡ b → FirstPiece (t ∷ [])
    pick true e = at_end t [] e
    pick false e = one_more t [] e (last_piece t)
first_piece t (k ∷ ks) = pick (is_end t.token) refl (first_piece k ks)
  where
    pick : (b : Bool) → is_end t.token ≡ b → FirstPiece (k ∷ ks) → FirstPiece (t ∷ k ∷ ks)
    pick true e ih = at_end t (k ∷ ks) e
    pick false e ih = one_more t (k ∷ ks) e (ap (in_front t) ih)

pub pieces_at : (ts first behind rest : List Spanned) (end : Option Place) (n : ℕ) → 0 < length ts → rest ≡ from_end ts → n ≡ length ts - length rest → first ≡ take n ts → end ≡ end_place rest → behind ≡ behind_first rest → pieces ts ≡ (first, end) ∷ pieces behind
pieces_at [] first behind rest end n lt re ne we ee be = absurd (omega arith)
pieces_at (t ∷ ts) first behind rest end n lt re ne we ee be =
    let taken : first ≡ before_end (t ∷ ts) = we ∙ taken_before n (t ∷ ts) (ne ∙ ap (λ r. length (t ∷ ts) - length r) re) in
    first_piece t ts
    ∙ ap (λ (r : List Spanned). (r, end_place (from_end (t ∷ ts))) ∷ pieces (behind_first (from_end (t ∷ ts)))) (sym taken)
    ∙ ap (λ (r : List Spanned). (first, end_place r) ∷ pieces (behind_first r)) (sym re)
    ∙ ap (λ (e : Option Place). (first, e) ∷ pieces (behind_first rest)) (sym ee)
    ∙ ap (λ (b : List Spanned). (first, end) ∷ pieces b) (sym be)

pub behind_less : (ts rest behind : List Spanned) → 0 < length ts → rest ≡ from_end ts → behind ≡ behind_first rest → length behind < length ts
behind_less ts rest behind lt re be = pick rest behind (ap length re) be
  where
    pick : (rest behind : List Spanned) → length rest ≡ length (from_end ts) → behind ≡ behind_first rest → length behind < length ts
    pick [] behind n e = let k = ap length e in omega (arith, k, lt)
    pick (r ∷ rs) behind n e = let k = ap length e in omega (arith, k, n, both ts)

pub no_behind : (rest : List Spanned) → length rest ≡ 0 → rest ≡ behind_first rest
no_behind [] e = refl
no_behind (t ∷ ts) e = absurd (omega (arith, e))

pub no_end : (rest : List Spanned) → length rest ≡ 0 → let none : Option Place = None in none ≡ end_place rest
no_end [] e = refl
no_end (t ∷ ts) e = absurd (omega (arith, e))

pub some_behind : (t : Spanned) (behind rest : List Spanned) → rest ≡ t ∷ behind → behind ≡ behind_first rest
some_behind t behind rest e = sym (ap behind_first e)

pub some_end : (t : Spanned) (behind rest : List Spanned) → rest ≡ t ∷ behind → let end : Option Place = Some t.place in end ≡ end_place rest
some_end t behind rest e = sym (ap end_place e)

-- ---- where statements begin

-- a statement has a first token, its end where it has no other
abbrev pub Begun : Piece → Type 0
Begun p = (other : Place) → BeginsAt p (place_or other p)

abbrev AreBegun : List Piece → Type 0
AreBegun [] = Unit {0}
AreBegun (p ∷ ps) = Begun p × AreBegun ps

begun_front : (t : Spanned) (ps : List Piece) → AreBegun ps → AreBegun (in_front t ps)
begun_front t [] b = ((λ other. refl), tt)
begun_front t (p ∷ ps) b = ((λ other. refl), b.1)

pieces_begun : (ts : List Spanned) → AreBegun (pieces ts)
unfolding pieces
pieces_begun [] = tt
pieces_begun (t ∷ ts) = pick (is_end t.token) (pieces_begun ts)
  where
    pick : (b : Bool) → AreBegun (pieces ts) → AreBegun (cond b (([], Some t.place) ∷ pieces ts) (in_front t (pieces ts)))
    pick true ih = ((λ other. refl), ih)
    pick false ih = begun_front t (pieces ts) ih

begun_among : (before : List Piece) (p : Piece) (behind : List Piece) → AreBegun (before ++ p ∷ behind) → Begun p
begun_among [] p behind b = b.0
begun_among (q ∷ qs) p behind b = begun_among qs p behind b.1

pub each_begun : (ts : List Spanned) (before : List Piece) (p : Piece) (behind : List Piece) → pieces ts ≡ before ++ p ∷ behind → Begun p
each_begun ts before p behind e = begun_among before p behind (subst AreBegun e (pieces_begun ts))

abbrev head_place : Place → List Piece → Place
head_place other [] = other
head_place other (p ∷ ps) = place_or other p

front_place : (other : Place) (t : Spanned) (ps : List Piece) → head_place other (in_front t ps) ≡ t.place
front_place other t [] = refl
front_place other t (p ∷ ps) = refl

begins_there : (other : Place) (t : Spanned) (ts : List Spanned) → head_place other (pieces (t ∷ ts)) ≡ t.place
unfolding pieces
begins_there other t ts = pick (is_end t.token)
  where
    pick : (b : Bool) → head_place other (cond b (([], Some t.place) ∷ pieces ts) (in_front t (pieces ts))) ≡ t.place
    pick true = refl
    pick false = front_place other t (pieces ts)

pub first_place : (other : Place) (t : Spanned) (ts : List Spanned) (p : Piece) (ps : List Piece) → pieces (t ∷ ts) ≡ p ∷ ps → place_or other p ≡ t.place
first_place other t ts p ps e = sym (ap (head_place other) e) ∙ begins_there other t ts

pub first_begins : (t : Spanned) (ts : List Spanned) (p : Piece) (ps : List Piece) → pieces (t ∷ ts) ≡ p ∷ ps → BeginsAt p t.place
first_begins t ts p ps e = subst (BeginsAt p) (first_place t.place t ts p ps e) (each_begun (t ∷ ts) [] p ps e t.place)
