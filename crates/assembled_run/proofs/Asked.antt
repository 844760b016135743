-- What a unit asks of the linker, one request behind the other.
use Rattle.std.proofs.Common.{◌≡◌, ◌≢◌, ℕ, zero, suc, ◌+◌, ◌<◌, ◌≤◌, ◌⊎◌, inl, inr, List, [], ◌∷◌, ◌++◌, length, refl, sym, ap, ◌∙◌, subst, arith}
use Rattle.std.specs.Prelude.{slice_get, slice_index, Some}
use Rattle.std.proofs.lemmas.Option.{slice_get_within}
use Rattle.rv_assemble.specs.declared.unit.AsmLine.{AsmLine}
use Rattle.rv_assemble.specs.declared.unit.AsmLine.TheVariants.{Label, Plain, Branch, Call, Address}
use Rattle.rv_assemble.specs.declared.unit.NamedFix.{NamedFix}
use Rattle.rv_assemble.specs.declared.unit.AsmUnit.{AsmUnit}
use Rattle.rv_assemble.specs.declared.object.ObjUnit.{ObjUnit}
use Rattle.rv_assemble.specs.declared.object.Relocation.{Relocation}
use Rattle.rv_assemble.specs.declared.object.RelocationKind.TheVariants.{Pair}
use Rattle.rv_assemble.specs.Lines.{LineAt, IsAssembled, IsProperUnit, asked_by, asked_by_lines, asked_by_fix, asked_by_fixes}
use Rattle.assembled_run.proofs.Follows.{EachFrom, lines_stand, grown, within}

-- what one list asks, or the next
split : (xs ys : List Relocation) (j : ℕ) (r : Relocation) → slice_get (xs ++ ys) j ≡ Some r → (slice_get xs j ≡ Some r) ⊎ ((t : ℕ) × (j ≡ length xs + t) × (slice_get ys t ≡ Some r))
split [] ys j r g = inr (j, (omega arith), g)
split (x ∷ xs) ys zero r g = inl g
split (x ∷ xs) ys (suc j) r g = elim (split xs ys j r g) [ inl h ↦ inl h | inr h ↦ (let e = h.1 in inr (h.0, omega (arith, e), h.2)) ]

left : (xs ys : List Relocation) (k : ℕ) (r : Relocation) → slice_get xs k ≡ Some r → slice_get (xs ++ ys) k ≡ Some r
left [] ys k r g = cc
left (x ∷ xs) ys zero r g = g
left (x ∷ xs) ys (suc k) r g = left xs ys k r g

behind : (xs ys : List Relocation) (i : ℕ) (r : Relocation) → slice_get ys i ≡ Some r → (j : ℕ) × (slice_get (xs ++ ys) j ≡ Some r)
behind [] ys i r h = (i, h)
behind (x ∷ xs) ys i r h = let f = behind xs ys i r h in (suc f.0, f.1)

same : (a b : Relocation) → Some a ≡ Some b → a ≡ b
same a b e = cc

-- a request of a line
pub record OfLine (lines : List AsmLine) (places : List ℕ) (r : Relocation) : Type 0 where
  pub index : ℕ
  pub line : AsmLine
  pub stands : slice_get lines index ≡ Some line
  pub asks : asked_by (slice_index places index) line ≡ r ∷ []

-- what stands so in lines, from the k-th on
abbrev AskedFrom : ℕ → List AsmLine → List ℕ → Relocation → Type 0
AskedFrom k lines places r = (m : ℕ) × ((line : AsmLine) × (slice_get lines m ≡ Some line) × (asked_by (slice_index places (k + m)) line ≡ r ∷ []))

behind_first : (first : AsmLine) (lines : List AsmLine) (k : ℕ) (places : List ℕ) (r : Relocation) → AskedFrom (k + 1) lines places r → AskedFrom k (first ∷ lines) places r
behind_first first lines k places r f =
    let e : k + 1 + f.0 ≡ k + suc f.0 = omega arith in
    (suc f.0, (f.1.0, f.1.1, subst (λ (n : ℕ). asked_by (slice_index places n) f.1.0 ≡ r ∷ []) e f.1.2))

at_first : (first : AsmLine) (lines : List AsmLine) (k : ℕ) (places : List ℕ) (q r : Relocation) → asked_by (slice_index places k) first ≡ q ∷ [] → Some q ≡ Some r → AskedFrom k (first ∷ lines) places r
at_first first lines k places q r a e =
    let s : k ≡ k + 0 = omega arith in
    (0, (first, refl, subst (λ (n : ℕ). asked_by (slice_index places n) first ≡ r ∷ []) s (a ∙ ap (λ (x : Relocation). x ∷ []) (same q r e))))

of_lines : (lines : List AsmLine) (k : ℕ) (places : List ℕ) (j : ℕ) (r : Relocation) → slice_get (asked_by_lines k lines places) j ≡ Some r → AskedFrom k lines places r
of_lines [] k places j r g = cc
of_lines (Label label ∷ lines) k places j r g = behind_first (Label label) lines k places r (of_lines lines (k + 1) places j r g)
of_lines (Plain insn ∷ lines) k places j r g = behind_first (Plain insn) lines k places r (of_lines lines (k + 1) places j r g)
of_lines (Branch insn to ∷ lines) k places j r g = behind_first (Branch insn to) lines k places r (of_lines lines (k + 1) places j r g)
of_lines (Call name ∷ lines) k places zero r g = at_first (Call name) lines k places _ r refl g
of_lines (Call name ∷ lines) k places (suc j) r g = behind_first (Call name) lines k places r (of_lines lines (k + 1) places j r g)
of_lines (Address rd name offset ∷ lines) k places zero r g = at_first (Address rd name offset) lines k places _ r refl g
of_lines (Address rd name offset ∷ lines) k places (suc j) r g = behind_first (Address rd name offset) lines k places r (of_lines lines (k + 1) places j r g)

-- and what a line asks is asked
has_line : (lines : List AsmLine) (k : ℕ) (places : List ℕ) (m : ℕ) (line : AsmLine) (r : Relocation) → slice_get lines m ≡ Some line → asked_by (slice_index places (k + m)) line ≡ r ∷ []
    → (j : ℕ) × (slice_get (asked_by_lines k lines places) j ≡ Some r)
has_line [] k places m line r g a = cc
has_line (first ∷ lines) k places zero line r g a =
    let e : line ≡ first = cc in
    let s : k + 0 ≡ k = omega arith in
    let a' : asked_by (slice_index places k) first ≡ r ∷ [] = subst (λ (n : ℕ). asked_by (slice_index places n) first ≡ r ∷ []) s (subst (λ (l : AsmLine). asked_by (slice_index places (k + 0)) l ≡ r ∷ []) e a) in
    (0, subst (λ (rs : List Relocation). slice_get (rs ++ asked_by_lines (k + 1) lines places) 0 ≡ Some r) (sym a') refl)
has_line (first ∷ lines) k places (suc m) line r g a =
    let e : k + suc m ≡ k + 1 + m = omega arith in
    let f = has_line lines (k + 1) places m line r g (subst (λ (n : ℕ). asked_by (slice_index places n) line ≡ r ∷ []) e a) in
    behind (asked_by (slice_index places k) first) (asked_by_lines (k + 1) lines places) f.0 r f.1

-- a request of a fix
of_fixes : (fixes : List NamedFix) (code_len t : ℕ) (r : Relocation) → slice_get (asked_by_fixes code_len fixes) t ≡ Some r → (fix : NamedFix) × (slice_get fixes t ≡ Some fix) × (asked_by_fix code_len fix ≡ r)
of_fixes [] code_len t r g = cc
of_fixes (fix ∷ fixes) code_len zero r g = (fix, refl, same (asked_by_fix code_len fix) r g)
of_fixes (fix ∷ fixes) code_len (suc t) r g = of_fixes fixes code_len t r g

has_fix : (fixes : List NamedFix) (code_len k : ℕ) (fix : NamedFix) → slice_get fixes k ≡ Some fix → slice_get (asked_by_fixes code_len fixes) k ≡ Some (asked_by_fix code_len fix)
has_fix [] code_len k fix g = cc
has_fix (f ∷ fixes) code_len zero fix g = let e : f ≡ fix = cc in ap (λ (x : NamedFix). Some (asked_by_fix code_len x)) e
has_fix (f ∷ fixes) code_len (suc k) fix g = has_fix fixes code_len k fix g

-- requests that lie one behind the other, from a place on
abbrev Rising : ℕ → List Relocation → Type 0
Rising from [] = Unit {0}
Rising from (r ∷ rs) = (from ≤ r.at) × Rising (r.at + 8) rs

lower : (rs : List Relocation) (from to : ℕ) → from ≤ to → Rising to rs → Rising from rs
lower [] from to le h = tt
lower (r ∷ rs) from to le h = let f = h.0 in (omega (arith, f, le), h.1)

above : (rs : List Relocation) (from j : ℕ) (r : Relocation) → Rising from rs → slice_get rs j ≡ Some r → from ≤ r.at
above [] from j r h g = cc
above (q ∷ rs) from zero r h g = let e = same q r g in subst (λ (x : Relocation). from ≤ x.at) e h.0
above (q ∷ rs) from (suc j) r h g = let f = h.0 in let a = above rs (q.at + 8) j r h.1 g in omega (arith, f, a)

ordered : (rs : List Relocation) (from i j : ℕ) (q r : Relocation) → Rising from rs → slice_get rs i ≡ Some q → slice_get rs j ≡ Some r → i < j → q.at + 8 ≤ r.at
ordered [] from i j q r h g l lt = cc
ordered (x ∷ rs) from zero zero q r h g l lt = absurd (omega arith)
ordered (x ∷ rs) from zero (suc j) q r h g l lt =
    let e = ap (λ (y : Relocation). y.at) (same x q g) in
    let a = above rs (x.at + 8) j r h.1 l in
    omega (arith, e, a)
ordered (x ∷ rs) from (suc i) zero q r h g l lt = absurd (omega arith)
ordered (x ∷ rs) from (suc i) (suc j) q r h g l lt = ordered rs (x.at + 8) i j q r h.1 g l (omega arith)

-- a line's kind, and the place behind its request
pub record Request (u : AsmUnit) (o : ObjUnit) (places : List ℕ) (r : Relocation) : Type 0 where
  pub of : OfLine u.lines places r
  pub at : r.at ≡ slice_index places of.index
  pub kind : r.kind ≡ Pair
  pub next : slice_index places (of.index + 1) ≡ r.at + 8
  pub below : of.index < length u.lines

pub record OfFix (u : AsmUnit) (o : ObjUnit) (r : Relocation) : Type 0 where
  pub index : ℕ
  pub fix : NamedFix
  pub stands : slice_get u.fixes index ≡ Some fix
  pub is : asked_by_fix (length o.code) fix ≡ r

-- those of lines rise
rising : (all : List AsmLine) (places code : List ℕ) (lines : List AsmLine) (k : ℕ) → EachFrom (λ n line. LineAt all places code (slice_index places n) (slice_index places (n + 1)) line) k lines
    → Rising (slice_index places k) (asked_by_lines k lines places)
rising all places code [] k h = tt
rising all places code (Label label ∷ lines) k h = lower _ _ _ (grown all places code _ _ (Label label) h.0).further (rising all places code lines (k + 1) h.1)
rising all places code (Plain insn ∷ lines) k h = lower _ _ _ (grown all places code _ _ (Plain insn) h.0).further (rising all places code lines (k + 1) h.1)
rising all places code (Branch insn to ∷ lines) k h = lower _ _ _ (grown all places code _ _ (Branch insn to) h.0).further (rising all places code lines (k + 1) h.1)
rising all places code (Call name ∷ lines) k h = (omega arith, subst (λ (n : ℕ). Rising n (asked_by_lines (k + 1) lines places)) h.0.0 (rising all places code lines (k + 1) h.1))
rising all places code (Address rd name offset ∷ lines) k h = (omega arith, subst (λ (n : ℕ). Rising n (asked_by_lines (k + 1) lines places)) h.0.0 (rising all places code lines (k + 1) h.1))

module _ (u : AsmUnit) (o : ObjUnit) (a : IsAssembled u o) where
  abbrev lines_ask : List Relocation
  lines_ask = asked_by_lines 0 u.lines a.places

  abbrev fixes_ask : List Relocation
  fixes_ask = asked_by_fixes (length o.code) u.fixes

  -- the request of a line, with its place
  request : (r : Relocation) (f : OfLine u.lines a.places r) → Request u o a.places r
  request r f = by f.line f.stands f.asks (a.lines f.index f.line f.stands)
    where
      at : (q : Relocation) → q ∷ [] ≡ r ∷ [] → q ≡ r
      at q e = cc

      made : (q : Relocation) → q ≡ r → q.at ≡ slice_index a.places f.index → q.kind ≡ Pair → slice_index a.places (f.index + 1) ≡ slice_index a.places f.index + 8 → Request u o a.places r
      made q e p k n =
          let here : r.at ≡ slice_index a.places f.index = sym (ap (λ (x : Relocation). x.at) e) ∙ p in
          record {
            of = f;
            at = here;
            kind = sym (ap (λ (x : Relocation). x.kind) e) ∙ k;
            next = omega (arith, here, n);
            below = slice_get_within u.lines f.index f.line f.stands;
          }

      by : (line : AsmLine) → slice_get u.lines f.index ≡ Some line → asked_by (slice_index a.places f.index) line ≡ r ∷ []
          → LineAt u.lines a.places o.code (slice_index a.places f.index) (slice_index a.places (f.index + 1)) line → Request u o a.places r
      by (Label label) g s h = cc
      by (Plain insn) g s h = cc
      by (Branch insn to) g s h = cc
      by (Call name) g s h = made _ (at _ s) refl refl h.0
      by (Address rd name offset) g s h = made _ (at _ s) refl refl h.0

  -- each request is a line's or a fix's
  pub origin : (j : ℕ) (r : Relocation) → slice_get o.relocations j ≡ Some r → Request u o a.places r ⊎ OfFix u o r
  origin j r g =
      let g' : slice_get (lines_ask ++ fixes_ask) j ≡ Some r = subst (λ (rs : List Relocation). slice_get rs j ≡ Some r) a.relocations g in
      elim (split lines_ask fixes_ask j r g') [
        | inl h ↦ (let f = of_lines u.lines 0 a.places j r h in
            let e : 0 + f.0 ≡ f.0 = omega arith in
            inl (request r (record { index = f.0; line = f.1.0; stands = f.1.1; asks = subst (λ (n : ℕ). asked_by (slice_index a.places n) f.1.0 ≡ r ∷ []) e f.1.2 })))
        | inr h ↦ (let f = of_fixes u.fixes (length o.code) h.0 r h.2 in inr (record { index = h.0; fix = f.0; stands = f.1; is = f.2 }))
      ]

  -- what a line asks is among the requests
  pub asked : (k : ℕ) (line : AsmLine) (r : Relocation) → slice_get u.lines k ≡ Some line → asked_by (slice_index a.places k) line ≡ r ∷ [] → (j : ℕ) × (slice_get o.relocations j ≡ Some r)
  asked k line r g s =
      let e : k ≡ 0 + k = omega arith in
      let f = has_line u.lines 0 a.places k line r g (subst (λ (n : ℕ). asked_by (slice_index a.places n) line ≡ r ∷ []) e s) in
      (f.0, subst (λ (rs : List Relocation). slice_get rs f.0 ≡ Some r) (sym a.relocations) (left lines_ask fixes_ask f.0 r f.1))

  -- and so is what a fix asks
  pub asked_fix : (k : ℕ) (fix : NamedFix) → slice_get u.fixes k ≡ Some fix → (j : ℕ) × (slice_get o.relocations j ≡ Some (asked_by_fix (length o.code) fix))
  asked_fix k fix g =
      let f = behind lines_ask fixes_ask k _ (has_fix u.fixes (length o.code) k fix g) in
      (f.0, subst (λ (rs : List Relocation). slice_get rs f.0 ≡ Some (asked_by_fix (length o.code) fix)) (sym a.relocations) f.1)

  -- the request of a line ends in the code
  pub request_within : (r : Relocation) → Request u o a.places r → r.at + 8 ≤ length o.code
  request_within r q =
      let w = within u o a (q.of.index + 1) (let b = q.below in omega (arith, b)) in
      let n = q.next in
      omega (arith, w, n)

  -- and that of a fix stands behind the code
  pub fix_behind : (r : Relocation) → OfFix u o r → length o.code ≤ r.at
  fix_behind r f = let e = ap (λ (x : Relocation). x.at) f.is in omega (arith, e)

  -- which of the fixes asks
  abbrev InFixes : ℕ → Relocation → Type 0
  InFixes n x = (t : ℕ) × (n ≡ length lines_ask + t) × (slice_get fixes_ask t ≡ Some x)

  -- requests are apart
  before : (i j : ℕ) (q r : Relocation) → slice_get (lines_ask ++ fixes_ask) i ≡ Some q → slice_get (lines_ask ++ fixes_ask) j ≡ Some r → i < j → IsProperUnit u
      → (q.at + 8 ≤ r.at) ⊎ (r.at + 8 ≤ q.at)
  before i j q r g l lt p = by (split lines_ask fixes_ask i q g) (split lines_ask fixes_ask j r l)
    where
      in_code : (n : ℕ) (x : Relocation) → slice_get lines_ask n ≡ Some x → x.at + 8 ≤ length o.code
      in_code n x h =
          let f = of_lines u.lines 0 a.places n x h in
          let e : 0 + f.0 ≡ f.0 = omega arith in
          request_within x (request x (record { index = f.0; line = f.1.0; stands = f.1.1; asks = subst (λ (m : ℕ). asked_by (slice_index a.places m) f.1.0 ≡ x ∷ []) e f.1.2 }))

      in_image : (n : ℕ) (x : Relocation) → InFixes n x → OfFix u o x
      in_image n x h = let f = of_fixes u.fixes (length o.code) h.0 x h.2 in record { index = h.0; fix = f.0; stands = f.1; is = f.2 }

      moved : (c x y : ℕ) → (x + 8 ≤ y) ⊎ (y + 8 ≤ x) → (c + x + 8 ≤ c + y) ⊎ (c + y + 8 ≤ c + x)
      moved c x y (inl h) = inl (omega arith)
      moved c x y (inr h) = inr (omega arith)

      by : (slice_get lines_ask i ≡ Some q) ⊎ InFixes i q → (slice_get lines_ask j ≡ Some r) ⊎ InFixes j r → (q.at + 8 ≤ r.at) ⊎ (r.at + 8 ≤ q.at)
      by (inl x) (inl y) = inl (ordered lines_ask (slice_index a.places 0) i j q r (rising u.lines a.places o.code u.lines 0 (lines_stand u o a)) x y lt)
      by (inl x) (inr y) = let c = in_code i q x in let b = fix_behind r (in_image j r y) in inl (omega (arith, c, b))
      by (inr x) (inl y) = let c = in_code j r y in let b = fix_behind q (in_image i q x) in inr (omega (arith, c, b))
      by (inr x) (inr y) =
          let f = in_image i q x in
          let h = in_image j r y in
          let ex = x.1 in
          let ey = y.1 in
          let d = p.apart f.index h.index f.fix h.fix f.stands h.stands (λ (e : x.0 ≡ y.0). omega (arith, e, ex, ey, lt)) in
          subst (λ (n : ℕ). (n + 8 ≤ r.at) ⊎ (r.at + 8 ≤ n)) (ap (λ (m : Relocation). m.at) f.is)
          (subst (λ (n : ℕ). (length o.code + f.fix.at + 8 ≤ n) ⊎ (n + 8 ≤ length o.code + f.fix.at)) (ap (λ (m : Relocation). m.at) h.is) (moved (length o.code) f.fix.at h.fix.at d))

  pub apart : (i j : ℕ) (q r : Relocation) → IsProperUnit u → slice_get o.relocations i ≡ Some q → slice_get o.relocations j ≡ Some r → i ≢ j → (q.at + 8 ≤ r.at) ⊎ (r.at + 8 ≤ q.at)
  apart i j q r p g l other = by (either i j other)
    where
      either : (x y : ℕ) → x ≢ y → (x < y) ⊎ (y < x)
      either x y n = grind arith

      g' : slice_get (lines_ask ++ fixes_ask) i ≡ Some q
      g' = subst (λ (rs : List Relocation). slice_get rs i ≡ Some q) a.relocations g

      l' : slice_get (lines_ask ++ fixes_ask) j ≡ Some r
      l' = subst (λ (rs : List Relocation). slice_get rs j ≡ Some r) a.relocations l

      turned : {x y : ℕ} → (x + 8 ≤ y) ⊎ (y + 8 ≤ x) → (y + 8 ≤ x) ⊎ (x + 8 ≤ y)
      turned (inl h) = inr h
      turned (inr h) = inl h

      by : (i < j) ⊎ (j < i) → (q.at + 8 ≤ r.at) ⊎ (r.at + 8 ≤ q.at)
      by (inl lt) = before i j q r g' l' lt p
      by (inr lt) = turned (before j i r q l' g' lt p)
