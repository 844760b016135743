-- The lines of a unit stand one behind the other.
use Rattle.std.proofs.Common.{◌≡◌, ℕ, zero, suc, ◌+◌, ◌%◌, ◌<◌, ◌≤◌, ◌⊎◌, inl, inr, List, [], ◌∷◌, length, refl, sym, ap, ◌∙◌, subst, arith}
use Rattle.std.specs.Prelude.{slice_get, slice_index, Some}
use Rattle.std.proofs.lemmas.Option.{slice_get-get_or}
use Rattle.std.proofs.Math.ListN.{get_or}
use Rattle.rv_isa.specs.declared.insn.Insn.{Insn}
use Rattle.rv_isa.specs.declared.insn.Insn.TheVariants.{Jal}
use Rattle.rv_assemble.specs.declared.unit.AsmLine.{AsmLine}
use Rattle.rv_assemble.specs.declared.unit.AsmLine.TheVariants.{Label, Plain, Branch, Call, Address}
use Rattle.rv_assemble.specs.declared.unit.AsmUnit.{AsmUnit}
use Rattle.rv_assemble.specs.declared.object.ObjUnit.{ObjUnit}
use Rattle.rv_assemble.specs.Lines.{Jumps, Branches, Reaches, LineAt, IsAssembled}

-- the next line stands further on, by a multiple of 4
pub record Grown (p next : ℕ) : Type 0 where
  pub further : p ≤ next
  pub whole : p % 4 ≡ 0 → next % 4 ≡ 0

by_so_many : (p next n : ℕ) → n % 4 ≡ 0 → next ≡ p + n → Grown p next
by_so_many p next n w e = record { further = omega arith; whole = λ h. omega (arith, h) }

grown_jump : (code : List ℕ) (rd p next target : ℕ) → Jumps code rd p next target → Grown p next
grown_jump code rd p next target (inl h) = by_so_many p next 4 refl h.0
grown_jump code rd p next target (inr h) = by_so_many p next 8 refl h.0

grown_branch : (code : List ℕ) (i : Insn) (p next target : ℕ) → Branches code i p next target → Grown p next
grown_branch code i p next target (inl h) = by_so_many p next 4 refl h.0
grown_branch code i p next target (inr h) =
    let g = grown_jump code 0 (p + 4) next target h.1 in
    let f = g.further in
    record { further = omega (arith, f); whole = λ w. g.whole (omega (arith, w)) }

grown_insn : (code : List ℕ) (i : Insn) (p next target : ℕ) → Reaches code i p next target → Grown p next
grown_insn code (Jal rd imm) p next target h = grown_jump code rd p next target h
grown_insn code i p next target h = grown_branch code i p next target h

pub grown : (lines : List AsmLine) (places code : List ℕ) (p next : ℕ) (line : AsmLine) → LineAt lines places code p next line → Grown p next
grown lines places code p next (Label label) h = by_so_many p next 0 refl (omega arith)
grown lines places code p next (Plain i) h = by_so_many p next 4 refl h.0
grown lines places code p next (Branch insn to) h = grown_insn code insn p next (slice_index places h.0) h.2
grown lines places code p next (Call name) h = by_so_many p next 8 refl h.0
grown lines places code p next (Address rd name offset) h = by_so_many p next 8 refl h.0

module _ (u : AsmUnit) (o : ObjUnit) (a : IsAssembled u o) where
  -- the place of a line
  abbrev pub place : ℕ → ℕ
  place k = slice_index a.places k

  pub grown_at : (k : ℕ) → k < length u.lines → Grown (place k) (place (k + 1))
  grown_at k lt =
      let line = get_or u.lines k (Label 0) in
      grown u.lines a.places o.code (place k) (place (k + 1)) line (a.lines k line (slice_get-get_or u.lines k (Label 0) lt))

  next_is : (k : ℕ) → place (k + 1) ≡ place (suc k)
  next_is k = let e : k + 1 ≡ suc k = omega arith in ap (λ n. slice_index a.places n) e

  -- a later line stands further on
  pub further : (j k : ℕ) → j ≤ k → k ≤ length u.lines → place j ≤ place k
  further j zero le fits = let e : j ≡ 0 = omega arith in let s = ap (λ n. slice_index a.places n) e in omega (arith, s)
  further j (suc k) le fits = by (split j k le) (λ h. further j k h (omega arith))
    where
      split : (x y : ℕ) → x ≤ suc y → (x ≤ y) ⊎ (x ≡ suc y)
      split x y h = grind arith

      by : (j ≤ k) ⊎ (j ≡ suc k) → (j ≤ k → place j ≤ place k) → place j ≤ place (suc k)
      by (inl h) before =
          let r = before h in
          let g = (grown_at k (omega arith)).further in
          let e = next_is k in
          omega (arith, r, g, e)
      by (inr h) before = let s = ap (λ n. slice_index a.places n) h in omega (arith, s)

  -- each place is a multiple of 4
  pub whole : (k : ℕ) → k ≤ length u.lines → place k % 4 ≡ 0
  whole zero fits = ap (λ n. n % 4) a.begins
  whole (suc k) fits = ap (λ n. n % 4) (sym (next_is k)) ∙ (grown_at k (omega arith)).whole (whole k (omega arith))

  -- the code has all of them
  pub within : (k : ℕ) → k ≤ length u.lines → place k ≤ length o.code
  within k fits = let f = further k (length u.lines) fits (omega arith) in let e = a.ends in omega (arith, f, e)

  pub whole_code : length o.code % 4 ≡ 0
  whole_code = ap (λ n. n % 4) (sym a.ends) ∙ whole (length u.lines) (omega arith)

-- something of each line, from the k-th on
abbrev pub EachFrom : (P : ℕ → AsmLine → Type 0) → ℕ → List AsmLine → Type 0
EachFrom P k [] = Unit {0}
EachFrom P k (line ∷ lines) = P k line × EachFrom P (k + 1) lines

pub each_from : (P : ℕ → AsmLine → Type 0) (k : ℕ) (lines : List AsmLine) → ((m : ℕ) (line : AsmLine) → slice_get lines m ≡ Some line → P (k + m) line) → EachFrom P k lines
each_from P k [] h = tt
each_from P k (line ∷ lines) h = (
  (let e : k + 0 ≡ k = omega arith in subst (λ (n : ℕ). P n line) e (h 0 line refl)),
  each_from P (k + 1) lines (λ m l g. (let e : k + suc m ≡ k + 1 + m = omega arith in subst (λ (n : ℕ). P n l) e (h (suc m) l g))),
)

-- the lines stand so from the first on
pub lines_stand : (u : AsmUnit) (o : ObjUnit) (a : IsAssembled u o) → EachFrom (λ k line. LineAt u.lines a.places o.code (slice_index a.places k) (slice_index a.places (k + 1)) line) 0 u.lines
lines_stand u o a = each_from (λ k line. LineAt u.lines a.places o.code (slice_index a.places k) (slice_index a.places (k + 1)) line) 0 u.lines (λ m line g.
    (let e : m ≡ 0 + m = omega arith in subst (λ (n : ℕ). LineAt u.lines a.places o.code (slice_index a.places n) (slice_index a.places (n + 1)) line) e (a.lines m line g)))
