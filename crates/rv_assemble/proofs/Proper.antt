-- A unit's lines grow by one.
use Rattle.std.proofs.Common.{◌≡◌, ℕ, zero, suc, ◌⊎◌, inl, inr, List, [], ◌∷◌, ◌++◌, subst}
use Rattle.std.specs.Prelude.{slice_get, Some}
use Rattle.rv_assemble.specs.declared.unit.AsmLine.{AsmLine}
use Rattle.rv_assemble.specs.declared.unit.AsmLine.TheVariants.{Label, Plain, Branch, Call, Address}
use Rattle.rv_assemble.specs.Lines.{IsProperLine, AreProperLines}

pub get-old : (xs : List AsmLine) (y : AsmLine) (k : ℕ) (x : AsmLine) → slice_get xs k ≡ Some x → slice_get (xs ++ y ∷ []) k ≡ Some x
get-old [] y k x g = cc
get-old (z ∷ xs) y zero x g = g
get-old (z ∷ xs) y (suc k) x g = get-old xs y k x g

pub get-split : (xs : List AsmLine) (y : AsmLine) (k : ℕ) (x : AsmLine) → slice_get (xs ++ y ∷ []) k ≡ Some x → (slice_get xs k ≡ Some x) ⊎ (y ≡ x)
get-split [] y zero x g = let e : y ≡ x = cc in inr e
get-split [] y (suc k) x g = cc
get-split (z ∷ xs) y zero x g = inl g
get-split (z ∷ xs) y (suc k) x g = get-split xs y k x g

line-more : (xs : List AsmLine) (y line : AsmLine) → IsProperLine xs line → IsProperLine (xs ++ y ∷ []) line
line-more xs y (Label label) h = tt
line-more xs y (Plain i) h = h
line-more xs y (Branch insn to) h = (h.0, (h.1.0, get-old xs y h.1.0 (Label to) h.1.1))
line-more xs y (Call name) h = tt
line-more xs y (Address rd name offset) h = h

-- proper lines stay proper behind a proper line
pub proper-more : (xs : List AsmLine) (y : AsmLine) → AreProperLines xs → IsProperLine xs y → AreProperLines (xs ++ y ∷ [])
proper-more xs y h p k line g = elim (get-split xs y k line g) [
  | inl old ↦ line-more xs y line (h k line old)
  | inr e ↦ subst (λ (i : AsmLine). IsProperLine (xs ++ y ∷ []) i) e (line-more xs y y p)
]

pub proper-none : AreProperLines []
proper-none k line g = cc
