-- The units of the tests.
use Rattle.std.specs.Prelude.{ℕ, ◌≡◌, ◌⊎◌, List, [], ◌∷◌, length}
use Rattle.rv_assemble.specs.declared.object.ObjUnit.{ObjUnit}
use Rattle.rv_assemble.specs.declared.object.Relocation.{Relocation}
use Rattle.rv_assemble.specs.declared.object.RelocationKind.TheVariants.{Pair, Word}

-- a pair at the start of 8 bytes of code, and a word behind it
abbrev pub asked_of : List ℕ → List Relocation
asked_of callee = record { at = 0; name = callee; offset = 0; kind = Pair } ∷ record { at = 8; name = callee; offset = 0; kind = Word } ∷ []

-- it asks for nothing, or for a name in its code and in its image
pub record IsTrial (u : ObjUnit) : Type 0 where
  pub name : List ℕ
  pub names : u.names ≡ (name, 0) ∷ []
  pub asks : (u.relocations ≡ []) ⊎ ((callee : List ℕ) × (u.relocations ≡ asked_of callee) × (length u.code ≡ 8) × (length u.image ≡ 8))
