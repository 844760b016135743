-- What laws say of an operation's answer.
use Rattle.std.specs.Prelude.{◌≡◌, ℕ, ℤ, true, Option, Some}
use Rattle.f_value.specs.declared.value.Did.{Did}
use Rattle.f_value.specs.declared.value.Did.TheVariants.{Done}
use Rattle.f_value.specs.declared.value.FOp.{FOp}
use Rattle.f_value.specs.declared.value.FValue.{FValue}
use Rattle.f_value.specs.declared.value.FValue.TheVariants.{Int}
use Rattle.f_value.specs.Operators.{binary_of}
use Rattle.f_value.specs.Values.{has, truth}

-- the answer is an INTEGER of the kind, and its value has the property
pub record Gives (answer : Option (Did FValue)) (kind : ℕ) (P : ℤ → Type 0) : Type 0 where
  pub value : ℤ
  pub given : answer ≡ Some (Done (Int value kind))
  pub of_kind : has kind value ≡ true
  pub meets : P value

-- a comparison is true
abbrev pub Holds : FOp → FValue → FValue → Type 0
Holds comparison a b = binary_of comparison a b ≡ Some (truth true)
