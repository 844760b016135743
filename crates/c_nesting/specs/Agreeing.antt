-- When two readings agree but for a limit on nesting.
use Rattle.std.specs.Prelude.{◌≡◌, ℕ, Result, Err, ◌⊎◌}
use Rattle.c_grammar.specs.declared.fault.Kind.TheVariants.{Deep}
use Rattle.c_grammar.specs.declared.fault.Fault.{Fault}

-- the reading with more nestings is the same, or a nesting too many stopped the other
abbrev pub Agrees : {A : Type 0} → Result A Fault → Result A Fault → Type 0
Agrees less more = (more ≡ less) ⊎ ((left : ℕ) × (less ≡ Err (record { kind = Deep; left = left })))
