-- What is answered behind the loops around a statement.
use Rattle.std.specs.Prelude.{Bool, List, [], ◌∷◌}
use Rattle.flat_ir.specs.declared.checks.Exits.{Exits}
use Rattle.flat_ir.specs.declared.checks.Exits.TheVariants.{Outside, Behind'}

abbrev pub answers_of : Exits → List Bool
answers_of Outside = []
answers_of (Behind' b p outer) = b ∷ answers_of outer
