use Rattle.std.specs.Prelude.{nat_eq}
use Rattle.std.specs.HashMap.{get}
use Rattle.rv_assemble.specs.Places.{AreLabelLines}
use Rattle.rv_assemble.proofs.labels.label_lines.Given as goal

abbrev pub invariant-loop-k : goal.invariant-loop-k
invariant-loop-k l = AreLabelLines l.lines l.k (λ q. get nat_eq l.found q)
