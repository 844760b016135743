use Rattle.rv_assemble.proofs.Pushed.{WideTo}
use Rattle.rv_assemble.proofs.places.wide_places.Given as goal

abbrev pub invariant-loop-line : goal.invariant-loop-line
invariant-loop-line l = WideTo l.lines l.wide.items l.line-index l.end
