use Rattle.c_define.specs.Numbers.{Wider, AreNumbers}
use Rattle.c_define.proofs.numbers.numbered_all.Given as goal

abbrev pub invariant-loop-token : goal.invariant-loop-token
invariant-loop-token l =
    (goal.iterator-loop-token).can_next l.token-iterator ×
    (goal.iterator-loop-token).is_finite l.token-iterator × Wider l.fn.names l.fn.others.items l.names l.others.items × AreNumbers l.names l.others.items l.yielded l.numbers.items
