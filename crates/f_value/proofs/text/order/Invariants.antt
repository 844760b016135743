use Rattle.std.proofs.Common.{◌≡◌, drop}
use Rattle.f_value.specs.Texts.{padded_order}
use Rattle.f_value.proofs.text.order.Given as goal

abbrev pub invariant-loop-i : goal.invariant-loop-i
invariant-loop-i l = padded_order (drop l.i l.s) (drop l.i l.t) ≡ padded_order l.s l.t
