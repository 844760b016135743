use Rattle.std.proofs.Common.{◌≡◌, ◌≤◌, sym, ◌∙◌, ap, arith, map, length, take}
use Rattle.c_directives.specs.Conditions.{operand_of}
use Rattle.c_directives.proofs.Steps.{mapped_twice}
use Rattle.c_directives.proofs.condition.operands.Goals as goal

pub returns : goal.returns
returns c = c.loop-spanned.invariant ∙ mapped_twice c.loop-spanned.spanned-index c.args.tokens.now c.loop-spanned-test.false
