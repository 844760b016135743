use Rattle.std.proofs.Common.{◌≡◌, map, take}
use Rattle.c_directives.specs.Conditions.{operand_of}
use Rattle.c_directives.proofs.condition.operands.Given as goal

abbrev pub invariant-loop-spanned : goal.invariant-loop-spanned
invariant-loop-spanned l = l.operands.items ≡ map (λ s. operand_of s.token) (take l.spanned-index l.tokens)
