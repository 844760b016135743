use Rattle.std.proofs.Common.{rules, ◌≤◌, length, ap, sym, ◌∙◌, arith}
use Rattle.c_words.proofs.Joining.{before_and_behind, others_taken}
use Rattle.c_words.proofs.words.piece_at.Goals as goal

pub overflow_sub-behind : goal.overflow_sub-behind
overflow_sub-behind c = let e = ap length c.behind_literals-rest.ensures in omega (arith, e, before_and_behind c.args.behind.now)

pub returns-then-is_literal-clause-others : goal.returns-then-is_literal-clause-others
returns-then-is_literal-clause-others c =
    others_taken c.args.first.now c.args.behind.now c.behind_literals-rest.result.now c.split_at.result.0.now _ (sym c.is_literal.ensures ∙ c.if-is_literal.true) c.behind_literals-rest.ensures (search (rules, c.split_at.ensures)) c.split_at.ensures.front
