use Rattle.std.proofs.Common.{rules, ap, arith, length, ◌-◌}
use Rattle.f_statement_cut.proofs.FirstPiece.{both, pieces_at, behind_less, no_behind, no_end, some_behind, some_end}
use Rattle.f_statement_cut.proofs.cut.statement_at.Goals as goal

pub overflow_sub-tokens : goal.overflow_sub-tokens
overflow_sub-tokens c = let e = ap length c.from_end-rest.ensures in omega (arith, e, both c.args.tokens.now)

pub returns-in-None-clause-pieces : goal.returns-in-None-clause-pieces
returns-in-None-clause-pieces c =
    pieces_at c.args.tokens.now c.split_at.result.0.now c.from_end-rest.result.now c.from_end-rest.result.now _ _ c.requires c.from_end-rest.ensures (search rules) c.split_at.ensures.front (no_end c.from_end-rest.result.now c.in-None.ensures.cases) (no_behind c.from_end-rest.result.now c.in-None.ensures.cases)

pub returns-in-Some-clause-pieces : goal.returns-in-Some-clause-pieces
returns-in-Some-clause-pieces c =
    pieces_at c.args.tokens.now c.split_at.result.0.now c.in-Some.behind.now c.from_end-rest.result.now _ _ c.requires c.from_end-rest.ensures (search rules) c.split_at.ensures.front (some_end c.in-Some.end.now c.in-Some.behind.now c.from_end-rest.result.now c.in-Some.ensures.cases.0) (some_behind c.in-Some.end.now c.in-Some.behind.now c.from_end-rest.result.now c.in-Some.ensures.cases.0)

pub returns-in-Some-clause-less : goal.returns-in-Some-clause-less
returns-in-Some-clause-less c =
    behind_less c.args.tokens.now c.from_end-rest.result.now c.in-Some.behind.now c.requires c.from_end-rest.ensures (some_behind c.in-Some.end.now c.in-Some.behind.now c.from_end-rest.result.now c.in-Some.ensures.cases.0)
