use Rattle.std.proofs.Common.{rules, ◌≡◌, ◌∙◌, sym, ap, arith, length, ◌-◌, [], List}
use Rattle.c_lines.specs.Rows.{row_rest, behind_first}
use Rattle.c_lines.proofs.Lines.{row_and_rest, rows_at, behind_less, no_behind, some_behind}
use Rattle.c_lines.proofs.row.row_at.Goals as goal

pub overflow_sub-lexemes : goal.overflow_sub-lexemes
overflow_sub-lexemes c = let e = ap length c.row_rest-rest.ensures in omega (arith, e, row_and_rest c.args.lexemes.now)

pub returns-in-None-clause-rows : goal.returns-in-None-clause-rows
returns-in-None-clause-rows c =
    rows_at c.args.lexemes.now c.split_at.result.0.now c.row_rest-rest.result.now c.row_rest-rest.result.now _ c.requires c.row_rest-rest.ensures (search (rules, c.split_at.ensures)) c.split_at.ensures.front (no_behind c.row_rest-rest.result.now c.in-None.ensures.cases)

pub returns-in-Some-clause-rows : goal.returns-in-Some-clause-rows
returns-in-Some-clause-rows c =
    rows_at c.args.lexemes.now c.split_at.result.0.now c.in-Some.behind.now c.row_rest-rest.result.now _ c.requires c.row_rest-rest.ensures (search (rules, c.split_at.ensures)) c.split_at.ensures.front (some_behind c.in-Some.field-0-0.now c.in-Some.behind.now c.row_rest-rest.result.now c.in-Some.ensures.cases.0)

pub returns-in-Some-clause-less : goal.returns-in-Some-clause-less
returns-in-Some-clause-less c =
    behind_less c.args.lexemes.now c.row_rest-rest.result.now c.in-Some.behind.now c.requires c.row_rest-rest.ensures (some_behind c.in-Some.field-0-0.now c.in-Some.behind.now c.row_rest-rest.result.now c.in-Some.ensures.cases.0)
