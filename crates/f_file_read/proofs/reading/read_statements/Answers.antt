use Rattle.std.proofs.Common.{◌≡◌, List, map, sym, ap, subst, ◌∙◌}
use Rattle.std.specs.declared.alloc.Global.{Global}
use Rattle.std.specs.declared.vec.Vec.{Vec}
use Rattle.std.proofs.lemmas.Result.{err_from_is_err_and}
use Rattle.f_statement_grammar.specs.Statements.{Statement as Spelled}
use Rattle.f_statement_cut.specs.Pieces.{pieces}
use Rattle.f_statement_read.specs.declared.statement.Statement.{Statement}
use Rattle.f_statement_read.specs.Views.{view_statement}
use Rattle.f_file_read.specs.Reading.{read_pieces, at_end, read_file}
use Rattle.f_file_read.specs.Views.{view_open, view_read, Answers}
use Rattle.f_file_read.proofs.Turns.{goes_on, stops_by, ends, is_empty}
use Rattle.f_file_read.proofs.reading.read_statements.Goals as goal

pub returns-in_err-next : goal.returns-in_err-next
returns-in_err-next c =
    let p = err_from_is_err_and c.from_residual-in_err-next.result c.from_residual-in_err-next.ensures.1 in
    rw (p.1, p.2) (stops_by c.args.tokens.now c.statements.rest.now (view_open c.statements.stack.items) (map view_statement c.statements.statements.items) c.statements.invariant view_read (λ (v : Vec Statement Global). map view_statement v.items) c.in-Some.first.now c.in-Some.field-0-1.now
    (c.statement_at-end.result.0.now, c.statement_at-end.result.1) c.statement_at-end.result.2.now c.in_err-next.field-0.0 c.in-Some.ensures.cases.0 c.statement_at-end.ensures.pieces c.in_err-next.ensures)

pub statements-preserved : goal.statements-preserved
statements-preserved c =
    ap (λ (xs : List Spelled). read_pieces (view_open c.in_ok-next.next.items, xs) (pieces c.statement_at-end.result.2.now)) c.in_ok-statements.ensures
    ∙ goes_on c.args.tokens.now c.statements.rest.now (view_open c.statements.stack.items) (map view_statement c.statements.statements.items) c.statements.invariant c.in-Some.first.now c.in-Some.field-0-1.now
    (c.statement_at-end.result.0.now, c.statement_at-end.result.1) c.statement_at-end.result.2.now (view_open c.in_ok-next.next.items) (view_statement c.in_ok-next.read) c.in-Some.ensures.cases.0 c.statement_at-end.ensures.pieces c.in_ok-next.ensures

pub returns : goal.returns
returns c =
    subst (λ r. Answers (λ (v : Vec Statement Global). map view_statement v.items) c.at_end.result r)
    (ap (λ s. at_end (view_open s, map view_statement c.statements.statements.items)) c.deref.ensures.value
    ∙ sym (ends c.args.tokens.now c.statements.rest.now (view_open c.statements.stack.items) (map view_statement c.statements.statements.items) c.statements.invariant (is_empty c.statements.rest.now c.in_default.ensures.cases))) c.at_end.ensures
