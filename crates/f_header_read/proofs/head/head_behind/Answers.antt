use Rattle.std.proofs.Common.{length, map, ap, sym, subst, Option}
use Rattle.std.proofs.lemmas.Result.{err_from_is_err_and}
use Rattle.f_declaration_grammar.specs.Declarations.{Declared}
use Rattle.f_expr_read.specs.Gives.{Gives}
use Rattle.f_expr_read.specs.Views.{tokens_of}
use Rattle.f_declared.specs.Views.{view_prefix, view_declared, is_function}
use Rattle.f_header_read.proofs.Prefixes.{same_length, head_found, head_fails}
use Rattle.f_header_read.proofs.head.head_behind.Goals as goal

pub returns-in_err-prefixes : goal.returns-in_err-prefixes
returns-in_err-prefixes c =
    let p = err_from_is_err_and c.from_residual-in_err-prefixes.result c.from_residual-in_err-prefixes.ensures.1 in
    rw (p.1, p.2) (head_fails 65 (length c.args.tokens.now) (view_prefix c.args.first) (map view_prefix c.in_ok-items.items) (tokens_of c.args.tokens.now) (same_length _ c.args.tokens.now) (ap (map view_prefix) c.in_ok-items.ensures) c.in_err-prefixes.field-0.0 c.in_err-prefixes.ensures)

pub returns : goal.returns
returns c =
    subst (λ (o : Option Declared). Gives view_declared c.head_of.result o)
    (sym (head_found 65 (length c.args.tokens.now) (view_prefix c.args.first) (map view_prefix c.in_ok-items.items) (tokens_of c.args.tokens.now) (same_length _ c.args.tokens.now) (ap (map view_prefix) c.in_ok-items.ensures)
    ((map view_prefix c.in_ok-prefixes.prefixes, is_function c.in_ok-prefixes.kind), tokens_of c.in_ok-prefixes.rest.now) c.in_ok-prefixes.ensures)) c.head_of.ensures
