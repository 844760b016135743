-- Expressions each of whose numbers names a thing that is there (ISO/IEC 9899:2011, 6.5).
use Rattle.std.specs.Prelude.{ℕ, Bool, true, ◌&&◌, List, map, nat_lt}
use Rattle.c_types.specs.Sizes.{Bodies}
use Rattle.c_resolved.specs.declared.expression.Denoted.{Denoted}
use Rattle.c_resolved.specs.declared.expression.Denoted.TheVariants as d
use Rattle.c_resolved.specs.declared.expression.Expr.{Expr}
use Rattle.c_resolved.specs.declared.expression.Form.TheOpen as open_
use Rattle.c_resolved.specs.declared.expression.Form.TheOpen.{Expr-F, Form-F, Postfix-F, PostfixOperator-F, Link-F, Choice-F, Target-F}
use Rattle.c_resolved.specs.declared.expression.Form.TheFolds.{fold-Expr, fold-Postfix, fold-PostfixOperator, fold-Link, fold-Choice, fold-Target}
use Rattle.c_resolved.specs.declared.expression.Form.{Form, fold-Form}
use Rattle.c_resolved.specs.declared.expression.Postfix.{Postfix}
use Rattle.c_resolved.specs.declared.expression.PostfixOperator.{PostfixOperator}
use Rattle.c_resolved.specs.declared.expression.Link.{Link}
use Rattle.c_resolved.specs.declared.expression.Choice.{Choice}
use Rattle.c_resolved.specs.declared.expression.Target.{Target}
use Rattle.c_resolved.specs.declared.check_type.Counts.{Counts}
use Rattle.c_resolved.specs.Lists.{all_of}
use Rattle.c_resolved.specs.Kinds.{member_fits, token_fits, type_fits}

-- 6.5.1: an identifier denotes an object, a function or an enumeration constant
abbrev pub denoted_fits : Counts → Denoted → Bool
denoted_fits n (d.Local x) = nat_lt x n.locals
denoted_fits n (d.Global x) = nat_lt x n.objects
denoted_fits n (d.Function f) = nat_lt f n.functions
denoted_fits n (d.Enumerator v) = true

abbrev pub expr_step : Counts → Expr-F Bool Bool Bool Bool Bool Bool Bool → Bool
expr_step n e = e.form && (type_fits n e.kind && token_fits n e.at)

abbrev pub form_step : Counts → Form-F Bool Bool Bool Bool Bool Bool Bool → Bool
form_step n (open_.Name x) = denoted_fits n x
form_step n (open_.Constant v) = true
form_step n (open_.Character v) = true
form_step n (open_.String s) = nat_lt s n.strings
form_step n (open_.Parenthesized e) = e
form_step n (open_.Postfix operand suffixes) = operand && all_of suffixes
form_step n (open_.Prefix operator operand) = operand
form_step n (open_.SizeofExpr e) = e
form_step n (open_.SizeofType kind) = type_fits n kind
form_step n (open_.Cast e) = e
form_step n (open_.Chain first links) = first && all_of links
form_step n (open_.Conditional choices otherwise) = all_of choices && otherwise
form_step n (open_.Assignment targets value) = all_of targets && value
form_step n (open_.Comma first others) = first && all_of others

abbrev pub postfix_step : Counts → Postfix-F Bool Bool Bool Bool Bool Bool Bool → Bool
postfix_step n p = p.operator && (type_fits n p.kind && token_fits n p.at)

-- 6.5.2.3: a member is one of its struct
abbrev pub operator_step : Bodies → PostfixOperator-F Bool Bool Bool Bool Bool Bool Bool → Bool
operator_step types (open_.Index e) = e
operator_step types (open_.Call arguments) = all_of arguments
operator_step types (open_.Member s m) = member_fits types s m
operator_step types (open_.Arrow s m) = member_fits types s m
operator_step types (open_.Descriptor m) = true
operator_step types (open_.Dimension e m) = e
operator_step types open_.Increment = true
operator_step types open_.Decrement = true

abbrev pub link_step : Counts → Link-F Bool Bool Bool Bool Bool Bool Bool → Bool
link_step n l = l.right && (type_fits n l.kind && token_fits n l.at)

abbrev pub choice_step : Counts → Choice-F Bool Bool Bool Bool Bool Bool Bool → Bool
choice_step n x = x.test && (x.value && (type_fits n x.kind && token_fits n x.at))

abbrev pub target_step : Counts → Target-F Bool Bool Bool Bool Bool Bool Bool → Bool
target_step n x = x.place && token_fits n x.at

abbrev pub expr_fits : Counts → Bodies → Expr → Bool
expr_fits n types = fold-Expr Bool Bool Bool Bool Bool Bool Bool (form_step n) (operator_step types) (choice_step n) (expr_step n) (link_step n) (postfix_step n) (target_step n)

abbrev pub form_fits : Counts → Bodies → Form → Bool
form_fits n types = fold-Form Bool Bool Bool Bool Bool Bool Bool (form_step n) (operator_step types) (choice_step n) (expr_step n) (link_step n) (postfix_step n) (target_step n)

abbrev pub postfix_fits : Counts → Bodies → Postfix → Bool
postfix_fits n types = fold-Postfix Bool Bool Bool Bool Bool Bool Bool (form_step n) (operator_step types) (choice_step n) (expr_step n) (link_step n) (postfix_step n) (target_step n)

abbrev pub operator_fits : Counts → Bodies → PostfixOperator → Bool
operator_fits n types = fold-PostfixOperator Bool Bool Bool Bool Bool Bool Bool (form_step n) (operator_step types) (choice_step n) (expr_step n) (link_step n) (postfix_step n) (target_step n)

abbrev pub link_fits : Counts → Bodies → Link → Bool
link_fits n types = fold-Link Bool Bool Bool Bool Bool Bool Bool (form_step n) (operator_step types) (choice_step n) (expr_step n) (link_step n) (postfix_step n) (target_step n)

abbrev pub choice_fits : Counts → Bodies → Choice → Bool
choice_fits n types = fold-Choice Bool Bool Bool Bool Bool Bool Bool (form_step n) (operator_step types) (choice_step n) (expr_step n) (link_step n) (postfix_step n) (target_step n)

abbrev pub target_fits : Counts → Bodies → Target → Bool
target_fits n types = fold-Target Bool Bool Bool Bool Bool Bool Bool (form_step n) (operator_step types) (choice_step n) (expr_step n) (link_step n) (postfix_step n) (target_step n)

abbrev pub exprs_fit : Counts → Bodies → List Expr → Bool
exprs_fit n types es = all_of (map (expr_fits n types) es)
