use Rattle.std.proofs.Common.{◌≡◌, sym, ◌∙◌, ap}
use Rattle.std.specs.Prelude.{None}
use Rattle.c_define.specs.Numbers.{macros_of}
use Rattle.c_directives.specs.declared.condition.Expected.{Expected}
use Rattle.c_directives.specs.Conditions.{without_defined, at_end}
use Rattle.c_directives.proofs.Steps.{behind, defined_more, defined_none, defined_end, end_any, end_other}
use Rattle.c_directives.proofs.condition.without_defined.Goals as goal

pub returns-in-None : goal.returns-in-None
returns-in-None c = sym c.tokens.invariant ∙ defined_none (macros_of c.args.macros.now) c.tokens.out.items c.tokens.expected c.in-Some.token.now c.in-Some.tail.now c.tokens.rest.now (sym c.in-None.is ∙ c.in_ok-taken.ensures) c.in-Some.ensures.cases.0

pub tokens-preserved : goal.tokens-preserved
tokens-preserved c =
    defined_more (macros_of c.args.macros.now) c.tokens.out.items c.put_given.new.out.items c.tokens.expected c.in-Some-taken.next c.in-Some-taken.given c.in-Some.token.now c.in-Some.tail.now c.tokens.rest.now
    (sym c.in-Some-taken.is ∙ c.in_ok-taken.ensures) c.in-Some.ensures.cases.0 c.in_ok-put_given-in-Some-taken.ensures ∙ c.tokens.invariant

pub returns-in-Any : goal.returns-in-Any
returns-in-Any c = sym c.tokens.invariant ∙ defined_end (macros_of c.args.macros.now) c.tokens.out.items c.tokens.expected c.tokens.rest.now c.in_default.ensures.cases ∙ end_any c.tokens.out.items c.tokens.expected c.in-Any.is

pub returns-in_default-expected : goal.returns-in_default-expected
returns-in_default-expected c = sym c.tokens.invariant ∙ defined_end (macros_of c.args.macros.now) c.tokens.out.items c.tokens.expected c.tokens.rest.now c.in_default.ensures.cases ∙ end_other c.tokens.out.items c.tokens.expected c.in_default-expected.not-Any
