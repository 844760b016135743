use Rattle.std.proofs.Common.{sym, ◌∙◌}
use Rattle.c_directives.proofs.Steps.{tokens_more, tokens_none, tokens_end}
use Rattle.c_directives.proofs.definition.tokens_of.Goals as goal

pub returns-in-None : goal.returns-in-None
returns-in-None c = sym c.lexemes.invariant ∙ tokens_none c.lexemes.tokens.items c.in-Some.lexeme.now c.in-Some.tail.now c.lexemes.rest.now (sym c.in-None.is ∙ c.in_ok-found.ensures) c.in-Some.ensures.cases.0

pub lexemes-preserved : goal.lexemes-preserved
lexemes-preserved c =
    tokens_more c.lexemes.tokens.items c.push.new.self.items c.in-Some-found.token c.in-Some.lexeme.now c.in-Some.tail.now c.lexemes.rest.now (sym c.in-Some-found.is ∙ c.in_ok-found.ensures) c.in-Some.ensures.cases.0 c.in_ok-push-in-Some-found.ensures.items ∙ c.lexemes.invariant

pub returns : goal.returns
returns c = sym c.lexemes.invariant ∙ tokens_end c.lexemes.tokens.items c.lexemes.rest.now c.in_default.ensures.cases
