use Rattle.std.proofs.Common.{◌∙◌}
use Rattle.c_directives.proofs.Steps.{spelled_more, spelled_end}
use Rattle.c_directives.proofs.condition.spelled_tokens.Goals as goal

pub tokens-preserved : goal.tokens-preserved
tokens-preserved c = spelled_more c.tokens.out.items c.put_spelling.new.out.items c.in-Some.spanned.now c.in-Some.tail.now c.tokens.rest.now c.in-Some.ensures.cases.0 c.in_ok-put_spelling.ensures ∙ c.tokens.invariant

pub returns : goal.returns
returns c = spelled_end c.tokens.out.items c.tokens.rest.now c.in_default.ensures.cases ∙ c.tokens.invariant
