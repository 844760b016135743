use Rattle.std.proofs.Common.{◌≡◌, ap, subst, ◌∙◌}
use Rattle.f_grammar.specs.Grammar.{spell, Within}
use Rattle.f_grammar.specs.Reading.{Read, expr_at}
use Rattle.f_grammar.proofs.Sound.{expr_sound}
use Rattle.f_grammar.proofs.Again.{expr_again}
use Rattle.f_expr_read.specs.Gives.{Gives}
use Rattle.f_expr_read.specs.Views.{tokens_of, view}
use Rattle.f_expr_read.proofs.Found.{found}
use Rattle.f_expr_read.proofs.read.read_expression.Goals as goal

pub returns-clause-found : goal.returns-clause-found
returns-clause-found c = found (λ x. (view x.0, tokens_of x.1.now)) (expr_at 65 (tokens_of c.args.tokens.now)) (λ y. (tokens_of c.args.tokens.now ≡ spell y.0 y.1) × Within 65 y.0) c.expression.result (expr_sound 65 (tokens_of c.args.tokens.now)) c.expression.ensures

pub returns-clause-only : goal.returns-clause-only
returns-clause-only c = λ e rest fits stop is.
    subst (λ (o : Read _). Gives (λ x. (view x.0, tokens_of x.1.now)) c.expression.result o) (ap (expr_at 65) is ∙ expr_again 65 e rest fits stop) c.expression.ensures
