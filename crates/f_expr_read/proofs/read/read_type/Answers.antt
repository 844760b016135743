use Rattle.std.proofs.Common.{◌≡◌, ap, subst, ◌∙◌}
use Rattle.f_grammar.specs.Grammar.{spell_type, FitsType}
use Rattle.f_grammar.specs.Reading.{Read, expr_at, type_at}
use Rattle.f_grammar.proofs.Sound.{type_sound, expr_sound}
use Rattle.f_grammar.proofs.Again.{type_again}
use Rattle.f_expr_read.specs.Gives.{Gives}
use Rattle.f_expr_read.specs.Views.{tokens_of, view_type}
use Rattle.f_expr_read.proofs.Found.{found}
use Rattle.f_expr_read.proofs.read.read_type.Goals as goal

pub returns-clause-found : goal.returns-clause-found
returns-clause-found c = found (λ x. (view_type x.0, tokens_of x.1.now)) (type_at (expr_at 65) (tokens_of c.args.tokens.now)) (λ y. (tokens_of c.args.tokens.now ≡ spell_type y.0 y.1) × FitsType 65 y.0) c.type_spec.result (type_sound (expr_at 65) 65 (expr_sound 65) (tokens_of c.args.tokens.now)) c.type_spec.ensures

pub returns-clause-only : goal.returns-clause-only
returns-clause-only c = λ e rest fits stop is.
    subst (λ (o : Read _). Gives (λ x. (view_type x.0, tokens_of x.1.now)) c.type_spec.result o) (ap (type_at (expr_at 65)) is ∙ type_again e 65 rest fits stop) c.type_spec.ensures
