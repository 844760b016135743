use Rattle.std.proofs.Common.{◌≡◌, ap, subst, ◌∙◌}
use Rattle.f_grammar.specs.Grammar.{spell_refer, FitsRefer}
use Rattle.f_grammar.specs.Reading.{Read, expr_at, refer_at}
use Rattle.f_grammar.proofs.Sound.{refer_sound, expr_sound}
use Rattle.f_grammar.proofs.Again.{refer_again}
use Rattle.f_expr_read.specs.Gives.{Gives}
use Rattle.f_expr_read.specs.Views.{tokens_of, view_reference}
use Rattle.f_expr_read.proofs.Found.{found}
use Rattle.f_expr_read.proofs.read.read_reference.Goals as goal

pub returns-clause-found : goal.returns-clause-found
returns-clause-found c = found (λ x. (view_reference x.0, tokens_of x.1.now)) (refer_at (expr_at 65) (tokens_of c.args.tokens.now)) (λ y. (tokens_of c.args.tokens.now ≡ spell_refer y.0 y.1) × FitsRefer 65 y.0) c.reference.result (refer_sound (expr_at 65) 65 (expr_sound 65) (tokens_of c.args.tokens.now)) c.reference.ensures

pub returns-clause-only : goal.returns-clause-only
returns-clause-only c = λ e rest fits stop is.
    subst (λ (o : Read _). Gives (λ x. (view_reference x.0, tokens_of x.1.now)) c.reference.result o) (ap (refer_at (expr_at 65)) is ∙ refer_again e 65 rest fits stop) c.reference.ensures
