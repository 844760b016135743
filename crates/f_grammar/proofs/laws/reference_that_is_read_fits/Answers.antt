use Rattle.f_grammar.specs.Reading.{expr_at}
use Rattle.f_grammar.proofs.Sound.{refer_sound, expr_sound}
use Rattle.f_grammar.proofs.laws.reference_that_is_read_fits.Goals as goal

pub returns : goal.returns
returns c = λ n ts. refer_sound (expr_at n) n (expr_sound n) ts
