use Rattle.f_unit_grammar.proofs.Texts.{read_is_text}
use Rattle.f_unit_grammar.proofs.laws.what_is_read_is_a_text.Goals as goal

pub returns : goal.returns
returns c = read_is_text
