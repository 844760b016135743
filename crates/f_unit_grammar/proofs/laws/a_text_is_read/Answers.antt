use Rattle.f_unit_grammar.proofs.Texts.{text_is_read}
use Rattle.f_unit_grammar.proofs.laws.a_text_is_read.Goals as goal

pub returns : goal.returns
returns c = text_is_read
