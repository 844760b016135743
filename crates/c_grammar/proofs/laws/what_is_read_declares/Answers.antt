use Rattle.c_grammar.specs.Reading.{inner}
use Rattle.c_grammar.proofs.Sound.{typed_sound, inner_sound}
use Rattle.c_grammar.proofs.laws.what_is_read_declares.Goals as goal

pub returns : goal.returns
returns c = λ n. typed_sound (inner n) n (inner_sound n)
