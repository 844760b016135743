use Rattle.c_grammar.proofs.Again.{typed_again}
use Rattle.c_grammar.proofs.laws.what_declares_is_read.Goals as goal

pub returns : goal.returns
returns c = λ n a s t rest f e b. typed_again t n a s rest f e b
