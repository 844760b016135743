use Rattle.f_print_laws.proofs.Lexed.{lexed}
use Rattle.f_print_laws.proofs.laws.lexed_tokens_are_such.Goals as goal

pub returns : goal.returns
returns c = lexed
