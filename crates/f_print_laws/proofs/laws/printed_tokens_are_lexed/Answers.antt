use Rattle.f_print_laws.proofs.Printed.{printed}
use Rattle.f_print_laws.proofs.laws.printed_tokens_are_lexed.Goals as goal

pub returns : goal.returns
returns c = printed
