use Rattle.f_print_laws.proofs.Printed.{read_again}
use Rattle.f_print_laws.proofs.laws.printed_statements_are_read_again.Goals as goal

pub returns : goal.returns
returns c = read_again
