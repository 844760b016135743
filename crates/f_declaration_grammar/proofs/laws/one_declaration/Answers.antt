use Rattle.f_declaration_grammar.proofs.DeclaredAgain.{one_declared}
use Rattle.f_declaration_grammar.proofs.laws.one_declaration.Goals as goal

pub returns : goal.returns
returns c = one_declared
