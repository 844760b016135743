use Rattle.f_statement_cut.proofs.Deepening.{found}
use Rattle.f_statement_cut.proofs.nesting.too_deep.Goals as goal

pub returns-clause-first : goal.returns-clause-first
returns-clause-first c = rw c.first_too_deep.ensures (found c.args.around c.args.tokens.now)
