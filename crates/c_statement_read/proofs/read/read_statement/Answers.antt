use Rattle.c_statement_read.proofs.Entries.{statement_found, statement_only}
use Rattle.c_statement_read.proofs.read.read_statement.Goals as goal

pub returns-clause-found : goal.returns-clause-found
returns-clause-found c = statement_found _ c.nested.result c.args.depth c.args.scope.now c.args.tokens.now c.nested.ensures.read

pub returns-clause-only : goal.returns-clause-only
returns-clause-only c = statement_only _ c.nested.result c.args.depth c.args.scope.now c.args.tokens.now c.nested.ensures.read
