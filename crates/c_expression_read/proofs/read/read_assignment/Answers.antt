use Rattle.c_expression_read.proofs.Entries.{level_found, level_only}
use Rattle.c_expression_read.proofs.read.read_assignment.Goals as goal

pub returns-clause-found : goal.returns-clause-found
returns-clause-found c = level_found _ c.assignment.result c.args.depth 12 c.args.scope.now c.args.tokens.now c.assignment.ensures.read

pub returns-clause-only : goal.returns-clause-only
returns-clause-only c = level_only _ c.assignment.result c.args.depth 12 c.args.scope.now c.args.tokens.now c.assignment.ensures.read
