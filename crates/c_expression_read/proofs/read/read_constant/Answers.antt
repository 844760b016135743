use Rattle.c_expression_read.proofs.Entries.{level_found, level_only}
use Rattle.c_expression_read.proofs.read.read_constant.Goals as goal

pub returns-clause-found : goal.returns-clause-found
returns-clause-found c = level_found _ c.conditional.result c.args.depth 11 c.args.scope.now c.args.tokens.now c.conditional.ensures.read

pub returns-clause-only : goal.returns-clause-only
returns-clause-only c = level_only _ c.conditional.result c.args.depth 11 c.args.scope.now c.args.tokens.now c.conditional.ensures.read
