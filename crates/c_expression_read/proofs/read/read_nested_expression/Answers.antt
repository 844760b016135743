use Rattle.c_expression_read.proofs.Entries.{nested_found, nested_only}
use Rattle.c_expression_read.proofs.read.read_nested_expression.Goals as goal

pub returns-clause-found : goal.returns-clause-found
returns-clause-found c = nested_found _ c.nested_expression.result c.args.depth 13 c.args.scope.now c.args.tokens.now c.nested_expression.ensures.read

pub returns-clause-only : goal.returns-clause-only
returns-clause-only c = nested_only _ c.nested_expression.result c.args.depth 13 c.args.scope.now c.args.tokens.now c.nested_expression.ensures.read
