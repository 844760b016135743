use Rattle.c_expression_read.proofs.Entries.{typed_found, typed_only}
use Rattle.c_expression_read.proofs.read.read_typed.Goals as goal

pub returns-clause-found : goal.returns-clause-found
returns-clause-found c = typed_found _ c.typed.result c.args.depth c.args.allowed c.args.scope.now c.args.tokens.now c.typed.ensures.read

pub returns-clause-only : goal.returns-clause-only
returns-clause-only c = typed_only _ c.typed.result c.args.depth c.args.allowed c.args.scope.now c.args.tokens.now c.typed.ensures.read
