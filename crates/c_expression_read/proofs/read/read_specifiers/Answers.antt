use Rattle.c_expression_read.proofs.Entries.{specs_found, specs_only}
use Rattle.c_expression_read.proofs.read.read_specifiers.Goals as goal

pub returns-clause-found : goal.returns-clause-found
returns-clause-found c = specs_found _ c.specifiers.result c.args.depth c.args.scope.now c.args.tokens.now c.specifiers.ensures.read

pub returns-clause-only : goal.returns-clause-only
returns-clause-only c = specs_only _ c.specifiers.result c.args.depth c.args.scope.now c.args.tokens.now c.specifiers.ensures.read
