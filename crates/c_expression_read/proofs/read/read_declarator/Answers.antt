use Rattle.c_expression_read.proofs.Entries.{decl_found, decl_only}
use Rattle.c_expression_read.proofs.read.read_declarator.Goals as goal

pub returns-clause-found : goal.returns-clause-found
returns-clause-found c = decl_found _ c.declarator.result c.args.depth c.args.allowed c.args.scope.now c.args.tokens.now c.declarator.ensures.read

pub returns-clause-only : goal.returns-clause-only
returns-clause-only c = decl_only _ c.declarator.result c.args.depth c.args.allowed c.args.scope.now c.args.tokens.now c.declarator.ensures.read
