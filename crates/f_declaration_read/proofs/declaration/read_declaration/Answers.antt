use Rattle.std.proofs.Common.{Option, subst, sym}
use Rattle.f_declaration_grammar.specs.Declarations.{Declared}
use Rattle.f_expr_read.specs.Gives.{Gives}
use Rattle.f_expr_read.specs.Views.{tokens_of}
use Rattle.f_declared.specs.Views.{view_declared}
use Rattle.f_declaration_read.proofs.Whole.{declared_is}
use Rattle.f_declaration_read.proofs.declaration.read_declaration.Goals as goal

pub returns : goal.returns
returns c = record { exact = subst (λ (o : Option Declared). Gives view_declared c.by_first_word.result o) (sym (declared_is 65 (tokens_of c.args.tokens.now))) c.by_first_word.ensures }
