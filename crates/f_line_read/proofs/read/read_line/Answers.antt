use Rattle.std.proofs.Common.{Option, subst, sym}
use Rattle.f_line_grammar.specs.Lines.{Line}
use Rattle.f_expr_read.specs.Gives.{Gives}
use Rattle.f_expr_read.specs.Views.{tokens_of}
use Rattle.f_line_read.specs.Lines.{view_line}
use Rattle.f_line_read.proofs.Words.{line_is}
use Rattle.f_line_read.proofs.read.read_line.Goals as goal

pub returns : goal.returns
returns c = record { exact = subst (λ (o : Option Line). Gives view_line c.by_words.result o) (sym (line_is 65 (tokens_of c.args.tokens.now))) c.by_words.ensures }
