use Rattle.std.proofs.Common.{◌≡◌, ◌-◌, length, map}
use Rattle.f_declaration_grammar.specs.DeclarationReading.{suffixes_at}
use Rattle.f_expr_read.specs.Views.{tokens_of}
use Rattle.f_declared.specs.Views.{view_suffix}
use Rattle.f_header_read.proofs.Suffixes.{with_read}
use Rattle.f_header_read.proofs.suffix.suffixes.Given as goal

abbrev pub invariant-loop : goal.invariant-loop
invariant-loop l = with_read (map view_suffix l.all) (suffixes_at (l.end - l.counter) (tokens_of l.rest)) ≡ suffixes_at (length l.tokens) (tokens_of l.tokens)
