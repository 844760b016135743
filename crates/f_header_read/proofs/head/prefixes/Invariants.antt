use Rattle.std.proofs.Common.{◌≡◌, ◌-◌, length, map}
use Rattle.f_declaration_grammar.specs.DeclarationReading.{prefixes_at}
use Rattle.f_expr_read.specs.Gives.{behind}
use Rattle.f_expr_read.specs.Views.{tokens_of}
use Rattle.f_declared.specs.Views.{view_prefix}
use Rattle.f_header_read.specs.Heads.{before}
use Rattle.f_header_read.proofs.head.prefixes.Given as goal

abbrev pub invariant-loop : goal.invariant-loop
invariant-loop l = behind before (map view_prefix l.all) (prefixes_at 65 (l.end - l.counter) (tokens_of l.rest)) ≡ behind before (map view_prefix l.fn.items) (prefixes_at 65 (length l.tokens) (tokens_of l.tokens))
