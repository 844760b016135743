use Rattle.std.proofs.Common.{◌≡◌, drop}
use Rattle.std.specs.Prelude.{nat_eq}
use Rattle.std.specs.List.{starts_with, list_any}
use Rattle.command.specs.Words.{texts}
use Rattle.command.proofs.options.is_set.Given as goal

abbrev pub invariant-loop-word : goal.invariant-loop-word
invariant-loop-word l = list_any (λ word. starts_with nat_eq word l.name) (texts l.words) ≡ list_any (λ word. starts_with nat_eq word l.name) (texts (drop l.word-index l.words))
