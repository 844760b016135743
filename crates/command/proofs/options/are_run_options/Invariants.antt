use Rattle.std.proofs.Common.{◌≡◌, drop}
use Rattle.command.specs.Options.{have_names, run_options}
use Rattle.command.specs.Words.{texts}
use Rattle.command.proofs.options.are_run_options.Given as goal

abbrev pub invariant-loop-word : goal.invariant-loop-word
invariant-loop-word l = have_names run_options (texts l.words) ≡ have_names run_options (texts (drop l.word-index l.words))
