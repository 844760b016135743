use Rattle.std.proofs.Common.{◌≡◌, drop}
use Rattle.command.specs.Options.{settings}
use Rattle.command.specs.Words.{texts}
use Rattle.command.proofs.options.setting.Given as goal

abbrev pub invariant-loop-i : goal.invariant-loop-i
invariant-loop-i l = settings l.name (texts l.words) ≡ settings l.name (texts (drop l.i l.words))
