use Rattle.std.proofs.Common.{◌≡◌}
use Rattle.f_lex.specs.Lines.{run_at}
use Rattle.f_lex.proofs.Scan.{run_from}
use Rattle.f_lex.proofs.lines.run_at.Given as goal

abbrev pub invariant-loop-index : goal.invariant-loop-index
invariant-loop-index l = run_from l.run l.bytes l.index ≡ run_at l.run l.bytes
