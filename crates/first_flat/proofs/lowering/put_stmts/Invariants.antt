use Rattle.std.proofs.Common.{◌≡◌, map, take}
use Rattle.first_flat.specs.Lowered.{put_stmt}
use Rattle.first_flat.proofs.lowering.put_stmts.Given as goal

abbrev pub invariant-loop-argument : goal.invariant-loop-argument
invariant-loop-argument l = l.body.items ≡ map put_stmt (take l.argument-index l.puts)
