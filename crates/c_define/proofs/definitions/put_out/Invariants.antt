use Rattle.std.proofs.Common.{◌≡◌, ◌++◌, map, take}
use Rattle.c_define.specs.Numbers.{put_out}
use Rattle.c_define.proofs.definitions.put_out.Given as goal

abbrev pub invariant-loop-number : goal.invariant-loop-number
invariant-loop-number l = l.out.items ≡ l.fn.out.items ++ map (put_out l.names l.others) (take l.number-index l.numbers)
