use Rattle.std.proofs.Common.{◌≡◌, ◌++◌, take}
use Rattle.linker.specs.Layout.{images}
use Rattle.linker.proofs.laid.put_images.Given as goal

abbrev pub invariant-loop-u : goal.invariant-loop-u
invariant-loop-u l = l.bytes.items ≡ l.initial.bytes.items ++ images (take l.u-index l.units)
