use Rattle.std.proofs.Common.{◌≡◌, ℕ, ◌+◌, length, take}
use Rattle.std.specs.Prelude.{slice_get, Some}
use Rattle.linker.specs.declared.offsets.Start.{Start}
use Rattle.linker.specs.Layout.{codes, images, code_size}
use Rattle.linker.specs.Starts.{IsStart}
use Rattle.linker.proofs.offsets.starts_of.Given as goal

abbrev pub invariant-loop-u : goal.invariant-loop-u
invariant-loop-u l = record {
  code : l.code ≡ length (codes (take l.u-index l.units));
  image : l.image ≡ code_size l.units + length (images (take l.u-index l.units));
  count : length l.starts.items ≡ l.u-index;
  each : (k : ℕ) (s : Start) → slice_get l.starts.items k ≡ Some s → IsStart l.units k s;
}
