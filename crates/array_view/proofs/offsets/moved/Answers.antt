use Rattle.std.proofs.Common.{rules, w64}
use Rattle.std.proofs.lemmas.Int.{wraps, wrapping_add-bits}
use Rattle.array_view.specs.Elements.{moved_in_64_bits}
use Rattle.array_view.proofs.offsets.moved.Goals as goal

pub returns : goal.returns
unfolding moved_in_64_bits
returns c = search (rules, wraps, wrapping_add-bits w64)
