use Rattle.std.proofs.Common.{refl}
use Rattle.c_macros.specs.Expansion.{expansion, swaps_of, among, along, count, body_of}
use Rattle.c_macros.proofs.two_names.Goals as goal

pub returns : goal.returns
unfolding expansion swaps_of among along count body_of
returns c = refl
