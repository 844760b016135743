-- Tests of what `validate` asks for.
use Rattle.std.specs.Prelude.{ℕ, Bool, true, ◌&&◌, ◌||◌, ◌==◌, not, nat_lt, List, [], ◌∷◌, length}
use Rattle.flatten.specs.declared.blocks.BlockInsn.{BlockInsn}
use Rattle.flatten.specs.declared.blocks.Block.{Block}
use Rattle.flatten.specs.declared.blocks.BlockProc.{BlockProc}
use Rattle.flatten.specs.Paths.{sets, uses_of, end_uses, goes_to}
use Rattle.block_homes.specs.declared.homes.Home.{Home}
use Rattle.block_homes.specs.declared.homes.Home.TheVariants as H

abbrev pub below : ℕ → List ℕ → Bool
below n [] = true
below n (v ∷ vs) = nat_lt v n && below n vs

abbrev pub insns_below : ℕ → List BlockInsn → Bool
insns_below n [] = true
insns_below n (i ∷ is) = (below n (uses_of i) && below n (sets i)) && insns_below n is

abbrev pub blocks_below : ℕ → ℕ → List Block → Bool
blocks_below n m [] = true
blocks_below n m (k ∷ ks) = (insns_below n k.insns && (below n (end_uses k.end) && below m (goes_to k.end))) && blocks_below n m ks

abbrev pub is_named : BlockProc → Bool
is_named q = not (nat_lt q.values q.params) && blocks_below q.values (length q.blocks) q.blocks

abbrev pub is_home : ℕ → Home → Bool
is_home n (H.Register r) = ((r == 8) || (r == 9)) || (nat_lt 17 r && nat_lt r 28)
is_home n (H.Slot s) = nat_lt s n

abbrev pub all_homes : ℕ → List Home → Bool
all_homes n [] = true
all_homes n (h ∷ hs) = is_home n h && all_homes n hs

abbrev pub are_homes : ℕ → List Home → Bool
are_homes n hs = (length hs == n) && all_homes n hs
