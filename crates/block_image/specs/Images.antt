-- What the blocks of a program that holds together have, and homes for their values that keep them.
use Rattle.std.specs.Prelude.{ℕ, ◌≡◌, ◌<◌, true, List, length, Some, slice_get}
use Rattle.std.specs.List.{list_all}
use Rattle.flat_ir.specs.Checked.{fix_fits, all_apart}
use Rattle.flatten.specs.declared.blocks.BlockProc.{BlockProc}
use Rattle.flatten.specs.declared.blocks.BlockProgram.{BlockProgram}
use Rattle.flatten.specs.Named.{ProcsNamed}
use Rattle.flatten.specs.Paths.{AllUsesAreSet}
use Rattle.block_homes.specs.declared.homes.Home.{Home}
use Rattle.block_homes.specs.declared.homes.Assignment.{Assignment}
use Rattle.block_homes.specs.declared.homes.Verdict.TheVariants as V
use Rattle.block_homes.specs.Held.{homes_in}
use Rattle.block_homes.specs.Valid.{AreHomes, IsVerdict}

-- each value has a home that keeps it until its last use
pub record IsAssigned (f : BlockProc) (homes : List Home) : Type 0 where
  pub homes_are : AreHomes f.values homes
  pub valid : IsVerdict homes f V.Yes

-- those of each procedure, by the procedures' numbers
abbrev pub AreAssigned : List BlockProc → List Assignment → Type 0
AreAssigned procs assignments = (p : ℕ) (f : BlockProc) → slice_get procs p ≡ Some f → IsAssigned f (homes_in (slice_get assignments p))

-- what blocks have of a program that holds together
pub record HoldTogether (q : BlockProgram) : Type 0 where
  pub named : ProcsNamed (length q.procs) (length q.image) q.procs
  pub set_first : AllUsesAreSet q.procs
  pub entry : q.entry < length q.procs
  pub fixes : list_all (λ f. fix_fits (length q.procs) (length q.image) f) q.fixes ≡ true
  pub apart : all_apart q.fixes ≡ true
