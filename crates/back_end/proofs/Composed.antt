-- The image of a program's blocks follows the program.
use Rattle.std.proofs.Common.{◌≡◌, true, List, Ok, Err, Result, IfOk, OnOk, subst}
use Rattle.jf_base.specs.declared.place.Memory.{Memory}
use Rattle.program_image.specs.declared.Image.{Image}
use Rattle.assembled_run.specs.Program.{IsImageOf}
use Rattle.flat_ir.specs.declared.program.FlatProgram.{FlatProgram}
use Rattle.flat_ir.specs.Checked.{is_ok}
use Rattle.flatten.specs.declared.blocks.BlockProgram.{BlockProgram}
use Rattle.flatten.specs.Code.{program_code}
use Rattle.block_homes.specs.declared.homes.Assignment.{Assignment}
use Rattle.emitted_units.specs.Sizes.{ProcsHeld}
use Rattle.emitted_code.specs.Units.{program_units}
use Rattle.emitted_code.specs.Placed.{AllBytes}
use Rattle.emitted_code.specs.Room.{HasRoom}
use Rattle.emitted_code.specs.Chain.{Emits, ImagesFollowFlatPrograms}
use Rattle.block_image.specs.Images.{AreAssigned}
use Rattle.back_end.specs.Followed.{IsFollowed}
use Rattle.back_end.proofs.Assigned.{proc_held, numbers_fit}

-- what emission asks of a program whose blocks have homes
emits : (p : FlatProgram) (hs : List Assignment) → is_ok p ≡ true → HasRoom (program_code p) → AreAssigned (program_code p).procs hs → ProcsHeld (program_code p).procs → Emits p hs
emits p hs ok room assigned held = record {
  ok = ok;
  homes = λ i f e. (assigned i f e).homes_are;
  kept = λ i f e. (assigned i f e).valid;
  room = room;
  numbers = λ i f e insn has. numbers_fit f insn has.0 has.1.0 has.1.2.0 (proc_held (program_code p).procs i f held e) has.1.1 has.1.2.1;
}

pub followed : ImagesFollowFlatPrograms → (p : FlatProgram) (hs : List Assignment) (image : Image) → is_ok p ≡ true → HasRoom (program_code p) → AreAssigned (program_code p).procs hs → ProcsHeld (program_code p).procs
    → IsImageOf (program_units (program_code p) hs) image → AllBytes image.bytes → IsFollowed p image
followed follow p hs image ok room assigned held made bytes = record {
  homes = hs;
  objects = made.0;
  linked = made.1;
  follows = λ limits ranges input fresh. follow p hs made.0 image (emits p hs ok room assigned held) made.1 bytes limits ranges input fresh;
}

pub chained : ImagesFollowFlatPrograms → (p : FlatProgram) (q : BlockProgram) (hs : List Assignment) (r : Result Image Memory) → q ≡ program_code p → is_ok p ≡ true → HasRoom (program_code p) → AreAssigned q.procs hs
    → IfOk r (λ image. IsImageOf (program_units q hs) image) → OnOk r (ProcsHeld q.procs) → IfOk r (λ image. AllBytes image.bytes) → IfOk r (λ image. IsFollowed p image)
chained follow p q hs (Ok image) e ok room assigned made held bytes =
    let A : BlockProgram → Type 0 = λ q. AreAssigned q.procs hs in
    let H : BlockProgram → Type 0 = λ q. ProcsHeld q.procs in
    let M : BlockProgram → Type 0 = λ q. IsImageOf (program_units q hs) image in
    followed follow p hs image ok room (subst A e assigned) (subst H e held) (subst M e made) bytes
chained follow p q hs (Err x) e ok room assigned made held bytes = tt
