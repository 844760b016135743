use Rattle.std.proofs.Common.{◌≡◌, true, sym, subst}
use Rattle.flat_ir.specs.declared.program.FlatProgram.{FlatProgram}
use Rattle.flat_ir.specs.Checked.{is_ok}
use Rattle.flatten.specs.Code.{program_code}
use Rattle.emitted_code.specs.Room.{HasRoom}
use Rattle.first_image.proofs.Fits.{ok}
use Rattle.first_image.proofs.Room.{room}
use Rattle.first_image.proofs.Composed.{compiled_at}
use Rattle.first_image.proofs.chain.compile.Goals as goal

pub image_of_flat-requires-clause-ok : goal.image_of_flat-requires-clause-ok
image_of_flat-requires-clause-ok c =
    let P : FlatProgram → Type 0 = λ q. is_ok q ≡ true in
    subst P (sym c.in_ok-code.ensures) (ok c.args.program.now)

pub image_of_flat-requires-clause-room : goal.image_of_flat-requires-clause-room
image_of_flat-requires-clause-room c =
    let P : FlatProgram → Type 0 = λ q. HasRoom (program_code q) in
    subst P (sym c.in_ok-code.ensures) (room c.args.program.now c.requires.are_calls.most c.requires.are_puts.most)

pub returns : goal.returns
returns c =
    compiled_at c.structured_code_follows_the_joint_meaning.ensures c.code_is_linear.ensures c.args.program.now c.in_ok-code.code c.in_ok-code.ensures c.requires c.image_of_flat.result c.image_of_flat.ensures
