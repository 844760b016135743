use Rattle.behaviour.proofs.Composes.{compose}
use Rattle.flat_ir.specs.Flat.{flat}
use Rattle.flat_ir.specs.View.{procs_of}
use Rattle.flatten.specs.Blocks.{blocks}
use Rattle.flatten.specs.Code.{program_code}
use Rattle.flatten.specs.Sizes.{sizes_of}
use Rattle.flatten.proofs.Correct.{blocks_follow}
use Rattle.image_run.specs.Behaviour.{image_behaviour}
use Rattle.emitted_code.specs.Placed.{placed, pace}
use Rattle.emitted_code.proofs.Asks.{can_emit}
use Rattle.emitted_code.proofs.Follow.{follows_blocks}
use Rattle.emitted_code.proofs.Held.{holds}
use Rattle.emitted_code.proofs.laws.images_follow_flat_programs.Goals as goal

pub returns : goal.returns
returns c p hs os image x made bytes limits ranges input fresh =
    let q = program_code p in
    let can = can_emit p hs x in
    let g = placed q os limits in
    compose (pace q) (sizes_of (procs_of p.procs)) (image_behaviour image limits input) (blocks q g input) (flat p g input)
    (follows_blocks q hs os image made can limits ranges input fresh bytes (holds q hs os image made can limits ranges bytes)) (blocks_follow p x.ok g input)
