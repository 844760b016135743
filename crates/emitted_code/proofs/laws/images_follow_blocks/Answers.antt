use Rattle.emitted_code.proofs.Follow.{follows_blocks}
use Rattle.emitted_code.proofs.Held.{holds}
use Rattle.emitted_code.proofs.laws.images_follow_blocks.Goals as goal

pub returns : goal.returns
returns c q hs os image can made bytes limits ranges input fresh = follows_blocks q hs os image made can limits ranges input fresh bytes (holds q hs os image made can limits ranges bytes)
