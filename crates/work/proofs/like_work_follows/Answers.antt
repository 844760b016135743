use Rattle.std.specs.Prelude.{IsTrue}
use Rattle.work.proofs.Like.{like_follows}
use Rattle.work.proofs.like_work_follows.Goals as goal

pub returns : goal.returns
returns g c = λ r q mem vals ps qs h main main' m n hm input. like_follows r q (λ m n. IsTrue (mem m n)) (λ vs ws. IsTrue (vals vs ws)) ps qs h main main' m n hm input
