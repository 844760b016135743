use Rattle.std.proofs.Common.{ℕ, List, [], ◌∷◌, ◌++◌, ap, ◌∙◌}
use Rattle.std.proofs.lemmas.List.{append_assoc}
use Rattle.linker.specs.Layout.{zeros}
use Rattle.linker.proofs.Joined.{zeros-more}
use Rattle.linker.proofs.laid.put_zeros.Goals as goal

pub loop-preserved : goal.loop-preserved
loop-preserved c =
    c.in_ok-push.ensures.items
    ∙ ap (λ (b : List ℕ). b ++ 0 ∷ []) c.loop.invariant
    ∙ append_assoc c.args.bytes.now.items (zeros c.loop.counter) (0 ∷ [])
    ∙ ap (λ (b : List ℕ). c.args.bytes.now.items ++ b) (zeros-more c.loop.counter)
