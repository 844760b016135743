use Rattle.std.proofs.Common.{subst, arith}
use Rattle.emitted_units.specs.Sizes.{ProcsHeld}
use Rattle.block_image.proofs.chain.check.Goals as goal

pub returns : goal.returns
returns c =
    let h = c.requires.holds in
    record {
      count = omega arith;
      named = h.named;
      held = subst (λ ps. ProcsHeld ps) c.as_slice.ensures c.in_ok-check_procs.ensures;
      homes = λ p f e. (c.requires.assigned p f e).homes_are;
      entry = h.entry;
      fixes = h.fixes;
      apart = h.apart;
    }
