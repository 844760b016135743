use Rattle.std.proofs.Common.{◌≡◌, ℕ, List, Some}
use Rattle.rv_machine.specs.declared.event.Mode.TheVariants.{Ready}
use Rattle.rv_machine.specs.Exec.{exec, start}
use Rattle.image_run.specs.Leaves.{IsAt}
use Rattle.image_run.proofs.run.run_image.Given as goal

abbrev pub invariant-loop-turn : goal.invariant-loop-turn
invariant-loop-turn g l = record {
  ready : l.machine.mode ≡ Ready;
  source : g.I.Source.faults l.input ≡ g.I.Source.faults l.fn.input;
  sink : g.O.Sink.faults l.out ≡ g.O.Sink.faults l.fn.out;
  at : (bytes : List ℕ) → g.I.Source.left l.fn.input ≡ Some bytes →
      IsAt (exec (start l.fn.machine bytes) l._turn) (g.O.Sink.contents l.fn.out) l.machine (g.I.Source.left l.input) (g.O.Sink.contents l.out);
}
