use Rattle.std.proofs.Common.{◌≡◌, false, length}
use Rattle.c_text.specs.Rests.{literal_rest}
use Rattle.c_text.proofs.rests.literal_rest.Given as goal

abbrev pub invariant-loop-first : goal.invariant-loop-first
invariant-loop-first l = literal_rest l.is_escaped l.quote l.rest ≡ literal_rest false l.quote l.text

abbrev pub decreases-loop-first : goal.decreases-loop-first
decreases-loop-first l = length l.rest
