use Rattle.std.proofs.Common.{ℕ, length}
use Rattle.std.specs.Prelude.{Option}
use Rattle.reg_alloc.specs.Occurs.{Each}
use Rattle.reg_alloc.specs.Trace.{Claims, Scans, IsOf}
use Rattle.reg_alloc.proofs.trace.first_lost.Given as goal

abbrev pub invariant-loop-o : goal.invariant-loop-o
invariant-loop-o l = record {
  occurrences : Each (IsOf l.fn.facts.places.now l.fn.facts.proc.now l.fn._h) l.rest;
  claims : Claims l.fn.facts.places.now l.fn.facts.proc.now l.fn._h l.claims.items;
  scans : (a : Option ℕ) → Scans l.fn.facts.places.now l.fn.facts.proc.now l.written.block l.written.value l.rest a → Scans l.fn.facts.places.now l.fn.facts.proc.now 0 l.fn.facts.proc.now.values l.fn.occurrences a;
}

abbrev pub decreases-loop-o : goal.decreases-loop-o
decreases-loop-o l = length l.rest
