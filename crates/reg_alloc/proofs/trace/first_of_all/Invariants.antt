use Rattle.std.proofs.Common.{◌<◌}
use Rattle.reg_alloc.specs.Trace.{AllStale, Answer}
use Rattle.reg_alloc.proofs.trace.first_of_all.Given as goal

abbrev pub invariant-loop-h : goal.invariant-loop-h
invariant-loop-h l = record {
  last : AllStale l.fn.facts.places.now l.fn.facts.proc.now l.h l.last.items;
  claims : AllStale l.fn.facts.places.now l.fn.facts.proc.now l.h l.claims.items;
  answer : Answer l.fn.facts.places.now l.fn.facts.proc.now (λ g. g < l.h) l.first;
}
