use Rattle.std.proofs.Common.{◌≡◌, ◌<◌, ◌∙◌, ℕ, List, sym, ap, subst, length}
use Rattle.reg_alloc.specs.declared.occurrences.Occurrence.{Occurrence}
use Rattle.reg_alloc.specs.Occurs.{Each}
use Rattle.reg_alloc.specs.Trace.{Ends, IsOf, Scans, left}
use Rattle.reg_alloc.proofs.Leaving.{all_within, all_of_place, ends_of, ends_stale}
use Rattle.reg_alloc.proofs.Tracing.{stale_claims}
use Rattle.reg_alloc.proofs.Judging.{place_answer}
use Rattle.reg_alloc.proofs.trace.lost_at.Goals as goal

pub leave_all-requires : goal.leave_all-requires
leave_all-requires c = subst (λ (l : List Occurrence). Each (λ o. o.block < length c.args.last.now.items) l) (sym c.requires.occurrences) (all_within c.args.facts.now.proc.now c.args.facts.now.places.now c.args.h c.requires.named (length c.args.last.now.items) c.requires.last.count)

pub first_lost-requires-clause-occurrences : goal.first_lost-requires-clause-occurrences
first_lost-requires-clause-occurrences c = subst (λ (l : List Occurrence). Each (IsOf c.args.facts.now.places.now c.args.facts.now.proc.now c.args.h) l) (sym c.requires.occurrences) (all_of_place c.args.facts.now.proc.now c.args.facts.now.places.now c.args.h c.requires.named)

pub first_lost-requires-clause-ends : goal.first_lost-requires-clause-ends
first_lost-requires-clause-ends c = subst (λ (l : List ℕ). Ends c.args.facts.now.places.now c.args.facts.now.proc.now c.args.h l) (sym (c.as_slice.ensures.value ∙ c.leave_all.ensures ∙ ap (λ (l : List Occurrence). left l c.args.last.now.items) c.requires.occurrences)) (ends_of c.args.facts.now.proc.now c.args.facts.now.places.now c.args.h c.requires.named c.args.last.now.items c.requires.last)

pub first_lost-requires-clause-claims : goal.first_lost-requires-clause-claims
first_lost-requires-clause-claims c = stale_claims c.args.facts.now.places.now c.args.facts.now.proc.now c.args.h c.args.claims.now.items c.requires.claims

pub returns-clause-lost : goal.returns-clause-lost
returns-clause-lost c = place_answer c.args.facts.now.places.now c.args.facts.now.proc.now c.requires.named c.args.h c.in_ok-lost.lost (subst (λ (l : List Occurrence). Scans c.args.facts.now.places.now c.args.facts.now.proc.now 0 c.args.facts.now.proc.now.values l c.in_ok-lost.lost) c.requires.occurrences c.in_ok-lost.ensures.lost)

pub returns-clause-last : goal.returns-clause-last
returns-clause-last c = ends_stale c.args.facts.now.proc.now c.args.facts.now.places.now c.args.h c.leave_all.new.last.items (subst (λ (l : List ℕ). Ends c.args.facts.now.places.now c.args.facts.now.proc.now c.args.h l) (sym (c.leave_all.ensures ∙ ap (λ (l : List Occurrence). left l c.args.last.now.items) c.requires.occurrences)) (ends_of c.args.facts.now.proc.now c.args.facts.now.places.now c.args.h c.requires.named c.args.last.now.items c.requires.last))
