use Rattle.std.proofs.Common.{◌≡◌, ◌<◌, ◌∙◌, ℕ, List, Bool, sym, ap, subst, arith, length}
use Rattle.std.specs.Prelude.{slice_index}
use Rattle.reg_alloc.specs.declared.occurrences.Occurrence.{Occurrence}
use Rattle.reg_alloc.specs.Occurs.{OccurrencesBy, Sources}
use Rattle.reg_alloc.specs.Rows.{Places, width}
use Rattle.reg_alloc.specs.Trace.{Reach}
use Rattle.reg_alloc.proofs.Judging.{judged}
use Rattle.reg_alloc.proofs.verdict.verdict_of.Goals as goal

pub first_of_all-requires-clause-facts : goal.first_of_all-requires-clause-facts
first_of_all-requires-clause-facts c =
    let places = c.args.places.now in
    let p = c.args.p.now in
    let n : length c.as_slice-3.result.now ≡ width places = ap (λ (l : List ℕ). length l) c.as_slice-3.ensures.value ∙ c.in_ok-start.ensures.len ∙ c.width_of-size.ensures in
    record {
      places_are = subst (λ m. Places p.values m places) (sym n) c.requires.places;
      reached_is = subst (λ (l : List Bool). Reach p l) (sym c.as_slice.ensures.value) c.in_ok-reached.ensures;
      sources_are = subst (λ (l : List (List Occurrence)). Sources p l) (sym c.as_slice-2.ensures.value) c.in_ok-sources.ensures;
      start_is = λ h lt. ap (λ (l : List ℕ). slice_index l h) c.as_slice-3.ensures.value ∙ c.in_ok-start.ensures.cells h (omega (arith, lt, n, c.width_of-size.ensures));
    }

pub first_of_all-requires-clause-rows : goal.first_of_all-requires-clause-rows
first_of_all-requires-clause-rows c =
    let places = c.args.places.now in
    let p = c.args.p.now in
    let n : length c.as_slice-3.result.now ≡ c.width_of-size.result = ap (λ (l : List ℕ). length l) c.as_slice-3.ensures.value ∙ c.in_ok-start.ensures.len in
    subst (λ m. OccurrencesBy places m p c.as_slice-4.result.now) (sym n) (subst (λ (l : List (List Occurrence)). OccurrencesBy places c.width_of-size.result p l) (sym c.as_slice-4.ensures.value) c.in_ok-rows.ensures)

pub returns : goal.returns
returns c =
    let places = c.args.places.now in
    let p = c.args.p.now in
    let n : length c.as_slice-3.result.now ≡ width places = ap (λ (l : List ℕ). length l) c.as_slice-3.ensures.value ∙ c.in_ok-start.ensures.len ∙ c.width_of-size.ensures in
    judged places p c.requires.named (length c.as_slice-3.result.now) (subst (λ m. Places p.values m places) (sym n) c.requires.places) c.in_ok-first.first c.verdict_at-verdict.result c.in_ok-first.ensures c.verdict_at-verdict.ensures
