use Rattle.std.proofs.Common.{sym, ◌∙◌, ap, subst, map}
use Rattle.std.specs.List.{list_all}
use Rattle.storage_model.specs.Storage.{is_live, is_memory}
use Rattle.storage_model.specs.Loans.{open_one, place_of, spot_in_range}
use Rattle.storage_model.specs.Listings.{PlacesGood, fresh_byte, lent}
use Rattle.storage_model.specs.Model.{model}
use Rattle.storage_model.proofs.Opening.{spots_good, lent_fresh, if_done}
use Rattle.storage_model.proofs.storage.Storage.open_loan.Goals as goal

pub open_bytes-requires : goal.open_bytes-requires
open_bytes-requires c =
    let m = model c.args.self.now in
    let xs = c.args.places.items in
    subst (PlacesGood m) (sym (c.in-Ok.ensures ∙ ap (map fresh_byte) c.as_slice-4.ensures.value))
    (spots_good m xs
    (ap (list_all (λ p. is_live m p.view)) (sym c.as_slice.ensures.value) ∙ sym c.all_live.ensures ∙ c.if-not-all_live.false)
    (ap (list_all (spot_in_range m)) (sym c.as_slice-2.ensures.value) ∙ sym c.all_in_range.ensures ∙ c.if-not-all_in_range.false)
    (ap (list_all (λ p. is_memory m (place_of p))) (sym c.as_slice-3.ensures.value) ∙ sym c.all_memory.ensures ∙ c.if-not-all_memory.false))

pub returns-in-Ok-clause-done : goal.returns-in-Ok-clause-done
returns-in-Ok-clause-done c =
    let m = model c.args.self.now in
    if_done c.open_bytes.result _ _
    (λ e. e ∙ ap (λ bs. open_one m (lent bs c.args.writable)) (c.in-Ok.ensures ∙ ap (map fresh_byte) c.as_slice-4.ensures.value)
    ∙ ap (open_one m) (lent_fresh c.args.places.items c.args.writable))
    c.open_bytes.ensures.opened
