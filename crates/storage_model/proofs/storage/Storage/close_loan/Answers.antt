use Rattle.std.proofs.Common.{sym, ◌∙◌, ap, subst}
use Rattle.storage_model.specs.Listings.{StandsGood}
use Rattle.storage_model.specs.Model.{model}
use Rattle.storage_model.proofs.Closing.{closed_off, stands_close}
use Rattle.storage_model.proofs.storage.Storage.close_loan.Goals as goal

pub unlist_loan-requires-clause-closed : goal.unlist_loan-requires-clause-closed
unlist_loan-requires-clause-closed c =
    ap (λ m. (m.loan c.args.loan).is_open) c.set_closed.ensures ∙ closed_off (model c.args.self.now) c.args.self.now.held.sound c.args.loan c.requires

pub unlist_loan-requires-clause-places : goal.unlist_loan-requires-clause-places
unlist_loan-requires-clause-places c =
    subst (λ m. StandsGood m c.args.loan) (sym c.set_closed.ensures)
    (stands_close (model c.args.self.now) c.args.self.now.held.sound c.args.loan c.requires (sym c.is_live.ensures ∙ c.if-not-is_live.false))
