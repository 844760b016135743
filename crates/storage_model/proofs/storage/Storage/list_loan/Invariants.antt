use Rattle.std.proofs.Common.{◌≡◌}
use Rattle.storage_model.specs.Listings.{PlacesListed}
use Rattle.storage_model.specs.Model.{model}
use Rattle.storage_model.proofs.storage.Storage.list_loan.Given as goal

abbrev pub invariant-loop-k : goal.invariant-loop-k
invariant-loop-k l = record {
  same : model l.self ≡ model l.fn.self;
  listed : PlacesListed (model l.fn.self) l.self.covers.items l.loan l.bytes l.k;
}
