use Rattle.std.proofs.Common.{◌≡◌}
use Rattle.std.specs.Prelude.{◌&&◌}
use Rattle.std.specs.List.{list_all}
use Rattle.storage_model.specs.Storage.{Good}
use Rattle.storage_model.specs.Chain.{home_of, chain_of, aligned_to, may_write, not_read}
use Rattle.storage_model.specs.Model.{model}
use Rattle.storage_model.proofs.Steps.{depth}
use Rattle.storage_model.proofs.storage.Storage.walk.Given as goal

abbrev pub invariant-loop-at : goal.invariant-loop-at
invariant-loop-at l = record {
  good : Good (model l.self) l.at;
  home : home_of (model l.self) l.fn.from ≡ home_of (model l.self) l.at;
  aligned : list_all (aligned_to l.align) (chain_of (model l.self) l.fn.from) ≡ l.aligned && list_all (aligned_to l.align) (chain_of (model l.self) l.at);
  writable : list_all (may_write (model l.self)) (chain_of (model l.self) l.fn.from) ≡ l.writable && list_all (may_write (model l.self)) (chain_of (model l.self) l.at);
  unread : list_all (not_read (model l.self)) (chain_of (model l.self) l.fn.from) ≡ l.unread && list_all (not_read (model l.self)) (chain_of (model l.self) l.at);
}

abbrev pub decreases-loop-at : goal.decreases-loop-at
decreases-loop-at l = depth l.at.view
