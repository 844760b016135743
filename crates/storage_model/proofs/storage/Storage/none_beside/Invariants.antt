use Rattle.std.proofs.Common.{◌≡◌, ℕ, ◌<◌, get_or}
use Rattle.std.specs.Prelude.{◌&&◌, false}
use Rattle.storage_model.specs.declared.held.Cover.{Cover}
use Rattle.storage_model.specs.Chain.{marks_against, is_beside}
use Rattle.storage_model.specs.Model.{model}
use Rattle.storage_model.proofs.storage.Storage.none_beside.Given as goal

abbrev pub invariant-loop-cover : goal.invariant-loop-cover
invariant-loop-cover l = (j : ℕ) → j < l.cover-index → (d : Cover)
    → marks_against (model l.self) l.read (get_or l.cover-items j d).loan (get_or l.cover-items j d).byte
    && is_beside (model l.self) l.from (get_or l.cover-items j d).loan (get_or l.cover-items j d).byte ≡ false
