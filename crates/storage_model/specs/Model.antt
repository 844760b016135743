-- What clauses see of a storage.
use Rattle.storage_model.specs.declared.storage.Storage.{Storage}
use Rattle.storage_model.specs.Storage as M
use Rattle.storage_model.specs.Held.{facts}

-- the objects and loans of a storage
abbrev pub model : Storage → M.Storage
model s = facts s.objects.items s.loans.items
