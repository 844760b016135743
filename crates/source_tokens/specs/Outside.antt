-- What can be told of a library at one moment.
use Rattle.std.specs.Prelude.{◌≡◌, ℕ, List, Option, Some}

-- a library: its names with their bytes, where it tells them, and how often it has failed and was asked for a name that isn't listed
pub record LibraryAt : Type 0 where
  pub listing : Option (List (List ℕ × List ℕ))
  pub faults : ℕ
  pub strays : ℕ

-- the library didn't fail, and where it tells its list it wasn't asked for another name
pub record IsUntroubled (before after : LibraryAt) : Type 0 where
  pub faults : after.faults ≡ before.faults
  pub strays : (files : List (List ℕ × List ℕ)) → before.listing ≡ Some files → after.strays ≡ before.strays
