-- What a name denotes in a scope (ISO/IEC 1539-1:2018, 19.5.1.4, 14.2.2 and 8.8).
use Rattle.std.specs.Prelude.{◌≡◌, ℕ, List}
use Rattle.f_items.specs.Places.{Located, At}
use Rattle.f_items.specs.Accessible.{Visible}
use Rattle.f_scopes.specs.Numbers.{number_of}

-- in the scope with this number the name denotes what the item at place k declares
pub record VisibleIn (p : List Located) (scope : ℕ) (name : List ℕ) (k : ℕ) : Type 0 where
  pub place : ℕ
  pub located : Located
  pub at : At p place located
  pub scope_is : number_of located ≡ scope
  pub visible : Visible p located.scopes name k
