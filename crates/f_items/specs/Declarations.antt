-- What a scope declares (ISO/IEC 1539-1:2018, 19.3.1 and 19.4).
use Rattle.std.specs.Prelude.{◌≡◌, ℕ, ◌<◌, List, Option, Some, None}
use Rattle.f_items.specs.declared.item.Item.{Item}
use Rattle.f_items.specs.declared.item.Item.TheVariants.{Declares, Heads}
use Rattle.f_items.specs.declared.item.Declared.{Declared}
use Rattle.f_items.specs.declared.item.Share.{Share}
use Rattle.f_items.specs.declared.item.Share.TheVariants.{Whole, Announced, Typed}
use Rattle.f_items.specs.Places.{Located, scope_of, host_of, At}

-- a name that is declared, and the scope in which it is
pub record Declaration : Type 0 where
  pub scope : ℕ
  pub what : Declared

abbrev pub declared_by : Item → ℕ → ℕ → Option Declaration
declared_by (Declares d) here host = Some (record { scope = here; what = d })
declared_by (Heads d) here host = Some (record { scope = host; what = d })
declared_by _ here host = None

-- what an item declares: the name of a procedure or of a derived type stands in its own scope and is declared in the scope around that
abbrev pub declaration_of : Located → Option Declaration
declaration_of l = declared_by l.item (scope_of l).number (host_of l).number

-- the item declares what the name is, and doesn't only announce it
abbrev pub Tells : Share → Type 0
Tells Whole = Unit {0}
Tells Announced = ⊥
Tells Typed = Unit {0}

-- the scope declares the name by the item at place k of the list
pub record IsDeclared (p : List Located) (scope : ℕ) (name : List ℕ) (k : ℕ) : Type 0 where
  pub item : Located
  pub declaration : Declaration
  pub at : At p k item
  pub declares : declaration_of item ≡ Some declaration
  pub scope_is : declaration.scope ≡ scope
  pub name_is : declaration.what.name.bytes ≡ name
  pub tells : Tells declaration.what.share

-- and it is the first that does, so that the scope's name is its; a second one breaks a rule
pub record IsOwn (p : List Located) (scope : ℕ) (name : List ℕ) (k : ℕ) : Type 0 where
  pub declared : IsDeclared p scope name k
  pub none_before : (j : ℕ) → j < k → IsDeclared p scope name j → ⊥

-- two declarations of one name in one scope are one too many, unless the first announces what the second types
abbrev pub Clash : Share → Share → Type 0
Clash Announced Typed = ⊥
Clash _ _ = Unit {0}
