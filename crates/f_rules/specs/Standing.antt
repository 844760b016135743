-- Where an item stands, what is declared at a place, and which entities a module has.
use Rattle.std.specs.Prelude.{◌≡◌, ◌<◌, ℕ, List, Bool, Option, Some, None, ◌==◌, if◌then◌else◌}
use Rattle.f_items.specs.declared.item.Item.{Item}
use Rattle.jf_base.specs.declared.place.Place.{Place}
use Rattle.f_items.specs.declared.item.Name.{Name}
use Rattle.f_items.specs.declared.item.Access.{Access}
use Rattle.f_items.specs.declared.item.Declared.{Declared as Named}
use Rattle.f_items.specs.declared.item.Item.TheVariants.{Uses, Takes, Accesses, Selects}
use Rattle.f_items.specs.declared.item.Class.{Class}
use Rattle.f_items.specs.Places.{Located, scope_of, host_of, At}
use Rattle.f_items.specs.Declarations.{Declaration, declaration_of}
use Rattle.f_items.specs.Accessible.{IsEntity, Denotes}
use Rattle.f_scope.specs.Program.{Outline}
use Rattle.f_use.specs.declared.origins.Origins.{Origins}
use Rattle.f_rules.specs.declared.stand.Stand.{Stand}

-- the item at the place, its scope and the scope around that
pub record IsAt (o : Outline) (place : ℕ) (item : Item) (scope host : ℕ) : Type 0 where
  pub located : Located
  pub at : At o.items place located
  pub item_is : located.item ≡ item
  pub scope_is : (scope_of located).number ≡ scope
  pub host_is : (host_of located).number ≡ host
  pub within : scope < o.scopes
  pub around : host < o.scopes

abbrev pub StandFound : Outline → ℕ → Option Stand → Type 0
StandFound o place None = (l : Located) → At o.items place l → ⊥
StandFound o place (Some s) = IsAt o place s.item.now s.scope s.host

-- the item at the place declares this name in this scope
abbrev pub IsDeclaration : List Located → ℕ → ℕ → Named → Type 0
IsDeclaration p k scope d = (l : Located) × At p k l × (declaration_of l ≡ Some (record { scope = scope; what = d }))

-- the item at the place, and its scope
abbrev pub HasItem : List Located → ℕ → ℕ → Item → Type 0
HasItem p k scope i = (l : Located) × At p k l × (l.item ≡ i) × ((scope_of l).number ≡ scope)

abbrev pub HasUse : List Located → ℕ → Name → Bool → Type 0
HasUse p k m is_intrinsic = (place : Place) × (is_only : Bool) × (l : Located) × At p k l × (l.item ≡ Uses place m is_intrinsic is_only)

abbrev pub HasTaken : List Located → ℕ → List ℕ → Name → Type 0
HasTaken p k m used = (local : Name) × (is_renamed : Bool) × (l : Located) × At p k l × (l.item ≡ Takes m local used is_renamed)

abbrev pub HasAccess : List Located → ℕ → ℕ → Name → Type 0
HasAccess p k scope n = (a : Access) × HasItem p k scope (Accesses n a)

abbrev pub HasSelection : List Located → ℕ → Name → Type 0
HasSelection p k n = (l : Located) × At p k l × (l.item ≡ Selects n)

-- the class of what is declared at the place
abbrev pub ClassFound : List Located → ℕ → Option Class → Type 0
ClassFound p k None = (l : Located) (d : Declaration) → At p k l → declaration_of l ≡ Some d → ⊥
ClassFound p k (Some c) = (l : Located) × (d : Declaration) × At p k l × (declaration_of l ≡ Some d) × (d.what.class ≡ c)

abbrev pub ClassOf : List Located → Option Origins → Option Class → Type 0
ClassOf p None c = c ≡ None
ClassOf p (Some o) c = ClassFound p o.first c

-- the name denotes the entity in the module
abbrev pub IsIn : List Located → ℕ → List ℕ → ℕ → Type 0
IsIn p m name k = IsEntity p k × Denotes p m name k
