-- The rules on names, and which an item breaks (ISO/IEC 1539-1:2018, 19.3.1, 14.2.2, 8.7 and 8.8).
use Rattle.std.specs.Prelude.{◌≡◌, ℕ, ◌<◌, List, Option, Some, None, Bool, true, false, codes}
use Rattle.std.specs.Str.{bytes_eq}
use Rattle.jf_base.specs.declared.place.Place.{Place}
use Rattle.f_items.specs.declared.item.Name.{Name}
use Rattle.f_items.specs.declared.item.Item.{Item}
use Rattle.f_items.specs.declared.item.Item.TheVariants.{Enter, Declares, Heads, Uses, Takes, Imports, Accesses, Refers, Selects, Untyped}
use Rattle.f_items.specs.declared.item.Access.{Access}
use Rattle.f_items.specs.declared.item.Class.{Class}
use Rattle.f_items.specs.declared.item.Class.TheVariants as class
use Rattle.f_items.specs.declared.item.Need.{Need}
use Rattle.f_items.specs.declared.item.Need.TheVariants as need
use Rattle.f_items.specs.declared.item.Share.TheVariants.{Announced}
use Rattle.f_items.specs.Places.{Located, scope_of, around, At}
use Rattle.f_items.specs.Declarations.{Declaration, declaration_of, IsDeclared, Clash}
use Rattle.f_items.specs.Accessible.{Stands, IsModule, is_public, IsEntity, Denotes, IsUsed, Visible}
use Rattle.f_items.specs.Selections.{SelectsFrom, IsPartOf, IsComponent}

-- ---- what a reference finds

-- the name that an item seeks
abbrev pub sought : Item → Option Name
sought (Takes m l u r) = Some u
sought (Imports n) = Some n
sought (Accesses n a) = Some n
sought (Refers n need) = Some n
sought _ = None

-- what the name of an item denotes: where it stands, in the scope around an interface body, in the module itself, or in the used module
pub data Finds (p : List Located) (l : Located) : ℕ → Type 0 where
  FindsVisible : (n : Name) (need : Need) (k : ℕ) → l.item ≡ Refers n need → Visible p l.scopes n.bytes k → Finds p l k
  FindsOutside : (n : Name) (k : ℕ) → l.item ≡ Imports n → Visible p (around l.scopes) n.bytes k → Finds p l k
  FindsOwn : (n : Name) (a : Access) (k : ℕ) → l.item ≡ Accesses n a → Denotes p (scope_of l).number n.bytes k → Finds p l k
  FindsUsed : (m : List ℕ) (local used : Name) (is_renamed : Bool) (t k : ℕ) → l.item ≡ Takes m local used is_renamed → IsModule p m t → IsEntity p k
      → Denotes p t used.bytes k → Finds p l k

-- ---- classes

-- a name of this class can stand where this is needed
abbrev pub fits : Need → Class → Bool
fits need.Value class.Data = true
fits need.Value class.Procedure = true
fits need.Value class.ProcedurePointer = true
fits need.Value _ = false
fits need.Applied class.Data = true
fits need.Applied class.Procedure = true
fits need.Applied class.ProcedurePointer = true
fits need.Applied class.DerivedType = true
fits need.Applied _ = false
fits need.Called class.Procedure = true
fits need.Called class.ProcedurePointer = true
fits need.Called _ = false
fits need.Type class.DerivedType = true
fits need.Type _ = false
fits need.Interface class.Procedure = true
fits need.Interface class.AbstractInterface = true
fits need.Interface _ = false
fits need.Variable class.Data = true
fits need.Variable _ = false
fits need.Object class.Data = true
fits need.Object _ = false
fits need.Accessible class.UnitName = false
fits need.Accessible _ = true

-- what an item needs of the name that it seeks
abbrev pub need_of : Item → Option Need
need_of (Imports n) = Some need.Accessible
need_of (Accesses n a) = Some need.Accessible
need_of (Refers n need) = Some need
need_of _ = None

-- ---- the rules by their numbers

-- another declaration of the same name in the same scope stands before
pub record IsTwice (p : List Located) (k : ℕ) (d : Declaration) : Type 0 where
  pub place : ℕ
  pub item : Located
  pub first : Declaration
  pub before : place < k
  pub at : At p place item
  pub declares : declaration_of item ≡ Some first
  pub same_scope : first.scope ≡ d.scope
  pub same_name : first.what.name.bytes ≡ d.what.name.bytes
  pub clash : Clash first.what.share d.what.share

abbrev pub is_iso_c_binding : List ℕ → Bool
is_iso_c_binding name = bytes_eq name (codes "iso_c_binding")

-- the item at place k breaks the rule with this number
pub data Breaks (p : List Located) (k : ℕ) (l : Located) : ℕ → Type 0 where
  -- N01: a name is declared once in a scope, and isn't declared where it is used or imported by name
  DeclaredTwice : (d : Declaration) → declaration_of l ≡ Some d → IsTwice p k d → Breaks p k l 1
  DeclaredAndUsed : (d : Declaration) (j : ℕ) → declaration_of l ≡ Some d → IsUsed p d.scope d.what.name.bytes j → Breaks p k l 1
  DeclaredAndImported : (d : Declaration) (n : Name) → declaration_of l ≡ Some d → n.bytes ≡ d.what.name.bytes → Stands p d.scope (Imports n) → Breaks p k l 1
  -- N02: a name is declared, and so is what a head announces
  OnlyAnnounced : (d : Declaration) → declaration_of l ≡ Some d → d.what.share ≡ Announced → ((j : ℕ) → IsDeclared p d.scope d.what.name.bytes j → ⊥) → Breaks p k l 2
  NotDeclared : (n : Name) → sought l.item ≡ Some n → ((j : ℕ) → Finds p l j → ⊥) → Breaks p k l 2
  -- the derived type of what a component is selected from declares it. That there is a derived type is a rule on types (9.4.2)
  NoComponent : (n : Name) (j t : ℕ) → l.item ≡ Selects n → SelectsFrom p k j → IsPartOf p j (Some t) → ((c : ℕ) → IsComponent p t n.bytes c → ⊥) → Breaks p k l 2
  -- N03: a used name is public
  NotPublic : (m : List ℕ) (local used : Name) (is_renamed : Bool) (t j : ℕ) → l.item ≡ Takes m local used is_renamed → IsModule p m t → Finds p l j
      → is_public p t used.bytes ≡ false → Breaks p k l 3
  -- N04: a used module is there, and an intrinsic one is ISO_C_BINDING
  NoModule : (place : Place) (m : Name) (is_intrinsic is_only : Bool) → l.item ≡ Uses place m is_intrinsic is_only → ((t : ℕ) → IsModule p m.bytes t → ⊥) → Breaks p k l 4
  NotIntrinsic : (place : Place) (m : Name) (is_only : Bool) → l.item ≡ Uses place m true is_only → is_iso_c_binding m.bytes ≡ false → Breaks p k l 4
  -- N06: a referenced name comes from one entity only
  FromTwo : (i j : ℕ) → Finds p l i → Finds p l j → (i ≡ j → ⊥) → Breaks p k l 6
  -- N07: IMPLICIT NONE stands in a program, module or external procedure
  NotTyped : (place : Place) → l.item ≡ Untyped place → Breaks p k l 7
  -- N08: a name has the class that its place needs
  NotFit : (n : Need) (j : ℕ) (item : Located) (d : Declaration) → need_of l.item ≡ Some n → Finds p l j → At p j item → declaration_of item ≡ Some d
      → fits n d.what.class ≡ false → Breaks p k l 8

-- the first token of what breaks a rule
abbrev pub place_of : Item → Place → Place
place_of (Enter k p) other = p
place_of (Declares d) other = d.name.place
place_of (Heads d) other = d.name.place
place_of (Uses p m i o) other = m.place
place_of (Takes m l u r) other = u.place
place_of (Imports n) other = n.place
place_of (Accesses n a) other = n.place
place_of (Refers n need) other = n.place
place_of (Selects n) other = n.place
place_of (Untyped p) other = p
place_of _ other = other
