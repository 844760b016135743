-- Selections of components: a reference names a data object, and behind each `%` a component of the type of the part before it
-- (ISO/IEC 1539-1:2018, 9.4.2, R911, C918 and C919).
use Rattle.std.specs.Prelude.{◌≡◌, ℕ, zero, suc, pred, ◌<◌, ◌⊎◌, List, [], ◌∷◌, Option, Some, None, Bool, true, false}
use Rattle.f_items.specs.declared.item.Name.{Name}
use Rattle.f_items.specs.declared.item.Item.{Item}
use Rattle.f_items.specs.declared.item.Item.TheVariants.{Heads, Refers, Selects, Inside, Outside}
use Rattle.f_items.specs.declared.item.Class.{Class}
use Rattle.f_items.specs.declared.item.Class.TheVariants as class
use Rattle.f_items.specs.declared.item.Need.TheVariants as need
use Rattle.f_items.specs.declared.item.Declared.{Declared}
use Rattle.f_items.specs.declared.item.DeclaredType.TheVariants.{NotDerived, Derived, OfSelector}
use Rattle.f_items.specs.Places.{Open, Located, scope_of, around, At}
use Rattle.f_items.specs.Declarations.{Declaration, declaration_of, IsOwn}
use Rattle.f_items.specs.Accessible.{Visible}

-- ---- declared types (7.3.2 and 7.5.2)

-- one alone has the property
abbrev pub IsOnly : (ℕ → Type 0) → ℕ → Type 0
IsOnly P k = P k × ((j : ℕ) → P j → j ≡ k)

-- the item at place k declares something of this class
pub record IsOfClass (p : List Located) (k : ℕ) (c : Class) : Type 0 where
  pub item : Located
  pub declaration : Declaration
  pub at : At p k item
  pub declares : declaration_of item ≡ Some declaration
  pub class_is : declaration.what.class ≡ c

-- where these scopes are open, the name is that of the derived type that is defined at place t
abbrev pub IsTypeName : List Located → Open → List ℕ → ℕ → Type 0
IsTypeName p scopes name t = IsOnly (Visible p scopes name) t × IsOfClass p t class.DerivedType

-- what is declared at place e is of the derived type that is defined at this place, or of none. Nothing is said where the type's name breaks a rule, nor
-- of the associate name of a selector that is declared behind it: no assumed-rank one is (C838)
pub data IsOfType (p : List Located) : ℕ → Option ℕ → Type 0 where
  OfNone : (e : ℕ) (l : Located) (d : Declaration) → At p e l → declaration_of l ≡ Some d → d.what.of_type ≡ NotDerived → IsOfType p e None
  OfDerived : (e : ℕ) (l : Located) (d : Declaration) (name : List ℕ) (t : ℕ) → At p e l → declaration_of l ≡ Some d → d.what.of_type ≡ Derived name
      → IsTypeName p l.scopes name t → IsOfType p e (Some t)
  -- an associate name has the type of its selector (11.1.10.3)
  AsSelector : (e : ℕ) (l : Located) (d : Declaration) (name : List ℕ) (s : ℕ) (o : Option ℕ) → At p e l → declaration_of l ≡ Some d → d.what.of_type ≡ OfSelector name
      → IsOnly (Visible p (around l.scopes) name) s → s < e → IsOfType p s o → IsOfType p e o

-- the derived type that is defined at place t declares the component at place c (7.5.4)
pub record IsComponent (p : List Located) (t : ℕ) (name : List ℕ) (c : ℕ) : Type 0 where
  pub definition : Located
  pub what : Declared
  pub at : At p t definition
  pub heads : definition.item ≡ Heads what
  pub is_type : what.class ≡ class.DerivedType
  pub own : IsOwn p (scope_of definition).number name c

-- ---- the parts of a reference

-- how many parentheses are open behind an item, where so many are before it
abbrev pub open_behind : ℕ → Item → ℕ
open_behind open_ Inside = suc open_
open_behind open_ Outside = pred open_
open_behind open_ _ = open_

-- how many are open before the item at place k, where so many are before the list
unfoldable pub open_from : ℕ → List Located → ℕ → ℕ
open_from open_ [] k = open_
open_from open_ (l ∷ ls) zero = open_
open_from open_ (l ∷ ls) (suc k) = open_from (open_behind open_ l.item) ls k

abbrev pub open_before : List Located → ℕ → ℕ
open_before p k = open_from 0 p k

-- an item is the name of a part
abbrev pub is_part : Item → Bool
is_part (Refers n need) = true
is_part (Selects n) = true
is_part _ = false

abbrev pub is_inside : Item → Bool
is_inside Inside = true
is_inside _ = false

-- where so many parentheses are open, the part at place j is the last before place k: only parentheses, and what is inside them, stand between
pub record IsLastPart (p : List Located) (open_ j k : ℕ) : Type 0 where
  pub before : j < k
  pub part : Located
  pub at : At p j part
  pub names : is_part part.item ≡ true
  pub open_is : open_before p j ≡ open_
  pub between : (i : ℕ) (l : Located) → j < i → i < k → At p i l → (open_ < open_before p i) ⊎ ((open_before p i ≡ open_) × (is_inside l.item ≡ true))

-- the selection at place k selects from the part at place j
abbrev pub SelectsFrom : List Located → ℕ → ℕ → Type 0
SelectsFrom p k j = IsLastPart p (open_before p k) j k

-- the part at place k is of the derived type that is defined at this place, or of none. Nothing is said of a part that breaks a rule
pub data IsPartOf (p : List Located) : ℕ → Option ℕ → Type 0 where
  -- the first part names a data object
  FirstPart : (k : ℕ) (l : Located) (n : Name) (e : ℕ) (o : Option ℕ) → At p k l → l.item ≡ Refers n need.Object → IsOnly (Visible p l.scopes n.bytes) e
      → IsOfClass p e class.Data → IsOfType p e o → IsPartOf p k o
  -- each other part names a component of the type of the part before it
  OtherPart : (k : ℕ) (l : Located) (n : Name) (j t c : ℕ) (o : Option ℕ) → At p k l → l.item ≡ Selects n → SelectsFrom p k j → IsPartOf p j (Some t)
      → IsComponent p t n.bytes c → IsOfType p c o → IsPartOf p k o
