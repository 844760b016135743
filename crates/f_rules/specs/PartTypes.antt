-- The types of the parts of references, as far as declarations say them.
use Rattle.std.specs.Prelude.{◌≡◌, ◌<◌, ℕ, suc, List, [], ◌∷◌, Bool, true, false, Option, Some, None, is_some, length, nat_lt, slice_index_or, if◌then◌else◌}
use Rattle.f_items.specs.declared.item.Name.{Name}
use Rattle.f_items.specs.declared.item.Item.{Item}
use Rattle.f_items.specs.declared.item.Item.TheVariants.{Refers, Selects, Inside, Outside}
use Rattle.f_items.specs.declared.item.Class.{Class}
use Rattle.f_items.specs.declared.item.Class.TheVariants as class
use Rattle.f_items.specs.declared.item.Need.TheVariants as need
use Rattle.f_items.specs.declared.item.DeclaredType.{DeclaredType}
use Rattle.f_items.specs.Places.{Open, Located, scope_of, around, At}
use Rattle.f_items.specs.Declarations.{Declaration, declaration_of}
use Rattle.f_items.specs.Accessible.{Visible}
use Rattle.f_items.specs.Selections.{IsOnly, IsTypeName, IsOfType, IsComponent, open_before, IsLastPart, IsPartOf}
use Rattle.f_use.specs.declared.origins.Origins.{Origins}
use Rattle.f_rules.specs.declared.declared_types.PartType.{PartType}
use Rattle.f_rules.specs.declared.declared_types.PartType.TheVariants.{Untold, NotDerived, Derived}
use Rattle.f_rules.specs.declared.declared_types.TypeStep.{TypeStep}
use Rattle.f_rules.specs.declared.declared_types.TypeStep.TheVariants.{Told, SameAs}
use Rattle.f_rules.specs.Standing.{ClassFound}

-- what is said of a type: which it is, that it is no derived one, or nothing
abbrev pub TypeTold : (Option ℕ → Type 0) → PartType → Type 0
TypeTold P Untold = (o : Option ℕ) → P o → ⊥
TypeTold P NotDerived = P None
TypeTold P (Derived t) = P (Some t)

-- ---- what is found, where it is the only one

abbrev pub only : Option Origins → Option ℕ
only None = None
only (Some o) = if is_some o.other then None else Some o.first

-- the class of what is declared at a place, where there is one
abbrev pub ClassAt : List Located → Option ℕ → Option Class → Type 0
ClassAt p None c = c ≡ None
ClassAt p (Some k) c = ClassFound p k c

abbrev pub is_type_class : Option Class → Bool
is_type_class (Some class.DerivedType) = true
is_type_class _ = false

abbrev pub is_data_class : Option Class → Bool
is_data_class (Some class.Data) = true
is_data_class _ = false

-- a place of what has the class, or of a type
abbrev pub where_holds : Option ℕ → Bool → Option ℕ
where_holds found holds = if holds then found else None

abbrev pub type_by : Option ℕ → PartType
type_by None = Untold
type_by (Some t) = Derived t

abbrev pub before : Option ℕ → ℕ → Option ℕ
before None place = None
before (Some s) place = if nat_lt s place then Some s else None

-- ---- declared types

-- the name denotes a derived type, which is the one
abbrev pub NamesType : List Located → Open → List ℕ → Option ℕ → Type 0
NamesType p scopes name None = ⊥
NamesType p scopes name (Some t) = IsTypeName p scopes name t

abbrev pub TypeNamed : List Located → ℕ → List ℕ → PartType → Type 0
TypeNamed p scope name r = (k : ℕ) (l : Located) → At p k l → (scope_of l).number ≡ scope → TypeTold (NamesType p l.scopes name) r

-- the selector of this name that is declared before the place
abbrev pub IsSelector : List Located → Open → List ℕ → ℕ → ℕ → Type 0
IsSelector p scopes name place s = IsOnly (Visible p (around scopes) name) s × (s < place)

abbrev pub SelectorIs : List Located → Open → List ℕ → ℕ → Option ℕ → Type 0
SelectorIs p scopes name place None = (s : ℕ) → IsSelector p scopes name place s → ⊥
SelectorIs p scopes name place (Some s) = IsSelector p scopes name place s

abbrev pub SelectorFound : List Located → ℕ → ℕ → List ℕ → Option ℕ → Type 0
SelectorFound p scope place name r = (k : ℕ) (l : Located) → At p k l → (scope_of l).number ≡ scope → SelectorIs p l.scopes name place r

-- the item at the place, which stands in this scope, declares something of this type
abbrev pub HasType : List Located → ℕ → ℕ → DeclaredType → Type 0
HasType p k scope t = (l : Located) × (d : Declaration) × At p k l × (declaration_of l ≡ Some d) × ((scope_of l).number ≡ scope) × (d.what.of_type ≡ t)

-- what is declared at place e is of the type of what is declared at place s
pub record IsSame (p : List Located) (e s : ℕ) : Type 0 where
  pub before : s < e
  pub to : (o : Option ℕ) → IsOfType p s o → IsOfType p e o
  pub from : (o : Option ℕ) → IsOfType p e o → IsOfType p s o

abbrev pub StepTold : List Located → ℕ → TypeStep → Type 0
StepTold p e (Told t) = TypeTold (IsOfType p e) t
StepTold p e (SameAs s) = IsSame p e s

abbrev pub step_of : Option ℕ → TypeStep
step_of None = Told Untold
step_of (Some s) = SameAs s

-- the component of a derived type, or that there is none
abbrev pub ComponentFound : List Located → ℕ → List ℕ → Option ℕ → Type 0
ComponentFound p t name None = (c : ℕ) → IsComponent p t name c → ⊥
ComponentFound p t name (Some c) = IsComponent p t name c

-- ---- the types of parts

abbrev pub ObjectTold : List Located → ℕ → List ℕ → PartType → Type 0
ObjectTold p scope name r = (k : ℕ) (l : Located) (n : Name) → At p k l → (scope_of l).number ≡ scope → l.item ≡ Refers n need.Object → n.bytes ≡ name
    → TypeTold (IsPartOf p k) r

-- a component of this name is of the type
abbrev pub IsComponentOf : List Located → ℕ → List ℕ → Option ℕ → Type 0
IsComponentOf p t name o = (c : ℕ) × IsComponent p t name c × IsOfType p c o

abbrev pub ComponentTold : List Located → PartType → List ℕ → PartType → Type 0
ComponentTold p Untold name r = r ≡ Untold
ComponentTold p NotDerived name r = r ≡ Untold
ComponentTold p (Derived t) name r = TypeTold (IsComponentOf p t name) r

-- the type of a part that an item of the scope names, by the type of the part before it
abbrev pub ItemTold : List Located → ℕ → PartType → Item → PartType → Type 0
ItemTold p scope base (Refers n need.Object) r = ObjectTold p scope n.bytes r
ItemTold p scope base (Selects n) r = ComponentTold p base n.bytes r
ItemTold p scope base _ r = r ≡ Untold

-- the type of the last part before a place, where so many parentheses are open
abbrev pub LastTold : List Located → ℕ → ℕ → PartType → Type 0
LastTold p open_ k t = TypeTold (λ o. (j : ℕ) × IsLastPart p open_ j k × IsPartOf p j o) t

-- ---- along items: the type of the last part, and those of the last parts outside each open parenthesis, the innermost first

pub record PartLevels : Type 0 where
  pub current : PartType
  pub outer : List PartType

abbrev pub closed : List PartType → PartLevels
closed [] = record { current = Untold; outer = [] }
closed (t ∷ ts) = record { current = t; outer = ts }

abbrev pub passed : Item → PartType → PartLevels → PartLevels
passed Inside t s = record { current = Untold; outer = s.current ∷ s.outer }
passed Outside t s = closed s.outer
passed _ t s = record { current = t; outer = s.outer }

abbrev pub OuterTold : List Located → ℕ → List PartType → Type 0
OuterTold p k [] = Unit {0}
OuterTold p k (t ∷ ts) = LastTold p (length ts) k t × OuterTold p k ts

pub record AreLevels (p : List Located) (k : ℕ) (s : PartLevels) : Type 0 where
  pub depth : length s.outer ≡ open_before p k
  pub current_told : LastTold p (open_before p k) k s.current
  pub outer_told : OuterTold p k s.outer

abbrev pub type_in : List PartType → ℕ → PartType
type_in types k = slice_index_or types k Untold

-- for each item the type of the part from which it would select
abbrev pub ArePartTypes : List Located → List PartType → Type 0
ArePartTypes p types = (k : ℕ) (l : Located) → At p k l → LastTold p (open_before p k) k (type_in types k)

-- the type of what is declared at a place, where there is one
abbrev pub TypeWhere : List Located → Option ℕ → PartType → Type 0
TypeWhere p None t = t ≡ Untold
TypeWhere p (Some e) t = TypeTold (IsOfType p e) t

-- the component of a derived type, where it is one
abbrev pub ComponentOf : List Located → PartType → List ℕ → Option ℕ → Type 0
ComponentOf p Untold name c = c ≡ None
ComponentOf p NotDerived name c = c ≡ None
ComponentOf p (Derived t) name c = ComponentFound p t name c
