-- What follows from the rules on names.
use Rattle.std.specs.Prelude.{◌≡◌, ℕ, List, [], Option, Some}
use Rattle.f_items.specs.declared.item.Name.{Name}
use Rattle.f_items.specs.Places.{Open, Located, At}
use Rattle.f_items.specs.Declarations.{IsDeclared}
use Rattle.f_items.specs.Accessible.{IsModule, IsUsed, Denotes, Visible}
use Rattle.f_items.specs.declared.item.Item.TheVariants.{Selects}
use Rattle.f_items.specs.Selections.{SelectsFrom, IsPartOf, IsComponent}
use Rattle.f_items.specs.Rules.{Finds, Breaks, sought}
use Rattle.f_items.specs.Order.{InOrder}
use Rattle.f_items.specs.Scoped.{BreaksFirst, IsKept}

-- an item that breaks no rule finds one declaration at most
abbrev pub FindsOne : Type 0
FindsOne = (p : List Located) (k : ℕ) (l : Located) → ((rule : ℕ) → Breaks p k l rule → ⊥) → (i j : ℕ) → Finds p l i → Finds p l j → i ≡ j

-- and what it seeks isn't missing
abbrev pub FindsSome : Type 0
FindsSome = (p : List Located) (k : ℕ) (l : Located) (n : Name) → ((rule : ℕ) → Breaks p k l rule → ⊥) → sought l.item ≡ Some n → ((j : ℕ) → Finds p l j → ⊥) → ⊥

-- a part of a reference has one type at most
abbrev pub OnePartType : Type 0
OnePartType = (p : List Located) (k : ℕ) (a b : Option ℕ) → IsPartOf p k a → IsPartOf p k b → a ≡ b

-- a selection has one part before it at most
abbrev pub OnePartBefore : Type 0
OnePartBefore = (p : List Located) (k i j : ℕ) → SelectsFrom p k i → SelectsFrom p k j → i ≡ j

-- a selection from what is of a derived type, which breaks no rule, doesn't miss its component
abbrev pub SelectsSome : Type 0
SelectsSome = (p : List Located) (k : ℕ) (l : Located) (n : Name) (j t : ℕ) → ((rule : ℕ) → Breaks p k l rule → ⊥) → l.item ≡ Selects n → SelectsFrom p k j
    → IsPartOf p j (Some t) → ((c : ℕ) → IsComponent p t n.bytes c → ⊥) → ⊥

-- where no rule is broken, a scope declares a name once
abbrev pub DeclaresOnce : Type 0
DeclaresOnce = (p : List Located) → IsKept p → (scope : ℕ) (name : List ℕ) (i j : ℕ) → IsDeclared p scope name i → IsDeclared p scope name j → i ≡ j

-- and doesn't declare what it uses
abbrev pub DeclaresNoneUsed : Type 0
DeclaresNoneUsed = (p : List Located) → IsKept p → (scope : ℕ) (name : List ℕ) (i j : ℕ) → IsDeclared p scope name i → IsUsed p scope name j → ⊥

-- and a module is the only one of its name
abbrev pub OneModule : Type 0
OneModule = (p : List Located) → IsKept p → (name : List ℕ) (m n : ℕ) → IsModule p name m → IsModule p name n → m ≡ n

-- units have one order
abbrev pub OneOrder : Type 0
OneOrder = (p : List Located) (us vs : List ℕ) → InOrder p [] us → InOrder p [] vs → us ≡ vs

-- one rule is broken first
abbrev pub OneFirst : Type 0
OneFirst = (p : List Located) (i j r q : ℕ) → BreaksFirst p i r → BreaksFirst p j q → (i ≡ j) × (r ≡ q)

-- and none where none is broken
abbrev pub NoneFirst : Type 0
NoneFirst = (p : List Located) (k r : ℕ) → IsKept p → BreaksFirst p k r → ⊥
