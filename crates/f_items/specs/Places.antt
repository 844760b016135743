-- Items with the scopes that they stand in. Scopes are numbered in the order in which they begin; number 0 is what is around the program units.
use Rattle.std.specs.Prelude.{◌≡◌, ℕ, suc, List, [], ◌∷◌, Some, slice_get, Bool, true, false}
use Rattle.f_items.specs.declared.item.Item.{Item}
use Rattle.f_items.specs.declared.item.Item.TheVariants.{Enter, Leave}
use Rattle.f_items.specs.declared.item.ScopeKind.{ScopeKind}
use Rattle.f_items.specs.declared.item.ScopeKind.TheVariants as kind

-- a scope: its number and its kind
pub record Scope : Type 0 where
  pub number : ℕ
  pub kind : ScopeKind

-- the scopes that are open, the innermost first
abbrev pub Open : Type 0
Open = List Scope

-- what is around the program units, with the intrinsic procedures
abbrev pub outermost : Scope
outermost = record { number = 0; kind = kind.Intrinsic }

-- an item, and the scopes that it stands in
pub record Located : Type 0 where
  pub item : Item
  pub scopes : Open

abbrev pub innermost : Open → Scope
innermost [] = outermost
innermost (s ∷ ss) = s

abbrev pub around : Open → Open
around [] = []
around (s ∷ ss) = ss

abbrev pub last_of : Scope → Open → Scope
last_of s [] = s
last_of s (t ∷ ts) = last_of t ts

-- the scope that an item stands in, and the scope around that
abbrev pub scope_of : Located → Scope
scope_of l = innermost l.scopes

abbrev pub host_of : Located → Scope
host_of l = innermost (around l.scopes)

-- the program unit that an item stands in, by the number of its scope
abbrev pub unit_of : Located → ℕ
unit_of l = (last_of outermost l.scopes).number

-- ---- which scopes are open: the begin of a scope stands in it, and so does its end

abbrev pub opened : ℕ → Open → Item → Open
opened next open_ (Enter k place) = record { number = next; kind = k } ∷ open_
opened next open_ _ = open_

abbrev pub closed : Open → Item → Open
closed open_ Leave = around open_
closed open_ _ = open_

abbrev pub counted : ℕ → Item → ℕ
counted next (Enter k place) = suc next
counted next _ = next

-- items with their scopes, where so many scopes began before and these are open
unfoldable pub located : ℕ → Open → List Item → List Located
located next open_ [] = []
located next open_ (i ∷ is) = record { item = i; scopes = opened next open_ i } ∷ located (counted next i) (closed (opened next open_ i) i) is

-- the item at a place of a list
abbrev pub At : List Located → ℕ → Located → Type 0
At p k l = slice_get p k ≡ Some l

abbrev pub is_enter : Item → Bool
is_enter (Enter k place) = true
is_enter _ = false

-- a scope begins in the list, and these are open in it
pub record Begins (p : List Located) (scopes : Open) : Type 0 where
  pub place : ℕ
  pub begin : Located
  pub at : At p place begin
  pub enters : is_enter begin.item ≡ true
  pub scopes_are : begin.scopes ≡ scopes
