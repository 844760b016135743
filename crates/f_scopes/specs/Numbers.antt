-- The scopes of a program by their numbers (ISO/IEC 1539-1:2018, 19.1 to 19.4).
use Rattle.std.specs.Prelude.{◌≡◌, ℕ, suc, List, [], ◌∷◌, ◌++◌, map, Option, Some, None, if◌then◌else◌}
use Rattle.std.specs.Option.{option_map}
use Rattle.f_items.specs.declared.item.Item.{Item}
use Rattle.f_items.specs.declared.item.ScopeKind.{ScopeKind}
use Rattle.f_items.specs.Places.{Scope, Open, Located, innermost, scope_of, is_enter, located, At}
use Rattle.f_scope.specs.declared.placement.Placed.{Placed}
use Rattle.f_scope.specs.BuiltIn.{before_program}

-- the items of a text behind what is there before a program
abbrev pub IsText : List Located → Type 0
IsText p = (items : List Item) × (p ≡ located 1 [] (before_program ++ items))

-- how many scopes begin
unfoldable pub begun : List Item → ℕ
begun [] = 0
begun (i ∷ is) = if is_enter i then suc (begun is) else begun is

abbrev pub item_of : Located → Item
item_of l = l.item

abbrev pub placed_item : Placed → Item
placed_item x = x.item

-- how many scopes there are, with what is around the program units
abbrev pub scope_count : List Located → ℕ
scope_count p = suc (begun (map item_of p))

abbrev pub number_of : Located → ℕ
number_of l = (scope_of l).number

-- the number of the scope that an item stands in
abbrev pub scope_number : Option Located → Option ℕ
scope_number = option_map number_of

abbrev pub item_at : Option Located → Option Item
item_at = option_map item_of

-- an item stands in the scope
abbrev pub IsScope : List Located → Scope → Type 0
IsScope p s = (k : ℕ) × (l : Located) × At p k l × (scope_of l ≡ s)

-- the kind of the scope with this number, or that there is no such scope
abbrev pub KindFound : List Located → ℕ → Option ScopeKind → Type 0
KindFound p s None = (kind : ScopeKind) → IsScope p (record { number = s; kind = kind }) → ⊥
KindFound p s (Some kind) = IsScope p (record { number = s; kind = kind })

-- the scope with the number `host` is around the scope with this one
pub record IsHost (p : List Located) (s host : ℕ) : Type 0 where
  pub place : ℕ
  pub located : Located
  pub inner : Scope
  pub outer : Open
  pub at : At p place located
  pub scopes_are : located.scopes ≡ inner ∷ outer
  pub scope_is : inner.number ≡ s
  pub host_is : (innermost outer).number ≡ host

-- the scope around a scope, or that there is none
abbrev pub HostFound : List Located → ℕ → Option ℕ → Type 0
HostFound p s None = (host : ℕ) → IsHost p s host → ⊥
HostFound p s (Some host) = IsHost p s host
