-- Items in front of a rest.
use Rattle.std.specs.Prelude.{ℕ, List, [], ◌∷◌, Option, Some, None}
use Rattle.jf_base.specs.declared.place.Place.{Place}
use Rattle.f_lex.specs.declared.token.Kind.{Kind}
use Rattle.f_lex.specs.declared.token.Kind.TheVariants as kind_form
use Rattle.f_tree.specs.declared.name.Name.{Name as TreeName}
use Rattle.f_items.specs.declared.item.Name.{Name}
use Rattle.f_items.specs.declared.item.Access.{Access}
use Rattle.f_items.specs.declared.item.Class.{Class}
use Rattle.f_items.specs.declared.item.DeclaredType.{DeclaredType}
use Rattle.f_items.specs.declared.item.DeclaredType.TheVariants.{NotDerived}
use Rattle.f_items.specs.declared.item.Share.{Share}
use Rattle.f_items.specs.declared.item.Share.TheVariants.{Whole}
use Rattle.f_items.specs.declared.item.Need.{Need}
use Rattle.f_items.specs.declared.item.Need.TheVariants as need
use Rattle.f_items.specs.declared.item.Declared.{Declared}
use Rattle.f_items.specs.declared.item.Item.{Item}
use Rattle.f_items.specs.declared.item.Item.TheVariants.{Declares, Heads, Refers, Inside, Outside}

-- what stands in front of what follows
abbrev pub Front : Type 0
Front = List Item → List Item

-- a tree's name in an item
abbrev pub name_of : TreeName → Name
name_of n = record { bytes = n.bytes; place = n.place }

abbrev pub refers : TreeName → Need → Front
refers n need rest = Refers (name_of n) need ∷ rest

abbrev pub declared_as : TreeName → Class → Share → DeclaredType → Option Access → Declared
declared_as n c s t a = record { name = name_of n; class = c; share = s; of_type = t; access = a }

abbrev pub declares : TreeName → Class → Share → DeclaredType → Option Access → Front
declares n c s t a rest = Declares (declared_as n c s t a) ∷ rest

-- the kind of a literal, where it is a name; a literal with its kind is one token
abbrev pub kind_name : Option Kind → Place → Front
kind_name None p rest = rest
kind_name (Some (kind_form.Number digits)) p rest = rest
kind_name (Some (kind_form.Name name)) p rest = Refers (record { bytes = name; place = p }) need.Value ∷ rest

-- in parentheses behind a name
abbrev pub inside : Front → Front
inside f rest = Inside ∷ f (Outside ∷ rest)

-- where it is there
abbrev pub optional : Option Front → Front
optional None rest = rest
optional (Some f) rest = f rest

-- one behind the other
abbrev pub each : List Front → Front
each [] rest = rest
each (f ∷ fs) rest = f (each fs rest)

-- one behind the other, each given the same
abbrev pub each_given : {A : Type 0} → A → List (A → Front) → Front
each_given a [] rest = rest
each_given a (f ∷ fs) rest = f a (each_given a fs rest)

-- the items of a part, where it is there
abbrev pub if_there : {A : Type 0} → (A → Front) → Option A → Front
if_there f None rest = rest
if_there f (Some x) rest = f x rest

-- the name of a scope, declared wholly in the scope around it
abbrev pub heads : TreeName → Class → Option Access → Front
heads n c a rest = Heads (declared_as n c Whole NotDerived a) ∷ rest
