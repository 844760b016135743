-- The trees of declarations as the grammar has them, without the numbers of their tokens.
use Rattle.std.specs.Prelude.{ℕ, List, [], ◌∷◌, Option, map}
use Rattle.std.specs.Option.{option_map}
use Rattle.c_tree.specs.declared.declaration.Initializer.{Initializer, fold-Initializer}
use Rattle.c_tree.specs.declared.declaration.Initializer.TheOpen as open_
use Rattle.c_tree.specs.declared.declaration.Initializer.TheOpen.{Initializer-F}
use Rattle.c_tree.specs.declared.declaration.InitDeclarator.{InitDeclarator}
use Rattle.c_tree.specs.declared.declaration.Declaration.{Declaration as TreeDeclaration}
use Rattle.c_grammar.specs.Grammar.{Name, Specs, Typed, typed}
use Rattle.c_grammar.specs.Reading.{Reader}
use Rattle.c_unit_grammar.specs.Statements.{Initial, Value, Braced, Initials, no_initials, initial, Init, init, Declaration, Bare, Declares}
use Rattle.c_unit_grammar.specs.Reading.{behind_at}
use Rattle.c_expression_read.specs.Gives.{onto}
use Rattle.c_expression_read.specs.Views.{view, view_declarator, view_specifier, specs_of}

abbrev pub initials_of : List Initial → Initials
initials_of is = onto initial is no_initials

-- in braces there is one initial value at least
abbrev pub first_initial : List Initial → Initial
first_initial [] = Value (Name 0)
first_initial (i ∷ is) = i

abbrev pub other_initials : List Initial → Initials
other_initials [] = no_initials
other_initials (i ∷ is) = initials_of is

abbrev pub initial_seen : Initializer-F Initial → Initial
initial_seen (open_.Value e) = Value (view e)
initial_seen (open_.Braced items has_comma at) = Braced (first_initial items) (other_initials items) has_comma

abbrev pub view_initializer : Initializer → Initial
view_initializer = fold-Initializer Initial initial_seen

abbrev pub view_init : InitDeclarator → Init
view_init d = init (view_declarator d.declarator) (option_map view_initializer d.value)

-- specifiers with the declarators behind them
abbrev pub declaration_of : Specs → List Init → Declaration
declaration_of specs [] = Bare specs
declaration_of specs (i ∷ is) = Declares specs i is

abbrev pub view_declaration : TreeDeclaration → Declaration
view_declaration d = declaration_of (specs_of (map view_specifier d.specifiers)) (map view_init d.declarators)

-- with a first declarator its initial value and the others
abbrev pub with_first : Typed → Option Initial → List Init → Declaration
with_first (typed specs d) value is = Declares specs (init d value) is

-- what stands behind specifiers and a first declarator
abbrev pub behind_typed : ℕ → Typed → Reader Declaration
behind_typed n (typed specs d) s ts = behind_at n specs d s ts
