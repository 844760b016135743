-- The names in specifications, interfaces, procedures and program units (ISO/IEC 1539-1:2018, 5.2.1, 14, 15.4.3.2 and 15.6.2), each in front of a rest.
use Rattle.std.specs.Prelude.{ℕ, List, [], ◌∷◌, ◌++◌, Option, Some, None, Bool, true, false, if◌then◌else◌, map}
use Rattle.jf_base.specs.declared.place.Place.{Place}
use Rattle.f_tree.specs.declared.name.Name.{Name as TreeName}
use Rattle.f_tree.specs.declared.unit.ProcedureKind.{ProcedureKind}
use Rattle.f_tree.specs.declared.unit.ProcedureKind.TheVariants.{Subroutine, Function}
use Rattle.f_tree.specs.declared.unit.Prefix.{Prefix}
use Rattle.f_tree.specs.declared.unit.Prefix.TheVariants as prefix_form
use Rattle.f_tree.specs.declared.unit.Suffix.{Suffix}
use Rattle.f_tree.specs.declared.unit.Suffix.TheVariants as suffix_form
use Rattle.f_tree.specs.declared.unit.Head.{Head}
use Rattle.f_tree.specs.declared.unit.Procedure.{Procedure}
use Rattle.f_tree.specs.declared.unit.Program.{Program}
use Rattle.f_tree.specs.declared.unit.Module.{Module}
use Rattle.f_tree.specs.declared.unit.Unit.{Unit as ProgramUnit}
use Rattle.f_tree.specs.declared.unit.Unit.TheVariants as unit_form
use Rattle.f_tree.specs.declared.declaration.Declaration.{Declaration, fold-Declaration}
use Rattle.f_tree.specs.declared.declaration.Declaration.TheOpen as open_
use Rattle.f_tree.specs.declared.declaration.Declaration.TheOpen.{Declaration-F, Interface-F, InterfaceBody-F, Specification-F}
use Rattle.f_tree.specs.declared.declaration.Declaration.TheFolds.{fold-Interface, fold-InterfaceBody, fold-Specification}
use Rattle.f_tree.specs.declared.declaration.Interface.{Interface}
use Rattle.f_tree.specs.declared.declaration.InterfaceBody.{InterfaceBody}
use Rattle.f_tree.specs.declared.declaration.Specification.{Specification}
use Rattle.f_items.specs.declared.item.Class.{Class}
use Rattle.f_items.specs.declared.item.Class.TheVariants as class
use Rattle.f_items.specs.declared.item.DeclaredType.{DeclaredType}
use Rattle.f_items.specs.declared.item.DeclaredType.TheVariants.{NotDerived}
use Rattle.f_items.specs.declared.item.ScopeKind.{ScopeKind}
use Rattle.f_items.specs.declared.item.ScopeKind.TheVariants as kind
use Rattle.f_items.specs.declared.item.Share.{Share}
use Rattle.f_items.specs.declared.item.Share.TheVariants.{Whole, Announced}
use Rattle.f_items.specs.declared.item.Item.{Item}
use Rattle.f_items.specs.declared.item.Item.TheVariants.{Enter, Leave, Untyped}
use Rattle.f_scope.specs.BuiltIn.{before_program}
use Rattle.f_unit_items.specs.Fronts.{Front, declares, heads, each, each_given, if_there}
use Rattle.f_unit_items.specs.Expressions.{Nothing, type_spec, type_place, declared_type}
use Rattle.f_unit_items.specs.Statements.{statement}
use Rattle.f_unit_items.specs.Declarations.{bind_list, variables, derived_type, use_statement, import_statement, access_statement, procedure_pointers}

-- ---- heads (15.6.2): a procedure begins a scope, and its prefixes, dummy arguments and suffixes stand in it

abbrev pub prefix : Prefix → Front
prefix (prefix_form.Recursive p) rest = rest
prefix (prefix_form.Type t) rest = type_spec t rest

-- where a prefix begins
abbrev pub prefix_place : Prefix → Place
prefix_place (prefix_form.Recursive p) = p
prefix_place (prefix_form.Type t) = type_place t

-- where a head begins that has these prefixes and this word behind them
abbrev pub place_before : List Prefix → Place → Place
place_before [] p = p
place_before (x ∷ xs) p = prefix_place x

abbrev pub head_place : Head → Place
head_place h = place_before h.prefixes h.place

abbrev pub is_type : Prefix → Bool
is_type (prefix_form.Recursive p) = false
is_type (prefix_form.Type t) = true

-- a result that has its type from a prefix is declared by that; else it is announced
unfoldable pub result_share : List Prefix → Share
result_share [] = Announced
result_share (x ∷ xs) = if is_type x then Whole else result_share xs

abbrev pub prefix_type : Prefix → DeclaredType
prefix_type (prefix_form.Recursive p) = NotDerived
prefix_type (prefix_form.Type t) = declared_type t

-- a result's type, where a prefix has it
unfoldable pub result_type : List Prefix → DeclaredType
result_type [] = NotDerived
result_type (x ∷ xs) = if is_type x then prefix_type x else result_type xs

abbrev pub result_name : List Prefix → TreeName → Front
result_name ps n rest = declares n class.Data (result_share ps) (result_type ps) None rest

abbrev pub suffix : List Prefix → Suffix → Front
suffix ps (suffix_form.Bind p b) rest = bind_list b rest
suffix ps (suffix_form.Result p n) rest = result_name ps n rest

abbrev pub is_result : Suffix → Bool
is_result (suffix_form.Bind p b) = false
is_result (suffix_form.Result p n) = true

unfoldable pub has_result : List Suffix → Bool
has_result [] = false
has_result (x ∷ xs) = if is_result x then true else has_result xs

-- a procedure's name in its own scope: that of a function whose result has no other name is the result's (15.6.2.2)
abbrev pub own_name : ProcedureKind → Bool → List Prefix → TreeName → Front
own_name Function false ps n rest = result_name ps n rest
own_name _ _ ps n rest = declares n class.Procedure Whole NotDerived None rest

abbrev pub dummy : TreeName → Front
dummy n rest = declares n class.Data Announced NotDerived None rest

abbrev pub dummies : List TreeName → Front
dummies ns rest = each (map dummy ns) rest

-- the name of a procedure in the scope around it: an external procedure has none there, since another unit sees it by an interface body alone
abbrev pub host_name : Option Class → TreeName → Front
host_name None n rest = rest
host_name (Some c) n rest = heads n c None rest

abbrev pub head : ScopeKind → Option Class → Head → Front
head k c h rest = Enter k (head_place h) ∷ each (map prefix h.prefixes) (host_name c h.name (own_name h.kind (has_result h.suffixes) h.prefixes h.name
    (if_there dummies h.dummies (each (map (suffix h.prefixes) h.suffixes) rest))))

-- ---- specifications (5.2.1): an interface body is given the class of its name

abbrev pub BodyFront : Type 0
BodyFront = Class → Front

abbrev pub declaration_step : Declaration-F Front Front BodyFront Front → Front
declaration_step (open_.Variables v) rest = variables v rest
declaration_step (open_.DerivedType t) rest = derived_type t rest
declaration_step (open_.Interface i) rest = i rest
declaration_step (open_.Access a) rest = access_statement a rest
declaration_step (open_.Save p) rest = rest
declaration_step (open_.ProcedurePointers p) rest = procedure_pointers p rest

-- what an interface block declares (15.4.3.2)
abbrev pub body_class : Bool → Class
body_class true = class.AbstractInterface
body_class false = class.Procedure

abbrev pub interface_step : Interface-F Front Front BodyFront Front → Front
interface_step i rest = each_given (body_class i.is_abstract) i.bodies rest

abbrev pub body_step : InterfaceBody-F Front Front BodyFront Front → BodyFront
body_step b c rest = head kind.InterfaceBody (Some c) b.head (b.specification (Leave ∷ rest))

abbrev pub specification_step : Specification-F Front Front BodyFront Front → Front
specification_step s rest = each (map use_statement s.uses) (if_there import_statement s.import (each s.declarations rest))

abbrev pub declaration : Declaration → Front
declaration = fold-Declaration Front Front BodyFront Front declaration_step interface_step body_step specification_step

abbrev pub interface : Interface → Front
interface = fold-Interface Front Front BodyFront Front declaration_step interface_step body_step specification_step

abbrev pub interface_body : InterfaceBody → BodyFront
interface_body = fold-InterfaceBody Front Front BodyFront Front declaration_step interface_step body_step specification_step

abbrev pub specification : Specification → Front
specification = fold-Specification Front Front BodyFront Front declaration_step interface_step body_step specification_step

-- ---- IMPLICIT NONE (8.7)

abbrev pub implicit_step : Specification-F Nothing Nothing Nothing (Option Place) → Option Place
implicit_step s = s.implicit_none

-- where a specification has IMPLICIT NONE
abbrev pub implicit_none : Specification → Option Place
implicit_none = fold-Specification Nothing Nothing Nothing (Option Place) (λ x. tt) (λ x. tt) (λ x. tt) implicit_step

-- a unit that begins at this place has no IMPLICIT NONE
abbrev pub untyped : Option Place → Place → Front
untyped None p rest = Untyped p ∷ rest
untyped (Some q) p rest = rest

-- ---- procedures and program units (14 and 15.6.2)

abbrev pub external_procedure : Procedure → Front
external_procedure p rest = head kind.External None p.head (specification p.specification (each (map statement p.body)
    (untyped (implicit_none p.specification) (head_place p.head) (Leave ∷ rest))))

abbrev pub contained_procedure : Procedure → Front
contained_procedure p rest = head kind.Contained (Some class.Procedure) p.head (specification p.specification (each (map statement p.body) (Leave ∷ rest)))

abbrev pub contained : List Procedure → Front
contained ps rest = each (map contained_procedure ps) rest

abbrev pub unit_name : TreeName → Front
unit_name n rest = declares n class.UnitName Whole NotDerived None rest

abbrev pub program : Program → Front
program p rest = Enter kind.Program p.place ∷ unit_name p.name (specification p.specification (each (map statement p.body)
    (untyped (implicit_none p.specification) p.place (Leave ∷ rest))))

abbrev pub module_unit : Module → Front
module_unit m rest = Enter kind.Module m.place ∷ unit_name m.name (specification m.specification (if_there contained m.procedures
    (untyped (implicit_none m.specification) m.place (Leave ∷ rest))))

abbrev pub unit : ProgramUnit → Front
unit (unit_form.Program p) rest = program p rest
unit (unit_form.Module m) rest = module_unit m rest
unit (unit_form.Procedure p) rest = external_procedure p rest

-- the items of all program units, behind what is there before a program
abbrev pub items_of : List ProgramUnit → List Item
items_of us = before_program ++ each (map unit us) []
