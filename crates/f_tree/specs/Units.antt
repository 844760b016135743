-- The tokens of specifications, interfaces, procedures and program units (ISO/IEC 1539-1:2018, 5.1, 14, 15.4.3.2 and 15.6.2), each in front of a rest.
use Rattle.std.specs.Prelude.{ℕ, List, Bool, true, false, codes, map}
use Rattle.jf_base.specs.declared.place.Place.{Place}
use Rattle.f_tree.specs.declared.name.Name.{Name}
use Rattle.f_tree.specs.declared.unit.ProcedureKind.{ProcedureKind}
use Rattle.f_tree.specs.declared.unit.ProcedureKind.TheVariants.{Subroutine, Function}
use Rattle.f_tree.specs.declared.unit.Prefix.{Prefix}
use Rattle.f_tree.specs.declared.unit.Prefix.TheVariants as prefix_form
use Rattle.f_tree.specs.declared.unit.Suffix.{Suffix}
use Rattle.f_tree.specs.declared.unit.Suffix.TheVariants as suffix_form
use Rattle.f_tree.specs.declared.unit.Head.{Head}
use Rattle.f_tree.specs.declared.unit.Procedure.{Procedure}
use Rattle.f_tree.specs.declared.unit.Program.{Program}
use Rattle.f_tree.specs.declared.unit.Module.{Module}
use Rattle.f_tree.specs.declared.unit.Unit.{Unit as ProgramUnit}
use Rattle.f_tree.specs.declared.unit.Unit.TheVariants as unit_form
use Rattle.f_tree.specs.declared.declaration.Import.{Import}
use Rattle.f_tree.specs.declared.declaration.Declaration.{Declaration, fold-Declaration}
use Rattle.f_tree.specs.declared.declaration.Declaration.TheOpen as open_
use Rattle.f_tree.specs.declared.declaration.Declaration.TheOpen.{Declaration-F, Interface-F, InterfaceBody-F, Specification-F}
use Rattle.f_tree.specs.declared.declaration.Declaration.TheFolds.{fold-Interface, fold-InterfaceBody, fold-Specification}
use Rattle.f_tree.specs.declared.declaration.Interface.{Interface}
use Rattle.f_tree.specs.declared.declaration.InterfaceBody.{InterfaceBody}
use Rattle.f_tree.specs.declared.declaration.Specification.{Specification}
use Rattle.f_tree.specs.Lexemes.{Front, word_of, placed_word, name_of, each, listed, in_parentheses, if_there, statement_end}
use Rattle.f_tree.specs.Expressions.{type_spec}
use Rattle.f_tree.specs.Declarations.{bind_list, variables, derived_type, access_statement, procedure_pointers, use_line, import_statement, ending}
use Rattle.f_tree.specs.Statements.{statement}

abbrev pub procedure_word : ProcedureKind → List ℕ
procedure_word Subroutine = codes "subroutine"
procedure_word Function = codes "function"

-- END and the word of a procedure in one
abbrev pub joined_word : ProcedureKind → List ℕ
joined_word Subroutine = codes "endsubroutine"
joined_word Function = codes "endfunction"

abbrev pub prefix : Prefix → Front
prefix (prefix_form.Recursive p) rest = placed_word (codes "recursive") p rest
prefix (prefix_form.Type t) rest = type_spec t rest

abbrev pub suffix : Suffix → Front
suffix (suffix_form.Bind p b) rest = placed_word (codes "bind") p (bind_list b rest)
suffix (suffix_form.Result p n) rest = placed_word (codes "result") p (in_parentheses (name_of n) rest)

abbrev pub dummies : List Name → Front
dummies ns rest = in_parentheses (listed (map name_of ns)) rest

-- the first statement of a procedure
abbrev pub head : Head → Front
head h rest = each (map prefix h.prefixes) (placed_word (procedure_word h.kind) h.place (name_of h.name (if_there dummies h.dummies (each (map suffix h.suffixes) (statement_end rest)))))

abbrev pub import_line : Import → Front
import_line i rest = import_statement i (statement_end rest)

abbrev pub implicit_line : Place → Front
implicit_line p rest = placed_word (codes "implicit") p (word_of (codes "none") (statement_end rest))

abbrev pub declaration_step : Declaration-F Front Front Front Front → Front
declaration_step (open_.Variables v) rest = variables v (statement_end rest)
declaration_step (open_.DerivedType t) rest = derived_type t rest
declaration_step (open_.Interface i) rest = i rest
declaration_step (open_.Access a) rest = access_statement a (statement_end rest)
declaration_step (open_.Save p) rest = placed_word (codes "save") p (statement_end rest)
declaration_step (open_.ProcedurePointers p) rest = procedure_pointers p (statement_end rest)

abbrev pub interface_words : Bool → Place → Front
interface_words true p rest = placed_word (codes "abstract") p (word_of (codes "interface") rest)
interface_words false p rest = placed_word (codes "interface") p rest

abbrev pub interface_step : Interface-F Front Front Front Front → Front
interface_step i rest = interface_words i.is_abstract i.place (statement_end (each i.bodies (ending (codes "interface") (codes "endinterface") i.ending rest)))

abbrev pub body_step : InterfaceBody-F Front Front Front Front → Front
body_step b rest = head b.head (b.specification (ending (procedure_word b.head.kind) (joined_word b.head.kind) b.ending rest))

abbrev pub specification_step : Specification-F Front Front Front Front → Front
specification_step s rest = each (map use_line s.uses) (if_there import_line s.import (if_there implicit_line s.implicit_none (each s.declarations rest)))

-- ---- the tokens of each tree, in front of a rest

abbrev pub declaration : Declaration → Front
declaration = fold-Declaration Front Front Front Front declaration_step interface_step body_step specification_step

abbrev pub interface : Interface → Front
interface = fold-Interface Front Front Front Front declaration_step interface_step body_step specification_step

abbrev pub interface_body : InterfaceBody → Front
interface_body = fold-InterfaceBody Front Front Front Front declaration_step interface_step body_step specification_step

abbrev pub specification : Specification → Front
specification = fold-Specification Front Front Front Front declaration_step interface_step body_step specification_step

abbrev pub procedure : Procedure → Front
procedure p rest = head p.head (specification p.specification (each (map statement p.body) (ending (procedure_word p.head.kind) (joined_word p.head.kind) p.ending rest)))

abbrev pub program : Program → Front
program p rest = placed_word (codes "program") p.place (name_of p.name (statement_end (specification p.specification (each (map statement p.body)
    (ending (codes "program") (codes "endprogram") p.ending rest)))))

-- CONTAINS and the procedures behind it
abbrev pub contained : List Procedure → Front
contained ps rest = word_of (codes "contains") (statement_end (each (map procedure ps) rest))

abbrev pub module_unit : Module → Front
module_unit m rest = placed_word (codes "module") m.place (name_of m.name (statement_end (specification m.specification (if_there contained m.procedures
    (ending (codes "module") (codes "endmodule") m.ending rest)))))

abbrev pub unit : ProgramUnit → Front
unit (unit_form.Program p) rest = program p rest
unit (unit_form.Module m) rest = module_unit m rest
unit (unit_form.Procedure p) rest = procedure p rest
