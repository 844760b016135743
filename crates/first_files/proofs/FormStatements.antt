-- The tokens of the form's Fortran text are those of a file.
use Rattle.std.proofs.Common.{◌≡◌, ℕ, List, [], ◌∷◌, Some, None, true, false, refl, ap, lit≤}
use Rattle.std.specs.Prelude.{codes}
use Rattle.f_lex.specs.declared.token.Kind.TheVariants as kind
use Rattle.f_lex.specs.declared.token.Mark.TheVariants as mark
use Rattle.f_lex.specs.declared.token.Token.{Token}
use Rattle.f_lex.specs.declared.token.Token.TheVariants as token
use Rattle.f_grammar.specs.Grammar.{Number, Ref, Refer, refer, no_parts, named, NoGroup, group, NoRange, no_args, arg, Value, Integer, kind as kind_of}
use Rattle.f_grammar.specs.Actions.{Call}
use Rattle.f_line_grammar.specs.Lines.{Simple}
use Rattle.f_declaration_grammar.specs.Declarations.{Program, Use, All, ImplicitNone, InterfaceStart, Head, BindSuffix, Import, Variables, Value as IsValue, entity, NoInitial, EndOf, OfSubroutine, OfInterface, OfProgram}
use Rattle.f_statement_grammar.specs.Statements.{Statement, Executable, Declaring}
use Rattle.f_unit_grammar.specs.Units.{Part, File, InUnit, InProgram, InBody, InInterface, Beginning, BehindImport, BehindImplicit, Executing, role, deeper, Tree, single, nested, Trees, no_trees, tree, Stands, StandAll, spell_trees}
use Rattle.f_unit_grammar.specs.Rules.{cuts, HaveForms, IsText}

abbrev pub name_of : List ℕ → Token
name_of word = token.Name word

-- the tokens of a call
abbrev pub call_tokens : List ℕ → List ℕ → List Token → List Token
call_tokens label digits rest =
    name_of (codes "call") ∷ name_of label ∷ token.Mark mark.Open ∷ token.Number digits (Some (kind.Name (codes "c_int"))) ∷ token.Mark mark.Close ∷ token.End ∷ rest

abbrev pub calls_tokens : List ℕ → List (List ℕ) → List Token → List Token
calls_tokens label [] rest = rest
calls_tokens label (digits ∷ more) rest = call_tokens label digits (calls_tokens label more rest)

abbrev pub head_tokens : List ℕ → List Token → List Token
head_tokens name rest =
    name_of (codes "program") ∷ name_of name ∷ token.End
    ∷ name_of (codes "use") ∷ name_of (codes "iso_c_binding") ∷ token.End
    ∷ name_of (codes "implicit") ∷ name_of (codes "none") ∷ token.End
    ∷ name_of (codes "interface") ∷ token.End ∷ rest

abbrev pub interface_tokens : List ℕ → List Token → List Token
interface_tokens label rest =
    name_of (codes "subroutine") ∷ name_of label ∷ token.Mark mark.Open ∷ name_of (codes "c") ∷ token.Mark mark.Close ∷ name_of (codes "bind") ∷ token.Mark mark.Open ∷ name_of (codes "c") ∷ token.Mark mark.Close ∷ token.End
    ∷ name_of (codes "import") ∷ token.End
    ∷ name_of (codes "integer") ∷ token.Mark mark.Open ∷ name_of (codes "c_int") ∷ token.Mark mark.Close ∷ token.Mark mark.Comma ∷ name_of (codes "value") ∷ token.Mark mark.DoubleColon ∷ name_of (codes "c") ∷ token.End
    ∷ name_of (codes "end") ∷ name_of (codes "subroutine") ∷ token.End
    ∷ name_of (codes "end") ∷ name_of (codes "interface") ∷ token.End ∷ rest

abbrev pub end_tokens : List Token
end_tokens = name_of (codes "end") ∷ name_of (codes "program") ∷ token.End ∷ []

-- the tokens of the text
abbrev pub form_tokens : List ℕ → List ℕ → List (List ℕ) → List Token
form_tokens name label numbers = head_tokens name (interface_tokens label (calls_tokens label numbers end_tokens))

-- ---- its statements

name_alone : List ℕ → Refer
name_alone name = refer (named name NoGroup NoRange) no_parts

abbrev call_statement : List ℕ → List ℕ → Statement
call_statement label digits = Executable (Simple (Call label (group (arg (Value None (Number digits (Some (kind.Name (codes "c_int"))))) no_args))))

abbrev calls_statements : List ℕ → List (List ℕ) → List Statement → List Statement
calls_statements label [] rest = rest
calls_statements label (digits ∷ more) rest = call_statement label digits ∷ calls_statements label more rest

abbrev s_program : List ℕ → Statement
s_program name = Declaring (Program name)

abbrev s_use : Statement
s_use = Declaring (Use false false (codes "iso_c_binding") All)

abbrev s_none : Statement
s_none = Declaring ImplicitNone

abbrev s_interface : Statement
s_interface = Declaring (InterfaceStart false)

abbrev s_head : List ℕ → Statement
s_head label = Declaring (Head [] false label (Some (codes "c" ∷ [])) (BindSuffix None ∷ []))

abbrev s_import : Statement
s_import = Declaring (Import false [])

abbrev s_dummy : Statement
s_dummy = Declaring (Variables (Integer (kind_of false (Ref (refer (named (codes "c_int") NoGroup NoRange) no_parts)))) (IsValue ∷ []) true (entity (codes "c") None NoInitial ∷ []))

abbrev s_end_body : Statement
s_end_body = Declaring (EndOf OfSubroutine false None)

abbrev s_end_interface : Statement
s_end_interface = Declaring (EndOf OfInterface false None)

abbrev s_end : Statement
s_end = Declaring (EndOf OfProgram false None)

abbrev form_statements : List ℕ → List ℕ → List (List ℕ) → List Statement
form_statements name label numbers =
    s_program name ∷ s_use ∷ s_none ∷ s_interface ∷ s_head label ∷ s_import ∷ s_dummy ∷ s_end_body ∷ s_end_interface ∷ calls_statements label numbers (s_end ∷ [])

end_forms : HaveForms (cuts end_tokens) (s_end ∷ [])
unfolding cuts
end_forms = ((refl, tt, refl), tt)

calls_forms : (label : List ℕ) (numbers : List (List ℕ)) → HaveForms (cuts (calls_tokens label numbers end_tokens)) (calls_statements label numbers (s_end ∷ []))
unfolding cuts
calls_forms label [] = end_forms
calls_forms label (digits ∷ more) = ((refl, ((tt, tt), tt), refl), calls_forms label more)

interface_forms : (label : List ℕ) (numbers : List (List ℕ))
    → HaveForms (cuts (interface_tokens label (calls_tokens label numbers end_tokens))) (s_head label ∷ s_import ∷ s_dummy ∷ s_end_body ∷ s_end_interface ∷ calls_statements label numbers (s_end ∷ []))
unfolding cuts
interface_forms label numbers =
    ((refl, (tt, tt), refl), ((refl, refl, refl), ((refl, (((tt, tt), tt), (tt, tt), ((tt, tt), tt)), refl), ((refl, tt, refl), ((refl, tt, refl), calls_forms label numbers)))))

forms : (name label : List ℕ) (numbers : List (List ℕ)) → HaveForms (cuts (form_tokens name label numbers)) (form_statements name label numbers)
unfolding cuts
forms name label numbers = ((refl, tt, refl), ((refl, tt, refl), ((refl, tt, refl), ((refl, tt, refl), interface_forms label numbers))))

-- ---- they are a file

abbrev calls_trees : List ℕ → List (List ℕ) → Trees
calls_trees label [] = no_trees
calls_trees label (digits ∷ more) = tree (single (call_statement label digits)) (calls_trees label more)

abbrev part_behind : Part → List (List ℕ) → Part
part_behind p [] = p
part_behind p (digits ∷ more) = part_behind Executing more

calls_stand : (name label : List ℕ) (numbers : List (List ℕ)) (p : Part) → StandAll 0 (InUnit (InProgram name) p) (calls_trees label numbers) (InUnit (InProgram name) (part_behind p numbers))
unfolding deeper role
calls_stand name label [] p = refl
calls_stand name label (digits ∷ more) p = (InUnit (InProgram name) Executing, (refl, refl), calls_stand name label more Executing)

calls_spelled : (label : List ℕ) (numbers : List (List ℕ)) (rest : List Statement) → calls_statements label numbers rest ≡ spell_trees (calls_trees label numbers) rest
calls_spelled label [] rest = refl
calls_spelled label (digits ∷ more) rest = ap (λ (ss : List Statement). call_statement label digits ∷ ss) (calls_spelled label more rest)

abbrev body_tree : List ℕ → Tree
body_tree label = nested (s_head label) (tree (single s_import) (tree (single s_dummy) no_trees)) s_end_body

abbrev interface_tree : List ℕ → Tree
interface_tree label = nested s_interface (tree (body_tree label) no_trees) s_end_interface

abbrev inside_trees : List ℕ → List (List ℕ) → Trees
inside_trees label numbers = tree (single s_use) (tree (single s_none) (tree (interface_tree label) (calls_trees label numbers)))

abbrev form_trees : List ℕ → List ℕ → List (List ℕ) → Trees
form_trees name label numbers = tree (nested (s_program name) (inside_trees label numbers) s_end) no_trees

body_stands : (label : List ℕ) → Stands 1 InInterface (body_tree label) InInterface
unfolding deeper role
body_stands label = (
  InUnit (InBody false label) Beginning,
  InUnit (InBody false label) BehindImplicit,
  refl,
  refl,
  lit≤ tt,
  (InUnit (InBody false label) BehindImport, (refl, refl), (InUnit (InBody false label) BehindImplicit, (refl, refl), refl)),
  refl,
  refl,
)

interface_stands : (name label : List ℕ) → Stands 0 (InUnit (InProgram name) BehindImplicit) (interface_tree label) (InUnit (InProgram name) BehindImplicit)
unfolding deeper role
interface_stands name label = (InInterface, InInterface, refl, refl, lit≤ tt, (InInterface, body_stands label, refl), refl, refl)

inside_stands : (name label : List ℕ) (numbers : List (List ℕ)) → StandAll 0 (InUnit (InProgram name) Beginning) (inside_trees label numbers) (InUnit (InProgram name) (part_behind BehindImplicit numbers))
unfolding deeper role
inside_stands name label numbers = (
  InUnit (InProgram name) Beginning,
  (refl, refl),
  (InUnit (InProgram name) BehindImplicit, (refl, refl), (InUnit (InProgram name) BehindImplicit, interface_stands name label, calls_stand name label numbers BehindImplicit)),
)

form_stands : (name label : List ℕ) (numbers : List (List ℕ)) → StandAll 0 File (form_trees name label numbers) File
unfolding deeper role
form_stands name label numbers = (
  File,
  (InUnit (InProgram name) Beginning, InUnit (InProgram name) (part_behind BehindImplicit numbers), refl, refl, lit≤ tt, inside_stands name label numbers, refl, refl),
  refl,
)

form_spelled : (name label : List ℕ) (numbers : List (List ℕ)) → form_statements name label numbers ≡ spell_trees (form_trees name label numbers) []
form_spelled name label numbers =
    ap (λ (ss : List Statement). s_program name ∷ s_use ∷ s_none ∷ s_interface ∷ s_head label ∷ s_import ∷ s_dummy ∷ s_end_body ∷ s_end_interface ∷ ss) (calls_spelled label numbers (s_end ∷ []))

-- the tokens of the form are those of a file, whatever the names and the digits are
pub form_is_text : (name label : List ℕ) (numbers : List (List ℕ)) → IsText (form_tokens name label numbers)
form_is_text name label numbers = record {
  statements = form_statements name label numbers;
  forms = forms name label numbers;
  file = record { trees = form_trees name label numbers; stand = form_stands name label numbers; spelled = form_spelled name label numbers };
}
