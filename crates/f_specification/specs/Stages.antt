-- How far a specification part has come, the statements that stand in it so far, and what one statement more does (ISO/IEC 1539-1:2018, 5.3.2, R504).
use Rattle.std.specs.Prelude.{◌∷◌, Option, Some, None, Bool, true, false}
use Rattle.f_unit_grammar.specs.Units.{Part, Beginning, BehindImport, BehindImplicit, Executing}
use Rattle.f_construct_parts.specs.Lines.{Front}
use Rattle.f_unit_parts.specs.Units.{import_line, uses_of, specification_lines}
use Rattle.f_unit_parts.specs.declared.kind.Kind.{Kind}
use Rattle.f_unit_parts.specs.declared.kind.Kind.TheVariants as kind
use Rattle.f_specification.specs.declared.stage.Stage.{Stage}
use Rattle.f_specification.specs.declared.stage.Stage.TheVariants as stage

abbrev pub part_of : Stage → Part
part_of (stage.Beginning u) = Beginning
part_of (stage.BehindImport i) = BehindImport
part_of (stage.BehindImplicit s) = BehindImplicit

-- the statements so far, in front of a rest
unfoldable pub stage_lines : Stage → Front
stage_lines (stage.Beginning u) rest = uses_of u.uses rest
stage_lines (stage.BehindImport i) rest = uses_of i.uses (import_line i.import ∷ rest)
stage_lines (stage.BehindImplicit s) rest = specification_lines s rest

-- a single statement that may stand behind IMPLICIT NONE
abbrev pub is_declaration : Kind → Bool
is_declaration kind.Variables = true
is_declaration kind.Access = true
is_declaration kind.Save = true
is_declaration kind.ProcedurePointers = true
is_declaration _ = false

abbrev pub behind_implicit_if : Bool → Option Part
behind_implicit_if true = Some BehindImplicit
behind_implicit_if false = None

abbrev pub next_at_beginning : Kind → Option Part
next_at_beginning kind.Use = Some Beginning
next_at_beginning kind.Import = Some BehindImport
next_at_beginning kind.ImplicitNone = Some BehindImplicit
next_at_beginning k = behind_implicit_if (is_declaration k)

abbrev pub next_behind_import : Kind → Option Part
next_behind_import kind.ImplicitNone = Some BehindImplicit
next_behind_import k = behind_implicit_if (is_declaration k)

-- how far the part has come behind a single statement; none where the statement may not stand there
abbrev pub next_part : Part → Kind → Option Part
next_part Beginning k = next_at_beginning k
next_part BehindImport k = next_behind_import k
next_part BehindImplicit k = behind_implicit_if (is_declaration k)
next_part Executing k = None

-- a statement that stands in a specification part alone, and doesn't begin something there
abbrev pub is_single : Kind → Bool
is_single kind.Use = true
is_single kind.Import = true
is_single kind.ImplicitNone = true
is_single k = is_declaration k
