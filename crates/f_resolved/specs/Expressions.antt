-- Expressions each of whose numbers names a thing of the right kind (ISO/IEC 1539-1:2018, 9 and 10.1).
use Rattle.std.specs.Prelude.{ℕ, Bool, true, false, ◌&&◌, List, [], ◌∷◌, Option, Some, None, length, map, nat_eq, slice_get}
use Rattle.f_resolved.specs.declared.check_kind.Row.{Row}
use Rattle.f_resolved.specs.declared.expression.Argument.{Argument}
use Rattle.f_resolved.specs.declared.expression.Callee.{Callee}
use Rattle.f_resolved.specs.declared.expression.Expression.{Expression}
use Rattle.f_resolved.specs.declared.expression.Form.TheOpen as open_
use Rattle.f_resolved.specs.declared.expression.Form.TheOpen.{Argument-F, Expression-F, Form-F, Link-F, Part-F, Range-F, Reference-F, Subscript-F}
use Rattle.f_resolved.specs.declared.expression.Form.TheFolds.{fold-Argument, fold-Expression, fold-Link, fold-Part, fold-Range, fold-Reference, fold-Subscript}
use Rattle.f_resolved.specs.declared.expression.Form.{Form, fold-Form}
use Rattle.f_resolved.specs.declared.expression.Link.{Link}
use Rattle.f_resolved.specs.declared.expression.Part.{Part}
use Rattle.f_resolved.specs.declared.expression.Range.{Range}
use Rattle.f_resolved.specs.declared.expression.Reference.{Reference}
use Rattle.f_resolved.specs.declared.expression.Subscript.{Subscript}
use Rattle.f_resolved.specs.declared.kind.DataType.{DataType}
use Rattle.f_resolved.specs.declared.kind.DataType.TheVariants as kind
use Rattle.f_resolved.specs.declared.kind.Named.{Named}
use Rattle.f_resolved.specs.declared.kind.Scope.{Scope}
use Rattle.f_resolved.specs.declared.program.FProgram.{FProgram}
use Rattle.f_resolved.specs.Lists.{all_of, if_there}
use Rattle.f_resolved.specs.Kinds.{callee_fits, component_at, has_components, named_row, names_variable, pointer_fits, procedure_fits, subscripts_fit, takes, value_fits}

-- what a selected component tells: whether its numbers are right, its derived type, and its own type
pub record Selected : Type 0 where
  pub fits : Bool
  pub of : ℕ
  pub gives : Option DataType

abbrev pub kind_of : Option Row → Option DataType
kind_of None = None
kind_of (Some r) = Some r.kind

abbrev pub is_of : Option DataType → ℕ → Bool
is_of (Some (kind.Derived t)) n = nat_eq t n
is_of _ n = false

-- 9.4.2: a component is one of the type of what stands before it
abbrev pub selects : Option DataType → List Selected → Bool
selects before [] = true
selects before (x ∷ xs) = (is_of before x.of && x.fits) && selects x.gives xs

-- each test holds of this
abbrev pub each_given : Callee → List (Callee → Bool) → Bool
each_given c [] = true
each_given c (f ∷ fs) = f c && each_given c fs

-- so many subscripts stand behind what is there
abbrev pub subscripts_stand : Option Row → ℕ → Bool
subscripts_stand None n = false
subscripts_stand (Some r) n = subscripts_fit r.rank n

abbrev pub form_step : FProgram → Scope → Form-F Bool Bool (Callee → Bool) Bool Bool Selected Bool (Bool → Bool) → Bool
form_step p here (open_.Integer v) = true
form_step p here (open_.Logical v) = true
form_step p here (open_.Text v) = true
form_step p here (open_.Object r) = r false
form_step p here (open_.Function callee arguments) = callee_fits p here true callee && each_given callee arguments
form_step p here (open_.Structure of values) = has_components (slice_get p.types of) (length values) && all_of values
form_step p here (open_.Array items) = all_of items
form_step p here (open_.Parenthesized e) = e
form_step p here (open_.Chain sign first links) = first && all_of links
form_step p here open_.Null = true
form_step p here (open_.Procedure f) = procedure_fits p here f
form_step p here (open_.ProcedurePointer d) = pointer_fits p here d

-- 9.5.3
abbrev pub subscript_step : Subscript-F Bool Bool (Callee → Bool) Bool Bool Selected Bool (Bool → Bool) → Bool
subscript_step (open_.One e) = e
subscript_step (open_.Triplet range stride) = range && if_there stride
subscript_step (open_.Vector e) = e

abbrev pub argument_step : FProgram → Argument-F Bool Bool (Callee → Bool) Bool Bool Selected Bool (Bool → Bool) → Callee → Bool
argument_step p a c = takes p c a.dummy && a.value

abbrev pub expression_step : FProgram → Expression-F Bool Bool (Callee → Bool) Bool Bool Selected Bool (Bool → Bool) → Bool
expression_step p e = e.form && value_fits p e.kind e.rank

abbrev pub link_step : FProgram → Link-F Bool Bool (Callee → Bool) Bool Bool Selected Bool (Bool → Bool) → Bool
link_step p l = l.right && value_fits p l.kind l.rank

abbrev pub part_step : FProgram → Part-F Bool Bool (Callee → Bool) Bool Bool Selected Bool (Bool → Bool) → Selected
part_step p x = record {
  fits = subscripts_stand (component_at p x.of x.component) (length x.subscripts) && all_of x.subscripts;
  of = x.of;
  gives = kind_of (component_at p x.of x.component);
}

abbrev pub range_step : Range-F Bool Bool (Callee → Bool) Bool Bool Selected Bool (Bool → Bool) → Bool
range_step r = if_there r.lower && if_there r.upper

abbrev pub may_name : Bool → Named → Bool
may_name true x = names_variable x
may_name false x = true

-- 9.1 and 9.2: where a variable is wanted, no named constant is named
abbrev pub reference_step : FProgram → Scope → Reference-F Bool Bool (Callee → Bool) Bool Bool Selected Bool (Bool → Bool) → Bool → Bool
reference_step p here r of_variable = may_name of_variable r.root && (subscripts_stand (named_row p here r.root) (length r.subscripts) && (all_of r.subscripts && (selects (kind_of (named_row p here r.root)) r.parts && if_there r.substring)))

abbrev pub form_fits : FProgram → Scope → Form → Bool
form_fits p here = fold-Form Bool Bool (Callee → Bool) Bool Bool Selected Bool (Bool → Bool) (form_step p here) subscript_step (argument_step p) (expression_step p) (link_step p) (part_step p) range_step (reference_step p here)

abbrev pub subscript_fits : FProgram → Scope → Subscript → Bool
subscript_fits p here = fold-Subscript Bool Bool (Callee → Bool) Bool Bool Selected Bool (Bool → Bool) (form_step p here) subscript_step (argument_step p) (expression_step p) (link_step p) (part_step p) range_step (reference_step p here)

abbrev pub argument_fits : FProgram → Scope → Argument → Callee → Bool
argument_fits p here = fold-Argument Bool Bool (Callee → Bool) Bool Bool Selected Bool (Bool → Bool) (form_step p here) subscript_step (argument_step p) (expression_step p) (link_step p) (part_step p) range_step (reference_step p here)

abbrev pub expression_fits : FProgram → Scope → Expression → Bool
expression_fits p here = fold-Expression Bool Bool (Callee → Bool) Bool Bool Selected Bool (Bool → Bool) (form_step p here) subscript_step (argument_step p) (expression_step p) (link_step p) (part_step p) range_step (reference_step p here)

abbrev pub link_fits : FProgram → Scope → Link → Bool
link_fits p here = fold-Link Bool Bool (Callee → Bool) Bool Bool Selected Bool (Bool → Bool) (form_step p here) subscript_step (argument_step p) (expression_step p) (link_step p) (part_step p) range_step (reference_step p here)

abbrev pub part_seen : FProgram → Scope → Part → Selected
part_seen p here = fold-Part Bool Bool (Callee → Bool) Bool Bool Selected Bool (Bool → Bool) (form_step p here) subscript_step (argument_step p) (expression_step p) (link_step p) (part_step p) range_step (reference_step p here)

abbrev pub range_fits : FProgram → Scope → Range → Bool
range_fits p here = fold-Range Bool Bool (Callee → Bool) Bool Bool Selected Bool (Bool → Bool) (form_step p here) subscript_step (argument_step p) (expression_step p) (link_step p) (part_step p) range_step (reference_step p here)

abbrev pub reference_fits : FProgram → Scope → Reference → Bool → Bool
reference_fits p here = fold-Reference Bool Bool (Callee → Bool) Bool Bool Selected Bool (Bool → Bool) (form_step p here) subscript_step (argument_step p) (expression_step p) (link_step p) (part_step p) range_step (reference_step p here)

abbrev pub expressions_fit : FProgram → Scope → List Expression → Bool
expressions_fit p here es = all_of (map (expression_fits p here) es)

abbrev pub arguments_fit : FProgram → Scope → Callee → List Argument → Bool
arguments_fit p here c xs = each_given c (map (argument_fits p here) xs)
