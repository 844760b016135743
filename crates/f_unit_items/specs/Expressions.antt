-- The names in expressions, references and types (ISO/IEC 1539-1:2018, 7.3.2, 9 and 10.1), each in front of a rest.
use Rattle.std.specs.Prelude.{ℕ, List, ◌∷◌, Option, Some, None, Bool, true, false, is_some, []}
use Rattle.jf_base.specs.declared.place.Place.{Place}
use Rattle.f_tree.specs.declared.name.Name.{Name as TreeName}
use Rattle.f_tree.specs.declared.expression.Expression.{Expression}
use Rattle.f_tree.specs.declared.expression.Argument.TheOpen as open_
use Rattle.f_tree.specs.declared.expression.Argument.TheOpen.{Expression-F, Link-F, Reference-F, Part-F, Range-F, Argument-F, TypeSpec-F, KindSelector-F, CharacterParameter-F}
use Rattle.f_tree.specs.declared.expression.Argument.TheFolds.{fold-Expression, fold-Link, fold-Reference, fold-Part, fold-Range, fold-TypeSpec, fold-KindSelector, fold-CharacterParameter}
use Rattle.f_tree.specs.declared.expression.Link.{Link}
use Rattle.f_tree.specs.declared.expression.Reference.{Reference}
use Rattle.f_tree.specs.declared.expression.Part.{Part}
use Rattle.f_tree.specs.declared.expression.Range.{Range}
use Rattle.f_tree.specs.declared.expression.Argument.{Argument, fold-Argument}
use Rattle.f_tree.specs.declared.expression.TypeSpec.{TypeSpec}
use Rattle.f_tree.specs.declared.expression.KindSelector.{KindSelector}
use Rattle.f_tree.specs.declared.expression.CharacterParameter.{CharacterParameter}
use Rattle.f_items.specs.declared.item.DeclaredType.{DeclaredType}
use Rattle.f_items.specs.declared.item.DeclaredType.TheVariants.{NotDerived, Derived as OfDerived}
use Rattle.f_items.specs.declared.item.Need.TheVariants as need
use Rattle.f_items.specs.declared.item.Item.TheVariants.{Selects}
use Rattle.f_unit_items.specs.declared.expression.PartRole.{PartRole}
use Rattle.f_unit_items.specs.declared.expression.PartRole.TheVariants.{Alone, Base, Selected}
use Rattle.f_unit_items.specs.Fronts.{Front, name_of, refers, kind_name, inside, optional, each, each_given}

-- a part of a reference is told what it is in that
abbrev pub PartFront : Type 0
PartFront = PartRole → Front

abbrev pub expression_step : Expression-F Front Front Front Front Front Front PartFront Front Front → Front
expression_step (open_.Number digits kind p) rest = kind_name kind p rest
expression_step (open_.Truth value kind p) rest = kind_name kind p rest
expression_step (open_.Text bytes kind p) rest = kind_name kind p rest
expression_step (open_.Reference r) rest = r rest
expression_step (open_.Parenthesized p inner) rest = inner rest
expression_step (open_.Constructor p declared items) rest = optional declared (each items rest)
expression_step (open_.Chain level sign first links) rest = first (each links rest)

abbrev pub link_step : Link-F Front Front Front Front Front Front PartFront Front Front → Front
link_step l rest = l.operand rest

-- the role of the first part, where these stand behind it
abbrev pub first_role : {A : Type 0} → List A → PartRole
first_role [] = Alone
first_role (p ∷ ps) = Base

-- the first part names a thing of the scope, and each other a component of the part before it
abbrev pub reference_step : Reference-F Front Front Front Front Front Front PartFront Front Front → Front
reference_step r rest = r.first (first_role r.others) (each_given Selected r.others rest)

-- a part's name: its role, and whether arguments or subscripts stand behind it
abbrev pub part_name : PartRole → TreeName → Bool → Front
part_name Alone n false rest = refers n need.Value rest
part_name Alone n true rest = refers n need.Applied rest
part_name Base n is_applied rest = refers n need.Object rest
part_name Selected n is_applied rest = Selects (name_of n) ∷ rest

abbrev pub optional_inside : Option (List Front) → Front
optional_inside None rest = rest
optional_inside (Some fs) rest = inside (each fs) rest

abbrev pub optional_range : Option Front → Front
optional_range None rest = rest
optional_range (Some r) rest = inside r rest

abbrev pub part_step : Part-F Front Front Front Front Front Front PartFront Front Front → PartFront
part_step p role rest = part_name role p.name (is_some p.arguments) (optional_inside p.arguments (optional_range p.substring rest))

abbrev pub range_step : Range-F Front Front Front Front Front Front PartFront Front Front → Front
range_step r rest = optional r.lower (optional r.upper rest)

-- a keyword names a dummy argument or a component of what is referred to, and is no reference of its own
abbrev pub argument_step : Argument-F Front Front Front Front Front Front PartFront Front Front → Front
argument_step (open_.Value keyword value) rest = value rest
argument_step (open_.Section lower p upper stride) rest = optional lower (optional upper (optional stride rest))
argument_step (open_.Strided lower p stride) rest = optional lower (stride rest)

abbrev pub optional_list : Option (List Front) → Front
optional_list None rest = rest
optional_list (Some fs) rest = each fs rest

abbrev pub type_step : TypeSpec-F Front Front Front Front Front Front PartFront Front Front → Front
type_step (open_.Integer p kind) rest = optional kind rest
type_step (open_.Logical p kind) rest = optional kind rest
type_step (open_.Character p parameters) rest = optional_list parameters rest
type_step (open_.Derived p name) rest = refers name need.Type rest
type_step (open_.Assumed p) rest = rest

abbrev pub kind_step : KindSelector-F Front Front Front Front Front Front PartFront Front Front → Front
kind_step k rest = k.value rest

abbrev pub parameter_step : CharacterParameter-F Front Front Front Front Front Front PartFront Front Front → Front
parameter_step (open_.Length word value) rest = value rest
parameter_step (open_.AssumedLength word p) rest = rest
parameter_step (open_.Kind word value) rest = value rest

-- ---- the items of each tree, in front of a rest

abbrev pub expression : Expression → Front
expression = fold-Expression Front Front Front Front Front Front PartFront Front Front argument_step parameter_step expression_step type_step kind_step link_step part_step range_step reference_step

abbrev pub link : Link → Front
link = fold-Link Front Front Front Front Front Front PartFront Front Front argument_step parameter_step expression_step type_step kind_step link_step part_step range_step reference_step

abbrev pub reference : Reference → Front
reference = fold-Reference Front Front Front Front Front Front PartFront Front Front argument_step parameter_step expression_step type_step kind_step link_step part_step range_step reference_step

abbrev pub part : Part → PartFront
part = fold-Part Front Front Front Front Front Front PartFront Front Front argument_step parameter_step expression_step type_step kind_step link_step part_step range_step reference_step

abbrev pub range : Range → Front
range = fold-Range Front Front Front Front Front Front PartFront Front Front argument_step parameter_step expression_step type_step kind_step link_step part_step range_step reference_step

abbrev pub argument : Argument → Front
argument = fold-Argument Front Front Front Front Front Front PartFront Front Front argument_step parameter_step expression_step type_step kind_step link_step part_step range_step reference_step

abbrev pub type_spec : TypeSpec → Front
type_spec = fold-TypeSpec Front Front Front Front Front Front PartFront Front Front argument_step parameter_step expression_step type_step kind_step link_step part_step range_step reference_step

abbrev pub kind_selector : KindSelector → Front
kind_selector = fold-KindSelector Front Front Front Front Front Front PartFront Front Front argument_step parameter_step expression_step type_step kind_step link_step part_step range_step reference_step

abbrev pub parameter : CharacterParameter → Front
parameter = fold-CharacterParameter Front Front Front Front Front Front PartFront Front Front argument_step parameter_step expression_step type_step kind_step link_step part_step range_step reference_step

-- ---- what a type says of itself

-- nothing is said of what isn't a type
abbrev pub Nothing : Type 0
Nothing = Unit {0}

-- where a type begins, and what a declaration with it says of a name's type
pub record TypeFacts : Type 0 where
  pub place : Place
  pub of_type : DeclaredType

abbrev pub facts_step : TypeSpec-F Nothing Nothing Nothing TypeFacts Nothing Nothing Nothing Nothing Nothing → TypeFacts
facts_step (open_.Integer p kind) = record { place = p; of_type = NotDerived }
facts_step (open_.Logical p kind) = record { place = p; of_type = NotDerived }
facts_step (open_.Character p parameters) = record { place = p; of_type = NotDerived }
facts_step (open_.Derived p name) = record { place = p; of_type = OfDerived name.bytes }
facts_step (open_.Assumed p) = record { place = p; of_type = NotDerived }

abbrev pub type_facts : TypeSpec → TypeFacts
type_facts = fold-TypeSpec Nothing Nothing Nothing TypeFacts Nothing Nothing Nothing Nothing Nothing (λ x. tt) (λ x. tt) (λ x. tt) facts_step (λ x. tt) (λ x. tt) (λ x. tt) (λ x. tt) (λ x. tt)

-- where a type begins
abbrev pub type_place : TypeSpec → Place
type_place t = (type_facts t).place

-- what a declaration with a type says of a name's
abbrev pub declared_type : TypeSpec → DeclaredType
declared_type t = (type_facts t).of_type
