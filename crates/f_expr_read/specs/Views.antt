-- The trees of expressions, references and types without their places, and tokens without theirs.
use Rattle.std.specs.Prelude.{ℕ, List, [], ◌∷◌, Option, Some, None, map, is_some}
use Rattle.f_lex.specs.declared.token.Mark.{Mark}
use Rattle.f_lex.specs.declared.token.Token.{Token}
use Rattle.f_lex.specs.declared.token.Spanned.{Spanned}
use Rattle.f_tree.specs.declared.name.Name.{Name}
use Rattle.f_tree.specs.declared.expression.Level.{Level}
use Rattle.f_tree.specs.declared.expression.Level.TheVariants.{Power, Product, Sum, Concatenation, Comparison, Negation, Conjunction, Disjunction, Equivalence}
use Rattle.f_tree.specs.declared.expression.Sign.{Sign}
use Rattle.f_tree.specs.declared.expression.Expression.{Expression}
use Rattle.f_tree.specs.declared.expression.Argument.TheOpen as open_
use Rattle.f_tree.specs.declared.expression.Argument.TheOpen.{Expression-F, Link-F, Reference-F, Part-F, Range-F, Argument-F, TypeSpec-F, KindSelector-F, CharacterParameter-F}
use Rattle.f_tree.specs.declared.expression.Argument.TheFolds.{fold-Expression, fold-Link, fold-Reference, fold-Part, fold-Range, fold-TypeSpec, fold-KindSelector, fold-CharacterParameter}
use Rattle.f_tree.specs.declared.expression.Link.{Link}
use Rattle.f_tree.specs.declared.expression.Reference.{Reference}
use Rattle.f_tree.specs.declared.expression.Part.{Part as TreePart}
use Rattle.f_tree.specs.declared.expression.Range.{Range as TreeRange}
use Rattle.f_tree.specs.declared.expression.Argument.{Argument, fold-Argument}
use Rattle.f_tree.specs.declared.expression.TypeSpec.{TypeSpec}
use Rattle.f_tree.specs.declared.expression.KindSelector.{KindSelector}
use Rattle.f_tree.specs.declared.expression.CharacterParameter.{CharacterParameter}
use Rattle.std.specs.Option.{option_map}
use Rattle.f_expr_read.specs.Gives.{onto}
use Rattle.f_grammar.specs.Grammar.{Expr, Number, Truth, Text, Ref, Paren, Array, Typed, Chain, Links, no_links, link, Refer, refer, Parts, no_parts, part, Part, named, Group, NoGroup, group, Range, NoRange, range, Args, no_args, arg, Arg, Value, Section, Strided, Maybe, Absent, Present, TypeOf, Integer, Logical, Character, Derived, Assumed, Selector, NoKind, kind, Params, NoParams, params, More, no_more, more, Param, Length, AnyLength, KindParam}

abbrev pub tokens_of : List Spanned → List Token
tokens_of ts = map (λ s. s.token) ts

-- the level of a chain by its number
abbrev pub number_of : Level → ℕ
number_of Power = 0
number_of Product = 1
number_of Sum = 2
number_of Concatenation = 3
number_of Comparison = 4
number_of Negation = 5
number_of Conjunction = 6
number_of Disjunction = 7
number_of Equivalence = 8

abbrev pub mark_of : Option Sign → Option Mark
mark_of None = None
mark_of (Some s) = Some s.operator

abbrev pub keyword_of : Option Name → Option (List ℕ)
keyword_of None = None
keyword_of (Some n) = Some n.bytes

-- lists of parts that are seen already
abbrev pub linked : Mark × Expr → Links → Links
linked l links = link l.0 l.1 links

abbrev pub links_of : List (Mark × Expr) → Links
links_of ls = onto linked ls no_links

abbrev pub parts_of : List Part → Parts
parts_of ps = onto part ps no_parts

abbrev pub args_of : List Arg → Args
args_of args = onto arg args no_args

abbrev pub item : Expr → Args → Args
item e args = arg (Value None e) args

abbrev pub items_of : List Expr → Args
items_of es = onto item es no_args

abbrev pub mores_of : List Param → More
mores_of ps = onto more ps no_more

abbrev pub params_of : List Param → Params
params_of [] = NoParams
params_of (p ∷ ps) = params p (mores_of ps)

abbrev pub character_of : Option (List Param) → TypeOf
character_of None = Character NoParams
character_of (Some ps) = Character (params_of ps)

abbrev pub maybe_of : Option Expr → Maybe
maybe_of None = Absent
maybe_of (Some e) = Present e

abbrev pub group_of : Option (List Arg) → Group
group_of None = NoGroup
group_of (Some args) = group (args_of args)

abbrev pub range_of : Option Range → Range
range_of None = NoRange
range_of (Some r) = r

abbrev pub selector_of : Option Selector → Selector
selector_of None = NoKind
selector_of (Some k) = k

abbrev pub constructor_of : Option TypeOf → List Expr → Expr
constructor_of None es = Array (items_of es)
constructor_of (Some t) es = Typed t (items_of es)

abbrev pub expression_seen : Expression-F Arg Param Expr TypeOf Selector (Mark × Expr) Part Range Refer → Expr
expression_seen (open_.Number digits k p) = Number digits k
expression_seen (open_.Truth value k p) = Truth value k
expression_seen (open_.Text bytes k p) = Text bytes k
expression_seen (open_.Reference r) = Ref r
expression_seen (open_.Parenthesized p inner) = Paren inner
expression_seen (open_.Constructor p declared items) = constructor_of declared items
expression_seen (open_.Chain level sign first links) = Chain (number_of level) (mark_of sign) first (links_of links)

abbrev pub link_seen : Link-F Arg Param Expr TypeOf Selector (Mark × Expr) Part Range Refer → Mark × Expr
link_seen l = (l.operator, l.operand)

abbrev pub reference_seen : Reference-F Arg Param Expr TypeOf Selector (Mark × Expr) Part Range Refer → Refer
reference_seen r = refer r.first (parts_of r.others)

abbrev pub part_seen : Part-F Arg Param Expr TypeOf Selector (Mark × Expr) Part Range Refer → Part
part_seen p = named p.name.bytes (group_of p.arguments) (range_of p.substring)

abbrev pub range_seen : Range-F Arg Param Expr TypeOf Selector (Mark × Expr) Part Range Refer → Range
range_seen r = range (maybe_of r.lower) (maybe_of r.upper)

abbrev pub argument_seen : Argument-F Arg Param Expr TypeOf Selector (Mark × Expr) Part Range Refer → Arg
argument_seen (open_.Value keyword value) = Value (keyword_of keyword) value
argument_seen (open_.Section lower p upper stride) = Section (maybe_of lower) (maybe_of upper) (maybe_of stride)
argument_seen (open_.Strided lower p stride) = Strided (maybe_of lower) stride

abbrev pub type_seen : TypeSpec-F Arg Param Expr TypeOf Selector (Mark × Expr) Part Range Refer → TypeOf
type_seen (open_.Integer p k) = Integer (selector_of k)
type_seen (open_.Logical p k) = Logical (selector_of k)
type_seen (open_.Character p ps) = character_of ps
type_seen (open_.Derived p name) = Derived name.bytes
type_seen (open_.Assumed p) = Assumed

abbrev pub kind_seen : KindSelector-F Arg Param Expr TypeOf Selector (Mark × Expr) Part Range Refer → Selector
kind_seen k = kind k.has_word k.value

abbrev pub parameter_seen : CharacterParameter-F Arg Param Expr TypeOf Selector (Mark × Expr) Part Range Refer → Param
parameter_seen (open_.Length word value) = Length (is_some word) value
parameter_seen (open_.AssumedLength word p) = AnyLength (is_some word)
parameter_seen (open_.Kind word value) = KindParam (is_some word) value

-- ---- each tree without its places

abbrev pub view : Expression → Expr
view = fold-Expression Arg Param Expr TypeOf Selector (Mark × Expr) Part Range Refer argument_seen parameter_seen expression_seen type_seen kind_seen link_seen part_seen range_seen reference_seen

abbrev pub view_link : Link → Mark × Expr
view_link = fold-Link Arg Param Expr TypeOf Selector (Mark × Expr) Part Range Refer argument_seen parameter_seen expression_seen type_seen kind_seen link_seen part_seen range_seen reference_seen

abbrev pub view_reference : Reference → Refer
view_reference = fold-Reference Arg Param Expr TypeOf Selector (Mark × Expr) Part Range Refer argument_seen parameter_seen expression_seen type_seen kind_seen link_seen part_seen range_seen reference_seen

abbrev pub view_part : TreePart → Part
view_part = fold-Part Arg Param Expr TypeOf Selector (Mark × Expr) Part Range Refer argument_seen parameter_seen expression_seen type_seen kind_seen link_seen part_seen range_seen reference_seen

abbrev pub view_range : TreeRange → Range
view_range = fold-Range Arg Param Expr TypeOf Selector (Mark × Expr) Part Range Refer argument_seen parameter_seen expression_seen type_seen kind_seen link_seen part_seen range_seen reference_seen

abbrev pub view_argument : Argument → Arg
view_argument = fold-Argument Arg Param Expr TypeOf Selector (Mark × Expr) Part Range Refer argument_seen parameter_seen expression_seen type_seen kind_seen link_seen part_seen range_seen reference_seen

abbrev pub view_type : TypeSpec → TypeOf
view_type = fold-TypeSpec Arg Param Expr TypeOf Selector (Mark × Expr) Part Range Refer argument_seen parameter_seen expression_seen type_seen kind_seen link_seen part_seen range_seen reference_seen

abbrev pub view_kind : KindSelector → Selector
view_kind = fold-KindSelector Arg Param Expr TypeOf Selector (Mark × Expr) Part Range Refer argument_seen parameter_seen expression_seen type_seen kind_seen link_seen part_seen range_seen reference_seen

abbrev pub view_parameter : CharacterParameter → Param
view_parameter = fold-CharacterParameter Arg Param Expr TypeOf Selector (Mark × Expr) Part Range Refer argument_seen parameter_seen expression_seen type_seen kind_seen link_seen part_seen range_seen reference_seen

-- a part that may be absent
abbrev pub view_maybe : Option Expression → Maybe
view_maybe e = maybe_of (option_map view e)

abbrev pub view_selector : Option KindSelector → Selector
view_selector k = selector_of (option_map view_kind k)

abbrev pub view_substring : Option TreeRange → Range
view_substring r = range_of (option_map view_range r)
