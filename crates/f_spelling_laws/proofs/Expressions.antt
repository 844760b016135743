-- The tokens of expressions, references and types are those that the grammar spells for their views (ISO/IEC 1539-1:2018, 7.2, 9 and 10.1).
use Rattle.std.proofs.Common.{◌≡◌, ℕ, List, [], ◌∷◌, Option, Some, None, Bool, true, false, ◌&&◌, map, refl, sym, ap, subst, ◌∙◌}
use Rattle.std.specs.Prelude.{codes, is_some}
use Rattle.std.specs.Option.{option_map}
use Rattle.jf_base.specs.declared.place.Place.{Place}
use Rattle.f_lex.specs.declared.token.Mark.{Mark}
use Rattle.f_lex.specs.declared.token.Mark.TheVariants as mark
use Rattle.f_lex.specs.declared.token.Token.{Token}
use Rattle.f_lex.specs.declared.token.Token.TheVariants as token
use Rattle.f_tree.specs.declared.lexeme.Lexeme.{Lexeme}
use Rattle.f_tree.specs.declared.name.Name.{Name}
use Rattle.f_tree.specs.declared.expression.Sign.{Sign}
use Rattle.f_tree.specs.declared.expression.Expression.{Expression}
use Rattle.f_tree.specs.declared.expression.Link.{Link}
use Rattle.f_tree.specs.declared.expression.Reference.{Reference}
use Rattle.f_tree.specs.declared.expression.Part.{Part as PartTree}
use Rattle.f_tree.specs.declared.expression.Range.{Range as RangeTree}
use Rattle.f_tree.specs.declared.expression.TypeSpec.{TypeSpec}
use Rattle.f_tree.specs.declared.expression.KindSelector.{KindSelector}
use Rattle.f_tree.specs.declared.expression.CharacterParameter.{CharacterParameter}
use Rattle.f_tree.specs.declared.expression.Argument.{Argument, map-Argument, ind-Argument, roll-Argument, fold-roll-Argument}
use Rattle.f_tree.specs.declared.expression.Argument.TheOpen as open_
use Rattle.f_tree.specs.declared.expression.Argument.TheOpen.{Argument-F, CharacterParameter-F, Expression-F, TypeSpec-F, KindSelector-F, Link-F, Part-F, Range-F, Reference-F}
use Rattle.f_tree.specs.declared.expression.Argument.TheFolds.{map-CharacterParameter, map-Expression, map-TypeSpec, map-KindSelector, map-Link, map-Part, map-Range, map-Reference, fold-roll-CharacterParameter, fold-roll-Expression, fold-roll-TypeSpec, fold-roll-KindSelector, fold-roll-Link, fold-roll-Part, fold-roll-Range, fold-roll-Reference, ind-Expression, ind-TypeSpec, ind-Reference}
use Rattle.f_tree.specs.declared.expression.Argument.TheViews.{roll-CharacterParameter, roll-Expression, roll-TypeSpec, roll-KindSelector, roll-Link, roll-Part, roll-Range, roll-Reference}
use Rattle.f_tree.specs.Lexemes.{Front, mark_of, placed_mark, name_of, when, optional, each, behind_commas, listed, in_parentheses, optional_list, key_of, placed_key, name_key}
use Rattle.f_tree.specs.Expressions.{sign_of, behind_percents, optional_range, stride_of, argument_step, parameter_step, expression_step, type_step, kind_step, link_step, part_step, range_step, reference_step, argument, parameter, expression, type_spec, kind_selector, link, part, range, reference}
use Rattle.f_grammar.specs.Grammar.{Expr, Refer, Part, Range, Arg, TypeOf, Selector, Param, put, spell_sign, spell_key, spell_word, spell, spell_links, spell_refer, spell_parts, spell_part, spell_group, spell_range, spell_args, spell_others, spell_arg, spell_maybe, spell_stride, spell_type, spell_kind, spell_mores, spell_param}
use Rattle.f_expr_read.specs.Views.{keyword_of, links_of, parts_of, args_of, items_of, mores_of, maybe_of, group_of, range_of, selector_of, argument_seen, parameter_seen, expression_seen, type_seen, kind_seen, link_seen, part_seen, range_seen, reference_seen, view_argument, view_parameter, view, view_type, view_kind, view_link, view_part, view_range, view_reference, mark_of as sign_mark}
use Rattle.f_spelling_laws.specs.Told.{tokens_of, all, maybe, maybe_all, argument_told, parameter_told, expression_told, type_told, kind_told, link_told, part_told, range_told, reference_told, argument_is_told, parameter_is_told, is_told, type_is_told, kind_is_told, link_is_told, part_is_told, range_is_told, reference_is_told}
use Rattle.f_spelling_laws.proofs.Fronts.{first_of, second_of}

-- a link, and a substring range, in front of a rest
abbrev spell_link : Mark × Expr → List Token → List Token
spell_link l rest = put l.0 (spell l.1 rest)

abbrev spell_bounds : Range → List Token → List Token
spell_bounds r rest = spell_range r rest

-- ---- what is shown of each tree

abbrev IsArgument : Argument → Type 0
IsArgument x = argument_is_told x ≡ true → (rest : List Lexeme) → tokens_of (argument x rest) ≡ spell_arg (view_argument x) (tokens_of rest)

abbrev IsCharacterParameter : CharacterParameter → Type 0
IsCharacterParameter x = parameter_is_told x ≡ true → (rest : List Lexeme) → tokens_of (parameter x rest) ≡ spell_param (view_parameter x) (tokens_of rest)

abbrev IsExpression : Expression → Type 0
IsExpression x = is_told x ≡ true → (rest : List Lexeme) → tokens_of (expression x rest) ≡ spell (view x) (tokens_of rest)

abbrev IsTypeSpec : TypeSpec → Type 0
IsTypeSpec x = type_is_told x ≡ true → (rest : List Lexeme) → tokens_of (type_spec x rest) ≡ spell_type (view_type x) (tokens_of rest)

abbrev IsKindSelector : KindSelector → Type 0
IsKindSelector x = kind_is_told x ≡ true → (rest : List Lexeme) → tokens_of (kind_selector x rest) ≡ spell_kind (view_kind x) (tokens_of rest)

abbrev IsLink : Link → Type 0
IsLink x = link_is_told x ≡ true → (rest : List Lexeme) → tokens_of (link x rest) ≡ spell_link (view_link x) (tokens_of rest)

abbrev IsPart : PartTree → Type 0
IsPart x = part_is_told x ≡ true → (rest : List Lexeme) → tokens_of (part x rest) ≡ spell_part (view_part x) (tokens_of rest)

abbrev IsRange : RangeTree → Type 0
IsRange x = range_is_told x ≡ true → (rest : List Lexeme) → tokens_of (in_parentheses (range x) rest) ≡ spell_bounds (view_range x) (tokens_of rest)

abbrev IsReference : Reference → Type 0
IsReference x = reference_is_told x ≡ true → (rest : List Lexeme) → tokens_of (reference x rest) ≡ spell_refer (view_reference x) (tokens_of rest)

-- a tree with its proof
abbrev ShownArgument : Type 0
ShownArgument = (x : Argument) × IsArgument x

abbrev ShownCharacterParameter : Type 0
ShownCharacterParameter = (x : CharacterParameter) × IsCharacterParameter x

abbrev ShownExpression : Type 0
ShownExpression = (x : Expression) × IsExpression x

abbrev ShownTypeSpec : Type 0
ShownTypeSpec = (x : TypeSpec) × IsTypeSpec x

abbrev ShownKindSelector : Type 0
ShownKindSelector = (x : KindSelector) × IsKindSelector x

abbrev ShownLink : Type 0
ShownLink = (x : Link) × IsLink x

abbrev ShownPart : Type 0
ShownPart = (x : PartTree) × IsPart x

abbrev ShownRange : Type 0
ShownRange = (x : RangeTree) × IsRange x

abbrev ShownReference : Type 0
ShownReference = (x : Reference) × IsReference x

-- a layer whose parts each have a proof
abbrev ArgumentLayer : Type 0
ArgumentLayer = Argument-F ShownArgument ShownCharacterParameter ShownExpression ShownTypeSpec ShownKindSelector ShownLink ShownPart ShownRange ShownReference

abbrev CharacterParameterLayer : Type 0
CharacterParameterLayer = CharacterParameter-F ShownArgument ShownCharacterParameter ShownExpression ShownTypeSpec ShownKindSelector ShownLink ShownPart ShownRange ShownReference

abbrev ExpressionLayer : Type 0
ExpressionLayer = Expression-F ShownArgument ShownCharacterParameter ShownExpression ShownTypeSpec ShownKindSelector ShownLink ShownPart ShownRange ShownReference

abbrev TypeSpecLayer : Type 0
TypeSpecLayer = TypeSpec-F ShownArgument ShownCharacterParameter ShownExpression ShownTypeSpec ShownKindSelector ShownLink ShownPart ShownRange ShownReference

abbrev KindSelectorLayer : Type 0
KindSelectorLayer = KindSelector-F ShownArgument ShownCharacterParameter ShownExpression ShownTypeSpec ShownKindSelector ShownLink ShownPart ShownRange ShownReference

abbrev LinkLayer : Type 0
LinkLayer = Link-F ShownArgument ShownCharacterParameter ShownExpression ShownTypeSpec ShownKindSelector ShownLink ShownPart ShownRange ShownReference

abbrev PartLayer : Type 0
PartLayer = Part-F ShownArgument ShownCharacterParameter ShownExpression ShownTypeSpec ShownKindSelector ShownLink ShownPart ShownRange ShownReference

abbrev RangeLayer : Type 0
RangeLayer = Range-F ShownArgument ShownCharacterParameter ShownExpression ShownTypeSpec ShownKindSelector ShownLink ShownPart ShownRange ShownReference

abbrev ReferenceLayer : Type 0
ReferenceLayer = Reference-F ShownArgument ShownCharacterParameter ShownExpression ShownTypeSpec ShownKindSelector ShownLink ShownPart ShownRange ShownReference

-- the value of a layer, without the proofs
abbrev plain_argument : ArgumentLayer → Argument-F Argument CharacterParameter Expression TypeSpec KindSelector Link PartTree RangeTree Reference
plain_argument y = map-Argument ShownArgument ShownCharacterParameter ShownExpression ShownTypeSpec ShownKindSelector ShownLink ShownPart ShownRange ShownReference Argument CharacterParameter Expression TypeSpec KindSelector Link PartTree RangeTree Reference (λ e. e.0) (λ e. e.0) (λ e. e.0) (λ e. e.0) (λ e. e.0) (λ e. e.0) (λ e. e.0) (λ e. e.0) (λ e. e.0) y

abbrev plain_parameter : CharacterParameterLayer → CharacterParameter-F Argument CharacterParameter Expression TypeSpec KindSelector Link PartTree RangeTree Reference
plain_parameter y = map-CharacterParameter ShownArgument ShownCharacterParameter ShownExpression ShownTypeSpec ShownKindSelector ShownLink ShownPart ShownRange ShownReference Argument CharacterParameter Expression TypeSpec KindSelector Link PartTree RangeTree Reference (λ e. e.0) (λ e. e.0) (λ e. e.0) (λ e. e.0) (λ e. e.0) (λ e. e.0) (λ e. e.0) (λ e. e.0) (λ e. e.0) y

abbrev plain_expression : ExpressionLayer → Expression-F Argument CharacterParameter Expression TypeSpec KindSelector Link PartTree RangeTree Reference
plain_expression y = map-Expression ShownArgument ShownCharacterParameter ShownExpression ShownTypeSpec ShownKindSelector ShownLink ShownPart ShownRange ShownReference Argument CharacterParameter Expression TypeSpec KindSelector Link PartTree RangeTree Reference (λ e. e.0) (λ e. e.0) (λ e. e.0) (λ e. e.0) (λ e. e.0) (λ e. e.0) (λ e. e.0) (λ e. e.0) (λ e. e.0) y

abbrev plain_type : TypeSpecLayer → TypeSpec-F Argument CharacterParameter Expression TypeSpec KindSelector Link PartTree RangeTree Reference
plain_type y = map-TypeSpec ShownArgument ShownCharacterParameter ShownExpression ShownTypeSpec ShownKindSelector ShownLink ShownPart ShownRange ShownReference Argument CharacterParameter Expression TypeSpec KindSelector Link PartTree RangeTree Reference (λ e. e.0) (λ e. e.0) (λ e. e.0) (λ e. e.0) (λ e. e.0) (λ e. e.0) (λ e. e.0) (λ e. e.0) (λ e. e.0) y

abbrev plain_kind : KindSelectorLayer → KindSelector-F Argument CharacterParameter Expression TypeSpec KindSelector Link PartTree RangeTree Reference
plain_kind y = map-KindSelector ShownArgument ShownCharacterParameter ShownExpression ShownTypeSpec ShownKindSelector ShownLink ShownPart ShownRange ShownReference Argument CharacterParameter Expression TypeSpec KindSelector Link PartTree RangeTree Reference (λ e. e.0) (λ e. e.0) (λ e. e.0) (λ e. e.0) (λ e. e.0) (λ e. e.0) (λ e. e.0) (λ e. e.0) (λ e. e.0) y

abbrev plain_link : LinkLayer → Link-F Argument CharacterParameter Expression TypeSpec KindSelector Link PartTree RangeTree Reference
plain_link y = map-Link ShownArgument ShownCharacterParameter ShownExpression ShownTypeSpec ShownKindSelector ShownLink ShownPart ShownRange ShownReference Argument CharacterParameter Expression TypeSpec KindSelector Link PartTree RangeTree Reference (λ e. e.0) (λ e. e.0) (λ e. e.0) (λ e. e.0) (λ e. e.0) (λ e. e.0) (λ e. e.0) (λ e. e.0) (λ e. e.0) y

abbrev plain_part : PartLayer → Part-F Argument CharacterParameter Expression TypeSpec KindSelector Link PartTree RangeTree Reference
plain_part y = map-Part ShownArgument ShownCharacterParameter ShownExpression ShownTypeSpec ShownKindSelector ShownLink ShownPart ShownRange ShownReference Argument CharacterParameter Expression TypeSpec KindSelector Link PartTree RangeTree Reference (λ e. e.0) (λ e. e.0) (λ e. e.0) (λ e. e.0) (λ e. e.0) (λ e. e.0) (λ e. e.0) (λ e. e.0) (λ e. e.0) y

abbrev plain_range : RangeLayer → Range-F Argument CharacterParameter Expression TypeSpec KindSelector Link PartTree RangeTree Reference
plain_range y = map-Range ShownArgument ShownCharacterParameter ShownExpression ShownTypeSpec ShownKindSelector ShownLink ShownPart ShownRange ShownReference Argument CharacterParameter Expression TypeSpec KindSelector Link PartTree RangeTree Reference (λ e. e.0) (λ e. e.0) (λ e. e.0) (λ e. e.0) (λ e. e.0) (λ e. e.0) (λ e. e.0) (λ e. e.0) (λ e. e.0) y

abbrev plain_reference : ReferenceLayer → Reference-F Argument CharacterParameter Expression TypeSpec KindSelector Link PartTree RangeTree Reference
plain_reference y = map-Reference ShownArgument ShownCharacterParameter ShownExpression ShownTypeSpec ShownKindSelector ShownLink ShownPart ShownRange ShownReference Argument CharacterParameter Expression TypeSpec KindSelector Link PartTree RangeTree Reference (λ e. e.0) (λ e. e.0) (λ e. e.0) (λ e. e.0) (λ e. e.0) (λ e. e.0) (λ e. e.0) (λ e. e.0) (λ e. e.0) y

-- the tokens of a layer, its view and what is asked of it
abbrev argument_front : ArgumentLayer → Front
argument_front y = argument_step (map-Argument Argument CharacterParameter Expression TypeSpec KindSelector Link PartTree RangeTree Reference Front Front Front Front Front Front Front Front Front argument parameter expression type_spec kind_selector link part range reference (plain_argument y))

abbrev argument_view : ArgumentLayer → Arg
argument_view y = argument_seen (map-Argument Argument CharacterParameter Expression TypeSpec KindSelector Link PartTree RangeTree Reference Arg Param Expr TypeOf Selector (Mark × Expr) Part Range Refer view_argument view_parameter view view_type view_kind view_link view_part view_range view_reference (plain_argument y))

abbrev argument_asked : ArgumentLayer → Bool
argument_asked y = argument_told (map-Argument Argument CharacterParameter Expression TypeSpec KindSelector Link PartTree RangeTree Reference Bool Bool Bool Bool Bool Bool Bool Bool Bool argument_is_told parameter_is_told is_told type_is_told kind_is_told link_is_told part_is_told range_is_told reference_is_told (plain_argument y))

abbrev parameter_front : CharacterParameterLayer → Front
parameter_front y = parameter_step (map-CharacterParameter Argument CharacterParameter Expression TypeSpec KindSelector Link PartTree RangeTree Reference Front Front Front Front Front Front Front Front Front argument parameter expression type_spec kind_selector link part range reference (plain_parameter y))

abbrev parameter_view : CharacterParameterLayer → Param
parameter_view y = parameter_seen (map-CharacterParameter Argument CharacterParameter Expression TypeSpec KindSelector Link PartTree RangeTree Reference Arg Param Expr TypeOf Selector (Mark × Expr) Part Range Refer view_argument view_parameter view view_type view_kind view_link view_part view_range view_reference (plain_parameter y))

abbrev parameter_asked : CharacterParameterLayer → Bool
parameter_asked y = parameter_told (map-CharacterParameter Argument CharacterParameter Expression TypeSpec KindSelector Link PartTree RangeTree Reference Bool Bool Bool Bool Bool Bool Bool Bool Bool argument_is_told parameter_is_told is_told type_is_told kind_is_told link_is_told part_is_told range_is_told reference_is_told (plain_parameter y))

abbrev expression_front : ExpressionLayer → Front
expression_front y = expression_step (map-Expression Argument CharacterParameter Expression TypeSpec KindSelector Link PartTree RangeTree Reference Front Front Front Front Front Front Front Front Front argument parameter expression type_spec kind_selector link part range reference (plain_expression y))

abbrev expression_view : ExpressionLayer → Expr
expression_view y = expression_seen (map-Expression Argument CharacterParameter Expression TypeSpec KindSelector Link PartTree RangeTree Reference Arg Param Expr TypeOf Selector (Mark × Expr) Part Range Refer view_argument view_parameter view view_type view_kind view_link view_part view_range view_reference (plain_expression y))

abbrev expression_asked : ExpressionLayer → Bool
expression_asked y = expression_told (map-Expression Argument CharacterParameter Expression TypeSpec KindSelector Link PartTree RangeTree Reference Bool Bool Bool Bool Bool Bool Bool Bool Bool argument_is_told parameter_is_told is_told type_is_told kind_is_told link_is_told part_is_told range_is_told reference_is_told (plain_expression y))

abbrev type_front : TypeSpecLayer → Front
type_front y = type_step (map-TypeSpec Argument CharacterParameter Expression TypeSpec KindSelector Link PartTree RangeTree Reference Front Front Front Front Front Front Front Front Front argument parameter expression type_spec kind_selector link part range reference (plain_type y))

abbrev type_view : TypeSpecLayer → TypeOf
type_view y = type_seen (map-TypeSpec Argument CharacterParameter Expression TypeSpec KindSelector Link PartTree RangeTree Reference Arg Param Expr TypeOf Selector (Mark × Expr) Part Range Refer view_argument view_parameter view view_type view_kind view_link view_part view_range view_reference (plain_type y))

abbrev type_asked : TypeSpecLayer → Bool
type_asked y = type_told (map-TypeSpec Argument CharacterParameter Expression TypeSpec KindSelector Link PartTree RangeTree Reference Bool Bool Bool Bool Bool Bool Bool Bool Bool argument_is_told parameter_is_told is_told type_is_told kind_is_told link_is_told part_is_told range_is_told reference_is_told (plain_type y))

abbrev kind_front : KindSelectorLayer → Front
kind_front y = kind_step (map-KindSelector Argument CharacterParameter Expression TypeSpec KindSelector Link PartTree RangeTree Reference Front Front Front Front Front Front Front Front Front argument parameter expression type_spec kind_selector link part range reference (plain_kind y))

abbrev kind_view : KindSelectorLayer → Selector
kind_view y = kind_seen (map-KindSelector Argument CharacterParameter Expression TypeSpec KindSelector Link PartTree RangeTree Reference Arg Param Expr TypeOf Selector (Mark × Expr) Part Range Refer view_argument view_parameter view view_type view_kind view_link view_part view_range view_reference (plain_kind y))

abbrev kind_asked : KindSelectorLayer → Bool
kind_asked y = kind_told (map-KindSelector Argument CharacterParameter Expression TypeSpec KindSelector Link PartTree RangeTree Reference Bool Bool Bool Bool Bool Bool Bool Bool Bool argument_is_told parameter_is_told is_told type_is_told kind_is_told link_is_told part_is_told range_is_told reference_is_told (plain_kind y))

abbrev link_front : LinkLayer → Front
link_front y = link_step (map-Link Argument CharacterParameter Expression TypeSpec KindSelector Link PartTree RangeTree Reference Front Front Front Front Front Front Front Front Front argument parameter expression type_spec kind_selector link part range reference (plain_link y))

abbrev link_view : LinkLayer → Mark × Expr
link_view y = link_seen (map-Link Argument CharacterParameter Expression TypeSpec KindSelector Link PartTree RangeTree Reference Arg Param Expr TypeOf Selector (Mark × Expr) Part Range Refer view_argument view_parameter view view_type view_kind view_link view_part view_range view_reference (plain_link y))

abbrev link_asked : LinkLayer → Bool
link_asked y = link_told (map-Link Argument CharacterParameter Expression TypeSpec KindSelector Link PartTree RangeTree Reference Bool Bool Bool Bool Bool Bool Bool Bool Bool argument_is_told parameter_is_told is_told type_is_told kind_is_told link_is_told part_is_told range_is_told reference_is_told (plain_link y))

abbrev part_front : PartLayer → Front
part_front y = part_step (map-Part Argument CharacterParameter Expression TypeSpec KindSelector Link PartTree RangeTree Reference Front Front Front Front Front Front Front Front Front argument parameter expression type_spec kind_selector link part range reference (plain_part y))

abbrev part_view : PartLayer → Part
part_view y = part_seen (map-Part Argument CharacterParameter Expression TypeSpec KindSelector Link PartTree RangeTree Reference Arg Param Expr TypeOf Selector (Mark × Expr) Part Range Refer view_argument view_parameter view view_type view_kind view_link view_part view_range view_reference (plain_part y))

abbrev part_asked : PartLayer → Bool
part_asked y = part_told (map-Part Argument CharacterParameter Expression TypeSpec KindSelector Link PartTree RangeTree Reference Bool Bool Bool Bool Bool Bool Bool Bool Bool argument_is_told parameter_is_told is_told type_is_told kind_is_told link_is_told part_is_told range_is_told reference_is_told (plain_part y))

abbrev range_front : RangeLayer → Front
range_front y = range_step (map-Range Argument CharacterParameter Expression TypeSpec KindSelector Link PartTree RangeTree Reference Front Front Front Front Front Front Front Front Front argument parameter expression type_spec kind_selector link part range reference (plain_range y))

abbrev range_view : RangeLayer → Range
range_view y = range_seen (map-Range Argument CharacterParameter Expression TypeSpec KindSelector Link PartTree RangeTree Reference Arg Param Expr TypeOf Selector (Mark × Expr) Part Range Refer view_argument view_parameter view view_type view_kind view_link view_part view_range view_reference (plain_range y))

abbrev range_asked : RangeLayer → Bool
range_asked y = range_told (map-Range Argument CharacterParameter Expression TypeSpec KindSelector Link PartTree RangeTree Reference Bool Bool Bool Bool Bool Bool Bool Bool Bool argument_is_told parameter_is_told is_told type_is_told kind_is_told link_is_told part_is_told range_is_told reference_is_told (plain_range y))

abbrev reference_front : ReferenceLayer → Front
reference_front y = reference_step (map-Reference Argument CharacterParameter Expression TypeSpec KindSelector Link PartTree RangeTree Reference Front Front Front Front Front Front Front Front Front argument parameter expression type_spec kind_selector link part range reference (plain_reference y))

abbrev reference_view : ReferenceLayer → Refer
reference_view y = reference_seen (map-Reference Argument CharacterParameter Expression TypeSpec KindSelector Link PartTree RangeTree Reference Arg Param Expr TypeOf Selector (Mark × Expr) Part Range Refer view_argument view_parameter view view_type view_kind view_link view_part view_range view_reference (plain_reference y))

abbrev reference_asked : ReferenceLayer → Bool
reference_asked y = reference_told (map-Reference Argument CharacterParameter Expression TypeSpec KindSelector Link PartTree RangeTree Reference Bool Bool Bool Bool Bool Bool Bool Bool Bool argument_is_told parameter_is_told is_told type_is_told kind_is_told link_is_told part_is_told range_is_told reference_is_told (plain_reference y))

-- ---- lists of parts

others_agree : (xs : List ShownArgument) → all (map argument_is_told (map (λ x. x.0) xs)) ≡ true → (rest : List Lexeme) →
    tokens_of (behind_commas (map argument (map (λ x. x.0) xs)) rest) ≡ spell_others (args_of (map view_argument (map (λ x. x.0) xs))) (tokens_of rest)
others_agree [] sure rest = refl
others_agree (x ∷ xs) sure rest = ap (put mark.Comma) (x.1 (first_of (argument_is_told x.0) (all (map argument_is_told (map (λ x. x.0) xs))) sure) (behind_commas (map argument (map (λ x. x.0) xs)) rest)
    ∙ ap (spell_arg (view_argument x.0)) (others_agree xs (second_of (argument_is_told x.0) (all (map argument_is_told (map (λ x. x.0) xs))) sure) rest))

arguments_agree : (xs : List ShownArgument) → all (map argument_is_told (map (λ x. x.0) xs)) ≡ true → (rest : List Lexeme) →
    tokens_of (listed (map argument (map (λ x. x.0) xs)) rest) ≡ spell_args (args_of (map view_argument (map (λ x. x.0) xs))) (tokens_of rest)
arguments_agree [] sure rest = refl
arguments_agree (x ∷ xs) sure rest = x.1 (first_of (argument_is_told x.0) (all (map argument_is_told (map (λ x. x.0) xs))) sure) (behind_commas (map argument (map (λ x. x.0) xs)) rest)
    ∙ ap (spell_arg (view_argument x.0)) (others_agree xs (second_of (argument_is_told x.0) (all (map argument_is_told (map (λ x. x.0) xs))) sure) rest)

more_items_agree : (xs : List ShownExpression) → all (map is_told (map (λ x. x.0) xs)) ≡ true → (rest : List Lexeme) →
    tokens_of (behind_commas (map expression (map (λ x. x.0) xs)) rest) ≡ spell_others (items_of (map view (map (λ x. x.0) xs))) (tokens_of rest)
more_items_agree [] sure rest = refl
more_items_agree (x ∷ xs) sure rest = ap (put mark.Comma) (x.1 (first_of (is_told x.0) (all (map is_told (map (λ x. x.0) xs))) sure) (behind_commas (map expression (map (λ x. x.0) xs)) rest)
    ∙ ap (spell (view x.0)) (more_items_agree xs (second_of (is_told x.0) (all (map is_told (map (λ x. x.0) xs))) sure) rest))

items_agree : (xs : List ShownExpression) → all (map is_told (map (λ x. x.0) xs)) ≡ true → (rest : List Lexeme) →
    tokens_of (listed (map expression (map (λ x. x.0) xs)) rest) ≡ spell_args (items_of (map view (map (λ x. x.0) xs))) (tokens_of rest)
items_agree [] sure rest = refl
items_agree (x ∷ xs) sure rest = x.1 (first_of (is_told x.0) (all (map is_told (map (λ x. x.0) xs))) sure) (behind_commas (map expression (map (λ x. x.0) xs)) rest)
    ∙ ap (spell (view x.0)) (more_items_agree xs (second_of (is_told x.0) (all (map is_told (map (λ x. x.0) xs))) sure) rest)

links_agree : (xs : List ShownLink) → all (map link_is_told (map (λ x. x.0) xs)) ≡ true → (rest : List Lexeme) →
    tokens_of (each (map link (map (λ x. x.0) xs)) rest) ≡ spell_links (links_of (map view_link (map (λ x. x.0) xs))) (tokens_of rest)
links_agree [] sure rest = refl
links_agree (x ∷ xs) sure rest = x.1 (first_of (link_is_told x.0) (all (map link_is_told (map (λ x. x.0) xs))) sure) (each (map link (map (λ x. x.0) xs)) rest)
    ∙ ap (spell_link (view_link x.0)) (links_agree xs (second_of (link_is_told x.0) (all (map link_is_told (map (λ x. x.0) xs))) sure) rest)

parts_agree : (xs : List ShownPart) → all (map part_is_told (map (λ x. x.0) xs)) ≡ true → (rest : List Lexeme) →
    tokens_of (behind_percents (map part (map (λ x. x.0) xs)) rest) ≡ spell_parts (parts_of (map view_part (map (λ x. x.0) xs))) (tokens_of rest)
parts_agree [] sure rest = refl
parts_agree (x ∷ xs) sure rest = ap (put mark.Percent) (x.1 (first_of (part_is_told x.0) (all (map part_is_told (map (λ x. x.0) xs))) sure) (behind_percents (map part (map (λ x. x.0) xs)) rest)
    ∙ ap (spell_part (view_part x.0)) (parts_agree xs (second_of (part_is_told x.0) (all (map part_is_told (map (λ x. x.0) xs))) sure) rest))

parameters_agree : (xs : List ShownCharacterParameter) → all (map parameter_is_told (map (λ x. x.0) xs)) ≡ true → (rest : List Lexeme) →
    tokens_of (behind_commas (map parameter (map (λ x. x.0) xs)) rest) ≡ spell_mores (mores_of (map view_parameter (map (λ x. x.0) xs))) (tokens_of rest)
parameters_agree [] sure rest = refl
parameters_agree (x ∷ xs) sure rest = ap (put mark.Comma) (x.1 (first_of (parameter_is_told x.0) (all (map parameter_is_told (map (λ x. x.0) xs))) sure) (behind_commas (map parameter (map (λ x. x.0) xs)) rest)
    ∙ ap (spell_param (view_parameter x.0)) (parameters_agree xs (second_of (parameter_is_told x.0) (all (map parameter_is_told (map (λ x. x.0) xs))) sure) rest))

-- ---- parts that may be absent

maybe_agrees : (e : Option ShownExpression) → maybe (option_map is_told (option_map (λ x. x.0) e)) ≡ true → (rest : List Lexeme) →
    tokens_of (optional (option_map expression (option_map (λ x. x.0) e)) rest) ≡ spell_maybe (maybe_of (option_map view (option_map (λ x. x.0) e))) (tokens_of rest)
maybe_agrees None sure rest = refl
maybe_agrees (Some x) sure rest = x.1 sure rest

stride_agrees : (e : Option ShownExpression) → maybe (option_map is_told (option_map (λ x. x.0) e)) ≡ true → (rest : List Lexeme) →
    tokens_of (stride_of (option_map expression (option_map (λ x. x.0) e)) rest) ≡ spell_stride (maybe_of (option_map view (option_map (λ x. x.0) e))) (tokens_of rest)
stride_agrees None sure rest = refl
stride_agrees (Some x) sure rest = ap (put mark.Colon) (x.1 sure rest)

group_agrees : (xs : Option (List ShownArgument)) → maybe_all (option_map (map argument_is_told) (option_map (map (λ x. x.0)) xs)) ≡ true → (rest : List Lexeme) →
    tokens_of (optional_list (option_map (map argument) (option_map (map (λ x. x.0)) xs)) rest) ≡ spell_group (group_of (option_map (map view_argument) (option_map (map (λ x. x.0)) xs))) (tokens_of rest)
group_agrees None sure rest = refl
group_agrees (Some xs) sure rest = ap (put mark.Open) (arguments_agree xs sure (mark_of mark.Close rest))

substring_agrees : (r : Option ShownRange) → maybe (option_map range_is_told (option_map (λ x. x.0) r)) ≡ true → (rest : List Lexeme) →
    tokens_of (optional_range (option_map range (option_map (λ x. x.0) r)) rest) ≡ spell_range (range_of (option_map view_range (option_map (λ x. x.0) r))) (tokens_of rest)
substring_agrees None sure rest = refl
substring_agrees (Some x) sure rest = x.1 sure rest

kind_agrees : (k : Option ShownKindSelector) → maybe (option_map kind_is_told (option_map (λ x. x.0) k)) ≡ true → (rest : List Lexeme) →
    tokens_of (optional (option_map kind_selector (option_map (λ x. x.0) k)) rest) ≡ spell_kind (selector_of (option_map view_kind (option_map (λ x. x.0) k))) (tokens_of rest)
kind_agrees None sure rest = refl
kind_agrees (Some x) sure rest = x.1 sure rest

bounds_agree : (lower upper : Option ShownExpression) → (maybe (option_map is_told (option_map (λ x. x.0) lower)) && maybe (option_map is_told (option_map (λ x. x.0) upper))) ≡ true → (rest : List Lexeme) →
    tokens_of (optional (option_map expression (option_map (λ x. x.0) lower)) (mark_of mark.Colon (optional (option_map expression (option_map (λ x. x.0) upper)) rest)))
    ≡ spell_maybe (maybe_of (option_map view (option_map (λ x. x.0) lower))) (put mark.Colon (spell_maybe (maybe_of (option_map view (option_map (λ x. x.0) upper))) (tokens_of rest)))
bounds_agree lower upper sure rest =
    let l : Bool = maybe (option_map is_told (option_map (λ x. x.0) lower)) in
    let u : Bool = maybe (option_map is_told (option_map (λ x. x.0) upper)) in
    maybe_agrees lower (first_of l u sure) (mark_of mark.Colon (optional (option_map expression (option_map (λ x. x.0) upper)) rest))
    ∙ ap (λ (ts : List Token). spell_maybe (maybe_of (option_map view (option_map (λ x. x.0) lower))) (put mark.Colon ts)) (maybe_agrees upper (second_of l u sure) rest)

section_agrees : (lower upper stride : Option ShownExpression) (p : Place) →
    (maybe (option_map is_told (option_map (λ x. x.0) lower)) && (maybe (option_map is_told (option_map (λ x. x.0) upper)) && maybe (option_map is_told (option_map (λ x. x.0) stride)))) ≡ true → (rest : List Lexeme) →
    tokens_of (optional (option_map expression (option_map (λ x. x.0) lower)) (placed_mark mark.Colon p (optional (option_map expression (option_map (λ x. x.0) upper)) (stride_of (option_map expression (option_map (λ x. x.0) stride)) rest))))
    ≡ spell_maybe (maybe_of (option_map view (option_map (λ x. x.0) lower))) (put mark.Colon (spell_maybe (maybe_of (option_map view (option_map (λ x. x.0) upper))) (spell_stride (maybe_of (option_map view (option_map (λ x. x.0) stride))) (tokens_of rest))))
section_agrees lower upper stride p sure rest =
    let l : Bool = maybe (option_map is_told (option_map (λ x. x.0) lower)) in
    let u : Bool = maybe (option_map is_told (option_map (λ x. x.0) upper)) in
    let s : Bool = maybe (option_map is_told (option_map (λ x. x.0) stride)) in
    let behind : List Lexeme = stride_of (option_map expression (option_map (λ x. x.0) stride)) rest in
    maybe_agrees lower (first_of l (u && s) sure) (placed_mark mark.Colon p (optional (option_map expression (option_map (λ x. x.0) upper)) behind))
    ∙ ap (λ (ts : List Token). spell_maybe (maybe_of (option_map view (option_map (λ x. x.0) lower))) (put mark.Colon ts)) (maybe_agrees upper (first_of u s (second_of l (u && s) sure)) behind
    ∙ ap (spell_maybe (maybe_of (option_map view (option_map (λ x. x.0) upper)))) (stride_agrees stride (second_of u s (second_of l (u && s) sure)) rest))

strided_agrees : (lower : Option ShownExpression) (stride : ShownExpression) (p : Place) → (maybe (option_map is_told (option_map (λ x. x.0) lower)) && is_told stride.0) ≡ true → (rest : List Lexeme) →
    tokens_of (optional (option_map expression (option_map (λ x. x.0) lower)) (placed_mark mark.DoubleColon p (expression stride.0 rest)))
    ≡ spell_maybe (maybe_of (option_map view (option_map (λ x. x.0) lower))) (put mark.DoubleColon (spell (view stride.0) (tokens_of rest)))
strided_agrees lower stride p sure rest =
    let l : Bool = maybe (option_map is_told (option_map (λ x. x.0) lower)) in
    maybe_agrees lower (first_of l (is_told stride.0) sure) (placed_mark mark.DoubleColon p (expression stride.0 rest))
    ∙ ap (λ (ts : List Token). spell_maybe (maybe_of (option_map view (option_map (λ x. x.0) lower))) (put mark.DoubleColon ts)) (stride.1 (second_of l (is_told stride.0) sure) rest)

sign_agrees : (s : Option Sign) (rest : List Lexeme) → tokens_of (sign_of s rest) ≡ spell_sign (sign_mark s) (tokens_of rest)
sign_agrees None rest = refl
sign_agrees (Some s) rest = refl

keyword_agrees : (n : Option Name) (rest : List Lexeme) → tokens_of (name_key n rest) ≡ spell_key (keyword_of n) (tokens_of rest)
keyword_agrees None rest = refl
keyword_agrees (Some n) rest = refl

word_agrees : (w : List ℕ) (p : Option Place) (rest : List Lexeme) → tokens_of (placed_key w p rest) ≡ spell_word w (is_some p) (tokens_of rest)
word_agrees w None rest = refl
word_agrees w (Some p) rest = refl

when_agrees : (b : Bool) (rest : List Lexeme) → tokens_of (when b (key_of (codes "kind")) rest) ≡ spell_word (codes "kind") b (tokens_of rest)
when_agrees true rest = refl
when_agrees false rest = refl

-- ---- each layer

argument_shown : (y : ArgumentLayer) → argument_asked y ≡ true → (rest : List Lexeme) → tokens_of (argument_front y rest) ≡ spell_arg (argument_view y) (tokens_of rest)
argument_shown (open_.Value keyword value) sure rest = keyword_agrees keyword (expression value.0 rest) ∙ ap (spell_key (keyword_of keyword)) (value.1 sure rest)
argument_shown (open_.Section None p None None) sure rest = refl
argument_shown (open_.Section None p None (Some s)) sure rest = section_agrees None None (Some s) p sure rest
argument_shown (open_.Section None p (Some u) None) sure rest = section_agrees None (Some u) None p sure rest
argument_shown (open_.Section None p (Some u) (Some s)) sure rest = section_agrees None (Some u) (Some s) p sure rest
argument_shown (open_.Section (Some l) p None None) sure rest = section_agrees (Some l) None None p sure rest
argument_shown (open_.Section (Some l) p None (Some s)) sure rest = section_agrees (Some l) None (Some s) p sure rest
argument_shown (open_.Section (Some l) p (Some u) None) sure rest = section_agrees (Some l) (Some u) None p sure rest
argument_shown (open_.Section (Some l) p (Some u) (Some s)) sure rest = section_agrees (Some l) (Some u) (Some s) p sure rest
argument_shown (open_.Strided None p stride) sure rest = strided_agrees None stride p sure rest
argument_shown (open_.Strided (Some l) p stride) sure rest = strided_agrees (Some l) stride p sure rest

parameter_shown : (y : CharacterParameterLayer) → parameter_asked y ≡ true → (rest : List Lexeme) → tokens_of (parameter_front y rest) ≡ spell_param (parameter_view y) (tokens_of rest)
parameter_shown (open_.Length word value) sure rest = word_agrees (codes "len") word (expression value.0 rest) ∙ ap (spell_word (codes "len") (is_some word)) (value.1 sure rest)
parameter_shown (open_.AssumedLength word p) sure rest = word_agrees (codes "len") word (placed_mark mark.Star p rest)
parameter_shown (open_.Kind word value) sure rest = word_agrees (codes "kind") word (expression value.0 rest) ∙ ap (spell_word (codes "kind") (is_some word)) (value.1 sure rest)

typed_agrees : (t : ShownTypeSpec) (items : List ShownExpression) → (type_is_told t.0 && all (map is_told (map (λ x. x.0) items))) ≡ true → (rest : List Lexeme) →
    tokens_of (type_spec t.0 (mark_of mark.DoubleColon (listed (map expression (map (λ x. x.0) items)) (mark_of mark.CloseBracket rest))))
    ≡ spell_type (view_type t.0) (put mark.DoubleColon (spell_args (items_of (map view (map (λ x. x.0) items))) (put mark.CloseBracket (tokens_of rest))))
typed_agrees t items sure rest =
    let a : Bool = all (map is_told (map (λ x. x.0) items)) in
    t.1 (first_of (type_is_told t.0) a sure) (mark_of mark.DoubleColon (listed (map expression (map (λ x. x.0) items)) (mark_of mark.CloseBracket rest)))
    ∙ ap (λ (ts : List Token). spell_type (view_type t.0) (put mark.DoubleColon ts)) (items_agree items (second_of (type_is_told t.0) a sure) (mark_of mark.CloseBracket rest))

chain_agrees : (sign : Option Sign) (first : ShownExpression) (links : List ShownLink) → (is_told first.0 && all (map link_is_told (map (λ x. x.0) links))) ≡ true → (rest : List Lexeme) →
    tokens_of (sign_of sign (expression first.0 (each (map link (map (λ x. x.0) links)) rest)))
    ≡ spell_sign (sign_mark sign) (spell (view first.0) (spell_links (links_of (map view_link (map (λ x. x.0) links))) (tokens_of rest)))
chain_agrees sign first links sure rest =
    let a : Bool = all (map link_is_told (map (λ x. x.0) links)) in
    sign_agrees sign (expression first.0 (each (map link (map (λ x. x.0) links)) rest))
    ∙ ap (spell_sign (sign_mark sign)) (first.1 (first_of (is_told first.0) a sure) (each (map link (map (λ x. x.0) links)) rest)
    ∙ ap (spell (view first.0)) (links_agree links (second_of (is_told first.0) a sure) rest))

expression_shown : (y : ExpressionLayer) → expression_asked y ≡ true → (rest : List Lexeme) → tokens_of (expression_front y rest) ≡ spell (expression_view y) (tokens_of rest)
expression_shown (open_.Number digits k p) sure rest = refl
expression_shown (open_.Truth value k p) sure rest = refl
expression_shown (open_.Text bytes k p) sure rest = refl
expression_shown (open_.Reference r) sure rest = r.1 sure rest
expression_shown (open_.Parenthesized p inner) sure rest = ap (put mark.Open) (inner.1 sure (mark_of mark.Close rest))
expression_shown (open_.Constructor p None items) sure rest = ap (put mark.OpenBracket) (items_agree items sure (mark_of mark.CloseBracket rest))
expression_shown (open_.Constructor p (Some t) items) sure rest = ap (put mark.OpenBracket) (typed_agrees t items sure rest)
expression_shown (open_.Chain level sign first links) sure rest = chain_agrees sign first links sure rest

type_shown : (y : TypeSpecLayer) → type_asked y ≡ true → (rest : List Lexeme) → tokens_of (type_front y rest) ≡ spell_type (type_view y) (tokens_of rest)
type_shown (open_.Integer p None) sure rest = refl
type_shown (open_.Integer p (Some k)) sure rest = ap (λ (ts : List Token). token.Name (codes "integer") ∷ ts) (kind_agrees (Some k) sure rest)
type_shown (open_.Logical p None) sure rest = refl
type_shown (open_.Logical p (Some k)) sure rest = ap (λ (ts : List Token). token.Name (codes "logical") ∷ ts) (kind_agrees (Some k) sure rest)
type_shown (open_.Character p None) sure rest = refl
type_shown (open_.Character p (Some [])) sure rest = absurd (let no : false ≡ true = sure in cc)
type_shown (open_.Character p (Some (x ∷ xs))) sure rest =
    let a : Bool = all (map parameter_is_told (map (λ x. x.0) xs)) in
    ap (λ (ts : List Token). token.Name (codes "character") ∷ put mark.Open ts) (x.1 (first_of (parameter_is_told x.0) a sure) (behind_commas (map parameter (map (λ x. x.0) xs)) (mark_of mark.Close rest))
    ∙ ap (spell_param (view_parameter x.0)) (parameters_agree xs (second_of (parameter_is_told x.0) a sure) (mark_of mark.Close rest)))
type_shown (open_.Derived p name) sure rest = refl
type_shown (open_.Assumed p) sure rest = refl

kind_shown : (y : KindSelectorLayer) → kind_asked y ≡ true → (rest : List Lexeme) → tokens_of (kind_front y rest) ≡ spell_kind (kind_view y) (tokens_of rest)
kind_shown y sure rest = ap (put mark.Open) (when_agrees y.has_word (expression y.value.0 (mark_of mark.Close rest)) ∙ ap (spell_word (codes "kind") y.has_word) (y.value.1 sure (mark_of mark.Close rest)))

link_shown : (y : LinkLayer) → link_asked y ≡ true → (rest : List Lexeme) → tokens_of (link_front y rest) ≡ spell_link (link_view y) (tokens_of rest)
link_shown y sure rest = ap (put y.operator) (y.operand.1 sure rest)

part_agrees : (name : Name) (xs : Option (List ShownArgument)) (r : Option ShownRange) →
    (maybe_all (option_map (map argument_is_told) (option_map (map (λ x. x.0)) xs)) && maybe (option_map range_is_told (option_map (λ x. x.0) r))) ≡ true → (rest : List Lexeme) →
    tokens_of (name_of name (optional_list (option_map (map argument) (option_map (map (λ x. x.0)) xs)) (optional_range (option_map range (option_map (λ x. x.0) r)) rest)))
    ≡ token.Name name.bytes ∷ spell_group (group_of (option_map (map view_argument) (option_map (map (λ x. x.0)) xs))) (spell_range (range_of (option_map view_range (option_map (λ x. x.0) r))) (tokens_of rest))
part_agrees name xs r sure rest =
    let a : Bool = maybe_all (option_map (map argument_is_told) (option_map (map (λ x. x.0)) xs)) in
    let b : Bool = maybe (option_map range_is_told (option_map (λ x. x.0) r)) in
    ap (λ (ts : List Token). token.Name name.bytes ∷ ts) (group_agrees xs (first_of a b sure) (optional_range (option_map range (option_map (λ x. x.0) r)) rest)
    ∙ ap (spell_group (group_of (option_map (map view_argument) (option_map (map (λ x. x.0)) xs)))) (substring_agrees r (second_of a b sure) rest))

part_shown : (y : PartLayer) → part_asked y ≡ true → (rest : List Lexeme) → tokens_of (part_front y rest) ≡ spell_part (part_view y) (tokens_of rest)
part_shown y = of y.arguments y.substring
  where
    with_parts : Option (List ShownArgument) → Option ShownRange → PartLayer
    with_parts xs r = record { name = y.name; arguments = xs; substring = r }

    of : (xs : Option (List ShownArgument)) (r : Option ShownRange) → part_asked (with_parts xs r) ≡ true → (rest : List Lexeme) → tokens_of (part_front (with_parts xs r) rest) ≡ spell_part (part_view (with_parts xs r)) (tokens_of rest)
    of None None sure rest = refl
    of None (Some r) sure rest = part_agrees y.name None (Some r) sure rest
    of (Some xs) None sure rest = part_agrees y.name (Some xs) None sure rest
    of (Some xs) (Some r) sure rest = part_agrees y.name (Some xs) (Some r) sure rest

range_shown : (y : RangeLayer) → range_asked y ≡ true → (rest : List Lexeme) → tokens_of (in_parentheses (range_front y) rest) ≡ spell_bounds (range_view y) (tokens_of rest)
range_shown y = of y.lower y.upper
  where
    with_bounds : Option ShownExpression → Option ShownExpression → RangeLayer
    with_bounds lower upper = record { lower = lower; upper = upper }

    of : (lower upper : Option ShownExpression) → range_asked (with_bounds lower upper) ≡ true → (rest : List Lexeme) → tokens_of (in_parentheses (range_front (with_bounds lower upper)) rest) ≡ spell_bounds (range_view (with_bounds lower upper)) (tokens_of rest)
    of None None sure rest = refl
    of None (Some u) sure rest = ap (put mark.Open) (bounds_agree None (Some u) sure (mark_of mark.Close rest))
    of (Some l) None sure rest = ap (put mark.Open) (bounds_agree (Some l) None sure (mark_of mark.Close rest))
    of (Some l) (Some u) sure rest = ap (put mark.Open) (bounds_agree (Some l) (Some u) sure (mark_of mark.Close rest))

reference_shown : (y : ReferenceLayer) → reference_asked y ≡ true → (rest : List Lexeme) → tokens_of (reference_front y rest) ≡ spell_refer (reference_view y) (tokens_of rest)
reference_shown y sure rest =
    let a : Bool = all (map part_is_told (map (λ x. x.0) y.others)) in
    y.first.1 (first_of (part_is_told y.first.0) a sure) (behind_percents (map part (map (λ x. x.0) y.others)) rest)
    ∙ ap (spell_part (view_part y.first.0)) (parts_agree y.others (second_of (part_is_told y.first.0) a sure) rest)

-- ---- each tree, where its parts have it

argument_layer : (y : ArgumentLayer) → IsArgument (roll-Argument (plain_argument y))
argument_layer y sure rest =
    ap (λ (f : Front). tokens_of (f rest)) (fold-roll-Argument Front Front Front Front Front Front Front Front Front argument_step parameter_step expression_step type_step kind_step link_step part_step range_step reference_step (plain_argument y))
    ∙ argument_shown y (sym (fold-roll-Argument Bool Bool Bool Bool Bool Bool Bool Bool Bool argument_told parameter_told expression_told type_told kind_told link_told part_told range_told reference_told (plain_argument y)) ∙ sure) rest
    ∙ sym (ap (λ (v : Arg). spell_arg v (tokens_of rest)) (fold-roll-Argument Arg Param Expr TypeOf Selector (Mark × Expr) Part Range Refer argument_seen parameter_seen expression_seen type_seen kind_seen link_seen part_seen range_seen reference_seen (plain_argument y)))

parameter_layer : (y : CharacterParameterLayer) → IsCharacterParameter (roll-CharacterParameter (plain_parameter y))
parameter_layer y sure rest =
    ap (λ (f : Front). tokens_of (f rest)) (fold-roll-CharacterParameter Front Front Front Front Front Front Front Front Front argument_step parameter_step expression_step type_step kind_step link_step part_step range_step reference_step (plain_parameter y))
    ∙ parameter_shown y (sym (fold-roll-CharacterParameter Bool Bool Bool Bool Bool Bool Bool Bool Bool argument_told parameter_told expression_told type_told kind_told link_told part_told range_told reference_told (plain_parameter y)) ∙ sure) rest
    ∙ sym (ap (λ (v : Param). spell_param v (tokens_of rest)) (fold-roll-CharacterParameter Arg Param Expr TypeOf Selector (Mark × Expr) Part Range Refer argument_seen parameter_seen expression_seen type_seen kind_seen link_seen part_seen range_seen reference_seen (plain_parameter y)))

expression_layer : (y : ExpressionLayer) → IsExpression (roll-Expression (plain_expression y))
expression_layer y sure rest =
    ap (λ (f : Front). tokens_of (f rest)) (fold-roll-Expression Front Front Front Front Front Front Front Front Front argument_step parameter_step expression_step type_step kind_step link_step part_step range_step reference_step (plain_expression y))
    ∙ expression_shown y (sym (fold-roll-Expression Bool Bool Bool Bool Bool Bool Bool Bool Bool argument_told parameter_told expression_told type_told kind_told link_told part_told range_told reference_told (plain_expression y)) ∙ sure) rest
    ∙ sym (ap (λ (v : Expr). spell v (tokens_of rest)) (fold-roll-Expression Arg Param Expr TypeOf Selector (Mark × Expr) Part Range Refer argument_seen parameter_seen expression_seen type_seen kind_seen link_seen part_seen range_seen reference_seen (plain_expression y)))

type_layer : (y : TypeSpecLayer) → IsTypeSpec (roll-TypeSpec (plain_type y))
type_layer y sure rest =
    ap (λ (f : Front). tokens_of (f rest)) (fold-roll-TypeSpec Front Front Front Front Front Front Front Front Front argument_step parameter_step expression_step type_step kind_step link_step part_step range_step reference_step (plain_type y))
    ∙ type_shown y (sym (fold-roll-TypeSpec Bool Bool Bool Bool Bool Bool Bool Bool Bool argument_told parameter_told expression_told type_told kind_told link_told part_told range_told reference_told (plain_type y)) ∙ sure) rest
    ∙ sym (ap (λ (v : TypeOf). spell_type v (tokens_of rest)) (fold-roll-TypeSpec Arg Param Expr TypeOf Selector (Mark × Expr) Part Range Refer argument_seen parameter_seen expression_seen type_seen kind_seen link_seen part_seen range_seen reference_seen (plain_type y)))

kind_layer : (y : KindSelectorLayer) → IsKindSelector (roll-KindSelector (plain_kind y))
kind_layer y sure rest =
    ap (λ (f : Front). tokens_of (f rest)) (fold-roll-KindSelector Front Front Front Front Front Front Front Front Front argument_step parameter_step expression_step type_step kind_step link_step part_step range_step reference_step (plain_kind y))
    ∙ kind_shown y (sym (fold-roll-KindSelector Bool Bool Bool Bool Bool Bool Bool Bool Bool argument_told parameter_told expression_told type_told kind_told link_told part_told range_told reference_told (plain_kind y)) ∙ sure) rest
    ∙ sym (ap (λ (v : Selector). spell_kind v (tokens_of rest)) (fold-roll-KindSelector Arg Param Expr TypeOf Selector (Mark × Expr) Part Range Refer argument_seen parameter_seen expression_seen type_seen kind_seen link_seen part_seen range_seen reference_seen (plain_kind y)))

link_layer : (y : LinkLayer) → IsLink (roll-Link (plain_link y))
link_layer y sure rest =
    ap (λ (f : Front). tokens_of (f rest)) (fold-roll-Link Front Front Front Front Front Front Front Front Front argument_step parameter_step expression_step type_step kind_step link_step part_step range_step reference_step (plain_link y))
    ∙ link_shown y (sym (fold-roll-Link Bool Bool Bool Bool Bool Bool Bool Bool Bool argument_told parameter_told expression_told type_told kind_told link_told part_told range_told reference_told (plain_link y)) ∙ sure) rest
    ∙ sym (ap (λ (v : Mark × Expr). spell_link v (tokens_of rest)) (fold-roll-Link Arg Param Expr TypeOf Selector (Mark × Expr) Part Range Refer argument_seen parameter_seen expression_seen type_seen kind_seen link_seen part_seen range_seen reference_seen (plain_link y)))

part_layer : (y : PartLayer) → IsPart (roll-Part (plain_part y))
part_layer y sure rest =
    ap (λ (f : Front). tokens_of (f rest)) (fold-roll-Part Front Front Front Front Front Front Front Front Front argument_step parameter_step expression_step type_step kind_step link_step part_step range_step reference_step (plain_part y))
    ∙ part_shown y (sym (fold-roll-Part Bool Bool Bool Bool Bool Bool Bool Bool Bool argument_told parameter_told expression_told type_told kind_told link_told part_told range_told reference_told (plain_part y)) ∙ sure) rest
    ∙ sym (ap (λ (v : Part). spell_part v (tokens_of rest)) (fold-roll-Part Arg Param Expr TypeOf Selector (Mark × Expr) Part Range Refer argument_seen parameter_seen expression_seen type_seen kind_seen link_seen part_seen range_seen reference_seen (plain_part y)))

range_layer : (y : RangeLayer) → IsRange (roll-Range (plain_range y))
range_layer y sure rest =
    ap (λ (f : Front). tokens_of (in_parentheses f rest)) (fold-roll-Range Front Front Front Front Front Front Front Front Front argument_step parameter_step expression_step type_step kind_step link_step part_step range_step reference_step (plain_range y))
    ∙ range_shown y (sym (fold-roll-Range Bool Bool Bool Bool Bool Bool Bool Bool Bool argument_told parameter_told expression_told type_told kind_told link_told part_told range_told reference_told (plain_range y)) ∙ sure) rest
    ∙ sym (ap (λ (v : Range). spell_bounds v (tokens_of rest)) (fold-roll-Range Arg Param Expr TypeOf Selector (Mark × Expr) Part Range Refer argument_seen parameter_seen expression_seen type_seen kind_seen link_seen part_seen range_seen reference_seen (plain_range y)))

reference_layer : (y : ReferenceLayer) → IsReference (roll-Reference (plain_reference y))
reference_layer y sure rest =
    ap (λ (f : Front). tokens_of (f rest)) (fold-roll-Reference Front Front Front Front Front Front Front Front Front argument_step parameter_step expression_step type_step kind_step link_step part_step range_step reference_step (plain_reference y))
    ∙ reference_shown y (sym (fold-roll-Reference Bool Bool Bool Bool Bool Bool Bool Bool Bool argument_told parameter_told expression_told type_told kind_told link_told part_told range_told reference_told (plain_reference y)) ∙ sure) rest
    ∙ sym (ap (λ (v : Refer). spell_refer v (tokens_of rest)) (fold-roll-Reference Arg Param Expr TypeOf Selector (Mark × Expr) Part Range Refer argument_seen parameter_seen expression_seen type_seen kind_seen link_seen part_seen range_seen reference_seen (plain_reference y)))

-- ---- all trees

pub expressions_spelled : (x : Expression) → IsExpression x
expressions_spelled = ind-Expression IsArgument IsCharacterParameter IsExpression IsTypeSpec IsKindSelector IsLink IsPart IsRange IsReference
    (λ x y is. subst (λ (z : Argument-F Argument CharacterParameter Expression TypeSpec KindSelector Link PartTree RangeTree Reference). IsArgument (roll-Argument z)) is (argument_layer y))
    (λ x y is. subst (λ (z : CharacterParameter-F Argument CharacterParameter Expression TypeSpec KindSelector Link PartTree RangeTree Reference). IsCharacterParameter (roll-CharacterParameter z)) is (parameter_layer y))
    (λ x y is. subst (λ (z : Expression-F Argument CharacterParameter Expression TypeSpec KindSelector Link PartTree RangeTree Reference). IsExpression (roll-Expression z)) is (expression_layer y))
    (λ x y is. subst (λ (z : TypeSpec-F Argument CharacterParameter Expression TypeSpec KindSelector Link PartTree RangeTree Reference). IsTypeSpec (roll-TypeSpec z)) is (type_layer y))
    (λ x y is. subst (λ (z : KindSelector-F Argument CharacterParameter Expression TypeSpec KindSelector Link PartTree RangeTree Reference). IsKindSelector (roll-KindSelector z)) is (kind_layer y))
    (λ x y is. subst (λ (z : Link-F Argument CharacterParameter Expression TypeSpec KindSelector Link PartTree RangeTree Reference). IsLink (roll-Link z)) is (link_layer y))
    (λ x y is. subst (λ (z : Part-F Argument CharacterParameter Expression TypeSpec KindSelector Link PartTree RangeTree Reference). IsPart (roll-Part z)) is (part_layer y))
    (λ x y is. subst (λ (z : Range-F Argument CharacterParameter Expression TypeSpec KindSelector Link PartTree RangeTree Reference). IsRange (roll-Range z)) is (range_layer y))
    (λ x y is. subst (λ (z : Reference-F Argument CharacterParameter Expression TypeSpec KindSelector Link PartTree RangeTree Reference). IsReference (roll-Reference z)) is (reference_layer y))

pub references_spelled : (x : Reference) → IsReference x
references_spelled = ind-Reference IsArgument IsCharacterParameter IsExpression IsTypeSpec IsKindSelector IsLink IsPart IsRange IsReference
    (λ x y is. subst (λ (z : Argument-F Argument CharacterParameter Expression TypeSpec KindSelector Link PartTree RangeTree Reference). IsArgument (roll-Argument z)) is (argument_layer y))
    (λ x y is. subst (λ (z : CharacterParameter-F Argument CharacterParameter Expression TypeSpec KindSelector Link PartTree RangeTree Reference). IsCharacterParameter (roll-CharacterParameter z)) is (parameter_layer y))
    (λ x y is. subst (λ (z : Expression-F Argument CharacterParameter Expression TypeSpec KindSelector Link PartTree RangeTree Reference). IsExpression (roll-Expression z)) is (expression_layer y))
    (λ x y is. subst (λ (z : TypeSpec-F Argument CharacterParameter Expression TypeSpec KindSelector Link PartTree RangeTree Reference). IsTypeSpec (roll-TypeSpec z)) is (type_layer y))
    (λ x y is. subst (λ (z : KindSelector-F Argument CharacterParameter Expression TypeSpec KindSelector Link PartTree RangeTree Reference). IsKindSelector (roll-KindSelector z)) is (kind_layer y))
    (λ x y is. subst (λ (z : Link-F Argument CharacterParameter Expression TypeSpec KindSelector Link PartTree RangeTree Reference). IsLink (roll-Link z)) is (link_layer y))
    (λ x y is. subst (λ (z : Part-F Argument CharacterParameter Expression TypeSpec KindSelector Link PartTree RangeTree Reference). IsPart (roll-Part z)) is (part_layer y))
    (λ x y is. subst (λ (z : Range-F Argument CharacterParameter Expression TypeSpec KindSelector Link PartTree RangeTree Reference). IsRange (roll-Range z)) is (range_layer y))
    (λ x y is. subst (λ (z : Reference-F Argument CharacterParameter Expression TypeSpec KindSelector Link PartTree RangeTree Reference). IsReference (roll-Reference z)) is (reference_layer y))

pub arguments_spelled : (x : Argument) → IsArgument x
arguments_spelled = ind-Argument IsArgument IsCharacterParameter IsExpression IsTypeSpec IsKindSelector IsLink IsPart IsRange IsReference
    (λ x y is. subst (λ (z : Argument-F Argument CharacterParameter Expression TypeSpec KindSelector Link PartTree RangeTree Reference). IsArgument (roll-Argument z)) is (argument_layer y))
    (λ x y is. subst (λ (z : CharacterParameter-F Argument CharacterParameter Expression TypeSpec KindSelector Link PartTree RangeTree Reference). IsCharacterParameter (roll-CharacterParameter z)) is (parameter_layer y))
    (λ x y is. subst (λ (z : Expression-F Argument CharacterParameter Expression TypeSpec KindSelector Link PartTree RangeTree Reference). IsExpression (roll-Expression z)) is (expression_layer y))
    (λ x y is. subst (λ (z : TypeSpec-F Argument CharacterParameter Expression TypeSpec KindSelector Link PartTree RangeTree Reference). IsTypeSpec (roll-TypeSpec z)) is (type_layer y))
    (λ x y is. subst (λ (z : KindSelector-F Argument CharacterParameter Expression TypeSpec KindSelector Link PartTree RangeTree Reference). IsKindSelector (roll-KindSelector z)) is (kind_layer y))
    (λ x y is. subst (λ (z : Link-F Argument CharacterParameter Expression TypeSpec KindSelector Link PartTree RangeTree Reference). IsLink (roll-Link z)) is (link_layer y))
    (λ x y is. subst (λ (z : Part-F Argument CharacterParameter Expression TypeSpec KindSelector Link PartTree RangeTree Reference). IsPart (roll-Part z)) is (part_layer y))
    (λ x y is. subst (λ (z : Range-F Argument CharacterParameter Expression TypeSpec KindSelector Link PartTree RangeTree Reference). IsRange (roll-Range z)) is (range_layer y))
    (λ x y is. subst (λ (z : Reference-F Argument CharacterParameter Expression TypeSpec KindSelector Link PartTree RangeTree Reference). IsReference (roll-Reference z)) is (reference_layer y))

pub types_spelled : (x : TypeSpec) → IsTypeSpec x
types_spelled = ind-TypeSpec IsArgument IsCharacterParameter IsExpression IsTypeSpec IsKindSelector IsLink IsPart IsRange IsReference
    (λ x y is. subst (λ (z : Argument-F Argument CharacterParameter Expression TypeSpec KindSelector Link PartTree RangeTree Reference). IsArgument (roll-Argument z)) is (argument_layer y))
    (λ x y is. subst (λ (z : CharacterParameter-F Argument CharacterParameter Expression TypeSpec KindSelector Link PartTree RangeTree Reference). IsCharacterParameter (roll-CharacterParameter z)) is (parameter_layer y))
    (λ x y is. subst (λ (z : Expression-F Argument CharacterParameter Expression TypeSpec KindSelector Link PartTree RangeTree Reference). IsExpression (roll-Expression z)) is (expression_layer y))
    (λ x y is. subst (λ (z : TypeSpec-F Argument CharacterParameter Expression TypeSpec KindSelector Link PartTree RangeTree Reference). IsTypeSpec (roll-TypeSpec z)) is (type_layer y))
    (λ x y is. subst (λ (z : KindSelector-F Argument CharacterParameter Expression TypeSpec KindSelector Link PartTree RangeTree Reference). IsKindSelector (roll-KindSelector z)) is (kind_layer y))
    (λ x y is. subst (λ (z : Link-F Argument CharacterParameter Expression TypeSpec KindSelector Link PartTree RangeTree Reference). IsLink (roll-Link z)) is (link_layer y))
    (λ x y is. subst (λ (z : Part-F Argument CharacterParameter Expression TypeSpec KindSelector Link PartTree RangeTree Reference). IsPart (roll-Part z)) is (part_layer y))
    (λ x y is. subst (λ (z : Range-F Argument CharacterParameter Expression TypeSpec KindSelector Link PartTree RangeTree Reference). IsRange (roll-Range z)) is (range_layer y))
    (λ x y is. subst (λ (z : Reference-F Argument CharacterParameter Expression TypeSpec KindSelector Link PartTree RangeTree Reference). IsReference (roll-Reference z)) is (reference_layer y))
