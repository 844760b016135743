-- The tokens of expressions, references and types (ISO/IEC 1539-1:2018, 7.2, 9 and 10.1).
use Rattle.std.specs.Prelude.{List, [], ◌∷◌, Option, Some, None, codes}
use Rattle.f_lex.specs.declared.token.Mark.TheVariants.{Open, Close, OpenBracket, CloseBracket, Percent, Colon, DoubleColon, Star}
use Rattle.f_lex.specs.declared.token.Token.TheVariants as token
use Rattle.f_tree.specs.declared.expression.Expression.{Expression}
use Rattle.f_tree.specs.declared.expression.Argument.TheOpen as open_
use Rattle.f_tree.specs.declared.expression.Argument.TheOpen.{Expression-F, Link-F, Reference-F, Part-F, Range-F, Argument-F, TypeSpec-F, KindSelector-F, CharacterParameter-F}
use Rattle.f_tree.specs.declared.expression.Argument.TheFolds.{fold-Expression, fold-Link, fold-Reference, fold-Part, fold-Range, fold-TypeSpec, fold-KindSelector, fold-CharacterParameter}
use Rattle.f_tree.specs.declared.expression.Link.{Link}
use Rattle.f_tree.specs.declared.expression.Reference.{Reference}
use Rattle.f_tree.specs.declared.expression.Part.{Part}
use Rattle.f_tree.specs.declared.expression.Range.{Range}
use Rattle.f_tree.specs.declared.expression.Argument.{Argument, fold-Argument}
use Rattle.f_tree.specs.declared.expression.TypeSpec.{TypeSpec}
use Rattle.f_tree.specs.declared.expression.KindSelector.{KindSelector}
use Rattle.f_tree.specs.declared.expression.CharacterParameter.{CharacterParameter}
use Rattle.f_tree.specs.declared.expression.Sign.{Sign}
use Rattle.f_tree.specs.Lexemes.{Front, lexeme, mark_of, placed_mark, placed_word, name_of, when, optional, each, listed, in_parentheses, optional_list, key_of, placed_key, name_key}

abbrev pub sign_of : Option Sign → Front
sign_of None rest = rest
sign_of (Some s) rest = placed_mark s.operator s.place rest

-- the type of a constructor
abbrev pub constructor_type : Option Front → Front
constructor_type None rest = rest
constructor_type (Some t) rest = t (mark_of DoubleColon rest)

abbrev pub expression_step : Expression-F Front Front Front Front Front Front Front Front Front → Front
expression_step (open_.Number digits kind p) rest = lexeme (token.Number digits kind) (Some p) rest
expression_step (open_.Truth value kind p) rest = lexeme (token.Truth value kind) (Some p) rest
expression_step (open_.Text bytes kind p) rest = lexeme (token.Text bytes kind) (Some p) rest
expression_step (open_.Reference r) rest = r rest
expression_step (open_.Parenthesized p inner) rest = placed_mark Open p (inner (mark_of Close rest))
expression_step (open_.Constructor p declared items) rest = placed_mark OpenBracket p (constructor_type declared (listed items (mark_of CloseBracket rest)))
expression_step (open_.Chain level sign first links) rest = sign_of sign (first (each links rest))

abbrev pub link_step : Link-F Front Front Front Front Front Front Front Front Front → Front
link_step l rest = mark_of l.operator (l.operand rest)

-- each part behind a `%`
abbrev pub behind_percents : List Front → Front
behind_percents [] rest = rest
behind_percents (f ∷ fs) rest = mark_of Percent (f (behind_percents fs rest))

abbrev pub reference_step : Reference-F Front Front Front Front Front Front Front Front Front → Front
reference_step r rest = r.first (behind_percents r.others rest)

abbrev pub optional_range : Option Front → Front
optional_range None rest = rest
optional_range (Some r) rest = in_parentheses r rest

abbrev pub part_step : Part-F Front Front Front Front Front Front Front Front Front → Front
part_step p rest = name_of p.name (optional_list p.arguments (optional_range p.substring rest))

abbrev pub range_step : Range-F Front Front Front Front Front Front Front Front Front → Front
range_step r rest = optional r.lower (mark_of Colon (optional r.upper rest))

abbrev pub stride_of : Option Front → Front
stride_of None rest = rest
stride_of (Some s) rest = mark_of Colon (s rest)

abbrev pub argument_step : Argument-F Front Front Front Front Front Front Front Front Front → Front
argument_step (open_.Value keyword value) rest = name_key keyword (value rest)
argument_step (open_.Section lower p upper stride) rest = optional lower (placed_mark Colon p (optional upper (stride_of stride rest)))
argument_step (open_.Strided lower p stride) rest = optional lower (placed_mark DoubleColon p (stride rest))

abbrev pub type_step : TypeSpec-F Front Front Front Front Front Front Front Front Front → Front
type_step (open_.Integer p kind) rest = placed_word (codes "integer") p (optional kind rest)
type_step (open_.Logical p kind) rest = placed_word (codes "logical") p (optional kind rest)
type_step (open_.Character p parameters) rest = placed_word (codes "character") p (optional_list parameters rest)
type_step (open_.Derived p name) rest = placed_word (codes "type") p (in_parentheses (name_of name) rest)
type_step (open_.Assumed p) rest = placed_word (codes "type") p (in_parentheses (mark_of Star) rest)

abbrev pub kind_step : KindSelector-F Front Front Front Front Front Front Front Front Front → Front
kind_step k rest = mark_of Open (when k.has_word (key_of (codes "kind")) (k.value (mark_of Close rest)))

abbrev pub parameter_step : CharacterParameter-F Front Front Front Front Front Front Front Front Front → Front
parameter_step (open_.Length word value) rest = placed_key (codes "len") word (value rest)
parameter_step (open_.AssumedLength word p) rest = placed_key (codes "len") word (placed_mark Star p rest)
parameter_step (open_.Kind word value) rest = placed_key (codes "kind") word (value rest)

-- ---- the tokens of each tree, in front of a rest

abbrev pub expression : Expression → Front
expression = fold-Expression Front Front Front Front Front Front Front Front Front argument_step parameter_step expression_step type_step kind_step link_step part_step range_step reference_step

abbrev pub link : Link → Front
link = fold-Link Front Front Front Front Front Front Front Front Front argument_step parameter_step expression_step type_step kind_step link_step part_step range_step reference_step

abbrev pub reference : Reference → Front
reference = fold-Reference Front Front Front Front Front Front Front Front Front argument_step parameter_step expression_step type_step kind_step link_step part_step range_step reference_step

abbrev pub part : Part → Front
part = fold-Part Front Front Front Front Front Front Front Front Front argument_step parameter_step expression_step type_step kind_step link_step part_step range_step reference_step

abbrev pub range : Range → Front
range = fold-Range Front Front Front Front Front Front Front Front Front argument_step parameter_step expression_step type_step kind_step link_step part_step range_step reference_step

abbrev pub argument : Argument → Front
argument = fold-Argument Front Front Front Front Front Front Front Front Front argument_step parameter_step expression_step type_step kind_step link_step part_step range_step reference_step

abbrev pub type_spec : TypeSpec → Front
type_spec = fold-TypeSpec Front Front Front Front Front Front Front Front Front argument_step parameter_step expression_step type_step kind_step link_step part_step range_step reference_step

abbrev pub kind_selector : KindSelector → Front
kind_selector = fold-KindSelector Front Front Front Front Front Front Front Front Front argument_step parameter_step expression_step type_step kind_step link_step part_step range_step reference_step

abbrev pub parameter : CharacterParameter → Front
parameter = fold-CharacterParameter Front Front Front Front Front Front Front Front Front argument_step parameter_step expression_step type_step kind_step link_step part_step range_step reference_step
