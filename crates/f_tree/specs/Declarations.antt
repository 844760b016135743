-- The tokens of declarations (ISO/IEC 1539-1:2018, 7.5, 8, 14.2.2 and 15.4.3), each in front of a rest.
use Rattle.std.specs.Prelude.{ℕ, List, Some, Bool, codes, map}
use Rattle.jf_base.specs.declared.place.Place.{Place}
use Rattle.f_lex.specs.declared.token.Mark.TheVariants.{Open, Close, Comma, Colon, DoubleColon, DotDot, Star, Assign, Arrow}
use Rattle.f_lex.specs.declared.token.Token.TheVariants as token
use Rattle.f_tree.specs.declared.declaration.Access.{Access}
use Rattle.f_tree.specs.declared.declaration.Access.TheVariants.{Public, Private}
use Rattle.f_tree.specs.declared.declaration.Intent.{Intent}
use Rattle.f_tree.specs.declared.declaration.Intent.TheVariants.{In, Out, InOut, InOutTwoWords}
use Rattle.f_tree.specs.declared.declaration.Bind.{Bind}
use Rattle.f_tree.specs.declared.declaration.BindingName.{BindingName}
use Rattle.f_tree.specs.declared.declaration.Dimension.{Dimension}
use Rattle.f_tree.specs.declared.declaration.Dimension.TheVariants.{Upper, Bounds, Deferred, AssumedSize, AssumedRank}
use Rattle.f_tree.specs.declared.declaration.Attribute.{Attribute}
use Rattle.f_tree.specs.declared.declaration.AttributeForm.{AttributeForm}
use Rattle.f_tree.specs.declared.declaration.AttributeForm.TheVariants as form
use Rattle.f_tree.specs.declared.declaration.Initial.{Initial}
use Rattle.f_tree.specs.declared.declaration.Initial.TheVariants as initial
use Rattle.f_tree.specs.declared.declaration.Entity.{Entity}
use Rattle.f_tree.specs.declared.declaration.Field.{Field}
use Rattle.f_tree.specs.declared.declaration.Component.{Component}
use Rattle.f_tree.specs.declared.declaration.Variables.{Variables}
use Rattle.f_tree.specs.declared.declaration.Rename.{Rename}
use Rattle.f_tree.specs.declared.declaration.Only.{Only}
use Rattle.f_tree.specs.declared.declaration.Only.TheVariants as only
use Rattle.f_tree.specs.declared.declaration.UseList.{UseList}
use Rattle.f_tree.specs.declared.declaration.UseList.TheVariants as uses
use Rattle.f_tree.specs.declared.declaration.Use.{Use}
use Rattle.f_tree.specs.declared.declaration.Import.{Import}
use Rattle.f_tree.specs.declared.declaration.EndingForm.{EndingForm}
use Rattle.f_tree.specs.declared.declaration.EndingForm.TheVariants.{Bare, TwoWords, OneWord}
use Rattle.f_tree.specs.declared.declaration.Ending.{Ending}
use Rattle.f_tree.specs.declared.declaration.TypeAttribute.{TypeAttribute}
use Rattle.f_tree.specs.declared.declaration.TypeAttribute.TheVariants as type_form
use Rattle.f_tree.specs.declared.declaration.DerivedType.{DerivedType}
use Rattle.f_tree.specs.declared.declaration.AccessStatement.{AccessStatement}
use Rattle.f_tree.specs.declared.declaration.PointerAttribute.{PointerAttribute}
use Rattle.f_tree.specs.declared.declaration.PointerAttribute.TheVariants as pointer_form
use Rattle.f_tree.specs.declared.declaration.ProcedurePointer.{ProcedurePointer}
use Rattle.f_tree.specs.declared.declaration.ProcedurePointers.{ProcedurePointers}
use Rattle.f_tree.specs.Lexemes.{Front, lexeme, mark_of, placed_mark, word_of, placed_word, name_of, when, each, behind_commas, listed, key_of, if_there, statement_end}
use Rattle.f_tree.specs.Expressions.{expression, type_spec}
use Rattle.f_tree.specs.declared.expression.Expression.{Expression}

abbrev pub access_word : Access → List ℕ
access_word Public = codes "public"
access_word Private = codes "private"

abbrev pub intent_words : Intent → Front
intent_words In rest = word_of (codes "in") rest
intent_words Out rest = word_of (codes "out") rest
intent_words InOut rest = word_of (codes "inout") rest
intent_words InOutTwoWords rest = word_of (codes "in") (word_of (codes "out") rest)

abbrev pub binding_name : BindingName → Front
binding_name n rest = mark_of Comma (key_of (codes "name") (lexeme (token.Text n.bytes n.kind) (Some n.place) rest))

-- what stands behind BIND
abbrev pub bind_list : Bind → Front
bind_list b rest = mark_of Open (word_of (codes "c") (if_there binding_name b.name (mark_of Close rest)))

abbrev pub before_colon : Expression → Front
before_colon e rest = expression e (mark_of Colon rest)

abbrev pub dimension : Dimension → Front
dimension (Upper e) rest = expression e rest
dimension (Bounds low high) rest = expression low (mark_of Colon (expression high rest))
dimension (Deferred lower p) rest = if_there expression lower (placed_mark Colon p rest)
dimension (AssumedSize lower p) rest = if_there before_colon lower (placed_mark Star p rest)
dimension (AssumedRank p) rest = placed_mark DotDot p rest

abbrev pub dimensions : List Dimension → Front
dimensions ds rest = mark_of Open (listed (map dimension ds) (mark_of Close rest))

abbrev pub attribute_form : AttributeForm → Place → Front
attribute_form form.Parameter p rest = placed_word (codes "parameter") p rest
attribute_form (form.Dimension ds) p rest = placed_word (codes "dimension") p (dimensions ds rest)
attribute_form form.Allocatable p rest = placed_word (codes "allocatable") p rest
attribute_form form.Pointer p rest = placed_word (codes "pointer") p rest
attribute_form form.Target p rest = placed_word (codes "target") p rest
attribute_form form.Optional p rest = placed_word (codes "optional") p rest
attribute_form form.Value p rest = placed_word (codes "value") p rest
attribute_form form.Contiguous p rest = placed_word (codes "contiguous") p rest
attribute_form form.Save p rest = placed_word (codes "save") p rest
attribute_form (form.Access a) p rest = placed_word (access_word a) p rest
attribute_form (form.Bind b) p rest = placed_word (codes "bind") p (bind_list b rest)
attribute_form (form.Intent i) p rest = placed_word (codes "intent") p (mark_of Open (intent_words i (mark_of Close rest)))

abbrev pub attribute : Attribute → Front
attribute a rest = attribute_form a.form a.place rest

abbrev pub initial_value : Initial → Front
initial_value (initial.Value e) rest = mark_of Assign (expression e rest)
initial_value (initial.Null p) rest = mark_of Arrow (placed_word (codes "null") p (mark_of Open (mark_of Close rest)))

abbrev pub entity : Entity → Front
entity e rest = name_of e.name (if_there dimensions e.dimensions (if_there initial_value e.initial rest))

abbrev pub field : Field → Front
field f rest = name_of f.name (if_there dimensions f.dimensions rest)

-- `::`, where it is there
abbrev pub colons : Bool → Front
colons b rest = when b (mark_of DoubleColon) rest

abbrev pub variables : Variables → Front
variables v rest = type_spec v.declared (behind_commas (map attribute v.attributes) (colons v.has_colons (listed (map entity v.entities) rest)))

abbrev pub rename : Rename → Front
rename r rest = name_of r.local (mark_of Arrow (name_of r.used rest))

abbrev pub only_name : Only → Front
only_name (only.Plain n) rest = name_of n rest
only_name (only.Renamed r) rest = rename r rest

abbrev pub use_list : UseList → Front
use_list uses.All rest = rest
use_list (uses.Renamed rs) rest = behind_commas (map rename rs) rest
use_list (uses.Only os) rest = mark_of Comma (word_of (codes "only") (mark_of Colon (listed (map only_name os) rest)))

abbrev pub comma_intrinsic : Front
comma_intrinsic rest = mark_of Comma (word_of (codes "intrinsic") rest)

abbrev pub use_statement : Use → Front
use_statement u rest = placed_word (codes "use") u.place (when u.is_intrinsic comma_intrinsic (colons u.has_colons (name_of u.module (use_list u.list rest))))

abbrev pub use_line : Use → Front
use_line u rest = use_statement u (statement_end rest)

abbrev pub import_statement : Import → Front
import_statement i rest = placed_word (codes "import") i.place (colons i.has_colons (listed (map name_of i.names) rest))

abbrev pub ending_words : EndingForm → List ℕ → List ℕ → Place → Front
ending_words Bare word joined p rest = placed_word (codes "end") p rest
ending_words TwoWords word joined p rest = placed_word (codes "end") p (word_of word rest)
ending_words OneWord word joined p rest = placed_word joined p rest

-- an END statement, by its word and by END and its word in one
abbrev pub ending : List ℕ → List ℕ → Ending → Front
ending word joined e rest = ending_words (e.form) word joined (e.place) (if_there name_of e.name (statement_end rest))

abbrev pub type_attribute : TypeAttribute → Front
type_attribute (type_form.Bind p b) rest = placed_word (codes "bind") p (bind_list b rest)
type_attribute (type_form.Access p a) rest = placed_word (access_word a) p rest

abbrev pub comma_dimension : List Dimension → Front
comma_dimension ds rest = mark_of Comma (word_of (codes "dimension") (dimensions ds rest))

abbrev pub component : Component → Front
component c rest = type_spec c.declared (if_there comma_dimension c.dimensions (mark_of DoubleColon (listed (map field c.fields) (statement_end rest))))

abbrev pub derived_type : DerivedType → Front
derived_type t rest = placed_word (codes "type") t.place (behind_commas (map type_attribute t.attributes) (colons t.has_colons (name_of t.name (statement_end
    (each (map component t.components) (ending (codes "type") (codes "endtype") t.ending rest))))))

abbrev pub access_statement : AccessStatement → Front
access_statement a rest = placed_word (access_word a.access) a.place (colons a.has_colons (listed (map name_of a.names) rest))

abbrev pub pointer_attribute : PointerAttribute → Front
pointer_attribute (pointer_form.Save p) rest = placed_word (codes "save") p rest
pointer_attribute (pointer_form.Access p a) rest = placed_word (access_word a) p rest

abbrev pub null_target : Place → Front
null_target p rest = mark_of Arrow (placed_word (codes "null") p (mark_of Open (mark_of Close rest)))

abbrev pub procedure_pointer : ProcedurePointer → Front
procedure_pointer p rest = name_of p.name (if_there null_target p.null rest)

abbrev pub procedure_pointers : ProcedurePointers → Front
procedure_pointers p rest = placed_word (codes "procedure") p.place (mark_of Open (name_of p.interface (mark_of Close (mark_of Comma (word_of (codes "pointer")
    (behind_commas (map pointer_attribute p.attributes) (mark_of DoubleColon (listed (map procedure_pointer p.pointers) rest))))))))
