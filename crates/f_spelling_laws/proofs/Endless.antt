-- No end of a statement stands in what the grammar spells.
use Rattle.std.proofs.Common.{ℕ, List, [], ◌∷◌, Option, Some, None, Bool, true, false}
use Rattle.std.specs.Prelude.{codes}
use Rattle.f_lex.specs.declared.token.Mark.{Mark}
use Rattle.f_lex.specs.declared.token.Mark.TheVariants as mark
use Rattle.f_lex.specs.declared.token.Token.{Token}
use Rattle.f_lex.specs.declared.token.Token.TheVariants as token
use Rattle.f_grammar.specs.Grammar.{Expr, Number, Truth, Text, Ref, Paren, Array, Typed, Chain, Links, no_links, link, Refer, refer, Parts, no_parts, part, Part, named, Group, NoGroup, group, Range, NoRange, range, Args, no_args, arg, Arg, Value, Section, Strided, Maybe, Absent, Present, TypeOf, Integer, Logical, Character, Derived, Assumed, Selector, NoKind, kind, Params, NoParams, params, More, no_more, more, Param, Length, AnyLength, KindParam, put, spell_sign, spell_key, spell_word, spell, spell_links, spell_refer, spell_parts, spell_part, spell_group, spell_range, spell_args, spell_others, spell_arg, spell_maybe, spell_stride, spell_type, spell_kind, spell_params, spell_mores, spell_param}
use Rattle.f_grammar.specs.Actions.{Act, Assign, Associate, Call, Exit, Cycle, Return, Stop, ErrorStop, Allocate, Deallocate, Nullify, Print, Read, ReadUnit, Refs, no_refs, ref, Exprs, no_exprs, expr, Status, NoStatus, status, spell_refs, spell_exprs, spell_status, spell_objects, spell_act}
use Rattle.f_line_grammar.specs.Lines as line
use Rattle.f_line_grammar.specs.Lines.{Line, Span, One, From, UpTo, Spans, no_spans, span, Control, Endless as NoControl, Count, While, spell_test, spell_span, spell_spans, spell_comma, spell_step, spell_control, spell_line}
use Rattle.f_declaration_grammar.specs.Listing.{spell_behind, spell_listed, spell_each}
use Rattle.f_declaration_grammar.specs.Declarations as grammar
use Rattle.f_declaration_grammar.specs.Declarations.{Declared, spell_name, spell_dim, spell_dims, spell_maybe_dims, spell_bind, spell_attr, spell_initial, spell_entity, spell_rename, spell_only, spell_uses, spell_colons, spell_intrinsic, spell_type_attr, spell_pointer_attr, spell_pointer, spell_prefix, spell_suffix, spell_dummies, spell_declared}
use Rattle.f_statement_grammar.specs.Statements.{Statement, Executable, Declaring, spell_statement}

abbrev pub Endless : List Token → Type 0
Endless [] = Unit {0}
Endless (token.End ∷ ts) = ⊥
Endless (t ∷ ts) = Endless ts

-- in front of what has no end there is none
abbrev Keeps : (List Token → List Token) → Type 0
Keeps f = (ts : List Token) → Endless ts → Endless (f ts)

sign_keeps : (s : Option Mark) → Keeps (spell_sign s)
sign_keeps None ts x = x
sign_keeps (Some m) ts x = x

key_keeps : (k : Option (List ℕ)) → Keeps (spell_key k)
key_keeps None ts x = x
key_keeps (Some name) ts x = x

word_keeps : (word : List ℕ) (b : Bool) → Keeps (spell_word word b)
word_keeps word true ts x = x
word_keeps word false ts x = x

mutual
  keeps : (e : Expr) → Keeps (spell e)
  keeps (Number digits k) ts x = x
  keeps (Truth value k) ts x = x
  keeps (Text bytes k) ts x = x
  keeps (Ref r) ts x = refer_keeps r ts x
  keeps (Paren e) ts x = keeps e (put mark.Close ts) x
  keeps (Array items) ts x = args_keep items (put mark.CloseBracket ts) x
  keeps (Typed t items) ts x = type_keeps t (put mark.DoubleColon (spell_args items (put mark.CloseBracket ts))) (args_keep items (put mark.CloseBracket ts) x)
  keeps (Chain h sign first links) ts x = sign_keeps sign (spell first (spell_links links ts)) (keeps first (spell_links links ts) (links_keep links ts x))

  links_keep : (links : Links) → Keeps (spell_links links)
  links_keep no_links ts x = x
  links_keep (link op e links) ts x = keeps e (spell_links links ts) (links_keep links ts x)

  refer_keeps : (r : Refer) → Keeps (spell_refer r)
  refer_keeps (refer p ps) ts x = part_keeps p (spell_parts ps ts) (parts_keep ps ts x)

  parts_keep : (ps : Parts) → Keeps (spell_parts ps)
  parts_keep no_parts ts x = x
  parts_keep (part p ps) ts x = part_keeps p (spell_parts ps ts) (parts_keep ps ts x)

  part_keeps : (p : Part) → Keeps (spell_part p)
  part_keeps (named name g r) ts x = group_keeps g (spell_range r ts) (range_keeps r ts x)

  group_keeps : (g : Group) → Keeps (spell_group g)
  group_keeps NoGroup ts x = x
  group_keeps (group args) ts x = args_keep args (put mark.Close ts) x

  range_keeps : (r : Range) → Keeps (spell_range r)
  range_keeps NoRange ts x = x
  range_keeps (range lower upper) ts x = maybe_keeps lower (put mark.Colon (spell_maybe upper (put mark.Close ts))) (maybe_keeps upper (put mark.Close ts) x)

  args_keep : (args : Args) → Keeps (spell_args args)
  args_keep no_args ts x = x
  args_keep (arg a args) ts x = arg_keeps a (spell_others args ts) (others_keep args ts x)

  others_keep : (args : Args) → Keeps (spell_others args)
  others_keep no_args ts x = x
  others_keep (arg a args) ts x = arg_keeps a (spell_others args ts) (others_keep args ts x)

  arg_keeps : (a : Arg) → Keeps (spell_arg a)
  arg_keeps (Value keyword e) ts x = key_keeps keyword (spell e ts) (keeps e ts x)
  arg_keeps (Section lower upper stride) ts x = maybe_keeps lower (put mark.Colon (spell_maybe upper (spell_stride stride ts))) (maybe_keeps upper (spell_stride stride ts) (stride_keeps stride ts x))
  arg_keeps (Strided lower stride) ts x = maybe_keeps lower (put mark.DoubleColon (spell stride ts)) (keeps stride ts x)

  maybe_keeps : (m : Maybe) → Keeps (spell_maybe m)
  maybe_keeps Absent ts x = x
  maybe_keeps (Present e) ts x = keeps e ts x

  stride_keeps : (m : Maybe) → Keeps (spell_stride m)
  stride_keeps Absent ts x = x
  stride_keeps (Present e) ts x = keeps e ts x

  type_keeps : (t : TypeOf) → Keeps (spell_type t)
  type_keeps (Integer k) ts x = kind_keeps k ts x
  type_keeps (Logical k) ts x = kind_keeps k ts x
  type_keeps (Character ps) ts x = params_keep ps ts x
  type_keeps (Derived name) ts x = x
  type_keeps Assumed ts x = x

  kind_keeps : (k : Selector) → Keeps (spell_kind k)
  kind_keeps NoKind ts x = x
  kind_keeps (kind has_word e) ts x = word_keeps (codes "kind") has_word (spell e (put mark.Close ts)) (keeps e (put mark.Close ts) x)

  params_keep : (ps : Params) → Keeps (spell_params ps)
  params_keep NoParams ts x = x
  params_keep (params p ps) ts x = param_keeps p (spell_mores ps (put mark.Close ts)) (mores_keep ps (put mark.Close ts) x)

  mores_keep : (ps : More) → Keeps (spell_mores ps)
  mores_keep no_more ts x = x
  mores_keep (more p ps) ts x = param_keeps p (spell_mores ps ts) (mores_keep ps ts x)

  param_keeps : (p : Param) → Keeps (spell_param p)
  param_keeps (Length has_word e) ts x = word_keeps (codes "len") has_word (spell e ts) (keeps e ts x)
  param_keeps (AnyLength has_word) ts x = word_keeps (codes "len") has_word (put mark.Star ts) x
  param_keeps (KindParam has_word e) ts x = word_keeps (codes "kind") has_word (spell e ts) (keeps e ts x)

-- ---- action statements

refs_keep : (rs : Refs) → Keeps (spell_refs rs)
refs_keep no_refs ts x = x
refs_keep (ref r rs) ts x = refer_keeps r (spell_refs rs ts) (refs_keep rs ts x)

exprs_keep : (es : Exprs) → Keeps (spell_exprs es)
exprs_keep no_exprs ts x = x
exprs_keep (expr e es) ts x = keeps e (spell_exprs es ts) (exprs_keep es ts x)

status_keeps : (word : List ℕ) (s : Status) → Keeps (spell_status word s)
status_keeps word NoStatus ts x = x
status_keeps word (status r) ts x = refer_keeps r ts x

objects_endless : (r : Refer) (rs : Refs) (s : Status) → Endless (spell_objects r rs s)
objects_endless r rs s =
    let behind : List Token = spell_status (codes "stat") s (put mark.Close []) in
    refer_keeps r (spell_refs rs behind) (refs_keep rs behind (status_keeps (codes "stat") s (put mark.Close []) tt))

act_endless : (a : Act) → Endless (spell_act a)
act_endless (Assign target value) = refer_keeps target (put mark.Assign (spell value [])) (keeps value [] tt)
act_endless (Associate target value) = refer_keeps target (put mark.Arrow (spell value [])) (keeps value [] tt)
act_endless (Call name arguments) = group_keeps arguments [] tt
act_endless Exit = tt
act_endless Cycle = tt
act_endless Return = tt
act_endless (Stop code) = maybe_keeps code [] tt
act_endless (ErrorStop code) = maybe_keeps code [] tt
act_endless (Allocate r rs s) = objects_endless r rs s
act_endless (Deallocate r rs s) = objects_endless r rs s
act_endless (Nullify r rs) = objects_endless r rs NoStatus
act_endless (Print es) = exprs_keep es [] tt
act_endless (Read r rs) = refer_keeps r (spell_refs rs []) (refs_keep rs [] tt)
act_endless (ReadUnit s r rs) = status_keeps (codes "iostat") s (put mark.Close (spell_refer r (spell_refs rs []))) (refer_keeps r (spell_refs rs []) (refs_keep rs [] tt))

-- ---- statements of constructs

test_keeps : (e : Expr) → Keeps (spell_test e)
test_keeps e ts x = keeps e (put mark.Close ts) x

span_keeps : (s : Span) → Keeps (spell_span s)
span_keeps (One e) ts x = keeps e ts x
span_keeps (From lower upper) ts x = keeps lower (put mark.Colon (spell_maybe upper ts)) (maybe_keeps upper ts x)
span_keeps (UpTo upper) ts x = keeps upper ts x

spans_keep : (ss : Spans) → Keeps (spell_spans ss)
spans_keep no_spans ts x = x
spans_keep (span s ss) ts x = span_keeps s (spell_spans ss ts) (spans_keep ss ts x)

comma_keeps : (b : Bool) → Keeps (spell_comma b)
comma_keeps true ts x = x
comma_keeps false ts x = x

step_endless : (m : Maybe) → Endless (spell_step m)
step_endless Absent = tt
step_endless (Present e) = keeps e [] tt

control_endless : (c : Control) → Endless (spell_control c)
control_endless NoControl = tt
control_endless (Count comma v first last step) =
    let behind : List Token = put mark.Comma (spell last (spell_step step)) in
    comma_keeps comma (token.Name v ∷ put mark.Assign (spell first behind)) (keeps first behind (keeps last (spell_step step) (step_endless step)))
control_endless (While comma e) = comma_keeps comma (token.Name (codes "while") ∷ spell_test e []) (test_keeps e [] tt)

line_endless : (l : Line) → Endless (spell_line l)
line_endless (line.Simple a) = act_endless a
line_endless (line.Guarded e a) = test_keeps e (spell_act a) (act_endless a)
line_endless (line.IfThen e) = test_keeps e (token.Name (codes "then") ∷ []) tt
line_endless (line.ElseIf true e) = test_keeps e (token.Name (codes "then") ∷ []) tt
line_endless (line.ElseIf false e) = test_keeps e (token.Name (codes "then") ∷ []) tt
line_endless line.Else = tt
line_endless (line.Loop control) = control_endless control
line_endless (line.SelectCase true e) = test_keeps e [] tt
line_endless (line.SelectCase false e) = test_keeps e [] tt
line_endless (line.Cases s ss) = span_keeps s (spell_spans ss (put mark.Close [])) (spans_keep ss (put mark.Close []) tt)
line_endless line.CaseDefault = tt
line_endless (line.SelectRank None name) = tt
line_endless (line.SelectRank (Some local) name) = tt
line_endless (line.Rank e) = test_keeps e [] tt
line_endless line.RankStar = tt
line_endless line.RankDefault = tt
line_endless (line.End c true) = tt
line_endless (line.End c false) = tt

-- ---- declarations

behind_keeps : {A : Type 0} (spelling : A → List Token → List Token) → ((a : A) → Keeps (spelling a)) → (xs : List A) → Keeps (spell_behind spelling xs)
behind_keeps spelling one [] ts x = x
behind_keeps spelling one (a ∷ xs) ts x = one a (spell_behind spelling xs ts) (behind_keeps spelling one xs ts x)

listed_keeps : {A : Type 0} (spelling : A → List Token → List Token) → ((a : A) → Keeps (spelling a)) → (xs : List A) → Keeps (spell_listed spelling xs)
listed_keeps spelling one [] ts x = x
listed_keeps spelling one (a ∷ xs) ts x = one a (spell_behind spelling xs ts) (behind_keeps spelling one xs ts x)

each_keeps : {A : Type 0} (spelling : A → List Token → List Token) → ((a : A) → Keeps (spelling a)) → (xs : List A) → Keeps (spell_each spelling xs)
each_keeps spelling one [] ts x = x
each_keeps spelling one (a ∷ xs) ts x = one a (spell_each spelling xs ts) (each_keeps spelling one xs ts x)

name_keeps : (n : List ℕ) → Keeps (spell_name n)
name_keeps n ts x = x

colons_keep : (b : Bool) → Keeps (spell_colons b)
colons_keep true ts x = x
colons_keep false ts x = x

dim_keeps : (d : grammar.Dim) → Keeps (spell_dim d)
dim_keeps (grammar.Upper upper) ts x = keeps upper ts x
dim_keeps (grammar.Bounds lower upper) ts x = keeps lower (put mark.Colon (spell upper ts)) (keeps upper ts x)
dim_keeps (grammar.Deferred lower) ts x = maybe_keeps lower (put mark.Colon ts) x
dim_keeps (grammar.AssumedSize Absent) ts x = x
dim_keeps (grammar.AssumedSize (Present e)) ts x = keeps e (put mark.Colon (put mark.Star ts)) x
dim_keeps grammar.AssumedRank ts x = x

dims_keep : (ds : List grammar.Dim) → Keeps (spell_dims ds)
dims_keep ds ts x = listed_keeps spell_dim dim_keeps ds (put mark.Close ts) x

maybe_dims_keep : (ds : Option (List grammar.Dim)) → Keeps (spell_maybe_dims ds)
maybe_dims_keep None ts x = x
maybe_dims_keep (Some ds) ts x = dims_keep ds ts x

bind_keeps : (l : grammar.Label) → Keeps (spell_bind l)
bind_keeps None ts x = x
bind_keeps (Some l) ts x = x

attr_keeps : (a : grammar.Attr) → Keeps (spell_attr a)
attr_keeps grammar.Parameter ts x = x
attr_keeps (grammar.Dimension ds) ts x = dims_keep ds ts x
attr_keeps grammar.Allocatable ts x = x
attr_keeps grammar.Pointer ts x = x
attr_keeps grammar.Target ts x = x
attr_keeps grammar.Optional ts x = x
attr_keeps grammar.Value ts x = x
attr_keeps grammar.Contiguous ts x = x
attr_keeps grammar.Save ts x = x
attr_keeps (grammar.Accessible a) ts x = x
attr_keeps (grammar.Bind l) ts x = bind_keeps l ts x
attr_keeps (grammar.For grammar.In) ts x = x
attr_keeps (grammar.For grammar.Out) ts x = x
attr_keeps (grammar.For grammar.InOut) ts x = x
attr_keeps (grammar.For grammar.InOutTwoWords) ts x = x

initial_keeps : (i : grammar.Initial) → Keeps (spell_initial i)
initial_keeps grammar.NoInitial ts x = x
initial_keeps (grammar.Starts value) ts x = keeps value ts x
initial_keeps grammar.Null ts x = x

entity_keeps : (e : grammar.Entity) → Keeps (spell_entity e)
entity_keeps (grammar.entity name ds i) ts x = maybe_dims_keep ds (spell_initial i ts) (initial_keeps i ts x)

rename_keeps : (r : grammar.Rename) → Keeps (spell_rename r)
rename_keeps (grammar.renamed local used) ts x = x

only_keeps : (o : grammar.Only) → Keeps (spell_only o)
only_keeps (grammar.Plain n) ts x = x
only_keeps (grammar.Renamed r) ts x = rename_keeps r ts x

uses_endless : (l : grammar.UseList) → Endless (spell_uses l)
uses_endless grammar.All = tt
uses_endless (grammar.Renames rs) = listed_keeps spell_rename rename_keeps rs [] tt
uses_endless (grammar.Onlys os) = listed_keeps spell_only only_keeps os [] tt

intrinsic_keeps : (b : Bool) → Keeps (spell_intrinsic b)
intrinsic_keeps true ts x = x
intrinsic_keeps false ts x = x

type_attr_keeps : (a : grammar.TypeAttr) → Keeps (spell_type_attr a)
type_attr_keeps (grammar.TypeBind l) ts x = bind_keeps l ts x
type_attr_keeps (grammar.TypeAccess a) ts x = x

pointer_attr_keeps : (a : grammar.PointerAttr) → Keeps (spell_pointer_attr a)
pointer_attr_keeps grammar.PointerSave ts x = x
pointer_attr_keeps (grammar.PointerAccess a) ts x = x

pointer_keeps : (p : grammar.ProcPointer) → Keeps (spell_pointer p)
pointer_keeps (grammar.pointer name true) ts x = x
pointer_keeps (grammar.pointer name false) ts x = x

prefix_keeps : (p : grammar.Prefix) → Keeps (spell_prefix p)
prefix_keeps grammar.Recursive ts x = x
prefix_keeps (grammar.Returns t) ts x = type_keeps t ts x

suffix_keeps : (s : grammar.Suffix) → Keeps (spell_suffix s)
suffix_keeps (grammar.BindSuffix l) ts x = bind_keeps l ts x
suffix_keeps (grammar.Result n) ts x = x

dummies_keep : (ns : Option (List (List ℕ))) → Keeps (spell_dummies ns)
dummies_keep None ts x = x
dummies_keep (Some ns) ts x = listed_keeps spell_name name_keeps ns (put mark.Close ts) x

names_endless : (c : Bool) (ns : List (List ℕ)) → Endless (spell_colons c (spell_listed spell_name ns []))
names_endless c ns = colons_keep c (spell_listed spell_name ns []) (listed_keeps spell_name name_keeps ns [] tt)

declared_endless : (d : Declared) → Endless (spell_declared d)
declared_endless (grammar.Program name) = tt
declared_endless (grammar.Module name) = tt
declared_endless (grammar.Head prefixes f name dummies suffixes) =
    let last : List Token = spell_each spell_suffix suffixes [] in
    each_keeps spell_prefix prefix_keeps prefixes (token.Name (grammar.unit_word f) ∷ token.Name name ∷ spell_dummies dummies last) (dummies_keep dummies last (each_keeps spell_suffix suffix_keeps suffixes [] tt))
declared_endless grammar.Contains = tt
declared_endless (grammar.Use i c used names) = intrinsic_keeps i (spell_colons c (token.Name used ∷ spell_uses names)) (colons_keep c (token.Name used ∷ spell_uses names) (uses_endless names))
declared_endless (grammar.Import c names) = names_endless c names
declared_endless grammar.ImplicitNone = tt
declared_endless (grammar.Variables t attributes c entities) =
    let last : List Token = spell_listed spell_entity entities [] in
    type_keeps t (spell_behind spell_attr attributes (spell_colons c last)) (behind_keeps spell_attr attr_keeps attributes (spell_colons c last) (colons_keep c last (listed_keeps spell_entity entity_keeps entities [] tt)))
declared_endless (grammar.TypeStart attributes c name) = behind_keeps spell_type_attr type_attr_keeps attributes (spell_colons c (token.Name name ∷ [])) (colons_keep c (token.Name name ∷ []) tt)
declared_endless (grammar.InterfaceStart true) = tt
declared_endless (grammar.InterfaceStart false) = tt
declared_endless (grammar.Accesses a c names) = names_endless c names
declared_endless grammar.SaveAll = tt
declared_endless (grammar.Procedures interface attributes pointers) =
    behind_keeps spell_pointer_attr pointer_attr_keeps attributes (put mark.DoubleColon (spell_listed spell_pointer pointers [])) (listed_keeps spell_pointer pointer_keeps pointers [] tt)
declared_endless grammar.End = tt
declared_endless (grammar.EndOf what true None) = tt
declared_endless (grammar.EndOf what true (Some name)) = tt
declared_endless (grammar.EndOf what false None) = tt
declared_endless (grammar.EndOf what false (Some name)) = tt

-- no end stands in a statement
pub endless : (s : Statement) → Endless (spell_statement s)
endless (Executable l) = line_endless l
endless (Declaring d) = declared_endless d
