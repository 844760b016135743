-- The parentheses of a tree are closed in it; so items that begin with no type are told from those that do.
use Rattle.std.proofs.Common.{◌≡◌, ℕ, zero, suc, ◌≤◌, Bool, true, false, List, ◌∷◌, Option, Some, None, refl, ap, ◌∙◌, arith}
use Rattle.std.specs.Prelude.{codes}
use Rattle.f_lex.specs.declared.token.Mark.{Mark}
use Rattle.f_lex.specs.declared.token.Mark.TheVariants as mark
use Rattle.f_lex.specs.declared.token.Token.{Token}
use Rattle.f_lex.specs.declared.token.Token.TheVariants as token
use Rattle.f_grammar.specs.Grammar.{Expr, Number, Truth, Text, Ref, Paren, Array, Typed, Chain, Links, no_links, link, Refer, refer, Parts, no_parts, part, Part, named, Group, NoGroup, group, Range, NoRange, range, Args, no_args, arg, Arg, Value, Section, Strided, Maybe, Absent, Present, TypeOf, Integer, Logical, Character, Derived, Assumed, Selector, NoKind, kind, Params, NoParams, params, More, no_more, more, Param, Length, AnyLength, KindParam, height_of, sign_height, put, spell_key, spell_word, spell, spell_links, spell_refer, spell_parts, spell_part, spell_group, spell_range, spell_args, spell_others, spell_arg, spell_maybe, spell_stride, spell_type, spell_kind, spell_params, spell_mores, spell_param, Fits, FitsLinks, FitsRefer, FitsParts, FitsPart, FitsGroup, FitsRange, FitsArgs, FitsArg, FitsMaybe, FitsType, FitsKind, FitsParams, FitsMores, FitsParam}
use Rattle.f_grammar.specs.Reading.{begins_typed}
use Rattle.f_grammar.specs.Reading.{closing, behind_group, is_colons}

-- ---- parentheses are closed in a tree

closing_op : (op : Mark) (k d : ℕ) (ts : List Token) → height_of op ≡ suc k → k ≤ 8 → closing d (put op ts) ≡ closing d ts
unfolding closing
closing_op mark.Open k d ts e le = absurd (omega (arith, e))
closing_op mark.Close k d ts e le = absurd (omega (arith, e, le))
closing_op _ k d ts e le = refl

closing_sign : (m : Mark) (k d : ℕ) (ts : List Token) → sign_height m ≡ suc k → closing d (put m ts) ≡ closing d ts
unfolding closing
closing_sign mark.Open k d ts e = absurd (omega (arith, e))
closing_sign mark.Close k d ts e = absurd (omega (arith, e))
closing_sign _ k d ts e = refl

closing_key : (k : Option (List ℕ)) (d : ℕ) (ts : List Token) → closing d (spell_key k ts) ≡ closing d ts
unfolding closing
closing_key None d ts = refl
closing_key (Some name) d ts = refl

closing_word : (w : List ℕ) (b : Bool) (d : ℕ) (ts : List Token) → closing d (spell_word w b ts) ≡ closing d ts
unfolding closing
closing_word w true d ts = refl
closing_word w false d ts = refl

mutual
  unfolding closing

  pub closed_expr : (e : Expr) (n h d : ℕ) (rest : List Token) → Fits n h e → h ≤ 9 → closing d (spell e rest) ≡ closing d rest
  closed_expr (Number digits k) n h d rest f le = refl
  closed_expr (Truth value k) n h d rest f le = refl
  closed_expr (Text bytes k) n h d rest f le = refl
  closed_expr (Ref r) n h d rest f le = closed_refer r n d rest f
  closed_expr (Paren e) zero h d rest f le = absurd f
  closed_expr (Paren e) (suc n) h d rest f le = closed_expr e n 9 (suc d) (put mark.Close rest) f (omega arith)
  closed_expr (Array items) n h d rest f le = closed_args items n false d (put mark.CloseBracket rest) f.1
  closed_expr (Typed t items) n h d rest f le = closed_type t n d _ f.0 ∙ closed_args items n false d (put mark.CloseBracket rest) f.1
  closed_expr (Chain k None first links) n h d rest f le = closed_expr first n k d (spell_links links rest) f.2 (omega (arith, f.0, le)) ∙ closed_links links n k d rest f.3 (omega (arith, f.0, le))
  closed_expr (Chain k (Some m) first links) n h d rest f le = closing_sign m k d _ f.1 ∙ closed_expr first n k d (spell_links links rest) f.2 (omega (arith, f.0, le)) ∙ closed_links links n k d rest f.3 (omega (arith, f.0, le))

  closed_links : (links : Links) (n k d : ℕ) (rest : List Token) → FitsLinks n k links → k ≤ 8 → closing d (spell_links links rest) ≡ closing d rest
  closed_links no_links n k d rest f le = refl
  closed_links (link op e links) n k d rest f le = closing_op op k d _ f.0 le ∙ closed_expr e n k d (spell_links links rest) f.1 (omega (arith, le)) ∙ closed_links links n k d rest f.2 le

  closed_refer : (r : Refer) (n d : ℕ) (rest : List Token) → FitsRefer n r → closing d (spell_refer r rest) ≡ closing d rest
  closed_refer (refer p ps) n d rest f = closed_part p n d (spell_parts ps rest) f.0 ∙ closed_parts ps n d rest f.1

  closed_parts : (ps : Parts) (n d : ℕ) (rest : List Token) → FitsParts n ps → closing d (spell_parts ps rest) ≡ closing d rest
  closed_parts no_parts n d rest f = refl
  closed_parts (part p ps) n d rest f = closed_part p n d (spell_parts ps rest) f.0 ∙ closed_parts ps n d rest f.1

  closed_part : (p : Part) (n d : ℕ) (rest : List Token) → FitsPart n p → closing d (spell_part p rest) ≡ closing d rest
  closed_part (named name g r) n d rest f = closed_group g n d (spell_range r rest) f.0 ∙ closed_range r n d rest g f.1

  closed_group : (g : Group) (n d : ℕ) (rest : List Token) → FitsGroup n g → closing d (spell_group g rest) ≡ closing d rest
  closed_group NoGroup n d rest f = refl
  closed_group (group args) n d rest f = closed_args args n true (suc d) (put mark.Close rest) f

  closed_range : (r : Range) (n d : ℕ) (rest : List Token) (g : Group) → FitsRange n g r → closing d (spell_range r rest) ≡ closing d rest
  closed_range NoRange n d rest g f = refl
  closed_range (range lower upper) n d rest g f = closed_maybe lower n (suc d) (put mark.Colon (spell_maybe upper (put mark.Close rest))) f.1 ∙ closed_maybe upper n (suc d) (put mark.Close rest) f.2

  pub closed_args : (args : Args) (n : ℕ) (in_call : Bool) (d : ℕ) (rest : List Token) → FitsArgs n in_call args → closing d (spell_args args rest) ≡ closing d rest
  closed_args no_args n in_call d rest f = refl
  closed_args (arg a args) n in_call d rest f = closed_arg a n in_call d (spell_others args rest) f.0 ∙ closed_others args n in_call d rest f.1

  closed_others : (args : Args) (n : ℕ) (in_call : Bool) (d : ℕ) (rest : List Token) → FitsArgs n in_call args → closing d (spell_others args rest) ≡ closing d rest
  closed_others no_args n in_call d rest f = refl
  closed_others (arg a args) n in_call d rest f = closed_arg a n in_call d (spell_others args rest) f.0 ∙ closed_others args n in_call d rest f.1

  closed_arg : (a : Arg) (n : ℕ) (in_call : Bool) (d : ℕ) (rest : List Token) → FitsArg n in_call a → closing d (spell_arg a rest) ≡ closing d rest
  closed_arg (Value keyword e) zero in_call d rest f = absurd f
  closed_arg (Value keyword e) (suc n) in_call d rest f = closing_key keyword d (spell e rest) ∙ closed_expr e n 9 d rest f.1 (omega arith)
  closed_arg (Section lower upper stride) n in_call d rest f = closed_maybe lower n d _ f.1 ∙ closed_maybe upper n d _ f.2 ∙ closed_stride stride n d rest f.3
  closed_arg (Strided lower stride) zero in_call d rest f = absurd f
  closed_arg (Strided lower stride) (suc n) in_call d rest f = closed_maybe lower (suc n) d _ f.1 ∙ closed_expr stride n 9 d rest f.2 (omega arith)

  closed_maybe : (m : Maybe) (n d : ℕ) (rest : List Token) → FitsMaybe n m → closing d (spell_maybe m rest) ≡ closing d rest
  closed_maybe Absent n d rest f = refl
  closed_maybe (Present e) zero d rest f = absurd f
  closed_maybe (Present e) (suc n) d rest f = closed_expr e n 9 d rest f (omega arith)

  closed_stride : (m : Maybe) (n d : ℕ) (rest : List Token) → FitsMaybe n m → closing d (spell_stride m rest) ≡ closing d rest
  closed_stride Absent n d rest f = refl
  closed_stride (Present e) zero d rest f = absurd f
  closed_stride (Present e) (suc n) d rest f = closed_expr e n 9 d rest f (omega arith)

  closed_type : (t : TypeOf) (n d : ℕ) (rest : List Token) → FitsType n t → closing d (spell_type t rest) ≡ closing d rest
  closed_type (Integer k) n d rest f = closed_kind k n d rest f
  closed_type (Logical k) n d rest f = closed_kind k n d rest f
  closed_type (Character ps) n d rest f = closed_params ps n d rest f
  closed_type (Derived name) n d rest f = refl
  closed_type Assumed n d rest f = refl

  closed_kind : (k : Selector) (n d : ℕ) (rest : List Token) → FitsKind n k → closing d (spell_kind k rest) ≡ closing d rest
  closed_kind NoKind n d rest f = refl
  closed_kind (kind has_word e) zero d rest f = absurd f
  closed_kind (kind has_word e) (suc n) d rest f = closing_word (codes "kind") has_word (suc d) _ ∙ closed_expr e n 9 (suc d) (put mark.Close rest) f (omega arith)

  closed_params : (ps : Params) (n d : ℕ) (rest : List Token) → FitsParams n ps → closing d (spell_params ps rest) ≡ closing d rest
  closed_params NoParams n d rest f = refl
  closed_params (params p ps) n d rest f = closed_param p n true (suc d) (spell_mores ps (put mark.Close rest)) f.0 ∙ closed_mores ps n (suc d) (put mark.Close rest) f.1

  closed_mores : (ps : More) (n d : ℕ) (rest : List Token) → FitsMores n ps → closing d (spell_mores ps rest) ≡ closing d rest
  closed_mores no_more n d rest f = refl
  closed_mores (more p ps) n d rest f = closed_param p n false d (spell_mores ps rest) f.0 ∙ closed_mores ps n d rest f.1

  closed_param : (p : Param) (n : ℕ) (is_first : Bool) (d : ℕ) (rest : List Token) → FitsParam n is_first p → closing d (spell_param p rest) ≡ closing d rest
  closed_param (Length has_word e) zero is_first d rest f = absurd f
  closed_param (Length has_word e) (suc n) is_first d rest f = closing_word (codes "len") has_word d (spell e rest) ∙ closed_expr e n 9 d rest f.1 (omega arith)
  closed_param (AnyLength has_word) n is_first d rest f = closing_word (codes "len") has_word d (put mark.Star rest)
  closed_param (KindParam has_word e) zero is_first d rest f = absurd f
  closed_param (KindParam has_word e) (suc n) is_first d rest f = closing_word (codes "kind") has_word d (spell e rest) ∙ closed_expr e n 9 d rest f.1 (omega arith)

-- ---- items without a type don't begin with one

-- neither `(` nor `::` stands first
abbrev Follows : List Token → Type 0
Follows (token.Mark mark.Open ∷ ts) = ⊥
Follows (token.Mark mark.DoubleColon ∷ ts) = ⊥
Follows _ = Unit {0}

follows_op : (op : Mark) (k : ℕ) (ts : List Token) → height_of op ≡ suc k → k ≤ 8 → Follows (put op ts)
follows_op mark.Open k ts e le = absurd (omega (arith, e))
follows_op mark.DoubleColon k ts e le = absurd (omega (arith, e, le))
follows_op _ k ts e le = tt

follows_links : (n k : ℕ) (links : Links) (rest : List Token) → FitsLinks n k links → k ≤ 8 → Follows rest → Follows (spell_links links rest)
follows_links n k no_links rest f le a = a
follows_links n k (link op e links) rest f le a = follows_op op k _ f.0 le

no_colons : (ts : List Token) → Follows ts → is_colons ts ≡ false
unfolding is_colons
no_colons (token.Mark mark.DoubleColon ∷ ts) a = absurd a
no_colons _ a = refl

no_colons_group : (ts : List Token) → Follows ts → is_colons (behind_group ts) ≡ false
unfolding is_colons behind_group
no_colons_group (token.Mark mark.DoubleColon ∷ ts) a = absurd a
no_colons_group (token.Mark mark.Open ∷ ts) a = absurd a
no_colons_group _ a = refl

no_colons_parts : (ps : Parts) (ts : List Token) → Follows ts → is_colons (spell_parts ps ts) ≡ false
unfolding is_colons
no_colons_parts no_parts ts a = no_colons ts a
no_colons_parts (part p ps) ts a = refl

no_colons_range : (r : Range) (ps : Parts) (ts : List Token) → Follows ts → is_colons (spell_range r (spell_parts ps ts)) ≡ false
unfolding is_colons
no_colons_range NoRange ps ts a = no_colons_parts ps ts a
no_colons_range (range lower upper) ps ts a = refl

no_colons_named : (n : ℕ) (g : Group) (r : Range) (ps : Parts) (ts : List Token) → FitsGroup n g → FitsRange n g r → Follows ts → is_colons (behind_group (spell_group g (spell_range r (spell_parts ps ts)))) ≡ false
unfolding is_colons behind_group closing
no_colons_named n NoGroup NoRange no_parts ts f w a = no_colons_group ts a
no_colons_named n NoGroup NoRange (part p ps) ts f w a = refl
no_colons_named n NoGroup (range lower upper) ps ts f w a = absurd w.0
no_colons_named n (group args) r ps ts f w a = ap is_colons (closed_args args n true zero (put mark.Close (spell_range r (spell_parts ps ts))) f) ∙ no_colons_range r ps ts a

no_typed : (n h : ℕ) (e : Expr) (ts : List Token) → Fits n h e → h ≤ 9 → Follows ts → begins_typed (spell e ts) ≡ false
unfolding begins_typed
no_typed n h (Number digits k) ts f le a = refl
no_typed n h (Truth value k) ts f le a = refl
no_typed n h (Text bytes k) ts f le a = refl
no_typed n h (Ref (refer (named name g r) ps)) ts f le a = no_colons_named n g r ps ts f.0.0 f.0.1 a
no_typed n h (Paren e) ts f le a = refl
no_typed n h (Array items) ts f le a = refl
no_typed n h (Typed t items) ts f le a = refl
no_typed n h (Chain k None first links) ts f le a = no_typed n k first (spell_links links ts) f.2 (omega (arith, f.0, le)) (follows_links n k links ts f.3 (omega (arith, f.0, le)) a)
no_typed n h (Chain k (Some m) first links) ts f le a = refl

others_follow : (args : Args) (rest : List Token) → Follows (spell_others args (put mark.CloseBracket rest))
others_follow no_args rest = tt
others_follow (arg a args) rest = tt

pub no_typed_items : (n : ℕ) (a : Arg) (args : Args) (rest : List Token) → FitsArg n false a → begins_typed (spell_args (arg a args) (put mark.CloseBracket rest)) ≡ false
no_typed_items zero (Value keyword e) args rest f = absurd f
no_typed_items (suc n) (Value None e) args rest f = no_typed n 9 e _ f.1 (omega arith) (others_follow args rest)
no_typed_items (suc n) (Value (Some name) e) args rest f = absurd (cc (f.0))
no_typed_items n (Section lower upper stride) args rest f = absurd (cc (f.0))
no_typed_items zero (Strided lower stride) args rest f = absurd f
no_typed_items (suc n) (Strided lower stride) args rest f = absurd (cc (f.0))

-- what stands behind a name, arguments and a range is what is closed; behind a type stands what is written
pub begins_types : (n : ℕ) (t : TypeOf) (rest : List Token) → FitsType n t → begins_typed (spell_type t (put mark.DoubleColon rest)) ≡ true
unfolding begins_typed is_colons behind_group closing
begins_types n (Integer NoKind) rest f = refl
begins_types zero (Integer (kind has_word e)) rest f = absurd f
begins_types (suc n) (Integer (kind has_word e)) rest f = ap is_colons (closing_word (codes "kind") has_word zero _ ∙ closed_expr e n 9 zero (put mark.Close (put mark.DoubleColon rest)) f (omega arith))
begins_types n (Logical NoKind) rest f = refl
begins_types zero (Logical (kind has_word e)) rest f = absurd f
begins_types (suc n) (Logical (kind has_word e)) rest f = ap is_colons (closing_word (codes "kind") has_word zero _ ∙ closed_expr e n 9 zero (put mark.Close (put mark.DoubleColon rest)) f (omega arith))
begins_types n (Character NoParams) rest f = refl
begins_types n (Character (params p ps)) rest f = ap is_colons (closed_param p n true zero (spell_mores ps (put mark.Close (put mark.DoubleColon rest))) f.0 ∙ closed_mores ps n zero (put mark.Close (put mark.DoubleColon rest)) f.1)
begins_types n (Derived name) rest f = refl
begins_types n Assumed rest f = refl
