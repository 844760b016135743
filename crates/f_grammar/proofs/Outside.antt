-- `=` and `=>` stand in no tree outside parentheses and brackets; so what is no assignment isn't read as one.
use Rattle.std.proofs.Common.{◌≡◌, ℕ, zero, suc, ◌≤◌, Bool, true, false, List, [], ◌∷◌, Option, Some, None, refl, ◌∙◌, arith}
use Rattle.std.specs.Prelude.{codes}
use Rattle.f_lex.specs.declared.token.Mark.{Mark}
use Rattle.f_lex.specs.declared.token.Mark.TheVariants as mark
use Rattle.f_lex.specs.declared.token.Token.{Token}
use Rattle.f_lex.specs.declared.token.Token.TheVariants as token
use Rattle.f_grammar.specs.Grammar.{Expr, Number, Truth, Text, Ref, Paren, Array, Typed, Chain, Links, no_links, link, Refer, refer, Parts, no_parts, part, Part, named, Group, NoGroup, group, Range, NoRange, range, Args, no_args, arg, Arg, Value, Section, Strided, Maybe, Absent, Present, TypeOf, Integer, Logical, Character, Derived, Assumed, Selector, NoKind, kind, Params, NoParams, params, More, no_more, more, Param, Length, AnyLength, KindParam, height_of, sign_height, put, spell_key, spell_word, spell, spell_links, spell_refer, spell_parts, spell_part, spell_group, spell_range, spell_args, spell_others, spell_arg, spell_maybe, spell_stride, spell_type, spell_kind, spell_params, spell_mores, spell_param, Fits, FitsLinks, FitsRefer, FitsParts, FitsPart, FitsGroup, FitsRange, FitsArgs, FitsArg, FitsMaybe, FitsType, FitsKind, FitsParams, FitsMores, FitsParam}

-- one fewer is open
abbrev fewer : ℕ → ℕ
fewer zero = zero
fewer (suc d) = d

abbrev or_else : ℕ → Bool → Bool
or_else zero b = true
or_else (suc d) b = b

-- `=` or `=>` stands outside parentheses and brackets, where so many are open
unfoldable pub sets_at : ℕ → List Token → Bool
sets_at d [] = false
sets_at d (token.Mark mark.Assign ∷ ts) = or_else d (sets_at d ts)
sets_at d (token.Mark mark.Arrow ∷ ts) = or_else d (sets_at d ts)
sets_at d (token.Mark mark.Open ∷ ts) = sets_at (suc d) ts
sets_at d (token.Mark mark.OpenBracket ∷ ts) = sets_at (suc d) ts
sets_at d (token.Mark mark.Close ∷ ts) = sets_at (fewer d) ts
sets_at d (token.Mark mark.CloseBracket ∷ ts) = sets_at (fewer d) ts
sets_at d (t ∷ ts) = sets_at d ts

-- ---- `=` and `=>` stand in no tree outside parentheses and brackets

setting_op : (op : Mark) (k d : ℕ) (ts : List Token) → height_of op ≡ suc k → k ≤ 8 → sets_at d (put op ts) ≡ sets_at d ts
unfolding sets_at
setting_op mark.Open k d ts e le = absurd (omega (arith, e))
setting_op mark.Close k d ts e le = absurd (omega (arith, e, le))
setting_op mark.OpenBracket k d ts e le = absurd (omega (arith, e, le))
setting_op mark.CloseBracket k d ts e le = absurd (omega (arith, e, le))
setting_op mark.Assign k d ts e le = absurd (omega (arith, e, le))
setting_op mark.Arrow k d ts e le = absurd (omega (arith, e, le))
setting_op _ k d ts e le = refl

setting_sign : (m : Mark) (k d : ℕ) (ts : List Token) → sign_height m ≡ suc k → sets_at d (put m ts) ≡ sets_at d ts
unfolding sets_at
setting_sign mark.Plus k d ts e = refl
setting_sign mark.Minus k d ts e = refl
setting_sign mark.Not k d ts e = refl
setting_sign _ k d ts e = absurd (omega (arith, e))

setting_key : (k : Option (List ℕ)) (d : ℕ) (ts : List Token) → sets_at (suc d) (spell_key k ts) ≡ sets_at (suc d) ts
unfolding sets_at
setting_key None d ts = refl
setting_key (Some name) d ts = refl

setting_word : (w : List ℕ) (b : Bool) (d : ℕ) (ts : List Token) → sets_at (suc d) (spell_word w b ts) ≡ sets_at (suc d) ts
unfolding sets_at
setting_word w true d ts = refl
setting_word w false d ts = refl

mutual
  unfolding sets_at

  pub sets_expr : (e : Expr) (n h d : ℕ) (rest : List Token) → Fits n h e → h ≤ 9 → sets_at d (spell e rest) ≡ sets_at d rest
  sets_expr (Number digits k) n h d rest f le = refl
  sets_expr (Truth value k) n h d rest f le = refl
  sets_expr (Text bytes k) n h d rest f le = refl
  sets_expr (Ref r) n h d rest f le = sets_refer r n d rest f
  sets_expr (Paren e) zero h d rest f le = absurd f
  sets_expr (Paren e) (suc n) h d rest f le = sets_expr e n 9 (suc d) (put mark.Close rest) f (omega arith)
  sets_expr (Array items) n h d rest f le = sets_args items n false d (put mark.CloseBracket rest) f.1
  sets_expr (Typed t items) n h d rest f le = sets_type t n (suc d) _ f.0 ∙ sets_args items n false d (put mark.CloseBracket rest) f.1
  sets_expr (Chain k None first links) n h d rest f le = sets_expr first n k d (spell_links links rest) f.2 (omega (arith, f.0, le)) ∙ sets_links links n k d rest f.3 (omega (arith, f.0, le))
  sets_expr (Chain k (Some m) first links) n h d rest f le = setting_sign m k d _ f.1 ∙ sets_expr first n k d (spell_links links rest) f.2 (omega (arith, f.0, le)) ∙ sets_links links n k d rest f.3 (omega (arith, f.0, le))

  sets_links : (links : Links) (n k d : ℕ) (rest : List Token) → FitsLinks n k links → k ≤ 8 → sets_at d (spell_links links rest) ≡ sets_at d rest
  sets_links no_links n k d rest f le = refl
  sets_links (link op e links) n k d rest f le = setting_op op k d _ f.0 le ∙ sets_expr e n k d (spell_links links rest) f.1 (omega (arith, le)) ∙ sets_links links n k d rest f.2 le

  pub sets_refer : (r : Refer) (n d : ℕ) (rest : List Token) → FitsRefer n r → sets_at d (spell_refer r rest) ≡ sets_at d rest
  sets_refer (refer p ps) n d rest f = sets_part p n d (spell_parts ps rest) f.0 ∙ sets_parts ps n d rest f.1

  sets_parts : (ps : Parts) (n d : ℕ) (rest : List Token) → FitsParts n ps → sets_at d (spell_parts ps rest) ≡ sets_at d rest
  sets_parts no_parts n d rest f = refl
  sets_parts (part p ps) n d rest f = sets_part p n d (spell_parts ps rest) f.0 ∙ sets_parts ps n d rest f.1

  sets_part : (p : Part) (n d : ℕ) (rest : List Token) → FitsPart n p → sets_at d (spell_part p rest) ≡ sets_at d rest
  sets_part (named name g r) n d rest f = sets_group g n d (spell_range r rest) f.0 ∙ sets_range r n d rest g f.1

  pub sets_group : (g : Group) (n d : ℕ) (rest : List Token) → FitsGroup n g → sets_at d (spell_group g rest) ≡ sets_at d rest
  sets_group NoGroup n d rest f = refl
  sets_group (group args) n d rest f = sets_args args n true d (put mark.Close rest) f

  sets_range : (r : Range) (n d : ℕ) (rest : List Token) (g : Group) → FitsRange n g r → sets_at d (spell_range r rest) ≡ sets_at d rest
  sets_range NoRange n d rest g f = refl
  sets_range (range lower upper) n d rest g f = sets_maybe lower n (suc d) (put mark.Colon (spell_maybe upper (put mark.Close rest))) f.1 ∙ sets_maybe upper n (suc d) (put mark.Close rest) f.2

  pub sets_args : (args : Args) (n : ℕ) (in_call : Bool) (d : ℕ) (rest : List Token) → FitsArgs n in_call args → sets_at (suc d) (spell_args args rest) ≡ sets_at (suc d) rest
  sets_args no_args n in_call d rest f = refl
  sets_args (arg a args) n in_call d rest f = sets_arg a n in_call d (spell_others args rest) f.0 ∙ sets_others args n in_call d rest f.1

  sets_others : (args : Args) (n : ℕ) (in_call : Bool) (d : ℕ) (rest : List Token) → FitsArgs n in_call args → sets_at (suc d) (spell_others args rest) ≡ sets_at (suc d) rest
  sets_others no_args n in_call d rest f = refl
  sets_others (arg a args) n in_call d rest f = sets_arg a n in_call d (spell_others args rest) f.0 ∙ sets_others args n in_call d rest f.1

  sets_arg : (a : Arg) (n : ℕ) (in_call : Bool) (d : ℕ) (rest : List Token) → FitsArg n in_call a → sets_at (suc d) (spell_arg a rest) ≡ sets_at (suc d) rest
  sets_arg (Value keyword e) zero in_call d rest f = absurd f
  sets_arg (Value keyword e) (suc n) in_call d rest f = setting_key keyword d (spell e rest) ∙ sets_expr e n 9 (suc d) rest f.1 (omega arith)
  sets_arg (Section lower upper stride) n in_call d rest f = sets_maybe lower n (suc d) _ f.1 ∙ sets_maybe upper n (suc d) _ f.2 ∙ sets_stride stride n (suc d) rest f.3
  sets_arg (Strided lower stride) zero in_call d rest f = absurd f
  sets_arg (Strided lower stride) (suc n) in_call d rest f = sets_maybe lower (suc n) (suc d) _ f.1 ∙ sets_expr stride n 9 (suc d) rest f.2 (omega arith)

  pub sets_maybe : (m : Maybe) (n d : ℕ) (rest : List Token) → FitsMaybe n m → sets_at d (spell_maybe m rest) ≡ sets_at d rest
  sets_maybe Absent n d rest f = refl
  sets_maybe (Present e) zero d rest f = absurd f
  sets_maybe (Present e) (suc n) d rest f = sets_expr e n 9 d rest f (omega arith)

  sets_stride : (m : Maybe) (n d : ℕ) (rest : List Token) → FitsMaybe n m → sets_at d (spell_stride m rest) ≡ sets_at d rest
  sets_stride Absent n d rest f = refl
  sets_stride (Present e) zero d rest f = absurd f
  sets_stride (Present e) (suc n) d rest f = sets_expr e n 9 d rest f (omega arith)

  sets_type : (t : TypeOf) (n d : ℕ) (rest : List Token) → FitsType n t → sets_at d (spell_type t rest) ≡ sets_at d rest
  sets_type (Integer k) n d rest f = sets_kind k n d rest f
  sets_type (Logical k) n d rest f = sets_kind k n d rest f
  sets_type (Character ps) n d rest f = sets_params ps n d rest f
  sets_type (Derived name) n d rest f = refl
  sets_type Assumed n d rest f = refl

  sets_kind : (k : Selector) (n d : ℕ) (rest : List Token) → FitsKind n k → sets_at d (spell_kind k rest) ≡ sets_at d rest
  sets_kind NoKind n d rest f = refl
  sets_kind (kind has_word e) zero d rest f = absurd f
  sets_kind (kind has_word e) (suc n) d rest f = setting_word (codes "kind") has_word d _ ∙ sets_expr e n 9 (suc d) (put mark.Close rest) f (omega arith)

  sets_params : (ps : Params) (n d : ℕ) (rest : List Token) → FitsParams n ps → sets_at d (spell_params ps rest) ≡ sets_at d rest
  sets_params NoParams n d rest f = refl
  sets_params (params p ps) n d rest f = sets_param p n true d (spell_mores ps (put mark.Close rest)) f.0 ∙ sets_mores ps n d (put mark.Close rest) f.1

  sets_mores : (ps : More) (n d : ℕ) (rest : List Token) → FitsMores n ps → sets_at (suc d) (spell_mores ps rest) ≡ sets_at (suc d) rest
  sets_mores no_more n d rest f = refl
  sets_mores (more p ps) n d rest f = sets_param p n false d (spell_mores ps rest) f.0 ∙ sets_mores ps n d rest f.1

  sets_param : (p : Param) (n : ℕ) (is_first : Bool) (d : ℕ) (rest : List Token) → FitsParam n is_first p → sets_at (suc d) (spell_param p rest) ≡ sets_at (suc d) rest
  sets_param (Length has_word e) zero is_first d rest f = absurd f
  sets_param (Length has_word e) (suc n) is_first d rest f = setting_word (codes "len") has_word d (spell e rest) ∙ sets_expr e n 9 (suc d) rest f.1 (omega arith)
  sets_param (AnyLength has_word) n is_first d rest f = setting_word (codes "len") has_word d (put mark.Star rest)
  sets_param (KindParam has_word e) zero is_first d rest f = absurd f
  sets_param (KindParam has_word e) (suc n) is_first d rest f = setting_word (codes "kind") has_word d (spell e rest) ∙ sets_expr e n 9 (suc d) rest f.1 (omega arith)
