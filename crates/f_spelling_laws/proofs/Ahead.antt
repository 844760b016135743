-- A spelling in front of two lists is the spelling in front of the first, and then the second.
use Rattle.std.proofs.Common.{◌≡◌, ℕ, List, ◌∷◌, ◌++◌, Option, Some, None, Bool, true, false, refl, ap, ◌∙◌}
use Rattle.std.specs.Prelude.{codes}
use Rattle.f_lex.specs.declared.token.Mark.{Mark}
use Rattle.f_lex.specs.declared.token.Mark.TheVariants as mark
use Rattle.f_lex.specs.declared.token.Token.{Token}
use Rattle.f_lex.specs.declared.token.Token.TheVariants as token
use Rattle.f_grammar.specs.Grammar.{Expr, Number, Truth, Text, Ref, Paren, Array, Typed, Chain, Links, no_links, link, Refer, refer, Parts, no_parts, part, Part, named, Group, NoGroup, group, Range, NoRange, range, Args, no_args, arg, Arg, Value, Section, Strided, Maybe, Absent, Present, TypeOf, Integer, Logical, Character, Derived, Assumed, Selector, NoKind, kind, Params, NoParams, params, More, no_more, more, Param, Length, AnyLength, KindParam, put, spell_sign, spell_key, spell_word, spell, spell_links, spell_refer, spell_parts, spell_part, spell_group, spell_range, spell_args, spell_others, spell_arg, spell_maybe, spell_stride, spell_type, spell_kind, spell_params, spell_mores, spell_param}

abbrev pub Carries : (List Token → List Token) → Type 0
Carries f = (a b : List Token) → f (a ++ b) ≡ f a ++ b

-- one spelling in front of another
pub then_carries : (f g : List Token → List Token) → Carries f → Carries g → Carries (λ ts. f (g ts))
then_carries f g c d a b = ap f (d a b) ∙ c (g a) b

pub token_carries : (t : Token) (f : List Token → List Token) → Carries f → Carries (λ ts. t ∷ f ts)
token_carries t f c a b = ap (λ (ts : List Token). t ∷ ts) (c a b)

sign_carries : (s : Option Mark) → Carries (spell_sign s)
sign_carries None a b = refl
sign_carries (Some m) a b = refl

key_carries : (k : Option (List ℕ)) → Carries (spell_key k)
key_carries None a b = refl
key_carries (Some name) a b = refl

word_carries : (word : List ℕ) (has_word : Bool) → Carries (spell_word word has_word)
word_carries word true a b = refl
word_carries word false a b = refl

mutual
  pub carries : (e : Expr) → Carries (spell e)
  carries (Number digits k) a b = refl
  carries (Truth value k) a b = refl
  carries (Text bytes k) a b = refl
  carries (Ref r) a b = refer_carries r a b
  carries (Paren e) a b = ap (put mark.Open) (carries e (put mark.Close a) b)
  carries (Array items) a b = ap (put mark.OpenBracket) (args_carry items (put mark.CloseBracket a) b)
  carries (Typed t items) a b = ap (put mark.OpenBracket) (ap (λ (ts : List Token). spell_type t (put mark.DoubleColon ts)) (args_carry items (put mark.CloseBracket a) b)
      ∙ type_carries t (put mark.DoubleColon (spell_args items (put mark.CloseBracket a))) b)
  carries (Chain h sign first links) a b = ap (spell_sign sign) (ap (spell first) (links_carry links a b) ∙ carries first (spell_links links a) b) ∙ sign_carries sign (spell first (spell_links links a)) b

  links_carry : (links : Links) → Carries (spell_links links)
  links_carry no_links a b = refl
  links_carry (link op e links) a b = ap (put op) (ap (spell e) (links_carry links a b) ∙ carries e (spell_links links a) b)

  pub refer_carries : (r : Refer) → Carries (spell_refer r)
  refer_carries (refer p ps) a b = ap (spell_part p) (parts_carry ps a b) ∙ part_carries p (spell_parts ps a) b

  parts_carry : (ps : Parts) → Carries (spell_parts ps)
  parts_carry no_parts a b = refl
  parts_carry (part p ps) a b = ap (put mark.Percent) (ap (spell_part p) (parts_carry ps a b) ∙ part_carries p (spell_parts ps a) b)

  part_carries : (p : Part) → Carries (spell_part p)
  part_carries (named name g r) a b = ap (λ (ts : List Token). token.Name name ∷ ts) (ap (spell_group g) (range_carries r a b) ∙ group_carries g (spell_range r a) b)

  pub group_carries : (g : Group) → Carries (spell_group g)
  group_carries NoGroup a b = refl
  group_carries (group args) a b = ap (put mark.Open) (args_carry args (put mark.Close a) b)

  range_carries : (r : Range) → Carries (spell_range r)
  range_carries NoRange a b = refl
  range_carries (range lower upper) a b = ap (put mark.Open) (ap (λ (ts : List Token). spell_maybe lower (put mark.Colon ts)) (maybe_carries upper (put mark.Close a) b)
      ∙ maybe_carries lower (put mark.Colon (spell_maybe upper (put mark.Close a))) b)

  args_carry : (args : Args) → Carries (spell_args args)
  args_carry no_args a b = refl
  args_carry (arg x args) a b = ap (spell_arg x) (others_carry args a b) ∙ arg_carries x (spell_others args a) b

  others_carry : (args : Args) → Carries (spell_others args)
  others_carry no_args a b = refl
  others_carry (arg x args) a b = ap (put mark.Comma) (ap (spell_arg x) (others_carry args a b) ∙ arg_carries x (spell_others args a) b)

  arg_carries : (x : Arg) → Carries (spell_arg x)
  arg_carries (Value keyword e) a b = ap (spell_key keyword) (carries e a b) ∙ key_carries keyword (spell e a) b
  arg_carries (Section lower upper stride) a b = ap (λ (ts : List Token). spell_maybe lower (put mark.Colon ts)) (ap (spell_maybe upper) (stride_carries stride a b) ∙ maybe_carries upper (spell_stride stride a) b)
      ∙ maybe_carries lower (put mark.Colon (spell_maybe upper (spell_stride stride a))) b
  arg_carries (Strided lower stride) a b = ap (λ (ts : List Token). spell_maybe lower (put mark.DoubleColon ts)) (carries stride a b) ∙ maybe_carries lower (put mark.DoubleColon (spell stride a)) b

  pub maybe_carries : (m : Maybe) → Carries (spell_maybe m)
  maybe_carries Absent a b = refl
  maybe_carries (Present e) a b = carries e a b

  stride_carries : (m : Maybe) → Carries (spell_stride m)
  stride_carries Absent a b = refl
  stride_carries (Present e) a b = ap (put mark.Colon) (carries e a b)

  pub type_carries : (t : TypeOf) → Carries (spell_type t)
  type_carries (Integer k) a b = ap (λ (ts : List Token). token.Name (codes "integer") ∷ ts) (kind_carries k a b)
  type_carries (Logical k) a b = ap (λ (ts : List Token). token.Name (codes "logical") ∷ ts) (kind_carries k a b)
  type_carries (Character ps) a b = ap (λ (ts : List Token). token.Name (codes "character") ∷ ts) (params_carry ps a b)
  type_carries (Derived name) a b = refl
  type_carries Assumed a b = refl

  kind_carries : (k : Selector) → Carries (spell_kind k)
  kind_carries NoKind a b = refl
  kind_carries (kind has_word e) a b = ap (put mark.Open) (ap (spell_word (codes "kind") has_word) (carries e (put mark.Close a) b) ∙ word_carries (codes "kind") has_word (spell e (put mark.Close a)) b)

  params_carry : (ps : Params) → Carries (spell_params ps)
  params_carry NoParams a b = refl
  params_carry (params p ps) a b = ap (put mark.Open) (ap (spell_param p) (mores_carry ps (put mark.Close a) b) ∙ param_carries p (spell_mores ps (put mark.Close a)) b)

  mores_carry : (ps : More) → Carries (spell_mores ps)
  mores_carry no_more a b = refl
  mores_carry (more p ps) a b = ap (put mark.Comma) (ap (spell_param p) (mores_carry ps a b) ∙ param_carries p (spell_mores ps a) b)

  param_carries : (p : Param) → Carries (spell_param p)
  param_carries (Length has_word e) a b = ap (spell_word (codes "len") has_word) (carries e a b) ∙ word_carries (codes "len") has_word (spell e a) b
  param_carries (AnyLength has_word) a b = word_carries (codes "len") has_word (put mark.Star a) b
  param_carries (KindParam has_word e) a b = ap (spell_word (codes "kind") has_word) (carries e a b) ∙ word_carries (codes "kind") has_word (spell e a) b
