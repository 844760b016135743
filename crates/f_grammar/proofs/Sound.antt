-- What is read is spelled so, and fits.
use Rattle.std.proofs.Common.{◌≡◌, ℕ, zero, suc, ◌≤◌, Bool, true, false, cond, eqb, List, [], ◌∷◌, length, Option, Some, None, refl, sym, ap, subst, ◌∙◌, arith}
use Rattle.std.specs.Prelude.{codes}
use Rattle.std.specs.Str.{bytes_eq}
use Rattle.std.proofs.lemmas.Bool.{eqb-true, eq-eqb}
use Rattle.std.proofs.lemmas.Slice.Eq.{bytes_eq-Decides}
use Rattle.f_lex.specs.declared.token.Mark.{Mark}
use Rattle.f_lex.specs.declared.token.Mark.TheVariants as mark
use Rattle.f_lex.specs.declared.token.Token.{Token}
use Rattle.f_lex.specs.declared.token.Token.TheVariants as token
use Rattle.f_grammar.specs.Grammar.{Expr, Number, Truth, Text, Ref, Paren, Array, Typed, Chain, Links, no_links, link, Refer, Parts, Part, group, Range, Args, no_args, arg, Arg, Value, Strided, Maybe, Absent, Present, TypeOf, Integer, Logical, Character, Derived, Assumed, Selector, kind, Params, More, Param, Length, KindParam, height_of, sign_height, put, spell_sign, spell_key, spell_word, spell, spell_links, spell_refer, spell_parts, spell_part, spell_range, spell_args, spell_others, spell_arg, spell_maybe, spell_stride, spell_type, spell_kind, spell_params, spell_mores, spell_param, IsSign, count, IsKey, IsLength, IsKind, Fits, FitsLinks, FitsRefer, FitsParts, FitsPart, FitsRange, FitsArgs, FitsArg, FitsMaybe, FitsType, FitsKind, FitsParams, FitsMores, FitsParam, Within}
use Rattle.f_grammar.specs.Reading.{IfSome, ◌>>=◌, choose, Reader, open_at, closed_at, comma_at, percent_at, colon_at, colons_at, star_at, name_at, end_at, key_at, key_is, word_at, sign_at, link_at, begins_colon, ends_bound, begins_typed, links_at, most_links, chain, level_at, upper_at, stride_at, section_at, behind_first, subscript_at, arg_at, others_at, args_at, lower_at, range_at, substring_at, behind_name, part_at, parts_at, refer_at, worded, kind_at, selector_at, length_at, bare_param_at, param_at, mores_at, params_at, character_at, derived_at, type_name_at, integer_at, logical_at, typed_by, type_at, typed_items_at, not_empty, items_at, primary_at, expr_at}

-- ---- steps

-- a step, and then another
pub then : {A B : Type 0} (r : Option A) (f : A → Option B) (P : A → Type 0) (Q : B → Type 0) → IfSome r P → ((x : A) → P x → IfSome (f x) Q) → IfSome (r >>= f) Q
then (Some x) f P Q p g = g x p
then None f P Q p g = tt

-- a choice, either way
pub chosen : {A B : Type 0} (o : Option A) (other : Option B) (some : A → Option B) (P : A → Type 0) (Q : B → Type 0) → IfSome o P → IfSome other Q → ((x : A) → P x → IfSome (some x) Q) → IfSome (choose o other some) Q
chosen None other some P Q p n s = n
chosen (Some x) other some P Q p n s = s x p

-- a test, either way
pub tested : {B : Type 0} (b : Bool) (x y : Option B) (Q : B → Type 0) → (b ≡ true → IfSome x Q) → (b ≡ false → IfSome y Q) → IfSome (cond b x y) Q
tested true x y Q t f = t refl
tested false x y Q t f = f refl

-- ---- single tokens

abbrev Behind : Mark → List Token → List Token → Type 0
Behind m ts rest = ts ≡ put m rest

pub open_sound : (ts : List Token) → IfSome (open_at ts) (Behind mark.Open ts)
unfolding open_at
open_sound (token.Mark mark.Open ∷ ts) = refl
open_sound (_ ∷ ts) = tt
open_sound [] = tt

pub closed_sound : (ts : List Token) → IfSome (closed_at ts) (Behind mark.Close ts)
unfolding closed_at
closed_sound (token.Mark mark.Close ∷ ts) = refl
closed_sound (_ ∷ ts) = tt
closed_sound [] = tt

pub comma_sound : (ts : List Token) → IfSome (comma_at ts) (Behind mark.Comma ts)
unfolding comma_at
comma_sound (token.Mark mark.Comma ∷ ts) = refl
comma_sound (_ ∷ ts) = tt
comma_sound [] = tt

pub percent_sound : (ts : List Token) → IfSome (percent_at ts) (Behind mark.Percent ts)
unfolding percent_at
percent_sound (token.Mark mark.Percent ∷ ts) = refl
percent_sound (_ ∷ ts) = tt
percent_sound [] = tt

pub colon_sound : (ts : List Token) → IfSome (colon_at ts) (Behind mark.Colon ts)
unfolding colon_at
colon_sound (token.Mark mark.Colon ∷ ts) = refl
colon_sound (_ ∷ ts) = tt
colon_sound [] = tt

pub colons_sound : (ts : List Token) → IfSome (colons_at ts) (Behind mark.DoubleColon ts)
unfolding colons_at
colons_sound (token.Mark mark.DoubleColon ∷ ts) = refl
colons_sound (_ ∷ ts) = tt
colons_sound [] = tt

pub star_sound : (ts : List Token) → IfSome (star_at ts) (Behind mark.Star ts)
unfolding star_at
star_sound (token.Mark mark.Star ∷ ts) = refl
star_sound (_ ∷ ts) = tt
star_sound [] = tt

abbrev pub IsName : List Token → List ℕ × List Token → Type 0
IsName ts n = ts ≡ token.Name n.0 ∷ n.1

pub name_sound : (ts : List Token) → IfSome (name_at ts) (IsName ts)
unfolding name_at
name_sound (token.Name name ∷ ts) = refl
name_sound (_ ∷ ts) = tt
name_sound [] = tt

-- what ends arguments, or items
abbrev pub ender : Bool → Mark
ender true = mark.Close
ender false = mark.CloseBracket

pub end_sound : (in_call : Bool) (ts : List Token) → IfSome (end_at in_call ts) (Behind (ender in_call) ts)
unfolding end_at
end_sound true (token.Mark mark.Close ∷ ts) = refl
end_sound false (token.Mark mark.CloseBracket ∷ ts) = refl
end_sound true _ = tt
end_sound false _ = tt

abbrev pub IsKeyed : List Token → List ℕ × List Token → Type 0
IsKeyed ts k = ts ≡ token.Name k.0 ∷ put mark.Assign k.1

pub key_sound : (ts : List Token) → IfSome (key_at ts) (IsKeyed ts)
unfolding key_at
key_sound (token.Name name ∷ token.Mark mark.Assign ∷ ts) = refl
key_sound _ = tt

abbrev pub IsWord : List ℕ → List Token → List Token → Type 0
IsWord word ts rest = ts ≡ token.Name word ∷ put mark.Assign rest

pub word_sound : (word : List ℕ) (ts : List Token) → IfSome (word_at word ts) (IsWord word ts)
unfolding word_at
word_sound word ts = pick (key_at ts) (key_sound ts)
  where
    test : (b : Bool) (k : List ℕ × List Token) → bytes_eq k.0 word ≡ b → IsKeyed ts k → IfSome (cond b (Some k.1) None) (IsWord word ts)
    test true k e i = i ∙ ap (λ (w : List ℕ). token.Name w ∷ put mark.Assign k.1) ((bytes_eq-Decides k.0 word).0 e)
    test false k e i = tt

    pick : (o : Option (List ℕ × List Token)) → IfSome o (IsKeyed ts) → IfSome (key_is word o) (IsWord word ts)
    pick None i = tt
    pick (Some k) i = test (bytes_eq k.0 word) k refl i

-- ---- signs and links

abbrev pub IsRead : ℕ → ℕ → List Token → Expr × List Token → Type 0
IsRead n h ts x = (ts ≡ spell x.0 x.1) × Fits n h x.0

pub sign_sound : (h : ℕ) (ts : List Token) → (ts ≡ spell_sign (sign_at h ts).0 (sign_at h ts).1) × IsSign h (sign_at h ts).0
unfolding sign_at
sign_sound h (token.Mark m ∷ ts) = pick (eqb (sign_height m) (suc h)) refl
  where
    pick : (b : Bool) → eqb (sign_height m) (suc h) ≡ b → let s : Option Mark × List Token = cond b (Some m, ts) (None, token.Mark m ∷ ts) in (token.Mark m ∷ ts ≡ spell_sign s.0 s.1) × IsSign h s.0
    pick true e = (refl, eqb-true (sign_height m) (suc h) e)
    pick false e = (refl, tt)
sign_sound h [] = (refl, tt)
sign_sound h (_ ∷ ts) = (refl, tt)

abbrev IsLink : ℕ → List Token → Mark × List Token → Type 0
IsLink h ts o = (ts ≡ put o.0 o.1) × (height_of o.0 ≡ suc h)

link_sound : (h : ℕ) (ts : List Token) → IfSome (link_at h ts) (IsLink h ts)
unfolding link_at
link_sound h (token.Mark m ∷ ts) = pick (eqb (height_of m) (suc h)) refl
  where
    pick : (b : Bool) → eqb (height_of m) (suc h) ≡ b → IfSome (cond b (Some (m, ts)) None) (IsLink h (token.Mark m ∷ ts))
    pick true e = (refl, eqb-true (height_of m) (suc h) e)
    pick false e = tt
link_sound h [] = tt
link_sound h (_ ∷ ts) = tt

abbrev AreLinks : ℕ → ℕ → ℕ → List Token → Links × List Token → Type 0
AreLinks n h k ts y = (ts ≡ spell_links y.0 y.1) × FitsLinks n h y.0 × (count y.0 ≤ k)

links_sound : (lower : Reader) (n h k : ℕ) → ((ts : List Token) → IfSome (lower ts) (IsRead n h ts)) → (ts : List Token) → IfSome (links_at lower h k ts) (AreLinks n h k ts)
unfolding links_at
links_sound lower n h zero sound ts = (refl, tt, omega arith)
links_sound lower n h (suc k) sound ts =
    chosen (link_at h ts) _ _ (IsLink h ts) (AreLinks n h (suc k) ts) (link_sound h ts) (refl, tt, omega arith) (λ o i.
    then (lower o.1) _ (IsRead n h o.1) _ (sound o.1) (λ x p.
    then (links_at lower h k x.1) _ (AreLinks n h k x.1) _ (links_sound lower n h k sound x.1) (λ y q. (
      i.0 ∙ ap (put o.0) (p.0 ∙ ap (spell x.0) q.0),
      (i.1, p.1, q.1),
      omega (arith, q.2),
    ))))

pub chain_spell : (h : ℕ) (sign : Option Mark) (first : Expr) (links : Links) (rest : List Token) → spell (chain h sign first links) rest ≡ spell_sign sign (spell first (spell_links links rest))
chain_spell h None first no_links rest = refl
chain_spell h None first (link op e links) rest = refl
chain_spell h (Some m) first no_links rest = refl
chain_spell h (Some m) first (link op e links) rest = refl

-- what fits lower fits higher
pub raise : (n h j : ℕ) (e : Expr) → h ≤ j → Fits n h e → Fits n j e
raise n h j (Number digits k) le f = f
raise n h j (Truth value k) le f = f
raise n h j (Text bytes k) le f = f
raise n h j (Ref r) le f = f
raise zero h j (Paren e) le f = f
raise (suc n) h j (Paren e) le f = f
raise n h j (Array items) le f = f
raise n h j (Typed t items) le f = f
raise n h j (Chain k sign first links) le f = (omega (arith, f.0), f.1, f.2, f.3, f.4, f.5)

chain_fits : (n h : ℕ) (sign : Option Mark) (first : Expr) (links : Links) → IsSign h sign → Fits n h first → FitsLinks n h links → (h ≡ 4 → count links ≤ 1) → Fits n (suc h) (chain h sign first links)
chain_fits n h None first no_links s f l c = raise n h (suc h) first (omega arith) f
chain_fits n h None first (link op e links) s f l c = (omega arith, s, f, l, tt, c)
chain_fits n h (Some m) first no_links s f l c = (omega arith, s, f, l, tt, c)
chain_fits n h (Some m) first (link op e links) s f l c = (omega arith, s, f, l, tt, c)

most_count : (h k : ℕ) (ts : List Token) → k ≤ most_links h ts → h ≡ 4 → k ≤ 1
most_count h k ts le e = subst (λ b. k ≤ cond b 1 (length ts)) (eq-eqb h 4 e) le

module _ (lowest : Reader) (n : ℕ) (sound : (ts : List Token) → IfSome (lowest ts) (IsRead n 0 ts)) where
  pub level_sound : (h : ℕ) (ts : List Token) → IfSome (level_at lowest h ts) (IsRead n h ts)
  unfolding level_at
  level_sound zero ts = sound ts
  level_sound (suc h) ts =
      let s = sign_sound h ts in
      let sign = (sign_at h ts).0 in
      then (level_at lowest h (sign_at h ts).1) _ (IsRead n h (sign_at h ts).1) _ (level_sound h (sign_at h ts).1) (λ x p.
      then (links_at (level_at lowest h) h (most_links h x.1) x.1) _ (AreLinks n h (most_links h x.1) x.1) _ (links_sound (level_at lowest h) n h (most_links h x.1) (level_sound h) x.1) (λ y q. (
        s.0 ∙ ap (spell_sign sign) (p.0 ∙ ap (spell x.0) q.0) ∙ sym (chain_spell h sign x.0 y.0 y.1),
        chain_fits n h sign x.0 y.0 s.1 p.1 q.1 (most_count h (count y.0) x.1 q.2),
      )))

-- ---- arguments and subscripts; what inner reads has one nesting less

abbrev pub IsInside : ℕ → List Token → Expr × List Token → Type 0
IsInside n ts x = (ts ≡ spell x.0 x.1) × Within n x.0

-- what a bound is, where it is there
pub value_fits : (n : ℕ) (in_call : Bool) (keyword : Option (List ℕ)) (e : Expr) → IsKey in_call keyword → Within n e → FitsArg n in_call (Value keyword e)
value_fits zero in_call keyword e k w = w
value_fits (suc n) in_call keyword e k w = (k, w)

pub present_fits : (n : ℕ) (e : Expr) → Within n e → FitsMaybe n (Present e)
present_fits zero e w = w
present_fits (suc n) e w = w

pub strided_fits : (n : ℕ) (lower : Maybe) (e : Expr) → FitsMaybe n lower → Within n e → FitsArg n true (Strided lower e)
strided_fits zero lower e l w = w
strided_fits (suc n) lower e l w = (refl, l, w)

pub kind_fits : (n : ℕ) (has_word : Bool) (e : Expr) → Within n e → FitsKind n (kind has_word e)
kind_fits zero has_word e w = w
kind_fits (suc n) has_word e w = w

pub length_fits : (n : ℕ) (is_first has_word : Bool) (e : Expr) → IsLength is_first has_word → Within n e → FitsParam n is_first (Length has_word e)
length_fits zero is_first has_word e l w = w
length_fits (suc n) is_first has_word e l w = (l, w)

pub kind_param_fits : (n : ℕ) (is_first has_word : Bool) (e : Expr) → IsKind is_first has_word → Within n e → FitsParam n is_first (KindParam has_word e)
kind_param_fits zero is_first has_word e l w = w
kind_param_fits (suc n) is_first has_word e l w = (l, w)

pub paren_fits : (n h : ℕ) (e : Expr) → Within n e → Fits n h (Paren e)
paren_fits zero h e w = w
paren_fits (suc n) h e w = w

abbrev pub AsMaybe : ℕ → List Token → Maybe × List Token → Type 0
AsMaybe n ts x = (ts ≡ spell_maybe x.0 x.1) × FitsMaybe n x.0

abbrev AsStride : ℕ → List Token → Maybe × List Token → Type 0
AsStride n ts x = (ts ≡ spell_stride x.0 x.1) × FitsMaybe n x.0

abbrev AsArg : ℕ → Bool → List Token → Arg × List Token → Type 0
AsArg n in_call ts x = (ts ≡ spell_arg x.0 x.1) × FitsArg n in_call x.0

abbrev AsOthers : ℕ → Bool → List Token → Args × List Token → Type 0
AsOthers n in_call ts x = (ts ≡ spell_others x.0 x.1) × FitsArgs n in_call x.0

abbrev AsArgs : ℕ → Bool → List Token → Args × List Token → Type 0
AsArgs n in_call ts x = (ts ≡ spell_args x.0 (put (ender in_call) x.1)) × FitsArgs n in_call x.0

abbrev pub AsPart : ℕ → List Token → Part × List Token → Type 0
AsPart n ts x = (ts ≡ spell_part x.0 x.1) × FitsPart n x.0

abbrev AsParts : ℕ → List Token → Parts × List Token → Type 0
AsParts n ts x = (ts ≡ spell_parts x.0 x.1) × FitsParts n x.0

abbrev pub AsRefer : ℕ → List Token → Refer × List Token → Type 0
AsRefer n ts x = (ts ≡ spell_refer x.0 x.1) × FitsRefer n x.0

abbrev AsRange : ℕ → List Token → Range × List Token → Type 0
AsRange n ts x = (ts ≡ spell_range x.0 x.1) × ((args : Args) → FitsRange n (group args) x.0)

abbrev AsSelector : ℕ → List Token → Selector × List Token → Type 0
AsSelector n ts x = (ts ≡ spell_kind x.0 x.1) × FitsKind n x.0

abbrev AsParam : ℕ → Bool → List Token → Param × List Token → Type 0
AsParam n is_first ts x = (ts ≡ spell_param x.0 x.1) × FitsParam n is_first x.0

abbrev AsMores : ℕ → List Token → More × List Token → Type 0
AsMores n ts x = (ts ≡ spell_mores x.0 x.1) × FitsMores n x.0

abbrev AsParams : ℕ → List Token → Params × List Token → Type 0
AsParams n ts x = (put mark.Open ts ≡ spell_params x.0 x.1) × FitsParams n x.0

abbrev pub AsType : ℕ → List Token → TypeOf × List Token → Type 0
AsType n ts x = (ts ≡ spell_type x.0 x.1) × FitsType n x.0

module _ (inner : Reader) (n : ℕ) (sound : (ts : List Token) → IfSome (inner ts) (IsInside n ts)) where
  pub upper_sound : (ts : List Token) → IfSome (upper_at inner ts) (AsMaybe n ts)
  unfolding upper_at
  upper_sound ts = tested (ends_bound ts) _ _ (AsMaybe n ts) (λ e. (refl, tt)) (λ e.
      then (inner ts) _ (IsInside n ts) _ (sound ts) (λ x p. (p.0, present_fits n x.0 p.1)))

  lower_sound : (ts : List Token) → IfSome (lower_at inner ts) (AsMaybe n ts)
  unfolding lower_at
  lower_sound ts = tested (begins_colon ts) _ _ (AsMaybe n ts) (λ e. (refl, tt)) (λ e.
      then (inner ts) _ (IsInside n ts) _ (sound ts) (λ x p. (p.0, present_fits n x.0 p.1)))

  stride_sound : (ts : List Token) → IfSome (stride_at inner ts) (AsStride n ts)
  unfolding stride_at
  stride_sound ts = chosen (colon_at ts) _ _ (Behind mark.Colon ts) (AsStride n ts) (colon_sound ts) (refl, tt) (λ r i.
      then (inner r) _ (IsInside n r) _ (sound r) (λ x p. (i ∙ ap (put mark.Colon) p.0, present_fits n x.0 p.1)))

  section_sound : (lower : Maybe) (ts : List Token) → FitsMaybe n lower → IfSome (section_at inner lower ts) (λ x. (spell_maybe lower ts ≡ spell_arg x.0 x.1) × FitsArg n true x.0)
  unfolding section_at
  section_sound lower ts l = chosen (colons_at ts) _ _ (Behind mark.DoubleColon ts) _ (colons_sound ts)
      (then (colon_at ts) _ (Behind mark.Colon ts) _ (colon_sound ts) (λ r c.
      then (upper_at inner r) _ (AsMaybe n r) _ (upper_sound r) (λ u p.
      then (stride_at inner u.1) _ (AsStride n u.1) _ (stride_sound u.1) (λ s q.
      (ap (spell_maybe lower) (c ∙ ap (put mark.Colon) (p.0 ∙ ap (spell_maybe u.0) q.0)), (refl, l, p.1, q.1))))))
      (λ r i. then (inner r) _ (IsInside n r) _ (sound r) (λ x p.
      (ap (spell_maybe lower) (i ∙ ap (put mark.DoubleColon) p.0), strided_fits n lower x.0 l p.1)))

  behind_sound : (ts : List Token) (x : Expr × List Token) → IsInside n ts x → IfSome (behind_first inner x) (AsArg n true ts)
  unfolding behind_first
  behind_sound ts x p = tested (begins_colon x.1) _ _ (AsArg n true ts)
      (λ e. pick (section_at inner (Present x.0) x.1) (section_sound (Present x.0) x.1 (present_fits n x.0 p.1)))
      (λ e. (p.0, value_fits n true None x.0 tt p.1))
    where
      pick : (o : Option (Arg × List Token)) → IfSome o (λ y. (spell_maybe (Present x.0) x.1 ≡ spell_arg y.0 y.1) × FitsArg n true y.0) → IfSome o (AsArg n true ts)
      pick None i = tt
      pick (Some y) i = (p.0 ∙ i.0, i.1)

  subscript_sound : (ts : List Token) → IfSome (subscript_at inner ts) (AsArg n true ts)
  unfolding subscript_at
  subscript_sound ts = tested (begins_colon ts) _ _ (AsArg n true ts) (λ e. section_sound Absent ts tt) (λ e.
      then (inner ts) _ (IsInside n ts) _ (sound ts) (behind_sound ts))

  arg_sound : (in_call : Bool) (ts : List Token) → IfSome (arg_at inner in_call ts) (AsArg n in_call ts)
  unfolding arg_at
  arg_sound true ts = chosen (key_at ts) _ _ (IsKeyed ts) (AsArg n true ts) (key_sound ts) (subscript_sound ts) (λ k i.
      then (inner k.1) _ (IsInside n k.1) _ (sound k.1) (λ x p. (i ∙ ap (spell_key (Some k.0)) p.0, value_fits n true (Some k.0) x.0 refl p.1)))
  arg_sound false ts = then (inner ts) _ (IsInside n ts) _ (sound ts) (λ x p. (p.0, value_fits n false None x.0 tt p.1))

  others_sound : (in_call : Bool) (k : ℕ) (ts : List Token) → IfSome (others_at inner in_call k ts) (AsOthers n in_call ts)
  unfolding others_at
  others_sound in_call zero ts = (refl, tt)
  others_sound in_call (suc k) ts = chosen (comma_at ts) _ _ (Behind mark.Comma ts) (AsOthers n in_call ts) (comma_sound ts) (refl, tt) (λ r i.
      then (arg_at inner in_call r) _ (AsArg n in_call r) _ (arg_sound in_call r) (λ x p.
      then (others_at inner in_call k x.1) _ (AsOthers n in_call x.1) _ (others_sound in_call k x.1) (λ y q.
      (i ∙ ap (put mark.Comma) (p.0 ∙ ap (spell_arg x.0) q.0), (p.1, q.1)))))

  pub args_sound : (in_call : Bool) (ts : List Token) → IfSome (args_at inner in_call ts) (AsArgs n in_call ts)
  unfolding args_at
  args_sound in_call ts = chosen (end_at in_call ts) _ _ (Behind (ender in_call) ts) (AsArgs n in_call ts) (end_sound in_call ts)
      (then (arg_at inner in_call ts) _ (AsArg n in_call ts) _ (arg_sound in_call ts) (λ x p.
      then (others_at inner in_call (length x.1) x.1) _ (AsOthers n in_call x.1) _ (others_sound in_call (length x.1) x.1) (λ y q.
      then (end_at in_call y.1) _ (Behind (ender in_call) y.1) _ (end_sound in_call y.1) (λ r c.
      (p.0 ∙ ap (spell_arg x.0) (q.0 ∙ ap (spell_others y.0) c), (p.1, q.1))))))
      (λ r i. (i, tt))

  range_sound : (ts : List Token) → IfSome (range_at inner ts) (λ x. (put mark.Open ts ≡ spell_range x.0 x.1) × ((args : Args) → FitsRange n (group args) x.0))
  unfolding range_at
  range_sound ts =
      then (lower_at inner ts) _ (AsMaybe n ts) _ (lower_sound ts) (λ l p.
      then (colon_at l.1) _ (Behind mark.Colon l.1) _ (colon_sound l.1) (λ r c.
      then (upper_at inner r) _ (AsMaybe n r) _ (upper_sound r) (λ u q.
      then (closed_at u.1) _ (Behind mark.Close u.1) _ (closed_sound u.1) (λ rest d.
      (ap (put mark.Open) (p.0 ∙ ap (spell_maybe l.0) (c ∙ ap (put mark.Colon) (q.0 ∙ ap (spell_maybe u.0) d))), λ args. (tt, p.1, q.1))))))

  substring_sound : (ts : List Token) → IfSome (substring_at inner ts) (AsRange n ts)
  unfolding substring_at
  substring_sound ts = chosen (open_at ts) _ _ (Behind mark.Open ts) (AsRange n ts) (open_sound ts) (refl, λ args. tt) (λ r i. pick r i (range_at inner r) (range_sound r))
    where
      pick : (r : List Token) → Behind mark.Open ts r → (o : Option (Range × List Token)) → IfSome o (λ x. (put mark.Open r ≡ spell_range x.0 x.1) × ((args : Args) → FitsRange n (group args) x.0)) → IfSome o (AsRange n ts)
      pick r i None p = tt
      pick r i (Some x) p = (i ∙ p.0, p.1)

  named_sound : (name : List ℕ) (ts : List Token) → IfSome (behind_name inner name ts) (AsPart n (token.Name name ∷ ts))
  unfolding behind_name
  named_sound name ts = chosen (open_at ts) _ _ (Behind mark.Open ts) (AsPart n (token.Name name ∷ ts)) (open_sound ts) (refl, (tt, tt)) (λ r i.
      then (args_at inner true r) _ (AsArgs n true r) _ (args_sound true r) (λ x p.
      then (substring_at inner x.1) _ (AsRange n x.1) _ (substring_sound x.1) (λ y q.
      (ap (λ (r : List Token). token.Name name ∷ r) (i ∙ ap (put mark.Open) (p.0 ∙ ap (λ (r : List Token). spell_args x.0 (put mark.Close r)) q.0)), (p.1, q.1 x.0)))))

  part_sound : (ts : List Token) → IfSome (part_at inner ts) (AsPart n ts)
  unfolding part_at
  part_sound ts = then (name_at ts) _ (IsName ts) _ (name_sound ts) (λ m i. pick m i (behind_name inner m.0 m.1) (named_sound m.0 m.1))
    where
      pick : (m : List ℕ × List Token) → IsName ts m → (o : Option (Part × List Token)) → IfSome o (AsPart n (token.Name m.0 ∷ m.1)) → IfSome o (AsPart n ts)
      pick m i None p = tt
      pick m i (Some x) p = (i ∙ p.0, p.1)

  parts_sound : (k : ℕ) (ts : List Token) → IfSome (parts_at inner k ts) (AsParts n ts)
  unfolding parts_at
  parts_sound zero ts = (refl, tt)
  parts_sound (suc k) ts = chosen (percent_at ts) _ _ (Behind mark.Percent ts) (AsParts n ts) (percent_sound ts) (refl, tt) (λ r i.
      then (part_at inner r) _ (AsPart n r) _ (part_sound r) (λ x p.
      then (parts_at inner k x.1) _ (AsParts n x.1) _ (parts_sound k x.1) (λ y q.
      (i ∙ ap (put mark.Percent) (p.0 ∙ ap (spell_part x.0) q.0), (p.1, q.1)))))

  pub refer_sound : (ts : List Token) → IfSome (refer_at inner ts) (AsRefer n ts)
  unfolding refer_at
  refer_sound ts =
      then (part_at inner ts) _ (AsPart n ts) _ (part_sound ts) (λ x p.
      then (parts_at inner (length x.1) x.1) _ (AsParts n x.1) _ (parts_sound (length x.1) x.1) (λ y q.
      (p.0 ∙ ap (spell_part x.0) q.0, (p.1, q.1))))

  worded_sound : (word : List ℕ) (ts : List Token) → ts ≡ spell_word word (worded word ts).0 (worded word ts).1
  worded_sound word ts = pick (word_at word ts) (word_sound word ts)
    where
      pick : (o : Option (List Token)) → IfSome o (IsWord word ts) → let w : Bool × List Token = choose o (false, ts) (λ r. (true, r)) in ts ≡ spell_word word w.0 w.1
      pick None i = refl
      pick (Some r) i = i

  kind_sound : (ts : List Token) → IfSome (kind_at inner ts) (λ x. (put mark.Open ts ≡ spell_kind x.0 x.1) × FitsKind n x.0)
  unfolding kind_at
  kind_sound ts =
      let w = worded (codes "kind") ts in
      then (inner w.1) _ (IsInside n w.1) _ (sound w.1) (λ x p.
      then (closed_at x.1) _ (Behind mark.Close x.1) _ (closed_sound x.1) (λ r c.
      (ap (put mark.Open) (worded_sound (codes "kind") ts ∙ ap (spell_word (codes "kind") w.0) (p.0 ∙ ap (spell x.0) c)), kind_fits n w.0 x.0 p.1)))

  selector_sound : (ts : List Token) → IfSome (selector_at inner ts) (AsSelector n ts)
  unfolding selector_at
  selector_sound ts = chosen (open_at ts) _ _ (Behind mark.Open ts) (AsSelector n ts) (open_sound ts) (refl, tt) (λ r i. pick r i (kind_at inner r) (kind_sound r))
    where
      pick : (r : List Token) → Behind mark.Open ts r → (o : Option (Selector × List Token)) → IfSome o (λ x. (put mark.Open r ≡ spell_kind x.0 x.1) × FitsKind n x.0) → IfSome o (AsSelector n ts)
      pick r i None p = tt
      pick r i (Some x) p = (i ∙ p.0, p.1)

  length_sound : (is_first has_word : Bool) (ts : List Token) → IsLength is_first has_word → IfSome (length_at inner has_word ts) (λ x. (spell_word (codes "len") has_word ts ≡ spell_param x.0 x.1) × FitsParam n is_first x.0)
  unfolding length_at
  length_sound is_first has_word ts l = chosen (star_at ts) _ _ (Behind mark.Star ts) _ (star_sound ts)
      (then (inner ts) _ (IsInside n ts) _ (sound ts) (λ x p. (ap (spell_word (codes "len") has_word) p.0, length_fits n is_first has_word x.0 l p.1)))
      (λ r i. (ap (spell_word (codes "len") has_word) i, l))

  param_sound : (is_first : Bool) (ts : List Token) → IfSome (param_at inner is_first ts) (AsParam n is_first ts)
  unfolding param_at bare_param_at
  param_sound is_first ts = chosen (word_at (codes "len") ts) _ _ (IsWord (codes "len") ts) (AsParam n is_first ts) (word_sound (codes "len") ts)
      (chosen (word_at (codes "kind") ts) _ _ (IsWord (codes "kind") ts) (AsParam n is_first ts) (word_sound (codes "kind") ts)
      (bare is_first)
      (λ r i. then (inner r) _ (IsInside n r) _ (sound r) (λ x p. (i ∙ ap (spell_word (codes "kind") true) p.0, kind_param_fits n is_first true x.0 tt p.1))))
      (λ r i. worded_length r i (length_at inner true r) (length_sound is_first true r tt))
    where
      worded_length : (r : List Token) → IsWord (codes "len") ts r → (o : Option (Param × List Token)) → IfSome o (λ x. (spell_word (codes "len") true r ≡ spell_param x.0 x.1) × FitsParam n is_first x.0) → IfSome o (AsParam n is_first ts)
      worded_length r i None p = tt
      worded_length r i (Some x) p = (i ∙ p.0, p.1)

      bare : (is_first : Bool) → IfSome (bare_param_at inner is_first ts) (AsParam n is_first ts)
      bare true = length_sound true false ts refl
      bare false = then (inner ts) _ (IsInside n ts) _ (sound ts) (λ x p. (p.0, kind_param_fits n false false x.0 refl p.1))

  mores_sound : (k : ℕ) (ts : List Token) → IfSome (mores_at inner k ts) (AsMores n ts)
  unfolding mores_at
  mores_sound zero ts = (refl, tt)
  mores_sound (suc k) ts = chosen (comma_at ts) _ _ (Behind mark.Comma ts) (AsMores n ts) (comma_sound ts) (refl, tt) (λ r i.
      then (param_at inner false r) _ (AsParam n false r) _ (param_sound false r) (λ x p.
      then (mores_at inner k x.1) _ (AsMores n x.1) _ (mores_sound k x.1) (λ y q.
      (i ∙ ap (put mark.Comma) (p.0 ∙ ap (spell_param x.0) q.0), (p.1, q.1)))))

  params_sound : (ts : List Token) → IfSome (params_at inner ts) (AsParams n ts)
  unfolding params_at
  params_sound ts =
      then (param_at inner true ts) _ (AsParam n true ts) _ (param_sound true ts) (λ x p.
      then (mores_at inner (length x.1) x.1) _ (AsMores n x.1) _ (mores_sound (length x.1) x.1) (λ y q.
      then (closed_at y.1) _ (Behind mark.Close y.1) _ (closed_sound y.1) (λ r c.
      (ap (put mark.Open) (p.0 ∙ ap (spell_param x.0) (q.0 ∙ ap (spell_mores y.0) c)), (p.1, q.1)))))

  abbrev Begun : List ℕ → List Token → TypeOf × List Token → Type 0
  Begun word ts x = (token.Name word ∷ ts ≡ spell_type x.0 x.1) × FitsType n x.0

  integer_sound : (ts : List Token) → IfSome (integer_at inner ts) (Begun (codes "integer") ts)
  unfolding integer_at
  integer_sound ts = then (selector_at inner ts) _ (AsSelector n ts) _ (selector_sound ts) (λ x p. (ap (λ (r : List Token). token.Name (codes "integer") ∷ r) p.0, p.1))

  logical_sound : (ts : List Token) → IfSome (logical_at inner ts) (Begun (codes "logical") ts)
  unfolding logical_at
  logical_sound ts = then (selector_at inner ts) _ (AsSelector n ts) _ (selector_sound ts) (λ x p. (ap (λ (r : List Token). token.Name (codes "logical") ∷ r) p.0, p.1))

  character_sound : (ts : List Token) → IfSome (character_at inner ts) (Begun (codes "character") ts)
  unfolding character_at
  character_sound ts = chosen (open_at ts) _ _ (Behind mark.Open ts) (Begun (codes "character") ts) (open_sound ts) (refl, tt) (λ r i.
      then (params_at inner r) _ (AsParams n r) _ (params_sound r) (λ x p. (ap (λ (r : List Token). token.Name (codes "character") ∷ r) (i ∙ p.0), p.1)))

  abbrev inside : TypeOf → List Token → List Token
  inside (Derived name) rest = put mark.Open (token.Name name ∷ rest)
  inside _ rest = put mark.Open (put mark.Star rest)

  abbrev IsTypeName : TypeOf → Type 0
  IsTypeName (Derived name) = Unit {0}
  IsTypeName Assumed = Unit {0}
  IsTypeName _ = ⊥

  type_name_sound : (ts : List Token) → IfSome (type_name_at ts) (Begun (codes "type") ts)
  unfolding type_name_at derived_at
  type_name_sound ts =
      then (open_at ts) _ (Behind mark.Open ts) _ (open_sound ts) (λ r i.
      then (derived_at r) _ (λ x. (put mark.Open r ≡ inside x.0 x.1) × FitsType n x.0 × IsTypeName x.0) _ (derived r) (λ x p.
      then (closed_at x.1) _ (Behind mark.Close x.1) _ (closed_sound x.1) (λ rest c.
      (ap (λ (r : List Token). token.Name (codes "type") ∷ r) (i ∙ p.0 ∙ ap (inside x.0) c) ∙ whole x.0 rest p.2, p.1))))
    where
      derived : (r : List Token) → IfSome (derived_at r) (λ x. (put mark.Open r ≡ inside x.0 x.1) × FitsType n x.0 × IsTypeName x.0)
      derived r = chosen (name_at r) _ _ (IsName r) _ (name_sound r)
          (then (star_at r) _ (Behind mark.Star r) _ (star_sound r) (λ s i. (ap (put mark.Open) i, tt, tt)))
          (λ m i. (ap (put mark.Open) i, tt, tt))

      whole : (t : TypeOf) (rest : List Token) → IsTypeName t → token.Name (codes "type") ∷ inside t (put mark.Close rest) ≡ spell_type t rest
      whole (Derived name) rest i = refl
      whole Assumed rest i = refl
      whole (Integer k) rest i = absurd i
      whole (Logical k) rest i = absurd i
      whole (Character ps) rest i = absurd i

  typed_sound : (word : List ℕ) (ts : List Token) → IfSome (typed_by inner word ts) (Begun word ts)
  unfolding typed_by
  typed_sound word ts =
      tested (bytes_eq word (codes "integer")) _ _ (Begun word ts) (λ e. by (codes "integer") (integer_at inner ts) e (integer_sound ts)) (λ _.
      tested (bytes_eq word (codes "logical")) _ _ (Begun word ts) (λ e. by (codes "logical") (logical_at inner ts) e (logical_sound ts)) (λ _.
      tested (bytes_eq word (codes "character")) _ _ (Begun word ts) (λ e. by (codes "character") (character_at inner ts) e (character_sound ts)) (λ _.
      tested (bytes_eq word (codes "type")) _ _ (Begun word ts) (λ e. by (codes "type") (type_name_at ts) e (type_name_sound ts)) (λ _. tt))))
    where
      by : (w : List ℕ) (o : Option (TypeOf × List Token)) → bytes_eq word w ≡ true → IfSome o (Begun w ts) → IfSome o (Begun word ts)
      by w None e p = tt
      by w (Some x) e p = (ap (λ (w : List ℕ). token.Name w ∷ ts) ((bytes_eq-Decides word w).0 e) ∙ p.0, p.1)

  pub type_sound : (ts : List Token) → IfSome (type_at inner ts) (AsType n ts)
  unfolding type_at
  type_sound ts = then (name_at ts) _ (IsName ts) _ (name_sound ts) (λ m i. pick m i (typed_by inner m.0 m.1) (typed_sound m.0 m.1))
    where
      pick : (m : List ℕ × List Token) → IsName ts m → (o : Option (TypeOf × List Token)) → IfSome o (Begun m.0 m.1) → IfSome o (AsType n ts)
      pick m i None p = tt
      pick m i (Some x) p = (i ∙ p.0, p.1)

  items_sound : (ts : List Token) → IfSome (items_at inner ts) (IsRead n 0 (put mark.OpenBracket ts))
  unfolding items_at typed_items_at
  items_sound ts = tested (begins_typed ts) _ _ (IsRead n 0 (put mark.OpenBracket ts))
      (λ e. then (type_at inner ts) _ (AsType n ts) _ (type_sound ts) (λ t p.
      then (colons_at t.1) _ (Behind mark.DoubleColon t.1) _ (colons_sound t.1) (λ r c.
      then (args_at inner false r) _ (AsArgs n false r) _ (args_sound false r) (λ x q.
      (ap (put mark.OpenBracket) (p.0 ∙ ap (spell_type t.0) (c ∙ ap (put mark.DoubleColon) q.0)), (p.1, q.1))))))
      (λ e. then (args_at inner false ts) _ (AsArgs n false ts) _ (args_sound false ts) (λ x p. full x p))
    where
      full : (x : Args × List Token) → AsArgs n false ts x → IfSome (not_empty x) (IsRead n 0 (put mark.OpenBracket ts))
      full (no_args, r) p = tt
      full (arg a args, r) p = (ap (put mark.OpenBracket) p.0, (tt, p.1))

  pub primary_sound : (ts : List Token) → IfSome (primary_at inner ts) (IsRead n 0 ts)
  unfolding primary_at
  primary_sound (token.Number digits k ∷ ts) = (refl, tt)
  primary_sound (token.Truth value k ∷ ts) = (refl, tt)
  primary_sound (token.Text bytes k ∷ ts) = (refl, tt)
  primary_sound (token.Mark mark.Open ∷ ts) =
      then (inner ts) _ (IsInside n ts) _ (sound ts) (λ x p.
      then (closed_at x.1) _ (Behind mark.Close x.1) _ (closed_sound x.1) (λ r c.
      (ap (put mark.Open) (p.0 ∙ ap (spell x.0) c), paren_fits n 0 x.0 p.1)))
  primary_sound (token.Mark mark.OpenBracket ∷ ts) = items_sound ts
  primary_sound (token.Name name ∷ ts) =
      then (refer_at inner (token.Name name ∷ ts)) _ (AsRefer n (token.Name name ∷ ts)) _ (refer_sound (token.Name name ∷ ts)) (λ x p. p)
  primary_sound [] = tt
  primary_sound (_ ∷ ts) = tt

pub expr_sound : (n : ℕ) (ts : List Token) → IfSome (expr_at n ts) (IsInside n ts)
unfolding expr_at
expr_sound zero ts = tt
expr_sound (suc n) ts = level_sound (primary_at (expr_at n)) n (primary_sound (expr_at n) n (expr_sound n)) 9 ts
