-- Each step of reading, where its parts are read.
use Rattle.std.proofs.Common.{◌≡◌, ℕ, zero, suc, ◌≤◌, Bool, true, false, cond, eqb, List, ◌∷◌, length, Option, Some, None, refl, ap, subst, ◌∙◌, arith, ⊎_elim}
use Rattle.std.specs.Prelude.{codes}
use Rattle.std.specs.Str.{bytes_eq}
use Rattle.std.proofs.lemmas.Bool.{eqb-true, eq-eqb, cases_lt}
use Rattle.f_lex.specs.declared.token.Kind.{Kind}
use Rattle.f_lex.specs.declared.token.Mark.{Mark}
use Rattle.f_lex.specs.declared.token.Mark.TheVariants as mark
use Rattle.f_lex.specs.declared.token.Token.{Token}
use Rattle.f_lex.specs.declared.token.Token.TheVariants as token
use Rattle.f_grammar.specs.Grammar.{Expr, Number, Truth, Text, Ref, Paren, Array, Typed, Chain, Links, no_links, link, Refer, refer, Parts, no_parts, part, Part, named, NoGroup, group, Range, NoRange, range, Args, no_args, arg, Arg, Value, Section, Strided, Maybe, Absent, Present, TypeOf, Integer, Logical, Character, Derived, Assumed, Selector, NoKind, kind, NoParams, params, More, no_more, more, Param, Length, AnyLength, KindParam, height_of, sign_height, put, spell_sign, spell_word, spell, spell_links, spell_refer, IsChain, IsSign, IsKey, IsLength, IsKind, Fits, FitsArg, FitsMaybe, FitsKind, FitsParam, Within}
use Rattle.f_grammar.specs.Reading.{Reader, open_at, closed_at, comma_at, percent_at, colon_at, colons_at, star_at, name_at, end_at, key_at, word_at, sign_at, link_at, begins_colon, ends_bound, begins_typed, links_at, most_links, chain, level_at, upper_at, stride_at, section_at, behind_first, subscript_at, arg_at, others_at, args_at, lower_at, range_at, substring_at, behind_name, part_at, parts_at, refer_at, worded, kind_at, selector_at, length_at, bare_param_at, param_at, mores_at, params_at, character_at, derived_at, type_name_at, integer_at, logical_at, typed_by, type_at, typed_items_at, items_at, primary_at, expr_at}
use Rattle.f_grammar.specs.Grammar.{Stops, IsApart}
use Rattle.f_grammar.proofs.Sound.{ender}
use Rattle.std.proofs.lemmas.Slice.Eq.{bytes_eq-Decides}
use Rattle.f_grammar.proofs.Begins.{no_sign, no_key_within, no_word, stops_lower, no_link}

-- ---- single tokens

pub end_again : (in_call : Bool) (rest : List Token) → end_at in_call (put (ender in_call) rest) ≡ Some rest
unfolding end_at
end_again true rest = refl
end_again false rest = refl

pub no_comma_end : (in_call : Bool) (rest : List Token) → comma_at (put (ender in_call) rest) ≡ None
unfolding comma_at
no_comma_end true rest = refl
no_comma_end false rest = refl

pub same_word : (w : List ℕ) → bytes_eq w w ≡ true
same_word w = (bytes_eq-Decides w w).1 refl

pub word_again : (word : List ℕ) (rest : List Token) → word_at word (token.Name word ∷ put mark.Assign rest) ≡ Some rest
unfolding word_at key_at
word_again word rest = rw (same_word word) refl

pub other_word : (word other : List ℕ) (rest : List Token) → bytes_eq other word ≡ false → word_at word (token.Name other ∷ put mark.Assign rest) ≡ None
unfolding word_at key_at
other_word word other rest e = rw e refl

-- ---- what fits, by its parts

pub value_within : (n : ℕ) (in_call : Bool) (keyword : Option (List ℕ)) (e : Expr) → FitsArg n in_call (Value keyword e) → IsKey in_call keyword × Within n e
value_within zero in_call keyword e f = absurd f
value_within (suc n) in_call keyword e f = f

pub strided_within : (n : ℕ) (in_call : Bool) (lower : Maybe) (e : Expr) → FitsArg n in_call (Strided lower e) → (in_call ≡ true) × FitsMaybe n lower × Within n e
strided_within zero in_call lower e f = absurd f
strided_within (suc n) in_call lower e f = f

pub maybe_within : (n : ℕ) (e : Expr) → FitsMaybe n (Present e) → Within n e
maybe_within zero e f = absurd f
maybe_within (suc n) e f = f

pub kind_within : (n : ℕ) (has_word : Bool) (e : Expr) → FitsKind n (kind has_word e) → Within n e
kind_within zero has_word e f = absurd f
kind_within (suc n) has_word e f = f

pub length_within : (n : ℕ) (is_first has_word : Bool) (e : Expr) → FitsParam n is_first (Length has_word e) → IsLength is_first has_word × Within n e
length_within zero is_first has_word e f = absurd f
length_within (suc n) is_first has_word e f = f

pub kind_param_within : (n : ℕ) (is_first has_word : Bool) (e : Expr) → FitsParam n is_first (KindParam has_word e) → IsKind is_first has_word × Within n e
kind_param_within zero is_first has_word e f = absurd f
kind_param_within (suc n) is_first has_word e f = f

-- ---- steps of chains

pub link_stop : (lower : Reader) (h m : ℕ) (ts : List Token) → link_at h ts ≡ None → links_at lower h m ts ≡ Some (no_links, ts)
unfolding links_at
link_stop lower h zero ts e = refl
link_stop lower h (suc m) ts e = rw e refl

pub link_step : (lower : Reader) (h m : ℕ) (ts r r' rest : List Token) (op : Mark) (e : Expr) (links : Links) → link_at h ts ≡ Some (op, r) → lower r ≡ Some (e, r') → links_at lower h m r' ≡ Some (links, rest) → links_at lower h (suc m) ts ≡ Some (link op e links, rest)
unfolding links_at
link_step lower h m ts r r' rest op e links e1 e2 e3 = rw (e1, e2, e3) refl

pub chain_step : (lowest : Reader) (h : ℕ) (ts ts1 ts2 rest : List Token) (sign : Option Mark) (first : Expr) (links : Links) → sign_at h ts ≡ (sign, ts1) → level_at lowest h ts1 ≡ Some (first, ts2)
    → links_at (level_at lowest h) h (most_links h ts2) ts2 ≡ Some (links, rest) → level_at lowest (suc h) ts ≡ Some (chain h sign first links, rest)
unfolding level_at
chain_step lowest h ts ts1 ts2 rest sign first links e1 e2 e3 = rw (e1, e2, e3) refl

-- what a height reads, a greater one reads too
pub lift : (lowest : Reader) (k h : ℕ) (e : Expr) (ts rest : List Token) → ((j : ℕ) → k ≤ j → sign_at j ts ≡ (None, ts)) → level_at lowest k ts ≡ Some (e, rest) → k ≤ h → Stops h rest → level_at lowest h ts ≡ Some (e, rest)
lift lowest k zero t ts rest none e le s = let z : k ≡ 0 = omega arith in subst (λ j. level_at lowest j ts ≡ Some (t, rest)) z e
lift lowest k (suc h) t ts rest none e le s =
    ⊎_elim
    (λ lt. let low : k ≤ h = omega (arith, lt) in
    chain_step lowest h ts ts rest rest None t no_links (none h low) (lift lowest k h t ts rest none e low (stops_lower (suc h) h rest (omega arith) s)) (link_stop (level_at lowest h) h (most_links h rest) rest (no_link h rest s)))
    (λ ge. let z : k ≡ suc h = omega (arith, ge, le) in subst (λ j. level_at lowest j ts ≡ Some (t, rest)) z e)
    (cases_lt k (suc h))

pub sign_again : (n h : ℕ) (sign : Option Mark) (first : Expr) (rest : List Token) → IsSign h sign → Fits n h first → sign_at h (spell_sign sign (spell first rest)) ≡ (sign, spell first rest)
unfolding sign_at
sign_again n h None first rest s f = no_sign n h h first rest f (omega arith)
sign_again n h (Some m) first rest s f = rw (eq-eqb (sign_height m) (suc h) s) refl

pub link_again : (h : ℕ) (op : Mark) (rest : List Token) → height_of op ≡ suc h → link_at h (put op rest) ≡ Some (op, rest)
unfolding link_at
link_again h op rest e = rw (eq-eqb (height_of op) (suc h) e) refl

pub chain_is : (h : ℕ) (sign : Option Mark) (first : Expr) (links : Links) → IsChain sign links → chain h sign first links ≡ Chain h sign first links
chain_is h None first no_links c = absurd c
chain_is h None first (link op e links) c = refl
chain_is h (Some m) first no_links c = refl
chain_is h (Some m) first (link op e links) c = refl

pub enough : (h c : ℕ) (ts : List Token) → c ≤ length ts → (h ≡ 4 → c ≤ 1) → c ≤ most_links h ts
enough h c ts le one = pick (eqb h 4) refl
  where
    pick : (b : Bool) → eqb h 4 ≡ b → c ≤ cond b 1 (length ts)
    pick true e = one (eqb-true h 4 e)
    pick false e = le

pub chain_again : (lowest : Reader) (n k : ℕ) (sign : Option Mark) (first : Expr) (links : Links) (rest : List Token) → IsSign k sign → Fits n k first → IsChain sign links
    → level_at lowest k (spell first (spell_links links rest)) ≡ Some (first, spell_links links rest)
    → links_at (level_at lowest k) k (most_links k (spell_links links rest)) (spell_links links rest) ≡ Some (links, rest)
    → level_at lowest (suc k) (spell (Chain k sign first links) rest) ≡ Some (Chain k sign first links, rest)
chain_again lowest n k sign first links rest s f c e1 e2 =
    let is = chain_is k sign first links c in
    chain_step lowest k _ _ _ rest sign first links (sign_again n k sign first (spell_links links rest) s f) e1 e2
    ∙ ap (λ (t : Expr). Some (t, rest)) is

-- ---- steps of arguments

pub upper_stop : (inner : Reader) (ts : List Token) → ends_bound ts ≡ true → upper_at inner ts ≡ Some (Absent, ts)
unfolding upper_at
upper_stop inner ts e = rw e refl

pub upper_step : (inner : Reader) (ts rest : List Token) (e : Expr) → ends_bound ts ≡ false → inner ts ≡ Some (e, rest) → upper_at inner ts ≡ Some (Present e, rest)
unfolding upper_at
upper_step inner ts rest e e1 e2 = rw (e1, e2) refl

pub lower_step : (inner : Reader) (ts rest : List Token) (e : Expr) → begins_colon ts ≡ false → inner ts ≡ Some (e, rest) → lower_at inner ts ≡ Some (Present e, rest)
unfolding lower_at
lower_step inner ts rest e e1 e2 = rw (e1, e2) refl

pub lower_stop : (inner : Reader) (ts : List Token) → lower_at inner (put mark.Colon ts) ≡ Some (Absent, put mark.Colon ts)
unfolding lower_at begins_colon
lower_stop inner ts = refl

pub stride_stop : (inner : Reader) (ts : List Token) → colon_at ts ≡ None → stride_at inner ts ≡ Some (Absent, ts)
unfolding stride_at
stride_stop inner ts e = rw e refl

pub stride_step : (inner : Reader) (ts rest : List Token) (e : Expr) → inner ts ≡ Some (e, rest) → stride_at inner (put mark.Colon ts) ≡ Some (Present e, rest)
unfolding stride_at colon_at
stride_step inner ts rest e e1 = rw e1 refl

pub section_step : (inner : Reader) (lower upper stride : Maybe) (ts r rest : List Token) → upper_at inner ts ≡ Some (upper, r) → stride_at inner r ≡ Some (stride, rest) → section_at inner lower (put mark.Colon ts) ≡ Some (Section lower upper stride, rest)
unfolding section_at colons_at colon_at
section_step inner lower upper stride ts r rest e1 e2 = rw (e1, e2) refl

pub strided_step : (inner : Reader) (lower : Maybe) (ts rest : List Token) (e : Expr) → inner ts ≡ Some (e, rest) → section_at inner lower (put mark.DoubleColon ts) ≡ Some (Strided lower e, rest)
unfolding section_at colons_at
strided_step inner lower ts rest e e1 = rw e1 refl

-- a triplet whose first bound stands there
pub bounded_step : (inner : Reader) (ts r : List Token) (e : Expr) (a : Arg) (rest : List Token) → begins_colon ts ≡ false → inner ts ≡ Some (e, r) → begins_colon r ≡ true → section_at inner (Present e) r ≡ Some (a, rest) → subscript_at inner ts ≡ Some (a, rest)
unfolding subscript_at behind_first
bounded_step inner ts r e a rest e1 e2 e3 e4 = rw (e1, e2, e3, e4) refl

pub unbounded_step : (inner : Reader) (ts : List Token) (a : Arg) (rest : List Token) → begins_colon ts ≡ true → section_at inner Absent ts ≡ Some (a, rest) → subscript_at inner ts ≡ Some (a, rest)
unfolding subscript_at
unbounded_step inner ts a rest e1 e2 = rw (e1, e2) refl

pub plain_step : (inner : Reader) (ts rest : List Token) (e : Expr) → begins_colon ts ≡ false → inner ts ≡ Some (e, rest) → begins_colon rest ≡ false → subscript_at inner ts ≡ Some (Value None e, rest)
unfolding subscript_at behind_first
plain_step inner ts rest e e1 e2 e3 = rw (e1, e2, e3) refl

pub subscript_step : (inner : Reader) (ts : List Token) (a : Arg) (rest : List Token) → key_at ts ≡ None → subscript_at inner ts ≡ Some (a, rest) → arg_at inner true ts ≡ Some (a, rest)
unfolding arg_at
subscript_step inner ts a rest e1 e2 = rw (e1, e2) refl

pub keyed_step : (inner : Reader) (name : List ℕ) (ts rest : List Token) (e : Expr) → inner ts ≡ Some (e, rest) → arg_at inner true (token.Name name ∷ put mark.Assign ts) ≡ Some (Value (Some name) e, rest)
unfolding arg_at key_at
keyed_step inner name ts rest e e1 = rw e1 refl

pub item_step : (inner : Reader) (ts rest : List Token) (e : Expr) → inner ts ≡ Some (e, rest) → arg_at inner false ts ≡ Some (Value None e, rest)
unfolding arg_at
item_step inner ts rest e e1 = rw e1 refl

pub others_stop : (inner : Reader) (in_call : Bool) (m : ℕ) (ts : List Token) → comma_at ts ≡ None → others_at inner in_call m ts ≡ Some (no_args, ts)
unfolding others_at
others_stop inner in_call zero ts e = refl
others_stop inner in_call (suc m) ts e = rw e refl

pub others_step : (inner : Reader) (in_call : Bool) (m : ℕ) (ts r rest : List Token) (a : Arg) (args : Args) → arg_at inner in_call ts ≡ Some (a, r) → others_at inner in_call m r ≡ Some (args, rest) → others_at inner in_call (suc m) (put mark.Comma ts) ≡ Some (arg a args, rest)
unfolding others_at comma_at
others_step inner in_call m ts r rest a args e1 e2 = rw (e1, e2) refl

pub args_none : (inner : Reader) (in_call : Bool) (rest : List Token) → args_at inner in_call (put (ender in_call) rest) ≡ Some (no_args, rest)
unfolding args_at
args_none inner in_call rest = rw (end_again in_call rest) refl

pub args_step : (inner : Reader) (in_call : Bool) (ts r rest : List Token) (a : Arg) (args : Args) → end_at in_call ts ≡ None → arg_at inner in_call ts ≡ Some (a, r) → others_at inner in_call (length r) r ≡ Some (args, put (ender in_call) rest) → args_at inner in_call ts ≡ Some (arg a args, rest)
unfolding args_at
args_step inner in_call ts r rest a args e1 e2 e3 = rw (e1, e2, e3, end_again in_call rest) refl

-- ---- steps of references

pub range_step : (inner : Reader) (ts r u rest : List Token) (lower upper : Maybe) → lower_at inner ts ≡ Some (lower, put mark.Colon r) → upper_at inner r ≡ Some (upper, put mark.Close rest) → substring_at inner (put mark.Open ts) ≡ Some (range lower upper, rest)
unfolding substring_at range_at open_at colon_at closed_at
range_step inner ts r u rest lower upper e1 e2 = rw (e1, e2) refl

pub range_stop : (inner : Reader) (ts : List Token) → open_at ts ≡ None → substring_at inner ts ≡ Some (NoRange, ts)
unfolding substring_at
range_stop inner ts e = rw e refl

pub plain_part : (inner : Reader) (name : List ℕ) (ts : List Token) → open_at ts ≡ None → part_at inner (token.Name name ∷ ts) ≡ Some (named name NoGroup NoRange, ts)
unfolding part_at name_at behind_name
plain_part inner name ts e = rw e refl

pub group_part : (inner : Reader) (name : List ℕ) (ts r rest : List Token) (args : Args) (s : Range) → args_at inner true ts ≡ Some (args, r) → substring_at inner r ≡ Some (s, rest) → part_at inner (token.Name name ∷ put mark.Open ts) ≡ Some (named name (group args) s, rest)
unfolding part_at name_at behind_name open_at
group_part inner name ts r rest args s e1 e2 = rw (e1, e2) refl

pub parts_stop : (inner : Reader) (m : ℕ) (ts : List Token) → percent_at ts ≡ None → parts_at inner m ts ≡ Some (no_parts, ts)
unfolding parts_at
parts_stop inner zero ts e = refl
parts_stop inner (suc m) ts e = rw e refl

pub parts_step : (inner : Reader) (m : ℕ) (ts r rest : List Token) (p : Part) (ps : Parts) → part_at inner ts ≡ Some (p, r) → parts_at inner m r ≡ Some (ps, rest) → parts_at inner (suc m) (put mark.Percent ts) ≡ Some (part p ps, rest)
unfolding parts_at percent_at
parts_step inner m ts r rest p ps e1 e2 = rw (e1, e2) refl

pub refer_step : (inner : Reader) (ts r rest : List Token) (p : Part) (ps : Parts) → part_at inner ts ≡ Some (p, r) → parts_at inner (length r) r ≡ Some (ps, rest) → refer_at inner ts ≡ Some (refer p ps, rest)
unfolding refer_at
refer_step inner ts r rest p ps e1 e2 = rw (e1, e2) refl

-- ---- steps of types

pub worded_again : (n : ℕ) (word : List ℕ) (has_word : Bool) (e : Expr) (rest : List Token) → Within n e → IsApart rest → worded word (spell_word word has_word (spell e rest)) ≡ (has_word, spell e rest)
worded_again n word true e rest w a = rw (word_again word (spell e rest)) refl
worded_again n word false e rest w a = rw (no_word word (spell e rest) (no_key_within n e rest w a)) refl

pub selector_stop : (inner : Reader) (ts : List Token) → open_at ts ≡ None → selector_at inner ts ≡ Some (NoKind, ts)
unfolding selector_at
selector_stop inner ts e = rw e refl

pub selector_step : (inner : Reader) (ts r rest : List Token) (has_word : Bool) (e : Expr) → worded (codes "kind") ts ≡ (has_word, r) → inner r ≡ Some (e, put mark.Close rest) → selector_at inner (put mark.Open ts) ≡ Some (kind has_word e, rest)
unfolding selector_at kind_at open_at closed_at
selector_step inner ts r rest has_word e e1 e2 = rw (e1, e2) refl

pub length_step : (inner : Reader) (has_word : Bool) (ts rest : List Token) (e : Expr) → star_at ts ≡ None → inner ts ≡ Some (e, rest) → length_at inner has_word ts ≡ Some (Length has_word e, rest)
unfolding length_at
length_step inner has_word ts rest e e1 e2 = rw (e1, e2) refl

pub star_step : (inner : Reader) (has_word : Bool) (ts : List Token) → length_at inner has_word (put mark.Star ts) ≡ Some (AnyLength has_word, ts)
unfolding length_at star_at
star_step inner has_word ts = refl

pub len_step : (inner : Reader) (is_first : Bool) (ts rest : List Token) (p : Param) → length_at inner true ts ≡ Some (p, rest) → param_at inner is_first (token.Name (codes "len") ∷ put mark.Assign ts) ≡ Some (p, rest)
unfolding param_at
len_step inner is_first ts rest p e = rw (word_again (codes "len") ts) e

pub kind_step : (inner : Reader) (is_first : Bool) (ts rest : List Token) (e : Expr) → inner ts ≡ Some (e, rest) → param_at inner is_first (token.Name (codes "kind") ∷ put mark.Assign ts) ≡ Some (KindParam true e, rest)
unfolding param_at
kind_step inner is_first ts rest e e1 = rw (other_word (codes "len") (codes "kind") ts refl, word_again (codes "kind") ts, e1) refl

pub bare_step : (inner : Reader) (is_first : Bool) (ts rest : List Token) (p : Param) → key_at ts ≡ None → bare_param_at inner is_first ts ≡ Some (p, rest) → param_at inner is_first ts ≡ Some (p, rest)
unfolding param_at
bare_step inner is_first ts rest p e1 e2 = rw (no_word (codes "len") ts e1, no_word (codes "kind") ts e1) e2

pub bare_kind : (inner : Reader) (ts rest : List Token) (e : Expr) → inner ts ≡ Some (e, rest) → bare_param_at inner false ts ≡ Some (KindParam false e, rest)
unfolding bare_param_at
bare_kind inner ts rest e e1 = rw e1 refl

pub bare_length : (inner : Reader) (ts rest : List Token) (p : Param) → length_at inner false ts ≡ Some (p, rest) → bare_param_at inner true ts ≡ Some (p, rest)
unfolding bare_param_at
bare_length inner ts rest p e1 = e1

pub mores_stop : (inner : Reader) (m : ℕ) (ts : List Token) → comma_at ts ≡ None → mores_at inner m ts ≡ Some (no_more, ts)
unfolding mores_at
mores_stop inner zero ts e = refl
mores_stop inner (suc m) ts e = rw e refl

pub mores_step : (inner : Reader) (m : ℕ) (ts r rest : List Token) (p : Param) (ps : More) → param_at inner false ts ≡ Some (p, r) → mores_at inner m r ≡ Some (ps, rest) → mores_at inner (suc m) (put mark.Comma ts) ≡ Some (more p ps, rest)
unfolding mores_at comma_at
mores_step inner m ts r rest p ps e1 e2 = rw (e1, e2) refl

pub params_step : (inner : Reader) (ts r rest : List Token) (p : Param) (ps : More) → param_at inner true ts ≡ Some (p, r) → mores_at inner (length r) r ≡ Some (ps, put mark.Close rest) → character_at inner (put mark.Open ts) ≡ Some (Character (params p ps), rest)
unfolding character_at open_at params_at closed_at
params_step inner ts r rest p ps e1 e2 = rw (e1, e2) refl

pub params_stop : (inner : Reader) (ts : List Token) → open_at ts ≡ None → character_at inner ts ≡ Some (Character NoParams, ts)
unfolding character_at
params_stop inner ts e = rw e refl

pub integer_again : (inner : Reader) (ts rest : List Token) (k : Selector) → selector_at inner ts ≡ Some (k, rest) → type_at inner (token.Name (codes "integer") ∷ ts) ≡ Some (Integer k, rest)
unfolding type_at name_at typed_by integer_at
integer_again inner ts rest k e = rw e refl

pub logical_again : (inner : Reader) (ts rest : List Token) (k : Selector) → selector_at inner ts ≡ Some (k, rest) → type_at inner (token.Name (codes "logical") ∷ ts) ≡ Some (Logical k, rest)
unfolding type_at name_at typed_by logical_at
logical_again inner ts rest k e = rw e refl

pub character_again : (inner : Reader) (ts rest : List Token) (t : TypeOf) → character_at inner ts ≡ Some (t, rest) → type_at inner (token.Name (codes "character") ∷ ts) ≡ Some (t, rest)
unfolding type_at name_at typed_by
character_again inner ts rest t e = e

pub derived_again : (inner : Reader) (name : List ℕ) (rest : List Token) → type_at inner (token.Name (codes "type") ∷ put mark.Open (token.Name name ∷ put mark.Close rest)) ≡ Some (Derived name, rest)
unfolding type_at name_at typed_by type_name_at derived_at open_at closed_at
derived_again inner name rest = refl

pub assumed_again : (inner : Reader) (rest : List Token) → type_at inner (token.Name (codes "type") ∷ put mark.Open (put mark.Star (put mark.Close rest))) ≡ Some (Assumed, rest)
unfolding type_at name_at typed_by type_name_at derived_at open_at closed_at star_at
assumed_again inner rest = refl

-- ---- steps of primaries

pub refer_again_step : (inner : Reader) (r : Refer) (rest : List Token) → refer_at inner (spell_refer r rest) ≡ Some (r, rest) → primary_at inner (spell (Ref r) rest) ≡ Some (Ref r, rest)
unfolding primary_at
refer_again_step inner (refer (named name g s) ps) rest e = rw e refl

pub paren_again : (inner : Reader) (ts rest : List Token) (e : Expr) → inner ts ≡ Some (e, put mark.Close rest) → primary_at inner (put mark.Open ts) ≡ Some (Paren e, rest)
unfolding primary_at closed_at
paren_again inner ts rest e h = rw h refl

pub array_again : (inner : Reader) (ts rest : List Token) (a : Arg) (args : Args) → begins_typed ts ≡ false → args_at inner false ts ≡ Some (arg a args, rest) → primary_at inner (put mark.OpenBracket ts) ≡ Some (Array (arg a args), rest)
unfolding primary_at items_at
array_again inner ts rest a args e1 e2 = rw (e1, e2) refl

pub typed_again : (inner : Reader) (ts r rest : List Token) (t : TypeOf) (args : Args) → begins_typed ts ≡ true → type_at inner ts ≡ Some (t, put mark.DoubleColon r) → args_at inner false r ≡ Some (args, rest) → primary_at inner (put mark.OpenBracket ts) ≡ Some (Typed t args, rest)
unfolding primary_at items_at typed_items_at colons_at
typed_again inner ts r rest t args e1 e2 e3 = rw (e1, e2, e3) refl

pub literal_number : (inner : Reader) (digits : List ℕ) (k : Option Kind) (rest : List Token) → primary_at inner (token.Number digits k ∷ rest) ≡ Some (Number digits k, rest)
unfolding primary_at
literal_number inner digits k rest = refl

pub literal_truth : (inner : Reader) (value : Bool) (k : Option Kind) (rest : List Token) → primary_at inner (token.Truth value k ∷ rest) ≡ Some (Truth value k, rest)
unfolding primary_at
literal_truth inner value k rest = refl

pub literal_text : (inner : Reader) (bytes : List ℕ) (k : Option Kind) (rest : List Token) → primary_at inner (token.Text bytes k ∷ rest) ≡ Some (Text bytes k, rest)
unfolding primary_at
literal_text inner bytes k rest = refl

-- a primary is read at each height
pub low : (lowest : Reader) (n h : ℕ) (e : Expr) (rest : List Token) → Fits n 0 e → Stops h rest → lowest (spell e rest) ≡ Some (e, rest) → level_at lowest h (spell e rest) ≡ Some (e, rest)
unfolding level_at
low lowest n h e rest f s r = lift lowest 0 h e (spell e rest) rest (λ j le. no_sign n 0 j e rest f le) r (omega arith) s

-- what is read at height 9 of the expressions within one nesting less is read
pub inside : (e : Expr) (n : ℕ) (rest : List Token) → ((m : ℕ) → Fits m 9 e → level_at (primary_at (expr_at m)) 9 (spell e rest) ≡ Some (e, rest)) → Within n e → expr_at n (spell e rest) ≡ Some (e, rest)
unfolding expr_at
inside e zero rest again w = absurd w
inside e (suc n) rest again w = again n w
