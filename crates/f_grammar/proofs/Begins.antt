-- What tokens of a tree begin with, how many they are, and what may stand behind them.
use Rattle.std.proofs.Common.{◌≡◌, ℕ, zero, suc, ◌+◌, ◌≤◌, Bool, true, false, eqb, List, [], ◌∷◌, length, Option, Some, None, refl, arith}
use Rattle.std.specs.Prelude.{codes}
use Rattle.std.proofs.lemmas.Bool.{eqb-true}
use Rattle.f_lex.specs.declared.token.Mark.{Mark}
use Rattle.f_lex.specs.declared.token.Mark.TheVariants as mark
use Rattle.f_lex.specs.declared.token.Token.{Token}
use Rattle.f_lex.specs.declared.token.Token.TheVariants as token
use Rattle.f_grammar.specs.Grammar.{Expr, Number, Truth, Text, Ref, Paren, Array, Typed, Chain, Links, no_links, link, Refer, refer, Parts, no_parts, part, Part, named, Group, NoGroup, group, Range, NoRange, range, Args, no_args, arg, Arg, Value, Section, Strided, Maybe, Absent, Present, TypeOf, Integer, Logical, Character, Derived, Assumed, Selector, NoKind, kind, Params, NoParams, params, More, no_more, more, Param, Length, AnyLength, KindParam, height_of, sign_height, put, spell_sign, spell_key, spell_word, spell, spell_links, spell_refer, spell_parts, spell_part, spell_group, spell_range, spell_args, spell_others, spell_arg, spell_maybe, spell_stride, spell_type, spell_kind, spell_params, spell_mores, spell_param, count, Fits, FitsLinks, Within}
use Rattle.f_grammar.specs.Reading.{open_at, percent_at, colon_at, star_at, end_at, key_at, word_at, sign_at, link_at, begins_colon, ends_bound}
use Rattle.f_grammar.specs.Grammar.{Stops, EndsType, IsApart}
use Rattle.f_grammar.proofs.Sound.{ender}

-- ---- lengths

abbrev pub count_args : Args → ℕ
count_args no_args = 0
count_args (arg a args) = count_args args + 1

abbrev pub count_parts : Parts → ℕ
count_parts no_parts = 0
count_parts (part p ps) = count_parts ps + 1

abbrev pub count_mores : More → ℕ
count_mores no_more = 0
count_mores (more p ps) = count_mores ps + 1

grows_sign : (s : Option Mark) (rest : List Token) → length rest ≤ length (spell_sign s rest)
grows_sign None rest = omega arith
grows_sign (Some m) rest = omega arith

grows_key : (k : Option (List ℕ)) (rest : List Token) → length rest ≤ length (spell_key k rest)
grows_key None rest = omega arith
grows_key (Some k) rest = omega arith

grows_word : (w : List ℕ) (b : Bool) (rest : List Token) → length rest ≤ length (spell_word w b rest)
grows_word w true rest = omega arith
grows_word w false rest = omega arith

mutual
  pub grows : (e : Expr) (rest : List Token) → length rest ≤ length (spell e rest)
  grows (Number digits k) rest = omega arith
  grows (Truth value k) rest = omega arith
  grows (Text bytes k) rest = omega arith
  grows (Ref r) rest = grows_refer r rest
  grows (Paren e) rest = omega (arith, grows e (put mark.Close rest))
  grows (Array items) rest = omega (arith, grows_args items (put mark.CloseBracket rest))
  grows (Typed t items) rest = omega (arith, grows_type t (put mark.DoubleColon (spell_args items (put mark.CloseBracket rest))), grows_args items (put mark.CloseBracket rest))
  grows (Chain h sign first links) rest = omega (arith, grows_sign sign (spell first (spell_links links rest)), grows first (spell_links links rest), grows_links links rest)

  pub grows_links : (links : Links) (rest : List Token) → count links + length rest ≤ length (spell_links links rest)
  grows_links no_links rest = omega arith
  grows_links (link op e links) rest = omega (arith, grows e (spell_links links rest), grows_links links rest)

  pub grows_refer : (r : Refer) (rest : List Token) → length rest ≤ length (spell_refer r rest)
  grows_refer (refer p ps) rest = omega (arith, grows_part p (spell_parts ps rest), grows_parts ps rest)

  pub grows_parts : (ps : Parts) (rest : List Token) → count_parts ps + length rest ≤ length (spell_parts ps rest)
  grows_parts no_parts rest = omega arith
  grows_parts (part p ps) rest = omega (arith, grows_part p (spell_parts ps rest), grows_parts ps rest)

  grows_part : (p : Part) (rest : List Token) → length rest ≤ length (spell_part p rest)
  grows_part (named name g r) rest = omega (arith, grows_group g (spell_range r rest), grows_range r rest)

  grows_group : (g : Group) (rest : List Token) → length rest ≤ length (spell_group g rest)
  grows_group NoGroup rest = omega arith
  grows_group (group args) rest = omega (arith, grows_args args (put mark.Close rest))

  grows_range : (r : Range) (rest : List Token) → length rest ≤ length (spell_range r rest)
  grows_range NoRange rest = omega arith
  grows_range (range lower upper) rest = omega (arith, grows_maybe lower (put mark.Colon (spell_maybe upper (put mark.Close rest))), grows_maybe upper (put mark.Close rest))

  grows_args : (args : Args) (rest : List Token) → length rest ≤ length (spell_args args rest)
  grows_args no_args rest = omega arith
  grows_args (arg a args) rest = omega (arith, grows_arg a (spell_others args rest), grows_others args rest)

  pub grows_others : (args : Args) (rest : List Token) → count_args args + length rest ≤ length (spell_others args rest)
  grows_others no_args rest = omega arith
  grows_others (arg a args) rest = omega (arith, grows_arg a (spell_others args rest), grows_others args rest)

  grows_arg : (a : Arg) (rest : List Token) → length rest ≤ length (spell_arg a rest)
  grows_arg (Value keyword e) rest = omega (arith, grows_key keyword (spell e rest), grows e rest)
  grows_arg (Section lower upper stride) rest = omega (arith, grows_maybe lower (put mark.Colon (spell_maybe upper (spell_stride stride rest))), grows_maybe upper (spell_stride stride rest), grows_stride stride rest)
  grows_arg (Strided lower stride) rest = omega (arith, grows_maybe lower (put mark.DoubleColon (spell stride rest)), grows stride rest)

  grows_maybe : (m : Maybe) (rest : List Token) → length rest ≤ length (spell_maybe m rest)
  grows_maybe Absent rest = omega arith
  grows_maybe (Present e) rest = grows e rest

  grows_stride : (m : Maybe) (rest : List Token) → length rest ≤ length (spell_stride m rest)
  grows_stride Absent rest = omega arith
  grows_stride (Present e) rest = omega (arith, grows e rest)

  grows_type : (t : TypeOf) (rest : List Token) → length rest ≤ length (spell_type t rest)
  grows_type (Integer k) rest = omega (arith, grows_kind k rest)
  grows_type (Logical k) rest = omega (arith, grows_kind k rest)
  grows_type (Character ps) rest = omega (arith, grows_params ps rest)
  grows_type (Derived name) rest = omega arith
  grows_type Assumed rest = omega arith

  grows_kind : (k : Selector) (rest : List Token) → length rest ≤ length (spell_kind k rest)
  grows_kind NoKind rest = omega arith
  grows_kind (kind has_word e) rest = omega (arith, grows_word (codes "kind") has_word (spell e (put mark.Close rest)), grows e (put mark.Close rest))

  grows_params : (ps : Params) (rest : List Token) → length rest ≤ length (spell_params ps rest)
  grows_params NoParams rest = omega arith
  grows_params (params p ps) rest = omega (arith, grows_param p (spell_mores ps (put mark.Close rest)), grows_mores ps (put mark.Close rest))

  pub grows_mores : (ps : More) (rest : List Token) → count_mores ps + length rest ≤ length (spell_mores ps rest)
  grows_mores no_more rest = omega arith
  grows_mores (more p ps) rest = omega (arith, grows_param p (spell_mores ps rest), grows_mores ps rest)

  grows_param : (p : Param) (rest : List Token) → length rest ≤ length (spell_param p rest)
  grows_param (Length has_word e) rest = omega (arith, grows_word (codes "len") has_word (spell e rest), grows e rest)
  grows_param (AnyLength has_word) rest = omega (arith, grows_word (codes "len") has_word (put mark.Star rest))
  grows_param (KindParam has_word e) rest = omega (arith, grows_word (codes "kind") has_word (spell e rest), grows e rest)

-- ---- tests of numbers

pub no_test : (a b : ℕ) → (a ≡ b → ⊥) → eqb a b ≡ false
no_test a b ne = pick (eqb a b) refl
  where
    pick : (v : Bool) → eqb a b ≡ v → v ≡ false
    pick true e = absurd (ne (eqb-true a b e))
    pick false e = refl

-- ---- the marks that are operators and signs

abbrev IsStart : Mark → Type 0
IsStart mark.Open = Unit {0}
IsStart mark.OpenBracket = Unit {0}
IsStart mark.Plus = Unit {0}
IsStart mark.Minus = Unit {0}
IsStart mark.Not = Unit {0}
IsStart _ = ⊥

-- an expression can begin so
abbrev pub Starts : List Token → Type 0
Starts [] = ⊥
Starts (token.Mark m ∷ ts) = IsStart m
Starts (token.End ∷ ts) = ⊥
Starts (_ ∷ ts) = Unit {0}

sign_starts : (m : Mark) (k : ℕ) → sign_height m ≡ suc k → IsStart m
sign_starts mark.Plus k e = tt
sign_starts mark.Minus k e = tt
sign_starts mark.Not k e = tt
sign_starts _ k e = absurd (omega (arith, e))

pub starts : (n h : ℕ) (e : Expr) (rest : List Token) → Fits n h e → Starts (spell e rest)
starts n h (Number digits k) rest f = tt
starts n h (Truth value k) rest f = tt
starts n h (Text bytes k) rest f = tt
starts n h (Ref (refer (named name g r) ps)) rest f = tt
starts n h (Paren e) rest f = tt
starts n h (Array items) rest f = tt
starts n h (Typed t items) rest f = tt
starts n h (Chain k None first links) rest f = starts n k first (spell_links links rest) f.2
starts n h (Chain k (Some m) first links) rest f = sign_starts m k f.1

pub starts_within : (n : ℕ) (e : Expr) (rest : List Token) → Within n e → Starts (spell e rest)
starts_within zero e rest w = absurd w
starts_within (suc n) e rest w = starts n 9 e rest w

pub no_end : (in_call : Bool) (ts : List Token) → Starts ts → end_at in_call ts ≡ None
unfolding end_at
no_end true (token.Mark mark.Close ∷ ts) s = absurd s
no_end false (token.Mark mark.CloseBracket ∷ ts) s = absurd s
no_end true _ s = refl
no_end false _ s = refl

pub no_bound_end : (ts : List Token) → Starts ts → ends_bound ts ≡ false
unfolding ends_bound
no_bound_end (token.Mark mark.Colon ∷ ts) s = absurd s
no_bound_end (token.Mark mark.Comma ∷ ts) s = absurd s
no_bound_end (token.Mark mark.Close ∷ ts) s = absurd s
no_bound_end _ s = refl

pub no_colon : (ts : List Token) → Starts ts → begins_colon ts ≡ false
unfolding begins_colon
no_colon (token.Mark mark.Colon ∷ ts) s = absurd s
no_colon (token.Mark mark.DoubleColon ∷ ts) s = absurd s
no_colon _ s = refl

pub no_star : (ts : List Token) → Starts ts → star_at ts ≡ None
unfolding star_at
no_star (token.Mark mark.Star ∷ ts) s = absurd s
no_star _ s = refl

-- ---- signs

pub no_sign : (n h j : ℕ) (e : Expr) (rest : List Token) → Fits n h e → h ≤ j → sign_at j (spell e rest) ≡ (None, spell e rest)
unfolding sign_at
no_sign n h j (Number digits k) rest f le = refl
no_sign n h j (Truth value k) rest f le = refl
no_sign n h j (Text bytes k) rest f le = refl
no_sign n h j (Ref (refer (named name g r) ps)) rest f le = refl
no_sign n h j (Paren e) rest f le = rw (no_test 0 (suc j) (λ e. omega (arith, e))) refl
no_sign n h j (Array items) rest f le = rw (no_test 0 (suc j) (λ e. omega (arith, e))) refl
no_sign n h j (Typed t items) rest f le = rw (no_test 0 (suc j) (λ e. omega (arith, e))) refl
no_sign n h j (Chain i None first links) rest f le = no_sign n i j first (spell_links links rest) f.2 (omega (arith, f.0, le))
no_sign n h j (Chain i (Some m) first links) rest f le = rw (no_test (sign_height m) (suc j) (λ e. omega (arith, f.0, f.1, le, e))) refl

-- ---- keywords

apart_op : (op : Mark) (k : ℕ) (rest : List Token) → height_of op ≡ suc k → k ≤ 8 → IsApart (put op rest)
apart_op mark.Assign k rest e le = absurd (omega (arith, e, le))
apart_op _ k rest e le = tt

apart_links : (n k : ℕ) (links : Links) (rest : List Token) → FitsLinks n k links → k ≤ 8 → IsApart rest → IsApart (spell_links links rest)
apart_links n k no_links rest f le a = a
apart_links n k (link op e links) rest f le a = apart_op op k _ f.0 le

apart_parts : (ps : Parts) (rest : List Token) → IsApart rest → IsApart (spell_parts ps rest)
apart_parts no_parts rest a = a
apart_parts (part p ps) rest a = tt

apart_range : (r : Range) (rest : List Token) → IsApart rest → IsApart (spell_range r rest)
apart_range NoRange rest a = a
apart_range (range lower upper) rest a = tt

apart_group : (g : Group) (rest : List Token) → IsApart rest → IsApart (spell_group g rest)
apart_group NoGroup rest a = a
apart_group (group args) rest a = tt

no_key_name : (name : List ℕ) (rest : List Token) → IsApart rest → key_at (token.Name name ∷ rest) ≡ None
unfolding key_at
no_key_name name (token.Mark mark.Assign ∷ rest) a = absurd a
no_key_name name [] a = refl
no_key_name name (_ ∷ rest) a = refl

pub no_key : (n h : ℕ) (e : Expr) (rest : List Token) → Fits n h e → h ≤ 9 → IsApart rest → key_at (spell e rest) ≡ None
unfolding key_at
no_key n h (Number digits k) rest f le a = refl
no_key n h (Truth value k) rest f le a = refl
no_key n h (Text bytes k) rest f le a = refl
no_key n h (Ref (refer (named name g r) ps)) rest f le a = no_key_name name _ (apart_group g _ (apart_range r _ (apart_parts ps rest a)))
no_key n h (Paren e) rest f le a = refl
no_key n h (Array items) rest f le a = refl
no_key n h (Typed t items) rest f le a = refl
no_key n h (Chain k None first links) rest f le a = no_key n k first (spell_links links rest) f.2 (omega (arith, f.0, le)) (apart_links n k links rest f.3 (omega (arith, f.0, le)) a)
no_key n h (Chain k (Some m) first links) rest f le a = refl

pub no_key_within : (n : ℕ) (e : Expr) (rest : List Token) → Within n e → IsApart rest → key_at (spell e rest) ≡ None
no_key_within zero e rest w a = absurd w
no_key_within (suc n) e rest w a = no_key n 9 e rest w (omega arith) a

pub no_word : (word : List ℕ) (ts : List Token) → key_at ts ≡ None → word_at word ts ≡ None
unfolding word_at
no_word word ts e = rw e refl

-- ---- what stops

pub stops_lower : (h k : ℕ) (rest : List Token) → k ≤ h → Stops h rest → Stops k rest
stops_lower h k (token.Mark m ∷ ts) le s = omega (arith, s, le)
stops_lower h k [] le s = tt
stops_lower h k (_ ∷ ts) le s = tt

pub no_link : (h : ℕ) (rest : List Token) → Stops (suc h) rest → link_at h rest ≡ None
unfolding link_at
no_link h (token.Mark m ∷ ts) s = rw (no_test (height_of m) (suc h) (λ e. omega (arith, s, e))) refl
no_link h [] s = refl
no_link h (_ ∷ ts) s = refl

pub stops_links : (n h : ℕ) (links : Links) (rest : List Token) → FitsLinks n h links → Stops (suc h) rest → Stops h (spell_links links rest)
stops_links n h no_links rest f s = stops_lower (suc h) h rest (omega arith) s
stops_links n h (link op e links) rest f s = omega (arith, f.0)

pub no_percent : (rest : List Token) → Stops 0 rest → percent_at rest ≡ None
unfolding percent_at
no_percent (token.Mark mark.Percent ∷ ts) s = absurd (omega (arith, s))
no_percent _ s = refl

pub stops_open : (rest : List Token) → Stops 0 rest → EndsType rest
stops_open (token.Mark mark.Open ∷ ts) s = absurd (omega (arith, s))
stops_open _ s = tt

pub no_open : (rest : List Token) → EndsType rest → open_at rest ≡ None
unfolding open_at
no_open (token.Mark mark.Open ∷ ts) s = absurd s
no_open _ s = refl

pub parts_open : (ps : Parts) (rest : List Token) → Stops 0 rest → EndsType (spell_parts ps rest)
parts_open no_parts rest s = stops_open rest s
parts_open (part p ps) rest s = tt

-- behind an argument stands a comma or what ends the list
abbrev pub EndsArg : Bool → List Token → Type 0
EndsArg in_call (token.Mark mark.Comma ∷ ts) = Unit {0}
EndsArg true (token.Mark mark.Close ∷ ts) = Unit {0}
EndsArg false (token.Mark mark.CloseBracket ∷ ts) = Unit {0}
EndsArg in_call _ = ⊥

pub others_end : (in_call : Bool) (args : Args) (rest : List Token) → EndsArg in_call (spell_others args (put (ender in_call) rest))
others_end true no_args rest = tt
others_end false no_args rest = tt
others_end true (arg a args) rest = tt
others_end false (arg a args) rest = tt

pub record Ended (rest : List Token) : Type 0 where
  pub stops : Stops 9 rest
  pub apart : IsApart rest
  pub no_colon : begins_colon rest ≡ false
  pub no_single : colon_at rest ≡ None

pub ended : (in_call : Bool) (rest : List Token) → EndsArg in_call rest → Ended rest
unfolding begins_colon colon_at
ended in_call (token.Mark mark.Comma ∷ ts) e = record { stops = omega arith; apart = tt; no_colon = refl; no_single = refl }
ended true (token.Mark mark.Close ∷ ts) e = record { stops = omega arith; apart = tt; no_colon = refl; no_single = refl }
ended false (token.Mark mark.CloseBracket ∷ ts) e = record { stops = omega arith; apart = tt; no_colon = refl; no_single = refl }
ended true _ e = absurd e
ended false _ e = absurd e

pub bound_ends : (rest : List Token) → EndsArg true rest → ends_bound rest ≡ true
unfolding ends_bound
bound_ends (token.Mark mark.Comma ∷ ts) e = refl
bound_ends (token.Mark mark.Close ∷ ts) e = refl
bound_ends _ e = absurd e
