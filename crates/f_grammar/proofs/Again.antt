-- What fits and is spelled before a rest that doesn't go on with it is read.
use Rattle.std.proofs.Common.{◌≡◌, ℕ, zero, suc, ◌≤◌, Bool, true, false, List, ◌∷◌, length, Some, None, refl, sym, ap, ◌∙◌, arith}
use Rattle.std.specs.Prelude.{codes}
use Rattle.f_lex.specs.declared.token.Mark.TheVariants as mark
use Rattle.f_lex.specs.declared.token.Token.{Token}
use Rattle.f_lex.specs.declared.token.Token.TheVariants as token
use Rattle.f_grammar.specs.Grammar.{Expr, Number, Truth, Text, Ref, Paren, Array, Typed, Chain, Links, no_links, link, Refer, refer, Parts, no_parts, part, Part, named, NoGroup, group, NoRange, range, Args, no_args, arg, Arg, Value, Section, Strided, Maybe, Absent, Present, TypeOf, Integer, Logical, Character, Derived, Assumed, Selector, NoKind, kind, Params, NoParams, params, More, no_more, more, Param, Length, AnyLength, KindParam, put, spell, spell_links, spell_refer, spell_parts, spell_part, spell_args, spell_others, spell_arg, spell_maybe, spell_stride, spell_type, spell_kind, spell_params, spell_mores, spell_param, count, Fits, FitsLinks, FitsRefer, FitsParts, FitsPart, FitsArgs, FitsArg, FitsMaybe, FitsType, FitsKind, FitsParams, FitsMores, FitsParam, Within}
use Rattle.f_grammar.specs.Reading.{Read, end_at, key_at, begins_colon, ends_bound, links_at, most_links, level_at, upper_at, stride_at, arg_at, others_at, args_at, lower_at, part_at, parts_at, refer_at, selector_at, param_at, mores_at, character_at, type_at, primary_at, expr_at}
use Rattle.f_grammar.specs.Grammar.{Stops, EndsType}
use Rattle.f_grammar.proofs.Sound.{ender}
use Rattle.f_grammar.proofs.Begins.{count_args, count_parts, count_mores, grows_links, grows_parts, grows_others, grows_mores, starts_within, no_end, no_bound_end, no_colon, no_star, no_sign, no_key_within, stops_lower, no_link, stops_links, no_percent, no_open, parts_open, EndsArg, others_end, ended}
use Rattle.f_grammar.proofs.Closed.{no_typed_items, begins_types}
use Rattle.f_grammar.proofs.Steps.{no_comma_end, value_within, strided_within, maybe_within, kind_within, length_within, kind_param_within, link_stop, link_step, lift, link_again, enough, chain_again, upper_stop, upper_step, lower_step, lower_stop, stride_stop, stride_step, section_step, strided_step, bounded_step, unbounded_step, plain_step, subscript_step, keyed_step, item_step, others_stop, others_step, args_none, args_step, range_step, range_stop, plain_part, group_part, parts_stop, parts_step, refer_step, worded_again, selector_stop, selector_step, length_step, star_step, len_step, kind_step, bare_step, bare_kind, bare_length, mores_stop, mores_step, params_step, params_stop, integer_again, logical_again, character_again, derived_again, assumed_again, refer_again_step, paren_again, array_again, typed_again, literal_number, literal_truth, literal_text, low, inside}

-- ---- what ends a bound, and what a colon isn't

abbrev pub EndsBound : List Token → Type 0
EndsBound (token.Mark mark.Colon ∷ ts) = Unit {0}
EndsBound (token.Mark mark.Comma ∷ ts) = Unit {0}
EndsBound (token.Mark mark.Close ∷ ts) = Unit {0}
EndsBound _ = ⊥

bound_is_ended : (rest : List Token) → EndsBound rest → ends_bound rest ≡ true
unfolding ends_bound
bound_is_ended (token.Mark mark.Colon ∷ ts) e = refl
bound_is_ended (token.Mark mark.Comma ∷ ts) e = refl
bound_is_ended (token.Mark mark.Close ∷ ts) e = refl
bound_is_ended _ e = absurd e

bound_stops : (rest : List Token) → EndsBound rest → Stops 9 rest
bound_stops (token.Mark mark.Colon ∷ ts) e = omega arith
bound_stops (token.Mark mark.Comma ∷ ts) e = omega arith
bound_stops (token.Mark mark.Close ∷ ts) e = omega arith
bound_stops _ e = absurd e

ends_bounds : (rest : List Token) → EndsArg true rest → EndsBound rest
ends_bounds (token.Mark mark.Comma ∷ ts) e = tt
ends_bounds (token.Mark mark.Close ∷ ts) e = tt
ends_bounds _ e = absurd e

stride_bounds : (m : Maybe) (rest : List Token) → EndsArg true rest → EndsBound (spell_stride m rest)
stride_bounds Absent rest s = ends_bounds rest s
stride_bounds (Present e) rest s = tt

mores_end : (ps : More) (rest : List Token) → EndsArg true (spell_mores ps (put mark.Close rest))
mores_end no_more rest = tt
mores_end (more p ps) rest = tt

no_key_colon : (ts : List Token) → key_at (put mark.Colon ts) ≡ None
unfolding key_at
no_key_colon ts = refl

no_key_colons : (ts : List Token) → key_at (put mark.DoubleColon ts) ≡ None
unfolding key_at
no_key_colons ts = refl

no_key_star : (ts : List Token) → key_at (put mark.Star ts) ≡ None
unfolding key_at
no_key_star ts = refl

colon_begins : (ts : List Token) → begins_colon (put mark.Colon ts) ≡ true
unfolding begins_colon
colon_begins ts = refl

colons_begin : (ts : List Token) → begins_colon (put mark.DoubleColon ts) ≡ true
unfolding begins_colon
colons_begin ts = refl

no_end_colon : (in_call : Bool) (ts : List Token) → end_at in_call (put mark.Colon ts) ≡ None
unfolding end_at
no_end_colon true ts = refl
no_end_colon false ts = refl

no_end_colons : (in_call : Bool) (ts : List Token) → end_at in_call (put mark.DoubleColon ts) ≡ None
unfolding end_at
no_end_colons true ts = refl
no_end_colons false ts = refl

no_end_name : (in_call : Bool) (name : List ℕ) (ts : List Token) → end_at in_call (token.Name name ∷ ts) ≡ None
unfolding end_at
no_end_name true name ts = refl
no_end_name false name ts = refl

no_end_arg : (a : Arg) (n : ℕ) (in_call : Bool) (ts : List Token) → FitsArg n in_call a → end_at in_call (spell_arg a ts) ≡ None
no_end_arg (Value None e) n in_call ts f = no_end in_call _ (starts_within n e ts (value_within n in_call None e f).1)
no_end_arg (Value (Some name) e) n in_call ts f = no_end_name in_call name _
no_end_arg (Section Absent upper stride) n in_call ts f = no_end_colon in_call _
no_end_arg (Section (Present e) upper stride) n in_call ts f = no_end in_call _ (starts_within n e _ (maybe_within n e f.1))
no_end_arg (Strided Absent stride) n in_call ts f = no_end_colons in_call _
no_end_arg (Strided (Present e) stride) n in_call ts f = no_end in_call _ (starts_within n e _ (maybe_within n e (strided_within n in_call (Present e) stride f).1))

mutual
  pub level_again : (e : Expr) (n h : ℕ) (rest : List Token) → Fits n h e → h ≤ 9 → Stops h rest → level_at (primary_at (expr_at n)) h (spell e rest) ≡ Some (e, rest)
  level_again (Number digits k) n h rest f le s = low (primary_at (expr_at n)) n h (Number digits k) rest tt s (literal_number (expr_at n) digits k rest)
  level_again (Truth value k) n h rest f le s = low (primary_at (expr_at n)) n h (Truth value k) rest tt s (literal_truth (expr_at n) value k rest)
  level_again (Text bytes k) n h rest f le s = low (primary_at (expr_at n)) n h (Text bytes k) rest tt s (literal_text (expr_at n) bytes k rest)
  level_again (Ref r) n h rest f le s = low (primary_at (expr_at n)) n h (Ref r) rest f s (refer_again_step (expr_at n) r rest (refer_again r n rest f (stops_lower h 0 rest (omega arith) s)))
  level_again (Paren e) zero h rest f le s = absurd f
  level_again (Paren e) (suc n) h rest f le s = low (primary_at (expr_at (suc n))) (suc n) h (Paren e) rest f s (paren_again (expr_at (suc n)) _ rest e
      (inside e (suc n) (put mark.Close rest) (λ m w. level_again e m 9 (put mark.Close rest) w (omega arith) (omega arith)) f))
  level_again (Array no_args) n h rest f le s = absurd f.0
  level_again (Array (arg a args)) n h rest f le s = low (primary_at (expr_at n)) n h (Array (arg a args)) rest f s
      (array_again (expr_at n) _ rest a args (no_typed_items n a args rest f.1.0) (args_again (arg a args) n false rest f.1))
  level_again (Typed t items) n h rest f le s = low (primary_at (expr_at n)) n h (Typed t items) rest f s
      (typed_again (expr_at n) _ _ rest t items (begins_types n t _ f.0) (type_again t n _ f.0 tt) (args_again items n false rest f.1))
  level_again (Chain k sign first links) n h rest f le s =
      let stop : Stops (suc k) rest = stops_lower h (suc k) rest (omega (arith, f.0)) s in
      let own : Fits n (suc k) (Chain k sign first links) = (omega arith, f.1, f.2, f.3, f.4, f.5) in
      let low9 : k ≤ 9 = omega (arith, f.0, le) in
      let tail = spell_links links rest in
      lift (primary_at (expr_at n)) (suc k) h (Chain k sign first links) (spell (Chain k sign first links) rest) rest (λ j le. no_sign n (suc k) j (Chain k sign first links) rest own le)
      (chain_again (primary_at (expr_at n)) n k sign first links rest f.1 f.2 f.4
      (level_again first n k tail f.2 low9 (stops_links n k links rest f.3 stop))
      (links_again links n k (most_links k tail) rest f.3 low9 stop (enough k (count links) tail (omega (arith, grows_links links rest)) f.5)))
      (omega (arith, f.0)) s

  links_again : (links : Links) (n h m : ℕ) (rest : List Token) → FitsLinks n h links → h ≤ 9 → Stops (suc h) rest → count links ≤ m → links_at (level_at (primary_at (expr_at n)) h) h m (spell_links links rest) ≡ Some (links, rest)
  links_again no_links n h m rest f le s c = link_stop (level_at (primary_at (expr_at n)) h) h m rest (no_link h rest s)
  links_again (link op e links) n h zero rest f le s c = absurd (omega (arith, c))
  links_again (link op e links) n h (suc m) rest f le s c =
      link_step (level_at (primary_at (expr_at n)) h) h m _ _ _ rest op e links (link_again h op _ f.0) (level_again e n h (spell_links links rest) f.1 le (stops_links n h links rest f.2 s)) (links_again links n h m rest f.2 le s (omega (arith, c)))

  pub refer_again : (r : Refer) (n : ℕ) (rest : List Token) → FitsRefer n r → Stops 0 rest → refer_at (expr_at n) (spell_refer r rest) ≡ Some (r, rest)
  refer_again (refer p ps) n rest f s = refer_step (expr_at n) _ _ rest p ps (part_again p n (spell_parts ps rest) f.0 (parts_open ps rest s))
      (parts_again ps n (length (spell_parts ps rest)) rest f.1 s (omega (arith, grows_parts ps rest)))

  parts_again : (ps : Parts) (n m : ℕ) (rest : List Token) → FitsParts n ps → Stops 0 rest → count_parts ps ≤ m → parts_at (expr_at n) m (spell_parts ps rest) ≡ Some (ps, rest)
  parts_again no_parts n m rest f s c = parts_stop (expr_at n) m rest (no_percent rest s)
  parts_again (part p ps) n zero rest f s c = absurd (omega (arith, c))
  parts_again (part p ps) n (suc m) rest f s c = parts_step (expr_at n) m _ _ rest p ps (part_again p n (spell_parts ps rest) f.0 (parts_open ps rest s)) (parts_again ps n m rest f.1 s (omega (arith, c)))

  part_again : (p : Part) (n : ℕ) (rest : List Token) → FitsPart n p → EndsType rest → part_at (expr_at n) (spell_part p rest) ≡ Some (p, rest)
  part_again (named name NoGroup NoRange) n rest f s = plain_part (expr_at n) name rest (no_open rest s)
  part_again (named name NoGroup (range lower upper)) n rest f s = absurd f.1.0
  part_again (named name (group args) NoRange) n rest f s = group_part (expr_at n) name _ rest rest args NoRange (args_again args n true rest f.0) (range_stop (expr_at n) rest (no_open rest s))
  part_again (named name (group args) (range lower upper)) n rest f s = group_part (expr_at n) name _ _ rest args (range lower upper) (args_again args n true _ f.0)
      (range_step (expr_at n) _ _ rest rest lower upper (lower_again lower n _ f.1.1) (upper_again upper n (put mark.Close rest) f.1.2 tt))

  pub args_again : (args : Args) (n : ℕ) (in_call : Bool) (rest : List Token) → FitsArgs n in_call args → args_at (expr_at n) in_call (spell_args args (put (ender in_call) rest)) ≡ Some (args, rest)
  args_again no_args n in_call rest f = args_none (expr_at n) in_call rest
  args_again (arg a args) n in_call rest f =
      let tail = spell_others args (put (ender in_call) rest) in
      args_step (expr_at n) in_call _ tail rest a args (no_end_arg a n in_call tail f.0) (arg_again a n in_call tail f.0 (others_end in_call args rest))
      (others_again args n in_call (length tail) rest f.1 (omega (arith, grows_others args (put (ender in_call) rest))))

  others_again : (args : Args) (n : ℕ) (in_call : Bool) (m : ℕ) (rest : List Token) → FitsArgs n in_call args → count_args args ≤ m → others_at (expr_at n) in_call m (spell_others args (put (ender in_call) rest)) ≡ Some (args, put (ender in_call) rest)
  others_again no_args n in_call m rest f c = others_stop (expr_at n) in_call m _ (no_comma_end in_call rest)
  others_again (arg a args) n in_call zero rest f c = absurd (omega (arith, c))
  others_again (arg a args) n in_call (suc m) rest f c =
      others_step (expr_at n) in_call m _ _ _ a args (arg_again a n in_call (spell_others args (put (ender in_call) rest)) f.0 (others_end in_call args rest)) (others_again args n in_call m rest f.1 (omega (arith, c)))

  arg_again : (a : Arg) (n : ℕ) (in_call : Bool) (rest : List Token) → FitsArg n in_call a → EndsArg in_call rest → arg_at (expr_at n) in_call (spell_arg a rest) ≡ Some (a, rest)
  arg_again (Value None e) n true rest f s =
      let w = (value_within n true None e f).1 in
      let d = ended true rest s in
      subscript_step (expr_at n) (spell e rest) (Value None e) rest (no_key_within n e rest w d.apart)
      (plain_step (expr_at n) (spell e rest) rest e (no_colon (spell e rest) (starts_within n e rest w)) (inside e n rest (λ m v. level_again e m 9 rest v (omega arith) d.stops) w) d.no_colon)
  arg_again (Value (Some name) e) n true rest f s =
      keyed_step (expr_at n) name (spell e rest) rest e (inside e n rest (λ m v. level_again e m 9 rest v (omega arith) (ended true rest s).stops) (value_within n true (Some name) e f).1)
  arg_again (Value None e) n false rest f s =
      item_step (expr_at n) (spell e rest) rest e (inside e n rest (λ m v. level_again e m 9 rest v (omega arith) (ended false rest s).stops) (value_within n false None e f).1)
  arg_again (Value (Some name) e) n false rest f s = absurd (cc ((value_within n false (Some name) e f).0))
  arg_again (Section Absent upper stride) n true rest f s =
      subscript_step (expr_at n) _ (Section Absent upper stride) rest (no_key_colon _)
      (unbounded_step (expr_at n) _ (Section Absent upper stride) rest (colon_begins _) (section_step (expr_at n) Absent upper stride _ (spell_stride stride rest) rest (upper_again upper n (spell_stride stride rest) f.2 (stride_bounds stride rest s)) (stride_again stride n rest f.3 s)))
  arg_again (Section (Present e) upper stride) n true rest f s =
      let w = maybe_within n e f.1 in
      let tail = put mark.Colon (spell_maybe upper (spell_stride stride rest)) in
      subscript_step (expr_at n) (spell e tail) (Section (Present e) upper stride) rest (no_key_within n e tail w tt)
      (bounded_step (expr_at n) (spell e tail) tail e (Section (Present e) upper stride) rest (no_colon (spell e tail) (starts_within n e tail w)) (inside e n tail (λ m v. level_again e m 9 tail v (omega arith) (omega arith)) w) (colon_begins _)
      (section_step (expr_at n) (Present e) upper stride _ (spell_stride stride rest) rest (upper_again upper n (spell_stride stride rest) f.2 (stride_bounds stride rest s)) (stride_again stride n rest f.3 s)))
  arg_again (Section lower upper stride) n false rest f s = absurd (cc (f.0))
  arg_again (Strided Absent stride) n true rest f s =
      let w = (strided_within n true Absent stride f).2 in
      subscript_step (expr_at n) _ (Strided Absent stride) rest (no_key_colons _)
      (unbounded_step (expr_at n) _ (Strided Absent stride) rest (colons_begin _) (strided_step (expr_at n) Absent (spell stride rest) rest stride (inside stride n rest (λ m v. level_again stride m 9 rest v (omega arith) (ended true rest s).stops) w)))
  arg_again (Strided (Present e) stride) n true rest f s =
      let w = maybe_within n e (strided_within n true (Present e) stride f).1 in
      let v = (strided_within n true (Present e) stride f).2 in
      let tail = put mark.DoubleColon (spell stride rest) in
      subscript_step (expr_at n) (spell e tail) (Strided (Present e) stride) rest (no_key_within n e tail w tt)
      (bounded_step (expr_at n) (spell e tail) tail e (Strided (Present e) stride) rest (no_colon (spell e tail) (starts_within n e tail w)) (inside e n tail (λ m u. level_again e m 9 tail u (omega arith) (omega arith)) w) (colons_begin _)
      (strided_step (expr_at n) (Present e) (spell stride rest) rest stride (inside stride n rest (λ m u. level_again stride m 9 rest u (omega arith) (ended true rest s).stops) v)))
  arg_again (Strided lower stride) n false rest f s = absurd (cc ((strided_within n false lower stride f).0))

  stride_again : (m : Maybe) (n : ℕ) (rest : List Token) → FitsMaybe n m → EndsArg true rest → stride_at (expr_at n) (spell_stride m rest) ≡ Some (m, rest)
  stride_again Absent n rest f s = stride_stop (expr_at n) rest (ended true rest s).no_single
  stride_again (Present e) n rest f s = stride_step (expr_at n) (spell e rest) rest e (inside e n rest (λ m v. level_again e m 9 rest v (omega arith) (ended true rest s).stops) (maybe_within n e f))

  pub upper_again : (m : Maybe) (n : ℕ) (rest : List Token) → FitsMaybe n m → EndsBound rest → upper_at (expr_at n) (spell_maybe m rest) ≡ Some (m, rest)
  upper_again Absent n rest f s = upper_stop (expr_at n) rest (bound_is_ended rest s)
  upper_again (Present e) n rest f s =
      let w = maybe_within n e f in
      upper_step (expr_at n) (spell e rest) rest e (no_bound_end (spell e rest) (starts_within n e rest w)) (inside e n rest (λ m v. level_again e m 9 rest v (omega arith) (bound_stops rest s)) w)

  lower_again : (m : Maybe) (n : ℕ) (rest : List Token) → FitsMaybe n m → lower_at (expr_at n) (spell_maybe m (put mark.Colon rest)) ≡ Some (m, put mark.Colon rest)
  lower_again Absent n rest f = lower_stop (expr_at n) rest
  lower_again (Present e) n rest f =
      let w = maybe_within n e f in
      let tail = put mark.Colon rest in
      lower_step (expr_at n) (spell e tail) tail e (no_colon (spell e tail) (starts_within n e tail w)) (inside e n tail (λ m v. level_again e m 9 tail v (omega arith) (omega arith)) w)

  pub type_again : (t : TypeOf) (n : ℕ) (rest : List Token) → FitsType n t → EndsType rest → type_at (expr_at n) (spell_type t rest) ≡ Some (t, rest)
  type_again (Integer k) n rest f s = integer_again (expr_at n) _ rest k (selector_again k n rest f s)
  type_again (Logical k) n rest f s = logical_again (expr_at n) _ rest k (selector_again k n rest f s)
  type_again (Character ps) n rest f s = character_again (expr_at n) _ rest (Character ps) (params_again ps n rest f s)
  type_again (Derived name) n rest f s = derived_again (expr_at n) name rest
  type_again Assumed n rest f s = assumed_again (expr_at n) rest

  selector_again : (k : Selector) (n : ℕ) (rest : List Token) → FitsKind n k → EndsType rest → selector_at (expr_at n) (spell_kind k rest) ≡ Some (k, rest)
  selector_again NoKind n rest f s = selector_stop (expr_at n) rest (no_open rest s)
  selector_again (kind has_word e) n rest f s =
      let w = kind_within n has_word e f in
      let tail = put mark.Close rest in
      selector_step (expr_at n) _ (spell e tail) rest has_word e (worded_again n (codes "kind") has_word e tail w tt) (inside e n tail (λ m v. level_again e m 9 tail v (omega arith) (omega arith)) w)

  params_again : (ps : Params) (n : ℕ) (rest : List Token) → FitsParams n ps → EndsType rest → character_at (expr_at n) (spell_params ps rest) ≡ Some (Character ps, rest)
  params_again NoParams n rest f s = params_stop (expr_at n) rest (no_open rest s)
  params_again (params p ps) n rest f s =
      let tail = spell_mores ps (put mark.Close rest) in
      params_step (expr_at n) _ tail rest p ps (param_again p n true tail f.0 (mores_end ps rest)) (mores_again ps n (length tail) rest f.1 (omega (arith, grows_mores ps (put mark.Close rest))))

  mores_again : (ps : More) (n m : ℕ) (rest : List Token) → FitsMores n ps → count_mores ps ≤ m → mores_at (expr_at n) m (spell_mores ps (put mark.Close rest)) ≡ Some (ps, put mark.Close rest)
  mores_again no_more n m rest f c = mores_stop (expr_at n) m _ (no_comma_end true rest)
  mores_again (more p ps) n zero rest f c = absurd (omega (arith, c))
  mores_again (more p ps) n (suc m) rest f c =
      let tail = spell_mores ps (put mark.Close rest) in
      mores_step (expr_at n) m _ tail _ p ps (param_again p n false tail f.0 (mores_end ps rest)) (mores_again ps n m rest f.1 (omega (arith, c)))

  param_again : (p : Param) (n : ℕ) (is_first : Bool) (rest : List Token) → FitsParam n is_first p → EndsArg true rest → param_at (expr_at n) is_first (spell_param p rest) ≡ Some (p, rest)
  param_again (Length true e) n is_first rest f s =
      let w = (length_within n is_first true e f).1 in
      len_step (expr_at n) is_first (spell e rest) rest (Length true e) (length_step (expr_at n) true (spell e rest) rest e (no_star (spell e rest) (starts_within n e rest w)) (inside e n rest (λ m v. level_again e m 9 rest v (omega arith) (ended true rest s).stops) w))
  param_again (Length false e) n true rest f s =
      let w = (length_within n true false e f).1 in
      bare_step (expr_at n) true (spell e rest) rest (Length false e) (no_key_within n e rest w (ended true rest s).apart)
      (bare_length (expr_at n) (spell e rest) rest (Length false e) (length_step (expr_at n) false (spell e rest) rest e (no_star (spell e rest) (starts_within n e rest w)) (inside e n rest (λ m v. level_again e m 9 rest v (omega arith) (ended true rest s).stops) w)))
  param_again (Length false e) n false rest f s = absurd (cc ((length_within n false false e f).0))
  param_again (AnyLength true) n is_first rest f s = len_step (expr_at n) is_first (put mark.Star rest) rest (AnyLength true) (star_step (expr_at n) true rest)
  param_again (AnyLength false) n true rest f s = bare_step (expr_at n) true (put mark.Star rest) rest (AnyLength false) (no_key_star rest) (bare_length (expr_at n) (put mark.Star rest) rest (AnyLength false) (star_step (expr_at n) false rest))
  param_again (AnyLength false) n false rest f s = absurd (cc f)
  param_again (KindParam true e) n is_first rest f s =
      kind_step (expr_at n) is_first (spell e rest) rest e (inside e n rest (λ m v. level_again e m 9 rest v (omega arith) (ended true rest s).stops) (kind_param_within n is_first true e f).1)
  param_again (KindParam false e) n false rest f s =
      let w = (kind_param_within n false false e f).1 in
      bare_step (expr_at n) false (spell e rest) rest (KindParam false e) (no_key_within n e rest w (ended true rest s).apart)
      (bare_kind (expr_at n) (spell e rest) rest e (inside e n rest (λ m v. level_again e m 9 rest v (omega arith) (ended true rest s).stops) w))
  param_again (KindParam false e) n true rest f s = absurd (cc ((kind_param_within n true false e f).0))

pub expr_again : (n : ℕ) (e : Expr) (rest : List Token) → Within n e → Stops 9 rest → expr_at n (spell e rest) ≡ Some (e, rest)
unfolding expr_at
expr_again zero e rest w s = absurd w
expr_again (suc n) e rest w s = level_again e n 9 rest w (omega arith) s

some_is : (x y : Expr × List Token) → let d : Read Expr = Some x in let e : Read Expr = Some y in d ≡ e → x ≡ y
some_is x y e = cc

pub one_spelling : (n : ℕ) (e f : Expr) (rest others : List Token) → Within n e → Within n f → Stops 9 rest → Stops 9 others → spell e rest ≡ spell f others → (e ≡ f) × (rest ≡ others)
one_spelling n e f rest others fe ff s o same_tokens =
    let same = some_is (e, rest) (f, others) (sym (expr_again n e rest fe s) ∙ ap (expr_at n) same_tokens ∙ expr_again n f others ff o) in
    (ap (λ (x : Expr × List Token). x.0) same, ap (λ (x : Expr × List Token). x.1) same)
