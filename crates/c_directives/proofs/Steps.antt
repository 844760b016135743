-- Directives' tokens.
use Rattle.std.proofs.Common.{◌≡◌, ℕ, zero, suc, ◌+◌, ◌<◌, ◌≤◌, Bool, true, false, cond, List, [], ◌∷◌, ◌++◌, map, length, length-append, Option, Some, None, Result, Ok, Err, refl, sym, ap, ◌∙◌, arith, subst, append_assoc}
use Rattle.std.proofs.Common.{reverse, take}
use Rattle.std.specs.Prelude.{slice_get}
use Rattle.std.proofs.lemmas.List.{append-nil, map-append, length-map, reverse-append, take_all}
use Rattle.c_directives.specs.declared.opens.Open.{Open}
use Rattle.c_directives.specs.Reading.{first_place}
use Rattle.std.specs.Str.{is_utf8, IsUtf8}
use Rattle.std.proofs.lemmas.Str.{is_utf8-from_IsUtf8, IsUtf8-from_is_utf8}
use Rattle.jf_base.specs.declared.place.Place.{Place}
use Rattle.c_text.specs.declared.kind.Lexeme.{Lexeme}
use Rattle.c_token.specs.declared.token.CToken.{CToken}
use Rattle.c_token.specs.declared.token.CToken.TheVariants.{Id, Number, Text, Byte, Mark}
use Rattle.std.specs.Prelude.{Vec, nat_le}
use Rattle.std.specs.declared.alloc.Global.{Global}
use Rattle.std.proofs.lemmas.Bool.{le-leb}
use Rattle.c_token.specs.declared.token.CSpanned.{CSpanned}
use Rattle.c_lines.specs.declared.rule.Rule.TheVariants as rule
use Rattle.c_lines.specs.declared.header.Delimiter.TheVariants.{Angle, Quote}
use Rattle.c_form.specs.Forms.{token_of, spelled_token}
use Rattle.c_define.specs.Definitions.{Macros}
use Rattle.c_define.specs.Expansion.{seen, body_of, among, along, expansion, all_at}
use Rattle.c_directives.specs.declared.condition.Expected.{Expected}
use Rattle.c_directives.specs.declared.condition.Expected.TheVariants as expected
use Rattle.c_condition.specs.Reading.{and_then}
use Rattle.c_directives.specs.declared.stop.Stop.{Stop}
use Rattle.c_directives.specs.declared.stop.Stop.TheVariants as stop
use Rattle.c_directives.specs.Reads.{Read, broken, Says}
use Rattle.c_directives.specs.Directives.{with_token, tokens_of}
use Rattle.c_directives.specs.Conditions.{Name, asked, form_of, step, Step, with_given, given_list, at_end, without_defined, all_expanded, most_tokens, operand_of, Put, AllPut, if_few, spelled_tokens}

pub file_refused : (place : Place) (name : List ℕ) → (IsUtf8 name → ⊥) → form_of place (Some (Quote, name)) ≡ broken rule.Form place
file_refused place name n = pick (is_utf8 name) refl
  where
    pick : (b : Bool) → is_utf8 name ≡ b → cond {A = Read Name} b (Ok (Quote, name)) (broken rule.Form place) ≡ broken rule.Form place
    pick false e = refl
    pick true e = absurd (n (IsUtf8-from_is_utf8 name e))

pub file_taken : (place : Place) (name : List ℕ) → IsUtf8 name → form_of place (Some (Quote, name)) ≡ Ok (Quote, name)
file_taken place name u = ap (λ b. cond {A = Read Name} b (Ok (Quote, name)) (broken rule.Form place)) (is_utf8-from_IsUtf8 name u)

-- ---- lists of tokens

-- what stands before is put in front, where there is something
abbrev pub behind : List CToken → Option (List CToken) → Option (List CToken)
behind out o = seen (λ ts. out ++ ts) o

with_behind : (out : List CToken) (t : CToken) (o : Option (List CToken)) → behind out (with_token (Some t) o) ≡ behind (out ++ t ∷ []) o
with_behind out t None = refl
with_behind out t (Some ts) = ap Some (sym (append_assoc out (t ∷ []) ts))

pub tokens_more : (out out' : List CToken) (t : CToken) (l : Lexeme) (ls rest : List Lexeme) → Some t ≡ token_of l.kind l.spelling → rest ≡ l ∷ ls → out' ≡ out ++ t ∷ [] → behind out' (tokens_of ls) ≡ behind out (tokens_of rest)
unfolding tokens_of
tokens_more out out' t l ls rest te re oe = rw (oe, re) (sym (ap (λ o. behind out (with_token o (tokens_of ls))) (sym te) ∙ with_behind out t (tokens_of ls)))

pub tokens_none : (out : List CToken) (l : Lexeme) (ls rest : List Lexeme) → None ≡ token_of l.kind l.spelling → rest ≡ l ∷ ls → behind out (tokens_of rest) ≡ None
unfolding tokens_of
tokens_none out l ls rest te re = rw re (ap (λ o. behind out (with_token o (tokens_of ls))) (sym te))

pub tokens_end : (out : List CToken) (rest : List Lexeme) → length rest ≡ 0 → behind out (tokens_of rest) ≡ Some out
unfolding tokens_of
tokens_end out [] e = ap Some (append-nil out)
tokens_end out (l ∷ ls) e = absurd (omega (arith, e))

pub behind_nothing : (o : Option (List CToken)) → behind [] o ≡ o
behind_nothing None = refl
behind_nothing (Some ts) = refl

-- ---- defined

given_behind : (out : List CToken) (g : Option CToken) (o : Option (List CToken)) → behind out (with_given g o) ≡ behind (out ++ given_list g) o
given_behind out None None = refl
given_behind out (Some t) None = refl
given_behind out None (Some ts) = ap (λ l. Some (l ++ ts)) (sym (append-nil out))
given_behind out (Some t) (Some ts) = ap Some (sym (append_assoc out (t ∷ []) ts))

module _ (ms : Macros) where
  pub defined_more : (out out' : List CToken) (e e' : Expected) (g : Option CToken) (t : CToken) (ts rest : List CToken) → Some (e', g) ≡ step ms e t → rest ≡ t ∷ ts → out' ≡ out ++ given_list g
      → behind out' (without_defined ms e' ts) ≡ behind out (without_defined ms e rest)
  unfolding without_defined
  defined_more out out' e e' g t ts rest se re oe = rw (oe, re) (sym (ap (λ o. behind out (and_then o (λ x. with_given x.1 (without_defined ms x.0 ts)))) (sym se) ∙ given_behind out g (without_defined ms e' ts)))

  pub defined_none : (out : List CToken) (e : Expected) (t : CToken) (ts rest : List CToken) → None ≡ step ms e t → rest ≡ t ∷ ts → behind out (without_defined ms e rest) ≡ None
  unfolding without_defined
  defined_none out e t ts rest se re = rw re (ap (λ o. behind out (and_then o (λ x. with_given x.1 (without_defined ms x.0 ts)))) (sym se))

  pub defined_end : (out : List CToken) (e : Expected) (rest : List CToken) → length rest ≡ 0 → behind out (without_defined ms e rest) ≡ behind out (at_end e)
  unfolding without_defined
  defined_end out e [] n = refl
  defined_end out e (t ∷ ts) n = absurd (omega (arith, n))

  -- ---- replacement

  pub expanded_more : (place : Place) (out out' : List CSpanned) (t : CToken) (ts rest : List CToken) → rest ≡ t ∷ ts → out' ≡ out ++ all_at place (expansion ms (t ∷ [])) → out' ++ all_at place (all_expanded ms ts) ≡ out ++ all_at place (all_expanded ms rest)
  unfolding all_expanded
  expanded_more place out out' t ts rest re oe =
      rw (oe, re) (append_assoc out (all_at place (expansion ms (t ∷ []))) (all_at place (all_expanded ms ts)) ∙ ap (λ l. out ++ l) (sym (map-append _ (expansion ms (t ∷ [])) (all_expanded ms ts))))

  pub expanded_end : (place : Place) (out : List CSpanned) (rest : List CToken) → length rest ≡ 0 → out ++ all_at place (all_expanded ms rest) ≡ out
  unfolding all_expanded
  expanded_end place out [] e = append-nil out
  expanded_end place out (t ∷ ts) e = absurd (omega (arith, e))

-- ---- conditionals

first_last : (os : List Open) (o : Open) → first_place (os ++ o ∷ []) ≡ Some o.place
first_last [] o = refl
first_last (p ∷ []) o = refl
first_last (p ∷ q ∷ os) o = first_last (q ∷ os) o

pub first_opened : (os : List Open) (o : Open) → slice_get os 0 ≡ Some o → first_place (reverse os) ≡ Some o.place
first_opened [] o e = cc
first_opened (p ∷ os) o e = let same : p ≡ o = cc in ap first_place (reverse-append (p ∷ []) os) ∙ first_last (reverse os) p ∙ ap (λ (o : Open). Some o.place) same

-- ---- replacement of directives' tokens

stays : (ms : Macros) (t : CToken) → body_of ms.of t ≡ None → expansion ms (t ∷ []) ≡ t ∷ []
unfolding expansion among along
stays ms t e = pick ms.size
  where
    pick : (k : ℕ) → among k ms.of (t ∷ []) ≡ t ∷ []
    pick zero = rw e refl
    pick (suc k) = rw e refl

pub plain_stays : (ms : Macros) (t : CToken) → ((s : List ℕ) → t ≡ Id s → ⊥) → expansion ms (t ∷ []) ≡ t ∷ []
unfolding expansion
plain_stays ms t n = pick t refl
  where
    pick : (u : CToken) → t ≡ u → expansion ms (t ∷ []) ≡ t ∷ []
    pick (Id s) e = absurd (n s e)
    pick (Number s) e = rw e (stays ms (Number s) refl)
    pick (Text s) e = rw e (stays ms (Text s) refl)
    pick (Byte s) e = rw e (stays ms (Byte s) refl)
    pick (Mark m) e = rw e (stays ms (Mark m) refl)

pub put_full : (ms : Macros) (t : CToken) (n : ℕ) → ((s : List ℕ) → t ≡ Id s → ⊥) → most_tokens ≤ n → most_tokens < n + length (expansion ms (t ∷ []))
put_full ms t n p le = rw (plain_stays ms t p) (omega (arith, le))

pub put_one : (ms : Macros) (place : Place) (t : CToken) (out out' : List CSpanned) → ((s : List ℕ) → t ≡ Id s → ⊥) → length out < most_tokens → out' ≡ out ++ record { token = t; place = place } ∷ [] → Put true ms place t out out'
put_one ms place t out out' p lt e =
    let one : CSpanned = record { token = t; place = place } in
    let n = ap length e in
    (e ∙ ap (λ l. out ++ all_at place l) (sym (plain_stays ms t p)), omega (arith, n, lt, length-append out (one ∷ [])))

pub put_so : (fits : Bool) (ms : Macros) (place : Place) (t : CToken) (out out' : List CSpanned) → fits ≡ true → Put fits ms place t out out' → (out' ≡ out ++ all_at place (expansion ms (t ∷ []))) × (length out' ≤ most_tokens)
put_so true ms place t out out' e h = h
put_so false ms place t out out' e h = cc

pub put_over : (fits : Bool) (ms : Macros) (place : Place) (t : CToken) (out out' : List CSpanned) → fits ≡ false → Put fits ms place t out out' → most_tokens < length out + length (expansion ms (t ∷ []))
put_over true ms place t out out' e h = cc
put_over false ms place t out out' e h = h

placed_length : (place : Place) (ts : List CToken) → length (all_at place ts) ≡ length ts
placed_length place ts = length-map ts _

pub over_all : (ms : Macros) (place : Place) (out : List CSpanned) (tokens rest : List CToken) (t : CToken) (ts : List CToken) → rest ≡ t ∷ ts → out ++ all_at place (all_expanded ms rest) ≡ all_at place (all_expanded ms tokens)
    → most_tokens < length out + length (expansion ms (t ∷ [])) → most_tokens < length (all_expanded ms tokens)
unfolding all_expanded
over_all ms place out tokens rest t ts re so lt =
    let a = ap length so in
    let b = ap (λ l. length (all_expanded ms l)) re in
    omega (arith, a, b, lt, length-append out (all_at place (all_expanded ms rest)), placed_length place (all_expanded ms rest), placed_length place (all_expanded ms tokens), length-append (expansion ms (t ∷ [])) (all_expanded ms ts))

pub few_all : (ms : Macros) (place : Place) (out : List CSpanned) (tokens rest : List CToken) → length rest ≡ 0 → length out ≤ most_tokens → out ++ all_at place (all_expanded ms rest) ≡ all_at place (all_expanded ms tokens)
    → (out ≡ all_at place (all_expanded ms tokens)) × (length (all_expanded ms tokens) ≤ most_tokens)
few_all ms place out tokens rest e le so =
    let all = sym (expanded_end ms place out rest e) ∙ so in
    let n = ap length all in
    (all, omega (arith, n, le, placed_length place (all_expanded ms tokens)))

pub all_put_some : (o : Option (Vec CSpanned Global)) (v : Vec CSpanned Global) (ms : Macros) (place : Place) (ts : List CToken) → o ≡ Some v → AllPut o ms place ts → (v.items ≡ all_at place (all_expanded ms ts)) × (length (all_expanded ms ts) ≤ most_tokens)
all_put_some None v ms place ts e h = cc
all_put_some (Some u) v ms place ts e h = let same : u ≡ v = cc in subst (λ (w : Vec CSpanned Global). (w.items ≡ all_at place (all_expanded ms ts)) × (length (all_expanded ms ts) ≤ most_tokens)) same h

pub tokens_there : (place : Place) (ts : List CToken) → map (λ (s : CSpanned). s.token) (all_at place ts) ≡ ts
tokens_there place [] = refl
tokens_there place (t ∷ ts) = ap (λ l. t ∷ l) (tokens_there place ts)

pub few : {A : Type 0} (place : Place) (ts : List CToken) (f : List CToken → Read A) → length ts ≤ most_tokens → if_few place ts f ≡ f ts
few place ts f le = let test : nat_le (length ts) most_tokens ≡ true = le-leb (length ts) most_tokens le in rw test refl

-- ---- spellings

pub spelled_more : (out out' : List ℕ) (s : CSpanned) (ss rest : List CSpanned) → rest ≡ s ∷ ss → out' ≡ out ++ spelled_token s.token → out' ++ spelled_tokens (map (λ (s : CSpanned). s.token) ss) ≡ out ++ spelled_tokens (map (λ (s : CSpanned). s.token) rest)
unfolding spelled_tokens
spelled_more out out' s ss rest re oe = rw (oe, re) (append_assoc out (spelled_token s.token) (spelled_tokens (map (λ (s : CSpanned). s.token) ss)))

pub spelled_end : (out : List ℕ) (rest : List CSpanned) → length rest ≡ 0 → out ≡ out ++ spelled_tokens (map (λ (s : CSpanned). s.token) rest)
unfolding spelled_tokens
spelled_end out [] e = sym (append-nil out)
spelled_end out (s ∷ ss) e = absurd (omega (arith, e))

pub mapped_twice : (n : ℕ) (ss : List CSpanned) → length ss ≤ n → map (λ (s : CSpanned). operand_of s.token) (take n ss) ≡ map operand_of (map (λ (s : CSpanned). s.token) ss)
mapped_twice n [] le = ap (map (λ (s : CSpanned). operand_of s.token)) (take_all n [] le)
mapped_twice zero (s ∷ ss) le = absurd (omega (arith, le))
mapped_twice (suc n) (s ∷ ss) le = ap (λ l. operand_of s.token ∷ l) (mapped_twice n ss (omega (arith, le)))

pub file_says_refused : (place : Place) (name : List ℕ) → (IsUtf8 name → ⊥) → (s : Stop) → s ≡ stop.At (record { place = place; rule = rule.Form }) → Says (Err s) asked (form_of place (Some (Quote, name)))
file_says_refused place name n s e = rw e (file_refused place name n)

pub file_says_taken : (place : Place) (name text copy : List ℕ) → IsUtf8 name → text ≡ name → copy ≡ text → form_of place (Some (Quote, name)) ≡ Ok (Quote, copy)
file_says_taken place name text copy u e f = file_taken place name u ∙ ap (λ (n : List ℕ). Ok (Quote, n)) (sym (f ∙ e))

pub end_any : (out : List CToken) (e : Expected) → e ≡ expected.Any → behind out (at_end e) ≡ Some out
end_any out e is = rw is (ap Some (append-nil out))

pub end_other : (out : List CToken) (e : Expected) → (e ≡ expected.Any → ⊥) → behind out (at_end e) ≡ None
end_other out e no_any = pick e refl
  where
    pick : (x : Expected) → e ≡ x → behind out (at_end e) ≡ None
    pick expected.Any is = absurd (no_any is)
    pick expected.Operand is = rw is refl
    pick expected.Name is = rw is refl
    pick (expected.Close b) is = rw is refl
