-- Where tokens nest too deep, one behind the other.
use Rattle.std.proofs.Common.{◌≡◌, ℕ, zero, suc, ◌-◌, ◌+◌, ◌<◌, nat_lt, not, Bool, true, false, ◌||◌, cond, List, [], ◌∷◌, ◌++◌, Option, Some, refl, sym, ap, subst, ◌∙◌, arith}
use Rattle.std.specs.Prelude.{MatchOption}
use Rattle.std.proofs.lemmas.List.{map-append, append-nil, append_assoc}
use Rattle.std.proofs.lemmas.Bool.{lt-ltb, le-ltb, ltb-true, ltb-false}
use Rattle.jf_base.specs.declared.place.Place.{Place}
use Rattle.f_lex.specs.declared.token.Mark.TheVariants as mark
use Rattle.f_lex.specs.declared.token.Token.{Token}
use Rattle.f_lex.specs.declared.token.Token.TheVariants as token
use Rattle.f_lex.specs.declared.token.Spanned.{Spanned}
use Rattle.f_expr_read.specs.Views.{tokens_of}
use Rattle.f_unit_grammar.specs.Units.{deepest, fewer, deeper}
use Rattle.f_statement_cut.specs.Nesting.{OpensTooDeep, Turn, Opens, Closes, Stays, turn_of, by_turn, too_deep_at}

pub fewer_is : (n : ℕ) → fewer n ≡ n - 1
fewer_is zero = refl
fewer_is (suc n) = omega arith

-- as many are nested as may be
pub full : (around nested : ℕ) → not (nat_lt nested (64 - around)) ≡ nat_lt 64 (around + suc nested)
full around nested = pick (nat_lt nested (64 - around)) refl
  where
    pick : (b : Bool) → nat_lt nested (64 - around) ≡ b → not b ≡ nat_lt 64 (around + suc nested)
    pick true e = let lt = ltb-true nested (64 - around) e in sym (le-ltb 64 (around + suc nested) (omega (arith, lt)))
    pick false e = let ge = ltb-false nested (64 - around) e in sym (lt-ltb 64 (around + suc nested) (omega (arith, ge)))

pub bounded : (around nested : ℕ) → nat_lt 64 (around + suc nested) ≡ false → nested < 64
bounded around nested e = let le = ltb-false 64 (around + suc nested) e in omega (arith, le)

opening : (around nested : ℕ) (ts : List Token) → (nat_lt deepest (around + suc nested) || deeper around (suc nested) ts) ≡ cond (nat_lt deepest (around + suc nested)) true (deeper around (suc nested) ts)
opening around nested ts = pick (nat_lt deepest (around + suc nested))
  where
    pick : (b : Bool) → (b || deeper around (suc nested) ts) ≡ cond b true (deeper around (suc nested) ts)
    pick true = refl
    pick false = refl

turn : (t : Token) (around nested : ℕ) (ts : List Token) → deeper around nested (t ∷ ts) ≡ by_turn (turn_of t) (cond (nat_lt deepest (around + suc nested)) true (deeper around (suc nested) ts)) (deeper around (fewer nested) ts) (deeper around nested ts)
unfolding deeper
turn (token.Name n) around nested ts = refl
turn (token.Number d k) around nested ts = refl
turn (token.Truth v k) around nested ts = refl
turn (token.Text b k) around nested ts = refl
turn (token.Mark mark.Open) around nested ts = opening around nested ts
turn (token.Mark mark.Close) around nested ts = refl
turn (token.Mark mark.OpenBracket) around nested ts = opening around nested ts
turn (token.Mark mark.CloseBracket) around nested ts = refl
turn (token.Mark mark.Comma) around nested ts = refl
turn (token.Mark mark.Percent) around nested ts = refl
turn (token.Mark mark.Colon) around nested ts = refl
turn (token.Mark mark.DoubleColon) around nested ts = refl
turn (token.Mark mark.DotDot) around nested ts = refl
turn (token.Mark mark.Assign) around nested ts = refl
turn (token.Mark mark.Arrow) around nested ts = refl
turn (token.Mark mark.Plus) around nested ts = refl
turn (token.Mark mark.Minus) around nested ts = refl
turn (token.Mark mark.Star) around nested ts = refl
turn (token.Mark mark.Power) around nested ts = refl
turn (token.Mark mark.Slash) around nested ts = refl
turn (token.Mark mark.Concat) around nested ts = refl
turn (token.Mark mark.Equal) around nested ts = refl
turn (token.Mark mark.NotEqual) around nested ts = refl
turn (token.Mark mark.Less) around nested ts = refl
turn (token.Mark mark.LessEqual) around nested ts = refl
turn (token.Mark mark.Greater) around nested ts = refl
turn (token.Mark mark.GreaterEqual) around nested ts = refl
turn (token.Mark mark.DotEq) around nested ts = refl
turn (token.Mark mark.DotNe) around nested ts = refl
turn (token.Mark mark.DotLt) around nested ts = refl
turn (token.Mark mark.DotLe) around nested ts = refl
turn (token.Mark mark.DotGt) around nested ts = refl
turn (token.Mark mark.DotGe) around nested ts = refl
turn (token.Mark mark.Not) around nested ts = refl
turn (token.Mark mark.And) around nested ts = refl
turn (token.Mark mark.Or) around nested ts = refl
turn (token.Mark mark.Eqv) around nested ts = refl
turn (token.Mark mark.Neqv) around nested ts = refl
turn token.End around nested ts = refl

-- What was looked at before leaves so many nested.
record Looked (around nested : ℕ) (before : List Spanned) : Type 0 where
  pub goes_on : (more : List Token) → deeper around 0 (tokens_of before ++ more) ≡ deeper around nested more

none_deep : (around nested : ℕ) → deeper around nested [] ≡ false
unfolding deeper
none_deep around nested = refl

module _ (around : ℕ) where
  -- what is found from here on, behind what was looked at
  abbrev Found : List Spanned → Option Place → Type 0
  Found all o = MatchOption o (deeper around 0 (tokens_of all) ≡ false) (OpensTooDeep around all)

  looks_on : (nested next : ℕ) (before : List Spanned) (t : Spanned) → Looked around nested before → ((ts : List Token) → deeper around nested (t.token ∷ ts) ≡ deeper around next ts) → Looked around next (before ++ t ∷ [])
  looks_on nested next before t l e = record {
    goes_on = λ more.
        ap (deeper around 0) (ap (λ (x : List Token). x ++ more) (map-append (λ (s : Spanned). s.token) before (t ∷ [])) ∙ append_assoc (tokens_of before) (t.token ∷ []) more)
        ∙ l.goes_on (t.token ∷ more) ∙ e more;
  }

  here : (nested : ℕ) (before : List Spanned) (t : Spanned) (ts : List Spanned) → Looked around nested before → ((more : List Token) → deeper around nested (t.token ∷ more) ≡ true) → OpensTooDeep around (before ++ t ∷ ts) t.place
  here nested before t ts l e = record {
    before = before;
    opening = t;
    behind = ts;
    parts = refl;
    fits = ap (deeper around 0) (sym (append-nil (tokens_of before))) ∙ l.goes_on [] ∙ none_deep around nested;
    is_deeper = ap (deeper around 0) (map-append (λ (s : Spanned). s.token) before (t ∷ [])) ∙ l.goes_on (t.token ∷ []) ∙ e [];
    is_there = refl;
    whole = ap (deeper around 0) (map-append (λ (s : Spanned). s.token) before (t ∷ ts)) ∙ l.goes_on (t.token ∷ tokens_of ts) ∙ e (tokens_of ts);
  }

  nowhere : (nested : ℕ) (before : List Spanned) → Looked around nested before → deeper around 0 (tokens_of (before ++ [])) ≡ false
  nowhere nested before l = ap (λ (x : List Spanned). deeper around 0 (tokens_of x)) (append-nil before) ∙ ap (deeper around 0) (sym (append-nil (tokens_of before))) ∙ l.goes_on [] ∙ none_deep around nested

  behind : (before : List Spanned) (t : Spanned) (ts : List Spanned) (o : Option Place) → Found ((before ++ t ∷ []) ++ ts) o → Found (before ++ t ∷ ts) o
  behind before t ts o f = subst (λ (l : List Spanned). Found l o) (append_assoc before (t ∷ []) ts) f

  looked : (nested : ℕ) (before ts : List Spanned) → Looked around nested before → Found (before ++ ts) (too_deep_at around nested ts)
  unfolding too_deep_at
  looked nested before [] l = nowhere nested before l
  looked nested before (t ∷ ts) l = pick (turn_of t.token) refl (nat_lt deepest (around + suc nested)) refl (λ n k. behind before t ts (too_deep_at around n ts) (looked n (before ++ t ∷ []) ts k))
    where
      turned : (k : Turn) (b : Bool) → turn_of t.token ≡ k → nat_lt deepest (around + suc nested) ≡ b → (more : List Token) → deeper around nested (t.token ∷ more) ≡ by_turn k (cond b true (deeper around (suc nested) more)) (deeper around (fewer nested) more) (deeper around nested more)
      turned k b e f more = turn t.token around nested more
          ∙ ap (λ (x : Turn). by_turn x (cond (nat_lt deepest (around + suc nested)) true (deeper around (suc nested) more)) (deeper around (fewer nested) more) (deeper around nested more)) e
          ∙ ap (λ (x : Bool). by_turn k (cond x true (deeper around (suc nested) more)) (deeper around (fewer nested) more) (deeper around nested more)) f

      pick : (k : Turn) → turn_of t.token ≡ k → (b : Bool) → nat_lt deepest (around + suc nested) ≡ b → ((n : ℕ) → Looked around n (before ++ t ∷ []) → Found (before ++ t ∷ ts) (too_deep_at around n ts))
          → Found (before ++ t ∷ ts) (by_turn k (cond b (Some t.place) (too_deep_at around (suc nested) ts)) (too_deep_at around (fewer nested) ts) (too_deep_at around nested ts))
      pick Opens e true f on = here nested before t ts l (turned Opens true e f)
      pick Opens e false f on = on (suc nested) (looks_on nested (suc nested) before t l (turned Opens false e f))
      pick Closes e b f on = on (fewer nested) (looks_on nested (fewer nested) before t l (turned Closes b e f))
      pick Stays e b f on = on nested (looks_on nested nested before t l (turned Stays b e f))

  pub found : (tokens : List Spanned) → Found tokens (too_deep_at around 0 tokens)
  found tokens = looked 0 [] tokens (record { goes_on = λ more. refl })
