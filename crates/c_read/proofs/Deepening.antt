-- The first token that opens a nesting too many is found, and only it.
use Rattle.std.proofs.Common.{◌≡◌, ℕ, suc, ◌+◌, ◌-◌, ◌≤◌, ◌<◌, Bool, true, false, cond, ltb, List, [], ◌∷◌, ◌++◌, length, Option, Some, None, refl, sym, ap, subst, ◌∙◌, arith, ⊎_elim}
use Rattle.std.specs.Prelude.{MatchOption}
use Rattle.std.proofs.lemmas.Bool.{lt-ltb, ltb-true, cases_lt}
use Rattle.std.proofs.lemmas.List.{length-append}
use Rattle.c_grammar.specs.declared.token.Token.{Token}
use Rattle.c_grammar.specs.declared.token.Token.TheVariants as token
use Rattle.c_external_read.specs.Files.{deepest}
use Rattle.c_read.specs.Nesting.{opens, closes, ends, fewer, turned, open_behind, GoesOn, OpensTooDeep, too_deep_at}

abbrev pub Found : ℕ → List Token → Option ℕ → Type 0
Found nested ts o = MatchOption o ((left : ℕ) → OpensTooDeep nested ts left → ⊥) (OpensTooDeep nested ts)

-- a token that opens one ends no declaration
no_end : (nested : ℕ) (t : Token) → opens t ≡ true → ends nested t ≡ false
no_end nested token.Semi e = absurd cc
no_end nested token.BraceClose e = absurd cc
no_end nested _ e = refl

head_is : (t u : Token) (ts us : List Token) → t ∷ ts ≡ u ∷ us → t ≡ u
head_is t u ts us e = cc

tail_is : (t u : Token) (ts us : List Token) → t ∷ ts ≡ u ∷ us → ts ≡ us
tail_is t u ts us e = cc

-- where no more may open, as many are open as may be
is_full : (nested : ℕ) → ltb nested deepest ≡ false → nested ≤ deepest → nested ≡ deepest
is_full nested e le = ⊎_elim (λ lt. let no = sym (lt-ltb nested deepest lt) ∙ e in absurd cc) (λ ge. omega (arith, ge, le)) (cases_lt nested deepest)

fewer_fits : (nested : ℕ) (t : Token) → nested ≤ deepest → fewer nested t ≤ deepest
fewer_fits nested t le = pick (closes t)
  where
    pick : (b : Bool) → cond b (nested - 1) nested ≤ deepest
    pick true = omega (arith, le)
    pick false = le

module _ (nested : ℕ) (t : Token) (ts : List Token) where
  -- what is found behind a token over which the declaration goes on
  further : (left : ℕ) → ends nested t ≡ false → turned nested t ≤ deepest → OpensTooDeep (turned nested t) ts left → OpensTooDeep nested (t ∷ ts) left
  further left e le o = record {
    before = t ∷ o.before;
    opening = o.opening;
    behind = o.behind;
    parts = ap (λ (us : List Token). t ∷ us) o.parts;
    goes_on = (e, le, o.goes_on);
    full = o.full;
    opens_one = o.opens_one;
    counted = o.counted;
  }

  first : opens t ≡ true → nested ≡ deepest → OpensTooDeep nested (t ∷ ts) (length ts)
  first e full = record { before = []; opening = t; behind = ts; parts = refl; goes_on = tt; full = full; opens_one = e; counted = refl }

  -- and back: the declaration goes on over a token that isn't the one
  back : (left : ℕ) (before : List Token) (opening : Token) (behind : List Token) → t ∷ ts ≡ before ++ opening ∷ behind → GoesOn nested before → open_behind nested before ≡ deepest → opens opening ≡ true → left ≡ length behind → (opens t ≡ true → nested ≡ deepest → ⊥) → (ends nested t ≡ false) × (turned nested t ≤ deepest) × OpensTooDeep (turned nested t) ts left
  back left [] opening behind p g f o c not_here = absurd (not_here (ap opens (head_is t opening ts behind p) ∙ o) f)
  back left (b ∷ bs) opening behind p g f o c not_here =
      subst (λ (u : Token). (ends nested u ≡ false) × (turned nested u ≤ deepest) × OpensTooDeep (turned nested u) ts left) (sym (head_is t b ts (bs ++ opening ∷ behind) p))
      (g.0, g.1, record { before = bs; opening = opening; behind = behind; parts = tail_is t b ts (bs ++ opening ∷ behind) p; goes_on = g.2; full = f; opens_one = o; counted = c })

  goes_back : (left : ℕ) → OpensTooDeep nested (t ∷ ts) left → (opens t ≡ true → nested ≡ deepest → ⊥) → (ends nested t ≡ false) × (turned nested t ≤ deepest) × OpensTooDeep (turned nested t) ts left
  goes_back left o not_here = back left o.before o.opening o.behind o.parts o.goes_on o.full o.opens_one o.counted not_here

  step : (n : ℕ) → turned nested t ≡ n → ends nested t ≡ false → n ≤ deepest → (opens t ≡ true → nested ≡ deepest → ⊥) → (o : Option ℕ) → Found n ts o → Found nested (t ∷ ts) o
  step n e1 e2 le not_here None none = λ left o. let r = goes_back left o not_here in none left (subst (λ (m : ℕ). OpensTooDeep m ts left) e1 r.2)
  step n e1 e2 le not_here (Some left) o = further left e2 (subst (λ (m : ℕ). m ≤ deepest) (sym e1) le) (subst (λ (m : ℕ). OpensTooDeep m ts left) (sym e1) o)

  turns : (b : Bool) → opens t ≡ b → turned nested t ≡ cond b (suc nested) (fewer nested t)
  turns b e = ap (λ (c : Bool). cond c (suc nested) (fewer nested t)) e

  pick : (b : Bool) → opens t ≡ b → (c : Bool) → ltb nested deepest ≡ c → (d : Bool) → ends nested t ≡ d → nested ≤ deepest → ((n : ℕ) → n ≤ deepest → Found n ts (too_deep_at n ts))
      → Found nested (t ∷ ts) (cond b (cond c (too_deep_at (suc nested) ts) (Some (length ts))) (cond d None (too_deep_at (fewer nested t) ts)))
  pick true e true f d g le on =
      let lt = ltb-true nested deepest f in
      step (suc nested) (turns true e) (no_end nested t e) (omega (arith, lt)) (λ _ full. omega (arith, lt, full)) (too_deep_at (suc nested) ts) (on (suc nested) (omega (arith, lt)))
  pick true e false f d g le on = first e (is_full nested f le)
  pick false e c f true g le on = λ left o. let r = goes_back left o (λ opening full. let no = sym opening ∙ e in absurd cc) in let no = sym g ∙ r.0 in absurd cc
  pick false e c f false g le on = step (fewer nested t) (turns false e) g (fewer_fits nested t le) (λ opening full. let no = sym opening ∙ e in absurd cc) (too_deep_at (fewer nested t) ts) (on (fewer nested t) (fewer_fits nested t le))

pub found : (nested : ℕ) (ts : List Token) → nested ≤ deepest → Found nested ts (too_deep_at nested ts)
unfolding too_deep_at
found nested [] le = λ left o. omega (arith, ap length o.parts, length-append o.before (o.opening ∷ o.behind))
found nested (t ∷ ts) le = pick nested t ts (opens t) refl (ltb nested deepest) refl (ends nested t) refl le (λ n l. found n ts l)

-- one that opens a nesting too many is among the tokens
pub inside : (nested : ℕ) (ts : List Token) (left : ℕ) → OpensTooDeep nested ts left → left < length ts
inside nested ts left o = omega (arith, ap length o.parts, length-append o.before (o.opening ∷ o.behind), o.counted)
