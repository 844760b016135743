-- What numbers expand to is what their tokens expand to.
use Rattle.std.proofs.Common.{◌≡◌, ℕ, zero, suc, ◌<◌, Bool, true, false, cond, eqb, List, [], ◌∷◌, map, length, get_or, Option, Some, None, refl, sym, ap, ◌∙◌, get_or-set_other}
use Rattle.std.proofs.Math.ListN.{set}
use Rattle.std.proofs.lemmas.Bool.{eqb-true, eq-eqb}
use Rattle.std.proofs.lemmas.List.{map-append}
use Rattle.std.specs.Str.{bytes_eq}
use Rattle.c_token.specs.declared.token.CToken.{CToken}
use Rattle.c_token.specs.declared.token.CToken.TheVariants.{Id, Number, Text, Byte, Mark}
use Rattle.c_macros.specs.declared.token.Token.{Token}
use Rattle.c_macros.specs.declared.token.Token.TheVariants.{Name, Other}
use Rattle.c_macros.specs.Expansion.{Bodies, Macros as Flags, count, body_of as number_body, without as number_without, along as number_along, among as number_among, behind as number_behind, expansion as number_expansion, Swapping as NumberSwapping, swaps_of, Done as NumberDone}
use Rattle.c_macros.proofs.Functional.{own_name}
use Rattle.c_define.specs.Definitions.{Macro, Names, Macros}
use Rattle.c_define.specs.Expansion.{seen, body_of, without, along, among, expansion, Expanding}
use Rattle.c_define.specs.Numbers.{number_of, token_at, is_id, IsIn, AreIn, AreDistinct, AreTables, Tables, macro_at, macros_of}
use Rattle.c_define.proofs.Named.{same_bytes, bytes_same}

plain_body : (names : Names) (t : CToken) → is_id t ≡ false → body_of names t ≡ None
plain_body names (Id s) e = cc
plain_body names (Number s) e = refl
plain_body names (Text s) e = refl
plain_body names (Byte s) e = refl
plain_body names (Mark m) e = refl

module _ (names : List (List ℕ)) (others : List CToken) (bodies : Bodies) (distinct : AreDistinct names) (in_range : (n : ℕ) → AreIn names others (get_or bodies n [])) where
  abbrev view : Token → CToken
  view t = token_at names others t

  abbrev Agrees : Names → Flags → Type 0
  Agrees ms on = (t : Token) → IsIn names others t → body_of ms (view t) ≡ seen (map view) (number_body bodies on t)

  apart : (m n : ℕ) → m < length names → n < length names → eqb m n ≡ false → bytes_eq (get_or names m []) (get_or names n []) ≡ false
  apart m n lm ln e = pick (bytes_eq (get_or names m []) (get_or names n [])) refl
    where
      pick : (b : Bool) → bytes_eq (get_or names m []) (get_or names n []) ≡ b → bytes_eq (get_or names m []) (get_or names n []) ≡ false
      pick false h = h
      pick true h =
          let same : Some m ≡ Some n = sym (distinct m lm) ∙ ap (number_of names) (same_bytes (get_or names m []) (get_or names n []) h) ∙ distinct n ln in
          let equal : m ≡ n = cc in
          let yes_same = eq-eqb m n equal in cc

  body_within : (on : Flags) (t : Token) (body : List Token) → number_body bodies on t ≡ Some body → AreIn names others body
  unfolding number_body
  body_within on (Other k) body e = cc
  body_within on (Name n) body e = pick (get_or on n false) e
    where
      pick : (b : Bool) → cond b (Some (get_or bodies n [])) None ≡ Some body → AreIn names others body
      pick true e = let same : get_or bodies n [] ≡ body = cc in rw (← same) (in_range n)
      pick false e = cc

  number_other : (on : Flags) (n m : ℕ) → eqb m n ≡ false → number_body bodies (set on n false) (Name m) ≡ number_body bodies on (Name m)
  unfolding number_body
  number_other on n m e = ap (λ b. cond b (Some (get_or bodies m [])) None) (get_or-set_other on n m false false (λ same. let t : eqb m n ≡ true = eq-eqb m n same in cc))

  no_other : (on : Flags) (k : ℕ) → number_body bodies on (Other k) ≡ None
  unfolding number_body
  no_other on k = refl

  still_agrees : (ms : Names) (on : Flags) → Agrees ms on → (t : Token) → IsIn names others t → (body : List Token) → number_body bodies on t ≡ Some body
      → (u : Token) → IsIn names others u → body_of (without ms (view t)) (view u) ≡ seen (map view) (number_body bodies (number_without on t) u)
  still_agrees ms on h (Other k) i body e u j = let none = no_other on k in cc
  still_agrees ms on h (Name n) i body e (Other k) j = plain_body (without ms (view (Name n))) (view (Other k)) j.1 ∙ ap (seen (map view)) (sym (no_other (set on n false) k))
  still_agrees ms on h (Name n) i body e (Name m) j = pick (eqb m n) refl
    where
      pick : (b : Bool) → eqb m n ≡ b → body_of (without ms (view (Name n))) (view (Name m)) ≡ seen (map view) (number_body bodies (set on n false) (Name m))
      pick true be =
          let same = eqb-true m n be in
          rw same (rw (bytes_same (get_or names n [])) (ap (seen (map view)) (sym (own_name bodies on (Name n)))))
      pick false be = rw (apart m n j i be) (h (Name m) j ∙ ap (seen (map view)) (sym (number_other on n m be)))

  abbrev Inside : Expanding → NumberSwapping → Type 0
  Inside inner inner' = (ms : Names) (on : Flags) → Agrees ms on → (ts : List Token) → AreIn names others ts → inner ms (map view ts) ≡ map view (number_behind (inner' on ts))

  one_stays : (inner : Expanding) (inner' : NumberSwapping) (ms : Names) (on : Flags) (t : Token) (ts : List Token) → body_of ms (view t) ≡ None → number_body bodies on t ≡ None
      → along inner ms (map view ts) ≡ map view (number_behind (number_along bodies inner' on ts))
      → along inner ms (map view (t ∷ ts)) ≡ map view (number_behind (number_along bodies inner' on (t ∷ ts)))
  unfolding along number_along
  one_stays inner inner' ms on t ts e f ih = rw (e, f) (ap (λ l. view t ∷ l) ih)

  one_swapped : (inner : Expanding) (inner' : NumberSwapping) (ms : Names) (on : Flags) (t : Token) (ts body : List Token) → body_of ms (view t) ≡ Some (map view body) → number_body bodies on t ≡ Some body
      → inner (without ms (view t)) (map view body) ≡ map view (number_behind (inner' (number_without on t) body))
      → along inner ms (map view ts) ≡ map view (number_behind (number_along bodies inner' on ts))
      → along inner ms (map view (t ∷ ts)) ≡ map view (number_behind (number_along bodies inner' on (t ∷ ts)))
  unfolding along number_along
  one_swapped inner inner' ms on t ts body e f g ih = rw (e, f) (rw (g, ih) (sym (map-append view (number_behind (inner' (number_without on t) body)) (number_behind (number_along bodies inner' on ts)))))

  none_left : (inner : Expanding) (inner' : NumberSwapping) (ms : Names) (on : Flags) → along inner ms [] ≡ map view (number_behind (number_along bodies inner' on []))
  unfolding along number_along
  none_left inner inner' ms on = refl

  along_agrees : (inner : Expanding) (inner' : NumberSwapping) → Inside inner inner' → (ms : Names) (on : Flags) → Agrees ms on → (ts : List Token) → AreIn names others ts
      → along inner ms (map view ts) ≡ map view (number_behind (number_along bodies inner' on ts))
  along_agrees inner inner' g ms on h [] a = none_left inner inner' ms on
  along_agrees inner inner' g ms on h (t ∷ ts) a = pick (number_body bodies on t) refl (along_agrees inner inner' g ms on h ts a.1)
    where
      pick : (o : Option (List Token)) → number_body bodies on t ≡ o → along inner ms (map view ts) ≡ map view (number_behind (number_along bodies inner' on ts))
          → along inner ms (map view (t ∷ ts)) ≡ map view (number_behind (number_along bodies inner' on (t ∷ ts)))
      pick None e ih = one_stays inner inner' ms on t ts (h t a.0 ∙ ap (seen (map view)) e) e ih
      pick (Some body) e ih =
          one_swapped inner inner' ms on t ts body (h t a.0 ∙ ap (seen (map view)) e) e
          (g (without ms (view t)) (number_without on t) (still_agrees ms on h t a.0 body e) body (body_within on t body e)) ih

  among_agrees : (k : ℕ) → Inside (among k) (number_among bodies k)
  unfolding among number_among
  among_agrees zero = along_agrees (λ ms ts. []) (λ on ts. NumberDone) (λ ms on h ts a. refl)
  among_agrees (suc k) = along_agrees (among k) (number_among bodies k) (among_agrees k)

  pub expansion_agrees : (ms : Macros) (on : Flags) → ms.size ≡ count on → Agrees ms.of on → (ts : List Token) → AreIn names others ts → expansion ms (map view ts) ≡ map view (number_expansion bodies on ts)
  unfolding expansion number_expansion swaps_of
  expansion_agrees ms on s h ts a = rw s (among_agrees (count on) ms.of on h ts a)

seen_chosen : (view : Token → CToken) (b : Bool) (body : List Token) (m : Macro) → m.body ≡ map view body → seen (λ (x : Macro). x.body) (cond b (Some m) None) ≡ seen (map view) (cond b (Some body) None)
seen_chosen view true body m e = ap Some e
seen_chosen view false body m e = refl

tables_agree : (t : Tables) → AreTables t.names t.others t.state → (u : Token) → IsIn t.names t.others u → body_of (macros_of t).of (token_at t.names t.others u) ≡ seen (map (token_at t.names t.others)) (number_body t.state.bodies t.state.on u)
unfolding number_body
tables_agree t h (Other k) i = plain_body (macros_of t).of (token_at t.names t.others (Other k)) i.1
tables_agree t h (Name n) i =
    ap (λ o. seen (λ (m : Macro). m.body) (macro_at t o)) (h.distinct n i)
    ∙ seen_chosen (token_at t.names t.others) (get_or t.state.on n false) (get_or t.state.bodies n []) (record { body = map (token_at t.names t.others) (get_or t.state.bodies n []); written = get_or t.written n [] }) refl

-- what a number in the tables expands to
pub told_expansion : (t : Tables) → AreTables t.names t.others t.state → (u : Token) → IsIn t.names t.others u
    → expansion (macros_of t) (token_at t.names t.others u ∷ []) ≡ map (token_at t.names t.others) (number_expansion t.state.bodies t.state.on (u ∷ []))
told_expansion t h u i = expansion_agrees t.names t.others t.state.bodies h.distinct h.bodies (macros_of t) t.state.on refl (tables_agree t h) (u ∷ []) (i, tt)

-- a name that is no macro stays
pub name_stays : (ms : Macros) (x : List ℕ) → ms.of x ≡ None → expansion ms (Id x ∷ []) ≡ Id x ∷ []
unfolding expansion among along
name_stays ms x e = pick ms.size
  where
    pick : (k : ℕ) → among k ms.of (Id x ∷ []) ≡ Id x ∷ []
    pick zero = rw e refl
    pick (suc k) = rw e refl
