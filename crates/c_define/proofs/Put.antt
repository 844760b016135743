-- What a name puts out.
use Rattle.std.proofs.Common.{Bool, true, false, ◌≡◌, ℕ, ◌+◌, ◌-◌, ◌<◌, ◌≤◌, List, [], ◌∷◌, ◌++◌, map, length, length-append, Some, None, refl, sym, ap, ◌∙◌, arith}
use Rattle.std.proofs.lemmas.List.{length-map}
use Rattle.jf_base.specs.declared.place.Place.{Place}
use Rattle.c_token.specs.declared.token.CToken.{CToken}
use Rattle.c_token.specs.declared.token.CToken.TheVariants.{Id}
use Rattle.c_token.specs.declared.token.CSpanned.{CSpanned}
use Rattle.c_macros.specs.declared.token.Token.{Token}
use Rattle.c_macros.specs.declared.token.Token.TheVariants.{Name}
use Rattle.c_macros.specs.declared.token.Spanned.{Spanned}
use Rattle.c_macros.specs.Expansion.{expansion as number_expansion, all_at as numbers_at}
use Rattle.c_macros.specs.Stack.{Expanded}
use Rattle.c_macros.specs.Keeping.{State}
use Rattle.c_define.specs.Definitions.{Macros}
use Rattle.c_define.specs.Expansion.{expansion, all_at, IsPut}
use Rattle.c_define.specs.Numbers.{number_of, token_at, AreTables, Tables, macros_of, put_out}
use Rattle.c_define.proofs.Named.{number_within}
use Rattle.c_define.proofs.Agree.{told_expansion, name_stays}

pub no_room : (ms : Macros) (x : List ℕ) (limit n : ℕ) → ms.of x ≡ None → limit ≤ n → limit < n + length (expansion ms (Id x ∷ []))
no_room ms x limit n e le = rw (name_stays ms x e) (omega (arith, le))

pub one_put : (ms : Macros) (x : List ℕ) (place : Place) (limit : ℕ) (out out' : List CSpanned) → ms.of x ≡ None → length out < limit → out' ≡ out ++ record { token = Id x; place = place } ∷ [] → IsPut ms x place limit out out'
one_put ms x place limit out out' e lt oe =
    let n = ap length oe in
    let one : CSpanned = record { token = Id x; place = place } in
    record { put = oe ∙ ap (λ l. out ++ all_at place l) (sym (name_stays ms x e)); fits = omega (arith, lt, n, length-append out (one ∷ [])) }

module _ (t : Tables) (h : AreTables t.names t.others t.state) (x : List ℕ) (n : ℕ) (at : number_of t.names x ≡ Some n) where
  abbrev view : Token → CToken
  view u = token_at t.names t.others u

  expands_to : expansion (macros_of t) (Id x ∷ []) ≡ map view (number_expansion t.state.bodies t.state.on (Name n ∷ []))
  expands_to = let w = number_within t.names x n at in ap (λ y. expansion (macros_of t) (Id y ∷ [])) (sym w.1) ∙ told_expansion t h (Name n) w.0

  pub number_over : (limit k : ℕ) → k ≤ limit → limit - k < length (number_expansion t.state.bodies t.state.on (Name n ∷ [])) → limit < k + length (expansion (macros_of t) (Id x ∷ []))
  number_over limit k le lt =
      let e = ap length expands_to ∙ length-map (number_expansion t.state.bodies t.state.on (Name n ∷ [])) view in
      omega (arith, e, le, lt)

  placed : (place : Place) (ts : List Token) → map (put_out t.names t.others) (numbers_at place ts) ≡ all_at place (map view ts)
  placed place [] = refl
  placed place (u ∷ us) = ap (λ l. record { token = view u; place = place } ∷ l) (placed place us)

  pub number_put : (place : Place) (limit : ℕ) (out out' : List CSpanned) (numbers : List Spanned) → length out ≤ limit → numbers ≡ numbers_at place (number_expansion t.state.bodies t.state.on (Name n ∷ [])) → length numbers ≤ limit - length out
      → out' ≡ out ++ map (put_out t.names t.others) numbers → IsPut (macros_of t) x place limit out out'
  number_put place limit out out' numbers le ne few oe =
      let a = ap length oe in
      record {
        put = oe ∙ ap (λ l. out ++ map (put_out t.names t.others) l) ne ∙ ap (λ l. out ++ l) (placed place (number_expansion t.state.bodies t.state.on (Name n ∷ [])) ∙ ap (all_at place) (sym expands_to));
        fits = omega (arith, a, le, few, length-append out (map (put_out t.names t.others) numbers), length-map numbers (put_out t.names t.others));
      }

over_there : (s : State) (place : Place) (limit n : ℕ) (fits : Bool) (on : List Bool) (out : List Spanned) (on' : List Bool) (out' : List Spanned) → fits ≡ false → Expanded s.bodies limit (Name n) place fits on out on' out' → limit < length out + length (number_expansion s.bodies on (Name n ∷ []))
over_there s place limit n false on out on' out' e h = h
over_there s place limit n true on out on' out' e h = cc

-- what the table of macros answers, where nothing was put out before
pub expanded_over : (s : State) (place : Place) (limit n : ℕ) (fits : Bool) (on : List Bool) (out : List Spanned) (on' : List Bool) (out' : List Spanned) → fits ≡ false → out ≡ [] → Expanded s.bodies limit (Name n) place fits on out on' out'
    → limit < length (number_expansion s.bodies on (Name n ∷ []))
expanded_over s place limit n fits on out on' out' e oe h = let lt = over_there s place limit n fits on out on' out' e h in let k = ap length oe in omega (arith, lt, k)

pub expanded_put : (s : State) (place : Place) (limit n : ℕ) (fits : Bool) (on : List Bool) (out : List Spanned) (on' : List Bool) (out' : List Spanned) → fits ≡ true → out ≡ [] → Expanded s.bodies limit (Name n) place fits on out on' out'
    → (out' ≡ numbers_at place (number_expansion s.bodies on (Name n ∷ []))) × (length out' ≤ limit) × (on' ≡ on)
expanded_put s place limit n false on out on' out' e oe h = cc
expanded_put s place limit n true on out on' out' e oe h = (h.put ∙ ap (λ l. l ++ numbers_at place (number_expansion s.bodies on (Name n ∷ []))) oe, h.fits, h.macros)
