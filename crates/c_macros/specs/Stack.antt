-- The macros that are being replaced, the innermost first.
use Rattle.std.specs.Prelude.{◌≡◌, ℕ, ◌+◌, ◌≤◌, ◌<◌, List, [], ◌∷◌, ◌++◌, map, length, drop, Bool, true, false, slice_index_or, slice_set, Vec}
use Rattle.std.specs.declared.alloc.Global.{Global}
use Rattle.c_macros.specs.declared.token.Token.{Token}
use Rattle.jf_base.specs.declared.place.Place.{Place}
use Rattle.c_macros.specs.declared.token.Spanned.{Spanned}
use Rattle.c_macros.specs.declared.expander.Frame.{Frame}
use Rattle.c_macros.specs.Expansion.{Bodies, Macros, expansion, swaps_of, cost, all_at}

-- the bodies that a table holds
abbrev pub texts : List (Vec Token Global) → Bodies
texts bodies = map (λ v. v.items) bodies

-- the tokens that a replacement has yet to take
abbrev pub left_of : Bodies → Frame → List Token
left_of bodies f = drop f.at (slice_index_or bodies f.name [])

-- what is still to come
abbrev pub remaining : Bodies → Macros → List Frame → List Token
remaining bodies on [] = []
remaining bodies on (f ∷ fs) = expansion bodies on (left_of bodies f) ++ remaining bodies (slice_set on f.name true) fs

-- in how many steps at most
abbrev pub load : Bodies → Macros → List Frame → ℕ
load bodies on [] = 0
load bodies on (f ∷ fs) = 1 + cost (swaps_of bodies on (left_of bodies f)) + load bodies (slice_set on f.name true) fs

-- the macros when all is done
abbrev pub at_end : Macros → List Frame → Macros
at_end on [] = on
at_end on (f ∷ fs) = at_end (slice_set on f.name true) fs

-- all tokens that are put out in the end
abbrev pub whole : Bodies → Place → Macros → List Frame → List Spanned → List Spanned
whole bodies place on stack out = out ++ all_at place (remaining bodies on stack)

pub record Moves (bodies : Bodies) (limit : ℕ) (token : Token) (place : Place) (on : Macros) (stack : List Frame) (out : List Spanned) (on' : Macros) (stack' : List Frame) (out' : List Spanned) : Type 0 where
  pub same_end : at_end on' stack' ≡ at_end on stack
  pub same_whole : whole bodies place on' stack' out' ≡ out ++ (all_at place (expansion bodies on (token ∷ [])) ++ all_at place (remaining bodies on stack))
  pub less : load bodies on' stack' < cost (swaps_of bodies on (token ∷ [])) + load bodies on stack
  pub fits : length out ≤ limit → length out' ≤ limit

pub record IsFull (bodies : Bodies) (limit : ℕ) (token : Token) (on : Macros) (out : List Spanned) : Type 0 where
  pub no_room : limit ≤ length out
  pub stays : expansion bodies on (token ∷ []) ≡ token ∷ []

-- what a token that is met does
abbrev pub Steps : Bodies → ℕ → Token → Place → Bool → Macros → List Frame → List Spanned → Macros → List Frame → List Spanned → Type 0
Steps bodies limit token place true on stack out on' stack' out' = Moves bodies limit token place on stack out on' stack' out'
Steps bodies limit token place false on stack out on' stack' out' = IsFull bodies limit token on out

pub record IsPut (bodies : Bodies) (limit : ℕ) (token : Token) (place : Place) (on : Macros) (out : List Spanned) (on' : Macros) (out' : List Spanned) : Type 0 where
  pub macros : on' ≡ on
  pub put : out' ≡ out ++ all_at place (expansion bodies on (token ∷ []))
  pub fits : length out' ≤ limit

-- what a token expands to is put out, or is too much
abbrev pub Expanded : Bodies → ℕ → Token → Place → Bool → Macros → List Spanned → Macros → List Spanned → Type 0
Expanded bodies limit token place true on out on' out' = IsPut bodies limit token place on out on' out'
Expanded bodies limit token place false on out on' out' = limit < length out + length (expansion bodies on (token ∷ []))

-- what holds while a token is replaced
pub record Running (bodies : Bodies) (limit : ℕ) (token : Token) (place : Place) (on0 : Macros) (out0 : List Spanned) (on : Macros) (stack : List Frame) (out : List Spanned) : Type 0 where
  pub same_end : at_end on stack ≡ on0
  pub same_whole : whole bodies place on stack out ≡ out0 ++ all_at place (expansion bodies on0 (token ∷ []))
  pub fits : length out ≤ limit
