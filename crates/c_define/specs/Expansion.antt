-- What a list of tokens expands to, as a function (ISO/IEC 9899:2011, 6.10.3 and 6.10.3.4). That it is the relation of `Rescanning` is a law of the crate.
use Rattle.std.specs.Prelude.{◌≡◌, ℕ, zero, suc, ◌+◌, ◌<◌, ◌≤◌, List, [], ◌∷◌, ◌++◌, map, length, Option, Some, None, Bool, true, false, if◌then◌else◌}
use Rattle.std.specs.Str.{bytes_eq}
use Rattle.jf_base.specs.declared.place.Place.{Place}
use Rattle.c_token.specs.declared.token.CToken.{CToken}
use Rattle.c_token.specs.declared.token.CToken.TheVariants.{Id}
use Rattle.c_token.specs.declared.token.CSpanned.{CSpanned}
use Rattle.c_define.specs.Definitions.{Names, Macros}

abbrev pub seen : {X Y : Type 0} → (X → Y) → Option X → Option Y
seen view None = None
seen view (Some x) = Some (view x)

-- what stands for a token
abbrev pub body_of : Names → CToken → Option (List CToken)
body_of names (Id name) = seen (λ m. m.body) (names name)
body_of names _ = None

-- the macros without the one that a token names
abbrev pub without : Names → CToken → Names
without names (Id name) = λ other. if bytes_eq other name then None else names other
without names _ = names

abbrev pub choose : {A B : Type 0} → Option A → B → (A → B) → B
choose None none some = none
choose (Some x) none some = some x

abbrev pub Expanding : Type 0
Expanding = Names → List CToken → List CToken

-- a token that isn't the name of a macro stays, and a macro's body is expanded where that macro isn't one
unfoldable pub along : Expanding → Expanding
along inside names [] = []
along inside names (t ∷ ts) = choose (body_of names t) (t ∷ along inside names ts) (λ body. inside (without names t) body ++ along inside names ts)

-- where so many names are macros at most
unfoldable pub among : ℕ → Expanding
among zero = along (λ names ts. [])
among (suc k) = along (among k)

-- what a list of tokens expands to
unfoldable pub expansion : Macros → List CToken → List CToken
expansion ms ts = among ms.size ms.of ts

-- tokens that all stand for one place
abbrev pub all_at : Place → List CToken → List CSpanned
all_at place ts = map (λ t. record { token = t; place = place }) ts

pub record IsPut (ms : Macros) (name : List ℕ) (place : Place) (limit : ℕ) (out out' : List CSpanned) : Type 0 where
  pub put : out' ≡ out ++ all_at place (expansion ms (Id name ∷ []))
  pub fits : length out' ≤ limit

-- what a name expands to is put out, or is too much
abbrev pub Expanded : Macros → List ℕ → Place → ℕ → Bool → List CSpanned → List CSpanned → Type 0
Expanded ms name place limit true out out' = IsPut ms name place limit out out'
Expanded ms name place limit false out out' = limit < length out + length (expansion ms (Id name ∷ []))
