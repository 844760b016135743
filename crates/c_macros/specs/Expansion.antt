-- What a list of tokens expands to (ISO/IEC 9899:2011, 6.10.3 and 6.10.3.4).
use Rattle.std.specs.Prelude.{◌≡◌, ℕ, zero, suc, ◌+◌, List, [], ◌∷◌, ◌++◌, map, Option, Some, None, Bool, false, if◌then◌else◌, slice_index_or, slice_set}
use Rattle.c_macros.specs.declared.token.Token.{Token}
use Rattle.c_macros.specs.declared.token.Token.TheVariants.{Name, Other}
use Rattle.jf_base.specs.declared.place.Place.{Place}
use Rattle.c_macros.specs.declared.token.Spanned.{Spanned}

-- The bodies of the names, and which names are macros here.
abbrev pub Bodies : Type 0
Bodies = List (List Token)

abbrev pub Macros : Type 0
Macros = List Bool

-- what stands for a token
unfoldable pub body_of : Bodies → Macros → Token → Option (List Token)
body_of bodies on (Name n) = if slice_index_or on n false then Some (slice_index_or bodies n []) else None
body_of bodies on (Other c) = None

-- the macros without the one that a token names
abbrev pub without : Macros → Token → Macros
without on (Name n) = slice_set on n false
without on (Other c) = on

-- how a list of tokens is replaced: its first token stays, or is swapped for what its body gives
pub data Swaps : Type 0 where
  Done : Swaps
  Stay : (t : Token) (rest : Swaps) → Swaps
  Swap : (t : Token) (inner rest : Swaps) → Swaps

-- the tokens before
abbrev pub before : Swaps → List Token
before Done = []
before (Stay t rest) = t ∷ before rest
before (Swap t inner rest) = t ∷ before rest

-- the tokens behind
abbrev pub behind : Swaps → List Token
behind Done = []
behind (Stay t rest) = t ∷ behind rest
behind (Swap t inner rest) = behind inner ++ behind rest

-- a token stays exactly where no macro has its name, and a macro's body is replaced where that macro isn't one
abbrev pub Obeys : Bodies → Macros → Swaps → Type 0
Obeys bodies on Done = Unit {0}
Obeys bodies on (Stay t rest) = (body_of bodies on t ≡ None) × Obeys bodies on rest
Obeys bodies on (Swap t inner rest) = (body_of bodies on t ≡ Some (before inner)) × Obeys bodies (without on t) inner × Obeys bodies on rest

-- the relation between tokens and what they expand to
pub record Expands (bodies : Bodies) (on : Macros) (tokens out : List Token) : Type 0 where
  pub swaps : Swaps
  pub obeys : Obeys bodies on swaps
  pub from : tokens ≡ before swaps
  pub to : out ≡ behind swaps

-- ---- the same as a function

abbrev pub choose : {A B : Type 0} → Option A → B → (A → B) → B
choose None none some = none
choose (Some x) none some = some x

-- how many names are macros
unfoldable pub count : Macros → ℕ
count [] = 0
count (b ∷ bs) = if b then suc (count bs) else count bs

abbrev pub Swapping : Type 0
Swapping = Macros → List Token → Swaps

unfoldable pub along : Bodies → Swapping → Swapping
along bodies inside on [] = Done
along bodies inside on (t ∷ ts) = choose (body_of bodies on t) (Stay t (along bodies inside on ts)) (λ body. Swap t (inside (without on t) body) (along bodies inside on ts))

-- where so many names are macros at most
unfoldable pub among : Bodies → ℕ → Swapping
among bodies zero = along bodies (λ on ts. Done)
among bodies (suc k) = along bodies (among bodies k)

unfoldable pub swaps_of : Bodies → Macros → List Token → Swaps
swaps_of bodies on ts = among bodies (count on) on ts

-- what a list of tokens expands to
unfoldable pub expansion : Bodies → Macros → List Token → List Token
expansion bodies on ts = behind (swaps_of bodies on ts)

-- tokens that all stand for one place
abbrev pub all_at : Place → List Token → List Spanned
all_at place ts = map (λ t. record { token = t; place = place }) ts

-- how many steps it takes
unfoldable pub cost : Swaps → ℕ
cost Done = 0
cost (Stay t rest) = 1 + cost rest
cost (Swap t inner rest) = 2 + cost inner + cost rest
