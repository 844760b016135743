-- Names and other tokens by their numbers in tables.
use Rattle.std.specs.Prelude.{◌≡◌, ℕ, suc, ◌<◌, ◌≤◌, List, [], ◌∷◌, ◌++◌, map, length, Option, Some, None, Bool, true, false, if◌then◌else◌, slice_index_or}
use Rattle.std.specs.Str.{bytes_eq}
use Rattle.c_token.specs.declared.mark.Mark.TheVariants as mark
use Rattle.c_token.specs.declared.token.CToken.{CToken}
use Rattle.c_token.specs.declared.token.CToken.TheVariants.{Id, Mark}
use Rattle.c_macros.specs.declared.token.Token.{Token}
use Rattle.c_macros.specs.declared.token.Token.TheVariants.{Name, Other}
use Rattle.c_macros.specs.declared.token.Spanned.{Spanned}
use Rattle.c_token.specs.declared.token.CSpanned.{CSpanned}
use Rattle.c_macros.specs.Expansion.{count}
use Rattle.c_macros.specs.Keeping.{State}
use Rattle.c_define.specs.declared.definitions.Written.{Written}
use Rattle.c_define.specs.Definitions.{Macro, Macros}
use Rattle.c_define.specs.Expansion.{seen}

-- the number of a name, which is its index
unfoldable pub number_of : List (List ℕ) → List ℕ → Option ℕ
number_of [] name = None
number_of (k ∷ ks) name = if bytes_eq name k then Some 0 else seen (λ n. suc n) (number_of ks name)

-- the token that a number stands for; past the tables it is none that is met
abbrev pub token_at : List (List ℕ) → List CToken → Token → CToken
token_at names others (Name n) = Id (slice_index_or names n [])
token_at names others (Other k) = slice_index_or others k (Mark mark.Comma)

abbrev pub is_id : CToken → Bool
is_id (Id name) = true
is_id _ = false

-- the token is in the tables
abbrev pub IsIn : List (List ℕ) → List CToken → Token → Type 0
IsIn names others (Name n) = n < length names
IsIn names others (Other k) = (k < length others) × (is_id (token_at names others (Other k)) ≡ false)

abbrev pub AreIn : List (List ℕ) → List CToken → List Token → Type 0
AreIn names others [] = Unit {0}
AreIn names others (t ∷ ts) = IsIn names others t × AreIn names others ts

-- each name has its own number
abbrev pub AreDistinct : List (List ℕ) → Type 0
AreDistinct names = (n : ℕ) → n < length names → number_of names (slice_index_or names n []) ≡ Some n

-- what the program keeps of the macros: the names and the other tokens that have numbers, and of each number how its replacement list was written, its body,
-- and whether it is a macro
pub record Tables : Type 0 where
  pub names : List (List ℕ)
  pub others : List CToken
  pub written : List (List Written)
  pub state : State

pub record AreTables (names : List (List ℕ)) (others : List CToken) (state : State) : Type 0 where
  pub distinct : AreDistinct names
  pub bodies : (n : ℕ) → AreIn names others (slice_index_or state.bodies n [])
  pub named : length state.on ≤ length names

abbrev pub macro_at : Tables → Option ℕ → Option Macro
macro_at t None = None
macro_at t (Some n) = if slice_index_or t.state.on n false
    then Some (record { body = map (token_at t.names t.others) (slice_index_or t.state.bodies n []); written = slice_index_or t.written n [] }) else None

-- the macros that the tables tell
abbrev pub macros_of : Tables → Macros
macros_of t = record { of = λ name. macro_at t (number_of t.names name); size = count t.state.on }

-- tables with more behind them
pub record Wider (names : List (List ℕ)) (others : List CToken) (names' : List (List ℕ)) (others' : List CToken) : Type 0 where
  pub more_names : List (List ℕ)
  pub more_others : List CToken
  pub names_are : names' ≡ names ++ more_names
  pub others_are : others' ≡ others ++ more_others
  pub distinct : AreDistinct names → AreDistinct names'

-- the numbers stand for these tokens
pub record AreNumbers (names : List (List ℕ)) (others : List CToken) (tokens : List CToken) (numbers : List Token) : Type 0 where
  pub are_in : AreIn names others numbers
  pub tokens_are : map (token_at names others) numbers ≡ tokens

-- the token that a number and a place stand for
abbrev pub put_out : List (List ℕ) → List CToken → Spanned → CSpanned
put_out names others s = record { token = token_at names others s.token; place = s.place }
