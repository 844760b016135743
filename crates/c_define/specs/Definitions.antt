-- The object macros of a text (ISO/IEC 9899:2011, 6.10.3).
use Rattle.std.specs.Prelude.{◌≡◌, ℕ, ◌+◌, ◌-◌, List, [], ◌∷◌, Option, Some, None, is_some, Bool, true, false, not, ◌&&◌, if◌then◌else◌}
use Rattle.std.specs.Str.{bytes_eq}
use Rattle.c_token.specs.declared.token.CToken.{CToken}
use Rattle.c_define.specs.declared.definitions.Written.{Written}

-- what a macro's name is replaced by, and how its replacement list was written
pub record Macro : Type 0 where
  pub body : List CToken
  pub written : List Written

-- which names are macros
abbrev pub Names : Type 0
Names = List ℕ → Option Macro

-- which names are macros, and how many they are
pub record Macros : Type 0 where
  pub of : Names
  pub size : ℕ

abbrev pub no_macros : Macros
no_macros = record { of = λ name. None; size = 0 }

-- where a name that was no macro is this one
abbrev pub defined : Macros → List ℕ → Macro → Macros
defined ms name m = record { of = λ other. if bytes_eq other name then Some m else ms.of other; size = ms.size + 1 }

-- where a name is no macro (6.10.3.5)
abbrev pub undefined : Macros → List ℕ → Macros
undefined ms name = record { of = λ other. if bytes_eq other name then None else ms.of other; size = if is_some (ms.of name) then ms.size - 1 else ms.size }

abbrev pub same_flag : Bool → Bool → Bool
same_flag a b = if b then a else not a

-- the same spelling, and white space before both or neither
abbrev pub is_same_token : Written → Written → Bool
is_same_token a b = bytes_eq a.spelling b.spelling && same_flag a.after_blank b.after_blank

-- two replacement lists have the same number of tokens with the same spellings, and white space before the same of them (6.10.3p1)
unfoldable pub same_written : List Written → List Written → Bool
same_written [] [] = true
same_written [] (b ∷ ys) = false
same_written (a ∷ xs) [] = false
same_written (a ∷ xs) (b ∷ ys) = is_same_token a b && same_written xs ys

-- the macros that definitions make
pub data Made : Macros → Type 0 where
  MadeNone : Made no_macros
  MadeDefined : (ms : Macros) (name : List ℕ) (m : Macro) → Made ms → ms.of name ≡ None → Made (defined ms name m)
  MadeUndefined : (ms : Macros) (name : List ℕ) → Made ms → Made (undefined ms name)
