-- Where parentheses, brackets and braces nest too deep in an external declaration that has no form.
use Rattle.std.specs.Prelude.{◌≡◌, ℕ, suc, ◌-◌, ◌≤◌, List, [], ◌∷◌, ◌++◌, length, drop, Option, Some, None, Bool, true, false, ltb, ◌==◌, if◌then◌else◌}
use Rattle.c_grammar.specs.declared.token.Token.{Token}
use Rattle.c_grammar.specs.declared.token.Token.TheVariants as token
use Rattle.c_grammar.specs.declared.fault.Kind.{Kind}
use Rattle.c_grammar.specs.declared.fault.Kind.TheVariants.{Form, Deep}
use Rattle.c_external_read.specs.declared.file.BrokenExternal.{BrokenExternal}
use Rattle.c_external_read.specs.Files.{deepest}

abbrev pub opens : Token → Bool
opens token.Open = true
opens token.SquareOpen = true
opens token.BraceOpen = true
opens _ = false

abbrev pub closes : Token → Bool
closes token.Close = true
closes token.SquareClose = true
closes token.BraceClose = true
closes _ = false

-- Where so many are open, whether the declaration ends with this token: a semicolon outside all of them, or a brace that leaves none open.
abbrev pub ends : ℕ → Token → Bool
ends nested token.Semi = nested == 0
ends nested token.BraceClose = ltb nested 2
ends nested _ = false

-- how many are open behind a token that opens none
abbrev pub fewer : ℕ → Token → ℕ
fewer nested t = if closes t then nested - 1 else nested

-- and behind any token
abbrev pub turned : ℕ → Token → ℕ
turned nested t = if opens t then suc nested else fewer nested t

abbrev pub open_behind : ℕ → List Token → ℕ
open_behind nested [] = nested
open_behind nested (t ∷ ts) = open_behind (turned nested t) ts

-- a declaration goes on over these tokens: none ends it, and none opens a nesting too many
abbrev pub GoesOn : ℕ → List Token → Type 0
GoesOn nested [] = Unit {0}
GoesOn nested (t ∷ ts) = (ends nested t ≡ false) × (turned nested t ≤ deepest) × GoesOn (turned nested t) ts

-- Where so many are open, the declaration that goes on with these tokens has one that opens a nesting too many, behind which so many are left.
pub record OpensTooDeep (nested : ℕ) (ts : List Token) (left : ℕ) : Type 0 where
  pub before : List Token
  pub opening : Token
  pub behind : List Token
  pub parts : ts ≡ before ++ opening ∷ behind
  pub goes_on : GoesOn nested before
  pub full : open_behind nested before ≡ deepest
  pub opens_one : opens opening ≡ true
  pub counted : left ≡ length behind

-- ---- one token behind the other

-- where so many are open, how many tokens are left behind the first that opens one too many
unfoldable pub too_deep_at : ℕ → List Token → Option ℕ
too_deep_at nested [] = None
too_deep_at nested (t ∷ ts) = if opens t then (if ltb nested deepest then too_deep_at (suc nested) ts else Some (length ts)) else if ends nested t then None else too_deep_at (fewer nested t) ts

-- nesting is told before the form
abbrev pub nested_by : BrokenExternal → Option ℕ → BrokenExternal
nested_by b None = b
nested_by b (Some left) = record { left = b.left; fault = record { kind = Deep; left = left } }

abbrev pub told_by : Kind → List Token → BrokenExternal → BrokenExternal
told_by Form words b = nested_by b (too_deep_at 0 (drop (length words - b.left) words))
told_by Deep words b = b

-- what is told of an external declaration that is broken among these words
abbrev pub told_of : List Token → BrokenExternal → BrokenExternal
told_of words b = told_by b.fault.kind words b
