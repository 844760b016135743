-- Where a file breaks its first rule.
use Rattle.std.specs.Prelude.{◌≡◌, ℕ, ◌+◌, ◌-◌, List, [], length, slice_get, Some, Err}
use Rattle.jf_base.specs.declared.place.Place.{Place}
use Rattle.jf_base.specs.declared.tag.Tag.{Tag}
use Rattle.c_token.specs.declared.token.CSpanned.{CSpanned}
use Rattle.c_grammar.specs.declared.token.Token.{Token}
use Rattle.c_grammar.specs.declared.fault.Kind.TheVariants.{Form, Deep}
use Rattle.c_grammar.specs.Grammar.{Scope}
use Rattle.c_unit_grammar.specs.Statements.{Ext, spell_ext, FitsExt, spell_exts, after_exts, FitsExts}
use Rattle.c_unit_grammar.specs.Reading.{ext_at}
use Rattle.c_external_read.specs.Files.{deepest}
use Rattle.c_read.specs.Nesting.{OpensTooDeep}
use Rattle.c_read.specs.Reading.{File, words_in, places_in, tag_of}

-- the word with this number stands there
abbrev pub StandsAt : List CSpanned → ℕ → Place → Type 0
StandsAt tokens number place = slice_get (places_in tokens) number ≡ Some place

-- behind such names no external declaration that nests at most so deep begins with these words
abbrev pub BeginsNone : ℕ → Scope → List Token → Type 0
BeginsNone n s ts = (x : Ext) (others : List Token) → FitsExt n s x → ts ≡ spell_ext x others → ⊥

-- no external declaration begins with these words, however deep it nests, and none of them up to its end opens a nesting too many; the first breaks the rule
pub record HasNoForm (tokens : List CSpanned) (s : Scope) (ts : List Token) (place : Place) : Type 0 where
  pub none : (n : ℕ) → BeginsNone n s ts
  pub shallow : (left : ℕ) → OpensTooDeep 0 ts left → ⊥
  pub number : ℕ
  pub counted : number + length ts ≡ length (words_in tokens)
  pub stands : StandsAt tokens number place

-- the place of the word before so many that are left, counted from the first of these
abbrev pub StandsIn : List CSpanned → List Token → ℕ → Place → Type 0
StandsIn tokens ts left place = StandsAt tokens (length (words_in tokens) - length ts + (length ts - left - 1)) place

-- none begins with these words, however deep it nests, and one of them up to its end opens a nesting too many, which is told before the form
pub record HasDeepBrackets (tokens : List CSpanned) (s : Scope) (ts : List Token) (place : Place) : Type 0 where
  pub none : (n : ℕ) → BeginsNone n s ts
  pub left : ℕ
  pub opening : OpensTooDeep 0 ts left
  pub stands : StandsIn tokens ts left place

-- none begins with these words that nests as deep as it may: reading stops before the first word that would be nested deeper, and the word before it breaks
-- the rule
pub record IsTooNested (tokens : List CSpanned) (s : Scope) (ts : List Token) (place : Place) : Type 0 where
  pub none : BeginsNone deepest s ts
  pub left : ℕ
  pub stops : ext_at deepest s ts ≡ Err (record { kind = Deep; left = left })
  pub stands : StandsIn tokens ts left place

-- which rule is broken
pub data Breaks (tokens : List CSpanned) (s : Scope) (ts : List Token) (place : Place) (tag : Tag) : Type 0 where
  no_form : tag ≡ tag_of Form → HasNoForm tokens s ts place → Breaks tokens s ts place tag
  deep_brackets : tag ≡ tag_of Deep → HasDeepBrackets tokens s ts place → Breaks tokens s ts place tag
  too_nested : tag ≡ tag_of Deep → IsTooNested tokens s ts place → Breaks tokens s ts place tag

-- external declarations, and words behind them that begin none
pub record BrokenAt (tokens : List CSpanned) (place : Place) (tag : Tag) : Type 0 where
  pub before : List Ext
  pub fits : FitsExts deepest [] before
  pub rest : List Token
  pub spelled : words_in tokens ≡ spell_exts before rest
  pub breaks : Breaks tokens (after_exts before []) rest place tag

-- the words of a file are spelled by its external declarations, which fit
pub record IsFileOf (tokens : List CSpanned) (file : File) : Type 0 where
  pub fits : FitsExts deepest [] file.externals
  pub spelled : words_in tokens ≡ spell_exts file.externals []
