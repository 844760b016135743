-- Reading a file from its tokens, with the place of the first external declaration that breaks a rule (ISO/IEC 9899:2011, 6.9).
use Rattle.std.specs.Prelude.{ℕ, ◌+◌, ◌-◌, List, [], length, map, slice_get, Option, Some, None, Result, Ok, Err}
use Rattle.jf_base.specs.declared.place.Place.{Place}
use Rattle.jf_base.specs.declared.tag.Tag.{Tag}
use Rattle.c_token.specs.declared.token.CSpanned.{CSpanned}
use Rattle.c_grammar.specs.declared.token.Token.{Token}
use Rattle.c_grammar.specs.declared.fault.Kind.{Kind}
use Rattle.c_grammar.specs.declared.fault.Kind.TheVariants.{Form, Deep}
use Rattle.c_words.specs.Pieces.{pieces}
use Rattle.c_words.specs.Numbering.{names_of, literals_of, words_of, place_of, count_of}
use Rattle.c_unit_grammar.specs.Statements.{Ext}
use Rattle.c_external_read.specs.declared.file.BrokenExternal.{BrokenExternal}
use Rattle.c_external_read.specs.Files.{deepest, externals_at}
use Rattle.c_read.specs.Nesting.{told_of}

-- the words of a text
abbrev pub words_in : List CSpanned → List Token
words_in ts = words_of (names_of (pieces ts)) 0 (pieces ts)

-- and their places
abbrev pub places_in : List CSpanned → List Place
places_in ts = map place_of (pieces ts)

-- and of how many tokens each was made
abbrev pub counts_in : List CSpanned → List ℕ
counts_in ts = map count_of (pieces ts)

-- what a file is read as: the spellings of its names and the bytes of its literals by their numbers, the places of its words, its external declarations
pub record File : Type 0 where
  pub names : List (List ℕ)
  pub literals : List (List ℕ)
  pub places : List Place
  pub externals : List Ext

abbrev pub file_of : List CSpanned → List Ext → File
file_of ts xs = record { names = names_of (pieces ts); literals = literals_of (pieces ts); places = places_in ts; externals = xs }

-- ---- broken rules

-- the rule that an external declaration has a form, and the one on nesting
abbrev pub rule_number : Kind → ℕ
rule_number Form = 601
rule_number Deep = 602

abbrev pub tag_of : Kind → Tag
tag_of k = record { 0 = rule_number k }

-- The number of the word that breaks a rule, of so many words: the first of the external declaration that has no form, or the one in it before the first word
-- that is nested too deep, which opens that nesting.
abbrev pub number_by : Kind → ℕ → ℕ → ℕ → ℕ
number_by Form words begins left = words - begins
number_by Deep words begins left = words - begins + (begins - left - 1)

abbrev pub number_of : ℕ → BrokenExternal → ℕ
number_of words b = number_by b.fault.kind words b.left b.fault.left

-- a place for a word that isn't there
abbrev pub place_or : Option Place → Place
place_or None = record { file = 0; line = 0; column = 0 }
place_or (Some place) = place

abbrev pub refused_at : List Place → BrokenExternal → Place
refused_at places b = place_or (slice_get places (number_of (length places) b))

-- a place, and the tag of the rule that is broken there
abbrev pub Stop : Type 0
Stop = Place × Tag

-- ---- the whole

abbrev pub stop_of : List Place → BrokenExternal → Stop
stop_of places b = (refused_at places b, tag_of b.fault.kind)

abbrev pub file_or : List CSpanned → Result (List Ext) BrokenExternal → Result File Stop
file_or ts (Ok xs) = Ok (file_of ts xs)
file_or ts (Err b) = Err (stop_of (places_in ts) (told_of (words_in ts) b))

-- the external declarations of a file, or its first broken rule with its place
unfoldable pub read_file : List CSpanned → Result File Stop
read_file ts = file_or ts (externals_at deepest (length (words_in ts)) [] (words_in ts))
