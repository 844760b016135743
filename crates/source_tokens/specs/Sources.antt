-- The files of a program with their tokens (ISO/IEC 1539-1:2018, 6.2 and 6.3.2, and ISO/IEC 9899:2011, 5.1.1.2 and 6.10), the statements of those in
-- Fortran (ISO/IEC 1539-1:2018, 5.1 to 5.3) and the external declarations of those in C (ISO/IEC 9899:2011, 6.9).
use Rattle.std.specs.Prelude.{◌≡◌, ◌⊎◌, ℕ, ◌+◌, List, [], ◌∷◌, codes, nat_eq, Bool, true, false, length, Some, Ok, Err}
use Rattle.std.specs.List.{ends_with}
use Rattle.jf_base.specs.declared.place.Place.{Place}
use Rattle.jf_base.specs.declared.tag.Tag.{Tag}
use Rattle.jf_outside.specs.Listing.{listed}
use Rattle.f_lex.specs.declared.reader.Fault.{Fault}
use Rattle.f_lex.specs.declared.token.Spanned.{Spanned}
use Rattle.f_lex.specs.Lexing.{Lexes, Breaks}
use Rattle.f_lex.specs.Rules.{tag_number}
use Rattle.f_expr_read.specs.Views.{tokens_of}
use Rattle.f_statement_grammar.specs.Statements.{Statement}
use Rattle.f_unit_grammar.specs.Units.{IsFile}
use Rattle.f_unit_grammar.specs.Rules.{cuts, HaveForms}
use Rattle.f_file_read.specs.BrokenAt.{BrokenAt}
use Rattle.c_token.specs.declared.token.CSpanned.{CSpanned}
use Rattle.c_directives.specs.Reads.{Asks}
use Rattle.c_pre.specs.Files.{expanded_at, IsAt}
use Rattle.c_read.specs.Reading.{File, file_of}
use Rattle.c_read.specs.BrokenAt.{IsFileOf, BrokenAt as IsBrokenUnit}

-- the names of a library with their bytes
abbrev pub Files : Type 0
Files = List (List ℕ × List ℕ)

abbrev pub is_fortran_name : List ℕ → Bool
is_fortran_name name = ends_with nat_eq name (codes ".f90")

-- the tokens of a file, and the statements of one in Fortran or what one in C is read as
pub data Tokens : Type 0 where
  Fortran : (tokens : List Spanned) (statements : List Statement) → Tokens
  C : (tokens : List CSpanned) (unit : File) → Tokens

-- a file's bytes and its tokens
pub record Source : Type 0 where
  pub text : List ℕ
  pub tokens : Tokens

-- how many tokens a file has, where the end of a Fortran statement is one
abbrev pub count : Tokens → ℕ
count (Fortran ts ss) = length ts
count (C ts u) = length ts

-- the text of a C file gives these tokens, with its headers from the library
abbrev pub Expands : Files → ℕ → ℕ → List ℕ → List CSpanned → Type 0
Expands files file before text ts = (used : ℕ) × ((k : ℕ) → expanded_at files file before text (used + k) ≡ Ok ts)

-- the tokens of a Fortran file are these statements: each has its form, and together they are a file
pub record AreStatements (ts : List Spanned) (ss : List Statement) : Type 0 where
  pub forms : HaveForms (cuts (tokens_of ts)) ss
  pub is_file : IsFile ss

-- the tokens of a C file are these external declarations, and its names, literals and places are those of the words of its tokens
pub record AreExternals (ts : List CSpanned) (unit : File) : Type 0 where
  pub is_file : IsFileOf ts unit
  pub tables : unit ≡ file_of ts unit.externals

-- the text of the file of this name gives these tokens, by its language's lexis and then its grammar
abbrev pub HasTokens : Files → List ℕ → ℕ → ℕ → List ℕ → Tokens → Type 0
HasTokens files name file before text (Fortran ts ss) = (is_fortran_name name ≡ true) × Lexes file before text ts × AreStatements ts ss
HasTokens files name file before text (C ts u) = (is_fortran_name name ≡ false) × Expands files file before text ts × AreExternals ts u

-- the file of this name and number is listed, and its text gives its tokens, where the files before have so many
pub record IsSource (files : Files) (name : List ℕ) (file before : ℕ) (s : Source) : Type 0 where
  pub is_listed : listed files name ≡ Some s.text
  pub has_tokens : HasTokens files name file before s.text s.tokens

-- the files of these names, from this number on
abbrev pub AreSources : Files → ℕ → ℕ → List (List ℕ) → List Source → Type 0
AreSources files file before [] [] = Unit {0}
AreSources files file before [] (s ∷ ss) = ⊥
AreSources files file before (name ∷ names) [] = ⊥
AreSources files file before (name ∷ names) (s ∷ ss) = IsSource files name file before s × AreSources files (file + 1) (before + count s.tokens) names ss

-- the rule of this tag is broken first in the lexis of a Fortran text
pub record BreaksLexis (file before : ℕ) (text : List ℕ) (place : Place) (tag : Tag) : Type 0 where
  pub fault : Fault
  pub breaks : Breaks before text fault
  pub place_is : place ≡ record { file = file; line = fault.point.line; column = fault.point.column }
  pub tag_is : tag.0 ≡ tag_number fault.rule

-- a Fortran text breaks no rule of lexis, and its statements break this one first
pub record BreaksStatements (file before : ℕ) (text : List ℕ) (place : Place) (tag : Tag) : Type 0 where
  pub tokens : List Spanned
  pub lexes : Lexes file before text tokens
  pub broken : BrokenAt tokens place tag

-- the rule of this tag is broken first in a Fortran text: one of lexis, or else one of statements
abbrev pub BreaksFortran : ℕ → ℕ → List ℕ → Place → Tag → Type 0
BreaksFortran file before text place tag = BreaksLexis file before text place tag ⊎ BreaksStatements file before text place tag

-- the rule of this tag is broken first in the preprocessing of a C file
abbrev pub BreaksPreprocessing : Files → ℕ → ℕ → List ℕ → Place → Tag → Type 0
BreaksPreprocessing files file before text place tag = (used : ℕ) × ((k : ℕ) → IsAt (expanded_at files file before text (used + k)) place tag)

-- a C text breaks no rule of preprocessing, and its external declarations break this one first
pub record BreaksExternals (files : Files) (file before : ℕ) (text : List ℕ) (place : Place) (tag : Tag) : Type 0 where
  pub tokens : List CSpanned
  pub expands : Expands files file before text tokens
  pub broken : IsBrokenUnit tokens place tag

-- the rule of this tag is broken first in the text of a C file: one of preprocessing, or else one of its grammar
abbrev pub BreaksC : Files → ℕ → ℕ → List ℕ → Place → Tag → Type 0
BreaksC files file before text place tag = BreaksPreprocessing files file before text place tag ⊎ BreaksExternals files file before text place tag

-- the file of this name is listed, and its text breaks this rule first
pub record IsBroken (files : Files) (place : Place) (tag : Tag) (name : List ℕ) (file before : ℕ) : Type 0 where
  pub text : List ℕ
  pub is_listed : listed files name ≡ Some text
  pub breaks : ((is_fortran_name name ≡ true) × BreaksFortran file before text place tag) ⊎ ((is_fortran_name name ≡ false) × BreaksC files file before text place tag)

-- the text of a C file includes the file of this name next, behind so many others that were given and with no rule broken before
pub record IsIncluded (files : Files) (asked name : List ℕ) (file before : ℕ) : Type 0 where
  pub text : List ℕ
  pub is_listed : listed files name ≡ Some text
  pub is_c : is_fortran_name name ≡ false
  pub given : ℕ
  pub asks : expanded_at files file before text given ≡ Err (Asks asked)

-- the file that is read next is that of this name, or one that it includes
abbrev pub IsDue : Files → List ℕ → List ℕ → ℕ → ℕ → Type 0
IsDue files asked name file before = (asked ≡ name) ⊎ IsIncluded files asked name file before

-- the files of these names are read up to one of which this holds
abbrev pub Reaches : Files → (List ℕ → ℕ → ℕ → Type 0) → ℕ → ℕ → List (List ℕ) → Type 0
Reaches files P file before [] = ⊥
Reaches files P file before (name ∷ names) = P name file before ⊎ ((s : Source) × IsSource files name file before s × Reaches files P (file + 1) (before + count s.tokens) names)
