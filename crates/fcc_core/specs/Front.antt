-- What the front half answers.
use Rattle.std.specs.Prelude.{◌≡◌, ◌⊎◌, ℕ, List, Some, Result, Ok, Err}
use Rattle.jf_base.specs.Tags.{IsTag}
use Rattle.jf_base.specs.declared.place.Place.{Place}
use Rattle.jf_base.specs.declared.tag.Tag.{Tag}
use Rattle.source_tokens.specs.declared.source.SourceFault.{SourceFault}
use Rattle.source_tokens.specs.declared.source.SourceFault.TheVariants as source
use Rattle.source_tokens.specs.Outside.{LibraryAt, IsUntroubled}
use Rattle.source_tokens.specs.Sources.{Files, IsBroken, Reaches}
use Rattle.source_tokens.specs.Reading.{Told}
use Rattle.first_form.specs.declared.program.FirstProgram.{FirstProgram}
use Rattle.first_form.specs.Readings.{IsFirstProgram, AreTexts, IsNoFortranText, IsFaultInC}
use Rattle.fcc_core.specs.Sources.{IsProgram, IsNotBuilt, IsNotGiven}
use Rattle.fcc_core.specs.declared.front.FrontFault.{FrontFault}
use Rattle.fcc_core.specs.declared.front.FrontFault.TheVariants as fault

-- the same fault of the front half
abbrev pub front_fault : SourceFault → FrontFault
front_fault source.Memory = fault.Memory
front_fault (source.Library name) = fault.Library name
front_fault (source.Source place tag) = fault.Source place tag

-- a file that isn't built is refused at its first line
pub record IsFirstLine (file line tag number : ℕ) : Type 0 where
  pub file_is : file ≡ number
  pub line_is : line ≡ 1
  pub tag_is : tag ≡ 1001

-- the texts are the program's, or one of them isn't in the form that is built so far
abbrev pub IsReadAs : List ℕ → List ℕ → Result FirstProgram FrontFault → Type 0
IsReadAs fortran c (Ok program) = AreTexts fortran c program × IsFirstProgram program
IsReadAs fortran c (Err fault.Memory) = Unit {0}
IsReadAs fortran c (Err (fault.Library name)) = ⊥
IsReadAs fortran c (Err (fault.Source place tag)) =
    (IsFirstLine place.file place.line tag.0 0 × IsNoFortranText fortran) ⊎ (IsFirstLine place.file place.line tag.0 1 × IsFaultInC fortran c)

-- a file that isn't built is refused at its first line
pub record IsUnbuilt (files : Files) (names : List (List ℕ)) (place : Place) (tag : Tag) : Type 0 where
  pub line_is : place.line ≡ 1
  pub tag_is : tag.0 ≡ 1001
  pub not_built : IsNotBuilt files names place.file

-- a source is refused: at the first broken rule of source form, of statements, of preprocessing or of C's grammar, or else where it isn't built
pub record IsRefused (names : List (List ℕ)) (place : Place) (tag : Tag) (before after : LibraryAt) : Type 0 where
  pub untroubled : IsUntroubled before after
  pub is_tag : IsTag tag.0
  pub why : Told before (λ files. Reaches files (IsBroken files place tag) 0 0 names ⊎ IsUnbuilt files names place tag)

abbrev pub IsFronted : List (List ℕ) → Result FirstProgram FrontFault → LibraryAt → LibraryAt → Type 0
IsFronted names (Ok program) before after =
    IsUntroubled before after × IsFirstProgram program
    × ((files : List (List ℕ × List ℕ)) → before.listing ≡ Some files → IsProgram files names program)
IsFronted names (Err fault.Memory) before after = Unit {0}
IsFronted names (Err (fault.Library name)) before after = IsNotGiven names name before after
IsFronted names (Err (fault.Source place tag)) before after = IsRefused names place tag before after
