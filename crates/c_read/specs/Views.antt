-- Files as they are read, and what a function that takes memory answers.
use Rattle.std.specs.Prelude.{◌≡◌, List, map, Result, Ok, Err}
use Rattle.jf_base.specs.declared.place.Place.{Place}
use Rattle.jf_base.specs.declared.place.Refusal.{Refusal}
use Rattle.jf_base.specs.declared.place.Refusal.TheVariants.{Memory, At}
use Rattle.c_tree.specs.declared.unit.CUnit.{CUnit}
use Rattle.c_external_read.specs.Views.{view_external}
use Rattle.c_external_read.specs.declared.file.ExternalsError.{ExternalsError}
use Rattle.c_external_read.specs.declared.file.ExternalsError.TheVariants as externals
use Rattle.c_grammar.specs.declared.token.Token.{Token}
use Rattle.c_read.specs.Nesting.{told_of}
use Rattle.c_read.specs.Reading.{File, Stop, refused_at, tag_of}

abbrev pub view_unit : CUnit → File
view_unit u = record { names = u.names; literals = u.literals; places = u.places; externals = map view_external u.externals }

-- What a function returned, seen by view, is what is read, unless memory was wanting.
abbrev pub Answers : {X Y : Type 0} → (X → Y) → Result X Refusal → Result Y Stop → Type 0
Answers view (Ok x) read = read ≡ Ok (view x)
Answers view (Err Memory) read = Unit {0}
Answers view (Err (At place tag)) read = read ≡ Err (place, tag)

-- why a file is refused that has these words at these places
abbrev pub refused : List Token → List Place → ExternalsError → Refusal
refused words places externals.Memory = Memory
refused words places (externals.Broken b) = At (refused_at places (told_of words b)) (tag_of (told_of words b).fault.kind)
