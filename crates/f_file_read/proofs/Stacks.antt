-- What is open lies backward: the innermost last.
use Rattle.std.proofs.Common.{◌≡◌, List, [], ◌∷◌, ◌++◌, map, reverse, Some, refl, sym, ap, ◌∙◌}
use Rattle.std.proofs.lemmas.List.{map-append, reverse-append, reverse-reverse}
use Rattle.f_file_read.specs.declared.stack.Opened.{Opened as OpenedHere}
use Rattle.f_file_read.specs.Reading.{Opened, second, open_unit}
use Rattle.f_file_read.specs.Views.{view_opened, view_open}

pub open_last : (os : List OpenedHere) (o : OpenedHere) → view_open (os ++ o ∷ []) ≡ view_opened o ∷ view_open os
open_last os o = ap (λ (xs : List Opened). reverse xs) (map-append view_opened os (o ∷ [])) ∙ reverse-append (map view_opened os) (view_opened o ∷ [])

pub unit_second : (os : List OpenedHere) → open_unit (view_open os) ≡ second (map view_opened os)
unit_second os = ap second (reverse-reverse (map view_opened os))
