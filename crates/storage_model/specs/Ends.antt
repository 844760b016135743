-- Making and ending an object (ISO/IEC 9899:2011 6.2.4; ISO/IEC 1539-1:2018 9.7.1 and 9.7.3).
use Rattle.std.specs.Prelude.{ℕ, true, false, ◌==◌, if◌then◌else◌, List, Option, None, get_or}
use Rattle.jf_base.specs.declared.tag.Tag.{Tag}
use Rattle.storage_model.specs.declared.cell.View.TheVariants.{Home}
use Rattle.storage_model.specs.declared.cell.Cell.{Cell}
use Rattle.storage_model.specs.declared.cell.Cell.TheVariants.{Undefined}
use Rattle.storage_model.specs.declared.cell.Kind.{Kind}
use Rattle.storage_model.specs.Tags.{V02, V07}
use Rattle.storage_model.specs.Storage.{Storage, Object, at, with_object, with_alive}
use Rattle.storage_model.specs.Chain.{each_below, none_beside, any_mark}
use Rattle.storage_model.specs.Access.{first}

-- a new object begins with these cells and is undefined behind them
abbrev pub new_object : ℕ → Kind → List Cell → Object
new_object size kind cells = record { size = size; alive = true; kind = kind; cells = λ i. get_or cells i Undefined }

-- it gets the next number
abbrev pub make_one : Storage → Object → Storage
make_one s new = with_object s (λ o. if o == s.made then new else s.object o)

-- what stands against ending an object: it isn't alive, or an open loan covers a byte of it
abbrev pub check_end : Storage → ℕ → Option Tag
check_end s n =
    first ((s.object n).alive) V02
    (first (each_below (λ i. none_beside s any_mark (at (Home n) i)) (s.object n).size) V07
    None)

abbrev pub end_one : Storage → ℕ → Storage
end_one s n = with_alive s (λ o. if o == n then false else (s.object o).alive)
