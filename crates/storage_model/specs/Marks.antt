-- The storage after one cell or one mark was set.
use Rattle.std.specs.Prelude.{ℕ, Bool, ◌==◌, ◌&&◌, ◌||◌, if◌then◌else◌}
use Rattle.storage_model.specs.declared.cell.Cell.{Cell}
use Rattle.storage_model.specs.Storage.{Storage}

-- byte j of number m is byte k of number l
abbrev pub is_at : ℕ → ℕ → ℕ → ℕ → Bool
is_at l k m j = (m == l) && (j == k)

abbrev pub cell_set : Storage → ℕ → ℕ → Cell → Storage
cell_set s o i c = record s { object = λ p. record (s.object p) { cells = λ j. if is_at o i p j then c else (s.object p).cells j } }

abbrev pub written_set : Storage → ℕ → ℕ → Storage
written_set s l k = record s { loan = λ m. record (s.loan m) { written = λ j. is_at l k m j || (s.loan m).written j } }

abbrev pub read_set : Storage → ℕ → ℕ → Storage
read_set s l k = record s { loan = λ m. record (s.loan m) { read = λ j. is_at l k m j || (s.loan m).read j } }
