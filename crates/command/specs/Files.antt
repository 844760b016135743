-- The names of files among the words behind the command.
use Rattle.std.specs.Prelude.{◌≢◌, ℕ, ◌≤◌, ◌⊎◌, not, IsTrue, List, codes, filter, length, nat_eq, All, AllPairs}
use Rattle.std.specs.List.{ends_with}
use Rattle.command.specs.Options.{is_option}

-- every word that is no option names a file
abbrev pub file_words : List (List ℕ) → List (List ℕ)
file_words words = filter (λ word. not (is_option word)) words

-- a name of 1 to 255 bytes that ends in `.f90` or `.c`
pub record IsFileName (name : List ℕ) : Type 0 where
  pub some_byte : 1 ≤ length name
  pub most_bytes : length name ≤ 255
  pub ending : IsTrue (ends_with nat_eq name (codes ".f90")) ⊎ IsTrue (ends_with nat_eq name (codes ".c"))

-- 1 to 64 different names of files
pub record AreFiles (names : List (List ℕ)) : Type 0 where
  pub some_file : 1 ≤ length names
  pub most_files : length names ≤ 64
  pub each : All IsFileName names
  pub different : AllPairs (λ one other. one ≢ other) names
