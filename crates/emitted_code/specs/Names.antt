-- The names of units of assembly.
use Rattle.std.specs.Prelude.{ℕ, ◌+◌, ◌/◌, ◌%◌, ◌^◌, List, [], ◌∷◌}
use Rattle.linker.specs.Names.{entry_name}

-- a letter for each four bits
abbrev pub letter : ℕ → ℕ
letter n = 97 + n % 16

-- a procedure is named by the letter p and eight letters for its number, the highest bits first
abbrev pub proc_name : ℕ → List ℕ
proc_name p =
    112 ∷ letter (p / 2 ^ 28) ∷ letter (p / 2 ^ 24) ∷ letter (p / 2 ^ 20) ∷ letter (p / 2 ^ 16) ∷ letter (p / 2 ^ 12) ∷ letter (p / 2 ^ 8) ∷ letter (p / 2 ^ 4) ∷ letter p ∷ []

-- the image is in the unit with which a program begins
abbrev pub image_name : List ℕ
image_name = entry_name

-- behind the 20 bytes of code of that unit
abbrev pub image_place : ℕ → ℕ
image_place n = 20 + n
