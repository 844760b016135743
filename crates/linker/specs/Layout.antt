-- Where the bytes of units lie in an image: first the code of all units, then zeros up to a multiple of 16, then the images of all units.
use Rattle.std.specs.Prelude.{ℕ, zero, suc, ◌+◌, ◌-◌, ◌*◌, ◌/◌, nat_lt, if◌then◌else◌, List, [], ◌∷◌, ◌++◌, length, take}
use Rattle.rv_assemble.specs.declared.object.ObjUnit.{ObjUnit}

abbrev pub codes : List ObjUnit → List ℕ
codes [] = []
codes (u ∷ units) = u.code ++ codes units

abbrev pub images : List ObjUnit → List ℕ
images [] = []
images (u ∷ units) = u.image ++ images units

abbrev pub zeros : ℕ → List ℕ
zeros zero = []
zeros (suc n) = 0 ∷ zeros n

-- the bytes that can't be written
abbrev pub code_size : List ObjUnit → ℕ
code_size units = (length (codes units) + 15) / 16 * 16

abbrev pub laid : List ObjUnit → List ℕ
laid units = codes units ++ zeros (code_size units - length (codes units)) ++ images units

-- where a place of the k-th unit lies; a unit's places count over its code and then its image
abbrev pub offset_of : (units : List ObjUnit) (k : ℕ) (u : ObjUnit) (place : ℕ) → ℕ
offset_of units k u place =
    if nat_lt place (length u.code) then length (codes (take k units)) + place
    else code_size units + length (images (take k units)) + (place - length u.code)
