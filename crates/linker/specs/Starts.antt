-- Where units begin in an image.
use Rattle.std.specs.Prelude.{ℕ, ◌≡◌, ◌+◌, ◌-◌, nat_lt, if◌then◌else◌, List, length, take, slice_get, Some}
use Rattle.rv_assemble.specs.declared.object.ObjUnit.{ObjUnit}
use Rattle.linker.specs.declared.offsets.Start.{Start}
use Rattle.linker.specs.Layout.{codes, images, code_size}

-- the unit that is behind so many begins there
pub record IsStart (units : List ObjUnit) (k : ℕ) (s : Start) : Type 0 where
  pub code : s.code ≡ length (codes (take k units))
  pub image : s.image ≡ code_size units + length (images (take k units))

pub record AreStarts (units : List ObjUnit) (starts : List Start) : Type 0 where
  pub count : length starts ≡ length units
  pub each : (k : ℕ) (s : Start) → slice_get starts k ≡ Some s → IsStart units k s

-- where a place lies of a unit that begins there
abbrev pub place_in : (u : ObjUnit) (s : Start) (place : ℕ) → ℕ
place_in u s place = if nat_lt place (length u.code) then s.code + place else s.image + (place - length u.code)
