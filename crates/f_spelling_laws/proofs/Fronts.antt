-- Conditions in parts.
use Rattle.std.proofs.Common.{◌≡◌, Bool, true, false, ◌&&◌, refl}

pub first_of : (a b : Bool) → (a && b) ≡ true → a ≡ true
first_of true b sure = refl
first_of false b sure = sure

pub second_of : (a b : Bool) → (a && b) ≡ true → b ≡ true
second_of true b sure = sure
second_of false b sure = absurd (let no : false ≡ true = sure in cc)
