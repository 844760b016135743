-- Names of procedures are apart.
use Rattle.std.proofs.Common.{◌≡◌, ℕ, ◌/◌, ◌^◌, ◌<◌, arith}
use Rattle.emitted_code.specs.Names.{letter, proc_name, image_name}

-- one more of the lower digits
digit : (a b : ℕ) → a / 16 ≡ b / 16 → letter a ≡ letter b → a ≡ b
digit a b h e = omega arith

pub proc_name_own : (p q : ℕ) → p < 2 ^ 32 → q < 2 ^ 32 → proc_name p ≡ proc_name q → p ≡ q
proc_name_own p q hp hq e =
    let e7 : letter (p / 2 ^ 28) ≡ letter (q / 2 ^ 28) = cc in
    let e6 : letter (p / 2 ^ 24) ≡ letter (q / 2 ^ 24) = cc in
    let e5 : letter (p / 2 ^ 20) ≡ letter (q / 2 ^ 20) = cc in
    let e4 : letter (p / 2 ^ 16) ≡ letter (q / 2 ^ 16) = cc in
    let e3 : letter (p / 2 ^ 12) ≡ letter (q / 2 ^ 12) = cc in
    let e2 : letter (p / 2 ^ 8) ≡ letter (q / 2 ^ 8) = cc in
    let e1 : letter (p / 2 ^ 4) ≡ letter (q / 2 ^ 4) = cc in
    let e0 : letter p ≡ letter q = cc in
    go e7 e6 e5 e4 e3 e2 e1 e0
  where
    go : letter (p / 2 ^ 28) ≡ letter (q / 2 ^ 28) → letter (p / 2 ^ 24) ≡ letter (q / 2 ^ 24) → letter (p / 2 ^ 20) ≡ letter (q / 2 ^ 20) → letter (p / 2 ^ 16) ≡ letter (q / 2 ^ 16)
        → letter (p / 2 ^ 12) ≡ letter (q / 2 ^ 12) → letter (p / 2 ^ 8) ≡ letter (q / 2 ^ 8) → letter (p / 2 ^ 4) ≡ letter (q / 2 ^ 4) → letter p ≡ letter q → p ≡ q
    go e7 e6 e5 e4 e3 e2 e1 e0 =
        let h7 : p / 2 ^ 28 ≡ q / 2 ^ 28 = omega (arith, e7) in
        let h6 : p / 2 ^ 24 ≡ q / 2 ^ 24 = digit (p / 2 ^ 24) (q / 2 ^ 24) (omega (arith, h7)) e6 in
        let h5 : p / 2 ^ 20 ≡ q / 2 ^ 20 = digit (p / 2 ^ 20) (q / 2 ^ 20) (omega (arith, h6)) e5 in
        let h4 : p / 2 ^ 16 ≡ q / 2 ^ 16 = digit (p / 2 ^ 16) (q / 2 ^ 16) (omega (arith, h5)) e4 in
        let h3 : p / 2 ^ 12 ≡ q / 2 ^ 12 = digit (p / 2 ^ 12) (q / 2 ^ 12) (omega (arith, h4)) e3 in
        let h2 : p / 2 ^ 8 ≡ q / 2 ^ 8 = digit (p / 2 ^ 8) (q / 2 ^ 8) (omega (arith, h3)) e2 in
        let h1 : p / 2 ^ 4 ≡ q / 2 ^ 4 = digit (p / 2 ^ 4) (q / 2 ^ 4) (omega (arith, h2)) e1 in
        digit p q (omega (arith, h1)) e0

pub not_image : (p : ℕ) → proc_name p ≡ image_name → ⊥
not_image p e = cc
