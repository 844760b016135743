-- The units of moving are linear in the bytes that are moved.
use Rattle.std.proofs.Common.{ℕ, zero, suc, ◌+◌, ◌*◌, ◌≤◌, arith}
use Rattle.std.proofs.Math.Nat.{mul_assoc, mul-le-mul_left, le-mul_of_pos_right, suc-mul}
use Rattle.flat_routines.specs.Moving.{units}

pub linear : (len rank n : ℕ) → units len rank n ≤ n * len * (rank + 3) + 1
linear zero rank n = omega arith
linear (suc len) rank n =
    let a = suc-mul len (rank + 3) in
    let b : len ≤ len * (rank + 3) = le-mul_of_pos_right len (omega arith) in
    let c : suc len + rank + 2 ≤ suc len * (rank + 3) = omega (arith, a, b) in
    let e = mul-le-mul_left n c in
    let f = mul_assoc n (suc len) (rank + 3) in
    omega (arith, e, f)
