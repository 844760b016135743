-- Writes into a part of a list.
use Rattle.std.proofs.Common.{◌≡◌, ◌≤◌, ℕ, ◌+◌, ◌-◌, ◌/◌, ◌%◌, ◌++◌, List, [], length, take, drop, ◌∙◌, ap, arith, append-nil, length-drop}
use Rattle.std.proofs.lemmas.List.{drop-drop, take_all}
use Rattle.std.proofs.Math.ListN.{drop_of_length-le}
use Rattle.byteorder.specs.Endian.{little_bytes}
use borrow.Rule.Slice.PartMut.{put_mid}

-- a write of n bytes to the front of the rest of a list
pub written : (n : ℕ) (mem new bytes : List ℕ) (at : ℕ) → at + n ≤ length mem → new ≡ bytes ++ drop n (take (length mem - at) (drop at mem)) → put_mid at (length mem - at) mem new ≡ take at mem ++ (bytes ++ drop (at + n) mem)
written n mem new bytes at le e =
    let short : length (drop at mem) ≤ length mem - at = omega (arith, length-drop at mem) in
    let whole : take (length mem - at) (drop at mem) ≡ drop at mem = take_all _ (drop at mem) short in
    let none : drop (length mem - at) (drop at mem) ≡ [] = drop_of_length-le (drop at mem) short in
    let tail : drop n (drop at mem) ≡ drop (at + n) mem = drop-drop n at mem in
    let e' : new ≡ bytes ++ drop (at + n) mem = rw whole at e ∙ ap (λ l. bytes ++ l) tail in
    ap (λ l. take at mem ++ (new ++ l)) none ∙ ap (λ l. take at mem ++ l) (append-nil new ∙ e')

-- the low bytes of the low half or word of a value are its own
pub half_bytes : (v : ℕ) → little_bytes 2 (v % 65536) ≡ little_bytes 2 v
half_bytes v =
    let a : v % 65536 % 256 ≡ v % 256 = omega arith in
    let b : v % 65536 / 256 % 256 ≡ v / 256 % 256 = omega arith in
    rw (a, b)

pub word_bytes : (v : ℕ) → little_bytes 4 (v % 4294967296) ≡ little_bytes 4 v
word_bytes v =
    let a : v % 4294967296 % 256 ≡ v % 256 = omega arith in
    let b : v % 4294967296 / 256 % 256 ≡ v / 256 % 256 = omega arith in
    let c : v % 4294967296 / 65536 % 256 ≡ v / 65536 % 256 = omega arith in
    let d : v % 4294967296 / 16777216 % 256 ≡ v / 16777216 % 256 = omega arith in
    rw (a, b, c, d)
