-- Ranges of bytes, as contracts of routines speak of them.
use Rattle.std.specs.Prelude.{◌≡◌, ℕ, ◌+◌, ◌-◌, ◌^◌, ◌<◌, ◌≤◌, ◌⊎◌, ◌&&◌, true, cond, nat_le, nat_lt}
use Rattle.flat_ir.specs.Bytes.{Bytes, Areas, fits}

-- each number that a memory holds is one of a byte
abbrev pub AreBytes : Bytes → Type 0
AreBytes m = (i : ℕ) → m i < 256

-- each of n bytes at an address may be loaded and stored, and the addresses don't leave 64 bits
pub record MayUse (s : Areas) (a n : ℕ) : Type 0 where
  pub each : (i : ℕ) → i < n → fits 1 s (a + i) ≡ true
  pub narrow : a + n < 2 ^ 64

-- n bytes at one address and k at another have none in common
abbrev pub Apart : (a n c k : ℕ) → Type 0
Apart a n c k = (a + n ≤ c) ⊎ (c + k ≤ a)

-- n bytes at `to` are those that stood at `from`, and each other is as before
unfoldable pub copied : Bytes → (to from n : ℕ) → Bytes
copied m to from n i = cond (nat_le to i && nat_lt i (to + n)) (m (from + (i - to))) (m i)
