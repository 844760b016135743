-- Memory by addresses, and what code may do there.
use Rattle.std.specs.Prelude.{ℕ, zero, suc, ◌+◌, ◌*◌, ◌/◌, ◌%◌, Option, Some, None, Bool, cond, ◌&&◌, ◌||◌, nat_eq, nat_le}

-- the byte at each address
abbrev pub Bytes : Type 0
Bytes = ℕ → ℕ

-- the addresses from `low` up to and without `high`
pub record Area : Type 0 where
  pub low : ℕ
  pub high : ℕ

-- what code may load and store: the image, the objects and the heap
pub record Areas : Type 0 where
  pub image : Area
  pub objects : Area
  pub heap : Area

-- one byte changed
unfoldable pub poke : Bytes → ℕ → ℕ → Bytes
poke m a v i = cond (nat_eq i a) v (m i)

-- n bytes, the lowest first, as a number
unfoldable pub number : ℕ → Bytes → ℕ → ℕ
number zero m a = 0
number (suc n) m a = m a + 256 * number n m (a + 1)

-- the low n bytes of a number, the lowest first
unfoldable pub put : ℕ → Bytes → ℕ → ℕ → Bytes
put zero m a v = m
put (suc n) m a v = put n (poke m a (v % 256)) (a + 1) (v / 256)

-- n bytes at an address lie in an area
abbrev pub lies : ℕ → Area → ℕ → Bool
lies n s a = nat_le s.low a && nat_le (a + n) s.high

-- n bytes at an address may be loaded and stored: the address is a multiple of n, and they lie in one of the areas
abbrev pub fits : ℕ → Areas → ℕ → Bool
fits n s a = nat_eq (a % n) 0 && (lies n s.image a || (lies n s.objects a || lies n s.heap a))

-- what is loaded, and the memory after a store; nothing else may be done
unfoldable pub loaded : ℕ → Areas → Bytes → ℕ → Option ℕ
loaded n s m a = cond (fits n s a) (Some (number n m a)) None

unfoldable pub stored : ℕ → Areas → Bytes → ℕ → ℕ → Option Bytes
stored n s m a v = cond (fits n s a) (Some (put n m a v)) None
