-- The chain of a byte, and what is asked of the views in it.
use Rattle.std.specs.Prelude.{ℕ, zero, suc, ◌+◌, ◌%◌, Bool, true, false, not, ◌==◌, ◌&&◌, if◌then◌else◌, List, [], ◌∷◌, ltb}
use Rattle.std.specs.List.{list_all, list_any}
use Rattle.storage_model.specs.declared.cell.View.{View}
use Rattle.storage_model.specs.declared.cell.View.TheVariants.{Home, Loan}
use Rattle.storage_model.specs.declared.cell.Place.{Place}
use Rattle.storage_model.specs.declared.cell.Cell.{Cell}
use Rattle.storage_model.specs.Storage.{Storage, at, by_view, places, size_of, can_write, cell_at}

abbrev pub same_view : View → View → Bool
same_view (Home o) (Home p) = o == p
same_view (Home o) (Loan m) = false
same_view (Loan l) (Home p) = false
same_view (Loan l) (Loan m) = l == m

abbrev pub same_place : Place → Place → Bool
same_place p q = same_view p.view q.view && (p.offset == q.offset)

abbrev pub in_range : Storage → Place → Bool
in_range s p = ltb p.offset (size_of s p.view)

-- from a byte of a home, or of a loan whose number is below n, down to the home byte
abbrev pub chain : (ℕ → ℕ → Place) → ℕ → Place → List Place
chain place zero p = p ∷ []
chain place (suc n) p = p ∷ by_view (λ o. []) (λ l. chain place n (place l p.offset)) p.view

-- the home byte under it
abbrev pub home : (ℕ → ℕ → Place) → ℕ → Place → Place
home place zero p = p
home place (suc n) p = by_view (λ o. p) (λ l. home place n (place l p.offset)) p.view

-- the chain of a byte; what is outside its view has no place, and stands alone
abbrev pub chain_of : Storage → Place → List Place
chain_of s p = if in_range s p then chain (places s) s.opened p else p ∷ []

abbrev pub home_of : Storage → Place → Place
home_of s p = home (places s) s.opened p

-- what the byte has
abbrev pub cell_under : Storage → Place → Cell
cell_under s p = cell_at s (home_of s p)

abbrev pub each_below : (ℕ → Bool) → ℕ → Bool
each_below test zero = true
each_below test (suc n) = test n && each_below test n

-- the test holds of each byte in the chain of each of n bytes from byte k of the view on
abbrev pub each_byte : Storage → View → ℕ → ℕ → (Place → Bool) → Bool
each_byte s v k n test = each_below (λ x. list_all test (chain_of s (at v (k + x)))) n

-- the offset is a multiple of a
abbrev pub is_multiple : ℕ → ℕ → Bool
is_multiple zero k = k == 0
is_multiple (suc a) k = k % suc a == 0

abbrev pub aligned_to : ℕ → Place → Bool
aligned_to a p = is_multiple a p.offset

abbrev pub may_write : Storage → Place → Bool
may_write s p = by_view (λ o. can_write (s.object o).kind) (λ l. (s.loan l).writable) p.view

-- the byte wasn't read beside the loan
abbrev pub not_read : Storage → Place → Bool
not_read s p = by_view (λ o. true) (λ l. not ((s.loan l).read p.offset)) p.view

-- byte k of loan l is in the chain of p
abbrev pub passes : Storage → Place → ℕ → ℕ → Bool
passes s p l k = list_any (same_place (at (Loan l) k)) (chain_of s p)

-- byte k of loan l is over the home byte of p
abbrev pub covers : Storage → ℕ → ℕ → Place → Bool
covers s l k p = same_place (home_of s (at (Loan l) k)) (home_of s p)

-- loan l is open, and k is one of its bytes
abbrev pub is_open_byte : Storage → ℕ → ℕ → Bool
is_open_byte s l k = (s.loan l).is_open && ltb k (s.loan l).bytes

-- byte k of the open loan l is over the home byte of p, and isn't in its chain
abbrev pub is_beside : Storage → Place → ℕ → ℕ → Bool
is_beside s p l k = is_open_byte s l k && (covers s l k p && not (passes s p l k))

-- no byte of an open loan is beside p and so marked
abbrev pub none_beside : Storage → (ℕ → ℕ → Bool) → Place → Bool
none_beside s marked p = each_below (λ l. each_below (λ k. not (marked l k && is_beside s p l k)) (s.loan l).bytes) s.opened

-- the marks that stand against a read, and against a write
abbrev pub written_marks : Storage → ℕ → ℕ → Bool
written_marks s l k = (s.loan l).written k

abbrev pub any_mark : ℕ → ℕ → Bool
any_mark l k = true

-- those against a read, or else those against a write
abbrev pub marks_against : Storage → Bool → ℕ → ℕ → Bool
marks_against s true = written_marks s
marks_against s false = any_mark
