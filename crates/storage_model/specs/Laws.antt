-- The laws of a storage that every step keeps.
use Rattle.std.specs.Prelude.{◌≡◌, ℕ, ◌<◌, ◌≤◌, true, false}
use Rattle.storage_model.specs.declared.cell.View.TheVariants.{Loan}
use Rattle.storage_model.specs.Storage.{Storage, places, is_memory, Good}

-- what chains rest on
pub record IsSound (s : Storage) : Type 0 where
  -- a loan stands only on views that were there before it
  pub older : (l k m : ℕ) → (places s l k).view ≡ Loan m → m < l
  -- nothing from `opened` or `made` on is open or alive
  pub to_open : (l : ℕ) → s.opened ≤ l → (s.loan l).is_open ≡ false
  pub to_make : (o : ℕ) → s.made ≤ o → (s.object o).alive ≡ false
  -- each byte of an open loan stands on a live view, in range
  pub grounded : (l k : ℕ) → (s.loan l).is_open ≡ true → k < (s.loan l).bytes → Good s (places s l k)
  -- no loan stands on a descriptor object
  pub plain : (l k : ℕ) → (s.loan l).is_open ≡ true → k < (s.loan l).bytes → is_memory s (places s l k) ≡ true
