-- What the code finds of a pointer before it looks at single bytes.
use Rattle.std.specs.Prelude.{◌≡◌, ◌≢◌, true, pos, ℕ, ◌+◌, ◌<◌, Option, Some, None}
use Rattle.storage_model.specs.declared.cell.View.{View}
use Rattle.storage_model.specs.declared.cell.View.TheVariants.{Home}
use Rattle.storage_model.specs.declared.access.Reach.{Reach}
use Rattle.storage_model.specs.declared.access.Reach.TheVariants.{Nothing, From, Broken}
use Rattle.storage_model.specs.declared.cell.Pointer.{Pointer}
use Rattle.storage_model.specs.declared.cell.Pointer.TheVariants.{At}
use Rattle.jf_base.specs.declared.tag.Tag.{Tag}
use Rattle.storage_model.specs.Storage.{Storage, at, places, Good}

-- n bytes of a view, at least one, from byte k on are bytes of a live view
pub record GoodBytes (s : Storage) (v : View) (k n : ℕ) : Type 0 where
  pub some : 0 < n
  pub byte : (x : ℕ) → x < n → Good s (at v (k + x))

-- the answer, if these are the further points
abbrev pub broken_behind : Reach → (View → ℕ → ℕ → Option Tag) → ℕ → Option Tag
broken_behind Nothing points n = None
broken_behind (From p) points n = points p.view p.offset n
broken_behind (Broken t) points n = Some t

-- the bytes that it reaches
abbrev pub Reaches : Storage → Reach → ℕ → Type 0
Reaches s Nothing n = Unit {0}
Reaches s (From p) n = GoodBytes s p.view p.offset n
Reaches s (Broken t) n = Unit {0}

-- where they begin
abbrev pub StartsAt : Reach → Pointer → ℕ → Type 0
StartsAt Nothing p n = n ≡ 0
StartsAt (From q) p n = p ≡ At q.view (pos q.offset)
StartsAt (Broken t) p n = Unit {0}

-- no byte of an open loan has its place in the object
pub record IsUncovered (s : Storage) (o : ℕ) : Type 0 where
  pub apart : (l k : ℕ) → (s.loan l).is_open ≡ true → k < (s.loan l).bytes → (places s l k).view ≢ Home o
