-- Accesses of many bytes.
use Rattle.std.proofs.Common.{ℕ, zero, suc, ◌+◌, ◌≡◌, ◌<◌, refl, sym, subst, inl, inr, arith, ⊎_elim, List, [], ◌∷◌, length}
use Rattle.std.specs.Prelude.{true, ◌||◌, if◌then◌else◌, None, pos}
use Rattle.std.proofs.lemmas.Bool.{or_cases, or_left, or_right, false_from_ne_true, cond-true, cond-false}
use Rattle.storage_model.specs.declared.cell.View.{View}
use Rattle.storage_model.specs.declared.cell.View.TheVariants.{Home, Loan}
use Rattle.storage_model.specs.declared.cell.Place.{Place}
use Rattle.storage_model.specs.declared.cell.Cell.{Cell}
use Rattle.storage_model.specs.declared.cell.Pointer.TheVariants.{At}
use Rattle.storage_model.specs.Storage.{Storage, at, places, On, IsWritable, Good}
use Rattle.storage_model.specs.Laws.{IsSound}
use Rattle.storage_model.specs.Chain.{same_place, home_of, passes, cell_under}
use Rattle.storage_model.specs.Access.{check_read, check_write, write_one, write_all, read_one, read_all}
use Rattle.storage_model.proofs.Chains.{one_home}
use Rattle.storage_model.proofs.Meanings.{place_self, place_true}
use Rattle.storage_model.proofs.Grounds.{home_on, on_passes, passes_on}
use Rattle.storage_relation.specs.Relation.{Readable, Writable, PutCell, SetWritten}
use Rattle.storage_relation.specs.Flat.{Shows, Placement, Stands, address, put, store_all, AllStand, Nothing, Each, AllKnown}
use Rattle.storage_relation.proofs.Checks.{sound_of, read_from, write_from}
use Rattle.storage_relation.proofs.Copy.{put_here, put_else}
use Rattle.storage_relation.proofs.Writing.{write_keeps}
use Rattle.storage_relation.proofs.Ending.{read_keeps}

module _ (s : Storage) (laws : IsSound s) where
  puts_one : (p : Place) → Good s p → (c : Cell)
      → PutCell s p c (λ o i. if same_place (home_of s p) (at (Home o) i) then c else (s.object o).cells i)
  puts_one p g c = let h = home_on s laws p g in record {
    put = λ o i on. cond-true _ c _ (subst (λ x. same_place (home_of s p) x ≡ true) (one_home (places s) h.1 on h.0 tt) (place_self (home_of s p)));
    rest = λ o i away. cond-false _ c _ (false_from_ne_true _ (λ t. away (subst (λ x. On (places s) p x) (place_true (home_of s p) (at (Home o) i) t) h.1)));
  }

  sets_one : (p : Place) → Good s p → SetWritten s p (λ l k. passes s p l k || (s.loan l).written k)
  sets_one p g = record {
    chain = λ l k on. or_left (passes s p l k) ((s.loan l).written k) (on_passes s laws p g l k on);
    kept = λ l k w. or_right (passes s p l k) ((s.loan l).written k) w;
    only = λ l k m. ⊎_elim (λ t. inr (passes_on s laws p g l k t)) inl (or_cases (passes s p l k) ((s.loan l).written k) m);
  }

  -- a write of one byte leaves other bytes writable
  good_write : (q p : Place) (c : Cell) → Good s p → Good (write_one s q c) p
  good_write q p c g = record { live = g.live; within = g.within }

  may_write : (q p : Place) (c : Cell) → Writable s p → Writable (write_one s q c) p
  may_write q p c w = record {
    memory = w.memory;
    views = λ r on. views r.view (w.views r on);
    beside = record { through = λ l k o b m meets. w.beside.through l k o b m meets };
    unread = w.unread;
  }
    where
      views : (v : View) → IsWritable s v → IsWritable (write_one s q c) v
      views (Home o) h = h
      views (Loan l) h = h

pub write_all_keeps : (cs : List Cell) (bs : List ℕ) (s : Storage) (f : Placement) (memory : ℕ → ℕ) (v : View) (k : ℕ) → Shows s f memory
    → ((x : ℕ) → x < length cs → Good s (at v (k + x)) × Writable s (at v (k + x)))
    → AllKnown s.made s.opened cs → AllStand f cs bs
    → Shows (write_all s v k cs) f (store_all memory (f.start v + k) bs)
write_all_keeps [] _ s f memory v k shows may known Nothing = shows
write_all_keeps (c ∷ cs) _ s f memory v k shows may known (Each {b = b} {bs = bs} stands rest) =
    let laws = sound_of s shows.laws in
    let first = may 0 (omega arith) in
    let zero_off : k + 0 ≡ k = omega arith in
    let good = subst (λ x. Good s (at v x)) zero_off first.0 in
    let able = subst (λ x. Writable s (at v x)) zero_off first.1 in
    let after = put memory (f.start v + k) b in
    let step = write_keeps s f memory after shows (at v k) good able c known.0 _ (puts_one s laws (at v k) good c) _ (sets_one s laws (at v k) good)
    (subst (Stands f c) (sym (put_here memory (f.start v + k) b (f.start v + k) refl)) stands)
    (λ x ne. put_else memory (f.start v + k) b x ne) in
    let next : f.start v + k + 1 ≡ f.start v + (k + 1) = omega arith in
    subst (λ a. Shows (write_all (write_one s (at v k) c) v (k + 1) cs) f (store_all after a bs)) (sym next)
    (write_all_keeps cs bs (write_one s (at v k) c) f after v (k + 1) step
    (λ x h. let m = may (suc x) (omega arith) in
    let e : k + suc x ≡ k + 1 + x = omega arith in (
      good_write s laws (at v k) (at v (k + 1 + x)) c (subst (λ y. Good s (at v y)) e m.0),
      may_write s laws (at v k) (at v (k + 1 + x)) c (subst (λ y. Writable s (at v y)) e m.1),
    ))
    known.1 rest)

pub read_all_keeps : (n : ℕ) (s : Storage) (f : Placement) (memory : ℕ → ℕ) (v : View) (k : ℕ) → Shows s f memory → Shows (read_all s v k n) f memory
read_all_keeps zero s f memory v k shows = shows
read_all_keeps (suc n) s f memory v k shows = read_all_keeps n (read_one s (at v k)) f memory v (k + 1) (read_keeps s f memory shows _)

pub read_shows : (s : Storage) (f : Placement) (memory : ℕ → ℕ) → Shows s f memory → (p : Place) → Good s p → Readable s p → Stands f (cell_under s p) (memory (address f p))
read_shows s f memory shows p g r =
    let h = home_on s (sound_of s shows.laws) p g in
    shows.cells p (home_of s p) g r h.0 h.1

-- a write that is allowed is the stores of its bytes
pub allowed_write : (s : Storage) (f : Placement) (memory : ℕ → ℕ) → Shows s f memory
    → (v : View) (k a : ℕ) (cs : List Cell) (bs : List ℕ) → check_write s (At v (pos k)) (length cs) a ≡ None → AllKnown s.made s.opened cs → AllStand f cs bs
    → Shows (write_all s v k cs) f (store_all memory (f.start v + k) bs)
allowed_write s f memory shows v k a cs bs e known stand =
    write_all_keeps cs bs s f memory v k shows (write_from s (sound_of s shows.laws) v k (length cs) a e) known stand

-- a read that is allowed is the loads of its bytes
pub allowed_read : (s : Storage) (f : Placement) (memory : ℕ → ℕ) → Shows s f memory
    → (v : View) (k n a : ℕ) → check_read s (At v (pos k)) n a ≡ None
    → ((x : ℕ) → x < n → Stands f (cell_under s (at v (k + x))) (memory (f.start v + (k + x)))) × Shows (read_all s v k n) f memory
allowed_read s f memory shows v k n a e = (
  λ x h. let r = read_from s (sound_of s shows.laws) v k n a e x h in read_shows s f memory shows (at v (k + x)) r.0 r.1,
  read_all_keeps n s f memory v k shows,
)
