-- The computed tests mean what the relation's facts say.
use Rattle.std.proofs.Common.{ℕ, zero, suc, ◌+◌, ◌≡◌, ◌<◌, refl, ap, arith, ⊎_elim}
use Rattle.std.specs.Prelude.{Bool, true, false, not, ◌&&◌, ltb, Option, None, pos}
use Rattle.std.specs.List.{list_all}
use Rattle.std.proofs.lemmas.Bool.{and_parts, and_from, cases_Bool, not_from_true, not_from_false, both_ways, lt-ltb, ltb-true, not-true}
use Rattle.jf_base.specs.declared.tag.Tag.{Tag}
use Rattle.storage_model.specs.declared.cell.View.{View}
use Rattle.storage_model.specs.declared.cell.View.TheVariants.{Home, Loan}
use Rattle.storage_model.specs.declared.cell.Place.{Place}
use Rattle.storage_model.specs.declared.cell.Pointer.TheVariants.{At}
use Rattle.storage_model.specs.Tags.{V01, V02, V05, V06, V07, V21}
use Rattle.storage_model.specs.Storage.{Storage, at, is_live, is_memory, size_of, can_write, IsWritable, Good}
use Rattle.storage_model.specs.Laws.{IsSound}
use Rattle.storage_model.specs.Chain.{chain_of, home_of, in_range, each_below, each_byte, aligned_to, may_write, not_read, is_open_byte, covers, passes, is_beside, none_beside, written_marks, any_mark}
use Rattle.storage_model.specs.Access.{first, check_read, check_write}
use Rattle.storage_model.specs.Ends.{check_end}
use Rattle.storage_model.proofs.Meanings.{each_at, place_iff}
use Rattle.storage_model.proofs.Grounds.{good_loan, opened_if, homes, passes_on, chain_all}
use Rattle.storage_model.proofs.Points.{head_fails}
use Rattle.storage_relation.specs.Relation.{NoneBeside, AnyMark, Readable, Writable}
use Rattle.storage_relation.specs.Flat.{IsStorage}

pub sound_of : (s : Storage) → IsStorage s → IsSound s
sound_of s laws = record { older = laws.older; to_open = laws.to_open; to_make = laws.to_make; grounded = laws.grounded; plain = laws.plain }

pub first_none : (b : Bool) (t : Tag) (rest : Option Tag) → first b t rest ≡ None → (b ≡ true) × (rest ≡ None)
first_none true t rest e = (refl, e)
first_none false t rest e = cc

module _ (s : Storage) (laws : IsSound s) where
  head_holds : (test : Place → Bool) (p : Place) → list_all test (chain_of s p) ≡ true → test p ≡ true
  head_holds test p e = ⊎_elim (λ t. t) (λ f. absurd (both_ways (list_all test (chain_of s p)) (head_fails s laws test p f) e)) (cases_Bool (test p))

  pub none_from : (marked : ℕ → ℕ → Bool) (p : Place) → Good s p → none_beside s marked p ≡ true → NoneBeside s (λ l k. marked l k ≡ true) p
  none_from marked p g e = record {
    through = λ l k o b m meets.
        let at_l = each_at (λ l. each_below (λ k. not (marked l k && is_beside s p l k)) (s.loan l).bytes) s.opened l e (opened_if s laws l o) in
        let at_k = each_at (λ k. not (marked l k && is_beside s p l k)) (s.loan l).bytes k at_l b in
        let same = homes s laws (at (Loan l) k) p (good_loan s laws l k o b) g
        (record { home = meets.home; is_home = meets.is_home; left = meets.right; right = meets.left }) in
        ⊎_elim
        (λ t. passes_on s laws p g l k t)
        (λ f.
        let beside : is_beside s p l k ≡ true = and_from (is_open_byte s l k) (covers s l k p && not (passes s p l k))
        (and_from (s.loan l).is_open (ltb k (s.loan l).bytes) o (lt-ltb k (s.loan l).bytes b))
        (and_from (covers s l k p) (not (passes s p l k)) (place_iff (home_of s (at (Loan l) k)) (home_of s p) same) (not_from_false (passes s p l k) f)) in
        absurd (both_ways (not (marked l k && is_beside s p l k)) (not_from_true (marked l k && is_beside s p l k) (and_from (marked l k) (is_beside s p l k) m beside)) at_k))
        (cases_Bool (passes s p l k));
  }

  good_from : (v : View) (k n : ℕ) → each_byte s v k n (λ q. is_live s q.view) ≡ true → each_byte s v k n (in_range s) ≡ true → (x : ℕ) → x < n → Good s (at v (k + x))
  good_from v k n a b x h = record {
    live = head_holds (λ q. is_live s q.view) (at v (k + x)) (each_at (λ x. list_all (λ q. is_live s q.view) (chain_of s (at v (k + x)))) n x a h);
    within = ltb-true (k + x) (size_of s v) (head_holds (in_range s) (at v (k + x)) (each_at (λ x. list_all (in_range s) (chain_of s (at v (k + x)))) n x b h));
  }

  reading : (a b c d e : Bool) → first a V02 (first b V01 (first c V05 (first d V21 (first e V07 None)))) ≡ None → (a ≡ true) × (b ≡ true) × (e ≡ true)
  reading true true true true true h = (refl, refl, refl)
  reading true true true true false h = cc
  reading true true true false e h = cc
  reading true true false d e h = cc
  reading true false c d e h = cc
  reading false b c d e h = cc

  writing : (a b c w d e : Bool) → first a V02 (first b V01 (first c V05 (first w V06 (first d V21 (first e V07 None))))) ≡ None
      → (a ≡ true) × (b ≡ true) × (w ≡ true) × (d ≡ true) × (e ≡ true)
  writing true true true true true true h = (refl, refl, refl, refl, refl)
  writing true true true true true false h = cc
  writing true true true true false e h = cc
  writing true true true false d e h = cc
  writing true true false w d e h = cc
  writing true false c w d e h = cc
  writing false b c w d e h = cc

  -- where the test finds nothing broken, each byte can be read
  pub read_from : (v : View) (k n a : ℕ) → check_read s (At v (pos k)) n a ≡ None → (x : ℕ) → x < n → Good s (at v (k + x)) × Readable s (at v (k + x))
  read_from v k zero a e x h = absurd (omega arith)
  read_from v k (suc m) a e x h =
      let c = reading (each_byte s v k (suc m) (λ q. is_live s q.view)) (each_byte s v k (suc m) (in_range s)) (list_all (aligned_to a) (chain_of s (at v k)))
      (each_byte s v k (suc m) (is_memory s)) (each_below (λ x. none_beside s (written_marks s) (at v (k + x))) (suc m)) e in
      let g = good_from v k (suc m) c.0 c.1 x h in
      (g, none_from (written_marks s) (at v (k + x)) g (each_at (λ x. none_beside s (written_marks s) (at v (k + x))) (suc m) x c.2 h))

  -- and written
  pub write_from : (v : View) (k n a : ℕ) → check_write s (At v (pos k)) n a ≡ None → (x : ℕ) → x < n → Good s (at v (k + x)) × Writable s (at v (k + x))
  write_from v k zero a e x h = absurd (omega arith)
  write_from v k (suc m) a e x h =
      let p = at v (k + x) in
      let c = writing (each_byte s v k (suc m) (λ q. is_live s q.view)) (each_byte s v k (suc m) (in_range s)) (list_all (aligned_to a) (chain_of s (at v k)))
      (each_byte s v k (suc m) (may_write s)) (each_byte s v k (suc m) (is_memory s))
      (each_below (λ x. none_beside s any_mark (at v (k + x))) (suc m) && each_byte s v k (suc m) (not_read s)) e in
      let g = good_from v k (suc m) c.0 c.1 x h in
      let b = and_parts (each_below (λ x. none_beside s any_mark (at v (k + x))) (suc m)) (each_byte s v k (suc m) (not_read s)) c.4 in
      let beside = none_from any_mark p g (each_at (λ x. none_beside s any_mark (at v (k + x))) (suc m) x b.0 h) in
      let w = each_at (λ x. list_all (may_write s) (chain_of s (at v (k + x)))) (suc m) x c.2 h in
      let y = each_at (λ x. list_all (is_memory s) (chain_of s (at v (k + x)))) (suc m) x c.3 h in
      let u = each_at (λ x. list_all (not_read s) (chain_of s (at v (k + x)))) (suc m) x b.1 h in (
        g,
        record {
          memory = λ q on. chain_all s laws (is_memory s) g y on;
          views = λ q on. writable q.view q.offset (chain_all s laws (may_write s) g w on);
          beside = record { through = λ l i o b m meets. beside.through l i o b refl meets };
          unread = λ l i on. not-true ((s.loan l).read i) (chain_all s laws (not_read s) g u on);
        },
      )
    where
      writable : (v : View) (k : ℕ) → may_write s (at v k) ≡ true → IsWritable s v
      writable (Home o) k e = λ r. both_ways (can_write (s.object o).kind) (ap can_write r) e
      writable (Loan l) k e = e

  -- no open loan is beside a byte of an object that may end
  pub end_from : (n : ℕ) → check_end s n ≡ None → (i : ℕ) → i < (s.object n).size → NoneBeside s AnyMark (at (Home n) i)
  end_from n e i h =
      let a = first_none (s.object n).alive V02 (first (each_below (λ i. none_beside s any_mark (at (Home n) i)) (s.object n).size) V07 None) e in
      let b = first_none (each_below (λ i. none_beside s any_mark (at (Home n) i)) (s.object n).size) V07 None a.1 in
      let g : Good s (at (Home n) i) = record { live = a.0; within = h } in
      let beside = none_from any_mark (at (Home n) i) g (each_at (λ i. none_beside s any_mark (at (Home n) i)) (s.object n).size i b.0 h) in
      record { through = λ l k o b m meets. beside.through l k o b refl meets }
