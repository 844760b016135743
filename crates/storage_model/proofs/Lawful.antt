-- What follows from the definitions, in the words of the languages.
use Rattle.std.proofs.Common.{ℕ, ◌+◌, ◌≡◌, refl, sym, ◌∙◌, ap, subst, arith}
use Rattle.std.specs.Prelude.{◌≢◌, Bool, true, false, not, ◌==◌, ◌&&◌, ◌||◌, ltb, if◌then◌else◌, Some, None, ℤ, pos}
use Rattle.std.specs.List.{list_all}
use Rattle.std.proofs.lemmas.Bool.{and_parts, and_from, and_left, and_right, or_left, lt-ltb, cond-true, cond-false, eq-eqb, ltb-true, not_from_true, not_from_false, false_from_ne_true}
use Rattle.storage_model.specs.declared.cell.View.{View}
use Rattle.storage_model.specs.declared.cell.View.TheVariants.{Home, Loan}
use Rattle.storage_model.specs.declared.cell.Place.{Place}
use Rattle.storage_model.specs.declared.cell.Cell.{Cell}
use Rattle.storage_model.specs.declared.cell.Cell.TheVariants.{Undefined}
use Rattle.storage_model.specs.declared.cell.Pointer.TheVariants.{At}
use Rattle.storage_model.specs.Tags.{V02, V07}
use Rattle.storage_model.specs.Storage.{Storage, at, by_view, places, is_live, is_memory, IsHome, Good, On}
use Rattle.storage_model.specs.Laws.{IsSound}
use Rattle.storage_model.specs.Chain.{same_place, chain_of, home_of, cell_under, each_below, aligned_to, may_write, not_read, is_open_byte, covers, passes, is_beside, none_beside, written_marks, any_mark}
use Rattle.storage_model.specs.Access.{first, check_read, check_write, read_points, write_points, write_one, read_one}
use Rattle.storage_model.specs.Ends.{check_end, end_one}
use Rattle.storage_model.specs.Loans.{close_one}
use Rattle.storage_model.specs.Reach.{GoodBytes}
use Rattle.storage_model.proofs.Chains.{place_at, on_trans, one_home}
use Rattle.storage_model.proofs.Meanings.{each_fails, place_iff, place_true}
use Rattle.storage_model.proofs.Grounds.{opened_if, good_chain, home_on, home_home, passes_on, on_passes, chain_all}
use Rattle.storage_model.proofs.Points.{access_dead, access_inside, read_rest, write_rest}
use Rattle.storage_model.proofs.Ending.{uncovered_from, sound_end}

pub sound_write : (s : Storage) (p : Place) (c : Cell) → IsSound s → IsSound (write_one s p c)
sound_write s p c laws = record {
  older = laws.older;
  to_open = laws.to_open;
  to_make = laws.to_make;
  grounded = λ l k o b. let g = laws.grounded l k o b in record { live = g.live; within = g.within };
  plain = laws.plain;
}

pub sound_read : (s : Storage) (p : Place) → IsSound s → IsSound (read_one s p)
sound_read s p laws = record {
  older = laws.older;
  to_open = laws.to_open;
  to_make = laws.to_make;
  grounded = λ l k o b. let g = laws.grounded l k o b in record { live = g.live; within = g.within };
  plain = laws.plain;
}

module _ (s : Storage) (laws : IsSound s) where
  -- a read gives what the last write put there, by whichever way
  pub cell_here : (p q : Place) → Good s q → home_of s p ≡ home_of s q → (c : Cell) → cell_under (write_one s p c) q ≡ c
  cell_here p q g e c = go (home_of s q).view refl (home_on s laws q g).0
    where
      go : (v : View) → (home_of s q).view ≡ v → IsHome (home_of s q).view → by_view (λ o. if same_place (home_of s p) (at (Home o) (home_of s q).offset) then c else (s.object o).cells (home_of s q).offset) (λ l. Undefined) (home_of s q).view ≡ c
      go (Home o) f h = ap (by_view (λ o. if same_place (home_of s p) (at (Home o) (home_of s q).offset) then c else (s.object o).cells (home_of s q).offset) (λ l. Undefined)) f
          ∙ cond-true (same_place (home_of s p) (at (Home o) (home_of s q).offset)) c ((s.object o).cells (home_of s q).offset) (place_iff (home_of s p) (at (Home o) (home_of s q).offset) (e ∙ place_at f))
      go (Loan l) f h = absurd (subst IsHome f h)

  -- and nothing else changes
  pub cell_elsewhere : (p q : Place) → Good s q → home_of s p ≢ home_of s q → (c : Cell) → cell_under (write_one s p c) q ≡ cell_under s q
  cell_elsewhere p q g ne c = go (home_of s q).view refl (home_on s laws q g).0
    where
      go : (v : View) → (home_of s q).view ≡ v → IsHome (home_of s q).view → by_view (λ o. if same_place (home_of s p) (at (Home o) (home_of s q).offset) then c else (s.object o).cells (home_of s q).offset) (λ l. Undefined) (home_of s q).view ≡ by_view (λ o. (s.object o).cells (home_of s q).offset) (λ l. Undefined) (home_of s q).view
      go (Home o) f h = ap (by_view (λ o. if same_place (home_of s p) (at (Home o) (home_of s q).offset) then c else (s.object o).cells (home_of s q).offset) (λ l. Undefined)) f
          ∙ cond-false (same_place (home_of s p) (at (Home o) (home_of s q).offset)) c ((s.object o).cells (home_of s q).offset)
          (false_from_ne_true _ (λ t. ne (place_true (home_of s p) (at (Home o) (home_of s q).offset) t ∙ sym (place_at f))))
          ∙ sym (ap (by_view (λ o. (s.object o).cells (home_of s q).offset) (λ l. Undefined)) f)
      go (Loan l) f h = absurd (subst IsHome f h)

  -- what is written through a loan is at home after it closes
  pub cell_arrives : (l k : ℕ) → Good s (at (Loan l) k) → (c : Cell) → cell_under (close_one (write_one s (at (Loan l) k) c) l) (home_of s (at (Loan l) k)) ≡ c
  cell_arrives l k g c =
      let h = home_on s laws (at (Loan l) k) g in
      cell_here (at (Loan l) k) (home_of s (at (Loan l) k)) (good_chain s laws g h.1) (sym (home_home s laws (home_of s (at (Loan l) k)) h.0)) c

  fails_by : (marked : ℕ → ℕ → Bool) (q : Place) (l k : ℕ) → marked l k ≡ true → is_beside s q l k ≡ true → none_beside s marked q ≡ false
  fails_by marked q l k m b =
      let o = and_parts (is_open_byte s l k) (covers s l k q && not (passes s q l k)) b in
      let w = and_parts (s.loan l).is_open (ltb k (s.loan l).bytes) o.0 in
      let t = and_from (marked l k) (is_beside s q l k) m b in
      each_fails (λ l. each_below (λ k. not (marked l k && is_beside s q l k)) (s.loan l).bytes) s.opened l (opened_if s laws l w.0)
      (each_fails (λ k. not (marked l k && is_beside s q l k)) (s.loan l).bytes k (ltb-true k (s.loan l).bytes w.1) (not_from_true (marked l k && is_beside s q l k) t))

  one_byte : (p : Place) → Good s p → GoodBytes s p.view p.offset 1
  one_byte p g = record { some = omega arith; byte = λ x h. let e : p.offset + x ≡ p.offset = omega (arith, h) in subst (λ y. Good s (at p.view y)) (sym e) g }

  each_one : (test : Place → Bool) (p : Place) → test p ≡ false → each_below (λ x. test (at p.view (p.offset + x))) 1 ≡ false
  each_one test p e =
      let f : p.offset + 0 ≡ p.offset = omega arith in
      and_left (test (at p.view (p.offset + 0))) true (ap (λ y. test (at p.view y)) f ∙ e)

  each_one_true : (test : Place → Bool) (p : Place) → test p ≡ true → each_below (λ x. test (at p.view (p.offset + x))) 1 ≡ true
  each_one_true test p e =
      let f : p.offset + 0 ≡ p.offset = omega arith in
      and_from (test (at p.view (p.offset + 0))) true (ap (λ y. test (at p.view y)) f ∙ e) refl

  pub read_refused : (q : Place) (a : ℕ) → Good s q → list_all (aligned_to a) (chain_of s q) ≡ true → is_memory s q ≡ true → none_beside s (written_marks s) q ≡ false
      → check_read s (At q.view (pos q.offset)) 1 a ≡ Some V07
  read_refused q a g al mem fails =
      let w = g.within in
      access_inside s laws (read_points s a) q.view (pos q.offset) q.offset 1 g.live (omega arith) refl (omega (arith, w))
      ∙ read_rest s laws a q.view q.offset 1 false (one_byte q g) al mem (each_one (none_beside s (written_marks s)) q fails)

  pub write_refused : (p : Place) (a : ℕ) → Good s p → list_all (aligned_to a) (chain_of s p) ≡ true → list_all (may_write s) (chain_of s p) ≡ true → is_memory s p ≡ true
      → list_all (not_read s) (chain_of s p) ≡ false → check_write s (At p.view (pos p.offset)) 1 a ≡ Some V07
  write_refused p a g al wr mem fails =
      let w = g.within in
      access_inside s laws (write_points s a) p.view (pos p.offset) p.offset 1 g.live (omega arith) refl (omega (arith, w))
      ∙ write_rest s laws a p.view p.offset 1 (each_below (λ x. none_beside s any_mark (at p.view (p.offset + x))) 1) false (one_byte p g) al
      (each_one_true (λ r. list_all (may_write s) (chain_of s r)) p wr) mem refl
      (each_one (λ r. list_all (not_read s) (chain_of s r)) p fails)
      ∙ ap (λ b. first b V07 None) (and_right (each_below (λ x. none_beside s any_mark (at p.view (p.offset + x))) 1) false refl)

  module _ (p q : Place) (gp : Good s p) (gq : Good s q) (one : home_of s p ≡ home_of s q) (l k : ℕ)
      (on : On (places s) p (at (Loan l) k)) (off : On (places s) q (at (Loan l) k) → ⊥) where
    -- a loan in the chain of one way, and not in that of the other, is beside the other
    beside : is_beside s q l k ≡ true
    beside =
        let g = good_chain s laws gp on in
        let a = home_on s laws p gp in
        let b = home_on s laws (at (Loan l) k) g in
        let over : home_of s (at (Loan l) k) ≡ home_of s q = one_home (places s) (on_trans (places s) on b.1) a.1 b.0 a.0 ∙ one in
        and_from (is_open_byte s l k) (covers s l k q && not (passes s q l k))
        (and_from (s.loan l).is_open (ltb k (s.loan l).bytes) g.live (lt-ltb k (s.loan l).bytes g.within))
        (and_from (covers s l k q) (not (passes s q l k)) (place_iff (home_of s (at (Loan l) k)) (home_of s q) over)
        (not_from_false (passes s q l k) (false_from_ne_true (passes s q l k) (λ t. off (passes_on s laws q gq l k t)))))

-- a write by one way, and then a read by the other
pub write_then_read : (s : Storage) → IsSound s → (p q : Place) → Good s p → Good s q → home_of s p ≡ home_of s q → (l k : ℕ)
    → On (places s) p (at (Loan l) k) → (On (places s) q (at (Loan l) k) → ⊥)
    → (c : Cell) (a : ℕ) → list_all (aligned_to a) (chain_of s q) ≡ true → is_memory s q ≡ true
    → check_read (write_one s p c) (At q.view (pos q.offset)) 1 a ≡ Some V07
write_then_read s laws p q gp gq one l k on off c a al mem =
    let s' = write_one s p c in
    let laws' = sound_write s p c laws in
    read_refused s' laws' q a (record { live = gq.live; within = gq.within }) al mem
    (fails_by s' laws' (written_marks s') q l k (or_left (passes s p l k) ((s.loan l).written k) (on_passes s laws p gp l k on)) (beside s laws p q gp gq one l k on off))

-- a read by one way, and then a write by the other
pub read_then_write : (s : Storage) → IsSound s → (p q : Place) → Good s p → Good s q → home_of s p ≡ home_of s q → (l k : ℕ)
    → On (places s) p (at (Loan l) k) → (On (places s) q (at (Loan l) k) → ⊥)
    → (a : ℕ) → list_all (aligned_to a) (chain_of s p) ≡ true → list_all (may_write s) (chain_of s p) ≡ true → is_memory s p ≡ true
    → check_write (read_one s q) (At p.view (pos p.offset)) 1 a ≡ Some V07
read_then_write s laws p q gp gq one l k on off a al wr mem =
    let s' = read_one s q in
    let laws' = sound_read s q laws in
    let g' : Good s' p = record { live = gp.live; within = gp.within } in
    let marked : not ((is_beside s q l k) || (s.loan l).read k) ≡ false =
    not_from_true (is_beside s q l k || (s.loan l).read k) (or_left (is_beside s q l k) ((s.loan l).read k) (beside s laws p q gp gq one l k on off)) in
    write_refused s' laws' p a g' al wr mem
    (false_from_ne_true (list_all (not_read s') (chain_of s' p)) (λ t. let u = chain_all s' laws' (not_read s') g' t on in cc))

module _ (s : Storage) (laws : IsSound s) (o : ℕ) (ends : check_end s o ≡ None) where
  ended : IsSound (end_one s o)
  ended = sound_end s laws o (uncovered_from s laws o (parts (s.object o).alive (each_below (λ i. none_beside s any_mark (at (Home o) i)) (s.object o).size) ends))
    where
      parts : (a b : Bool) → first a V02 (first b V07 None) ≡ None → b ≡ true
      parts true true e = refl
      parts true false e = cc
      parts false b e = cc

  dead : is_live (end_one s o) (Home o) ≡ false
  dead = cond-true (o == o) false (s.object o).alive (eq-eqb o o refl)

  pub ended_read : (z : ℤ) (n a : ℕ) → check_read (end_one s o) (At (Home o) z) n a ≡ Some V02
  ended_read z n a = access_dead (end_one s o) ended (read_points (end_one s o) a) (Home o) z n dead

  pub ended_write : (z : ℤ) (n a : ℕ) → check_write (end_one s o) (At (Home o) z) n a ≡ Some V02
  ended_write z n a = access_dead (end_one s o) ended (write_points (end_one s o) a) (Home o) z n dead
