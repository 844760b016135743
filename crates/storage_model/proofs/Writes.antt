-- A write goes down a chain, mark by mark, and puts the cell at its end.
use Rattle.std.proofs.Common.{ℕ, ◌+◌, ◌≡◌, ◌<◌, refl, sym, ◌∙◌, ap, subst, arith, List, ◌∷◌, length, get_or, drop, drop-cons, add-one}
use Rattle.std.specs.Prelude.{Bool, true, false, ◌==◌, ◌&&◌, ◌||◌, if◌then◌else◌}
use Rattle.std.specs.List.{list_any}
use Rattle.std.proofs.lemmas.Bool.{eqb-true, eq-eqb}
use Rattle.storage_model.specs.declared.cell.View.{View}
use Rattle.storage_model.specs.declared.cell.View.TheVariants.{Home, Loan}
use Rattle.storage_model.specs.declared.cell.Place.{Place}
use Rattle.storage_model.specs.declared.cell.Cell.{Cell}
use Rattle.storage_model.specs.Storage.{Storage, at, places, Good, IsHome}
use Rattle.storage_model.specs.Laws.{IsSound}
use Rattle.storage_model.specs.Chain.{same_view, same_place, home_of, passes}
use Rattle.storage_model.specs.Access.{write_one, write_all}
use Rattle.storage_model.specs.Marks.{is_at, cell_set, written_set}
use Rattle.storage_model.specs.Reach.{GoodBytes}
use Rattle.storage_model.proofs.Meanings.{one_test}
use Rattle.storage_model.proofs.Grounds.{chain_loan, home_loan, chain_home, home_home}

pub eqb_sym : (a b : ℕ) → (a == b) ≡ (b == a)
eqb_sym a b = one_test (a == b) (b == a) (λ e. eq-eqb b a (sym (eqb-true a b e))) (λ e. eq-eqb a b (sym (eqb-true b a e)))

-- marks that are found first, or later, or were there
or_swap : (r a w : Bool) → r || (a || w) ≡ (a || r) || w
or_swap true true w = refl
or_swap true false w = refl
or_swap false true w = refl
or_swap false false w = refl

module _ (s : Storage) (laws : IsSound s) (p : Place) (g : Good s p) where
  -- a byte of a loan is marked, and the write goes on below it
  pub write_step : (l : ℕ) → p.view ≡ Loan l → (c : Cell) → write_one (written_set s l p.offset) (places s l p.offset) c ≡ write_one s p c
  write_step l e c =
      let q = places s l p.offset in
      let h : home_of s q ≡ home_of s p = sym (home_loan s laws p l g e) in
      let seen : (m j : ℕ) → passes s p m j ≡ is_at l p.offset m j || passes s q m j =
      λ m j. ap (list_any (same_place (at (Loan m) j))) (chain_loan s laws p l g e)
      ∙ ap (λ v. (same_view (Loan m) v && (j == p.offset)) || passes s q m j) e in
      let marks : (m j : ℕ) → passes s q m j || (is_at l p.offset m j || (s.loan m).written j) ≡ passes s p m j || (s.loan m).written j =
      λ m j. or_swap (passes s q m j) (is_at l p.offset m j) ((s.loan m).written j) ∙ ap (λ x. x || (s.loan m).written j) (sym (seen m j)) in
      λ i. record s {
        object = λ o. record (s.object o) { cells = λ x. if same_place (h i) (at (Home o) x) then c else (s.object o).cells x };
        loan = λ m. record (s.loan m) { written = λ j. marks m j i };
      }

  -- the cell is put at the home byte
  pub write_end : (o : ℕ) → p.view ≡ Home o → (c : Cell) → cell_set s o p.offset c ≡ write_one s p c
  write_end o e c =
      let is_home : IsHome p.view = subst IsHome (sym e) tt in
      let h : home_of s p ≡ p = home_home s laws p is_home in
      let marks : (m j : ℕ) → (s.loan m).written j ≡ passes s p m j || (s.loan m).written j =
      λ m j. sym (ap (λ x. x || (s.loan m).written j)
      (ap (list_any (same_place (at (Loan m) j))) (chain_home s laws p is_home)
      ∙ ap (λ v. (same_view (Loan m) v && (j == p.offset)) || false) e)) in
      let here : (o' x : ℕ) → is_at o p.offset o' x ≡ same_place (home_of s p) (at (Home o') x) =
      λ o' x. ap (λ b. b && (x == p.offset)) (eqb_sym o' o) ∙ ap (λ b. (o == o') && b) (eqb_sym x p.offset)
      ∙ sym (ap (λ q. same_place q (at (Home o') x)) h ∙ ap (λ v. same_view v (Home o') && (p.offset == x)) e) in
      λ i. record s {
        object = λ o'. record (s.object o') { cells = λ x. if here o' x i then c else (s.object o').cells x };
        loan = λ m. record (s.loan m) { written = λ j. marks m j i };
      }

-- a mark or a cell leaves bytes as good as they were
pub good_written_set : (s : Storage) (l k : ℕ) (p : Place) → Good s p → Good (written_set s l k) p
good_written_set s l k p g = record { live = g.live; within = g.within }

pub bytes_write_one : (s : Storage) (q : Place) (c : Cell) (v : View) (k n : ℕ) → GoodBytes s v k n → GoodBytes (write_one s q c) v k n
bytes_write_one s q c v k n g = record { some = g.some; byte = λ x h. let b = g.byte x h in record { live = b.live; within = b.within } }

-- the next byte of a write
pub write_next : (s : Storage) (v : View) (k i : ℕ) (cs : List Cell) (d : Cell) → i < length cs
    → write_all s v (k + i) (drop i cs) ≡ write_all (write_one s (at v (k + i)) (get_or cs i d)) v (k + (i + 1)) (drop (i + 1) cs)
write_next s v k i cs d h =
    let e : drop i cs ≡ get_or cs i d ∷ drop (i + 1) cs = drop-cons cs i d h ∙ ap (λ n. get_or cs i d ∷ drop n cs) (sym (add-one i)) in
    let f : k + i + 1 ≡ k + (i + 1) = omega arith in
    ap (write_all s v (k + i)) e ∙ ap (λ n. write_all (write_one s (at v (k + i)) (get_or cs i d)) v n (drop (i + 1) cs)) f
