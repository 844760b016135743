-- A read marks each byte of a loan that is beside it, and nothing else.
use Rattle.std.proofs.Common.{ℕ, zero, suc, ◌+◌, ◌-◌, ◌≡◌, ◌≤◌, ◌<◌, refl, sym, ◌∙◌, ap, subst, inl, inr, arith, ⊎_elim, below_more, List, [], ◌∷◌, ◌++◌, length, get_or}
use Rattle.std.specs.Prelude.{◌⊎◌, Bool, true, false, ◌==◌, ◌||◌}
use Rattle.std.proofs.lemmas.Bool.{and_parts, or_cases, or_left, or_right, eqb-true}
use Rattle.storage_model.specs.declared.cell.View.{View}
use Rattle.storage_model.specs.declared.cell.Place.{Place}
use Rattle.storage_model.specs.declared.held.Cover.{Cover}
use Rattle.storage_model.specs.declared.storage.Storage.{Storage}
use Rattle.storage_model.specs.Storage as M
use Rattle.storage_model.specs.Storage.{at, Good, with_read}
use Rattle.storage_model.specs.Chain.{home_of, is_beside, is_open_byte, cell_under}
use Rattle.storage_model.specs.Access.{read_one, read_all, cells_from}
use Rattle.storage_model.specs.Held.{in_stack, stack_at}
use Rattle.storage_model.specs.Marks.{is_at, read_set}
use Rattle.storage_model.specs.Reach.{GoodBytes}
use Rattle.storage_model.specs.Model.{model}
use Rattle.storage_model.proofs.Meanings.{one_test}
use Rattle.storage_model.proofs.Listed.{in_stack_at, beside_listed, open_byte}
use Rattle.storage_model.proofs.Updates.{at_here}

-- how far the marks of a read of byte p have come: those of the first n listed bytes that are beside it
pub record Marked (s cur : M.Storage) (p : Place) (xs : List Cover) (n : ℕ) : Type 0 where
  pub same : cur ≡ with_read s (λ m j. (cur.loan m).read j)
  pub kept : (m j : ℕ) → (s.loan m).read j ≡ true → (cur.loan m).read j ≡ true
  pub only : (m j : ℕ) → (cur.loan m).read j ≡ true → (is_beside s p m j ≡ true) ⊎ ((s.loan m).read j ≡ true)
  pub done : (i : ℕ) → i < n → (d : Cover) → is_beside s p (get_or xs i d).loan (get_or xs i d).byte ≡ true → (cur.loan (get_or xs i d).loan).read (get_or xs i d).byte ≡ true

pub marked_none : (s : M.Storage) (p : Place) (xs : List Cover) → Marked s s p xs 0
marked_none s p xs = record { same = refl; kept = λ m j r. r; only = λ m j r. inr r; done = λ i h. absurd (omega (arith, h)) }

is_at_true : (l k m j : ℕ) → is_at l k m j ≡ true → (m ≡ l) × (j ≡ k)
is_at_true l k m j e = let p = and_parts (m == l) (j == k) e in (eqb-true m l p.0, eqb-true j k p.1)

module _ (s cur : M.Storage) (p : Place) (xs : List Cover) (n : ℕ) (marked : Marked s cur p xs n) (c : Cover) (lt : n < length xs) (is : (d : Cover) → get_or xs n d ≡ c) where
  pub beside_same : (l k : ℕ) → is_beside cur p l k ≡ is_beside s p l k
  beside_same l k = ap (λ x. is_beside x p l k) marked.same

  -- a byte that isn't beside is passed
  pub marked_skip : is_beside cur p c.loan c.byte ≡ false → Marked s cur p xs (n + 1)
  marked_skip off = record {
    same = marked.same;
    kept = marked.kept;
    only = marked.only;
    done = below_more (λ i. (d : Cover) → is_beside s p (get_or xs i d).loan (get_or xs i d).byte ≡ true → (cur.loan (get_or xs i d).loan).read (get_or xs i d).byte ≡ true)
        n marked.done
        (λ d on. let e = sym (ap (λ x. is_beside s p x.loan x.byte) (is d)) ∙ on in let f = sym (beside_same c.loan c.byte) ∙ off in absurd (cc));
  }

  -- one that is, is marked
  pub marked_put : is_beside cur p c.loan c.byte ≡ true → (cur' : M.Storage) → cur' ≡ read_set cur c.loan c.byte → Marked s cur' p xs (n + 1)
  marked_put on cur' e =
      let reads : (m j : ℕ) → (cur'.loan m).read j ≡ is_at c.loan c.byte m j || (cur.loan m).read j = λ m j. ap (λ x. (x.loan m).read j) e in
      record {
        same = e ∙ ap (λ x. read_set x c.loan c.byte) marked.same ∙ (λ i. with_read s (λ m j. sym (reads m j) i));
        kept = λ m j r. reads m j ∙ or_right (is_at c.loan c.byte m j) ((cur.loan m).read j) (marked.kept m j r);
        only = λ m j r. ⊎_elim
            (λ a. let q = is_at_true c.loan c.byte m j a in
            inl (ap (λ x. is_beside s p x j) q.0 ∙ ap (is_beside s p c.loan) q.1 ∙ sym (beside_same c.loan c.byte) ∙ on))
            (marked.only m j)
            (or_cases (is_at c.loan c.byte m j) ((cur.loan m).read j) (sym (reads m j) ∙ r));
        done = below_more (λ i. (d : Cover) → is_beside s p (get_or xs i d).loan (get_or xs i d).byte ≡ true → (cur'.loan (get_or xs i d).loan).read (get_or xs i d).byte ≡ true)
            n
            (λ i h d b. let x = get_or xs i d in reads x.loan x.byte ∙ or_right (is_at c.loan c.byte x.loan x.byte) ((cur.loan x.loan).read x.byte) (marked.done i h d b))
            (λ d b. let x = get_or xs n d in reads x.loan x.byte
            ∙ or_left (is_at c.loan c.byte x.loan x.byte) ((cur.loan x.loan).read x.byte) (at_here c.loan c.byte x.loan x.byte (ap (λ y. y.loan) (is d)) (ap (λ y. y.byte) (is d))));
      }

-- when all that are listed were looked at, the read is done
pub marked_all : (s : Storage) (cur : M.Storage) (p h : Place) → h ≡ home_of (model s) p → (xs : List Cover) → xs ≡ stack_at s.covers.items h → (n : ℕ) → length xs ≤ n → Marked (model s) cur p xs n
    → cur ≡ read_one (model s) p
marked_all s cur p h is xs ex n all marked = marked.same ∙ (λ i. with_read (model s) (λ m j. reads m j i))
  where
    reads : (m j : ℕ) → (cur.loan m).read j ≡ is_beside (model s) p m j || ((model s).loan m).read j
    reads m j = one_test ((cur.loan m).read j) (is_beside (model s) p m j || ((model s).loan m).read j)
        (λ r. ⊎_elim (λ b. or_left (is_beside (model s) p m j) (((model s).loan m).read j) b) (λ b. or_right (is_beside (model s) p m j) (((model s).loan m).read j) b) (marked.only m j r))
        (λ r. ⊎_elim
        (λ b. let d : Cover = record { loan = m; byte = j } in
        let w = in_stack_at m j xs (subst (λ ys. in_stack m j ys ≡ true) (sym ex) (beside_listed s p h is m j b)) in
        let e = w.2 d in
        let here : is_beside (model s) p (get_or xs w.0 d).loan (get_or xs w.0 d).byte ≡ true =
        ap (λ x. is_beside (model s) p x (get_or xs w.0 d).byte) e.0 ∙ ap (is_beside (model s) p m) e.1 ∙ b in
        let lt = w.1 in
        sym (ap (λ x. (cur.loan x).read (get_or xs w.0 d).byte) e.0 ∙ ap (λ y. (cur.loan m).read y) e.1) ∙ marked.done w.0 (omega (arith, lt, all)) d here)
        (marked.kept m j)
        (or_cases (is_beside (model s) p m j) (((model s).loan m).read j) r))

pub good_with_read : (s : M.Storage) (marks : ℕ → ℕ → Bool) (p : Place) → Good s p → Good (with_read s marks) p
good_with_read s marks p g = record { live = g.live; within = g.within }

pub bytes_read_one : (s : M.Storage) (q : Place) (v : View) (k n : ℕ) → GoodBytes s v k n → GoodBytes (read_one s q) v k n
bytes_read_one s q v k n g = record { some = g.some; byte = λ x h. let b = g.byte x h in record { live = b.live; within = b.within } }

-- the next byte of a read
pub read_next : (s : M.Storage) (v : View) (k x n : ℕ) → x < n → read_all s v (k + x) (n - x) ≡ read_all (read_one s (at v (k + x))) v (k + (x + 1)) (n - (x + 1))
read_next s v k x n h =
    let e : n - x ≡ suc (n - (x + 1)) = omega arith in
    let f : k + x + 1 ≡ k + (x + 1) = omega arith in
    ap (read_all s v (k + x)) e ∙ ap (λ y. read_all (read_one s (at v (k + x))) v y (n - (x + 1))) f

pub read_done : (s : M.Storage) (v : View) (k x n : ℕ) → n ≤ x → read_all s v (k + x) (n - x) ≡ s
read_done s v k x n h = let e : n - x ≡ 0 = omega arith in ap (read_all s v (k + x)) e

pub cells_next : (s : M.Storage) (v : View) (k x : ℕ) → cells_from s v k (x + 1) ≡ cells_from s v k x ++ cell_under s (at v (k + x)) ∷ []
cells_next s v k zero = let e : k + 0 ≡ k = omega arith in ap (λ y. cell_under s (at v y) ∷ []) (sym e)
cells_next s v k (suc x) =
    let e : k + 1 + x ≡ k + suc x = omega arith in
    let f : suc x + 1 ≡ suc (x + 1) = omega arith in
    ap (cells_from s v k) f ∙ ap (λ t. cell_under s (at v k) ∷ t) (cells_next s v (k + 1) x ∙ ap (λ y. cells_from s v (k + 1) x ++ cell_under s (at v y) ∷ []) e)

pub beside_within : (s : M.Storage) (p : Place) (l k : ℕ) → is_beside s p l k ≡ true → k < (s.loan l).bytes
beside_within s p l k e = (open_byte s l k (and_parts (is_open_byte s l k) _ e).0).1
