-- `scatter` scatters.
use Rattle.std.proofs.Common.{◌≡◌, ℕ, zero, suc, ◌+◌, ◌*◌, ◌<◌, ◌≤◌, List, [], ◌∷◌, length, Bool, true, false, refl, sym, ap, ◌∙◌, arith}
use Rattle.std.specs.Prelude.{nat_eq}
use Rattle.std.proofs.lemmas.Bool.Decides.{nat_tests}
use Rattle.std.proofs.Math.Nat.{le-mul_of_pos_right}
use Rattle.behaviour.specs.Behaviour.{Running}
use Rattle.flat_ir.specs.Bytes.{Bytes, Areas}
use Rattle.flat_ir.specs.Ranges.{Apart}
use Rattle.flat_ir.specs.Flat.{seen, with_memory, calls_of}
use Rattle.flat_ir.specs.Comes.{Exactly}
use Rattle.flat_ir.proofs.Exact.{counted}
use Rattle.flat_ir.proofs.Framing.{apart_turned}
use Rattle.flat_routines.specs.Dims.{Dim, count, AreSubscripts, position, element, DimsAt}
use Rattle.flat_routines.specs.Moving.{scatter, Scattered, Scattering, Scatters, units}
use Rattle.flat_routines.proofs.Order.{digits, digits_are, digits_position, position_digits, position_less}
use Rattle.flat_routines.proofs.Moves.{moves, moves_elsewhere, moves_there}
use Rattle.flat_routines.proofs.Parts.{inside_row, part_apart, part_usable, byte_of, dims_kept}
use Rattle.flat_routines.proofs.Whole.{without_bytes, without_elements, with_elements}

-- nothing to scatter
nothing : (m : Bytes) (packed base len : ℕ) (dims : List Dim) → ((ks : List ℕ) (i : ℕ) → AreSubscripts dims ks → i < len → ⊥) → Scattered m m packed base len dims
nothing m packed base len dims none = record { there = λ ks i h l. absurd (none ks i h l); elsewhere = λ i a. refl }

module _ (s : Areas) (m : Bytes) (packed base len table : ℕ) (dims : List Dim) (h : Scattering s m packed base len table dims) where
  abbrev at_row : ℕ → ℕ
  at_row k = packed + k * len

  abbrev at_element : ℕ → ℕ
  at_element k = element base dims (digits k dims)

  own : (j k : ℕ) → j < count dims → k < count dims → ¬ (j ≡ k) → Apart (at_element j) len (at_element k) len
  own j k lj lk differ =
      h.each_apart (digits j dims) (digits k dims) (digits_are dims j lj) (digits_are dims k lk)
      (λ e. differ (sym (digits_position dims j lj) ∙ (ap (position dims) e ∙ digits_position dims k lk)))

  other : (j k : ℕ) → j < count dims → k < count dims → Apart (at_element j) len (at_row k) len
  other j k lj lk =
      apart_turned (at_row k) len (at_element j) len (part_apart packed (count dims * len) (at_element j) len (k * len) len (h.moving.element_apart (digits j dims) (digits_are dims j lj)) (inside_row k (count dims) len lk))

  pub scattered : Scattered m (moves at_element at_row len m (count dims)) packed base len dims
  scattered = record {
    there = λ ks i a l.
        ap (λ ks. moves at_element at_row len m (count dims) (element base dims ks + i)) (sym (position_digits dims ks a))
        ∙ moves_there at_element at_row len m (count dims) (position dims ks) i own other (position_less dims ks a) l;
    elsewhere = λ i a. moves_elsewhere at_element at_row len m (count dims) i (λ k l. a (digits k dims) (digits_are dims k l));
  }

  pub kept : (k : ℕ) → k < count dims → DimsAt s (moves at_element at_row len m k) table dims
  kept k l =
      dims_kept s m (moves at_element at_row len m k) table dims
      (λ i low high. moves_elsewhere at_element at_row len m k i (λ j lj.
      let here : j < count dims = omega arith in
      byte_of (at_element j) len table (length dims * 24) i (h.dims_apart (digits j dims) (digits_are dims j here)) low high))
      h.moving.dims_there

pub scatters : Scatters scatter
scatters copying copies ps g copy p has_copy here d packed base zero table dims w back room ask fuel =
    (w.memory, nothing w.memory packed base 0 dims (λ ks i h l. omega arith), without_bytes ps g copy p _ here d w back room packed base (length dims) table (count dims) (omega arith))
scatters copying copies ps g copy p has_copy here d packed base (suc len) table dims w back room ask fuel = go (nat_eq (count dims) 0) refl
  where
    one : (n : ℕ) → 1 ≡ 0 * n + 1
    one n = omega arith

    go : (b : Bool) → nat_eq (count dims) 0 ≡ b → (m' : Bytes) × Scattered w.memory m' packed base (suc len) dims
        × Exactly (seen w Running) (units (suc len) (length dims) (count dims)) (back [] (with_memory w m')) (calls_of ps g d p (packed ∷ base ∷ suc len ∷ length dims ∷ table ∷ count dims ∷ []) w back)
    go true e =
        let none : count dims ≡ 0 = grind (arith, nat_tests) in
        let no_units : 1 ≡ units (suc len) (length dims) (count dims) = one (suc len + length dims + 2) ∙ ap (λ n. n * (suc len + length dims + 2) + 1) (sym none) in (
          w.memory,
          nothing w.memory packed base (suc len) dims (λ ks i h l. let less = position_less dims ks h in omega (arith, less, none)),
          counted no_units (without_elements ps g copy p _ here d w back room packed base len (length dims) table (count dims) none (omega arith)),
        )
    go false e =
        let some : 0 < count dims = grind (arith, nat_tests) in
        let more : count dims ≤ count dims * suc len = le-mul_of_pos_right (count dims) (omega arith) in
        let h = ask (omega (arith, some, more)) in
        let ends = h.moving.packed_usable.narrow in (
          _,
          scattered g.areas w.memory packed base (suc len) table dims h,
          with_elements ps g copy p _ here d w back room copying copies has_copy packed base len table dims (λ c e. e) (λ c e. c) (λ c e b l r tb n k q at left x w next. refl)
              h.moving.base_fits ends (omega (arith, more, ends)) h.moving.dims_end h.moving.bytes fuel
              (λ k l. h.moving.element_usable (digits k dims) (digits_are dims k l))
              (λ k l. part_usable g.areas packed (count dims * suc len) (k * suc len) (suc len) h.moving.packed_usable (inside_row k (count dims) (suc len) l))
              (kept g.areas w.memory packed base (suc len) table dims h),
        )
