-- What a memory holds behind several copies of as many bytes each.
use Rattle.std.proofs.Common.{◌≡◌, ℕ, zero, suc, ◌+◌, ◌<◌, Bool, true, false, refl, sym, ap, ◌∙◌, arith, inl, inr}
use Rattle.std.specs.Prelude.{nat_eq}
use Rattle.std.proofs.lemmas.Bool.Decides.{nat_tests}
use Rattle.flat_ir.specs.Bytes.{Bytes}
use Rattle.flat_ir.specs.Ranges.{AreBytes, Apart, copied}
use Rattle.flat_ir.proofs.Framing.{copied_there, copied_elsewhere, copied_bytes}

module _ (target source : ℕ → ℕ) (len : ℕ) (m : Bytes) where
  -- the first n of them
  abbrev pub moves : ℕ → Bytes
  moves zero = m
  moves (suc n) = copied (moves n) (target n) (source n) len

  pub moves_bytes : (n : ℕ) → AreBytes m → AreBytes (moves n)
  moves_bytes zero b = b
  moves_bytes (suc n) b = copied_bytes (moves n) (target n) (source n) len (moves_bytes n b)

  -- a byte that no target has
  pub moves_elsewhere : (n i : ℕ) → ((k : ℕ) → k < n → Apart (target k) len i 1) → moves n i ≡ m i
  moves_elsewhere zero i h = refl
  moves_elsewhere (suc n) i h =
      copied_elsewhere (moves n) (target n) (source n) len i (h n (omega arith)) ∙ moves_elsewhere n i (λ k l. h k (omega arith))

  byte_apart : (a c i : ℕ) → Apart a len c len → i < len → Apart a len (c + i) 1
  byte_apart a c i (inl x) l = inl (omega arith)
  byte_apart a c i (inr x) l = inr (omega arith)

  -- a byte of a target
  pub moves_there : (n k i : ℕ) → ((j k : ℕ) → j < n → k < n → ¬ (j ≡ k) → Apart (target j) len (target k) len) → ((j k : ℕ) → j < n → k < n → Apart (target j) len (source k) len) → k < n → i < len → moves n (target k + i) ≡ m (source k + i)
  moves_there zero k i own other l li = absurd (omega arith)
  moves_there (suc n) k i own other l li =
      go (λ before. moves_there n k i (λ j k a b. own j k (omega arith) (omega arith)) (λ j k a b. other j k (omega arith) (omega arith)) before li) (nat_eq k n) refl
    where
      go : (k < n → moves n (target k + i) ≡ m (source k + i)) → (b : Bool) → nat_eq k n ≡ b → moves (suc n) (target k + i) ≡ m (source k + i)
      go earlier true e =
          let same : k ≡ n = grind (arith, nat_tests) in
          ap (λ k. moves (suc n) (target k + i)) same
          ∙ (copied_there (moves n) (target n) (source n) len i li
          ∙ (moves_elsewhere n (source n + i) (λ j lj. byte_apart (target j) (source n) i (other j n (omega arith) (omega arith)) li)
          ∙ ap (λ k. m (source k + i)) (sym same)))
      go earlier false e =
          let differ : ¬ (k ≡ n) = grind (arith, nat_tests) in
          let before : k < n = omega arith in
          copied_elsewhere (moves n) (target n) (source n) len (target k + i) (byte_apart (target n) (target k) i (own n k (omega arith) l (λ e. differ (sym e))) li)
          ∙ earlier before
