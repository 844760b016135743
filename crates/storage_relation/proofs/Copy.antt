-- What copying bytes does to memory.
use Rattle.std.proofs.Common.{ℕ, zero, suc, ◌≡◌, ◌≤◌, ◌<◌, refl, sym, ◌∙◌, ap, subst, inl, inr, arith, ⊎_elim}
use Rattle.std.specs.Prelude.{◌≢◌, ◌⊎◌}
use Rattle.std.proofs.lemmas.Bool.Decides.{nat_tests}
use Rattle.storage_relation.specs.Flat.{put, copy}
use Rattle.storage_model.proofs.Chains.{nat_or}

pub put_here : (m : ℕ → ℕ) (a b x : ℕ) → x ≡ a → put m a b x ≡ b
put_here m a b x e = grind (arith, nat_tests)

pub put_else : (m : ℕ → ℕ) (a b x : ℕ) → x ≢ a → put m a b x ≡ m x
put_else m a b x e = grind (arith, nat_tests)

pub find_below : (n : ℕ) (P : ℕ → Type 0) → ((k : ℕ) → P k ⊎ (P k → ⊥)) → ((k : ℕ) × (k < n) × P k) ⊎ ((k : ℕ) → k < n → P k → ⊥)
find_below zero P d = inr (λ k h p. absurd (omega arith))
find_below (suc n) P d = ⊎_elim
    (λ (k, h, p). let i : k < suc n = omega arith in inl (k, i, p))
    (λ none. ⊎_elim (λ p. let i : n < suc n = omega arith in inl (n, i, p))
    (λ no. inr (λ k h p. ⊎_elim (λ e. no (subst P e p)) (λ ne. let i : k < n = omega arith in none k i p) (nat_or k n)))
    (d n))
    (find_below n P d)

-- the bytes that matter arrive, and nothing else changes
pub record Arrives (from to : ℕ → ℕ) (n : ℕ) (matters : ℕ → Type 0) (m m' : ℕ → ℕ) : Type 0 where
  pub rest : (a : ℕ) → ((k : ℕ) → k < n → matters k → a ≡ to k → ⊥) → m' a ≡ m a
  pub there : (k : ℕ) → k < n → matters k → m' (to k) ≡ m (from k)

module _ (from to : ℕ → ℕ) (size : ℕ) (matters : ℕ → Type 0) (m : ℕ → ℕ)
    (decided : (k : ℕ) → matters k ⊎ (matters k → ⊥))
    (same : (k : ℕ) → k < size → (matters k → ⊥) → m (from k) ≡ m (to k))
    (own : (j k : ℕ) → j < size → k < size → matters k → to j ≡ to k → j ≡ k)
    (away : (j k : ℕ) → j < size → k < size → from j ≡ to k → ⊥) where
  pub copy_arrives : (n : ℕ) → n ≤ size → Arrives from to n matters m (copy from to n m)
  copy_arrives zero h = record { rest = λ a no. refl; there = λ k i p. absurd (omega arith) }
  copy_arrives (suc n) h =
      let here : n < size = omega arith in
      let ih = copy_arrives n (omega arith) in
      let source : copy from to n m (from n) ≡ m (from n) = ih.rest (from n) (λ k i p e. away n k here (omega arith) e) in
      record {
        rest = λ a no. ⊎_elim
            (λ e. put_here (copy from to n m) (to n) (copy from to n m (from n)) a e ∙ source
            ∙ same n here (λ p. no n (omega arith) p e) ∙ ap m (sym e))
            (λ ne. put_else (copy from to n m) (to n) (copy from to n m (from n)) a ne ∙ ih.rest a (λ k i p e. no k (omega arith) p e))
            (nat_or a (to n));
        there = λ k i p. ⊎_elim
            (λ e. put_here (copy from to n m) (to n) (copy from to n m (from n)) (to k) (ap to e) ∙ source ∙ ap (λ x. m (from x)) (sym e))
            (λ ne. put_else (copy from to n m) (to n) (copy from to n m (from n)) (to k)
            (λ e. ne (sym (own n k here (omega arith) p (sym e))))
            ∙ ih.there k (omega arith) p)
            (nat_or k n);
      }
