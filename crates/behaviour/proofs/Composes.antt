-- Following itself, and following composed.
use Rattle.std.proofs.Common.{ℕ, ◌*◌, ◌+◌, ◌≡◌, ◌≤◌, sym, ◌∙◌, ap, inl, inr, arith, ⊎_elim}
use Rattle.std.specs.Prelude.{◌≢◌}
use Rattle.std.proofs.Math.Nat.{mul-le-mul_left, mul-le-mul_right, mul_assoc}
use Rattle.behaviour.specs.Behaviour.{Behaviour, Wrong}
use Rattle.behaviour.specs.Follows.{Follows}

pub same_follows : (a b : Behaviour) → ((n : ℕ) → a n ≡ b n) → Follows 1 a b
same_follows a b e = record {
  forth = λ n fine. (n, omega arith, e n);
  back = λ m. (m, inl (e m));
}

pub wider : (k l : ℕ) (a b : Behaviour) → k ≤ l → Follows k a b → Follows l a b
wider k l a b le f = record {
  forth = λ n fine.
      let h = f.forth n fine in
      let more : k * (n + 1) ≤ l * (n + 1) = mul-le-mul_right (n + 1) le in
      (h.0, (let p = h.1 in omega (arith, p, more)), h.2);
  back = f.back;
}

bound_composes : (k l n m m' : ℕ) → m' ≤ l * (n + 1) → m ≤ k * (m' + 1) → m ≤ k * (l + 1) * (n + 1)
bound_composes k l n m m' h h' =
    let one : m' + 1 ≤ (l + 1) * (n + 1) = grind (arith, h) in
    let two : k * (m' + 1) ≤ k * ((l + 1) * (n + 1)) = mul-le-mul_left k one in
    let three : k * (l + 1) * (n + 1) ≡ k * ((l + 1) * (n + 1)) = mul_assoc k (l + 1) (n + 1) in
    omega (arith, h', two, three)

pub compose : (k l : ℕ) (a b c : Behaviour) → Follows k a b → Follows l b c → Follows (k * (l + 1)) a c
compose k l a b c f g = record {
  forth = λ n fine.
      let h = g.forth n fine in
      let ok : (b h.0).ending ≢ Wrong = λ w. fine (sym (ap (λ s. s.ending) h.2) ∙ w) in
      let h' = f.forth h.0 ok in
      (h'.0, bound_composes k l n h'.0 h.0 h.1 h'.1, h'.2 ∙ h.2);
  back = λ m. let h = f.back m in
      let g' = g.back h.0 in (
        g'.0,
        ⊎_elim
            (λ e. ⊎_elim (λ e'. inl (e ∙ e')) inr g'.1)
            (λ w. ⊎_elim (λ e'. inr (sym (ap (λ s. s.ending) e') ∙ w)) inr g'.1) h.1,
      );
}
