-- What is seen at a greater bound.
use Rattle.std.proofs.Common.{rules, ℕ, zero, suc, [], ◌∷◌, ◌++◌, ◌+◌, ◌-◌, ◌≡◌, ◌≤◌, refl, sym, ◌∙◌, ap, subst, inl, inr, arith, ⊎_elim, append_assoc}
use Rattle.std.specs.Prelude.{◌≢◌, ◌⊎◌}
use Rattle.std.proofs.lemmas.Bool.{cases_lt}
use Rattle.behaviour.specs.Behaviour.{Behaviour, Seen, Running}
use Rattle.behaviour.specs.Run.{Event, Gives, Takes, Ends, IsRun, Extends}
use Rattle.behaviour.proofs.Endings.{weight, event_weight, event_running}

pub le_or : (m n : ℕ) → (m ≤ n) ⊎ (n ≤ m)
le_or m n = ⊎_elim (λ lt. inl (omega (arith, lt))) inr (cases_lt m n)

same_extends : (s t : Seen) → t ≡ s → Extends s t
same_extends s t e = record {
  rest = [];
  output = ap (λ u. u.output) e ∙ search rules;
  taken = let e' = ap (λ u. u.taken) e in omega (arith, e');
}

event_extends : (s t : Seen) → Event s t → Extends s t
event_extends _ _ (Gives o t b) = record { rest = b ∷ []; output = refl; taken = omega arith }
event_extends _ _ (Takes o t) = record { rest = []; output = search rules; taken = omega arith }
event_extends _ _ (Ends o t e h) = record { rest = []; output = search rules; taken = omega arith }

extends_on : (s t u : Seen) → Extends s t → Extends t u → Extends s u
extends_on s t u p q = record {
  rest = p.rest ++ q.rest;
  output = q.output ∙ ap (λ o. o ++ q.rest) p.output ∙ append_assoc s.output p.rest q.rest;
  taken = let x = p.taken in let y = q.taken in omega (arith, x, y);
}

module _ (a : Behaviour) (run : IsRun a) where
  extends : (m d : ℕ) → Extends (a m) (a (m + d))
  extends m zero = let e : m + 0 ≡ m = omega arith in same_extends (a m) (a (m + 0)) (ap a e)
  extends m (suc d) =
      let e : m + d + 1 ≡ m + suc d = omega arith in
      subst (λ n. Extends (a m) (a n)) e
      (extends_on (a m) (a (m + d)) (a (m + d + 1)) (extends m d)
      (⊎_elim (same_extends (a (m + d)) (a (m + d + 1))) (event_extends (a (m + d)) (a (m + d + 1))) (run.steps (m + d))))

  pub extends_at : (m n : ℕ) → m ≤ n → Extends (a m) (a n)
  extends_at m n le =
      let e : m + (n - m) ≡ n = omega (arith, le) in
      subst (λ k. Extends (a m) (a k)) e (extends m (n - m))

  -- later, the same is seen or more
  later : (m d : ℕ) → (a (m + d) ≡ a m) ⊎ (weight (a m) + 1 ≤ weight (a (m + d)))
  later m zero = let e : m + 0 ≡ m = omega arith in inl (ap a e)
  later m (suc d) =
      let e : m + suc d ≡ m + d + 1 = omega arith in
      let P : ℕ → Type 0 = λ n. (a n ≡ a m) ⊎ (weight (a m) + 1 ≤ weight (a n)) in
      let goal : P (m + d + 1) = ⊎_elim
      (λ same. ⊎_elim (λ q. inl (same ∙ q)) (λ q. let s = ap weight same in inr (omega (arith, q, s))) (later m d))
      (λ ev. let w = event_weight (a (m + d)) (a (m + d + 1)) ev in
      ⊎_elim (λ q. let s = ap weight q in inr (omega (arith, w, s))) (λ q. inr (omega (arith, q, w))) (later m d))
      (run.steps (m + d)) in
      subst P (sym e) goal

  pub later_at : (m m' : ℕ) → m ≤ m' → (a m' ≡ a m) ⊎ (weight (a m) + 1 ≤ weight (a m'))
  later_at m m' le =
      let e : m + (m' - m) ≡ m' = omega (arith, le) in
      subst (λ n. (a n ≡ a m) ⊎ (weight (a m) + 1 ≤ weight (a n))) e (later m (m' - m))

  after_end : (m d : ℕ) → (a m).ending ≢ Running → a (m + d) ≡ a m
  after_end m zero h = let e : m + 0 ≡ m = omega arith in ap a e
  after_end m (suc d) h =
      let e : m + suc d ≡ m + d + 1 = omega arith in
      let ih = after_end m d h in
      ap a e ∙ ⊎_elim (λ same. same ∙ ih) (λ ev. absurd (h (sym (ap (λ s. s.ending) ih) ∙ event_running (a (m + d)) (a (m + d + 1)) ev))) (run.steps (m + d))

  pub after_end_at : (m n : ℕ) → m ≤ n → (a m).ending ≢ Running → a n ≡ a m
  after_end_at m n le h =
      let e : m + (n - m) ≡ n = omega (arith, le) in
      subst (λ k. a k ≡ a m) e (after_end m (n - m) h)

  -- between two moments that are one event apart, one of the two is seen
  pub between : (s t : Seen) (m₁ m m₂ : ℕ) → m₁ ≤ m → m ≤ m₂ → a m₁ ≡ s → a m₂ ≡ t → (t ≡ s) ⊎ Event s t → (a m ≡ s) ⊎ (a m ≡ t)
  between s t m₁ m m₂ le le' e e' step =
      ⊎_elim (λ q. inl (q ∙ e))
      (λ w. ⊎_elim (λ q. inr (sym q ∙ e'))
      (λ w'. let x = ap weight e in let y = ap weight e' in
      ⊎_elim (λ q. let z = ap weight q in absurd (omega (arith, w, w', x, y, z)))
      (λ ev. let z = event_weight s t ev in absurd (omega (arith, w, w', x, y, z))) step)
      (later_at m m₂ le'))
      (later_at m₁ m le)
