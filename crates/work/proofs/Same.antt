-- How one behaviour is shown to do what another does, step by step: all the arithmetic of prices is here.
use Rattle.std.proofs.Common.{◌≡◌, ℕ, zero, suc, ◌+◌, ◌*◌, ◌≤◌, refl, sym, ap, ◌∙◌, arith, inl, inr, ⊎_elim}
use Rattle.std.specs.Prelude.{◌≢◌, ◌⊎◌, Option, Some, None}
use Rattle.behaviour.specs.Behaviour.{Wrong, Seen, Behaviour}
use Rattle.behaviour.specs.Follows.{Follows}
use Rattle.work.specs.Units.{unit, ended, with_value}
use Rattle.work.specs.Same.{ForthAt, BackAt, Same, Ready}

module _ (K : ℕ) (some : 1 ≤ K) where
  -- fewer units
  pub less : (p n m : ℕ) (a b : Behaviour) → m ≤ n → Same K p n a b → Same K p m a b
  less p n m a b le s = record { forth = λ i h. s.forth i (omega arith); back = λ j h. s.back j (omega arith) }

  -- more steps
  pub dearer : (p q n : ℕ) (a b : Behaviour) → p ≤ q → Same K p n a b → Same K q n a b
  dearer p q n a b le s = record { forth = λ i h. more i (s.forth i h); back = s.back }
    where
      more : (i : ℕ) → ForthAt K p a b i → ForthAt K q a b i
      more i (inl t) = inl t
      more i (inr r) = inr (r.0, omega (arith, r.1), r.2)

  -- b in place of a behaviour that shows the same
  pub alike : (p n : ℕ) (a b b' : Behaviour) → ((j : ℕ) → b j ≡ b' j) → Same K p n a b' → Same K p n a b
  alike p n a b b' e s = record { forth = λ i h. there i (s.forth i h); back = λ j h. here j (s.back j h) }
    where
      there : (i : ℕ) → ForthAt K p a b' i → ForthAt K p a b i
      there i (inl t) = inl t
      there i (inr r) = inr (r.0, r.1, e r.0 ∙ r.2)

      here : (j : ℕ) → BackAt a b' j → BackAt a b j
      here j (inl t) = inl t
      here j (inr r) = inr (r.0, r.1, r.2 ∙ sym (e j))

  -- a in place of a behaviour that shows the same
  pub alike_first : (p n : ℕ) (a a' b : Behaviour) → ((i : ℕ) → a i ≡ a' i) → Same K p n a' b → Same K p n a b
  alike_first p n a a' b e s = record { forth = λ i h. there i (s.forth i h); back = λ j h. here j (s.back j h) }
    where
      there : (i : ℕ) → ForthAt K p a' b i → ForthAt K p a b i
      there i (inl t) = inl (ap (λ s. s.ending) (e i) ∙ t)
      there i (inr r) = inr (r.0, r.1, r.2 ∙ sym (e i))

      here : (j : ℕ) → BackAt a' b j → BackAt a b j
      here j (inl t) = inl (t.0, t.1, ap (λ s. s.ending) (e t.0) ∙ t.2)
      here j (inr r) = inr (r.0, r.1, e r.0 ∙ r.2)

  -- a step of b that shows nothing
  pub later : (p q n : ℕ) (a b b' : Behaviour) → b 0 ≡ b' 0 → ((j : ℕ) → b (suc j) ≡ b' j) → suc p ≤ q → Same K p n a b' → Same K q n a b
  later p q n a b b' e0 e le s = record { forth = λ i h. there i (s.forth i h); back = back }
    where
      there : (i : ℕ) → ForthAt K p a b' i → ForthAt K q a b i
      there i (inl t) = inl t
      there i (inr r) = inr (suc r.0, omega (arith, r.1), e r.0 ∙ r.2)

      first : BackAt a b' 0 → BackAt a b 0
      first (inl t) = inl t
      first (inr r) = inr (r.0, r.1, r.2 ∙ sym e0)

      next : (j : ℕ) → BackAt a b' j → BackAt a b (suc j)
      next j (inl t) = inl (t.0, omega (arith, t.1), t.2)
      next j (inr r) = inr (r.0, omega (arith, r.1), r.2 ∙ sym (e j))

      back : (j : ℕ) → j ≤ n → BackAt a b j
      back zero h = first (s.back 0 h)
      back (suc j) h = next j (s.back j (omega arith))

  -- a step of b for a unit of a
  pub tick : (p q n : ℕ) (now : Seen) (a b b' : Behaviour) → b 0 ≡ now → ((j : ℕ) → b (suc j) ≡ b' j) → suc q ≤ p + K → ((m : ℕ) → suc m ≤ n → Same K q m a b') → Same K p n (unit now a) b
  tick p q n now a b b' e0 e le s = record { forth = forth; back = back }
    where
      there : (i : ℕ) → ForthAt K q a b' i → ForthAt K p (unit now a) b (suc i)
      there i (inl t) = inl t
      there i (inr r) = inr (suc r.0, omega (arith, r.1), e r.0 ∙ r.2)

      here : (j : ℕ) → BackAt a b' j → BackAt (unit now a) b (suc j)
      here j (inl t) = inl (suc t.0, omega (arith, t.1), t.2)
      here j (inr r) = inr (suc r.0, omega (arith, r.1), r.2 ∙ sym (e j))

      forth : (i : ℕ) → i ≤ n → ForthAt K p (unit now a) b i
      forth zero h = inr (0, omega arith, e0)
      forth (suc i) h = there i ((s i h).forth i (omega arith))

      back : (j : ℕ) → j ≤ n → BackAt (unit now a) b j
      back zero h = inr (0, omega arith, sym e0)
      back (suc j) h = here j ((s j h).back j (omega arith))

  -- both show the same for ever
  pub constant : (p n : ℕ) (s : Seen) (b : Behaviour) → ((j : ℕ) → b j ≡ s) → Same K p n (λ i. s) b
  constant p n s b e = record { forth = λ i h. inr (0, omega arith, e 0); back = λ j h. inr (0, omega arith, sym (e j)) }

  -- the end
  pub ends : (p n : ℕ) (now end : Seen) (b : Behaviour) → b 0 ≡ now → ((j : ℕ) → b (suc j) ≡ end) → Same K p n (ended now end) b
  ends p n now end b e0 e = tick p 0 n now (λ i. end) b (λ j. b (suc j)) e0 (λ j. refl) (omega arith) (λ m le. constant 0 m end (λ j. b (suc j)) e)

  -- where a is wrong, b may show anything
  pub wrong : (p n : ℕ) (now end : Seen) (b : Behaviour) → end.ending ≡ Wrong → b 0 ≡ now → Same K p n (ended now end) b
  wrong p n now end b w e0 = record { forth = forth; back = back }
    where
      forth : (i : ℕ) → i ≤ n → ForthAt K p (ended now end) b i
      forth zero h = inr (0, omega arith, e0)
      forth (suc i) h = inl w

      back : (j : ℕ) → j ≤ n → BackAt (ended now end) b j
      back zero h = inr (0, omega arith, sym e0)
      back (suc j) h = inl (1, omega arith, w)

  -- goes on with a value, or is wrong
  pub valued : {A : Type 0} (p n : ℕ) (now end : Seen) (o : Option A) (go : A → Behaviour) (b : Behaviour) → end.ending ≡ Wrong → b 0 ≡ now
      → ((v : A) → o ≡ Some v → Same K p n (go v) b) → Same K p n (with_value o (ended now end) go) b
  valued p n now end None go b w e0 s = wrong p n now end b w e0
  valued p n now end (Some v) go b w e0 s = s v refl

  -- no unit is left
  pub nothing_yet : (p : ℕ) (a b : Behaviour) → b 0 ≡ a 0 → Same K p 0 a b
  nothing_yet p a b e = record { forth = forth; back = back }
    where
      forth : (i : ℕ) → i ≤ 0 → ForthAt K p a b i
      forth zero h = inr (0, omega arith, e)
      forth (suc i) h = absurd (omega arith)

      back : (j : ℕ) → j ≤ 0 → BackAt a b j
      back zero h = inr (0, omega arith, sym e)
      back (suc j) h = absurd (omega arith)

  -- ready for a unit within its price
  pub ready : (k n : ℕ) (a b : Behaviour) → k ≤ K → Ready K k n a b → Same K 0 n a b
  ready k n a b le s = record { forth = forth; back = s.back }
    where
      more : (i : ℕ) → ((a (suc i)).ending ≡ Wrong) ⊎ ((j : ℕ) × (j ≤ k + K * i) × (b j ≡ a (suc i))) → ForthAt K 0 a b (suc i)
      more i (inl t) = inl t
      more i (inr r) = inr (r.0, omega (arith, r.1), r.2)

      forth : (i : ℕ) → i ≤ n → ForthAt K 0 a b i
      forth zero h = inr (0, omega arith, s.start)
      forth (suc i) h = more i (s.forth i h)

  pub later_ready : (k n : ℕ) (a b b' : Behaviour) → b 0 ≡ b' 0 → ((j : ℕ) → b (suc j) ≡ b' j) → Ready K k n a b' → Ready K (k + 1) n a b
  later_ready k n a b b' e0 e s = record { start = e0 ∙ s.start; forth = λ i h. there i (s.forth i h); back = back }
    where
      there : (i : ℕ) → ((a (suc i)).ending ≡ Wrong) ⊎ ((j : ℕ) × (j ≤ k + K * i) × (b' j ≡ a (suc i))) → ((a (suc i)).ending ≡ Wrong) ⊎ ((j : ℕ) × (j ≤ k + 1 + K * i) × (b j ≡ a (suc i)))
      there i (inl t) = inl t
      there i (inr r) = inr (suc r.0, omega (arith, r.1), e r.0 ∙ r.2)

      first : BackAt a b' 0 → BackAt a b 0
      first (inl t) = inl t
      first (inr r) = inr (r.0, r.1, r.2 ∙ sym e0)

      next : (j : ℕ) → BackAt a b' j → BackAt a b (suc j)
      next j (inl t) = inl (t.0, omega (arith, t.1), t.2)
      next j (inr r) = inr (r.0, omega (arith, r.1), r.2 ∙ sym (e j))

      back : (j : ℕ) → j ≤ n → BackAt a b j
      back zero h = first (s.back 0 h)
      back (suc j) h = next j (s.back j (omega arith))

  pub tick_ready : (q n : ℕ) (now : Seen) (a b b' : Behaviour) → b 0 ≡ now → ((j : ℕ) → b (suc j) ≡ b' j) → ((m : ℕ) → suc m ≤ n → Same K q m a b') → Ready K (q + 1) n (unit now a) b
  tick_ready q n now a b b' e0 e s = record { start = e0; forth = λ i h. there i ((s i h).forth i (omega arith)); back = back }
    where
      there : (i : ℕ) → ForthAt K q a b' i → ((a i).ending ≡ Wrong) ⊎ ((j : ℕ) × (j ≤ q + 1 + K * i) × (b j ≡ a i))
      there i (inl t) = inl t
      there i (inr r) = inr (suc r.0, omega (arith, r.1), e r.0 ∙ r.2)

      here : (j : ℕ) → BackAt a b' j → BackAt (unit now a) b (suc j)
      here j (inl t) = inl (suc t.0, omega (arith, t.1), t.2)
      here j (inr r) = inr (suc r.0, omega (arith, r.1), r.2 ∙ sym (e j))

      back : (j : ℕ) → j ≤ n → BackAt (unit now a) b j
      back zero h = inr (0, omega arith, sym e0)
      back (suc j) h = here j ((s j h).back j (omega arith))

-- what does the same to every depth follows: A d is the behaviour where calls and loops are cut off at depth d
pub same_follows : (K p : ℕ) (A : ℕ → Behaviour) (b : Behaviour) → ((n d : ℕ) → n ≤ d → A d n ≡ A n n) → ((n : ℕ) → Same K p n (A n) b) → Follows (p + K) b (λ n. A n n)
same_follows K p A b free s = record { forth = forth; back = back }
  where
    forth : (n : ℕ) → (A n n).ending ≢ Wrong → (m : ℕ) × (m ≤ (p + K) * (n + 1)) × (b m ≡ A n n)
    forth n fine = ⊎_elim (λ w. absurd (fine w)) (λ r. (r.0, bound K p n r.0 r.1, r.2)) ((s n).forth n (omega arith))
      where
        bound : (K p n j : ℕ) → j ≤ p + K * n → j ≤ (p + K) * (n + 1)
        bound K p n j le = let e : 0 ≤ p * n = omega arith in grind (arith, le, e)

    back : (m : ℕ) → (n : ℕ) × ((b m ≡ A n n) ⊎ ((A n n).ending ≡ Wrong))
    back m = ⊎_elim
        (λ t. (t.0, inr (sym (ap (λ s. s.ending) (free t.0 m t.1)) ∙ t.2)))
        (λ r. (r.0, inl (sym r.2 ∙ free r.0 m r.1)))
        ((s m).back m (omega arith))
