-- How one behaviour is shown to do what another does where it leaves out units that show nothing.
use Rattle.std.proofs.Common.{◌≡◌, ℕ, zero, suc, ◌+◌, ◌*◌, ◌≤◌, refl, sym, ap, ◌∙◌, arith, inl, inr, ⊎_elim}
use Rattle.std.specs.Prelude.{◌≢◌, ◌⊎◌}
use Rattle.behaviour.specs.Behaviour.{Wrong, Seen, Behaviour}
use Rattle.behaviour.specs.Follows.{Follows}
use Rattle.work.specs.Units.{unit, ended}
use Rattle.work.specs.Same.{ForthAt, SometimeBackAt, Same, Sheds}

pub of_same : (K p n : ℕ) (a b : Behaviour) → Same K p n a b → Sheds K p n a b
of_same K p n a b s = record { forth = s.forth; back = λ j le. ⊎_elim (λ t. inl (t.0, t.2)) (λ r. inr (r.0, r.2)) (s.back j le) }

module _ (K : ℕ) (some : 1 ≤ K) where
  pub less : (p n m : ℕ) (a b : Behaviour) → m ≤ n → Sheds K p n a b → Sheds K p m a b
  less p n m a b le s = record { forth = λ i h. s.forth i (omega arith); back = λ j h. s.back j (omega arith) }

  pub dearer : (p q n : ℕ) (a b : Behaviour) → p ≤ q → Sheds K p n a b → Sheds K q n a b
  dearer p q n a b le s = record { forth = λ i h. more i (s.forth i h); back = s.back }
    where
      more : (i : ℕ) → ForthAt K p a b i → ForthAt K q a b i
      more i (inl t) = inl t
      more i (inr r) = inr (r.0, omega (arith, r.1), r.2)

  pub alike : (p n : ℕ) (a b b' : Behaviour) → ((j : ℕ) → b j ≡ b' j) → Sheds K p n a b' → Sheds K p n a b
  alike p n a b b' e s = record { forth = λ i h. there i (s.forth i h); back = λ j h. here j (s.back j h) }
    where
      there : (i : ℕ) → ForthAt K p a b' i → ForthAt K p a b i
      there i (inl t) = inl t
      there i (inr r) = inr (r.0, r.1, e r.0 ∙ r.2)

      here : (j : ℕ) → SometimeBackAt a b' j → SometimeBackAt a b j
      here j (inl t) = inl t
      here j (inr r) = inr (r.0, r.1 ∙ sym (e j))

  pub alike_first : (p n : ℕ) (a a' b : Behaviour) → ((i : ℕ) → a i ≡ a' i) → Sheds K p n a' b → Sheds K p n a b
  alike_first p n a a' b e s = record { forth = λ i h. there i (s.forth i h); back = λ j h. here j (s.back j h) }
    where
      there : (i : ℕ) → ForthAt K p a' b i → ForthAt K p a b i
      there i (inl t) = inl (ap (λ s. s.ending) (e i) ∙ t)
      there i (inr r) = inr (r.0, r.1, r.2 ∙ sym (e i))

      here : (j : ℕ) → SometimeBackAt a' b j → SometimeBackAt a b j
      here j (inl t) = inl (t.0, ap (λ s. s.ending) (e t.0) ∙ t.1)
      here j (inr r) = inr (r.0, e r.0 ∙ r.1)

  -- a step of b that shows nothing
  pub later : (p q n : ℕ) (a b b' : Behaviour) → b 0 ≡ b' 0 → ((j : ℕ) → b (suc j) ≡ b' j) → suc p ≤ q → Sheds K p n a b' → Sheds K q n a b
  later p q n a b b' e0 e le s = record { forth = λ i h. there i (s.forth i h); back = back }
    where
      there : (i : ℕ) → ForthAt K p a b' i → ForthAt K q a b i
      there i (inl t) = inl t
      there i (inr r) = inr (suc r.0, omega (arith, r.1), e r.0 ∙ r.2)

      first : SometimeBackAt a b' 0 → SometimeBackAt a b 0
      first (inl t) = inl t
      first (inr r) = inr (r.0, r.1 ∙ sym e0)

      next : (j : ℕ) → SometimeBackAt a b' j → SometimeBackAt a b (suc j)
      next j (inl t) = inl t
      next j (inr r) = inr (r.0, r.1 ∙ sym (e j))

      back : (j : ℕ) → j ≤ n → SometimeBackAt a b j
      back zero h = first (s.back 0 h)
      back (suc j) h = next j (s.back j (omega arith))

  -- a unit of a alone
  pub shed : (p n : ℕ) (now : Seen) (a b : Behaviour) → b 0 ≡ now → Sheds K p n a b → Sheds K p n (unit now a) b
  shed p n now a b e s = record { forth = forth; back = λ j le. here j (s.back j le) }
    where
      there : (i : ℕ) → ForthAt K p a b i → ForthAt K p (unit now a) b (suc i)
      there i (inl t) = inl t
      there i (inr r) = inr (r.0, omega (arith, r.1), r.2)

      here : (j : ℕ) → SometimeBackAt a b j → SometimeBackAt (unit now a) b j
      here j (inl t) = inl (suc t.0, t.1)
      here j (inr r) = inr (suc r.0, r.1)

      forth : (i : ℕ) → i ≤ n → ForthAt K p (unit now a) b i
      forth zero le = inr (0, omega arith, e)
      forth (suc i) le = there i (s.forth i (omega arith))

  -- a step of b for a unit of a
  pub tick : (p q n : ℕ) (now : Seen) (a b b' : Behaviour) → b 0 ≡ now → ((j : ℕ) → b (suc j) ≡ b' j) → suc q ≤ p + K → ((m : ℕ) → suc m ≤ n → Sheds K q m a b') → Sheds K p n (unit now a) b
  tick p q n now a b b' e0 e le s = record { forth = forth; back = back }
    where
      there : (i : ℕ) → ForthAt K q a b' i → ForthAt K p (unit now a) b (suc i)
      there i (inl t) = inl t
      there i (inr r) = inr (suc r.0, omega (arith, r.1), e r.0 ∙ r.2)

      here : (j : ℕ) → SometimeBackAt a b' j → SometimeBackAt (unit now a) b (suc j)
      here j (inl t) = inl (suc t.0, t.1)
      here j (inr r) = inr (suc r.0, r.1 ∙ sym (e j))

      forth : (i : ℕ) → i ≤ n → ForthAt K p (unit now a) b i
      forth zero h = inr (0, omega arith, e0)
      forth (suc i) h = there i ((s i h).forth i (omega arith))

      back : (j : ℕ) → j ≤ n → SometimeBackAt (unit now a) b j
      back zero h = inr (0, sym e0)
      back (suc j) h = here j ((s j h).back j (omega arith))

  -- the end
  pub ends : (p n : ℕ) (now end : Seen) (b : Behaviour) → b 0 ≡ now → ((j : ℕ) → b (suc j) ≡ end) → Sheds K p n (ended now end) b
  ends p n now end b e0 e =
      tick p 0 n now (λ i. end) b (λ j. b (suc j)) e0 (λ j. refl) (omega arith) (λ m le. record { forth = λ i h. inr (0, omega arith, e 0); back = λ j h. inr (0, sym (e j)) })

  -- where a is wrong, b may show anything
  pub wrong : (p n : ℕ) (now end : Seen) (b : Behaviour) → end.ending ≡ Wrong → b 0 ≡ now → Sheds K p n (ended now end) b
  wrong p n now end b w e0 = record { forth = forth; back = λ j h. inl (1, w) }
    where
      forth : (i : ℕ) → i ≤ n → ForthAt K p (ended now end) b i
      forth zero h = inr (0, omega arith, e0)
      forth (suc i) h = inl w

  -- no unit is left
  pub nothing_yet : (p : ℕ) (a b : Behaviour) → b 0 ≡ a 0 → Sheds K p 0 a b
  nothing_yet p a b e = record { forth = forth; back = back }
    where
      forth : (i : ℕ) → i ≤ 0 → ForthAt K p a b i
      forth zero h = inr (0, omega arith, e)
      forth (suc i) h = absurd (omega arith)

      back : (j : ℕ) → j ≤ 0 → SometimeBackAt a b j
      back zero h = inr (0, sym e)
      back (suc j) h = absurd (omega arith)

-- what does the same to every depth follows: A d is the behaviour where calls and loops are cut off at depth d, which shows nothing that the whole behaviour doesn't show
pub sheds_follows : (K p : ℕ) (A : ℕ → Behaviour) (b : Behaviour) → ((d i : ℕ) → (n : ℕ) × (A d i ≡ A n n)) → ((n : ℕ) → Sheds K p n (A n) b) → Follows (p + K) b (λ n. A n n)
sheds_follows K p A b settles s = record { forth = forth; back = back }
  where
    forth : (n : ℕ) → (A n n).ending ≢ Wrong → (m : ℕ) × (m ≤ (p + K) * (n + 1)) × (b m ≡ A n n)
    forth n fine = ⊎_elim (λ w. absurd (fine w)) (λ r. (r.0, bound K p n r.0 r.1, r.2)) ((s n).forth n (omega arith))
      where
        bound : (K p n j : ℕ) → j ≤ p + K * n → j ≤ (p + K) * (n + 1)
        bound K p n j le = let e : 0 ≤ p * n = omega arith in grind (arith, le, e)

    back : (m : ℕ) → (n : ℕ) × ((b m ≡ A n n) ⊎ ((A n n).ending ≡ Wrong))
    back m = ⊎_elim
        (λ t. let z = settles m t.0 in (z.0, inr (sym (ap (λ s. s.ending) z.1) ∙ t.1)))
        (λ r. let z = settles m r.0 in (z.0, inl (sym r.1 ∙ z.1)))
        ((s m).back m (omega arith))
