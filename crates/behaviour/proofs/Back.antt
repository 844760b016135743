-- Of two runs, the way back follows from the way forth.
use Rattle.std.proofs.Common.{ℕ, zero, suc, ◌+◌, ◌≡◌, ◌≤◌, sym, ◌∙◌, ap, inl, inr, arith, ⊎_elim}
use Rattle.std.specs.Prelude.{◌≢◌, ◌⊎◌}
use Rattle.behaviour.specs.Behaviour.{Behaviour, Running, Wrong}
use Rattle.behaviour.specs.Run.{IsRun}
use Rattle.behaviour.specs.Follows.{Follows, Forth, Progress, SteadyForth}
use Rattle.behaviour.proofs.Endings.{weight, wrong_or, running_or}
use Rattle.behaviour.proofs.Later.{le_or, later_at, after_end_at, between}

module _ (k : ℕ) (a b : Behaviour) (run : IsRun a) (run' : IsRun b) (forth : Forth k a b) where
  descend : (n m m' : ℕ) → m ≤ m' → a m' ≡ b n → (x : ℕ) × ((a m ≡ b x) ⊎ ((b x).ending ≡ Wrong))
  descend zero m m' le e = (
    0,
    ⊎_elim (λ q. inl (sym q ∙ e))
        (λ w. let x = ap weight (e ∙ run'.starts) in absurd (omega (arith, w, x))) (later_at a run m m' le),
  )
  descend (suc n) m m' le e =
      ⊎_elim (λ wrong. (n, inr wrong))
      (λ fine. let f = forth n fine in
      ⊎_elim (λ before. descend n m f.0 before f.2)
      (λ after. let one : suc n ≡ n + 1 = omega arith in
      let e' : a m' ≡ b (n + 1) = e ∙ ap b one in
      ⊎_elim (λ q. (n, inl q)) (λ q. (n + 1, inl q))
      (between a run (b n) (b (n + 1)) f.0 m m' after le f.2 e' (run'.steps n)))
      (le_or m f.0))
      (wrong_or (b n).ending)

  back : Progress a b → (m : ℕ) → (n : ℕ) × ((a m ≡ b n) ⊎ ((b n).ending ≡ Wrong))
  back p m = let r = p.reaches m in
      ⊎_elim (λ there. descend r.0 m there.0 there.1 there.2)
      (λ over. ⊎_elim (λ wrong. (r.0, inr wrong))
      (λ fine. let f = forth r.0 fine in
      ⊎_elim (λ before. descend r.0 m f.0 before f.2)
      (λ after. let still : (a f.0).ending ≢ Running = λ q. over (sym (ap (λ s. s.ending) f.2) ∙ q) in
      (r.0, inl (after_end_at a run f.0 m after still ∙ f.2)))
      (le_or m f.0))
      (wrong_or (b r.0).ending))
      r.1

pub follows : (k : ℕ) (a b : Behaviour) → IsRun a → IsRun b → Progress a b → Forth k a b → Follows k a b
follows k a b run run' p forth = record { forth = forth; back = back k a b run run' forth p }

steady_progress : (k : ℕ) (a b : Behaviour) → SteadyForth k a b → Progress a b
steady_progress k a b forth = record {
  reaches = λ j. (
    j,
    ⊎_elim
        (λ goes. let f = forth j (λ w. let p = sym goes ∙ w in absurd (cc)) in inl (f.0, f.2 goes, f.3))
        inr (running_or (b j).ending),
  );
}

pub steady_follows : (k : ℕ) (a b : Behaviour) → IsRun a → IsRun b → SteadyForth k a b → Follows k a b
steady_follows k a b run run' forth =
    follows k a b run run' (steady_progress k a b forth) (λ n fine. let f = forth n fine in (f.0, f.1, f.3))
