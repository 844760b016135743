-- Endings and events.
use Rattle.std.proofs.Common.{ℕ, ◌∷◌, [], ◌+◌, ◌≡◌, refl, sym, subst, inl, inr, arith, length, length-append}
use Rattle.std.specs.Prelude.{◌≢◌, ◌⊎◌}
use Rattle.behaviour.specs.Behaviour.{Ending, Running, Stopped, Limited, Wrong, Seen}
use Rattle.behaviour.specs.Run.{Event, Gives, Takes, Ends}

abbrev is_wrong : Ending → Type 0
is_wrong Running = ⊥
is_wrong (Stopped c) = ⊥
is_wrong (Limited l) = ⊥
is_wrong Wrong = Unit {0}

pub wrong_or : (e : Ending) → (e ≡ Wrong) ⊎ (e ≢ Wrong)
wrong_or Running = inr (λ p. subst is_wrong (sym p) tt)
wrong_or (Stopped c) = inr (λ p. subst is_wrong (sym p) tt)
wrong_or (Limited l) = inr (λ p. subst is_wrong (sym p) tt)
wrong_or Wrong = inl refl

abbrev is_running : Ending → Type 0
is_running Running = Unit {0}
is_running (Stopped c) = ⊥
is_running (Limited l) = ⊥
is_running Wrong = ⊥

pub running_or : (e : Ending) → (e ≡ Running) ⊎ (e ≢ Running)
running_or Running = inl refl
running_or (Stopped c) = inr (λ p. subst is_running (sym p) tt)
running_or (Limited l) = inr (λ p. subst is_running (sym p) tt)
running_or Wrong = inr (λ p. subst is_running (sym p) tt)

abbrev done : Ending → ℕ
done Running = 0
done (Stopped c) = 1
done (Limited l) = 1
done Wrong = 1

-- how many events have been seen
abbrev pub weight : Seen → ℕ
weight s = length s.output + s.taken + done s.ending

done_one : (e : Ending) → e ≢ Running → done e ≡ 1
done_one Running h = absurd (h refl)
done_one (Stopped c) h = refl
done_one (Limited l) h = refl
done_one Wrong h = refl

pub event_weight : (s t : Seen) → Event s t → weight t ≡ weight s + 1
event_weight _ _ (Gives o t b) = omega (arith, length-append o (b ∷ []))
event_weight _ _ (Takes o t) = omega arith
event_weight _ _ (Ends o t e h) = omega (arith, done_one e h)

pub event_running : (s t : Seen) → Event s t → s.ending ≡ Running
event_running _ _ (Gives o t b) = refl
event_running _ _ (Takes o t) = refl
event_running _ _ (Ends o t e h) = refl
