-- The laws that meanings and machines keep.
use Rattle.std.specs.Prelude.{◌≡◌, ◌≢◌, ℕ, ◌+◌, ◌≤◌, List, [], ◌∷◌, ◌++◌, ◌⊎◌}
use Rattle.behaviour.specs.Behaviour.{Ending, Running, Seen, Behaviour}

-- nothing is seen yet
abbrev pub nothing_seen : Seen
nothing_seen = record { output = []; taken = 0; ending = Running }

-- one event more: a byte given, a byte taken, or an end
pub data Event : Seen → Seen → Type 0 where
  Gives : (o : List ℕ) (t b : ℕ) → Event (record { output = o; taken = t; ending = Running }) (record { output = o ++ b ∷ []; taken = t; ending = Running })
  Takes : (o : List ℕ) (t : ℕ) → Event (record { output = o; taken = t; ending = Running }) (record { output = o; taken = t + 1; ending = Running })
  Ends : (o : List ℕ) (t : ℕ) (e : Ending) → e ≢ Running → Event (record { output = o; taken = t; ending = Running }) (record { output = o; taken = t; ending = e })

-- the laws of a run: at first nothing is seen, and each unit or step shows at most one event; so after an end nothing changes
pub record IsRun (a : Behaviour) : Type 0 where
  pub starts : a 0 ≡ nothing_seen
  pub steps : (n : ℕ) → (a (n + 1) ≡ a n) ⊎ Event (a n) (a (n + 1))

-- t has all that s has: its output begins with that of s, and at least as many bytes are taken
pub record Extends (s t : Seen) : Type 0 where
  pub rest : List ℕ
  pub output : t.output ≡ s.output ++ rest
  pub taken : s.taken ≤ t.taken
