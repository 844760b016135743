-- A machine that takes nothing of an input does the same over every other.
use Rattle.std.proofs.Common.{◌≡◌, ℕ, zero, suc, ◌+◌, List, [], ◌∷◌, None, refl, ap, ◌∙◌, subst, arith}
use Rattle.rv_machine.specs.declared.event.Mode.{Mode}
use Rattle.rv_machine.specs.declared.event.Mode.TheVariants as mode
use Rattle.rv_machine.specs.declared.event.Event.{Event}
use Rattle.rv_machine.specs.declared.event.Event.TheVariants as event
use Rattle.rv_machine.specs.State.{State}
use Rattle.rv_machine.specs.Step.{one}
use Rattle.rv_machine.specs.Exec.{Run, given, after, turn_in, turn, exec, start}
use Rattle.image_run.specs.Behaviour.{seen}

module _ (byte : ℕ) (input : List ℕ) where
  -- the same over the other input
  abbrev other : Run → Run
  other r = record r { left = input }

  -- the run goes on alike, and the byte is still there
  record Alike (r r' : Run) : Type 0 where
    pub same : r' ≡ other r
    pub left : r.left ≡ byte ∷ []

  after_alike : (r : Run) (e : Event) (s : State) → r.left ≡ byte ∷ [] → (after e s r).taken ≡ 0 → Alike (after e s r) (after e s (other r))
  after_alike r event.Ran s left none = record { same = refl; left = left }
  after_alike r event.WantByte s left none =
      let P : List ℕ → Type 0 = λ l. (given l s r).taken ≡ 0 in
      let taken : r.taken + 1 ≡ 0 = subst P left none in
      absurd (omega (arith, taken))
  after_alike r (event.GiveByte b) s left none = record { same = refl; left = left }
  after_alike r (event.Exit c) s left none = record { same = refl; left = left }
  after_alike r (event.Limited n) s left none = record { same = refl; left = left }
  after_alike r (event.Trap k) s left none = record { same = refl; left = left }

  turn_alike : (r : Run) (m : Mode) → r.left ≡ byte ∷ [] → (turn_in m r).taken ≡ 0 → Alike (turn_in m r) (turn_in m (other r))
  turn_alike r mode.Ready left none = after_alike r (one r.state None).1 (one r.state None).0 left none
  turn_alike r mode.Waiting left none = record { same = refl; left = left }
  turn_alike r (mode.Ended e) left none = record { same = refl; left = left }

  exec_alike : (s : State) → ((m : ℕ) → (exec (start s (byte ∷ [])) m).taken ≡ 0) → (m : ℕ) → Alike (exec (start s (byte ∷ [])) m) (exec (start s input) m)
  unfolding turn
  exec_alike s none zero = record { same = refl; left = refl }
  exec_alike s none (suc m) =
      let r = exec (start s (byte ∷ [])) m in
      let before = exec_alike s none m in
      let next = turn_alike r r.state.mode before.left (none (suc m)) in
      record { same = ap turn before.same ∙ next.same; left = next.left }

  pub untaken : (s : State) → ((m : ℕ) → (seen (exec (start s (byte ∷ [])) m)).taken ≡ 0) → (m : ℕ) → seen (exec (start s input) m) ≡ seen (exec (start s (byte ∷ [])) m)
  untaken s none m = ap seen (exec_alike s none m).same
