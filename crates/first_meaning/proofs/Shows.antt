-- A run that shows one unit after another.
use Rattle.std.proofs.Common.{ℕ, zero, suc, List, [], ◌∷◌, ◌≡◌, ◌∙◌, ap}
use Rattle.std.specs.Prelude.{Option}
use Rattle.behaviour.specs.Behaviour as B
use Rattle.behaviour.specs.Behaviour.{Ending}
use Rattle.work.specs.Units.{unit}
use Rattle.work.specs.Work.{End}
use Rattle.work.specs.Run.{World, Told, Run, over, ending, seen}
use Rattle.first_meaning.specs.Units.{after_unit, seen_so, seen_until}

module _ {P : Type 0} where
  -- after this output the run shows these units, and then the end
  abbrev pub Shows : Run P → Ending → List ℕ → List (Option ℕ) → Type 0
  Shows r end output us = (n : ℕ) → seen (r n) ≡ seen_until end output us n

  pub shows_by : (r r' : Run P) (end : Ending) (output : List ℕ) (us : List (Option ℕ)) → ((n : ℕ) → r n ≡ r' n) → Shows r' end output us → Shows r end output us
  shows_by r r' end output us e h n = ap seen (e n) ∙ h n

  pub shows_unit : (now : Told P) (r : Run P) (end : Ending) (output : List ℕ) (u : Option ℕ) (us : List (Option ℕ)) → seen now ≡ seen_so output B.Running → Shows r end (after_unit u output) us → Shows (unit now r) end output (u ∷ us)
  shows_unit now r end output u us e h zero = e
  shows_unit now r end output u us e h (suc n) = h n

  pub shows_end : {M : Type 0} (w : World M) (e : End P) → w.taken ≡ 0 → Shows (over w e) (ending e) w.output []
  shows_end w e t zero = λ i. record { output = w.output; taken = t i; ending = B.Running }
  shows_end w e t (suc n) = λ i. record { output = w.output; taken = t i; ending = ending e }
