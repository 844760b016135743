-- One instruction over a source and a sink.
use Rattle.std.proofs.Common.{◌≡◌, ◌<◌, ℕ, suc, add-one, List, [], ◌∷◌, ◌++◌, take, Option, Some, None, refl, sym, ap, ◌∙◌, subst, arith}
use Rattle.jf_outside.specs.Contents.{grown}
use Rattle.jf_outside.proofs.Held.{grown_grown, grown_none}
use Rattle.rv_machine.specs.State.{State}
use Rattle.rv_machine.specs.Step.{one, mode_after}
use Rattle.rv_machine.specs.Exec.{Run, turn, exec, start, after}
use Rattle.rv_machine.proofs.Laws.{turn_is, mode_is, exec_ended}
use Rattle.rv_machine.specs.declared.event.Mode.TheVariants as mode
use Rattle.rv_machine.specs.declared.event.Event.{Event}
use Rattle.rv_machine.specs.declared.event.Event.TheVariants as event
use Rattle.image_run.specs.Leaves.{IsAt, TakeLeaves, GiveLeaves, TurnLeaves, TurnEndsRun, Reaches, Leaves, IsAtBound, RunsTo, told_of, ended_of}
use Rattle.image_run.specs.declared.run.Ended.{Ended}
use Rattle.image_run.specs.declared.run.Ended.TheVariants as over
use Rattle.image_run.specs.declared.run.Turned.{Turned}
use Rattle.image_run.specs.declared.run.Turned.TheVariants as turned

module _ (r : Run) (base : Option (List ℕ)) (s s' : State) (left contents : Option (List ℕ)) (at : IsAt r base s left contents) (ready : s.mode ≡ mode.Ready) where
  -- the run's next is what the event makes of it
  next : (e : Event) → (s', e) ≡ one s None → turn r ≡ after e s' r
  next e is = turn_is r s' e (ap (λ t. t.mode) (sym at.machine) ∙ ready) (is ∙ ap (λ t. one t None) at.machine)

  -- an event that takes and gives nothing
  pub stays : (e : Event) → (s', e) ≡ one s None → after e s' r ≡ record r { state = s' } → IsAt (turn r) base s' left contents × ((turn r).state.mode ≡ mode_after e)
  stays e is same =
      let P : Run → Type 0 = λ w. IsAt w base s' left contents × (w.state.mode ≡ mode_after e) in
      subst P (sym (next e is ∙ same)) (record { machine = refl; rest = at.rest; output = at.output }, mode_is s s' e None ready is)

  pub gives : (b : ℕ) (t : Turned) (new : Option (List ℕ)) → (s', event.GiveByte b) ≡ one s None → GiveLeaves t b contents new → TurnLeaves t r base s' left new
  gives b turned.Went new is gave =
      let P : Run → Type 0 = λ w. IsAt w base s' left new × (w.state.mode ≡ mode.Ready) in
      let grew : new ≡ grown base (r.output ++ b ∷ []) = gave ∙ ap (λ o. grown o (b ∷ [])) at.output ∙ grown_grown base r.output (b ∷ []) in
      subst P (sym (next (event.GiveByte b) is)) (record { machine = refl; rest = at.rest; output = grew }, mode_is s s' (event.GiveByte b) None ready is)
  gives b (turned.Over e) new is gave =
      let P : Ended → Type 0 = λ e. TurnLeaves (turned.Over e) r base s' left new in
      let grew : new ≡ grown base (r.output ++ take gave.1.0 (b ∷ [])) = gave.1.1 ∙ ap (λ o. grown o (take gave.1.0 (b ∷ []))) at.output ∙ grown_grown base r.output _ in
      subst P (sym gave.0) (b, gave.1.0, at.rest, ap (λ w. w.output) (next (event.GiveByte b) is), grew)

  pub takes : (t : Turned) (s'' : State) (new : Option (List ℕ)) → (s', event.WantByte) ≡ one s None → TakeLeaves t r s' s'' new → (t ≡ turned.Went → s''.mode ≡ mode.Ready) → TurnLeaves t r base s'' new contents
  takes turned.Went s'' new is took again =
      let P : Run → Type 0 = λ w. IsAt w base s'' new contents × (w.state.mode ≡ mode.Ready) in
      subst P (sym (next event.WantByte is)) (record { machine = took.machine; rest = took.rest; output = at.output ∙ ap (λ o. grown base o) (sym took.same) }, ap (λ t. t.mode) (sym took.machine) ∙ again refl)
  takes (turned.Over e) s'' new is took again =
      let P : Ended → Type 0 = λ e. TurnLeaves (turned.Over e) r base s'' new contents in
      subst P (sym took.0) (took.1, at.output)

pub begins : (s : State) (bytes : List ℕ) (left contents : Option (List ℕ)) → left ≡ Some bytes → IsAt (start s bytes) contents s left contents
begins s bytes left contents e = record { machine = refl; rest = e; output = sym (grown_none contents) }

module _ (begun : Run) (i steps : ℕ) (below : i < steps) (base : Option (List ℕ)) (s : State) (left contents : Option (List ℕ)) where
  -- the run at the step bound is the run at this instruction, which ended it
  ends : (e : Event) → IsAt (exec begun (suc i)) base s left contents → (exec begun (suc i)).state.mode ≡ mode.Ended e → Reaches (told_of e) begun steps base s left contents
  ends e at over =
      let same : exec begun steps ≡ exec begun (suc i) = exec_ended begun (suc i) steps e over (omega arith) in
      let P : Run → Type 0 = λ w. IsAt w base s left contents in
      record { at = subst P (sym same) at; tells = sym (ap (λ w. ended_of w.state.mode) same ∙ ap ended_of over) }

  pub over_gives : (e : Ended) → TurnEndsRun e (exec begun i) base s left contents → Leaves e begun steps base s left contents
  over_gives over.Input h = record { turns = i; below = below; rest = h.0; output = h.1 }
  over_gives over.Put h = record { turns = i; below = below; byte = h.0; some = h.1; rest = h.2; next = rw (add-one i) h.3; output = h.4 }
  over_gives over.Steps h = absurd h
  over_gives (over.Stop c) h = ends (event.Exit c) h.0 h.1
  over_gives (over.Limited n) h = ends (event.Limited n) h.0 h.1
  over_gives (over.Trap k) h = ends (event.Trap k) h.0 h.1

pub steps_give : (begun : Run) (steps : ℕ) (base : Option (List ℕ)) (s : State) (left contents : Option (List ℕ)) → s.mode ≡ mode.Ready → IsAt (exec begun steps) base s left contents → Leaves over.Steps begun steps base s left contents
steps_give begun steps base s left contents ready at =
    record { at = at; tells = sym (ap (λ t. ended_of t.mode) (sym at.machine) ∙ ap ended_of ready) }

bound : (e : Ended) (begun : Run) (steps : ℕ) (base : Option (List ℕ)) (s : State) (left contents : Option (List ℕ)) → Reaches e begun steps base s left contents → IsAtBound e begun steps base left contents
bound e begun steps base s left contents r = record { tells = r.tells; rest = r.at.rest; output = r.at.output }

-- what a run leaves, without the machine
pub runs_to : (e : Ended) (begun : Run) (steps : ℕ) (base : Option (List ℕ)) (s : State) (left contents : Option (List ℕ)) → Leaves e begun steps base s left contents → RunsTo e begun steps base left contents
runs_to over.Input begun steps base s left contents l = l
runs_to over.Put begun steps base s left contents l = l
runs_to over.Steps begun steps base s left contents l = bound over.Steps begun steps base s left contents l
runs_to (over.Stop c) begun steps base s left contents l = bound (over.Stop c) begun steps base s left contents l
runs_to (over.Limited n) begun steps base s left contents l = bound (over.Limited n) begun steps base s left contents l
runs_to (over.Trap k) begun steps base s left contents l = bound (over.Trap k) begun steps base s left contents l
