-- What a run over a source and a sink gives.
use Rattle.std.specs.Prelude.{◌≡◌, ◌<◌, ℕ, ◌+◌, List, [], ◌∷◌, ◌++◌, take, Option, Some}
use Rattle.jf_outside.specs.Contents.{grown}
use Rattle.jf_outside.specs.Count.{Rose}
use Rattle.rv_machine.specs.State.{State}
use Rattle.rv_machine.specs.Exec.{Run, turn, exec, given}
use Rattle.rv_machine.specs.declared.event.Mode.{Mode}
use Rattle.rv_machine.specs.declared.event.Mode.TheVariants as mode
use Rattle.rv_machine.specs.declared.event.Event.{Event}
use Rattle.rv_machine.specs.declared.event.Event.TheVariants as event
use Rattle.image_run.specs.declared.run.Ended.{Ended}
use Rattle.image_run.specs.declared.run.Ended.TheVariants as over
use Rattle.image_run.specs.declared.run.Turned.{Turned}
use Rattle.image_run.specs.declared.run.Turned.TheVariants as turned

-- the machine, the source and the sink are where the run is; base is what the sink held at its start
pub record IsAt (r : Run) (base : Option (List ℕ)) (s : State) (left contents : Option (List ℕ)) : Type 0 where
  pub machine : s ≡ r.state
  pub rest : left ≡ Some r.left
  pub output : contents ≡ grown base r.output

-- how an end is told
abbrev pub told_of : Event → Ended
told_of event.Ran = over.Steps
told_of event.WantByte = over.Steps
told_of (event.GiveByte b) = over.Steps
told_of (event.Exit c) = over.Stop c
told_of (event.Limited n) = over.Limited n
told_of (event.Trap k) = over.Trap k

abbrev pub ended_of : Mode → Ended
ended_of mode.Ready = over.Steps
ended_of mode.Waiting = over.Steps
ended_of (mode.Ended e) = told_of e

-- the counts of faults over a run: only a fault is told as one
abbrev pub FaultsAre : Ended → ℕ → ℕ → ℕ → ℕ → Type 0
FaultsAre over.Input i i' o o' = Rose i i' × (o' ≡ o)
FaultsAre over.Put i i' o o' = Rose o o' × (i' ≡ i)
FaultsAre over.Steps i i' o o' = (i' ≡ i) × (o' ≡ o)
FaultsAre (over.Stop c) i i' o o' = (i' ≡ i) × (o' ≡ o)
FaultsAre (over.Limited n) i i' o o' = (i' ≡ i) × (o' ≡ o)
FaultsAre (over.Trap k) i i' o o' = (i' ≡ i) × (o' ≡ o)

-- the run at the step bound
pub record Reaches (e : Ended) (begun : Run) (steps : ℕ) (base : Option (List ℕ)) (s : State) (left contents : Option (List ℕ)) : Type 0 where
  pub at : IsAt (exec begun steps) base s left contents
  pub tells : e ≡ ended_of (exec begun steps).state.mode

-- the source failed at some instruction below the step bound: what was taken and given is that of the instructions before it
pub record StopsAtInput (begun : Run) (steps : ℕ) (base left contents : Option (List ℕ)) : Type 0 where
  pub turns : ℕ
  pub below : turns < steps
  pub rest : left ≡ Some (exec begun turns).left
  pub output : contents ≡ grown base (exec begun turns).output

-- the sink failed at some instruction below the step bound: it has a prefix of the byte behind the output before it
pub record StopsAtPut (begun : Run) (steps : ℕ) (base left contents : Option (List ℕ)) : Type 0 where
  pub turns : ℕ
  pub below : turns < steps
  pub byte : ℕ
  pub some : ℕ
  pub rest : left ≡ Some (exec begun turns).left
  pub next : (exec begun (turns + 1)).output ≡ (exec begun turns).output ++ byte ∷ []
  pub output : contents ≡ grown base ((exec begun turns).output ++ take some (byte ∷ []))

abbrev pub Leaves : Ended → Run → ℕ → Option (List ℕ) → State → Option (List ℕ) → Option (List ℕ) → Type 0
Leaves over.Input begun steps base s left contents = StopsAtInput begun steps base left contents
Leaves over.Put begun steps base s left contents = StopsAtPut begun steps base left contents
Leaves over.Steps begun steps base s left contents = Reaches over.Steps begun steps base s left contents
Leaves (over.Stop c) begun steps base s left contents = Reaches (over.Stop c) begun steps base s left contents
Leaves (over.Limited n) begun steps base s left contents = Reaches (over.Limited n) begun steps base s left contents
Leaves (over.Trap k) begun steps base s left contents = Reaches (over.Trap k) begun steps base s left contents

-- the counts of faults over one turn
abbrev pub TurnFaultsAre : Turned → ℕ → ℕ → ℕ → ℕ → Type 0
TurnFaultsAre turned.Went i i' o o' = (i' ≡ i) × (o' ≡ o)
TurnFaultsAre (turned.Over e) i i' o o' = FaultsAre e i i' o o'

-- one instruction that ended the run with e, or failed with it
abbrev pub TurnEndsRun : Ended → Run → Option (List ℕ) → State → Option (List ℕ) → Option (List ℕ) → Type 0
TurnEndsRun over.Input r base s left contents = (left ≡ Some r.left) × (contents ≡ grown base r.output)
TurnEndsRun over.Put r base s left contents = (byte : ℕ) × (some : ℕ) × (left ≡ Some r.left) × ((turn r).output ≡ r.output ++ byte ∷ []) × (contents ≡ grown base (r.output ++ take some (byte ∷ [])))
TurnEndsRun over.Steps r base s left contents = ⊥
TurnEndsRun (over.Stop c) r base s left contents = IsAt (turn r) base s left contents × ((turn r).state.mode ≡ mode.Ended (event.Exit c))
TurnEndsRun (over.Limited n) r base s left contents = IsAt (turn r) base s left contents × ((turn r).state.mode ≡ mode.Ended (event.Limited n))
TurnEndsRun (over.Trap k) r base s left contents = IsAt (turn r) base s left contents × ((turn r).state.mode ≡ mode.Ended (event.Trap k))

abbrev pub TurnLeaves : Turned → Run → Option (List ℕ) → State → Option (List ℕ) → Option (List ℕ) → Type 0
TurnLeaves turned.Went r base s left contents = IsAt (turn r) base s left contents × ((turn r).state.mode ≡ mode.Ready)
TurnLeaves (turned.Over e) r base s left contents = TurnEndsRun e r base s left contents

-- one byte, or the end, was given to a machine that waits
pub record IsGiven (r : Run) (s s' : State) (left : Option (List ℕ)) : Type 0 where
  pub machine : s' ≡ (given r.left s r).state
  pub rest : left ≡ Some (given r.left s r).left
  pub same : (given r.left s r).output ≡ r.output

abbrev pub TakeLeaves : Turned → Run → State → State → Option (List ℕ) → Type 0
TakeLeaves turned.Went r s s' left = IsGiven r s s' left
TakeLeaves (turned.Over e) r s s' left = (e ≡ over.Input) × (left ≡ Some r.left)

abbrev pub GiveLeaves : Turned → ℕ → Option (List ℕ) → Option (List ℕ) → Type 0
GiveLeaves turned.Went byte old new = new ≡ grown old (byte ∷ [])
GiveLeaves (turned.Over e) byte old new = (e ≡ over.Put) × ((some : ℕ) × (new ≡ grown old (take some (byte ∷ []))))

-- the same without the machine: the run at the step bound, as the source and the sink show it
pub record IsAtBound (e : Ended) (begun : Run) (steps : ℕ) (base left contents : Option (List ℕ)) : Type 0 where
  pub tells : e ≡ ended_of (exec begun steps).state.mode
  pub rest : left ≡ Some (exec begun steps).left
  pub output : contents ≡ grown base (exec begun steps).output

-- What was taken and written when the run was over. A run that nothing failed in is told at the step bound: behind its own end nothing changes.
abbrev pub RunsTo : Ended → Run → ℕ → Option (List ℕ) → Option (List ℕ) → Option (List ℕ) → Type 0
RunsTo over.Input begun steps base left contents = StopsAtInput begun steps base left contents
RunsTo over.Put begun steps base left contents = StopsAtPut begun steps base left contents
RunsTo over.Steps begun steps base left contents = IsAtBound over.Steps begun steps base left contents
RunsTo (over.Stop c) begun steps base left contents = IsAtBound (over.Stop c) begun steps base left contents
RunsTo (over.Limited n) begun steps base left contents = IsAtBound (over.Limited n) begun steps base left contents
RunsTo (over.Trap k) begun steps base left contents = IsAtBound (over.Trap k) begun steps base left contents
