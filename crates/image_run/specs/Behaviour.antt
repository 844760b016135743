-- The behaviour of an image: what is seen of so many instructions.
use Rattle.std.specs.Prelude.{ℕ, ◌==◌, if◌then◌else◌, List}
use Rattle.behaviour.specs.Behaviour as B
use Rattle.rv_machine.specs.declared.event.Event.{Event}
use Rattle.rv_machine.specs.declared.event.Event.TheVariants as event
use Rattle.rv_machine.specs.declared.event.Mode.{Mode}
use Rattle.rv_machine.specs.declared.event.Mode.TheVariants as mode
use Rattle.program_image.specs.declared.Image.{Image}
use Rattle.jf_base.specs.declared.place.Limits.{Limits}
use Rattle.rv_machine.specs.Loaded.{loaded}
use Rattle.rv_machine.specs.Exec.{Run, exec, start}

-- the limit of number 0 is that of frames
abbrev pub limit_of : ℕ → B.Limit
limit_of limit = if limit == 0 then B.Frames else B.Objects

-- how an event leaves the run: a trap is nothing that a program may do
abbrev pub event_ending : Event → B.Ending
event_ending event.Ran = B.Running
event_ending event.WantByte = B.Running
event_ending (event.GiveByte b) = B.Running
event_ending (event.Exit code) = B.Stopped code
event_ending (event.Limited limit) = B.Limited (limit_of limit)
event_ending (event.Trap kind) = B.Wrong

abbrev pub mode_ending : Mode → B.Ending
mode_ending mode.Ready = B.Running
mode_ending mode.Waiting = B.Running
mode_ending (mode.Ended e) = event_ending e

-- what is seen of a run of the machine
abbrev pub seen : Run → B.Seen
seen run = record { output = run.output; taken = run.taken; ending = mode_ending run.state.mode }

-- what is seen of m instructions of the image, under these limits and over this input
abbrev pub image_behaviour : Image → Limits → List ℕ → B.Behaviour
image_behaviour image limits input m = seen (exec (start (loaded image limits) input) m)
