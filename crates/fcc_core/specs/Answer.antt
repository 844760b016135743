-- What the top call answers, and why.
use Rattle.std.specs.Prelude.{◌≡◌, ◌≢◌, ◌⊎◌, ◌≤◌, ◌+◌, ◌*◌, ℕ, List, [], codes, get_or, length, Option, Some, None}
use Rattle.behaviour.specs.Behaviour.{Ending, Running, Stopped, Limited, Frames, Objects, Wrong}
use Rattle.jf_outside.specs.Count.{Rose}
use Rattle.program_image.specs.declared.Image.{Image}
use Rattle.rv_machine.specs.Loaded.{loaded}
use Rattle.rv_machine.specs.Exec.{start}
use Rattle.image_run.specs.Leaves.{FaultsAre, RunsTo}
use Rattle.image_run.specs.declared.run.Ended.{Ended}
use Rattle.command.specs.declared.words.Command.{Command}
use Rattle.command.specs.declared.words.Command.TheVariants as command
use Rattle.command.specs.declared.words.RunWords.{RunWords}
use Rattle.command.specs.Words.{Says, SaysNothing}
use Rattle.first_form.specs.declared.program.FirstProgram.{FirstProgram}
use Rattle.first_image.specs.Compiled.{IsCompiled, AreStandard, pace}
use Rattle.first_meaning.specs.Joint.{joint}
use Rattle.jf_base.specs.declared.place.Place.{Place}
use Rattle.jf_base.specs.declared.tag.Tag.{Tag}
use Rattle.source_tokens.specs.Outside.{IsUntroubled}
use Rattle.fcc_core.specs.Outside.{SinkAt, Outside, IsIdle}
use Rattle.fcc_core.specs.Sources.{IsProgram, IsNotGiven}
use Rattle.fcc_core.specs.Front.{IsRefused}
use Rattle.fcc_core.specs.Lines.{stop_status, limit_status, ended_status, ended_line, no_file_line, refusal_line, memory_line}
use Rattle.fcc_core.specs.Said.{Said}

abbrev pub name_at : List (List ℕ) → ℕ → List ℕ
name_at names file = get_or names file []

-- the files are accepted, and the image follows the joint meaning of their program
pub record IsImageOf (names : List (List ℕ)) (files : List (List ℕ × List ℕ)) (image : Image) : Type 0 where
  pub program : FirstProgram
  pub accepted : IsProgram files names program
  pub compiled : IsCompiled program image

-- The image was run: to an end, to the step bound, or up to the first fault of the input or the output. What was taken and written is that of the image's instructions.
pub record IsRun (run : RunWords) (before after : Outside) (kept : Option Image) (ended : Ended) : Type 0 where
  pub image : Image
  pub is_kept : kept ≡ Some image
  pub untroubled : IsUntroubled before.library after.library
  pub follows : (files : List (List ℕ × List ℕ)) → before.library.listing ≡ Some files → IsImageOf run.files files image
  pub faults : FaultsAre ended before.input.faults after.input.faults before.out.faults after.out.faults
  pub machine : (bytes : List ℕ) → before.input.left ≡ Some bytes → RunsTo ended (start (loaded image run.limits) bytes) run.limits.steps before.out.contents after.input.left after.out.contents

-- nothing was run
pub record IsUnrun (before after : Outside) (kept : Option Image) : Type 0 where
  pub idle : IsIdle before after
  pub none_kept : kept ≡ None

-- why `run` comes to a status, and the line that tells it
pub data Cause (run : RunWords) (before after : Outside) (kept : Option Image) : (status : ℕ) → (line : List ℕ) → Type 0 where
  NoMemory : IsUnrun before after kept → Cause run before after kept 209 memory_line
  NotGiven : (name : List ℕ) → IsNotGiven run.files name before.library after.library → IsUnrun before after kept → Cause run before after kept 201 (no_file_line name)
  NotAccepted : (place : Place) (tag : Tag) → IsRefused run.files place tag before.library after.library → IsUnrun before after kept → Cause run before after kept 202 (refusal_line (name_at run.files place.file) place.line tag.0)
  Ran : (ended : Ended) → IsRun run before after kept ended → Cause run before after kept (ended_status ended) (ended_line ended)

-- the same from the words on
pub data Answer (words : List (List ℕ)) (before after : Outside) (kept : Option Image) : (status : ℕ) → (line : List ℕ) → Type 0 where
  NoWords : SaysNothing words → after ≡ before → kept ≡ None → Answer words before after kept 200 (codes "words\n")
  NoRoom : after ≡ before → kept ≡ None → Answer words before after kept 209 memory_line
  OfRun : (run : RunWords) (status : ℕ) (line : List ℕ) → Says words (command.Run run) → Cause run before after kept status line → Answer words before after kept status line

-- the status and its line were told on the error stream; where that failed the answer is 208, and the stream has a prefix of the line
pub record IsCaused (run : RunWords) (before after : Outside) (kept : Option Image) (result : ℕ) (err err' : SinkAt) : Type 0 where
  pub status : ℕ
  pub line : List ℕ
  pub cause : Cause run before after kept status line
  pub said : Said status line result err.faults err'.faults err.contents err'.contents

-- the command was done
abbrev pub IsObeyed : Command → Outside → Outside → Option Image → ℕ → SinkAt → SinkAt → Type 0
IsObeyed (command.Run run) before after kept result err err' = IsCaused run before after kept result err err'

-- it names files as the command line may
abbrev pub HasFewFiles : Command → Type 0
HasFewFiles (command.Run run) = length run.files ≤ 64

abbrev pub HasStandardLimits : Command → Type 0
HasStandardLimits (command.Run run) = AreStandard run.limits

-- the same from the words on
pub record IsAnswered (words : List (List ℕ)) (before after : Outside) (kept : Option Image) (result : ℕ) (err err' : SinkAt) : Type 0 where
  pub status : ℕ
  pub line : List ℕ
  pub answer : Answer words before after kept status line
  pub said : Said status line result err.faults err'.faults err.contents err'.contents

-- the status of a meaning's end, where it is no violation
abbrev pub ending_status : Ending → ℕ
ending_status Running = 204
ending_status (Stopped code) = stop_status code
ending_status (Limited Frames) = limit_status 0
ending_status (Limited Objects) = limit_status 1
ending_status Wrong = 210

-- Completeness: where the words are those of `run`, the files are accepted, no object that was handed in fails, the joint meaning ends at n without a violation and the step bound is enough,
-- the status is that of the meaning's end, or memory was wanting.
abbrev pub IsComplete : List (List ℕ) → Outside → Outside → ℕ → SinkAt → SinkAt → Type 0
IsComplete words before after result err err' =
    (run : RunWords) (files : List (List ℕ × List ℕ)) (program : FirstProgram) (bytes : List ℕ) (n : ℕ)
    → Says words (command.Run run) → before.library.listing ≡ Some files → IsProgram files run.files program → before.input.left ≡ Some bytes
    → ¬ (Rose before.library.faults after.library.faults) → ¬ (Rose before.input.faults after.input.faults) → ¬ (Rose before.out.faults after.out.faults) → ¬ (Rose err.faults err'.faults)
    → (joint program run.limits bytes n).ending ≢ Running → (joint program run.limits bytes n).ending ≢ Wrong → pace program * (n + 1) ≤ run.limits.steps
    → (result ≡ ending_status (joint program run.limits bytes n).ending) ⊎ (result ≡ 209)
