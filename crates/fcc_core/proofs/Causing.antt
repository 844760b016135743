-- Why the command `run` comes to its status.
use Rattle.std.proofs.Common.{◌≡◌, ℕ, List, Option, Some, Err, subst, inl, inr}
use Rattle.program_image.specs.declared.Image.{Image}
use Rattle.rv_machine.specs.State.{State}
use Rattle.rv_machine.specs.Loaded.{loaded}
use Rattle.rv_machine.specs.Exec.{start}
use Rattle.image_run.specs.Leaves.{FaultsAre, Leaves, RunsTo}
use Rattle.image_run.specs.declared.run.Ended.{Ended}
use Rattle.image_run.proofs.Turns.{runs_to}
use Rattle.command.specs.declared.words.RunWords.{RunWords}
use Rattle.first_form.specs.declared.program.FirstProgram.{FirstProgram}
use Rattle.first_image.specs.Compiled.{IsCompiled}
use Rattle.source_tokens.specs.Outside.{IsUntroubled}
use Rattle.fcc_core.specs.Outside.{SinkAt, Outside}
use Rattle.fcc_core.specs.Sources.{IsProgram}
use Rattle.fcc_core.specs.Front.{IsFronted}
use Rattle.fcc_core.specs.Fault.{fault_status, fault_line, SaidUnlessMemory}
use Rattle.fcc_core.specs.Lines.{ended_status, ended_line, memory_line}
use Rattle.fcc_core.specs.Said.{Said}
use Rattle.fcc_core.specs.Answer.{IsUnrun, Cause, NoMemory, NotGiven, NotAccepted, Ran, IsCaused}
use Rattle.fcc_core.specs.declared.front.FrontFault.{FrontFault}
use Rattle.fcc_core.specs.declared.front.FrontFault.TheVariants as fault

module _ (run : RunWords) (before after : Outside) (kept : Option Image) (result : ℕ) (err err' : SinkAt) where
  caused : (status : ℕ) (line : List ℕ) → Cause run before after kept status line → Said status line result err.faults err'.faults err.contents err'.contents → IsCaused run before after kept result err err'
  caused status line cause said = record { status = status; line = line; cause = cause; said = said }

  -- memory was wanting
  pub by_memory : IsUnrun before after kept → Said 209 memory_line result err.faults err'.faults err.contents err'.contents → IsCaused run before after kept result err err'
  by_memory unrun said = caused 209 memory_line (NoMemory unrun) said

  -- the front half answered with a fault
  pub by_fault : (f : FrontFault) → IsUnrun before after kept → IsFronted run.files (Err f) before.library after.library → SaidUnlessMemory (fault_status f) (fault_line run.files f) result err err' → IsCaused run before after kept result err err'
  by_fault f unrun fronted (inr said) = by_memory unrun said
  by_fault fault.Memory unrun fronted (inl said) = by_memory unrun said
  by_fault (fault.Library name) unrun fronted (inl said) = caused _ _ (NotGiven name fronted unrun) said
  by_fault (fault.Source place tag) unrun fronted (inl said) = caused _ _ (NotAccepted place tag fronted unrun) said

  pub by_fault_of : (names names' : List (List ℕ)) (f : FrontFault) → names ≡ run.files → names' ≡ run.files → IsUnrun before after kept → IsFronted names (Err f) before.library after.library → SaidUnlessMemory (fault_status f) (fault_line names' f) result err err' → IsCaused run before after kept result err err'
  by_fault_of names names' f same same' unrun fronted said =
      let P : List (List ℕ) → Type 0 = λ ns. IsFronted ns (Err f) before.library after.library in
      let Q : List (List ℕ) → Type 0 = λ ns. SaidUnlessMemory (fault_status f) (fault_line ns f) result err err' in
      by_fault f unrun (subst P same fronted) (subst Q same' said)

  -- the image was run
  pub by_run : (image : Image) (program : FirstProgram) (ended : Ended) (machine machine' : State) → kept ≡ Some image → IsUntroubled before.library after.library → IsCompiled program image
      → (names : List (List ℕ)) → names ≡ run.files → ((files : List (List ℕ × List ℕ)) → before.library.listing ≡ Some files → IsProgram files names program)
      → FaultsAre ended before.input.faults after.input.faults before.out.faults after.out.faults
      → machine ≡ loaded image run.limits
      → ((bytes : List ℕ) → before.input.left ≡ Some bytes → Leaves ended (start machine bytes) run.limits.steps before.out.contents machine' after.input.left after.out.contents)
      → Said (ended_status ended) (ended_line ended) result err.faults err'.faults err.contents err'.contents → IsCaused run before after kept result err err'
  by_run image program ended machine machine' is_kept calm compiled names same accepted faults loads leaves said =
      caused (ended_status ended) (ended_line ended) (Ran ended (record {
        image = image;
        is_kept = is_kept;
        untroubled = calm;
        follows = λ files told. (let Q : List (List ℕ) → Type 0 = λ ns. IsProgram files ns program in record { program = program; accepted = subst Q same (accepted files told); compiled = compiled });
        faults = faults;
        machine = λ bytes told.
            (let P : State → Type 0 = λ s. RunsTo ended (start s bytes) run.limits.steps before.out.contents after.input.left after.out.contents in
            subst P loads (runs_to ended (start machine bytes) run.limits.steps before.out.contents machine' after.input.left after.out.contents (leaves bytes told)));
      })) said
