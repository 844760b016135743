-- How a fault of the front half is told.
use Rattle.std.specs.Prelude.{◌⊎◌, ℕ, List}
use Rattle.jf_base.specs.Tags.{IsTag}
use Rattle.fcc_core.specs.Outside.{SinkAt}
use Rattle.fcc_core.specs.Answer.{name_at}
use Rattle.fcc_core.specs.Lines.{no_file_line, refusal_line, memory_line}
use Rattle.fcc_core.specs.Said.{Said}
use Rattle.fcc_core.specs.declared.front.FrontFault.{FrontFault}
use Rattle.fcc_core.specs.declared.front.FrontFault.TheVariants as fault

abbrev pub fault_status : FrontFault → ℕ
fault_status fault.Memory = 209
fault_status (fault.Library name) = 201
fault_status (fault.Source place tag) = 202

abbrev pub fault_line : List (List ℕ) → FrontFault → List ℕ
fault_line names fault.Memory = memory_line
fault_line names (fault.Library name) = no_file_line name
fault_line names (fault.Source place tag) = refusal_line (name_at names place.file) place.line tag.0

-- its tag is that of a rule
abbrev pub IsOfRule : FrontFault → Type 0
IsOfRule fault.Memory = Unit {0}
IsOfRule (fault.Library name) = Unit {0}
IsOfRule (fault.Source place tag) = IsTag tag.0

-- the status and the line were told, or those of want of memory
abbrev pub SaidUnlessMemory : ℕ → List ℕ → ℕ → SinkAt → SinkAt → Type 0
SaidUnlessMemory status line result err err' =
    Said status line result err.faults err'.faults err.contents err'.contents
    ⊎ Said 209 memory_line result err.faults err'.faults err.contents err'.contents
