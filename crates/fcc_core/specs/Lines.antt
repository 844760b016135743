-- The status and the line that tell how a run ended.
use Rattle.std.specs.Prelude.{ℕ, ℤ, pos, negsuc, List, [], ◌∷◌, ◌++◌, codes, nat_lt, nat_eq, if◌then◌else◌}
use Rattle.std.specs.Fmt.{decimal, signed_decimal}
use Rattle.jf_base.specs.Tags.{tag_bytes}
use Rattle.rv_machine.specs.declared.event.TrapKind.{TrapKind}
use Rattle.rv_machine.specs.declared.event.TrapKind.TheVariants as trap
use Rattle.image_run.specs.declared.run.Ended.{Ended}
use Rattle.image_run.specs.declared.run.Ended.TheVariants as ended

-- a stop code from 0 to 199 is its own status, and each other has 199
abbrev pub stop_status : ℤ → ℕ
stop_status (pos code) = if nat_lt code 200 then code else 199
stop_status (negsuc code) = 199

-- the limit of number 0 is that of frames
abbrev pub limit_status : ℕ → ℕ
limit_status limit = if nat_eq limit 0 then 205 else 206

abbrev pub limit_line : ℕ → List ℕ
limit_line limit = if nat_eq limit 0 then codes "frame limit\n" else codes "object limit\n"

abbrev pub trap_name : TrapKind → List ℕ
trap_name trap.Word = codes "word"
trap_name trap.Range = codes "range"
trap_name trap.Align = codes "align"
trap_name trap.Call = codes "call"
trap_name trap.Break = codes "break"

abbrev pub ended_status : Ended → ℕ
ended_status (ended.Stop code) = stop_status code
ended_status ended.Steps = 204
ended_status (ended.Limited limit) = limit_status limit
ended_status ended.Input = 207
ended_status ended.Put = 208
ended_status (ended.Trap kind) = 210

abbrev pub ended_line : Ended → List ℕ
ended_line (ended.Stop code) = codes "stop " ++ signed_decimal code ++ 10 ∷ []
ended_line ended.Steps = codes "step bound\n"
ended_line (ended.Limited limit) = limit_line limit
ended_line ended.Input = codes "input fault\n"
ended_line ended.Put = codes "sink fault\n"
ended_line (ended.Trap kind) = codes "trap " ++ trap_name kind ++ 10 ∷ []

-- the library failed to give the file of this name
abbrev pub no_file_line : List ℕ → List ℕ
no_file_line name = codes "library " ++ name ++ 10 ∷ []

-- a rule is broken at this line of the file of this name
abbrev pub refusal_line : List ℕ → ℕ → ℕ → List ℕ
refusal_line name line tag = name ++ codes ":" ++ decimal line ++ codes ": " ++ tag_bytes tag ++ 10 ∷ []

abbrev pub memory_line : List ℕ
memory_line = codes "memory\n"
