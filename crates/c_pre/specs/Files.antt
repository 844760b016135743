-- Texts that include one another (ISO/IEC 9899:2011, 6.10.2).
use Rattle.std.specs.Prelude.{◌≡◌, ℕ, zero, suc, ◌+◌, ◌-◌, List, [], Option, Some, None, Result, Ok, Err, IfSome, String, string_bytes}
use Rattle.std.specs.declared.alloc.Global.{Global}
use Rattle.std.specs.declared.vec.Vec.{Vec}
use Rattle.jf_base.specs.declared.place.Place.{Place}
use Rattle.jf_outside.specs.Listing.{listed}
use Rattle.jf_outside.specs.Count.{Rose}
use Rattle.c_token.specs.declared.token.CSpanned.{CSpanned}
use Rattle.c_lines.specs.declared.rule.Rule.{Rule}
use Rattle.c_lines.specs.declared.rule.Rule.TheVariants as rule
use Rattle.c_lines.specs.declared.header.Delimiter.TheVariants.{Angle, Quote}
use Rattle.c_define.specs.Definitions.{no_macros}
use Rattle.c_directives.specs.declared.origin.Origin.{Origin}
use Rattle.c_directives.specs.declared.origin.Origin.TheVariants.{Named, Included}
use Rattle.c_directives.specs.declared.stop.Stop.{Stop}
use Rattle.c_directives.specs.declared.stop.Stop.TheVariants as stop
use Rattle.c_directives.specs.Reads.{Read, At, Asks, broken, ◌>>=◌}
use Rattle.c_directives.specs.Headers.{header_text}
use Rattle.c_directives.specs.Sorting.{work_of, state_of}
use Rattle.c_directives.specs.Conditions.{Name, most_tokens}
use Rattle.jf_base.specs.declared.tag.Tag.{Tag}
use Rattle.c_lines.specs.Rules.{tag_number}
use Rattle.c_directives.specs.declared.stop.Broken.{Broken}
use Rattle.c_pre.specs.declared.file.PreFault.{PreFault}
use Rattle.c_pre.specs.declared.file.PreFault.TheVariants as fault
use Rattle.c_directives.specs.Reading.{State, Including, file_at}

-- ---- files

-- the calls that are left, where there is one more
abbrev pub called : ℕ → State → List ℕ → (State → Read State) → Read State
called zero s name f = Err (Asks name)
called (suc k) s name f = f (record s { calls = k })

abbrev pub given : Option (List ℕ) → List ℕ → (List ℕ → Read State) → Read State
given None name f = Err (Asks name)
given (Some bytes) name f = f bytes

-- a built-in header
abbrev pub built_in : Option (List ℕ) → Place → (List ℕ → Read State) → Read State
built_in None place f = broken rule.Header place
built_in (Some bytes) place f = f bytes

abbrev pub header_in : List (List ℕ × List ℕ) → (State → List ℕ → Read State) → State → Name → Place → Read State
header_in files read s (Angle, name) place = built_in (header_text name) place (λ bytes. read s bytes)
header_in files read s (Quote, name) place = called s.calls s name (λ s. given (listed files name) name (λ bytes. read s bytes))

-- the text of a header, where so many may still nest
unfoldable pub include_at : List (List ℕ × List ℕ) → ℕ → ℕ → Including
include_at files limit zero s name place = broken rule.Header place
include_at files limit (suc k) s name place = header_in files (λ s bytes. file_at (include_at files limit k) limit (Included place) s bytes) s name place

-- ---- what the program gives

-- an answer, where so many calls are left
abbrev pub Answers : {A B : Type 0} → Result A Stop → ℕ → (A → B) → Read B → Type 0
Answers (Ok x) k view r = r ≡ Ok (view x)
Answers (Err stop.Memory) k view r = Unit {0}
Answers (Err (stop.Library name)) k view r = k ≡ 0 → r ≡ Err (Asks (string_bytes name))
Answers (Err (stop.At f)) k view r = r ≡ Err (At f)

-- an answer that made so many calls, however many are left
abbrev pub Gives : {A B : Type 0} → Result A Stop → (ℕ → B) → (ℕ → Read B) → Type 0
Gives result view run = (used : ℕ) × ((k : ℕ) → Answers result k (λ _. view k) (run (used + k)))

-- the count of faults
abbrev pub StopCounts : {A : Type 0} → Result A Stop → ℕ → ℕ → Type 0
StopCounts (Ok x) before now = now ≡ before
StopCounts (Err stop.Memory) before now = now ≡ before
StopCounts (Err (stop.Library name)) before now = Rose before now
StopCounts (Err (stop.At f)) before now = now ≡ before

-- the count of strays: only a file that isn't listed raises it
abbrev pub StopStrays : {A : Type 0} → Result A Stop → List (List ℕ × List ℕ) → ℕ → ℕ → Type 0
StopStrays (Ok x) files before now = now ≡ before
StopStrays (Err stop.Memory) files before now = Unit {0}
StopStrays (Err (stop.Library name)) files before now = IfSome (listed files (string_bytes name)) (λ bytes. now ≡ before)
StopStrays (Err (stop.At f)) files before now = now ≡ before

-- ---- a whole file

abbrev pub start : ℕ → State
start k = record { work = record { macros = no_macros; out = [] }; calls = k }

abbrev pub out_of : Read State → Read (List CSpanned)
out_of r = r >>= λ s. Ok s.work.out

-- includes nest at most so deep
abbrev pub most_deep : ℕ
most_deep = 16

-- the tokens of a file of the words, where the files before have so many tokens and so many more files are given
unfoldable pub expanded_at : List (List ℕ × List ℕ) → ℕ → ℕ → List ℕ → ℕ → Read (List CSpanned)
expanded_at files file before bytes k = let limit = most_tokens - before in out_of (file_at (include_at files limit most_deep) limit (Named file) (start k) bytes)

-- ---- what `expand` tells

abbrev pub fault_of : Stop → PreFault
fault_of stop.Memory = fault.Memory
fault_of (stop.Library name) = fault.Library (string_bytes name)
fault_of (stop.At f) = fault.At f.place (record { 0 = tag_number f.rule })

-- the tag of a broken rule, and where
abbrev pub IsAt : Read (List CSpanned) → Place → Tag → Type 0
IsAt r place tag = (f : Broken) × (r ≡ Err (At f)) × (place ≡ f.place) × (tag ≡ record { 0 = tag_number f.rule })

-- with so many more files given than were read: the tokens, or the first broken rule; and where a file couldn't be read, that file is the next one with no more
abbrev pub Told : Result (Vec CSpanned Global) PreFault → ℕ → Read (List CSpanned) → Type 0
Told (Ok tokens) k r = r ≡ Ok tokens.items
Told (Err fault.Memory) k r = Unit {0}
Told (Err (fault.Library name)) k r = k ≡ 0 → r ≡ Err (Asks name)
Told (Err (fault.At place tag)) k r = IsAt r place tag

abbrev pub Tells : Result (Vec CSpanned Global) PreFault → List (List ℕ × List ℕ) → ℕ → ℕ → List ℕ → Type 0
Tells result files file before bytes = (used : ℕ) × ((k : ℕ) → Told result k (expanded_at files file before bytes (used + k)))

-- the library failed exactly where its file couldn't be read
abbrev pub FaultCounts : Result (Vec CSpanned Global) PreFault → ℕ → ℕ → Type 0
FaultCounts (Ok tokens) before now = now ≡ before
FaultCounts (Err fault.Memory) before now = now ≡ before
FaultCounts (Err (fault.Library name)) before now = Rose before now
FaultCounts (Err (fault.At place tag)) before now = now ≡ before

-- only a name that isn't listed is a stray
abbrev pub FaultStrays : Result (Vec CSpanned Global) PreFault → List (List ℕ × List ℕ) → ℕ → ℕ → Type 0
FaultStrays (Ok tokens) files before now = now ≡ before
FaultStrays (Err fault.Memory) files before now = Unit {0}
FaultStrays (Err (fault.Library name)) files before now = IfSome (listed files name) (λ bytes. now ≡ before)
FaultStrays (Err (fault.At place tag)) files before now = now ≡ before

-- a broken rule is one of P01 to P10
abbrev pub IsOfRule : Result (Vec CSpanned Global) PreFault → Type 0
IsOfRule (Ok tokens) = Unit {0}
IsOfRule (Err fault.Memory) = Unit {0}
IsOfRule (Err (fault.Library name)) = Unit {0}
IsOfRule (Err (fault.At place tag)) = (r : Rule) × (tag ≡ record { 0 = tag_number r })
