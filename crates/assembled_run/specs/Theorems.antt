-- What each line of a unit does in a machine that has the code of the image. x6 is the register that far jumps use.
use Rattle.std.specs.Prelude.{ℕ, ◌≡◌, ◌<◌, ◌≤◌, ◌+◌, ◌%◌, List, length, slice_get, Some, true, false, Option}
use Rattle.jf_base.specs.declared.place.Limits.{Limits}
use Rattle.jf_base.specs.Numbers.{number_low_first}
use Rattle.program_image.specs.declared.Image.{Image}
use Rattle.rv_isa.specs.declared.insn.Insn.{Insn}
use Rattle.rv_isa.specs.declared.insn.Insn.TheVariants.{Jal}
use Rattle.rv_assemble.specs.declared.unit.AsmUnit.{AsmUnit}
use Rattle.rv_assemble.specs.declared.unit.AsmLine.TheVariants.{Label, Plain, Branch, Call, Address}
use Rattle.rv_assemble.specs.declared.unit.NamedFix.{NamedFix}
use Rattle.rv_assemble.specs.declared.object.ObjUnit.{ObjUnit}
use Rattle.rv_assemble.specs.Places.{IsConditional}
use Rattle.linker.specs.Names.{entry_name}
use Rattle.linker.specs.Layout.{offset_of}
use Rattle.linker.specs.Linked.{AreLinkable, IsFaulty}
use Rattle.rv_machine.specs.State.{State, set_register}
use Rattle.rv_machine.specs.Step.{act, settled, one}
use Rattle.rv_machine.specs.Loaded.{loaded}
use Rattle.rv_machine.specs.Exec.{Run}
use Rattle.assembled_run.specs.Program.{AreAssembled, StayWithin, AreClosed, AreLinked, UnitAt, line_address, name_address}
use Rattle.assembled_run.specs.Machine.{HasCodeOf, IsAt, is_taken, moved_to, Leads, Within}

-- proper units, assembled one by one, can be linked
abbrev pub AssembledLink : Type 0
AssembledLink = (us : List AsmUnit) (os : List ObjUnit) → AreAssembled us os → StayWithin us os → AreLinkable os

-- and where each name that they ask for is that of one unit, `link` tells no fault
abbrev pub ClosedLink : Type 0
ClosedLink = (us : List AsmUnit) (os : List ObjUnit) → AreAssembled us os → AreClosed us → (name : List ℕ) → IsFaulty os name → ⊥

-- the image of units is entered at the first line of `main`
abbrev pub Begins : Type 0
Begins = (us : List AsmUnit) (os : List ObjUnit) (image : Image) → AreLinked us os image
    → (i : ℕ) (w : UnitAt us os i) → w.unit.name ≡ entry_name → 0 < length w.object.code → (limits : Limits) → IsAt image (loaded image limits) (line_address w 0)

-- a machine that has the code of an image has it behind each step
abbrev pub KeepsCode : Type 0
KeepsCode = (image : Image) (s : State) (given : Option ℕ) → HasCodeOf image s → HasCodeOf image (one s given).0

-- lines stand at multiples of 4 in the code, the last one's end included
abbrev pub AreInCode : Type 0
AreInCode = (us : List AsmUnit) (os : List ObjUnit) (image : Image) → AreLinked us os image → (i : ℕ) (w : UnitAt us os i) (k : ℕ) → k ≤ length w.unit.lines
    → (line_address w k % 4 ≡ 0) × (65536 ≤ line_address w k) × (line_address w k ≤ 65536 + image.code_len)

-- a label is the place of the next line
abbrev pub LabelStays : Type 0
LabelStays = (us : List AsmUnit) (os : List ObjUnit) (image : Image) → AreLinked us os image
    → (i : ℕ) (w : UnitAt us os i) (k label : ℕ) → slice_get w.unit.lines k ≡ Some (Label label) → line_address w (k + 1) ≡ line_address w k

-- an instruction is done, and the next line stands 4 bytes on
abbrev pub PlainSteps : Type 0
PlainSteps = (us : List AsmUnit) (os : List ObjUnit) (image : Image) → AreLinked us os image
    → (i : ℕ) (w : UnitAt us os i) (k : ℕ) (insn : Insn) → slice_get w.unit.lines k ≡ Some (Plain insn)
    → (line_address w (k + 1) ≡ line_address w k + 4)
    × ((s : State) (given : Option ℕ) → IsAt image s (line_address w k) → one s given ≡ settled (act insn s))

-- a jump leads to its label in one or two instructions; rd has the address of the next line, and x6 may have changed
abbrev pub JumpLeads : Type 0
JumpLeads = (us : List AsmUnit) (os : List ObjUnit) (image : Image) → AreLinked us os image
    → (i : ℕ) (w : UnitAt us os i) (k rd imm to : ℕ) → slice_get w.unit.lines k ≡ Some (Branch (Jal rd imm) to)
    → (m : ℕ) × (slice_get w.unit.lines m ≡ Some (Label to))
    × ((r : Run) → IsAt image r.state (line_address w k)
    → (x : ℕ) × Within 2 r (moved_to r (set_register (set_register r.state.registers 6 x) rd (line_address w (k + 1))) (line_address w m)))

-- A conditional branch whose condition holds leads to its label in one to three instructions, and x6 may have changed.
-- One whose condition doesn't hold leads to the next line in one instruction.
abbrev pub BranchLeads : Type 0
BranchLeads = (us : List AsmUnit) (os : List ObjUnit) (image : Image) → AreLinked us os image
    → (i : ℕ) (w : UnitAt us os i) (k : ℕ) (insn : Insn) (to : ℕ) → IsConditional insn → slice_get w.unit.lines k ≡ Some (Branch insn to)
    → (m : ℕ) × (slice_get w.unit.lines m ≡ Some (Label to))
    × ((r : Run) → IsAt image r.state (line_address w k) → is_taken insn r.state ≡ true
    → (x : ℕ) × Within 3 r (moved_to r (set_register r.state.registers 6 x) (line_address w m)))
    × ((r : Run) → IsAt image r.state (line_address w k) → is_taken insn r.state ≡ false
    → Leads 1 r (moved_to r r.state.registers (line_address w (k + 1))))

-- a call leads in two instructions to the first line of the unit of the name, with the address of the next line in x1
abbrev pub CallLeads : Type 0
CallLeads = (us : List AsmUnit) (os : List ObjUnit) (image : Image) → AreLinked us os image
    → (i : ℕ) (w : UnitAt us os i) (k : ℕ) (name : List ℕ) → slice_get w.unit.lines k ≡ Some (Call name)
    → (j : ℕ) (d : UnitAt us os j) → d.unit.name ≡ name → 0 < length d.object.code
    → (r : Run) → IsAt image r.state (line_address w k)
    → Leads 2 r (moved_to r (set_register r.state.registers 1 (line_address w (k + 1))) (line_address d 0))

-- the address of a name plus the offset is in rd after two instructions
abbrev pub AddressLeads : Type 0
AddressLeads = (us : List AsmUnit) (os : List ObjUnit) (image : Image) → AreLinked us os image
    → (i : ℕ) (w : UnitAt us os i) (k rd : ℕ) (name : List ℕ) (offset : ℕ) → slice_get w.unit.lines k ≡ Some (Address rd name offset)
    → (j : ℕ) (d : UnitAt us os j) → d.unit.name ≡ name
    → (r : Run) → IsAt image r.state (line_address w k)
    → Leads 2 r (moved_to r (set_register r.state.registers rd (name_address d offset)) (line_address w (k + 1)))

-- where a fix is, the image has the address of its name plus its offset
abbrev pub FixHolds : Type 0
FixHolds = (us : List AsmUnit) (os : List ObjUnit) (image : Image) → AreLinked us os image
    → (i : ℕ) (w : UnitAt us os i) (k : ℕ) (fix : NamedFix) → slice_get w.unit.fixes k ≡ Some fix
    → (j : ℕ) (d : UnitAt us os j) → d.unit.name ≡ fix.name
    → number_low_first (offset_of os i w.object (length w.object.code + fix.at)) 8 image.bytes ≡ name_address d fix.offset
