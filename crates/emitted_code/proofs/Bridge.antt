-- An assembled and linked program keeps the laws of lines.
use Rattle.std.proofs.Common.{◌≡◌, ℕ, suc, ◌+◌, ◌-◌, ◌%◌, ◌^◌, ◌<◌, ◌≤◌, Bool, true, false, List, [], ◌∷◌, length, Option, Some, None, Ok, refl, sym, ap, ◌∙◌, subst, arith, get_or-set_same, get_or-set_other}
use Rattle.std.specs.Prelude.{slice_get, slice_set, slice_index, ◌==◌, if◌then◌else◌}
use Rattle.std.specs.Int.{Width as IntWidth, w8, w16, w32, w64, byte_len}
use Rattle.std.proofs.lemmas.Bool.Decides.{nat_tests}
use Rattle.std.proofs.lemmas.Int.{of_z-to_z}
use Rattle.jf_base.specs.declared.numbers.Width.{Width}
use Rattle.jf_base.specs.declared.numbers.Width.TheVariants.{W1, W2, W4, W8}
use Rattle.jf_base.specs.Numbers.{size_of_width}
use Rattle.rv_isa.specs.declared.insn.Insn.TheVariants as M
use Rattle.rv_assemble.specs.declared.unit.AsmLine.{AsmLine}
use Rattle.rv_machine.specs.State.{State, register, set_register}
use Rattle.rv_machine.specs.Alu as alu
use Rattle.rv_machine.specs.Alu.{shifted_left}
use Rattle.rv_machine.specs.Memory as MM
use Rattle.rv_machine.specs.Step as S
use Rattle.rv_machine.specs.Step.{one, settled}
use Rattle.rv_machine.proofs.Words.{place_at}
use Rattle.assembled_run.proofs.Held.{number_read}
use Rattle.flat_ir.specs.declared.program.Operation.{Operation}
use Rattle.flat_ir.specs.declared.program.Operation.TheVariants as O
use Rattle.flat_ir.specs.Bytes.{poke, number, put}
use Rattle.flat_ir.specs.Operations.{result_of, extended}
use Rattle.flat_ir.proofs.Framing.{poke_same, poke_apart, number_small}
use Rattle.flat_ir.specs.Ranges.{AreBytes}
use Rattle.emitted_code.specs.Straight.{Straight, Upper, AddImmediate, ShiftLeft, Operate, LoadFrom, StoreTo, insn_of, operation_insn, load_insn, store_insn}
use Rattle.emitted_code.proofs.Data.{Data, set, act, Safe, IsTarget, Compared, same, other, compared}
use Rattle.emitted_code.proofs.MachineMemory.{IsMemory, number_is}

-- the lines from the k-th on
pub data From : List AsmLine → ℕ → List AsmLine → Type 0 where
  here : (ls : List AsmLine) → From ls 0 ls
  later : (x : AsmLine) (xs : List AsmLine) (k : ℕ) (ls : List AsmLine) → From xs k ls → From (x ∷ xs) (suc k) ls

-- the first of them
abbrev head_of : List AsmLine → Option AsmLine
head_of [] = None
head_of (x ∷ xs) = Some x

from_head : (xs : List AsmLine) (k : ℕ) (ls : List AsmLine) (y : AsmLine) → head_of ls ≡ Some y → From xs k ls → slice_get xs k ≡ Some y
from_head xs k [] y e f = absurd (cc)
from_head xs k (z ∷ ls) y e (here w) = e
from_head xs k (z ∷ ls) y e (later x xs' k' w f) = from_head xs' k' (z ∷ ls) y e f

pub from_get : (xs : List AsmLine) (k : ℕ) (y : AsmLine) (ls : List AsmLine) → From xs k (y ∷ ls) → slice_get xs k ≡ Some y
from_get xs k y ls f = from_head xs k (y ∷ ls) y refl f

abbrev tail_of : List AsmLine → List AsmLine
tail_of [] = []
tail_of (x ∷ xs) = xs

abbrev IsMore : List AsmLine → Type 0
IsMore [] = ⊥
IsMore (x ∷ xs) = Unit {0}

from_tail : (xs : List AsmLine) (k : ℕ) (ls : List AsmLine) → IsMore ls → From xs k ls → From xs (suc k) (tail_of ls)
from_tail xs k [] m f = absurd m
from_tail xs k (z ∷ ls) m (here w) = later z ls 0 ls (here ls)
from_tail xs k (z ∷ ls) m (later x xs' k' w f) = later x xs' (suc k') ls (from_tail xs' k' (z ∷ ls) m f)

pub from_next : (xs : List AsmLine) (k : ℕ) (y : AsmLine) (ls : List AsmLine) → From xs k (y ∷ ls) → From xs (k + 1) ls
from_next xs k y ls f = let e : suc k ≡ k + 1 = omega arith in subst (λ n. From xs n ls) e (from_tail xs k (y ∷ ls) tt f)

-- a machine's state, as registers and memory
pub record Like (high : ℕ) (s : State) (d : Data) : Type 0 where
  pub regs : (r : ℕ) → r < 32 → register s r ≡ d.regs r
  pub mem : IsMemory s.memory d.mem
  pub long : 65536 + length s.memory ≡ high
  pub count : length s.registers ≡ 32

set_same : (rs : List ℕ) (rd v : ℕ) → IsTarget rd → set_register rs rd v ≡ slice_set rs rd v
set_same rs rd v t = (let t0 = t.0 in let e : (rd == 0) ≡ false = grind (arith, nat_tests) in ap (λ b. if b then rs else slice_set rs rd v) e)

-- a register is set
pub regs_set : (rs : List ℕ) (f : ℕ → ℕ) (rd v : ℕ) → IsTarget rd → length rs ≡ 32 → ((r : ℕ) → r < 32 → slice_index rs r ≡ f r) → (r : ℕ) → r < 32 → slice_index (set_register rs rd v) r ≡ poke f rd v r
regs_set rs f rd v t n h r lt = ap (λ xs. slice_index xs r) (set_same rs rd v t) ∙ go (compared r rd)
  where
    go : Compared r rd → slice_index (slice_set rs rd v) r ≡ poke f rd v r
    go (same e) = ap (λ k. slice_index (slice_set rs rd v) k) e ∙ (get_or-set_same rs rd v 0 (omega (arith, t.1, n)) ∙ sym (poke_same f rd v r e))
    go (other m) = get_or-set_other rs rd r v 0 (λ e. m e) ∙ (h r lt ∙ sym (poke_apart f rd v r m))

-- what a straight instruction does in the machine's own words
pub data Does (s : State) (d : Data) (x : Straight) : Type 0 where
  sets : (rd v : ℕ) → S.act (insn_of x) s ≡ S.set_on s rd v → IsTarget rd → act x d ≡ set d rd v → Does s d x
  loads : (w : IntWidth) (is_signed : Bool) (rd address at v : ℕ) → S.act (insn_of x) s ≡ S.load s w is_signed rd address → MM.place_of s.memory 0 (byte_len w) address ≡ Ok at → MM.value_at s.memory w is_signed at ≡ v → IsTarget rd → act x d ≡ set d rd v → Does s d x
  stores : (w : IntWidth) (address value at : ℕ) → S.act (insn_of x) s ≡ S.store s w address value → MM.place_of s.memory s.code (byte_len w) address ≡ Ok at → s.code ≤ at → at + byte_len w ≤ length s.memory → act x d ≡ record { regs = d.regs; mem = put (byte_len w) d.mem (65536 + at) value } → Does s d x

operation_act : (o : Operation) (rd a b : ℕ) (s : State) → S.act (operation_insn o rd a b) s ≡ S.set_on s rd (result_of o (register s a) (register s b))
unfolding S.act
operation_act O.Add rd a b s = refl
operation_act O.Sub rd a b s = refl
operation_act O.Sll rd a b s = refl
operation_act O.Slt rd a b s = refl
operation_act O.Sltu rd a b s = refl
operation_act O.Xor rd a b s = refl
operation_act O.Srl rd a b s = refl
operation_act O.Sra rd a b s = refl
operation_act O.Or rd a b s = refl
operation_act O.And rd a b s = refl
operation_act O.Mul rd a b s = refl
operation_act O.Mulh rd a b s = refl
operation_act O.Mulhsu rd a b s = refl
operation_act O.Mulhu rd a b s = refl
operation_act O.Div rd a b s = refl
operation_act O.Divu rd a b s = refl
operation_act O.Rem rd a b s = refl
operation_act O.Remu rd a b s = refl
operation_act O.Addw rd a b s = refl
operation_act O.Subw rd a b s = refl
operation_act O.Sllw rd a b s = refl
operation_act O.Srlw rd a b s = refl
operation_act O.Sraw rd a b s = refl
operation_act O.Mulw rd a b s = refl
operation_act O.Divw rd a b s = refl
operation_act O.Divuw rd a b s = refl
operation_act O.Remw rd a b s = refl
operation_act O.Remuw rd a b s = refl

upper_act : (rd imm : ℕ) (s : State) → S.act (M.Lui rd imm) s ≡ S.set_on s rd imm
unfolding S.act
upper_act rd imm s = refl

add_act : (rd rs imm : ℕ) (s : State) → S.act (M.Addi rd rs imm) s ≡ S.set_on s rd ((register s rs + imm) % 2 ^ 64)
unfolding S.act
add_act rd rs imm s = refl

shift_act : (rd rs n : ℕ) (s : State) → S.act (M.Slli rd rs n) s ≡ S.set_on s rd (shifted_left (register s rs) n)
unfolding S.act
shift_act rd rs n s = refl

-- the machine's width, and whether a load extends with the sign; 8 bytes are never extended
abbrev width_of : Width → IntWidth
width_of W1 = w8
width_of W2 = w16
width_of W4 = w32
width_of W8 = w64

abbrev signed_of : Width → Bool → Bool
signed_of W1 b = b
signed_of W2 b = b
signed_of W4 b = b
signed_of W8 b = false

load_act : (w : Width) (is_signed : Bool) (rd a imm : ℕ) (s : State) → S.act (load_insn w is_signed rd a imm) s ≡ S.load s (width_of w) (signed_of w is_signed) rd ((register s a + imm) % 2 ^ 64)
unfolding S.act
load_act W1 true rd a imm s = refl
load_act W1 false rd a imm s = refl
load_act W2 true rd a imm s = refl
load_act W2 false rd a imm s = refl
load_act W4 true rd a imm s = refl
load_act W4 false rd a imm s = refl
load_act W8 true rd a imm s = refl
load_act W8 false rd a imm s = refl

store_act : (w : Width) (b a imm : ℕ) (s : State) → S.act (store_insn w b a imm) s ≡ S.store s (width_of w) ((register s a + imm) % 2 ^ 64) (register s b)
unfolding S.act
store_act W1 b a imm s = refl
store_act W2 b a imm s = refl
store_act W4 b a imm s = refl
store_act W8 b a imm s = refl

width_bytes : (w : Width) → byte_len (width_of w) ≡ size_of_width w
width_bytes W1 = refl
width_bytes W2 = refl
width_bytes W4 = refl
width_bytes W8 = refl

value_is : (w : Width) (is_signed : Bool) (memory : List ℕ) (at v : ℕ) → MM.number_at memory (size_of_width w) at ≡ v → v < 256 ^ size_of_width w → MM.value_at memory (width_of w) (signed_of w is_signed) at ≡ extended w is_signed v
value_is W1 true memory at v e lt = ap (alu.extended w8) e
value_is W2 true memory at v e lt = ap (alu.extended w16) e
value_is W4 true memory at v e lt = ap (alu.extended w32) e
value_is W8 true memory at v e lt = e ∙ sym (of_z-to_z w64 v lt)
value_is W1 false memory at v e lt = e
value_is W2 false memory at v e lt = e
value_is W4 false memory at v e lt = e
value_is W8 false memory at v e lt = e

module _ (low high : ℕ) (bottom : 65536 ≤ low) where
  pub does : (x : Straight) (s : State) (d : Data) → Like high s d → 65536 + s.code ≤ low → AreBytes d.mem → Safe low high x d → Does s d x
  does (Upper rd imm) s d l c b sf = sets rd imm (upper_act rd imm s) sf refl
  does (AddImmediate rd rs imm) s d l c b sf = sets rd ((register s rs + imm) % 2 ^ 64) (add_act rd rs imm s) sf.0 (ap (λ v. set d rd ((v + imm) % 2 ^ 64)) (sym (l.regs rs sf.1)))
  does (ShiftLeft rd rs n) s d l c b sf = sets rd (shifted_left (register s rs) n) (shift_act rd rs n s) sf.0 (ap (λ v. set d rd (shifted_left v n)) (sym (l.regs rs sf.1)))
  does (Operate o rd a k) s d l c b sf = sets rd (result_of o (register s a) (register s k)) (operation_act o rd a k s) sf.0 (ap (λ v. set d rd (result_of o v (d.regs k))) (sym (l.regs a sf.1)) ∙ ap (λ v. set d rd (result_of o (register s a) v)) (sym (l.regs k sf.2)))
  does (LoadFrom w is_signed rd a imm) s d l c b sf =
      let n = size_of_width w in
      let address = (register s a + imm) % 2 ^ 64 in
      let ea : address ≡ (d.regs a + imm) % 2 ^ 64 = ap (λ v. (v + imm) % 2 ^ 64) (l.regs a sf.1) in
      let reach : (address % n ≡ 0) × (low ≤ address) × (address + n ≤ high) = subst (λ v. (v % n ≡ 0) × (low ≤ v) × (v + n ≤ high)) (sym ea) sf.2 in
      let r1 = reach.1 in
      let r2 = reach.2 in
      let long = l.long in
      let at = address - 65536 in
      let back : 65536 + at ≡ address = omega arith in
      let there : MM.place_of s.memory 0 n address ≡ Ok at = place_at s.memory 0 n address reach.0 (omega arith) (omega arith) in
      let num : MM.number_at s.memory n at ≡ number n d.mem address = number_read n at s.memory ∙ (number_is n at s.memory d.mem l.mem (omega arith) ∙ ap (λ v. number n d.mem v) back) in
      loads (width_of w) (signed_of w is_signed) rd address at (extended w is_signed (number n d.mem address)) (load_act w is_signed rd a imm s)
      (subst (λ k. MM.place_of s.memory 0 k address ≡ Ok at) (sym (width_bytes w)) there) (value_is w is_signed s.memory at (number n d.mem address) num (number_small n d.mem address b)) sf.0
      (ap (λ v. set d rd (extended w is_signed (number n d.mem v))) (sym ea))
  does (StoreTo w k a imm) s d l c b sf =
      let n = size_of_width w in
      let address = (register s a + imm) % 2 ^ 64 in
      let ea : address ≡ (d.regs a + imm) % 2 ^ 64 = ap (λ v. (v + imm) % 2 ^ 64) (l.regs a sf.1) in
      let reach : (address % n ≡ 0) × (low ≤ address) × (address + n ≤ high) = subst (λ v. (v % n ≡ 0) × (low ≤ v) × (v + n ≤ high)) (sym ea) sf.2 in
      let r1 = reach.1 in
      let r2 = reach.2 in
      let long = l.long in
      let at = address - 65536 in
      let back : 65536 + at ≡ address = omega arith in
      let wb = width_bytes w in
      let there : MM.place_of s.memory s.code n address ≡ Ok at = place_at s.memory s.code n address reach.0 (omega arith) (omega arith) in
      stores (width_of w) address (register s k) at (store_act w k a imm s) (subst (λ m. MM.place_of s.memory s.code m address ≡ Ok at) (sym wb) there) (omega arith) (omega arith)
      (ap (λ v. record { regs = d.regs; mem = put n d.mem v (d.regs k) }) (sym ea ∙ sym back) ∙ (ap (λ v. record { regs = d.regs; mem = put n d.mem (65536 + at) v }) (sym (l.regs k sf.0)) ∙ ap (λ m. record { regs = d.regs; mem = put m d.mem (65536 + at) (register s k) }) (sym wb)))
