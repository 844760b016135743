-- What single instructions do to a run that is at them.
use Rattle.std.proofs.Common.{◌≡◌, ◌≤◌, ℕ, ◌+◌, ◌/◌, ◌*◌, ◌%◌, ◌^◌, List, [], ◌∷◌, ◌++◌, Bool, true, false, Ok, refl, ap, ◌∙◌, subst, w32}
use Rattle.std.specs.Prelude.{◌-◌, nat_le}
use Rattle.std.specs.Int.{Width, byte_len, cast_signed}
use Rattle.std.proofs.lemmas.Bool.{le-leb}
use Rattle.rv_isa.specs.declared.insn.Insn.{Insn}
use Rattle.rv_isa.specs.declared.insn.Insn.TheVariants.{Lui, Auipc, Jal, Jalr, Addi, Addiw, Fence, Ecall, Ebreak}
use Rattle.rv_isa.specs.Encode.{encode_of, IsEncodable}
use Rattle.rv_machine.specs.declared.event.Mode.TheVariants as mode
use Rattle.rv_machine.specs.declared.event.Event.TheVariants as event
use Rattle.rv_machine.specs.declared.event.TrapKind.{TrapKind}
use Rattle.rv_machine.specs.declared.event.TrapKind.TheVariants as trap
use Rattle.rv_machine.specs.State.{State, register, set_register, next_pc}
use Rattle.rv_machine.specs.Alu.{sum_of, word_sum}
use Rattle.rv_machine.specs.Memory.{place_of, value_at, stored}
use Rattle.rv_machine.specs.Step.{act, set_on, jump, branch, load, load_at, store, store_at, trapped, settled, one}
use Rattle.rv_machine.specs.Exec.{Run, turn, after, given}
use Rattle.rv_machine.proofs.Laws.{IsAtWord, turn_at}

-- the same memory, with other registers, at another place
abbrev pub moved : State → List ℕ → ℕ → State
moved s registers pc = record s { registers = registers; pc = pc; mode = mode.Ready }

-- an instruction that sets a register
pub set_turn : (r : Run) (i : Insn) (rd v p : ℕ) → IsAtWord r.state (encode_of i) → IsEncodable i → act i r.state ≡ set_on r.state rd v → next_pc r.state ≡ p → turn r ≡ record r { state = moved r.state (set_register r.state.registers rd v) p }
set_turn r i rd v p at can does place =
    turn_at r i at can
    ∙ ap (λ w. after w.1 (settled w).0 r) does
    ∙ ap (λ x. record r { state = moved r.state (set_register r.state.registers rd v) x }) place

pub lui_turn : (r : Run) (rd imm p : ℕ) → IsAtWord r.state (encode_of (Lui rd imm)) → IsEncodable (Lui rd imm) → next_pc r.state ≡ p → turn r ≡ record r { state = moved r.state (set_register r.state.registers rd imm) p }
unfolding act
lui_turn r rd imm p at can place = set_turn r (Lui rd imm) rd imm p at can refl place

pub auipc_turn : (r : Run) (rd imm v p : ℕ) → IsAtWord r.state (encode_of (Auipc rd imm)) → IsEncodable (Auipc rd imm) → sum_of r.state.pc imm ≡ v → next_pc r.state ≡ p → turn r ≡ record r { state = moved r.state (set_register r.state.registers rd v) p }
unfolding act
auipc_turn r rd imm v p at can value place = set_turn r (Auipc rd imm) rd v p at can (ap (set_on r.state rd) value) place

pub addi_turn : (r : Run) (rd rs1 imm v p : ℕ) → IsAtWord r.state (encode_of (Addi rd rs1 imm)) → IsEncodable (Addi rd rs1 imm) → sum_of (register r.state rs1) imm ≡ v → next_pc r.state ≡ p → turn r ≡ record r { state = moved r.state (set_register r.state.registers rd v) p }
unfolding act
addi_turn r rd rs1 imm v p at can value place = set_turn r (Addi rd rs1 imm) rd v p at can (ap (set_on r.state rd) value) place

pub addiw_turn : (r : Run) (rd rs1 imm v p : ℕ) → IsAtWord r.state (encode_of (Addiw rd rs1 imm)) → IsEncodable (Addiw rd rs1 imm) → word_sum (register r.state rs1) imm ≡ v → next_pc r.state ≡ p → turn r ≡ record r { state = moved r.state (set_register r.state.registers rd v) p }
unfolding act
addiw_turn r rd rs1 imm v p at can value place = set_turn r (Addiw rd rs1 imm) rd v p at can (ap (set_on r.state rd) value) place

-- a jump to a place that is a multiple of 4
jumped : (r : Run) (rd target p q : ℕ) → target ≡ p → p % 4 ≡ 0 → next_pc r.state ≡ q → after (jump r.state rd target).1 (settled (jump r.state rd target)).0 r ≡ record r { state = moved r.state (set_register r.state.registers rd q) p }
jumped r rd target p q place whole behind =
    let P : ℕ → Type 0 = λ x. after (jump r.state rd target).1 (settled (jump r.state rd target)).0 r ≡ record r { state = moved r.state (set_register r.state.registers rd q) x } in
    let whole' : target % 4 ≡ 0 = ap (λ x. x % 4) place ∙ whole in
    subst P place (simp (whole', behind))

pub jal_turn : (r : Run) (rd imm p q : ℕ) → IsAtWord r.state (encode_of (Jal rd imm)) → IsEncodable (Jal rd imm) → sum_of r.state.pc imm ≡ p → p % 4 ≡ 0 → next_pc r.state ≡ q → turn r ≡ record r { state = moved r.state (set_register r.state.registers rd q) p }
unfolding act
jal_turn r rd imm p q at can place whole behind =
    turn_at r (Jal rd imm) at can ∙ jumped r rd (sum_of r.state.pc imm) p q place whole behind

pub jalr_turn : (r : Run) (rd rs1 imm p q : ℕ) → IsAtWord r.state (encode_of (Jalr rd rs1 imm)) → IsEncodable (Jalr rd rs1 imm) → sum_of (register r.state rs1) imm / 2 * 2 ≡ p → p % 4 ≡ 0 → next_pc r.state ≡ q → turn r ≡ record r { state = moved r.state (set_register r.state.registers rd q) p }
unfolding act
jalr_turn r rd rs1 imm p q at can place whole behind =
    turn_at r (Jalr rd rs1 imm) at can ∙ jumped r rd (sum_of (register r.state rs1) imm / 2 * 2) p q place whole behind

-- a conditional branch, taken to a place that is a multiple of 4
pub taken_turn : (r : Run) (i : Insn) (taken : Bool) (imm p : ℕ) → IsAtWord r.state (encode_of i) → IsEncodable i → act i r.state ≡ branch r.state taken imm → taken ≡ true → sum_of r.state.pc imm ≡ p → p % 4 ≡ 0 → turn r ≡ record r { state = moved r.state r.state.registers p }
taken_turn r i taken imm p at can does is_taken place whole =
    let target : ℕ = sum_of r.state.pc imm in
    let P : ℕ → Type 0 = λ x. after (branch r.state true imm).1 (settled (branch r.state true imm)).0 r ≡ record r { state = moved r.state r.state.registers x } in
    let whole' : target % 4 ≡ 0 = ap (λ x. x % 4) place ∙ whole in
    turn_at r i at can
    ∙ ap (λ w. after w.1 (settled w).0 r) (does ∙ ap (λ b. branch r.state b imm) is_taken)
    ∙ subst P place (simp whole')

-- and one that isn't taken
pub passed_turn : (r : Run) (i : Insn) (taken : Bool) (imm p : ℕ) → IsAtWord r.state (encode_of i) → IsEncodable i → act i r.state ≡ branch r.state taken imm → taken ≡ false → next_pc r.state ≡ p → turn r ≡ record r { state = moved r.state r.state.registers p }
passed_turn r i taken imm p at can does not_taken place =
    turn_at r i at can
    ∙ ap (λ w. after w.1 (settled w).0 r) (does ∙ ap (λ b. branch r.state b imm) not_taken)
    ∙ ap (λ x. record r { state = moved r.state r.state.registers x }) place

-- a load from a place in memory
pub load_turn : (r : Run) (i : Insn) (w : Width) (is_signed : Bool) (rd address at v p : ℕ) → IsAtWord r.state (encode_of i) → IsEncodable i → act i r.state ≡ load r.state w is_signed rd address → place_of r.state.memory 0 (byte_len w) address ≡ Ok at → value_at r.state.memory w is_signed at ≡ v → next_pc r.state ≡ p → turn r ≡ record r { state = moved r.state (set_register r.state.registers rd v) p }
load_turn r i w is_signed rd address at v p here can does there value place =
    set_turn r i rd v p here can (does ∙ ap (load_at r.state w is_signed rd) there ∙ ap (set_on r.state rd) value) place

-- a store to a place behind the code
pub store_turn : (r : Run) (i : Insn) (w : Width) (address value at p : ℕ) → IsAtWord r.state (encode_of i) → IsEncodable i → act i r.state ≡ store r.state w address value → place_of r.state.memory r.state.code (byte_len w) address ≡ Ok at → next_pc r.state ≡ p → turn r ≡ record r { state = record r.state { memory = stored r.state.memory at (byte_len w) value; pc = p; mode = mode.Ready } }
store_turn r i w address value at p here can does there place =
    turn_at r i here can
    ∙ ap (λ w. after w.1 (settled w).0 r) (does ∙ ap (store_at r.state w value) there)
    ∙ ap (λ x. record r { state = record r.state { memory = stored r.state.memory at (byte_len w) value; pc = x; mode = mode.Ready } }) place

pub fence_turn : (r : Run) (p : ℕ) → IsAtWord r.state (encode_of Fence) → next_pc r.state ≡ p → turn r ≡ record r { state = moved r.state r.state.registers p }
unfolding act
fence_turn r p at place =
    turn_at r Fence at tt ∙ ap (λ x. record r { state = moved r.state r.state.registers x }) place

-- ECALL 64
pub give_turn : (r : Run) (b p : ℕ) → IsAtWord r.state (encode_of Ecall) → register r.state 17 ≡ 64 → register r.state 10 % 256 ≡ b → next_pc r.state ≡ p → turn r ≡ record r { state = moved r.state r.state.registers p; output = r.output ++ b ∷ [] }
unfolding act
give_turn r b p at call byte place =
    turn_at r Ecall at tt ∙ simp (call, byte, place)

-- ECALL 93
pub exit_turn : (r : Run) (v : ℕ) → IsAtWord r.state (encode_of Ecall) → register r.state 17 ≡ 93 → register r.state 10 ≡ v → turn r ≡ record r { state = record r.state { mode = mode.Ended (event.Exit (cast_signed w32 (v % 2 ^ 32))) } }
unfolding act
exit_turn r v at call value =
    turn_at r Ecall at tt ∙ simp (call, value)

-- ECALL 63, with a byte left
pub byte_turn : (r : Run) (b : ℕ) (rest : List ℕ) (p : ℕ) → IsAtWord r.state (encode_of Ecall) → register r.state 17 ≡ 63 → r.left ≡ b ∷ rest → next_pc r.state ≡ p → turn r ≡ record { state = moved r.state (set_register r.state.registers 10 b) p; left = rest; taken = r.taken + 1; output = r.output }
unfolding act one
byte_turn r b rest p at call has place =
    let asked : State = record r.state { mode = mode.Waiting } in
    let waits : after (act Ecall r.state).1 (settled (act Ecall r.state)).0 r ≡ given r.left asked r = simp call in
    turn_at r Ecall at tt ∙ waits ∙ ap (λ l. given l asked r) has
    ∙ ap (λ x. record { state = moved r.state (set_register r.state.registers 10 b) x; left = rest; taken = r.taken + 1; output = r.output }) place

-- ECALL 63, at the end of the input
pub end_turn : (r : Run) (p : ℕ) → IsAtWord r.state (encode_of Ecall) → register r.state 17 ≡ 63 → r.left ≡ [] → next_pc r.state ≡ p → turn r ≡ record r { state = moved r.state (set_register r.state.registers 10 (2 ^ 64 - 1)) p }
unfolding act one
end_turn r p at call none place =
    let asked : State = record r.state { mode = mode.Waiting } in
    let waits : after (act Ecall r.state).1 (settled (act Ecall r.state)).0 r ≡ given r.left asked r = simp call in
    turn_at r Ecall at tt ∙ waits ∙ ap (λ l. given l asked r) none
    ∙ ap (λ x. record r { state = moved r.state (set_register r.state.registers 10 (2 ^ 64 - 1)) x }) place

-- ECALL 94
pub limit_turn : (r : Run) (n : ℕ) → IsAtWord r.state (encode_of Ecall) → register r.state 17 ≡ 94 → register r.state 10 ≡ n → n ≤ 1 → turn r ≡ record r { state = record r.state { mode = mode.Ended (event.Limited n) } }
unfolding act
limit_turn r n at call value low =
    let small : nat_le n 1 ≡ true = le-leb n 1 low in
    turn_at r Ecall at tt ∙ simp (call, value, small)

-- an instruction that can't be done
pub trap_turn : (r : Run) (i : Insn) (kind : TrapKind) → IsAtWord r.state (encode_of i) → IsEncodable i → act i r.state ≡ trapped r.state kind → turn r ≡ record r { state = record r.state { mode = mode.Ended (event.Trap kind) } }
trap_turn r i kind at can does = turn_at r i at can ∙ ap (λ w. after w.1 (settled w).0 r) does

pub ebreak_turn : (r : Run) → IsAtWord r.state (encode_of Ebreak) → turn r ≡ record r { state = record r.state { mode = mode.Ended (event.Trap trap.Break) } }
unfolding act
ebreak_turn r at = trap_turn r Ebreak trap.Break at tt refl
