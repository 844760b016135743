-- The lines of assembly of a procedure. Each piece of code is put in front of the lines that follow it.
-- Values live at their homes: registers that a callee keeps, or slots of the frame. x5, x6 and x7 are scratch; x6 is also what the assembler's far jumps use.
use Rattle.std.specs.Prelude.{ℕ, zero, suc, ◌+◌, ◌-◌, ◌*◌, nat_lt, cond, Bool, true, false, List, [], ◌∷◌, ◌++◌, length}
use Rattle.rv_isa.specs.declared.insn.Insn.TheVariants as M
use Rattle.rv_assemble.specs.declared.unit.AsmLine.{AsmLine}
use Rattle.rv_assemble.specs.declared.unit.AsmLine.TheVariants.{Label, Plain, Branch, Call, Address}
use Rattle.flat_ir.specs.declared.program.Exceeded.{Exceeded}
use Rattle.flat_ir.specs.declared.program.Exceeded.TheVariants as X
use Rattle.flat_ir.specs.declared.program.Operation.TheVariants as O
use Rattle.flatten.specs.declared.blocks.BlockInsn.{BlockInsn}
use Rattle.flatten.specs.declared.blocks.BlockInsn.TheVariants as I
use Rattle.flatten.specs.declared.blocks.BlockEnd.{BlockEnd}
use Rattle.flatten.specs.declared.blocks.BlockEnd.TheVariants as E
use Rattle.flatten.specs.declared.blocks.Block.{Block}
use Rattle.flatten.specs.declared.blocks.BlockProc.{BlockProc}
use Rattle.block_homes.specs.declared.homes.Home.{Home}
use Rattle.block_homes.specs.declared.homes.Home.TheVariants as H
use Rattle.emitted_code.specs.Straight.{Straight, AddImmediate, Operate, LoadFrom, StoreTo, lines, load_number, load_word, store_word}
use Rattle.emitted_code.specs.Frames.{Layout, home_of, save_at, slot_at, saved_of, is_charged}
use Rattle.emitted_code.specs.Names.{proc_name, image_name, image_place}

-- a value as an operand: it is in its register, or comes from its slot into the register t
abbrev pub operand_register : Home → ℕ → ℕ
operand_register (H.Register r) t = r
operand_register (H.Slot k) t = t

abbrev pub fetch : Layout → Home → ℕ → List Straight
fetch l (H.Register r) t = []
fetch l (H.Slot k) t = load_word t (slot_at l k)

-- what is computed goes into a value's register, or into x5 and from there to its slot
abbrev pub result_register : Home → ℕ
result_register (H.Register r) = r
result_register (H.Slot k) = 5

abbrev pub settle : Layout → Home → List Straight
settle l (H.Register r) = []
settle l (H.Slot k) = store_word 5 (slot_at l k)

-- a value into the register rd, and from the register rs
abbrev pub read : Layout → Home → ℕ → List Straight
read l (H.Register r) rd = AddImmediate rd r 0 ∷ []
read l (H.Slot k) rd = load_word rd (slot_at l k)

abbrev pub write : Layout → Home → ℕ → List Straight
write l (H.Register r) rs = AddImmediate r rs 0 ∷ []
write l (H.Slot k) rs = store_word rs (slot_at l k)

-- a value to another home
abbrev pub copy : Layout → Home → Home → List Straight
copy l (H.Register r) y = read l y r
copy l (H.Slot k) y = fetch l y 5 ++ store_word (operand_register y 5) (slot_at l k)

-- The i-th argument: the first eight go into a0 to a7, and the others lie on the stack, the ninth at 0(x2), each in 8 bytes
-- (the RISC-V ELF psABI, 'Integer Calling Convention'). Each is a number of 64 bits, so it is there extended already.
abbrev pub pass_one : Layout → ℕ → ℕ → List Straight
pass_one l i y = cond (nat_lt i 8) (read l (home_of l y) (10 + i)) (read l (home_of l y) 5 ++ store_word 5 (8 * (i - 8)))

abbrev pub pass : Layout → ℕ → List ℕ → List Straight
pass l i [] = []
pass l i (y ∷ ys) = pass_one l i y ++ pass l (i + 1) ys

-- the first n parameters go to their homes, in their order; those on the stack lie behind the frame
abbrev pub receive_one : Layout → ℕ → List Straight
receive_one l i = cond (nat_lt i 8) (write l (home_of l i) (10 + i)) (load_word 5 (l.size + 8 * (i - 8)) ++ write l (home_of l i) 5)

abbrev pub receive : Layout → ℕ → List Straight
receive l zero = []
receive l (suc n) = receive l n ++ receive_one l n

-- results are in a0 and a1 (psABI); there are at most two
abbrev pub give_results : Layout → ℕ → List ℕ → List Straight
give_results l i [] = []
give_results l i (y ∷ ys) = read l (home_of l y) (10 + i) ++ give_results l (i + 1) ys

abbrev pub take_results : Layout → ℕ → List ℕ → List Straight
take_results l i [] = []
take_results l i (x ∷ xs) = write l (home_of l x) (10 + i) ++ take_results l (i + 1) xs

-- registers are saved, and restored (psABI: x8, x9 and x18 to x27 are kept across calls)
abbrev pub save : Layout → List ℕ → List Straight
save l [] = []
save l (h ∷ hs) = store_word h (save_at l h) ++ save l hs

abbrev pub restore : Layout → List ℕ → List Straight
restore l [] = []
restore l (h ∷ hs) = load_word h (save_at l h) ++ restore l hs

-- a call of the environment by its number in a7
abbrev pub system_call : ℕ → List AsmLine → List AsmLine
system_call n k = lines (AddImmediate 17 0 n ∷ []) (Plain M.Ecall ∷ k)

-- an instruction that sets x by straight code up to one last instruction, which is given its register
abbrev pub setting : Layout → ℕ → List Straight → (ℕ → Straight) → List AsmLine → List AsmLine
setting l x before last k = lines (before ++ (last (result_register (home_of l x)) ∷ settle l (home_of l x))) k

abbrev pub insn_code : Layout → BlockInsn → List AsmLine → List AsmLine
insn_code l (I.Number x n) k = lines (load_number (result_register (home_of l x)) n ++ settle l (home_of l x)) k
insn_code l (I.Copy x y) k = lines (copy l (home_of l x) (home_of l y)) k
insn_code l (I.Binary o x y z) k =
    setting l x (fetch l (home_of l y) 5 ++ fetch l (home_of l z) 6) (λ rd. Operate o rd (operand_register (home_of l y) 5) (operand_register (home_of l z) 6)) k
insn_code l (I.Load x w is_signed y) k =
    setting l x (fetch l (home_of l y) 5) (λ rd. LoadFrom w is_signed rd (operand_register (home_of l y) 5) 0) k
insn_code l (I.Store w y z) k =
    lines ((fetch l (home_of l y) 5 ++ fetch l (home_of l z) 6) ++ StoreTo w (operand_register (home_of l z) 6) (operand_register (home_of l y) 5) 0 ∷ []) k
insn_code l (I.ProcAddress x p) k = Address (result_register (home_of l x)) (proc_name p) 0 ∷ lines (settle l (home_of l x)) k
insn_code l (I.ImageAddress x n) k = Address (result_register (home_of l x)) image_name (image_place n) ∷ lines (settle l (home_of l x)) k
insn_code l (I.Call xs p ys) k = lines (pass l 0 ys) (Call (proc_name p) ∷ lines (take_results l 0 xs) k)
insn_code l (I.CallAt xs y ys) k = lines (pass l 0 ys ++ read l (home_of l y) 6) (Plain (M.Jalr 1 6 0) ∷ lines (take_results l 0 xs) k)
insn_code l (I.Take x) k = system_call 63 (lines (write l (home_of l x) 10) k)
insn_code l (I.Give y) k = lines (read l (home_of l y) 10) (system_call 64 k)

-- what leaves a procedure: its registers and its frame are given back
abbrev pub leave : Layout → List Straight
leave l = restore l (saved_of l) ++ (load_number 5 l.size ++ (Operate O.Add 2 2 5 ∷ []))

-- the limit that ends a run, as ECALL 94 takes it
abbrev pub limit_number : Exceeded → ℕ
limit_number X.Frames = 0
limit_number X.Objects = 1

abbrev pub limit_code : ℕ → List AsmLine → List AsmLine
limit_code n k = lines (AddImmediate 10 0 n ∷ []) (system_call 94 k)

-- a block's label is its number
abbrev pub end_code : Layout → BlockEnd → List AsmLine → List AsmLine
end_code l (E.Jump b) k = Branch (M.Jal 0 0) b ∷ k
end_code l (E.Branch y a b) k = lines (fetch l (home_of l y) 5) (Branch (M.Bne (operand_register (home_of l y) 5) 0 0) a ∷ Branch (M.Jal 0 0) b ∷ k)
end_code l (E.Return ys) k = lines (give_results l 0 ys ++ leave l) (Plain (M.Jalr 0 1 0) ∷ k)
end_code l (E.Stop y) k = lines (read l (home_of l y) 10) (system_call 93 k)
end_code l (E.Limit e) k = limit_code (limit_number e) k

abbrev pub rest_code : Layout → List BlockInsn → BlockEnd → List AsmLine → List AsmLine
rest_code l [] e k = end_code l e k
rest_code l (i ∷ is) e k = insn_code l i (rest_code l is e k)

-- blocks from the number b on
abbrev pub blocks_code : Layout → ℕ → List Block → List AsmLine → List AsmLine
blocks_code l b [] k = k
blocks_code l b (x ∷ xs) k = Label b ∷ rest_code l x.insns x.end (blocks_code l (b + 1) xs k)

-- A procedure begins with its frame. One that is charged ends the run at the frame limit where x2 less x3 is below its charge; behind its blocks stands that end.
abbrev pub enter_code : Bool → Layout → ℕ → List AsmLine → List AsmLine
enter_code true l limit k = lines (load_number 6 l.size ++ (Operate O.Sub 5 2 3 ∷ [])) (Branch (M.Bltu 5 6 0) limit ∷ lines (Operate O.Sub 2 2 6 ∷ []) k)
enter_code false l limit k = lines (load_number 6 l.size ++ (Operate O.Sub 2 2 6 ∷ [])) k

abbrev pub past_code : Bool → ℕ → List AsmLine
past_code true limit = Label limit ∷ limit_code 0 []
past_code false limit = []

-- the lines of a procedure: its frame, the registers that it saves, its parameters, and its blocks
abbrev pub proc_lines : Layout → BlockProc → List AsmLine
proc_lines l f =
    enter_code (is_charged f) l (length f.blocks)
    (lines (save l (saved_of l) ++ receive l f.params) (blocks_code l 0 f.blocks (past_code (is_charged f) (length f.blocks))))
