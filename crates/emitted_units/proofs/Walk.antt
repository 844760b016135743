-- A walk over the lines of a procedure: what holds behind them, and is kept by each line in front, holds in front of them.
use Rattle.std.proofs.Common.{◌≡◌, ℕ, ◌+◌, ◌<◌, ◌≤◌, Bool, true, false, List, [], ◌∷◌, ◌++◌, length, refl, arith}
use Rattle.rv_isa.specs.declared.insn.Insn.TheVariants as M
use Rattle.rv_isa.specs.Encode.{IsEncodable}
use Rattle.rv_assemble.specs.Lines.{IsBranch}
use Rattle.rv_assemble.specs.declared.unit.AsmLine.{AsmLine}
use Rattle.rv_assemble.specs.declared.unit.AsmLine.TheVariants.{Label, Plain, Branch, Call, Address}
use Rattle.flat_ir.specs.declared.program.Exceeded.TheVariants as X
use Rattle.flat_ir.specs.declared.program.Operation.TheVariants as O
use Rattle.flatten.specs.declared.blocks.BlockInsn.{BlockInsn}
use Rattle.flatten.specs.declared.blocks.BlockInsn.TheVariants as I
use Rattle.flatten.specs.declared.blocks.BlockEnd.{BlockEnd}
use Rattle.flatten.specs.declared.blocks.BlockEnd.TheVariants as E
use Rattle.flatten.specs.declared.blocks.Block.{Block}
use Rattle.flatten.specs.declared.blocks.BlockProc.{BlockProc}
use Rattle.flatten.specs.Named.{Counts, InsnNamed, EndNamed, InsnsNamed, BlocksNamed}
use Rattle.emitted_code.specs.Straight.{Straight, AddImmediate, Operate, LoadFrom, StoreTo, insn_of, lines, load_number}
use Rattle.emitted_code.specs.Frames.{Layout, home_of, saved_of, is_charged}
use Rattle.emitted_code.specs.Names.{proc_name, image_name, image_place}
use Rattle.emitted_code.specs.Code.{operand_register, fetch, result_register, settle, read, write, copy, pass, receive, give_results, take_results, save, leave, system_call, insn_code, limit_code, end_code, rest_code, blocks_code, enter_code}
use Rattle.emitted_units.specs.Sizes.{InsnHeld, EndHeld, InsnsHeld, BlocksHeld}
use Rattle.emitted_units.proofs.Encodable.{Encodable, both, Holds, operation_encodable, small, load_encodable, store_encodable, number_encodable, fetch_encodable, settle_encodable, read_encodable, write_encodable, operand_low, result_low, copy_encodable, save_encodable, saved_low, pass_encodable, receive_encodable, give_encodable, take_encodable, size_low, leave_encodable}

-- what lines may name: a label, a unit that is called, and an address
pub record Allowed : Type 1 where
  pub label : ℕ → Type 0
  pub called : List ℕ → Type 0
  pub address : List ℕ → ℕ → Type 0

-- a line's operands are proper, and it names what is allowed
abbrev pub IsAllowed : Allowed → AsmLine → Type 0
IsAllowed a (Label label) = Unit {0}
IsAllowed a (Plain i) = IsEncodable i
IsAllowed a (Branch insn to) = IsBranch insn × a.label to
IsAllowed a (Call name) = a.called name
IsAllowed a (Address rd name offset) = (rd < 32) × a.address name offset

module _ (a : Allowed) (Q : List AsmLine → Type 0) (step : (x : AsmLine) (k : List AsmLine) → IsAllowed a x → Q k → Q (x ∷ k)) where
  pub walk_lines : (xs : List Straight) (k : List AsmLine) → Encodable xs → Q k → Q (lines xs k)
  walk_lines [] k h q = q
  walk_lines (x ∷ xs) k h q = step (Plain (insn_of x)) (lines xs k) h.0 (walk_lines xs k h.1 q)

  number_line : (rd n : ℕ) (k : List AsmLine) → rd < 32 → n < 2048 → Q k → Q (lines (AddImmediate rd 0 n ∷ []) k)
  number_line rd n k h hn q = walk_lines (AddImmediate rd 0 n ∷ []) k ((h, omega arith, small n hn), tt) q

  walk_system : (n : ℕ) (k : List AsmLine) → n < 2048 → Q k → Q (system_call n k)
  walk_system n k h q = number_line 17 n (Plain M.Ecall ∷ k) (omega arith) h (step (Plain M.Ecall) k tt q)

  pub walk_limit : (n : ℕ) (k : List AsmLine) → n < 2048 → Q k → Q (limit_code n k)
  walk_limit n k h q = number_line 10 n (system_call 94 k) (omega arith) h (walk_system 94 k (omega arith) q)

  module _ (l : Layout) (params : ℕ) (holds : Holds l params) (c : Counts)
      (labels : (b : ℕ) → b < c.blocks → a.label b)
      (calls : (p : ℕ) → p < c.procs → a.called (proc_name p))
      (addresses : (p : ℕ) → p < c.procs → a.address (proc_name p) 0)
      (places : (n : ℕ) → n ≤ c.bytes → a.address image_name (image_place n)) where
    pub walk_insn : (i : BlockInsn) (k : List AsmLine) → InsnNamed c i → InsnHeld i → Q k → Q (insn_code l i k)
    walk_insn (I.Number x n) k named held q =
        let h = home_of l x in
        walk_lines (load_number (result_register h) n ++ settle l h) k
        (both (load_number (result_register h) n) _ (number_encodable (result_register h) n (result_low l holds.words h (holds.homes x)) held) (settle_encodable l holds.words h (holds.homes x))) q
    walk_insn (I.Copy x y) k named held q = walk_lines (copy l (home_of l x) (home_of l y)) k (copy_encodable l holds.words (home_of l x) (home_of l y) (holds.homes x) (holds.homes y)) q
    walk_insn (I.Binary o x y z) k named held q =
        let hx = home_of l x in
        let hy = home_of l y in
        let hz = home_of l z in
        let w = holds.words in
        let insn = Operate o (result_register hx) (operand_register hy 5) (operand_register hz 6) in
        walk_lines ((fetch l hy 5 ++ fetch l hz 6) ++ (insn ∷ settle l hx)) k
        (both (fetch l hy 5 ++ fetch l hz 6) _ (both (fetch l hy 5) _ (fetch_encodable l w hy 5 (holds.homes y) (omega arith)) (fetch_encodable l w hz 6 (holds.homes z) (omega arith))) (
          operation_encodable o (result_register hx) (operand_register hy 5) (operand_register hz 6) (result_low l w hx (holds.homes x)) (operand_low l w hy 5 (holds.homes y) (omega arith)) (operand_low l w hz 6 (holds.homes z) (omega arith)),
          settle_encodable l w hx (holds.homes x),
        )) q
    walk_insn (I.Load x w is_signed y) k named held q =
        let hx = home_of l x in
        let hy = home_of l y in
        let insn = LoadFrom w is_signed (result_register hx) (operand_register hy 5) 0 in
        walk_lines (fetch l hy 5 ++ (insn ∷ settle l hx)) k
        (both (fetch l hy 5) _ (fetch_encodable l holds.words hy 5 (holds.homes y) (omega arith)) (
          load_encodable w is_signed (result_register hx) (operand_register hy 5) 0 (result_low l holds.words hx (holds.homes x)) (operand_low l holds.words hy 5 (holds.homes y) (omega arith)) (omega arith),
          settle_encodable l holds.words hx (holds.homes x),
        )) q
    walk_insn (I.Store w y z) k named held q =
        let hy = home_of l y in
        let hz = home_of l z in
        walk_lines ((fetch l hy 5 ++ fetch l hz 6) ++ StoreTo w (operand_register hz 6) (operand_register hy 5) 0 ∷ []) k
        (both (fetch l hy 5 ++ fetch l hz 6) _ (both (fetch l hy 5) _ (fetch_encodable l holds.words hy 5 (holds.homes y) (omega arith)) (fetch_encodable l holds.words hz 6 (holds.homes z) (omega arith)))
        (store_encodable w (operand_register hz 6) (operand_register hy 5) 0 (operand_low l holds.words hz 6 (holds.homes z) (omega arith)) (operand_low l holds.words hy 5 (holds.homes y) (omega arith)) (omega arith), tt)) q
    walk_insn (I.ProcAddress x p) k named held q =
        let h = home_of l x in
        step (Address (result_register h) (proc_name p) 0) (lines (settle l h) k) (result_low l holds.words h (holds.homes x), addresses p named.1)
        (walk_lines (settle l h) k (settle_encodable l holds.words h (holds.homes x)) q)
    walk_insn (I.ImageAddress x n) k named held q =
        let h = home_of l x in
        step (Address (result_register h) image_name (image_place n)) (lines (settle l h) k) (result_low l holds.words h (holds.homes x), places n named.1)
        (walk_lines (settle l h) k (settle_encodable l holds.words h (holds.homes x)) q)
    walk_insn (I.Call xs p ys) k named held q =
        walk_lines (pass l 0 ys) (Call (proc_name p) ∷ lines (take_results l 0 xs) k) (pass_encodable l params holds 0 ys (let n = held.1 in omega (arith, n)))
        (step (Call (proc_name p)) (lines (take_results l 0 xs) k) (calls p named.1) (walk_lines (take_results l 0 xs) k (take_encodable l params holds 0 xs (let n = held.0 in omega (arith, n))) q))
    walk_insn (I.CallAt xs y ys) k named held q =
        let jump = M.Jalr 1 6 0 in
        walk_lines (pass l 0 ys ++ read l (home_of l y) 6) (Plain jump ∷ lines (take_results l 0 xs) k)
        (both (pass l 0 ys) _ (pass_encodable l params holds 0 ys (let n = held.1 in omega (arith, n))) (read_encodable l holds.words (home_of l y) 6 (holds.homes y) (omega arith)))
        (step (Plain jump) (lines (take_results l 0 xs) k) (omega arith, omega arith, small 0 (omega arith)) (walk_lines (take_results l 0 xs) k (take_encodable l params holds 0 xs (let n = held.0 in omega (arith, n))) q))
    walk_insn (I.Take x) k named held q =
        walk_system 63 (lines (write l (home_of l x) 10) k) (omega arith) (walk_lines (write l (home_of l x) 10) k (write_encodable l holds.words (home_of l x) 10 (holds.homes x) (omega arith)) q)
    walk_insn (I.Give y) k named held q =
        walk_lines (read l (home_of l y) 10) (system_call 64 k) (read_encodable l holds.words (home_of l y) 10 (holds.homes y) (omega arith)) (walk_system 64 k (omega arith) q)

    jump : (b : ℕ) (k : List AsmLine) → b < c.blocks → Q k → Q (Branch (M.Jal 0 0) b ∷ k)
    jump b k h q = step (Branch (M.Jal 0 0) b) k (omega arith, labels b h) q

    pub walk_end : (e : BlockEnd) (k : List AsmLine) → EndNamed c e → EndHeld e → Q k → Q (end_code l e k)
    walk_end (E.Jump b) k named held q = jump b k named q
    walk_end (E.Branch y x z) k named held q =
        let h = home_of l y in
        let branch = M.Bne (operand_register h 5) 0 0 in
        walk_lines (fetch l h 5) (Branch branch x ∷ Branch (M.Jal 0 0) z ∷ k) (fetch_encodable l holds.words h 5 (holds.homes y) (omega arith))
        (step (Branch branch x) (Branch (M.Jal 0 0) z ∷ k) ((operand_low l holds.words h 5 (holds.homes y) (omega arith), omega arith), labels x named.1) (jump z k named.2 q))
    walk_end (E.Return ys) k named held q =
        walk_lines (give_results l 0 ys ++ leave l) (Plain (M.Jalr 0 1 0) ∷ k) (both (give_results l 0 ys) _ (give_encodable l params holds 0 ys (omega (arith, held))) (leave_encodable l params holds))
        (step (Plain (M.Jalr 0 1 0)) k (omega arith, omega arith, small 0 (omega arith)) q)
    walk_end (E.Stop y) k named held q =
        walk_lines (read l (home_of l y) 10) (system_call 93 k) (read_encodable l holds.words (home_of l y) 10 (holds.homes y) (omega arith)) (walk_system 93 k (omega arith) q)
    walk_end (E.Limit X.Frames) k named held q = walk_limit 0 k (omega arith) q
    walk_end (E.Limit X.Objects) k named held q = walk_limit 1 k (omega arith) q

    pub walk_rest : (is : List BlockInsn) (e : BlockEnd) (k : List AsmLine) → InsnsNamed c is → EndNamed c e → InsnsHeld is → EndHeld e → Q k → Q (rest_code l is e k)
    walk_rest [] e k ni ne hi he q = walk_end e k ne he q
    walk_rest (i ∷ is) e k ni ne hi he q = walk_insn i (rest_code l is e k) ni.0 hi.0 (walk_rest is e k ni.1 ne hi.1 he q)

    pub walk_blocks : (b : ℕ) (xs : List Block) (k : List AsmLine) → BlocksNamed c xs → BlocksHeld xs → Q k → Q (blocks_code l b xs k)
    walk_blocks b [] k named held q = q
    walk_blocks b (x ∷ xs) k named held q =
        let rest = blocks_code l (b + 1) xs k in
        step (Label b) (rest_code l x.insns x.end rest) tt (walk_rest x.insns x.end rest named.0.0 named.0.1 held.0 held.1 (walk_blocks (b + 1) xs k named.1 held.2 q))

    pub walk_enter : (charged : Bool) (limit : ℕ) (k : List AsmLine) → (charged ≡ true → a.label limit) → Q k → Q (enter_code charged l limit k)
    walk_enter true limit k h q =
        let compare = M.Bltu 5 6 0 in
        walk_lines (load_number 6 l.size ++ (Operate O.Sub 5 2 3 ∷ [])) (Branch compare limit ∷ lines (Operate O.Sub 2 2 6 ∷ []) k)
        (both (load_number 6 l.size) _ (number_encodable 6 l.size (omega arith) (size_low l params holds)) ((omega arith, omega arith, omega arith), tt))
        (step (Branch compare limit) (lines (Operate O.Sub 2 2 6 ∷ []) k) ((omega arith, omega arith), h refl) (walk_lines (Operate O.Sub 2 2 6 ∷ []) k ((omega arith, omega arith, omega arith), tt) q))
    walk_enter false limit k h q =
        walk_lines (load_number 6 l.size ++ (Operate O.Sub 2 2 6 ∷ [])) k
        (both (load_number 6 l.size) _ (number_encodable 6 l.size (omega arith) (size_low l params holds)) ((omega arith, omega arith, omega arith), tt)) q

    pub walk_begin : (f : BlockProc) (k : List AsmLine) → f.params ≤ params → (is_charged f ≡ true → a.label (length f.blocks))
        → Q k → Q (enter_code (is_charged f) l (length f.blocks) (lines (save l (saved_of l) ++ receive l f.params) k))
    walk_begin f k le h q =
        walk_enter (is_charged f) (length f.blocks) (lines (save l (saved_of l) ++ receive l f.params) k) h
        (walk_lines (save l (saved_of l) ++ receive l f.params) k (both (save l (saved_of l)) _ (save_encodable l holds.words (saved_of l) (saved_low l)) (receive_encodable l params holds f.params le)) q)
