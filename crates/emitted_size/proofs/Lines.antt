-- How many lines a procedure has.
use Rattle.std.proofs.Common.{◌≡◌, ℕ, ◌+◌, ◌*◌, ◌≤◌, Bool, true, false, List, [], ◌∷◌, ◌++◌, length, length-append, arith}
use Rattle.rv_isa.specs.declared.insn.Insn.TheVariants as M
use Rattle.rv_assemble.specs.declared.unit.AsmLine.{AsmLine}
use Rattle.rv_assemble.specs.declared.unit.AsmLine.TheVariants.{Plain, Branch, Call}
use Rattle.flat_ir.specs.declared.program.Operation.TheVariants as O
use Rattle.flatten.specs.declared.blocks.BlockInsn.{BlockInsn}
use Rattle.flatten.specs.declared.blocks.BlockInsn.TheVariants as I
use Rattle.flatten.specs.declared.blocks.BlockEnd.{BlockEnd}
use Rattle.flatten.specs.declared.blocks.BlockEnd.TheVariants as E
use Rattle.flatten.specs.declared.blocks.Block.{Block}
use Rattle.flatten.specs.declared.blocks.BlockProc.{BlockProc}
use Rattle.block_homes.specs.declared.homes.Home.{Home}
use Rattle.block_homes.specs.declared.homes.Home.TheVariants as H
use Rattle.emitted_code.specs.Straight.{Straight, Operate, LoadFrom, StoreTo, lines, load_number, store_word}
use Rattle.emitted_code.specs.Frames.{Layout, home_of, slot_at, saved_of, is_charged}
use Rattle.emitted_code.specs.Names.{proc_name}
use Rattle.emitted_code.specs.Code.{operand_register, fetch, result_register, settle, read, write, copy, pass, receive, give_results, take_results, save, leave, system_call, insn_code, end_code, rest_code, blocks_code, enter_code, past_code, proc_lines}
use Rattle.emitted_code.proofs.Constants.{number_few}
use Rattle.emitted_code.proofs.FrameWords.{store_few}
use Rattle.emitted_code.proofs.Simple.{fetch_few, read_few, write_few}
use Rattle.emitted_code.proofs.Saves.{save_few}
use Rattle.emitted_code.proofs.Returns.{saved_few, leave_few}
use Rattle.emitted_code.proofs.Args.{pass_few, receive_few}
use Rattle.emitted_size.specs.Bounds.{parts, end_parts, insns_parts, blocks_parts, most_lines}

pub lines_long : (xs : List Straight) (k : List AsmLine) → length (lines xs k) ≡ length xs + length k
lines_long [] k = omega arith
lines_long (x ∷ xs) k = omega (arith, lines_long xs k)

settle_few : (l : Layout) (h : Home) → length (settle l h) ≤ 10
settle_few l (H.Register r) = omega arith
settle_few l (H.Slot k) = (store_few 5 (slot_at l k)).1

copy_few : (l : Layout) (h y : Home) → length (copy l h y) ≤ 20
copy_few l (H.Register r) y = let c = (read_few l y r).1 in omega (arith, c)
copy_few l (H.Slot k) y =
    let a = fetch_few l y 5 in
    let b = (store_few (operand_register y 5) (slot_at l k)).1 in
    omega (arith, a, b, length-append (fetch l y 5) (store_word (operand_register y 5) (slot_at l k)))

take_few : (l : Layout) (i : ℕ) (xs : List ℕ) → length (take_results l i xs) ≤ 10 * length xs
take_few l i [] = omega arith
take_few l i (x ∷ xs) =
    let a = (write_few l (home_of l x) (10 + i)).1 in
    omega (arith, a, take_few l (i + 1) xs, length-append (write l (home_of l x) (10 + i)) (take_results l (i + 1) xs))

give_few : (l : Layout) (i : ℕ) (ys : List ℕ) → length (give_results l i ys) ≤ 10 * length ys
give_few l i [] = omega arith
give_few l i (y ∷ ys) =
    let a = (read_few l (home_of l y) (10 + i)).1 in
    omega (arith, a, give_few l (i + 1) ys, length-append (read l (home_of l y) (10 + i)) (give_results l (i + 1) ys))

-- straight code of at most n lines in front
in_front : (xs : List Straight) (k : List AsmLine) (n : ℕ) → length xs ≤ n → length (lines xs k) ≤ n + length k
in_front xs k n h = let e = lines_long xs k in omega (arith, e, h)

-- two parts of straight code, and one instruction and what stores its result behind some
both_few : (xs ys : List Straight) (m n : ℕ) → length xs ≤ m → length ys ≤ n → length (xs ++ ys) ≤ m + n
both_few xs ys m n a b = omega (arith, a, b, length-append xs ys)

insn_few : (l : Layout) (i : BlockInsn) (k : List AsmLine) → length (insn_code l i k) ≤ 40 * parts i + length k
insn_few l (I.Number x n) k =
    let h = home_of l x in
    let e = in_front (load_number (result_register h) n ++ settle l h) k (8 + 10) (both_few (load_number (result_register h) n) (settle l h) 8 10 (number_few (result_register h) n).1 (settle_few l h)) in
    omega (arith, e)
insn_few l (I.Copy x y) k = (let e = in_front (copy l (home_of l x) (home_of l y)) k 20 (copy_few l (home_of l x) (home_of l y)) in omega (arith, e))
insn_few l (I.Binary o x y z) k =
    let hx = home_of l x in
    let hy = home_of l y in
    let hz = home_of l z in
    let last = Operate o (result_register hx) (operand_register hy 5) (operand_register hz 6) in
    let s = settle_few l hx in
    let e = in_front ((fetch l hy 5 ++ fetch l hz 6) ++ (last ∷ settle l hx)) k (20 + 11)
    (both_few (fetch l hy 5 ++ fetch l hz 6) (last ∷ settle l hx) 20 11 (both_few (fetch l hy 5) (fetch l hz 6) 10 10 (fetch_few l hy 5) (fetch_few l hz 6)) (omega (arith, s))) in
    omega (arith, e)
insn_few l (I.Load x w is_signed y) k =
    let hx = home_of l x in
    let hy = home_of l y in
    let s = settle_few l hx in
    let last = LoadFrom w is_signed (result_register hx) (operand_register hy 5) 0 in
    let e = in_front (fetch l hy 5 ++ (last ∷ settle l hx)) k (10 + 11) (both_few (fetch l hy 5) (last ∷ settle l hx) 10 11 (fetch_few l hy 5) (omega (arith, s))) in
    omega (arith, e)
insn_few l (I.Store w y z) k =
    let hy = home_of l y in
    let hz = home_of l z in
    let last = StoreTo w (operand_register hz 6) (operand_register hy 5) 0 ∷ [] in
    let e = in_front ((fetch l hy 5 ++ fetch l hz 6) ++ last) k (20 + 1) (both_few (fetch l hy 5 ++ fetch l hz 6) last 20 1 (both_few (fetch l hy 5) (fetch l hz 6) 10 10 (fetch_few l hy 5) (fetch_few l hz 6)) (omega arith)) in
    omega (arith, e)
insn_few l (I.ProcAddress x p) k = (let e = in_front (settle l (home_of l x)) k 10 (settle_few l (home_of l x)) in omega (arith, e))
insn_few l (I.ImageAddress x n) k = (let e = in_front (settle l (home_of l x)) k 10 (settle_few l (home_of l x)) in omega (arith, e))
insn_few l (I.Call xs p ys) k =
    let a = pass_few l 0 ys in
    let b = take_few l 0 xs in
    let e = lines_long (pass l 0 ys) (Call (proc_name p) ∷ lines (take_results l 0 xs) k) in
    let f = lines_long (take_results l 0 xs) k in
    omega (arith, a, b, e, f)
insn_few l (I.CallAt xs y ys) k =
    let a = both_few (pass l 0 ys) (read l (home_of l y) 6) (20 * length ys) 10 (pass_few l 0 ys) (read_few l (home_of l y) 6).1 in
    let b = take_few l 0 xs in
    let e = lines_long (pass l 0 ys ++ read l (home_of l y) 6) (Plain (M.Jalr 1 6 0) ∷ lines (take_results l 0 xs) k) in
    let f = lines_long (take_results l 0 xs) k in
    omega (arith, a, b, e, f)
insn_few l (I.Take x) k = (let e = in_front (write l (home_of l x) 10) k 10 (write_few l (home_of l x) 10).1 in omega (arith, e))
insn_few l (I.Give y) k =
    let a = (read_few l (home_of l y) 10).1 in
    let e = lines_long (read l (home_of l y) 10) (system_call 64 k) in
    omega (arith, a, e)

end_few : (l : Layout) (x : BlockEnd) (k : List AsmLine) → length (end_code l x k) ≤ 140 * end_parts x + length k
end_few l (E.Jump b) k = omega arith
end_few l (E.Branch y a b) k =
    let f = fetch_few l (home_of l y) 5 in
    let e = lines_long (fetch l (home_of l y) 5) (Branch (M.Bne (operand_register (home_of l y) 5) 0 0) a ∷ Branch (M.Jal 0 0) b ∷ k) in
    omega (arith, f, e)
end_few l (E.Return ys) k =
    let a = both_few (give_results l 0 ys) (leave l) (10 * length ys) 139 (give_few l 0 ys) (leave_few l) in
    let e = lines_long (give_results l 0 ys ++ leave l) (Plain (M.Jalr 0 1 0) ∷ k) in
    omega (arith, a, e)
end_few l (E.Stop y) k =
    let a = (read_few l (home_of l y) 10).1 in
    let e = lines_long (read l (home_of l y) 10) (system_call 93 k) in
    omega (arith, a, e)
end_few l (E.Limit e) k = omega arith

rest_few : (l : Layout) (xs : List BlockInsn) (x : BlockEnd) (k : List AsmLine) → length (rest_code l xs x k) ≤ 140 * (insns_parts xs + end_parts x) + length k
rest_few l [] x k = let e = end_few l x k in omega (arith, e)
rest_few l (i ∷ xs) x k = (let a = insn_few l i (rest_code l xs x k) in let e = rest_few l xs x k in omega (arith, a, e))

end_some : (x : BlockEnd) → 1 ≤ end_parts x
end_some (E.Jump b) = omega arith
end_some (E.Branch y a b) = omega arith
end_some (E.Return ys) = omega arith
end_some (E.Stop y) = omega arith
end_some (E.Limit e) = omega arith

blocks_few : (l : Layout) (n : ℕ) (xs : List Block) (k : List AsmLine) → length (blocks_code l n xs k) ≤ 150 * blocks_parts xs + length k
blocks_few l n [] k = omega arith
blocks_few l n (x ∷ xs) k =
    let a = rest_few l x.insns x.end (blocks_code l (n + 1) xs k) in
    let s = end_some x.end in
    omega (arith, a, s, blocks_few l (n + 1) xs k)

enter_few : (t : Bool) (l : Layout) (n : ℕ) (k : List AsmLine) → length (enter_code t l n k) ≤ 11 + length k
enter_few true l n k =
    let a = both_few (load_number 6 l.size) (Operate O.Sub 5 2 3 ∷ []) 8 1 (number_few 6 l.size).1 (omega arith) in
    let e = lines_long (load_number 6 l.size ++ (Operate O.Sub 5 2 3 ∷ [])) (Branch (M.Bltu 5 6 0) n ∷ lines (Operate O.Sub 2 2 6 ∷ []) k) in
    omega (arith, a, e)
enter_few false l n k =
    let a = both_few (load_number 6 l.size) (Operate O.Sub 2 2 6 ∷ []) 8 1 (number_few 6 l.size).1 (omega arith) in
    let e = lines_long (load_number 6 l.size ++ (Operate O.Sub 2 2 6 ∷ [])) k in
    omega (arith, a, e)

past_few : (t : Bool) (n : ℕ) → length (past_code t n) ≤ 4
past_few true n = omega arith
past_few false n = omega arith

pub proc_few : (l : Layout) (f : BlockProc) → length (proc_lines l f) ≤ most_lines f
proc_few l f =
    let past = past_code (is_charged f) (length f.blocks) in
    let body = blocks_code l 0 f.blocks past in
    let saving = save l (saved_of l) ++ receive l f.params in
    let a = enter_few (is_charged f) l (length f.blocks) (lines saving body) in
    let b = lines_long saving body in
    let c = length-append (save l (saved_of l)) (receive l f.params) in
    let d = save_few l (saved_of l) in
    let e = saved_few l in
    let g = receive_few l f.params in
    let h = blocks_few l 0 f.blocks past in
    let i = past_few (is_charged f) (length f.blocks) in
    omega (arith, a, b, c, d, e, g, h, i)
