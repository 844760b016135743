-- Where labels stand in the lines of a procedure.
use Rattle.std.proofs.Common.{◌≡◌, ℕ, zero, suc, ◌+◌, ◌<◌, Bool, true, false, List, [], ◌∷◌, ◌++◌, length, drop, Option, Some, refl, sym, ap, ◌∙◌, subst, arith}
use Rattle.std.specs.Prelude.{slice_get}
use Rattle.std.proofs.lemmas.Option.{slice_get_within}
use Rattle.rv_assemble.specs.declared.unit.AsmLine.{AsmLine}
use Rattle.rv_assemble.specs.declared.unit.AsmLine.TheVariants.{Label, Plain, Branch, Call, Address}
use Rattle.flatten.specs.declared.blocks.BlockInsn.{BlockInsn}
use Rattle.flatten.specs.declared.blocks.BlockInsn.TheVariants as I
use Rattle.flatten.specs.declared.blocks.BlockEnd.{BlockEnd}
use Rattle.flatten.specs.declared.blocks.BlockEnd.TheVariants as E
use Rattle.flatten.specs.declared.blocks.Block.{Block}
use Rattle.flatten.specs.declared.blocks.BlockProc.{BlockProc}
use Rattle.flat_ir.specs.declared.program.Operation.TheVariants as O
use Rattle.rv_isa.specs.declared.insn.Insn.TheVariants as M
use Rattle.emitted_code.specs.Names.{proc_name}
use Rattle.emitted_code.specs.Straight.{Straight, Operate, LoadFrom, StoreTo, lines, load_number}
use Rattle.emitted_code.specs.Frames.{Layout, home_of, saved_of, is_charged}
use Rattle.emitted_code.specs.Code.{operand_register, result_register, fetch, settle, read, write, copy, pass, receive, give_results, take_results, save, leave, system_call, insn_code, end_code, rest_code, blocks_code, limit_code, past_code, enter_code, proc_lines}
use Rattle.emitted_code.proofs.Bridge.{From, here, later}

module _ (P : ℕ → List AsmLine → Type 0) where
  -- P of each label and what stands behind it
  abbrev pub Each : List AsmLine → Type 0
  Each [] = Unit {0}
  Each (Label b ∷ ls) = P b ls × Each ls
  Each (Plain i ∷ ls) = Each ls
  Each (Branch i b ∷ ls) = Each ls
  Each (Call n ∷ ls) = Each ls
  Each (Address r n o ∷ ls) = Each ls

  pub record Behind (ls : List AsmLine) (m b : ℕ) : Type 0 where
    pub to : List AsmLine
    pub from : From ls (suc m) to
    pub is : P b to

  further : (x : AsmLine) (ls : List AsmLine) (m b : ℕ) → Behind ls m b → Behind (x ∷ ls) (suc m) b
  further x ls m b h = record { to = h.to; from = later x ls (suc m) h.to h.from; is = h.is }

  label_of : Option AsmLine → ℕ
  label_of (Some (Label b)) = b
  label_of _ = 0

  pub behind : (ls : List AsmLine) (m b : ℕ) → Each ls → slice_get ls m ≡ Some (Label b) → Behind ls m b
  behind [] m b e g = absurd (cc)
  behind (Label c ∷ ls) zero b e g = record { to = ls; from = later (Label c) ls 0 ls (here ls); is = subst (λ n. P n ls) (same c b g) e.0 }
    where
      same : (c b : ℕ) → Some (Label c) ≡ Some (Label b) → c ≡ b
      same c b g = cc
  behind (Plain i ∷ ls) zero b e g = absurd (cc)
  behind (Branch i c ∷ ls) zero b e g = absurd (cc)
  behind (Call n ∷ ls) zero b e g = absurd (cc)
  behind (Address r n o ∷ ls) zero b e g = absurd (cc)
  behind (Label c ∷ ls) (suc m) b e g = further (Label c) ls m b (behind ls m b e.1 g)
  behind (Plain i ∷ ls) (suc m) b e g = further (Plain i) ls m b (behind ls m b e g)
  behind (Branch i c ∷ ls) (suc m) b e g = further (Branch i c) ls m b (behind ls m b e g)
  behind (Call n ∷ ls) (suc m) b e g = further (Call n) ls m b (behind ls m b e g)
  behind (Address r n o ∷ ls) (suc m) b e g = further (Address r n o) ls m b (behind ls m b e g)

  each_lines : (xs : List Straight) (k : List AsmLine) → Each k → Each (lines xs k)
  each_lines [] k e = e
  each_lines (x ∷ xs) k e = each_lines xs k e

  each_insn : (l : Layout) (i : BlockInsn) (k : List AsmLine) → Each k → Each (insn_code l i k)
  each_insn l (I.Number x n) k e = each_lines (load_number (result_register (home_of l x)) n ++ settle l (home_of l x)) k e
  each_insn l (I.Copy x y) k e = each_lines (copy l (home_of l x) (home_of l y)) k e
  each_insn l (I.Binary o x y z) k e = each_lines ((fetch l (home_of l y) 5 ++ fetch l (home_of l z) 6) ++ (Operate o (result_register (home_of l x)) (operand_register (home_of l y) 5) (operand_register (home_of l z) 6) ∷ settle l (home_of l x))) k e
  each_insn l (I.Load x w s y) k e = each_lines (fetch l (home_of l y) 5 ++ (LoadFrom w s (result_register (home_of l x)) (operand_register (home_of l y) 5) 0 ∷ settle l (home_of l x))) k e
  each_insn l (I.Store w y z) k e = each_lines ((fetch l (home_of l y) 5 ++ fetch l (home_of l z) 6) ++ StoreTo w (operand_register (home_of l z) 6) (operand_register (home_of l y) 5) 0 ∷ []) k e
  each_insn l (I.ProcAddress x p) k e = each_lines (settle l (home_of l x)) k e
  each_insn l (I.ImageAddress x n) k e = each_lines (settle l (home_of l x)) k e
  each_insn l (I.Call xs p ys) k e = each_lines (pass l 0 ys) (Call (proc_name p) ∷ lines (take_results l 0 xs) k) (each_lines (take_results l 0 xs) k e)
  each_insn l (I.CallAt xs y ys) k e = each_lines (pass l 0 ys ++ read l (home_of l y) 6) (Plain (M.Jalr 1 6 0) ∷ lines (take_results l 0 xs) k) (each_lines (take_results l 0 xs) k e)
  each_insn l (I.Take x) k e = each_lines (write l (home_of l x) 10) k e
  each_insn l (I.Give y) k e = each_lines (read l (home_of l y) 10) (system_call 64 k) e

  each_end : (l : Layout) (e : BlockEnd) (k : List AsmLine) → Each k → Each (end_code l e k)
  each_end l (E.Jump b) k h = h
  each_end l (E.Branch y a b) k h = each_lines (fetch l (home_of l y) 5) (Branch (M.Bne (operand_register (home_of l y) 5) 0 0) a ∷ Branch (M.Jal 0 0) b ∷ k) h
  each_end l (E.Return ys) k h = each_lines (give_results l 0 ys ++ leave l) (Plain (M.Jalr 0 1 0) ∷ k) h
  each_end l (E.Stop y) k h = each_lines (read l (home_of l y) 10) (system_call 93 k) h
  each_end l (E.Limit x) k h = h

  each_rest : (l : Layout) (is : List BlockInsn) (e : BlockEnd) (k : List AsmLine) → Each k → Each (rest_code l is e k)
  each_rest l [] e k h = each_end l e k h
  each_rest l (i ∷ is) e k h = each_insn l i (rest_code l is e k) (each_rest l is e k h)

  each_blocks : (l : Layout) (b : ℕ) (bs : List Block) (k : List AsmLine) → ((j : ℕ) (x : Block) (xs : List Block) → drop j bs ≡ x ∷ xs → P (b + j) (rest_code l x.insns x.end (blocks_code l (b + j + 1) xs k))) → Each k → Each (blocks_code l b bs k)
  each_blocks l b [] k h e = e
  each_blocks l b (x ∷ xs) k h e =
      let z : b + 0 ≡ b = omega arith in (
        subst (λ n. P n (rest_code l x.insns x.end (blocks_code l (n + 1) xs k))) z (h 0 x xs refl),
        each_rest l x.insns x.end (blocks_code l (b + 1) xs k) (each_blocks l (b + 1) xs k (λ j y ys d. (let t : b + suc j ≡ b + 1 + j = omega arith in subst (λ n. P n (rest_code l y.insns y.end (blocks_code l (n + 1) ys k))) t (h (suc j) y ys d))) e),
      )

  each_enter : (c : Bool) (l : Layout) (n : ℕ) (k : List AsmLine) → Each k → Each (enter_code c l n k)
  each_enter true l n k e = each_lines (load_number 6 l.size ++ (Operate O.Sub 5 2 3 ∷ [])) (Branch (M.Bltu 5 6 0) n ∷ lines (Operate O.Sub 2 2 6 ∷ []) k) e
  each_enter false l n k e = each_lines (load_number 6 l.size ++ (Operate O.Sub 2 2 6 ∷ [])) k e

  pub each_proc : (l : Layout) (f : BlockProc) → ((j : ℕ) (x : Block) (xs : List Block) → drop j f.blocks ≡ x ∷ xs → P (0 + j) (rest_code l x.insns x.end (blocks_code l (0 + j + 1) xs (past_code (is_charged f) (length f.blocks))))) → Each (past_code (is_charged f) (length f.blocks)) → Each (proc_lines l f)
  each_proc l f h e =
      let k = past_code (is_charged f) (length f.blocks) in
      let bs = blocks_code l 0 f.blocks k in
      let xs = save l (saved_of l) ++ receive l f.params in
      each_enter (is_charged f) l (length f.blocks) (lines xs bs) (each_lines xs bs (each_blocks l 0 f.blocks k h e))

-- what stands behind each label: its block, or the end at the limit
abbrev pub tail_at : Layout → BlockProc → ℕ → List AsmLine
tail_at l f b = blocks_code l (b + 1) (drop (b + 1) f.blocks) (past_code (is_charged f) (length f.blocks))

pub record Stood (l : Layout) (f : BlockProc) (b : ℕ) (to : List AsmLine) : Type 0 where
  pub block : (k : Block) → slice_get f.blocks b ≡ Some k → to ≡ rest_code l k.insns k.end (tail_at l f b)
  pub limit : b ≡ length f.blocks → to ≡ limit_code 0 []

dropped : (bs : List Block) (j : ℕ) (x : Block) (xs : List Block) → drop j bs ≡ x ∷ xs → (slice_get bs j ≡ Some x) × (drop (suc j) bs ≡ xs) × (j < length bs)
dropped [] zero x xs e = absurd (cc)
dropped [] (suc j) x xs e = absurd (cc)
dropped (y ∷ bs) zero x xs e = (cc, cc, omega arith)
dropped (y ∷ bs) (suc j) x xs e = (let h = dropped bs j x xs e in (h.0, h.1, omega (arith, h.2)))

past_none : (bs : List Block) (k : Block) → slice_get bs (length bs) ≡ Some k → ⊥
past_none bs k e = (let h = slice_get_within bs (length bs) k e in absurd (omega arith))

pub all_stood : (l : Layout) (f : BlockProc) → Each (Stood l f) (proc_lines l f)
all_stood l f = each_proc (Stood l f) l f block (by (is_charged f))
  where
    block : (j : ℕ) (x : Block) (xs : List Block) → drop j f.blocks ≡ x ∷ xs → Stood l f (0 + j) (rest_code l x.insns x.end (blocks_code l (0 + j + 1) xs (past_code (is_charged f) (length f.blocks))))
    block j x xs e =
        let h = dropped f.blocks j x xs e in
        let z : j ≡ 0 + j = omega arith in
        let s : suc j ≡ j + 1 = omega arith in
        let lt = h.2 in
        let k = past_code (is_charged f) (length f.blocks) in
        let base : Stood l f j (rest_code l x.insns x.end (blocks_code l (j + 1) xs k)) = record {
          block = λ b eb. (let xb : x ≡ b = some_block x b (sym h.0 ∙ eb) in ap (λ (c : Block). rest_code l c.insns c.end (blocks_code l (j + 1) xs k)) xb ∙ ap (λ ys. rest_code l b.insns b.end (blocks_code l (j + 1) ys k)) (sym h.1 ∙ ap (λ n. drop n f.blocks) s));
          limit = λ eb. absurd (omega arith);
        } in
        subst (λ n. Stood l f n (rest_code l x.insns x.end (blocks_code l (n + 1) xs k))) z base
      where
        some_block : (a b : Block) → Some a ≡ Some b → a ≡ b
        some_block a b e = cc

    by : (c : Bool) → Each (Stood l f) (past_code c (length f.blocks))
    by true = (record { block = λ k e. absurd (past_none f.blocks k e); limit = λ e. refl }, tt)
    by false = tt
