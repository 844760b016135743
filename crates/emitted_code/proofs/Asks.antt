-- What code asks of blocks, of those of a flat program.
use Rattle.std.proofs.Common.{◌≡◌, ℕ, zero, suc, ◌+◌, ◌≤◌, List, [], ◌∷◌, ◌++◌, length, map, true, Some, refl, sym, subst, arith}
use Rattle.std.specs.Prelude.{◌&&◌, nat_lt, nat_le, slice_get, All}
use Rattle.std.specs.List.{list_all}
use Rattle.std.proofs.lemmas.Bool.Decides.{nat_tests}
use Rattle.std.proofs.lemmas.Option.{slice_get_within, get_or_from_slice_get}
use Rattle.flat_ir.specs.declared.program.Fix.{Fix}
use Rattle.flat_ir.specs.declared.program.Target.{Target}
use Rattle.flat_ir.specs.declared.program.Target.TheVariants as T
use Rattle.flat_ir.specs.declared.program.FlatProc.{FlatProc}
use Rattle.flat_ir.specs.declared.program.FlatProgram.{FlatProgram}
use Rattle.flat_ir.specs.Tree.{Expr, Num, Val, Bin, Load, ProcAt, ImageAt, Stmt, Skip, Seq, Set, Store, Call, CallAt, If, Loop, Break, Return, Take, Give, Stop, Limit, Procedure}
use Rattle.flat_ir.specs.View.{proc_of, procs_of}
use Rattle.flat_ir.specs.Checked.{expr_fits, exprs_fit, results_fit, stmt_fits, each_below, is_set_first, proc_fits, fix_fits, target_fits, all_apart, entry_fits}
use Rattle.flatten.specs.declared.blocks.BlockInsn.{BlockInsn}
use Rattle.flatten.specs.declared.blocks.BlockInsn.TheVariants as I
use Rattle.flatten.specs.declared.blocks.BlockEnd.{BlockEnd}
use Rattle.flatten.specs.declared.blocks.BlockEnd.TheVariants as E
use Rattle.flatten.specs.declared.blocks.Block.{Block}
use Rattle.flatten.specs.declared.blocks.BlockProc.{BlockProc}
use Rattle.flatten.specs.Code.{only, before, place, expr_code, operand, operands, places_of, count, code, proc_code, program_code}
use Rattle.flatten.specs.Named.{Counts, InsnNamed, InsnsNamed, BlockNamed, BlocksNamed, ProcNamed, ProcsNamed}
use Rattle.flatten.proofs.Named.{blocks_named}
use Rattle.flatten.proofs.Values.{and_left, and_right, below}
use Rattle.block_homes.specs.declared.homes.Assignment.{Assignment}
use Rattle.block_homes.specs.Valid.{IsNamed}
use Rattle.block_homes.proofs.Naming.{all_named}
use Rattle.emitted_code.specs.Room.{InsnFits, EndFits, TargetFits, CanEmit}
use Rattle.emitted_code.specs.Chain.{NumberFits, Emits}

-- at most two results
abbrev Two : BlockInsn → Type 0
Two (I.Call xs p ys) = length xs ≤ 2
Two (I.CallAt xs y ys) = length xs ≤ 2
Two _ = Unit {0}

abbrev Twos : List BlockInsn → Type 0
Twos [] = Unit {0}
Twos (i ∷ is) = Two i × Twos is

abbrev BlockTwo : Block → Type 0
BlockTwo b = Twos b.insns × EndFits b.end

abbrev BlocksTwo : List Block → Type 0
BlocksTwo [] = Unit {0}
BlocksTwo (b ∷ bs) = BlockTwo b × BlocksTwo bs

both_two : (front bs : List Block) → BlocksTwo front → BlocksTwo bs → BlocksTwo (front ++ bs)
both_two [] bs ha hb = hb
both_two (a ∷ front) bs ha hb = (ha.0, both_two front bs ha.1 hb)

at_most : (x n : ℕ) → nat_le x n ≡ true → x ≤ n
at_most x n h = grind (arith, nat_tests)

operand_from : (e : Expr) (t : ℕ) (k : Block) → BlockTwo (expr_code e t t k) → BlockTwo k → BlockTwo (operand e t k)
operand_from (Val x) t k h hk = hk
operand_from (Num n) t k h hk = h
operand_from (Bin o a b) t k h hk = h
operand_from (Load w s a) t k h hk = h
operand_from (ProcAt p) t k h hk = h
operand_from (ImageAt n) t k h hk = h

expr_two : (e : Expr) (x t : ℕ) (k : Block) → BlockTwo k → BlockTwo (expr_code e x t k)
expr_two (Num n) x t k h = ((tt, h.0), h.1)
expr_two (Val y) x t k h = ((tt, h.0), h.1)
expr_two (Bin o a b) x t k h =
    let last = before (I.Binary o x (place a t) (place b (t + 1))) k in
    let hl : BlockTwo last = ((tt, h.0), h.1) in
    let hb : BlockTwo (operand b (t + 1) last) = operand_from b (t + 1) last (expr_two b (t + 1) (t + 1) last hl) hl in
    operand_from a t (operand b (t + 1) last) (expr_two a t t (operand b (t + 1) last) hb) hb
expr_two (Load w s a) x t k h =
    let last = before (I.Load x w s (place a t)) k in
    let hl : BlockTwo last = ((tt, h.0), h.1) in
    operand_from a t last (expr_two a t t last hl) hl
expr_two (ProcAt p) x t k h = ((tt, h.0), h.1)
expr_two (ImageAt n) x t k h = ((tt, h.0), h.1)

operand_two : (e : Expr) (t : ℕ) (k : Block) → BlockTwo k → BlockTwo (operand e t k)
operand_two e t k h = operand_from e t k (expr_two e t t k h) h

operands_two : (es : List Expr) (t : ℕ) (k : Block) → BlockTwo k → BlockTwo (operands es t k)
operands_two [] t k h = h
operands_two (e ∷ es) t k h = operand_two e t (operands es (t + 1) k) (operands_two es (t + 1) k h)

places_count : (es : List Expr) (t : ℕ) → length (places_of es t) ≡ length es
places_count [] t = refl
places_count (e ∷ es) t = omega (arith, places_count es (t + 1))

module _ (procs bytes v : ℕ) where
  stmt_two : (s : Stmt) (at loops : ℕ) (exits : List ℕ) (k : Block) → stmt_fits v procs bytes loops s ≡ true → BlockTwo k → BlockTwo (code s v at exits k).first × BlocksTwo (code s v at exits k).others
  unfolding code
  stmt_two Skip at loops exits k ok h = (h, tt)
  stmt_two (Seq x y) at loops exits k ok h =
      let cy = code y v (at + count x) exits k in
      let hy = stmt_two y (at + count x) loops exits k (and_right (stmt_fits v procs bytes loops x) (stmt_fits v procs bytes loops y) ok) h in
      let hx = stmt_two x at loops exits cy.first (and_left (stmt_fits v procs bytes loops x) (stmt_fits v procs bytes loops y) ok) hy.0 in
      (hx.0, both_two (code x v at exits cy.first).others cy.others hx.1 hy.1)
  stmt_two (Set x e) at loops exits k ok h = (expr_two e x v k h, tt)
  stmt_two (Store s x y) at loops exits k ok h =
      let last = before (I.Store s (place x v) (place y (v + 1))) k in
      let hl : BlockTwo last = ((tt, h.0), h.1) in
      (operand_two x v (operand y (v + 1) last) (operand_two y (v + 1) last hl), tt)
  stmt_two (Call xs p es) at loops exits k ok h =
      let okr = and_left (results_fit v xs) (nat_lt p procs && exprs_fit v procs bytes es) ok in
      let two = at_most (length xs) 2 (and_left (nat_le (length xs) 2) (list_all (λ x. nat_lt x v) xs) okr) in
      (operands_two es v (before (I.Call xs p (places_of es v)) k) ((two, h.0), h.1), tt)
  stmt_two (CallAt xs x es) at loops exits k ok h =
      let okr = and_left (results_fit v xs) (expr_fits v procs bytes x && exprs_fit v procs bytes es) ok in
      let two = at_most (length xs) 2 (and_left (nat_le (length xs) 2) (list_all (λ x. nat_lt x v) xs) okr) in
      let last = before (I.CallAt xs (place x v) (places_of es (v + 1))) k in
      (operand_two x v (operands es (v + 1) last) (operands_two es (v + 1) last ((two, h.0), h.1)), tt)
  stmt_two (If e x y) at loops exits k ok h =
      let oks = and_right (expr_fits v procs bytes e) (stmt_fits v procs bytes loops x && stmt_fits v procs bytes loops y) ok in
      let okx = and_left (stmt_fits v procs bytes loops x) (stmt_fits v procs bytes loops y) oks in
      let oky = and_right (stmt_fits v procs bytes loops x) (stmt_fits v procs bytes loops y) oks in
      let to_join = only (E.Jump (at + 1 + count x + 1 + count y)) in
      let cy = code y v (at + 1 + count x + 1) exits to_join in
      let cx = code x v (at + 1) exits to_join in
      let hx = stmt_two x (at + 1) loops exits to_join okx (tt, tt) in
      let hy = stmt_two y (at + 1 + count x + 1) loops exits to_join oky (tt, tt) in (
        operand_two e v (only (E.Branch (place e v) at (at + 1 + count x))) (tt, tt),
        both_two (cx.first ∷ cx.others) ((cy.first ∷ cy.others) ++ k ∷ []) (hx.0, hx.1) (both_two (cy.first ∷ cy.others) (k ∷ []) (hy.0, hy.1) (h, tt)),
      )
  stmt_two (Loop s) at loops exits k ok h =
      let to_head = only (E.Jump at) in
      let cs = code s v (at + 1) ((at + 1 + count s) ∷ exits) to_head in
      let hs = stmt_two s (at + 1) (loops + 1) ((at + 1 + count s) ∷ exits) to_head ok (tt, tt) in
      ((tt, tt), both_two (cs.first ∷ cs.others) (k ∷ []) (hs.0, hs.1) (h, tt))
  stmt_two (Break j) at loops exits k ok h = ((tt, tt), tt)
  stmt_two (Return es) at loops exits k ok h =
      let two = at_most (length es) 2 (and_left (nat_le (length es) 2) (exprs_fit v procs bytes es) ok) in
      let n = places_count es v in
      (operands_two es v (only (E.Return (places_of es v))) (tt, omega (arith, n, two)), tt)
  stmt_two (Take x) at loops exits k ok h = (((tt, h.0), h.1), tt)
  stmt_two (Give e) at loops exits k ok h = (operand_two e v (before (I.Give (place e v)) k) ((tt, h.0), h.1), tt)
  stmt_two (Stop e) at loops exits k ok h = (operand_two e v (only (E.Stop (place e v))) (tt, tt), tt)
  stmt_two (Limit l) at loops exits k ok h = ((tt, tt), tt)

proc_two : (procs bytes : ℕ) (f : Procedure) → proc_fits procs bytes f ≡ true → BlocksTwo (proc_code f).blocks
proc_two procs bytes f ok =
    let oks = and_right (nat_le f.params f.values) (stmt_fits f.values procs bytes 0 f.body && each_below f.values (is_set_first f)) ok in
    let h = stmt_two procs bytes f.values f.body 1 0 [] (only (E.Return [])) (and_left (stmt_fits f.values procs bytes 0 f.body) (each_below f.values (is_set_first f)) oks) (tt, omega arith) in
    (h.0, h.1)

procs_two : (procs bytes : ℕ) (fs : List FlatProc) → list_all (λ f. proc_fits procs bytes (proc_of f)) fs ≡ true → (i : ℕ) (f : BlockProc) → slice_get (map proc_code (procs_of fs)) i ≡ Some f → BlocksTwo f.blocks
procs_two procs bytes [] h i f e = absurd (cc)
procs_two procs bytes (x ∷ fs) h zero f e =
    let u : proc_code (proc_of x) ≡ f = cc in
    subst (λ (z : BlockProc). BlocksTwo z.blocks) u (proc_two procs bytes (proc_of x) (and_left (proc_fits procs bytes (proc_of x)) (list_all (λ f. proc_fits procs bytes (proc_of f)) fs) h))
procs_two procs bytes (x ∷ fs) h (suc i) f e = procs_two procs bytes fs (and_right (proc_fits procs bytes (proc_of x)) (list_all (λ f. proc_fits procs bytes (proc_of f)) fs) h) i f e

-- of one block and instruction
block_two : (bs : List Block) (b : ℕ) (k : Block) → BlocksTwo bs → slice_get bs b ≡ Some k → BlockTwo k
block_two [] b k h e = absurd (cc)
block_two (x ∷ bs) zero k h e = (let u : x ≡ k = cc in subst (λ (z : Block). BlockTwo z) u h.0)
block_two (x ∷ bs) (suc b) k h e = block_two bs b k h.1 e

insn_two : (is : List BlockInsn) (j : ℕ) (i : BlockInsn) → Twos is → slice_get is j ≡ Some i → Two i
insn_two [] j i h e = absurd (cc)
insn_two (x ∷ is) zero i h e = (let u : x ≡ i = cc in subst (λ (z : BlockInsn). Two z) u h.0)
insn_two (x ∷ is) (suc j) i h e = insn_two is j i h.1 e

proc_named : (n m : ℕ) (qs : List BlockProc) (i : ℕ) (f : BlockProc) → ProcsNamed n m qs → slice_get qs i ≡ Some f → ProcNamed n m f
proc_named n m [] i f h e = absurd (cc)
proc_named n m (x ∷ qs) zero f h e = (let u : x ≡ f = cc in subst (λ (z : BlockProc). ProcNamed n m z) u h.0)
proc_named n m (x ∷ qs) (suc i) f h e = proc_named n m qs i f h.1 e

block_named : (c : Counts) (bs : List Block) (b : ℕ) (k : Block) → BlocksNamed c bs → slice_get bs b ≡ Some k → BlockNamed c k
block_named c [] b k h e = absurd (cc)
block_named c (x ∷ bs) zero k h e = (let u : x ≡ k = cc in subst (λ (z : Block). BlockNamed c z) u h.0)
block_named c (x ∷ bs) (suc b) k h e = block_named c bs b k h.1 e

insn_named : (c : Counts) (is : List BlockInsn) (j : ℕ) (i : BlockInsn) → InsnsNamed c is → slice_get is j ≡ Some i → InsnNamed c i
insn_named c [] j i h e = absurd (cc)
insn_named c (x ∷ is) zero i h e = (let u : x ≡ i = cc in subst (λ (z : BlockInsn). InsnNamed c z) u h.0)
insn_named c (x ∷ is) (suc j) i h e = insn_named c is j i h.1 e

fits : (c : Counts) (i : BlockInsn) → InsnNamed c i → Two i → NumberFits i → InsnFits c.procs c.bytes i
fits c (I.Number x n) h t m = m
fits c (I.Copy x y) h t m = tt
fits c (I.Binary o x y z) h t m = tt
fits c (I.Load x w s y) h t m = tt
fits c (I.Store w y z) h t m = tt
fits c (I.ProcAddress x p) h t m = h.1
fits c (I.ImageAddress x n) h t m = h.1
fits c (I.Call xs p ys) h t m = (h.1, t)
fits c (I.CallAt xs y ys) h t m = t
fits c (I.Take x) h t m = tt
fits c (I.Give y) h t m = tt

-- fixes name what is there
fix_target : (procs bytes : ℕ) (fs : List Fix) (k : ℕ) (f : Fix) → list_all (λ f. fix_fits procs bytes f) fs ≡ true → slice_get fs k ≡ Some f → TargetFits procs bytes f.target
fix_target procs bytes [] k f h e = absurd (cc)
fix_target procs bytes (x ∷ fs) zero f h e =
    let u : x ≡ f = cc in
    let a = and_left (fix_fits procs bytes x) (list_all (λ f. fix_fits procs bytes f) fs) h in
    let b = and_right (nat_le (x.at + 8) bytes) (target_fits procs bytes x.target) a in
    subst (λ (z : Fix). TargetFits procs bytes z.target) u (by x.target b)
  where
    by : (t : Target) → target_fits procs bytes t ≡ true → TargetFits procs bytes t
    by (T.Proc p) h = below p procs h
    by (T.Image n) h = at_most n bytes h
fix_target procs bytes (x ∷ fs) (suc k) f h e = fix_target procs bytes fs k f (and_right (fix_fits procs bytes x) (list_all (λ f. fix_fits procs bytes f) fs) h) e

map_length : (fs : List FlatProc) → length (map proc_code (procs_of fs)) ≡ length fs
map_length [] = refl
map_length (f ∷ fs) = omega (arith, map_length fs)

pub can_emit : (p : FlatProgram) (hs : List Assignment) → Emits p hs → CanEmit (program_code p) hs
can_emit p hs x =
    let q = program_code p in
    let n = length p.procs in
    let m = length p.image in
    let rest = and_right (entry_fits (slice_get (procs_of p.procs) p.entry)) (list_all (λ f. proc_fits n m (proc_of f)) p.procs && (list_all (λ f. fix_fits n m f) p.fixes && all_apart p.fixes)) x.ok in
    let okp = and_left (list_all (λ f. proc_fits n m (proc_of f)) p.procs) (list_all (λ f. fix_fits n m f) p.fixes && all_apart p.fixes) rest in
    let okf = and_left (list_all (λ f. fix_fits n m f) p.fixes) (all_apart p.fixes) (and_right (list_all (λ f. proc_fits n m (proc_of f)) p.procs) (list_all (λ f. fix_fits n m f) p.fixes && all_apart p.fixes) rest) in
    let named = blocks_named p x.ok in
    let len : length q.procs ≡ n = map_length p.procs in
    record {
      valid = λ i f ip. (named_at q.procs i f (all_named n m q.procs named) ip, x.kept i f ip);
      homes = x.homes;
      room = x.room;
      insns = λ i f ip insn has. (let pn = proc_named n m q.procs i f named ip in
          let k = has.1 in
          let bn = block_named (record { values = f.values; blocks = length f.blocks; procs = n; bytes = m }) f.blocks has.0 k.0 pn.blocks k.1 in
          let bt = block_two f.blocks has.0 k.0 (procs_two n m p.procs okp i f ip) k.1 in
          subst (λ z. InsnFits z m insn) (sym len) (fits (record { values = f.values; blocks = length f.blocks; procs = n; bytes = m }) insn (insn_named (record { values = f.values; blocks = length f.blocks; procs = n; bytes = m }) k.0.insns k.2.0 insn bn.0 k.2.1) (insn_two k.0.insns k.2.0 insn bt.0 k.2.1) (x.numbers i f ip insn has)));
      ends = λ i f ip end has. (let k = has.1 in let bt = block_two f.blocks has.0 k.0 (procs_two n m p.procs okp i f ip) k.1 in subst (λ (e : BlockEnd). EndFits e) k.2 bt.1);
      fixes = λ k f e. subst (λ z. TargetFits z m f.target) (sym len) (fix_target n m p.fixes k f okf e);
    }
  where
    named_at : (qs : List BlockProc) (i : ℕ) (f : BlockProc) → All IsNamed qs → slice_get qs i ≡ Some f → IsNamed f
    named_at qs i f h e = subst (λ (z : BlockProc). IsNamed z) (get_or_from_slice_get qs i f f e) (h i f (slice_get_within qs i f e))
