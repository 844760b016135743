-- What blocks take, by the size of the code that they are of.
use Rattle.std.proofs.Common.{◌≡◌, ℕ, ◌+◌, ◌*◌, ◌≤◌, List, [], ◌∷◌, ◌++◌, length, map, arith}
use Rattle.flat_ir.specs.Tree.{Expr, Num, Val, Bin, Load, ProcAt, ImageAt, Stmt, Skip, Seq, Set, Store, Call, CallAt, If, Loop, Break, Return, Take, Give, Stop, Limit, Procedure}
use Rattle.flatten.specs.declared.blocks.BlockInsn.TheVariants as I
use Rattle.flatten.specs.declared.blocks.BlockEnd.TheVariants as E
use Rattle.flatten.specs.declared.blocks.Block.{Block}
use Rattle.flatten.specs.Code.{only, before, place, expr_code, operand, operands, places_of, count, code, spare, spares, spare_of, proc_code}
use Rattle.flatten.specs.Sizes.{size_of_expr, size_of_exprs, size_of, lines_of, ProcWithin, ProcsWithin}

spare_within : (e : Expr) → spare e + 1 ≤ size_of_expr e
spare_within (Num n) = omega arith
spare_within (Val x) = omega arith
spare_within (Bin o a b) = let ha = spare_within a in let hb = spare_within b in omega (arith, ha, hb)
spare_within (Load w s a) = let ha = spare_within a in omega (arith, ha)
spare_within (ProcAt p) = omega arith
spare_within (ImageAt n) = omega arith

spares_within : (es : List Expr) → spares es ≤ size_of_exprs es
spares_within [] = omega arith
spares_within (e ∷ es) = let h = spare_within e in let hs = spares_within es in omega (arith, h, hs)

spare_of_within : (s : Stmt) → spare_of s ≤ size_of s
spare_of_within Skip = omega arith
spare_of_within (Seq a b) = let ha = spare_of_within a in let hb = spare_of_within b in omega (arith, ha, hb)
spare_of_within (Set x e) = let h = spare_within e in omega (arith, h)
spare_of_within (Store w a e) = let ha = spare_within a in let he = spare_within e in omega (arith, ha, he)
spare_of_within (Call xs p es) = let h = spares_within es in omega (arith, h)
spare_of_within (CallAt xs a es) = let ha = spare_within a in let h = spares_within es in omega (arith, ha, h)
spare_of_within (If e a b) = let he = spare_within e in let ha = spare_of_within a in let hb = spare_of_within b in omega (arith, he, ha, hb)
spare_of_within (Loop s) = let h = spare_of_within s in omega (arith, h)
spare_of_within (Break k) = omega arith
spare_of_within (Return es) = let h = spares_within es in omega (arith, h)
spare_of_within (Take x) = omega arith
spare_of_within (Give e) = let h = spare_within e in omega (arith, h)
spare_of_within (Stop e) = let h = spare_within e in omega (arith, h)
spare_of_within (Limit l) = omega arith

abbrev long : Block → ℕ
long b = length b.insns

operand_from : (e : Expr) (t : ℕ) (k : Block) → long (expr_code e t t k) ≤ long k + size_of_expr e → long (operand e t k) ≤ long k + size_of_expr e
operand_from (Val x) t k h = omega arith
operand_from (Num n) t k h = h
operand_from (Bin o a b) t k h = h
operand_from (Load w s a) t k h = h
operand_from (ProcAt p) t k h = h
operand_from (ImageAt n) t k h = h

expr_long : (e : Expr) (x t : ℕ) (k : Block) → long (expr_code e x t k) ≤ long k + size_of_expr e
expr_long (Num n) x t k = omega arith
expr_long (Val y) x t k = omega arith
expr_long (Bin o a b) x t k =
    let last = before (I.Binary o x (place a t) (place b (t + 1))) k in
    let hb = operand_from b (t + 1) last (expr_long b (t + 1) (t + 1) last) in
    let ha = operand_from a t (operand b (t + 1) last) (expr_long a t t (operand b (t + 1) last)) in
    omega (arith, ha, hb)
expr_long (Load w s a) x t k =
    let last = before (I.Load x w s (place a t)) k in
    let ha = operand_from a t last (expr_long a t t last) in
    omega (arith, ha)
expr_long (ProcAt p) x t k = omega arith
expr_long (ImageAt n) x t k = omega arith

operand_long : (e : Expr) (t : ℕ) (k : Block) → long (operand e t k) ≤ long k + size_of_expr e
operand_long e t k = operand_from e t k (expr_long e t t k)

operands_long : (es : List Expr) (t : ℕ) (k : Block) → long (operands es t k) ≤ long k + size_of_exprs es
operands_long [] t k = omega arith
operands_long (e ∷ es) t k = let h = operand_long e t (operands es (t + 1) k) in let hs = operands_long es (t + 1) k in omega (arith, h, hs)

both_lines : (front bs : List Block) → lines_of (front ++ bs) ≡ lines_of front + lines_of bs
both_lines [] bs = omega arith
both_lines (a ∷ front) bs = let h = both_lines front bs in omega (arith, h)

stmt_lines : (s : Stmt) (t at : ℕ) (exits : List ℕ) (k : Block) → lines_of ((code s t at exits k).first ∷ (code s t at exits k).others) ≤ long k + 1 + 2 * size_of s
unfolding code
stmt_lines Skip t at exits k = omega arith
stmt_lines (Seq a b) t at exits k =
    let cb = code b t (at + count a) exits k in
    let ca = code a t at exits cb.first in
    let hb = stmt_lines b t (at + count a) exits k in
    let ha = stmt_lines a t at exits cb.first in
    let l = both_lines ca.others cb.others in
    omega (arith, ha, hb, l)
stmt_lines (Set x e) t at exits k = let h = expr_long e x t k in omega (arith, h)
stmt_lines (Store w a e) t at exits k =
    let last = before (I.Store w (place a t) (place e (t + 1))) k in
    let he = operand_long e (t + 1) last in
    let ha = operand_long a t (operand e (t + 1) last) in
    omega (arith, ha, he)
stmt_lines (Call xs p es) t at exits k = let h = operands_long es t (before (I.Call xs p (places_of es t)) k) in omega (arith, h)
stmt_lines (CallAt xs a es) t at exits k =
    let last = before (I.CallAt xs (place a t) (places_of es (t + 1))) k in
    let h = operands_long es (t + 1) last in
    let ha = operand_long a t (operands es (t + 1) last) in
    omega (arith, ha, h)
stmt_lines (If e a b) t at exits k =
    let to_join = only (E.Jump (at + 1 + count a + 1 + count b)) in
    let ca = code a t (at + 1) exits to_join in
    let cb = code b t (at + 1 + count a + 1) exits to_join in
    let he = operand_long e t (only (E.Branch (place e t) at (at + 1 + count a))) in
    let ha = stmt_lines a t (at + 1) exits to_join in
    let hb = stmt_lines b t (at + 1 + count a + 1) exits to_join in
    let la = both_lines (ca.first ∷ ca.others) ((cb.first ∷ cb.others) ++ k ∷ []) in
    let lb = both_lines (cb.first ∷ cb.others) (k ∷ []) in
    omega (arith, he, ha, hb, la, lb)
stmt_lines (Loop s) t at exits k =
    let cs = code s t (at + 1) ((at + 1 + count s) ∷ exits) (only (E.Jump at)) in
    let hs = stmt_lines s t (at + 1) ((at + 1 + count s) ∷ exits) (only (E.Jump at)) in
    let l = both_lines (cs.first ∷ cs.others) (k ∷ []) in
    omega (arith, hs, l)
stmt_lines (Break j) t at exits k = omega arith
stmt_lines (Return es) t at exits k = let h = operands_long es t (only (E.Return (places_of es t))) in omega (arith, h)
stmt_lines (Take x) t at exits k = omega arith
stmt_lines (Give e) t at exits k = let h = operand_long e t (before (I.Give (place e t)) k) in omega (arith, h)
stmt_lines (Stop e) t at exits k = let h = operand_long e t (only (E.Stop (place e t))) in omega (arith, h)
stmt_lines (Limit l) t at exits k = omega arith

proc_within : (f : Procedure) → ProcWithin f (proc_code f)
proc_within f =
    let h = spare_of_within f.body in
    let l = stmt_lines f.body f.values 1 [] (only (E.Return [])) in
    record { values = omega (arith, h); lines = omega (arith, l) }

pub procs_within : (fs : List Procedure) → ProcsWithin fs (map proc_code fs)
procs_within [] = tt
procs_within (f ∷ fs) = (proc_within f, procs_within fs)
