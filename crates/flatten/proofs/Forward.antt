-- Only the ends of loops go back.
use Rattle.std.proofs.Common.{◌≡◌, ℕ, zero, suc, ◌+◌, ◌<◌, ◌≤◌, List, [], ◌∷◌, ◌++◌, length, map, true, refl, sym, ◌∙◌, subst, arith, inl, inr}
use Rattle.std.specs.Prelude.{◌&&◌, nat_le, slice_get}
use Rattle.std.specs.List.{list_all}
use Rattle.flat_ir.specs.declared.program.FlatProc.{FlatProc}
use Rattle.flat_ir.specs.declared.program.FlatProgram.{FlatProgram}
use Rattle.flat_ir.specs.View.{proc_of, procs_of}
use Rattle.flat_ir.specs.Tree.{Expr, Num, Val, Bin, Load, ProcAt, ImageAt, Stmt, Skip, Seq, Set, Store, Call, CallAt, If, Loop, Break, Return, Take, Give, Stop, Limit, Procedure}
use Rattle.flat_ir.specs.Checked.{expr_fits, stmt_fits, each_below, is_set_first, proc_fits, fix_fits, all_apart, entry_fits, is_ok}
use Rattle.flatten.specs.declared.blocks.BlockInsn.TheVariants as I
use Rattle.flatten.specs.declared.blocks.BlockEnd.{BlockEnd}
use Rattle.flatten.specs.declared.blocks.BlockEnd.TheVariants as E
use Rattle.flatten.specs.declared.blocks.Block.{Block}
use Rattle.flatten.specs.Code.{only, before, place, expr_code, operand, operands, places_of, count, behind, code, proc_code}
use Rattle.flatten.specs.Forward.{Begins, EndForward, BlocksForward, OnlyLoopsGoBack, OnlyLoopsGoBackIn}
use Rattle.flatten.proofs.Values.{and_left, and_right, below}
use Rattle.flatten.proofs.Sim.{code_count}

-- code in front keeps the end
operand_from : (e : Expr) (t : ℕ) (k : Block) → (expr_code e t t k).end ≡ k.end → (operand e t k).end ≡ k.end
operand_from (Val x) t k h = refl
operand_from (Num n) t k h = h
operand_from (Bin o a b) t k h = h
operand_from (Load w s a) t k h = h
operand_from (ProcAt p) t k h = h
operand_from (ImageAt n) t k h = h

expr_end : (e : Expr) (x t : ℕ) (k : Block) → (expr_code e x t k).end ≡ k.end
expr_end (Num n) x t k = refl
expr_end (Val y) x t k = refl
expr_end (Bin o a b) x t k =
    let last = before (I.Binary o x (place a t) (place b (t + 1))) k in
    operand_from a t (operand b (t + 1) last) (expr_end a t t (operand b (t + 1) last)) ∙ operand_from b (t + 1) last (expr_end b (t + 1) (t + 1) last)
expr_end (Load w s a) x t k = let last = before (I.Load x w s (place a t)) k in operand_from a t last (expr_end a t t last)
expr_end (ProcAt p) x t k = refl
expr_end (ImageAt n) x t k = refl

operand_end : (e : Expr) (t : ℕ) (k : Block) → (operand e t k).end ≡ k.end
operand_end e t k = operand_from e t k (expr_end e t t k)

operands_end : (es : List Expr) (t : ℕ) (k : Block) → (operands es t k).end ≡ k.end
operands_end [] t k = refl
operands_end (e ∷ es) t k = operand_end e t (operands es (t + 1) k) ∙ operands_end es (t + 1) k

module _ (Turn : ℕ → Type 0) (v procs bytes : ℕ) where
  both_forward : (b m : ℕ) (front ks : List Block) → length front ≡ m → BlocksForward Turn b front → BlocksForward Turn (b + m) ks → BlocksForward Turn b (front ++ ks)
  both_forward b m [] ks l h hk = let e : b + m ≡ b = omega (arith, l) in subst (λ n. BlocksForward Turn n ks) e hk
  both_forward b zero (k ∷ front) ks l h hk = absurd (omega arith)
  both_forward b (suc m) (k ∷ front) ks l h hk =
      let e : b + suc m ≡ b + 1 + m = omega arith in
      (h.0, both_forward (b + 1) m front ks (omega (arith, l)) h.1 (subst (λ n. BlocksForward Turn n ks) e hk))

  forward_by : (b : ℕ) (e e' : BlockEnd) → e' ≡ e → EndForward Turn b e → EndForward Turn b e'
  forward_by b e e' q h = subst (λ e. EndForward Turn b e) (sym q) h

  inner : (join n loops : ℕ) (exits : List ℕ) → n ≤ join → ((j : ℕ) → j < loops → n ≤ behind exits j) → (j : ℕ) → j < loops + 1 → n ≤ behind (join ∷ exits) j
  inner join n loops exits le he zero lj = le
  inner join n loops exits le he (suc j) lj = he j (omega arith)

  stmt_forward : (s : Stmt) (at loops : ℕ) (exits : List ℕ) (k : Block) → stmt_fits v procs bytes loops s ≡ true → ((t : ℕ) → Begins s at t → Turn t) → ((j : ℕ) → j < loops → at + count s ≤ behind exits j) → ((b : ℕ) → b < at + count s → EndForward Turn b k.end)
      → ((b : ℕ) → b < at → EndForward Turn b (code s v at exits k).first.end) × BlocksForward Turn at (code s v at exits k).others
  unfolding code
  stmt_forward Skip at loops exits k ok inc he hk = (λ b l. hk b (omega arith), tt)
  stmt_forward (Seq x y) at loops exits k ok inc he hk =
      let cy = code y v (at + count x) exits k in
      let hy = stmt_forward y (at + count x) loops exits k (and_right (stmt_fits v procs bytes loops x) (stmt_fits v procs bytes loops y) ok) (λ t h. inc t (inr h)) (λ j l. (let z = he j l in omega arith)) (λ b l. hk b (omega arith)) in
      let hx = stmt_forward x at loops exits cy.first (and_left (stmt_fits v procs bytes loops x) (stmt_fits v procs bytes loops y) ok) (λ t h. inc t (inl h)) (λ j l. (let z = he j l in omega arith)) hy.0 in
      (hx.0, both_forward at (count x) (code x v at exits cy.first).others cy.others (code_count x v at exits cy.first) hx.1 hy.1)
  stmt_forward (Set x e) at loops exits k ok inc he hk = (λ b l. forward_by b k.end _ (expr_end e x v k) (hk b (omega arith)), tt)
  stmt_forward (Store w x y) at loops exits k ok inc he hk = (λ b l. forward_by b k.end _ (operand_end x v _ ∙ operand_end y (v + 1) _) (hk b (omega arith)), tt)
  stmt_forward (Call xs p es) at loops exits k ok inc he hk = (λ b l. forward_by b k.end _ (operands_end es v _) (hk b (omega arith)), tt)
  stmt_forward (CallAt xs x es) at loops exits k ok inc he hk = (λ b l. forward_by b k.end _ (operand_end x v _ ∙ operands_end es (v + 1) _) (hk b (omega arith)), tt)
  stmt_forward (If e x y) at loops exits k ok inc he hk =
      let oks = and_right (expr_fits v procs bytes e) (stmt_fits v procs bytes loops x && stmt_fits v procs bytes loops y) ok in
      let okx = and_left (stmt_fits v procs bytes loops x) (stmt_fits v procs bytes loops y) oks in
      let oky = and_right (stmt_fits v procs bytes loops x) (stmt_fits v procs bytes loops y) oks in
      let join = at + 1 + count x + 1 + count y in
      let to_join = only (E.Jump join) in
      let cx = code x v (at + 1) exits to_join in
      let cy = code y v (at + 1 + count x + 1) exits to_join in
      let nx = code_count x v (at + 1) exits to_join in
      let ny = code_count y v (at + 1 + count x + 1) exits to_join in
      let hx = stmt_forward x (at + 1) loops exits to_join okx (λ t h. inc t (inl h)) (λ j l. (let z = he j l in omega arith)) (λ b l. inl (omega arith)) in
      let hy = stmt_forward y (at + 1 + count x + 1) loops exits to_join oky (λ t h. inc t (inr h)) (λ j l. (let z = he j l in omega arith)) (λ b l. inl (omega arith)) in
      let second : BlocksForward Turn (at + 1 + count x) ((cy.first ∷ cy.others) ++ k ∷ []) =
      (hy.0 (at + 1 + count x) (omega arith), both_forward (at + 1 + count x + 1) (count y) cy.others (k ∷ []) ny hy.1 (hk (at + 1 + count x + 1 + count y) (omega arith), tt)) in (
        λ b l. forward_by b (E.Branch (place e v) at (at + 1 + count x)) _ (operand_end e v (only (E.Branch (place e v) at (at + 1 + count x)))) (l, omega arith),
        (hx.0 at (omega arith), both_forward (at + 1) (count x) cx.others ((cy.first ∷ cy.others) ++ k ∷ []) nx hx.1 second),
      )
  stmt_forward (Loop s) at loops exits k ok inc he hk =
      let join = at + 1 + count s in
      let to_head = only (E.Jump at) in
      let cs = code s v (at + 1) (join ∷ exits) to_head in
      let ns = code_count s v (at + 1) (join ∷ exits) to_head in
      let hs = stmt_forward s (at + 1) (loops + 1) (join ∷ exits) to_head ok (λ t h. inc t (inr h)) (inner join (at + 1 + count s) loops exits (omega arith) (λ j l. (let z = he j l in omega arith))) (λ b l. inr (inc at (inl refl))) in
      (λ b l. inl l, (hs.0 at (omega arith), both_forward (at + 1) (count s) cs.others (k ∷ []) ns hs.1 (hk (at + 1 + count s) (omega arith), tt)))
  stmt_forward (Break j) at loops exits k ok inc he hk = (λ b l. (let z = he j (below j loops ok) in inl (omega arith)), tt)
  stmt_forward (Return es) at loops exits k ok inc he hk = (λ b l. forward_by b (E.Return (places_of es v)) _ (operands_end es v (only (E.Return (places_of es v)))) tt, tt)
  stmt_forward (Take x) at loops exits k ok inc he hk = (λ b l. hk b (omega arith), tt)
  stmt_forward (Give e) at loops exits k ok inc he hk = (λ b l. forward_by b k.end _ (operand_end e v (before (I.Give (place e v)) k)) (hk b (omega arith)), tt)
  stmt_forward (Stop e) at loops exits k ok inc he hk = (λ b l. forward_by b (E.Stop (place e v)) _ (operand_end e v (only (E.Stop (place e v)))) tt, tt)
  stmt_forward (Limit l) at loops exits k ok inc he hk = (λ b l. tt, tt)

pub proc_forward : (procs bytes : ℕ) (f : Procedure) → proc_fits procs bytes f ≡ true → OnlyLoopsGoBack f (proc_code f)
proc_forward procs bytes f ok =
    let oks = and_right (nat_le f.params f.values) (stmt_fits f.values procs bytes 0 f.body && each_below f.values (is_set_first f)) ok in
    let h = stmt_forward (Begins f.body 1) f.values procs bytes f.body 1 0 [] (only (E.Return [])) (and_left (stmt_fits f.values procs bytes 0 f.body) (each_below f.values (is_set_first f)) oks) (λ t h. h) (λ j lj. absurd (omega arith)) (λ b l. tt) in
    (h.0 0 (omega arith), h.1)

all_forward : (procs bytes : ℕ) (fs : List FlatProc) → list_all (λ f. proc_fits procs bytes (proc_of f)) fs ≡ true → OnlyLoopsGoBackIn (procs_of fs) (map proc_code (procs_of fs))
all_forward procs bytes [] h = tt
all_forward procs bytes (f ∷ fs) h =
    (proc_forward procs bytes (proc_of f) (and_left (proc_fits procs bytes (proc_of f)) (list_all (λ f. proc_fits procs bytes (proc_of f)) fs) h), all_forward procs bytes fs (and_right (proc_fits procs bytes (proc_of f)) (list_all (λ f. proc_fits procs bytes (proc_of f)) fs) h))

pub blocks_forward : (p : FlatProgram) → is_ok p ≡ true → OnlyLoopsGoBackIn (procs_of p.procs) (map proc_code (procs_of p.procs))
blocks_forward p ok =
    let rest = and_right (entry_fits (slice_get (procs_of p.procs) p.entry)) (list_all (λ f. proc_fits (length p.procs) (length p.image) (proc_of f)) p.procs && (list_all (λ f. fix_fits (length p.procs) (length p.image) f) p.fixes && all_apart p.fixes)) ok in
    all_forward (length p.procs) (length p.image) p.procs (and_left (list_all (λ f. proc_fits (length p.procs) (length p.image) (proc_of f)) p.procs) (list_all (λ f. fix_fits (length p.procs) (length p.image) f) p.fixes && all_apart p.fixes) rest)
