-- The blocks of a program name what is there.
use Rattle.std.proofs.Common.{◌≡◌, ℕ, zero, suc, ◌+◌, ◌<◌, ◌≤◌, List, [], ◌∷◌, ◌++◌, length, map, true, arith}
use Rattle.std.specs.Prelude.{◌&&◌, nat_lt, nat_le, slice_get}
use Rattle.std.specs.List.{list_all}
use Rattle.std.proofs.lemmas.Bool.Decides.{nat_tests}
use Rattle.flat_ir.specs.declared.program.FlatProc.{FlatProc}
use Rattle.flat_ir.specs.declared.program.FlatProgram.{FlatProgram}
use Rattle.flat_ir.specs.Tree.{Expr, Num, Val, Bin, Load, ProcAt, ImageAt, Stmt, Skip, Seq, Set, Store, Call, CallAt, If, Loop, Break, Return, Take, Give, Stop, Limit, Procedure}
use Rattle.flat_ir.specs.View.{proc_of, procs_of}
use Rattle.flat_ir.specs.Checked.{expr_fits, exprs_fit, results_fit, stmt_fits, each_below, is_set_first, proc_fits, fix_fits, all_apart, entry_fits, is_ok}
use Rattle.flatten.specs.declared.blocks.BlockInsn.TheVariants as I
use Rattle.flatten.specs.declared.blocks.BlockEnd.TheVariants as E
use Rattle.flatten.specs.declared.blocks.Block.{Block}
use Rattle.flatten.specs.Code.{only, before, place, expr_code, operand, operands, places_of, count, behind, code, spare, spares, spare_of, body_code, proc_code}
use Rattle.flatten.specs.Named.{Counts, AllBelow, BlockNamed, BlocksNamed, ProcNamed, ProcsNamed}
use Rattle.flatten.proofs.Values.{and_left, and_right, below, place_low}
use Rattle.flatten.proofs.Sim.{code_count}

at_most : (x n : ℕ) → nat_le x n ≡ true → x ≤ n
at_most x n h = grind (arith, nat_tests)

all_below : (v n : ℕ) (xs : List ℕ) → v ≤ n → list_all (λ x. nat_lt x v) xs ≡ true → AllBelow n xs
all_below v n [] le h = tt
all_below v n (x ∷ xs) le h =
    let lt = below x v (and_left (nat_lt x v) (list_all (λ x. nat_lt x v) xs) h) in
    (omega (arith, lt), all_below v n xs le (and_right (nat_lt x v) (list_all (λ x. nat_lt x v) xs) h))

both_named : (c : Counts) (front bs : List Block) → BlocksNamed c front → BlocksNamed c bs → BlocksNamed c (front ++ bs)
both_named c [] bs ha hb = hb
both_named c (a ∷ front) bs ha hb = (ha.0, both_named c front bs ha.1 hb)

module _ (c : Counts) (v : ℕ) where
  operand_from : (e : Expr) (t : ℕ) (k : Block) → BlockNamed c (expr_code e t t k) → BlockNamed c k → BlockNamed c (operand e t k)
  operand_from (Val x) t k h hk = hk
  operand_from (Num n) t k h hk = h
  operand_from (Bin o a b) t k h hk = h
  operand_from (Load w s a) t k h hk = h
  operand_from (ProcAt p) t k h hk = h
  operand_from (ImageAt n) t k h hk = h

  expr_named : (e : Expr) (x t : ℕ) (k : Block) → expr_fits v c.procs c.bytes e ≡ true → v ≤ t → t + spare e ≤ c.values → x < c.values → BlockNamed c k → BlockNamed c (expr_code e x t k)
  expr_named (Num n) x t k ok le room lt h = ((lt, h.0), h.1)
  expr_named (Val y) x t k ok le room lt h = let ly = below y v ok in (((lt, omega (arith, ly)), h.0), h.1)
  expr_named (Bin o a b) x t k ok le room lt h =
      let oka = and_left (expr_fits v c.procs c.bytes a) (expr_fits v c.procs c.bytes b) ok in
      let okb = and_right (expr_fits v c.procs c.bytes a) (expr_fits v c.procs c.bytes b) ok in
      let la = place_low a v c.procs c.bytes t oka le in
      let lb = place_low b v c.procs c.bytes (t + 1) okb (omega arith) in
      let last = before (I.Binary o x (place a t) (place b (t + 1))) k in
      let hl : BlockNamed c last = (((lt, omega (arith, la), omega (arith, lb)), h.0), h.1) in
      let hb : BlockNamed c (operand b (t + 1) last) = operand_from b (t + 1) last (expr_named b (t + 1) (t + 1) last okb (omega arith) (omega arith) (omega arith) hl) hl in
      operand_from a t (operand b (t + 1) last) (expr_named a t t (operand b (t + 1) last) oka le (omega arith) (omega arith) hb) hb
  expr_named (Load w s a) x t k ok le room lt h =
      let la = place_low a v c.procs c.bytes t ok le in
      let last = before (I.Load x w s (place a t)) k in
      let hl : BlockNamed c last = (((lt, omega (arith, la)), h.0), h.1) in
      operand_from a t last (expr_named a t t last ok le (omega arith) (omega arith) hl) hl
  expr_named (ProcAt p) x t k ok le room lt h = ((((lt, below p c.procs ok)), h.0), h.1)
  expr_named (ImageAt n) x t k ok le room lt h = ((((lt, at_most n c.bytes ok)), h.0), h.1)

  operand_named : (e : Expr) (t : ℕ) (k : Block) → expr_fits v c.procs c.bytes e ≡ true → v ≤ t → t + 1 + spare e ≤ c.values → BlockNamed c k → BlockNamed c (operand e t k)
  operand_named e t k ok le room h = operand_from e t k (expr_named e t t k ok le (omega arith) (omega arith) h) h

  operands_named : (es : List Expr) (t : ℕ) (k : Block) → exprs_fit v c.procs c.bytes es ≡ true → v ≤ t → t + spares es ≤ c.values → BlockNamed c k → BlockNamed c (operands es t k)
  operands_named [] t k ok le room h = h
  operands_named (e ∷ es) t k ok le room h =
      operand_named e t (operands es (t + 1) k) (and_left (expr_fits v c.procs c.bytes e) (exprs_fit v c.procs c.bytes es) ok) le (omega arith)
      (operands_named es (t + 1) k (and_right (expr_fits v c.procs c.bytes e) (exprs_fit v c.procs c.bytes es) ok) (omega arith) (omega arith) h)

  places_below : (es : List Expr) (t : ℕ) → exprs_fit v c.procs c.bytes es ≡ true → v ≤ t → t + spares es ≤ c.values → AllBelow c.values (places_of es t)
  places_below [] t ok le room = tt
  places_below (e ∷ es) t ok le room =
      let l = place_low e v c.procs c.bytes t (and_left (expr_fits v c.procs c.bytes e) (exprs_fit v c.procs c.bytes es) ok) le in
      (omega (arith, l), places_below es (t + 1) (and_right (expr_fits v c.procs c.bytes e) (exprs_fit v c.procs c.bytes es) ok) (omega arith) (omega arith))

  inner : (join loops : ℕ) (exits : List ℕ) → join < c.blocks → ((j : ℕ) → j < loops → behind exits j < c.blocks) → (j : ℕ) → j < loops + 1 → behind (join ∷ exits) j < c.blocks
  inner join loops exits lt he zero lj = lt
  inner join loops exits lt he (suc j) lj = he j (omega arith)

  stmt_named : (s : Stmt) (at loops : ℕ) (exits : List ℕ) (k : Block) → stmt_fits v c.procs c.bytes loops s ≡ true → v ≤ c.values → v + spare_of s ≤ c.values → at + count s ≤ c.blocks → ((j : ℕ) → j < loops → behind exits j < c.blocks) → BlockNamed c k
      → BlockNamed c (code s v at exits k).first × BlocksNamed c (code s v at exits k).others
  unfolding code
  stmt_named Skip at loops exits k ok fit room low he h = (h, tt)
  stmt_named (Seq x y) at loops exits k ok fit room low he h =
      let cy = code y v (at + count x) exits k in
      let hy = stmt_named y (at + count x) loops exits k (and_right (stmt_fits v c.procs c.bytes loops x) (stmt_fits v c.procs c.bytes loops y) ok) fit (omega arith) (omega arith) he h in
      let hx = stmt_named x at loops exits cy.first (and_left (stmt_fits v c.procs c.bytes loops x) (stmt_fits v c.procs c.bytes loops y) ok) fit (omega arith) (omega arith) he hy.0 in
      (hx.0, both_named c (code x v at exits cy.first).others cy.others hx.1 hy.1)
  stmt_named (Set x e) at loops exits k ok fit room low he h =
      let lt = below x v (and_left (nat_lt x v) (expr_fits v c.procs c.bytes e) ok) in
      (expr_named e x v k (and_right (nat_lt x v) (expr_fits v c.procs c.bytes e) ok) (omega arith) room (omega (arith, lt)) h, tt)
  stmt_named (Store s x y) at loops exits k ok fit room low he h =
      let okx = and_left (expr_fits v c.procs c.bytes x) (expr_fits v c.procs c.bytes y) ok in
      let oky = and_right (expr_fits v c.procs c.bytes x) (expr_fits v c.procs c.bytes y) ok in
      let lx = place_low x v c.procs c.bytes v okx (omega arith) in
      let ly = place_low y v c.procs c.bytes (v + 1) oky (omega arith) in
      (operand_named x v _ okx (omega arith) (omega arith) (operand_named y (v + 1) _ oky (omega arith) (omega arith) (((omega (arith, lx), omega (arith, ly)), h.0), h.1)), tt)
  stmt_named (Call xs p es) at loops exits k ok fit room low he h =
      let okr = and_left (results_fit v xs) (nat_lt p c.procs && exprs_fit v c.procs c.bytes es) ok in
      let oks = and_right (results_fit v xs) (nat_lt p c.procs && exprs_fit v c.procs c.bytes es) ok in
      let okxs = and_right (nat_le (length xs) 2) (list_all (λ x. nat_lt x v) xs) okr in
      let okes = and_right (nat_lt p c.procs) (exprs_fit v c.procs c.bytes es) oks in
      let lp = below p c.procs (and_left (nat_lt p c.procs) (exprs_fit v c.procs c.bytes es) oks) in
      (operands_named es v _ okes (omega arith) room (((all_below v c.values xs fit okxs, lp, places_below es v okes (omega arith) room), h.0), h.1), tt)
  stmt_named (CallAt xs x es) at loops exits k ok fit room low he h =
      let okr = and_left (results_fit v xs) (expr_fits v c.procs c.bytes x && exprs_fit v c.procs c.bytes es) ok in
      let oks = and_right (results_fit v xs) (expr_fits v c.procs c.bytes x && exprs_fit v c.procs c.bytes es) ok in
      let okxs = and_right (nat_le (length xs) 2) (list_all (λ x. nat_lt x v) xs) okr in
      let okx = and_left (expr_fits v c.procs c.bytes x) (exprs_fit v c.procs c.bytes es) oks in
      let okes = and_right (expr_fits v c.procs c.bytes x) (exprs_fit v c.procs c.bytes es) oks in
      let lx = place_low x v c.procs c.bytes v okx (omega arith) in
      (operand_named x v _ okx (omega arith) (omega arith) (operands_named es (v + 1) _ okes (omega arith) (omega arith) (((all_below v c.values xs fit okxs, omega (arith, lx), places_below es (v + 1) okes (omega arith) (omega arith)), h.0), h.1)), tt)
  stmt_named (If e x y) at loops exits k ok fit room low he h =
      let oke = and_left (expr_fits v c.procs c.bytes e) (stmt_fits v c.procs c.bytes loops x && stmt_fits v c.procs c.bytes loops y) ok in
      let oks = and_right (expr_fits v c.procs c.bytes e) (stmt_fits v c.procs c.bytes loops x && stmt_fits v c.procs c.bytes loops y) ok in
      let okx = and_left (stmt_fits v c.procs c.bytes loops x) (stmt_fits v c.procs c.bytes loops y) oks in
      let oky = and_right (stmt_fits v c.procs c.bytes loops x) (stmt_fits v c.procs c.bytes loops y) oks in
      let to_join = only (E.Jump (at + 1 + count x + 1 + count y)) in
      let cy = code y v (at + 1 + count x + 1) exits to_join in
      let cx = code x v (at + 1) exits to_join in
      let le = place_low e v c.procs c.bytes v oke (omega arith) in
      let hj : BlockNamed c to_join = (tt, omega arith) in
      let hx = stmt_named x (at + 1) loops exits to_join okx fit (omega arith) (omega arith) he hj in
      let hy = stmt_named y (at + 1 + count x + 1) loops exits to_join oky fit (omega arith) (omega arith) he hj in (
        operand_named e v _ oke (omega arith) (omega arith) (tt, (omega (arith, le), omega arith, omega arith)),
        both_named c (cx.first ∷ cx.others) ((cy.first ∷ cy.others) ++ k ∷ []) (hx.0, hx.1) (both_named c (cy.first ∷ cy.others) (k ∷ []) (hy.0, hy.1) (h, tt)),
      )
  stmt_named (Loop s) at loops exits k ok fit room low he h =
      let join = at + 1 + count s in
      let to_head = only (E.Jump at) in
      let cs = code s v (at + 1) (join ∷ exits) to_head in
      let hj : BlockNamed c to_head = (tt, omega arith) in
      let hs = stmt_named s (at + 1) (loops + 1) (join ∷ exits) to_head ok fit room (omega arith) (inner join loops exits (omega arith) he) hj in
      (hj, both_named c (cs.first ∷ cs.others) (k ∷ []) (hs.0, hs.1) (h, tt))
  stmt_named (Break j) at loops exits k ok fit room low he h = ((tt, he j (below j loops ok)), tt)
  stmt_named (Return es) at loops exits k ok fit room low he h =
      let okes = and_right (nat_le (length es) 2) (exprs_fit v c.procs c.bytes es) ok in
      (operands_named es v _ okes (omega arith) room (tt, places_below es v okes (omega arith) room), tt)
  stmt_named (Take x) at loops exits k ok fit room low he h = let lt = below x v ok in (((omega (arith, lt), h.0), h.1), tt)
  stmt_named (Give e) at loops exits k ok fit room low he h =
      let le = place_low e v c.procs c.bytes v ok (omega arith) in
      (operand_named e v _ ok (omega arith) (omega arith) ((omega (arith, le), h.0), h.1), tt)
  stmt_named (Stop e) at loops exits k ok fit room low he h =
      let le = place_low e v c.procs c.bytes v ok (omega arith) in
      (operand_named e v _ ok (omega arith) (omega arith) (tt, omega (arith, le)), tt)
  stmt_named (Limit l) at loops exits k ok fit room low he h = ((tt, tt), tt)

proc_named : (procs bytes : ℕ) (f : Procedure) → proc_fits procs bytes f ≡ true → ProcNamed procs bytes (proc_code f)
proc_named procs bytes f ok =
    let c = body_code f in
    let oks = and_right (nat_le f.params f.values) (stmt_fits f.values procs bytes 0 f.body && each_below f.values (is_set_first f)) ok in
    let okp = at_most f.params f.values (and_left (nat_le f.params f.values) (stmt_fits f.values procs bytes 0 f.body && each_below f.values (is_set_first f)) ok) in
    let n = code_count f.body f.values 1 [] (only (E.Return [])) in
    let h = stmt_named (record { values = f.values + spare_of f.body; blocks = length (c.first ∷ c.others); procs = procs; bytes = bytes }) f.values f.body 1 0 [] (only (E.Return [])) (and_left (stmt_fits f.values procs bytes 0 f.body) (each_below f.values (is_set_first f)) oks)
    (omega arith) (omega arith) (omega (arith, n)) (λ j lj. absurd (omega arith)) (tt, tt) in
    record { some = omega arith; params = omega (arith, okp); blocks = (h.0, h.1) }

all_named : (procs bytes : ℕ) (fs : List FlatProc) → list_all (λ f. proc_fits procs bytes (proc_of f)) fs ≡ true → ProcsNamed procs bytes (map proc_code (procs_of fs))
all_named procs bytes [] h = tt
all_named procs bytes (f ∷ fs) h =
    (proc_named procs bytes (proc_of f) (and_left (proc_fits procs bytes (proc_of f)) (list_all (λ f. proc_fits procs bytes (proc_of f)) fs) h), all_named procs bytes fs (and_right (proc_fits procs bytes (proc_of f)) (list_all (λ f. proc_fits procs bytes (proc_of f)) fs) h))

pub blocks_named : (p : FlatProgram) → is_ok p ≡ true → ProcsNamed (length p.procs) (length p.image) (map proc_code (procs_of p.procs))
blocks_named p ok =
    let rest = and_right (entry_fits (slice_get (procs_of p.procs) p.entry)) (list_all (λ f. proc_fits (length p.procs) (length p.image) (proc_of f)) p.procs && (list_all (λ f. fix_fits (length p.procs) (length p.image) f) p.fixes && all_apart p.fixes)) ok in
    all_named (length p.procs) (length p.image) p.procs (and_left (list_all (λ f. proc_fits (length p.procs) (length p.image) (proc_of f)) p.procs) (list_all (λ f. fix_fits (length p.procs) (length p.image) f) p.fixes && all_apart p.fixes) rest)
