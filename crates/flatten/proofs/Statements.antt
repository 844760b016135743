-- The blocks of a statement show what the statement shows.
use Rattle.std.proofs.Common.{◌≡◌, ℕ, zero, suc, ◌+◌, ◌-◌, ◌%◌, ◌<◌, ◌≤◌, List, [], ◌∷◌, ◌++◌, length, Some, None, true, refl, sym, ap, ◌∙◌, subst, arith, inl, inr}
use Rattle.std.specs.Prelude.{◌⊎◌, ◌&&◌, slice_get, slice_set, slice_index, nat_lt, nat_le}
use Rattle.std.specs.List.{list_all}
use Rattle.behaviour.specs.Behaviour.{Running, Limited, Wrong, Behaviour}
use Rattle.work.specs.Units.{with_value}
use Rattle.work.specs.Same.{Same}
use Rattle.work.proofs.Same.{less, dearer, alike, later, tick, ends, wrong, valued, nothing_yet}
use Rattle.jf_base.specs.Numbers.{size_of_width}
use Rattle.flat_ir.specs.Bytes.{stored}
use Rattle.flat_ir.specs.Placement.{Places, proc_at}
use Rattle.flat_ir.specs.Tree.{Stmt, Skip, Seq, Set, Store, Call, CallAt, If, Loop, Break, Return, Take, Give, Stop, Limit}
use Rattle.flat_ir.specs.Checked.{expr_fits, exprs_fit, results_fit, stmt_fits}
use Rattle.flat_ir.specs.Flat.{World, seen, with_memory, with_frames, gave, took, first_byte, Next, Back, Calls, Leaves, over, on, at_zero, eval, evals, received, receiving, turns, inside, stop_code, limit_of, meaning}
use Rattle.flatten.specs.declared.blocks.BlockInsn.TheVariants as I
use Rattle.flatten.specs.declared.blocks.BlockEnd.TheVariants as E
use Rattle.flatten.specs.declared.blocks.Block.{Block}
use Rattle.flatten.specs.declared.blocks.BlockProc.{BlockProc}
use Rattle.flatten.specs.Blocks.{Waiting, held, if_value, at_block, enter, give_back, branch_to, exec}
use Rattle.flatten.specs.Code.{only, before, place, operand, operands, places_of, count, code, spare_of}
use Rattle.flatten.specs.Sizes.{size_of_expr, size_of_exprs, size_of}
use Rattle.flatten.proofs.Values.{and_left, and_right, below, Agrees, agrees_set, agrees_both, received_same, place_low}
use Rattle.flatten.proofs.Sim.{HasAt, has_front, has_back, code_count, running, leaving, giving, calling, NextSame, LeavesSame, BackSame, GivesSame, CallsSame, expr_same, operand_same, operands_same}

module _ (K : ℕ) (some : 1 ≤ K) (g : Places) (ps : List BlockProc) (procs bytes : ℕ) where
  jump : (p n : ℕ) (f : BlockProc) (stack : List Waiting) (v b : ℕ) (k : Block) (next : Next) → slice_get f.blocks b ≡ Some k → NextSame K some g ps procs bytes p n f stack v k next → NextSame K some g ps procs bytes (p + 1) n f stack v (only (E.Jump b)) next
  jump p n f stack v b k next h s env env' w a =
      later K some p (p + 1) n _ _ (running K some g ps procs bytes f stack k env' w) refl (λ j. ap (λ o. at_block o (exec ps g j) f env' w stack) h) (omega arith) (s env env' w a)

  -- a loop goes back at most m times
  loop_same : (p q n : ℕ) (f : BlockProc) (stack : List Waiting) (v head : ℕ) (first : Block) (body : Next → Next) → slice_get f.blocks head ≡ Some first → suc q ≤ p + K
      → ((m : ℕ) (again : Next) → m ≤ n → NextSame K some g ps procs bytes p m f stack v (only (E.Jump head)) again → NextSame K some g ps procs bytes q m f stack v first (body again))
      → (m d : ℕ) → m ≤ n → m ≤ d → NextSame K some g ps procs bytes p m f stack v (only (E.Jump head)) (turns d body)
  loop_same p q n f stack v head first body h le s zero zero ln ld env env' w a = nothing_yet K some p (turns 0 body env w) (running K some g ps procs bytes f stack (only (E.Jump head)) env' w) refl
  loop_same p q n f stack v head first body h le s zero (suc d) ln ld env env' w a = nothing_yet K some p (turns (suc d) body env w) (running K some g ps procs bytes f stack (only (E.Jump head)) env' w) refl
  loop_same p q n f stack v head first body h le s (suc m) zero ln ld env env' w a = absurd (omega arith)
  loop_same p q n f stack v head first body h le s (suc m) (suc d) ln ld env env' w a =
      let rest = s m (turns d body) (omega arith) (loop_same p q n f stack v head first body h le s m d (omega arith) (omega arith)) env env' w a in
      tick K some p q (suc m) (seen w Running) (body (turns d body) env w) (running K some g ps procs bytes f stack (only (E.Jump head)) env' w) (running K some g ps procs bytes f stack first env' w) refl
      (λ j. ap (λ o. at_block o (exec ps g j) f env' w stack) h) le (λ i l. less K some q m i _ _ (omega arith) rest)

  -- the side that a value chooses
  chosen : (p q n val la lb : ℕ) (f : BlockProc) (stack : List Waiting) (ka kb : Block) (a b c : Behaviour) (env' : List ℕ) (w : World) → slice_get f.blocks la ≡ Some ka → slice_get f.blocks lb ≡ Some kb → suc p ≤ q → c 0 ≡ seen w Running
      → ((j : ℕ) → c (suc j) ≡ at_block (slice_get f.blocks (branch_to val la lb)) (exec ps g j) f env' w stack) → Same K p n a (running K some g ps procs bytes f stack ka env' w) → Same K p n b (running K some g ps procs bytes f stack kb env' w) → Same K q n (at_zero val b a) c
  chosen p q n zero la lb f stack ka kb a b c env' w ha hb le e0 e sa sb =
      later K some p q n b c (running K some g ps procs bytes f stack kb env' w) e0 (λ j. e j ∙ ap (λ o. at_block o (exec ps g j) f env' w stack) hb) le sb
  chosen p q n (suc val) la lb f stack ka kb a b c env' w ha hb le e0 e sa sb =
      later K some p q n a c (running K some g ps procs bytes f stack ka env' w) e0 (λ j. e j ∙ ap (λ o. at_block o (exec ps g j) f env' w stack) ha) le sa

  -- what a call's results go to
  receives : (p n v : ℕ) (f : BlockProc) (stack : List Waiting) (k : Block) (xs env env' : List ℕ) (next : Next) → list_all (λ x. nat_lt x v) xs ≡ true → Agrees v f.values env env' → NextSame K some g ps procs bytes p n f stack v k next
      → GivesSame K some g ps procs bytes (p + 1) n (record { proc = f; rest = k; env = env'; targets = xs } ∷ stack) (receiving xs env next)
  receives p n v f stack k xs env env' next ok a s rs w = go (received_same xs rs v f.values env env' ok a)
    where
      go : (received xs rs env ≡ None) ⊎ ((e : List ℕ) × (e' : List ℕ) × (received xs rs env ≡ Some e) × (received xs rs env' ≡ Some e') × Agrees v f.values e e')
          → Same K (p + 1) n (receiving xs env next rs w) (giving K some g ps procs bytes (record { proc = f; rest = k; env = env'; targets = xs } ∷ stack) rs w)
      go (inl z) = subst (λ o. Same K (p + 1) n (with_value o (over w Wrong) (λ env. next env w)) (giving K some g ps procs bytes (record { proc = f; rest = k; env = env'; targets = xs } ∷ stack) rs w)) (sym z) (wrong K some (p + 1) n (seen w Running) (seen w Wrong) _ refl refl)
      go (inr r) = subst (λ o. Same K (p + 1) n (with_value o (over w Wrong) (λ env. next env w)) (giving K some g ps procs bytes (record { proc = f; rest = k; env = env'; targets = xs } ∷ stack) rs w)) (sym r.2)
          (later K some p (p + 1) n _ _ (running K some g ps procs bytes f stack k r.1 w) refl (λ j. ap (λ o. if_value o (seen w Wrong) (λ env. exec ps g j (record { proc = f; rest = k; env = env; world = w; stack = stack }))) r.3) (omega arith) (s r.0 r.1 w r.4))

  -- a call, from its instruction
  call_same : (p n v c : ℕ) (f : BlockProc) (stack : List Waiting) (k : Block) (xs vals env env' : List ℕ) (w : World) (calls : Calls) (next : Next) (b : Behaviour) → list_all (λ x. nat_lt x v) xs ≡ true → Agrees v f.values env env' → CallsSame K some g ps procs bytes n calls → NextSame K some g ps procs bytes p n f stack v k next
      → b 0 ≡ seen w Running → ((j : ℕ) → b (suc j) ≡ enter (slice_get ps c) g (exec ps g j) vals w (record { proc = f; rest = k; env = env'; targets = xs } ∷ stack))
      → Same K (p + 1) n (calls c vals w (receiving xs env next)) b
  call_same p n v c f stack k xs vals env env' w calls next b ok a hc hn e0 e =
      alike K some (p + 1) n _ _ (calling K some g ps procs bytes c vals w (record { proc = f; rest = k; env = env'; targets = xs } ∷ stack)) same
      (hc n (p + 1) c vals w (record { proc = f; rest = k; env = env'; targets = xs } ∷ stack) (receiving xs env next) (omega arith) (receives p n v f stack k xs env env' next ok a hn))
    where
      same : (j : ℕ) → b j ≡ calling K some g ps procs bytes c vals w (record { proc = f; rest = k; env = env'; targets = xs } ∷ stack) j
      same zero = e0
      same (suc j) = e j

  pub return_same : (p n : ℕ) (f : BlockProc) (stack : List Waiting) (ys vals env' : List ℕ) (w : World) (back : Back) → held env' ys ≡ vals → BackSame K some g ps procs bytes p n f stack back → Same K p n (back vals w) (running K some g ps procs bytes f stack (only (E.Return ys)) env' w)
  return_same p n f stack ys vals env' w back e hb = alike K some p n _ _ (leaving K some g ps procs bytes f stack vals w) same (hb vals w)
    where
      same : (j : ℕ) → running K some g ps procs bytes f stack (only (E.Return ys)) env' w j ≡ leaving K some g ps procs bytes f stack vals w j
      same zero = refl
      same (suc j) = ap (λ rs. give_back stack rs (with_frames w (w.frames - f.frame)) (exec ps g j)) e

  inner_leaves : (p n v join loops : ℕ) (f : BlockProc) (stack : List Waiting) (exits : List ℕ) (next : Next) (leaves : Leaves) → NextSame K some g ps procs bytes (p + 1) n f stack v (only (E.Jump join)) next → LeavesSame K some g ps procs bytes p n f stack v exits loops leaves
      → (m : ℕ) → m ≤ n → LeavesSame K some g ps procs bytes (p + 1) m f stack v (join ∷ exits) (loops + 1) (inside next leaves)
  inner_leaves p n v join loops f stack exits next leaves hn hl m lm zero lj env env' w a = less K some (p + 1) n m _ _ lm (hn env env' w a)
  inner_leaves p n v join loops f stack exits next leaves hn hl m lm (suc j) lj env env' w a = less K some (p + 1) n m _ _ lm (dearer K some p (p + 1) n _ _ (omega arith) (hl j (omega arith) env env' w a))

  pub stmt_same : (s : Stmt) (f : BlockProc) (stack : List Waiting) (v at loops : ℕ) (exits : List ℕ) (k : Block) → HasAt f.blocks at (code s v at exits k).others → stmt_fits v procs bytes loops s ≡ true → v + spare_of s ≤ f.values → size_of s + 1 ≤ K
      → (p n d : ℕ) (calls : Calls) (back : Back) (leaves : Leaves) (next : Next) → n ≤ d → CallsSame K some g ps procs bytes n calls → BackSame K some g ps procs bytes p n f stack back → LeavesSame K some g ps procs bytes p n f stack v exits loops leaves → NextSame K some g ps procs bytes p n f stack v k next
      → NextSame K some g ps procs bytes (p + size_of s) n f stack v (code s v at exits k).first (meaning s g calls d back leaves next)
  unfolding code
  stmt_same Skip f stack v at loops exits k has ok room le p n d calls back leaves next ld hc hb hl hn env env' w a = dearer K some p (p + 1) n _ _ (omega arith) (hn env env' w a)
  stmt_same (Seq x y) f stack v at loops exits k has ok room le p n d calls back leaves next ld hc hb hl hn env env' w a =
      let cy = code y v (at + count x) exits k in
      let cx = code x v at exits cy.first in
      let okx = and_left (stmt_fits v procs bytes loops x) (stmt_fits v procs bytes loops y) ok in
      let oky = and_right (stmt_fits v procs bytes loops x) (stmt_fits v procs bytes loops y) ok in
      let p' = p + size_of y in
      let second = stmt_same y f stack v (at + count x) loops exits k (has_back f.blocks at (count x) cx.others cy.others (code_count x v at exits cy.first) has) oky (omega arith) (omega arith) p n d calls back leaves next ld hc hb hl hn in
      let all = stmt_same x f stack v at loops exits cy.first (has_front f.blocks at cx.others cy.others has) okx (omega arith) (omega arith) p' n d calls back leaves (meaning y g calls d back leaves next) ld hc
      (λ rs w. dearer K some p p' n _ _ (omega arith) (hb rs w)) (λ j lj env env' w a. dearer K some p p' n _ _ (omega arith) (hl j lj env env' w a)) second in
      dearer K some (p' + size_of x) (p + (size_of x + size_of y)) n _ _ (omega arith) (all env env' w a)
  stmt_same (Set x e) f stack v at loops exits k has ok room le p n d calls back leaves next ld hc hb hl hn env env' w a =
      let lt : x < v = below x v (and_left (nat_lt x v) (expr_fits v procs bytes e) ok) in
      let oke = and_right (nat_lt x v) (expr_fits v procs bytes e) ok in
      expr_same K some g ps procs bytes e x v v p n f stack k env env' w (λ val. next (slice_set env x val) w) oke (omega arith) room (omega (arith, a.fits)) a
      (λ val env'' c. hn (slice_set env x val) env'' w (agrees_set v f.values x val env env' env'' lt a c))
  stmt_same (Store s x y) f stack v at loops exits k has ok room le p n d calls back leaves next ld hc hb hl hn env env' w a =
      let okx = and_left (expr_fits v procs bytes x) (expr_fits v procs bytes y) ok in
      let oky = and_right (expr_fits v procs bytes x) (expr_fits v procs bytes y) ok in
      let px = place x v in
      let py = place y (v + 1) in
      let low : px ≤ v = place_low x v procs bytes v okx (omega arith) in
      let last = before (I.Store s px py) k in
      let then : ℕ → ℕ → Behaviour = λ i val. with_value (stored (size_of_width s) g.areas w.memory i val) (over w Wrong) (λ m. next env (with_memory w m)) in
      let all : Same K (p + 1 + size_of_expr y + size_of_expr x) n (meaning (Store s x y) g calls d back leaves next env w) (running K some g ps procs bytes f stack (operand x v (operand y (v + 1) last)) env' w) =
      operand_same K some g ps procs bytes x v v (p + 1 + size_of_expr y) n f stack (operand y (v + 1) last) env env' w (λ i. eval y g env w (then i)) okx (omega arith) (omega arith) a
      (λ i env1 c1 a1. operand_same K some g ps procs bytes y (v + 1) v (p + 1) n f stack last env env1 w (then i) oky (omega arith) (omega arith) a1
      (λ val env2 c2 a2. valued K some (p + 1) n (seen w Running) (seen w Wrong) (stored (size_of_width s) g.areas w.memory i val) (λ m. next env (with_memory w m)) _ refl refl
      (λ m em. later K some p (p + 1) n _ _ (running K some g ps procs bytes f stack k env2 (with_memory w m)) refl
      (λ j. ap (λ o. if_value o (seen w Wrong) (λ m. exec ps g j (record { proc = f; rest = k; env = env2; world = with_memory w m; stack = stack })))
      (ap (λ i. stored (size_of_width s) g.areas w.memory i (slice_index env2 py)) (c2.keeps px (omega arith) ∙ c1.has) ∙ (ap (λ u. stored (size_of_width s) g.areas w.memory i u) c2.has ∙ em)))
      (omega arith) (hn env env2 (with_memory w m) a2)))) in
      dearer K some (p + 1 + size_of_expr y + size_of_expr x) (p + (1 + size_of_expr x + size_of_expr y)) n _ _ (omega arith) all
  stmt_same (Call xs c es) f stack v at loops exits k has ok room le p n d calls back leaves next ld hc hb hl hn env env' w a =
      let okr = and_left (results_fit v xs) (nat_lt c procs && exprs_fit v procs bytes es) ok in
      let okxs = and_right (nat_le (length xs) 2) (list_all (λ x. nat_lt x v) xs) okr in
      let okes = and_right (nat_lt c procs) (exprs_fit v procs bytes es) (and_right (results_fit v xs) (nat_lt c procs && exprs_fit v procs bytes es) ok) in
      let last = before (I.Call xs c (places_of es v)) k in
      let all : Same K (p + 1 + size_of_exprs es) n (meaning (Call xs c es) g calls d back leaves next env w) (running K some g ps procs bytes f stack (operands es v last) env' w) =
      operands_same K some g ps procs bytes es v v (p + 1) n f stack last env env' w (λ vals. calls c vals w (receiving xs env next)) okes (omega arith) room a
      (λ vals env1 c1 a1. call_same p n v c f stack k xs vals env env1 w calls next _ okxs a1 hc hn refl
      (λ j. ap (λ l. enter (slice_get ps c) g (exec ps g j) l w (record { proc = f; rest = k; env = env1; targets = xs } ∷ stack)) c1.has)) in
      dearer K some (p + 1 + size_of_exprs es) (p + (1 + size_of_exprs es)) n _ _ (omega arith) all
  stmt_same (CallAt xs x es) f stack v at loops exits k has ok room le p n d calls back leaves next ld hc hb hl hn env env' w a =
      let okr = and_left (results_fit v xs) (expr_fits v procs bytes x && exprs_fit v procs bytes es) ok in
      let okxs = and_right (nat_le (length xs) 2) (list_all (λ x. nat_lt x v) xs) okr in
      let oks = and_right (results_fit v xs) (expr_fits v procs bytes x && exprs_fit v procs bytes es) ok in
      let okx = and_left (expr_fits v procs bytes x) (exprs_fit v procs bytes es) oks in
      let okes = and_right (expr_fits v procs bytes x) (exprs_fit v procs bytes es) oks in
      let px = place x v in
      let low : px ≤ v = place_low x v procs bytes v okx (omega arith) in
      let last = before (I.CallAt xs px (places_of es (v + 1))) k in
      let then : ℕ → List ℕ → Behaviour = λ i vals. with_value (proc_at g.procs g.count i) (over w Wrong) (λ c. calls c vals w (receiving xs env next)) in
      let all : Same K (p + 1 + size_of_exprs es + size_of_expr x) n (meaning (CallAt xs x es) g calls d back leaves next env w) (running K some g ps procs bytes f stack (operand x v (operands es (v + 1) last)) env' w) =
      operand_same K some g ps procs bytes x v v (p + 1 + size_of_exprs es) n f stack (operands es (v + 1) last) env env' w (λ i. evals es g env w (then i)) okx (omega arith) (omega arith) a
      (λ i env1 c1 a1. operands_same K some g ps procs bytes es (v + 1) v (p + 1) n f stack last env env1 w (then i) okes (omega arith) (omega arith) a1
      (λ vals env2 c2 a2. valued K some (p + 1) n (seen w Running) (seen w Wrong) (proc_at g.procs g.count i) (λ c. calls c vals w (receiving xs env next)) _ refl refl
      (λ c ec. call_same p n v c f stack k xs vals env env2 w calls next _ okxs a2 hc hn refl
      (λ j. ap (λ o. if_value o (seen w Wrong) (λ c. enter (slice_get ps c) g (exec ps g j) (held env2 (places_of es (v + 1))) w (record { proc = f; rest = k; env = env2; targets = xs } ∷ stack)))
      (ap (λ i. proc_at g.procs g.count i) (c2.keeps px (omega arith) ∙ c1.has) ∙ ec)
      ∙ ap (λ l. enter (slice_get ps c) g (exec ps g j) l w (record { proc = f; rest = k; env = env2; targets = xs } ∷ stack)) c2.has)))) in
      dearer K some (p + 1 + size_of_exprs es + size_of_expr x) (p + (1 + size_of_expr x + size_of_exprs es)) n _ _ (omega arith) all
  stmt_same (If e x y) f stack v at loops exits k has ok room le p n d calls back leaves next ld hc hb hl hn env env' w a =
      let oke = and_left (expr_fits v procs bytes e) (stmt_fits v procs bytes loops x && stmt_fits v procs bytes loops y) ok in
      let oks = and_right (expr_fits v procs bytes e) (stmt_fits v procs bytes loops x && stmt_fits v procs bytes loops y) ok in
      let okx = and_left (stmt_fits v procs bytes loops x) (stmt_fits v procs bytes loops y) oks in
      let oky = and_right (stmt_fits v procs bytes loops x) (stmt_fits v procs bytes loops y) oks in
      let second = at + 1 + count x in
      let join = at + 1 + count x + 1 + count y in
      let to_join = only (E.Jump join) in
      let cx = code x v (at + 1) exits to_join in
      let cy = code y v (at + 1 + count x + 1) exits to_join in
      let p1 = p + 1 in
      let at_y = has_back f.blocks (at + 1) (count x) cx.others ((cy.first ∷ cy.others) ++ k ∷ []) (code_count x v (at + 1) exits to_join) has.1 in
      let at_k = has_back f.blocks (at + 1 + count x + 1) (count y) cy.others (k ∷ []) (code_count y v (at + 1 + count x + 1) exits to_join) at_y.1 in
      let hn' = jump p n f stack v join k next at_k.0 hn in
      let hb' : BackSame K some g ps procs bytes p1 n f stack back = λ rs w. dearer K some p p1 n _ _ (omega arith) (hb rs w) in
      let hl' : LeavesSame K some g ps procs bytes p1 n f stack v exits loops leaves = λ j lj env env' w a. dearer K some p p1 n _ _ (omega arith) (hl j lj env env' w a) in
      let sx = stmt_same x f stack v (at + 1) loops exits to_join (has_front f.blocks (at + 1) cx.others ((cy.first ∷ cy.others) ++ k ∷ []) has.1) okx (omega arith) (omega arith) p1 n d calls back leaves next ld hc hb' hl' hn' in
      let sy = stmt_same y f stack v (at + 1 + count x + 1) loops exits to_join (has_front f.blocks (at + 1 + count x + 1) cy.others (k ∷ []) at_y.1) oky (omega arith) (omega arith) p1 n d calls back leaves next ld hc hb' hl' hn' in
      let p2 = p1 + size_of x + size_of y in
      let q = p + 2 + size_of x + size_of y in
      let mx : List ℕ → Behaviour = λ env. meaning x g calls d back leaves next env w in
      let my : List ℕ → Behaviour = λ env. meaning y g calls d back leaves next env w in
      let all : Same K (q + size_of_expr e) n (meaning (If e x y) g calls d back leaves next env w) (running K some g ps procs bytes f stack (operand e v (only (E.Branch (place e v) at second))) env' w) =
      operand_same K some g ps procs bytes e v v q n f stack (only (E.Branch (place e v) at second)) env env' w (λ val. at_zero val (my env) (mx env)) oke (omega arith) (omega arith) a
      (λ val env1 c1 a1. chosen p2 q n val at second f stack cx.first cy.first (mx env) (my env) _ env1 w has.0 at_y.0 (omega arith) refl
      (λ j. ap (λ i. at_block (slice_get f.blocks (branch_to i at second)) (exec ps g j) f env1 w stack) c1.has)
      (dearer K some (p1 + size_of x) p2 n _ _ (omega arith) (sx env env1 w a1))
      (dearer K some (p1 + size_of y) p2 n _ _ (omega arith) (sy env env1 w a1))) in
      dearer K some (q + size_of_expr e) (p + (2 + size_of_expr e + size_of x + size_of y)) n _ _ (omega arith) all
  stmt_same (Loop s) f stack v at loops exits k has ok room le p n d calls back leaves next ld hc hb hl hn env env' w a =
      let join = at + 1 + count s in
      let to_head = only (E.Jump at) in
      let cs = code s v (at + 1) (join ∷ exits) to_head in
      let p1 = p + 1 in
      let at_k = has_back f.blocks (at + 1) (count s) cs.others (k ∷ []) (code_count s v (at + 1) (join ∷ exits) to_head) has.1 in
      let hn' = jump p n f stack v join k next at_k.0 hn in
      let inner : (m : ℕ) → m ≤ n → LeavesSame K some g ps procs bytes p1 m f stack v (join ∷ exits) (loops + 1) (inside next leaves) = inner_leaves p n v join loops f stack exits next leaves hn' hl in
      let turn : (m : ℕ) (again : Next) → m ≤ n → NextSame K some g ps procs bytes p1 m f stack v to_head again → NextSame K some g ps procs bytes (p1 + size_of s) m f stack v cs.first (meaning s g calls d back (inside next leaves) again) =
      λ m again lm ha. stmt_same s f stack v (at + 1) (loops + 1) (join ∷ exits) to_head (has_front f.blocks (at + 1) cs.others (k ∷ []) has.1) ok room (omega arith) p1 m d calls back (inside next leaves) again (omega arith)
      (λ i p c args w stack back li hb. hc i p c args w stack back (omega arith) hb) (λ rs w. less K some p1 n m _ _ lm (dearer K some p p1 n _ _ (omega arith) (hb rs w))) (inner m lm) ha in
      let body = meaning s g calls d back (inside next leaves) in
      let again = loop_same p1 (p1 + size_of s) n f stack v at cs.first body has.0 (omega arith) turn n d (omega arith) ld in
      let all = jump (p1 + size_of s) n f stack v at cs.first (body (turns d body)) has.0 (turn n (turns d body) (omega arith) again) in
      dearer K some (p1 + size_of s + 1) (p + (3 + size_of s)) n _ _ (omega arith) (all env env' w a)
  stmt_same (Break j) f stack v at loops exits k has ok room le p n d calls back leaves next ld hc hb hl hn env env' w a =
      dearer K some p (p + 1) n _ _ (omega arith) (hl j (below j loops ok) env env' w a)
  stmt_same (Return es) f stack v at loops exits k has ok room le p n d calls back leaves next ld hc hb hl hn env env' w a =
      let okes = and_right (nat_le (length es) 2) (exprs_fit v procs bytes es) ok in
      let all : Same K (p + size_of_exprs es) n (meaning (Return es) g calls d back leaves next env w) (running K some g ps procs bytes f stack (operands es v (only (E.Return (places_of es v)))) env' w) =
      operands_same K some g ps procs bytes es v v p n f stack (only (E.Return (places_of es v))) env env' w (λ vals. back vals w) okes (omega arith) room a
      (λ vals env1 c1 a1. return_same p n f stack (places_of es v) vals env1 w back c1.has hb) in
      dearer K some (p + size_of_exprs es) (p + (1 + size_of_exprs es)) n _ _ (omega arith) all
  stmt_same (Take x) f stack v at loops exits k has ok room le p n d calls back leaves next ld hc hb hl hn env env' w a =
      let b = first_byte w.unread in
      let w' = took w.unread w in
      let s = hn (slice_set env x b) (slice_set env' x b) w' (agrees_both v f.values x b env env' (below x v ok) a) in
      tick K some (p + 1) p n (seen w Running) (next (slice_set env x b) w') _ (running K some g ps procs bytes f stack k (slice_set env' x b) w') refl (λ j. refl) (omega arith) (λ m lm. less K some p n m _ _ (omega arith) s)
  stmt_same (Give e) f stack v at loops exits k has ok room le p n d calls back leaves next ld hc hb hl hn env env' w a =
      let last = before (I.Give (place e v)) k in
      let all : Same K (p + 1 + size_of_expr e) n (meaning (Give e) g calls d back leaves next env w) (running K some g ps procs bytes f stack (operand e v last) env' w) =
      operand_same K some g ps procs bytes e v v (p + 1) n f stack last env env' w (λ val. on w (next env (gave w (val % 256)))) ok (omega arith) (omega arith) a
      (λ val env1 c1 a1. tick K some (p + 1) p n (seen w Running) (next env (gave w (val % 256))) _ (running K some g ps procs bytes f stack k env1 (gave w (val % 256))) refl
      (λ j. ap (λ i. exec ps g j (record { proc = f; rest = k; env = env1; world = gave w (i % 256); stack = stack })) c1.has) (omega arith)
      (λ m lm. less K some p n m _ _ (omega arith) (hn env env1 (gave w (val % 256)) a1))) in
      dearer K some (p + 1 + size_of_expr e) (p + (1 + size_of_expr e)) n _ _ (omega arith) all
  stmt_same (Stop e) f stack v at loops exits k has ok room le p n d calls back leaves next ld hc hb hl hn env env' w a =
      let last = only (E.Stop (place e v)) in
      let all : Same K (p + size_of_expr e) n (meaning (Stop e) g calls d back leaves next env w) (running K some g ps procs bytes f stack (operand e v last) env' w) =
      operand_same K some g ps procs bytes e v v p n f stack last env env' w (λ val. over w (stop_code val)) ok (omega arith) (omega arith) a
      (λ val env1 c1 a1. ends K some p n (seen w Running) (seen w (stop_code val)) _ refl (λ j. ap (λ i. seen w (stop_code i)) c1.has)) in
      dearer K some (p + size_of_expr e) (p + (1 + size_of_expr e)) n _ _ (omega arith) all
  stmt_same (Limit l) f stack v at loops exits k has ok room le p n d calls back leaves next ld hc hb hl hn env env' w a =
      ends K some (p + 1) n (seen w Running) (seen w (Limited (limit_of l))) _ refl (λ j. refl)
