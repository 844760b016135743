-- The blocks of a statement show what the statement shows.
use Rattle.std.proofs.Common.{◌≡◌, ℕ, zero, suc, ◌+◌, ◌-◌, ◌<◌, ◌≤◌, List, [], ◌∷◌, ◌++◌, length, Some, true, refl, ap, ◌∙◌, subst, arith, length-append}
use Rattle.std.specs.Prelude.{slice_get, slice_set, slice_index}
use Rattle.behaviour.specs.Behaviour.{Running, Wrong, Behaviour}
use Rattle.work.specs.Units.{with_value}
use Rattle.work.specs.Same.{Same}
use Rattle.work.proofs.Same.{dearer, later, valued}
use Rattle.jf_base.specs.Numbers.{size_of_width}
use Rattle.flat_ir.specs.Bytes.{loaded}
use Rattle.flat_ir.specs.Operations.{result_of, extended}
use Rattle.flat_ir.specs.Placement.{Places}
use Rattle.flat_ir.specs.Tree.{Expr, Num, Val, Bin, Load, ProcAt, ImageAt, Stmt, Skip, Seq, Set, Store, Call, CallAt, If, Loop, Break, Return, Take, Give, Stop, Limit}
use Rattle.flat_ir.specs.Checked.{expr_fits, exprs_fit}
use Rattle.flat_ir.specs.Flat.{World, seen, with_frames, Next, Back, Calls, Leaves, over, eval, evals}
use Rattle.flatten.specs.declared.blocks.BlockInsn.TheVariants as I
use Rattle.flatten.specs.declared.blocks.BlockEnd.TheVariants as E
use Rattle.flatten.specs.declared.blocks.Block.{Block}
use Rattle.flatten.specs.declared.blocks.BlockProc.{BlockProc}
use Rattle.flatten.specs.Blocks.{Waiting, held, if_value, enter, give_back, exec}
use Rattle.flatten.specs.Code.{only, before, place, expr_code, operand, operands, places_of, count, behind, code, spare, spares}
use Rattle.flatten.specs.Sizes.{size_of_expr, size_of_exprs}
use Rattle.flatten.proofs.Values.{and_left, and_right, below, Agrees, Computed, Put, Listed, put_done, put_after, of_put, agrees_on, place_low}

-- the blocks stand from this number on
abbrev pub HasAt : List Block → ℕ → List Block → Type 0
HasAt bs n [] = Unit {0}
HasAt bs n (k ∷ ks) = (slice_get bs n ≡ Some k) × HasAt bs (n + 1) ks

pub has_front : (bs : List Block) (n : ℕ) (a b : List Block) → HasAt bs n (a ++ b) → HasAt bs n a
has_front bs n [] b h = tt
has_front bs n (k ∷ a) b h = (h.0, has_front bs (n + 1) a b h.1)

pub has_back : (bs : List Block) (n m : ℕ) (a b : List Block) → length a ≡ m → HasAt bs n (a ++ b) → HasAt bs (n + m) b
has_back bs n m [] b l h = let e : n ≡ n + m = omega (arith, l) in subst (λ m. HasAt bs m b) e h
has_back bs n zero (k ∷ a) b l h = absurd (omega arith)
has_back bs n (suc m) (k ∷ a) b l h =
    let e : n + 1 + m ≡ n + suc m = omega arith in
    subst (λ m. HasAt bs m b) e (has_back bs (n + 1) m a b (omega (arith, l)) h.1)

-- a statement has as many other blocks as are counted
pub code_count : (s : Stmt) (t at : ℕ) (exits : List ℕ) (k : Block) → length (code s t at exits k).others ≡ count s
unfolding code
code_count Skip t at exits k = refl
code_count (Seq a b) t at exits k =
    let kb = code b t (at + count a) exits k in
    let ea = code_count a t at exits kb.first in
    let eb = code_count b t (at + count a) exits k in
    omega (arith, length-append (code a t at exits kb.first).others kb.others, ea, eb)
code_count (Set x e) t at exits k = refl
code_count (Store w a e) t at exits k = refl
code_count (Call xs p es) t at exits k = refl
code_count (CallAt xs a es) t at exits k = refl
code_count (If e a b) t at exits k =
    let join = at + 1 + count a + 1 + count b in
    let ca = code a t (at + 1) exits (only (E.Jump join)) in
    let cb = code b t (at + 1 + count a + 1) exits (only (E.Jump join)) in
    let ea = code_count a t (at + 1) exits (only (E.Jump join)) in
    let eb = code_count b t (at + 1 + count a + 1) exits (only (E.Jump join)) in
    omega (arith, length-append (ca.first ∷ ca.others) ((cb.first ∷ cb.others) ++ k ∷ []), length-append (cb.first ∷ cb.others) (k ∷ []), ea, eb)
code_count (Loop s) t at exits k =
    let cs = code s t (at + 1) ((at + 1 + count s) ∷ exits) (only (E.Jump at)) in
    let es = code_count s t (at + 1) ((at + 1 + count s) ∷ exits) (only (E.Jump at)) in
    omega (arith, length-append (cs.first ∷ cs.others) (k ∷ []), es)
code_count (Break j) t at exits k = refl
code_count (Return es) t at exits k = refl
code_count (Take x) t at exits k = refl
code_count (Give e) t at exits k = refl
code_count (Stop e) t at exits k = refl
code_count (Limit l) t at exits k = refl

module _ (K : ℕ) (some : 1 ≤ K) (g : Places) (ps : List BlockProc) (procs bytes : ℕ) where
  -- the run from a place, from a return, and from a call
  abbrev pub running : BlockProc → List Waiting → Block → List ℕ → World → Behaviour
  running f stack k env w = λ j. exec ps g j (record { proc = f; rest = k; env = env; world = w; stack = stack })

  abbrev pub leaving : BlockProc → List Waiting → List ℕ → World → Behaviour
  leaving f stack rs w zero = seen w Running
  leaving f stack rs w (suc j) = give_back stack rs (with_frames w (w.frames - f.frame)) (exec ps g j)

  abbrev pub giving : List Waiting → List ℕ → World → Behaviour
  giving stack rs w zero = seen w Running
  giving stack rs w (suc j) = give_back stack rs w (exec ps g j)

  abbrev pub calling : ℕ → List ℕ → World → List Waiting → Behaviour
  calling p args w stack zero = seen w Running
  calling p args w stack (suc j) = enter (slice_get ps p) g (exec ps g j) args w stack

  -- what follows does what the code does
  abbrev pub NextSame : ℕ → ℕ → BlockProc → List Waiting → ℕ → Block → Next → Type 0
  NextSame p n f stack v k next = (env env' : List ℕ) (w : World) → Agrees v f.values env env' → Same K p n (next env w) (running f stack k env' w)

  abbrev pub LeavesSame : ℕ → ℕ → BlockProc → List Waiting → ℕ → List ℕ → ℕ → Leaves → Type 0
  LeavesSame p n f stack v exits loops leaves = (j : ℕ) → j < loops → NextSame p n f stack v (only (E.Jump (behind exits j))) (leaves j)

  abbrev pub BackSame : ℕ → ℕ → BlockProc → List Waiting → Back → Type 0
  BackSame p n f stack back = (rs : List ℕ) (w : World) → Same K p n (back rs w) (leaving f stack rs w)

  abbrev pub GivesSame : ℕ → ℕ → List Waiting → Back → Type 0
  GivesSame p n stack back = (rs : List ℕ) (w : World) → Same K p n (back rs w) (giving stack rs w)

  abbrev pub CallsSame : ℕ → Calls → Type 0
  CallsSame n calls = (m p c : ℕ) (args : List ℕ) (w : World) (stack : List Waiting) (back : Back) → m ≤ n → GivesSame p m stack back → Same K p m (calls c args w back) (calling c args w stack)

  -- an operand, from the code of its expression
  from_code : (e : Expr) (t v p n : ℕ) (f : BlockProc) (stack : List Waiting) (k : Block) (env env' : List ℕ) (w : World) (kont : ℕ → Behaviour) → expr_fits v procs bytes e ≡ true → Agrees v f.values env env'
      → (((val : ℕ) (env'' : List ℕ) → Put f.values t t val env' env'' → Same K p n (kont val) (running f stack k env'' w)) → Same K (p + size_of_expr e) n (eval e g env w kont) (running f stack (expr_code e t t k) env' w))
      → ((val : ℕ) (env'' : List ℕ) → Computed f.values t (place e t) val env' env'' → Same K p n (kont val) (running f stack k env'' w))
      → Same K (p + size_of_expr e) n (eval e g env w kont) (running f stack (operand e t k) env' w)
  from_code (Val x) t v p n f stack k env env' w kont ok a by h =
      dearer K some p (p + 1) n _ _ (omega arith) (h (slice_index env x) env' (record { wide = a.wide; has = a.same x (below x v ok); keeps = λ y l. refl }))
  from_code (Num m) t v p n f stack k env env' w kont ok a by h = by (λ val env'' c. h val env'' (of_put f.values t val env' env'' c))
  from_code (Bin o x y) t v p n f stack k env env' w kont ok a by h = by (λ val env'' c. h val env'' (of_put f.values t val env' env'' c))
  from_code (Load s i x) t v p n f stack k env env' w kont ok a by h = by (λ val env'' c. h val env'' (of_put f.values t val env' env'' c))
  from_code (ProcAt m) t v p n f stack k env env' w kont ok a by h = by (λ val env'' c. h val env'' (of_put f.values t val env' env'' c))
  from_code (ImageAt m) t v p n f stack k env env' w kont ok a by h = by (λ val env'' c. h val env'' (of_put f.values t val env' env'' c))

  pub expr_same : (e : Expr) (x t v p n : ℕ) (f : BlockProc) (stack : List Waiting) (k : Block) (env env' : List ℕ) (w : World) (kont : ℕ → Behaviour) → expr_fits v procs bytes e ≡ true → v ≤ t → t + spare e ≤ f.values → x < f.values → Agrees v f.values env env'
      → ((val : ℕ) (env'' : List ℕ) → Put f.values t x val env' env'' → Same K p n (kont val) (running f stack k env'' w))
      → Same K (p + size_of_expr e) n (eval e g env w kont) (running f stack (expr_code e x t k) env' w)
  expr_same (Num m) x t v p n f stack k env env' w kont ok le room lt a h =
      later K some p (p + 1) n _ _ _ refl (λ j. refl) (omega arith) (h m (slice_set env' x m) (put_done f.values t x m m env' a.wide lt refl))
  expr_same (Val y) x t v p n f stack k env env' w kont ok le room lt a h =
      later K some p (p + 1) n _ _ _ refl (λ j. refl) (omega arith) (h (slice_index env y) (slice_set env' x (slice_index env' y)) (put_done f.values t x (slice_index env' y) (slice_index env y) env' a.wide lt (a.same y (below y v ok))))
  expr_same (Bin o b c) x t v p n f stack k env env' w kont ok le room lt a h =
      let okb = and_left (expr_fits v procs bytes b) (expr_fits v procs bytes c) ok in
      let okc = and_right (expr_fits v procs bytes b) (expr_fits v procs bytes c) ok in
      let pb = place b t in
      let pc = place c (t + 1) in
      let low : pb ≤ t = place_low b v procs bytes t okb le in
      let last = before (I.Binary o x pb pc) k in
      let all : Same K (p + 1 + size_of_expr c + size_of_expr b) n (eval (Bin o b c) g env w kont) (running f stack (expr_code (Bin o b c) x t k) env' w) =
      from_code b t v (p + 1 + size_of_expr c) n f stack (operand c (t + 1) last) env env' w (λ vb. eval c g env w (λ vc. kont (result_of o vb vc))) okb a
      (λ r. expr_same b t t v (p + 1 + size_of_expr c) n f stack (operand c (t + 1) last) env env' w (λ vb. eval c g env w (λ vc. kont (result_of o vb vc))) okb le (omega arith) (omega arith) a r)
      (λ vb env1 c1. (let a1 = agrees_on v f.values t env env' env1 le a c1.wide c1.keeps in
      from_code c (t + 1) v (p + 1) n f stack last env env1 w (λ vc. kont (result_of o vb vc)) okc a1
      (λ r. expr_same c (t + 1) (t + 1) v (p + 1) n f stack last env env1 w (λ vc. kont (result_of o vb vc)) okc (omega arith) (omega arith) (omega arith) a1 r)
      (λ vc env2 c2. (let e : result_of o (slice_index env2 pb) (slice_index env2 pc) ≡ result_of o vb vc = ap (λ i. result_of o i (slice_index env2 pc)) (c2.keeps pb (omega arith) ∙ c1.has) ∙ ap (λ i. result_of o vb i) c2.has in
      later K some p (p + 1) n _ _ _ refl (λ j. refl) (omega arith)
      (h (result_of o vb vc) (slice_set env2 x (result_of o (slice_index env2 pb) (slice_index env2 pc)))
      (put_after f.values t t x (result_of o (slice_index env2 pb) (slice_index env2 pc)) (result_of o vb vc) env' env2 c2.wide lt e (omega arith) (λ y ly. c2.keeps y (omega arith) ∙ c1.keeps y ly))))))) in
      dearer K some (p + 1 + size_of_expr c + size_of_expr b) (p + (1 + size_of_expr b + size_of_expr c)) n _ _ (omega arith) all
  expr_same (Load s i b) x t v p n f stack k env env' w kont ok le room lt a h =
      let pb = place b t in
      let last = before (I.Load x s i pb) k in
      let then : ℕ → Behaviour = λ at. with_value (loaded (size_of_width s) g.areas w.memory at) (over w Wrong) (λ u. kont (extended s i u)) in
      let all : Same K (p + 1 + size_of_expr b) n (eval (Load s i b) g env w kont) (running f stack (expr_code (Load s i b) x t k) env' w) =
      from_code b t v (p + 1) n f stack last env env' w then ok a
      (λ r. expr_same b t t v (p + 1) n f stack last env env' w then ok le (omega arith) (omega arith) a r)
      (λ vb env1 c1. valued K some (p + 1) n (seen w Running) (seen w Wrong) (loaded (size_of_width s) g.areas w.memory vb) (λ u. kont (extended s i u)) _ refl refl
      (λ u eu. later K some p (p + 1) n _ _ (running f stack k (slice_set env1 x (extended s i u)) w) refl
      (λ j. ap (λ o. if_value o (seen w Wrong) (λ u. exec ps g j (record { proc = f; rest = k; env = slice_set env1 x (extended s i u); world = w; stack = stack })))
      (ap (λ at. loaded (size_of_width s) g.areas w.memory at) c1.has ∙ eu))
      (omega arith)
      (h (extended s i u) (slice_set env1 x (extended s i u)) (put_after f.values t t x (extended s i u) (extended s i u) env' env1 c1.wide lt refl (omega arith) c1.keeps)))) in
      dearer K some (p + 1 + size_of_expr b) (p + (1 + size_of_expr b)) n _ _ (omega arith) all
  expr_same (ProcAt m) x t v p n f stack k env env' w kont ok le room lt a h =
      later K some p (p + 1) n _ _ _ refl (λ j. refl) (omega arith) (h (g.procs m) (slice_set env' x (g.procs m)) (put_done f.values t x (g.procs m) (g.procs m) env' a.wide lt refl))
  expr_same (ImageAt m) x t v p n f stack k env env' w kont ok le room lt a h =
      later K some p (p + 1) n _ _ _ refl (λ j. refl) (omega arith) (h (g.image + m) (slice_set env' x (g.image + m)) (put_done f.values t x (g.image + m) (g.image + m) env' a.wide lt refl))

  pub operand_same : (e : Expr) (t v p n : ℕ) (f : BlockProc) (stack : List Waiting) (k : Block) (env env' : List ℕ) (w : World) (kont : ℕ → Behaviour) → expr_fits v procs bytes e ≡ true → v ≤ t → t + 1 + spare e ≤ f.values → Agrees v f.values env env'
      → ((val : ℕ) (env'' : List ℕ) → Computed f.values t (place e t) val env' env'' → Agrees v f.values env env'' → Same K p n (kont val) (running f stack k env'' w))
      → Same K (p + size_of_expr e) n (eval e g env w kont) (running f stack (operand e t k) env' w)
  operand_same e t v p n f stack k env env' w kont ok le room a h =
      from_code e t v p n f stack k env env' w kont ok a (λ r. expr_same e t t v p n f stack k env env' w kont ok le (omega arith) (omega arith) a r)
      (λ val env'' c. h val env'' c (agrees_on v f.values t env env' env'' le a c.wide c.keeps))

  pub operands_same : (es : List Expr) (t v p n : ℕ) (f : BlockProc) (stack : List Waiting) (k : Block) (env env' : List ℕ) (w : World) (kont : List ℕ → Behaviour) → exprs_fit v procs bytes es ≡ true → v ≤ t → t + spares es ≤ f.values → Agrees v f.values env env'
      → ((vals : List ℕ) (env'' : List ℕ) → Listed f.values t (places_of es t) vals env' env'' → Agrees v f.values env env'' → Same K p n (kont vals) (running f stack k env'' w))
      → Same K (p + size_of_exprs es) n (evals es g env w kont) (running f stack (operands es t k) env' w)
  operands_same [] t v p n f stack k env env' w kont ok le room a h = dearer K some p (p + 0) n _ _ (omega arith) (h [] env' (record { wide = a.wide; has = refl; keeps = λ y l. refl }) a)
  operands_same (e ∷ es) t v p n f stack k env env' w kont ok le room a h =
      let oke = and_left (expr_fits v procs bytes e) (exprs_fit v procs bytes es) ok in
      let okes = and_right (expr_fits v procs bytes e) (exprs_fit v procs bytes es) ok in
      let low : place e t ≤ t = place_low e v procs bytes t oke le in
      let all : Same K (p + size_of_exprs es + size_of_expr e) n (evals (e ∷ es) g env w kont) (running f stack (operands (e ∷ es) t k) env' w) =
      operand_same e t v (p + size_of_exprs es) n f stack (operands es (t + 1) k) env env' w (λ val. evals es g env w (λ vals. kont (val ∷ vals))) oke le (omega arith) a
      (λ val env1 c1 a1. operands_same es (t + 1) v p n f stack k env env1 w (λ vals. kont (val ∷ vals)) okes (omega arith) (omega arith) a1
      (λ vals env2 c2 a2. h (val ∷ vals) env2 (record { wide = c2.wide; has = ap (λ i. i ∷ held env2 (places_of es (t + 1))) (c2.keeps (place e t) (omega arith) ∙ c1.has) ∙ ap (λ l. val ∷ l) c2.has; keeps = λ y ly. c2.keeps y (omega arith) ∙ c1.keeps y ly }) a2)) in
      dearer K some (p + size_of_exprs es + size_of_expr e) (p + (size_of_expr e + size_of_exprs es)) n _ _ (omega arith) all
