-- Each use of a value has a definition before it on every path.
use Rattle.std.proofs.Common.{◌≡◌, ℕ, zero, suc, ◌+◌, ◌<◌, ◌≤◌, List, [], ◌∷◌, ◌++◌, length, map, Some, Bool, true, false, refl, sym, ap, ◌∙◌, subst, arith, inl, inr}
use Rattle.std.specs.Prelude.{◌⊎◌, ◌&&◌, ◌||◌, not, nat_eq, nat_lt, nat_le, slice_get, slice_index_or, Contains, Any}
use Rattle.std.specs.List.{list_all}
use Rattle.std.proofs.lemmas.Bool.Decides.{nat_tests}
use Rattle.std.proofs.lemmas.List.{length-append}
use Rattle.flat_ir.specs.declared.program.FlatProc.{FlatProc}
use Rattle.flat_ir.specs.declared.program.FlatProgram.{FlatProgram}
use Rattle.flat_ir.specs.Tree.{Expr, Num, Val, Bin, Load, ProcAt, ImageAt, Stmt, Skip, Seq, Set, Store, Call, CallAt, If, Loop, Break, Return, Take, Give, Stop, Limit, Procedure}
use Rattle.flat_ir.specs.View.{proc_of, procs_of}
use Rattle.flat_ir.specs.Checked.{uses, any_uses, any_is, asked_behind, asks, each_below, is_set_first, expr_fits, exprs_fit, results_fit, stmt_fits, proc_fits, fix_fits, all_apart, entry_fits, is_ok}
use Rattle.flatten.specs.declared.blocks.BlockInsn.{BlockInsn}
use Rattle.flatten.specs.declared.blocks.BlockEnd.TheVariants as E
use Rattle.flatten.specs.declared.blocks.Block.{Block}
use Rattle.flatten.specs.declared.blocks.BlockProc.{BlockProc}
use Rattle.flatten.specs.Code.{only, place, places_of, count, behind, code, proc_code}
use Rattle.flatten.specs.Paths.{uses_of, end_uses, Path, Start, On, SetIn, IsSet, UsesAreSet, AllUsesAreSet}
use Rattle.flatten.proofs.Values.{and_left, and_right, below}
use Rattle.flatten.proofs.Sim.{code_count}
use Rattle.flatten.proofs.Clear.{in_cases, in_none, any_head, any_tail, or_left, or_right, unequal, kept, not_in, InsnsClear, Clear, expr_clear, operand_clear, operands_clear, walked, walked_to}

-- whether the paths from each of a statement's other blocks use a value before they set it
abbrev pub needs : ℕ → Stmt → Bool → List Bool → List Bool
needs x Skip after exits = []
needs x (Seq a b) after exits = needs x a (asks x b after exits) exits ++ needs x b after exits
needs x (Set y e) after exits = []
needs x (Store w a e) after exits = []
needs x (Call ys p es) after exits = []
needs x (CallAt ys a es) after exits = []
needs x (If e a b) after exits = (asks x a after exits ∷ needs x a after exits) ++ ((asks x b after exits ∷ needs x b after exits) ++ after ∷ [])
needs x (Loop s) after exits = (asks x s false (after ∷ exits) ∷ needs x s (asks x s false (after ∷ exits)) (after ∷ exits)) ++ after ∷ []
needs x (Break k) after exits = []
needs x (Return es) after exits = []
needs x (Take y) after exits = []
needs x (Give e) after exits = []
needs x (Stop e) after exits = []
needs x (Limit l) after exits = []

needs_count : (x : ℕ) (s : Stmt) (after : Bool) (exits : List Bool) → length (needs x s after exits) ≡ count s
needs_count x Skip after exits = refl
needs_count x (Seq a b) after exits =
    let ha = needs_count x a (asks x b after exits) exits in
    let hb = needs_count x b after exits in
    length-append (needs x a (asks x b after exits) exits) (needs x b after exits) ∙ omega (arith, ha, hb)
needs_count x (Set y e) after exits = refl
needs_count x (Store w a e) after exits = refl
needs_count x (Call ys p es) after exits = refl
needs_count x (CallAt ys a es) after exits = refl
needs_count x (If e a b) after exits =
    let ha = needs_count x a after exits in
    let hb = needs_count x b after exits in
    let l1 = length-append (asks x a after exits ∷ needs x a after exits) ((asks x b after exits ∷ needs x b after exits) ++ after ∷ []) in
    let l2 = length-append (asks x b after exits ∷ needs x b after exits) (after ∷ []) in
    omega (arith, ha, hb, l1, l2)
needs_count x (Loop s) after exits =
    let again = asks x s false (after ∷ exits) in
    let hs = needs_count x s again (after ∷ exits) in
    let l1 = length-append (again ∷ needs x s again (after ∷ exits)) (after ∷ []) in
    omega (arith, hs, l1)
needs_count x (Break k) after exits = refl
needs_count x (Return es) after exits = refl
needs_count x (Take y) after exits = refl
needs_count x (Give e) after exits = refl
needs_count x (Stop e) after exits = refl
needs_count x (Limit l) after exits = refl

module _ (x : ℕ) (need : ℕ → Bool) where
  abbrev pub Safe : ℕ → Type 0
  Safe b = need b ≡ false

  -- the answers of the blocks from a number on
  abbrev pub Stands : ℕ → List Bool → Type 0
  Stands at [] = Unit {0}
  Stands at (b ∷ bs) = (need at ≡ b) × Stands (at + 1) bs

  stands_first : (at n m : ℕ) (front back : List Bool) → length front ≡ m → at + m ≡ n → Stands at (front ++ back) → Stands at front × Stands n back
  stands_first at n m [] back l e h = let q : at ≡ n = omega arith in (tt, subst (λ n. Stands n back) q h)
  stands_first at n zero (b ∷ front) back l e h = absurd (omega arith)
  stands_first at n (suc m) (b ∷ front) back l e h =
      let r = stands_first (at + 1) n m front back (omega (arith, l)) (omega (arith, e)) h.1 in
      ((h.0, r.0), r.1)

  -- blocks from a number on are clear where their answers say so
  abbrev pub AllClear : ℕ → List Block → Type 0
  AllClear at [] = Unit {0}
  AllClear at (k ∷ ks) = (need at ≡ false → Clear x Safe k) × AllClear (at + 1) ks

  both_clear : (at n m : ℕ) (front ks : List Block) → length front ≡ m → at + m ≡ n → AllClear at front → AllClear n ks → AllClear at (front ++ ks)
  both_clear at n m [] ks l e h hk = let q : n ≡ at = omega arith in subst (λ n. AllClear n ks) q hk
  both_clear at n zero (k ∷ front) ks l e h hk = absurd (omega arith)
  both_clear at n (suc m) (k ∷ front) ks l e h hk = (h.0, both_clear (at + 1) n m front ks (omega (arith, l)) (omega (arith, e)) h.1 hk)

  jump_clear : (b : ℕ) → Safe b → Clear x Safe (only (E.Jump b))
  jump_clear b h = record { unused = in_none x; safe = λ n c. elim (in_cases b [] n c) as (λ v. need n ≡ false) [ inl e ↦ subst (λ n. need n ≡ false) e h | inr d ↦ absurd (in_none n d) ] }

  branch_clear : (y a b : ℕ) → ¬ (y ≡ x) → Safe a → Safe b → Clear x Safe (only (E.Branch y a b))
  branch_clear y a b ny ha hb = record {
    unused = λ c. elim (in_cases y [] x c) as (λ v. ⊥) [ inl e ↦ ny e | inr d ↦ in_none x d ];
    safe = λ n c. elim (in_cases a (b ∷ []) n c) as (λ v. need n ≡ false) [
      | inl e ↦ subst (λ n. need n ≡ false) e ha
      | inr d ↦ elim (in_cases b [] n d) as (λ v. need n ≡ false) [ inl e ↦ subst (λ n. need n ≡ false) e hb | inr f ↦ absurd (in_none n f) ]
    ];
  }

  one_in : (y : ℕ) → ¬ (y ≡ x) → ¬ Contains (y ∷ []) x
  one_in y h c = elim (in_cases y [] x c) as (λ v. ⊥) [ inl e ↦ h e | inr d ↦ in_none x d ]

  cons_in : (y : ℕ) (ys : List ℕ) → ¬ (y ≡ x) → ¬ Contains ys x → ¬ Contains (y ∷ ys) x
  cons_in y ys h hs c = elim (in_cases y ys x c) as (λ v. ⊥) [ inl e ↦ h e | inr d ↦ hs d ]

  inside : (after : Bool) (exits : List Bool) (join : ℕ) (outs : List ℕ) → need join ≡ after → ((j : ℕ) → asked_behind exits j ≡ false → Safe (behind outs j)) → (j : ℕ) → asked_behind (after ∷ exits) j ≡ false → Safe (behind (join ∷ outs) j)
  inside after exits join outs e h zero a = e ∙ a
  inside after exits join outs e h (suc j) a = h j a

  stmt_clear : (s : Stmt) (t at : ℕ) (outs : List ℕ) (k : Block) (after : Bool) (exits : List Bool) → Stands at (needs x s after exits) → ((j : ℕ) → asked_behind exits j ≡ false → Safe (behind outs j)) → (after ≡ false → Clear x Safe k)
      → (asks x s after exits ≡ false → Clear x Safe (code s t at outs k).first) × AllClear at (code s t at outs k).others
  unfolding code
  stmt_clear Skip t at outs k after exits st ho hk = (hk, tt)
  stmt_clear (Seq a b) t at outs k after exits st ho hk =
      let sp = stands_first at (at + count a) (count a) (needs x a (asks x b after exits) exits) (needs x b after exits) (needs_count x a (asks x b after exits) exits) refl st in
      let cb = code b t (at + count a) outs k in
      let hb = stmt_clear b t (at + count a) outs k after exits sp.1 ho hk in
      let ha = stmt_clear a t at outs cb.first (asks x b after exits) exits sp.0 ho hb.0 in
      (ha.0, both_clear at (at + count a) (count a) (code a t at outs cb.first).others cb.others (code_count a t at outs cb.first) refl ha.1 hb.1)
  stmt_clear (Set y e) t at outs k after exits st ho hk =
      (λ h. expr_clear x Safe e y t k (or_left (uses x e) (not (nat_eq y x) && after) h) (λ n. hk (kept (nat_eq y x) after (unequal x y n) (or_right (uses x e) (not (nat_eq y x) && after) h))), tt)
  stmt_clear (Store w a e) t at outs k after exits st ho hk = (
    λ h. (let r = or_right (uses x a) (uses x e || after) h in
        operand_clear x Safe a t _ (or_left (uses x a) (uses x e || after) h) (λ na. operand_clear x Safe e (t + 1) _ (or_left (uses x e) after r) (λ ne. (cons_in (place a t) (place e (t + 1) ∷ []) na (one_in (place e (t + 1)) ne), λ n. hk (or_right (uses x e) after r))))),
    tt,
  )
  stmt_clear (Call ys p es) t at outs k after exits st ho hk =
      (λ h. operands_clear x Safe es t _ (or_left (any_uses x es) (not (any_is x ys) && after) h) (λ nes. (nes, λ n. hk (kept (any_is x ys) after (not_in x ys n) (or_right (any_uses x es) (not (any_is x ys) && after) h)))), tt)
  stmt_clear (CallAt ys a es) t at outs k after exits st ho hk = (
    λ h. (let r = or_right (uses x a) (any_uses x es || (not (any_is x ys) && after)) h in
        operand_clear x Safe a t _ (or_left (uses x a) (any_uses x es || (not (any_is x ys) && after)) h) (λ na. operands_clear x Safe es (t + 1) _ (or_left (any_uses x es) (not (any_is x ys) && after) r) (λ nes. (cons_in (place a t) (places_of es (t + 1)) na nes, λ n. hk (kept (any_is x ys) after (not_in x ys n) (or_right (any_uses x es) (not (any_is x ys) && after) r)))))),
    tt,
  )
  stmt_clear (If e a b) t at outs k after exits st ho hk =
      let join = at + 1 + count a + 1 + count b in
      let to_join = only (E.Jump join) in
      let ca = code a t (at + 1) outs to_join in
      let cb = code b t (at + 1 + count a + 1) outs to_join in
      let na = needs x a after exits in
      let nb = needs x b after exits in
      let la : length (asks x a after exits ∷ na) ≡ 1 + count a = (let q = needs_count x a after exits in omega arith) in
      let lb : length (asks x b after exits ∷ nb) ≡ 1 + count b = (let q = needs_count x b after exits in omega arith) in
      let sa = stands_first at (at + 1 + count a) (1 + count a) (asks x a after exits ∷ na) ((asks x b after exits ∷ nb) ++ after ∷ []) la (omega arith) st in
      let sb = stands_first (at + 1 + count a) join (1 + count b) (asks x b after exits ∷ nb) (after ∷ []) lb (omega arith) sa.1 in
      let hj : after ≡ false → Clear x Safe to_join = λ h. jump_clear join (sb.1.0 ∙ h) in
      let ha = stmt_clear a t (at + 1) outs to_join after exits sa.0.1 ho hj in
      let hb = stmt_clear b t (at + 1 + count a + 1) outs to_join after exits sb.0.1 ho hj in
      let ma : length (ca.first ∷ ca.others) ≡ 1 + count a = (let q = code_count a t (at + 1) outs to_join in omega arith) in
      let mb : length (cb.first ∷ cb.others) ≡ 1 + count b = (let q = code_count b t (at + 1 + count a + 1) outs to_join in omega arith) in
      let tail : AllClear (at + 1 + count a) ((cb.first ∷ cb.others) ++ k ∷ []) = both_clear (at + 1 + count a) join (1 + count b) (cb.first ∷ cb.others) (k ∷ []) mb (omega arith) (λ h. hb.0 (sym sb.0.0 ∙ h), hb.1) (λ h. hk (sym sb.1.0 ∙ h), tt) in (
        λ h. (let r = or_right (uses x e) (asks x a after exits || asks x b after exits) h in
            operand_clear x Safe e t _ (or_left (uses x e) (asks x a after exits || asks x b after exits) h) (λ ne. branch_clear (place e t) at (at + 1 + count a) ne (sa.0.0 ∙ or_left (asks x a after exits) (asks x b after exits) r) (sb.0.0 ∙ or_right (asks x a after exits) (asks x b after exits) r))),
        both_clear at (at + 1 + count a) (1 + count a) (ca.first ∷ ca.others) ((cb.first ∷ cb.others) ++ k ∷ []) ma (omega arith) (λ h. ha.0 (sym sa.0.0 ∙ h), ha.1) tail,
      )
  stmt_clear (Loop s) t at outs k after exits st ho hk =
      let join = at + 1 + count s in
      let to_head = only (E.Jump at) in
      let again = asks x s false (after ∷ exits) in
      let cs = code s t (at + 1) (join ∷ outs) to_head in
      let ls : length (again ∷ needs x s again (after ∷ exits)) ≡ 1 + count s = (let q = needs_count x s again (after ∷ exits) in omega arith) in
      let ss = stands_first at join (1 + count s) (again ∷ needs x s again (after ∷ exits)) (after ∷ []) ls (omega arith) st in
      let hh : again ≡ false → Clear x Safe to_head = λ h. jump_clear at (ss.0.0 ∙ h) in
      let hs = stmt_clear s t (at + 1) (join ∷ outs) to_head again (after ∷ exits) ss.0.1 (inside after exits join outs ss.1.0 ho) hh in
      let ms : length (cs.first ∷ cs.others) ≡ 1 + count s = (let q = code_count s t (at + 1) (join ∷ outs) to_head in omega arith) in
      let at_head : need at ≡ false → Clear x Safe cs.first = λ h. (let r : again ≡ false = sym ss.0.0 ∙ h in hs.0 (ap (λ b. asks x s b (after ∷ exits)) r ∙ r)) in
      (hh, both_clear at join (1 + count s) (cs.first ∷ cs.others) (k ∷ []) ms (omega arith) (at_head, hs.1) (λ h. hk (sym ss.1.0 ∙ h), tt))
  stmt_clear (Break j) t at outs k after exits st ho hk = (λ h. jump_clear (behind outs j) (ho j h), tt)
  stmt_clear (Return es) t at outs k after exits st ho hk = (λ h. operands_clear x Safe es t _ h (λ nes. record { unused = nes; safe = λ b c. absurd (in_none b c) }), tt)
  stmt_clear (Take y) t at outs k after exits st ho hk = (λ h. (in_none x, λ n. hk (kept (nat_eq y x) after (unequal x y (λ e. n (0, omega arith, e))) h)), tt)
  stmt_clear (Give e) t at outs k after exits st ho hk = (λ h. operand_clear x Safe e t _ (or_left (uses x e) after h) (λ ne. (one_in (place e t) ne, λ n. hk (or_right (uses x e) after h))), tt)
  stmt_clear (Stop e) t at outs k after exits st ho hk = (λ h. operand_clear x Safe e t _ h (λ ne. record { unused = one_in (place e t) ne; safe = λ b c. absurd (in_none b c) }), tt)
  stmt_clear (Limit l) t at outs k after exits st ho hk = (λ h. record { unused = in_none x; safe = λ b c. absurd (in_none b c) }, tt)

  clear_at : (at n : ℕ) (ks : List Block) (k : Block) → AllClear at ks → slice_get ks n ≡ Some k → need (at + n) ≡ false → Clear x Safe k
  clear_at at n [] k h e q = absurd (cc)
  clear_at at zero (b ∷ ks) k h e q = let same : b ≡ k = cc in let there : at + 0 ≡ at = omega arith in subst (λ k. Clear x Safe k) same (h.0 (ap need (sym there) ∙ q))
  clear_at at (suc n) (b ∷ ks) k h e q = let there : at + suc n ≡ at + 1 + n = omega arith in clear_at (at + 1) n ks k h.1 e (ap need (sym there) ∙ q)

  -- on a path the value is set, or the block behind it is safe
  path_safe : (q : BlockProc) (run : List Block) (b : ℕ) → AllClear 0 q.blocks → need 0 ≡ false → Path q run b → Any (λ k. SetIn x k.insns) run ⊎ Safe b
  path_safe q run b all start Start = inr start
  path_safe q run b all start (On run' b' k next p e c) =
      elim (path_safe q run' b' all start p) as (λ v. Any (λ k. SetIn x k.insns) (k ∷ run') ⊎ Safe next) [
        | inl s ↦ inl (any_tail (λ k. SetIn x k.insns) k run' s)
        | inr safe ↦ (let there : 0 + b' ≡ b' = omega arith in
            elim (walked x Safe k.insns k.end (clear_at 0 b' q.blocks k all e (ap need there ∙ safe))) as (λ v. Any (λ k. SetIn x k.insns) (k ∷ run') ⊎ Safe next) [
              | inl s ↦ inl (any_head (λ k. SetIn x k.insns) k run' s)
              | inr r ↦ inr (r.safe next c)
            ])
      ]

-- answers of the blocks from a number on, by a list of them
stands_listed : (x : ℕ) (need : ℕ → Bool) (at : ℕ) (l : List Bool) → ((i : ℕ) → need (at + i) ≡ slice_index_or l i false) → Stands x need at l
stands_listed x need at [] h = tt
stands_listed x need at (b ∷ bs) h =
    let here : at ≡ at + 0 = omega arith in
    (ap need here ∙ h 0, stands_listed x need (at + 1) bs (λ i. (let there : at + 1 + i ≡ at + suc i = omega arith in ap need there ∙ h (suc i))))

-- each value that a list of values fits is below the count
fresh_in : (v x : ℕ) (ys : List ℕ) → list_all (λ y. nat_lt y v) ys ≡ true → v ≤ x → any_is x ys ≡ false
fresh_in v x [] h le = refl
fresh_in v x (y ∷ ys) h le =
    let lt = below y v (and_left (nat_lt y v) (list_all (λ y. nat_lt y v) ys) h) in
    let ne : nat_eq y x ≡ false = unequal x y (λ e. absurd (omega (arith, lt, e))) in
    ap (λ b. b || any_is x ys) ne ∙ fresh_in v x ys (and_right (nat_lt y v) (list_all (λ y. nat_lt y v) ys) h) le

or_false : (a b : Bool) → a ≡ false → b ≡ false → (a || b) ≡ false
or_false a b ea eb = ap (λ a. a || b) ea ∙ eb

and_false : (a b : Bool) → b ≡ false → (a && b) ≡ false
and_false true b h = h
and_false false b h = refl

fresh_expr : (v procs bytes x : ℕ) (e : Expr) → expr_fits v procs bytes e ≡ true → v ≤ x → uses x e ≡ false
fresh_expr v procs bytes x (Num n) h le = refl
fresh_expr v procs bytes x (Val y) h le = let lt = below y v h in unequal x y (λ e. absurd (omega (arith, lt, e)))
fresh_expr v procs bytes x (Bin o a b) h le =
    or_false (uses x a) (uses x b) (fresh_expr v procs bytes x a (and_left (expr_fits v procs bytes a) (expr_fits v procs bytes b) h) le) (fresh_expr v procs bytes x b (and_right (expr_fits v procs bytes a) (expr_fits v procs bytes b) h) le)
fresh_expr v procs bytes x (Load w s a) h le = fresh_expr v procs bytes x a h le
fresh_expr v procs bytes x (ProcAt p) h le = refl
fresh_expr v procs bytes x (ImageAt n) h le = refl

fresh_exprs : (v procs bytes x : ℕ) (es : List Expr) → exprs_fit v procs bytes es ≡ true → v ≤ x → any_uses x es ≡ false
fresh_exprs v procs bytes x [] h le = refl
fresh_exprs v procs bytes x (e ∷ es) h le =
    or_false (uses x e) (any_uses x es) (fresh_expr v procs bytes x e (and_left (expr_fits v procs bytes e) (exprs_fit v procs bytes es) h) le) (fresh_exprs v procs bytes x es (and_right (expr_fits v procs bytes e) (exprs_fit v procs bytes es) h) le)

fresh_inside : (after : Bool) (exits : List Bool) → after ≡ false → ((j : ℕ) → asked_behind exits j ≡ false) → (j : ℕ) → asked_behind (after ∷ exits) j ≡ false
fresh_inside after exits ha he zero = ha
fresh_inside after exits ha he (suc j) = he j

-- no path uses a value that isn't there
fresh : (v procs bytes x loops : ℕ) (s : Stmt) (after : Bool) (exits : List Bool) → stmt_fits v procs bytes loops s ≡ true → v ≤ x → after ≡ false → ((j : ℕ) → asked_behind exits j ≡ false) → asks x s after exits ≡ false
fresh v procs bytes x loops Skip after exits h le ha he = ha
fresh v procs bytes x loops (Seq a b) after exits h le ha he =
    fresh v procs bytes x loops a (asks x b after exits) exits (and_left (stmt_fits v procs bytes loops a) (stmt_fits v procs bytes loops b) h) le (fresh v procs bytes x loops b after exits (and_right (stmt_fits v procs bytes loops a) (stmt_fits v procs bytes loops b) h) le ha he) he
fresh v procs bytes x loops (Set y e) after exits h le ha he =
    or_false (uses x e) (not (nat_eq y x) && after) (fresh_expr v procs bytes x e (and_right (nat_lt y v) (expr_fits v procs bytes e) h) le) (and_false (not (nat_eq y x)) after ha)
fresh v procs bytes x loops (Store w a e) after exits h le ha he =
    or_false (uses x a) (uses x e || after) (fresh_expr v procs bytes x a (and_left (expr_fits v procs bytes a) (expr_fits v procs bytes e) h) le)
    (or_false (uses x e) after (fresh_expr v procs bytes x e (and_right (expr_fits v procs bytes a) (expr_fits v procs bytes e) h) le) ha)
fresh v procs bytes x loops (Call ys p es) after exits h le ha he =
    let r = and_right (results_fit v ys) (nat_lt p procs && exprs_fit v procs bytes es) h in
    or_false (any_uses x es) (not (any_is x ys) && after) (fresh_exprs v procs bytes x es (and_right (nat_lt p procs) (exprs_fit v procs bytes es) r) le) (and_false (not (any_is x ys)) after ha)
fresh v procs bytes x loops (CallAt ys a es) after exits h le ha he =
    let r = and_right (results_fit v ys) (expr_fits v procs bytes a && exprs_fit v procs bytes es) h in
    or_false (uses x a) (any_uses x es || (not (any_is x ys) && after)) (fresh_expr v procs bytes x a (and_left (expr_fits v procs bytes a) (exprs_fit v procs bytes es) r) le)
    (or_false (any_uses x es) (not (any_is x ys) && after) (fresh_exprs v procs bytes x es (and_right (expr_fits v procs bytes a) (exprs_fit v procs bytes es) r) le) (and_false (not (any_is x ys)) after ha))
fresh v procs bytes x loops (If e a b) after exits h le ha he =
    let r = and_right (expr_fits v procs bytes e) (stmt_fits v procs bytes loops a && stmt_fits v procs bytes loops b) h in
    or_false (uses x e) (asks x a after exits || asks x b after exits) (fresh_expr v procs bytes x e (and_left (expr_fits v procs bytes e) (stmt_fits v procs bytes loops a && stmt_fits v procs bytes loops b) h) le)
    (or_false (asks x a after exits) (asks x b after exits) (fresh v procs bytes x loops a after exits (and_left (stmt_fits v procs bytes loops a) (stmt_fits v procs bytes loops b) r) le ha he) (fresh v procs bytes x loops b after exits (and_right (stmt_fits v procs bytes loops a) (stmt_fits v procs bytes loops b) r) le ha he))
fresh v procs bytes x loops (Loop s) after exits h le ha he = fresh v procs bytes x (loops + 1) s false (after ∷ exits) h le refl (fresh_inside after exits ha he)
fresh v procs bytes x loops (Break k) after exits h le ha he = he k
fresh v procs bytes x loops (Return es) after exits h le ha he = fresh_exprs v procs bytes x es (and_right (nat_le (length es) 2) (exprs_fit v procs bytes es) h) le
fresh v procs bytes x loops (Take y) after exits h le ha he = and_false (not (nat_eq y x)) after ha
fresh v procs bytes x loops (Give e) after exits h le ha he = or_false (uses x e) after (fresh_expr v procs bytes x e h le) ha
fresh v procs bytes x loops (Stop e) after exits h le ha he = fresh_expr v procs bytes x e h le
fresh v procs bytes x loops (Limit l) after exits h le ha he = refl

each_at : (n x : ℕ) (test : ℕ → Bool) → each_below n test ≡ true → x < n → test x ≡ true
each_at zero x test h lt = absurd (omega arith)
each_at (suc n) x test h lt = go (nat_lt x n) refl (each_at n x test (and_left (each_below n test) (test n) h))
  where
    go : (b : Bool) → nat_lt x n ≡ b → (x < n → test x ≡ true) → test x ≡ true
    go true e r = r (below x n e)
    go false e r = let same : n ≡ x = grind (arith, nat_tests) in subst (λ n. test n ≡ true) same (and_right (each_below n test) (test n) h)

not_true : (a b : Bool) → a ≡ false → (a || not b) ≡ true → b ≡ false
not_true true b e h = absurd (cc)
not_true false true e h = absurd (cc)
not_true false false e h = refl

-- no path of a procedure that holds together uses a value but a parameter before it sets it
never_asked : (procs bytes : ℕ) (f : Procedure) → proc_fits procs bytes f ≡ true → (x : ℕ) → nat_lt x f.params ≡ false → asks x f.body false [] ≡ false
never_asked procs bytes f ok x np = go (nat_lt x f.values) refl
  where
    oks : (stmt_fits f.values procs bytes 0 f.body && each_below f.values (is_set_first f)) ≡ true
    oks = and_right (nat_le f.params f.values) (stmt_fits f.values procs bytes 0 f.body && each_below f.values (is_set_first f)) ok

    go : (b : Bool) → nat_lt x f.values ≡ b → asks x f.body false [] ≡ false
    go true e = not_true (nat_lt x f.params) (asks x f.body false []) np (each_at f.values x (is_set_first f) (and_right (stmt_fits f.values procs bytes 0 f.body) (each_below f.values (is_set_first f)) oks) (below x f.values e))
    go false e = let le : f.values ≤ x = grind (arith, nat_tests) in fresh f.values procs bytes x 0 f.body false [] (and_left (stmt_fits f.values procs bytes 0 f.body) (each_below f.values (is_set_first f)) oks) le refl (λ j. refl)

-- the answers of a procedure's blocks
abbrev answers : Procedure → ℕ → ℕ → Bool
answers f x n = slice_index_or (false ∷ needs x f.body false []) n false

proc_clear : (f : Procedure) (x : ℕ) → asks x f.body false [] ≡ false → AllClear x (answers f x) 0 (proc_code f).blocks
proc_clear f x h =
    let r = stmt_clear x (answers f x) f.body f.values 1 [] (only (E.Return [])) false [] (stands_listed x (answers f x) 1 (needs x f.body false []) (λ i. (let e : 1 + i ≡ suc i = omega arith in ap (answers f x) e))) (λ j a. refl) (λ a. record { unused = in_none x; safe = λ b c. absurd (in_none b c) }) in
    (λ a. r.0 h, r.1)

pub uses_are_set : (procs bytes : ℕ) (f : Procedure) → proc_fits procs bytes f ≡ true → UsesAreSet (proc_code f)
uses_are_set procs bytes f ok = record { insns = λ run b k p e done i rest ei x c. at_insn run b k p e done i rest ei x c (nat_lt x f.params) refl; ends = λ run b k p e x c. at_end run b k p e x c (nat_lt x f.params) refl }
  where
    -- on the path, or the block behind it is clear
    reached : (x : ℕ) → nat_lt x f.params ≡ false → (run : List Block) (b : ℕ) (k : Block) → Path (proc_code f) run b → slice_get (proc_code f).blocks b ≡ Some k → Any (λ k. SetIn x k.insns) run ⊎ Clear x (Safe x (answers f x)) k
    reached x np run b k p e =
        let all = proc_clear f x (never_asked procs bytes f ok x np) in
        elim (path_safe x (answers f x) (proc_code f) run b all refl p) as (λ v. Any (λ k. SetIn x k.insns) run ⊎ Clear x (Safe x (answers f x)) k) [
          | inl s ↦ inl s
          | inr safe ↦ (let there : 0 + b ≡ b = omega arith in inr (clear_at x (answers f x) 0 b (proc_code f).blocks k all e (ap (answers f x) there ∙ safe)))
        ]

    at_insn : (run : List Block) (b : ℕ) (k : Block) → Path (proc_code f) run b → slice_get (proc_code f).blocks b ≡ Some k → (done : List BlockInsn) (i : BlockInsn) (rest : List BlockInsn) → k.insns ≡ done ++ i ∷ rest → (x : ℕ) → Contains (uses_of i) x
        → (b : Bool) → nat_lt x f.params ≡ b → IsSet (proc_code f) run done x
    at_insn run b k p e done i rest ei x c true t = inl (below x f.params t)
    at_insn run b k p e done i rest ei x c false t =
        elim (reached x t run b k p e) as (λ v. IsSet (proc_code f) run done x) [
          | inl s ↦ inr (inl s)
          | inr h ↦ elim (walked_to x (Safe x (answers f x)) done i rest k.end (subst (λ is. InsnsClear x (Safe x (answers f x)) is k.end) ei h)) as (λ v. IsSet (proc_code f) run done x) [ inl s ↦ inr (inr s) | inr n ↦ absurd (n c) ]
        ]

    at_end : (run : List Block) (b : ℕ) (k : Block) → Path (proc_code f) run b → slice_get (proc_code f).blocks b ≡ Some k → (x : ℕ) → Contains (end_uses k.end) x → (b : Bool) → nat_lt x f.params ≡ b → IsSet (proc_code f) run k.insns x
    at_end run b k p e x c true t = inl (below x f.params t)
    at_end run b k p e x c false t =
        elim (reached x t run b k p e) as (λ v. IsSet (proc_code f) run k.insns x) [
          | inl s ↦ inr (inl s)
          | inr h ↦ elim (walked x (Safe x (answers f x)) k.insns k.end h) as (λ v. IsSet (proc_code f) run k.insns x) [ inl s ↦ inr (inr s) | inr r ↦ absurd (r.unused c) ]
        ]

all_set : (procs bytes : ℕ) (fs : List FlatProc) → list_all (λ f. proc_fits procs bytes (proc_of f)) fs ≡ true → AllUsesAreSet (map proc_code (procs_of fs))
all_set procs bytes [] h = tt
all_set procs bytes (f ∷ fs) h =
    (uses_are_set procs bytes (proc_of f) (and_left (proc_fits procs bytes (proc_of f)) (list_all (λ f. proc_fits procs bytes (proc_of f)) fs) h), all_set procs bytes fs (and_right (proc_fits procs bytes (proc_of f)) (list_all (λ f. proc_fits procs bytes (proc_of f)) fs) h))

pub all_uses_are_set : (p : FlatProgram) → is_ok p ≡ true → AllUsesAreSet (map proc_code (procs_of p.procs))
all_uses_are_set p ok =
    let rest = and_right (entry_fits (slice_get (procs_of p.procs) p.entry)) (list_all (λ f. proc_fits (length p.procs) (length p.image) (proc_of f)) p.procs && (list_all (λ f. fix_fits (length p.procs) (length p.image) f) p.fixes && all_apart p.fixes)) ok in
    all_set (length p.procs) (length p.image) p.procs (and_left (list_all (λ f. proc_fits (length p.procs) (length p.image) (proc_of f)) p.procs) (list_all (λ f. fix_fits (length p.procs) (length p.image) f) p.fixes && all_apart p.fixes) rest)
