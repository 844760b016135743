-- The run with values and the run with homes, step by step.
use Rattle.std.proofs.Common.{◌≡◌, ◌≢◌, ℕ, zero, suc, ◌+◌, ◌-◌, ◌%◌, ◌<◌, ◌≤◌, Bool, true, false, cond, ◌⊎◌, inl, inr, List, [], ◌∷◌, ◌++◌, length, map, take, refl, sym, ap, ◌∙◌, subst, arith, Option, Some, None, append_assoc, append-nil, length-append, get_or-set_same, get_or-set_other}
use Rattle.std.specs.Prelude.{◌==◌, slice_get, slice_set, slice_index, replicate, Contains, All, if◌then◌else◌}
use Rattle.std.proofs.lemmas.Bool.Decides.{eqb_tells}
use Rattle.std.proofs.lemmas.List.{get_or_append_left, length-replicate, length-set}
use Rattle.std.proofs.lemmas.Option.{slice_get_within, get_or_from_slice_get}
use Rattle.std.proofs.Math.Seq.{take-append_seam}
use Rattle.behaviour.specs.Behaviour as R
use Rattle.behaviour.specs.Behaviour.{Running, Limited, Wrong, Seen}
use Rattle.jf_base.specs.Numbers.{size_of_width}
use Rattle.flat_ir.specs.Bytes.{loaded, stored}
use Rattle.flat_ir.specs.Operations.{result_of, extended}
use Rattle.flat_ir.specs.Placement as P
use Rattle.flat_ir.specs.Placement.{Placement, Places, proc_at, entry_arguments, first_bytes}
use Rattle.flat_ir.specs.Flat as F
use Rattle.flat_ir.specs.Flat.{World, seen, with_memory, with_frames, gave, took, first_byte, stop_code, limit_of, frame_of, charged, starting}
use Rattle.flatten.specs.declared.blocks.BlockInsn.{BlockInsn}
use Rattle.flatten.specs.declared.blocks.BlockInsn.TheVariants as I
use Rattle.flatten.specs.declared.blocks.BlockEnd.{BlockEnd}
use Rattle.flatten.specs.declared.blocks.BlockEnd.TheVariants as E
use Rattle.flatten.specs.declared.blocks.Block.{Block}
use Rattle.flatten.specs.declared.blocks.BlockProc.{BlockProc}
use Rattle.flatten.specs.declared.blocks.BlockProgram.{BlockProgram}
use Rattle.flatten.specs.Paths.{sets, uses_of, end_uses, goes_to, Path, Start, On}
use Rattle.flatten.specs.Named.{AllBelow}
use Rattle.flatten.specs.Blocks as B
use Rattle.flatten.specs.Blocks.{if_value, branch_to, params_of, blocks}
use Rattle.block_homes.specs.declared.homes.Assignment.{Assignment}
use Rattle.block_homes.specs.Held as H
use Rattle.block_homes.specs.Held.{places_at, wrote, put, after, held, held_at, uses_from}
use Rattle.block_homes.specs.Valid.{InsnBelow, BlockBelow, IsNamed, Kept, AllValid}
use Rattle.block_homes.specs.Homed.{Cells, write, Waiting, State, value, values, set_value, received, passed, cells_of, at_block, enter, give_back, exec, homed}

pub after_append : (pl : List ℕ) (h : ℕ) (xs ys : List BlockInsn) (o : ℕ) → after pl h (xs ++ ys) o ≡ after pl h ys (after pl h xs o)
after_append pl h [] ys o = refl
after_append pl h (x ∷ xs) ys o = after_append pl h xs ys (put pl h (sets x) o)

pub uses_append : (xs ys : List BlockInsn) (e : BlockEnd) → uses_from (xs ++ ys) e (length xs) ≡ uses_from ys e 0
uses_append [] ys e = refl
uses_append (x ∷ xs) ys e = uses_append xs ys e

-- values that are named are there
pub below_contains : (n : ℕ) (vs : List ℕ) (v : ℕ) → AllBelow n vs → Contains vs v → v < n
below_contains n [] v b (k, lt, e) = absurd (omega (arith, lt))
below_contains n (x ∷ vs) v b (zero, lt, e) = subst (λ y. y < n) e b.0
below_contains n (x ∷ vs) v b (suc k, lt, e) = below_contains n vs v b.1 (k, omega (arith, lt), e)

pub use_below : (n : ℕ) (xs : List BlockInsn) (e : BlockEnd) → All (InsnBelow n) xs → AllBelow n (end_uses e) → (i v : ℕ) → Contains (uses_from xs e i) v → v < n
use_below n [] e w l zero v a = below_contains n (end_uses e) v l a
use_below n [] e w l (suc i) v a = absurd (omega (arith, a.1))
use_below n (x ∷ xs) e w l zero v a = below_contains n (uses_of x) v (w 0 x (omega arith)).0 a
use_below n (x ∷ xs) e w l (suc i) v a = use_below n xs e (λ j d lt. w (suc j) d (omega (arith, lt))) l i v a

pub block_named : (q : BlockProc) → IsNamed q → (b : ℕ) (k : Block) → slice_get q.blocks b ≡ Some k → BlockBelow q.values (length q.blocks) k
block_named q named b k e = subst (λ (x : Block). BlockBelow q.values (length q.blocks) x) (get_or_from_slice_get q.blocks b k k e) (named.blocks b k (slice_get_within q.blocks b k e))

pub named_use : (q : BlockProc) → IsNamed q → (b : ℕ) (k : Block) → slice_get q.blocks b ≡ Some k → (i v : ℕ) → Contains (uses_from k.insns k.end i) v → v < q.values
named_use q named b k e i v a = let w = block_named q named b k e in use_below q.values k.insns k.end w.0 w.1 i v a

-- values agree with homes: each value that its home holds, by what the places hold, is there
pub record Agrees (pl : List ℕ) (n : ℕ) (o : ℕ → ℕ) (env : List ℕ) (c : Cells) : Type 0 where
  pub len : length env ≡ n
  pub same : (u : ℕ) → u < n → o (slice_index pl u) ≡ u → slice_index env u ≡ value pl c u

pub agrees_by : (pl : List ℕ) (n : ℕ) (o o' : ℕ → ℕ) (env : List ℕ) (c : Cells) → ((h : ℕ) → o' h ≡ o h) → Agrees pl n o env c → Agrees pl n o' env c
agrees_by pl n o o' env c f a = record { len = a.len; same = λ u lt e. a.same u lt (sym (f (slice_index pl u)) ∙ e) }

-- a value is set in its place and at its home
pub agrees_set : (pl : List ℕ) (n : ℕ) (o : ℕ → ℕ) (env : List ℕ) (c : Cells) (v x : ℕ) → Agrees pl n o env c → Agrees pl n (λ h. wrote pl h v (o h)) (slice_set env v x) (set_value pl c v x)
agrees_set pl n o env c v x a = record { len = omega (arith, a.len, length_set); same = same }
  where
    length_set : length (slice_set env v x) ≡ length env
    length_set = length-set env v x

    same : (u : ℕ) → u < n → wrote pl (slice_index pl u) v (o (slice_index pl u)) ≡ u → slice_index (slice_set env v x) u ≡ set_value pl c v x (slice_index pl u)
    same u lt e = go (eqb_tells (slice_index pl v) (slice_index pl u)) (eqb_tells v u)
      where
        left : (b : Bool) → (slice_index pl v == slice_index pl u) ≡ b → cond b v (o (slice_index pl u)) ≡ u
        left b q = ap (λ z. cond z v (o (slice_index pl u))) (sym q) ∙ e

        right : (b : Bool) → (slice_index pl v == slice_index pl u) ≡ b → set_value pl c v x (slice_index pl u) ≡ cond b x (c (slice_index pl u))
        right b q = ap (λ z. cond z x (c (slice_index pl u))) q

        go : (((slice_index pl v == slice_index pl u) ≡ true) × (slice_index pl v ≡ slice_index pl u)) ⊎ (((slice_index pl v == slice_index pl u) ≡ false) × (slice_index pl v ≢ slice_index pl u)) → (((v == u) ≡ true) × (v ≡ u)) ⊎ (((v == u) ≡ false) × (v ≢ u)) → slice_index (slice_set env v x) u ≡ set_value pl c v x (slice_index pl u)
        go (inl p) (inl q) = ap (λ z. slice_index (slice_set env v x) z) (sym q.1) ∙ get_or-set_same env v x 0 (omega (arith, a.len, lt, q.1)) ∙ sym (right true p.0)
        go (inl p) (inr q) = absurd (q.1 (left true p.0))
        go (inr p) (inl q) = absurd (p.1 (ap (λ z. slice_index pl z) q.1))
        go (inr p) (inr q) = get_or-set_other env v u x 0 (λ z. q.1 (sym z)) ∙ a.same u lt (left false p.0) ∙ sym (right false p.0)

-- results that are received
pub received_same : (pl : List ℕ) (n : ℕ) (xs rs : List ℕ) (o : ℕ → ℕ) (env : List ℕ) (c : Cells) (other : Seen) (go1 : List ℕ → Seen) (go2 : Cells → Seen) → Agrees pl n o env c → ((env' : List ℕ) (c' : Cells) → Agrees pl n (λ h. put pl h xs (o h)) env' c' → go1 env' ≡ go2 c') → if_value (F.received xs rs env) other go1 ≡ if_value (received pl xs rs c) other go2
received_same pl n [] [] o env c other go1 go2 a k = k env c a
received_same pl n [] (r ∷ rs) o env c other go1 go2 a k = refl
received_same pl n (x ∷ xs) [] o env c other go1 go2 a k = refl
received_same pl n (x ∷ xs) (r ∷ rs) o env c other go1 go2 a k = received_same pl n xs rs (λ h. wrote pl h x (o h)) (slice_set env x r) (set_value pl c x r) other go1 go2 (agrees_set pl n o env c x r a) k

-- parameters are in their homes
passed_same : (pl args : List ℕ) (none : ℕ) (c : Cells) (n u : ℕ) → u < none → H.starting pl none (slice_index pl u) n ≡ u → (u < n) × (slice_index args u ≡ passed pl args c n (slice_index pl u))
passed_same pl args none c zero u lt e = absurd (omega (arith, lt, e))
passed_same pl args none c (suc n) u lt e = go (λ f. passed_same pl args none c n u lt f) (eqb_tells (slice_index pl n) (slice_index pl u))
  where
    left : (b : Bool) → (slice_index pl n == slice_index pl u) ≡ b → cond b n (H.starting pl none (slice_index pl u) n) ≡ u
    left b q = ap (λ z. cond z n (H.starting pl none (slice_index pl u) n)) (sym q) ∙ e

    right : (b : Bool) → (slice_index pl n == slice_index pl u) ≡ b → passed pl args c (suc n) (slice_index pl u) ≡ cond b (slice_index args n) (passed pl args c n (slice_index pl u))
    right b q = ap (λ z. cond z (slice_index args n) (passed pl args c n (slice_index pl u))) q

    go : (H.starting pl none (slice_index pl u) n ≡ u → (u < n) × (slice_index args u ≡ passed pl args c n (slice_index pl u))) → (((slice_index pl n == slice_index pl u) ≡ true) × (slice_index pl n ≡ slice_index pl u)) ⊎ (((slice_index pl n == slice_index pl u) ≡ false) × (slice_index pl n ≢ slice_index pl u)) → (u < suc n) × (slice_index args u ≡ passed pl args c (suc n) (slice_index pl u))
    go on (inl p) = let f : n ≡ u = left true p.0 in (omega (arith, f), ap (λ z. slice_index args z) (sym f) ∙ sym (right true p.0))
    go on (inr p) = let r = on (left false p.0) in (omega (arith, r.0), r.1 ∙ sym (right false p.0))

pub agrees_passed : (pl args : List ℕ) (q : BlockProc) (c : Cells) → q.params ≤ q.values → length args ≡ q.params → Agrees pl q.values (λ h. held pl q [] h) (args ++ replicate (q.values - q.params) 0) (passed pl args c q.params)
agrees_passed pl args q c le e = record { len = omega (arith, le, e, length-append args (replicate (q.values - q.params) 0), zeros); same = same }
  where
    zeros : length (replicate {A = ℕ} (q.values - q.params) 0) ≡ q.values - q.params
    zeros = length-replicate {A = ℕ} (q.values - q.params) 0

    same : (u : ℕ) → u < q.values → held pl q [] (slice_index pl u) ≡ u → slice_index (args ++ replicate (q.values - q.params) 0) u ≡ value pl (passed pl args c q.params) u
    same u lt h =
        let r = passed_same pl args q.values c q.params u lt h in
        get_or_append_left args (replicate (q.values - q.params) 0) 0 u (omega (arith, r.0, e)) ∙ r.1

-- the same where there is a value, and where there is none
pub if_same : {A : Type 0} (o : Option A) (other : Seen) (go1 go2 : A → Seen) → ((a : A) → go1 a ≡ go2 a) → if_value o other go1 ≡ if_value o other go2
if_same None other go1 go2 k = refl
if_same (Some a) other go1 go2 k = k a

pub found_same : (pl env : List ℕ) (c : Cells) (ys : List ℕ) → ((v : ℕ) → Contains ys v → slice_index env v ≡ value pl c v) → B.held env ys ≡ values pl c ys
found_same pl env c [] f = refl
found_same pl env c (y ∷ ys) f =
    let rest = found_same pl env c ys (λ v m. f v (suc m.0, omega (arith, m.1), m.2)) in
    ap (λ z. z ∷ B.held env ys) (f y (0, omega arith, refl)) ∙ ap (λ l. value pl c y ∷ l) rest

-- what has run of a procedure, and what its homes hold
pub record At (q : BlockProc) (pl : List ℕ) (rest : List BlockInsn) (end : BlockEnd) (env : List ℕ) (c : Cells) : Type 0 where
  pub named : IsNamed q
  pub kept : (b i : ℕ) → Kept pl q b i
  pub number : ℕ
  pub block : Block
  pub is_block : slice_get q.blocks number ≡ Some block
  pub ran : List BlockInsn
  pub insns : block.insns ≡ ran ++ rest
  pub ends : block.end ≡ end
  pub run : List Block
  pub path : Path q run number
  pub agrees : Agrees pl q.values (λ h. after pl h ran (held pl q run h)) env c

-- a use finds its value
pub used : (q : BlockProc) (pl : List ℕ) (rest : List BlockInsn) (end : BlockEnd) (env : List ℕ) (c : Cells) → At q pl rest end env c → (v : ℕ) → Contains (uses_from rest end 0) v → slice_index env v ≡ value pl c v
used q pl rest end env c a v m =
    let e1 : uses_from a.block.insns a.block.end (length a.ran) ≡ uses_from rest end 0 = ap (λ xs. uses_from xs a.block.end (length a.ran)) a.insns ∙ uses_append a.ran rest a.block.end ∙ ap (λ x. uses_from rest x 0) a.ends in
    let m' : Contains (uses_from a.block.insns a.block.end (length a.ran)) v = subst (λ us. Contains us v) (sym e1) m in
    let e2 : take (length a.ran) a.block.insns ≡ a.ran = ap (λ xs. take (length a.ran) xs) a.insns ∙ take-append_seam a.ran rest in
    a.agrees.same v (named_use q a.named a.number a.block a.is_block (length a.ran) v m') (ap (λ xs. after pl (slice_index pl v) xs (held pl q a.run (slice_index pl v))) (sym e2) ∙ a.kept a.number (length a.ran) a.run a.block v a.path a.is_block m')

-- behind an instruction
pub moved : (q : BlockProc) (pl : List ℕ) (x : BlockInsn) (rest : List BlockInsn) (end : BlockEnd) (env env' : List ℕ) (c c' : Cells) (a : At q pl (x ∷ rest) end env c) → Agrees pl q.values (λ h. put pl h (sets x) (after pl h a.ran (held pl q a.run h))) env' c' → At q pl rest end env' c'
moved q pl x rest end env env' c c' a s = record { named = a.named; kept = a.kept; number = a.number; block = a.block; is_block = a.is_block; ran = a.ran ++ x ∷ []; insns = a.insns ∙ sym (append_assoc a.ran (x ∷ []) rest); ends = a.ends; run = a.run; path = a.path; agrees = agrees_by pl q.values (λ h. put pl h (sets x) (after pl h a.ran (held pl q a.run h))) (λ h. after pl h (a.ran ++ x ∷ []) (held pl q a.run h)) env' c' (λ h. after_append pl h a.ran (x ∷ []) (held pl q a.run h)) s }

pub moved_set : (q : BlockProc) (pl : List ℕ) (x : BlockInsn) (rest : List BlockInsn) (end : BlockEnd) (env : List ℕ) (c : Cells) (v n : ℕ) → sets x ≡ v ∷ [] → At q pl (x ∷ rest) end env c → At q pl rest end (slice_set env v n) (set_value pl c v n)
moved_set q pl x rest end env c v n d a =
    let o : ℕ → ℕ = λ h. after pl h a.ran (held pl q a.run h) in
    moved q pl x rest end env (slice_set env v n) c (set_value pl c v n) a (agrees_by pl q.values (λ h. wrote pl h v (o h)) (λ h. put pl h (sets x) (o h)) (slice_set env v n) (set_value pl c v n) (λ h. ap (λ l. put pl h l (o h)) d) (agrees_set pl q.values o env c v n a.agrees))

pub moved_none : (q : BlockProc) (pl : List ℕ) (x : BlockInsn) (rest : List BlockInsn) (end : BlockEnd) (env : List ℕ) (c : Cells) → sets x ≡ [] → At q pl (x ∷ rest) end env c → At q pl rest end env c
moved_none q pl x rest end env c d a =
    let o : ℕ → ℕ = λ h. after pl h a.ran (held pl q a.run h) in
    moved q pl x rest end env env c c a (agrees_by pl q.values o (λ h. put pl h (sets x) (o h)) env c (λ h. ap (λ l. put pl h l (o h)) d) a.agrees)

-- at a block that follows
pub next_block : (q : BlockProc) (pl : List ℕ) (end : BlockEnd) (env : List ℕ) (c : Cells) (t : ℕ) (b : Block) → At q pl [] end env c → Contains (goes_to end) t → slice_get q.blocks t ≡ Some b → At q pl b.insns b.end env c
next_block q pl end env c t b a m h = record { named = a.named; kept = a.kept; number = t; block = b; is_block = h; ran = []; insns = refl; ends = refl; run = a.block ∷ a.run; path = On a.run a.number a.block t a.path a.is_block (subst (λ (e : BlockEnd). Contains (goes_to e) t) (sym a.ends) m); agrees = agrees_by pl q.values (λ h. after pl h a.ran (held pl q a.run h)) (λ h. held pl q (a.block ∷ a.run) h) env c (λ h. ap (λ xs. after pl h xs (held pl q a.run h)) (a.insns ∙ append-nil a.ran)) a.agrees }

-- at the first block of a procedure that is entered
pub first_block : (q : BlockProc) (pl args : List ℕ) (c : Cells) (b : Block) → IsNamed q → ((b i : ℕ) → Kept pl q b i) → length args ≡ q.params → slice_get q.blocks 0 ≡ Some b → At q pl b.insns b.end (args ++ replicate (q.values - q.params) 0) (passed pl args c q.params)
first_block q pl args c b named kept e g = record { named = named; kept = kept; number = 0; block = b; is_block = g; ran = []; insns = refl; ends = refl; run = []; path = Start; agrees = agrees_passed pl args q c named.params e }

-- procedures that wait at the same calls
pub data Stacks : List B.Waiting → List Waiting → Type 0 where
  Empty : Stacks [] []
  Push : (q : BlockProc) (pl : List ℕ) (rest : Block) (env : List ℕ) (c : Cells) (targets : List ℕ) (x : BlockInsn) (s1 : List B.Waiting) (s2 : List Waiting) → sets x ≡ targets → At q pl (x ∷ rest.insns) rest.end env c → Stacks s1 s2 → Stacks (record { proc = q; rest = rest; env = env; targets = targets } ∷ s1) (record { proc = q; places = pl; rest = rest; cells = c; targets = targets } ∷ s2)

module _ (ps : List BlockProc) (hs : List Assignment) (valid : AllValid ps hs) (g : Places) (entered : ℕ → Cells) where
  abbrev before : BlockProc → List BlockInsn → BlockEnd → List ℕ → World → List B.Waiting → B.State
  before q rest end env w s = record { proc = q; rest = record { insns = rest; end = end }; env = env; world = w; stack = s }

  abbrev behind : BlockProc → List ℕ → List BlockInsn → BlockEnd → Cells → World → List Waiting → State
  behind q pl rest end c w s = record { proc = q; places = pl; rest = record { insns = rest; end = end }; cells = c; world = w; stack = s }

  abbrev one : ℕ → B.State → Seen
  one m s = B.exec ps g m s

  abbrev two : ℕ → State → Seen
  two m s = exec ps hs g entered m s

  -- what is to be shown of m steps
  abbrev Same : ℕ → Type 0
  Same m = (q : BlockProc) (pl : List ℕ) (rest : List BlockInsn) (end : BlockEnd) (env : List ℕ) (c : Cells) (w : World) (s1 : List B.Waiting) (s2 : List Waiting) → At q pl rest end env c → Stacks s1 s2 → one m (before q rest end env w s1) ≡ two m (behind q pl rest end c w s2)

  -- the same value is set
  set_same : (m : ℕ) → Same m → (q : BlockProc) (pl : List ℕ) (x : BlockInsn) (rest : List BlockInsn) (end : BlockEnd) (env : List ℕ) (c : Cells) (w : World) (s1 : List B.Waiting) (s2 : List Waiting) (v n1 n2 : ℕ) → sets x ≡ v ∷ [] → n1 ≡ n2 → At q pl (x ∷ rest) end env c → Stacks s1 s2 → one m (before q rest end (slice_set env v n1) w s1) ≡ two m (behind q pl rest end (set_value pl c v n2) w s2)
  set_same m same q pl x rest end env c w s1 s2 v n1 n2 d e a st = ap (λ n. one m (before q rest end (slice_set env v n) w s1)) e ∙ same q pl rest end (slice_set env v n2) (set_value pl c v n2) w s1 s2 (moved_set q pl x rest end env c v n2 d a) st

  -- none is set
  world_same : (m : ℕ) → Same m → (q : BlockProc) (pl : List ℕ) (x : BlockInsn) (rest : List BlockInsn) (end : BlockEnd) (env : List ℕ) (c : Cells) (w : World) (s1 : List B.Waiting) (s2 : List Waiting) → sets x ≡ [] → At q pl (x ∷ rest) end env c → Stacks s1 s2 → one m (before q rest end env w s1) ≡ two m (behind q pl rest end c w s2)
  world_same m same q pl x rest end env c w s1 s2 d a st = same q pl rest end env c w s1 s2 (moved_none q pl x rest end env c d a) st

  -- a block is gone to
  go_same : (m : ℕ) → Same m → (q : BlockProc) (pl : List ℕ) (end : BlockEnd) (env : List ℕ) (c : Cells) (w : World) (s1 : List B.Waiting) (s2 : List Waiting) (t : ℕ) → At q pl [] end env c → Stacks s1 s2 → Contains (goes_to end) t → B.at_block (slice_get q.blocks t) (one m) q env w s1 ≡ at_block (slice_get q.blocks t) (two m) q pl c w s2
  go_same m same q pl end env c w s1 s2 t a st among = here (slice_get q.blocks t) refl
    where
      here : (o : Option Block) → slice_get q.blocks t ≡ o → B.at_block o (one m) q env w s1 ≡ at_block o (two m) q pl c w s2
      here None h = refl
      here (Some b) h = same q pl b.insns b.end env c w s1 s2 (next_block q pl end env c t b a among h) st

  enter_same : (m : ℕ) → Same m → (f : ℕ) (c : Cells) (xs ys : List ℕ) (w : World) (s1 : List B.Waiting) (s2 : List Waiting) → xs ≡ ys → Stacks s1 s2 → B.enter (slice_get ps f) g (one m) xs w s1 ≡ enter (slice_get ps f) (places_at hs f) g (two m) c ys w s2
  enter_same m same f c xs ys w s1 s2 e st = ap (λ x. B.enter (slice_get ps f) g (one m) x w s1) e ∙ by_proc (slice_get ps f) refl
    where
      pl : List ℕ
      pl = places_at hs f

      by_block : (q : BlockProc) → slice_get ps f ≡ Some q → length ys ≡ q.params → (w' : World) (o : Option Block) → slice_get q.blocks 0 ≡ o → B.at_block o (one m) q (ys ++ replicate (q.values - q.params) 0) w' s1 ≡ at_block o (two m) q pl (passed pl ys c q.params) w' s2
      by_block q h n w' None z = refl
      by_block q h n w' (Some b) z = let v = valid f q h in same q pl b.insns b.end (ys ++ replicate (q.values - q.params) 0) (passed pl ys c q.params) w' s1 s2 (first_block q pl ys c b v.0 v.1 n z) st

      by_count : (q : BlockProc) → slice_get ps f ≡ Some q → (((length ys == q.params) ≡ true) × (length ys ≡ q.params)) ⊎ (((length ys == q.params) ≡ false) × (length ys ≢ q.params)) → B.enter (Some q) g (one m) ys w s1 ≡ enter (Some q) pl g (two m) c ys w s2
      by_count q h t = go t
        where
          go1 : List ℕ → Seen
          go1 env = if_value (charged g.frames q.frame w) (seen w (Limited R.Frames)) (λ w'. B.at_block (slice_get q.blocks 0) (one m) q env w' s1)

          go2 : Cells → Seen
          go2 c = if_value (charged g.frames q.frame w) (seen w (Limited R.Frames)) (λ w'. at_block (slice_get q.blocks 0) (two m) q pl c w' s2)

          left : (b : Bool) → (length ys == q.params) ≡ b → if_value (frame_of q.params q.values ys) (seen w Wrong) go1 ≡ if_value (if b then Some (ys ++ replicate (q.values - q.params) 0) else None) (seen w Wrong) go1
          left b z = ap (λ b. if_value (if b then Some (ys ++ replicate (q.values - q.params) 0) else None) (seen w Wrong) go1) z

          right : (b : Bool) → (length ys == q.params) ≡ b → if_value (cells_of q.params pl ys c) (seen w Wrong) go2 ≡ if_value (if b then Some (passed pl ys c q.params) else None) (seen w Wrong) go2
          right b z = ap (λ b. if_value (if b then Some (passed pl ys c q.params) else None) (seen w Wrong) go2) z

          go : (((length ys == q.params) ≡ true) × (length ys ≡ q.params)) ⊎ (((length ys == q.params) ≡ false) × (length ys ≢ q.params)) → if_value (frame_of q.params q.values ys) (seen w Wrong) go1 ≡ if_value (cells_of q.params pl ys c) (seen w Wrong) go2
          go (inl t) = left true t.0 ∙ if_same (charged g.frames q.frame w) (seen w (Limited R.Frames)) (λ w'. B.at_block (slice_get q.blocks 0) (one m) q (ys ++ replicate (q.values - q.params) 0) w' s1) (λ w'. at_block (slice_get q.blocks 0) (two m) q pl (passed pl ys c q.params) w' s2) (λ w'. by_block q h t.1 w' (slice_get q.blocks 0) refl) ∙ sym (right true t.0)
          go (inr t) = left false t.0 ∙ sym (right false t.0)

      by_proc : (o : Option BlockProc) → slice_get ps f ≡ o → B.enter o g (one m) ys w s1 ≡ enter o pl g (two m) c ys w s2
      by_proc None h = refl
      by_proc (Some q) h = by_count q h (eqb_tells (length ys) q.params)

  back_same : (m : ℕ) → Same m → (s1 : List B.Waiting) (s2 : List Waiting) (xs ys : List ℕ) (w : World) → xs ≡ ys → Stacks s1 s2 → B.give_back s1 xs w (one m) ≡ give_back s2 ys w (two m)
  back_same m same _ _ xs ys w e Empty = refl
  back_same m same _ _ xs ys w e (Push q pl rest env c targets x s1 s2 d a st) =
      let o : ℕ → ℕ = λ h. after pl h a.ran (held pl q a.run h) in
      ap (λ r. if_value (F.received targets r env) (seen w Wrong) (λ env. one m (before q rest.insns rest.end env w s1))) e
      ∙ received_same pl q.values targets ys o env c (seen w Wrong) (λ env. one m (before q rest.insns rest.end env w s1)) (λ c. two m (behind q pl rest.insns rest.end c w s2)) a.agrees (λ env' c' r. same q pl rest.insns rest.end env' c' w s1 s2 (moved q pl x rest.insns rest.end env env' c c' a (agrees_by pl q.values (λ h. put pl h targets (o h)) (λ h. put pl h (sets x) (o h)) env' c' (λ h. ap (λ l. put pl h l (o h)) d) r)) st)

  branch_in : (n y a b : ℕ) → Contains (goes_to (E.Branch y a b)) (branch_to n a b)
  branch_in zero y a b = (1, omega arith, refl)
  branch_in (suc n) y a b = (0, omega arith, refl)

  insn_same : (m : ℕ) → Same m → (i : BlockInsn) (q : BlockProc) (pl : List ℕ) (rest : List BlockInsn) (end : BlockEnd) (env : List ℕ) (c : Cells) (w : World) (s1 : List B.Waiting) (s2 : List Waiting) → At q pl (i ∷ rest) end env c → Stacks s1 s2 → one (suc m) (before q (i ∷ rest) end env w s1) ≡ two (suc m) (behind q pl (i ∷ rest) end c w s2)
  insn_same m same (I.Number x n) q pl rest end env c w s1 s2 a st = set_same m same q pl (I.Number x n) rest end env c w s1 s2 x n n refl refl a st
  insn_same m same (I.Copy x y) q pl rest end env c w s1 s2 a st =
      let ey = used q pl (I.Copy x y ∷ rest) end env c a y (0, omega arith, refl) in
      set_same m same q pl (I.Copy x y) rest end env c w s1 s2 x (slice_index env y) (value pl c y) refl ey a st
  insn_same m same (I.Binary o x y z) q pl rest end env c w s1 s2 a st =
      let ey = used q pl (I.Binary o x y z ∷ rest) end env c a y (0, omega arith, refl) in
      let ez = used q pl (I.Binary o x y z ∷ rest) end env c a z (1, omega arith, refl) in
      set_same m same q pl (I.Binary o x y z) rest end env c w s1 s2 x (result_of o (slice_index env y) (slice_index env z)) (result_of o (value pl c y) (value pl c z)) refl (ap (λ n. result_of o n (slice_index env z)) ey ∙ ap (λ n. result_of o (value pl c y) n) ez) a st
  insn_same m same (I.Load x s is_signed y) q pl rest end env c w s1 s2 a st =
      let ey = used q pl (I.Load x s is_signed y ∷ rest) end env c a y (0, omega arith, refl) in
      ap (λ n. if_value (loaded (size_of_width s) g.areas w.memory n) (seen w Wrong) (λ v. one m (before q rest end (slice_set env x (extended s is_signed v)) w s1))) ey
      ∙ if_same (loaded (size_of_width s) g.areas w.memory (value pl c y)) (seen w Wrong) (λ v. one m (before q rest end (slice_set env x (extended s is_signed v)) w s1)) (λ v. two m (behind q pl rest end (set_value pl c x (extended s is_signed v)) w s2)) (λ v. set_same m same q pl (I.Load x s is_signed y) rest end env c w s1 s2 x (extended s is_signed v) (extended s is_signed v) refl refl a st)
  insn_same m same (I.Store s y z) q pl rest end env c w s1 s2 a st =
      let ey = used q pl (I.Store s y z ∷ rest) end env c a y (0, omega arith, refl) in
      let ez = used q pl (I.Store s y z ∷ rest) end env c a z (1, omega arith, refl) in
      ap (λ n. if_value (stored (size_of_width s) g.areas w.memory n (slice_index env z)) (seen w Wrong) (λ k. one m (before q rest end env (with_memory w k) s1))) ey
      ∙ ap (λ n. if_value (stored (size_of_width s) g.areas w.memory (value pl c y) n) (seen w Wrong) (λ k. one m (before q rest end env (with_memory w k) s1))) ez
      ∙ if_same (stored (size_of_width s) g.areas w.memory (value pl c y) (value pl c z)) (seen w Wrong) (λ k. one m (before q rest end env (with_memory w k) s1)) (λ k. two m (behind q pl rest end c (with_memory w k) s2)) (λ k. world_same m same q pl (I.Store s y z) rest end env c (with_memory w k) s1 s2 refl a st)
  insn_same m same (I.ProcAddress x p) q pl rest end env c w s1 s2 a st = set_same m same q pl (I.ProcAddress x p) rest end env c w s1 s2 x (g.procs p) (g.procs p) refl refl a st
  insn_same m same (I.ImageAddress x n) q pl rest end env c w s1 s2 a st = set_same m same q pl (I.ImageAddress x n) rest end env c w s1 s2 x (g.image + n) (g.image + n) refl refl a st
  insn_same m same (I.Call xs p ys) q pl rest end env c w s1 s2 a st =
      let es = found_same pl env c ys (used q pl (I.Call xs p ys ∷ rest) end env c a) in
      enter_same m same p (entered m) (B.held env ys) (values pl c ys) w _ _ es (Push q pl (record { insns = rest; end = end }) env c xs (I.Call xs p ys) s1 s2 refl a st)
  insn_same m same (I.CallAt xs y ys) q pl rest end env c w s1 s2 a st =
      let find = used q pl (I.CallAt xs y ys ∷ rest) end env c a in
      let ey = find y (0, omega arith, refl) in
      let es = found_same pl env c ys (λ v k. find v (suc k.0, omega (arith, k.1), k.2)) in
      let k : Block = record { insns = rest; end = end } in
      let w1 : B.Waiting = record { proc = q; rest = k; env = env; targets = xs } in
      let w2 : Waiting = record { proc = q; places = pl; rest = k; cells = c; targets = xs } in
      ap (λ n. if_value (proc_at g.procs g.count n) (seen w Wrong) (λ p. B.enter (slice_get ps p) g (one m) (B.held env ys) w (w1 ∷ s1))) ey
      ∙ if_same (proc_at g.procs g.count (value pl c y)) (seen w Wrong) (λ p. B.enter (slice_get ps p) g (one m) (B.held env ys) w (w1 ∷ s1)) (λ p. enter (slice_get ps p) (places_at hs p) g (two m) (entered m) (values pl c ys) w (w2 ∷ s2)) (λ p. enter_same m same p (entered m) (B.held env ys) (values pl c ys) w (w1 ∷ s1) (w2 ∷ s2) es (Push q pl k env c xs (I.CallAt xs y ys) s1 s2 refl a st))
  insn_same m same (I.Take x) q pl rest end env c w s1 s2 a st = set_same m same q pl (I.Take x) rest end env c (took w.unread w) s1 s2 x (first_byte w.unread) (first_byte w.unread) refl refl a st
  insn_same m same (I.Give y) q pl rest end env c w s1 s2 a st =
      let ey = used q pl (I.Give y ∷ rest) end env c a y (0, omega arith, refl) in
      ap (λ n. one m (before q rest end env (gave w (n % 256)) s1)) ey ∙ world_same m same q pl (I.Give y) rest end env c (gave w (value pl c y % 256)) s1 s2 refl a st

  end_same : (m : ℕ) → Same m → (end : BlockEnd) (q : BlockProc) (pl : List ℕ) (env : List ℕ) (c : Cells) (w : World) (s1 : List B.Waiting) (s2 : List Waiting) → At q pl [] end env c → Stacks s1 s2 → one (suc m) (before q [] end env w s1) ≡ two (suc m) (behind q pl [] end c w s2)
  end_same m same (E.Jump b) q pl env c w s1 s2 a st = go_same m same q pl (E.Jump b) env c w s1 s2 b a st (0, omega arith, refl)
  end_same m same (E.Branch y t u) q pl env c w s1 s2 a st =
      let ey = used q pl [] (E.Branch y t u) env c a y (0, omega arith, refl) in
      ap (λ n. B.at_block (slice_get q.blocks (branch_to n t u)) (one m) q env w s1) ey ∙ go_same m same q pl (E.Branch y t u) env c w s1 s2 (branch_to (value pl c y) t u) a st (branch_in (value pl c y) y t u)
  end_same m same (E.Return ys) q pl env c w s1 s2 a st = back_same m same s1 s2 (B.held env ys) (values pl c ys) (with_frames w (w.frames - q.frame)) (found_same pl env c ys (used q pl [] (E.Return ys) env c a)) st
  end_same m same (E.Stop y) q pl env c w s1 s2 a st = ap (λ n. seen w (stop_code n)) (used q pl [] (E.Stop y) env c a y (0, omega arith, refl))
  end_same m same (E.Limit l) q pl env c w s1 s2 a st = refl

  pub steps_same : (m : ℕ) → Same m
  steps_same zero q pl rest end env c w s1 s2 a st = refl
  steps_same (suc m) q pl [] end env c w s1 s2 a st = end_same m (steps_same m) end q pl env c w s1 s2 a st
  steps_same (suc m) q pl (x ∷ rest) end env c w s1 s2 a st = insn_same m (steps_same m) x q pl rest end env c w s1 s2 a st

pub runs_same : (q : BlockProgram) (hs : List Assignment) → AllValid q.procs hs → (entered : ℕ → Cells) (g : Placement) (input : List ℕ) (m : ℕ) → homed q hs entered g input m ≡ blocks q g input m
runs_same q hs valid entered g input zero = refl
runs_same q hs valid entered g input (suc m) =
    let at = P.places (length q.procs) (length q.image) g in
    let args = entry_arguments (params_of (slice_get q.procs q.entry)) (length q.image) g in
    sym (enter_same q.procs hs valid at entered m (steps_same q.procs hs valid at entered m) q.entry (entered m) args args (starting (first_bytes g q.image q.fixes) input) [] [] refl Empty)
