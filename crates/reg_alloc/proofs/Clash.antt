-- Where no value is written to the home of another that is live, each use is kept.
use Rattle.std.proofs.Common.{◌≡◌, ◌≢◌, ℕ, zero, suc, ◌<◌, ◌≤◌, cond, ◌⊎◌, inl, inr, List, [], ◌∷◌, ◌++◌, length, take, drop, refl, sym, ap, ◌∙◌, subst, arith, Option, Some, None, append_assoc, append-nil, length-append}
use Rattle.std.proofs.lemmas.List.{take-append-drop}
use Rattle.std.specs.Prelude.{slice_get, slice_index, Contains, Any}
use Rattle.std.proofs.lemmas.Bool.Decides.{eqb_tells}
use Rattle.flatten.specs.declared.blocks.BlockInsn.{BlockInsn}
use Rattle.flatten.specs.declared.blocks.BlockEnd.{BlockEnd}
use Rattle.flatten.specs.declared.blocks.Block.{Block}
use Rattle.flatten.specs.declared.blocks.BlockProc.{BlockProc}
use Rattle.flatten.specs.Paths.{sets, uses_of, end_uses, goes_to, Path, Start, On, SetIn, IsSet, UsesAreSet}
use Rattle.block_homes.specs.Held.{uses_from, wrote, put, after, starting, held}
use Rattle.block_homes.specs.Valid.{Kept}
use Rattle.block_homes.proofs.Lockstep.{after_append}
use Rattle.reg_alloc.specs.Live.{LiveAt}
use Rattle.reg_alloc.specs.Live.LiveAt.{Used, Passed, UsedLast, Gone}

-- no write to the home of another value that is live behind it
pub record Apart (pl : List ℕ) (p : BlockProc) : Type 0 where
  pub insn : (b : ℕ) (block : Block) (ran : List BlockInsn) (x : BlockInsn) (rest : List BlockInsn) (v w : ℕ) → slice_get p.blocks b ≡ Some block → block.insns ≡ ran ++ x ∷ rest → Contains (sets x) w → LiveAt p.blocks v rest block.end → slice_index pl w ≡ slice_index pl v → w ≡ v
  pub start : (block : Block) (v w : ℕ) → slice_get p.blocks 0 ≡ Some block → v < p.params → w < p.params → LiveAt p.blocks v block.insns block.end → slice_index pl w ≡ slice_index pl v → w ≡ v

same_or : (a b : ℕ) → (a ≡ b) ⊎ (a ≢ b)
same_or a b = elim (eqb_tells a b) [ inl e ↦ inl e.1 | inr e ↦ inr e.1 ]

wrote_same : (pl : List ℕ) (h w o : ℕ) → slice_index pl w ≡ h → wrote pl h w o ≡ w
wrote_same pl h w o e = elim (eqb_tells (slice_index pl w) h) [ inl t ↦ ap (λ b. cond b w o) t.0 | inr f ↦ absurd (f.1 e) ]

wrote_other : (pl : List ℕ) (h w o : ℕ) → slice_index pl w ≢ h → wrote pl h w o ≡ o
wrote_other pl h w o n = elim (eqb_tells (slice_index pl w) h) [ inl t ↦ absurd (n t.1) | inr f ↦ ap (λ b. cond b w o) f.0 ]

use_live : (bs : List Block) (v : ℕ) (xs : List BlockInsn) (e : BlockEnd) → Contains (uses_from xs e 0) v → LiveAt bs v xs e
use_live bs v [] e a = UsedLast e a
use_live bs v (x ∷ xs) e a = Used x xs e a

-- one of some
any_cases : {X : Type 0} (P : X → Type 0) (x : X) (xs : List X) → Any P (x ∷ xs) → P x ⊎ Any P xs
any_cases P x xs (zero, y, lt, e, h) = inl (subst P (sym e) h)
any_cases P x xs (suc k, y, lt, e, h) = inr (k, y, omega (arith, lt), e, h)

any_none : {X : Type 0} (P : X → Type 0) → Any P [] → ⊥
any_none P (k, y, lt, e, h) = omega (arith, lt)

any_split : {X : Type 0} (P : X → Type 0) (xs ys : List X) → Any P (xs ++ ys) → Any P xs ⊎ Any P ys
any_split P [] ys d = inr d
any_split P (x ∷ xs) ys d =
    elim (any_cases P x (xs ++ ys) d) [
      | inl h ↦ inl (0, x, omega arith, refl, h)
      | inr r ↦ elim (any_split P xs ys r) [ inl a ↦ inl (suc a.0, a.1, omega (arith, a.2), a.3, a.4) | inr b ↦ inr b ]
    ]

in_cases : (y : ℕ) (xs : List ℕ) (x : ℕ) → Contains (y ∷ xs) x → (y ≡ x) ⊎ Contains xs x
in_cases y xs x (zero, lt, e) = inl e
in_cases y xs x (suc k, lt, e) = inr (k, omega (arith, lt), e)

-- what is before the last instruction, and that instruction
abbrev Last : List BlockInsn → Type 0
Last xs = (xs ≡ []) ⊎ ((front : List BlockInsn) × (x : BlockInsn) × (xs ≡ front ++ x ∷ []))

last_of : (xs : List BlockInsn) → Last xs
last_of [] = inl refl
last_of (x ∷ xs) = elim (last_of xs) [ inl z ↦ inr ([], x, ap (λ l. x ∷ l) z) | inr r ↦ inr (x ∷ r.0, r.1, ap (λ l. x ∷ l) r.2) ]

module _ (pl : List ℕ) (p : BlockProc) (apart : Apart pl p) (v : ℕ) where
  abbrev h : ℕ
  h = slice_index pl v

  abbrev at_start : List Block → ℕ
  at_start run = held pl p run h

  -- the value is a parameter, or a block that has run sets it
  abbrev Given : List Block → Type 0
  Given run = (v < p.params) ⊎ Any (λ k. SetIn v k.insns) run

  -- the parameters
  params_hold : (block : Block) → slice_get p.blocks 0 ≡ Some block → LiveAt p.blocks v block.insns block.end → v < p.params → (n : ℕ) → n ≤ p.params → v < n → starting pl p.values h n ≡ v
  params_hold block g live vp zero le lt = absurd (omega (arith, lt))
  params_hold block g live vp (suc n) le lt = elim (same_or n v) [ inl e ↦ wrote_same pl h n (starting pl p.values h n) (ap (λ z. slice_index pl z) e) ∙ e | inr ne ↦ wrote_other pl h n (starting pl p.values h n) (λ q. ne (apart.start block v n g vp (omega (arith, le)) live q)) ∙ params_hold block g live vp n (omega (arith, le)) (omega (arith, lt, ne)) ]

  -- one more instruction
  abbrev Holds : List Block → List BlockInsn → Type 0
  Holds run ran = after pl h ran (at_start run) ≡ v

  put_holds : (vs : List ℕ) (o : ℕ) → ((w : ℕ) → Contains vs w → slice_index pl w ≡ h → w ≡ v) → ((¬ Contains vs v) → o ≡ v) → put pl h vs o ≡ v
  put_holds [] o ok old = old (λ c. omega (arith, c.1))
  put_holds (w ∷ vs) o ok old = put_holds vs (wrote pl h w o) (λ u m. ok u (suc m.0, omega (arith, m.1), m.2)) (λ nm. elim (same_or w v) [ inl e ↦ wrote_same pl h w o (ap (λ z. slice_index pl z) e) ∙ e | inr ne ↦ wrote_other pl h w o (λ q. ne (ok w (0, omega arith, refl) q)) ∙ old (λ c. elim (in_cases w vs v c) as (λ _. ⊥) [ inl e ↦ ne e | inr m ↦ nm m ]) ])

  -- nothing has run in the block
  none_ran : (block : Block) (run : List Block) (ran rest : List BlockInsn) → (LiveAt p.blocks v block.insns block.end → Given run → at_start run ≡ v) → block.insns ≡ ran ++ rest → LiveAt p.blocks v rest block.end → IsSet p run ran v → ran ≡ [] → Holds run ran
  none_ran block run ran rest begin e live given z =
      let e' : block.insns ≡ rest = e ∙ ap (λ l. l ++ rest) z in
      let given' : Given run = elim given [ inl d ↦ inl d | inr y ↦ elim y [ inl a ↦ inr a | inr s ↦ absurd (any_none (λ i. Contains (sets i) v) (subst (λ l. SetIn v l) z s)) ] ] in
      ap (λ l. after pl h l (at_start run)) z ∙ begin (subst (λ l. LiveAt p.blocks v l block.end) (sym e') live) given'

  -- an instruction has run
  one_ran : (b : ℕ) (block : Block) (run : List Block) (ran rest front : List BlockInsn) (x : BlockInsn) → slice_get p.blocks b ≡ Some block → block.insns ≡ ran ++ rest → LiveAt p.blocks v rest block.end → IsSet p run ran v → ran ≡ front ++ x ∷ [] → (block.insns ≡ front ++ x ∷ rest → LiveAt p.blocks v (x ∷ rest) block.end → IsSet p run front v → Holds run front) → Holds run ran
  one_ran b block run ran rest front x g e live given q before =
      let e' : block.insns ≡ front ++ x ∷ rest = e ∙ ap (λ l. l ++ rest) q ∙ append_assoc front (x ∷ []) rest in
      let has : (¬ Contains (sets x) v) → IsSet p run front v = λ nd. elim given [ inl y ↦ inl y | inr y ↦ elim y [ inl a ↦ inr (inl a) | inr s ↦ elim (any_split (λ i. Contains (sets i) v) front (x ∷ []) (subst (λ l. SetIn v l) q s)) [ inl f ↦ inr (inr f) | inr o ↦ elim (any_cases (λ i. Contains (sets i) v) x [] o) [ inl c ↦ absurd (nd c) | inr n ↦ absurd (any_none (λ i. Contains (sets i) v) n) ] ] ] ] in
      ap (λ l. after pl h l (at_start run)) q ∙ after_append pl h front (x ∷ []) (at_start run) ∙ put_holds (sets x) (after pl h front (at_start run)) (λ w d s. apart.insn b block front x rest v w g e' d live s) (λ nd. before e' (Passed x rest block.end nd live) (has nd))

  -- by the number of instructions that have run in the block
  block_holds : (n : ℕ) (b : ℕ) (block : Block) (run : List Block) → slice_get p.blocks b ≡ Some block → (LiveAt p.blocks v block.insns block.end → Given run → at_start run ≡ v) → (ran rest : List BlockInsn) → length ran ≤ n → block.insns ≡ ran ++ rest → LiveAt p.blocks v rest block.end → IsSet p run ran v → Holds run ran
  block_holds zero b block run g begin ran rest le e live given = elim (last_of ran) [ inl z ↦ none_ran block run ran rest begin e live given z | inr r ↦ absurd (let l = ap length r.2 in let m = length-append r.0 (r.1 ∷ []) in omega (arith, l, m, le)) ]
  block_holds (suc n) b block run g begin ran rest le e live given =
      elim (last_of ran) [ inl z ↦ none_ran block run ran rest begin e live given z | inr r ↦ one_ran b block run ran rest r.0 r.1 g e live given r.2 (λ e' live' given'. block_holds n b block run g begin r.0 (r.1 ∷ rest) (let l = ap length r.2 in let m = length-append r.0 (r.1 ∷ []) in omega (arith, l, m, le)) e' live' given') ]

  -- as a block begins
  begin_holds : (run : List Block) (b : ℕ) (block : Block) → Path p run b → slice_get p.blocks b ≡ Some block → LiveAt p.blocks v block.insns block.end → Given run → at_start run ≡ v
  begin_holds _ _ block Start g live given = elim given [ inl lt ↦ params_hold block g live lt p.params (omega arith) lt | inr a ↦ absurd (any_none (λ k. SetIn v k.insns) a) ]
  begin_holds _ _ block (On run c k next path e m) g live given =
      let has : IsSet p run k.insns v = elim given [ inl lt ↦ inl lt | inr a ↦ elim (any_cases (λ k. SetIn v k.insns) k run a) [ inl s ↦ inr (inr s) | inr r ↦ inr (inl r) ] ] in
      block_holds (length k.insns) c k run e (λ live' given'. begin_holds run c k path e live' given') k.insns [] (omega arith) (sym (append-nil k.insns)) (Gone k.end next block m g live) has

uses_drop : (xs : List BlockInsn) (e : BlockEnd) (i v : ℕ) → Contains (uses_from xs e i) v → Contains (uses_from (drop i xs) e 0) v
uses_drop [] e zero v a = a
uses_drop [] e (suc i) v a = absurd (omega (arith, a.1))
uses_drop (x ∷ xs) e zero v a = a
uses_drop (x ∷ xs) e (suc i) v a = uses_drop xs e i v a

-- each use is kept
pub apart_kept : (pl : List ℕ) (p : BlockProc) → Apart pl p → UsesAreSet p → (b i : ℕ) → Kept pl p b i
apart_kept pl p apart defined b i run k v path g m = block_holds pl p apart v (length ran) b k run g (begin_holds pl p apart v run b k path g) ran rest (omega arith) e (use_live p.blocks v rest k.end m') (has rest refl)
  where
    ran : List BlockInsn
    ran = take i k.insns

    rest : List BlockInsn
    rest = drop i k.insns

    e : k.insns ≡ ran ++ rest
    e = sym (take-append-drop i k.insns)

    m' : Contains (uses_from rest k.end 0) v
    m' = uses_drop k.insns k.end i v m

    has : (l : List BlockInsn) → rest ≡ l → IsSet p run ran v
    has [] z =
        let whole : k.insns ≡ ran = e ∙ ap (λ l. ran ++ l) z ∙ append-nil ran in
        subst (λ l. IsSet p run l v) whole (defined.ends run b k path g v (subst (λ l. Contains (uses_from l k.end 0) v) z m'))
    has (x ∷ xs) z = defined.insns run b k path g ran x xs (e ∙ ap (λ l. ran ++ l) z) v (subst (λ l. Contains (uses_from l k.end 0) v) z m')
