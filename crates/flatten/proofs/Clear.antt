-- Blocks that don't use a value before it is set, where it isn't set before them.
use Rattle.std.proofs.Common.{◌≡◌, ℕ, zero, suc, ◌+◌, List, [], ◌∷◌, ◌++◌, Bool, true, false, refl, ap, ◌∙◌, arith, inl, inr}
use Rattle.std.specs.Prelude.{◌⊎◌, ◌&&◌, ◌||◌, not, nat_eq, Contains, Any}
use Rattle.std.proofs.lemmas.Bool.Decides.{nat_tests}
use Rattle.flat_ir.specs.Tree.{Expr, Num, Val, Bin, Load, ProcAt, ImageAt}
use Rattle.flat_ir.specs.Checked.{uses, any_uses, any_is}
use Rattle.flatten.specs.declared.blocks.BlockInsn.{BlockInsn}
use Rattle.flatten.specs.declared.blocks.BlockInsn.TheVariants as I
use Rattle.flatten.specs.declared.blocks.BlockEnd.{BlockEnd}
use Rattle.flatten.specs.declared.blocks.Block.{Block}
use Rattle.flatten.specs.Code.{before, place, expr_code, operand, operands, places_of}
use Rattle.flatten.specs.Paths.{sets, uses_of, end_uses, goes_to, SetIn}

pub head_in : {X : Type 0} (x : X) (xs : List X) → Contains (x ∷ xs) x
head_in x xs = (0, omega arith, refl)

pub tail_in : {X : Type 0} (y : X) (xs : List X) (x : X) → Contains xs x → Contains (y ∷ xs) x
tail_in y xs x (k, lt, e) = (suc k, omega (arith, lt), e)

pub in_cases : {X : Type 0} (y : X) (xs : List X) (x : X) → Contains (y ∷ xs) x → (y ≡ x) ⊎ Contains xs x
in_cases y xs x (zero, lt, e) = inl e
in_cases y xs x (suc k, lt, e) = inr (k, omega (arith, lt), e)

pub in_none : {X : Type 0} (x : X) → ¬ Contains [] x
in_none x (k, lt, e) = absurd (omega (arith, lt))

pub any_head : {X : Type 0} (P : X → Type 0) (x : X) (xs : List X) → P x → Any P (x ∷ xs)
any_head P x xs h = (0, x, omega arith, refl, h)

pub any_tail : {X : Type 0} (P : X → Type 0) (y : X) (xs : List X) → Any P xs → Any P (y ∷ xs)
any_tail P y xs (k, x, lt, e, h) = (suc k, x, omega (arith, lt), e, h)

pub or_left : (a b : Bool) → (a || b) ≡ false → a ≡ false
or_left true b h = absurd (cc)
or_left false b h = refl

pub or_right : (a b : Bool) → (a || b) ≡ false → b ≡ false
or_right true b h = absurd (cc)
or_right false b h = h

pub differ : (x y : ℕ) → nat_eq y x ≡ false → ¬ (y ≡ x)
differ x y h e = absurd (grind (arith, nat_tests))

pub unequal : (x y : ℕ) → ¬ (y ≡ x) → nat_eq y x ≡ false
unequal x y h = grind (arith, nat_tests)

-- what a test of a value that isn't set says
pub kept : (set after : Bool) → set ≡ false → (not set && after) ≡ false → after ≡ false
kept true after e h = absurd (cc)
kept false after e h = h

pub not_in : (x : ℕ) (xs : List ℕ) → ¬ Contains xs x → any_is x xs ≡ false
not_in x [] h = refl
not_in x (y ∷ ys) h = go (nat_eq y x) refl (not_in x ys (λ c. h (tail_in y ys x c)))
  where
    go : (b : Bool) → nat_eq y x ≡ b → any_is x ys ≡ false → (nat_eq y x || any_is x ys) ≡ false
    go true eb r = let e : y ≡ x = grind (arith, nat_tests) in absurd (h (0, omega arith, e))
    go false eb r = ap (λ b. b || any_is x ys) eb ∙ r

-- whether a value is in a list
pub is_in : (x : ℕ) (xs : List ℕ) → Contains xs x ⊎ (¬ Contains xs x)
is_in x [] = inr (in_none x)
is_in x (y ∷ ys) = go (nat_eq y x) refl (is_in x ys)
  where
    go : (b : Bool) → nat_eq y x ≡ b → Contains ys x ⊎ (¬ Contains ys x) → Contains (y ∷ ys) x ⊎ (¬ Contains (y ∷ ys) x)
    go true eb r = let e : y ≡ x = grind (arith, nat_tests) in inl (0, omega arith, e)
    go false eb (inl c) = inl (tail_in y ys x c)
    go false eb (inr n) = inr (λ c. elim (in_cases y ys x c) as (λ v. ⊥) [ inl e ↦ differ x y eb e | inr d ↦ n d ])

module _ (x : ℕ) (Safe : ℕ → Type 0) where
  pub record EndClear (e : BlockEnd) : Type 0 where
    pub unused : ¬ Contains (end_uses e) x
    pub safe : (b : ℕ) → Contains (goes_to e) b → Safe b

  -- an instruction doesn't use the value, and what follows is clear, if the instruction doesn't set it
  abbrev pub InsnsClear : List BlockInsn → BlockEnd → Type 0
  InsnsClear [] e = EndClear e
  InsnsClear (i ∷ is) e = (¬ Contains (uses_of i) x) × (¬ Contains (sets i) x → InsnsClear is e)

  abbrev pub Clear : Block → Type 0
  Clear k = InsnsClear k.insns k.end

  one_less : (y : ℕ) → ¬ Contains (y ∷ []) x → ¬ (y ≡ x)
  one_less y h e = h (0, omega arith, e)

  one_more : (y : ℕ) → ¬ (y ≡ x) → ¬ Contains (y ∷ []) x
  one_more y h c = elim (in_cases y [] x c) as (λ v. ⊥) [ inl e ↦ h e | inr d ↦ in_none x d ]

  two_more : (y z : ℕ) → ¬ (y ≡ x) → ¬ (z ≡ x) → ¬ Contains (y ∷ z ∷ []) x
  two_more y z hy hz c = elim (in_cases y (z ∷ []) x c) as (λ v. ⊥) [ inl e ↦ hy e | inr d ↦ one_more z hz d ]

  operand_from : (e : Expr) (t : ℕ) (k : Block) → uses x e ≡ false → (¬ (place e t ≡ x) → Clear k) → ((¬ (t ≡ x) → Clear k) → Clear (expr_code e t t k)) → Clear (operand e t k)
  operand_from (Val y) t k u h he = h (differ x y u)
  operand_from (Num n) t k u h he = he h
  operand_from (Bin o a b) t k u h he = he h
  operand_from (Load w s a) t k u h he = he h
  operand_from (ProcAt p) t k u h he = he h
  operand_from (ImageAt n) t k u h he = he h

  pub expr_clear : (e : Expr) (y t : ℕ) (k : Block) → uses x e ≡ false → (¬ (y ≡ x) → Clear k) → Clear (expr_code e y t k)
  expr_clear (Num n) y t k u h = (in_none x, λ n. h (one_less y n))
  expr_clear (Val z) y t k u h = (one_more z (differ x z u), λ n. h (one_less y n))
  expr_clear (Bin o a b) y t k u h =
      let last = before (I.Binary o y (place a t) (place b (t + 1))) k in
      let ua = or_left (uses x a) (uses x b) u in
      let ub = or_right (uses x a) (uses x b) u in
      let second : ¬ (place a t ≡ x) → Clear (operand b (t + 1) last) =
      λ na. (let third : ¬ (place b (t + 1) ≡ x) → Clear last = λ nb. (two_more (place a t) (place b (t + 1)) na nb, λ n. h (one_less y n)) in operand_from b (t + 1) last ub third (expr_clear b (t + 1) (t + 1) last ub)) in
      operand_from a t (operand b (t + 1) last) ua second (expr_clear a t t (operand b (t + 1) last) ua)
  expr_clear (Load w s a) y t k u h =
      let last = before (I.Load y w s (place a t)) k in
      let second : ¬ (place a t ≡ x) → Clear last = λ na. (one_more (place a t) na, λ n. h (one_less y n)) in
      operand_from a t last u second (expr_clear a t t last u)
  expr_clear (ProcAt p) y t k u h = (in_none x, λ n. h (one_less y n))
  expr_clear (ImageAt n) y t k u h = (in_none x, λ n. h (one_less y n))

  pub operand_clear : (e : Expr) (t : ℕ) (k : Block) → uses x e ≡ false → (¬ (place e t ≡ x) → Clear k) → Clear (operand e t k)
  operand_clear e t k u h = operand_from e t k u h (expr_clear e t t k u)

  pub operands_clear : (es : List Expr) (t : ℕ) (k : Block) → any_uses x es ≡ false → (¬ Contains (places_of es t) x → Clear k) → Clear (operands es t k)
  operands_clear [] t k u h = h (in_none x)
  operands_clear (e ∷ es) t k u h =
      operand_clear e t (operands es (t + 1) k) (or_left (uses x e) (any_uses x es) u) (λ ne. operands_clear es (t + 1) k (or_right (uses x e) (any_uses x es) u) (λ nes. h (λ c. elim (in_cases (place e t) (places_of es (t + 1)) x c) as (λ v. ⊥) [ inl q ↦ ne q | inr d ↦ nes d ])))

  -- clear instructions set the value, or the end behind them is clear
  pub walked : (is : List BlockInsn) (e : BlockEnd) → InsnsClear is e → SetIn x is ⊎ EndClear e
  walked [] e h = inr h
  walked (i ∷ is) e h = elim (is_in x (sets i)) as (λ v. SetIn x (i ∷ is) ⊎ EndClear e) [
    | inl c ↦ inl (any_head (λ i. Contains (sets i) x) i is c)
    | inr n ↦ elim (walked is e (h.1 n)) as (λ v. SetIn x (i ∷ is) ⊎ EndClear e) [ inl s ↦ inl (any_tail (λ i. Contains (sets i) x) i is s) | inr r ↦ inr r ]
  ]

  -- and so it is at each of them
  pub walked_to : (done : List BlockInsn) (i : BlockInsn) (rest : List BlockInsn) (e : BlockEnd) → InsnsClear (done ++ i ∷ rest) e → SetIn x done ⊎ (¬ Contains (uses_of i) x)
  walked_to [] i rest e h = inr h.0
  walked_to (j ∷ done) i rest e h = elim (is_in x (sets j)) as (λ v. SetIn x (j ∷ done) ⊎ (¬ Contains (uses_of i) x)) [
    | inl c ↦ inl (any_head (λ i. Contains (sets i) x) j done c)
    | inr n ↦ elim (walked_to done i rest e (h.1 n)) as (λ v. SetIn x (j ∷ done) ⊎ (¬ Contains (uses_of i) x)) [ inl s ↦ inl (any_tail (λ i. Contains (sets i) x) j done s) | inr r ↦ inr r ]
  ]
