-- What the values of blocks hold, beside those of structured code.
use Rattle.std.proofs.Common.{◌≡◌, ℕ, ◌<◌, ◌≤◌, List, [], ◌∷◌, length, Some, None, Bool, true, false, refl, sym, ap, ◌∙◌, arith, inl, inr}
use Rattle.std.specs.Prelude.{◌⊎◌, ◌&&◌, nat_lt, slice_set, slice_index}
use Rattle.std.specs.List.{list_all}
use Rattle.std.proofs.lemmas.List.{get_or-set_same, get_or-set_other, length-set}
use Rattle.std.proofs.lemmas.Bool.Decides.{nat_tests}
use Rattle.flat_ir.specs.Tree.{Expr, Num, Val, Bin, Load, ProcAt, ImageAt}
use Rattle.flat_ir.specs.Checked.{expr_fits}
use Rattle.flat_ir.specs.Flat.{received}
use Rattle.flatten.specs.Blocks.{held}
use Rattle.flatten.specs.Code.{place}

pub and_left : (a b : Bool) → (a && b) ≡ true → a ≡ true
and_left true b h = refl
and_left false b h = h

pub and_right : (a b : Bool) → (a && b) ≡ true → b ≡ true
and_right true b h = h
and_right false b h = absurd (cc)

pub below : (x n : ℕ) → nat_lt x n ≡ true → x < n
below x n h = grind (arith, nat_tests)

-- the values of structured code are the first of the blocks' n values
pub record Agrees (v n : ℕ) (env env' : List ℕ) : Type 0 where
  pub long : length env ≡ v
  pub wide : length env' ≡ n
  pub fits : v ≤ n
  pub same : (x : ℕ) → x < v → slice_index env' x ≡ slice_index env x

-- a value holds what was computed, and the values below t are as before
pub record Computed (n t x val : ℕ) (env env' : List ℕ) : Type 0 where
  pub wide : length env' ≡ n
  pub has : slice_index env' x ≡ val
  pub keeps : (y : ℕ) → y < t → slice_index env' y ≡ slice_index env y

-- the same, where the value itself may be one below t
pub record Put (n t x val : ℕ) (env env' : List ℕ) : Type 0 where
  pub wide : length env' ≡ n
  pub has : slice_index env' x ≡ val
  pub keeps : (y : ℕ) → y < t → ¬ (y ≡ x) → slice_index env' y ≡ slice_index env y

pub record Listed (n t : ℕ) (xs vals : List ℕ) (env env' : List ℕ) : Type 0 where
  pub wide : length env' ≡ n
  pub has : held env' xs ≡ vals
  pub keeps : (y : ℕ) → y < t → slice_index env' y ≡ slice_index env y

pub set_has : (l : List ℕ) (x v : ℕ) → x < length l → slice_index (slice_set l x v) x ≡ v
set_has l x v h = get_or-set_same l x v 0 h

pub set_keeps : (l : List ℕ) (x v y : ℕ) → ¬ (y ≡ x) → slice_index (slice_set l x v) y ≡ slice_index l y
set_keeps l x v y h = get_or-set_other l x y v 0 h

pub put_done : (n t x v val : ℕ) (env : List ℕ) → length env ≡ n → x < n → v ≡ val → Put n t x val env (slice_set env x v)
put_done n t x v val env wide lt e = record {
  wide = length-set env x v ∙ wide;
  has = set_has env x v (omega arith) ∙ e;
  keeps = λ y ly ne. set_keeps env x v y ne;
}

pub put_after : (n t u x v val : ℕ) (env mid : List ℕ) → length mid ≡ n → x < n → v ≡ val → t ≤ u → ((y : ℕ) → y < t → slice_index mid y ≡ slice_index env y) → Put n t x val env (slice_set mid x v)
put_after n t u x v val env mid wide lt e le keeps = record {
  wide = length-set mid x v ∙ wide;
  has = set_has mid x v (omega arith) ∙ e;
  keeps = λ y ly ne. set_keeps mid x v y ne ∙ keeps y ly;
}

-- an expression's spare value
pub of_put : (n t val : ℕ) (env env' : List ℕ) → Put n t t val env env' → Computed n t t val env env'
of_put n t val env env' h = record { wide = h.wide; has = h.has; keeps = λ y ly. h.keeps y ly (omega arith) }

pub agrees_on : (v n t : ℕ) (env env' env'' : List ℕ) → v ≤ t → Agrees v n env env' → length env'' ≡ n → ((y : ℕ) → y < t → slice_index env'' y ≡ slice_index env' y) → Agrees v n env env''
agrees_on v n t env env' env'' le a wide keeps = record { long = a.long; wide = wide; fits = a.fits; same = λ x lt. keeps x (omega arith) ∙ a.same x lt }

-- a value of structured code is set
pub agrees_set : (v n x val : ℕ) (env env' env'' : List ℕ) → x < v → Agrees v n env env' → Put n v x val env' env'' → Agrees v n (slice_set env x val) env''
agrees_set v n x val env env' env'' lt a h = record { long = length-set env x val ∙ a.long; wide = h.wide; fits = a.fits; same = λ y ly. go y ly (nat_lt y x) refl (nat_lt x y) refl }
  where
    apart : (y : ℕ) → y < v → ¬ (y ≡ x) → slice_index env'' y ≡ slice_index (slice_set env x val) y
    apart y ly ne = h.keeps y ly ne ∙ a.same y ly ∙ sym (set_keeps env x val y ne)

    equal : (y : ℕ) → y ≡ x → slice_index env'' y ≡ slice_index (slice_set env x val) y
    equal y e = ap (λ i. slice_index env'' i) e ∙ h.has ∙ sym (set_has env x val (omega (arith, a.long))) ∙ ap (λ i. slice_index (slice_set env x val) i) (sym e)

    go : (y : ℕ) → y < v → (b : Bool) → nat_lt y x ≡ b → (c : Bool) → nat_lt x y ≡ c → slice_index env'' y ≡ slice_index (slice_set env x val) y
    go y ly true eb c ec = let l : y < x = below y x eb in apart y ly (omega arith)
    go y ly false eb true ec = let l : x < y = below x y ec in apart y ly (omega arith)
    go y ly false eb false ec = let e : y ≡ x = grind (arith, nat_tests) in equal y e

pub agrees_both : (v n x val : ℕ) (env env' : List ℕ) → x < v → Agrees v n env env' → Agrees v n (slice_set env x val) (slice_set env' x val)
agrees_both v n x val env env' lt a = agrees_set v n x val env env' (slice_set env' x val) lt a (put_done n v x val val env' a.wide (omega (arith, a.fits)) refl)

-- results are received alike
pub received_same : (xs rs : List ℕ) (v n : ℕ) (env env' : List ℕ) → list_all (λ x. nat_lt x v) xs ≡ true → Agrees v n env env'
    → (received xs rs env ≡ None) ⊎ ((e : List ℕ) × (e' : List ℕ) × (received xs rs env ≡ Some e) × (received xs rs env' ≡ Some e') × Agrees v n e e')
received_same [] [] v n env env' h a = inr (env, env', refl, refl, a)
received_same [] (r ∷ rs) v n env env' h a = inl refl
received_same (x ∷ xs) [] v n env env' h a = inl refl
received_same (x ∷ xs) (r ∷ rs) v n env env' h a =
    received_same xs rs v n (slice_set env x r) (slice_set env' x r) (and_right (nat_lt x v) (list_all (λ x. nat_lt x v) xs) h) (agrees_both v n x r env env' (below x v (and_left (nat_lt x v) (list_all (λ x. nat_lt x v) xs) h)) a)

-- an operand stands at or below its spare value
pub place_low : (e : Expr) (v procs bytes t : ℕ) → expr_fits v procs bytes e ≡ true → v ≤ t → place e t ≤ t
place_low (Val x) v procs bytes t h le = let l : x < v = below x v h in omega arith
place_low (Num n) v procs bytes t h le = omega arith
place_low (Bin o a b) v procs bytes t h le = omega arith
place_low (Load w s a) v procs bytes t h le = omega arith
place_low (ProcAt p) v procs bytes t h le = omega arith
place_low (ImageAt n) v procs bytes t h le = omega arith
