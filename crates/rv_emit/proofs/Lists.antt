-- Steps of loops over registers and procedures.
use Rattle.std.proofs.Common.{◌≡◌, ℕ, zero, suc, ◌+◌, Bool, true, false, cond, List, [], ◌∷◌, ◌++◌, drop, refl, ap, sym, subst, append_assoc, length, ◌<◌, get_or, add-one, ◌∙◌, drop-cons}
use Rattle.std.specs.Prelude.{slice_get}
use Rattle.flatten.specs.declared.blocks.BlockProc.{BlockProc}
use Rattle.block_homes.specs.declared.homes.Home.{Home}
use Rattle.block_homes.specs.declared.homes.Assignment.{Assignment}
use Rattle.emitted_code.specs.Frames.{is_used, used_of}
use Rattle.emitted_code.specs.Units.{proc_unit, proc_units}

pub used_step : (items rs : List ℕ) (r : ℕ) (homes : List Home) (b : Bool) → b ≡ is_used r homes
    → (items ++ cond b (r ∷ []) []) ++ used_of rs homes ≡ items ++ used_of (r ∷ rs) homes
used_step items rs r homes b e =
    let P : Bool → Type 0 = λ t. (items ++ cond b (r ∷ []) []) ++ used_of rs homes ≡ items ++ cond t (r ∷ used_of rs homes) (used_of rs homes) in
    subst P e (go b)
  where
    go : (t : Bool) → (items ++ cond t (r ∷ []) []) ++ used_of rs homes ≡ items ++ cond t (r ∷ used_of rs homes) (used_of rs homes)
    go true = append_assoc items (r ∷ []) (used_of rs homes)
    go false = append_assoc items [] (used_of rs homes)

-- the unit of one more procedure, which has the assignment of its number
pub units_step : (n m p : ℕ) (f : BlockProc) (fs : List BlockProc) (as' : List Assignment) → suc n ≡ m
    → proc_units p (f ∷ fs) (drop n as') ≡ proc_unit p f (slice_get as' n) ∷ proc_units (p + 1) fs (drop m as')
units_step n m p f fs as' e =
    let P : ℕ → Type 0 = λ m. proc_units p (f ∷ fs) (drop n as') ≡ proc_unit p f (slice_get as' n) ∷ proc_units (p + 1) fs (drop m as') in
    subst P e (go n as')
  where
    go : (n : ℕ) (as' : List Assignment) → proc_units p (f ∷ fs) (drop n as') ≡ proc_unit p f (slice_get as' n) ∷ proc_units (p + 1) fs (drop (suc n) as')
    go zero [] = refl
    go zero (a ∷ as') = refl
    go (suc n) [] = refl
    go (suc n) (a ∷ as') = go n as'

-- an element and those behind it
pub drop_next : {X : Type 0} (xs : List X) (i : ℕ) (x : X) → i < length xs → x ≡ get_or xs i x → drop i xs ≡ x ∷ drop (i + 1) xs
drop_next xs i x h e = rw add-one (drop-cons xs i x h ∙ ap (λ z. z ∷ drop (suc i) xs) (sym e))
