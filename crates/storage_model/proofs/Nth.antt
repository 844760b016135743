-- The objects and loans of the lists, by their numbers.
use Rattle.std.proofs.Common.{ℕ, zero, suc, ◌≡◌, ◌≤◌, ◌<◌, refl, sym, ap, arith, List, [], ◌∷◌, length, get_or}
use Rattle.storage_model.specs.declared.held.HeldObject.{HeldObject}
use Rattle.storage_model.specs.declared.held.HeldLoan.{HeldLoan}
use Rattle.std.specs.Global.{Vec}
use Rattle.storage_model.specs.declared.held.Cover.{Cover}
use Rattle.storage_model.specs.Storage.{no_loan, no_object}
use Rattle.storage_model.specs.Held.{nth_object, nth_loan, object_of, loan_of, nth_table, nth_stack}

pub nth_object_at : (xs : List HeldObject) (o : ℕ) (x : HeldObject) → o < length xs → x ≡ get_or xs o x → nth_object xs o ≡ object_of x
nth_object_at [] o x h e = absurd (omega arith)
nth_object_at (y ∷ ys) zero x h e = ap object_of (sym e)
nth_object_at (y ∷ ys) (suc o) x h e = nth_object_at ys o x (omega arith) e

pub nth_object_past : (xs : List HeldObject) (o : ℕ) → length xs ≤ o → nth_object xs o ≡ no_object
nth_object_past [] o h = refl
nth_object_past (y ∷ ys) zero h = absurd (omega arith)
nth_object_past (y ∷ ys) (suc o) h = nth_object_past ys o (omega arith)

pub nth_loan_at : (xs : List HeldLoan) (l : ℕ) (x : HeldLoan) → l < length xs → x ≡ get_or xs l x → nth_loan xs l ≡ loan_of x
nth_loan_at [] l x h e = absurd (omega arith)
nth_loan_at (y ∷ ys) zero x h e = ap loan_of (sym e)
nth_loan_at (y ∷ ys) (suc l) x h e = nth_loan_at ys l x (omega arith) e

pub nth_loan_past : (xs : List HeldLoan) (l : ℕ) → length xs ≤ l → nth_loan xs l ≡ no_loan
nth_loan_past [] l h = refl
nth_loan_past (y ∷ ys) zero h = absurd (omega arith)
nth_loan_past (y ∷ ys) (suc l) h = nth_loan_past ys l (omega arith)

pub nth_table_at : (xs : List (Vec (Vec Cover))) (o : ℕ) (x : Vec (Vec Cover)) → o < length xs → x ≡ get_or xs o x → nth_table xs o ≡ x.items
nth_table_at [] o x h e = absurd (omega arith)
nth_table_at (y ∷ ys) zero x h e = ap (λ v. v.items) (sym e)
nth_table_at (y ∷ ys) (suc o) x h e = nth_table_at ys o x (omega arith) e

pub nth_table_past : (xs : List (Vec (Vec Cover))) (o : ℕ) → length xs ≤ o → nth_table xs o ≡ []
nth_table_past [] o h = refl
nth_table_past (y ∷ ys) zero h = absurd (omega arith)
nth_table_past (y ∷ ys) (suc o) h = nth_table_past ys o (omega arith)

pub nth_stack_at : (xs : List (Vec Cover)) (o : ℕ) (x : Vec Cover) → o < length xs → x ≡ get_or xs o x → nth_stack xs o ≡ x.items
nth_stack_at [] o x h e = absurd (omega arith)
nth_stack_at (y ∷ ys) zero x h e = ap (λ v. v.items) (sym e)
nth_stack_at (y ∷ ys) (suc o) x h e = nth_stack_at ys o x (omega arith) e

pub nth_stack_past : (xs : List (Vec Cover)) (o : ℕ) → length xs ≤ o → nth_stack xs o ≡ []
nth_stack_past [] o h = refl
nth_stack_past (y ∷ ys) zero h = absurd (omega arith)
nth_stack_past (y ∷ ys) (suc o) h = nth_stack_past ys o (omega arith)
