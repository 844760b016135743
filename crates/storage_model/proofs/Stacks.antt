-- Lists of loans' bytes that grow and shrink at their ends.
use Rattle.std.proofs.Common.{ℕ, zero, suc, ◌≡◌, ◌<◌, refl, sym, ◌∙◌, ap, subst, arith, ⊎_elim, List, [], ◌∷◌, ◌++◌, length, get_or, set}
use Rattle.std.specs.Prelude.{◌≢◌, true, false, ◌==◌, ◌&&◌, ◌-◌, Option, Some, option_to_list, Result, Ok, Err, OnOk}
use Rattle.std.specs.Global.{Vec}
use Rattle.std.proofs.lemmas.Bool.{and_parts, and_from, or_cases, or_left, or_right, eqb-true, eq-eqb}
use Rattle.std.proofs.lemmas.List.{length-set}
use Rattle.storage_model.specs.declared.cell.View.{View}
use Rattle.storage_model.specs.declared.cell.View.TheVariants.{Home, Loan}
use Rattle.storage_model.specs.declared.cell.Place.{Place}
use Rattle.storage_model.specs.declared.held.Cover.{Cover}
use Rattle.storage_model.specs.Storage.{at}
use Rattle.storage_model.specs.Held.{in_stack, nth_stack, nth_table, stack_at}
use Rattle.storage_model.specs.Listings.{KeepsTable, KeepsOthersInTable, KeepsStacks, KeepsOthers}
use Rattle.storage_model.proofs.Chains.{nat_or}
use Rattle.storage_model.proofs.Nth.{nth_stack_at, nth_table_at}

pub in_front : (m k : ℕ) (ys : List Cover) (x : Cover) → m ≢ x.loan → in_stack m k (ys ++ x ∷ []) ≡ true → in_stack m k ys ≡ true
in_front m k [] x ne e = ⊎_elim
    (λ a. absurd (ne (sym (eqb-true x.loan m (and_parts (x.loan == m) (x.byte == k) a).0))))
    (λ b. b)
    (or_cases ((x.loan == m) && (x.byte == k)) false e)
in_front m k (y ∷ ys) x ne e = ⊎_elim
    (λ a. or_left ((y.loan == m) && (y.byte == k)) (in_stack m k ys) a)
    (λ b. or_right ((y.loan == m) && (y.byte == k)) (in_stack m k ys) (in_front m k ys x ne b))
    (or_cases ((y.loan == m) && (y.byte == k)) (in_stack m k (ys ++ x ∷ [])) e)

pub in_longer : (m k : ℕ) (ys : List Cover) (x : Cover) → in_stack m k ys ≡ true → in_stack m k (ys ++ x ∷ []) ≡ true
in_longer m k [] x e = cc
in_longer m k (y ∷ ys) x e = ⊎_elim
    (λ a. or_left ((y.loan == m) && (y.byte == k)) (in_stack m k (ys ++ x ∷ [])) a)
    (λ b. or_right ((y.loan == m) && (y.byte == k)) (in_stack m k (ys ++ x ∷ [])) (in_longer m k ys x b))
    (or_cases ((y.loan == m) && (y.byte == k)) (in_stack m k ys) e)

pub in_end : (ys : List Cover) (x : Cover) → in_stack x.loan x.byte (ys ++ x ∷ []) ≡ true
in_end [] x = or_left ((x.loan == x.loan) && (x.byte == x.byte)) false (and_from _ _ (eq-eqb x.loan x.loan refl) (eq-eqb x.byte x.byte refl))
in_end (y ∷ ys) x = or_right ((y.loan == x.loan) && (y.byte == x.byte)) (in_stack x.loan x.byte (ys ++ x ∷ [])) (in_end ys x)

pub set_stack_here : (xs : List (Vec Cover)) (n : ℕ) (x : Vec Cover) → n < length xs → nth_stack (set xs n x) n ≡ x.items
set_stack_here [] n x h = absurd (omega arith)
set_stack_here (y ∷ ys) zero x h = refl
set_stack_here (y ∷ ys) (suc n) x h = set_stack_here ys n x (omega arith)

pub set_stack_else : (xs : List (Vec Cover)) (n : ℕ) (x : Vec Cover) (m : ℕ) → m ≢ n → nth_stack (set xs n x) m ≡ nth_stack xs m
set_stack_else [] n x m ne = refl
set_stack_else (y ∷ ys) zero x zero ne = absurd (ne refl)
set_stack_else (y ∷ ys) zero x (suc m) ne = refl
set_stack_else (y ∷ ys) (suc n) x zero ne = refl
set_stack_else (y ∷ ys) (suc n) x (suc m) ne = set_stack_else ys n x m (λ e. ne (omega (arith, e)))

pub set_table_here : (xs : List (Vec (Vec Cover))) (n : ℕ) (x : Vec (Vec Cover)) → n < length xs → nth_table (set xs n x) n ≡ x.items
set_table_here [] n x h = absurd (omega arith)
set_table_here (y ∷ ys) zero x h = refl
set_table_here (y ∷ ys) (suc n) x h = set_table_here ys n x (omega arith)

pub set_table_else : (xs : List (Vec (Vec Cover))) (n : ℕ) (x : Vec (Vec Cover)) (m : ℕ) → m ≢ n → nth_table (set xs n x) m ≡ nth_table xs m
set_table_else [] n x m ne = refl
set_table_else (y ∷ ys) zero x zero ne = absurd (ne refl)
set_table_else (y ∷ ys) zero x (suc m) ne = refl
set_table_else (y ∷ ys) (suc n) x zero ne = refl
set_table_else (y ∷ ys) (suc n) x (suc m) ne = set_table_else ys n x m (λ e. ne (omega (arith, e)))

-- one more empty list changes nothing
pub stack_pushed : (xs : List (Vec Cover)) (v : Vec Cover) → v.items ≡ [] → (i : ℕ) → nth_stack (xs ++ v ∷ []) i ≡ nth_stack xs i
stack_pushed [] v e zero = e
stack_pushed [] v e (suc i) = refl
stack_pushed (t ∷ ts) v e zero = refl
stack_pushed (t ∷ ts) v e (suc i) = stack_pushed ts v e i

-- one list of a table is set
pub table_set : (xs : List (Vec Cover)) (n : ℕ) (x x' : Vec Cover) (l k : ℕ) → n < length xs → x ≡ get_or xs n x → (in_stack l k x.items ≡ true → in_stack l k x'.items ≡ true)
    → (i : ℕ) → in_stack l k (nth_stack xs i) ≡ true → in_stack l k (nth_stack (set xs n x') i) ≡ true
table_set xs n x x' l k h is keep i e = ⊎_elim
    (λ same. subst (λ y. in_stack l k (nth_stack (set xs n x') y) ≡ true) (sym same)
    (subst (λ ys. in_stack l k ys ≡ true) (sym (set_stack_here xs n x' h))
    (keep (subst (λ ys. in_stack l k ys ≡ true) (ap (nth_stack xs) same ∙ nth_stack_at xs n x h is) e))))
    (λ ne. subst (λ ys. in_stack l k ys ≡ true) (sym (set_stack_else xs n x' i ne)) e)
    (nat_or i n)

-- one table is set
pub tables_set : (xs : List (Vec (Vec Cover))) (n : ℕ) (x x' : Vec (Vec Cover)) (l k : ℕ) → n < length xs → x ≡ get_or xs n x
    → ((i : ℕ) → in_stack l k (nth_stack x.items i) ≡ true → in_stack l k (nth_stack x'.items i) ≡ true)
    → (h : Place) → in_stack l k (stack_at xs h) ≡ true → in_stack l k (stack_at (set xs n x') h) ≡ true
tables_set xs n x x' l k hn is keep h e = go h.view h.offset e
  where
    go : (v : View) (i : ℕ) → in_stack l k (stack_at xs (at v i)) ≡ true → in_stack l k (stack_at (set xs n x') (at v i)) ≡ true
    go (Home o) i e = ⊎_elim
        (λ same. subst (λ y. in_stack l k (nth_stack (nth_table (set xs n x') y) i) ≡ true) (sym same)
        (subst (λ t. in_stack l k (nth_stack t i) ≡ true) (sym (set_table_here xs n x' hn))
        (keep i (subst (λ t. in_stack l k (nth_stack t i) ≡ true) (ap (nth_table xs) same ∙ nth_table_at xs n x hn is) e))))
        (λ ne. subst (λ t. in_stack l k (nth_stack t i) ≡ true) (sym (set_table_else xs n x' o ne)) e)
        (nat_or o n)
    go (Loan m) i e = cc

-- the last one is taken
pub last_dropped : (xs ys : List Cover) (o : Option Cover) (n n' : ℕ) (x : Cover) (m k : ℕ) → xs ≡ ys ++ option_to_list o → ((d : Cover) → 0 < n → o ≡ Some (get_or xs (n - 1) d))
    → 0 < n → n' ≡ n → x ≡ get_or xs (n' - 1) x → m ≢ x.loan → in_stack m k xs ≡ true → in_stack m k ys ≡ true
last_dropped xs ys o n n' x m k items value h same is ne e =
    let f : o ≡ Some x = value x h ∙ ap (λ j. Some (get_or xs (j - 1) x)) (sym same) ∙ ap Some (sym is) in
    in_front m k ys x ne (subst (λ zs. in_stack m k zs ≡ true) (items ∙ ap (λ p. ys ++ option_to_list p) f) e)

pub tables_kept : (xs : List (Vec (Vec Cover))) (n : ℕ) (x x' : Vec (Vec Cover)) → n < length xs → x ≡ get_or xs n x → KeepsTable x.items x'.items → KeepsStacks xs (set xs n x')
tables_kept xs n x x' h is keep = record {
  longer = length-set xs n x';
  kept = λ p l k e. tables_set xs n x x' l k h is (λ i. keep.kept i l k) p e;
}

pub others_kept : (xs : List (Vec (Vec Cover))) (n : ℕ) (x x' : Vec (Vec Cover)) (loan : ℕ) → n < length xs → x ≡ get_or xs n x → KeepsOthersInTable x.items x'.items loan → KeepsOthers xs (set xs n x') loan
others_kept xs n x x' loan h is keep = record {
  longer = length-set xs n x';
  kept = λ p l k ne e. tables_set xs n x x' l k h is (λ i. keep.kept i l k ne) p e;
}

pub on_ok : {T E : Type 0} (r : Result T E) (P Q : Type 0) → (P → Q) → OnOk r P → OnOk r Q
on_ok (Ok x) P Q f p = f p
on_ok (Err e) P Q f p = p

pub stack_set : (xs : List (Vec (Vec Cover))) (h : Place) (o : ℕ) (x' : Vec (Vec Cover)) → h.view ≡ Home o → o < length xs → stack_at (set xs o x') h ≡ nth_stack x'.items h.offset
stack_set xs h o x' e lt = ap (λ v. stack_at (set xs o x') (at v h.offset)) e ∙ ap (λ t. nth_stack t h.offset) (set_table_here xs o x' lt)
