-- What a table of names is behind one more declaration, and behind one less.
use Rattle.std.proofs.Common.{◌≡◌, ℕ, zero, suc, ◌+◌, ◌<◌, ◌≤◌, Bool, true, false, cond, eqb, List, [], ◌∷◌, ◌++◌, get_or, set, length, take, refl, sym, ap, subst, ◌∙◌, arith, append_assoc}
use Rattle.std.proofs.lemmas.Bool.{eqb-true, eq-eqb}
use Rattle.c_grammar.specs.declared.scope.Binding.{Binding}
use Rattle.c_grammar.specs.Grammar.{type_after}
use Rattle.c_scope.specs.declared.scope.Declared.{Declared}
use Rattle.c_scope.specs.Scopes.{binding, bindings, Undoes, Remembers}

-- ---- lists

bindings-last : (ds : List Declared) (d : Declared) → bindings (ds ++ d ∷ []) ≡ bindings ds ++ binding d ∷ []
bindings-last [] d = refl
bindings-last (e ∷ ds) d = ap (λ r. binding e ∷ r) (bindings-last ds d)

type-last : (found : Bool) (s : List Binding) (b : Binding) (k : ℕ) → type_after found (s ++ b ∷ []) k ≡ cond (eqb b.name k) b.is_type (type_after found s k)
type-last found [] b k = refl
type-last found (a ∷ s) b k = type-last (cond (eqb a.name k) a.is_type found) s b k

get-set-same : (xs : List Bool) (i : ℕ) (v : Bool) → i < length xs → get_or (set xs i v) i false ≡ v
get-set-same [] i v lt = absurd (omega arith)
get-set-same (x ∷ xs) zero v lt = refl
get-set-same (x ∷ xs) (suc i) v lt = get-set-same xs i v (omega (arith, lt))

get-set-other : (xs : List Bool) (i k : ℕ) (v : Bool) → (i ≡ k → ⊥) → get_or (set xs i v) k false ≡ get_or xs k false
get-set-other [] i k v ne = refl
get-set-other (x ∷ xs) zero zero v ne = absurd (ne refl)
get-set-other (x ∷ xs) zero (suc k) v ne = refl
get-set-other (x ∷ xs) (suc i) zero v ne = refl
get-set-other (x ∷ xs) (suc i) (suc k) v ne = get-set-other xs i k v (λ e. ne (ap (λ n. suc n) e))

length-set : (xs : List Bool) (i : ℕ) (v : Bool) → length (set xs i v) ≡ length xs
length-set [] i v = refl
length-set (x ∷ xs) zero v = refl
length-set (x ∷ xs) (suc i) v = ap (λ n. suc n) (length-set xs i v)

-- ---- what was before

wider : (n m : ℕ) (s : List Binding) (ds : List Declared) → n ≤ m → Undoes n s ds → Undoes m s ds
wider n m s [] le u = tt
wider n m s (d ∷ ds) le u = (omega (arith, u.0, le), u.1, wider n m (s ++ binding d ∷ []) ds le u.2)

undoes-last : (n : ℕ) (s : List Binding) (ds : List Declared) (d : Declared) → Undoes n s ds → d.name < n → d.was_type ≡ type_after false (s ++ bindings ds) d.name → Undoes n s (ds ++ d ∷ [])
undoes-last n s [] d u lt e = (lt, e ∙ ap (λ r. type_after false r d.name) (append-none s), tt)
  where
    append-none : (s : List Binding) → s ++ [] ≡ s
    append-none [] = refl
    append-none (b ∷ s) = ap (λ r. b ∷ r) (append-none s)
undoes-last n s (x ∷ ds) d u lt e = (u.0, u.1, undoes-last n (s ++ binding x ∷ []) ds d u.2 lt (e ∙ ap (λ r. type_after false r d.name) (sym (append_assoc s (binding x ∷ []) (bindings ds)))))

record Last (n : ℕ) (s : List Binding) (ds : List Declared) (d : Declared) : Type 0 where
  before : Undoes n s ds
  within : d.name < n
  was : d.was_type ≡ type_after false (s ++ bindings ds) d.name

undoes-front : (n : ℕ) (s : List Binding) (ds : List Declared) (d : Declared) → Undoes n s (ds ++ d ∷ []) → Last n s ds d
undoes-front n s [] d u = record { before = tt; within = u.0; was = u.1 ∙ ap (λ r. type_after false r d.name) (sym (append-none s)) }
  where
    append-none : (s : List Binding) → s ++ [] ≡ s
    append-none [] = refl
    append-none (b ∷ s) = ap (λ r. b ∷ r) (append-none s)
undoes-front n s (x ∷ ds) d u =
    let l = undoes-front n (s ++ binding x ∷ []) ds d u.2 in
    record { before = (u.0, u.1, l.before); within = l.within; was = l.was ∙ ap (λ r. type_after false r d.name) (append_assoc s (binding x ∷ []) (bindings ds)) }

-- ---- the table

pub none : Remembers [] []
none = record { now = λ k. none_at k; before = tt }
  where
    none_at : (k : ℕ) → get_or [] k false ≡ false
    none_at zero = refl
    none_at (suc k) = refl

pub roomier : (kinds more : List Bool) (ds : List Declared) → length kinds ≤ length more → ((k : ℕ) → get_or more k false ≡ get_or kinds k false) → Remembers kinds ds → Remembers more ds
roomier kinds more ds le same r = record { now = λ k. same k ∙ r.now k; before = wider (length kinds) (length more) [] ds le r.before }

pub declared_last : (kinds : List Bool) (ds : List Declared) (d : Declared) → Remembers kinds ds → d.name < length kinds → d.was_type ≡ type_after false (bindings ds) d.name → Remembers (set kinds d.name d.is_type) (ds ++ d ∷ [])
declared_last kinds ds d r lt was =
    record {
      now = λ k. pick k (eqb d.name k) refl;
      before = wider (length kinds) (length (set kinds d.name d.is_type)) [] (ds ++ d ∷ []) (omega (arith, length-set kinds d.name d.is_type)) (undoes-last (length kinds) [] ds d r.before lt was);
    }
  where
    along : (k : ℕ) → type_after false (bindings (ds ++ d ∷ [])) k ≡ cond (eqb d.name k) d.is_type (type_after false (bindings ds) k)
    along k = ap (λ r. type_after false r k) (bindings-last ds d) ∙ type-last false (bindings ds) (binding d) k

    pick : (k : ℕ) (b : Bool) → eqb d.name k ≡ b → get_or (set kinds d.name d.is_type) k false ≡ type_after false (bindings (ds ++ d ∷ [])) k
    pick k true e =
        let here : d.name ≡ k = eqb-true d.name k e in
        rw (along k, e) (subst (λ j. get_or (set kinds d.name d.is_type) j false ≡ d.is_type) here (get-set-same kinds d.name d.is_type lt))
    pick k false e = rw (along k, e) (get-set-other kinds d.name k d.is_type (λ same. apart same e) ∙ r.now k)
      where
        apart : d.name ≡ k → eqb d.name k ≡ false → ⊥
        apart same e = let t : eqb d.name k ≡ true = eq-eqb d.name k same in absurd cc

pub taken_back : (kinds : List Bool) (ds : List Declared) (d : Declared) → Remembers kinds (ds ++ d ∷ []) → Remembers (set kinds d.name d.was_type) ds
taken_back kinds ds d r =
    let l = undoes-front (length kinds) [] ds d r.before in
    record {
      now = λ k. pick k (eqb d.name k) refl;
      before = wider (length kinds) (length (set kinds d.name d.was_type)) [] ds (omega (arith, length-set kinds d.name d.was_type)) l.before;
    }
  where
    along : (k : ℕ) → type_after false (bindings (ds ++ d ∷ [])) k ≡ cond (eqb d.name k) d.is_type (type_after false (bindings ds) k)
    along k = ap (λ r. type_after false r k) (bindings-last ds d) ∙ type-last false (bindings ds) (binding d) k

    pick : (k : ℕ) (b : Bool) → eqb d.name k ≡ b → get_or (set kinds d.name d.was_type) k false ≡ type_after false (bindings ds) k
    pick k true e =
        let l = undoes-front (length kinds) [] ds d r.before in
        let here : d.name ≡ k = eqb-true d.name k e in
        subst (λ j. get_or (set kinds d.name d.was_type) j false ≡ type_after false (bindings ds) j) here (get-set-same kinds d.name d.was_type l.within ∙ l.was)
    pick k false e = get-set-other kinds d.name k d.was_type (λ same. apart same e) ∙ r.now k ∙ along k ∙ rw e refl
      where
        apart : d.name ≡ k → eqb d.name k ≡ false → ⊥
        apart same e = let t : eqb d.name k ≡ true = eq-eqb d.name k same in absurd cc

pub in_table : (kinds : List Bool) (ds : List Declared) (d : Declared) → Remembers kinds (ds ++ d ∷ []) → d.name < length kinds
in_table kinds ds d r = (undoes-front (length kinds) [] ds d r.before).within

pub length_bindings : (ds : List Declared) → length (bindings ds) ≡ length ds
length_bindings [] = refl
length_bindings (d ∷ ds) = ap (λ n. suc n) (length_bindings ds)

take-most : (n : ℕ) (xs : List Binding) (b : Binding) → n ≤ length xs → take n (xs ++ b ∷ []) ≡ take n xs
take-most zero xs b le = refl
take-most (suc n) [] b le = absurd (omega arith)
take-most (suc n) (x ∷ xs) b le = ap (λ r. x ∷ r) (take-most n xs b (omega (arith, le)))

-- one declaration less, where there are more than the mark
pub take_front : (n : ℕ) (ds : List Declared) (d : Declared) → n ≤ length ds → take n (bindings (ds ++ d ∷ [])) ≡ take n (bindings ds)
take_front n ds d le = ap (take n) (bindings-last ds d) ∙ take-most n (bindings ds) (binding d) (omega (arith, length_bindings ds))

take-whole : (n : ℕ) (xs : List Binding) → length xs ≤ n → take n xs ≡ xs
take-whole zero [] le = refl
take-whole (suc n) [] le = refl
take-whole zero (x ∷ xs) le = absurd (omega arith)
take-whole (suc n) (x ∷ xs) le = ap (λ r. x ∷ r) (take-whole n xs (omega (arith, le)))

pub take_all : (n : ℕ) (ds : List Declared) → length ds ≤ n → take n (bindings ds) ≡ bindings ds
take_all n ds le = take-whole n (bindings ds) (omega (arith, length_bindings ds))

pub bound_last : (ds : List Declared) (d : Declared) → bindings (ds ++ d ∷ []) ≡ bindings ds ++ binding d ∷ []
bound_last = bindings-last
