-- There is one declaration, one order and one first broken rule.
use Rattle.std.proofs.Common.{◌≡◌, ℕ, zero, suc, ◌<◌, ◌≤◌, ◌⊎◌, inl, inr, List, [], ◌∷◌, ◌++◌, Option, Some, None, get_or, slice_get, Bool, true, false, refl, sym, ap, subst, ◌∙◌, arith}
use Rattle.f_items.specs.declared.item.Name.{Name}
use Rattle.f_items.specs.declared.item.Declared.{Declared}
use Rattle.f_items.specs.declared.item.Share.{Share}
use Rattle.f_items.specs.declared.item.Share.TheVariants.{Whole, Announced, Typed}
use Rattle.f_items.specs.Places.{Open, Located, Scope, scope_of, At}
use Rattle.f_items.specs.Declarations.{Declaration, declaration_of, IsDeclared, Tells, Clash}
use Rattle.f_items.specs.Accessible.{IsModule, IsUsed}
use Rattle.f_items.specs.Rules.{Finds, Breaks, DeclaredTwice, DeclaredAndUsed, NotDeclared, FromTwo, IsTwice, sought}
use Rattle.f_items.specs.Order.{InOrder, NoMore, Next, IsReady, IsOnCycle}
use Rattle.f_items.specs.Scoped.{IsFirst, IsNamedTwice, NamesUnit, BreaksIn, BreaksLeast, AreKept, BreaksFirst, UnitTwice, OnCycle, InUnit, IsKept}

-- of two numbers the first is smaller, or they are one, or the second is smaller
pub three : (i j : ℕ) → (i < j) ⊎ ((i ≡ j) ⊎ (j < i))
three zero zero = inr (inl refl)
three zero (suc j) = inl (omega arith)
three (suc i) zero = inr (inr (omega arith))
three (suc i) (suc j) = next (three i j) where
  next : (i < j) ⊎ ((i ≡ j) ⊎ (j < i)) → (suc i < suc j) ⊎ ((suc i ≡ suc j) ⊎ (suc j < suc i))
  next (inl lt) = inl (omega arith)
  next (inr (inl e)) = inr (inl (ap suc e))
  next (inr (inr gt)) = inr (inr (omega arith))

-- numbers of which neither is smaller are one
pub one_of : (i j : ℕ) → (i < j → ⊥) → (j < i → ⊥) → i ≡ j
one_of i j f g = pick (three i j) where
  pick : (i < j) ⊎ ((i ≡ j) ⊎ (j < i)) → i ≡ j
  pick (inl lt) = absurd (f lt)
  pick (inr (inl e)) = e
  pick (inr (inr gt)) = absurd (g gt)

-- numbers that aren't different are one
pub not_two : (i j : ℕ) → ((i ≡ j → ⊥) → ⊥) → i ≡ j
not_two i j h = one_of i j (λ lt. h (λ e. let P : ℕ → Type 0 = λ n. n < j in apart j (subst P e lt))) (λ gt. h (λ e. let P : ℕ → Type 0 = λ n. n < i in apart i (subst P (sym e) gt))) where
  apart : (n : ℕ) → n < n → ⊥
  apart n lt = omega (arith, lt)

pub finds_one : (p : List Located) (k : ℕ) (l : Located) → ((rule : ℕ) → Breaks p k l rule → ⊥) → (i j : ℕ) → Finds p l i → Finds p l j → i ≡ j
finds_one p k l kept i j f g = not_two i j (λ two. kept 6 (FromTwo i j f g two))

pub finds_some : (p : List Located) (k : ℕ) (l : Located) (n : Name) → ((rule : ℕ) → Breaks p k l rule → ⊥) → sought l.item ≡ Some n → ((j : ℕ) → Finds p l j → ⊥) → ⊥
finds_some p k l n kept seeks none = kept 2 (NotDeclared n seeks none)

-- ---- declarations

clashes : (a b : Share) → Tells a → Tells b → Clash a b
clashes Whole b s t = tt
clashes Announced b s t = absurd s
clashes Typed b s t = tt

not_before : (p : List Located) → IsKept p → (scope : ℕ) (name : List ℕ) (i j : ℕ) → IsDeclared p scope name i → IsDeclared p scope name j → i < j → ⊥
not_before p kept scope name i j f g lt = kept.rules j 1 g.item g.at (DeclaredTwice g.declaration g.declares (record {
  place = i;
  item = f.item;
  first = f.declaration;
  before = lt;
  at = f.at;
  declares = f.declares;
  same_scope = f.scope_is ∙ sym g.scope_is;
  same_name = f.name_is ∙ sym g.name_is;
  clash = clashes f.declaration.what.share g.declaration.what.share f.tells g.tells;
}))

pub declares_once : (p : List Located) → IsKept p → (scope : ℕ) (name : List ℕ) (i j : ℕ) → IsDeclared p scope name i → IsDeclared p scope name j → i ≡ j
declares_once p kept scope name i j f g = one_of i j (not_before p kept scope name i j f g) (not_before p kept scope name j i g f)

pub declares_none_used : (p : List Located) → IsKept p → (scope : ℕ) (name : List ℕ) (i j : ℕ) → IsDeclared p scope name i → IsUsed p scope name j → ⊥
declares_none_used p kept scope name i j f g = kept.rules i 1 f.item f.at (DeclaredAndUsed f.declaration j f.declares
    (let P : ℕ → Type 0 = λ s. IsUsed p s f.declaration.what.name.bytes j in
    let Q : List ℕ → Type 0 = λ n. IsUsed p scope n j in
    subst P (sym f.scope_is) (subst Q (sym f.name_is) g)))

-- ---- modules

names_unit : (p : List Located) (name : List ℕ) (m : ℕ) (i : IsModule p name m) → NamesUnit p i.place name
names_unit p name m i = record { item = i.located; what = i.what; at = i.at; item_is = i.item_is; unit_name = i.unit_name; name_is = i.name_is }

-- the items at one place are one
pub some_one : {A : Type 0} (o : Option A) (x y : A) → o ≡ Some x → o ≡ Some y → x ≡ y
some_one o x y e f = let d : Some x ≡ Some y = sym e ∙ f in cc

pub one_module : (p : List Located) → IsKept p → (name : List ℕ) (m n : ℕ) → IsModule p name m → IsModule p name n → m ≡ n
one_module p kept name m n i j =
    let same : i.place ≡ j.place = one_of i.place j.place
    (λ lt. kept.unit_names j.place (record { name = name; before = i.place; first = names_unit p name m i; second = names_unit p name n j; is_before = lt }))
    (λ gt. kept.unit_names i.place (record { name = name; before = j.place; first = names_unit p name n j; second = names_unit p name m i; is_before = gt })) in
    let one : i.located ≡ j.located = some_one (slice_get p j.place) i.located j.located (ap (slice_get p) (sym same) ∙ i.at) j.at in
    sym i.scope_is ∙ ap (λ l. (scope_of l).number) one ∙ j.scope_is

-- ---- the order of units

pub one_order : (p : List Located) (done us vs : List ℕ) → InOrder p done us → InOrder p done vs → us ≡ vs
one_order p done [] [] a b = refl
one_order p done [] (v ∷ vs) (NoMore _ all) (Next _ _ _ ready least rest) = absurd (ready.not_done (all v ready.is_unit))
one_order p done (u ∷ us) [] (Next _ _ _ ready least rest) (NoMore _ all) = absurd (ready.not_done (all u ready.is_unit))
one_order p done (u ∷ us) (v ∷ vs) (Next _ _ _ ready least rest) (Next _ _ _ ready' least' rest') =
    let le : u ≤ v = least v ready' in
    let ge : v ≤ u = least' u ready in
    let same : u ≡ v = omega (arith, le, ge) in
    let P : ℕ → Type 0 = λ w. InOrder p (w ∷ done) us in
    ap (λ w. w ∷ us) same ∙ ap (λ ws. v ∷ ws) (one_order p (v ∷ done) us vs (subst P same rest) rest')

-- ---- the first broken rule

first_one : (P : ℕ → Type 0) (i j : ℕ) → IsFirst P i → IsFirst P j → i ≡ j
first_one P i j f g = one_of i j (λ lt. g.none_before i lt f.here) (λ gt. f.none_before j gt g.here)

-- the unit in which a rule is broken first is one
one_unit : (p : List Located) (xs ys : List ℕ) (u v : ℕ) (us vs : List ℕ) (i j : ℕ) → xs ++ u ∷ us ≡ ys ++ v ∷ vs → AreKept p xs → AreKept p ys → BreaksIn p u i → BreaksIn p v j → u ≡ v
one_unit p [] [] u v us vs i j e kx ky b c = cc
one_unit p [] (y ∷ ys) u v us vs i j e kx ky b c = let same : u ≡ y = cc in let P : ℕ → Type 0 = λ w. BreaksIn p w i in absurd (ky.0 i (subst P same b))
one_unit p (x ∷ xs) [] u v us vs i j e kx ky b c = let same : v ≡ x = cc in let P : ℕ → Type 0 = λ w. BreaksIn p w j in absurd (kx.0 j (subst P same c))
one_unit p (x ∷ xs) (y ∷ ys) u v us vs i j e kx ky b c = let rest : xs ++ u ∷ us ≡ ys ++ v ∷ vs = cc in one_unit p xs ys u v us vs i j rest kx.1 ky.1 b c

least_one : (p : List Located) (k r q : ℕ) → BreaksLeast p k r → BreaksLeast p k q → r ≡ q
least_one p k r q f g =
    let one : g.item ≡ f.item = some_one (slice_get p k) g.item f.item g.at f.at in
    let P : Located → ℕ → Type 0 = λ l n. Breaks p k l n in
    let le : r ≤ q = f.least q (subst (λ l. P l q) one g.breaks) in
    let ge : q ≤ r = g.least r (subst (λ l. P l r) (sym one) f.breaks) in
    omega (arith, le, ge)

pub one_first : (p : List Located) (i j r q : ℕ) → BreaksFirst p i r → BreaksFirst p j q → (i ≡ j) × (r ≡ q)
one_first p i j _ _ (UnitTwice _ f) (UnitTwice _ g) = (first_one (IsNamedTwice p) i j f g, refl)
one_first p i j _ _ (UnitTwice _ f) (OnCycle _ none g) = absurd (none i f.here)
one_first p i j _ q (UnitTwice _ f) (InUnit _ _ before u behind none no_cycle order kept g least) = absurd (none i f.here)
one_first p i j _ _ (OnCycle _ none f) (UnitTwice _ g) = absurd (none j g.here)
one_first p i j _ _ (OnCycle _ none f) (OnCycle _ none' g) = (first_one (IsOnCycle p) i j f g, refl)
one_first p i j _ q (OnCycle _ none f) (InUnit _ _ before u behind none' no_cycle order kept g least) = absurd (no_cycle i f.here)
one_first p i j r _ (InUnit _ _ before u behind none no_cycle order kept f least) (UnitTwice _ g) = absurd (none j g.here)
one_first p i j r _ (InUnit _ _ before u behind none no_cycle order kept f least) (OnCycle _ none' g) = absurd (no_cycle j g.here)
one_first p i j r q (InUnit _ _ xs u us none no_cycle order kept f least) (InUnit _ _ ys v vs none' no_cycle' order' kept' g least') =
    let lists : xs ++ u ∷ us ≡ ys ++ v ∷ vs = one_order p [] (xs ++ u ∷ us) (ys ++ v ∷ vs) order order' in
    let same : u ≡ v = one_unit p xs ys u v us vs i j lists kept kept' f.here g.here in
    let P : ℕ → Type 0 = λ w. IsFirst (BreaksIn p w) j in
    let places : i ≡ j = first_one (BreaksIn p u) i j f (subst P (sym same) g) in
    let Q : ℕ → Type 0 = λ n. BreaksLeast p n q in
    (places, least_one p i r q least (subst Q (sym places) least'))

pub none_first : (p : List Located) (k r : ℕ) → IsKept p → BreaksFirst p k r → ⊥
none_first p k _ kept (UnitTwice _ f) = kept.unit_names k f.here
none_first p k _ kept (OnCycle _ none f) = kept.no_cycle k f.here
none_first p k r kept (InUnit _ _ before u behind none no_cycle order are f least) = kept.rules k r least.item least.at least.breaks
