-- The scopes of a text by their numbers.
use Rattle.std.proofs.Common.{◌≡◌, ◌+◌, ◌<◌, ◌≤◌, ◌⊎◌, inl, inr, ℕ, zero, suc, true, false, cond, List, [], ◌∷◌, ◌++◌, map, length, slice_get, refl, sym, ap, ◌∙◌, subst, arith}
use Rattle.f_items.specs.declared.item.Item.{Item}
use Rattle.f_items.specs.declared.item.Item.TheVariants.{Enter, Leave}
use Rattle.f_items.specs.Places.{Open, Located, located, opened, closed, counted, innermost, is_enter, At}
use Rattle.f_items.proofs.Single.{three}
use Rattle.f_scope.specs.declared.placement.ScopeRow.{ScopeRow}
use Rattle.f_scope.specs.declared.placement.Placed.{Placed}
use Rattle.f_scope.specs.BuiltIn.{before_program, intrinsic_names}
use Rattle.f_scope.specs.Program.{Outline, AreParts}
use Rattle.f_scope.specs.Rows.{seen}
use Rattle.f_scope.specs.Tables.{Row}
use Rattle.f_scope.proofs.Chains.{number_is, within_at}
use Rattle.f_use.proofs.Grants.{seen_at}
use Rattle.f_scopes.specs.Held.{AreNumbered}
use Rattle.f_scopes.specs.Numbers.{IsText, begun, item_of, placed_item, scope_count, number_of}

-- ---- items of a text

pub items_are : (n : ℕ) (open_ : Open) (is : List Item) → map item_of (located n open_ is) ≡ is
unfolding located
items_are n open_ [] = refl
items_are n open_ (i ∷ is) = ap (λ js. i ∷ js) (items_are (counted n i) (closed (opened n open_ i) i) is)

pub placed_are : (rows : List ScopeRow) (xs : List Placed) → map item_of (map (seen rows) xs) ≡ map placed_item xs
placed_are rows [] = refl
placed_are rows (x ∷ xs) = ap (λ js. x.item ∷ js) (placed_are rows xs)

-- ---- each number is below

-- the open scopes have numbers below this one
abbrev pub AreBelow : ℕ → Open → Type 0
AreBelow n [] = Unit {0}
AreBelow n (s ∷ ss) = (s.number < n) × AreBelow n ss

below_more : (n : ℕ) (ss : Open) → AreBelow n ss → AreBelow (suc n) ss
below_more n [] b = b
below_more n (s ∷ ss) b = (let lt = b.0 in omega (arith, lt), below_more n ss b.1)

below_opened : (n : ℕ) (ss : Open) (i : Item) → AreBelow n ss → AreBelow (counted n i) (opened n ss i)
below_opened n ss (Enter k place) b = (omega arith, below_more n ss b)
below_opened n ss _ b = b

below_closed : (n : ℕ) (ss : Open) (i : Item) → AreBelow n ss → AreBelow n (closed ss i)
below_closed n [] Leave b = b
below_closed n (s ∷ ss) Leave b = b.1
below_closed n ss _ b = b

below_first : (n : ℕ) (ss : Open) → 0 < n → AreBelow n ss → (innermost ss).number < n
below_first n [] lt b = lt
below_first n (s ∷ ss) lt b = b.0

some_counted : (n : ℕ) (i : Item) → 0 < n → 0 < counted n i
some_counted n (Enter k place) lt = omega arith
some_counted n _ lt = lt

counted_begun : (n : ℕ) (i : Item) (is : List Item) → counted n i + begun is ≡ n + begun (i ∷ is)
unfolding begun
counted_begun n (Enter k place) is = omega arith
counted_begun n _ is = refl

pub begun_none : begun [] ≡ 0
unfolding begun
begun_none = refl

pub begun_one : (rest behind : List Placed) (x : Placed) → rest ≡ x ∷ behind → is_enter x.item ≡ true → begun (map placed_item rest) ≡ suc (begun (map placed_item behind))
unfolding begun
begun_one rest behind x e enters = ap (λ xs. begun (map placed_item xs)) e ∙ ap (λ b. cond b (suc (begun (map placed_item behind))) (begun (map placed_item behind))) enters

pub begun_other : (rest behind : List Placed) (x : Placed) → rest ≡ x ∷ behind → is_enter x.item ≡ false → begun (map placed_item rest) ≡ begun (map placed_item behind)
unfolding begun
begun_other rest behind x e other = ap (λ xs. begun (map placed_item xs)) e ∙ ap (λ b. cond b (suc (begun (map placed_item behind))) (begun (map placed_item behind))) other

numbers_within : (n : ℕ) (ss : Open) (is : List Item) → 0 < n → AreBelow n ss → (k : ℕ) (l : Located) → At (located n ss is) k l → number_of l < n + begun is
unfolding located
numbers_within n ss [] lt b k l at = absurd (cc)
numbers_within n ss (i ∷ is) lt b zero l at =
    let one : record { item = i; scopes = opened n ss i } ≡ l = cc in
    let here = below_first (counted n i) (opened n ss i) (some_counted n i lt) (below_opened n ss i b) in
    let same : (innermost (opened n ss i)).number ≡ number_of l = ap number_of one in
    let sum = counted_begun n i is in
    omega (arith, here, same, sum)
numbers_within n ss (i ∷ is) lt b (suc k) l at =
    let behind = numbers_within (counted n i) (closed (opened n ss i) i) is (some_counted n i lt) (below_closed (counted n i) (opened n ss i) i (below_opened n ss i b)) k l at in
    let sum = counted_begun n i is in
    omega (arith, behind, sum)

-- ---- each number below is that of a scope

-- an item stands in the scope with this number
abbrev pub Stands : List Located → ℕ → Type 0
Stands p s = (k : ℕ) × (l : Located) × At p k l × (number_of l ≡ s)

stands_behind : (l : Located) (p : List Located) (s : ℕ) → Stands p s → Stands (l ∷ p) s
stands_behind l p s h = (suc h.0, h.1, h.2, h.3)

first_number : (n : ℕ) (ss : Open) (i : Item) (s : ℕ) → n ≤ s → s < counted n i → (innermost (opened n ss i)).number ≡ s
first_number n ss (Enter k place) s le lt = omega (arith, le, lt)
first_number n ss _ s le lt = absurd (omega (arith, le, lt))

numbers_all : (n : ℕ) (ss : Open) (is : List Item) (s : ℕ) → n ≤ s → s < n + begun is → Stands (located n ss is) s
unfolding located
numbers_all n ss [] s le lt = let none : begun [] ≡ 0 = begun_none in absurd (omega (arith, le, lt, none))
numbers_all n ss (i ∷ is) s le lt =
    let sum = counted_begun n i is in
    pick (three s (counted n i)) (λ more. numbers_all (counted n i) (closed (opened n ss i) i) is s more (omega (arith, lt, sum))) where
      l : Located
      l = record { item = i; scopes = opened n ss i }

      rest : List Located
      rest = located (counted n i) (closed (opened n ss i) i) is

      pick : (s < counted n i) ⊎ ((s ≡ counted n i) ⊎ (counted n i < s)) → (counted n i ≤ s → Stands rest s) → Stands (l ∷ rest) s
      pick (inl less) behind = (0, l, refl, first_number n ss i s le less)
      pick (inr (inl e)) behind = stands_behind l rest s (behind (omega (arith, e)))
      pick (inr (inr more)) behind = stands_behind l rest s (behind (omega (arith, more)))

-- ---- all scopes of a text

-- what is around the program units has an item: the first intrinsic procedure
outer_stands : (is : List Item) → Stands (located 1 [] (before_program ++ is)) 0
unfolding located intrinsic_names
outer_stands is = (0, _, refl, refl)

text_numbers : (is : List Item) → AreNumbered (located 1 [] (before_program ++ is)) (scope_count (located 1 [] (before_program ++ is)))
text_numbers is = record {
  all = all;
  within = λ k l at. let lt = numbers_within 1 [] text (omega arith) tt k l at in omega (arith, lt, count);
} where
  text : List Item
  text = before_program ++ is

  count : begun (map item_of (located 1 [] text)) ≡ begun text
  count = ap begun (items_are 1 [] text)

  all : (s : ℕ) → s < scope_count (located 1 [] text) → Stands (located 1 [] text) s
  all zero lt = outer_stands is
  all (suc s) lt = numbers_all 1 [] text (suc s) (omega arith) (omega (arith, lt, count))

pub numbered : (p : List Located) → IsText p → AreNumbered p (scope_count p)
numbered p t = subst (λ (q : List Located). AreNumbered q (scope_count q)) (sym t.1) (text_numbers t.0)

-- there are as many rows of scopes
pub below : (o : Outline) (rows : List ScopeRow) (xs : List Placed) (own : List (List Row)) → AreParts o rows xs own → IsText o.items → scope_count o.items ≤ length rows
below o rows xs own are t =
    let n = begun (map item_of o.items) in
    let last = (numbered o.items t).all n (omega arith) in
    let at : At (map (seen rows) xs) last.0 last.1 = ap (λ q. slice_get q last.0) are.items_are ∙ last.2 in
    let x = seen_at rows xs last.0 last.1 at in
    let range = within_at (length rows) xs last.0 x.0 are.within x.1 in
    let number : number_of last.1 ≡ x.0.scope = ap number_of x.2 ∙ number_is rows x.0.scope are.hosts in
    let same = last.3 in
    omega (arith, range, number, same)

pub count_rows : (o : Outline) (rows : List ScopeRow) (xs : List Placed) (own : List (List Row)) → AreParts o rows xs own → suc (begun (map placed_item xs)) ≡ scope_count o.items
count_rows o rows xs own are = ap (λ js. suc (begun js)) (sym (placed_are rows xs)) ∙ ap scope_count are.items_are
