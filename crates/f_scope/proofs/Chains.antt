-- The scopes around an item by the rows of the table.
use Rattle.std.proofs.Common.{◌≡◌, ℕ, zero, suc, ◌+◌, ◌<◌, ◌≤◌, ◌⊎◌, inl, inr, List, [], ◌∷◌, ◌++◌, length, map, get_or, slice_get, Some, reverse, refl, sym, ap, subst, ◌∙◌, arith, lit<}
use Rattle.std.proofs.lemmas.List.{get_or_append_left, get_or_past, length-append, append-nil, append_assoc}
use Rattle.std.proofs.Math.Seq.{get_or-append_seam}
use Rattle.std.proofs.lemmas.Option.{slice_get_within, get_or_from_slice_get}
use Rattle.f_items.specs.declared.item.Item.{Item}
use Rattle.f_items.specs.declared.item.Item.TheVariants.{Enter, Leave}
use Rattle.f_items.specs.Places.{located, opened, closed, counted, around, innermost}
use Rattle.f_items.specs.Declarations.{declaration_of, declared_by}
use Rattle.f_scope.specs.Tables.{declared_at}
use Rattle.f_items.proofs.Single.{three}
use Rattle.f_scope.specs.declared.placement.ScopeRow.{ScopeRow}
use Rattle.f_scope.specs.declared.placement.Placed.{Placed}
use Rattle.f_scope.specs.Rows.{outer_row, row_at, AreHosts, AreWithin, unit_in, host_in, chain, chain_of, seen, opened_rows, opened_at, closed_at, rows_after, placed_after}

-- more steps than a scope's number change nothing
pub enough : (rows : List ScopeRow) → AreHosts rows → (n m s : ℕ) → s ≤ n → s ≤ m → chain n rows s ≡ chain m rows s
unfolding chain
enough rows h zero zero s a b = refl
enough rows h zero (suc m) zero a b = refl
enough rows h zero (suc m) (suc s) a b = absurd (omega (arith, a))
enough rows h (suc n) zero zero a b = refl
enough rows h (suc n) zero (suc s) a b = absurd (omega (arith, b))
enough rows h (suc n) (suc m) zero a b = refl
enough rows h (suc n) (suc m) (suc s) a b =
    let le = h.before s in
    ap (λ r. record { number = suc s; kind = (row_at rows (suc s)).kind } ∷ r) (enough rows h n m (host_in rows (suc s)) (omega (arith, a, le)) (omega (arith, b, le)))

-- a scope and those around it
pub chain-suc : (rows : List ScopeRow) → AreHosts rows → (s : ℕ) → chain_of rows (suc s) ≡ record { number = suc s; kind = (row_at rows (suc s)).kind } ∷ chain_of rows (host_in rows (suc s))
unfolding chain
chain-suc rows h s =
    let le = h.before s in
    ap (λ r. record { number = suc s; kind = (row_at rows (suc s)).kind } ∷ r) (enough rows h s (host_in rows (suc s)) (host_in rows (suc s)) le (omega arith))

pub chain-zero : (rows : List ScopeRow) → chain_of rows 0 ≡ []
unfolding chain
chain-zero rows = refl

-- rows that are there stay
kept : (rows more : List ScopeRow) (s : ℕ) → s < length rows → row_at (rows ++ more) s ≡ row_at rows s
kept rows more s lt = get_or_append_left rows more outer_row s lt

pub longer : (rows more : List ScopeRow) → AreHosts rows → (n s : ℕ) → s < length rows → chain n (rows ++ more) s ≡ chain n rows s
unfolding chain
longer rows more h zero s lt = refl
longer rows more h (suc n) zero lt = refl
longer rows more h (suc n) (suc s) lt =
    let le = h.before s in
    let same : row_at (rows ++ more) (suc s) ≡ row_at rows (suc s) = kept rows more (suc s) lt in
    ap (λ r. record { number = suc s; kind = r.kind } ∷ chain n (rows ++ more) r.host) same
    ∙ ap (λ r. record { number = suc s; kind = (row_at rows (suc s)).kind } ∷ r) (longer rows more h n (host_in rows (suc s)) (omega (arith, le, lt)))

pub chain-longer : (rows more : List ScopeRow) → AreHosts rows → (s : ℕ) → s < length rows → chain_of (rows ++ more) s ≡ chain_of rows s
chain-longer rows more h s lt = longer rows more h s s lt

-- one more row
pub one_more : (rows : List ScopeRow) (r : ScopeRow) → AreHosts rows → 0 < length rows → r.host < length rows → AreHosts (rows ++ r ∷ [])
one_more rows r h some lt = record {
  first = kept rows (r ∷ []) 0 some ∙ h.first;
  before = λ s. pick s (three (suc s) (length rows));
} where
  pick : (s : ℕ) → (suc s < length rows) ⊎ ((suc s ≡ length rows) ⊎ (length rows < suc s)) → host_in (rows ++ r ∷ []) (suc s) ≤ s
  pick s (inl a) = let P : ScopeRow → Type 0 = λ x. x.host ≤ s in subst P (sym (kept rows (r ∷ []) (suc s) a)) (h.before s)
  pick s (inr (inl e)) =
      let is : row_at (rows ++ r ∷ []) (suc s) ≡ r = ap (row_at (rows ++ r ∷ [])) e ∙ get_or-append_seam rows r [] outer_row in
      let P : ScopeRow → Type 0 = λ x. x.host ≤ s in
      let le : r.host ≤ s = omega (arith, e, lt) in
      subst P (sym is) le
  pick s (inr (inr gt)) =
      let long : length (rows ++ r ∷ []) ≡ length rows + 1 = length-append rows (r ∷ []) in
      let past : length (rows ++ r ∷ []) ≤ suc s = omega (arith, long, gt) in
      let P : ScopeRow → Type 0 = λ x. x.host ≤ s in
      subst P (sym (get_or_past (rows ++ r ∷ []) (suc s) outer_row past)) (omega arith)

-- ---- what an item does

-- the state in which an item is met
pub record Ready (rows : List ScopeRow) (s : ℕ) : Type 0 where
  pub hosts : AreHosts rows
  pub some : 0 < length rows
  pub within : s < length rows

chain-of_length : (rows : List ScopeRow) (r : ScopeRow) → AreHosts rows → r.host < length rows → (n : ℕ) → length rows ≡ suc n → chain_of (rows ++ r ∷ []) (length rows) ≡ record { number = length rows; kind = r.kind } ∷ chain_of rows r.host
chain-of_length rows r h lt n e =
    let some : 0 < length rows = omega (arith, e) in
    let h' : AreHosts (rows ++ r ∷ []) = one_more rows r h some lt in
    let is : row_at (rows ++ r ∷ []) (suc n) ≡ r = ap (row_at (rows ++ r ∷ [])) (sym e) ∙ get_or-append_seam rows r [] outer_row in
    ap (chain_of (rows ++ r ∷ [])) e
    ∙ chain-suc (rows ++ r ∷ []) h' n
    ∙ ap (λ x. record { number = suc n; kind = x.kind } ∷ chain_of (rows ++ r ∷ []) x.host) is
    ∙ ap (λ m. record { number = m; kind = r.kind } ∷ chain_of (rows ++ r ∷ []) r.host) (sym e)
    ∙ ap (λ c. record { number = length rows; kind = r.kind } ∷ c) (chain-longer rows (r ∷ []) h r.host lt)

less_one : (n : ℕ) → 0 < n → (m : ℕ) × (n ≡ suc m)
less_one zero lt = absurd (omega (arith, lt))
less_one (suc m) lt = (m, refl)

-- the scopes that are open at an item
pub opens : (rows : List ScopeRow) (s : ℕ) (i : Item) → Ready rows s → chain_of (opened_rows rows s i) (opened_at rows s i) ≡ opened (length rows) (chain_of rows s) i
opens rows s (Enter k place) r =
    let row : ScopeRow = record { kind = k; host = s; unit = unit_in rows s } in
    let m = less_one (length rows) r.some in
    chain-of_length rows row r.hosts r.within m.0 m.1
opens rows s _ r = refl

pub ready_at : (rows : List ScopeRow) (s : ℕ) (i : Item) → Ready rows s → Ready (opened_rows rows s i) (opened_at rows s i)
ready_at rows s (Enter k place) r =
    let row : ScopeRow = record { kind = k; host = s; unit = unit_in rows s } in
    let long : length (rows ++ row ∷ []) ≡ length rows + 1 = length-append rows (row ∷ []) in
    record { hosts = one_more rows row r.hosts r.some r.within; some = omega (arith, long); within = omega (arith, long) }
ready_at rows s _ r = r

pub around-chain : (rows : List ScopeRow) (s : ℕ) → AreHosts rows → chain_of rows (host_in rows s) ≡ around (chain_of rows s)
around-chain rows zero h = ap (λ r. chain_of rows r.host) h.first ∙ chain-zero rows ∙ sym (ap around (chain-zero rows))
around-chain rows (suc s) h = sym (ap around (chain-suc rows h s))

pub closes : (rows : List ScopeRow) (s : ℕ) (i : Item) → Ready rows s → chain_of rows (closed_at rows s i) ≡ closed (chain_of rows s) i
closes rows s Leave r = around-chain rows s r.hosts
closes rows s _ r = refl

host_within : (rows : List ScopeRow) (s : ℕ) → Ready rows s → host_in rows s < length rows
host_within rows zero r = let e : host_in rows 0 ≡ 0 = ap (λ x. x.host) r.hosts.first in let lt = r.some in omega (arith, e, lt)
host_within rows (suc s) r = let le = r.hosts.before s in let lt = r.within in omega (arith, le, lt)

pub ready_behind : (rows : List ScopeRow) (s : ℕ) (i : Item) → Ready rows s → Ready rows (closed_at rows s i)
ready_behind rows s Leave r = record { hosts = r.hosts; some = r.some; within = host_within rows s r }
ready_behind rows s _ r = r

pub counts : (rows : List ScopeRow) (s : ℕ) (i : Item) → length (opened_rows rows s i) ≡ counted (length rows) i
counts rows s (Enter k place) = let long = length-append rows (record { kind = k; host = s; unit = unit_in rows s } ∷ []) in let e : length (rows ++ record { kind = k; host = s; unit = unit_in rows s } ∷ []) ≡ suc (length rows) = omega (arith, long) in e
counts rows s _ = refl

-- ---- all items

opened_more : (rows : List ScopeRow) (s : ℕ) (i : Item) → (more : List ScopeRow) × (opened_rows rows s i ≡ rows ++ more)
opened_more rows s (Enter k place) = (record { kind = k; host = s; unit = unit_in rows s } ∷ [], refl)
opened_more rows s _ = ([], sym (append-nil rows))

pub grows : (rows : List ScopeRow) (s : ℕ) (is : List Item) → (more : List ScopeRow) × (rows_after rows s is ≡ rows ++ more)
unfolding rows_after
grows rows s [] = ([], sym (append-nil rows))
grows rows s (i ∷ is) =
    let first = opened_more rows s i in
    let behind = grows (opened_rows rows s i) (closed_at (opened_rows rows s i) (opened_at rows s i) i) is in
    (first.0 ++ behind.0, behind.1 ∙ ap (λ r. r ++ behind.0) first.1 ∙ append_assoc rows first.0 behind.0)

pub follows : (rows : List ScopeRow) (s : ℕ) (is : List Item) → Ready rows s → map (seen (rows_after rows s is)) (placed_after rows s is) ≡ located (length rows) (chain_of rows s) is
unfolding rows_after placed_after located
follows rows s [] r = refl
follows rows s (i ∷ is) r =
    let rows' = opened_rows rows s i in
    let at = opened_at rows s i in
    let s' = closed_at rows' at i in
    let r' : Ready rows' at = ready_at rows s i r in
    let all = rows_after rows' s' is in
    let behind = grows rows' s' is in
    let here : chain_of all at ≡ opened (length rows) (chain_of rows s) i = ap (λ t. chain_of t at) behind.1 ∙ chain-longer rows' behind.0 r'.hosts at r'.within ∙ opens rows s i r in
    let next : chain_of rows' s' ≡ closed (opened (length rows) (chain_of rows s) i) i = closes rows' at i r' ∙ ap (λ c. closed c i) (opens rows s i r) in
    ap (λ c. record { item = i; scopes = c } ∷ map (seen all) (placed_after rows' s' is)) here
    ∙ ap (λ ls. record { item = i; scopes = opened (length rows) (chain_of rows s) i } ∷ ls)
    (follows rows' s' is (ready_behind rows' at i r') ∙ ap (λ n. located n (chain_of rows' s') is) (counts rows s i) ∙ ap (λ c. located (counted (length rows) i) c is) next)

-- the table in which nothing began
pub ready_first : Ready (outer_row ∷ []) 0
ready_first = record { hosts = record { first = refl; before = λ s. hosts s }; some = lit< tt; within = lit< tt } where
  hosts : (s : ℕ) → host_in (outer_row ∷ []) (suc s) ≤ s
  hosts zero = omega arith
  hosts (suc s) = omega arith

pub from_first : (is : List Item) → map (seen (rows_after (outer_row ∷ []) 0 is)) (placed_after (outer_row ∷ []) 0 is) ≡ located 1 [] is
from_first is = follows (outer_row ∷ []) 0 is ready_first ∙ ap (λ c. located 1 c is) (chain-zero (outer_row ∷ []))

pub hosts_after : (rows : List ScopeRow) (s : ℕ) (is : List Item) → Ready rows s → AreHosts (rows_after rows s is)
unfolding rows_after
hosts_after rows s [] r = r.hosts
hosts_after rows s (i ∷ is) r = hosts_after (opened_rows rows s i) (closed_at (opened_rows rows s i) (opened_at rows s i) i) is (ready_behind (opened_rows rows s i) (opened_at rows s i) i (ready_at rows s i r))

pub hosts_from_first : (is : List Item) → AreHosts (rows_after (outer_row ∷ []) 0 is)
hosts_from_first is = hosts_after (outer_row ∷ []) 0 is ready_first

-- ---- what an item declares

pub number_is : (rows : List ScopeRow) (s : ℕ) → AreHosts rows → (innermost (chain_of rows s)).number ≡ s
number_is rows zero h = ap (λ c. (innermost c).number) (chain-zero rows)
number_is rows (suc s) h = ap (λ c. (innermost c).number) (chain-suc rows h s)

pub host_is : (rows : List ScopeRow) (s : ℕ) → AreHosts rows → (innermost (around (chain_of rows s))).number ≡ host_in rows s
host_is rows s h = ap (λ c. (innermost c).number) (sym (around-chain rows s h)) ∙ number_is rows (host_in rows s) h

pub declaration-is : (rows : List ScopeRow) (x : Placed) → AreHosts rows → declaration_of (seen rows x) ≡ declared_at rows x
declaration-is rows x h = ap (λ n. declared_by x.item n (innermost (around (chain_of rows x.scope))).number) (number_is rows x.scope h) ∙ ap (declared_by x.item x.scope) (host_is rows x.scope h)

-- ---- one turn of the loop

pub rows_next : (rows rows' : List ScopeRow) (s at s' : ℕ) (i : Item) (is : List Item) → rows' ≡ opened_rows rows s i → at ≡ opened_at rows s i → s' ≡ closed_at rows' at i → rows_after rows' s' is ≡ rows_after rows s (i ∷ is)
unfolding rows_after
rows_next rows rows' s at s' i is e f g =
    ap (λ x. rows_after rows' x is) g ∙ ap (λ r. rows_after r (closed_at r at i) is) e ∙ ap (λ a. rows_after (opened_rows rows s i) (closed_at (opened_rows rows s i) a i) is) f

pub placed_next : (rows rows' : List ScopeRow) (s at s' : ℕ) (i : Item) (is : List Item) (done done' : List Placed) → rows' ≡ opened_rows rows s i → at ≡ opened_at rows s i → s' ≡ closed_at rows' at i
    → done' ≡ done ++ record { item = i; scope = at } ∷ [] → done' ++ placed_after rows' s' is ≡ done ++ placed_after rows s (i ∷ is)
unfolding placed_after
placed_next rows rows' s at s' i is done done' e f g h =
    ap (λ d. d ++ placed_after rows' s' is) h
    ∙ append_assoc done (record { item = i; scope = at } ∷ []) (placed_after rows' s' is)
    ∙ ap (λ x. done ++ record { item = i; scope = at } ∷ placed_after rows' x is) g
    ∙ ap (λ r. done ++ record { item = i; scope = at } ∷ placed_after r (closed_at r at i) is) e
    ∙ ap (λ a. done ++ record { item = i; scope = a } ∷ placed_after (opened_rows rows s i) (closed_at (opened_rows rows s i) a i) is) f

pub rows_end : (rows : List ScopeRow) (s : ℕ) (left : List Item) → left ≡ [] → rows ≡ rows_after rows s (reverse left)
unfolding rows_after
rows_end rows s left e = ap (λ l. rows_after rows s (reverse l)) (sym e)

pub placed_end : (rows : List ScopeRow) (s : ℕ) (left : List Item) (done : List Placed) → left ≡ [] → done ≡ done ++ placed_after rows s (reverse left)
unfolding placed_after
placed_end rows s left done e = sym (append-nil done) ∙ ap (λ l. done ++ placed_after rows s (reverse l)) (sym e)

-- the kind of a scope
pub kind_is : (rows : List ScopeRow) (s : ℕ) → AreHosts rows → (innermost (chain_of rows s)).kind ≡ (row_at rows s).kind
kind_is rows zero h = ap (λ c. (innermost c).kind) (chain-zero rows) ∙ sym (ap (λ r. r.kind) h.first)
kind_is rows (suc s) h = ap (λ c. (innermost c).kind) (chain-suc rows h s)

-- the items stand in the scopes of the table
pub within_after : (rows : List ScopeRow) (s : ℕ) (is : List Item) → Ready rows s → AreWithin (length (rows_after rows s is)) (placed_after rows s is)
unfolding rows_after placed_after
within_after rows s [] r = tt
within_after rows s (i ∷ is) r =
    let rows' = opened_rows rows s i in
    let at = opened_at rows s i in
    let r' : Ready rows' at = ready_at rows s i r in
    let s' = closed_at rows' at i in
    let behind = grows rows' s' is in
    let long = length-append rows' behind.0 in
    let e : length (rows_after rows' s' is) ≡ length (rows' ++ behind.0) = ap length behind.1 in
    let lt = r'.within in
    (omega (arith, lt, long, e), within_after rows' s' is (ready_behind rows' at i r'))

pub within_from_first : (is : List Item) → AreWithin (length (rows_after (outer_row ∷ []) 0 is)) (placed_after (outer_row ∷ []) 0 is)
within_from_first is = within_after (outer_row ∷ []) 0 is ready_first

in_range : (n : ℕ) (x : Placed) (xs : List Placed) → AreWithin n xs → (k : ℕ) → k < length xs → (get_or xs k x).scope < n
in_range n x [] w k lt = absurd (omega (arith, lt))
in_range n x (y ∷ ys) w zero lt = w.0
in_range n x (y ∷ ys) w (suc k) lt = in_range n x ys w.1 k (omega (arith, lt))

pub within_at : (n : ℕ) (xs : List Placed) (k : ℕ) (x : Placed) → AreWithin n xs → slice_get xs k ≡ Some x → x.scope < n
within_at n xs k x w e =
    let P : Placed → Type 0 = λ y. y.scope < n in
    subst P (get_or_from_slice_get xs k x x e) (in_range n x xs w k (slice_get_within xs k x e))
