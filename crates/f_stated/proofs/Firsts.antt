-- What tables say of the first place at which a scope says something.
use Rattle.std.proofs.Common.{◌≡◌, ℕ, suc, ◌+◌, ◌<◌, ◌⊎◌, inl, inr, Bool, true, false, ◌&&◌, cond, eqb, ltb, List, [], ◌∷◌, ◌++◌, map, length, slice_get, replicate, Option, Some, None, refl, sym, ap, ◌∙◌, subst, arith}
use Rattle.std.specs.Str.{bytes_eq}
use Rattle.std.proofs.lemmas.Bool.{eqb-true, eq-eqb}
use Rattle.std.proofs.lemmas.List.{get_or-replicate, length-append, append_assoc, length-map, length-replicate, length-set}
use Rattle.std.proofs.lemmas.Option.{slice_get_within}
use Rattle.std.proofs.Math.ListN.{set}
use Rattle.f_items.specs.declared.item.Class.TheVariants as class
use Rattle.f_items.specs.declared.item.DeclaredType.TheVariants.{NotDerived}
use Rattle.f_items.specs.declared.item.Share.TheVariants as share
use Rattle.f_items.specs.Places.{Located, scope_of, host_of, At}
use Rattle.f_items.specs.Declarations.{Declaration}
use Rattle.f_scope.specs.BuiltIn.{no_place}
use Rattle.f_scope.specs.declared.table.Entry.{Entry}
use Rattle.f_scope.specs.declared.placement.ScopeRow.{ScopeRow}
use Rattle.f_scope.specs.declared.placement.Placed.{Placed}
use Rattle.f_scope.specs.Rows.{AreHosts, seen, host_in, chain_of}
use Rattle.f_scope.specs.Tables.{Row, entry_at, entry_with, noted, table_at, noted_in}
use Rattle.f_scope.proofs.Chains.{number_is, host_is}
use Rattle.f_scope.proofs.Lookups.{same_bytes, bytes_same}
use Rattle.f_scope.proofs.Scans.{next, mention, one_item, last, seam, some_one}
use Rattle.f_stated.specs.declared.said.Saying.{Saying}
use Rattle.f_stated.specs.Said.{Key, key_by, key_of, key_at, Says, IsSaid, AreSaid, noted_key, noted_keys}

-- a key as a declaration, for which tables are known already
as_declaration : Key → Declaration
as_declaration k = record { scope = k.0; what = record { name = record { bytes = k.1; place = no_place }; class = class.Data; share = share.Whole; of_type = NotDerived; access = None } }

as_declarations : Option Key → Option Declaration
as_declarations None = None
as_declarations (Some k) = Some (as_declaration k)

noted-is : (tables : List (List Row)) (place : ℕ) (o : Option Key) → noted_key tables place o ≡ noted_in tables place (as_declarations o)
unfolding as_declarations as_declaration
noted-is tables place None = refl
noted-is tables place (Some k) = refl

-- whether the key is this one
abbrev pub hit : ℕ → List ℕ → Option Key → Option Bool
hit s key None = None
hit s key (Some k) = cond (eqb k.0 s && bytes_eq key k.1) (Some true) None

hit-is : (s : ℕ) (key : List ℕ) (o : Option Key) → mention s key (as_declarations o) ≡ hit s key o
unfolding as_declarations as_declaration
hit-is s key None = refl
hit-is s key (Some k) = refl

one_key : (tables : List (List Row)) (place s : ℕ) (key : List ℕ) (o : Option Key) → s < length tables → entry_at key (table_at (noted_key tables place o) s) ≡ next (entry_at key (table_at tables s)) place (hit s key o)
one_key tables place s key o lt =
    ap (λ t. entry_at key (table_at t s)) (noted-is tables place o)
    ∙ one_item tables place s key (as_declarations o) lt
    ∙ ap (next (entry_at key (table_at tables s)) place) (hit-is s key o)

both : (a b : Bool) → (a && b) ≡ true → (a ≡ true) × (b ≡ true)
both true true e = (refl, refl)
both true false e = absurd (cc)
both false b e = absurd (cc)

-- a hit is the key, and the key is a hit
hit_key : (s : ℕ) (key : List ℕ) (o : Option Key) (t : Bool) → hit s key o ≡ Some t → (o ≡ Some (s, key)) × (t ≡ true)
hit_key s key None t e = absurd (cc)
hit_key s key (Some k) t e = pick (eqb k.0 s && bytes_eq key k.1) refl e where
  pick : (b : Bool) → (eqb k.0 s && bytes_eq key k.1) ≡ b → cond b (Some true) None ≡ Some t → (Some k ≡ Some (s, key)) × (t ≡ true)
  pick false eb e = absurd (cc)
  pick true eb e =
      let bs = both (eqb k.0 s) (bytes_eq key k.1) eb in
      let a : k.0 ≡ s = eqb-true k.0 s bs.0 in
      let b : k.1 ≡ key = sym (same_bytes key k.1 bs.1) in
      let is : true ≡ t = cc in
      (ap (λ x. Some (x, k.1)) a ∙ ap (λ x. Some (s, x)) b, sym is)

key_hit : (s : ℕ) (key : List ℕ) (o : Option Key) → o ≡ Some (s, key) → hit s key o ≡ Some true
key_hit s key o e =
    let a : eqb s s ≡ true = eq-eqb s s refl in
    let b : bytes_eq key key ≡ true = bytes_same key in
    let both_are : (eqb s s && bytes_eq key key) ≡ true = ap (λ x. x && bytes_eq key key) a ∙ b in
    ap (hit s key) e ∙ ap (λ x. cond x (Some true) None) both_are

-- ---- below a place

module _ (saying : Saying) (p : List Located) (s : ℕ) (key : List ℕ) where
  abbrev pub SaidBelow : ℕ → Option Entry → Type 0
  SaidBelow n None = (j : ℕ) → j < n → Says saying p s key j → ⊥
  SaidBelow n (Some e) = (e.first < n) × Says saying p s key e.first × ((j : ℕ) → j < e.first → Says saying p s key j → ⊥)

  module _ (n : ℕ) (l : Located) (at : At p n l) where
    not_here : (o : Option Key) → key_of saying l ≡ o → hit s key o ≡ None → Says saying p s key n → ⊥
    not_here o e none i =
        let one : i.located ≡ l = some_one (slice_get p n) i.located l i.at at in
        let is : o ≡ Some (s, key) = sym e ∙ ap (key_of saying) (sym one) ∙ i.says in
        let bad : None ≡ Some true = sym none ∙ key_hit s key o is in
        cc

    here : (o : Option Key) (t : Bool) → key_of saying l ≡ o → hit s key o ≡ Some t → Says saying p s key n
    here o t e some = record { located = l; at = at; says = e ∙ (hit_key s key o t some).0 }

    stepped : (o : Option Key) → key_of saying l ≡ o → (x : Option Entry) (m : Option Bool) → hit s key o ≡ m → SaidBelow n x → SaidBelow (suc n) (next x n m)
    stepped o e None None h old = λ j lt i. pick j i (last j n lt) where
      pick : (j : ℕ) → Says saying p s key j → (j < n) ⊎ (j ≡ n) → ⊥
      pick j i (inl a) = old j a i
      pick j i (inr q) = let P : ℕ → Type 0 = λ k. Says saying p s key k in not_here o e h (subst P q i)
    stepped o e (Some x) None h old = let lt = old.0 in (omega (arith, lt), old.1, old.2)
    stepped o e None (Some t) h old = (omega arith, here o t e h, old)
    stepped o e (Some x) (Some t) h old = let lt = old.0 in (omega (arith, lt), old.1, old.2)

-- ---- all items

length-noted : (tables : List (List Row)) (place : ℕ) (o : Option Key) → length (noted_key tables place o) ≡ length tables
length-noted tables place None = refl
length-noted tables place (Some k) = pick (ltb k.0 (length tables)) where
  row : List Row
  row = noted (table_at tables k.0) k.1 place true

  pick : (b : Bool) → length (cond b (set tables k.0 row) tables) ≡ length tables
  pick true = length-set tables k.0 row
  pick false = refl

pub key-is : (saying : Saying) (rows : List ScopeRow) → AreHosts rows → (x : Placed) → key_of saying (seen rows x) ≡ key_at saying rows x
key-is saying rows hosts x =
    ap (λ n. key_by saying x.item n (host_of (seen rows x)).number) (number_is rows x.scope hosts) ∙ ap (key_by saying x.item x.scope) (host_is rows x.scope hosts)

module _ (saying : Saying) (rows : List ScopeRow) (hosts : AreHosts rows) (p : List Located) (s : ℕ) (key : List ℕ) where
  said_all : (xs : List Placed) (before : List Located) (n : ℕ) (tables : List (List Row)) → p ≡ before ++ map (seen rows) xs → length before ≡ n → s < length tables
      → SaidBelow saying p s key n (entry_at key (table_at tables s)) → SaidBelow saying p s key (n + length xs) (entry_at key (table_at (noted_keys saying rows tables n xs) s))
  unfolding noted_keys
  said_all [] before n tables e len lt old = let same : n ≡ n + 0 = omega arith in let P : ℕ → Type 0 = λ k. SaidBelow saying p s key k (entry_at key (table_at tables s)) in subst P same old
  said_all (x ∷ xs) before n tables e len lt old =
      let l = seen rows x in
      let at : At p n l = ap (λ q. slice_get q n) e ∙ ap (slice_get (before ++ l ∷ map (seen rows) xs)) (sym len) ∙ seam before l (map (seen rows) xs) in
      let k = key_at saying rows x in
      let o = entry_at key (table_at tables s) in
      let new = stepped saying p s key n l at k (key-is saying rows hosts x) o (hit s key k) refl old in
      let same : next o n (hit s key k) ≡ entry_at key (table_at (noted_key tables n k) s) = sym (one_key tables n s key k lt) in
      let P : Option Entry → Type 0 = λ q. SaidBelow saying p s key (suc n) q in
      let long : length (noted_key tables n k) ≡ length tables = length-noted tables n k in
      let parts : p ≡ (before ++ l ∷ []) ++ map (seen rows) xs = e ∙ sym (append_assoc before (l ∷ []) (map (seen rows) xs)) in
      let grown : length (before ++ l ∷ []) ≡ suc n = let a = length-append before (l ∷ []) in omega (arith, a, len) in
      let all = said_all xs (before ++ l ∷ []) (suc n) (noted_key tables n k) parts grown (omega (arith, long, lt)) (subst P same new) in
      let count : suc n + length xs ≡ n + length (x ∷ xs) = let one : length (x ∷ xs) ≡ suc (length xs) = omega arith in omega (arith, one) in
      let Q : ℕ → Type 0 = λ k. SaidBelow saying p s key k (entry_at key (table_at (noted_keys saying rows (noted_key tables n (key_at saying rows x)) (suc n) xs) s)) in
      subst Q count all

  whole : (o : Option Entry) → SaidBelow saying p s key (length p) o → IsSaid saying p s key o
  whole None old = λ j i. old j (slice_get_within p j i.located i.at) i
  whole (Some e) old = (old.1, old.2)

none_yet : (saying : Saying) (p : List Located) (s : ℕ) (key : List ℕ) → SaidBelow saying p s key 0 (entry_at key [])
unfolding entry_at
none_yet saying p s key = λ j lt i. absurd (omega (arith, lt))

pub are_said : (saying : Saying) (rows : List ScopeRow) → AreHosts rows → (xs : List Placed) → AreSaid saying (map (seen rows) xs) (noted_keys saying rows (replicate (length rows) []) 0 xs) (length rows)
are_said saying rows hosts xs s lt key =
    let p = map (seen rows) xs in
    let tables : List (List Row) = replicate (length rows) [] in
    let long : length tables ≡ length rows = length-replicate (length rows) [] in
    let empty : table_at tables s ≡ [] = get_or-replicate (length rows) s [] [] lt in
    let P : List Row → Type 0 = λ t. SaidBelow saying p s key 0 (entry_at key t) in
    let start : SaidBelow saying p s key 0 (entry_at key (table_at tables s)) = subst P (sym empty) (none_yet saying p s key) in
    let all = said_all saying rows hosts p s key xs [] 0 tables refl refl (omega (arith, long, lt)) start in
    let count : 0 + length xs ≡ length p = let m = length-map xs (seen rows) in omega (arith, m) in
    let Q : ℕ → Type 0 = λ k. SaidBelow saying p s key k (entry_at key (table_at (noted_keys saying rows tables 0 xs) s)) in
    whole saying rows hosts p s key (entry_at key (table_at (noted_keys saying rows tables 0 xs) s)) (subst Q count all)
