-- What tables say behind all items.
use Rattle.std.proofs.Common.{◌≡◌, ℕ, suc, ◌+◌, ◌<◌, ◌≤◌, ◌⊎◌, inl, inr, Bool, true, false, ◌&&◌, cond, eqb, ltb, List, [], ◌∷◌, ◌++◌, map, length, get_or, slice_get, replicate, Option, Some, None, refl, sym, ap, ◌∙◌, subst, arith}
use Rattle.std.specs.Str.{bytes_eq}
use Rattle.std.proofs.lemmas.Bool.{eqb-true, eq-eqb, ltb-true, lt-ltb}
use Rattle.std.proofs.lemmas.List.{get_or-set_same, get_or-set_other, length-set, get_or-replicate, length-append, append_assoc, length-map, length-replicate}
use Rattle.std.proofs.Math.ListN.{set}
use Rattle.std.proofs.Math.Seq.{get_or-append_seam}
use Rattle.std.proofs.lemmas.Option.{slice_get_within, slice_get_cases}
use Rattle.f_items.specs.declared.item.Share.{Share}
use Rattle.f_items.specs.declared.item.Share.TheVariants.{Whole, Announced, Typed}
use Rattle.f_items.specs.Places.{Located, At}
use Rattle.f_items.specs.Declarations.{Declaration, declaration_of, IsDeclared, Tells}
use Rattle.f_items.proofs.Single.{three}
use Rattle.f_scope.specs.declared.table.Entry.{Entry}
use Rattle.f_scope.specs.declared.placement.ScopeRow.{ScopeRow}
use Rattle.f_scope.specs.declared.placement.Placed.{Placed}
use Rattle.f_scope.specs.Rows.{AreHosts, seen}
use Rattle.f_scope.specs.Tables.{Row, entry_at, or_else, told_by, entry_with, noted, tells_share, table_at, declared_at, noted_in, noted_all}
use Rattle.f_scope.specs.Own.{IsNamed, IsTold, IsLooked, AreOwn}
use Rattle.f_scope.proofs.Chains.{declaration-is}
use Rattle.f_scope.proofs.Lookups.{same_bytes, bytes_same, entry-put}

-- whether a declaration is of this name in this scope, and then whether it tells what the name is
abbrev pub mention : ℕ → List ℕ → Option Declaration → Option Bool
mention s name None = None
mention s name (Some d) = cond (eqb d.scope s && bytes_eq name d.what.name.bytes) (Some (tells_share d.what.share)) None

-- an entry behind an item
abbrev pub next : Option Entry → ℕ → Option Bool → Option Entry
next o place None = o
next o place (Some tells) = Some (entry_with o place tells)

-- what is there is one
pub some_one : {A : Type 0} (o : Option A) (x y : A) → o ≡ Some x → o ≡ Some y → x ≡ y
some_one o x y e f = let d : Some x ≡ Some y = sym e ∙ f in cc

-- ---- one item in the tables

both : (a b : Bool) → (a && b) ≡ true → (a ≡ true) × (b ≡ true)
both true true e = (refl, refl)
both true false e = absurd (cc)
both false b e = absurd (cc)

in_table : (rows : List Row) (name other : List ℕ) (place : ℕ) (tells : Bool) → entry_at name (noted rows other place tells) ≡ next (entry_at name rows) place (cond (bytes_eq name other) (Some tells) None)
in_table rows name other place tells = entry-put name other (entry_with (entry_at other rows) place tells) rows ∙ pick (bytes_eq name other) refl where
  pick : (b : Bool) → bytes_eq name other ≡ b → cond b (Some (entry_with (entry_at other rows) place tells)) (entry_at name rows) ≡ next (entry_at name rows) place (cond b (Some tells) None)
  pick true e = ap (λ n. Some (entry_with (entry_at n rows) place tells)) (sym (same_bytes name other e))
  pick false e = refl

pub one_item : (tables : List (List Row)) (place s : ℕ) (name : List ℕ) (o : Option Declaration) → s < length tables → entry_at name (table_at (noted_in tables place o) s) ≡ next (entry_at name (table_at tables s)) place (mention s name o)
one_item tables place s name None lt = refl
one_item tables place s name (Some d) lt = pick (ltb d.scope (length tables)) refl where
  row : List Row
  row = noted (table_at tables d.scope) d.what.name.bytes place (tells_share d.what.share)

  there : (b : Bool) → eqb d.scope s ≡ b → d.scope < length tables → entry_at name (table_at (set tables d.scope row) s) ≡ next (entry_at name (table_at tables s)) place (cond (b && bytes_eq name d.what.name.bytes) (Some (tells_share d.what.share)) None)
  there true e within =
      let is : d.scope ≡ s = eqb-true d.scope s e in
      ap (λ t. entry_at name (table_at (set tables d.scope row) t)) (sym is)
      ∙ ap (entry_at name) (get_or-set_same tables d.scope row [] within)
      ∙ in_table (table_at tables d.scope) name d.what.name.bytes place (tells_share d.what.share)
      ∙ ap (λ t. next (entry_at name (table_at tables t)) place (cond (bytes_eq name d.what.name.bytes) (Some (tells_share d.what.share)) None)) is
  there false e within = ap (entry_at name) (get_or-set_other tables d.scope s row [] (λ is. let yes : eqb d.scope s ≡ true = eq-eqb d.scope s (sym is) in cc))

  beyond : (b : Bool) → eqb d.scope s ≡ b → (d.scope < length tables → ⊥) → entry_at name (table_at tables s) ≡ next (entry_at name (table_at tables s)) place (cond (b && bytes_eq name d.what.name.bytes) (Some (tells_share d.what.share)) None)
  beyond true e out = let P : ℕ → Type 0 = λ n. n < length tables in absurd (out (subst P (sym (eqb-true d.scope s e)) lt))
  beyond false e out = refl

  pick : (b : Bool) → ltb d.scope (length tables) ≡ b → entry_at name (table_at (cond b (set tables d.scope row) tables) s) ≡ next (entry_at name (table_at tables s)) place (mention s name (Some d))
  pick true e = there (eqb d.scope s) refl (ltb-true d.scope (length tables) e)
  pick false e = beyond (eqb d.scope s) refl (λ lt. let yes : ltb d.scope (length tables) ≡ true = lt-ltb d.scope (length tables) lt in cc)

-- ---- what an entry says of the items before a place

abbrev pub ToldBelow : List Located → ℕ → List ℕ → ℕ → Option ℕ → Type 0
ToldBelow p s name n None = (j : ℕ) → j < n → IsDeclared p s name j → ⊥
ToldBelow p s name n (Some k) = IsDeclared p s name k × (k < n) × ((j : ℕ) → j < k → IsDeclared p s name j → ⊥)

pub record Below (p : List Located) (s : ℕ) (name : List ℕ) (n : ℕ) (e : Entry) : Type 0 where
  pub within : e.first < n
  pub first : IsNamed p s name e.first
  pub none_before : (j : ℕ) → j < e.first → IsNamed p s name j → ⊥
  pub told : ToldBelow p s name n e.told

abbrev pub LookedBelow : List Located → ℕ → List ℕ → ℕ → Option Entry → Type 0
LookedBelow p s name n None = (j : ℕ) → j < n → IsNamed p s name j → ⊥
LookedBelow p s name n (Some e) = Below p s name n e

pub as_named : (p : List Located) (s : ℕ) (name : List ℕ) (j : ℕ) → IsDeclared p s name j → IsNamed p s name j
as_named p s name j i = record { item = i.item; declaration = i.declaration; at = i.at; declares = i.declares; scope_is = i.scope_is; name_is = i.name_is }

-- a smaller number, or the next
pub last : (j n : ℕ) → j < suc n → (j < n) ⊎ (j ≡ n)
last j n lt = pick (three j n) where
  pick : (j < n) ⊎ ((j ≡ n) ⊎ (n < j)) → (j < n) ⊎ (j ≡ n)
  pick (inl a) = inl a
  pick (inr (inl e)) = inr e
  pick (inr (inr gt)) = absurd (omega (arith, lt, gt))

share_tells : (s : Share) → tells_share s ≡ true → Tells s
share_tells Whole e = tt
share_tells Announced e = absurd (cc)
share_tells Typed e = tt

tells_shares : (s : Share) → Tells s → tells_share s ≡ true
tells_shares Whole t = refl
tells_shares Announced t = absurd t
tells_shares Typed t = refl

-- the item at place n names it, and tells what it is or doesn't
record Mentions (p : List Located) (n s : ℕ) (name : List ℕ) (tells : Bool) : Type 0 where
  named : IsNamed p s name n
  declares : tells ≡ true → IsDeclared p s name n
  not_declares : tells ≡ false → IsDeclared p s name n → ⊥

mention_some : (p : List Located) (n : ℕ) (l : Located) (s : ℕ) (name : List ℕ) (o : Option Declaration) (t : Bool) → At p n l → declaration_of l ≡ o → mention s name o ≡ Some t → Mentions p n s name t
mention_some p n l s name None t at e m = absurd (cc)
mention_some p n l s name (Some d) t at e m = pick (eqb d.scope s && bytes_eq name d.what.name.bytes) refl m where
  pick : (b : Bool) → (eqb d.scope s && bytes_eq name d.what.name.bytes) ≡ b → cond b (Some (tells_share d.what.share)) None ≡ Some t → Mentions p n s name t
  pick false eb m = absurd (cc)
  pick true eb m =
      let bs = both (eqb d.scope s) (bytes_eq name d.what.name.bytes) eb in
      let is : tells_share d.what.share ≡ t = cc in
      let scope_is : d.scope ≡ s = eqb-true d.scope s bs.0 in
      let name_is : d.what.name.bytes ≡ name = sym (same_bytes name d.what.name.bytes bs.1) in
      record {
        named = record { item = l; declaration = d; at = at; declares = e; scope_is = scope_is; name_is = name_is };
        declares = λ yes. record { item = l; declaration = d; at = at; declares = e; scope_is = scope_is; name_is = name_is; tells = share_tells d.what.share (is ∙ yes) };
        not_declares = λ no i.
            let one : i.item ≡ l = some_one (slice_get p n) i.item l i.at at in
            let same : i.declaration ≡ d = some_one (declaration_of l) i.declaration d (ap declaration_of (sym one) ∙ i.declares) e in
            let told : tells_share d.what.share ≡ true = ap (λ x. tells_share x.what.share) (sym same) ∙ tells_shares i.declaration.what.share i.tells in
            let bad : true ≡ false = sym told ∙ is ∙ no in
            absurd (cc);
      }

mention_none : (p : List Located) (n : ℕ) (l : Located) (s : ℕ) (name : List ℕ) → At p n l → mention s name (declaration_of l) ≡ None → IsNamed p s name n → ⊥
mention_none p n l s name at m i =
    let one : i.item ≡ l = some_one (slice_get p n) i.item l i.at at in
    let d = i.declaration in
    let od : declaration_of l ≡ Some d = ap declaration_of (sym one) ∙ i.declares in
    let scopes : eqb d.scope s ≡ true = eq-eqb d.scope s i.scope_is in
    let names : bytes_eq name d.what.name.bytes ≡ true = ap (λ x. bytes_eq x d.what.name.bytes) (sym i.name_is) ∙ bytes_same d.what.name.bytes in
    let yes : (eqb d.scope s && bytes_eq name d.what.name.bytes) ≡ true = ap (λ b. b && bytes_eq name d.what.name.bytes) scopes ∙ names in
    let is : mention s name (declaration_of l) ≡ Some (tells_share d.what.share) = ap (mention s name) od ∙ ap (λ b. cond b (Some (tells_share d.what.share)) None) yes in
    let bad : None ≡ Some (tells_share d.what.share) = sym m ∙ is in
    cc

-- ---- one item more

module _ (p : List Located) (s : ℕ) (name : List ℕ) (n : ℕ) (l : Located) (at : At p n l) where
  -- what isn't declared below a place nor there isn't declared below the next
  undeclared : ((j : ℕ) → j < n → IsDeclared p s name j → ⊥) → (IsDeclared p s name n → ⊥) → (j : ℕ) → j < suc n → IsDeclared p s name j → ⊥
  undeclared old here j lt i = pick (last j n lt) where
    pick : (j < n) ⊎ (j ≡ n) → ⊥
    pick (inl a) = old j a i
    pick (inr e) = let P : ℕ → Type 0 = λ k. IsDeclared p s name k in here (subst P e i)

  unnamed : ((j : ℕ) → j < n → IsNamed p s name j → ⊥) → (IsNamed p s name n → ⊥) → (j : ℕ) → j < suc n → IsNamed p s name j → ⊥
  unnamed old here j lt i = pick (last j n lt) where
    pick : (j < n) ⊎ (j ≡ n) → ⊥
    pick (inl a) = old j a i
    pick (inr e) = let P : ℕ → Type 0 = λ k. IsNamed p s name k in here (subst P e i)

  told_more : (t : Option ℕ) → ToldBelow p s name n t → (IsDeclared p s name n → ⊥) → ToldBelow p s name (suc n) t
  told_more None old here = undeclared old here
  told_more (Some k) old here = let lt = old.1 in (old.0, omega (arith, lt), old.2)

  told_first : (t : Bool) → ((j : ℕ) → j < n → IsDeclared p s name j → ⊥) → Mentions p n s name t → ToldBelow p s name (suc n) (told_by t n)
  told_first true old m = (m.declares refl, omega arith, old)
  told_first false old m = undeclared old (m.not_declares refl)

  told_next : (o : Option ℕ) (t : Bool) → ToldBelow p s name n o → Mentions p n s name t → ToldBelow p s name (suc n) (or_else o (told_by t n))
  told_next None t old m = told_first t old m
  told_next (Some k) t old m = let lt = old.1 in (old.0, omega (arith, lt), old.2)

  stepped : (o : Option Entry) (m : Option Bool) → mention s name (declaration_of l) ≡ m → LookedBelow p s name n o → LookedBelow p s name (suc n) (next o n m)
  stepped None None e old = unnamed old (mention_none p n l s name at e)
  stepped (Some x) None e old =
      let none = mention_none p n l s name at e in
      let lt = old.within in
      record { within = omega (arith, lt); first = old.first; none_before = old.none_before; told = told_more x.told old.told (λ i. none (as_named p s name n i)) }
  stepped None (Some t) e old =
      let m = mention_some p n l s name (declaration_of l) t at refl e in
      record { within = omega arith; first = m.named; none_before = old; told = told_first t (λ j lt i. old j lt (as_named p s name j i)) m }
  stepped (Some x) (Some t) e old =
      let m = mention_some p n l s name (declaration_of l) t at refl e in
      let lt = old.within in
      record { within = omega (arith, lt); first = old.first; none_before = old.none_before; told = told_next x.told t old.told m }

-- ---- all items

length-noted_in : (tables : List (List Row)) (place : ℕ) (o : Option Declaration) → length (noted_in tables place o) ≡ length tables
length-noted_in tables place None = refl
length-noted_in tables place (Some d) = pick (ltb d.scope (length tables)) where
  row : List Row
  row = noted (table_at tables d.scope) d.what.name.bytes place (tells_share d.what.share)

  pick : (b : Bool) → length (cond b (set tables d.scope row) tables) ≡ length tables
  pick true = length-set tables d.scope row
  pick false = refl

pub seam : {A : Type 0} (before : List A) (y : A) (ys : List A) → slice_get (before ++ y ∷ ys) (length before) ≡ Some y
seam before y ys = pick (slice_get_cases (before ++ y ∷ ys) (length before)).1 where
  pick : ((x : _) × (length before < length (before ++ y ∷ ys)) × (slice_get (before ++ y ∷ ys) (length before) ≡ Some x) × (get_or (before ++ y ∷ ys) (length before) x ≡ x)) ⊎ ((length (before ++ y ∷ ys) ≤ length before) × (slice_get (before ++ y ∷ ys) (length before) ≡ None)) → slice_get (before ++ y ∷ ys) (length before) ≡ Some y
  pick (inl q) = q.2 ∙ ap Some (sym q.3 ∙ get_or-append_seam before y ys q.0)
  pick (inr q) =
      let long = length-append before (y ∷ ys) in
      let le = q.0 in
      let one : length (y ∷ ys) ≡ suc (length ys) = omega arith in
      absurd (omega (arith, long, le, one))

module _ (rows : List ScopeRow) (hosts : AreHosts rows) (p : List Located) (s : ℕ) (name : List ℕ) where
  pub own_all : (xs : List Placed) (before : List Located) (n : ℕ) (tables : List (List Row)) → p ≡ before ++ map (seen rows) xs → length before ≡ n → s < length tables
      → LookedBelow p s name n (entry_at name (table_at tables s)) → LookedBelow p s name (n + length xs) (entry_at name (table_at (noted_all rows tables n xs) s))
  unfolding noted_all
  own_all [] before n tables e len lt old = let same : n ≡ n + 0 = omega arith in let P : ℕ → Type 0 = λ k. LookedBelow p s name k (entry_at name (table_at tables s)) in subst P same old
  own_all (x ∷ xs) before n tables e len lt old =
      let l = seen rows x in
      let at : At p n l = ap (λ q. slice_get q n) e ∙ ap (slice_get (before ++ l ∷ map (seen rows) xs)) (sym len) ∙ seam before l (map (seen rows) xs) in
      let is : declaration_of l ≡ declared_at rows x = declaration-is rows x hosts in
      let o = entry_at name (table_at tables s) in
      let new = stepped p s name n l at o (mention s name (declaration_of l)) refl old in
      let same : next o n (mention s name (declaration_of l)) ≡ entry_at name (table_at (noted_in tables n (declared_at rows x)) s) = ap (λ d. next o n (mention s name d)) is ∙ sym (one_item tables n s name (declared_at rows x) lt) in
      let P : Option Entry → Type 0 = λ q. LookedBelow p s name (suc n) q in
      let long : length (noted_in tables n (declared_at rows x)) ≡ length tables = length-noted_in tables n (declared_at rows x) in
      let parts : p ≡ (before ++ l ∷ []) ++ map (seen rows) xs = e ∙ sym (append_assoc before (l ∷ []) (map (seen rows) xs)) in
      let grown : length (before ++ l ∷ []) ≡ suc n = let a = length-append before (l ∷ []) in omega (arith, a, len) in
      let all = own_all xs (before ++ l ∷ []) (suc n) (noted_in tables n (declared_at rows x)) parts grown (omega (arith, long, lt)) (subst P same new) in
      let count : suc n + length xs ≡ n + length (x ∷ xs) = let one : length (x ∷ xs) ≡ suc (length xs) = omega arith in omega (arith, one) in
      let Q : ℕ → Type 0 = λ k. LookedBelow p s name k (entry_at name (table_at (noted_all rows (noted_in tables n (declared_at rows x)) (suc n) xs) s)) in
      subst Q count all

  whole : (o : Option Entry) → LookedBelow p s name (length p) o → IsLooked p s name o
  whole None old = λ j i. old j (slice_get_within p j i.item i.at) i
  whole (Some e) old = record { first = old.first; none_before = old.none_before; told = told e.told old.told } where
    told : (t : Option ℕ) → ToldBelow p s name (length p) t → IsTold p s name t
    told None old = λ j i. old j (slice_get_within p j i.item i.at) i
    told (Some k) old = (old.0, old.2)

none_yet : (p : List Located) (s : ℕ) (name : List ℕ) → LookedBelow p s name 0 (entry_at name [])
unfolding entry_at
none_yet p s name = λ j lt i. absurd (omega (arith, lt))

pub are_own : (rows : List ScopeRow) → AreHosts rows → (xs : List Placed) → AreOwn (map (seen rows) xs) (noted_all rows (replicate (length rows) []) 0 xs) (length rows)
are_own rows hosts xs s lt name =
    let p = map (seen rows) xs in
    let tables : List (List Row) = replicate (length rows) [] in
    let long : length tables ≡ length rows = length-replicate (length rows) [] in
    let empty : table_at tables s ≡ [] = get_or-replicate (length rows) s [] [] lt in
    let P : List Row → Type 0 = λ t. LookedBelow p s name 0 (entry_at name t) in
    let start : LookedBelow p s name 0 (entry_at name (table_at tables s)) = subst P (sym empty) (none_yet p s name) in
    let all = own_all rows hosts p s name xs [] 0 tables refl refl (omega (arith, long, lt)) start in
    let count : 0 + length xs ≡ length p = let m = length-map xs (seen rows) in omega (arith, m) in
    let Q : ℕ → Type 0 = λ k. LookedBelow p s name k (entry_at name (table_at (noted_all rows tables 0 xs) s)) in
    whole rows hosts p s name (entry_at name (table_at (noted_all rows tables 0 xs) s)) (subst Q count all)
