-- What is said first is what is so.
use Rattle.std.proofs.Common.{◌≡◌, ℕ, zero, suc, ◌<◌, ◌⊎◌, inl, inr, Bool, true, false, ◌&&◌, cond, eqb, is_some, List, [], ◌∷◌, map, slice_get, option_map, Option, Some, None, refl, sym, ap, ◌∙◌, subst, arith}
use Rattle.std.specs.Prelude.{Decides}
use Rattle.std.specs.Str.{bytes_eq}
use Rattle.std.proofs.lemmas.Bool.{eqb-true, eq-eqb}
use Rattle.std.proofs.lemmas.Option.{slice_get-map}
use Rattle.f_items.specs.declared.item.Access.{Access}
use Rattle.f_items.specs.declared.item.Access.TheVariants.{Public, Private}
use Rattle.f_items.specs.declared.item.Declared.{Declared}
use Rattle.f_items.specs.declared.item.Name.{Name}
use Rattle.f_items.specs.declared.item.Item.{Item}
use Rattle.f_items.specs.declared.item.Item.TheVariants.{Declares, Heads, Uses, Takes, ImportsAll, Imports, Default, Accesses}
use Rattle.f_items.specs.Places.{Located, scope_of, host_of, At}
use Rattle.f_items.specs.Declarations.{Declaration, declaration_of, declared_by}
use Rattle.f_items.specs.Accessible.{Stands, IsRenamed, or_else, access_declared, access_stated, access_said, default_stated, default_access, access_or, is_public, is_public_access}
use Rattle.f_scope.specs.declared.table.Entry.{Entry}
use Rattle.f_scope.specs.declared.placement.ScopeRow.{ScopeRow}
use Rattle.f_scope.specs.declared.placement.Placed.{Placed}
use Rattle.f_scope.specs.Rows.{seen}
use Rattle.f_scope.proofs.Lookups.{same_bytes, bytes_same}
use Rattle.f_scope.proofs.Scans.{some_one}
use Rattle.f_stated.specs.declared.said.Saying.{Saying}
use Rattle.f_stated.specs.declared.said.Saying.TheVariants as saying
use Rattle.f_stated.specs.Said.{Key, renaming_key, key_by, key_of, declared_key, Says, IsSaid, first_of, access_in, access_of, access_at, default_in, default_of, default_at}
use Rattle.f_stated.specs.Stated.{public_by, NamesImport}

-- a key that is there
abbrev pub some_key : ℕ → List ℕ → Option Key
some_key s x = Some (s, x)

-- the parts of keys that are one
key_parts : (a b : ℕ) (x y : List ℕ) → some_key a x ≡ some_key b y → (a ≡ b) × (x ≡ y)
key_parts a b x y e = (ap scope_in e, ap name_in e) where
  scope_in : Option Key → ℕ
  scope_in None = 0
  scope_in (Some k) = k.0

  name_in : Option Key → List ℕ
  name_in None = []
  name_in (Some k) = k.1

both : (a b : Bool) → (a && b) ≡ true → (a ≡ true) × (b ≡ true)
both true true e = (refl, refl)
both true false e = absurd (cc)
both false b e = absurd (cc)

-- the name in the scope passes the test that it is this one
tested : (s m : ℕ) (x name : List ℕ) → s ≡ m → x ≡ name → (eqb s m && bytes_eq name x) ≡ true
tested s m x name a b =
    let first : eqb s m ≡ true = eq-eqb s m a in
    let second : bytes_eq name x ≡ true = ap (bytes_eq name) b ∙ bytes_same name in
    ap (λ t. t && bytes_eq name x) first ∙ second

-- ---- accessibility

-- what an item says of a name's accessibility, before what is said behind it
said_by : ℕ → List ℕ → Item → ℕ → ℕ → Option Access → Option Access
said_by m name i here host rest = or_else (access_declared m name (declared_by i here host)) (or_else (access_stated m name i here) rest)

module _ (m : ℕ) (name : List ℕ) (rest : Option Access) where
  declared_hit : (s : ℕ) (d : Declared) (o : Option Access) → d.access ≡ o → declared_key s d ≡ some_key m name → or_else (access_declared m name (Some (record { scope = s; what = d }))) rest ≡ d.access
  declared_hit s d None e k = let bad : None ≡ some_key m name = sym (ap (λ x. cond (is_some x) (some_key s d.name.bytes) None) e) ∙ k in absurd (cc)
  declared_hit s d (Some a) e k =
      let is : some_key s d.name.bytes ≡ some_key m name = sym (ap (λ x. cond (is_some x) (some_key s d.name.bytes) None) e) ∙ k in
      let parts = key_parts s m d.name.bytes name is in
      ap (λ b. or_else (cond b d.access None) rest) (tested s m d.name.bytes name parts.0 parts.1)
      ∙ ap (λ x. or_else x rest) e
      ∙ sym e

  declared_miss : (s : ℕ) (d : Declared) → (declared_key s d ≡ some_key m name → ⊥) → or_else (access_declared m name (Some (record { scope = s; what = d }))) rest ≡ rest
  declared_miss s d deny = pick (eqb s m && bytes_eq name d.name.bytes) refl d.access refl where
    pick : (b : Bool) → (eqb s m && bytes_eq name d.name.bytes) ≡ b → (o : Option Access) → d.access ≡ o → or_else (cond b d.access None) rest ≡ rest
    pick false eb o e = refl
    pick true eb None e = ap (λ x. or_else x rest) e
    pick true eb (Some a) e =
        let bs = both (eqb s m) (bytes_eq name d.name.bytes) eb in
        let first : s ≡ m = eqb-true s m bs.0 in
        let second : d.name.bytes ≡ name = sym (same_bytes name d.name.bytes bs.1) in
        absurd (deny (ap (λ x. cond (is_some x) (some_key s d.name.bytes) None) e ∙ ap (λ x. some_key x (d.name.bytes)) first ∙ ap (λ x. some_key m x) second))

  stated_hit : (s : ℕ) (n : Name) (a : Access) → some_key s n.bytes ≡ some_key m name → or_else (access_stated m name (Accesses n a) s) rest ≡ Some a
  stated_hit s n a k = let parts = key_parts s m n.bytes name k in ap (λ b. or_else (cond b (Some a) None) rest) (tested s m n.bytes name parts.0 parts.1)

  stated_miss : (s : ℕ) (n : Name) (a : Access) → (some_key s n.bytes ≡ some_key m name → ⊥) → or_else (access_stated m name (Accesses n a) s) rest ≡ rest
  stated_miss s n a deny = pick (eqb s m && bytes_eq name n.bytes) refl where
    pick : (b : Bool) → (eqb s m && bytes_eq name n.bytes) ≡ b → or_else (cond b (Some a) None) rest ≡ rest
    pick false eb = refl
    pick true eb =
        let bs = both (eqb s m) (bytes_eq name n.bytes) eb in
        let first : s ≡ m = eqb-true s m bs.0 in
        let second : n.bytes ≡ name = sym (same_bytes name n.bytes bs.1) in
        absurd (deny (ap (λ x. some_key x (n.bytes)) first ∙ ap (λ x. some_key m x) second))

  access_hit : (i : Item) (here host : ℕ) → key_by saying.Access i here host ≡ some_key m name → said_by m name i here host rest ≡ access_in i
  unfolding said_by
  access_hit (Declares d) here host k = declared_hit here d d.access refl k
  access_hit (Heads d) here host k = declared_hit host d d.access refl k
  access_hit (Accesses n a) here host k = stated_hit here n a k
  access_hit _ here host k = absurd (cc)

  access_miss : (i : Item) (here host : ℕ) → (key_by saying.Access i here host ≡ some_key m name → ⊥) → said_by m name i here host rest ≡ rest
  unfolding said_by
  access_miss (Declares d) here host deny = declared_miss here d deny
  access_miss (Heads d) here host deny = declared_miss host d deny
  access_miss (Accesses n a) here host deny = stated_miss here n a deny
  access_miss _ here host deny = refl

behind : (s : Saying) (l : Located) (ls : List Located) (m : ℕ) (key : List ℕ) (k : ℕ) → Says s ls m key k → Says s (l ∷ ls) m key (suc k)
behind s l ls m key k i = record { located = i.located; at = i.at; says = i.says }

first_here : (s : Saying) (l : Located) (ls : List Located) (m : ℕ) (key : List ℕ) → key_of s l ≡ some_key m key → Says s (l ∷ ls) m key 0
first_here s l ls m key e = record { located = l; at = refl; says = e }

access-none : (m : ℕ) (name : List ℕ) (p : List Located) → ((k : ℕ) → Says saying.Access p m name k → ⊥) → access_said m name p ≡ None
unfolding access_said said_by
access-none m name [] deny = refl
access-none m name (l ∷ ls) deny =
    access_miss m name (access_said m name ls) l.item (scope_of l).number (host_of l).number (λ e. deny 0 (first_here saying.Access l ls m name e))
    ∙ access-none m name ls (λ k i. deny (suc k) (behind saying.Access l ls m name k i))

access-first : (m : ℕ) (name : List ℕ) (p : List Located) (k : ℕ) (i : Says saying.Access p m name k) → ((j : ℕ) → j < k → Says saying.Access p m name j → ⊥) → access_said m name p ≡ access_in i.located.item
unfolding access_said said_by
access-first m name [] k i none = let bad = i.at in absurd (cc)
access-first m name (l ∷ ls) zero i none =
    let one : l ≡ i.located = some_one (Some l) l i.located refl i.at in
    let says : key_of saying.Access l ≡ some_key m name = ap (key_of saying.Access) one ∙ i.says in
    access_hit m name (access_said m name ls) l.item (scope_of l).number (host_of l).number says ∙ ap (λ x. access_in x.item) one
access-first m name (l ∷ ls) (suc k) i none =
    access_miss m name (access_said m name ls) l.item (scope_of l).number (host_of l).number (λ e. none 0 (omega arith) (first_here saying.Access l ls m name e))
    ∙ access-first m name ls k (record { located = i.located; at = i.at; says = i.says }) (λ j lt h. none (suc j) (omega (arith, lt)) (behind saying.Access l ls m name j h))

-- ---- the accessibility of all other names

-- the first that is said, or what is said behind it
or_access : Option Access → Access → Access
or_access None other = other
or_access (Some a) other = a

default_here : ℕ → Item → ℕ → Access → Access
default_here m i here rest = access_or (default_stated m i here) rest

default_hit : (m : ℕ) (rest : Access) (i : Item) (here host : ℕ) → key_by saying.DefaultAccess i here host ≡ some_key m [] → default_here m i here rest ≡ access_or (default_in i) Public
unfolding default_here
default_hit m rest (Default a) here host k = let parts = key_parts here m [] [] k in ap (λ b. access_or (cond b (Some a) None) rest) (eq-eqb here m parts.0)
default_hit m rest _ here host k = absurd (cc)

default_miss : (m : ℕ) (rest : Access) (i : Item) (here host : ℕ) → (key_by saying.DefaultAccess i here host ≡ some_key m [] → ⊥) → default_here m i here rest ≡ rest
unfolding default_here
default_miss m rest (Default a) here host deny = pick (eqb here m) refl where
  pick : (b : Bool) → eqb here m ≡ b → access_or (cond b (Some a) None) rest ≡ rest
  pick false eb = refl
  pick true eb = absurd (deny (ap (λ x. some_key x ([])) (eqb-true here m eb)))
default_miss m rest _ here host deny = refl

default_step : (m : ℕ) (l : Located) (ls : List Located) → default_access m (l ∷ ls) ≡ default_here m l.item (scope_of l).number (default_access m ls)
unfolding default_access default_here
default_step m l ls = pick (default_stated m l.item (scope_of l).number) refl where
  pick : (o : Option Access) → default_stated m l.item (scope_of l).number ≡ o → default_access m (l ∷ ls) ≡ default_here m l.item (scope_of l).number (default_access m ls)
  pick None e = rw e refl
  pick (Some a) e = rw e refl

default-none : (m : ℕ) (p : List Located) → ((k : ℕ) → Says saying.DefaultAccess p m [] k → ⊥) → default_access m p ≡ Public
unfolding default_access
default-none m [] deny = refl
default-none m (l ∷ ls) deny =
    default_step m l ls
    ∙ default_miss m (default_access m ls) l.item (scope_of l).number (host_of l).number (λ e. deny 0 (first_here saying.DefaultAccess l ls m [] e))
    ∙ default-none m ls (λ k i. deny (suc k) (behind saying.DefaultAccess l ls m [] k i))

default-first : (m : ℕ) (p : List Located) (k : ℕ) (i : Says saying.DefaultAccess p m [] k) → ((j : ℕ) → j < k → Says saying.DefaultAccess p m [] j → ⊥) → default_access m p ≡ access_or (default_in i.located.item) Public
default-first m [] k i none = let bad = i.at in absurd (cc)
default-first m (l ∷ ls) zero i none =
    let one : l ≡ i.located = some_one (Some l) l i.located refl i.at in
    let says : key_of saying.DefaultAccess l ≡ some_key m [] = ap (key_of saying.DefaultAccess) one ∙ i.says in
    default_step m l ls ∙ default_hit m (default_access m ls) l.item (scope_of l).number (host_of l).number says ∙ ap (λ x. access_or (default_in x.item) Public) one
default-first m (l ∷ ls) (suc k) i none =
    default_step m l ls
    ∙ default_miss m (default_access m ls) l.item (scope_of l).number (host_of l).number (λ e. none 0 (omega arith) (first_here saying.DefaultAccess l ls m [] e))
    ∙ default-first m ls k (record { located = i.located; at = i.at; says = i.says }) (λ j lt h. none (suc j) (omega (arith, lt)) (behind saying.DefaultAccess l ls m [] j h))

-- ---- by the tables

module _ (rows : List ScopeRow) (xs : List Placed) where
  -- the item that is seen at a place
  seen_at : (k : ℕ) (l : Located) → At (map (seen rows) xs) k l → (x : Placed) × (slice_get xs k ≡ Some x) × (l ≡ seen rows x)
  seen_at k l at = pick (slice_get xs k) refl where
    pick : (o : Option Placed) → slice_get xs k ≡ o → (x : Placed) × (slice_get xs k ≡ Some x) × (l ≡ seen rows x)
    pick None e = let bad : None ≡ Some l = sym (slice_get-map (seen rows) xs k ∙ ap (option_map (seen rows)) e) ∙ at in absurd (cc)
    pick (Some x) e = (x, e, (let is : Some (seen rows x) ≡ Some l = sym (slice_get-map (seen rows) xs k ∙ ap (option_map (seen rows)) e) ∙ at in let one : seen rows x ≡ l = cc in sym one))

  access_place : (m : ℕ) (name : List ℕ) (o : Option Entry) → IsSaid saying.Access (map (seen rows) xs) m name o → access_said m name (map (seen rows) xs) ≡ access_at xs (first_of o)
  access_place m name None said = access-none m name (map (seen rows) xs) said
  access_place m name (Some e) said =
      let x = seen_at e.first said.0.located said.0.at in
      access-first m name (map (seen rows) xs) e.first said.0 said.1 ∙ ap (λ l. access_in l.item) x.2 ∙ sym (ap access_of x.1)

  default_place : (m : ℕ) (o : Option Entry) → IsSaid saying.DefaultAccess (map (seen rows) xs) m [] o → default_access m (map (seen rows) xs) ≡ access_or (default_at xs (first_of o)) Public
  default_place m None said = default-none m (map (seen rows) xs) said
  default_place m (Some e) said =
      let x = seen_at e.first said.0.located said.0.at in
      default-first m (map (seen rows) xs) e.first said.0 said.1 ∙ ap (λ l. access_or (default_in l.item) Public) x.2 ∙ sym (ap (λ o. access_or (default_of o) Public) x.1)

  by_parts : (said other : Option Access) → public_by said other ≡ is_public_access (access_or said (access_or other Public))
  by_parts (Some a) other = refl
  by_parts None (Some a) = refl
  by_parts None None = refl

  pub public_is : (m : ℕ) (name : List ℕ) (a d : Option Entry) → IsSaid saying.Access (map (seen rows) xs) m name a → IsSaid saying.DefaultAccess (map (seen rows) xs) m [] d
      → public_by (access_at xs (first_of a)) (default_at xs (first_of d)) ≡ is_public (map (seen rows) xs) m name
  public_is m name a d said other =
      by_parts (access_at xs (first_of a)) (default_at xs (first_of d))
      ∙ ap (λ x. is_public_access (access_or x (access_or (default_at xs (first_of d)) Public))) (sym (access_place m name a said))
      ∙ ap (λ x. is_public_access (access_or (access_said m name (map (seen rows) xs)) x)) (sym (default_place m d other))

-- ---- IMPORT

import_names : (p : List Located) (s : ℕ) (name : List ℕ) (k : ℕ) → Says saying.Import p s name k → NamesImport p s name
import_names p s name k i = pick i.located.item refl i.says where
  pick : (x : Item) → i.located.item ≡ x → key_by saying.Import x (scope_of i.located).number (host_of i.located).number ≡ some_key s name → NamesImport p s name
  pick (Imports n) e k' = let parts = key_parts (scope_of i.located).number s n.bytes name k' in (n, parts.1, record { place = k; located = i.located; at = i.at; item_is = e; scope_is = parts.0 })
  pick _ e k' = absurd (cc)

names_import : (p : List Located) (s : ℕ) (name : List ℕ) (i : NamesImport p s name) → Says saying.Import p s name i.2.place
names_import p s name i = record {
  located = i.2.located;
  at = i.2.at;
  says = ap (λ x. key_by saying.Import x (scope_of i.2.located).number (host_of i.2.located).number) i.2.item_is ∙ ap (λ x. some_key x (i.0.bytes)) i.2.scope_is ∙ ap (λ x. some_key s x) i.1;
}

pub imports_decided : (p : List Located) (s : ℕ) (name : List ℕ) (o : Option Entry) → IsSaid saying.Import p s name o → Decides (is_some (first_of o)) (NamesImport p s name)
imports_decided p s name None said = (λ e. absurd (cc), λ i. absurd (said i.2.place (names_import p s name i)))
imports_decided p s name (Some e) said = (λ _. import_names p s name e.first said.0, λ i. refl)

import_all : (p : List Located) (s : ℕ) (k : ℕ) → Says saying.WholeImport p s [] k → Stands p s ImportsAll
import_all p s k i = pick i.located.item refl i.says where
  pick : (x : Item) → i.located.item ≡ x → key_by saying.WholeImport x (scope_of i.located).number (host_of i.located).number ≡ some_key s [] → Stands p s ImportsAll
  pick ImportsAll e k' = record { place = k; located = i.located; at = i.at; item_is = e; scope_is = (key_parts (scope_of i.located).number s [] [] k').0 }
  pick _ e k' = absurd (cc)

all_import : (p : List Located) (s : ℕ) (i : Stands p s ImportsAll) → Says saying.WholeImport p s [] i.place
all_import p s i = record { located = i.located; at = i.at; says = ap (λ x. key_by saying.WholeImport x (scope_of i.located).number (host_of i.located).number) i.item_is ∙ ap (λ x. some_key x ([])) i.scope_is }

pub imports_all_decided : (p : List Located) (s : ℕ) (o : Option Entry) → IsSaid saying.WholeImport p s [] o → Decides (is_some (first_of o)) (Stands p s ImportsAll)
imports_all_decided p s None said = (λ e. absurd (cc), λ i. absurd (said i.place (all_import p s i)))
imports_all_decided p s (Some e) said = (λ _. import_all p s e.first said.0, λ i. refl)

-- ---- renaming

one_renaming : (m n u v : List ℕ) → renaming_key m u ≡ renaming_key n v → (m ≡ n) × (u ≡ v)
unfolding renaming_key
one_renaming [] [] u v e = (refl, cc)
one_renaming [] (c ∷ n) u v e = absurd (cc)
one_renaming (b ∷ m) [] u v e = absurd (cc)
one_renaming (b ∷ m) (c ∷ n) u v e =
    let head : b ≡ c = cc in
    let tail : renaming_key m u ≡ renaming_key n v = cc in
    let rest = one_renaming m n u v tail in
    (ap (λ x. x ∷ m) head ∙ ap (λ x. c ∷ x) rest.0, rest.1)

renamed : (p : List Located) (s : ℕ) (m u : List ℕ) (k : ℕ) → Says saying.Renaming p s (renaming_key m u) k → IsRenamed p s m u
renamed p s m u k i = pick i.located.item refl i.says where
  named : (x : List ℕ) (lo used : Name) → i.located.item ≡ Takes x lo used true → some_key (scope_of i.located).number (renaming_key x used.bytes) ≡ some_key s (renaming_key m u) → IsRenamed p s m u
  named x lo used e q =
      let parts = key_parts (scope_of i.located).number s (renaming_key x used.bytes) (renaming_key m u) q in
      let names = one_renaming x m used.bytes u parts.1 in
      record { local_name = lo; used_name = used; used_is = names.1; takes = record { place = k; located = i.located; at = i.at; item_is = e ∙ ap (λ y. Takes y lo used true) names.0; scope_is = parts.0 } }

  pick : (x : Item) → i.located.item ≡ x → key_by saying.Renaming x (scope_of i.located).number (host_of i.located).number ≡ some_key s (renaming_key m u) → IsRenamed p s m u
  pick (Takes x lo used true) e q = named x lo used e q
  pick (Takes x lo used false) e q = absurd (cc)
  pick _ e q = absurd (cc)

is_said : (p : List Located) (s : ℕ) (m u : List ℕ) (r : IsRenamed p s m u) → Says saying.Renaming p s (renaming_key m u) r.takes.place
is_said p s m u r = record {
  located = r.takes.located;
  at = r.takes.at;
  says = ap (λ x. key_by saying.Renaming x (scope_of r.takes.located).number (host_of r.takes.located).number) r.takes.item_is
      ∙ ap (λ x. some_key x (renaming_key m r.used_name.bytes)) r.takes.scope_is
      ∙ ap (λ x. some_key s (renaming_key m x)) r.used_is;
}

pub renaming_decided : (p : List Located) (s : ℕ) (m u : List ℕ) (o : Option Entry) → IsSaid saying.Renaming p s (renaming_key m u) o → Decides (is_some (first_of o)) (IsRenamed p s m u)
renaming_decided p s m u None said = (λ e. absurd (cc), λ r. absurd (said r.takes.place (is_said p s m u r)))
renaming_decided p s m u (Some e) said = (λ _. renamed p s m u e.first said.0, λ r. refl)
