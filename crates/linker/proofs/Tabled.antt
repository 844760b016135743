-- A table of names with one more definition.
use Rattle.std.proofs.Common.{◌≡◌, ℕ, zero, suc, ◌+◌, ◌≤◌, ◌⊎◌, inl, inr, List, [], ◌∷◌, ◌++◌, length, take, refl, sym, ap, ◌∙◌, subst, arith}
use Rattle.std.specs.Prelude.{bytes_eq, slice_get, Option, Some, None, if◌then◌else◌, Bool, true, false}
use Rattle.std.proofs.lemmas.Slice.Eq.{bytes_eq-Decides}
use Rattle.std.proofs.lemmas.List.{append_assoc, append-nil}
use Rattle.rv_assemble.specs.declared.object.ObjUnit.{ObjUnit}
use Rattle.rv_assemble.specs.declared.object.Relocation.{Relocation}
use Rattle.linker.specs.declared.names.Definition.{Definition}
use Rattle.linker.specs.Names.{Entry, definition_at, count_of, unit_entries, entries_from, asked_names, asked_of_units, Holds}
use Rattle.linker.specs.Table.{IsTable, AreMissed}

pub bytes_eq-true : (a b : List ℕ) → bytes_eq a b ≡ true → a ≡ b
bytes_eq-true a b h = (bytes_eq-Decides a b).0 h

bytes_eq-same : (a : List ℕ) → bytes_eq a a ≡ true
bytes_eq-same a = (bytes_eq-Decides a a).1 refl

-- where the k-th unit defines a name
abbrev pub definition : ℕ → ℕ → Definition
definition k place = record { unit = k; place = place }

-- with one more entry
count-more : (name : List ℕ) (es : List Entry) (e : Entry) → count_of name (es ++ e ∷ []) ≡ count_of name es + (if bytes_eq name e.0 then 1 else 0)
count-more name [] e = omega arith
count-more name (x ∷ es) e = let r = count-more name es e in omega (arith, r)

abbrev pub or_else : {A : Type 0} → Option A → Option A → Option A
or_else None b = b
or_else (Some a) b = Some a

first_of : (b : Bool) (d : Definition) (x y o : Option Definition) → x ≡ or_else y o → (if b then Some d else x) ≡ or_else (if b then Some d else y) o
first_of true d x y o e = refl
first_of false d x y o e = e

definition-more : (name : List ℕ) (es : List Entry) (e : Entry) → definition_at name (es ++ e ∷ []) ≡ or_else (definition_at name es) (if bytes_eq name e.0 then Some e.1 else None)
definition-more name [] e = refl
definition-more name (x ∷ es) e =
    first_of (bytes_eq name x.0) x.1 (definition_at name (es ++ e ∷ [])) (definition_at name es) (if bytes_eq name e.0 then Some e.1 else None) (definition-more name es e)

none_of : (b : Bool) (d : Definition) (x : Option Definition) (n : ℕ) → (x ≡ None → n ≡ 0) → (if b then Some d else x) ≡ None → (if b then 1 else 0) + n ≡ 0
none_of true d x n h q = cc
none_of false d x n h q = let r = h q in omega (arith, r)

-- none is defined where the count is 0
pub none-count : (name : List ℕ) (es : List Entry) → definition_at name es ≡ None → count_of name es ≡ 0
none-count name [] h = refl
none-count name (x ∷ es) h = none_of (bytes_eq name x.0) x.1 (definition_at name es) (count_of name es) (λ q. none-count name es q) h

some_of : (b : Bool) (d e : Definition) (x : Option Definition) (n : ℕ) → (x ≡ Some d → 1 ≤ n) → (if b then Some e else x) ≡ Some d → 1 ≤ (if b then 1 else 0) + n
some_of true d e x n h q = omega arith
some_of false d e x n h q = let r = h q in omega (arith, r)

pub some-count : (name : List ℕ) (es : List Entry) (d : Definition) → definition_at name es ≡ Some d → 1 ≤ count_of name es
some-count name [] d h = cc
some-count name (x ∷ es) d h = some_of (bytes_eq name x.0) d x.1 (definition_at name es) (count_of name es) (λ q. some-count name es d q) h

pub get-old : (xs : List (List ℕ)) (y : List ℕ) (k : ℕ) (x : List ℕ) → slice_get xs k ≡ Some x → slice_get (xs ++ y ∷ []) k ≡ Some x
get-old [] y k x g = cc
get-old (z ∷ xs) y zero x g = g
get-old (z ∷ xs) y (suc k) x g = get-old xs y k x g

pub get-last : (xs : List (List ℕ)) (y : List ℕ) → slice_get (xs ++ y ∷ []) (length xs) ≡ Some y
get-last [] y = refl
get-last (z ∷ xs) y = get-last xs y

pub get-split : (xs : List (List ℕ)) (y : List ℕ) (k : ℕ) (x : List ℕ) → slice_get (xs ++ y ∷ []) k ≡ Some x → (slice_get xs k ≡ Some x) ⊎ (y ≡ x)
get-split [] y zero x g = let e : y ≡ x = cc in inr e
get-split [] y (suc k) x g = cc
get-split (z ∷ xs) y zero x g = inl g
get-split (z ∷ xs) y (suc k) x g = get-split xs y k x g

is_none : (o : Option Definition) → or_else o None ≡ o
is_none None = refl
is_none (Some d) = refl

module _ (entries table : List Entry) (twice : List (List ℕ)) (name : List ℕ) (d : Definition) (h : IsTable entries table twice) where
  -- a second definition
  again_first : (old : Definition) → definition_at name table ≡ Some old → (n : List ℕ) (b : Bool) → bytes_eq n name ≡ b → definition_at n table ≡ or_else (definition_at n entries) (if b then Some d else None)
  again_first old f n true t =
      let same : n ≡ name = bytes_eq-true n name t in
      let here : definition_at n entries ≡ Some old = sym (h.first n) ∙ ap (λ (m : List ℕ). definition_at m table) same ∙ f in
      h.first n ∙ here ∙ ap (λ (o : Option Definition). or_else o (Some d)) (sym here)
  again_first old f n false t = h.first n ∙ sym (is_none (definition_at n entries))

  full_again : (n : List ℕ) (b : Bool) → bytes_eq n name ≡ b → 2 ≤ count_of n entries + (if b then 1 else 0) → Holds (twice ++ name ∷ []) n
  full_again n true t c = (length twice, subst (λ (m : List ℕ). slice_get (twice ++ name ∷ []) (length twice) ≡ Some m) (sym (bytes_eq-true n name t)) (get-last twice name))
  full_again n false t c = let old = h.full n (omega arith) in (old.0, get-old twice name old.0 n old.1)

  pub table-again : (old : Definition) → definition_at name table ≡ Some old → IsTable (entries ++ (name, d) ∷ []) table (twice ++ name ∷ [])
  table-again old f = record {
    first = λ n. again_first old f n (bytes_eq n name) refl ∙ sym (definition-more n entries (name, d));
    sound = λ n s.
        let more = count-more n entries (name, d) in
        elim (get-split twice name s.0 n s.1) [
          | inl g ↦ (let two = h.sound n (s.0, g) in omega (arith, more, two))
          | inr e ↦ (
              let one = some-count n entries old (sym (h.first n) ∙ ap (λ (m : List ℕ). definition_at m table) (sym e) ∙ f) in
              let yes : bytes_eq n name ≡ true = subst (λ (m : List ℕ). bytes_eq m name ≡ true) e (bytes_eq-same name) in
              let two : count_of n (entries ++ (name, d) ∷ []) ≡ count_of n entries + 1 = more ∙ ap (λ (b : Bool). count_of n entries + (if b then 1 else 0)) yes in
              omega (arith, one, two))
        ];
    full = λ n c. full_again n (bytes_eq n name) refl (let more = count-more n entries (name, d) in omega (arith, more, c));
  }

  full_new : (n : List ℕ) (b : Bool) → definition_at name table ≡ None → bytes_eq n name ≡ b → 2 ≤ count_of n entries + (if b then 1 else 0) → Holds twice n
  full_new n true f t c =
      let none : definition_at n entries ≡ None = sym (h.first n) ∙ ap (λ (m : List ℕ). definition_at m table) (bytes_eq-true n name t) ∙ f in
      let zero = none-count n entries none in
      absurd (omega (arith, zero, c))
  full_new n false f t c = h.full n (omega arith)

  pub table-new : definition_at name table ≡ None → IsTable (entries ++ (name, d) ∷ []) (table ++ (name, d) ∷ []) twice
  table-new f = record {
    first = λ n.
        definition-more n table (name, d)
        ∙ ap (λ (o : Option Definition). or_else o (if bytes_eq n name then Some d else None)) (h.first n)
        ∙ sym (definition-more n entries (name, d));
    sound = λ n s. let more = count-more n entries (name, d) in let two = h.sound n s in omega (arith, more, two);
    full = λ n c. full_new n (bytes_eq n name) f refl (let more = count-more n entries (name, d) in omega (arith, more, c));
  }

pub unit-more : (k i : ℕ) (names : List (List ℕ × ℕ)) (n : List ℕ × ℕ) → slice_get names i ≡ Some n
    → unit_entries k (take (i + 1) names) ≡ unit_entries k (take i names) ++ (n.0, definition k n.1) ∷ []
unit-more k i [] n g = cc
unit-more k zero (m ∷ names) n g = let e : m ≡ n = cc in ap (λ (x : List ℕ × ℕ). let r : List Entry = (x.0, definition k x.1) ∷ [] in r) e
unit-more k (suc i) (m ∷ names) n g =
    let e : suc i + 1 ≡ suc (i + 1) = omega arith in
    ap (λ (j : ℕ). unit_entries k (take j (m ∷ names))) e ∙ ap (λ (r : List Entry). (m.0, definition k m.1) ∷ r) (unit-more k i names n g)

pub from-more : (j k : ℕ) (units : List ObjUnit) (u : ObjUnit) → slice_get units k ≡ Some u
    → entries_from j (take (k + 1) units) ≡ entries_from j (take k units) ++ unit_entries (j + k) u.names
from-more j k [] u g = cc
from-more j zero (v ∷ units) u g =
    let e : j + 0 ≡ j = omega arith in
    let same : v ≡ u = cc in
    append-nil (unit_entries j v.names) ∙ ap (λ (w : ObjUnit). unit_entries j w.names) same ∙ ap (λ (m : ℕ). unit_entries m u.names) (sym e)
from-more j (suc k) (v ∷ units) u g =
    let e : suc k + 1 ≡ suc (k + 1) = omega arith in
    let f : j + 1 + k ≡ j + suc k = omega arith in
    ap (λ (m : ℕ). entries_from j (take m (v ∷ units))) e
    ∙ ap (λ (r : List Entry). unit_entries j v.names ++ r) (from-more (j + 1) k units u g)
    ∙ sym (append_assoc (unit_entries j v.names) (entries_from (j + 1) (take k units)) (unit_entries (j + 1 + k) u.names))
    ∙ ap (λ (m : ℕ). (unit_entries j v.names ++ entries_from (j + 1) (take k units)) ++ unit_entries m u.names) f

pub names-more : (i : ℕ) (relocations : List Relocation) (r : Relocation) → slice_get relocations i ≡ Some r
    → asked_names (take (i + 1) relocations) ≡ asked_names (take i relocations) ++ r.name ∷ []
names-more i [] r g = cc
names-more zero (q ∷ rs) r g = let e : q ≡ r = cc in ap (λ (x : Relocation). let t : List (List ℕ) = x.name ∷ [] in t) e
names-more (suc i) (q ∷ rs) r g =
    let e : suc i + 1 ≡ suc (i + 1) = omega arith in
    ap (λ (j : ℕ). asked_names (take j (q ∷ rs))) e ∙ ap (λ (t : List (List ℕ)). q.name ∷ t) (names-more i rs r g)

pub asked-more : (k : ℕ) (units : List ObjUnit) (u : ObjUnit) → slice_get units k ≡ Some u
    → asked_of_units (take (k + 1) units) ≡ asked_of_units (take k units) ++ asked_names u.relocations
asked-more k [] u g = cc
asked-more zero (v ∷ units) u g =
    let same : v ≡ u = cc in
    append-nil (asked_names v.relocations) ∙ ap (λ (w : ObjUnit). asked_names w.relocations) same
asked-more (suc k) (v ∷ units) u g =
    let e : suc k + 1 ≡ suc (k + 1) = omega arith in
    ap (λ (m : ℕ). asked_of_units (take m (v ∷ units))) e
    ∙ ap (λ (r : List (List ℕ)). asked_names v.relocations ++ r) (asked-more k units u g)
    ∙ sym (append_assoc (asked_names v.relocations) (asked_of_units (take k units)) (asked_names u.relocations))

module _ (asked : List (List ℕ)) (table : List Entry) (missing : List (List ℕ)) (name : List ℕ) (h : AreMissed asked table missing) where
  -- a name that is there
  pub missed-same : (d : Definition) → definition_at name table ≡ Some d → AreMissed (asked ++ name ∷ []) table missing
  missed-same d f = record {
    sound = λ n m. let s = h.sound n m in ((s.0.0, get-old asked name s.0.0 n s.0.1), s.1);
    full = λ n a none. elim (get-split asked name a.0 n a.1) [
      | inl old ↦ h.full n (a.0, old) none
      | inr e ↦ (let here : definition_at name table ≡ None = subst (λ (m : List ℕ). definition_at m table ≡ None) (sym e) none in absurd (there_is d (sym f ∙ here)))
    ];
  }
    where
      there_is : (d : Definition) → Some d ≡ None → ⊥
      there_is d e = cc

  -- a name that isn't
  pub missed-more : definition_at name table ≡ None → AreMissed (asked ++ name ∷ []) table (missing ++ name ∷ [])
  missed-more f = record {
    sound = λ n m. elim (get-split missing name m.0 n m.1) [
      | inl old ↦ (let s = h.sound n (m.0, old) in ((s.0.0, get-old asked name s.0.0 n s.0.1), s.1))
      | inr e ↦ ((length asked, subst (λ (x : List ℕ). slice_get (asked ++ name ∷ []) (length asked) ≡ Some x) e (get-last asked name)), subst (λ (x : List ℕ). definition_at x table ≡ None) e f)
    ];
    full = λ n a none. elim (get-split asked name a.0 n a.1) [
      | inl old ↦ (let s = h.full n (a.0, old) none in (s.0, get-old missing name s.0 n s.1))
      | inr e ↦ (length missing, subst (λ (x : List ℕ). slice_get (missing ++ name ∷ []) (length missing) ≡ Some x) e (get-last missing name))
    ];
  }
