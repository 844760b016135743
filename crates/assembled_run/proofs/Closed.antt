-- Where each name that units ask for is that of one of them, no name is missing or defined twice.
use Rattle.std.proofs.Common.{◌≡◌, ℕ, zero, suc, ◌+◌, ◌≤◌, ◌⊎◌, inl, inr, List, [], ◌∷◌, ◌++◌, length, take, refl, sym, ap, ◌∙◌, subst, arith}
use Rattle.std.specs.Prelude.{slice_get, Some, bytes_eq, true, false, Bool, if◌then◌else◌}
use Rattle.std.proofs.lemmas.List.{length_push}
use Rattle.std.proofs.lemmas.Option.{slice_get_within}
use Rattle.std.proofs.lemmas.Slice.Eq.{bytes_eq-Decides}
use Rattle.rv_assemble.specs.declared.unit.AsmUnit.{AsmUnit}
use Rattle.rv_assemble.specs.declared.object.ObjUnit.{ObjUnit}
use Rattle.rv_assemble.specs.declared.object.Relocation.{Relocation}
use Rattle.rv_assemble.specs.Lines.{IsProperUnit, IsAssembled}
use Rattle.linker.specs.Names.{count_of, unit_entries, entries_from, asked_names, asked_of_units, entry_name, Holds}
use Rattle.linker.specs.Linked.{IsFaulty}
use Rattle.assembled_run.specs.Program.{AreAssembled, AreClosed, IsNameOf, Names}
use Rattle.assembled_run.proofs.Asked.{origin}
use Rattle.assembled_run.proofs.Linkable.{unit_at, names_of}
use Rattle.assembled_run.proofs.Once.{count-append, count-from}

same_unit : (a b : AsmUnit) → Some a ≡ Some b → a ≡ b
same_unit a b e = cc

same_object : (a b : ObjUnit) → Some a ≡ Some b → a ≡ b
same_object a b e = cc

-- each object has the name of its unit alone
abbrev AreNamed : List AsmUnit → List ObjUnit → Type 0
AreNamed [] os = os ≡ []
AreNamed (u ∷ us) [] = ⊥
AreNamed (u ∷ us) (o ∷ os) = (o.names ≡ (u.name, 0) ∷ []) × AreNamed us os

are_named : (us : List AsmUnit) (os : List ObjUnit) → length os ≡ length us → ((i : ℕ) (u : AsmUnit) (o : ObjUnit) → slice_get us i ≡ Some u → slice_get os i ≡ Some o → o.names ≡ (u.name, 0) ∷ []) → AreNamed us os
are_named [] [] c h = refl
are_named [] (o ∷ os) c h = absurd (omega (arith, c))
are_named (u ∷ us) [] c h = absurd (omega (arith, c))
are_named (u ∷ us) (o ∷ os) c h = (h 0 u o refl refl, are_named us os (omega (arith, c)) (λ i v p g l. h (suc i) v p g l))

-- the entries of one object more
first_entry : (k : ℕ) (name own : List ℕ) (names : List (List ℕ × ℕ)) → names ≡ (own, 0) ∷ [] → count_of name (unit_entries k names) ≡ (if bytes_eq name own then 1 else 0)
first_entry k name own names e = ap (λ (ns : List (List ℕ × ℕ)). count_of name (unit_entries k ns)) e ∙ omega arith

not_it : (name own : List ℕ) → (own ≡ name → ⊥) → bytes_eq name own ≡ false
not_it name own n = by (bytes_eq name own) refl
  where
    by : (b : Bool) → bytes_eq name own ≡ b → bytes_eq name own ≡ false
    by true t = absurd (n (sym ((bytes_eq-Decides name own).0 t)))
    by false t = t

count_none : (k : ℕ) (us : List AsmUnit) (os : List ObjUnit) (name : List ℕ) → AreNamed us os → ((i : ℕ) (u : AsmUnit) → slice_get us i ≡ Some u → u.name ≡ name → ⊥) → count_of name (entries_from k os) ≡ 0
count_none k [] os name h n = ap (λ (xs : List ObjUnit). count_of name (entries_from k xs)) h
count_none k (u ∷ us) [] name h n = absurd h
count_none k (u ∷ us) (o ∷ os) name h n =
    let a = count-append name (unit_entries k o.names) (entries_from (k + 1) os) in
    let f = first_entry k name u.name o.names h.0 in
    let z : (if bytes_eq name u.name then 1 else 0) ≡ 0 = ap (λ (b : Bool). let m : ℕ = if b then 1 else 0 in m) (not_it name u.name (n 0 u refl)) in
    let r = count_none (k + 1) us os name h.1 (λ i v g e. n (suc i) v g e) in
    omega (arith, a, f, z, r)

count_once : (k : ℕ) (us : List AsmUnit) (os : List ObjUnit) (name : List ℕ) → AreNamed us os → ((i j : ℕ) (u v : AsmUnit) → slice_get us i ≡ Some u → slice_get us j ≡ Some v → u.name ≡ v.name → i ≡ j)
    → count_of name (entries_from k os) ≤ 1
count_once k [] os name h own = let z = ap (λ (xs : List ObjUnit). count_of name (entries_from k xs)) h in omega (arith, z)
count_once k (u ∷ us) [] name h own = absurd h
count_once k (u ∷ us) (o ∷ os) name h own = by (bytes_eq name u.name) refl (count_once (k + 1) us os name h.1 (λ i j v w g l e. (let s = own (suc i) (suc j) v w g l e in omega (arith, s))))
  where
    all : count_of name (entries_from k (o ∷ os)) ≡ (if bytes_eq name u.name then 1 else 0) + count_of name (entries_from (k + 1) os)
    all =
        let a = count-append name (unit_entries k o.names) (entries_from (k + 1) os) in
        let f = first_entry k name u.name o.names h.0 in
        omega (arith, a, f)

    by : (b : Bool) → bytes_eq name u.name ≡ b → count_of name (entries_from (k + 1) os) ≤ 1 → count_of name (entries_from k (o ∷ os)) ≤ 1
    by true t rest =
        let same = (bytes_eq-Decides name u.name).0 t in
        let z = count_none (k + 1) us os name h.1 (λ i v g e. (let s = own 0 (suc i) u v refl g (sym same ∙ sym e) in absurd (omega (arith, s)))) in
        let c : (if bytes_eq name u.name then 1 else 0) ≡ 1 = ap (λ (b : Bool). let m : ℕ = if b then 1 else 0 in m) t in
        let e = all in
        omega (arith, e, z, c)
    by false t rest =
        let c : (if bytes_eq name u.name then 1 else 0) ≡ 0 = ap (λ (b : Bool). let m : ℕ = if b then 1 else 0 in m) t in
        let e = all in
        omega (arith, e, c, rest)

-- a name that units ask for is asked for by one of them
split : (xs ys : List (List ℕ)) (k : ℕ) (n : List ℕ) → slice_get (xs ++ ys) k ≡ Some n → Holds xs n ⊎ Holds ys n
split [] ys k n g = inr (k, g)
split (x ∷ xs) ys zero n g = inl (0, g)
split (x ∷ xs) ys (suc k) n g = elim (split xs ys k n g) [ inl h ↦ inl (suc h.0, h.1) | inr h ↦ inr h ]

in_requests : (rs : List Relocation) (k : ℕ) (n : List ℕ) → slice_get (asked_names rs) k ≡ Some n → (r : Relocation) × (slice_get rs k ≡ Some r) × (r.name ≡ n)
in_requests [] k n g = cc
in_requests (r ∷ rs) zero n g = (r, refl, (let e : r.name ≡ n = cc in e))
in_requests (r ∷ rs) (suc k) n g = in_requests rs k n g

in_units : (os : List ObjUnit) (n : List ℕ) → Holds (asked_of_units os) n → (i : ℕ) × ((o : ObjUnit) × ((j : ℕ) × ((r : Relocation) × (slice_get os i ≡ Some o) × (slice_get o.relocations j ≡ Some r) × (r.name ≡ n))))
in_units [] n h = let g : slice_get [] h.0 ≡ Some n = h.1 in cc
in_units (o ∷ os) n h = elim (split (asked_names o.relocations) (asked_of_units os) h.0 n h.1) [
  | inl f ↦ (let r = in_requests o.relocations f.0 n f.1 in (0, (o, (f.0, (r.0, refl, r.1, r.2)))))
  | inr f ↦ (let r = in_units os n f in (suc r.0, r.1))
]

pub closed_link : (us : List AsmUnit) (os : List ObjUnit) → AreAssembled us os → AreClosed us → (name : List ℕ) → IsFaulty os name → ⊥
closed_link us os h c name (inr twice) =
    let n = are_named us os h.count (λ i u o g l. (h.each i u o g l).names) in
    let m = count_once 0 us os name n c.own in
    omega (arith, m, twice)
closed_link us os h c name (inl missing) = by (split (asked_of_units os) (entry_name ∷ []) missing.0.0 name missing.0.1)
  where
    defined : IsNameOf us name → ⊥
    defined f =
        let lt = slice_get_within us f.0 f.1.0 f.1.1 in
        let w = unit_at us os h f.0 lt in
        let same : w.unit ≡ f.1.0 = same_unit w.unit f.1.0 (sym w.is_unit ∙ f.1.1) in
        let own : w.unit.name ≡ name = ap (λ (u : AsmUnit). u.name) same ∙ f.1.2 in
        let stands : slice_get w.object.names 0 ≡ Some (name, 0) = ap (λ (ns : List (List ℕ × ℕ)). slice_get ns 0) w.assembled.names ∙ ap (λ (m : List ℕ). Some (m, 0)) own in
        let one = count-from 0 os name f.0 0 w.object (w.is_object, (0, stands)) in
        let none = missing.1 in
        omega (arith, one, none)

    last : Holds (entry_name ∷ []) name → entry_name ≡ name
    last f = only f.0 f.1
      where
        only : (k : ℕ) → slice_get (entry_name ∷ []) k ≡ Some name → entry_name ≡ name
        only zero g = cc
        only (suc k) g = cc

    by : Holds (asked_of_units os) name ⊎ Holds (entry_name ∷ []) name → ⊥
    by (inr f) = defined (subst (λ (m : List ℕ). IsNameOf us m) (last f) c.main)
    by (inl f) =
        let r = in_units os name f in
        let i = r.0 in
        let o = r.1.0 in
        let q = r.1.1.1 in
        let lt = slice_get_within os i o q.1 in
        let n = h.count in
        let w = unit_at us os h i (omega (arith, lt, n)) in
        let same : w.object ≡ o = same_object w.object o (sym w.is_object ∙ q.1) in
        let there : slice_get w.object.relocations r.1.1.0 ≡ Some q.0 = subst (λ (v : ObjUnit). slice_get v.relocations r.1.1.0 ≡ Some q.0) (sym same) q.2 in
        defined (c.named i w.unit name w.is_unit (subst (λ (m : List ℕ). Names w.unit m) q.3 (names_of w.unit w.object w.assembled q.0 (origin w.unit w.object w.assembled r.1.1.0 q.0 there))))

-- one unit more
pub assembled_more : (us : List AsmUnit) (os : List ObjUnit) (u : AsmUnit) (o : ObjUnit) → AreAssembled us os → IsProperUnit u → IsAssembled u o → AreAssembled (us ++ u ∷ []) (os ++ o ∷ [])
assembled_more us os u o h p a =
    let c = h.count in
    let l = length_push us u in
    let m = length_push os o in
    record {
      count = omega (arith, c, l, m);
      proper = λ i v g. elim (get_split us u i v g) [ inl f ↦ h.proper i v f | inr f ↦ subst (λ (w : AsmUnit). IsProperUnit w) f.0 p ];
      each = λ i v q g k. elim (get_split us u i v g) [
        | inl f ↦ elim (get_split os o i q k) [
          | inl e ↦ h.each i v q f e
          | inr e ↦ (let lt = slice_get_within us i v f in let at = e.1 in absurd (omega (arith, lt, at, c)))
        ]
        | inr f ↦ elim (get_split os o i q k) [
          | inl e ↦ (let lt = slice_get_within os i q e in let at = f.1 in absurd (omega (arith, lt, at, c)))
          | inr e ↦ subst (λ (w : AsmUnit). IsAssembled w q) f.0 (subst (λ (w : ObjUnit). IsAssembled u w) e.0 a)
        ]
      ];
    }
  where
    get_split : {X : Type 0} (xs : List X) (y : X) (k : ℕ) (x : X) → slice_get (xs ++ y ∷ []) k ≡ Some x → (slice_get xs k ≡ Some x) ⊎ ((y ≡ x) × (k ≡ length xs))
    get_split [] y zero x g = let e : y ≡ x = cc in inr (e, refl)
    get_split [] y (suc k) x g = cc
    get_split (z ∷ xs) y zero x g = inl g
    get_split (z ∷ xs) y (suc k) x g = elim (get_split xs y k x g) [ inl f ↦ inl f | inr f ↦ (let n = f.1 in inr (f.0, omega (arith, n))) ]

pub units_more : (us : List AsmUnit) (k : ℕ) (u : AsmUnit) → slice_get us k ≡ Some u → take (k + 1) us ≡ take k us ++ u ∷ []
units_more [] k u g = cc
units_more (v ∷ us) zero u g = ap (λ (w : AsmUnit). w ∷ []) (same_unit v u g)
units_more (v ∷ us) (suc k) u g =
    let e : suc k + 1 ≡ suc (k + 1) = omega arith in
    ap (λ (m : ℕ). take m (v ∷ us)) e ∙ ap (λ (xs : List AsmUnit). v ∷ xs) (units_more us k u g)

pub assembled_none : AreAssembled [] []
assembled_none = record { count = refl; proper = λ i u g. cc; each = λ i u o g h. cc }
