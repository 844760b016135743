-- One more relocation resolved.
use Rattle.std.proofs.Common.{◌≡◌, ℕ, zero, suc, ◌+◌, ◌*◌, ◌%◌, ◌^◌, ◌<◌, ◌≤◌, ◌⊎◌, inl, inr, List, length, refl, sym, ap, ◌∙◌, subst, arith}
use Rattle.std.specs.Prelude.{slice_get, slice_index, Some}
use Rattle.std.proofs.lemmas.Option.{slice_get_within}
use Rattle.jf_base.specs.Numbers.{number_low_first}
use Rattle.rv_assemble.specs.declared.object.ObjUnit.{ObjUnit}
use Rattle.rv_assemble.specs.declared.object.Relocation.{Relocation}
use Rattle.rv_assemble.specs.declared.object.RelocationKind.{RelocationKind}
use Rattle.rv_assemble.specs.declared.object.RelocationKind.TheVariants.{Pair, Word}
use Rattle.linker.specs.Layout.{laid, offset_of}
use Rattle.linker.specs.Patched.{IsSameOutside}
use Rattle.linker.specs.Linked.{HasTarget, IsResolved, AreLinkable}
use Rattle.linker.specs.Resolving.{IsPatched, IsDone, IsBefore}
use Rattle.linker.proofs.Sites.{Site, site, Apart, apart_later, apart_same}

pub number_same : (at n : ℕ) (a b : List ℕ) → ((i : ℕ) → at ≤ i → i < at + n → slice_index a i ≡ slice_index b i) → number_low_first at n a ≡ number_low_first at n b
number_same at zero a b h = refl
number_same at (suc n) a b h =
    ap (λ (x : ℕ). x + 256 * number_low_first (suc at) n a) (h at (omega arith) (omega arith))
    ∙ ap (λ (x : ℕ). slice_index b at + 256 * x) (number_same (suc at) n a b (λ i l m. h i (omega arith) (omega arith)))

-- the bytes that a target is put over are the same
before_same : (old' old new : List ℕ) (at target : ℕ) (kind : RelocationKind) → ((i : ℕ) → at ≤ i → i < at + 8 → slice_index old i ≡ slice_index old' i)
    → HasTarget old new at target kind → HasTarget old' new at target kind
before_same old' old new at target Pair same h = record {
  high = h.high;
  low = h.low;
  high_field = h.high_field;
  low_field = h.low_field;
  sum = h.sum;
  first = h.first ∙ ap (λ (x : ℕ). x % 2 ^ 12 + h.high % 2 ^ 32) (number_same at 4 old old' (λ i l m. same i l (omega arith)));
  second = h.second ∙ ap (λ (x : ℕ). x % 2 ^ 20 + 2 ^ 20 * (h.low % 2 ^ 12)) (number_same (at + 4) 4 old old' (λ i l m. same i (omega arith) (omega arith)));
}
before_same old' old new at target Word same h = h

-- the bytes that a target was put over stay
after_same : (old new new' : List ℕ) (at target : ℕ) (kind : RelocationKind) → ((i : ℕ) → at ≤ i → i < at + 8 → slice_index new' i ≡ slice_index new i)
    → HasTarget old new at target kind → HasTarget old new' at target kind
after_same old new new' at target Pair same h = record {
  high = h.high;
  low = h.low;
  high_field = h.high_field;
  low_field = h.low_field;
  sum = h.sum;
  first = number_same at 4 new' new (λ i l m. same i l (omega arith)) ∙ h.first;
  second = number_same (at + 4) 4 new' new (λ i l m. same i (omega arith) (omega arith)) ∙ h.second;
}
after_same old new new' at target Word same h = number_same at 8 new' new same ∙ h

outside_same : (old new : List ℕ) (at to : ℕ) → IsSameOutside old new at 8 → Apart to at → (i : ℕ) → to ≤ i → i < to + 8 → slice_index new i ≡ slice_index old i
outside_same old new at to s (inl a) i l m = s.before i (omega arith)
outside_same old new at to s (inr a) i l m = s.behind i (omega arith)

same_unit : (a b : ObjUnit) → Some a ≡ Some b → a ≡ b
same_unit a b e = cc

same_relocation : (a b : Relocation) → Some a ≡ Some b → a ≡ b
same_relocation a b e = cc

pub site_of : (units : List ObjUnit) → AreLinkable units → (k j : ℕ) (u : ObjUnit) (r : Relocation) → slice_get units k ≡ Some u → slice_get u.relocations j ≡ Some r → Site units k u r.at
site_of units l k j u r g h = site units k u r.at r.kind ((l k u g).inside j r h)

-- a relocation is apart from those before it
apart : (units : List ObjUnit) → AreLinkable units → (k j i n : ℕ) (u v : ObjUnit) (q r : Relocation)
    → slice_get units k ≡ Some u → slice_get u.relocations j ≡ Some q → slice_get units i ≡ Some v → slice_get v.relocations n ≡ Some r
    → IsBefore k j i n → Apart (offset_of units k u q.at) (offset_of units i v r.at)
apart units l k j i n u v q r gu gq gv gr (inl lt) = apart_later units k i u v q.at r.at gu gv lt (site_of units l k j u q gu gq) (site_of units l i n v r gv gr)
apart units l k j i n u v q r gu gq gv gr (inr (e, lt)) =
    let same : u ≡ v = same_unit u v (sym gu ∙ ap (λ (m : ℕ). slice_get units m) e ∙ gv) in
    let gr' : slice_get u.relocations n ≡ Some r = subst (λ (w : ObjUnit). slice_get w.relocations n ≡ Some r) (sym same) gr in
    let far = apart_same units k u q.at r.at gu ((l k u gu).apart j n q r gq gr' (λ (s : j ≡ n). omega arith)) (site_of units l k j u q gu gq) (site_of units l k n u r gu gr') in
    subst (λ (w : ObjUnit). Apart (offset_of units k u q.at) (offset_of units i w r.at)) same (subst (λ (m : ℕ). Apart (offset_of units k u q.at) (offset_of units m u r.at)) e far)

module _ (units : List ObjUnit) (bytes new : List ℕ) (k j : ℕ) (u : ObjUnit) (r : Relocation) (l : AreLinkable units)
    (gu : slice_get units k ≡ Some u) (gr : slice_get u.relocations j ≡ Some r) (d : IsDone units bytes k j) (p : IsPatched units bytes new k u r) where
  -- the one that was resolved
  this : IsResolved units new k u r
  this = record {
    target = p.target;
    lies = p.lies;
    has = before_same (laid units) bytes new (offset_of units k u r.at) p.target r.kind
        (λ i le lt. d.others i (λ k' j' u' q gu' gq b. clear i le lt (apart units l k' j' k j u' u q r gu' gq gu gr b))) p.has;
  }
    where
      clear : (i : ℕ) {o : ℕ} → offset_of units k u r.at ≤ i → i < offset_of units k u r.at + 8 → Apart o (offset_of units k u r.at) → (i < o) ⊎ (o + 8 ≤ i)
      clear i le lt (inl a) = inr (omega arith)
      clear i le lt (inr a) = inl (omega arith)

  -- one of those before
  earlier : (k' j' : ℕ) (v : ObjUnit) (q : Relocation) → slice_get units k' ≡ Some v → slice_get v.relocations j' ≡ Some q → IsBefore k' j' k j → IsResolved units new k' v q
  earlier k' j' v q gv gq b =
      let was = d.resolved k' j' v q gv gq b in
      record {
        target = was.target;
        lies = was.lies;
        has = after_same (laid units) bytes new (offset_of units k' v q.at) was.target q.kind
            (outside_same bytes new (offset_of units k u r.at) (offset_of units k' v q.at) p.same (apart units l k' j' k j v u q r gv gq gu gr b)) was.has;
      }

  each : (k' j' : ℕ) (v : ObjUnit) (q : Relocation) → slice_get units k' ≡ Some v → slice_get v.relocations j' ≡ Some q → IsBefore k' j' k (j + 1) → IsResolved units new k' v q
  each k' j' v q gv gq (inl lt) = earlier k' j' v q gv gq (inl lt)
  each k' j' v q gv gq (inr (e, lt)) = by (le_cases j' j (omega arith))
    where
      le_cases : (a b : ℕ) → a ≤ b → (a < b) ⊎ (a ≡ b)
      le_cases a b le = grind arith

      by : (j' < j) ⊎ (j' ≡ j) → IsResolved units new k' v q
      by (inl m) = earlier k' j' v q gv gq (inr (e, m))
      by (inr m) =
          let same : u ≡ v = same_unit u v (sym gu ∙ ap (λ (n : ℕ). slice_get units n) (sym e) ∙ gv) in
          let gq' : slice_get u.relocations j ≡ Some q = subst (λ (w : ObjUnit). slice_get w.relocations j ≡ Some q) (sym same) (subst (λ (n : ℕ). slice_get v.relocations n ≡ Some q) m gq) in
          let one : r ≡ q = same_relocation r q (sym gr ∙ gq') in
          subst (λ (n : ℕ). IsResolved units new n v q) (sym e) (subst (λ (w : ObjUnit). IsResolved units new k w q) same (subst (λ (x : Relocation). IsResolved units new k u x) one this))

  pub done-more : IsDone units new k (j + 1)
  done-more = record {
    len = p.same.len ∙ d.len;
    resolved = each;
    others = λ i far. other i (far k j u r gu gr (inr (refl, omega arith)))
        ∙ d.others i (λ k' j' v q gv gq b. far k' j' v q gv gq (wider b));
  }
    where
      other : (i : ℕ) → (i < offset_of units k u r.at) ⊎ (offset_of units k u r.at + 8 ≤ i) → slice_index new i ≡ slice_index bytes i
      other i (inl a) = p.same.before i a
      other i (inr a) = p.same.behind i a

      wider : {k' j' : ℕ} → IsBefore k' j' k j → IsBefore k' j' k (j + 1)
      wider (inl a) = inl a
      wider (inr (e, a)) = inr (e, omega arith)

-- a unit is done
pub done-next : (units : List ObjUnit) (bytes : List ℕ) (k : ℕ) (u : ObjUnit) → slice_get units k ≡ Some u → IsDone units bytes k (length u.relocations) → IsDone units bytes (k + 1) 0
done-next units bytes k u gu d = record {
  len = d.len;
  resolved = λ k' j' v q gv gq b. d.resolved k' j' v q gv gq (back k' j' v q gv gq b);
  others = λ i far. d.others i (λ k' j' v q gv gq b. far k' j' v q gv gq (forth b));
}
  where
    forth : {k' j' : ℕ} → IsBefore k' j' k (length u.relocations) → IsBefore k' j' (k + 1) 0
    forth (inl a) = inl (omega arith)
    forth (inr (e, a)) = inl (omega arith)

    le_cases : (a b : ℕ) → a < b + 1 → (a < b) ⊎ (a ≡ b)
    le_cases a b le = grind arith

    back_by : (k' j' : ℕ) (v : ObjUnit) (q : Relocation) → slice_get units k' ≡ Some v → slice_get v.relocations j' ≡ Some q → (k' < k) ⊎ (k' ≡ k) → IsBefore k' j' k (length u.relocations)
    back_by k' j' v q gv gq (inl a) = inl a
    back_by k' j' v q gv gq (inr e) =
        let same : v ≡ u = same_unit v u (sym gv ∙ ap (λ (n : ℕ). slice_get units n) e ∙ gu) in
        inr (e, subst (λ (w : ObjUnit). j' < length w.relocations) same (slice_get_within v.relocations j' q gq))

    back : (k' j' : ℕ) (v : ObjUnit) (q : Relocation) → slice_get units k' ≡ Some v → slice_get v.relocations j' ≡ Some q → IsBefore k' j' (k + 1) 0 → IsBefore k' j' k (length u.relocations)
    back k' j' v q gv gq (inl a) = back_by k' j' v q gv gq (le_cases k' k a)
    back k' j' v q gv gq (inr (e, a)) = absurd (omega arith)

pub done-none : (units : List ObjUnit) → IsDone units (laid units) 0 0
done-none units = record {
  len = refl;
  resolved = λ k j u r gu gr b. absurd (not b);
  others = λ i far. refl;
}
  where
    not : {k j : ℕ} → IsBefore k j 0 0 → ⊥
    not (inl a) = omega arith
    not (inr (e, a)) = omega arith
