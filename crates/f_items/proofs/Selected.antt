-- A part of a reference has one type, and a selection one part before it.
use Rattle.std.proofs.Common.{◌≡◌, ℕ, zero, suc, ◌<◌, ◌≤◌, ◌⊎◌, inl, inr, List, [], ◌∷◌, Option, Some, None, slice_get, Bool, true, false, refl, sym, ap, subst, ◌∙◌, arith}
use Rattle.f_items.specs.declared.item.Name.{Name}
use Rattle.f_items.specs.declared.item.Item.{Item}
use Rattle.f_items.specs.declared.item.Item.TheVariants.{Refers, Selects, Inside}
use Rattle.f_items.specs.declared.item.Class.TheVariants as class
use Rattle.f_items.specs.declared.item.Need.TheVariants as need
use Rattle.f_items.specs.declared.item.DeclaredType.{DeclaredType}
use Rattle.f_items.specs.declared.item.DeclaredType.TheVariants.{NotDerived, Derived, OfSelector}
use Rattle.f_items.specs.Places.{Open, Located, scope_of, around, At}
use Rattle.f_items.specs.Declarations.{Declaration, declaration_of, IsOwn}
use Rattle.f_items.specs.Accessible.{Visible}
use Rattle.f_items.specs.Selections.{IsOnly, IsOfClass, IsTypeName, IsOfType, OfNone, OfDerived, AsSelector, IsComponent, open_before, is_part, is_inside, IsLastPart, SelectsFrom, IsPartOf, FirstPart, OtherPart}
use Rattle.f_items.specs.Rules.{Breaks, NoComponent}
use Rattle.f_items.proofs.Single.{one_of, some_one}

-- ---- the part before a selection

part_no_inside : (i : Item) → is_part i ≡ true → is_inside i ≡ true → ⊥
part_no_inside Inside e f = cc
part_no_inside _ e f = cc

-- a part between another and the end isn't passed over
not_between : (p : List Located) (open_ i j k : ℕ) → IsLastPart p open_ i k → IsLastPart p open_ j k → i < j → ⊥
not_between p open_ i j k f g lt = pick (f.between j g.part lt g.before g.at) where
  pick : (open_ < open_before p j) ⊎ ((open_before p j ≡ open_) × (is_inside g.part.item ≡ true)) → ⊥
  pick (inl deep) = let same = g.open_is in omega (arith, deep, same)
  pick (inr here) = part_no_inside g.part.item g.names here.1

pub last_part_one : (p : List Located) (open_ i j k : ℕ) → IsLastPart p open_ i k → IsLastPart p open_ j k → i ≡ j
last_part_one p open_ i j k f g = one_of i j (not_between p open_ i j k f g) (not_between p open_ j i k g f)

pub part_before_one : (p : List Located) (k i j : ℕ) → SelectsFrom p k i → SelectsFrom p k j → i ≡ j
part_before_one p k i j f g = last_part_one p (open_before p k) i j k f g

-- ---- declared types

module _ (p : List Located) where
  one_item : (k : ℕ) (l m : Located) → At p k l → At p k m → l ≡ m
  one_item k l m a b = some_one (slice_get p k) l m a b

  -- what is declared at one place is of one type as its declaration says
  types_are : (e : ℕ) (l m : Located) (c d : Declaration) → At p e l → At p e m → declaration_of l ≡ Some c → declaration_of m ≡ Some d → c.what.of_type ≡ d.what.of_type
  types_are e l m c d a b x y = ap (λ w. w.what.of_type) (some_one (declaration_of m) c d (ap declaration_of (one_item e m l b a) ∙ x) y)

  pub type_one : (e : ℕ) (a b : Option ℕ) → IsOfType p e a → IsOfType p e b → a ≡ b
  type_one e _ _ (OfNone _ l c at de is) (OfNone _ m d bt ee js) = refl
  type_one e _ _ (OfNone _ l c at de is) (OfDerived _ m d name t bt ee js ty) = let bad : NotDerived ≡ Derived name = sym is ∙ types_are e l m c d at bt de ee ∙ js in absurd (cc)
  type_one e _ b (OfNone _ l c at de is) (AsSelector _ m d name s _ bt ee js only lt ty) = let bad : NotDerived ≡ OfSelector name = sym is ∙ types_are e l m c d at bt de ee ∙ js in absurd (cc)
  type_one e _ _ (OfDerived _ l c name t at de is ty) (OfNone _ m d bt ee js) = let bad : Derived name ≡ NotDerived = sym is ∙ types_are e l m c d at bt de ee ∙ js in absurd (cc)
  type_one e _ _ (OfDerived _ l c name t at de is ty) (OfDerived _ m d other u bt ee js uy) =
      let same : name ≡ other = (let both : Derived name ≡ Derived other = sym is ∙ types_are e l m c d at bt de ee ∙ js in cc) in
      let item : m ≡ l = one_item e m l bt at in
      let V : Open → List ℕ → Type 0 = λ scopes n. Visible p scopes n u in
      let there : Visible p l.scopes name u = subst (λ n. V l.scopes n) (sym same) (subst (λ x. V x.scopes other) item uy.0.0) in
      ap Some (sym (ty.0.1 u there))
  type_one e _ b (OfDerived _ l c name t at de is ty) (AsSelector _ m d other s _ bt ee js only lt uy) = let bad : Derived name ≡ OfSelector other = sym is ∙ types_are e l m c d at bt de ee ∙ js in absurd (cc)
  type_one e a _ (AsSelector _ l c name s _ at de is only lt ty) (OfNone _ m d bt ee js) = let bad : OfSelector name ≡ NotDerived = sym is ∙ types_are e l m c d at bt de ee ∙ js in absurd (cc)
  type_one e a _ (AsSelector _ l c name s _ at de is only lt ty) (OfDerived _ m d other t bt ee js uy) = let bad : OfSelector name ≡ Derived other = sym is ∙ types_are e l m c d at bt de ee ∙ js in absurd (cc)
  type_one e a b (AsSelector _ l c name s _ at de is only lt ty) (AsSelector _ m d other r _ bt ee js alone gt uy) =
      let same : name ≡ other = (let both : OfSelector name ≡ OfSelector other = sym is ∙ types_are e l m c d at bt de ee ∙ js in cc) in
      let item : m ≡ l = one_item e m l bt at in
      let V : Open → List ℕ → Type 0 = λ scopes n. Visible p scopes n r in
      let there : Visible p (around l.scopes) name r = subst (λ n. V (around l.scopes) n) (sym same) (subst (λ x. V (around x.scopes) other) item alone.0) in
      let T : ℕ → Type 0 = λ w. IsOfType p w b in
      type_one s a b ty (subst T (only.1 r there) uy)

  -- ---- components

  own_one : (scope : ℕ) (name : List ℕ) (i j : ℕ) → IsOwn p scope name i → IsOwn p scope name j → i ≡ j
  own_one scope name i j f g = one_of i j (λ lt. g.none_before i lt f.declared) (λ gt. f.none_before j gt g.declared)

  pub component_one : (t : ℕ) (name : List ℕ) (i j : ℕ) → IsComponent p t name i → IsComponent p t name j → i ≡ j
  component_one t name i j f g =
      let item : g.definition ≡ f.definition = one_item t g.definition f.definition g.at f.at in
      let O : ℕ → Type 0 = λ s. IsOwn p s name j in
      own_one (scope_of f.definition).number name i j f.own (subst O (ap (λ l. (scope_of l).number) item) g.own)

  -- ---- parts

  pub part_type_one : (k : ℕ) (a b : Option ℕ) → IsPartOf p k a → IsPartOf p k b → a ≡ b
  part_type_one k a b (FirstPart _ l n e _ at is only data_ ty) (FirstPart _ m o f _ bt js alone data_' uy) =
      let item : m ≡ l = one_item k m l bt at in
      let same : n ≡ o = (let both : Refers n need.Object ≡ Refers o need.Object = sym is ∙ ap (λ x. x.item) (sym item) ∙ js in cc) in
      let V : Open → Name → Type 0 = λ scopes x. Visible p scopes x.bytes f in
      let there : Visible p l.scopes n.bytes f = subst (λ x. V l.scopes x) (sym same) (subst (λ x. V x.scopes o) item alone.0) in
      let T : ℕ → Type 0 = λ w. IsOfType p w b in
      type_one e a b ty (subst T (only.1 f there) uy)
  part_type_one k a b (FirstPart _ l n e _ at is only data_ ty) (OtherPart _ m o j t c _ bt js from part comp uy) =
      let item : m ≡ l = one_item k m l bt at in
      let bad : Refers n need.Object ≡ Selects o = sym is ∙ ap (λ x. x.item) (sym item) ∙ js in
      absurd (cc)
  part_type_one k a b (OtherPart _ l n i s c _ at is from part comp ty) (FirstPart _ m o f _ bt js alone data_' uy) =
      let item : m ≡ l = one_item k m l bt at in
      let bad : Selects n ≡ Refers o need.Object = sym is ∙ ap (λ x. x.item) (sym item) ∙ js in
      absurd (cc)
  part_type_one k a b (OtherPart _ l n i s c _ at is from part comp ty) (OtherPart _ m o j t d _ bt js from' part' comp' uy) =
      let item : m ≡ l = one_item k m l bt at in
      let same : n ≡ o = (let both : Selects n ≡ Selects o = sym is ∙ ap (λ x. x.item) (sym item) ∙ js in cc) in
      let before : j ≡ i = part_before_one p k j i from' from in
      let P : ℕ → Type 0 = λ w. IsPartOf p w (Some t) in
      let types : s ≡ t = (let both : Some s ≡ Some t = part_type_one i (Some s) (Some t) part (subst P before part') in cc) in
      let C : ℕ → Name → Type 0 = λ w x. IsComponent p w x.bytes d in
      let there : IsComponent p s n.bytes d = subst (λ x. C s x) (sym same) (subst (λ w. C w o) (sym types) comp') in
      let T : ℕ → Type 0 = λ w. IsOfType p w b in
      type_one c a b ty (subst T (component_one s n.bytes d c there comp) uy)

pub selects_some : (p : List Located) (k : ℕ) (l : Located) (n : Name) (j t : ℕ) → ((rule : ℕ) → Breaks p k l rule → ⊥) → l.item ≡ Selects n → SelectsFrom p k j
    → IsPartOf p j (Some t) → ((c : ℕ) → IsComponent p t n.bytes c → ⊥) → ⊥
selects_some p k l n j t kept is from part none = kept 2 (NoComponent n j t is from part none)
