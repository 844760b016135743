-- What is said of the types of what is declared.
use Rattle.std.proofs.Common.{◌≡◌, ℕ, ◌<◌, Bool, true, false, cond, ltb, is_some, List, Option, Some, None, slice_get, refl, sym, ap, ◌∙◌, subst, arith}
use Rattle.std.proofs.lemmas.Bool.{ltb-true, ltb-false}
use Rattle.f_items.specs.declared.item.Item.{Item}
use Rattle.f_items.specs.declared.item.Item.TheVariants.{Declares, Heads}
use Rattle.f_items.specs.declared.item.Class.{Class}
use Rattle.f_items.specs.declared.item.Class.TheVariants as class
use Rattle.f_items.specs.declared.item.Declared.{Declared as Named}
use Rattle.f_items.specs.declared.item.DeclaredType.{DeclaredType}
use Rattle.f_items.specs.declared.item.DeclaredType.TheVariants as declared
use Rattle.f_items.specs.Places.{Open, Located, scope_of, host_of, around, At}
use Rattle.f_items.specs.Declarations.{Declaration, declaration_of, declared_by, IsOwn}
use Rattle.f_items.specs.Accessible.{Visible}
use Rattle.f_items.specs.Selections.{IsOnly, IsOfClass, IsTypeName, IsOfType, OfNone, OfDerived, AsSelector, IsComponent}
use Rattle.f_items.proofs.Selected.{component_one}
use Rattle.f_scope.specs.Own.{IsTold}
use Rattle.f_scope.specs.Program.{Outline}
use Rattle.f_scope.proofs.Scans.{some_one}
use Rattle.f_use.specs.declared.origins.Origins.{Origins}
use Rattle.f_use.specs.Associated.{Found, OthersFound}
use Rattle.f_rules.specs.declared.declared_types.PartType.{PartType}
use Rattle.f_rules.specs.declared.declared_types.PartType.TheVariants.{Untold, NotDerived, Derived}
use Rattle.f_rules.specs.Standing.{IsAt, ClassFound}
use Rattle.f_rules.specs.PartTypes.{TypeTold, only, ClassAt, is_type_class, is_data_class, where_holds, type_by, before, NamesType, TypeNamed, IsSelector, SelectorIs, SelectorFound, HasType, IsSame, StepTold, step_of, ComponentFound, IsComponentOf, ComponentTold, TypeWhere}

-- ---- what is told

-- what is told of one relation is told of another that means the same
pub told_as : (P Q : Option ℕ → Type 0) → ((o : Option ℕ) → P o → Q o) → ((o : Option ℕ) → Q o → P o) → (t : PartType) → TypeTold P t → TypeTold Q t
told_as P Q to from Untold f = λ o q. f o (from o q)
told_as P Q to from NotDerived f = to None f
told_as P Q to from (Derived t) f = to (Some t) f

pub none_told : (P : Option ℕ → Type 0) (t : PartType) → t ≡ Untold → ((o : Option ℕ) → P o → ⊥) → TypeTold P t
none_told P t e none = let T : PartType → Type 0 = λ x. TypeTold P x in subst T (sym e) none

-- ---- the only one that is found

unfoldable pub OnlyIs : (ℕ → Type 0) → Option ℕ → Type 0
OnlyIs P None = (k : ℕ) → IsOnly P k → ⊥
OnlyIs P (Some k) = IsOnly P k

pub only_is : (P : ℕ → Type 0) (q : Option Origins) → Found P q → OnlyIs P (only q)
unfolding OnlyIs
only_is P None f = λ k h. f k h.0
only_is P (Some o) f = pick o.other f.1 where
  pick : (t : Option ℕ) → OthersFound P o.first t → OnlyIs P (cond (is_some t) None (Some o.first))
  pick None g = (f.0, g)
  pick (Some j) g = λ k h. g.1 (h.1 j g.0 ∙ sym (h.1 o.first f.0))

-- the only one, where it has the class
unfoldable pub OnlyOf : List Located → (ℕ → Type 0) → Class → Option ℕ → Type 0
OnlyOf p P cl None = (k : ℕ) → IsOnly P k → IsOfClass p k cl → ⊥
OnlyOf p P cl (Some k) = IsOnly P k × IsOfClass p k cl

pub type_class : (x : Class) → is_type_class (Some x) ≡ true → x ≡ class.DerivedType
type_class class.DerivedType e = refl
type_class _ e = absurd (cc)

module _ (p : List Located) where
  has_class : (k : ℕ) (c : Option Class) (cl : Class) → ClassFound p k c → c ≡ Some cl → IsOfClass p k cl
  has_class k None cl f e = absurd (cc)
  has_class k (Some x) cl f e = let same : x ≡ cl = cc in record { item = f.0; declaration = f.1; at = f.2; declares = f.3; class_is = f.4 ∙ same }

  class_of_it : (k : ℕ) (c : Option Class) (cl : Class) → ClassFound p k c → IsOfClass p k cl → c ≡ Some cl
  class_of_it k None cl f h = absurd (f h.item h.declaration h.at h.declares)
  class_of_it k (Some x) cl f h =
      let item : h.item ≡ f.0 = some_one (slice_get p k) h.item f.0 h.at f.2 in
      let what : f.1 ≡ h.declaration = some_one (declaration_of h.item) f.1 h.declaration (ap declaration_of item ∙ f.3) h.declares in
      ap Some (sym f.4 ∙ ap (λ d. d.what.class) what ∙ h.class_is)

  only_of : (P : ℕ → Type 0) (cl : Class) (w : Option ℕ) → OnlyIs P w → (c : Option Class) → ClassAt p w c → (b : Bool) → (b ≡ true → c ≡ Some cl) → (c ≡ Some cl → b ≡ true) → OnlyOf p P cl (cond b w None)
  unfolding OnlyIs OnlyOf
  only_of P cl None f c held true yes_ no_ = λ k h g. f k h
  only_of P cl None f c held false yes_ no_ = λ k h g. f k h
  only_of P cl (Some e) f c held true yes_ no_ = (f, has_class e c cl held (yes_ refl))
  only_of P cl (Some e) f c held false yes_ no_ = λ k h g.
      let C : ℕ → Type 0 = λ w. IsOfClass p w cl in
      let bad : false ≡ true = no_ (class_of_it e c cl held (subst C (f.1 k h.0) g)) in
      cc

  is_type : (c : Option Class) → is_type_class c ≡ true → c ≡ Some class.DerivedType
  is_type None e = absurd (cc)
  is_type (Some class.DerivedType) e = refl
  is_type (Some _) e = absurd (cc)

  is_data : (c : Option Class) → is_data_class c ≡ true → c ≡ Some class.Data
  is_data None e = absurd (cc)
  is_data (Some class.Data) e = refl
  is_data (Some _) e = absurd (cc)

  pub only_type : (P : ℕ → Type 0) (q : Option Origins) → Found P q → (c : Option Class) → ClassAt p (only q) c → OnlyOf p P class.DerivedType (where_holds (only q) (is_type_class c))
  only_type P q f c held = only_of P class.DerivedType (only q) (only_is P q f) c held (is_type_class c) (is_type c) (λ e. ap is_type_class e)

  pub only_data : (P : ℕ → Type 0) (q : Option Origins) → Found P q → (c : Option Class) → ClassAt p (only q) c → OnlyOf p P class.Data (where_holds (only q) (is_data_class c))
  only_data P q f c held = only_of P class.Data (only q) (only_is P q f) c held (is_data_class c) (is_data c) (λ e. ap is_data_class e)

  -- ---- declared types

  pub named : (scopes : Open) (name : List ℕ) (w : Option ℕ) → OnlyOf p (Visible p scopes name) class.DerivedType w → TypeTold (NamesType p scopes name) (type_by w)
  unfolding OnlyOf
  named scopes name None f = none where
    none : (o : Option ℕ) → NamesType p scopes name o → ⊥
    none None h = h
    none (Some t) h = f t h.0 h.1
  named scopes name (Some t) f = f

  pub selects : (scopes : Open) (name : List ℕ) (place : ℕ) (w : Option ℕ) → OnlyIs (Visible p (around scopes) name) w → SelectorIs p scopes name place (before w place)
  unfolding OnlyIs
  selects scopes name place None f = λ s h. f s h.0
  selects scopes name place (Some s) f = pick (ltb s place) refl where
    pick : (b : Bool) → ltb s place ≡ b → SelectorIs p scopes name place (cond b (Some s) None)
    pick true e = (f, ltb-true s place e)
    pick false e = λ r h. let same : r ≡ s = f.1 r h.0.0 in let lt = h.1 in let ge = ltb-false s place e in omega (arith, same, lt, ge)

  module _ (k : ℕ) (l : Located) (d : Declaration) (at : At p k l) (de : declaration_of l ≡ Some d) where
    -- what another view of the item says is the same
    same_type : (m : Located) (x : Declaration) → At p k m → declaration_of m ≡ Some x → x.what.of_type ≡ d.what.of_type
    same_type m x bt xe = ap (λ w. w.what.of_type) (some_one (declaration_of l) x d (ap declaration_of (some_one (slice_get p k) l m at bt) ∙ xe) de)

    pub of_none : d.what.of_type ≡ declared.NotDerived → IsOfType p k None
    of_none is = OfNone k l d at de is

    pub of_derived : (name : List ℕ) → d.what.of_type ≡ declared.Derived name → (r : PartType) → TypeTold (NamesType p l.scopes name) r → TypeTold (IsOfType p k) r
    of_derived name is r f = told_as (NamesType p l.scopes name) (IsOfType p k) to from r f where
      to : (o : Option ℕ) → NamesType p l.scopes name o → IsOfType p k o
      to None h = absurd h
      to (Some t) h = OfDerived k l d name t at de is h

      from : (o : Option ℕ) → IsOfType p k o → NamesType p l.scopes name o
      from _ (OfNone _ m x bt xe js) = let bad : declared.NotDerived ≡ declared.Derived name = sym js ∙ same_type m x bt xe ∙ is in absurd (cc)
      from _ (OfDerived _ m x other t bt xe js ty) =
          let same : other ≡ name = (let both : declared.Derived other ≡ declared.Derived name = sym js ∙ same_type m x bt xe ∙ is in cc) in
          let item : m ≡ l = some_one (slice_get p k) m l bt at in
          let N : Open → List ℕ → Type 0 = λ s n. IsTypeName p s n t in
          subst (λ n. N l.scopes n) same (subst (λ y. N y.scopes other) item ty)
      from o (AsSelector _ m x other s _ bt xe js alone lt ty) = let bad : declared.OfSelector other ≡ declared.Derived name = sym js ∙ same_type m x bt xe ∙ is in absurd (cc)

    selector_of : (name : List ℕ) → d.what.of_type ≡ declared.OfSelector name → (o : Option ℕ) → IsOfType p k o → (s : ℕ) × IsSelector p l.scopes name k s × IsOfType p s o
    selector_of name is _ (OfNone _ m x bt xe js) = let bad : declared.NotDerived ≡ declared.OfSelector name = sym js ∙ same_type m x bt xe ∙ is in absurd (cc)
    selector_of name is _ (OfDerived _ m x other t bt xe js ty) = let bad : declared.Derived other ≡ declared.OfSelector name = sym js ∙ same_type m x bt xe ∙ is in absurd (cc)
    selector_of name is o (AsSelector _ m x other s _ bt xe js alone lt ty) =
        let same : other ≡ name = (let both : declared.OfSelector other ≡ declared.OfSelector name = sym js ∙ same_type m x bt xe ∙ is in cc) in
        let item : m ≡ l = some_one (slice_get p k) m l bt at in
        let V : Open → List ℕ → Type 0 = λ y n. IsOnly (Visible p (around y) n) s in
        (s, (subst (λ n. V l.scopes n) same (subst (λ y. V y.scopes other) item alone), lt), ty)

    pub of_selector : (name : List ℕ) → d.what.of_type ≡ declared.OfSelector name → (r : Option ℕ) → SelectorIs p l.scopes name k r → StepTold p k (step_of r)
    of_selector name is None f = λ o ty. (let h = selector_of name is o ty in f h.0 h.1)
    of_selector name is (Some s) f = record {
      before = f.1;
      to = λ o ty. AsSelector k l d name s o at de is f.0 f.1 ty;
      from = λ o ty. (let h = selector_of name is o ty in let T : ℕ → Type 0 = λ w. IsOfType p w o in subst T (f.0.1 h.0 h.1.0.0) h.2);
    }

  -- ---- items that declare nothing

  pub declares_none : (k : ℕ) → ((l : Located) (d : Declaration) → At p k l → declaration_of l ≡ Some d → ⊥) → (o : Option ℕ) → IsOfType p k o → ⊥
  declares_none k none _ (OfNone _ l d at de is) = none l d at de
  declares_none k none _ (OfDerived _ l d name t at de is ty) = none l d at de
  declares_none k none o (AsSelector _ l d name s _ at de is alone lt ty) = none l d at de

  -- ---- components

  pub no_component : (t : ℕ) (name : List ℕ) → ((l : Located) (what : Named) → At p t l → l.item ≡ Heads what → what.class ≡ class.DerivedType → ⊥) → (c : ℕ) → IsComponent p t name c → ⊥
  no_component t name none c h = none h.definition h.what h.at h.heads h.is_type

  pub components : (t : ℕ) (l : Located) (what : Named) → At p t l → l.item ≡ Heads what → what.class ≡ class.DerivedType → (name : List ℕ) (r : Option ℕ) → IsTold p (scope_of l).number name r → ComponentFound p t name r
  components t l what at heads type name None f = λ c h.
      (let item : h.definition ≡ l = some_one (slice_get p t) h.definition l h.at at in
      let O : ℕ → Type 0 = λ s. IsOwn p s name c in
      f c (subst O (ap (λ x. (scope_of x).number) item) h.own).declared)
  components t l what at heads type name (Some c) f = record { definition = l; what = what; at = at; heads = heads; is_type = type; own = record { declared = f.0; none_before = f.1 } }

  pub component_told : (t : ℕ) (name : List ℕ) (w : Option ℕ) → ComponentFound p t name w → (r : PartType) → TypeWhere p w r → TypeTold (IsComponentOf p t name) r
  component_told t name None f r e = none_told (IsComponentOf p t name) r e (λ o h. f h.0 h.1)
  component_told t name (Some c) f r told = told_as (IsOfType p c) (IsComponentOf p t name) (λ o ty. (c, f, ty)) (λ o h. (let T : ℕ → Type 0 = λ w. IsOfType p w o in subst T (component_one p t name h.0 c h.1 f) h.2)) r told
