-- Which rules an item of each sort breaks.
use Rattle.std.proofs.Common.{◌≡◌, ℕ, ◌<◌, ◌≤◌, ◌⊎◌, inl, inr, Bool, true, false, ◌&&◌, not, is_some, cond, List, Option, Some, None, slice_get, refl, sym, ap, ◌∙◌, subst, arith}
use Rattle.std.specs.Prelude.{Decides}
use Rattle.jf_base.specs.declared.place.Place.{Place}
use Rattle.f_items.specs.declared.item.Name.{Name}
use Rattle.f_items.specs.declared.item.Item.{Item}
use Rattle.f_items.specs.declared.item.Item.TheVariants.{Enter, Leave, Declares, Heads, Uses, Takes, ImportsAll, Imports, Default, Accesses, Refers, Selects, Inside, Outside, Untyped}
use Rattle.f_items.specs.declared.item.Class.{Class}
use Rattle.f_items.specs.declared.item.Need.{Need}
use Rattle.f_items.specs.declared.item.Share.TheVariants.{Announced}
use Rattle.f_items.specs.Places.{Located, scope_of, host_of, At}
use Rattle.f_items.specs.Declarations.{Declaration, declaration_of, declared_by, IsDeclared}
use Rattle.f_items.specs.Accessible.{Stands, IsModule, is_public, IsUsed, IsEntity, Denotes}
use Rattle.f_items.specs.Selections.{open_before, SelectsFrom, IsPartOf, IsComponent}
use Rattle.f_items.proofs.Selected.{last_part_one, part_type_one}
use Rattle.f_items.specs.Rules.{Finds, FindsVisible, FindsOutside, FindsOwn, FindsUsed, sought, need_of, fits, is_iso_c_binding, IsTwice, Breaks, DeclaredTwice, DeclaredAndUsed, DeclaredAndImported, OnlyAnnounced, NotDeclared, NoComponent, NotPublic, NoModule, NotIntrinsic, FromTwo, NotTyped, NotFit}
use Rattle.f_scope.specs.declared.name_rule.Rule.{Rule}
use Rattle.f_scope.specs.declared.name_rule.Rule.TheVariants as alone
use Rattle.f_scope.specs.Alone.{BreaksDeclared, Twice, Lacking, DeclaredFound}
use Rattle.f_scope.specs.Program.{Outline}
use Rattle.f_scope.proofs.Scans.{some_one}
use Rattle.f_stated.specs.Stated.{NamesImport}
use Rattle.f_use.specs.declared.origins.Origins.{Origins}
use Rattle.f_use.specs.Associated.{Found, OthersFound}
use Rattle.f_use.specs.Uses.{ModuleIn}
use Rattle.f_rules.specs.declared.rule.NameRule.{NameRule}
use Rattle.f_rules.specs.declared.rule.NameRule.TheVariants as rule
use Rattle.f_rules.specs.declared.declared_types.PartType.{PartType}
use Rattle.f_rules.specs.declared.declared_types.PartType.TheVariants.{Untold, NotDerived, Derived}
use Rattle.f_rules.specs.PartTypes.{LastTold, ComponentOf}
use Rattle.f_rules.specs.Standing.{ClassFound, ClassOf, IsIn}
use Rattle.f_rules.specs.RuleOf.{number_of, RuleFound, class_fits, reference_rule, taken_rule, declared_rule, use_rule, selection_rule}

-- what an item does with names
pub data Sort : Type 0 where
  Declaring : Sort
  Using : Sort
  Taking : Sort
  Referring : Sort
  Selecting : Sort
  Untyping : Sort
  Silent : Sort

abbrev pub sort : Item → Sort
sort (Declares d) = Declaring
sort (Heads d) = Declaring
sort (Uses p m i o) = Using
sort (Takes m l u r) = Taking
sort (Imports n) = Referring
sort (Accesses n a) = Referring
sort (Refers n need) = Referring
sort (Selects n) = Selecting
sort (Untyped p) = Untyping
sort _ = Silent

-- why an item of this sort breaks the rule with this number
pub data Broken (p : List Located) (k : ℕ) (l : Located) : Sort → ℕ → Type 0 where
  ByTwice : (d : Declaration) → declaration_of l ≡ Some d → IsTwice p k d → Broken p k l Declaring 1
  ByUsed : (d : Declaration) (j : ℕ) → declaration_of l ≡ Some d → IsUsed p d.scope d.what.name.bytes j → Broken p k l Declaring 1
  ByImported : (d : Declaration) → declaration_of l ≡ Some d → NamesImport p d.scope d.what.name.bytes → Broken p k l Declaring 1
  ByAnnounced : (d : Declaration) → declaration_of l ≡ Some d → BreaksDeclared p k d alone.Declared → Broken p k l Declaring 2
  TakenNone : ((j : ℕ) → Finds p l j → ⊥) → Broken p k l Taking 2
  TakenPrivate : (m : List ℕ) (local used : Name) (r : Bool) (t j : ℕ) → l.item ≡ Takes m local used r → IsModule p m t → Finds p l j → is_public p t used.bytes ≡ false → Broken p k l Taking 3
  TakenTwo : (i j : ℕ) → Finds p l i → Finds p l j → (i ≡ j → ⊥) → Broken p k l Taking 6
  ReferredNone : ((j : ℕ) → Finds p l j → ⊥) → Broken p k l Referring 2
  ReferredTwo : (i j : ℕ) → Finds p l i → Finds p l j → (i ≡ j → ⊥) → Broken p k l Referring 6
  ReferredUnfit : (n : Need) (j : ℕ) (item : Located) (d : Declaration) → need_of l.item ≡ Some n → Finds p l j → At p j item → declaration_of item ≡ Some d → fits n d.what.class ≡ false → Broken p k l Referring 8
  SelectedNone : (n : Name) (j t : ℕ) → l.item ≡ Selects n → SelectsFrom p k j → IsPartOf p j (Some t) → ((c : ℕ) → IsComponent p t n.bytes c → ⊥) → Broken p k l Selecting 2
  UsedAbsent : (place : Place) (m : Name) (i o : Bool) → l.item ≡ Uses place m i o → ((t : ℕ) → IsModule p m.bytes t → ⊥) → Broken p k l Using 4
  UsedOther : (place : Place) (m : Name) (o : Bool) → l.item ≡ Uses place m true o → is_iso_c_binding m.bytes ≡ false → Broken p k l Using 4
  IsUntyped : Broken p k l Untyping 7

-- ---- the sort of what breaks a rule

declares_sort : (i : Item) (here host : ℕ) (d : Declaration) → declared_by i here host ≡ Some d → sort i ≡ Declaring
declares_sort (Declares w) here host d e = refl
declares_sort (Heads w) here host d e = refl
declares_sort _ here host d e = absurd (cc)

seeks_sort : (i : Item) (n : Name) → sought i ≡ Some n → (sort i ≡ Taking) ⊎ (sort i ≡ Referring)
seeks_sort (Takes m l u r) n e = inl refl
seeks_sort (Imports w) n e = inr refl
seeks_sort (Accesses w a) n e = inr refl
seeks_sort (Refers w need) n e = inr refl
seeks_sort _ n e = absurd (cc)

needs_sort : (i : Item) (n : Need) → need_of i ≡ Some n → sort i ≡ Referring
needs_sort (Imports w) n e = refl
needs_sort (Accesses w a) n e = refl
needs_sort (Refers w need) n e = refl
needs_sort _ n e = absurd (cc)

finds_sort : (p : List Located) (l : Located) (j : ℕ) → Finds p l j → (sort l.item ≡ Taking) ⊎ (sort l.item ≡ Referring)
finds_sort p l j (FindsVisible n need _ is v) = inr (ap sort is)
finds_sort p l j (FindsOutside n _ is v) = inr (ap sort is)
finds_sort p l j (FindsOwn n a _ is d) = inr (ap sort is)
finds_sort p l j (FindsUsed m lo u r t _ is mo en de) = inl (ap sort is)

module _ (p : List Located) (k : ℕ) (l : Located) where
  in_sort : (s : Sort) (r : ℕ) → sort l.item ≡ s → Broken p k l s r → Broken p k l (sort l.item) r
  in_sort s r e b = let P : Sort → Type 0 = λ t. Broken p k l t r in subst P (sym e) b

  pub broken : (r : ℕ) → Breaks p k l r → Broken p k l (sort l.item) r
  broken _ (DeclaredTwice d e t) = in_sort Declaring 1 (declares_sort l.item (scope_of l).number (host_of l).number d e) (ByTwice d e t)
  broken _ (DeclaredAndUsed d j e u) = in_sort Declaring 1 (declares_sort l.item (scope_of l).number (host_of l).number d e) (ByUsed d j e u)
  broken _ (DeclaredAndImported d n e same st) = in_sort Declaring 1 (declares_sort l.item (scope_of l).number (host_of l).number d e) (ByImported d e (n, same, st))
  broken _ (OnlyAnnounced d e s none) = in_sort Declaring 2 (declares_sort l.item (scope_of l).number (host_of l).number d e) (ByAnnounced d e (Lacking s none))
  broken _ (NotDeclared n e none) = pick (seeks_sort l.item n e) where
    pick : (sort l.item ≡ Taking) ⊎ (sort l.item ≡ Referring) → Broken p k l (sort l.item) 2
    pick (inl s) = in_sort Taking 2 s (TakenNone none)
    pick (inr s) = in_sort Referring 2 s (ReferredNone none)
  broken _ (NoComponent n j t is from part none) = in_sort Selecting 2 (ap sort is) (SelectedNone n j t is from part none)
  broken _ (NotPublic m lo u r t j is mo f deny) = in_sort Taking 3 (ap sort is) (TakenPrivate m lo u r t j is mo f deny)
  broken _ (NoModule place m i o is none) = in_sort Using 4 (ap sort is) (UsedAbsent place m i o is none)
  broken _ (NotIntrinsic place m o is deny) = in_sort Using 4 (ap sort is) (UsedOther place m o is deny)
  broken _ (FromTwo i j f g apart) = pick (finds_sort p l i f) where
    pick : (sort l.item ≡ Taking) ⊎ (sort l.item ≡ Referring) → Broken p k l (sort l.item) 6
    pick (inl s) = in_sort Taking 6 s (TakenTwo i j f g apart)
    pick (inr s) = in_sort Referring 6 s (ReferredTwo i j f g apart)
  broken _ (NotTyped place is) = in_sort Untyping 7 (ap sort is) IsUntyped
  broken _ (NotFit n j item d e f at de deny) = in_sort Referring 8 (needs_sort l.item n e) (ReferredUnfit n j item d e f at de deny)

  pub broken_as : (s : Sort) → sort l.item ≡ s → (r : ℕ) → Breaks p k l r → Broken p k l s r
  broken_as s e r b = let P : Sort → Type 0 = λ t. Broken p k l t r in subst P e (broken r b)

  -- ---- silent items

  pub silent : sort l.item ≡ Silent → RuleFound p k l None
  silent e r b = none r (broken_as Silent e r b) where
    none : (r : ℕ) → Broken p k l Silent r → ⊥
    none r b = elim b [ ]

  pub untyped : (place : Place) → l.item ≡ Untyped place → RuleFound p k l (Some rule.Typed)
  untyped place is = (NotTyped place is, λ r b. le r (broken_as Untyping (ap sort is) r b)) where
    le : (r : ℕ) → Broken p k l Untyping r → 7 ≤ r
    le _ IsUntyped = omega arith

  -- ---- selections

  module _ (n : Name) (is : l.item ≡ Selects n) where
    from_two : (r : ℕ) → Broken p k l Selecting r → 2 ≤ r
    from_two _ (SelectedNone _ _ _ _ _ _ _) = omega arith

    least_two : (r : ℕ) → Breaks p k l r → 2 ≤ r
    least_two r b = from_two r (broken_as Selecting (ap sort is) r b)

    untold : LastTold p (open_before p k) k Untold → (r : ℕ) → Broken p k l Selecting r → ⊥
    untold last _ (SelectedNone x j t js from part none) = last (Some t) (j, from, part)

    plain : LastTold p (open_before p k) k NotDerived → (r : ℕ) → Broken p k l Selecting r → ⊥
    plain last _ (SelectedNone x j u js from part none) =
        let before = last_part_one p (open_before p k) j last.0 k from last.1 in
        let Q : ℕ → Type 0 = λ w. IsPartOf p w (Some u) in
        let bad : None ≡ Some u = part_type_one p last.0 None (Some u) last.2 (subst Q before part) in
        cc

    there : (t : ℕ) → LastTold p (open_before p k) k (Derived t) → (c : ℕ) → IsComponent p t n.bytes c → (r : ℕ) → Broken p k l Selecting r → ⊥
    there t last c comp _ (SelectedNone x j u js from part none) =
        let same : x ≡ n = (let both : Selects x ≡ Selects n = sym js ∙ is in cc) in
        let before = last_part_one p (open_before p k) j last.0 k from last.1 in
        let Q : ℕ → Type 0 = λ w. IsPartOf p w (Some u) in
        let types : t ≡ u = (let both : Some t ≡ Some u = part_type_one p last.0 (Some t) (Some u) last.2 (subst Q before part) in cc) in
        let C : ℕ → Name → Type 0 = λ w y. IsComponent p w y.bytes c in
        none c (subst (λ y. C u y) (sym same) (subst (λ w. C w n) types comp))

    pub selected : (base : PartType) → LastTold p (open_before p k) k base → (c : Option ℕ) → ComponentOf p base n.bytes c → RuleFound p k l (selection_rule base c)
    selected Untold last c f = λ r b. untold last r (broken_as Selecting (ap sort is) r b)
    selected NotDerived last c f = λ r b. plain last r (broken_as Selecting (ap sort is) r b)
    selected (Derived t) last None f = (NoComponent n last.0 t is last.1 last.2 f, least_two)
    selected (Derived t) last (Some c) f = λ r b. there t last c f r (broken_as Selecting (ap sort is) r b)

  -- ---- USE statements

  module _ (place : Place) (m : Name) (i o : Bool) (is : l.item ≡ Uses place m i o) where
    four : (r : ℕ) → Broken p k l Using r → 4 ≤ r
    four _ (UsedAbsent _ _ _ _ _ _) = omega arith
    four _ (UsedOther _ _ _ _ _) = omega arith

    pub used : (out : Outline) → out.items ≡ p → (q : Option ℕ) → ModuleIn out m.bytes q → RuleFound p k l (use_rule q i m.bytes)
    used out e None none = (NoModule place m i o is (λ t mo. let P : List Located → Type 0 = λ x. IsModule x m.bytes t in none t (subst P (sym e) mo)), λ r b. four r (broken_as Using (ap sort is) r b))
    used out e (Some s) found = pick i refl (is_iso_c_binding m.bytes) refl where
      kept : (r : ℕ) → (i && not (is_iso_c_binding m.bytes)) ≡ false → Broken p k l Using r → ⊥
      kept _ deny (UsedAbsent q n a b at none) =
          let same : m ≡ n = (let both : Uses place m i o ≡ Uses q n a b = sym is ∙ at in cc) in
          let P : Name → Type 0 = λ x. IsModule p x.bytes s in
          let Q : List Located → Type 0 = λ x. IsModule x m.bytes s in
          none s (subst P same (subst Q e found.0))
      kept _ deny (UsedOther q n b at other) =
          let same : m ≡ n = (let both : Uses place m i o ≡ Uses q n true b = sym is ∙ at in cc) in
          let yes_ : i ≡ true = (let both : Uses place m i o ≡ Uses q n true b = sym is ∙ at in cc) in
          let no_ : is_iso_c_binding m.bytes ≡ false = ap (λ x. is_iso_c_binding x.bytes) same ∙ other in
          let holds : (i && not (is_iso_c_binding m.bytes)) ≡ true = ap (λ b. b && not (is_iso_c_binding m.bytes)) yes_ ∙ ap not no_ in
          let bad : true ≡ false = sym holds ∙ deny in
          cc

      none_at : (i && not (is_iso_c_binding m.bytes)) ≡ false → RuleFound p k l (use_rule (Some s) i m.bytes)
      none_at deny = let P : Bool → Type 0 = λ b. RuleFound p k l (cond b (Some rule.Present) None) in subst P (sym deny) (λ r b. kept r deny (broken_as Using (ap sort is) r b))

      pick : (x : Bool) → i ≡ x → (y : Bool) → is_iso_c_binding m.bytes ≡ y → RuleFound p k l (use_rule (Some s) i m.bytes)
      pick true ei false ey =
          let holds : (i && not (is_iso_c_binding m.bytes)) ≡ true = ap (λ b. b && not (is_iso_c_binding m.bytes)) ei ∙ ap not ey in
          let P : Bool → Type 0 = λ b. RuleFound p k l (cond b (Some rule.Present) None) in
          subst P (sym holds) (NotIntrinsic place m o (is ∙ ap (λ x. Uses place m x o) ei) ey, λ r b. four r (broken_as Using (ap sort is) r b))
      pick true ei true ey = none_at (ap (λ b. b && not (is_iso_c_binding m.bytes)) ei ∙ ap not ey)
      pick false ei y ey = none_at (ap (λ b. b && not (is_iso_c_binding m.bytes)) ei)

  -- ---- declarations

  module _ (d : Declaration) (e : declaration_of l ≡ Some d) where
    is_declaring : sort l.item ≡ Declaring
    is_declaring = declares_sort l.item (scope_of l).number (host_of l).number d e

    one : (r : ℕ) → Broken p k l Declaring r → 1 ≤ r
    one _ (ByTwice _ _ _) = omega arith
    one _ (ByUsed _ _ _ _) = omega arith
    one _ (ByImported _ _ _) = omega arith
    one _ (ByAnnounced _ _ _) = omega arith

    same : (x : Declaration) → declaration_of l ≡ Some x → x ≡ d
    same x f = some_one (declaration_of l) x d f e

    -- what the declaration breaks, if it isn't named twice, used or imported
    rest : (r : ℕ) → (IsTwice p k d → ⊥) → ((j : ℕ) → IsUsed p d.scope d.what.name.bytes j → ⊥) → (NamesImport p d.scope d.what.name.bytes → ⊥) → Broken p k l Declaring r → (r ≡ 2) × BreaksDeclared p k d alone.Declared
    rest _ a b c (ByTwice x f t) = let P : Declaration → Type 0 = λ y. IsTwice p k y in absurd (a (subst P (same x f) t))
    rest _ a b c (ByUsed x j f u) = let P : Declaration → Type 0 = λ y. IsUsed p y.scope y.what.name.bytes j in absurd (b j (subst P (same x f) u))
    rest _ a b c (ByImported x f n) = let P : Declaration → Type 0 = λ y. NamesImport p y.scope y.what.name.bytes in absurd (c (subst P (same x f) n))
    rest _ a b c (ByAnnounced x f t) = let P : Declaration → Type 0 = λ y. BreaksDeclared p k y alone.Declared in (refl, subst P (same x f) t)

    least_one : (r : ℕ) → Breaks p k l r → 1 ≤ r
    least_one r b = one r (broken_as Declaring is_declaring r b)

    announced : BreaksDeclared p k d alone.Declared → Breaks p k l 2
    announced (Lacking s none) = OnlyAnnounced d e s none

    two_or_more : (IsTwice p k d → ⊥) → ((j : ℕ) → IsUsed p d.scope d.what.name.bytes j → ⊥) → (NamesImport p d.scope d.what.name.bytes → ⊥) → (r : ℕ) → Breaks p k l r → 2 ≤ r
    two_or_more a b c r x = let is = (rest r a b c (broken_as Declaring is_declaring r x)).0 in omega (arith, is)

    pub declared : (q : Option Rule) → DeclaredFound p k d q → (u : Option Origins) → Found (IsUsed p d.scope d.what.name.bytes) u → (b : Bool) → Decides b (NamesImport p d.scope d.what.name.bytes) → RuleFound p k l (declared_rule q (is_some u) b)
    declared (Some alone.DeclaredOnce) t u f b i = (DeclaredTwice d e t, least_one)
    declared (Some alone.Declared) t (Some o) f b i = (DeclaredAndUsed d o.first e f.0, least_one)
    declared (Some alone.Declared) t None f true i = (DeclaredAndImported d (i.0 refl).0 e (i.0 refl).1 (i.0 refl).2, least_one)
    declared (Some alone.Declared) t None f false i = (announced t.1, two_or_more t.0 f (λ n. let bad : false ≡ true = i.1 n in cc))
    declared None t (Some o) f b i = (DeclaredAndUsed d o.first e f.0, least_one)
    declared None t None f true i = (DeclaredAndImported d (i.0 refl).0 e (i.0 refl).1 (i.0 refl).2, least_one)
    declared None t None f false i = λ r x. t alone.Declared (rest r (λ w. t alone.DeclaredOnce (Twice w)) f (λ n. let bad : false ≡ true = i.1 n in cc) (broken_as Declaring is_declaring r x)).1

  -- ---- references

  module _ (n : Name) (need : Need) (seeks : sought l.item ≡ Some n) (needs : need_of l.item ≡ Some need) where
    is_referring : sort l.item ≡ Referring
    is_referring = needs_sort l.item need needs

    two_least : (r : ℕ) → Broken p k l Referring r → 2 ≤ r
    two_least _ (ReferredNone _) = omega arith
    two_least _ (ReferredTwo _ _ _ _ _) = omega arith
    two_least _ (ReferredUnfit _ _ _ _ _ _ _ _ _) = omega arith

    six_least : (j : ℕ) → Finds p l j → (r : ℕ) → Broken p k l Referring r → 6 ≤ r
    six_least j f _ (ReferredNone none) = absurd (none j f)
    six_least j f _ (ReferredTwo _ _ _ _ _) = omega arith
    six_least j f _ (ReferredUnfit _ _ _ _ _ _ _ _ _) = omega arith

    eight_least : (j : ℕ) → Finds p l j → ((i : ℕ) → Finds p l i → i ≡ j) → (r : ℕ) → Broken p k l Referring r → 8 ≤ r
    eight_least j f only _ (ReferredNone none) = absurd (none j f)
    eight_least j f only _ (ReferredTwo a b x y apart) = absurd (apart (only a x ∙ sym (only b y)))
    eight_least j f only _ (ReferredUnfit _ _ _ _ _ _ _ _ _) = omega arith

    kept : (j : ℕ) → Finds p l j → ((i : ℕ) → Finds p l i → i ≡ j) → (c : Option Class) → ClassFound p j c → class_fits need c ≡ true → (r : ℕ) → Broken p k l Referring r → ⊥
    kept j f only c class fit _ (ReferredNone none) = none j f
    kept j f only c class fit _ (ReferredTwo a b x y apart) = apart (only a x ∙ sym (only b y))
    kept j f only None class fit _ (ReferredUnfit q i item d nd g at de deny) = let P : ℕ → Type 0 = λ w. At p w item in class item d (subst P (only i g) at) de
    kept j f only (Some c) class fit _ (ReferredUnfit q i item d nd g at de deny) =
        let P : ℕ → Type 0 = λ w. At p w item in
        let here : item ≡ class.0 = some_one (slice_get p j) item class.0 (subst P (only i g) at) class.2 in
        let what : d ≡ class.1 = some_one (declaration_of class.0) d class.1 (ap declaration_of (sym here) ∙ de) class.3 in
        let needed : q ≡ need = some_one (need_of l.item) q need nd needs in
        let is : fits need c ≡ false = ap (fits need) (sym class.4) ∙ ap (λ x. fits need x.what.class) (sym what) ∙ ap (λ x. fits x d.what.class) (sym needed) ∙ deny in
        let bad : true ≡ false = sym fit ∙ is in
        cc

    pub referred : (q : Option Origins) → Found (Finds p l) q → (c : Option Class) → ClassOf p q c → RuleFound p k l (reference_rule q c need)
    referred None f c class = (NotDeclared n seeks f, λ r b. two_least r (broken_as Referring is_referring r b))
    referred (Some o) f c class = pick o.other f.1 where
      fit : (b : Bool) → class_fits need c ≡ b → ((i : ℕ) → Finds p l i → i ≡ o.first) → RuleFound p k l (cond b None (Some rule.Fitting))
      fit true e only = λ r b. kept o.first f.0 only c class e r (broken_as Referring is_referring r b)
      fit false e only = (unfit c class e, λ r b. eight_least o.first f.0 only r (broken_as Referring is_referring r b)) where
        unfit : (c : Option Class) → ClassFound p o.first c → class_fits need c ≡ false → Breaks p k l 8
        unfit None class e = absurd (cc)
        unfit (Some x) class e = NotFit need o.first class.0 class.1 needs f.0 class.2 class.3 (ap (fits need) class.4 ∙ e)

      pick : (t : Option ℕ) → OthersFound (Finds p l) o.first t → RuleFound p k l (cond (is_some t) (Some rule.Single) (cond (class_fits need c) None (Some rule.Fitting)))
      pick None only = fit (class_fits need c) refl only
      pick (Some j) both = (FromTwo j o.first both.0 f.0 both.1, λ r b. six_least o.first f.0 r (broken_as Referring is_referring r b))

  -- ---- names in USE statements

  module _ (m : List ℕ) (local u : Name) (re : Bool) (is : l.item ≡ Takes m local u re) where
    t_two : (r : ℕ) → Broken p k l Taking r → 2 ≤ r
    t_two _ (TakenNone _) = omega arith
    t_two _ (TakenPrivate _ _ _ _ _ _ _ _ _ _) = omega arith
    t_two _ (TakenTwo _ _ _ _ _) = omega arith

    t_three : (j : ℕ) → Finds p l j → (r : ℕ) → Broken p k l Taking r → 3 ≤ r
    t_three j f _ (TakenNone none) = absurd (none j f)
    t_three j f _ (TakenPrivate _ _ _ _ _ _ _ _ _ _) = omega arith
    t_three j f _ (TakenTwo _ _ _ _ _) = omega arith

    pub taken_absent : ((t : ℕ) → IsModule p m t → ⊥) → RuleFound p k l (Some rule.Declared)
    taken_absent none = (NotDeclared u (ap sought is) finds, λ r b. t_two r (broken_as Taking (ap sort is) r b)) where
      finds : (j : ℕ) → Finds p l j → ⊥
      finds j (FindsVisible n need _ at v) = let bad : Takes m local u re ≡ Refers n need = sym is ∙ at in cc
      finds j (FindsOutside n _ at v) = let bad : Takes m local u re ≡ Imports n = sym is ∙ at in cc
      finds j (FindsOwn n a _ at v) = let bad : Takes m local u re ≡ Accesses n a = sym is ∙ at in cc
      finds j (FindsUsed mo lo us r t _ at mod_ en de) = let same : m ≡ mo = (let both : Takes m local u re ≡ Takes mo lo us r = sym is ∙ at in cc) in let P : List ℕ → Type 0 = λ x. IsModule p x t in none t (subst P (sym same) mod_)

    module _ (t : ℕ) (there : IsModule p m t) (only : (s : ℕ) → IsModule p m s → s ≡ t) where
      to : (j : ℕ) → IsIn p t u.bytes j → Finds p l j
      to j i = FindsUsed m local u re t j is there i.0 i.1

      from : (j : ℕ) → Finds p l j → IsIn p t u.bytes j
      from j (FindsVisible n need _ at v) = let bad : Takes m local u re ≡ Refers n need = sym is ∙ at in absurd (cc)
      from j (FindsOutside n _ at v) = let bad : Takes m local u re ≡ Imports n = sym is ∙ at in absurd (cc)
      from j (FindsOwn n a _ at v) = let bad : Takes m local u re ≡ Accesses n a = sym is ∙ at in absurd (cc)
      from j (FindsUsed mo lo us r s _ at mod_ en de) =
          let same : m ≡ mo = (let both : Takes m local u re ≡ Takes mo lo us r = sym is ∙ at in cc) in
          let name : u ≡ us = (let both : Takes m local u re ≡ Takes mo lo us r = sym is ∙ at in cc) in
          let P : List ℕ → Type 0 = λ x. IsModule p x s in
          let D : ℕ → Name → Type 0 = λ w y. Denotes p w y.bytes j in
          (en, subst (λ w. D w u) (only s (subst P (sym same) mod_)) (subst (λ y. D s y) (sym name) de))

      denied : (j : ℕ) → IsIn p t u.bytes j → is_public p t u.bytes ≡ true → ((i : ℕ) → IsIn p t u.bytes i → i ≡ j) → (r : ℕ) → Broken p k l Taking r → ⊥
      denied j f public one_ _ (TakenNone none) = none j (to j f)
      denied j f public one_ _ (TakenPrivate mo lo us r s _ at mod_ g deny) =
          let same : m ≡ mo = (let both : Takes m local u re ≡ Takes mo lo us r = sym is ∙ at in cc) in
          let name : u ≡ us = (let both : Takes m local u re ≡ Takes mo lo us r = sym is ∙ at in cc) in
          let P : List ℕ → Type 0 = λ x. IsModule p x s in
          let scope : s ≡ t = only s (subst P (sym same) mod_) in
          let bad : true ≡ false = sym public ∙ ap (λ x. is_public p t x.bytes) name ∙ ap (λ w. is_public p w us.bytes) (sym scope) ∙ deny in
          cc
      denied j f public one_ _ (TakenTwo a b x y apart) = apart (one_ a (from a x) ∙ sym (one_ b (from b y)))

      t_six : (j : ℕ) → IsIn p t u.bytes j → is_public p t u.bytes ≡ true → (r : ℕ) → Broken p k l Taking r → 6 ≤ r
      t_six j f public _ (TakenNone none) = absurd (none j (to j f))
      t_six j f public _ (TakenPrivate mo lo us r s _ at mod_ g deny) =
          let same : m ≡ mo = (let both : Takes m local u re ≡ Takes mo lo us r = sym is ∙ at in cc) in
          let name : u ≡ us = (let both : Takes m local u re ≡ Takes mo lo us r = sym is ∙ at in cc) in
          let P : List ℕ → Type 0 = λ x. IsModule p x s in
          let scope : s ≡ t = only s (subst P (sym same) mod_) in
          let bad : true ≡ false = sym public ∙ ap (λ x. is_public p t x.bytes) name ∙ ap (λ w. is_public p w us.bytes) (sym scope) ∙ deny in
          absurd (cc)
      t_six j f public _ (TakenTwo _ _ _ _ _) = omega arith

      pub taken : (q : Option Origins) → Found (IsIn p t u.bytes) q → (b : Bool) → is_public p t u.bytes ≡ b → RuleFound p k l (taken_rule q b)
      taken None f b e = (NotDeclared u (ap sought is) (λ j g. f j (from j g)), λ r x. t_two r (broken_as Taking (ap sort is) r x))
      taken (Some o) f false e = (NotPublic m local u re t o.first is there (to o.first f.0) e, λ r x. t_three o.first (to o.first f.0) r (broken_as Taking (ap sort is) r x))
      taken (Some o) f true e = pick o.other f.1 where
        pick : (w : Option ℕ) → OthersFound (IsIn p t u.bytes) o.first w → RuleFound p k l (cond (is_some w) (Some rule.Single) None)
        pick None one_ = λ r x. denied o.first f.0 e one_ r (broken_as Taking (ap sort is) r x)
        pick (Some j) both = (FromTwo j o.first (to j both.0) (to o.first f.0) both.1, λ r x. t_six o.first f.0 e r (broken_as Taking (ap sort is) r x))
