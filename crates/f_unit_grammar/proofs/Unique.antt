-- The statements of a file are those of no other trees.
use Rattle.std.proofs.Common.{◌≡◌, ℕ, ◌+◌, List, [], ◌∷◌, refl, sym, ap, subst, ◌∙◌}
use Rattle.f_statement_grammar.specs.Statements.{Statement}
use Rattle.f_unit_grammar.specs.Units.{State, File, counts, Role, stays, enters, role, Tree, single, nested, Trees, no_trees, tree, spell_tree, spell_trees, Stands, StandAll, IsFile}

-- nothing goes on inside with this
abbrev Halts : Role → Type 0
Halts (stays next) = ⊥
Halts (enters next inside) = ⊥
Halts _ = Unit {0}

abbrev Stops : State → List Statement → Type 0
Stops k [] = Unit {0}
Stops k (s ∷ ss) = Halts (role k s)

goes_on : (t : Tree) (d : ℕ) (k after : State) (rest : List Statement) → Stands d k t after → Stops k (spell_tree t rest) → ⊥
goes_on (single s) d k after rest f h = subst Halts f.1 h
goes_on (nested head inside end) d k after rest f h = subst Halts f.3 h

first_is : (s q : Statement) (ss qs : List Statement) → s ∷ ss ≡ q ∷ qs → (s ≡ q) × (ss ≡ qs)
first_is s q ss qs e = (cc, cc)

stays_is : (a b : State) → stays a ≡ stays b → a ≡ b
stays_is a b e = cc

enters_is : (a b i j : State) → enters a i ≡ enters b j → (a ≡ b) × (i ≡ j)
enters_is a b i j e = (cc, cc)

stays_enters : (a b i : State) → stays a ≡ enters b i → ⊥
stays_enters a b i e = cc

same_role : (k : State) (s q : Statement) (x y : Role) → s ≡ q → role k s ≡ x → role k q ≡ y → x ≡ y
same_role k s q x y e f g = sym f ∙ ap (role k) e ∙ g

mutual
  tree_one : (t u : Tree) (d e : ℕ) (k a b : State) (r q : List Statement) → Stands d k t a → Stands e k u b → spell_tree t r ≡ spell_tree u q → (t ≡ u) × (a ≡ b) × (r ≡ q)
  tree_one (single s) (single x) d e k a b r q f g is =
      let p = first_is s x r q is in
      (ap single p.0, stays_is a b (same_role k s x (stays a) (stays b) p.0 f.1 g.1), p.1)
  tree_one (single s) (nested head inside end) d e k a b r q f g is =
      let p = first_is s head r (spell_trees inside (end ∷ q)) is in
      absurd (stays_enters a b g.0 (same_role k s head (stays a) (enters b g.0) p.0 f.1 g.3))
  tree_one (nested head inside end) (single x) d e k a b r q f g is =
      let p = first_is head x (spell_trees inside (end ∷ r)) q is in
      absurd (stays_enters b a f.0 (same_role k x head (stays b) (enters a f.0) (sym p.0) g.1 f.3))
  tree_one (nested head inside end) (nested first within last) d e k a b r q f g is =
      let p = first_is head first (spell_trees inside (end ∷ r)) (spell_trees within (last ∷ q)) is in
      let n = enters_is a b f.0 g.0 (same_role k head first (enters a f.0) (enters b g.0) p.0 f.3 g.3) in
      let g4 : StandAll (e + counts g.0) f.0 within g.1 = subst (λ (x : State). StandAll (e + counts g.0) x within g.1) (sym n.1) g.5 in
      let o = trees_one inside within (d + counts f.0) (e + counts g.0) f.0 f.1 g.1 (end ∷ r) (last ∷ q) f.5 g4 (subst Halts (sym f.7) tt) (subst Halts (sym g.7) tt) p.1 in
      let z = first_is end last r q o.2 in
      ((λ i. nested (p.0 i) (o.0 i) (z.0 i)), n.0, z.1)

  trees_one : (ts us : Trees) (d e : ℕ) (k a b : State) (r q : List Statement) → StandAll d k ts a → StandAll e k us b → Stops a r → Stops b q → spell_trees ts r ≡ spell_trees us q → (ts ≡ us) × (a ≡ b) × (r ≡ q)
  trees_one no_trees no_trees d e k a b r q f g h j is = (refl, sym f ∙ g, is)
  trees_one no_trees (tree u us) d e k a b r q f g h j is = absurd (goes_on u e k g.0 (spell_trees us q) g.1 (subst (λ (x : State). Stops x (spell_tree u (spell_trees us q))) (sym f) (subst (Stops a) is h)))
  trees_one (tree t ts) no_trees d e k a b r q f g h j is = absurd (goes_on t d k f.0 (spell_trees ts r) f.1 (subst (λ (x : State). Stops x (spell_tree t (spell_trees ts r))) (sym g) (subst (Stops b) (sym is) j)))
  trees_one (tree t ts) (tree u us) d e k a b r q f g h j is =
      let p = tree_one t u d e k f.0 g.0 (spell_trees ts r) (spell_trees us q) f.1 g.1 is in
      let g2 : StandAll e f.0 us b = subst (λ (x : State). StandAll e x us b) (sym p.1) g.2 in
      let o = trees_one ts us d e f.0 a b r q f.2 g2 h j p.2 in
      ((λ i. tree (p.0 i) (o.0 i)), o.1, o.2)

pub one_file : (ss : List Statement) (a b : IsFile ss) → a.trees ≡ b.trees
one_file ss a b = (trees_one a.trees b.trees 0 0 File File File [] [] a.stand b.stand tt tt (sym a.spelled ∙ b.spelled)).0
