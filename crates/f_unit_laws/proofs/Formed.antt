-- Trees whose statements are of the sorts of their places are told by their statements, and the trees of a file are such.
use Rattle.std.proofs.Common.{◌≡◌, ℕ, ◌+◌, List, [], ◌∷◌, refl, sym, ap, subst, ◌∙◌}
use Rattle.f_statement_grammar.specs.Statements.{Statement}
use Rattle.f_unit_grammar.specs.Units.{State, counts, Tree, single, nested, Trees, no_trees, tree, spell_tree, spell_trees, Stands, StandAll}
use Rattle.f_unit_laws.proofs.Sorts.{Stays, Enters, Leaves, sort_of, is_executable, is_construct, when_stays, when_enters, when_leaves}

-- each statement is of the sort of its place
abbrev mutual
  pub IsFormed : Tree → Type 0
  IsFormed (single s) = sort_of s ≡ Stays
  IsFormed (nested first inside end) = (sort_of first ≡ Enters) × AreFormed inside × (sort_of end ≡ Leaves)

  pub AreFormed : Trees → Type 0
  AreFormed no_trees = Unit {0}
  AreFormed (tree t ts) = IsFormed t × AreFormed ts

-- what an executable statement begins is ended by one, and what another statement begins by another
abbrev mutual
  pub IsMatched : Tree → Type 0
  IsMatched (single s) = Unit {0}
  IsMatched (nested first inside end) = (is_executable first ≡ is_executable end) × AreMatched inside

  pub AreMatched : Trees → Type 0
  AreMatched no_trees = Unit {0}
  AreMatched (tree t ts) = IsMatched t × AreMatched ts

-- ---- trees that stand are such

mutual
  tree_stands : (t : Tree) (d : ℕ) (k after : State) → Stands d k t after → IsFormed t × IsMatched t × (is_construct k ≡ is_construct after)
  tree_stands (single s) d k after f =
      let p = when_stays k after s f.1 in
      (p.0, tt, p.1)
  tree_stands (nested first inside end) d k after f =
      let p = when_enters k after f.0 first f.3 in
      let q = trees_stand inside (d + counts f.0) f.0 f.1 f.5 in
      let r = when_leaves f.1 end f.7 in
      ((p.0, q.0, r.0), (p.2 ∙ q.2 ∙ r.1, q.1), p.1)

  pub trees_stand : (ts : Trees) (d : ℕ) (k after : State) → StandAll d k ts after → AreFormed ts × AreMatched ts × (is_construct k ≡ is_construct after)
  trees_stand no_trees d k after f = (tt, tt, ap is_construct f)
  trees_stand (tree t ts) d k after f =
      let p = tree_stands t d k f.0 f.1 in
      let q = trees_stand ts d f.0 after f.2 in
      ((p.0, q.0), (p.1, q.1), p.2 ∙ q.2)

-- ---- one list of such trees

-- what stands behind trees ends what they stand in
abbrev Ends : List Statement → Type 0
Ends [] = Unit {0}
Ends (s ∷ ss) = sort_of s ≡ Leaves

stays_enters : Stays ≡ Enters → ⊥
stays_enters e = cc

stays_leaves : Stays ≡ Leaves → ⊥
stays_leaves e = cc

enters_leaves : Enters ≡ Leaves → ⊥
enters_leaves e = cc

first_is : (s q : Statement) (ss qs : List Statement) → s ∷ ss ≡ q ∷ qs → (s ≡ q) × (ss ≡ qs)
first_is s q ss qs e = (cc, cc)

goes_on : (t : Tree) (rest : List Statement) → IsFormed t → Ends (spell_tree t rest) → ⊥
goes_on (single s) rest f e = stays_leaves (sym f ∙ e)
goes_on (nested first inside end) rest f e = enters_leaves (sym f.0 ∙ e)

mutual
  tree_one : (t u : Tree) (r q : List Statement) → IsFormed t → IsFormed u → spell_tree t r ≡ spell_tree u q → (t ≡ u) × (r ≡ q)
  tree_one (single s) (single x) r q f g is =
      let p = first_is s x r q is in
      (ap single p.0, p.1)
  tree_one (single s) (nested first inside end) r q f g is =
      let p = first_is s first r (spell_trees inside (end ∷ q)) is in
      absurd (stays_enters (sym f ∙ ap sort_of p.0 ∙ g.0))
  tree_one (nested first inside end) (single x) r q f g is =
      let p = first_is first x (spell_trees inside (end ∷ r)) q is in
      absurd (stays_enters (sym g ∙ ap sort_of (sym p.0) ∙ f.0))
  tree_one (nested first inside end) (nested begin within last) r q f g is =
      let p = first_is first begin (spell_trees inside (end ∷ r)) (spell_trees within (last ∷ q)) is in
      let o = trees_one inside within (end ∷ r) (last ∷ q) f.1 g.1 f.2 g.2 p.1 in
      let z = first_is end last r q o.1 in
      ((λ i. nested (p.0 i) (o.0 i) (z.0 i)), z.1)

  trees_one : (ts us : Trees) (r q : List Statement) → AreFormed ts → AreFormed us → Ends r → Ends q → spell_trees ts r ≡ spell_trees us q → (ts ≡ us) × (r ≡ q)
  trees_one no_trees no_trees r q f g h j is = (refl, is)
  trees_one no_trees (tree u us) r q f g h j is = absurd (goes_on u (spell_trees us q) g.0 (subst Ends is h))
  trees_one (tree t ts) no_trees r q f g h j is = absurd (goes_on t (spell_trees ts r) f.0 (subst Ends (sym is) j))
  trees_one (tree t ts) (tree u us) r q f g h j is =
      let p = tree_one t u (spell_trees ts r) (spell_trees us q) f.0 g.0 is in
      let o = trees_one ts us r q f.1 g.1 h j p.1 in
      ((λ i. tree (p.0 i) (o.0 i)), o.1)

pub one_list : (ts us : Trees) → AreFormed ts → AreFormed us → spell_trees ts [] ≡ spell_trees us [] → ts ≡ us
one_list ts us f g is = (trees_one ts us [] [] f g tt tt is).0
