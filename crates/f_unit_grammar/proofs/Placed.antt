-- Each statement of a tree that stands is placed.
use Rattle.std.proofs.Common.{◌≡◌, ℕ, ◌+◌, ◌≤◌, List, [], ◌∷◌, ◌++◌, Result, Ok, Err, Bool, true, cond, refl, ap, ◌∙◌}
use Rattle.std.proofs.lemmas.Bool.{le-ltb}
use Rattle.f_statement_grammar.specs.Statements.{Statement, spell_statement}
use Rattle.f_unit_grammar.specs.Units.{State, File, counts, Role, stays, enters, leaves, role, Tree, single, nested, Trees, no_trees, tree, spell_tree, spell_trees, deepest, Stands, StandAll, IsFile, deeper, IsShallow}
use Rattle.f_unit_grammar.specs.Placing.{Broken, TooDeep, Open, placed, step, and_on, run, at_file}

pub step_by : (k : State) (d : ℕ) (rest : Open) (s : Statement) (r : Role) → IsShallow d s → role k s ≡ r → step ((k, d) ∷ rest) s ≡ placed r d rest
unfolding step
step_by k d rest s r shallow e = rw (shallow, e) refl

pub step_deep : (k : State) (d : ℕ) (rest : Open) (s : Statement) → deeper d 0 (spell_statement s) ≡ true → step ((k, d) ∷ rest) s ≡ Err TooDeep
unfolding step
step_deep k d rest s e = rw e refl

pub run_on : (o p : Open) (s : Statement) (ss : List Statement) → step o s ≡ Ok p → run o (s ∷ ss) ≡ run p ss
unfolding run
run_on o p s ss e = rw e refl

pub run_stops : (o : Open) (b : Broken) (s : Statement) (ss : List Statement) → step o s ≡ Err b → run o (s ∷ ss) ≡ Err b
unfolding run
run_stops o b s ss e = rw e refl

has_room : (d : ℕ) (inner after : State) (rest : Open) → d + counts inner ≤ deepest → placed (enters after inner) d rest ≡ Ok ((inner, d + counts inner) ∷ (after, d) ∷ rest)
has_room d inner after rest le = ap (λ (b : Bool). cond b (Err TooDeep) (Ok ((inner, d + counts inner) ∷ (after, d) ∷ rest))) (le-ltb deepest (d + counts inner) le)

mutual
  pub tree_placed : (t : Tree) (d : ℕ) (k after : State) (rest : Open) (more : List Statement) → Stands d k t after → run ((k, d) ∷ rest) (spell_tree t more) ≡ run ((after, d) ∷ rest) more
  tree_placed (single s) d k after rest more f = run_on ((k, d) ∷ rest) ((after, d) ∷ rest) s more (step_by k d rest s (stays after) f.0 f.1)
  tree_placed (nested head inside end) d k after rest more f =
      let inner = f.0 in
      let last = f.1 in
      let e = d + counts inner in
      run_on ((k, d) ∷ rest) ((inner, e) ∷ (after, d) ∷ rest) head (spell_trees inside (end ∷ more)) (step_by k d rest head (enters after inner) f.2 f.3 ∙ has_room d inner after rest f.4)
      ∙ trees_placed inside e inner last ((after, d) ∷ rest) (end ∷ more) f.5
      ∙ run_on ((last, e) ∷ (after, d) ∷ rest) ((after, d) ∷ rest) end more (step_by last e ((after, d) ∷ rest) end leaves f.6 f.7)

  pub trees_placed : (ts : Trees) (d : ℕ) (k after : State) (rest : Open) (more : List Statement) → StandAll d k ts after → run ((k, d) ∷ rest) (spell_trees ts more) ≡ run ((after, d) ∷ rest) more
  trees_placed no_trees d k after rest more f = ap (λ (x : State). run ((x, d) ∷ rest) more) f
  trees_placed (tree t ts) d k after rest more f = tree_placed t d k f.0 rest (spell_trees ts more) f.1 ∙ trees_placed ts d f.0 after rest more f.2

run_none : (o : Open) → run o [] ≡ Ok o
unfolding run
run_none o = refl

pub file_placed : (ss : List Statement) → IsFile ss → run at_file ss ≡ Ok at_file
file_placed ss f = ap (run at_file) f.spelled ∙ trees_placed f.trees 0 File File [] [] f.stand ∙ run_none at_file

pub run_append : (ss more : List Statement) (o p : Open) → run o ss ≡ Ok p → run o (ss ++ more) ≡ run p more
unfolding run
run_append [] more o p e = ap (λ (x : Open). run x more) (ok_is o p e)
  where
    ok_is : (o p : Open) → let a : Result Open Broken = Ok o in let b : Result Open Broken = Ok p in a ≡ b → o ≡ p
    ok_is o p e = cc
run_append (s ∷ ss) more o p e = pick (λ q. run_append ss more q p) (step o s) e
  where
    err_is : (b : Broken) (p : Open) → let a : Result Open Broken = Err b in let c : Result Open Broken = Ok p in a ≡ c → ⊥
    err_is b p e = cc

    pick : ((q : Open) → run q ss ≡ Ok p → run q (ss ++ more) ≡ run p more) → (r : Result Open Broken) → and_on r (λ q. run q ss) ≡ Ok p → and_on r (λ q. run q (ss ++ more)) ≡ run p more
    pick on (Ok q) e = on q e
    pick on (Err b) e = absurd (err_is b p e)
