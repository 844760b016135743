-- What is placed to its end is a file.
use Rattle.std.proofs.Common.{◌≡◌, ℕ, ◌+◌, ◌≤◌, List, [], ◌∷◌, ◌++◌, Result, Ok, Err, Bool, true, false, ltb, cond, refl, sym, ap, subst, ◌∙◌}
use Rattle.std.proofs.lemmas.Bool.{ltb-false}
use Rattle.std.proofs.lemmas.List.{append_assoc, append-nil}
use Rattle.f_declaration_grammar.specs.Declarations.{Program, Module, Head}
use Rattle.f_statement_grammar.specs.Statements.{Statement, Executable, Declaring, spell_statement}
use Rattle.f_unit_grammar.specs.Units.{State, File, counts, Role, stays, enters, leaves, none, role, Tree, single, nested, Trees, no_trees, tree, spell_tree, spell_trees, deepest, Stands, StandAll, IsFile, deeper, IsShallow}
use Rattle.f_unit_grammar.specs.Placing.{Broken, NoPlace, TooDeep, Open, step, and_on, run, at_file}
use Rattle.f_unit_grammar.proofs.Placed.{step_by, step_deep, file_placed, run_append, run_stops}

-- ---- trees with one more at the end

abbrev and_last : Trees → Tree → Trees
and_last no_trees t = tree t no_trees
and_last (tree x xs) t = tree x (and_last xs t)

last_stands : (ts : Trees) (t : Tree) (d : ℕ) (k m after : State) → StandAll d k ts m → Stands d m t after → StandAll d k (and_last ts t) after
last_stands no_trees t d k m after f g = (after, subst (λ (x : State). Stands d x t after) (sym f) g, refl)
last_stands (tree x xs) t d k m after f g = (f.0, f.1, last_stands xs t d f.0 m after f.2 g)

last_spelled : (ts : Trees) (t : Tree) (rest : List Statement) → spell_trees (and_last ts t) rest ≡ spell_trees ts (spell_tree t rest)
last_spelled no_trees t rest = refl
last_spelled (tree x xs) t rest = ap (spell_tree x) (last_spelled xs t rest)

-- the statements of trees, and then others
mutual
  tree_apart : (t : Tree) (rest : List Statement) → spell_tree t rest ≡ spell_tree t [] ++ rest
  tree_apart (single s) rest = refl
  tree_apart (nested head inside end) rest =
      ap (λ (l : List Statement). head ∷ l) (trees_apart inside (end ∷ rest) ∙ sym (ap (λ (l : List Statement). l ++ rest) (trees_apart inside (end ∷ [])) ∙ append_assoc (spell_trees inside []) (end ∷ []) rest))

  trees_apart : (ts : Trees) (rest : List Statement) → spell_trees ts rest ≡ spell_trees ts [] ++ rest
  trees_apart no_trees rest = refl
  trees_apart (tree t ts) rest =
      tree_apart t (spell_trees ts rest) ∙ ap (λ (l : List Statement). spell_tree t [] ++ l) (trees_apart ts rest)
      ∙ sym (ap (λ (l : List Statement). l ++ rest) (tree_apart t (spell_trees ts [])) ∙ append_assoc (spell_tree t []) (spell_trees ts []) rest)

-- ---- what stands in a file

file_stays : (s : Statement) (k : State) → role File s ≡ stays k → ⊥
unfolding role
file_stays (Executable l) k e = cc
file_stays (Declaring (Program name)) k e = cc
file_stays (Declaring (Module name)) k e = cc
file_stays (Declaring (Head ps f name d ss)) k e = cc
file_stays (Declaring _) k e = cc

file_leaves : (s : Statement) → role File s ≡ leaves → ⊥
unfolding role
file_leaves (Executable l) e = cc
file_leaves (Declaring (Program name)) e = cc
file_leaves (Declaring (Module name)) e = cc
file_leaves (Declaring (Head ps f name d ss)) e = cc
file_leaves (Declaring _) e = cc

pub file_enters : (s : Statement) (k inner : State) → role File s ≡ enters k inner → k ≡ File
unfolding role
file_enters (Executable l) k inner e = absurd (cc e)
file_enters (Declaring (Program name)) k inner e = cc
file_enters (Declaring (Module name)) k inner e = cc
file_enters (Declaring (Head ps f name d ss)) k inner e = cc
file_enters (Declaring _) k inner e = absurd (cc e)

-- ---- what has been begun

-- These statements have led here: to trees in the file, or to trees inside something that was entered.
abbrev pub Begun : State → ℕ → Open → List Statement → Type 0
Begun k d [] ss = (ts : Trees) × (k ≡ File) × (d ≡ 0) × StandAll 0 File ts File × (ss ≡ spell_trees ts [])
Begun k d (o ∷ rest) ss = (before : List Statement) × (outer : State) × (head : Statement) × (inner : State) × (ts : Trees)
    × Begun outer o.1 rest before × (IsShallow o.1 head × (role outer head ≡ enters o.0 inner)) × (d ≡ o.1 + counts inner) × (d ≤ deepest) × StandAll d inner ts k × (ss ≡ before ++ head ∷ spell_trees ts [])

abbrev pub BegunAt : Open → List Statement → Type 0
BegunAt [] ss = ⊥
BegunAt (o ∷ rest) ss = Begun o.0 o.1 rest ss

file_tree : (t : Tree) (d : ℕ) (after : State) → Stands d File t after → after ≡ File
file_tree (single s) d after f = absurd (file_stays s after f.1)
file_tree (nested head inside end) d after f = file_enters head after f.0 f.3

-- statements behind a head and trees, with one more tree
extended : (before : List Statement) (head : Statement) (ts : Trees) (t : Tree) (ss : List Statement) → ss ≡ before ++ head ∷ spell_trees ts [] → ss ++ spell_tree t [] ≡ before ++ head ∷ spell_trees (and_last ts t) []
extended before head ts t ss e =
    ap (λ (l : List Statement). l ++ spell_tree t []) e ∙ append_assoc before (head ∷ spell_trees ts []) (spell_tree t [])
    ∙ ap (λ (l : List Statement). before ++ head ∷ l) (sym (trees_apart ts (spell_tree t [])) ∙ sym (last_spelled ts t []))

-- what is begun, and one more tree
add_tree : (rest : Open) (k : State) (d : ℕ) (after : State) (t : Tree) (ss : List Statement) → Begun k d rest ss → Stands d k t after → Begun after d rest (ss ++ spell_tree t [])
add_tree [] k d after t ss b f =
    let in_file : Stands 0 File t after = subst (λ (x : State). Stands 0 x t after) b.1 (subst (λ (n : ℕ). Stands n k t after) b.2 f) in
    let is : after ≡ File = file_tree t 0 after in_file in
    let back : Stands 0 File t File = subst (λ (x : State). Stands 0 File t x) is in_file in (
      and_last b.0 t,
      is,
      b.2,
      last_stands b.0 t 0 File File File b.3 back,
      ap (λ (l : List Statement). l ++ spell_tree t []) b.4 ∙ sym (trees_apart b.0 (spell_tree t [])) ∙ sym (last_spelled b.0 t []),
    )
add_tree (o ∷ rest) k d after t ss b f =
    (b.0, b.1, b.2, b.3, and_last b.4 t, b.5, b.6, b.7, b.8, last_stands b.4 t d b.3 k after b.9 f, extended b.0 b.2 b.4 t ss b.10)

pub ok_is : (o p : Open) → let a : Result Open Broken = Ok o in let b : Result Open Broken = Ok p in a ≡ b → o ≡ p
ok_is o p e = cc

pub not_ok : (b : Broken) (p : Open) → let a : Result Open Broken = Err b in let c : Result Open Broken = Ok p in a ≡ c → ⊥
not_ok b p e = cc

left_begun : (k : State) (d : ℕ) (rest : Open) (ss : List Statement) (s : Statement) → Begun k d rest ss → IsShallow d s → role k s ≡ leaves → BegunAt rest (ss ++ s ∷ [])
left_begun k d [] ss s b shallow e = file_leaves s (subst (λ (x : State). role x s ≡ leaves) b.1 e)
left_begun k d (o ∷ rest) ss s b shallow e =
    let t : Tree = nested b.2 b.4 s in
    let room : o.1 + counts b.3 ≤ deepest = subst (λ (n : ℕ). n ≤ deepest) b.7 b.8 in
    let inside : StandAll (o.1 + counts b.3) b.3 b.4 k = subst (λ (n : ℕ). StandAll n b.3 b.4 k) b.7 b.9 in
    let same : b.0 ++ spell_tree t [] ≡ ss ++ s ∷ [] =
    ap (λ (l : List Statement). b.0 ++ b.2 ∷ l) (trees_apart b.4 (s ∷ [])) ∙ sym (append_assoc b.0 (b.2 ∷ spell_trees b.4 []) (s ∷ [])) ∙ sym (ap (λ (l : List Statement). l ++ s ∷ []) b.10) in
    subst (Begun o.0 o.1 rest) same (add_tree rest b.1 o.1 o.0 t b.0 b.5 (b.3, k, b.6.0, b.6.1, room, inside, subst (λ (n : ℕ). IsShallow n s) b.7 shallow, e))

step_begun : (k : State) (d : ℕ) (rest : Open) (ss : List Statement) (s : Statement) (p : Open) → Begun k d rest ss → step ((k, d) ∷ rest) s ≡ Ok p → BegunAt p (ss ++ s ∷ [])
step_begun k d rest ss s p b e = by_depth (deeper d 0 (spell_statement s)) refl
  where
    full : (x : Bool) (o : Open) (inner after : State) → ltb deepest (d + counts inner) ≡ x → IsShallow d s → role k s ≡ enters after inner → cond x (Err TooDeep) (Ok ((inner, d + counts inner) ∷ (after, d) ∷ rest)) ≡ Ok p → BegunAt p (ss ++ s ∷ [])
    full true o inner after t h i c = absurd (not_ok TooDeep p c)
    full false o inner after t h i c = subst (λ (q : Open). BegunAt q (ss ++ s ∷ [])) (ok_is ((inner, d + counts inner) ∷ (after, d) ∷ rest) p c)
        (ss, k, s, inner, no_trees, b, (h, i), refl, ltb-false deepest (d + counts inner) t, refl, refl)

    pick : IsShallow d s → (r : Role) → role k s ≡ r → BegunAt p (ss ++ s ∷ [])
    pick h (stays after) i = subst (λ (q : Open). BegunAt q (ss ++ s ∷ [])) (ok_is ((after, d) ∷ rest) p (sym (step_by k d rest s (stays after) h i) ∙ e)) (add_tree rest k d after (single s) ss b (h, i))
    pick h (enters after inner) i = full (ltb deepest (d + counts inner)) rest inner after refl h i (sym (step_by k d rest s (enters after inner) h i) ∙ e)
    pick h leaves i = subst (λ (q : Open). BegunAt q (ss ++ s ∷ [])) (ok_is rest p (sym (step_by k d rest s leaves h i) ∙ e)) (left_begun k d rest ss s b h i)
    pick h none i = absurd (not_ok NoPlace p (sym (step_by k d rest s none h i) ∙ e))

    by_depth : (x : Bool) → deeper d 0 (spell_statement s) ≡ x → BegunAt p (ss ++ s ∷ [])
    by_depth true h = absurd (not_ok TooDeep p (sym (step_deep k d rest s h) ∙ e))
    by_depth false h = pick h (role k s) refl

pub run_begun : (ss : List Statement) (o p : Open) (before : List Statement) → BegunAt o before → run o ss ≡ Ok p → BegunAt p (before ++ ss)
unfolding run
run_begun [] o p before b e = subst (λ (l : List Statement). BegunAt p l) (sym (append-nil before)) (subst (λ (q : Open). BegunAt q before) (ok_is o p e) b)
run_begun (s ∷ ss) [] p before b e = absurd b
run_begun (s ∷ ss) (o ∷ rest) p before b e = pick (λ q c. run_begun ss q p (before ++ s ∷ []) c) (step (o ∷ rest) s) refl e
  where
    pick : ((q : Open) → BegunAt q (before ++ s ∷ []) → run q ss ≡ Ok p → BegunAt p ((before ++ s ∷ []) ++ ss)) → (r : Result Open Broken) → step (o ∷ rest) s ≡ r → and_on r (λ q. run q ss) ≡ Ok p → BegunAt p (before ++ s ∷ ss)
    pick on (Ok q) i c = subst (λ (l : List Statement). BegunAt p l) (append_assoc before (s ∷ []) ss) (on q (step_begun o.0 o.1 rest before s q b i) c)
    pick on (Err x) i c = absurd (not_ok x p c)

pub at_start : BegunAt at_file []
at_start = (no_trees, refl, refl, refl, refl)

pub placed_is_file : (ss : List Statement) → run at_file ss ≡ Ok at_file → IsFile ss
placed_is_file ss e =
    let b : Begun File 0 [] ss = run_begun ss at_file at_file [] (no_trees, refl, refl, refl, refl) e in
    record { trees = b.0; stand = b.3; spelled = b.4 }

-- what has no place behind statements has none whatever follows
pub broken_for_all : (before : List Statement) (s : Statement) (o : Open) (b : Broken) → run at_file before ≡ Ok o → step o s ≡ Err b → (more : List Statement) → IsFile (before ++ s ∷ more) → ⊥
broken_for_all before s o b e1 e2 more f = not_ok b at_file (sym (run_append before (s ∷ more) at_file o e1 ∙ run_stops o b s more e2) ∙ file_placed (before ++ s ∷ more) f)
