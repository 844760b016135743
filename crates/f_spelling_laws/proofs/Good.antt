-- Trees of statements that each fit, where what an executable statement begins is ended by one.
use Rattle.std.proofs.Common.{◌≡◌, List, [], ◌∷◌, Option, Some, None, true, false, refl}
use Rattle.f_tree.specs.declared.name.Name.{Name}
use Rattle.f_tree.specs.declared.declaration.Ending.{Ending}
use Rattle.f_tree.specs.declared.declaration.EndingForm.{EndingForm}
use Rattle.f_tree.specs.declared.declaration.EndingForm.TheVariants.{Bare, TwoWords, OneWord}
use Rattle.f_tree.specs.declared.statement.Action.{Action}
use Rattle.f_tree.specs.declared.statement.Action.TheVariants as action
use Rattle.f_tree.specs.declared.statement.CaseChoice.{CaseChoice}
use Rattle.f_tree.specs.declared.statement.CaseChoice.TheVariants as choice
use Rattle.f_grammar.specs.Grammar.{FitsRefer}
use Rattle.f_grammar.specs.Actions.{FitsAct}
use Rattle.f_line_grammar.specs.Lines as line
use Rattle.f_line_grammar.specs.Lines.{FitsLine}
use Rattle.f_declaration_grammar.specs.Declarations as grammar
use Rattle.f_statement_grammar.specs.Statements.{Statement, FitsStatement}
use Rattle.f_unit_grammar.specs.Units.{Tree, single, nested, Trees, no_trees, tree, spell_tree, spell_trees}
use Rattle.f_action_read.specs.Actions.{view_action, no_reference}
use Rattle.f_unit_laws.specs.Shapes.{bare_ending, bare_choice, Blocks, no_blocks, block}
use Rattle.f_unit_laws.specs.Derivations.{construct_end, unit_end, values_line, block_trees}
use Rattle.f_unit_laws.proofs.Sorts.{is_executable}
use Rattle.f_unit_laws.proofs.Formed.{IsMatched, AreMatched}
use Rattle.f_spelling_laws.specs.Told.{action_told, choice_told, construct_end_told, unit_end_told}
use Rattle.f_spelling_laws.specs.Plain.{action_plain, choice_plain}
use Rattle.f_spelling_laws.specs.Laws.{Fit}

abbrev mutual
  pub GoodTree : Tree → Type 0
  GoodTree (single s) = FitsStatement 65 s
  GoodTree (nested first inside end) = FitsStatement 65 first × GoodTrees inside × (is_executable first ≡ is_executable end)

  pub GoodTrees : Trees → Type 0
  GoodTrees no_trees = Unit {0}
  GoodTrees (tree t ts) = GoodTree t × GoodTrees ts

mutual
  tree_good : (t : Tree) (rest : List Statement) → IsMatched t → Fit (spell_tree t rest) → GoodTree t × Fit rest
  tree_good (single s) rest m f = (f.0, f.1)
  tree_good (nested first inside end) rest m f =
      let p = trees_good inside (end ∷ rest) m.1 f.1 in
      ((f.0, p.0, m.0), p.1.1)

  pub trees_good : (ts : Trees) (rest : List Statement) → AreMatched ts → Fit (spell_trees ts rest) → GoodTrees ts × Fit rest
  trees_good no_trees rest m f = (tt, f)
  trees_good (tree t ts) rest m f =
      let p = tree_good t (spell_trees ts rest) m.0 f in
      let q = trees_good ts rest m.1 p.1 in
      ((p.0, q.0), q.1)

-- a block in front of others
pub good_parts : (bs : Blocks) (ts : Trees) → GoodTrees (block_trees bs ts) → GoodTrees (block_trees bs no_trees) × GoodTrees ts
good_parts no_blocks ts g = (tt, g)
good_parts (block b bs) ts g =
    let p = good_parts bs ts g.1 in
    ((g.0, p.0), p.1)

-- ---- ends

pub construct_end_is_told : (c : line.Construct) (e : Ending) → true ≡ is_executable (construct_end c (bare_ending e)) → construct_end_told e ≡ true
construct_end_is_told c e = of e.form e.name
  where
    of : (form : EndingForm) (name : Option Name) → true ≡ is_executable (construct_end c (bare_ending (record { place = e.place; form = form; name = name }))) → construct_end_told (record { place = e.place; form = form; name = name }) ≡ true
    of form None is = refl
    of Bare (Some n) is = absurd (let no : true ≡ false = is in cc)
    of TwoWords (Some n) is = absurd (let no : true ≡ false = is in cc)
    of OneWord (Some n) is = absurd (let no : true ≡ false = is in cc)

pub unit_end_is_told : (what : grammar.Ended) (e : Ending) → false ≡ is_executable (unit_end what (bare_ending e)) → unit_end_told e ≡ true
unit_end_is_told what e = of e.form e.name
  where
    of : (form : EndingForm) (name : Option Name) → false ≡ is_executable (unit_end what (bare_ending (record { place = e.place; form = form; name = name }))) → unit_end_told (record { place = e.place; form = form; name = name }) ≡ true
    of Bare None is = refl
    of Bare (Some n) is = absurd (let no : false ≡ true = is in cc)
    of TwoWords None is = refl
    of TwoWords (Some n) is = refl
    of OneWord None is = refl
    of OneWord (Some n) is = refl

-- ---- action statements and CASE

-- a range stands behind arguments
unspelled : FitsRefer 65 no_reference → ⊥
unspelled f = f.0.1.0

pub action_is_told : (a : Action) → action_plain a ≡ true → FitsAct 65 (view_action a) → action_told a ≡ true
action_is_told (action.Assign target value) sure f = sure
action_is_told (action.Associate target value) sure f = sure
action_is_told (action.Call p name arguments) sure f = sure
action_is_told (action.Exit p) sure f = refl
action_is_told (action.Cycle p) sure f = refl
action_is_told (action.Return p) sure f = refl
action_is_told (action.Stop p is_error code) sure f = sure
action_is_told (action.Allocate p [] stat) sure f = absurd (unspelled f.0)
action_is_told (action.Allocate p (r ∷ rs) stat) sure f = sure
action_is_told (action.Deallocate p [] stat) sure f = absurd (unspelled f.0)
action_is_told (action.Deallocate p (r ∷ rs) stat) sure f = sure
action_is_told (action.Nullify p []) sure f = absurd (unspelled f.0)
action_is_told (action.Nullify p (r ∷ rs)) sure f = sure
action_is_told (action.Print p items) sure f = sure
action_is_told (action.Read p []) sure f = absurd (unspelled f.0)
action_is_told (action.Read p (r ∷ rs)) sure f = sure
action_is_told (action.ReadUnit p stat []) sure f = absurd (unspelled f.1)
action_is_told (action.ReadUnit p stat (r ∷ rs)) sure f = sure

pub choice_is_told : (c : CaseChoice) → choice_plain c ≡ true → FitsLine 65 (values_line (bare_choice c)) → choice_told c ≡ true
choice_is_told choice.Default sure f = refl
choice_is_told (choice.Ranges []) sure f = absurd f.0.0
choice_is_told (choice.Ranges (r ∷ rs)) sure f = sure
