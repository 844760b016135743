-- What is read up to a broken rule begins a file, and nothing that goes on so is one.
use Rattle.std.proofs.Common.{◌≡◌, List, [], ◌∷◌, ◌++◌, Option, Some, None, Result, Ok, Err, Bool, true, false, cond, refl, sym, ap, subst, ◌∙◌}
use Rattle.std.proofs.lemmas.List.{append_assoc}
use Rattle.f_lex.specs.declared.token.Token.{Token}
use Rattle.f_grammar.specs.Reading.{IfSome}
use Rattle.f_statement_grammar.specs.Statements.{Statement, spell_statement, FitsStatement, statement_at}
use Rattle.f_statement_grammar.proofs.StatementLaws.{statement_sound, statement_again}
use Rattle.f_unit_grammar.specs.Units.{deeper, IsFile}
use Rattle.f_unit_grammar.specs.Placing.{Broken, NoPlace, TooDeep, Open, step, run, at_file}
use Rattle.f_unit_grammar.specs.Rules.{Rule, NoForm, Misplaced, TooNested, Cut, cuts, HasForm, HaveForms, depth_of, by_place, formed, read_cut, and_read, read_cuts, Breaks, FirstBroken}
use Rattle.f_unit_grammar.proofs.Placed.{run_append, step_deep}
use Rattle.f_unit_grammar.proofs.Begun.{broken_for_all}
use Rattle.f_unit_grammar.proofs.Viable.{placed_begins}
use Rattle.f_unit_grammar.proofs.Texts.{cut_is, run_step}

forms_last : (cs : List Cut) (ss : List Statement) (c : Cut) (s : Statement) → HaveForms cs ss → HasForm c s → HaveForms (cs ++ c ∷ []) (ss ++ s ∷ [])
forms_last [] [] c s f g = (g, tt)
forms_last [] (x ∷ ss) c s f g = absurd f
forms_last (x ∷ cs) [] c s f g = absurd f
forms_last (x ∷ cs) (y ∷ ss) c s f g = (f.0, forms_last cs ss c s f.1 g)

-- the statement of a cut is one alone
form_is : (c : Cut) (s : Statement) → HasForm c s → statement_at 65 c.0 ≡ Some s
form_is c s f = ap (statement_at 65) f.2 ∙ statement_again 65 s f.1

some_is : (s q : Statement) → let a : Option Statement = Some s in let b : Option Statement = Some q in a ≡ b → s ≡ q
some_is s q e = cc

none_is : (s : Statement) → let a : Option Statement = None in let b : Option Statement = Some s in a ≡ b → ⊥
none_is s e = cc

no_bool : false ≡ true → ⊥
no_bool e = cc

rule_is : (r q : Rule) → let a : Result Open Rule = Err r in let b : Result Open Rule = Err q in a ≡ b → r ≡ q
rule_is r q e = cc

ok_no_rule : (o : Open) (q : Rule) → let a : Result Open Rule = Ok o in let b : Result Open Rule = Err q in a ≡ b → ⊥
ok_no_rule o q e = cc

deep_step : (o : Open) (s : Statement) → deeper (depth_of o) 0 (spell_statement s) ≡ true → (b : Broken) × (step o s ≡ Err b)
unfolding step
deep_step [] s e = (NoPlace, refl)
deep_step (o ∷ rest) s e = (TooDeep, step_deep o.0 o.1 rest s e)

module _ (before : List Statement) (o : Open) (placed : run at_file before ≡ Ok o) (c : Cut) where
  abbrev NoFile : Type 0
  NoFile = (s : Statement) → HasForm c s → (more : List Statement) → IsFile (before ++ s ∷ more) → ⊥

  by_parentheses : deeper (depth_of o) 0 c.0 ≡ true → NoFile
  by_parentheses h s f =
      let d = deep_step o s (sym (ap (deeper (depth_of o) 0) f.2) ∙ h) in
      broken_for_all before s o d.0 placed d.1

  by_statement : (s : Statement) (b : Broken) → HasForm c s → step o s ≡ Err b → NoFile
  by_statement s b f e q g = broken_for_all before q o b placed (subst (λ (x : Statement). step o x ≡ Err b) (some_is s q (sym (form_is c s f) ∙ form_is c q g)) e)

  placed_rule : (s : Statement) (x : Result Open Broken) (r : Rule) → HasForm c s → step o s ≡ x → by_place x ≡ Err r → Breaks before c r
  placed_rule s (Ok p) r f i e = absurd (ok_no_rule p r e)
  placed_rule s (Err NoPlace) r f i e = subst (Breaks before c) (rule_is Misplaced r e) ((s, f), by_statement s NoPlace f i)
  placed_rule s (Err TooDeep) r f i e = subst (Breaks before c) (rule_is TooNested r e) (by_statement s TooDeep f i)

  form_rule : (b : Bool) (x : Option Statement) (r : Rule) → c.1 ≡ b → statement_at 65 c.0 ≡ x → IfSome x (λ s. (c.0 ≡ spell_statement s) × FitsStatement 65 s) → formed o b x ≡ Err r → Breaks before c r
  form_rule true (Some s) r b i f e = placed_rule s (step o s) r (b, f.1, f.0) refl e
  form_rule true None r b i f e = subst (Breaks before c) (rule_is NoForm r e) (λ s g. none_is s (sym i ∙ form_is c s g))
  form_rule false x r b i f e = subst (Breaks before c) (rule_is NoForm r e) (λ s g. no_bool (sym b ∙ g.0))

  cut_breaks : (r : Rule) → read_cut o c ≡ Err r → Breaks before c r
  unfolding read_cut
  cut_breaks r e = pick (deeper (depth_of o) 0 c.0) refl e
    where
      pick : (b : Bool) → deeper (depth_of o) 0 c.0 ≡ b → cond b (Err TooNested) (formed o c.1 (statement_at 65 c.0)) ≡ Err r → Breaks before c r
      pick true h e = subst (Breaks before c) (rule_is TooNested r e) (by_parentheses h)
      pick false h e = form_rule c.1 (statement_at 65 c.0) r refl refl (statement_sound 65 c.0) e

no_end : (o : Open) (r : Rule) (left : List Cut) → let a : Result Open (Rule × List Cut) = Ok o in let b : Result Open (Rule × List Cut) = Err (r, left) in a ≡ b → ⊥
no_end o r left e = cc

pair_is : (x y : Rule × List Cut) → let a : Result Open (Rule × List Cut) = Err x in let b : Result Open (Rule × List Cut) = Err y in a ≡ b → x ≡ y
pair_is x y e = cc

left_is : (q r : Rule) (xs left : List Cut) → let a : Result Open (Rule × List Cut) = Err (q, xs) in let b : Result Open (Rule × List Cut) = Err (r, left) in a ≡ b → (q ≡ r) × (left ≡ xs)
left_is q r xs left e =
    let p : (q, xs) ≡ (r, left) = pair_is (q, xs) (r, left) e in
    (ap (λ (x : Rule × List Cut). x.0) p, sym (ap (λ (x : Rule × List Cut). x.1) p))

nothing_breaks : (o : Open) (r : Rule) (left : List Cut) → read_cuts o [] ≡ Err (r, left) → ⊥
unfolding read_cuts
nothing_breaks o r left e = no_end o r left e

run_is : (o : Open) → run o [] ≡ Ok o
unfolding run
run_is o = refl

one_run : (o p : Open) (s : Statement) → step o s ≡ Ok p → run o (s ∷ []) ≡ Ok p
one_run o p s e = run_step o p p s [] e (run_is p)

first_broken : (cs : List Cut) (o : Open) (before : List Cut) (ss : List Statement) (r : Rule) (left : List Cut) → HaveForms before ss → run at_file ss ≡ Ok o → read_cuts o cs ≡ Err (r, left) → FirstBroken (before ++ cs) r left
unfolding read_cuts
first_broken [] o before ss r left f p e = absurd (nothing_breaks o r left e)
first_broken (c ∷ cs) o before ss r left f p e =
    pick (λ q s i g. first_broken cs q (before ++ c ∷ []) (ss ++ s ∷ []) r left (forms_last before ss c s f i.0) (run_append ss (s ∷ []) at_file o p ∙ one_run o q s i.1) g) (read_cut o c) refl e
  where
    pick : ((q : Open) (s : Statement) → HasForm c s × (step o s ≡ Ok q) → read_cuts q cs ≡ Err (r, left) → FirstBroken ((before ++ c ∷ []) ++ cs) r left)
        → (x : Result Open Rule) → read_cut o c ≡ x → and_read x (c ∷ cs) (λ q. read_cuts q cs) ≡ Err (r, left) → FirstBroken (before ++ c ∷ cs) r left
    pick on (Ok q) i g =
        let x = cut_is o q c i in
        subst (λ (l : List Cut). FirstBroken l r left) (append_assoc before (c ∷ []) cs) (on q x.0 (x.1, x.2) g)
    pick on (Err b) i g =
        let is = left_is b r (c ∷ cs) left g in
        record { before = before; broken = c; behind = cs; parts = refl; is_left = is.1; statements = ss; forms = f; begins = placed_begins ss o p; breaks = subst (Breaks ss c) is.0 (cut_breaks ss o p c b i) }

pub rule_is_first : (ts : List Token) (r : Rule) (left : List Cut) → read_cuts at_file (cuts ts) ≡ Err (r, left) → FirstBroken (cuts ts) r left
rule_is_first ts r left e = first_broken (cuts ts) at_file [] [] r left tt (run_is at_file) e
