-- The tokens that are read to their end are those of a file.
use Rattle.std.proofs.Common.{◌≡◌, List, [], ◌∷◌, Option, Some, None, Result, Ok, Err, Bool, true, false, cond, refl, sym, ap, ◌∙◌}
use Rattle.f_lex.specs.declared.token.Token.{Token}
use Rattle.f_grammar.specs.Reading.{IfSome}
use Rattle.f_statement_grammar.specs.Statements.{Statement, spell_statement, FitsStatement, statement_at}
use Rattle.f_statement_grammar.proofs.StatementLaws.{statement_sound, statement_again}
use Rattle.f_unit_grammar.specs.Units.{deeper}
use Rattle.f_unit_grammar.specs.Placing.{Broken, NoPlace, TooDeep, Open, step, and_on, run, at_file}
use Rattle.f_unit_grammar.specs.Rules.{Rule, NoForm, Misplaced, TooNested, Cut, cuts, HasForm, HaveForms, IsText, depth_of, by_place, formed, read_cut, and_read, read_cuts}
use Rattle.f_unit_grammar.proofs.Placed.{step_deep, file_placed}
use Rattle.f_unit_grammar.proofs.Begun.{not_ok, placed_is_file}

-- what is placed is shallow
shallow_of : (o : Open) (s : Statement) (p : Open) → step o s ≡ Ok p → deeper (depth_of o) 0 (spell_statement s) ≡ false
unfolding step
shallow_of [] s p e = absurd (not_ok NoPlace p e)
shallow_of (o ∷ rest) s p e = pick (deeper o.1 0 (spell_statement s)) refl
  where
    pick : (b : Bool) → deeper o.1 0 (spell_statement s) ≡ b → deeper o.1 0 (spell_statement s) ≡ false
    pick true h = absurd (not_ok TooDeep p (sym (step_deep o.0 o.1 rest s h) ∙ e))
    pick false h = h

cut_step : (o p : Open) (c : Cut) (s : Statement) → c.1 ≡ true → deeper (depth_of o) 0 c.0 ≡ false → statement_at 65 c.0 ≡ Some s → step o s ≡ Ok p → read_cut o c ≡ Ok p
unfolding read_cut
cut_step o p c s e1 e2 e3 e4 = rw (e2, e1, e3, e4) refl

cut_read : (o p : Open) (c : Cut) (s : Statement) → HasForm c s → step o s ≡ Ok p → read_cut o c ≡ Ok p
cut_read o p c s f e = cut_step o p c s f.0 (ap (deeper (depth_of o) 0) f.2 ∙ shallow_of o s p e) (ap (statement_at 65) f.2 ∙ statement_again 65 s f.1) e

cuts_step : (o p : Open) (c : Cut) (cs : List Cut) → read_cut o c ≡ Ok p → read_cuts o (c ∷ cs) ≡ read_cuts p cs
unfolding read_cuts
cuts_step o p c cs e = rw e refl

cuts_none : (o p : Open) → run o [] ≡ Ok p → read_cuts o [] ≡ Ok p
unfolding read_cuts run
cuts_none o p e = ap (λ (q : Open). Ok q) (is o p e)
  where
    is : (o p : Open) → let a : Result Open Broken = Ok o in let b : Result Open Broken = Ok p in a ≡ b → o ≡ p
    is o p e = cc

cuts_read : (cs : List Cut) (ss : List Statement) (o p : Open) → HaveForms cs ss → run o ss ≡ Ok p → read_cuts o cs ≡ Ok p
unfolding run
cuts_read [] [] o p f e = cuts_none o p e
cuts_read [] (s ∷ ss) o p f e = absurd f
cuts_read (c ∷ cs) [] o p f e = absurd f
cuts_read (c ∷ cs) (s ∷ ss) o p f e = pick (λ q g. cuts_read cs ss q p f.1 g) (step o s) refl e
  where
    pick : ((q : Open) → run q ss ≡ Ok p → read_cuts q cs ≡ Ok p) → (r : Result Open Broken) → step o s ≡ r → and_on r (λ q. run q ss) ≡ Ok p → read_cuts o (c ∷ cs) ≡ Ok p
    pick on (Ok q) i g = cuts_step o q c cs (cut_read o q c s f.0 i) ∙ on q g
    pick on (Err b) i g = absurd (not_ok b p g)

pub text_is_read : (ts : List Token) → IsText ts → read_cuts at_file (cuts ts) ≡ Ok at_file
text_is_read ts t = cuts_read (cuts ts) t.statements at_file at_file t.forms (file_placed t.statements t.file)

-- ---- the other way round

no_rule : (r : Rule) (cs : List Cut) (p : Open) → let a : Result Open (Rule × List Cut) = Err (r, cs) in let b : Result Open (Rule × List Cut) = Ok p in a ≡ b → ⊥
no_rule r cs p e = cc

not_read : (r : Rule) (p : Open) → let a : Result Open Rule = Err r in let b : Result Open Rule = Ok p in a ≡ b → ⊥
not_read r p e = cc

placed_is : (r : Result Open Broken) (p : Open) → by_place r ≡ Ok p → r ≡ Ok p
placed_is (Ok o) p e = ap (λ (q : Open). Ok q) (is o p e)
  where
    is : (o p : Open) → let a : Result Open Rule = Ok o in let b : Result Open Rule = Ok p in a ≡ b → o ≡ p
    is o p e = cc
placed_is (Err NoPlace) p e = absurd (not_read Misplaced p e)
placed_is (Err TooDeep) p e = absurd (not_read TooNested p e)

-- a statement that is read has a form and a place
abbrev pub IsRead : Open → Cut → Open → Type 0
IsRead o c p = (s : Statement) × HasForm c s × (step o s ≡ Ok p)

form_of : (o p : Open) (c : Cut) (b : Bool) (f : Option Statement) → c.1 ≡ b → IfSome f (λ s. (c.0 ≡ spell_statement s) × FitsStatement 65 s) → formed o b f ≡ Ok p → IsRead o c p
form_of o p c true (Some s) b i e = (s, (b, i.1, i.0), placed_is (step o s) p e)
form_of o p c true None b i e = absurd (not_read NoForm p e)
form_of o p c false f b i e = absurd (not_read NoForm p e)

pub cut_is : (o p : Open) (c : Cut) → read_cut o c ≡ Ok p → IsRead o c p
unfolding read_cut
cut_is o p c e = pick (deeper (depth_of o) 0 c.0) e
  where
    pick : (b : Bool) → cond b (Err TooNested) (formed o c.1 (statement_at 65 c.0)) ≡ Ok p → IsRead o c p
    pick true e = absurd (not_read TooNested p e)
    pick false e = form_of o p c c.1 (statement_at 65 c.0) refl (statement_sound 65 c.0) e

pub run_step : (o p q : Open) (s : Statement) (ss : List Statement) → step o s ≡ Ok q → run q ss ≡ Ok p → run o (s ∷ ss) ≡ Ok p
unfolding run
run_step o p q s ss e f = rw e f

run_ends : (o p : Open) → read_cuts o [] ≡ Ok p → run o [] ≡ Ok p
unfolding run read_cuts
run_ends o p e = ap (λ (q : Open). Ok q) (is o p e)
  where
    is : (o p : Open) → let a : Result Open (Rule × List Cut) = Ok o in let b : Result Open (Rule × List Cut) = Ok p in a ≡ b → o ≡ p
    is o p e = cc

cuts_are : (cs : List Cut) (o p : Open) → read_cuts o cs ≡ Ok p → (ss : List Statement) × HaveForms cs ss × (run o ss ≡ Ok p)
unfolding read_cuts
cuts_are [] o p e = ([], tt, run_ends o p e)
cuts_are (c ∷ cs) o p e = pick (λ q g. cuts_are cs q p g) (read_cut o c) refl e
  where
    pick : ((q : Open) → read_cuts q cs ≡ Ok p → (ss : List Statement) × HaveForms cs ss × (run q ss ≡ Ok p)) → (r : Result Open Rule) → read_cut o c ≡ r → and_read r (c ∷ cs) (λ q. read_cuts q cs) ≡ Ok p → (ss : List Statement) × HaveForms (c ∷ cs) ss × (run o ss ≡ Ok p)
    pick on (Ok q) i g =
        let x = cut_is o q c i in
        let y = on q g in
        (x.0 ∷ y.0, (x.1, y.1), run_step o p q x.0 y.0 x.2 y.2)
    pick on (Err r) i g = absurd (no_rule r (c ∷ cs) p g)

pub read_is_text : (ts : List Token) → read_cuts at_file (cuts ts) ≡ Ok at_file → IsText ts
read_is_text ts e =
    let x = cuts_are (cuts ts) at_file at_file e in
    record { statements = x.0; forms = x.1; file = placed_is_file x.0 x.2 }
