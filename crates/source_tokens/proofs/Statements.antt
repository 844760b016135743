-- What reading a Fortran text's statements gives, and that a file of the grammar is broken nowhere.
use Rattle.std.proofs.Common.{◌≡◌, List, [], ◌∷◌, ◌++◌, map, Option, Some, Result, Ok, Err, refl, sym, ap, ◌∙◌, subst, lit≤}
use Rattle.std.proofs.lemmas.List.{map-append}
use Rattle.jf_base.specs.Tags.{IsTag}
use Rattle.jf_base.specs.declared.place.Place.{Place}
use Rattle.jf_base.specs.declared.tag.Tag.{Tag}
use Rattle.f_lex.specs.declared.token.Spanned.{Spanned}
use Rattle.f_expr_read.specs.Views.{tokens_of}
use Rattle.f_statement_grammar.specs.Statements.{Statement, statement_at}
use Rattle.f_statement_grammar.proofs.StatementLaws.{statement_again}
use Rattle.f_unit_grammar.specs.Units.{IsFile}
use Rattle.f_unit_grammar.specs.Placing.{Open, at_file}
use Rattle.f_unit_grammar.specs.Rules.{Rule, NoForm, Misplaced, TooNested, Cut, cuts, HasForm, HaveForms, IsText, read_cut, read_cuts, Breaks, FirstBroken}
use Rattle.f_unit_grammar.proofs.Texts.{text_is_read}
use Rattle.f_statement_cut.specs.Pieces.{pieces, cut_of}
use Rattle.f_statement_cut.proofs.CutPieces.{cut_pieces}
use Rattle.f_file_read.specs.Reading.{Stop, number_of, read_file}
use Rattle.f_file_read.specs.BrokenAt.{StaysInside, EndsInside, BrokenAt, breaks, unended}
use Rattle.f_file_read.proofs.Inside.{cuts_step, cuts_stop, cuts_end, cuts_append, read_is}
use Rattle.f_file_read.proofs.Whole.{file_read, file_is_read}
use Rattle.source_tokens.specs.Sources.{AreStatements}

abbrev pub text_of : (ts : List Spanned) (ss : List Statement) → AreStatements ts ss → IsText (tokens_of ts)
text_of ts ss a = record { statements = ss; forms = a.forms; file = a.is_file }

-- ---- tokens have one list of statements

ok_is : (a b : List Statement) → let x : Result (List Statement) Stop = Ok a in let y : Result (List Statement) Stop = Ok b in x ≡ y → a ≡ b
ok_is a b e = cc

pub one_statements : (ts : List Spanned) (ss qs : List Statement) → AreStatements ts ss → AreStatements ts qs → ss ≡ qs
one_statements ts ss qs p q = ok_is ss qs (sym (file_is_read ts (text_of ts ss p)) ∙ file_is_read ts (text_of ts qs q))

-- ---- a file is broken nowhere

-- statements are those of the first cuts, of one, and of those behind
data Split (before : List Cut) (c : Cut) (all : List Statement) : Type 0 where
  split : (xs : List Statement) (s : Statement) (more : List Statement) → HaveForms before xs → HasForm c s → all ≡ xs ++ s ∷ more → Split before c all

split_at : (before : List Cut) (c : Cut) (behind : List Cut) (all : List Statement) → HaveForms (before ++ c ∷ behind) all → Split before c all
split_at [] c behind [] f = absurd f
split_at [] c behind (s ∷ ss) f = split [] s ss tt f.0 refl
split_at (b ∷ before) c behind [] f = absurd f
split_at (b ∷ before) c behind (s ∷ ss) f = on (split_at before c behind ss f.1)
  where
    on : Split before c ss → Split (b ∷ before) c (s ∷ ss)
    on (split xs x more g h i) = split (s ∷ xs) x more (f.0, g) h (ap (λ (l : List Statement). s ∷ l) i)

form_is : (c : Cut) (s : Statement) → HasForm c s → statement_at 65 c.0 ≡ Some s
form_is c s f = ap (statement_at 65) f.2 ∙ statement_again 65 s f.1

some_is : (s q : Statement) → let a : Option Statement = Some s in let b : Option Statement = Some q in a ≡ b → s ≡ q
some_is s q e = cc

one_forms : (cs : List Cut) (ss qs : List Statement) → HaveForms cs ss → HaveForms cs qs → ss ≡ qs
one_forms [] [] [] f g = refl
one_forms [] [] (q ∷ qs) f g = absurd g
one_forms [] (s ∷ ss) qs f g = absurd f
one_forms (c ∷ cs) [] qs f g = absurd f
one_forms (c ∷ cs) (s ∷ ss) [] f g = absurd g
one_forms (c ∷ cs) (s ∷ ss) (q ∷ qs) f g =
    let one : s ≡ q = some_is s q (sym (form_is c s f.0) ∙ form_is c q g.0) in
    let rest : ss ≡ qs = one_forms cs ss qs f.1 g.1 in
    λ i. one i ∷ rest i

-- no file goes on with a statement that breaks a rule
module _ (before : List Statement) (c : Cut) (s : Statement) (more : List Statement) (has_form : HasForm c s) (file : IsFile (before ++ s ∷ more)) where
  none_breaks : (r : Rule) → Breaks before c r → ⊥
  none_breaks NoForm b = b s has_form
  none_breaks Misplaced b = b.1 s has_form more file
  none_breaks TooNested b = b s has_form more file

rule_or_read : (r : Rule) (cs : List Cut) (o : Open) → let a : Result Open (Rule × List Cut) = Err (r, cs) in let b : Result Open (Rule × List Cut) = Ok o in a ≡ b → ⊥
rule_or_read r cs o e = cc

-- where more than the file stays open, more is open at the end
never_ends : (cs : List Cut) (o : Open) → StaysInside o cs → read_cuts o cs ≡ Ok at_file → ⊥
never_ends [] o stays e = stays (read_is o at_file (sym (cuts_end o) ∙ e))
never_ends (c ∷ cs) o stays e = on (λ q i. never_ends cs q (stays.1 q i) (sym (cuts_step o q c cs i) ∙ e)) (read_cut o c) refl
  where
    on : ((q : Open) → read_cut o c ≡ Ok q → ⊥) → (r : Result Open Rule) → read_cut o c ≡ r → ⊥
    on next (Ok q) i = next q i
    on next (Err r) i = rule_or_read r (c ∷ cs) at_file (sym (cuts_stop o r c cs i) ∙ e)

module _ (ts : List Spanned) (ss : List Statement) (are : AreStatements ts ss) where
  no_first : (r : Rule) (left : List Cut) → FirstBroken (cuts (tokens_of ts)) r left → ⊥
  no_first r left f = on (split_at f.before f.broken f.behind ss (subst (λ (cs : List Cut). HaveForms cs ss) f.parts are.forms))
    where
      on : Split f.before f.broken ss → ⊥
      on (split xs s more forms has_form all) =
          let same : xs ≡ f.statements = one_forms f.before xs f.statements forms f.forms in
          let whole : ss ≡ f.statements ++ s ∷ more = all ∙ ap (λ (l : List Statement). l ++ s ∷ more) same in
          none_breaks f.statements f.broken s more has_form (subst IsFile whole are.is_file) r f.breaks

  read_to_end : read_cuts at_file (map cut_of (pieces ts)) ≡ Ok at_file
  read_to_end = sym (ap (read_cuts at_file) (cut_pieces ts)) ∙ text_is_read (tokens_of ts) (text_of ts ss are)

  no_open : (place : Place) → EndsInside ts place → ⊥
  no_open place e =
      never_ends (map cut_of e.behind) e.inside e.stays
      (sym (cuts_step at_file e.inside (cut_of e.beginning) (map cut_of e.behind) e.begun)
      ∙ sym (cuts_append (map cut_of e.before) (map cut_of (e.beginning ∷ e.behind)) at_file at_file e.placed)
      ∙ sym (ap (read_cuts at_file) (ap (map cut_of) e.parts ∙ map-append cut_of e.before (e.beginning ∷ e.behind)))
      ∙ read_to_end)

  -- tokens that are the statements of a file are broken nowhere
  pub nowhere_broken : (place : Place) (tag : Tag) → BrokenAt ts place tag → ⊥
  nowhere_broken place tag (breaks r is b) = no_first r _ b.first
  nowhere_broken place tag (unended is e) = no_open place e

-- ---- what reading answers

statement_tag : (r : Rule) → IsTag (number_of r)
statement_tag NoForm = record { first_group = lit≤ tt; last_group = lit≤ tt; first_rule = lit≤ tt; last_rule = lit≤ tt }
statement_tag Misplaced = record { first_group = lit≤ tt; last_group = lit≤ tt; first_rule = lit≤ tt; last_rule = lit≤ tt }
statement_tag TooNested = record { first_group = lit≤ tt; last_group = lit≤ tt; first_rule = lit≤ tt; last_rule = lit≤ tt }

-- the tag is that of a rule of statements
pub broken_tag : (ts : List Spanned) (place : Place) (tag : Tag) → BrokenAt ts place tag → IsTag tag.0
broken_tag ts place tag (breaks r is b) = subst (λ (t : Tag). IsTag t.0) (sym is) (statement_tag r)
broken_tag ts place tag (unended is e) = subst (λ (t : Tag). IsTag t.0) (sym is) (statement_tag Misplaced)

pub of_statements : (ts : List Spanned) (ss : List Statement) → read_file ts ≡ Ok ss → AreStatements ts ss
of_statements ts ss e = let r = file_read ts ss e in record { forms = r.0; is_file = r.1 }
