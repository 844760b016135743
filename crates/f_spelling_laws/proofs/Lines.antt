-- The tokens of statements that begin, divide and end constructs are those that the grammar spells (ISO/IEC 1539-1:2018, 11.1).
use Rattle.std.proofs.Common.{◌≡◌, List, [], ◌∷◌, ◌++◌, Option, Some, None, Bool, true, false, ◌&&◌, map, refl, ap, ◌∙◌}
use Rattle.std.specs.Prelude.{codes}
use Rattle.jf_base.specs.declared.place.Place.{Place}
use Rattle.f_lex.specs.declared.token.Mark.TheVariants as mark
use Rattle.f_lex.specs.declared.token.Token.{Token}
use Rattle.f_lex.specs.declared.token.Token.TheVariants as token
use Rattle.f_tree.specs.declared.lexeme.Lexeme.{Lexeme}
use Rattle.f_tree.specs.declared.name.Name.{Name}
use Rattle.f_tree.specs.declared.expression.Expression.{Expression}
use Rattle.f_tree.specs.declared.declaration.Ending.{Ending}
use Rattle.f_tree.specs.declared.declaration.EndingForm.{EndingForm}
use Rattle.f_tree.specs.declared.declaration.EndingForm.TheVariants.{Bare, TwoWords, OneWord}
use Rattle.f_tree.specs.declared.statement.Action.{Action}
use Rattle.f_tree.specs.declared.statement.LoopControl.{LoopControl}
use Rattle.f_tree.specs.declared.statement.LoopControl.TheVariants as control
use Rattle.f_tree.specs.declared.statement.CaseRange.{CaseRange}
use Rattle.f_tree.specs.declared.statement.CaseRange.TheVariants as case_form
use Rattle.f_tree.specs.declared.statement.CaseChoice.{CaseChoice}
use Rattle.f_tree.specs.declared.statement.CaseChoice.TheVariants as choice
use Rattle.f_tree.specs.declared.statement.RankChoice.{RankChoice}
use Rattle.f_tree.specs.declared.statement.RankChoice.TheVariants as rank
use Rattle.f_tree.specs.Lexemes.{mark_of, placed_word, word_of, name_of, when, in_parentheses, behind_commas, if_there, statement_end}
use Rattle.f_tree.specs.Expressions.{expression}
use Rattle.f_tree.specs.Declarations.{ending}
use Rattle.f_tree.specs.Statements.{action, condition_of, then_line, else_if_words, select_words, behind_comma, loop_control, case_range, case_choice, rank_choice, rank_selector}
use Rattle.f_grammar.specs.Grammar.{Expr, put, spell, spell_maybe}
use Rattle.f_grammar.specs.Actions.{spell_act}
use Rattle.f_line_grammar.specs.Lines.{Span, One, From, UpTo, Spans, no_spans, span, spell_test, spell_span, spell_spans, spell_comma, spell_step, spell_control, construct_word, joined_word, Construct}
use Rattle.f_statement_grammar.specs.Statements.{spell_statement}
use Rattle.f_expr_read.specs.Views.{view, view_maybe}
use Rattle.f_action_read.specs.Actions.{view_action}
use Rattle.f_line_read.specs.Lines.{view_control, view_range, spans_of}
use Rattle.f_construct_parts.specs.Lines.{action_line, guarded_line, if_line, else_if_line, loop_line, select_case_line, case_line, select_rank_line, rank_line, end_line}
use Rattle.f_spelling_laws.specs.Told.{tokens_of, all, maybe_told, is_told, action_told, control_told, values_told, choice_told, rank_told, construct_end_told}
use Rattle.f_spelling_laws.proofs.Fronts.{first_of, second_of}
use Rattle.f_spelling_laws.proofs.Ahead.{Carries, carries, maybe_carries}
use Rattle.f_spelling_laws.proofs.Expressions.{expressions_spelled}
use Rattle.f_spelling_laws.proofs.Actions.{action_spelled, maybe_spelled}

-- a spelling in front of what has two parts
pub onto_parts : (f : List Token → List Token) → Carries f → (x y rest : List Token) → x ≡ y ++ rest → f x ≡ f y ++ rest
onto_parts f c x y rest e = ap f e ∙ c y rest

-- ---- conditions

pub test_spelled : (e : Expression) → is_told e ≡ true → (rest : List Lexeme) → tokens_of (condition_of e rest) ≡ spell_test (view e) (tokens_of rest)
test_spelled e sure rest = ap (put mark.Open) (expressions_spelled e sure (mark_of mark.Close rest))

test_carries : (e : Expr) → Carries (spell_test e)
test_carries e a b = ap (put mark.Open) (carries e (put mark.Close a) b)

-- ---- DO

comma_spelled : (b : Bool) (rest : List Lexeme) → tokens_of (when b (mark_of mark.Comma) rest) ≡ spell_comma b (tokens_of rest)
comma_spelled true rest = refl
comma_spelled false rest = refl

comma_carries : (b : Bool) → Carries (spell_comma b)
comma_carries true a b = refl
comma_carries false a b = refl

step_spelled : (e : Option Expression) → maybe_told e ≡ true → (rest : List Lexeme) → tokens_of (if_there behind_comma e rest) ≡ spell_step (view_maybe e) ++ tokens_of rest
step_spelled None sure rest = refl
step_spelled (Some e) sure rest = ap (put mark.Comma) (expressions_spelled e sure rest ∙ carries (view e) [] (tokens_of rest))

control_spelled : (c : LoopControl) → control_told c ≡ true → (rest : List Lexeme) → tokens_of (loop_control c rest) ≡ spell_control (view_control c) ++ tokens_of rest
control_spelled control.Endless sure rest = refl
control_spelled (control.Count comma v first last step) sure rest =
    let l : Bool = is_told last in
    let s : Bool = maybe_told step in
    let behind : List Lexeme = if_there behind_comma step rest in
    let steps : List Token = spell_step (view_maybe step) in
    let lasts : List Token = spell (view last) steps in
    let firsts : List Token = spell (view first) (put mark.Comma lasts) in
    comma_spelled comma (name_of v (mark_of mark.Assign (expression first (mark_of mark.Comma (expression last behind)))))
    ∙ onto_parts (spell_comma comma) (comma_carries comma) _ (token.Name v.bytes ∷ put mark.Assign firsts) (tokens_of rest)
    (ap (λ (ts : List Token). token.Name v.bytes ∷ put mark.Assign ts) (expressions_spelled first (first_of (is_told first) (l && s) sure) (mark_of mark.Comma (expression last behind))
    ∙ onto_parts (spell (view first)) (carries (view first)) _ (put mark.Comma lasts) (tokens_of rest)
    (ap (put mark.Comma) (expressions_spelled last (first_of l s (second_of (is_told first) (l && s) sure)) behind
    ∙ onto_parts (spell (view last)) (carries (view last)) _ steps (tokens_of rest) (step_spelled step (second_of l s (second_of (is_told first) (l && s) sure)) rest)))))
control_spelled (control.While comma e) sure rest =
    comma_spelled comma (word_of (codes "while") (in_parentheses (expression e) rest))
    ∙ onto_parts (spell_comma comma) (comma_carries comma) _ (token.Name (codes "while") ∷ spell_test (view e) []) (tokens_of rest)
    (ap (λ (ts : List Token). token.Name (codes "while") ∷ ts) (test_spelled e sure rest ∙ test_carries (view e) [] (tokens_of rest)))

-- ---- CASE

span_spelled : (r : CaseRange) → values_told r ≡ true → (rest : List Lexeme) → tokens_of (case_range r rest) ≡ spell_span (view_range r) (tokens_of rest)
span_spelled (case_form.Value e) sure rest = expressions_spelled e sure rest
span_spelled (case_form.From lower upper) sure rest =
    expressions_spelled lower (first_of (is_told lower) (maybe_told upper) sure) (mark_of mark.Colon (if_there expression upper rest))
    ∙ ap (λ (ts : List Token). spell (view lower) (put mark.Colon ts)) (maybe_spelled upper (second_of (is_told lower) (maybe_told upper) sure) rest)
span_spelled (case_form.UpTo p upper) sure rest = ap (put mark.Colon) (expressions_spelled upper sure rest)

spans_spelled : (rs : List CaseRange) → all (map values_told rs) ≡ true → (rest : List Lexeme) → tokens_of (behind_commas (map case_range rs) rest) ≡ spell_spans (spans_of (map view_range rs)) (tokens_of rest)
spans_spelled [] sure rest = refl
spans_spelled (r ∷ rs) sure rest =
    let a : Bool = all (map values_told rs) in
    ap (put mark.Comma) (span_spelled r (first_of (values_told r) a sure) (behind_commas (map case_range rs) rest)
    ∙ ap (spell_span (view_range r)) (spans_spelled rs (second_of (values_told r) a sure) rest))

span_carries : (s : Span) → Carries (spell_span s)
span_carries (One e) a b = carries e a b
span_carries (From lower upper) a b = ap (λ (ts : List Token). spell lower (put mark.Colon ts)) (maybe_carries upper a b) ∙ carries lower (put mark.Colon (spell_maybe upper a)) b
span_carries (UpTo upper) a b = ap (put mark.Colon) (carries upper a b)

spans_carry : (ss : Spans) → Carries (spell_spans ss)
spans_carry no_spans a b = refl
spans_carry (span s ss) a b = ap (put mark.Comma) (ap (spell_span s) (spans_carry ss a b) ∙ span_carries s (spell_spans ss a) b)

-- ---- single statements with their ends

pub action_line_spelled : (a : Action) → action_told a ≡ true → (rest : List Lexeme) → tokens_of (action a (statement_end rest)) ≡ spell_statement (action_line a) ++ token.End ∷ tokens_of rest
unfolding action_line
action_line_spelled a sure rest = action_spelled a sure (statement_end rest)

pub guarded_line_spelled : (p : Place) (e : Expression) (a : Action) → (is_told e && action_told a) ≡ true → (rest : List Lexeme) →
    tokens_of (placed_word (codes "if") p (condition_of e (action a (statement_end rest)))) ≡ spell_statement (guarded_line e a) ++ token.End ∷ tokens_of rest
unfolding guarded_line
guarded_line_spelled p e a sure rest = ap (λ (ts : List Token). token.Name (codes "if") ∷ ts) (test_spelled e (first_of (is_told e) (action_told a) sure) (action a (statement_end rest))
    ∙ onto_parts (spell_test (view e)) (test_carries (view e)) _ (spell_act (view_action a)) (token.End ∷ tokens_of rest) (action_spelled a (second_of (is_told e) (action_told a) sure) (statement_end rest)))

-- THEN behind a condition
then_spelled : (e : Expression) → is_told e ≡ true → (rest : List Lexeme) → tokens_of (condition_of e (then_line rest)) ≡ spell_test (view e) (token.Name (codes "then") ∷ []) ++ token.End ∷ tokens_of rest
then_spelled e sure rest = test_spelled e sure (then_line rest) ∙ test_carries (view e) (token.Name (codes "then") ∷ []) (token.End ∷ tokens_of rest)

pub if_line_spelled : (p : Place) (e : Expression) → is_told e ≡ true → (rest : List Lexeme) →
    tokens_of (placed_word (codes "if") p (condition_of e (then_line rest))) ≡ spell_statement (if_line e) ++ token.End ∷ tokens_of rest
unfolding if_line
if_line_spelled p e sure rest = ap (λ (ts : List Token). token.Name (codes "if") ∷ ts) (then_spelled e sure rest)

pub else_if_line_spelled : (p : Place) (w : Bool) (e : Expression) → is_told e ≡ true → (rest : List Lexeme) →
    tokens_of (else_if_words w p (condition_of e (then_line rest))) ≡ spell_statement (else_if_line w e) ++ token.End ∷ tokens_of rest
unfolding else_if_line
else_if_line_spelled p true e sure rest = ap (λ (ts : List Token). token.Name (codes "elseif") ∷ ts) (then_spelled e sure rest)
else_if_line_spelled p false e sure rest = ap (λ (ts : List Token). token.Name (codes "else") ∷ token.Name (codes "if") ∷ ts) (then_spelled e sure rest)

pub loop_line_spelled : (p : Place) (c : LoopControl) → control_told c ≡ true → (rest : List Lexeme) →
    tokens_of (placed_word (codes "do") p (loop_control c (statement_end rest))) ≡ spell_statement (loop_line c) ++ token.End ∷ tokens_of rest
unfolding loop_line
loop_line_spelled p c sure rest = ap (λ (ts : List Token). token.Name (codes "do") ∷ ts) (control_spelled c sure (statement_end rest))

pub select_line_spelled : (p : Place) (w : Bool) (e : Expression) → is_told e ≡ true → (rest : List Lexeme) →
    tokens_of (select_words w p (condition_of e (statement_end rest))) ≡ spell_statement (select_case_line w e) ++ token.End ∷ tokens_of rest
unfolding select_case_line
select_line_spelled p true e sure rest = ap (λ (ts : List Token). token.Name (codes "selectcase") ∷ ts) (test_spelled e sure (statement_end rest) ∙ test_carries (view e) [] (token.End ∷ tokens_of rest))
select_line_spelled p false e sure rest = ap (λ (ts : List Token). token.Name (codes "select") ∷ token.Name (codes "case") ∷ ts) (test_spelled e sure (statement_end rest) ∙ test_carries (view e) [] (token.End ∷ tokens_of rest))

pub case_line_spelled : (p : Place) (c : CaseChoice) → choice_told c ≡ true → (rest : List Lexeme) →
    tokens_of (placed_word (codes "case") p (case_choice c (statement_end rest))) ≡ spell_statement (case_line c) ++ token.End ∷ tokens_of rest
unfolding case_line
case_line_spelled p choice.Default sure rest = refl
case_line_spelled p (choice.Ranges []) sure rest = absurd (let no : false ≡ true = sure in cc)
case_line_spelled p (choice.Ranges (r ∷ rs)) sure rest =
    let a : Bool = all (map values_told rs) in
    let behind : List Lexeme = mark_of mark.Close (statement_end rest) in
    ap (λ (ts : List Token). token.Name (codes "case") ∷ put mark.Open ts) (span_spelled r (first_of (values_told r) a sure) (behind_commas (map case_range rs) behind)
    ∙ onto_parts (spell_span (view_range r)) (span_carries (view_range r)) _ (spell_spans (spans_of (map view_range rs)) (put mark.Close [])) (token.End ∷ tokens_of rest)
    (spans_spelled rs (second_of (values_told r) a sure) behind ∙ spans_carry (spans_of (map view_range rs)) (put mark.Close []) (token.End ∷ tokens_of rest)))

pub select_rank_line_spelled : (p : Place) (renamed : Option Name) (n : Name) (rest : List Lexeme) →
    tokens_of (placed_word (codes "select") p (word_of (codes "rank") (in_parentheses (rank_selector renamed n) (statement_end rest)))) ≡ spell_statement (select_rank_line renamed n) ++ token.End ∷ tokens_of rest
unfolding select_rank_line
select_rank_line_spelled p None n rest = refl
select_rank_line_spelled p (Some local) n rest = refl

pub rank_line_spelled : (p : Place) (c : RankChoice) → rank_told c ≡ true → (rest : List Lexeme) →
    tokens_of (placed_word (codes "rank") p (rank_choice c (statement_end rest))) ≡ spell_statement (rank_line c) ++ token.End ∷ tokens_of rest
unfolding rank_line
rank_line_spelled p rank.Default sure rest = refl
rank_line_spelled p (rank.Rank e) sure rest = ap (λ (ts : List Token). token.Name (codes "rank") ∷ ts) (test_spelled e sure (statement_end rest) ∙ test_carries (view e) [] (token.End ∷ tokens_of rest))
rank_line_spelled p (rank.AssumedSize q) sure rest = refl

pub end_line_spelled : (c : Construct) (e : Ending) → construct_end_told e ≡ true → (rest : List Lexeme) →
    tokens_of (ending (construct_word c) (joined_word c) e rest) ≡ spell_statement (end_line c e) ++ token.End ∷ tokens_of rest
unfolding end_line
end_line_spelled c e = of e.form e.name
  where
    with_form : EndingForm → Option Name → Ending
    with_form form name = record { place = e.place; form = form; name = name }

    of : (form : EndingForm) (name : Option Name) → construct_end_told (with_form form name) ≡ true → (rest : List Lexeme) →
        tokens_of (ending (construct_word c) (joined_word c) (with_form form name) rest) ≡ spell_statement (end_line c (with_form form name)) ++ token.End ∷ tokens_of rest
    of form (Some n) sure rest = absurd (let no : false ≡ true = sure in cc)
    of Bare None sure rest = refl
    of TwoWords None sure rest = refl
    of OneWord None sure rest = refl
