-- A statement that fits is read from its tokens.
use Rattle.std.proofs.Common.{◌≡◌, ℕ, zero, suc, Bool, true, false, List, [], ◌∷◌, length, Option, Some, None, refl, sym, ap, ◌∙◌}
use Rattle.std.specs.Prelude.{codes}
use Rattle.f_lex.specs.declared.token.Mark.TheVariants as mark
use Rattle.f_lex.specs.declared.token.Token.{Token}
use Rattle.f_lex.specs.declared.token.Token.TheVariants as token
use Rattle.f_grammar.specs.Grammar.{Expr, Maybe, Absent, Present, put, spell, spell_maybe, FitsMaybe, Within}
use Rattle.f_grammar.specs.Reading.{IfSome, ◌>>=◌, open_at, closed_at, comma_at, colon_at, star_at, name_at, key_at, expr_at, upper_at}
use Rattle.f_grammar.specs.Actions.{Act, spell_act, FitsAct}
use Rattle.std.proofs.Common.{◌+◌, ◌≤◌, arith}
use Rattle.f_grammar.specs.Grammar.{Refer, refer, Parts, no_parts, part, named, Group, NoGroup, group, Range, NoRange, range, spell_group, spell_range, spell_parts, FitsGroup, FitsRange, Stops}
use Rattle.f_grammar.specs.Reading.{percent_at, refer_at, behind_group, closing}
use Rattle.f_grammar.specs.Actions as act
use Rattle.f_grammar.specs.Actions.{NoStatus, Status, Refs}
use Rattle.f_grammar.specs.ActionReading.{assign_at, arrow_at, set_behind, target_at, set_by, value_at, by_word, keyword_at, act_at, ends_at}
use Rattle.f_grammar.proofs.Sound.{AsRefer, refer_sound, expr_sound}
use Rattle.f_grammar.proofs.Begins.{Starts, starts_within, grows}
use Rattle.f_grammar.proofs.Closed.{closed_expr, closed_args}
use Rattle.f_grammar.proofs.Steps.{same_word, plain_part, parts_stop, refer_step}
use Rattle.f_grammar.proofs.Again.{expr_again, upper_again, EndsBound}
use Rattle.f_grammar.proofs.Outside.{sets_at, sets_refer, sets_group, sets_maybe}
use Rattle.f_grammar.proofs.ActionAgain.{no_target, sets_within, sets_refs, sets_exprs, sets_status, sets_objects, target_assign, target_arrow, act_again}
use Rattle.f_line_grammar.specs.Lines.{Span, One, From, UpTo, Spans, no_spans, span, Control, Endless, Count, While, Construct, If, Do, Select, Line, Simple, Guarded, IfThen, ElseIf, Else, Loop, SelectCase, Cases, CaseDefault, SelectRank, Rank, RankStar, RankDefault, End, spell_test, spell_span, spell_spans, spell_comma, spell_step, spell_control, spell_selector, construct_word, joined_word, spell_line, FitsSpan, FitsSpans, FitsControl, FitsLine}
use Rattle.f_line_grammar.specs.LineReading.{ends_line, ends_with, test_at, then_at, tested_line, behind_test, if_at, else_at, step_at, count_at, while_at, control_at, do_at, selector_ends, select_rank_at, select_at, behind_lower, span_at, spans_at, cases_at, case_at, rank_value_at, rank_at, end_at, construct_at, simple, word_line, line_at}

abbrev front : List ℕ → List Token → List Token
front w ts = token.Name w ∷ ts

-- ---- parts

with_again : (word : List ℕ) (l : Line) → ends_with word l (front word []) ≡ Some l
unfolding ends_with name_at ends_line
with_again word l = rw (same_word word) refl

test_again : (n : ℕ) (e : Expr) (rest : List Token) → Within n e → test_at n (spell_test e rest) ≡ Some (e, rest)
unfolding test_at open_at closed_at
test_again n e rest w = rw (expr_again n e (put mark.Close rest) w (omega arith)) refl

then_step : (n : ℕ) (make : Expr → Line) (ts r : List Token) (e : Expr) (l : Line) → test_at n ts ≡ Some (e, r) → ends_with (codes "then") (make e) r ≡ Some l → then_at n make ts ≡ Some l
unfolding then_at
then_step n make ts r e l e1 e2 = rw e1 e2

then_again : (n : ℕ) (make : Expr → Line) (e : Expr) → Within n e → then_at n make (spell_test e (front (codes "then") [])) ≡ Some (make e)
then_again n make e w = then_step n make _ (front (codes "then") []) e (make e) (test_again n e _ w) (with_again (codes "then") (make e))

tested_again : (n : ℕ) (make : Expr → Line) (e : Expr) → Within n e → tested_line n make (spell_test e []) ≡ Some (make e)
unfolding tested_line ends_line
tested_again n make e w = rw (test_again n e [] w) refl

if_step : (n : ℕ) (ts r : List Token) (e : Expr) (l : Line) → test_at n ts ≡ Some (e, r) → behind_test n e r ≡ Some l → if_at n ts ≡ Some l
unfolding if_at
if_step n ts r e l e1 e2 = rw e1 e2

guarded_step : (n : ℕ) (test : Expr) (ts : List Token) (a : Act) → act_at n ts ≡ Some a → behind_test n test ts ≡ Some (Guarded test a)
unfolding behind_test
guarded_step n test ts a e = rw e refl

no_then : (n : ℕ) → act_at n (front (codes "then") []) ≡ None
unfolding act_at keyword_at name_at by_word sets_at
no_then n = rw (no_target n (front (codes "then") []) refl) refl

behind_then : (n : ℕ) (test : Expr) → behind_test n test (front (codes "then") []) ≡ Some (IfThen test)
unfolding behind_test
behind_then n test = rw (no_then n) (with_again (codes "then") (IfThen test))

else_again : (n : ℕ) (e : Expr) → Within n e → else_at n (front (codes "if") (spell_test e (front (codes "then") []))) ≡ Some (ElseIf false e)
unfolding else_at name_at
else_again n e w = then_again n (ElseIf false) e w

step_present : (n : ℕ) (make : Maybe → Line) (e : Expr) → Within n e → step_at n make (put mark.Comma (spell e [])) ≡ Some (make (Present e))
unfolding step_at comma_at ends_line
step_present n make e w = rw (expr_again n e [] w tt) refl

step_again : (n : ℕ) (make : Maybe → Line) (m : Maybe) → FitsMaybe n m → step_at n make (spell_step m) ≡ Some (make m)
unfolding step_at
step_again n make Absent f = refl
step_again zero make (Present e) f = absurd f
step_again (suc n) make (Present e) f = step_present (suc n) make e f

step_stops : (m : Maybe) → Stops 9 (spell_step m)
step_stops Absent = tt
step_stops (Present e) = omega arith

count_step : (n : ℕ) (comma : Bool) (v : List ℕ) (ts a b : List Token) (x y : Expr) (l : Line) → expr_at n ts ≡ Some (x, put mark.Comma a) → expr_at n a ≡ Some (y, b) → step_at n (λ s. Loop (Count comma v x y s)) b ≡ Some l → count_at n comma v ts ≡ Some l
unfolding count_at comma_at
count_step n comma v ts a b x y l e1 e2 e3 = rw (e1, e2) e3

count_again : (n : ℕ) (comma : Bool) (v : List ℕ) (x y : Expr) (s : Maybe) → Within n x → Within n y → FitsMaybe n s → count_at n comma v (spell x (put mark.Comma (spell y (spell_step s)))) ≡ Some (Loop (Count comma v x y s))
count_again n comma v x y s f g h = count_step n comma v _ _ (spell_step s) x y (Loop (Count comma v x y s)) (expr_again n x _ f (omega arith)) (expr_again n y (spell_step s) g (step_stops s)) (step_again n (λ z. Loop (Count comma v x y z)) s h)

while_again : (n : ℕ) (comma : Bool) (e : Expr) → Within n e → while_at n comma (front (codes "while") (spell_test e [])) ≡ Some (Loop (While comma e))
unfolding while_at name_at
while_again n comma e w = tested_again n (λ x. Loop (While comma x)) e w

do_again : (n : ℕ) (c : Control) → FitsControl n c → do_at n (spell_control c) ≡ Some (Loop c)
unfolding do_at comma_at control_at key_at
do_again n Endless f = refl
do_again n (Count false v x y s) f = count_again n false v x y s f.0 f.1 f.2
do_again n (Count true v x y s) f = count_again n true v x y s f.0 f.1 f.2
do_again n (While false e) f = while_again n false e f
do_again n (While true e) f = while_again n true e f

select_rank_again : (n : ℕ) (renamed : Option (List ℕ)) (name : List ℕ) → select_at n (front (codes "rank") (put mark.Open (spell_selector renamed name))) ≡ Some (SelectRank renamed name)
unfolding select_at name_at select_rank_at open_at arrow_at selector_ends closed_at ends_line
select_rank_again n None name = refl
select_rank_again n (Some local) name = refl

select_case_again : (n : ℕ) (e : Expr) → Within n e → select_at n (front (codes "case") (spell_test e [])) ≡ Some (SelectCase false e)
unfolding select_at name_at
select_case_again n e w = tested_again n (SelectCase false) e w

no_star_at : (ts : List Token) → Starts ts → star_at ts ≡ None
unfolding star_at
no_star_at (token.Mark mark.Star ∷ ts) s = absurd s
no_star_at _ s = refl

rank_again : (n : ℕ) (e : Expr) → Within n e → rank_at n (spell_test e []) ≡ Some (Rank e)
unfolding rank_at open_at rank_value_at closed_at ends_line
rank_again n e w = rw (no_star_at (spell e (put mark.Close [])) (starts_within n e _ w), expr_again n e (put mark.Close []) w (omega arith)) refl

-- ---- cases

no_colon_at : (ts : List Token) → Starts ts → colon_at ts ≡ None
unfolding colon_at
no_colon_at (token.Mark mark.Colon ∷ ts) s = absurd s
no_colon_at _ s = refl

-- behind a span stands a comma or `)`
abbrev EndsSpan : List Token → Type 0
EndsSpan (token.Mark mark.Comma ∷ ts) = Unit {0}
EndsSpan (token.Mark mark.Close ∷ ts) = Unit {0}
EndsSpan _ = ⊥

span_stops : (ts : List Token) → EndsSpan ts → Stops 9 ts
span_stops (token.Mark mark.Comma ∷ ts) e = omega arith
span_stops (token.Mark mark.Close ∷ ts) e = omega arith
span_stops _ e = absurd e

span_no_colon : (ts : List Token) → EndsSpan ts → colon_at ts ≡ None
unfolding colon_at
span_no_colon (token.Mark mark.Comma ∷ ts) e = refl
span_no_colon (token.Mark mark.Close ∷ ts) e = refl
span_no_colon _ e = absurd e

span_bound : (ts : List Token) → EndsSpan ts → EndsBound ts
span_bound (token.Mark mark.Comma ∷ ts) e = tt
span_bound (token.Mark mark.Close ∷ ts) e = tt
span_bound _ e = absurd e

spans_end : (ss : Spans) → EndsSpan (spell_spans ss (put mark.Close []))
spans_end no_spans = tt
spans_end (span s ss) = tt

one_step : (n : ℕ) (ts r : List Token) (e : Expr) → colon_at ts ≡ None → expr_at n ts ≡ Some (e, r) → colon_at r ≡ None → span_at n ts ≡ Some (One e, r)
unfolding span_at behind_lower
one_step n ts r e e1 e2 e3 = rw (e1, e2, e3) refl

colon_is : (r : List Token) → colon_at (put mark.Colon r) ≡ Some r
unfolding colon_at
colon_is r = refl

from_step : (n : ℕ) (ts r rest : List Token) (e : Expr) (u : Maybe) → colon_at ts ≡ None → expr_at n ts ≡ Some (e, put mark.Colon r) → upper_at (expr_at n) r ≡ Some (u, rest) → span_at n ts ≡ Some (From e u, rest)
unfolding span_at behind_lower
from_step n ts r rest e u e1 e2 e3 = rw (e1, e2, colon_is r, e3) refl

up_step : (n : ℕ) (ts rest : List Token) (e : Expr) → expr_at n ts ≡ Some (e, rest) → span_at n (put mark.Colon ts) ≡ Some (UpTo e, rest)
unfolding span_at colon_at
up_step n ts rest e e1 = rw e1 refl

span_again : (n : ℕ) (s : Span) (rest : List Token) → FitsSpan n s → EndsSpan rest → span_at n (spell_span s rest) ≡ Some (s, rest)
span_again n (One e) rest f d = one_step n _ rest e (no_colon_at (spell e rest) (starts_within n e rest f)) (expr_again n e rest f (span_stops rest d)) (span_no_colon rest d)
span_again n (From e u) rest f d = from_step n _ _ rest e u (no_colon_at _ (starts_within n e _ f.0)) (expr_again n e _ f.0 (omega arith)) (upper_again u n rest f.1 (span_bound rest d))
span_again n (UpTo e) rest f d = up_step n (spell e rest) rest e (expr_again n e rest f (span_stops rest d))

abbrev count_spans : Spans → ℕ
count_spans no_spans = 0
count_spans (span s ss) = count_spans ss + 1

grows_span : (s : Span) (rest : List Token) → length rest ≤ length (spell_span s rest)
grows_span (One e) rest = grows e rest
grows_span (From e Absent) rest = omega (arith, grows e (put mark.Colon rest))
grows_span (From e (Present u)) rest = omega (arith, grows e (put mark.Colon (spell u rest)), grows u rest)
grows_span (UpTo e) rest = omega (arith, grows e rest)

grows_spans : (ss : Spans) (rest : List Token) → count_spans ss + length rest ≤ length (spell_spans ss rest)
grows_spans no_spans rest = omega arith
grows_spans (span s ss) rest = omega (arith, grows_span s (spell_spans ss rest), grows_spans ss rest)

spans_step : (n m : ℕ) (ts r rest : List Token) (s : Span) (ss : Spans) → span_at n ts ≡ Some (s, r) → spans_at n m r ≡ Some (ss, rest) → spans_at n (suc m) (put mark.Comma ts) ≡ Some (span s ss, rest)
unfolding spans_at comma_at
spans_step n m ts r rest s ss e1 e2 = rw (e1, e2) refl

spans_none : (n m : ℕ) → spans_at n m (put mark.Close []) ≡ Some (no_spans, put mark.Close [])
unfolding spans_at comma_at
spans_none n zero = refl
spans_none n (suc m) = refl

spans_again : (ss : Spans) (n m : ℕ) → FitsSpans n ss → count_spans ss ≤ m → spans_at n m (spell_spans ss (put mark.Close [])) ≡ Some (ss, put mark.Close [])
spans_again no_spans n m f c = spans_none n m
spans_again (span s ss) n zero f c = absurd (omega (arith, c))
spans_again (span s ss) n (suc m) f c = spans_step n m _ (spell_spans ss (put mark.Close [])) _ s ss (span_again n s _ f.0 (spans_end ss)) (spans_again ss n m f.1 (omega (arith, c)))

cases_step : (n : ℕ) (ts r : List Token) (s : Span) (ss : Spans) → span_at n ts ≡ Some (s, r) → spans_at n (length r) r ≡ Some (ss, put mark.Close []) → case_at n (put mark.Open ts) ≡ Some (Cases s ss)
unfolding case_at open_at cases_at closed_at ends_line
cases_step n ts r s ss e1 e2 = rw (e1, e2) refl

cases_again : (n : ℕ) (s : Span) (ss : Spans) → FitsSpan n s → FitsSpans n ss → case_at n (put mark.Open (spell_span s (spell_spans ss (put mark.Close [])))) ≡ Some (Cases s ss)
cases_again n s ss f g =
    let tail = spell_spans ss (put mark.Close []) in
    cases_step n _ tail s ss (span_again n s tail f (spans_end ss)) (spans_again ss n (length tail) g (omega (arith, grows_spans ss (put mark.Close []))))

-- ---- what is no assignment

test_sets : (e : Expr) (n : ℕ) (rest : List Token) → Within n e → sets_at 0 (spell_test e rest) ≡ sets_at 0 rest
unfolding sets_at
test_sets e n rest w = sets_within e n 1 (put mark.Close rest) w

sets_span : (s : Span) (n d : ℕ) (rest : List Token) → FitsSpan n s → sets_at d (spell_span s rest) ≡ sets_at d rest
unfolding sets_at
sets_span (One e) n d rest f = sets_within e n d rest f
sets_span (From e u) n d rest f = sets_within e n d (put mark.Colon (spell_maybe u rest)) f.0 ∙ sets_maybe u n d rest f.1
sets_span (UpTo e) n d rest f = sets_within e n d rest f

sets_spans : (ss : Spans) (n d : ℕ) (rest : List Token) → FitsSpans n ss → sets_at d (spell_spans ss rest) ≡ sets_at d rest
unfolding sets_at
sets_spans no_spans n d rest f = refl
sets_spans (span s ss) n d rest f = sets_span s n d (spell_spans ss rest) f.0 ∙ sets_spans ss n d rest f.1

closed_within : (e : Expr) (n d : ℕ) (rest : List Token) → Within n e → closing d (spell e rest) ≡ closing d rest
closed_within e zero d rest w = absurd w
closed_within e (suc n) d rest w = closed_expr e n 9 d rest w (omega arith)

tail_is : (a b : List ℕ) (ts us : List Token) → front a ts ≡ front b us → ts ≡ us
tail_is a b ts us e = cc

not_open_percent : (ts us : List Token) → put mark.Open ts ≡ put mark.Percent us → ⊥
not_open_percent ts us e = cc

not_name : (a : List ℕ) (m : _) (ts us : List Token) → put m us ≡ front a ts → ⊥
not_name a m ts us e = cc

behind_is : (n : ℕ) (test : Expr) (rest : List Token) → Within n test → behind_group (spell_test test rest) ≡ rest
unfolding behind_group closing
behind_is n test rest w = closed_within test n zero (put mark.Close rest) w

none_open : (x : Refer) (ts : List Token) → set_behind (x, put mark.Open ts) ≡ None
unfolding set_behind assign_at arrow_at
none_open x ts = refl

none_name : (x : Refer) (name : List ℕ) (ts : List Token) → set_behind (x, front name ts) ≡ None
unfolding set_behind assign_at arrow_at
none_name x name ts = refl

-- what stands behind a name, where it begins with `(` and goes on behind its `)` with a name
parts_none : (n : ℕ) (x : Refer) (g : Group) (s : Range) (ps : Parts) (rest us : List Token) (name : List ℕ) (r : List Token) → FitsGroup n g → FitsRange n g s
    → put mark.Open us ≡ spell_group g (spell_range s (spell_parts ps rest)) → behind_group (put mark.Open us) ≡ front name r → set_behind (x, rest) ≡ None
unfolding behind_group closing
parts_none n x NoGroup NoRange no_parts rest us name r f h e b = ap (λ (ts : List Token). set_behind (x, ts)) (sym e) ∙ none_open x us
parts_none n x NoGroup NoRange (part p ps) rest us name r f h e b = absurd (not_open_percent us _ e)
parts_none n x NoGroup (range lower upper) ps rest us name r f h e b = absurd h.0
parts_none n x (group args) NoRange no_parts rest us name r f h e b =
    let is : rest ≡ front name r = sym (closed_args args n true zero (put mark.Close rest) f) ∙ sym (ap behind_group e) ∙ b in
    ap (λ (ts : List Token). set_behind (x, ts)) is ∙ none_name x name r
parts_none n x (group args) NoRange (part p ps) rest us name r f h e b =
    absurd (not_name name mark.Percent r _ (sym (closed_args args n true zero (put mark.Close (spell_parts (part p ps) rest)) f) ∙ sym (ap behind_group e) ∙ b))
parts_none n x (group args) (range lower upper) ps rest us name r f h e b =
    absurd (not_name name mark.Open r _ (sym (closed_args args n true zero (put mark.Close (spell_range (range lower upper) (spell_parts ps rest))) f) ∙ sym (ap behind_group e) ∙ b))

-- behind `word (test) name` no assignment goes on
not_if : (n : ℕ) (w : List ℕ) (test : Expr) (name : List ℕ) (r : List Token) → Within n test → target_at n (front w (spell_test test (front name r))) ≡ None
unfolding target_at
not_if n w test name r wt = pick (refer_at (expr_at n) (front w (spell_test test (front name r)))) (refer_sound (expr_at n) n (expr_sound n) (front w (spell_test test (front name r))))
  where
    pick : (o : Option (Refer × List Token)) → IfSome o (AsRefer n (front w (spell_test test (front name r)))) → (o >>= set_behind) ≡ None
    pick None p = refl
    pick (Some (refer (named m g s) ps, rest)) p = parts_none n (refer (named m g s) ps) g s ps rest _ name r p.1.0.0 p.1.0.1 (tail_is w m _ _ p.0) (behind_is n test (front name r) wt)

-- ---- statements

keyword_line : (n : ℕ) (w : List ℕ) (ts : List Token) (l : Line) → target_at n (front w ts) ≡ None → construct_at n w ts (simple (by_word n w ts)) ≡ Some l → line_at n (front w ts) ≡ Some l
unfolding line_at word_line name_at
keyword_line n w ts l e1 e2 = rw e1 e2

plain_line : (n : ℕ) (w : List ℕ) (ts : List Token) (l : Line) → sets_at 0 ts ≡ false → construct_at n w ts (simple (by_word n w ts)) ≡ Some l → line_at n (front w ts) ≡ Some l
unfolding sets_at
plain_line n w ts l e1 e2 = keyword_line n w ts l (no_target n (front w ts) e1) e2

act_is_word : (n : ℕ) (w : List ℕ) (ts : List Token) → target_at n (front w ts) ≡ None → act_at n (front w ts) ≡ by_word n w ts
unfolding act_at keyword_at name_at
act_is_word n w ts e = rw e refl

-- a keyword that begins an action statement and no construct
act_line : (n : ℕ) (w : List ℕ) (ts : List Token) (a : Act) → sets_at 0 ts ≡ false → act_at n (front w ts) ≡ Some a → construct_at n w ts (simple (by_word n w ts)) ≡ simple (by_word n w ts) → line_at n (front w ts) ≡ Some (Simple a)
unfolding sets_at
act_line n w ts a e1 e2 e3 =
    let none = no_target n (front w ts) e1 in
    keyword_line n w ts (Simple a) none (e3 ∙ ap simple (sym (act_is_word n w ts none) ∙ e2))

assign_line : (n : ℕ) (ts r : List Token) (target : Refer) (b : Bool) (value : Expr) → target_at n ts ≡ Some (target, b, r) → expr_at n r ≡ Some (value, []) → line_at n ts ≡ Some (Simple (set_by b target value))
unfolding line_at value_at ends_at
assign_line n ts r target b value e1 e2 = rw (e1, e2) refl

simple_again : (n : ℕ) (a : Act) → FitsAct n a → line_at n (spell_act a) ≡ Some (Simple a)
unfolding construct_at sets_at
simple_again n (act.Assign target value) f = assign_line n _ _ target false value (target_assign n target (spell value []) f.0) (expr_again n value [] f.1 tt)
simple_again n (act.Associate target value) f = assign_line n _ _ target true value (target_arrow n target (spell value []) f.0) (expr_again n value [] f.1 tt)
simple_again n (act.Call name NoGroup) f = act_line n (codes "call") _ (act.Call name NoGroup) refl (act_again n (act.Call name NoGroup) f) refl
simple_again n (act.Call name (group args)) f = act_line n (codes "call") _ (act.Call name (group args)) (sets_group (group args) n 0 [] f) (act_again n (act.Call name (group args)) f) refl
simple_again n act.Exit f = act_line n (codes "exit") [] act.Exit refl (act_again n act.Exit f) refl
simple_again n act.Cycle f = act_line n (codes "cycle") [] act.Cycle refl (act_again n act.Cycle f) refl
simple_again n act.Return f = act_line n (codes "return") [] act.Return refl (act_again n act.Return f) refl
simple_again n (act.Stop code) f = act_line n (codes "stop") _ (act.Stop code) (sets_maybe code n 0 [] f) (act_again n (act.Stop code) f) refl
simple_again n (act.ErrorStop code) f = act_line n (codes "error") _ (act.ErrorStop code) (sets_maybe code n 0 [] f) (act_again n (act.ErrorStop code) f) refl
simple_again n (act.Allocate r rs s) f = act_line n (codes "allocate") _ (act.Allocate r rs s) (sets_objects r rs s n f.0 f.1 f.2) (act_again n (act.Allocate r rs s) f) refl
simple_again n (act.Deallocate r rs s) f = act_line n (codes "deallocate") _ (act.Deallocate r rs s) (sets_objects r rs s n f.0 f.1 f.2) (act_again n (act.Deallocate r rs s) f) refl
simple_again n (act.Nullify r rs) f = act_line n (codes "nullify") _ (act.Nullify r rs) (sets_objects r rs NoStatus n f.0 f.1 tt) (act_again n (act.Nullify r rs) f) refl
simple_again n (act.Print es) f = act_line n (codes "print") _ (act.Print es) (sets_exprs es n 0 [] f) (act_again n (act.Print es) f) refl
simple_again n (act.Read r rs) f = act_line n (codes "read") _ (act.Read r rs) (sets_refer r n 0 _ f.0 ∙ sets_refs rs n 0 [] f.1) (act_again n (act.Read r rs) f) refl
simple_again n (act.ReadUnit s r rs) f = act_line n (codes "read") _ (act.ReadUnit s r rs) (sets_status (codes "iostat") s n 0 _ f.0 ∙ sets_refer r n 0 _ f.1 ∙ sets_refs rs n 0 [] f.2) (act_again n (act.ReadUnit s r rs) f) refl

-- behind a test stands a name, so no assignment goes on there
guarded_none : (n : ℕ) (test : Expr) (a : Act) → Within n test → target_at n (front (codes "if") (spell_test test (spell_act a))) ≡ None
guarded_none n test (act.Assign (refer (named m g s) ps) value) w = not_if n (codes "if") test m _ w
guarded_none n test (act.Associate (refer (named m g s) ps) value) w = not_if n (codes "if") test m _ w
guarded_none n test (act.Call name arguments) w = not_if n (codes "if") test (codes "call") _ w
guarded_none n test act.Exit w = not_if n (codes "if") test (codes "exit") _ w
guarded_none n test act.Cycle w = not_if n (codes "if") test (codes "cycle") _ w
guarded_none n test act.Return w = not_if n (codes "if") test (codes "return") _ w
guarded_none n test (act.Stop code) w = not_if n (codes "if") test (codes "stop") _ w
guarded_none n test (act.ErrorStop code) w = not_if n (codes "if") test (codes "error") _ w
guarded_none n test (act.Allocate r rs s) w = not_if n (codes "if") test (codes "allocate") _ w
guarded_none n test (act.Deallocate r rs s) w = not_if n (codes "if") test (codes "deallocate") _ w
guarded_none n test (act.Nullify r rs) w = not_if n (codes "if") test (codes "nullify") _ w
guarded_none n test (act.Print es) w = not_if n (codes "if") test (codes "print") _ w
guarded_none n test (act.Read r rs) w = not_if n (codes "if") test (codes "read") _ w
guarded_none n test (act.ReadUnit s r rs) w = not_if n (codes "if") test (codes "read") _ w

word_plain : (n : ℕ) (w : List ℕ) (ts : List Token) → open_at ts ≡ None → percent_at ts ≡ None → refer_at (expr_at n) (front w ts) ≡ Some (refer (named w NoGroup NoRange) no_parts, ts)
word_plain n w ts e1 e2 = refer_step (expr_at n) _ ts ts (named w NoGroup NoRange) no_parts (plain_part (expr_at n) w ts e1) (parts_stop (expr_at n) (length ts) ts e2)

do_none : (n : ℕ) (comma : Bool) (v : List ℕ) (ts : List Token) → target_at n (front (codes "do") (spell_comma comma (front v ts))) ≡ None
unfolding target_at set_behind assign_at arrow_at open_at percent_at
do_none n true v ts = rw (word_plain n (codes "do") (put mark.Comma (front v ts)) refl refl) refl
do_none n false v ts = rw (word_plain n (codes "do") (front v ts) refl refl) refl

while_sets : (comma : Bool) (e : Expr) (n : ℕ) → Within n e → sets_at 0 (spell_comma comma (front (codes "while") (spell_test e []))) ≡ false
unfolding sets_at
while_sets true e n w = test_sets e n [] w
while_sets false e n w = test_sets e n [] w

loop_again : (n : ℕ) (c : Control) → FitsControl n c → line_at n (front (codes "do") (spell_control c)) ≡ Some (Loop c)
unfolding construct_at sets_at
loop_again n Endless f = plain_line n (codes "do") [] (Loop Endless) refl (do_again n Endless f)
loop_again n (Count comma v x y s) f = keyword_line n (codes "do") _ (Loop (Count comma v x y s)) (do_none n comma v _) (do_again n (Count comma v x y s) f)
loop_again n (While comma e) f = plain_line n (codes "do") _ (Loop (While comma e)) (while_sets comma e n f) (do_again n (While comma e) f)

selector_sets : (renamed : Option (List ℕ)) (name : List ℕ) → sets_at 1 (spell_selector renamed name) ≡ false
unfolding sets_at
selector_sets None name = refl
selector_sets (Some local) name = refl

default_case : (n : ℕ) → case_at n (front (codes "default") []) ≡ Some CaseDefault
unfolding case_at open_at
default_case n = with_again (codes "default") CaseDefault

default_rank : (n : ℕ) → rank_at n (front (codes "default") []) ≡ Some RankDefault
unfolding rank_at open_at
default_rank n = with_again (codes "default") RankDefault

star_rank : (n : ℕ) → rank_at n (put mark.Open (put mark.Star (put mark.Close []))) ≡ Some RankStar
unfolding rank_at open_at rank_value_at star_at closed_at ends_line
star_rank n = refl

else_none : (n : ℕ) → else_at n [] ≡ Some Else
unfolding else_at
else_none n = refl

end_again : (c : Construct) → end_at (front (construct_word c) []) ≡ Some (End c false)
unfolding end_at name_at ends_line
end_again If = refl
end_again Do = refl
end_again Select = refl

ends_none : (l : Line) → ends_line l [] ≡ Some l
unfolding ends_line
ends_none l = refl

joined_again : (n : ℕ) (c : Construct) → line_at n (front (joined_word c) []) ≡ Some (End c true)
unfolding construct_at sets_at
joined_again n If = plain_line n (codes "endif") [] (End If true) refl (ends_none (End If true))
joined_again n Do = plain_line n (codes "enddo") [] (End Do true) refl (ends_none (End Do true))
joined_again n Select = plain_line n (codes "endselect") [] (End Select true) refl (ends_none (End Select true))

pub line_again : (n : ℕ) (l : Line) → FitsLine n l → line_at n (spell_line l) ≡ Some l
unfolding construct_at sets_at
line_again n (Simple a) f = simple_again n a f
line_again n (Guarded test a) f = keyword_line n (codes "if") _ (Guarded test a) (guarded_none n test a f.0) (if_step n _ (spell_act a) test (Guarded test a) (test_again n test (spell_act a) f.0) (guarded_step n test (spell_act a) a (act_again n a f.1)))
line_again n (IfThen test) f = plain_line n (codes "if") _ (IfThen test) (test_sets test n _ f) (if_step n _ (front (codes "then") []) test (IfThen test) (test_again n test _ f) (behind_then n test))
line_again n (ElseIf true test) f = plain_line n (codes "elseif") _ (ElseIf true test) (test_sets test n _ f) (then_again n (ElseIf true) test f)
line_again n (ElseIf false test) f = plain_line n (codes "else") _ (ElseIf false test) (test_sets test n _ f) (else_again n test f)
line_again n Else f = plain_line n (codes "else") [] Else refl (else_none n)
line_again n (Loop control) f = loop_again n control f
line_again n (SelectCase true e) f = plain_line n (codes "selectcase") _ (SelectCase true e) (test_sets e n [] f) (tested_again n (SelectCase true) e f)
line_again n (SelectCase false e) f = plain_line n (codes "select") _ (SelectCase false e) (test_sets e n [] f) (select_case_again n e f)
line_again n (Cases s ss) f = plain_line n (codes "case") _ (Cases s ss) (sets_span s n 1 _ f.0 ∙ sets_spans ss n 1 (put mark.Close []) f.1) (cases_again n s ss f.0 f.1)
line_again n CaseDefault f = plain_line n (codes "case") _ CaseDefault refl (default_case n)
line_again n (SelectRank renamed name) f = plain_line n (codes "select") _ (SelectRank renamed name) (selector_sets renamed name) (select_rank_again n renamed name)
line_again n (Rank e) f = plain_line n (codes "rank") _ (Rank e) (test_sets e n [] f) (rank_again n e f)
line_again n RankStar f = plain_line n (codes "rank") _ RankStar refl (star_rank n)
line_again n RankDefault f = plain_line n (codes "rank") _ RankDefault refl (default_rank n)
line_again n (End c true) f = joined_again n c
line_again n (End If false) f = plain_line n (codes "end") _ (End If false) refl (end_again If)
line_again n (End Do false) f = plain_line n (codes "end") _ (End Do false) refl (end_again Do)
line_again n (End Select false) f = plain_line n (codes "end") _ (End Select false) refl (end_again Select)

line_is : (a b : Line) → let d : Option Line = Some a in let e : Option Line = Some b in d ≡ e → a ≡ b
line_is a b e = cc

pub one_spelled : (n : ℕ) (a b : Line) → FitsLine n a → FitsLine n b → spell_line a ≡ spell_line b → a ≡ b
one_spelled n a b f g e = line_is a b (sym (line_again n a f) ∙ ap (line_at n) e ∙ line_again n b g)
