-- Reading the statements of an executable part: the statement that all the tokens are, or nothing.
use Rattle.std.specs.Prelude.{ℕ, zero, suc, List, [], ◌∷◌, length, Option, Some, None, Bool, true, false, if◌then◌else◌, codes}
use Rattle.std.specs.Str.{bytes_eq}
use Rattle.f_lex.specs.declared.token.Token.{Token}
use Rattle.f_grammar.specs.Grammar.{Expr, Maybe, Absent, Present}
use Rattle.f_grammar.specs.Reading.{◌>>=◌, choose, Read, open_at, closed_at, comma_at, colon_at, star_at, name_at, key_at, expr_at, upper_at}
use Rattle.f_grammar.specs.Actions.{Act}
use Rattle.f_grammar.specs.ActionReading.{arrow_at, target_at, value_at, by_word, act_at}
use Rattle.f_line_grammar.specs.Lines.{Span, One, From, UpTo, Spans, no_spans, span, Endless, Count, While, If, Do, Select, Line, Simple, Guarded, IfThen, ElseIf, Else, Loop, SelectCase, Cases, CaseDefault, SelectRank, Rank, RankStar, RankDefault, End}

-- nothing is left
unfoldable pub ends_line : Line → List Token → Option Line
ends_line l [] = Some l
ends_line l (t ∷ ts) = None

-- this word alone is left
unfoldable pub ends_with : List ℕ → Line → List Token → Option Line
ends_with word l ts = name_at ts >>= λ m. if bytes_eq m.0 word then ends_line l m.1 else None

-- an expression in parentheses
unfoldable pub test_at : ℕ → List Token → Read Expr
test_at n ts = open_at ts >>= λ r. expr_at n r >>= λ x. closed_at x.1 >>= λ rest. Some (x.0, rest)

-- a test and then THEN
unfoldable pub then_at : ℕ → (Expr → Line) → List Token → Option Line
then_at n make ts = test_at n ts >>= λ x. ends_with (codes "then") (make x.0) x.1

-- a test, and then nothing
unfoldable pub tested_line : ℕ → (Expr → Line) → List Token → Option Line
tested_line n make ts = test_at n ts >>= λ x. ends_line (make x.0) x.1

-- what stands behind the test of IF: an action statement, or THEN
unfoldable pub behind_test : ℕ → Expr → List Token → Option Line
behind_test n test ts = choose (act_at n ts) (ends_with (codes "then") (IfThen test) ts) (λ a. Some (Guarded test a))

unfoldable pub if_at : ℕ → List Token → Option Line
if_at n ts = test_at n ts >>= λ x. behind_test n x.0 x.1

unfoldable pub else_at : ℕ → List Token → Option Line
else_at n [] = Some Else
else_at n (t ∷ ts) = name_at (t ∷ ts) >>= λ m. if bytes_eq m.0 (codes "if") then then_at n (ElseIf false) m.1 else None

unfoldable pub step_at : ℕ → (Maybe → Line) → List Token → Option Line
step_at n make [] = Some (make Absent)
step_at n make (t ∷ ts) = comma_at (t ∷ ts) >>= λ r. expr_at n r >>= λ z. ends_line (make (Present z.0)) z.1

unfoldable pub count_at : ℕ → Bool → List ℕ → List Token → Option Line
count_at n comma v ts = expr_at n ts >>= λ x. comma_at x.1 >>= λ r. expr_at n r >>= λ y. step_at n (λ s. Loop (Count comma v x.0 y.0 s)) y.1

unfoldable pub while_at : ℕ → Bool → List Token → Option Line
while_at n comma ts = name_at ts >>= λ m. if bytes_eq m.0 (codes "while") then tested_line n (λ e. Loop (While comma e)) m.1 else None

unfoldable pub control_at : ℕ → Bool → List Token → Option Line
control_at n comma ts = choose (key_at ts) (while_at n comma ts) (λ k. count_at n comma k.0 k.1)

unfoldable pub do_at : ℕ → List Token → Option Line
do_at n [] = Some (Loop Endless)
do_at n (t ∷ ts) = choose (comma_at (t ∷ ts)) (control_at n false (t ∷ ts)) (control_at n true)

unfoldable pub selector_ends : Option (List ℕ) → List ℕ → List Token → Option Line
selector_ends renamed name ts = closed_at ts >>= λ r. ends_line (SelectRank renamed name) r

unfoldable pub select_rank_at : List Token → Option Line
select_rank_at ts = open_at ts >>= λ r. name_at r >>= λ a. choose (arrow_at a.1) (selector_ends None a.0 a.1) (λ q. name_at q >>= λ b. selector_ends (Some a.0) b.0 b.1)

unfoldable pub select_at : ℕ → List Token → Option Line
select_at n ts = name_at ts >>= λ m. if bytes_eq m.0 (codes "case") then tested_line n (SelectCase false) m.1 else if bytes_eq m.0 (codes "rank") then select_rank_at m.1 else None

unfoldable pub behind_lower : ℕ → Expr × List Token → Read Span
behind_lower n x = choose (colon_at x.1) (Some (One x.0, x.1)) (λ r. upper_at (expr_at n) r >>= λ u. Some (From x.0 u.0, u.1))

unfoldable pub span_at : ℕ → List Token → Read Span
span_at n ts = choose (colon_at ts) (expr_at n ts >>= behind_lower n) (λ r. expr_at n r >>= λ x. Some (UpTo x.0, x.1))

-- at most so many more, each behind a comma
unfoldable pub spans_at : ℕ → ℕ → List Token → Read Spans
spans_at n zero ts = Some (no_spans, ts)
spans_at n (suc k) ts = choose (comma_at ts) (Some (no_spans, ts)) (λ r. span_at n r >>= λ x. spans_at n k x.1 >>= λ y. Some (span x.0 y.0, y.1))

unfoldable pub cases_at : ℕ → List Token → Option Line
cases_at n ts = span_at n ts >>= λ x. spans_at n (length x.1) x.1 >>= λ y. closed_at y.1 >>= λ r. ends_line (Cases x.0 y.0) r

unfoldable pub case_at : ℕ → List Token → Option Line
case_at n ts = choose (open_at ts) (ends_with (codes "default") CaseDefault ts) (cases_at n)

unfoldable pub rank_value_at : ℕ → List Token → Option Line
rank_value_at n ts = choose (star_at ts) (expr_at n ts >>= λ x. closed_at x.1 >>= λ r. ends_line (Rank x.0) r) (λ s. closed_at s >>= λ r. ends_line RankStar r)

unfoldable pub rank_at : ℕ → List Token → Option Line
rank_at n ts = choose (open_at ts) (ends_with (codes "default") RankDefault ts) (rank_value_at n)

unfoldable pub end_at : List Token → Option Line
end_at ts = name_at ts >>= λ m. if bytes_eq m.0 (codes "if") then ends_line (End If false) m.1 else if bytes_eq m.0 (codes "do") then ends_line (End Do false) m.1
    else if bytes_eq m.0 (codes "select") then ends_line (End Select false) m.1 else None

-- a statement that begins, divides or ends a construct
unfoldable pub construct_at : ℕ → List ℕ → List Token → Option Line → Option Line
construct_at n w ts other = if bytes_eq w (codes "if") then if_at n ts else if bytes_eq w (codes "elseif") then then_at n (ElseIf true) ts else if bytes_eq w (codes "else") then else_at n ts
    else if bytes_eq w (codes "do") then do_at n ts else if bytes_eq w (codes "selectcase") then tested_line n (SelectCase true) ts else if bytes_eq w (codes "select") then select_at n ts
    else if bytes_eq w (codes "case") then case_at n ts else if bytes_eq w (codes "rank") then rank_at n ts else if bytes_eq w (codes "end") then end_at ts
    else if bytes_eq w (codes "endif") then ends_line (End If true) ts else if bytes_eq w (codes "enddo") then ends_line (End Do true) ts
    else if bytes_eq w (codes "endselect") then ends_line (End Select true) ts else other

abbrev pub simple : Option Act → Option Line
simple None = None
simple (Some a) = Some (Simple a)

unfoldable pub word_line : ℕ → List Token → Option Line
word_line n ts = name_at ts >>= λ m. construct_at n m.0 m.1 (simple (by_word n m.0 m.1))

-- where a reference and `=` or `=>` stand first, the statement is an assignment
unfoldable pub line_at : ℕ → List Token → Option Line
line_at n ts = choose (target_at n ts) (word_line n ts) (λ t. simple (value_at n t))
