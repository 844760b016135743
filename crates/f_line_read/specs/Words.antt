-- CASE in parts, and the statements that a word begins, in three groups, each going on to the next. The word stands before the tokens.
use Rattle.std.specs.Prelude.{ℕ, List, length, Option, true, if◌then◌else◌, codes}
use Rattle.std.specs.Str.{bytes_eq}
use Rattle.f_lex.specs.declared.token.Token.{Token}
use Rattle.f_grammar.specs.Reading.{◌>>=◌, choose, closed_at, name_at}
use Rattle.f_grammar.specs.ActionReading.{target_at, value_at, by_word}
use Rattle.f_line_grammar.specs.Lines.{Span, Line, If, Do, Select, ElseIf, SelectCase, Cases, End}
use Rattle.f_line_grammar.specs.LineReading.{ends_line, spans_at, then_at, tested_line, if_at, else_at, do_at, select_at, case_at, rank_at, end_at, simple}

-- the end of CASE, and what is read of it behind its first range
unfoldable pub cases_end : Line → List Token → Option Line
cases_end l ts = closed_at ts >>= λ r. ends_line l r

unfoldable pub cases_behind : ℕ → Span → List Token → Option Line
cases_behind n s ts = spans_at n (length ts) ts >>= λ y. cases_end (Cases s y.0) y.1

-- the end of a construct, or an action statement
unfoldable pub end_by_word : ℕ → List ℕ → List Token → Option Line
end_by_word n w ts = if bytes_eq w (codes "end") then end_at ts
    else if bytes_eq w (codes "endif") then ends_line (End If true) ts else if bytes_eq w (codes "enddo") then ends_line (End Do true) ts
    else if bytes_eq w (codes "endselect") then ends_line (End Select true) ts else simple (by_word n w ts)

-- SELECT and the blocks in it
unfoldable pub select_by_word : ℕ → List ℕ → List Token → Option Line
select_by_word n w ts = if bytes_eq w (codes "selectcase") then tested_line n (SelectCase true) ts else if bytes_eq w (codes "select") then select_at n ts
    else if bytes_eq w (codes "case") then case_at n ts else if bytes_eq w (codes "rank") then rank_at n ts else end_by_word n w ts

-- IF and the blocks in it, and DO
unfoldable pub by_first_word : ℕ → List ℕ → List Token → Option Line
by_first_word n w ts = if bytes_eq w (codes "if") then if_at n ts else if bytes_eq w (codes "elseif") then then_at n (ElseIf true) ts
    else if bytes_eq w (codes "else") then else_at n ts else if bytes_eq w (codes "do") then do_at n ts else select_by_word n w ts

unfoldable pub worded : ℕ → List Token → Option Line
worded n ts = name_at ts >>= λ m. by_first_word n m.0 m.1

-- where a reference and `=` or `=>` stand first, the statement is an assignment
unfoldable pub by_words : ℕ → List Token → Option Line
by_words n ts = choose (target_at n ts) (worded n ts) (λ t. simple (value_at n t))
