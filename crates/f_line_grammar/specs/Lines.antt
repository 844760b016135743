-- The statements of an executable part (ISO/IEC 1539-1:2018, 5.1 and 11.1), with those that begin, divide and end constructs: what a tree is, all its
-- tokens but for its end, and which trees fit.
use Rattle.std.specs.Prelude.{ℕ, List, [], ◌∷◌, Option, Some, None, Bool, true, false, codes}
use Rattle.f_lex.specs.declared.token.Mark.TheVariants as mark
use Rattle.f_lex.specs.declared.token.Token.{Token}
use Rattle.f_lex.specs.declared.token.Token.TheVariants as token
use Rattle.f_grammar.specs.Grammar.{Expr, Maybe, Absent, Present, put, spell, spell_maybe, FitsMaybe, Within}
use Rattle.f_grammar.specs.Actions.{Act, spell_act, FitsAct}

-- the values of a case: one, a range that begins with a bound, and one that begins with a colon (11.1.9.1)
pub data Span : Type 0 where
  One : (e : Expr) → Span
  From : (lower : Expr) (upper : Maybe) → Span
  UpTo : (upper : Expr) → Span

pub data Spans : Type 0 where
  no_spans : Spans
  span : (s : Span) (rest : Spans) → Spans

-- what makes a DO construct go on (11.1.7.2)
pub data Control : Type 0 where
  Endless : Control
  Count : (has_comma : Bool) (variable : List ℕ) (first last : Expr) (step : Maybe) → Control
  While : (has_comma : Bool) (test : Expr) → Control

pub data Construct : Type 0 where
  If : Construct
  Do : Construct
  Select : Construct

pub data Line : Type 0 where
  Simple : (a : Act) → Line
  Guarded : (test : Expr) (a : Act) → Line
  IfThen : (test : Expr) → Line
  ElseIf : (is_one_word : Bool) (test : Expr) → Line
  Else : Line
  Loop : (control : Control) → Line
  SelectCase : (is_one_word : Bool) (selector : Expr) → Line
  Cases : (first : Span) (others : Spans) → Line
  CaseDefault : Line
  SelectRank : (renamed : Option (List ℕ)) (selector : List ℕ) → Line
  Rank : (e : Expr) → Line
  RankStar : Line
  RankDefault : Line
  End : (c : Construct) (is_one_word : Bool) → Line

-- an expression in parentheses
abbrev pub spell_test : Expr → List Token → List Token
spell_test e rest = put mark.Open (spell e (put mark.Close rest))

abbrev pub spell_span : Span → List Token → List Token
spell_span (One e) rest = spell e rest
spell_span (From lower upper) rest = spell lower (put mark.Colon (spell_maybe upper rest))
spell_span (UpTo upper) rest = put mark.Colon (spell upper rest)

abbrev pub spell_spans : Spans → List Token → List Token
spell_spans no_spans rest = rest
spell_spans (span s ss) rest = put mark.Comma (spell_span s (spell_spans ss rest))

abbrev pub spell_comma : Bool → List Token → List Token
spell_comma true rest = put mark.Comma rest
spell_comma false rest = rest

-- a step behind its comma
abbrev pub spell_step : Maybe → List Token
spell_step Absent = []
spell_step (Present e) = put mark.Comma (spell e [])

abbrev pub spell_control : Control → List Token
spell_control Endless = []
spell_control (Count comma v first last step) = spell_comma comma (token.Name v ∷ put mark.Assign (spell first (put mark.Comma (spell last (spell_step step)))))
spell_control (While comma test) = spell_comma comma (token.Name (codes "while") ∷ spell_test test [])

abbrev pub construct_word : Construct → List ℕ
construct_word If = codes "if"
construct_word Do = codes "do"
construct_word Select = codes "select"

-- END and the word of a construct in one
abbrev pub joined_word : Construct → List ℕ
joined_word If = codes "endif"
joined_word Do = codes "enddo"
joined_word Select = codes "endselect"

abbrev pub spell_selector : Option (List ℕ) → List ℕ → List Token
spell_selector None name = token.Name name ∷ put mark.Close []
spell_selector (Some local) name = token.Name local ∷ put mark.Arrow (token.Name name ∷ put mark.Close [])

-- the tokens of a statement, but for its end
abbrev pub spell_line : Line → List Token
spell_line (Simple a) = spell_act a
spell_line (Guarded test a) = token.Name (codes "if") ∷ spell_test test (spell_act a)
spell_line (IfThen test) = token.Name (codes "if") ∷ spell_test test (token.Name (codes "then") ∷ [])
spell_line (ElseIf true test) = token.Name (codes "elseif") ∷ spell_test test (token.Name (codes "then") ∷ [])
spell_line (ElseIf false test) = token.Name (codes "else") ∷ token.Name (codes "if") ∷ spell_test test (token.Name (codes "then") ∷ [])
spell_line Else = token.Name (codes "else") ∷ []
spell_line (Loop control) = token.Name (codes "do") ∷ spell_control control
spell_line (SelectCase true e) = token.Name (codes "selectcase") ∷ spell_test e []
spell_line (SelectCase false e) = token.Name (codes "select") ∷ token.Name (codes "case") ∷ spell_test e []
spell_line (Cases s ss) = token.Name (codes "case") ∷ put mark.Open (spell_span s (spell_spans ss (put mark.Close [])))
spell_line CaseDefault = token.Name (codes "case") ∷ token.Name (codes "default") ∷ []
spell_line (SelectRank renamed name) = token.Name (codes "select") ∷ token.Name (codes "rank") ∷ put mark.Open (spell_selector renamed name)
spell_line (Rank e) = token.Name (codes "rank") ∷ spell_test e []
spell_line RankStar = token.Name (codes "rank") ∷ put mark.Open (put mark.Star (put mark.Close []))
spell_line RankDefault = token.Name (codes "rank") ∷ token.Name (codes "default") ∷ []
spell_line (End c true) = token.Name (joined_word c) ∷ []
spell_line (End c false) = token.Name (codes "end") ∷ token.Name (construct_word c) ∷ []

abbrev pub FitsSpan : ℕ → Span → Type 0
FitsSpan n (One e) = Within n e
FitsSpan n (From lower upper) = Within n lower × FitsMaybe n upper
FitsSpan n (UpTo upper) = Within n upper

abbrev pub FitsSpans : ℕ → Spans → Type 0
FitsSpans n no_spans = Unit {0}
FitsSpans n (span s ss) = FitsSpan n s × FitsSpans n ss

abbrev pub FitsControl : ℕ → Control → Type 0
FitsControl n Endless = Unit {0}
FitsControl n (Count comma v first last step) = Within n first × Within n last × FitsMaybe n step
FitsControl n (While comma test) = Within n test

-- with so many nestings left
abbrev pub FitsLine : ℕ → Line → Type 0
FitsLine n (Simple a) = FitsAct n a
FitsLine n (Guarded test a) = Within n test × FitsAct n a
FitsLine n (IfThen test) = Within n test
FitsLine n (ElseIf w test) = Within n test
FitsLine n Else = Unit {0}
FitsLine n (Loop control) = FitsControl n control
FitsLine n (SelectCase w e) = Within n e
FitsLine n (Cases s ss) = FitsSpan n s × FitsSpans n ss
FitsLine n CaseDefault = Unit {0}
FitsLine n (SelectRank renamed name) = Unit {0}
FitsLine n (Rank e) = Within n e
FitsLine n RankStar = Unit {0}
FitsLine n RankDefault = Unit {0}
FitsLine n (End c w) = Unit {0}
