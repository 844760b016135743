-- Statements without their places, the next one by what it does to a construct, and what a function answers that builds trees.
use Rattle.std.specs.Prelude.{◌≡◌, List, [], ◌∷◌, map, Result, Ok, Err, Bool, true, false}
use Rattle.f_line_read.specs.declared.line.Construct.TheVariants as construct
use Rattle.f_line_read.specs.declared.line.Line.{Line}
use Rattle.f_line_read.specs.declared.line.Line.TheVariants as line
use Rattle.f_statement_grammar.specs.Statements as grammar
use Rattle.f_statement_read.specs.declared.statement.Statement.{Statement}
use Rattle.f_statement_read.specs.declared.statement.Statement.TheVariants as statement
use Rattle.f_statement_read.specs.Views.{view_statement}
use Rattle.f_unit_grammar.specs.Units.{State}
use Rattle.f_construct_parts.specs.declared.statements.BlockError.{BlockError}
use Rattle.f_construct_parts.specs.declared.statements.BlockError.TheVariants.{Memory, Misplaced}
use Rattle.f_construct_parts.specs.declared.statements.Next.{Next}
use Rattle.f_construct_parts.specs.declared.statements.Next.TheVariants as next
use Rattle.f_construct_parts.specs.Walking.{walk, IsBlock, FailsIn}

abbrev pub seen : List Statement → List grammar.Statement
seen ss = map view_statement ss

-- where a statement has no place, this holds
abbrev pub Where : BlockError → Type 0 → Type 0
Where Memory P = Unit {0}
Where Misplaced P = P

abbrev pub IfMisplaced : {X : Type 0} → Result X BlockError → Type 0 → Type 0
IfMisplaced (Ok x) P = Unit {0}
IfMisplaced (Err e) P = Where e P

-- Wherever a block stands, what is open behind the one list is what is open behind the other.
abbrev pub Passes : List grammar.Statement → List grammar.Statement → Type 0
Passes ss rest = (k : State) → IsBlock k → (outer : List State) → walk (k ∷ outer) ss ≡ walk (k ∷ outer) rest

-- wherever a block stands, a statement of these has no place, or an end is missing
abbrev pub Fails : List grammar.Statement → Type 0
Fails ss = (k : State) → IsBlock k → FailsIn k ss

-- ---- the next statement

abbrev pub next_line : Line → Next
next_line (line.Action a) = next.Action
next_line (line.IfAction p condition a) = next.IfAction
next_line (line.IfThen p condition) = next.IfThen
next_line (line.ElseIf p w condition) = next.ElseIf
next_line (line.Else p) = next.Else
next_line (line.Do p control) = next.Do
next_line (line.SelectCase p w selector) = next.SelectCase
next_line (line.Case p choice) = next.Case
next_line (line.SelectRank p renamed selector) = next.SelectRank
next_line (line.Rank p choice) = next.Rank
next_line (line.End p construct.If w) = next.EndIf
next_line (line.End p construct.Do w) = next.EndDo
next_line (line.End p construct.Select w) = next.EndSelect

abbrev pub next_statement : Statement → Next
next_statement (statement.Executable l) = next_line l
next_statement (statement.Declaring d) = next.Other

unfoldable pub next_of : List Statement → Next
next_of [] = next.Other
next_of (s ∷ ss) = next_statement s

-- an action statement or a construct begins
abbrev pub starts : Next → Bool
starts next.Action = true
starts next.IfAction = true
starts next.IfThen = true
starts next.Do = true
starts next.SelectCase = true
starts next.SelectRank = true
starts _ = false

-- ELSE IF, ELSE, CASE and RANK
abbrev pub divides_if : Next → Bool
divides_if next.ElseIf = true
divides_if _ = false

abbrev pub is_else : Next → Bool
is_else next.Else = true
is_else _ = false

abbrev pub divides_case : Next → Bool
divides_case next.Case = true
divides_case _ = false

abbrev pub divides_rank : Next → Bool
divides_rank next.Rank = true
divides_rank _ = false

-- the end of a construct
abbrev pub ends_if : Next → Bool
ends_if next.EndIf = true
ends_if _ = false

abbrev pub ends_do : Next → Bool
ends_do next.EndDo = true
ends_do _ = false

abbrev pub ends_select : Next → Bool
ends_select next.EndSelect = true
ends_select _ = false
