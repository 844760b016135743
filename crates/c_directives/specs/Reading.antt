-- Lines one after the other: conditional groups, and what is done where they are taken (ISO/IEC 9899:2011, 6.10).
use Rattle.std.specs.Prelude.{ℕ, List, [], ◌∷◌, length, Option, Some, None, is_some, Result, Ok, Err, Bool, true, false, not, ◌&&◌, nat_lt, if◌then◌else◌}
use Rattle.std.specs.declared.alloc.AllocError.{AllocError}
use Rattle.jf_base.specs.declared.place.Place.{Place}
use Rattle.c_text.specs.declared.character.Point.{Point}
use Rattle.c_text.specs.declared.kind.Lexeme.{Lexeme}
use Rattle.c_text.specs.Source.{lexemes_in}
use Rattle.c_lines.specs.declared.rule.Rule.{Rule}
use Rattle.c_lines.specs.declared.rule.Rule.TheVariants as rule
use Rattle.c_lines.specs.declared.rule.Fault.{Fault}
use Rattle.c_lines.specs.declared.head.Head.{Head}
use Rattle.c_lines.specs.declared.head.Head.TheVariants as head
use Rattle.c_lines.specs.Rows.{Row, rows}
use Rattle.c_lines.specs.Rules.{first_ill}
use Rattle.c_lines.specs.Heads.{head_at}
use Rattle.c_define.specs.Definitions.{Macros}
use Rattle.c_directives.specs.declared.origin.Origin.{Origin}
use Rattle.c_directives.specs.declared.opens.Open.{Open}
use Rattle.c_directives.specs.declared.opens.Arm.{Arm}
use Rattle.c_directives.specs.declared.opens.Arm.TheVariants.{Now, Later, Past, LastNow, LastPast}
use Rattle.c_directives.specs.Reads.{Read, broken, ◌>>=◌}
use Rattle.c_directives.specs.Texts.{Work, place_of, fault_of, text_at}
use Rattle.c_directives.specs.Directives.{define_at, one_name, undefine_at}
use Rattle.c_directives.specs.Conditions.{Name, controls_at, header_at}

-- the macros and the tokens so far, and how many more files the library gives
pub record State : Type 0 where
  pub work : Work
  pub calls : ℕ

-- the text of a header is read
abbrev pub Including : Type 0
Including = State → Name → Place → Read State

-- what of the state other lines than `#include` change
abbrev pub with_work : State → Read Work → Read State
with_work s r = r >>= λ w. Ok (record s { work = w })

abbrev pub with_macros : State → Read Macros → Read State
with_macros s r = r >>= λ ms. Ok (record s { work = record { macros = ms; out = s.work.out } })

-- ---- conditionals, the innermost first (6.10.1)

abbrev pub is_taken : Arm → Bool
is_taken Now = true
is_taken LastNow = true
is_taken _ = false

-- lines are acted on here
abbrev pub is_live : List Open → Bool
is_live [] = true
is_live (o ∷ os) = is_taken o.arm

-- the innermost section doesn't lie in a group that is skipped
abbrev pub is_outer_live : List Open → Bool
is_outer_live [] = true
is_outer_live (o ∷ os) = is_live os

abbrev pub arm_if : Bool → Arm
arm_if holds = if holds then Now else Later

-- the arm of an `#elif`, and whether its expression is asked
abbrev pub elif_of : Arm → Option Bool
elif_of Now = Some false
elif_of Past = Some false
elif_of Later = Some true
elif_of LastNow = None
elif_of LastPast = None

abbrev pub else_of : Arm → Option Arm
else_of Now = Some LastPast
else_of Past = Some LastPast
else_of Later = Some LastNow
else_of LastNow = None
else_of LastPast = None

-- what is open
abbrev pub Opens : Type 0
Opens = List Open

abbrev pub opened : Place → Arm → Opens → Opens
opened place arm os = record { place = place; arm = arm } ∷ os

-- an `#if`: its expression is asked where lines are acted on
abbrev pub if_at : Opens → Place → Read Bool → Read Opens
if_at os place holds = if is_live os then (holds >>= λ b. Ok (opened place (arm_if b) os)) else Ok (opened place Past os)

abbrev pub elif_with : Open → Opens → Place → Option Bool → Read Bool → Read Opens
elif_with o os place None holds = broken rule.Balance place
elif_with o os place (Some false) holds = Ok (opened o.place Past os)
elif_with o os place (Some true) holds = holds >>= λ b. Ok (opened o.place (arm_if b) os)

abbrev pub elif_at : Opens → Place → Read Bool → Read Opens
elif_at [] place holds = broken rule.Balance place
elif_at (o ∷ os) place holds = elif_with o os place (elif_of o.arm) holds

abbrev pub is_empty : List Lexeme → Bool
is_empty [] = true
is_empty (l ∷ ls) = false

-- nothing stands behind `#else` and `#endif`, which is asked unless the section lies in a group that is skipped
abbrev pub no_tail : Opens → Place → List Lexeme → Read Opens → Read Opens
no_tail os place tail r = if is_outer_live os && not (is_empty tail) then broken rule.Form place else r

abbrev pub else_with : Open → Opens → Place → Option Arm → Read Opens
else_with o os place None = broken rule.Balance place
else_with o os place (Some arm) = Ok (opened o.place arm os)

abbrev pub else_at : Opens → Place → Read Opens
else_at [] place = broken rule.Balance place
else_at (o ∷ os) place = else_with o os place (else_of o.arm)

abbrev pub endif_at : Opens → Place → Read Opens
endif_at [] place = broken rule.Balance place
endif_at (o ∷ os) place = Ok os

abbrev pub name_holds : Macros → Bool → Place → Option (List ℕ) → Read Bool
name_holds ms wanted place None = broken rule.Form place
name_holds ms wanted place (Some name) = Ok (if wanted then is_some (ms.of name) else not (is_some (ms.of name)))

-- whether the directive is a conditional
abbrev pub is_conditional : Head → Bool
is_conditional head.If = true
is_conditional head.Ifdef = true
is_conditional head.Ifndef = true
is_conditional head.Elif = true
is_conditional head.Else = true
is_conditional head.Endif = true
is_conditional _ = false

-- what a conditional opens, turns or ends
unfoldable pub turn_at : Head → Macros → Opens → Place → List Lexeme → Read Opens
turn_at head.If ms os place tail = if_at os place (controls_at ms place tail)
turn_at head.Ifdef ms os place tail = if_at os place (name_holds ms true place (one_name tail))
turn_at head.Ifndef ms os place tail = if_at os place (name_holds ms false place (one_name tail))
turn_at head.Elif ms os place tail = elif_at os place (controls_at ms place tail)
turn_at head.Else ms os place tail = no_tail os place tail (else_at os place)
turn_at head.Endif ms os place tail = no_tail os place tail (endif_at os place)
turn_at _ ms os place tail = Ok os

-- ---- lines

-- what another directive does where lines are acted on
unfoldable pub act_at : Including → Head → State → Place → List Lexeme → Read State
act_at including head.Include s place tail = header_at s.work.macros place tail >>= λ h. including s h place
act_at including head.Define s place tail = with_macros s (define_at s.work.macros place tail)
act_at including head.Undef s place tail = with_macros s (undefine_at s.work.macros place tail)
act_at including head.Error s place tail = broken rule.Error place
act_at including head.Unknown s place tail = broken rule.Form place
act_at including _ s place tail = Ok s

-- what is open, and the state
abbrev pub Stand : Type 0
Stand = Opens × State

abbrev pub with_opens : Opens → Read State → Read Stand
with_opens os r = r >>= λ s. Ok (os, s)

abbrev pub and_state : State → Read Opens → Read Stand
and_state s r = r >>= λ os. Ok (os, s)

-- the place of a directive is that of its `#`
abbrev pub hash_place : Origin → Row → Place
hash_place origin [] = place_of origin (record { line = 1; column = 1 })
hash_place origin (l ∷ ls) = place_of origin l.point

abbrev pub unless_ill : {A : Type 0} → Origin → Option Fault → Read A → Read A
unless_ill origin None r = r
unless_ill origin (Some f) r = fault_of origin f

abbrev pub directive_at : Including → Head → Stand → Place → List Lexeme → Read Stand
directive_at including h (os, s) place tail = if is_conditional h then and_state s (turn_at h s.work.macros os place tail)
    else (if is_live os then with_opens os (act_at including h s place tail) else Ok (os, s))

abbrev pub sorted_at : Including → ℕ → Origin → Stand → Row → Head × List Lexeme → Read Stand
sorted_at including limit origin (os, s) row (head.Text, ls) =
    if is_live os then with_opens os (with_work s (text_at limit origin s.work ls)) else unless_ill origin (first_ill row) (Ok (os, s))
sorted_at including limit origin (os, s) row (h, tail) = unless_ill origin (first_ill row) (directive_at including h (os, s) (hash_place origin row) tail)

-- A line. Text is read token by token. A directive is read when its line ends, and text in a group that is skipped too: what breaks a rule wherever it stands
-- comes first there.
unfoldable pub line_at : Including → ℕ → Origin → Stand → Row → Read Stand
line_at including limit origin x row = sorted_at including limit origin x row (head_at row)

-- the first conditional that has no end
abbrev pub first_place : Opens → Option Place
first_place [] = None
first_place (o ∷ []) = Some o.place
first_place (o ∷ os) = first_place os

abbrev pub end_of : State → Option Place → Read State
end_of s None = Ok s
end_of s (Some place) = broken rule.Balance place

abbrev pub end_at : Stand → Read State
end_at (os, s) = end_of s (first_place os)

unfoldable pub lines_at : Including → ℕ → Origin → Stand → List Row → Read State
lines_at including limit origin x [] = end_at x
lines_at including limit origin x (r ∷ rs) = line_at including limit origin x r >>= λ x. lines_at including limit origin x rs

-- ---- texts

-- the most bytes of a file
abbrev pub most_bytes : ℕ
most_bytes = 1048576

-- a whole text, whose size is looked at first
unfoldable pub file_at : Including → ℕ → Origin → State → List ℕ → Read State
file_at including limit origin s bytes =
    if nat_lt most_bytes (length bytes) then broken rule.TooMany (place_of origin (record { line = 1; column = 1 })) else lines_at including limit origin ([], s) (rows (lexemes_in bytes))
