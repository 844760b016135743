-- What is open behind statements by their places alone, nesting apart (ISO/IEC 1539-1:2018, 5.1 to 5.3 and 11.1), the innermost first.
use Rattle.std.specs.Prelude.{◌≡◌, List, [], ◌∷◌, Option, Some, None, Bool, true, false}
use Rattle.f_line_grammar.specs.Lines as line
use Rattle.f_line_grammar.specs.Lines.{Line}
use Rattle.f_statement_grammar.specs.Statements.{Statement, Executable}
use Rattle.f_unit_grammar.specs.Units.{State, File, Role, stays, enters, leaves, none, role, begun}

abbrev pub moved : Role → List State → Option (List State)
moved (stays k) ks = Some (k ∷ ks)
moved (enters k inner) ks = Some (inner ∷ k ∷ ks)
moved leaves ks = Some ks
moved none ks = None

abbrev pub goes_on : Option (List State) → (List State → Option (List State)) → Option (List State)
goes_on (Some ks) more = more ks
goes_on None more = None

-- what is open behind statements, where each has its place
unfoldable pub walk : List State → List Statement → Option (List State)
walk ks [] = Some ks
walk [] (s ∷ ss) = None
walk (k ∷ ks) (s ∷ ss) = goes_on (moved (role k s) ks) (λ next. walk next ss)

-- an action statement, or the first statement of a construct (11.1)
abbrev pub begins : Line → Bool
begins (line.Simple a) = true
begins (line.Guarded test a) = true
begins (line.IfThen test) = true
begins (line.Loop control) = true
begins (line.SelectCase w e) = true
begins (line.SelectRank renamed selector) = true
begins _ = false

-- the next statement is one of these
abbrev pub begins_next : List Statement → Bool
begins_next (Executable l ∷ ss) = begins l
begins_next _ = false

-- action statements and constructs stand here, and what is open stays so behind each
abbrev pub IsBlock : State → Type 0
IsBlock k = (l : Line) → begins l ≡ true → role k (Executable l) ≡ begun k l

-- Where this is open inside of something else, the statements don't go on to an end at which nothing is open but the file.
abbrev pub FailsIn : State → List Statement → Type 0
FailsIn k ss = (o : State) (os : List State) → walk (k ∷ o ∷ os) ss ≡ Some (File ∷ []) → ⊥
