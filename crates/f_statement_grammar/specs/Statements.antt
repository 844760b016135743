-- The statements of a file (ISO/IEC 1539-1:2018, 5.1): what a tree is, all its tokens but for its end, which trees fit, and reading them.
use Rattle.std.specs.Prelude.{ℕ, List, Option, Some, None}
use Rattle.f_lex.specs.declared.token.Token.{Token}
use Rattle.f_grammar.specs.Reading.{choose}
use Rattle.f_line_grammar.specs.Lines.{Line, spell_line, FitsLine}
use Rattle.f_line_grammar.specs.LineReading.{line_at}
use Rattle.f_declaration_grammar.specs.Declarations.{Declared, spell_declared, FitsDeclared}
use Rattle.f_declaration_grammar.specs.DeclarationReading.{declared_at}

-- a statement of an executable part, or another
pub data Statement : Type 0 where
  Executable : (l : Line) → Statement
  Declaring : (d : Declared) → Statement

abbrev pub spell_statement : Statement → List Token
spell_statement (Executable l) = spell_line l
spell_statement (Declaring d) = spell_declared d

-- with so many nestings left
abbrev pub FitsStatement : ℕ → Statement → Type 0
FitsStatement n (Executable l) = FitsLine n l
FitsStatement n (Declaring d) = FitsDeclared n d

abbrev pub declaring : Option Declared → Option Statement
declaring None = None
declaring (Some d) = Some (Declaring d)

-- the statement that all the tokens are; where it can be executed, it is that
unfoldable pub statement_at : ℕ → List Token → Option Statement
statement_at n ts = choose (line_at n ts) (declaring (declared_at n ts)) (λ l. Some (Executable l))
