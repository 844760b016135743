-- What a line of text puts out: its tokens are scanned as one sequence (ISO/IEC 9899:2011, 6.10.3.4).
use Rattle.std.specs.Prelude.{◌≡◌, ℕ, List, ◌++◌, map, Some, Ok}
use Rattle.c_text.specs.declared.kind.Lexeme.{Lexeme}
use Rattle.c_token.specs.declared.token.CToken.{CToken}
use Rattle.c_token.specs.declared.token.CSpanned.{CSpanned}
use Rattle.c_define.specs.Definitions.{Macros, Made}
use Rattle.c_define.specs.Rescanning.{Expands}
use Rattle.c_directives.specs.declared.origin.Origin.{Origin}
use Rattle.c_directives.specs.Directives.{tokens_of}
use Rattle.c_directives.specs.Texts.{Work, text_at}
use Rattle.jf_base.specs.declared.place.Place.{Place}
use Rattle.c_lines.specs.Rows.{Row}
use Rattle.c_directives.specs.Conditions.{Name, all_expanded}
use Rattle.c_directives.specs.Reading.{State, Including, Opens, line_at, file_at}

-- the tokens without their places
abbrev pub bare : List CSpanned → List CToken
bare ts = map (λ t. t.token) ts

-- the tokens of a line are put out as they are rescanned, and the macros stay
pub record IsRescanned (line : List Lexeme) (w w' : Work) : Type 0 where
  pub tokens : List CToken
  pub out : List CToken
  pub are_tokens : tokens_of line ≡ Some tokens
  pub expands : Expands w.macros.of tokens out
  pub put : bare w'.out ≡ bare w.out ++ out
  pub macros : w'.macros ≡ w.macros

-- where definitions made the macros, each line of text is rescanned
abbrev pub TextsAreRescanned : Type 0
TextsAreRescanned = (limit : ℕ) (origin : Origin) (line : List Lexeme) (w w' : Work) → Made w.macros → text_at limit origin w line ≡ Ok w' → IsRescanned line w w'

-- and so are the tokens of a directive that are replaced (6.10.1p4 and 6.10.2p4)
abbrev pub DirectivesAreRescanned : Type 0
DirectivesAreRescanned = (ms : Macros) (tokens : List CToken) → Made ms → Expands ms.of tokens (all_expanded ms tokens)

-- an included text leaves macros that definitions made
abbrev pub KeepsMade : Including → Type 0
KeepsMade including = (s s' : State) (name : Name) (place : Place) → Made s.work.macros → including s name place ≡ Ok s' → Made s'.work.macros

-- and so does each line
abbrev pub LinesKeepMade : Type 0
LinesKeepMade = (including : Including) (limit : ℕ) (origin : Origin) (os os' : Opens) (s s' : State) (row : Row) → KeepsMade including → Made s.work.macros → line_at including limit origin (os, s) row ≡ Ok (os', s') → Made s'.work.macros

-- and each text
abbrev pub TextsKeepMade : Type 0
TextsKeepMade = (including : Including) (limit : ℕ) (origin : Origin) (s s' : State) (bytes : List ℕ) → KeepsMade including → Made s.work.macros → file_at including limit origin s bytes ≡ Ok s' → Made s'.work.macros
