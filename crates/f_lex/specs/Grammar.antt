-- Source form as a relation: which pieces there are, how each is spelled in front of what follows it, and where it fits (ISO/IEC 1539-1:2018, 6.2 and 6.3.2).
use Rattle.std.specs.Prelude.{◌≡◌, ℕ, ◌+◌, List, [], ◌∷◌, ◌++◌, length, Option, Some, None, Bool, true, false, ◌==◌}
use Rattle.f_lex.specs.declared.class.Run.{Run}
use Rattle.f_lex.specs.declared.class.Run.TheVariants as run
use Rattle.f_lex.specs.declared.fault.Rule.{Rule}
use Rattle.f_lex.specs.declared.fault.Rule.TheVariants as rule
use Rattle.f_lex.specs.declared.lines.Context.{Context}
use Rattle.f_lex.specs.declared.lines.Context.TheVariants.{Outside, Inside}
use Rattle.f_lex.specs.declared.token.Mark.{Mark as MarkOf}
use Rattle.f_lex.specs.declared.token.Mark.TheVariants as mark
use Rattle.f_lex.specs.declared.token.Kind.{Kind}
use Rattle.f_lex.specs.declared.token.Kind.TheVariants as kind
use Rattle.f_lex.specs.declared.token.Token.TheVariants as token
use Rattle.f_lex.specs.declared.words.DotWord.{DotWord}
use Rattle.f_lex.specs.declared.words.DotWord.TheVariants as dotted
use Rattle.f_lex.specs.declared.piece.Piece.{Piece}
use Rattle.f_lex.specs.declared.piece.Piece.TheVariants as piece
use Rattle.f_lex.specs.Characters.{Class, Letter, Digit, Underscore, Blank, LineEnd, Exclamation, Ampersand, Quote, Semicolon, Dot, Mark, Unused, Foreign, Nothing, ampersand, underscore, class_at, goes_on, is_next, ends_line as line_ends}
use Rattle.f_lex.specs.Lines.{passes_over, next_line, ends_line, first_of_line}
use Rattle.f_lex.specs.Words.{lowered, kind_at, kind_quote_at, dot_word, mark_at}
use Rattle.f_lex.specs.Pieces.{dot, whole}

-- ---- runs of characters, and what stands between continued lines

-- these characters go on as the run says, and what stands behind them doesn't
abbrev pub AreRun : Run → List ℕ → List ℕ → Type 0
AreRun r [] rest = goes_on r rest ≡ false
AreRun r (x ∷ xs) rest = (goes_on r (x ∷ (xs ++ rest)) ≡ true) × AreRun r xs rest

-- these characters are blanks, line ends and comments, and behind them stands another character outside comments; at first in a comment if the test says so
abbrev pub AreBetween : Bool → List ℕ → List ℕ → Type 0
AreBetween in_comment [] [] = ⊥
AreBetween in_comment [] (c ∷ cs) = passes_over in_comment (class_at (c ∷ cs)) ≡ None
AreBetween in_comment (x ∷ xs) rest = (comment : Bool) × (passes_over in_comment (class_at (x ∷ (xs ++ rest))) ≡ Some comment) × AreBetween comment xs rest

-- the `&` with which the line begins, if it is there
abbrev pub with_lead : Bool → List ℕ → List ℕ
with_lead true rest = ampersand ∷ rest
with_lead false rest = rest

abbrev pub HasLead : Context → List ℕ → Type 0
HasLead Outside line = Unit {0}
HasLead Inside line = is_next ampersand line ≡ true

-- behind an `&`: its line ends, what stands between is blank or a comment, and then a line goes on, inside a text behind an `&`
pub record Continues (context : Context) (between : List ℕ) (lead : Bool) (rest : List ℕ) : Type 0 where
  pub last : ends_line context (between ++ with_lead lead rest) ≡ true
  pub stands_between : AreBetween false between (with_lead lead rest)
  pub has_lead : HasLead context (with_lead lead rest)
  pub goes_on : first_of_line context (with_lead lead rest) ≡ rest

-- ---- texts

-- a part of a text: a character, two delimiters, and an `&` that continues it on a later line
pub data Part : Type 0 where
  Char : (c : ℕ) → Part
  Doubled : Part
  Split : (between : List ℕ) (lead : Bool) → Part

-- how a text ends: with its delimiter, with its line, or with an `&` that has no next line
pub data Ending : Type 0 where
  Closed : Ending
  Open : Ending
  Lost : Ending

abbrev pub spell_ending : ℕ → Ending → List ℕ → List ℕ
spell_ending quote Closed rest = quote ∷ rest
spell_ending quote Open rest = rest
spell_ending quote Lost rest = ampersand ∷ rest

abbrev pub spell_parts : ℕ → List Part → Ending → List ℕ → List ℕ
spell_parts quote [] e rest = spell_ending quote e rest
spell_parts quote (Char c ∷ ps) e rest = c ∷ spell_parts quote ps e rest
spell_parts quote (Doubled ∷ ps) e rest = quote ∷ quote ∷ spell_parts quote ps e rest
spell_parts quote (Split between lead ∷ ps) e rest = ampersand ∷ (between ++ with_lead lead (spell_parts quote ps e rest))

-- a character of a text: no line end, and an `&` only where it isn't the last of its line
abbrev pub IsCharacter : Class → List ℕ → Type 0
IsCharacter LineEnd rest = ⊥
IsCharacter Ampersand rest = ends_line Inside rest ≡ false
IsCharacter _ rest = Unit {0}

abbrev pub HasNoLine : List ℕ → Type 0
HasNoLine rest = (between : List ℕ) (lead : Bool) (more : List ℕ) → Continues Inside between lead more → rest ≡ between ++ with_lead lead more → ⊥

abbrev pub FitsEnding : ℕ → Ending → List ℕ → Type 0
FitsEnding quote Closed rest = is_next quote rest ≡ false
FitsEnding quote Open rest = line_ends (class_at rest) ≡ true
FitsEnding quote Lost rest = (ends_line Inside rest ≡ true) × HasNoLine rest

abbrev pub FitsParts : ℕ → List Part → Ending → List ℕ → Type 0
FitsParts quote [] e rest = FitsEnding quote e rest
FitsParts quote (Char c ∷ ps) e rest = ((c == quote) ≡ false) × IsCharacter (class_at (c ∷ spell_parts quote ps e rest)) (spell_parts quote ps e rest) × FitsParts quote ps e rest
FitsParts quote (Doubled ∷ ps) e rest = FitsParts quote ps e rest
FitsParts quote (Split between lead ∷ ps) e rest = Continues Inside between lead (spell_parts quote ps e rest) × FitsParts quote ps e rest

-- the characters of a text, where two delimiters are one and continuation is none
abbrev pub content_of : ℕ → List Part → List ℕ
content_of quote [] = []
content_of quote (Char c ∷ ps) = c ∷ content_of quote ps
content_of quote (Doubled ∷ ps) = quote ∷ content_of quote ps
content_of quote (Split between lead ∷ ps) = content_of quote ps

-- the bytes that continue lines
abbrev pub continuing : List Part → ℕ
continuing [] = 0
continuing (Char c ∷ ps) = continuing ps
continuing (Doubled ∷ ps) = continuing ps
continuing (Split between lead ∷ ps) = 1 + length between + length (with_lead lead []) + continuing ps

abbrev pub broken_by : Ending → Option Rule
broken_by Closed = None
broken_by Open = Some rule.OpenText
broken_by Lost = Some rule.LostLine

-- ---- kinds

pub data KindPart : Type 0 where
  Plain : KindPart
  Named : (cs : List ℕ) → KindPart
  Numbered : (ds : List ℕ) → KindPart

abbrev pub kind_given : KindPart → Option Kind
kind_given Plain = None
kind_given (Named cs) = Some (kind.Name (lowered cs))
kind_given (Numbered ds) = Some (kind.Number (lowered ds))

-- a kind behind a literal
abbrev pub spell_behind : KindPart → List ℕ → List ℕ
spell_behind Plain rest = rest
spell_behind (Named cs) rest = underscore ∷ (cs ++ rest)
spell_behind (Numbered ds) rest = underscore ∷ (ds ++ rest)

abbrev pub FitsBehind : KindPart → List ℕ → Type 0
FitsBehind Plain rest = kind_at rest ≡ (None, rest)
FitsBehind (Named cs) rest = (class_at (cs ++ rest) ≡ Letter) × AreRun run.Name cs rest
FitsBehind (Numbered ds) rest = (class_at (ds ++ rest) ≡ Digit) × AreRun run.Digits ds rest

-- a kind before a text
abbrev pub spell_before : KindPart → List ℕ → List ℕ
spell_before Plain rest = rest
spell_before (Named cs) rest = cs ++ (underscore ∷ rest)
spell_before (Numbered ds) rest = ds ++ (underscore ∷ rest)

abbrev pub FitsBefore : KindPart → List ℕ → Type 0
FitsBefore Plain rest = Unit {0}
FitsBefore (Named cs) rest = (class_at (cs ++ (underscore ∷ rest)) ≡ Letter) × AreRun run.Word cs (underscore ∷ rest)
FitsBefore (Numbered ds) rest = (class_at (ds ++ (underscore ∷ rest)) ≡ Digit) × AreRun run.Digits ds (underscore ∷ rest)

-- ---- pieces

pub data Shape : Type 0 where
  Word : (cs : List ℕ) → Shape
  Number : (ds : List ℕ) (k : KindPart) → Shape
  Operator : (letters : List ℕ) (m : MarkOf) → Shape
  Truth : (letters : List ℕ) (value : Bool) (k : KindPart) → Shape
  DotDot : Shape
  Text : (k : KindPart) (quote : ℕ) (parts : List Part) (e : Ending) → Shape
  Sign : (m : MarkOf) (c : ℕ) (cs : List ℕ) → Shape
  Blanks : (c : ℕ) (cs : List ℕ) → Shape
  Comment : (c : ℕ) (cs : List ℕ) → Shape
  Joined : (c : ℕ) (between : List ℕ) (lead : Bool) → Shape
  LastLine : (c : ℕ) → Shape
  EndOfLine : (c : ℕ) → Shape
  Separator : (c : ℕ) → Shape
  Stray : (c : ℕ) → Shape
  Alien : (c : ℕ) → Shape

abbrev pub spell : Shape → List ℕ → List ℕ
spell (Word cs) rest = cs ++ rest
spell (Number ds k) rest = ds ++ spell_behind k rest
spell (Operator letters m) rest = dot ∷ (letters ++ (dot ∷ rest))
spell (Truth letters value k) rest = dot ∷ (letters ++ (dot ∷ spell_behind k rest))
spell DotDot rest = dot ∷ dot ∷ rest
spell (Text k quote parts e) rest = spell_before k (quote ∷ spell_parts quote parts e rest)
spell (Sign m c cs) rest = c ∷ (cs ++ rest)
spell (Blanks c cs) rest = c ∷ (cs ++ rest)
spell (Comment c cs) rest = c ∷ (cs ++ rest)
spell (Joined c between lead) rest = c ∷ (between ++ with_lead lead rest)
spell (LastLine c) rest = c ∷ rest
spell (EndOfLine c) rest = c ∷ rest
spell (Separator c) rest = c ∷ rest
spell (Stray c) rest = c ∷ rest
spell (Alien c) rest = c ∷ rest

-- no operator in letters, no logical value and no `..` begins with a dot before this
abbrev pub BeginsNoDotted : List ℕ → Type 0
BeginsNoDotted rest = (is_next dot rest ≡ false) × ((letters more : List ℕ) (w : DotWord) → rest ≡ letters ++ (dot ∷ more) → AreRun run.Letters letters (dot ∷ more) → dot_word (lowered letters) ≡ Some w → ⊥)

-- a character that begins no piece here: `_`, a character without a use, a dot, or an `&` that isn't the last of its line
abbrev pub IsStray : Class → List ℕ → Type 0
IsStray Underscore rest = Unit {0}
IsStray Unused rest = Unit {0}
IsStray Dot rest = BeginsNoDotted rest
IsStray Ampersand rest = ends_line Outside rest ≡ false
IsStray _ rest = ⊥

abbrev pub IsAlien : Class → Type 0
IsAlien Foreign = Unit {0}
IsAlien Nothing = Unit {0}
IsAlien _ = ⊥

-- where a piece fits in front of what follows: each is the longest
abbrev pub Fits : Shape → List ℕ → Type 0
Fits (Word cs) rest = (class_at (cs ++ rest) ≡ Letter) × AreRun run.Word cs rest × (kind_quote_at rest ≡ None)
Fits (Number ds k) rest = (class_at (ds ++ spell_behind k rest) ≡ Digit) × AreRun run.Digits ds (spell_behind k rest) × (kind_quote_at (spell_behind k rest) ≡ None) × FitsBehind k rest
Fits (Operator letters m) rest = (is_next dot (letters ++ (dot ∷ rest)) ≡ false) × AreRun run.Letters letters (dot ∷ rest) × (dot_word (lowered letters) ≡ Some (dotted.Operator m))
Fits (Truth letters value k) rest = (is_next dot (letters ++ (dot ∷ spell_behind k rest)) ≡ false) × AreRun run.Letters letters (dot ∷ spell_behind k rest) × (dot_word (lowered letters) ≡ Some (dotted.Truth value)) × FitsBehind k rest
Fits DotDot rest = Unit {0}
Fits (Text k quote parts e) rest = FitsBefore k (quote ∷ spell_parts quote parts e rest) × (class_at (quote ∷ spell_parts quote parts e rest) ≡ Quote) × FitsParts quote parts e rest
Fits (Sign m c cs) rest = (class_at (c ∷ (cs ++ rest)) ≡ Mark) × (mark_at c (cs ++ rest) ≡ (m, rest))
Fits (Blanks c cs) rest = (class_at (c ∷ (cs ++ rest)) ≡ Blank) × AreRun run.Blanks cs rest
Fits (Comment c cs) rest = (class_at (c ∷ (cs ++ rest)) ≡ Exclamation) × AreRun run.Comment cs rest
Fits (Joined c between lead) rest = (class_at (c ∷ (between ++ with_lead lead rest)) ≡ Ampersand) × Continues Outside between lead rest
Fits (LastLine c) rest = (class_at (c ∷ rest) ≡ Ampersand) × (ends_line Outside rest ≡ true) × (next_line false rest ≡ None)
Fits (EndOfLine c) rest = class_at (c ∷ rest) ≡ LineEnd
Fits (Separator c) rest = class_at (c ∷ rest) ≡ Semicolon
Fits (Stray c) rest = IsStray (class_at (c ∷ rest)) rest
Fits (Alien c) rest = IsAlien (class_at (c ∷ rest))

-- what a piece means
abbrev pub meaning : Shape → Piece
meaning (Word cs) = whole (token.Name (lowered cs))
meaning (Number ds k) = whole (token.Number (lowered ds) (kind_given k))
meaning (Operator letters m) = whole (token.Mark m)
meaning (Truth letters value k) = whole (token.Truth value (kind_given k))
meaning DotDot = whole (token.Mark mark.DotDot)
meaning (Text k quote parts e) = piece.Token (token.Text (content_of quote parts) (kind_given k)) (continuing parts) (broken_by e)
meaning (Sign m c cs) = whole (token.Mark m)
meaning (Blanks c cs) = piece.Blank
meaning (Comment c cs) = piece.Blank
meaning (Joined c between lead) = piece.Joined
meaning (LastLine c) = piece.Lost
meaning (EndOfLine c) = piece.LineEnd
meaning (Separator c) = piece.Semicolon
meaning (Stray c) = piece.Ill rule.NoToken
meaning (Alien c) = piece.Ill rule.ForeignByte

-- ---- whole texts

abbrev pub spell_text : List Shape → List ℕ
spell_text [] = []
spell_text (s ∷ ss) = spell s (spell_text ss)

abbrev pub FitsText : List Shape → Type 0
FitsText [] = Unit {0}
FitsText (s ∷ ss) = Fits s (spell_text ss) × FitsText ss
