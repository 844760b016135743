-- The relation between a whole text and its list of tokens, and the first broken rule of a text (ISO/IEC 1539-1:2018, 6.2 and 6.3.2).
use Rattle.std.specs.Prelude.{◌≡◌, ℕ, ◌<◌, ◌≤◌, ◌⊎◌, List, [], ◌∷◌, ◌++◌, length, Option, Some, None, Result, Ok, Err, false}
use Rattle.std.specs.declared.vec.Vec.{Vec}
use Rattle.std.specs.declared.alloc.Global.{Global}
use Rattle.jf_base.specs.declared.place.Refusal.{Refusal}
use Rattle.jf_base.specs.declared.place.Refusal.TheVariants.{Memory, At}
use Rattle.f_lex.specs.declared.fault.Rule.TheVariants as rule
use Rattle.f_lex.specs.declared.piece.Piece.TheVariants as piece
use Rattle.f_lex.specs.declared.token.Spanned.{Spanned}
use Rattle.f_lex.specs.declared.reader.Fault.{Fault}
use Rattle.f_lex.specs.Rules.{tag_number, is_before, long_lines}
use Rattle.f_lex.specs.Grammar.{Shape, spell, meaning, spell_text, FitsText}
use Rattle.f_lex.specs.Source.{Cut, breaks_from, tokens_from, first_point, start}

-- the text consists of these pieces
pub record Consists (bytes : List ℕ) (shapes : List Shape) : Type 0 where
  pub fits : FitsText shapes
  pub spelled : bytes ≡ spell_text shapes

-- each piece with its bytes, and the line end that the end of the file stands for
abbrev pub cuts_of : List Shape → List Cut
cuts_of [] = (piece.LineEnd, []) ∷ []
cuts_of (s ∷ ss) = (meaning s, spell s []) ∷ cuts_of ss

-- of each line and of each piece, which rules it breaks
abbrev pub asked : ℕ → List ℕ → List Shape → List (Option Fault)
asked before bytes shapes = long_lines 1 0 bytes ++ breaks_from (start before) (cuts_of shapes)

-- no rule is broken
abbrev pub AreKept : List (Option Fault) → Type 0
AreKept [] = Unit {0}
AreKept (o ∷ os) = (o ≡ None) × AreKept os

abbrev pub IsAmong : Fault → List (Option Fault) → Type 0
IsAmong f [] = ⊥
IsAmong f (o ∷ os) = (o ≡ Some f) ⊎ IsAmong f os

abbrev pub NotBefore : Fault → Option Fault → Type 0
NotBefore f None = Unit {0}
NotBefore f (Some g) = is_before g f ≡ false

abbrev pub NoneBefore : Fault → List (Option Fault) → Type 0
NoneBefore f [] = Unit {0}
NoneBefore f (o ∷ os) = NotBefore f o × NoneBefore f os

-- the text of a file has these tokens: they are those of its pieces, and no rule is broken
pub record Lexes (file before : ℕ) (bytes : List ℕ) (tokens : List Spanned) : Type 0 where
  pub size : length bytes ≤ 1048576
  pub shapes : List Shape
  pub consists : Consists bytes shapes
  pub kept : AreKept (asked before bytes shapes)
  pub tokens_are : tokens ≡ tokens_from file (start before) (cuts_of shapes)

-- this rule is broken there, and none at an earlier place, nor one with a smaller tag at the same place
pub record BreaksFirst (before : ℕ) (bytes : List ℕ) (f : Fault) : Type 0 where
  pub size : length bytes ≤ 1048576
  pub shapes : List Shape
  pub consists : Consists bytes shapes
  pub broken : IsAmong f (asked before bytes shapes)
  pub first : NoneBefore f (asked before bytes shapes)

abbrev pub too_large : Fault
too_large = record { point = first_point; rule = rule.TooMany }

-- the first broken rule of a text, where the size of the file is looked at first
abbrev pub Breaks : ℕ → List ℕ → Fault → Type 0
Breaks before bytes f = ((1048576 < length bytes) × (f ≡ too_large)) ⊎ BreaksFirst before bytes f

-- what `lex` answers: the tokens, or the first broken rule, or that memory was wanting
abbrev pub IsLexed : ℕ → ℕ → List ℕ → Result (Vec Spanned Global) Refusal → Type 0
IsLexed file before bytes (Ok v) = Lexes file before bytes v.items
IsLexed file before bytes (Err Memory) = Unit {0}
IsLexed file before bytes (Err (At place tag)) = (f : Fault) × Breaks before bytes f × (place ≡ record { file = file; line = f.point.line; column = f.point.column }) × (tag.0 ≡ tag_number f.rule)
