-- The relation between the bytes of a text and its lexemes (ISO/IEC 9899:2011, 5.1.1.2 and 6.4).
use Rattle.std.specs.Prelude.{◌≡◌, ℕ, List, [], ◌∷◌, false}
use Rattle.c_text.specs.declared.kind.Lexeme.{Lexeme}
use Rattle.c_text.specs.Source.{Cut, lexemes_from, text_of}
use Rattle.c_text.specs.Grammar.{Text, Shape, spell, meaning, spell_text, FitsText}

-- a text consists of these pieces
pub record Consists (text : Text) (shapes : List Shape) : Type 0 where
  pub fits : FitsText shapes
  pub spelled : text ≡ spell_text shapes

-- each piece with its characters
abbrev pub cuts_of : List Shape → List Cut
cuts_of [] = []
cuts_of (s ∷ ss) = (meaning s, spell s []) ∷ cuts_of ss

-- bytes have these lexemes: they are those of the pieces that the characters consist of
pub record Lexes (bytes : List ℕ) (lexemes : List Lexeme) : Type 0 where
  pub shapes : List Shape
  pub consists : Consists (text_of bytes) shapes
  pub given : lexemes ≡ lexemes_from false (cuts_of shapes)
