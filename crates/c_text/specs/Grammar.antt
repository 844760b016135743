-- The pieces of a text as a relation: which there are, how each is spelled in front of what follows it, and where it fits (ISO/IEC 9899:2011, 6.4).
use Rattle.std.specs.Prelude.{◌≡◌, ℕ, ◌-◌, List, [], ◌∷◌, ◌++◌, length, Option, Some, None, Bool, true, false, ◌==◌, ◌&&◌, not}
use Rattle.c_text.specs.declared.kind.Kind.{Kind}
use Rattle.c_text.specs.declared.kind.Kind.TheVariants as kind
use Rattle.c_text.specs.Classes.{Class, Letter, Digit, Blank, LineEnd, Quote, Slash, Dot, Mark, Backslash, Foreign, is_alphanumeric, class_of}
use Rattle.c_text.specs.Characters.{Character}
use Rattle.c_text.specs.Rests.{is_exponent, is_in_number, byte_at, digit_is_next}
use Rattle.c_text.specs.Marks.{mark_length}
use Rattle.c_text.specs.Pieces.{kind_of_quote, prefixed_at}

abbrev pub Text : Type 0
Text = List Character

-- ---- runs of characters

abbrev pub word_goes_on : Text → Bool
word_goes_on [] = false
word_goes_on (c ∷ cs) = is_alphanumeric (class_of c.byte)

-- letters, digits and underscores, and what stands behind them begins with none (6.4.2.1)
abbrev pub AreWord : Text → Text → Type 0
AreWord [] rest = word_goes_on rest ≡ false
AreWord (c ∷ cs) rest = (is_alphanumeric (class_of c.byte) ≡ true) × AreWord cs rest

abbrev pub number_goes_on : Bool → Text → Bool
number_goes_on behind_exponent [] = false
number_goes_on behind_exponent (c ∷ cs) = is_in_number behind_exponent c.byte

-- letters, digits, dots, and signs behind an exponent's letter, and what stands behind them begins with none (6.4.8); the test says whether an exponent's letter stands before
abbrev pub AreNumber : Bool → Text → Text → Type 0
AreNumber behind_exponent [] rest = number_goes_on behind_exponent rest ≡ false
AreNumber behind_exponent (c ∷ cs) rest = (is_in_number behind_exponent c.byte ≡ true) × AreNumber (is_exponent c.byte) cs rest

-- the line ends, or the text
abbrev pub line_ends : Text → Bool
line_ends [] = true
line_ends (c ∷ cs) = c.byte == 10

-- what is left of a line
abbrev pub AreLine : Text → Text → Type 0
AreLine [] rest = line_ends rest ≡ true
AreLine (c ∷ cs) rest = ((c.byte == 10) ≡ false) × AreLine cs rest

-- */ stands first
abbrev pub begins_end : Text → Bool
begins_end [] = false
begins_end (c ∷ []) = false
begins_end (c ∷ d ∷ ds) = (c.byte == 42) && (d.byte == 47)

-- */ begins at none of these characters
abbrev pub AreComment : Text → Text → Type 0
AreComment [] rest = Unit {0}
AreComment (c ∷ cs) rest = (begins_end (c ∷ (cs ++ rest)) ≡ false) × AreComment cs rest

-- how a comment ends: with */, or with the text
pub data CommentEnd : Type 0 where
  Ended : (star slash : Character) → CommentEnd
  Unended : CommentEnd

abbrev pub spell_end : CommentEnd → Text → Text
spell_end (Ended s t) rest = s ∷ t ∷ rest
spell_end Unended rest = rest

abbrev pub FitsEnd : CommentEnd → Text → Type 0
FitsEnd (Ended s t) rest = begins_end (s ∷ t ∷ rest) ≡ true
FitsEnd Unended rest = rest ≡ []

-- ---- literals

-- how a literal ends: with its quote, or with its line
pub data Ending : Type 0 where
  Closed : (last : Character) → Ending
  Open : Ending

abbrev pub spell_ending : Ending → Text → Text
spell_ending (Closed z) rest = z ∷ rest
spell_ending Open rest = rest

-- a quote that no backslash escapes
abbrev pub ends_literal : Bool → ℕ → Character → Bool
ends_literal is_escaped quote c = not is_escaped && (c.byte == quote)

abbrev pub FitsEnding : Bool → ℕ → Ending → Text → Type 0
FitsEnding is_escaped quote (Closed z) rest = ((z.byte == 10) ≡ false) × (ends_literal is_escaped quote z ≡ true)
FitsEnding is_escaped quote Open rest = line_ends rest ≡ true

-- the characters of a literal between its quotes (6.4.4.4, 6.4.5): no line end, and a quote of its own only behind a backslash that no other escapes; the test says whether the first is escaped
abbrev pub AreLiteral : Bool → ℕ → Text → Ending → Text → Type 0
AreLiteral is_escaped quote [] e rest = FitsEnding is_escaped quote e rest
AreLiteral is_escaped quote (c ∷ cs) e rest = ((c.byte == 10) ≡ false) × (ends_literal is_escaped quote c ≡ false) × AreLiteral (not is_escaped && (c.byte == 92)) quote cs e rest

-- what stands before the first quote: nothing, L, u or U, or u8
pub data Prefix : Type 0 where
  Plain : Prefix
  Wide : (c : Character) → Prefix
  Eight : (c d : Character) → Prefix

abbrev pub spell_prefix : Prefix → Text → Text
spell_prefix Plain rest = rest
spell_prefix (Wide c) rest = c ∷ rest
spell_prefix (Eight c d) rest = c ∷ d ∷ rest

abbrev pub FitsPrefix : Prefix → Character → Text → Type 0
FitsPrefix Plain q rest = class_of q.byte ≡ Quote
FitsPrefix (Wide c) q rest = (class_of c.byte ≡ Letter) × (prefixed_at c.byte (q ∷ rest) ≡ Some (q.byte, rest))
FitsPrefix (Eight c d) q rest = (class_of c.byte ≡ Letter) × (prefixed_at c.byte (d ∷ q ∷ rest) ≡ Some (q.byte, rest))

abbrev pub ending_kind : ℕ → Ending → Kind
ending_kind quote (Closed z) = kind_of_quote quote
ending_kind quote Open = kind.OpenText

abbrev pub end_kind : CommentEnd → Option Kind
end_kind (Ended s t) = None
end_kind Unended = Some kind.OpenText

-- ---- pieces

pub data Shape : Type 0 where
  Word : (c : Character) (cs : Text) → Shape
  Number : (c : Character) (cs : Text) → Shape
  Literal : (p : Prefix) (quote : Character) (cs : Text) (e : Ending) → Shape
  Sign : (c : Character) (cs : Text) → Shape
  Space : (c : Character) → Shape
  LineComment : (c d : Character) (cs : Text) → Shape
  Comment : (c d : Character) (cs : Text) (e : CommentEnd) → Shape
  EndOfLine : (c : Character) → Shape
  Stray : (c : Character) → Shape
  Alien : (c : Character) → Shape

abbrev pub spell : Shape → Text → Text
spell (Word c cs) rest = c ∷ (cs ++ rest)
spell (Number c cs) rest = c ∷ (cs ++ rest)
spell (Literal p q cs e) rest = spell_prefix p (q ∷ (cs ++ spell_ending e rest))
spell (Sign c cs) rest = c ∷ (cs ++ rest)
spell (Space c) rest = c ∷ rest
spell (LineComment c d cs) rest = c ∷ d ∷ (cs ++ rest)
spell (Comment c d cs e) rest = c ∷ d ∷ (cs ++ spell_end e rest)
spell (EndOfLine c) rest = c ∷ rest
spell (Stray c) rest = c ∷ rest
spell (Alien c) rest = c ∷ rest

-- a number begins with a digit, or a dot and a digit
abbrev pub BeginsNumber : Class → Text → Type 0
BeginsNumber Digit rest = Unit {0}
BeginsNumber Dot rest = digit_is_next rest ≡ true
BeginsNumber _ rest = ⊥

-- a punctuator begins with a mark, with a dot that begins no number, or with a slash that begins no comment
abbrev pub BeginsSign : Class → Text → Type 0
BeginsSign Mark rest = Unit {0}
BeginsSign Dot rest = digit_is_next rest ≡ false
BeginsSign Slash rest = (byte_at 47 rest ≡ None) × (byte_at 42 rest ≡ None)
BeginsSign _ rest = ⊥

-- where a piece fits in front of what follows: each is the longest
abbrev pub Fits : Shape → Text → Type 0
Fits (Word c cs) rest = (class_of c.byte ≡ Letter) × (prefixed_at c.byte (cs ++ rest) ≡ None) × AreWord cs rest
Fits (Number c cs) rest = BeginsNumber (class_of c.byte) (cs ++ rest) × AreNumber false cs rest
Fits (Literal p q cs e) rest = FitsPrefix p q (cs ++ spell_ending e rest) × AreLiteral false q.byte cs e rest
Fits (Sign c cs) rest = BeginsSign (class_of c.byte) (cs ++ rest) × (length cs ≡ mark_length (c ∷ (cs ++ rest)) - 1)
Fits (Space c) rest = class_of c.byte ≡ Blank
Fits (LineComment c d cs) rest = (class_of c.byte ≡ Slash) × ((d.byte == 47) ≡ true) × AreLine cs rest
Fits (Comment c d cs e) rest = (class_of c.byte ≡ Slash) × ((d.byte == 47) ≡ false) × ((d.byte == 42) ≡ true) × AreComment cs (spell_end e rest) × FitsEnd e rest
Fits (EndOfLine c) rest = class_of c.byte ≡ LineEnd
Fits (Stray c) rest = class_of c.byte ≡ Backslash
Fits (Alien c) rest = class_of c.byte ≡ Foreign

-- what a piece is, or white space
abbrev pub meaning : Shape → Option Kind
meaning (Word c cs) = Some kind.Name
meaning (Number c cs) = Some kind.Number
meaning (Literal p q cs e) = Some (ending_kind q.byte e)
meaning (Sign c cs) = Some kind.Mark
meaning (Space c) = None
meaning (LineComment c d cs) = None
meaning (Comment c d cs e) = end_kind e
meaning (EndOfLine c) = Some kind.LineEnd
meaning (Stray c) = Some kind.Other
meaning (Alien c) = Some kind.ForeignByte

-- ---- whole texts

abbrev pub spell_text : List Shape → Text
spell_text [] = []
spell_text (s ∷ ss) = spell s (spell_text ss)

abbrev pub FitsText : List Shape → Type 0
FitsText [] = Unit {0}
FitsText (s ∷ ss) = Fits s (spell_text ss) × FitsText ss
