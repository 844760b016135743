-- Lines of a source text: ISO/IEC 1539-1:2018, 6.3.2.2 (blanks in free source form), and ISO/IEC 9899:2011, 5.1.1.2 and 5.2.1 (source lines).
use Rattle.std.specs.Prelude.{◌==◌, ℕ, Bool, List, [], ◌∷◌, ◌++◌, map, reverse, if◌then◌else◌, ◌||◌}
use Rattle.std.specs.Str.Lines.{lines}

-- a space or a tab
abbrev pub is_blank : ℕ → Bool
is_blank byte = byte == 32 || byte == 9

abbrev pub without_leading_blanks : List ℕ → List ℕ
without_leading_blanks [] = []
without_leading_blanks (byte ∷ bytes) = if is_blank byte then without_leading_blanks bytes else byte ∷ bytes

-- the line without the blanks at both its ends
abbrev pub trimmed : List ℕ → List ℕ
trimmed line = reverse (without_leading_blanks (reverse (without_leading_blanks line)))

-- A text is cut at its line feeds, and a carriage return before a line feed is dropped. An empty rest behind the last line feed is no line.
unfoldable pub text_lines : List ℕ → List (List ℕ)
text_lines text = map trimmed (lines text)

-- the lines, each with a line feed behind it
abbrev pub written : List (List ℕ) → List ℕ
written [] = []
written (line ∷ more) = line ++ (10 ∷ written more)
