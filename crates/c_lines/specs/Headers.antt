-- Names of headers (ISO/IEC 9899:2011, 6.4.7 and 6.10.2).
use Rattle.std.specs.Prelude.{ℕ, List, [], ◌∷◌, ◌++◌, Option, Some, None, Bool, true, false, ◌==◌, if◌then◌else◌}
use Rattle.c_text.specs.declared.kind.Lexeme.{Lexeme}
use Rattle.c_lines.specs.declared.header.Delimiter.{Delimiter}
use Rattle.c_lines.specs.declared.header.Delimiter.TheVariants as delimiter

abbrev pub seen : {X Y : Type 0} → (X → Y) → Option X → Option Y
seen view None = None
seen view (Some x) = Some (view x)

abbrev pub blank_before : Lexeme → List ℕ
blank_before l = if l.after_blank then 32 ∷ [] else []

-- how the lexemes of a line are spelled, with a blank where white space stands before one
unfoldable pub spelled_behind : List Lexeme → List ℕ
spelled_behind [] = []
spelled_behind (l ∷ ls) = (blank_before l ++ l.spelling) ++ spelled_behind ls

unfoldable pub spelled : List Lexeme → List ℕ
spelled [] = []
spelled (l ∷ ls) = l.spelling ++ spelled_behind ls

abbrev pub end_only : List ℕ → Option (List ℕ)
end_only [] = Some []
end_only (c ∷ cs) = None

-- what stands before the byte, where it stands last and nowhere else
abbrev pub before_end : ℕ → List ℕ → Option (List ℕ)
before_end close [] = None
before_end close (c ∷ cs) = if c == close then end_only cs else seen (λ name. c ∷ name) (before_end close cs)

abbrev pub not_empty : Delimiter → Option (List ℕ) → Option (Delimiter × List ℕ)
not_empty d None = None
not_empty d (Some []) = None
not_empty d (Some (c ∷ cs)) = Some (d, c ∷ cs)

-- the name of a header: between < and the first >, or between " and the next ", with nothing behind it
unfoldable pub header_of : List ℕ → Option (Delimiter × List ℕ)
header_of [] = None
header_of (c ∷ cs) = if c == 60 then not_empty delimiter.Angle (before_end 62 cs) else if c == 34 then not_empty delimiter.Quote (before_end 34 cs) else None
