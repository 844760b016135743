-- What is computed of the text of a header: its lexemes, part by part, and what they give.
use Rattle.std.proofs.Common.{◌≡◌, ℕ, ◌++◌, drop, true, false, List, [], ◌∷◌, refl}
use Rattle.jf_base.specs.declared.place.Place.{Place}
use Rattle.c_text.specs.declared.kind.Lexeme.{Lexeme}
use Rattle.c_headers.specs.Headers.{text_of}
use Rattle.c_headers.specs.declared.header.Header.TheVariants.{Limits}
use Rattle.c_define.specs.Definitions.{no_macros}
use Rattle.c_directives.specs.Reading.{Including}
use Rattle.c_header_laws.specs.Declared.{with_all, nothing}
use Rattle.c_header_laws.specs.Headers.{LimitsDeclares, limits_of_integers}
use Rattle.c_header_laws.proofs.Plain.{lexemes_at, plain_lexemes, is_plain}
use Rattle.c_header_laws.proofs.Parts.{Part, in_front}
use Rattle.c_header_laws.proofs.Texts.{word, digits, mark_of_text, line_end, ends_with, course_of, macros_behind, read_of, declares_by, closed_texts}

abbrev pub from_1 : List Lexeme
from_1 = mark_of_text "#" 1 1 false ∷ word "ifndef" 1 2 false ∷ word "__limits_h" 1 9 true ∷ line_end 1 19
    ∷ mark_of_text "#" 2 1 false ∷ word "define" 2 2 false ∷ word "__limits_h" 2 9 true ∷ line_end 2 19
    ∷ mark_of_text "#" 3 1 false ∷ word "define" 3 2 false ∷ word "CHAR_BIT" 3 9 true ∷ digits "8" 3 18 true ∷ line_end 3 19
    ∷ mark_of_text "#" 4 1 false ∷ word "define" 4 2 false ∷ word "SCHAR_MIN" 4 9 true ∷ mark_of_text "(" 4 19 true ∷ mark_of_text "-" 4 20 false ∷ digits "128" 4 21 false ∷ mark_of_text ")" 4 24 false ∷ line_end 4 25
    ∷ mark_of_text "#" 5 1 false ∷ word "define" 5 2 false ∷ word "SCHAR_MAX" 5 9 true ∷ digits "127" 5 19 true ∷ line_end 5 22
    ∷ mark_of_text "#" 6 1 false ∷ word "define" 6 2 false ∷ word "UCHAR_MAX" 6 9 true ∷ digits "255" 6 19 true ∷ line_end 6 22 ∷ []

abbrev pub from_7 : List Lexeme
from_7 = mark_of_text "#" 7 1 false ∷ word "define" 7 2 false ∷ word "CHAR_MIN" 7 9 true ∷ digits "0" 7 18 true ∷ line_end 7 19
    ∷ mark_of_text "#" 8 1 false ∷ word "define" 8 2 false ∷ word "CHAR_MAX" 8 9 true ∷ digits "255" 8 18 true ∷ line_end 8 21
    ∷ mark_of_text "#" 9 1 false ∷ word "define" 9 2 false ∷ word "MB_LEN_MAX" 9 9 true ∷ digits "1" 9 20 true ∷ line_end 9 21
    ∷ mark_of_text "#" 10 1 false ∷ word "define" 10 2 false ∷ word "SHRT_MIN" 10 9 true ∷ mark_of_text "(" 10 18 true ∷ mark_of_text "-" 10 19 false ∷ digits "32768" 10 20 false ∷ mark_of_text ")" 10 25 false ∷ line_end 10 26
    ∷ mark_of_text "#" 11 1 false ∷ word "define" 11 2 false ∷ word "SHRT_MAX" 11 9 true ∷ digits "32767" 11 18 true ∷ line_end 11 23 ∷ []

abbrev pub from_12 : List Lexeme
from_12 = mark_of_text "#" 12 1 false ∷ word "define" 12 2 false ∷ word "USHRT_MAX" 12 9 true ∷ digits "65535" 12 19 true ∷ line_end 12 24
    ∷ mark_of_text "#" 13 1 false ∷ word "define" 13 2 false ∷ word "INT_MIN" 13 9 true ∷ mark_of_text "(" 13 17 true ∷ mark_of_text "-" 13 18 false ∷ digits "2147483647" 13 19 false ∷ mark_of_text "-" 13 29 false ∷ digits "1" 13 30 false ∷ mark_of_text ")" 13 31 false ∷ line_end 13 32
    ∷ mark_of_text "#" 14 1 false ∷ word "define" 14 2 false ∷ word "INT_MAX" 14 9 true ∷ digits "2147483647" 14 17 true ∷ line_end 14 27
    ∷ mark_of_text "#" 15 1 false ∷ word "define" 15 2 false ∷ word "UINT_MAX" 15 9 true ∷ digits "4294967295U" 15 18 true ∷ line_end 15 29 ∷ []

abbrev pub from_16 : List Lexeme
from_16 = mark_of_text "#" 16 1 false ∷ word "define" 16 2 false ∷ word "LONG_MIN" 16 9 true ∷ mark_of_text "(" 16 18 true ∷ mark_of_text "-" 16 19 false ∷ digits "9223372036854775807L" 16 20 false ∷ mark_of_text "-" 16 40 false ∷ digits "1" 16 41 false ∷ mark_of_text ")" 16 42 false ∷ line_end 16 43
    ∷ mark_of_text "#" 17 1 false ∷ word "define" 17 2 false ∷ word "LONG_MAX" 17 9 true ∷ digits "9223372036854775807L" 17 18 true ∷ line_end 17 38
    ∷ mark_of_text "#" 18 1 false ∷ word "define" 18 2 false ∷ word "ULONG_MAX" 18 9 true ∷ digits "18446744073709551615UL" 18 19 true ∷ line_end 18 41 ∷ []

abbrev pub from_19 : List Lexeme
from_19 = mark_of_text "#" 19 1 false ∷ word "define" 19 2 false ∷ word "LLONG_MIN" 19 9 true ∷ mark_of_text "(" 19 19 true ∷ mark_of_text "-" 19 20 false ∷ digits "9223372036854775807LL" 19 21 false ∷ mark_of_text "-" 19 42 false ∷ digits "1" 19 43 false ∷ mark_of_text ")" 19 44 false ∷ line_end 19 45
    ∷ mark_of_text "#" 20 1 false ∷ word "define" 20 2 false ∷ word "LLONG_MAX" 20 9 true ∷ digits "9223372036854775807LL" 20 19 true ∷ line_end 20 40
    ∷ mark_of_text "#" 21 1 false ∷ word "define" 21 2 false ∷ word "ULLONG_MAX" 21 9 true ∷ digits "18446744073709551615ULL" 21 20 true ∷ line_end 21 43 ∷ []

abbrev pub from_22 : List Lexeme
from_22 = mark_of_text "#" 22 1 false ∷ word "endif" 22 2 false ∷ line_end 22 7 ∷ []

text_7 : List ℕ
text_7 = drop 126 (text_of Limits)

part_1 : Part 1 7 125 (text_of Limits) text_7 from_1
unfolding closed_texts text_7
part_1 = record { ends = refl; closed = refl; lines = refl; here = refl; left = refl }

text_12 : List ℕ
text_12 = drop 110 text_7

part_7 : Part 7 12 109 text_7 text_12 from_7
unfolding closed_texts text_7 text_12
part_7 = record { ends = refl; closed = refl; lines = refl; here = refl; left = refl }

text_16 : List ℕ
text_16 = drop 112 text_12

part_12 : Part 12 16 111 text_12 text_16 from_12
unfolding closed_texts text_7 text_12 text_16
part_12 = record { ends = refl; closed = refl; lines = refl; here = refl; left = refl }

text_19 : List ℕ
text_19 = drop 122 text_16

part_16 : Part 16 19 121 text_16 text_19 from_16
unfolding closed_texts text_7 text_12 text_16 text_19
part_16 = record { ends = refl; closed = refl; lines = refl; here = refl; left = refl }

text_22 : List ℕ
text_22 = drop 128 text_19

part_19 : Part 19 22 127 text_19 text_22 from_19
unfolding closed_texts text_7 text_12 text_16 text_19 text_22
part_19 = record { ends = refl; closed = refl; lines = refl; here = refl; left = refl }

part_22 : lexemes_at 22 text_22 ≡ from_22
unfolding closed_texts text_7 text_12 text_16 text_19 text_22
part_22 = refl

abbrev pub limits : List Lexeme
limits = from_1 ++ (from_7 ++ (from_12 ++ (from_16 ++ (from_19 ++ from_22))))

pub limits_lexemes : plain_lexemes (text_of Limits) ≡ limits
limits_lexemes = in_front part_1 (in_front part_7 (in_front part_12 (in_front part_16 (in_front part_19 part_22))))

limits_plain : is_plain (text_of Limits) ≡ true
limits_plain = refl

limits_course : (including : Including) (place : Place) (calls : ℕ) → course_of (read_of including place calls limits) ≡ ends_with calls []
unfolding closed_texts
limits_course including place calls = refl

limits_macros : (including : Including) (place : Place) (calls : ℕ) → macros_behind (read_of including place calls limits) ≡ with_all no_macros (nothing "__limits_h" ∷ limits_of_integers)
unfolding closed_texts
limits_macros including place calls = refl

pub limits_declares : LimitsDeclares
limits_declares including place calls = declares_by including place calls Limits [] (nothing "__limits_h" ∷ limits_of_integers) limits refl limits_plain limits_lexemes (limits_course including place calls) (limits_macros including place calls)
