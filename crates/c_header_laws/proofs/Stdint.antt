-- What is computed of the text of a header: its lexemes, part by part, and what they give.
use Rattle.std.proofs.Common.{◌≡◌, ℕ, ◌++◌, drop, true, false, List, [], ◌∷◌, refl}
use Rattle.jf_base.specs.declared.place.Place.{Place}
use Rattle.c_text.specs.declared.kind.Lexeme.{Lexeme}
use Rattle.c_headers.specs.Headers.{text_of}
use Rattle.c_headers.specs.declared.header.Header.TheVariants.{Stdint}
use Rattle.c_define.specs.Definitions.{no_macros}
use Rattle.c_directives.specs.Reading.{Including}
use Rattle.c_header_laws.specs.Declared.{with_all, nothing}
use Rattle.c_header_laws.specs.Headers.{StdintDeclares, integer_types, limits_of_types}
use Rattle.c_header_laws.proofs.Plain.{lexemes_at, plain_lexemes, is_plain}
use Rattle.c_header_laws.proofs.Parts.{Part, in_front}
use Rattle.c_header_laws.proofs.Texts.{word, digits, mark_of_text, line_end, ends_with, course_of, macros_behind, read_of, declares_by, closed_texts}

abbrev pub from_1 : List Lexeme
from_1 = mark_of_text "#" 1 1 false ∷ word "ifndef" 1 2 false ∷ word "__stdint_h" 1 9 true ∷ line_end 1 19
    ∷ mark_of_text "#" 2 1 false ∷ word "define" 2 2 false ∷ word "__stdint_h" 2 9 true ∷ line_end 2 19
    ∷ word "typedef" 3 1 false ∷ word "signed" 3 9 true ∷ word "char" 3 16 true ∷ word "int8_t" 3 21 true ∷ mark_of_text ";" 3 27 false ∷ line_end 3 28
    ∷ word "typedef" 4 1 false ∷ word "short" 4 9 true ∷ word "int16_t" 4 15 true ∷ mark_of_text ";" 4 22 false ∷ line_end 4 23
    ∷ word "typedef" 5 1 false ∷ word "int" 5 9 true ∷ word "int32_t" 5 13 true ∷ mark_of_text ";" 5 20 false ∷ line_end 5 21 ∷ []

abbrev pub from_6 : List Lexeme
from_6 = word "typedef" 6 1 false ∷ word "long" 6 9 true ∷ word "int64_t" 6 14 true ∷ mark_of_text ";" 6 21 false ∷ line_end 6 22
    ∷ word "typedef" 7 1 false ∷ word "unsigned" 7 9 true ∷ word "char" 7 18 true ∷ word "uint8_t" 7 23 true ∷ mark_of_text ";" 7 30 false ∷ line_end 7 31
    ∷ word "typedef" 8 1 false ∷ word "unsigned" 8 9 true ∷ word "short" 8 18 true ∷ word "uint16_t" 8 24 true ∷ mark_of_text ";" 8 32 false ∷ line_end 8 33
    ∷ word "typedef" 9 1 false ∷ word "unsigned" 9 9 true ∷ word "int" 9 18 true ∷ word "uint32_t" 9 22 true ∷ mark_of_text ";" 9 30 false ∷ line_end 9 31 ∷ []

abbrev pub from_10 : List Lexeme
from_10 = word "typedef" 10 1 false ∷ word "unsigned" 10 9 true ∷ word "long" 10 18 true ∷ word "uint64_t" 10 23 true ∷ mark_of_text ";" 10 31 false ∷ line_end 10 32
    ∷ word "typedef" 11 1 false ∷ word "long" 11 9 true ∷ word "intmax_t" 11 14 true ∷ mark_of_text ";" 11 22 false ∷ line_end 11 23
    ∷ word "typedef" 12 1 false ∷ word "unsigned" 12 9 true ∷ word "long" 12 18 true ∷ word "uintmax_t" 12 23 true ∷ mark_of_text ";" 12 32 false ∷ line_end 12 33
    ∷ word "typedef" 13 1 false ∷ word "long" 13 9 true ∷ word "intptr_t" 13 14 true ∷ mark_of_text ";" 13 22 false ∷ line_end 13 23 ∷ []

abbrev pub from_14 : List Lexeme
from_14 = word "typedef" 14 1 false ∷ word "unsigned" 14 9 true ∷ word "long" 14 18 true ∷ word "uintptr_t" 14 23 true ∷ mark_of_text ";" 14 32 false ∷ line_end 14 33
    ∷ mark_of_text "#" 15 1 false ∷ word "define" 15 2 false ∷ word "INT8_MIN" 15 9 true ∷ mark_of_text "(" 15 18 true ∷ mark_of_text "-" 15 19 false ∷ digits "128" 15 20 false ∷ mark_of_text ")" 15 23 false ∷ line_end 15 24
    ∷ mark_of_text "#" 16 1 false ∷ word "define" 16 2 false ∷ word "INT8_MAX" 16 9 true ∷ digits "127" 16 18 true ∷ line_end 16 21
    ∷ mark_of_text "#" 17 1 false ∷ word "define" 17 2 false ∷ word "UINT8_MAX" 17 9 true ∷ digits "255" 17 19 true ∷ line_end 17 22
    ∷ mark_of_text "#" 18 1 false ∷ word "define" 18 2 false ∷ word "INT16_MIN" 18 9 true ∷ mark_of_text "(" 18 19 true ∷ mark_of_text "-" 18 20 false ∷ digits "32768" 18 21 false ∷ mark_of_text ")" 18 26 false ∷ line_end 18 27 ∷ []

abbrev pub from_19 : List Lexeme
from_19 = mark_of_text "#" 19 1 false ∷ word "define" 19 2 false ∷ word "INT16_MAX" 19 9 true ∷ digits "32767" 19 19 true ∷ line_end 19 24
    ∷ mark_of_text "#" 20 1 false ∷ word "define" 20 2 false ∷ word "UINT16_MAX" 20 9 true ∷ digits "65535" 20 20 true ∷ line_end 20 25
    ∷ mark_of_text "#" 21 1 false ∷ word "define" 21 2 false ∷ word "INT32_MIN" 21 9 true ∷ mark_of_text "(" 21 19 true ∷ mark_of_text "-" 21 20 false ∷ digits "2147483647" 21 21 false ∷ mark_of_text "-" 21 31 false ∷ digits "1" 21 32 false ∷ mark_of_text ")" 21 33 false ∷ line_end 21 34
    ∷ mark_of_text "#" 22 1 false ∷ word "define" 22 2 false ∷ word "INT32_MAX" 22 9 true ∷ digits "2147483647" 22 19 true ∷ line_end 22 29 ∷ []

abbrev pub from_23 : List Lexeme
from_23 = mark_of_text "#" 23 1 false ∷ word "define" 23 2 false ∷ word "UINT32_MAX" 23 9 true ∷ digits "4294967295U" 23 20 true ∷ line_end 23 31
    ∷ mark_of_text "#" 24 1 false ∷ word "define" 24 2 false ∷ word "INT64_MIN" 24 9 true ∷ mark_of_text "(" 24 19 true ∷ mark_of_text "-" 24 20 false ∷ digits "9223372036854775807L" 24 21 false ∷ mark_of_text "-" 24 41 false ∷ digits "1" 24 42 false ∷ mark_of_text ")" 24 43 false ∷ line_end 24 44
    ∷ mark_of_text "#" 25 1 false ∷ word "define" 25 2 false ∷ word "INT64_MAX" 25 9 true ∷ digits "9223372036854775807L" 25 19 true ∷ line_end 25 39 ∷ []

abbrev pub from_26 : List Lexeme
from_26 = mark_of_text "#" 26 1 false ∷ word "define" 26 2 false ∷ word "UINT64_MAX" 26 9 true ∷ digits "18446744073709551615UL" 26 20 true ∷ line_end 26 42
    ∷ mark_of_text "#" 27 1 false ∷ word "define" 27 2 false ∷ word "INTMAX_MIN" 27 9 true ∷ mark_of_text "(" 27 20 true ∷ mark_of_text "-" 27 21 false ∷ digits "9223372036854775807L" 27 22 false ∷ mark_of_text "-" 27 42 false ∷ digits "1" 27 43 false ∷ mark_of_text ")" 27 44 false ∷ line_end 27 45
    ∷ mark_of_text "#" 28 1 false ∷ word "define" 28 2 false ∷ word "INTMAX_MAX" 28 9 true ∷ digits "9223372036854775807L" 28 20 true ∷ line_end 28 40 ∷ []

abbrev pub from_29 : List Lexeme
from_29 = mark_of_text "#" 29 1 false ∷ word "define" 29 2 false ∷ word "UINTMAX_MAX" 29 9 true ∷ digits "18446744073709551615UL" 29 21 true ∷ line_end 29 43
    ∷ mark_of_text "#" 30 1 false ∷ word "define" 30 2 false ∷ word "INTPTR_MIN" 30 9 true ∷ mark_of_text "(" 30 20 true ∷ mark_of_text "-" 30 21 false ∷ digits "9223372036854775807L" 30 22 false ∷ mark_of_text "-" 30 42 false ∷ digits "1" 30 43 false ∷ mark_of_text ")" 30 44 false ∷ line_end 30 45
    ∷ mark_of_text "#" 31 1 false ∷ word "define" 31 2 false ∷ word "INTPTR_MAX" 31 9 true ∷ digits "9223372036854775807L" 31 20 true ∷ line_end 31 40 ∷ []

abbrev pub from_32 : List Lexeme
from_32 = mark_of_text "#" 32 1 false ∷ word "define" 32 2 false ∷ word "UINTPTR_MAX" 32 9 true ∷ digits "18446744073709551615UL" 32 21 true ∷ line_end 32 43
    ∷ mark_of_text "#" 33 1 false ∷ word "endif" 33 2 false ∷ line_end 33 7 ∷ []

text_6 : List ℕ
text_6 = drop 110 (text_of Stdint)

part_1 : Part 1 6 109 (text_of Stdint) text_6 from_1
unfolding closed_texts text_6
part_1 = record { ends = refl; closed = refl; lines = refl; here = refl; left = refl }

text_10 : List ℕ
text_10 = drop 117 text_6

part_6 : Part 6 10 116 text_6 text_10 from_6
unfolding closed_texts text_6 text_10
part_6 = record { ends = refl; closed = refl; lines = refl; here = refl; left = refl }

text_14 : List ℕ
text_14 = drop 111 text_10

part_10 : Part 10 14 110 text_10 text_14 from_10
unfolding closed_texts text_6 text_10 text_14
part_10 = record { ends = refl; closed = refl; lines = refl; here = refl; left = refl }

text_19 : List ℕ
text_19 = drop 127 text_14

part_14 : Part 14 19 126 text_14 text_19 from_14
unfolding closed_texts text_6 text_10 text_14 text_19
part_14 = record { ends = refl; closed = refl; lines = refl; here = refl; left = refl }

text_23 : List ℕ
text_23 = drop 112 text_19

part_19 : Part 19 23 111 text_19 text_23 from_19
unfolding closed_texts text_6 text_10 text_14 text_19 text_23
part_19 = record { ends = refl; closed = refl; lines = refl; here = refl; left = refl }

text_26 : List ℕ
text_26 = drop 114 text_23

part_23 : Part 23 26 113 text_23 text_26 from_23
unfolding closed_texts text_6 text_10 text_14 text_19 text_23 text_26
part_23 = record { ends = refl; closed = refl; lines = refl; here = refl; left = refl }

text_29 : List ℕ
text_29 = drop 127 text_26

part_26 : Part 26 29 126 text_26 text_29 from_26
unfolding closed_texts text_6 text_10 text_14 text_19 text_23 text_26 text_29
part_26 = record { ends = refl; closed = refl; lines = refl; here = refl; left = refl }

text_32 : List ℕ
text_32 = drop 128 text_29

part_29 : Part 29 32 127 text_29 text_32 from_29
unfolding closed_texts text_6 text_10 text_14 text_19 text_23 text_26 text_29 text_32
part_29 = record { ends = refl; closed = refl; lines = refl; here = refl; left = refl }

part_32 : lexemes_at 32 text_32 ≡ from_32
unfolding closed_texts text_6 text_10 text_14 text_19 text_23 text_26 text_29 text_32
part_32 = refl

abbrev pub stdint : List Lexeme
stdint = from_1 ++ (from_6 ++ (from_10 ++ (from_14 ++ (from_19 ++ (from_23 ++ (from_26 ++ (from_29 ++ from_32)))))))

pub stdint_lexemes : plain_lexemes (text_of Stdint) ≡ stdint
stdint_lexemes = in_front part_1 (in_front part_6 (in_front part_10 (in_front part_14 (in_front part_19 (in_front part_23 (in_front part_26 (in_front part_29 part_32)))))))

stdint_plain : is_plain (text_of Stdint) ≡ true
stdint_plain = refl

stdint_course : (including : Including) (place : Place) (calls : ℕ) → course_of (read_of including place calls stdint) ≡ ends_with calls integer_types
unfolding closed_texts
stdint_course including place calls = refl

stdint_macros : (including : Including) (place : Place) (calls : ℕ) → macros_behind (read_of including place calls stdint) ≡ with_all no_macros (nothing "__stdint_h" ∷ limits_of_types)
unfolding closed_texts
stdint_macros including place calls = refl

pub stdint_declares : StdintDeclares
stdint_declares including place calls = declares_by including place calls Stdint integer_types (nothing "__stdint_h" ∷ limits_of_types) stdint refl stdint_plain stdint_lexemes (stdint_course including place calls) (stdint_macros including place calls)
