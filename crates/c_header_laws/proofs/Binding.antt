-- What is computed of the text of a header: its lexemes, part by part, and what they give.
use Rattle.std.proofs.Common.{◌≡◌, ℕ, ◌++◌, drop, true, false, List, [], ◌∷◌, refl}
use Rattle.jf_base.specs.declared.place.Place.{Place}
use Rattle.c_text.specs.declared.kind.Lexeme.{Lexeme}
use Rattle.c_headers.specs.Headers.{text_of}
use Rattle.c_headers.specs.declared.header.Header.TheVariants.{FortranBinding}
use Rattle.c_define.specs.Definitions.{no_macros}
use Rattle.c_directives.specs.Reading.{Including}
use Rattle.c_header_laws.specs.Declared.{with_all, nothing, null}
use Rattle.c_header_laws.specs.Headers.{FortranBindingDeclares, sizes, descriptor_types, descriptor_functions, descriptor_codes}
use Rattle.c_header_laws.proofs.Plain.{lexemes_at, plain_lexemes, is_plain}
use Rattle.c_header_laws.proofs.Parts.{Part, in_front}
use Rattle.c_header_laws.proofs.Texts.{word, digits, mark_of_text, line_end, ends_with, course_of, macros_behind, read_of, declares_by, closed_texts}

abbrev pub from_1 : List Lexeme
from_1 = mark_of_text "#" 1 1 false ∷ word "ifndef" 1 2 false ∷ word "__ISO_Fortran_binding_h" 1 9 true ∷ line_end 1 32
    ∷ mark_of_text "#" 2 1 false ∷ word "define" 2 2 false ∷ word "__ISO_Fortran_binding_h" 2 9 true ∷ line_end 2 32
    ∷ word "typedef" 3 1 false ∷ word "unsigned" 3 9 true ∷ word "long" 3 18 true ∷ word "size_t" 3 23 true ∷ mark_of_text ";" 3 29 false ∷ line_end 3 30
    ∷ word "typedef" 4 1 false ∷ word "long" 4 9 true ∷ word "ptrdiff_t" 4 14 true ∷ mark_of_text ";" 4 23 false ∷ line_end 4 24 ∷ []

abbrev pub from_5 : List Lexeme
from_5 = mark_of_text "#" 5 1 false ∷ word "define" 5 2 false ∷ word "NULL" 5 9 true ∷ mark_of_text "(" 5 14 true ∷ mark_of_text "(" 5 15 false ∷ word "void" 5 16 false ∷ mark_of_text "*" 5 20 false ∷ mark_of_text ")" 5 21 false ∷ digits "0" 5 22 false ∷ mark_of_text ")" 5 23 false ∷ line_end 5 24
    ∷ word "typedef" 6 1 false ∷ word "__CFI_descriptor" 6 9 true ∷ word "CFI_cdesc_t" 6 26 true ∷ mark_of_text ";" 6 37 false ∷ line_end 6 38
    ∷ word "typedef" 7 1 false ∷ word "signed" 7 9 true ∷ word "char" 7 16 true ∷ word "CFI_attribute_t" 7 21 true ∷ mark_of_text ";" 7 36 false ∷ line_end 7 37
    ∷ word "typedef" 8 1 false ∷ word "ptrdiff_t" 8 9 true ∷ word "CFI_index_t" 8 19 true ∷ mark_of_text ";" 8 30 false ∷ line_end 8 31 ∷ []

abbrev pub from_9 : List Lexeme
from_9 = word "typedef" 9 1 false ∷ word "signed" 9 9 true ∷ word "char" 9 16 true ∷ word "CFI_rank_t" 9 21 true ∷ mark_of_text ";" 9 31 false ∷ line_end 9 32
    ∷ word "typedef" 10 1 false ∷ word "short" 10 9 true ∷ word "CFI_type_t" 10 15 true ∷ mark_of_text ";" 10 25 false ∷ line_end 10 26
    ∷ mark_of_text "#" 11 1 false ∷ word "define" 11 2 false ∷ word "CFI_MAX_RANK" 11 9 true ∷ digits "15" 11 22 true ∷ line_end 11 24
    ∷ mark_of_text "#" 12 1 false ∷ word "define" 12 2 false ∷ word "CFI_VERSION" 12 9 true ∷ digits "1" 12 21 true ∷ line_end 12 22 ∷ []

abbrev pub from_13 : List Lexeme
from_13 = mark_of_text "#" 13 1 false ∷ word "define" 13 2 false ∷ word "CFI_attribute_other" 13 9 true ∷ digits "0" 13 29 true ∷ line_end 13 30
    ∷ mark_of_text "#" 14 1 false ∷ word "define" 14 2 false ∷ word "CFI_attribute_allocatable" 14 9 true ∷ digits "1" 14 35 true ∷ line_end 14 36
    ∷ mark_of_text "#" 15 1 false ∷ word "define" 15 2 false ∷ word "CFI_attribute_pointer" 15 9 true ∷ digits "2" 15 31 true ∷ line_end 15 32
    ∷ mark_of_text "#" 16 1 false ∷ word "define" 16 2 false ∷ word "CFI_type_signed_char" 16 9 true ∷ digits "1" 16 30 true ∷ line_end 16 31 ∷ []

abbrev pub from_17 : List Lexeme
from_17 = mark_of_text "#" 17 1 false ∷ word "define" 17 2 false ∷ word "CFI_type_int8_t" 17 9 true ∷ digits "1" 17 25 true ∷ line_end 17 26
    ∷ mark_of_text "#" 18 1 false ∷ word "define" 18 2 false ∷ word "CFI_type_short" 18 9 true ∷ digits "2" 18 24 true ∷ line_end 18 25
    ∷ mark_of_text "#" 19 1 false ∷ word "define" 19 2 false ∷ word "CFI_type_int16_t" 19 9 true ∷ digits "2" 19 26 true ∷ line_end 19 27
    ∷ mark_of_text "#" 20 1 false ∷ word "define" 20 2 false ∷ word "CFI_type_int" 20 9 true ∷ digits "3" 20 22 true ∷ line_end 20 23
    ∷ mark_of_text "#" 21 1 false ∷ word "define" 21 2 false ∷ word "CFI_type_int32_t" 21 9 true ∷ digits "3" 21 26 true ∷ line_end 21 27 ∷ []

abbrev pub from_22 : List Lexeme
from_22 = mark_of_text "#" 22 1 false ∷ word "define" 22 2 false ∷ word "CFI_type_long" 22 9 true ∷ digits "4" 22 23 true ∷ line_end 22 24
    ∷ mark_of_text "#" 23 1 false ∷ word "define" 23 2 false ∷ word "CFI_type_long_long" 23 9 true ∷ digits "4" 23 28 true ∷ line_end 23 29
    ∷ mark_of_text "#" 24 1 false ∷ word "define" 24 2 false ∷ word "CFI_type_int64_t" 24 9 true ∷ digits "4" 24 26 true ∷ line_end 24 27
    ∷ mark_of_text "#" 25 1 false ∷ word "define" 25 2 false ∷ word "CFI_type_size_t" 25 9 true ∷ digits "4" 25 25 true ∷ line_end 25 26 ∷ []

abbrev pub from_26 : List Lexeme
from_26 = mark_of_text "#" 26 1 false ∷ word "define" 26 2 false ∷ word "CFI_type_intmax_t" 26 9 true ∷ digits "4" 26 27 true ∷ line_end 26 28
    ∷ mark_of_text "#" 27 1 false ∷ word "define" 27 2 false ∷ word "CFI_type_intptr_t" 27 9 true ∷ digits "4" 27 27 true ∷ line_end 27 28
    ∷ mark_of_text "#" 28 1 false ∷ word "define" 28 2 false ∷ word "CFI_type_ptrdiff_t" 28 9 true ∷ digits "4" 28 28 true ∷ line_end 28 29
    ∷ mark_of_text "#" 29 1 false ∷ word "define" 29 2 false ∷ word "CFI_type_Bool" 29 9 true ∷ digits "5" 29 23 true ∷ line_end 29 24 ∷ []

abbrev pub from_30 : List Lexeme
from_30 = mark_of_text "#" 30 1 false ∷ word "define" 30 2 false ∷ word "CFI_type_char" 30 9 true ∷ digits "6" 30 23 true ∷ line_end 30 24
    ∷ mark_of_text "#" 31 1 false ∷ word "define" 31 2 false ∷ word "CFI_type_cptr" 31 9 true ∷ digits "7" 31 23 true ∷ line_end 31 24
    ∷ mark_of_text "#" 32 1 false ∷ word "define" 32 2 false ∷ word "CFI_type_cfunptr" 32 9 true ∷ digits "8" 32 26 true ∷ line_end 32 27
    ∷ mark_of_text "#" 33 1 false ∷ word "define" 33 2 false ∷ word "CFI_type_struct" 33 9 true ∷ digits "9" 33 25 true ∷ line_end 33 26
    ∷ mark_of_text "#" 34 1 false ∷ word "define" 34 2 false ∷ word "CFI_type_other" 34 9 true ∷ mark_of_text "(" 34 24 true ∷ mark_of_text "-" 34 25 false ∷ digits "1" 34 26 false ∷ mark_of_text ")" 34 27 false ∷ line_end 34 28 ∷ []

abbrev pub from_35 : List Lexeme
from_35 = mark_of_text "#" 35 1 false ∷ word "define" 35 2 false ∷ word "CFI_SUCCESS" 35 9 true ∷ digits "0" 35 21 true ∷ line_end 35 22
    ∷ mark_of_text "#" 36 1 false ∷ word "define" 36 2 false ∷ word "CFI_ERROR_BASE_ADDR_NULL" 36 9 true ∷ digits "1" 36 34 true ∷ line_end 36 35
    ∷ mark_of_text "#" 37 1 false ∷ word "define" 37 2 false ∷ word "CFI_ERROR_BASE_ADDR_NOT_NULL" 37 9 true ∷ digits "2" 37 38 true ∷ line_end 37 39
    ∷ mark_of_text "#" 38 1 false ∷ word "define" 38 2 false ∷ word "CFI_INVALID_ELEM_LEN" 38 9 true ∷ digits "3" 38 30 true ∷ line_end 38 31 ∷ []

abbrev pub from_39 : List Lexeme
from_39 = mark_of_text "#" 39 1 false ∷ word "define" 39 2 false ∷ word "CFI_INVALID_RANK" 39 9 true ∷ digits "4" 39 26 true ∷ line_end 39 27
    ∷ mark_of_text "#" 40 1 false ∷ word "define" 40 2 false ∷ word "CFI_INVALID_TYPE" 40 9 true ∷ digits "5" 40 26 true ∷ line_end 40 27
    ∷ mark_of_text "#" 41 1 false ∷ word "define" 41 2 false ∷ word "CFI_INVALID_ATTRIBUTE" 41 9 true ∷ digits "6" 41 31 true ∷ line_end 41 32
    ∷ mark_of_text "#" 42 1 false ∷ word "define" 42 2 false ∷ word "CFI_INVALID_EXTENT" 42 9 true ∷ digits "7" 42 28 true ∷ line_end 42 29 ∷ []

abbrev pub from_43 : List Lexeme
from_43 = mark_of_text "#" 43 1 false ∷ word "define" 43 2 false ∷ word "CFI_INVALID_DESCRIPTOR" 43 9 true ∷ digits "8" 43 32 true ∷ line_end 43 33
    ∷ mark_of_text "#" 44 1 false ∷ word "define" 44 2 false ∷ word "CFI_ERROR_MEM_ALLOCATION" 44 9 true ∷ digits "9" 44 34 true ∷ line_end 44 35
    ∷ mark_of_text "#" 45 1 false ∷ word "define" 45 2 false ∷ word "CFI_ERROR_OUT_OF_BOUNDS" 45 9 true ∷ digits "10" 45 33 true ∷ line_end 45 35 ∷ []

abbrev pub from_46 : List Lexeme
from_46 = word "void" 46 1 false ∷ mark_of_text "*" 46 6 true ∷ word "CFI_address" 46 7 false ∷ mark_of_text "(" 46 18 false ∷ word "const" 46 19 false ∷ word "CFI_cdesc_t" 46 25 true ∷ mark_of_text "*" 46 37 true ∷ mark_of_text "," 46 38 false ∷ word "const" 46 40 true ∷ word "CFI_index_t" 46 46 true ∷ mark_of_text "[" 46 58 true ∷ mark_of_text "]" 46 59 false ∷ mark_of_text ")" 46 60 false ∷ mark_of_text ";" 46 61 false ∷ line_end 46 62 ∷ []

abbrev pub from_47 : List Lexeme
from_47 = word "int" 47 1 false ∷ word "CFI_allocate" 47 5 true ∷ mark_of_text "(" 47 17 false ∷ word "CFI_cdesc_t" 47 18 false ∷ mark_of_text "*" 47 30 true ∷ mark_of_text "," 47 31 false ∷ word "const" 47 33 true ∷ word "CFI_index_t" 47 39 true ∷ mark_of_text "[" 47 51 true ∷ mark_of_text "]" 47 52 false ∷ mark_of_text "," 47 53 false ∷ word "const" 47 55 true ∷ word "CFI_index_t" 47 61 true ∷ mark_of_text "[" 47 73 true ∷ mark_of_text "]" 47 74 false ∷ mark_of_text "," 47 75 false ∷ word "size_t" 47 77 true ∷ mark_of_text ")" 47 83 false ∷ mark_of_text ";" 47 84 false ∷ line_end 47 85
    ∷ word "int" 48 1 false ∷ word "CFI_deallocate" 48 5 true ∷ mark_of_text "(" 48 19 false ∷ word "CFI_cdesc_t" 48 20 false ∷ mark_of_text "*" 48 32 true ∷ mark_of_text ")" 48 33 false ∷ mark_of_text ";" 48 34 false ∷ line_end 48 35 ∷ []

abbrev pub from_49 : List Lexeme
from_49 = word "int" 49 1 false ∷ word "CFI_establish" 49 5 true ∷ mark_of_text "(" 49 18 false ∷ word "CFI_cdesc_t" 49 19 false ∷ mark_of_text "*" 49 31 true ∷ mark_of_text "," 49 32 false ∷ word "void" 49 34 true ∷ mark_of_text "*" 49 39 true ∷ mark_of_text "," 49 40 false ∷ word "CFI_attribute_t" 49 42 true ∷ mark_of_text "," 49 57 false ∷ word "CFI_type_t" 49 59 true ∷ mark_of_text "," 49 69 false ∷ word "size_t" 49 71 true ∷ mark_of_text "," 49 77 false ∷ word "CFI_rank_t" 49 79 true ∷ mark_of_text "," 49 89 false ∷ word "const" 49 91 true ∷ word "CFI_index_t" 49 97 true ∷ mark_of_text "[" 49 109 true ∷ mark_of_text "]" 49 110 false ∷ mark_of_text ")" 49 111 false ∷ mark_of_text ";" 49 112 false ∷ line_end 49 113 ∷ []

abbrev pub from_50 : List Lexeme
from_50 = word "int" 50 1 false ∷ word "CFI_is_contiguous" 50 5 true ∷ mark_of_text "(" 50 22 false ∷ word "const" 50 23 false ∷ word "CFI_cdesc_t" 50 29 true ∷ mark_of_text "*" 50 41 true ∷ mark_of_text ")" 50 42 false ∷ mark_of_text ";" 50 43 false ∷ line_end 50 44 ∷ []

abbrev pub from_51 : List Lexeme
from_51 = word "int" 51 1 false ∷ word "CFI_section" 51 5 true ∷ mark_of_text "(" 51 16 false ∷ word "CFI_cdesc_t" 51 17 false ∷ mark_of_text "*" 51 29 true ∷ mark_of_text "," 51 30 false ∷ word "const" 51 32 true ∷ word "CFI_cdesc_t" 51 38 true ∷ mark_of_text "*" 51 50 true ∷ mark_of_text "," 51 51 false ∷ word "const" 51 53 true ∷ word "CFI_index_t" 51 59 true ∷ mark_of_text "[" 51 71 true ∷ mark_of_text "]" 51 72 false ∷ mark_of_text "," 51 73 false ∷ word "const" 51 75 true ∷ word "CFI_index_t" 51 81 true ∷ mark_of_text "[" 51 93 true ∷ mark_of_text "]" 51 94 false ∷ mark_of_text "," 51 95 false ∷ word "const" 51 97 true ∷ word "CFI_index_t" 51 103 true ∷ mark_of_text "[" 51 115 true ∷ mark_of_text "]" 51 116 false ∷ mark_of_text ")" 51 117 false ∷ mark_of_text ";" 51 118 false ∷ line_end 51 119 ∷ []

abbrev pub from_52 : List Lexeme
from_52 = word "int" 52 1 false ∷ word "CFI_select_part" 52 5 true ∷ mark_of_text "(" 52 20 false ∷ word "CFI_cdesc_t" 52 21 false ∷ mark_of_text "*" 52 33 true ∷ mark_of_text "," 52 34 false ∷ word "const" 52 36 true ∷ word "CFI_cdesc_t" 52 42 true ∷ mark_of_text "*" 52 54 true ∷ mark_of_text "," 52 55 false ∷ word "size_t" 52 57 true ∷ mark_of_text "," 52 63 false ∷ word "size_t" 52 65 true ∷ mark_of_text ")" 52 71 false ∷ mark_of_text ";" 52 72 false ∷ line_end 52 73 ∷ []

abbrev pub from_53 : List Lexeme
from_53 = word "int" 53 1 false ∷ word "CFI_setpointer" 53 5 true ∷ mark_of_text "(" 53 19 false ∷ word "CFI_cdesc_t" 53 20 false ∷ mark_of_text "*" 53 32 true ∷ mark_of_text "," 53 33 false ∷ word "CFI_cdesc_t" 53 35 true ∷ mark_of_text "*" 53 47 true ∷ mark_of_text "," 53 48 false ∷ word "const" 53 50 true ∷ word "CFI_index_t" 53 56 true ∷ mark_of_text "[" 53 68 true ∷ mark_of_text "]" 53 69 false ∷ mark_of_text ")" 53 70 false ∷ mark_of_text ";" 53 71 false ∷ line_end 53 72
    ∷ mark_of_text "#" 54 1 false ∷ word "endif" 54 2 false ∷ line_end 54 7 ∷ []

text_5 : List ℕ
text_5 = drop 118 (text_of FortranBinding)

part_1 : Part 1 5 117 (text_of FortranBinding) text_5 from_1
unfolding closed_texts text_5
part_1 = record { ends = refl; closed = refl; lines = refl; here = refl; left = refl }

text_9 : List ℕ
text_9 = drop 130 text_5

part_5 : Part 5 9 129 text_5 text_9 from_5
unfolding closed_texts text_5 text_9
part_5 = record { ends = refl; closed = refl; lines = refl; here = refl; left = refl }

text_13 : List ℕ
text_13 = drop 104 text_9

part_9 : Part 9 13 103 text_9 text_13 from_9
unfolding closed_texts text_5 text_9 text_13
part_9 = record { ends = refl; closed = refl; lines = refl; here = refl; left = refl }

text_17 : List ℕ
text_17 = drop 129 text_13

part_13 : Part 13 17 128 text_13 text_17 from_13
unfolding closed_texts text_5 text_9 text_13 text_17
part_13 = record { ends = refl; closed = refl; lines = refl; here = refl; left = refl }

text_22 : List ℕ
text_22 = drop 128 text_17

part_17 : Part 17 22 127 text_17 text_22 from_17
unfolding closed_texts text_5 text_9 text_13 text_17 text_22
part_17 = record { ends = refl; closed = refl; lines = refl; here = refl; left = refl }

text_26 : List ℕ
text_26 = drop 106 text_22

part_22 : Part 22 26 105 text_22 text_26 from_22
unfolding closed_texts text_5 text_9 text_13 text_17 text_22 text_26
part_22 = record { ends = refl; closed = refl; lines = refl; here = refl; left = refl }

text_30 : List ℕ
text_30 = drop 109 text_26

part_26 : Part 26 30 108 text_26 text_30 from_26
unfolding closed_texts text_5 text_9 text_13 text_17 text_22 text_26 text_30
part_26 = record { ends = refl; closed = refl; lines = refl; here = refl; left = refl }

text_35 : List ℕ
text_35 = drop 129 text_30

part_30 : Part 30 35 128 text_30 text_35 from_30
unfolding closed_texts text_5 text_9 text_13 text_17 text_22 text_26 text_30 text_35
part_30 = record { ends = refl; closed = refl; lines = refl; here = refl; left = refl }

text_39 : List ℕ
text_39 = drop 127 text_35

part_35 : Part 35 39 126 text_35 text_39 from_35
unfolding closed_texts text_5 text_9 text_13 text_17 text_22 text_26 text_30 text_35 text_39
part_35 = record { ends = refl; closed = refl; lines = refl; here = refl; left = refl }

text_43 : List ℕ
text_43 = drop 115 text_39

part_39 : Part 39 43 114 text_39 text_43 from_39
unfolding closed_texts text_5 text_9 text_13 text_17 text_22 text_26 text_30 text_35 text_39 text_43
part_39 = record { ends = refl; closed = refl; lines = refl; here = refl; left = refl }

text_46 : List ℕ
text_46 = drop 103 text_43

part_43 : Part 43 46 102 text_43 text_46 from_43
unfolding closed_texts text_5 text_9 text_13 text_17 text_22 text_26 text_30 text_35 text_39 text_43 text_46
part_43 = record { ends = refl; closed = refl; lines = refl; here = refl; left = refl }

text_47 : List ℕ
text_47 = drop 62 text_46

part_46 : Part 46 47 61 text_46 text_47 from_46
unfolding closed_texts text_5 text_9 text_13 text_17 text_22 text_26 text_30 text_35 text_39 text_43 text_46 text_47
part_46 = record { ends = refl; closed = refl; lines = refl; here = refl; left = refl }

text_49 : List ℕ
text_49 = drop 120 text_47

part_47 : Part 47 49 119 text_47 text_49 from_47
unfolding closed_texts text_5 text_9 text_13 text_17 text_22 text_26 text_30 text_35 text_39 text_43 text_46 text_47 text_49
part_47 = record { ends = refl; closed = refl; lines = refl; here = refl; left = refl }

text_50 : List ℕ
text_50 = drop 113 text_49

part_49 : Part 49 50 112 text_49 text_50 from_49
unfolding closed_texts text_5 text_9 text_13 text_17 text_22 text_26 text_30 text_35 text_39 text_43 text_46 text_47 text_49 text_50
part_49 = record { ends = refl; closed = refl; lines = refl; here = refl; left = refl }

text_51 : List ℕ
text_51 = drop 44 text_50

part_50 : Part 50 51 43 text_50 text_51 from_50
unfolding closed_texts text_5 text_9 text_13 text_17 text_22 text_26 text_30 text_35 text_39 text_43 text_46 text_47 text_49 text_50 text_51
part_50 = record { ends = refl; closed = refl; lines = refl; here = refl; left = refl }

text_52 : List ℕ
text_52 = drop 119 text_51

part_51 : Part 51 52 118 text_51 text_52 from_51
unfolding closed_texts text_5 text_9 text_13 text_17 text_22 text_26 text_30 text_35 text_39 text_43 text_46 text_47 text_49 text_50 text_51 text_52
part_51 = record { ends = refl; closed = refl; lines = refl; here = refl; left = refl }

text_53 : List ℕ
text_53 = drop 73 text_52

part_52 : Part 52 53 72 text_52 text_53 from_52
unfolding closed_texts text_5 text_9 text_13 text_17 text_22 text_26 text_30 text_35 text_39 text_43 text_46 text_47 text_49 text_50 text_51 text_52 text_53
part_52 = record { ends = refl; closed = refl; lines = refl; here = refl; left = refl }

part_53 : lexemes_at 53 text_53 ≡ from_53
unfolding closed_texts text_5 text_9 text_13 text_17 text_22 text_26 text_30 text_35 text_39 text_43 text_46 text_47 text_49 text_50 text_51 text_52 text_53
part_53 = refl

abbrev pub binding : List Lexeme
binding = from_1 ++ (from_5 ++ (from_9 ++ (from_13 ++ (from_17 ++ (from_22 ++ (from_26 ++ (from_30 ++ (from_35 ++ (from_39 ++ (from_43 ++ (from_46 ++ (from_47 ++ (from_49 ++ (from_50 ++ (from_51 ++ (from_52 ++ from_53))))))))))))))))

pub binding_lexemes : plain_lexemes (text_of FortranBinding) ≡ binding
binding_lexemes = in_front part_1 (in_front part_5 (in_front part_9 (in_front part_13 (in_front part_17 (in_front part_22 (in_front part_26 (in_front part_30 (in_front part_35 (in_front part_39 (in_front part_43 (in_front part_46 (in_front part_47 (in_front part_49 (in_front part_50 (in_front part_51 (in_front part_52 part_53))))))))))))))))

binding_plain : is_plain (text_of FortranBinding) ≡ true
binding_plain = refl

binding_course : (including : Including) (place : Place) (calls : ℕ) → course_of (read_of including place calls binding) ≡ ends_with calls (sizes ++ (descriptor_types ++ descriptor_functions))
unfolding closed_texts
binding_course including place calls = refl

binding_macros : (including : Including) (place : Place) (calls : ℕ) → macros_behind (read_of including place calls binding) ≡ with_all no_macros (nothing "__ISO_Fortran_binding_h" ∷ null ∷ descriptor_codes)
unfolding closed_texts
binding_macros including place calls = refl

pub binding_declares : FortranBindingDeclares
binding_declares including place calls = declares_by including place calls FortranBinding (sizes ++ (descriptor_types ++ descriptor_functions)) (nothing "__ISO_Fortran_binding_h" ∷ null ∷ descriptor_codes) binding refl binding_plain binding_lexemes (binding_course including place calls) (binding_macros including place calls)
