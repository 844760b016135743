-- What is computed of the text of a header: its lexemes, and what they give.
use Rattle.std.proofs.Common.{◌≡◌, true, false, List, [], ◌∷◌, refl}
use Rattle.c_text.specs.declared.kind.Lexeme.{Lexeme}
use Rattle.c_headers.specs.Headers.{text_of}
use Rattle.c_headers.specs.declared.header.Header.TheVariants.{Str}
use Rattle.c_header_laws.specs.Headers.{StringDeclares}
use Rattle.c_header_laws.proofs.Plain.{plain_lexemes}
use Rattle.c_header_laws.proofs.Texts.{word, digits, mark_of_text, line_end, declares_by, closed_texts}

abbrev pub strings : List Lexeme
strings = mark_of_text "#" 1 1 false ∷ word "ifndef" 1 2 false ∷ word "__string_h" 1 9 true ∷ line_end 1 19
    ∷ mark_of_text "#" 2 1 false ∷ word "define" 2 2 false ∷ word "__string_h" 2 9 true ∷ line_end 2 19
    ∷ word "typedef" 3 1 false ∷ word "unsigned" 3 9 true ∷ word "long" 3 18 true ∷ word "size_t" 3 23 true ∷ mark_of_text ";" 3 29 false ∷ line_end 3 30
    ∷ word "typedef" 4 1 false ∷ word "long" 4 9 true ∷ word "ptrdiff_t" 4 14 true ∷ mark_of_text ";" 4 23 false ∷ line_end 4 24
    ∷ mark_of_text "#" 5 1 false ∷ word "define" 5 2 false ∷ word "NULL" 5 9 true ∷ mark_of_text "(" 5 14 true ∷ mark_of_text "(" 5 15 false ∷ word "void" 5 16 false ∷ mark_of_text "*" 5 20 false ∷ mark_of_text ")" 5 21 false ∷ digits "0" 5 22 false ∷ mark_of_text ")" 5 23 false ∷ line_end 5 24
    ∷ word "void" 6 1 false ∷ mark_of_text "*" 6 6 true ∷ word "memcpy" 6 7 false ∷ mark_of_text "(" 6 13 false ∷ word "void" 6 14 false ∷ mark_of_text "*" 6 19 true ∷ word "restrict" 6 20 false ∷ mark_of_text "," 6 28 false ∷ word "const" 6 30 true ∷ word "void" 6 36 true ∷ mark_of_text "*" 6 41 true ∷ word "restrict" 6 42 false ∷ mark_of_text "," 6 50 false ∷ word "size_t" 6 52 true ∷ mark_of_text ")" 6 58 false ∷ mark_of_text ";" 6 59 false ∷ line_end 6 60
    ∷ word "void" 7 1 false ∷ mark_of_text "*" 7 6 true ∷ word "memset" 7 7 false ∷ mark_of_text "(" 7 13 false ∷ word "void" 7 14 false ∷ mark_of_text "*" 7 19 true ∷ mark_of_text "," 7 20 false ∷ word "int" 7 22 true ∷ mark_of_text "," 7 25 false ∷ word "size_t" 7 27 true ∷ mark_of_text ")" 7 33 false ∷ mark_of_text ";" 7 34 false ∷ line_end 7 35
    ∷ word "size_t" 8 1 false ∷ word "strlen" 8 8 true ∷ mark_of_text "(" 8 14 false ∷ word "const" 8 15 false ∷ word "char" 8 21 true ∷ mark_of_text "*" 8 26 true ∷ mark_of_text ")" 8 27 false ∷ mark_of_text ";" 8 28 false ∷ line_end 8 29
    ∷ mark_of_text "#" 9 1 false ∷ word "endif" 9 2 false ∷ line_end 9 7 ∷ []

pub strings_lexemes : plain_lexemes (text_of Str) ≡ strings
unfolding closed_texts
strings_lexemes = refl

pub strings_declares : StringDeclares
unfolding closed_texts
strings_declares including place calls = declares_by including place calls Str _ _ strings refl refl strings_lexemes refl refl
