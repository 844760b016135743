-- What is computed of the text of a header: its lexemes, and what they give.
use Rattle.std.proofs.Common.{◌≡◌, true, false, List, [], ◌∷◌, refl}
use Rattle.c_text.specs.declared.kind.Lexeme.{Lexeme}
use Rattle.c_headers.specs.Headers.{text_of}
use Rattle.c_headers.specs.declared.header.Header.TheVariants.{Stdio}
use Rattle.c_header_laws.specs.Headers.{StdioDeclares}
use Rattle.c_header_laws.proofs.Plain.{plain_lexemes}
use Rattle.c_header_laws.proofs.Texts.{word, digits, mark_of_text, line_end, declares_by, closed_texts}

abbrev pub stdio : List Lexeme
stdio = mark_of_text "#" 1 1 false ∷ word "ifndef" 1 2 false ∷ word "__stdio_h" 1 9 true ∷ line_end 1 18
    ∷ mark_of_text "#" 2 1 false ∷ word "define" 2 2 false ∷ word "__stdio_h" 2 9 true ∷ line_end 2 18
    ∷ word "typedef" 3 1 false ∷ word "unsigned" 3 9 true ∷ word "long" 3 18 true ∷ word "size_t" 3 23 true ∷ mark_of_text ";" 3 29 false ∷ line_end 3 30
    ∷ word "typedef" 4 1 false ∷ word "long" 4 9 true ∷ word "ptrdiff_t" 4 14 true ∷ mark_of_text ";" 4 23 false ∷ line_end 4 24
    ∷ mark_of_text "#" 5 1 false ∷ word "define" 5 2 false ∷ word "NULL" 5 9 true ∷ mark_of_text "(" 5 14 true ∷ mark_of_text "(" 5 15 false ∷ word "void" 5 16 false ∷ mark_of_text "*" 5 20 false ∷ mark_of_text ")" 5 21 false ∷ digits "0" 5 22 false ∷ mark_of_text ")" 5 23 false ∷ line_end 5 24
    ∷ mark_of_text "#" 6 1 false ∷ word "define" 6 2 false ∷ word "EOF" 6 9 true ∷ mark_of_text "(" 6 13 true ∷ mark_of_text "-" 6 14 false ∷ digits "1" 6 15 false ∷ mark_of_text ")" 6 16 false ∷ line_end 6 17
    ∷ word "int" 7 1 false ∷ word "putchar" 7 5 true ∷ mark_of_text "(" 7 12 false ∷ word "int" 7 13 false ∷ mark_of_text ")" 7 16 false ∷ mark_of_text ";" 7 17 false ∷ line_end 7 18
    ∷ word "int" 8 1 false ∷ word "getchar" 8 5 true ∷ mark_of_text "(" 8 12 false ∷ word "void" 8 13 false ∷ mark_of_text ")" 8 17 false ∷ mark_of_text ";" 8 18 false ∷ line_end 8 19
    ∷ word "int" 9 1 false ∷ word "puts" 9 5 true ∷ mark_of_text "(" 9 9 false ∷ word "const" 9 10 false ∷ word "char" 9 16 true ∷ mark_of_text "*" 9 21 true ∷ mark_of_text ")" 9 22 false ∷ mark_of_text ";" 9 23 false ∷ line_end 9 24
    ∷ mark_of_text "#" 10 1 false ∷ word "endif" 10 2 false ∷ line_end 10 7 ∷ []

pub stdio_lexemes : plain_lexemes (text_of Stdio) ≡ stdio
unfolding closed_texts
stdio_lexemes = refl

pub stdio_declares : StdioDeclares
unfolding closed_texts
stdio_declares including place calls = declares_by including place calls Stdio _ _ stdio refl refl stdio_lexemes refl refl
