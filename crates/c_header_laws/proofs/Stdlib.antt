-- What is computed of the text of a header: its lexemes, and what they give.
use Rattle.std.proofs.Common.{◌≡◌, true, false, List, [], ◌∷◌, refl}
use Rattle.c_text.specs.declared.kind.Lexeme.{Lexeme}
use Rattle.c_headers.specs.Headers.{text_of}
use Rattle.c_headers.specs.declared.header.Header.TheVariants.{Stdlib}
use Rattle.c_header_laws.specs.Headers.{StdlibDeclares}
use Rattle.c_header_laws.proofs.Plain.{plain_lexemes}
use Rattle.c_header_laws.proofs.Texts.{word, digits, mark_of_text, line_end, declares_by, closed_texts}

abbrev pub stdlib : List Lexeme
stdlib = mark_of_text "#" 1 1 false ∷ word "ifndef" 1 2 false ∷ word "__stdlib_h" 1 9 true ∷ line_end 1 19
    ∷ mark_of_text "#" 2 1 false ∷ word "define" 2 2 false ∷ word "__stdlib_h" 2 9 true ∷ line_end 2 19
    ∷ word "typedef" 3 1 false ∷ word "unsigned" 3 9 true ∷ word "long" 3 18 true ∷ word "size_t" 3 23 true ∷ mark_of_text ";" 3 29 false ∷ line_end 3 30
    ∷ word "typedef" 4 1 false ∷ word "long" 4 9 true ∷ word "ptrdiff_t" 4 14 true ∷ mark_of_text ";" 4 23 false ∷ line_end 4 24
    ∷ mark_of_text "#" 5 1 false ∷ word "define" 5 2 false ∷ word "NULL" 5 9 true ∷ mark_of_text "(" 5 14 true ∷ mark_of_text "(" 5 15 false ∷ word "void" 5 16 false ∷ mark_of_text "*" 5 20 false ∷ mark_of_text ")" 5 21 false ∷ digits "0" 5 22 false ∷ mark_of_text ")" 5 23 false ∷ line_end 5 24
    ∷ word "void" 6 1 false ∷ mark_of_text "*" 6 6 true ∷ word "malloc" 6 7 false ∷ mark_of_text "(" 6 13 false ∷ word "size_t" 6 14 false ∷ mark_of_text ")" 6 20 false ∷ mark_of_text ";" 6 21 false ∷ line_end 6 22
    ∷ word "void" 7 1 false ∷ word "free" 7 6 true ∷ mark_of_text "(" 7 10 false ∷ word "void" 7 11 false ∷ mark_of_text "*" 7 16 true ∷ mark_of_text ")" 7 17 false ∷ mark_of_text ";" 7 18 false ∷ line_end 7 19
    ∷ word "void" 8 1 false ∷ word "exit" 8 6 true ∷ mark_of_text "(" 8 10 false ∷ word "int" 8 11 false ∷ mark_of_text ")" 8 14 false ∷ mark_of_text ";" 8 15 false ∷ line_end 8 16
    ∷ word "void" 9 1 false ∷ word "abort" 9 6 true ∷ mark_of_text "(" 9 11 false ∷ word "void" 9 12 false ∷ mark_of_text ")" 9 16 false ∷ mark_of_text ";" 9 17 false ∷ line_end 9 18
    ∷ mark_of_text "#" 10 1 false ∷ word "endif" 10 2 false ∷ line_end 10 7 ∷ []

pub stdlib_lexemes : plain_lexemes (text_of Stdlib) ≡ stdlib
unfolding closed_texts
stdlib_lexemes = refl

pub stdlib_declares : StdlibDeclares
unfolding closed_texts
stdlib_declares including place calls = declares_by including place calls Stdlib _ _ stdlib refl refl stdlib_lexemes refl refl
