-- What is computed of the text of a header: its lexemes, and what they give.
use Rattle.std.proofs.Common.{◌≡◌, true, false, List, [], ◌∷◌, refl}
use Rattle.c_text.specs.declared.kind.Lexeme.{Lexeme}
use Rattle.c_headers.specs.Headers.{text_of}
use Rattle.c_headers.specs.declared.header.Header.TheVariants.{Stddef}
use Rattle.c_header_laws.specs.Headers.{StddefDeclares}
use Rattle.c_header_laws.proofs.Plain.{plain_lexemes}
use Rattle.c_header_laws.proofs.Texts.{word, digits, mark_of_text, line_end, declares_by, closed_texts}

abbrev pub stddef : List Lexeme
stddef = mark_of_text "#" 1 1 false ∷ word "ifndef" 1 2 false ∷ word "__stddef_h" 1 9 true ∷ line_end 1 19
    ∷ mark_of_text "#" 2 1 false ∷ word "define" 2 2 false ∷ word "__stddef_h" 2 9 true ∷ line_end 2 19
    ∷ word "typedef" 3 1 false ∷ word "unsigned" 3 9 true ∷ word "long" 3 18 true ∷ word "size_t" 3 23 true ∷ mark_of_text ";" 3 29 false ∷ line_end 3 30
    ∷ word "typedef" 4 1 false ∷ word "long" 4 9 true ∷ word "ptrdiff_t" 4 14 true ∷ mark_of_text ";" 4 23 false ∷ line_end 4 24
    ∷ mark_of_text "#" 5 1 false ∷ word "define" 5 2 false ∷ word "NULL" 5 9 true ∷ mark_of_text "(" 5 14 true ∷ mark_of_text "(" 5 15 false ∷ word "void" 5 16 false ∷ mark_of_text "*" 5 20 false ∷ mark_of_text ")" 5 21 false ∷ digits "0" 5 22 false ∷ mark_of_text ")" 5 23 false ∷ line_end 5 24
    ∷ mark_of_text "#" 6 1 false ∷ word "endif" 6 2 false ∷ line_end 6 7 ∷ []

pub stddef_lexemes : plain_lexemes (text_of Stddef) ≡ stddef
unfolding closed_texts
stddef_lexemes = refl

pub stddef_declares : StddefDeclares
unfolding closed_texts
stddef_declares including place calls = declares_by including place calls Stddef _ _ stddef refl refl stddef_lexemes refl refl
