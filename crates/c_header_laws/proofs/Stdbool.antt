-- What is computed of the text of a header: its lexemes, and what they give.
use Rattle.std.proofs.Common.{◌≡◌, true, false, List, [], ◌∷◌, refl}
use Rattle.c_text.specs.declared.kind.Lexeme.{Lexeme}
use Rattle.c_headers.specs.Headers.{text_of}
use Rattle.c_headers.specs.declared.header.Header.TheVariants.{Stdbool}
use Rattle.c_header_laws.specs.Headers.{StdboolDeclares}
use Rattle.c_header_laws.proofs.Plain.{plain_lexemes}
use Rattle.c_header_laws.proofs.Texts.{word, digits, mark_of_text, line_end, declares_by, closed_texts}

abbrev pub stdbool : List Lexeme
stdbool = mark_of_text "#" 1 1 false ∷ word "ifndef" 1 2 false ∷ word "__stdbool_h" 1 9 true ∷ line_end 1 20
    ∷ mark_of_text "#" 2 1 false ∷ word "define" 2 2 false ∷ word "__stdbool_h" 2 9 true ∷ line_end 2 20
    ∷ mark_of_text "#" 3 1 false ∷ word "define" 3 2 false ∷ word "bool" 3 9 true ∷ word "_Bool" 3 14 true ∷ line_end 3 19
    ∷ mark_of_text "#" 4 1 false ∷ word "define" 4 2 false ∷ word "true" 4 9 true ∷ digits "1" 4 14 true ∷ line_end 4 15
    ∷ mark_of_text "#" 5 1 false ∷ word "define" 5 2 false ∷ word "false" 5 9 true ∷ digits "0" 5 15 true ∷ line_end 5 16
    ∷ mark_of_text "#" 6 1 false ∷ word "endif" 6 2 false ∷ line_end 6 7 ∷ []

pub stdbool_lexemes : plain_lexemes (text_of Stdbool) ≡ stdbool
unfolding closed_texts
stdbool_lexemes = refl

pub stdbool_declares : StdboolDeclares
unfolding closed_texts
stdbool_declares including place calls = declares_by including place calls Stdbool _ _ stdbool refl refl stdbool_lexemes refl refl
