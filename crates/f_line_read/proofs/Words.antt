-- The grammar's statements are those of the three groups of words.
use Rattle.std.proofs.Common.{◌≡◌, ℕ, List, refl}
use Rattle.f_lex.specs.declared.token.Token.{Token}
use Rattle.f_line_grammar.specs.LineReading.{construct_at, word_line, line_at}
use Rattle.f_line_read.specs.Words.{end_by_word, select_by_word, by_first_word, worded, by_words}

pub line_is : (n : ℕ) (ts : List Token) → line_at n ts ≡ by_words n ts
unfolding construct_at word_line line_at end_by_word select_by_word by_first_word worded by_words
line_is n ts = refl
