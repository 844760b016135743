-- That tokens of C behind preprocessing are a file of C's grammar.
use Rattle.std.specs.Prelude.{◌≡◌, ℕ, List, []}
use Rattle.c_token.specs.declared.token.CSpanned.{CSpanned}
use Rattle.c_words.specs.Pieces.{pieces}
use Rattle.c_words.specs.Numbering.{names_of, words_of}
use Rattle.c_unit_grammar.specs.Statements.{Ext, spell_exts, FitsExts}

-- the words of the tokens are spelled by external declarations, which nest at most 64 deep (ISO/IEC 9899:2011, 5.1.1.2p1 and 6.9)
pub record IsUnit (tokens : List CSpanned) : Type 0 where
  pub externals : List Ext
  pub fits : FitsExts 64 [] externals
  pub spelled : words_of (names_of (pieces tokens)) 0 (pieces tokens) ≡ spell_exts externals []
