-- The tokens of statements, each with its end, in front of a rest.
use Rattle.std.specs.Prelude.{List, [], ◌∷◌, ◌++◌}
use Rattle.f_lex.specs.declared.token.Token.{Token}
use Rattle.f_lex.specs.declared.token.Token.TheVariants as token
use Rattle.f_statement_grammar.specs.Statements.{Statement, spell_statement}

abbrev pub spell_statements : List Statement → List Token → List Token
spell_statements [] rest = rest
spell_statements (s ∷ ss) rest = spell_statement s ++ token.End ∷ spell_statements ss rest
