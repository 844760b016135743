-- Prefixes before SUBROUTINE or FUNCTION, and the end of a statement.
use Rattle.std.specs.Prelude.{List, [], ◌∷◌, Bool, true, false}
use Rattle.f_lex.specs.declared.token.Token.{Token}
use Rattle.f_declaration_grammar.specs.Declarations.{Prefix}

-- one more prefix, before others and whether FUNCTION stands behind them
abbrev pub before : Prefix → List Prefix × Bool → List Prefix × Bool
before p ps = (p ∷ ps.0, ps.1)

-- no tokens are left
abbrev pub is_ended : List Token → Bool
is_ended [] = true
is_ended (t ∷ ts) = false
