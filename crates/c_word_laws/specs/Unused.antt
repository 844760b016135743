-- Words that stand in no production of the grammar: keywords that the profile has no use for, and constants and literals of no form.
use Rattle.std.specs.Prelude.{List, [], ◌∷◌, Bool, true, false, if◌then◌else◌}
use Rattle.c_grammar.specs.declared.token.Token.{Token}
use Rattle.c_grammar.specs.declared.token.Token.TheVariants as token

abbrev pub is_unused : Token → Bool
is_unused token.Unused = true
is_unused _ = false

abbrev pub has_unused : List Token → Bool
has_unused [] = false
has_unused (t ∷ ts) = if is_unused t then true else has_unused ts
