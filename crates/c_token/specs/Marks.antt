-- What digraphs mean (ISO/IEC 9899:2011, 6.4.6p3).
use Rattle.c_token.specs.declared.mark.Mark.{Mark}
use Rattle.c_token.specs.declared.mark.Mark.TheVariants.{OpenBracketDigraph, CloseBracketDigraph, OpenBraceDigraph, CloseBraceDigraph, OpenBracket, CloseBracket, OpenBrace, CloseBrace}

abbrev pub meaning : Mark → Mark
meaning OpenBracketDigraph = OpenBracket
meaning CloseBracketDigraph = CloseBracket
meaning OpenBraceDigraph = OpenBrace
meaning CloseBraceDigraph = CloseBrace
meaning mark = mark
