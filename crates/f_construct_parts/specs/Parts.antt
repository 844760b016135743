-- The statements of a construct behind its first, in front of a rest.
use Rattle.std.specs.Prelude.{◌∷◌, List, map}
use Rattle.std.specs.Option.{option_map}
use Rattle.f_tree.specs.declared.statement.Statement.{Statement as Tree}
use Rattle.f_tree.specs.declared.statement.Case.{Case}
use Rattle.f_tree.specs.declared.statement.ElseIf.{ElseIf}
use Rattle.f_tree.specs.declared.statement.RankCase.{RankCase}
use Rattle.f_line_grammar.specs.Lines.{If, Do, Select}
use Rattle.f_construct_parts.specs.declared.part.IfEnd.{IfEnd}
use Rattle.f_construct_parts.specs.declared.part.IfBehind.{IfBehind}
use Rattle.f_construct_parts.specs.declared.part.IfParts.{IfParts}
use Rattle.f_construct_parts.specs.declared.part.DoParts.{DoParts}
use Rattle.f_construct_parts.specs.declared.part.CaseParts.{CaseParts}
use Rattle.f_construct_parts.specs.declared.part.RankParts.{RankParts}
use Rattle.f_construct_parts.specs.Lines.{Front, each, optional, end_line, blocks_of, else_lines, else_if_lines, case_lines, rank_lines}

abbrev pub else_ifs_of : List ElseIf → Front
else_ifs_of parts = each (map else_if_lines parts)

abbrev pub cases_of : List Case → Front
cases_of cases = each (map case_lines cases)

abbrev pub ranks_of : List RankCase → Front
ranks_of ranks = each (map rank_lines ranks)

abbrev pub if_end_of : IfEnd → Front
if_end_of x rest = optional (option_map else_lines x.otherwise) (end_line If x.ending ∷ rest)

abbrev pub if_behind_of : IfBehind → Front
if_behind_of x rest = else_ifs_of x.else_ifs (if_end_of x.end rest)

abbrev pub if_parts_of : IfParts → Front
if_parts_of x rest = blocks_of x.body (if_behind_of x.behind rest)

abbrev pub do_parts_of : DoParts → Front
do_parts_of x rest = blocks_of x.body (end_line Do x.ending ∷ rest)

abbrev pub case_parts_of : CaseParts → Front
case_parts_of x rest = cases_of x.cases (end_line Select x.ending ∷ rest)

abbrev pub rank_parts_of : RankParts → Front
rank_parts_of x rest = ranks_of x.ranks (end_line Select x.ending ∷ rest)
