-- The statements of constructs whose end is still to come, in front of a rest (ISO/IEC 1539-1:2018, 11.1).
use Rattle.std.specs.Prelude.{List, [], ◌∷◌, map}
use Rattle.f_unit_grammar.specs.Units.{State, InIf, InElse, InDo, InCase, InRank}
use Rattle.f_construct_parts.specs.Lines.{Front, blocks_of, if_line, else_if_line, else_line, loop_line, select_case_line, case_line, select_rank_line, rank_line}
use Rattle.f_construct_parts.specs.Parts.{else_ifs_of, cases_of, ranks_of}
use Rattle.f_constructs.specs.declared.frame.IfStart.{IfStart}
use Rattle.f_constructs.specs.declared.frame.CaseStart.{CaseStart}
use Rattle.f_constructs.specs.declared.frame.RankStart.{RankStart}
use Rattle.f_constructs.specs.declared.frame.IfFrame.{IfFrame}
use Rattle.f_constructs.specs.declared.frame.ElseIfFrame.{ElseIfFrame}
use Rattle.f_constructs.specs.declared.frame.ElseFrame.{ElseFrame}
use Rattle.f_constructs.specs.declared.frame.DoFrame.{DoFrame}
use Rattle.f_constructs.specs.declared.frame.CaseFrame.{CaseFrame}
use Rattle.f_constructs.specs.declared.frame.RankFrame.{RankFrame}
use Rattle.f_constructs.specs.declared.frame.Frame.{Frame}
use Rattle.f_constructs.specs.declared.frame.Frame.TheVariants as frame
use Rattle.f_constructs.specs.declared.nest.Nest.{Nest}

abbrev pub if_start_front : IfStart → Front
if_start_front s rest = blocks_of s.around (if_line s.head.condition ∷ blocks_of s.body (else_ifs_of s.else_ifs rest))

abbrev pub case_start_front : CaseStart → Front
case_start_front s rest = blocks_of s.around (select_case_line s.head.is_one_word s.head.selector ∷ cases_of s.cases rest)

abbrev pub rank_start_front : RankStart → Front
rank_start_front s rest = blocks_of s.around (select_rank_line s.head.renamed s.head.selector ∷ ranks_of s.ranks rest)

-- what stands in front of the block in a construct: what is around it, and the construct up to that block
abbrev pub if_front : IfFrame → Front
if_front f rest = blocks_of f.around (if_line f.head.condition ∷ rest)

abbrev pub else_if_front : ElseIfFrame → Front
else_if_front f rest = if_start_front f.start (else_if_line f.part.is_one_word f.part.condition ∷ rest)

abbrev pub else_front : ElseFrame → Front
else_front f rest = if_start_front f.start (else_line ∷ rest)

abbrev pub do_front : DoFrame → Front
do_front f rest = blocks_of f.around (loop_line f.head.control ∷ rest)

abbrev pub case_front : CaseFrame → Front
case_front f rest = case_start_front f.start (case_line f.part.choice ∷ rest)

abbrev pub rank_front : RankFrame → Front
rank_front f rest = rank_start_front f.start (rank_line f.part.choice ∷ rest)

unfoldable pub frame_front : Frame → Front
frame_front (frame.If f) rest = if_front f rest
frame_front (frame.ElseIf f) rest = else_if_front f rest
frame_front (frame.Else f) rest = else_front f rest
frame_front (frame.Do f) rest = do_front f rest
frame_front (frame.Case f) rest = case_front f rest
frame_front (frame.Rank f) rest = rank_front f rest

-- the innermost stands first
abbrev pub frames_front : List Frame → Front
frames_front [] rest = rest
frames_front (f ∷ fs) rest = frames_front fs (frame_front f rest)

unfoldable pub frame_state : Frame → State
frame_state (frame.If f) = InIf
frame_state (frame.ElseIf f) = InIf
frame_state (frame.Else f) = InElse
frame_state (frame.Do f) = InDo
frame_state (frame.Case f) = InCase
frame_state (frame.Rank f) = InRank

abbrev pub nest_front : Nest → Front
nest_front n rest = frames_front n.frames (blocks_of n.block rest)

abbrev pub nest_states : Nest → List State
nest_states n = map frame_state n.frames
