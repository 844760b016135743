use Rattle.std.proofs.Common.{List}
use Rattle.f_line_read.specs.Lines.{view_line}
use Rattle.f_statement_grammar.specs.Statements as grammar
use Rattle.f_construct_parts.specs.Lines.{blocks_of}
use Rattle.f_constructs.specs.Frames.{case_start_front, case_front}
use Rattle.f_constructs.proofs.Fronts.{behind_block}
use Rattle.f_constructs.proofs.divide.in_case.Goals as goal

pub returns-clause-front : goal.returns-clause-front
returns-clause-front c = behind_block c.divide_cases.result c.args.frames (case_start_front c.in_ok-start.start) (λ (rest : List grammar.Statement). case_front c.args.frame (blocks_of c.args.block rest)) (grammar.Executable (view_line c.args.line)) c.in_ok-start.ensures c.divide_cases.ensures.front
