use Rattle.std.proofs.Common.{◌≡◌, [], map, length}
use Rattle.f_statement_cut.specs.Pieces.{pieces}
use Rattle.f_statement_read.specs.Views.{view_statement}
use Rattle.f_file_read.specs.Reading.{read_pieces, file_alone}
use Rattle.f_file_read.specs.Views.{view_open}
use Rattle.f_file_read.proofs.reading.read_statements.Given as goal

abbrev pub invariant-statements : goal.invariant-statements
invariant-statements l = read_pieces (view_open l.stack.items, map view_statement l.statements.items) (pieces l.rest) ≡ read_pieces (file_alone, []) (pieces l.tokens)

abbrev pub decreases-statements : goal.decreases-statements
decreases-statements l = length l.rest
