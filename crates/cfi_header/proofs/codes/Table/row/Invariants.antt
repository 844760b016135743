use Rattle.std.proofs.Common.{◌≡◌, length}
use Rattle.cfi_header.specs.Codes.{row_of}
use Rattle.cfi_header.proofs.codes.Table.row.Given as goal

abbrev pub invariant-rows : goal.invariant-rows
invariant-rows g l = row_of l.rest l.code ≡ row_of l.self.rows l.code

abbrev pub decreases-rows : goal.decreases-rows
decreases-rows g l = length l.rest
