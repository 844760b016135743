use Rattle.std.proofs.Common.{sym}
use Rattle.source_tokens.proofs.One.{of_no_text, of_fortran, of_c}
use Rattle.source_tokens.proofs.source.read_source.Goals as goal

pub returns-in-Err-clause-read : goal.returns-in-Err-clause-read
returns-in-Err-clause-read g c = of_no_text c.args.name.now c.args.file c.args.before _ _ c.in-Err.fault c.in-Err.ensures.read

pub returns-then-is_fortran_name-clause-read : goal.returns-then-is_fortran_name-clause-read
returns-then-is_fortran_name-clause-read g c =
    let read = c.in-Ok.ensures.read in
    of_fortran c.args.name.now c.args.file c.args.before _ _ c.in-Ok.text read.0 read.1 c.requires c.fortran_source.result (sym c.if-is_fortran_name.ensures) c.fortran_source.ensures

pub returns-else-is_fortran_name-clause-read : goal.returns-else-is_fortran_name-clause-read
returns-else-is_fortran_name-clause-read g c =
    let read = c.in-Ok.ensures.read in
    of_c c.args.name.now c.args.file c.args.before _ _ c.in-Ok.text read.0 read.1 c.requires _ c.in-Ok.ensures.listing c.c_source.result (sym c.if-is_fortran_name.ensures) c.c_source.ensures.read
