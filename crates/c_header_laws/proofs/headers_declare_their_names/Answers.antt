use Rattle.c_header_laws.proofs.Stddef.{stddef_declares}
use Rattle.c_header_laws.proofs.Stdbool.{stdbool_declares}
use Rattle.c_header_laws.proofs.Stdlib.{stdlib_declares}
use Rattle.c_header_laws.proofs.Strings.{strings_declares}
use Rattle.c_header_laws.proofs.Stdio.{stdio_declares}
use Rattle.c_header_laws.proofs.Stdint.{stdint_declares}
use Rattle.c_header_laws.proofs.Limits.{limits_declares}
use Rattle.c_header_laws.proofs.Binding.{binding_declares}
use Rattle.c_header_laws.proofs.headers_declare_their_names.Goals as goal

pub returns-clause-stddef : goal.returns-clause-stddef
returns-clause-stddef c = stddef_declares

pub returns-clause-stdbool : goal.returns-clause-stdbool
returns-clause-stdbool c = stdbool_declares

pub returns-clause-stdlib : goal.returns-clause-stdlib
returns-clause-stdlib c = stdlib_declares

pub returns-clause-string : goal.returns-clause-string
returns-clause-string c = strings_declares

pub returns-clause-stdio : goal.returns-clause-stdio
returns-clause-stdio c = stdio_declares

pub returns-clause-stdint : goal.returns-clause-stdint
returns-clause-stdint c = stdint_declares

pub returns-clause-limits : goal.returns-clause-limits
returns-clause-limits c = limits_declares

pub returns-clause-fortran_binding : goal.returns-clause-fortran_binding
returns-clause-fortran_binding c = binding_declares
