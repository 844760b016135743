-- The structured code of a program of the first form: the C function is a procedure, and the Fortran main program another, which calls it.
use Rattle.std.specs.Prelude.{ℕ, List, [], ◌∷◌, ◌++◌, map}
use Rattle.first_form.specs.declared.program.FirstProgram.{FirstProgram}
use Rattle.first_form.specs.declared.program.PutcharArgument.{PutcharArgument}
use Rattle.first_form.specs.declared.program.PutcharArgument.TheVariants.{Parameter, Number}
use Rattle.first_meaning.specs.Charges.{main_tokens, function_tokens, frame}
use Rattle.flat_ir.specs.declared.program.FlatExpr.TheVariants as E
use Rattle.flat_ir.specs.declared.program.FlatStmt.{FlatStmt}
use Rattle.flat_ir.specs.declared.program.FlatStmt.TheVariants as S
use Rattle.flat_ir.specs.declared.program.FlatProc.{FlatProc}
use Rattle.flat_ir.specs.declared.program.FlatProgram.{FlatProgram}

-- ISO/IEC 9899:2011, 7.21.7.8 and 7.21.7.3: putchar writes its argument converted to an unsigned char, which is the low byte of the number
abbrev pub put_stmt : PutcharArgument → FlatStmt
put_stmt Parameter = S.Give (E.Value 0)
put_stmt (Number n) = S.Give (E.Number n)

-- ISO/IEC 9899:2011, 6.9.1: the function has one parameter, which its value 0 holds, and no result
abbrev pub function_proc : FirstProgram → FlatProc
function_proc p = record { params = 1; values = 1; charge = frame (function_tokens p); body = map put_stmt p.puts }

-- ISO/IEC 1539-1:2018, 15.5.1 and 18.10: each CALL calls the function with its number, by value
abbrev pub call_stmt : ℕ → FlatStmt
call_stmt c = S.Call [] 0 (E.Number c ∷ [])

-- ISO/IEC 1539-1:2018, 11.4: the main program ends the run normally, with the stop code 0
abbrev pub main_proc : FirstProgram → FlatProc
main_proc p = record { params = 0; values = 0; charge = frame (main_tokens p); body = map call_stmt p.calls ++ S.Stop (E.Number 0) ∷ [] }

-- the function is procedure 0 and the main program 1; there are no static objects, constants or texts
abbrev pub lowered : FirstProgram → FlatProgram
lowered p = record { procs = function_proc p ∷ main_proc p ∷ []; image = []; fixes = []; entry = 1 }
