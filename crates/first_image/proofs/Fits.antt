-- The structured code of a program holds together.
use Rattle.std.proofs.Common.{◌≡◌, ℕ, Bool, true, false, List, [], ◌∷◌, ◌++◌, refl}
use Rattle.std.specs.Prelude.{map, ◌&&◌}
use Rattle.first_form.specs.declared.program.FirstProgram.{FirstProgram}
use Rattle.first_form.specs.declared.program.PutcharArgument.{PutcharArgument}
use Rattle.first_form.specs.declared.program.PutcharArgument.TheVariants.{Parameter, Number}
use Rattle.flat_ir.specs.declared.program.FlatExpr.TheVariants as E
use Rattle.flat_ir.specs.declared.program.FlatStmt.TheVariants as S
use Rattle.flat_ir.specs.View.{stmts_of}
use Rattle.flat_ir.specs.Checked.{stmt_fits, is_ok}
use Rattle.first_flat.specs.Lowered.{put_stmt, call_stmt, lowered}

puts_fit : (puts : List PutcharArgument) → stmt_fits 1 2 0 0 (stmts_of (map put_stmt puts)) ≡ true
puts_fit [] = refl
puts_fit (Parameter ∷ puts) = puts_fit puts
puts_fit (Number n ∷ puts) = puts_fit puts

calls_fit : (cs : List ℕ) → stmt_fits 0 2 0 0 (stmts_of (map call_stmt cs ++ S.Stop (E.Number 0) ∷ [])) ≡ true
calls_fit [] = refl
calls_fit (c ∷ cs) = calls_fit cs

all_fit : (a b : Bool) → a ≡ true → b ≡ true → (true && (((true && (a && true)) && ((true && (b && true)) && true)) && (true && true))) ≡ true
all_fit true true p q = refl
all_fit true false p q = absurd (cc)
all_fit false b p q = absurd (cc)

pub ok : (p : FirstProgram) → is_ok (lowered p) ≡ true
ok p = all_fit (stmt_fits 1 2 0 0 (stmts_of (map put_stmt p.puts))) (stmt_fits 0 2 0 0 (stmts_of (map call_stmt p.calls ++ S.Stop (E.Number 0) ∷ []))) (puts_fit p.puts) (calls_fit p.calls)
