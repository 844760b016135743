-- The bounds on instructions and on bytes, by the tokens of a program.
use Rattle.std.proofs.Common.{◌≡◌, ℕ, ◌+◌, ◌*◌, ◌≤◌, List, [], ◌∷◌, ◌++◌, length, refl, arith}
use Rattle.std.specs.Prelude.{map}
use Rattle.first_form.specs.declared.program.FirstProgram.{FirstProgram}
use Rattle.first_form.specs.declared.program.PutcharArgument.{PutcharArgument}
use Rattle.first_form.specs.declared.program.PutcharArgument.TheVariants.{Parameter, Number}
use Rattle.first_form.specs.Readings.{token_count}
use Rattle.flat_ir.specs.declared.program.FlatExpr.TheVariants as E
use Rattle.flat_ir.specs.declared.program.FlatStmt.TheVariants as S
use Rattle.flat_ir.specs.View.{stmts_of}
use Rattle.flatten.specs.Code.{program_code}
use Rattle.flatten.specs.Sizes.{size_of}
use Rattle.emitted_size.specs.Bounds.{most_bytes}
use Rattle.back_end.specs.Followed.{instructions}
use Rattle.first_flat.specs.Lowered.{put_stmt, call_stmt, lowered}
use Rattle.first_image.specs.Compiled.{pace}
use Rattle.first_image.proofs.Room.{function_low, main_low}

puts_size : (puts : List PutcharArgument) → size_of (stmts_of (map put_stmt puts)) ≡ 2 * length puts + 1
puts_size [] = refl
puts_size (Parameter ∷ puts) = omega (arith, puts_size puts)
puts_size (Number n ∷ puts) = omega (arith, puts_size puts)

calls_size : (cs : List ℕ) → size_of (stmts_of (map call_stmt cs ++ S.Stop (E.Number 0) ∷ [])) ≡ 2 * length cs + 3
calls_size [] = refl
calls_size (c ∷ cs) = omega (arith, calls_size cs)

pub few_instructions : (p : FirstProgram) → instructions (lowered p) * (1 + 1) ≤ pace p
few_instructions p =
    let a = puts_size p.puts in
    let b = calls_size p.calls in
    omega (arith, a, b)

pub few_bytes : (p : FirstProgram) → most_bytes (program_code (lowered p)).procs + 64 ≤ 16384 * (token_count p + 64)
few_bytes p =
    let a = (function_low p).few in
    let b = (main_low p).few in
    omega (arith, a, b)
