-- What a program of the first form is counted and charged by.
use Rattle.std.specs.Prelude.{ℕ, ◌+◌, ◌*◌, ◌/◌, length}
use Rattle.first_form.specs.declared.program.FirstProgram.{FirstProgram}

-- The tokens of the main program without statement ends: 'program NAME' 2, 'use iso_c_binding' 2, 'implicit none' 2, 'interface' 1, 'subroutine LABEL ( c ) bind ( c )' 9, 'import' 1,
-- 'integer ( c_int ) , value :: c' 8, 'end subroutine' 2, 'end interface' 2, 'end program' 2, and each 'call LABEL ( N_c_int )' 5: a literal with its kind is one token.
abbrev pub main_tokens : FirstProgram → ℕ
main_tokens p = 31 + 5 * length p.calls

-- The tokens of the function: 'void LABEL ( int c ) { }' 8, and each 'putchar ( c ) ;' 5.
abbrev pub function_tokens : FirstProgram → ℕ
function_tokens p = 8 + 5 * length p.puts

-- the bytes of a frame of a procedure of t tokens
abbrev pub frame : (t : ℕ) → ℕ
frame t = 1024 + 64 * t

-- what an object of s bytes charges
abbrev pub charge : (s : ℕ) → ℕ
charge s = 16 * ((s + 16) / 16)
