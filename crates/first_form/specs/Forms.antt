-- Texts of the first form. A Fortran main program calls one C function, which puts characters.
use Rattle.std.specs.Prelude.{◌≡◌, ℕ, ◌≤◌, ◌⊎◌, List, [], ◌∷◌, ◌++◌, All, length, map, codes}
use Rattle.std.specs.List.{flat_map}
use Rattle.std.specs.Fmt.{decimal}
use Rattle.first_form.specs.Lines.{text_lines}
use Rattle.first_form.specs.Words.{IsName, IsLabel, IsInt}
use Rattle.first_form.specs.declared.program.PutcharArgument.{PutcharArgument}
use Rattle.first_form.specs.declared.program.PutcharArgument.TheVariants.{Parameter, Number}

-- program-stmt, use-stmt, implicit-stmt and interface-stmt: ISO/IEC 1539-1:2018, R1402, R1409, R863 and R1503
unfoldable pub program_lines : List ℕ → List (List ℕ)
program_lines name = (codes "program " ++ name) ∷ codes "use iso_c_binding" ∷ codes "implicit none" ∷ codes "interface" ∷ []

-- interface-body and end-interface-stmt: ISO/IEC 1539-1:2018, R1505 and R1504
unfoldable pub interface_lines : List ℕ → List (List ℕ)
interface_lines label = (codes "subroutine " ++ (label ++ codes "(c) bind(c)")) ∷ codes "import" ∷ codes "integer(c_int), value :: c" ∷ codes "end subroutine"
    ∷ codes "end interface" ∷ []

-- call-stmt with an int-literal-constant: ISO/IEC 1539-1:2018, R1521 and R708
unfoldable pub call_line : List ℕ → ℕ → List ℕ
call_line label number = codes "call " ++ (label ++ (codes "(" ++ (decimal number ++ codes "_c_int)")))

-- end-program-stmt: ISO/IEC 1539-1:2018, R1403
unfoldable pub end_line : List ℕ
end_line = codes "end program"

-- the Fortran file line by line
abbrev pub fortran_lines : List ℕ → List ℕ → List ℕ → List (List ℕ)
fortran_lines name label calls = program_lines name ++ (interface_lines label ++ (map (call_line label) calls ++ (end_line ∷ [])))

-- what stands between the parentheses: the parameter, or an integer-constant (ISO/IEC 9899:2011, 6.4.4.1)
abbrev pub argument_text : PutcharArgument → List ℕ
argument_text Parameter = codes "c"
argument_text (Number number) = decimal number

-- an expression-statement: ISO/IEC 9899:2011, 6.8.3 and 6.5.2.2
unfoldable pub put_text : PutcharArgument → List ℕ
put_text argument = codes "putchar(" ++ (argument_text argument ++ codes ");")

unfoldable pub include_line : List ℕ
include_line = codes "#include <stdio.h>"

-- a function-definition up to its first statement: ISO/IEC 9899:2011, 6.9.1
unfoldable pub opening_text : List ℕ → List ℕ
opening_text label = codes "void " ++ (label ++ codes "(int c){")

unfoldable pub closing_text : List ℕ
closing_text = codes "}"

-- the C file with each statement on a line of its own
abbrev pub c_lines : List ℕ → List PutcharArgument → List (List ℕ)
c_lines label puts = include_line ∷ opening_text label ∷ (map put_text puts ++ (closing_text ∷ []))

-- the C file with the whole function on one line
abbrev pub c_one_line : List ℕ → List PutcharArgument → List (List ℕ)
c_one_line label puts = include_line ∷ (opening_text label ++ (flat_map put_text puts ++ closing_text)) ∷ []

-- 1 to 100 calls, the number of each that of an `int`
pub record AreCalls (calls : List ℕ) : Type 0 where
  pub some : 1 ≤ length calls
  pub most : length calls ≤ 100
  pub numbers : All IsInt calls

-- a number is that of an `int`
abbrev pub IsArgument : PutcharArgument → Type 0
IsArgument Parameter = Unit {0}
IsArgument (Number number) = IsInt number

-- 1 to 100 statements
pub record ArePuts (puts : List PutcharArgument) : Type 0 where
  pub some : 1 ≤ length puts
  pub most : length puts ≤ 100
  pub arguments : All IsArgument puts

-- the text is the main program of some name that calls `label` with these numbers
pub record IsFortranText (bytes label calls : List ℕ) : Type 0 where
  pub name : List ℕ
  pub is_name : IsName name
  pub is_label : IsLabel name label
  pub are_calls : AreCalls calls
  pub lines : text_lines bytes ≡ fortran_lines name label calls

-- the text is the definition of `label` that puts these, in one of the two ways to write it
pub record IsCText (bytes label : List ℕ) (puts : List PutcharArgument) : Type 0 where
  pub are_puts : ArePuts puts
  pub lines : (text_lines bytes ≡ c_lines label puts) ⊎ (text_lines bytes ≡ c_one_line label puts)
