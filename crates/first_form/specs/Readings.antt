-- What a pair of texts is read as.
use Rattle.std.specs.Prelude.{ℕ, ◌+◌, ◌*◌, List, length}
use Rattle.first_form.specs.Words.{IsName}
use Rattle.first_form.specs.Forms.{IsFortranText, IsCText, AreCalls, ArePuts}
use Rattle.first_form.specs.declared.program.PutcharArgument.{PutcharArgument}
use Rattle.first_form.specs.declared.program.FirstProgram.{FirstProgram}
use Rattle.first_form.specs.declared.pair.Reading.{Reading}
use Rattle.first_form.specs.declared.pair.Reading.TheVariants.{Program, Fortran, C}

-- no label and numbers make the text one of the form
abbrev pub IsNoFortranText : List ℕ → Type 0
IsNoFortranText bytes = (label calls : List ℕ) → ¬ (IsFortranText bytes label calls)

-- no arguments make the text one of the form with this label
abbrev pub IsNoCText : List ℕ → List ℕ → Type 0
IsNoCText bytes label = (puts : List PutcharArgument) → ¬ (IsCText bytes label puts)

-- both texts are of the form, with the label, the numbers and the arguments of the program
pub record AreTexts (fortran c : List ℕ) (program : FirstProgram) : Type 0 where
  pub fortran_text : IsFortranText fortran program.label program.calls
  pub c_text : IsCText c program.label program.puts

-- the Fortran text is of the form, and the C text isn't with its label
pub record IsFaultInC (fortran c : List ℕ) : Type 0 where
  pub label : List ℕ
  pub calls : List ℕ
  pub fortran_text : IsFortranText fortran label calls
  pub no_c_text : IsNoCText c label

abbrev pub IsReading : List ℕ → List ℕ → Reading → Type 0
IsReading fortran c (Program program) = AreTexts fortran c program
IsReading fortran c Fortran = IsNoFortranText fortran
IsReading fortran c C = IsFaultInC fortran c

-- what is known of a program that two texts are read as
pub record IsFirstProgram (program : FirstProgram) : Type 0 where
  pub is_name : IsName program.label
  pub are_calls : AreCalls program.calls
  pub are_puts : ArePuts program.puts

-- The tokens of both texts, the line `#include <stdio.h>` counting none. A call has 5 and the end of its statement, and a `putchar` has 5.
-- The other lines of the Fortran text have 31 and the ends of 10 statements, and `void LABEL(int c){` and `}` have 8.
abbrev pub token_count : FirstProgram → ℕ
token_count program = 49 + 6 * length program.calls + 5 * length program.puts
