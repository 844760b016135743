-- Names, binding labels and numbers.
use Rattle.std.specs.Prelude.{ℕ, ◌≡◌, slice_index, ◌≤◌, ◌≢◌, List, [], ◌∷◌, ◌++◌, All, Contains, length, codes}
use Rattle.std.specs.Char.{IsAsciiLowercase, IsAsciiDigit}

-- 1 to 63 lower-case letters: a name of ISO/IEC 1539-1:2018, 6.2.2, of letters of one case
pub record IsName (word : List ℕ) : Type 0 where
  pub some : 1 ≤ length word
  pub most : length word ≤ 63
  pub letters : All IsAsciiLowercase word

-- ISO/IEC 9899:2011, 6.4.1
unfoldable pub keywords : List (List ℕ)
keywords = codes "auto" ∷ codes "break" ∷ codes "case" ∷ codes "char" ∷ codes "const" ∷ codes "continue" ∷ codes "default" ∷ codes "do" ∷ codes "double"
    ∷ codes "else" ∷ codes "enum" ∷ codes "extern" ∷ codes "float" ∷ codes "for" ∷ codes "goto" ∷ codes "if" ∷ codes "inline" ∷ codes "int" ∷ codes "long"
    ∷ codes "register" ∷ codes "restrict" ∷ codes "return" ∷ codes "short" ∷ codes "signed" ∷ codes "sizeof" ∷ codes "static" ∷ codes "struct"
    ∷ codes "switch" ∷ codes "typedef" ∷ codes "union" ∷ codes "unsigned" ∷ codes "void" ∷ codes "volatile" ∷ codes "while"
    ∷ codes "_Alignas" ∷ codes "_Alignof" ∷ codes "_Atomic" ∷ codes "_Bool" ∷ codes "_Complex" ∷ codes "_Generic" ∷ codes "_Imaginary" ∷ codes "_Noreturn"
    ∷ codes "_Static_assert" ∷ codes "_Thread_local" ∷ []

-- the functions of the C library that programs may use: ISO/IEC 9899:2011, 7.22.3, 7.22.4, 7.21.7 and 7.24
unfoldable pub library_functions : List (List ℕ)
library_functions = codes "malloc" ∷ codes "free" ∷ codes "exit" ∷ codes "abort" ∷ codes "putchar" ∷ codes "getchar" ∷ codes "puts" ∷ codes "memcpy"
    ∷ codes "memset" ∷ codes "strlen" ∷ []

-- words of C that name no function of the program: the first function of a C program is called `main` (ISO/IEC 9899:2011, 5.1.2.2.1)
abbrev pub reserved_words : List (List ℕ)
reserved_words = keywords ++ (codes "main" ∷ library_functions)

-- the binding label of the function (ISO/IEC 1539-1:2018, 18.10.2), in a program of this name
pub record IsLabel (name label : List ℕ) : Type 0 where
  pub word : IsName label
  pub no_program : label ≢ name
  pub no_parameter : label ≢ codes "c"
  pub free : ¬ (Contains reserved_words label)

-- a value of a C `int` that is written without a sign
abbrev pub IsInt : ℕ → Type 0
IsInt number = number ≤ 2147483647

-- one decimal digit or more, the first not 0 where there are more
pub record IsPlainNumeral (numeral : List ℕ) : Type 0 where
  pub some : 1 ≤ length numeral
  pub digits : All IsAsciiDigit numeral
  pub plain : slice_index numeral 0 ≡ 48 → length numeral ≡ 1
