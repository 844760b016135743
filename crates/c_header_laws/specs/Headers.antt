-- The names that built-in headers declare and define, and that their texts do so (ISO/IEC 9899:2011, 7).
use Rattle.std.specs.Prelude.{◌≡◌, ℕ, List, [], ◌∷◌, ◌++◌, map, Ok}
use Rattle.jf_base.specs.declared.place.Place.{Place}
use Rattle.c_headers.specs.declared.header.Header.{Header}
use Rattle.c_headers.specs.declared.header.Header.TheVariants.{Stddef, Stdint, Stdbool, Limits, Stdlib, Str, Stdio, FortranBinding}
use Rattle.c_headers.specs.Headers.{text_of}
use Rattle.c_define.specs.Definitions.{no_macros}
use Rattle.c_directives.specs.declared.origin.Origin.TheVariants.{Included}
use Rattle.c_directives.specs.Conditions.{most_tokens}
use Rattle.c_directives.specs.Replacement.{bare}
use Rattle.c_directives.specs.Reading.{State, Including, file_at}
use Rattle.c_header_laws.specs.Declared.{Front, declared, Declaration, type_name, function, written_in, Definition, with_all, nothing, number, word, negative, least, null}

-- nothing is read yet
abbrev pub start : ℕ → State
start calls = record { work = record { macros = no_macros; out = [] }; calls = calls }

-- A header's text, read first, breaks no rule, asks for no file, and has these declarations, makes these definitions and nothing else.
pub record DeclaresItsNames (header : Header) (declarations : List Declaration) (definitions : List Definition) (including : Including) (place : Place) (calls : ℕ) : Type 0 where
  pub read : State
  pub breaks_no_rule : file_at including most_tokens (Included place) (start calls) (text_of header) ≡ Ok read
  pub asks_nothing : read.calls ≡ calls
  pub declares : declared Front (bare read.work.out) ≡ map (λ d. d.name) declarations
  pub written : written_in [] (bare read.work.out) ≡ map (λ d. d.written) declarations
  pub defines : read.work.macros ≡ with_all no_macros definitions

-- whatever other headers give, and wherever the `#include` stands
abbrev pub Declares : Header → List Declaration → List Definition → Type 0
Declares header declarations definitions = (including : Including) (place : Place) (calls : ℕ) → DeclaresItsNames header declarations definitions including place calls

-- the types that several headers declare (7.19)
abbrev pub sizes : List Declaration
sizes = type_name "size_t" "unsigned long" ∷ type_name "ptrdiff_t" "long" ∷ []

-- the functions that the library has of each header
abbrev pub stdlib_functions : List Declaration
stdlib_functions = function "malloc" "void *" "size_t" ∷ function "free" "void" "void *" ∷ function "exit" "void" "int" ∷ function "abort" "void" "void" ∷ []

abbrev pub string_functions : List Declaration
string_functions = function "memcpy" "void *" "void * restrict , const void * restrict , size_t" ∷ function "memset" "void *" "void * , int , size_t" ∷ function "strlen" "size_t" "const char *" ∷ []

abbrev pub stdio_functions : List Declaration
stdio_functions = function "putchar" "int" "int" ∷ function "getchar" "int" "void" ∷ function "puts" "int" "const char *" ∷ []

-- the types of exact width, of the greatest width and for pointers (7.20.1)
abbrev pub integer_types : List Declaration
integer_types = type_name "int8_t" "signed char" ∷ type_name "int16_t" "short" ∷ type_name "int32_t" "int" ∷ type_name "int64_t" "long"
    ∷ type_name "uint8_t" "unsigned char" ∷ type_name "uint16_t" "unsigned short" ∷ type_name "uint32_t" "unsigned int" ∷ type_name "uint64_t" "unsigned long"
    ∷ type_name "intmax_t" "long" ∷ type_name "uintmax_t" "unsigned long" ∷ type_name "intptr_t" "long" ∷ type_name "uintptr_t" "unsigned long" ∷ []

-- their limits (7.20.2)
abbrev pub limits_of_types : List Definition
limits_of_types = negative "INT8_MIN" "128" ∷ number "INT8_MAX" "127" ∷ number "UINT8_MAX" "255"
    ∷ negative "INT16_MIN" "32768" ∷ number "INT16_MAX" "32767" ∷ number "UINT16_MAX" "65535"
    ∷ least "INT32_MIN" "2147483647" ∷ number "INT32_MAX" "2147483647" ∷ number "UINT32_MAX" "4294967295U"
    ∷ least "INT64_MIN" "9223372036854775807L" ∷ number "INT64_MAX" "9223372036854775807L" ∷ number "UINT64_MAX" "18446744073709551615UL"
    ∷ least "INTMAX_MIN" "9223372036854775807L" ∷ number "INTMAX_MAX" "9223372036854775807L" ∷ number "UINTMAX_MAX" "18446744073709551615UL"
    ∷ least "INTPTR_MIN" "9223372036854775807L" ∷ number "INTPTR_MAX" "9223372036854775807L" ∷ number "UINTPTR_MAX" "18446744073709551615UL" ∷ []

-- the sizes of the integer types (5.2.4.2.1), where plain `char` is unsigned
abbrev pub limits_of_integers : List Definition
limits_of_integers = number "CHAR_BIT" "8" ∷ negative "SCHAR_MIN" "128" ∷ number "SCHAR_MAX" "127" ∷ number "UCHAR_MAX" "255" ∷ number "CHAR_MIN" "0" ∷ number "CHAR_MAX" "255" ∷ number "MB_LEN_MAX" "1"
    ∷ negative "SHRT_MIN" "32768" ∷ number "SHRT_MAX" "32767" ∷ number "USHRT_MAX" "65535"
    ∷ least "INT_MIN" "2147483647" ∷ number "INT_MAX" "2147483647" ∷ number "UINT_MAX" "4294967295U"
    ∷ least "LONG_MIN" "9223372036854775807L" ∷ number "LONG_MAX" "9223372036854775807L" ∷ number "ULONG_MAX" "18446744073709551615UL"
    ∷ least "LLONG_MIN" "9223372036854775807LL" ∷ number "LLONG_MAX" "9223372036854775807LL" ∷ number "ULLONG_MAX" "18446744073709551615ULL" ∷ []

-- the types of the Fortran header (ISO/IEC 1539-1:2018, 18.5.3 and 18.5.4)
abbrev pub descriptor_types : List Declaration
descriptor_types = type_name "CFI_cdesc_t" "__CFI_descriptor" ∷ type_name "CFI_attribute_t" "signed char" ∷ type_name "CFI_index_t" "ptrdiff_t"
    ∷ type_name "CFI_rank_t" "signed char" ∷ type_name "CFI_type_t" "short" ∷ []

-- its functions (18.5.5)
abbrev pub descriptor_functions : List Declaration
descriptor_functions = function "CFI_address" "void *" "const CFI_cdesc_t * , const CFI_index_t [ ]"
    ∷ function "CFI_allocate" "int" "CFI_cdesc_t * , const CFI_index_t [ ] , const CFI_index_t [ ] , size_t"
    ∷ function "CFI_deallocate" "int" "CFI_cdesc_t *"
    ∷ function "CFI_establish" "int" "CFI_cdesc_t * , void * , CFI_attribute_t , CFI_type_t , size_t , CFI_rank_t , const CFI_index_t [ ]"
    ∷ function "CFI_is_contiguous" "int" "const CFI_cdesc_t *"
    ∷ function "CFI_section" "int" "CFI_cdesc_t * , const CFI_cdesc_t * , const CFI_index_t [ ] , const CFI_index_t [ ] , const CFI_index_t [ ]"
    ∷ function "CFI_select_part" "int" "CFI_cdesc_t * , const CFI_cdesc_t * , size_t , size_t"
    ∷ function "CFI_setpointer" "int" "CFI_cdesc_t * , CFI_cdesc_t * , const CFI_index_t [ ]" ∷ []

-- its macros: the greatest rank and the version, and the codes of attributes, of types and of errors (18.5.4)
abbrev pub descriptor_codes : List Definition
descriptor_codes = number "CFI_MAX_RANK" "15" ∷ number "CFI_VERSION" "1" ∷ number "CFI_attribute_other" "0" ∷ number "CFI_attribute_allocatable" "1" ∷ number "CFI_attribute_pointer" "2"
    ∷ number "CFI_type_signed_char" "1" ∷ number "CFI_type_int8_t" "1" ∷ number "CFI_type_short" "2" ∷ number "CFI_type_int16_t" "2"
    ∷ number "CFI_type_int" "3" ∷ number "CFI_type_int32_t" "3" ∷ number "CFI_type_long" "4" ∷ number "CFI_type_long_long" "4"
    ∷ number "CFI_type_int64_t" "4" ∷ number "CFI_type_size_t" "4" ∷ number "CFI_type_intmax_t" "4" ∷ number "CFI_type_intptr_t" "4"
    ∷ number "CFI_type_ptrdiff_t" "4" ∷ number "CFI_type_Bool" "5" ∷ number "CFI_type_char" "6" ∷ number "CFI_type_cptr" "7"
    ∷ number "CFI_type_cfunptr" "8" ∷ number "CFI_type_struct" "9" ∷ negative "CFI_type_other" "1"
    ∷ number "CFI_SUCCESS" "0" ∷ number "CFI_ERROR_BASE_ADDR_NULL" "1" ∷ number "CFI_ERROR_BASE_ADDR_NOT_NULL" "2"
    ∷ number "CFI_INVALID_ELEM_LEN" "3" ∷ number "CFI_INVALID_RANK" "4" ∷ number "CFI_INVALID_TYPE" "5"
    ∷ number "CFI_INVALID_ATTRIBUTE" "6" ∷ number "CFI_INVALID_EXTENT" "7" ∷ number "CFI_INVALID_DESCRIPTOR" "8"
    ∷ number "CFI_ERROR_MEM_ALLOCATION" "9" ∷ number "CFI_ERROR_OUT_OF_BOUNDS" "10" ∷ []

-- each header defines its guard and its macros
abbrev pub StddefDeclares : Type 0
StddefDeclares = Declares Stddef sizes (nothing "__stddef_h" ∷ null ∷ [])

abbrev pub StdboolDeclares : Type 0
StdboolDeclares = Declares Stdbool [] (nothing "__stdbool_h" ∷ word "bool" "_Bool" ∷ number "true" "1" ∷ number "false" "0" ∷ [])

abbrev pub StdlibDeclares : Type 0
StdlibDeclares = Declares Stdlib (sizes ++ stdlib_functions) (nothing "__stdlib_h" ∷ null ∷ [])

abbrev pub StringDeclares : Type 0
StringDeclares = Declares Str (sizes ++ string_functions) (nothing "__string_h" ∷ null ∷ [])

abbrev pub StdioDeclares : Type 0
StdioDeclares = Declares Stdio (sizes ++ stdio_functions) (nothing "__stdio_h" ∷ null ∷ negative "EOF" "1" ∷ [])

abbrev pub StdintDeclares : Type 0
StdintDeclares = Declares Stdint integer_types (nothing "__stdint_h" ∷ limits_of_types)

abbrev pub LimitsDeclares : Type 0
LimitsDeclares = Declares Limits [] (nothing "__limits_h" ∷ limits_of_integers)

abbrev pub FortranBindingDeclares : Type 0
FortranBindingDeclares = Declares FortranBinding (sizes ++ (descriptor_types ++ descriptor_functions)) (nothing "__ISO_Fortran_binding_h" ∷ null ∷ descriptor_codes)
