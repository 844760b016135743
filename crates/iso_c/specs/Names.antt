-- The names of the module ISO_C_BINDING that the profile has (ISO/IEC 1539-1:2018, 18.2; F_C_STRING is of ISO/IEC 1539-1:2023, 18.2.3), with their letters lowered.
use Rattle.std.specs.Prelude.{ℕ, List, [], ◌∷◌, Option, Some, None, Bool, true, false, if◌then◌else◌, codes}
use Rattle.std.specs.Str.{bytes_eq}
use Rattle.iso_c.specs.declared.names.Procedure.{Procedure}
use Rattle.iso_c.specs.declared.names.Procedure.TheVariants as procedure
use Rattle.iso_c.specs.declared.names.Entity.{Entity}
use Rattle.iso_c.specs.declared.names.Entity.TheVariants as entity

-- the word is one of these
abbrev pub is_any : List (List ℕ) → List ℕ → Bool
is_any [] w = false
is_any (n ∷ ns) w = if bytes_eq w n then true else is_any ns w

-- ---- named constants that are kinds (18.2.2), by the bytes of a value

unfoldable pub has_one : List ℕ → Bool
has_one w = is_any (codes "c_signed_char" ∷ codes "c_int8_t" ∷ codes "c_bool" ∷ codes "c_char" ∷ []) w

unfoldable pub has_two : List ℕ → Bool
has_two w = is_any (codes "c_short" ∷ codes "c_int16_t" ∷ []) w

unfoldable pub has_four : List ℕ → Bool
has_four w = is_any (codes "c_int" ∷ codes "c_int32_t" ∷ []) w

unfoldable pub has_eight : List ℕ → Bool
has_eight w = is_any (codes "c_long" ∷ codes "c_long_long" ∷ codes "c_int64_t" ∷ codes "c_size_t" ∷ codes "c_intmax_t" ∷ codes "c_intptr_t" ∷ codes "c_ptrdiff_t" ∷ []) w

unfoldable pub kind_named : List ℕ → Option ℕ
kind_named w = if has_one w then Some 1 else if has_two w then Some 2 else if has_four w then Some 4 else if has_eight w then Some 8 else None

-- ---- named constants that are characters (18.2.2, table 18.1)

unfoldable pub character_named : List ℕ → Option ℕ
character_named w = if bytes_eq w (codes "c_null_char") then Some 0
    else if bytes_eq w (codes "c_alert") then Some 7
    else if bytes_eq w (codes "c_backspace") then Some 8
    else if bytes_eq w (codes "c_horizontal_tab") then Some 9
    else if bytes_eq w (codes "c_new_line") then Some 10
    else if bytes_eq w (codes "c_vertical_tab") then Some 11
    else if bytes_eq w (codes "c_form_feed") then Some 12
    else if bytes_eq w (codes "c_carriage_return") then Some 13 else None

-- ---- types and their null values (18.2.2, 18.2.3)

unfoldable pub pointer_named : List ℕ → Option Entity
pointer_named w = if bytes_eq w (codes "c_ptr") then Some entity.Pointer
    else if bytes_eq w (codes "c_funptr") then Some entity.FunctionPointer
    else if bytes_eq w (codes "c_null_ptr") then Some entity.NullPointer
    else if bytes_eq w (codes "c_null_funptr") then Some entity.NullFunctionPointer else None

-- ---- procedures (18.2.3)

unfoldable pub procedure_named : List ℕ → Option Procedure
procedure_named w = if bytes_eq w (codes "c_loc") then Some procedure.Loc
    else if bytes_eq w (codes "c_funloc") then Some procedure.FunLoc
    else if bytes_eq w (codes "c_associated") then Some procedure.Associated
    else if bytes_eq w (codes "c_f_pointer") then Some procedure.FPointer
    else if bytes_eq w (codes "c_f_procpointer") then Some procedure.FProcPointer
    else if bytes_eq w (codes "c_sizeof") then Some procedure.SizeOf
    else if bytes_eq w (codes "f_c_string") then Some procedure.FCString else None

abbrev pub or_else : {A B : Type 0} → Option A → (A → B) → Option B → Option B
or_else None f other = other
or_else (Some x) f other = Some (f x)

-- what a name of the module is
unfoldable pub entity_named : List ℕ → Option Entity
entity_named w = or_else (kind_named w) (λ k. entity.Kind k) (or_else (character_named w) (λ c. entity.Character c) (or_else (procedure_named w) (λ p. entity.Procedure p) (pointer_named w)))
