-- What is there before a program: the intrinsic procedures, and the module ISO_C_BINDING (ISO/IEC 1539-1:2018, 16.9 and 18.2; F_C_STRING is of ISO/IEC 1539-1:2023, 18.2.3).
use Rattle.std.specs.Prelude.{ℕ, List, [], ◌∷◌, ◌++◌, map, None, codes}
use Rattle.jf_base.specs.declared.place.Place.{Place}
use Rattle.f_items.specs.declared.item.Item.{Item}
use Rattle.f_items.specs.declared.item.Item.TheVariants.{Enter, Leave, Declares}
use Rattle.f_items.specs.declared.item.Class.{Class}
use Rattle.f_items.specs.declared.item.Class.TheVariants as class
use Rattle.f_items.specs.declared.item.DeclaredType.TheVariants.{NotDerived}
use Rattle.f_items.specs.declared.item.Share.TheVariants.{Whole}
use Rattle.f_items.specs.declared.item.ScopeKind.TheVariants as kind

-- nowhere in a text
abbrev pub no_place : Place
no_place = record { file = 0; line = 0; column = 0 }

-- a declaration that is there before a program
abbrev pub built_in : Class → List ℕ → Item
built_in c name = Declares (record { name = record { bytes = name; place = no_place }; class = c; share = Whole; of_type = NotDerived; access = None })

-- the intrinsic procedures (16.9)
unfoldable pub intrinsic_names : List (List ℕ)
intrinsic_names = codes "abs" ∷ codes "mod" ∷ codes "modulo" ∷ codes "max" ∷ codes "min" ∷ codes "int" ∷ codes "huge" ∷ codes "kind" ∷ codes "len" ∷ codes "len_trim" ∷
    codes "trim" ∷ codes "ichar" ∷ codes "char" ∷ codes "iachar" ∷ codes "achar" ∷ codes "iand" ∷ codes "ior" ∷ codes "ieor" ∷ codes "not" ∷
    codes "ishft" ∷ codes "merge" ∷ codes "sum" ∷ codes "product" ∷ codes "maxval" ∷ codes "minval" ∷ codes "any" ∷ codes "all" ∷ codes "count" ∷
    codes "size" ∷ codes "shape" ∷ codes "lbound" ∷ codes "ubound" ∷ codes "rank" ∷ codes "allocated" ∷ codes "associated" ∷ codes "present" ∷
    codes "is_contiguous" ∷ codes "null" ∷ []

-- the named constants of ISO_C_BINDING (18.2.2 and 18.2.3)
unfoldable pub constant_names : List (List ℕ)
constant_names = codes "c_signed_char" ∷ codes "c_int8_t" ∷ codes "c_bool" ∷ codes "c_char" ∷ codes "c_short" ∷ codes "c_int16_t" ∷ codes "c_int" ∷
    codes "c_int32_t" ∷ codes "c_long" ∷ codes "c_long_long" ∷ codes "c_int64_t" ∷ codes "c_size_t" ∷ codes "c_intmax_t" ∷ codes "c_intptr_t" ∷
    codes "c_ptrdiff_t" ∷ codes "c_null_char" ∷ codes "c_alert" ∷ codes "c_backspace" ∷ codes "c_horizontal_tab" ∷ codes "c_new_line" ∷
    codes "c_vertical_tab" ∷ codes "c_form_feed" ∷ codes "c_carriage_return" ∷ codes "c_null_ptr" ∷ codes "c_null_funptr" ∷ []

-- its derived types (18.2.3)
unfoldable pub type_names : List (List ℕ)
type_names = codes "c_ptr" ∷ codes "c_funptr" ∷ []

-- its procedures (18.2.3)
unfoldable pub procedure_names : List (List ℕ)
procedure_names = codes "c_loc" ∷ codes "c_funloc" ∷ codes "c_associated" ∷ codes "c_f_pointer" ∷ codes "c_f_procpointer" ∷ codes "c_sizeof" ∷ codes "f_c_string" ∷ []

-- ISO_C_BINDING as a module, in which all is public
abbrev pub binding_module : List Item
binding_module = Enter kind.Module no_place ∷ built_in class.UnitName (codes "iso_c_binding") ∷ map (built_in class.Data) constant_names ++ map (built_in class.DerivedType) type_names ++ map (built_in class.Procedure) procedure_names ++ Leave ∷ []

-- what stands before the items of a program
abbrev pub before_program : List Item
before_program = map (built_in class.Procedure) intrinsic_names ++ binding_module
