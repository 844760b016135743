-- Reading the statements of specification parts and those that begin, divide and end units: the statement that all the tokens are, or nothing.
use Rattle.std.specs.Prelude.{ℕ, zero, suc, List, [], ◌∷◌, length, Option, Some, None, Bool, true, false, if◌then◌else◌, codes}
use Rattle.std.specs.Str.{bytes_eq}
use Rattle.f_lex.specs.declared.token.Kind.{Kind}
use Rattle.f_lex.specs.declared.token.Mark.TheVariants as mark
use Rattle.f_lex.specs.declared.token.Token.{Token}
use Rattle.f_lex.specs.declared.token.Token.TheVariants as token
use Rattle.f_grammar.specs.Grammar.{Expr, Absent, Present, TypeOf}
use Rattle.f_grammar.specs.Reading.{◌>>=◌, choose, Read, open_at, closed_at, comma_at, colon_at, colons_at, star_at, name_at, word_at, ends_bound, behind_group, expr_at, type_at}
use Rattle.f_grammar.specs.ActionReading.{assign_at, arrow_at}
use Rattle.f_declaration_grammar.specs.Listing.{behind_at, listed_at}
use Rattle.f_declaration_grammar.specs.Declarations.{Dim, Upper, Bounds, Deferred, AssumedSize, AssumedRank, Public, Private, Intent, In, Out, InOut, InOutTwoWords, Label, Attr, Parameter, Dimension, Allocatable, Pointer, Target, Optional, Value, Contiguous, Save, Accessible, Bind, For, Initial, NoInitial, Starts, Null, Entity, entity, Rename, renamed, Only, Plain, Renamed, UseList, All, Renames, Onlys, TypeAttr, TypeBind, TypeAccess, PointerAttr, PointerSave, PointerAccess, ProcPointer, pointer, Prefix, Recursive, Returns, Suffix, BindSuffix, Result, Ended, OfProgram, OfModule, OfSubroutine, OfFunction, OfType, OfInterface, Declared, Program, Module, Head, Contains, Use, Import, ImplicitNone, Variables, TypeStart, InterfaceStart, Accesses, SaveAll, Procedures, End, EndOf}

-- ---- single tokens

-- nothing is left
unfoldable pub ends : {A : Type 0} → A → List Token → Option A
ends x [] = Some x
ends x (t ∷ ts) = None

-- what stands behind this word
unfoldable pub this_at : List ℕ → List Token → Option (List Token)
this_at word ts = name_at ts >>= λ m. if bytes_eq m.0 word then Some m.1 else None

unfoldable pub dots_at : List Token → Option (List Token)
dots_at (token.Mark mark.DotDot ∷ ts) = Some ts
dots_at ts = None

unfoldable pub text_at : List Token → Read (List ℕ × Option Kind)
text_at (token.Text bytes k ∷ ts) = Some ((bytes, k), ts)
text_at ts = None

-- `::`, where it is there
unfoldable pub maybe_colons_at : List Token → Bool × List Token
maybe_colons_at ts = choose (colons_at ts) (false, ts) (λ r. (true, r))

-- a name stands first
unfoldable pub begins_name : List Token → Bool
begins_name (token.Name name ∷ ts) = true
begins_name ts = false

-- a name, maybe parentheses, and a name: so what stands behind the type of a function goes on, and no variable
unfoldable pub begins_head : List Token → Bool
begins_head (token.Name name ∷ ts) = begins_name (behind_group ts)
begins_head ts = false

-- ---- parts

-- a dimension that begins with a bound
unfoldable pub dim_behind : ℕ → Expr × List Token → Read Dim
dim_behind n x = choose (colon_at x.1) (Some (Upper x.0, x.1))
    (λ r. choose (star_at r) (if ends_bound r then Some (Deferred (Present x.0), r) else expr_at n r >>= λ y. Some (Bounds x.0 y.0, y.1)) (λ q. Some (AssumedSize (Present x.0), q)))

unfoldable pub dim_at : ℕ → List Token → Read Dim
dim_at n ts = choose (dots_at ts) (choose (star_at ts) (choose (colon_at ts) (expr_at n ts >>= dim_behind n) (λ r. Some (Deferred Absent, r))) (λ r. Some (AssumedSize Absent, r))) (λ r. Some (AssumedRank, r))

-- dimensions behind their `(`
unfoldable pub dims_at : ℕ → List Token → Read (List Dim)
dims_at n ts = listed_at (dim_at n) ts >>= λ x. closed_at x.1 >>= λ r. Some (x.0, r)

unfoldable pub maybe_dims_at : ℕ → List Token → Read (Option (List Dim))
maybe_dims_at n ts = choose (open_at ts) (Some (None, ts)) (λ r. dims_at n r >>= λ x. Some (Some x.0, x.1))

unfoldable pub label_at : List Token → Read Label
label_at ts = choose (comma_at ts) (Some (None, ts)) (λ r. word_at (codes "name") r >>= λ s. text_at s >>= λ x. Some (Some x.0, x.1))

-- what stands behind BIND
unfoldable pub bind_at : List Token → Read Label
bind_at ts = open_at ts >>= λ r. this_at (codes "c") r >>= λ s. label_at s >>= λ x. closed_at x.1 >>= λ q. Some (x.0, q)

-- IN, or IN OUT
unfoldable pub in_at : List Token → Read Intent
in_at ts = choose (this_at (codes "out") ts) (Some (In, ts)) (λ r. Some (InOutTwoWords, r))

unfoldable pub intent_by : List ℕ → List Token → Read Intent
intent_by w ts = if bytes_eq w (codes "in") then in_at ts else if bytes_eq w (codes "out") then Some (Out, ts) else if bytes_eq w (codes "inout") then Some (InOut, ts) else None

-- what stands behind INTENT
unfoldable pub intent_at : List Token → Read Intent
intent_at ts = open_at ts >>= λ r. name_at r >>= λ m. intent_by m.0 m.1 >>= λ x. closed_at x.1 >>= λ q. Some (x.0, q)

unfoldable pub dimension_at : ℕ → List Token → Read Attr
dimension_at n ts = open_at ts >>= λ r. dims_at n r >>= λ x. Some (Dimension x.0, x.1)

unfoldable pub bind_attr_at : List Token → Read Attr
bind_attr_at ts = bind_at ts >>= λ x. Some (Bind x.0, x.1)

unfoldable pub intent_attr_at : List Token → Read Attr
intent_attr_at ts = intent_at ts >>= λ x. Some (For x.0, x.1)

-- the attribute that a word begins
unfoldable pub attr_by : ℕ → List ℕ → List Token → Read Attr
attr_by n w ts = if bytes_eq w (codes "parameter") then Some (Parameter, ts) else if bytes_eq w (codes "dimension") then dimension_at n ts
    else if bytes_eq w (codes "allocatable") then Some (Allocatable, ts) else if bytes_eq w (codes "pointer") then Some (Pointer, ts)
    else if bytes_eq w (codes "target") then Some (Target, ts) else if bytes_eq w (codes "optional") then Some (Optional, ts)
    else if bytes_eq w (codes "value") then Some (Value, ts) else if bytes_eq w (codes "contiguous") then Some (Contiguous, ts)
    else if bytes_eq w (codes "save") then Some (Save, ts) else if bytes_eq w (codes "public") then Some (Accessible Public, ts)
    else if bytes_eq w (codes "private") then Some (Accessible Private, ts) else if bytes_eq w (codes "bind") then bind_attr_at ts
    else if bytes_eq w (codes "intent") then intent_attr_at ts else None

unfoldable pub attr_at : ℕ → List Token → Read Attr
attr_at n ts = name_at ts >>= λ m. attr_by n m.0 m.1

-- `null()`
unfoldable pub null_at : List Token → Option (List Token)
null_at ts = this_at (codes "null") ts >>= λ r. open_at r >>= λ s. closed_at s

unfoldable pub initial_at : ℕ → List Token → Read Initial
initial_at n ts = choose (assign_at ts) (choose (arrow_at ts) (Some (NoInitial, ts)) (λ r. null_at r >>= λ q. Some (Null, q))) (λ r. expr_at n r >>= λ x. Some (Starts x.0, x.1))

unfoldable pub entity_at : ℕ → List Token → Read Entity
entity_at n ts = name_at ts >>= λ m. maybe_dims_at n m.1 >>= λ d. initial_at n d.1 >>= λ i. Some (entity m.0 d.0 i.0, i.1)

unfoldable pub rename_at : List Token → Read Rename
rename_at ts = name_at ts >>= λ a. arrow_at a.1 >>= λ r. name_at r >>= λ b. Some (renamed a.0 b.0, b.1)

unfoldable pub only_at : List Token → Read Only
only_at ts = name_at ts >>= λ a. choose (arrow_at a.1) (Some (Plain a.0, a.1)) (λ r. name_at r >>= λ b. Some (Renamed (renamed a.0 b.0), b.1))

unfoldable pub type_attr_by : List ℕ → List Token → Read TypeAttr
type_attr_by w ts = if bytes_eq w (codes "bind") then (bind_at ts >>= λ x. Some (TypeBind x.0, x.1)) else if bytes_eq w (codes "public") then Some (TypeAccess Public, ts)
    else if bytes_eq w (codes "private") then Some (TypeAccess Private, ts) else None

unfoldable pub type_attr_at : List Token → Read TypeAttr
type_attr_at ts = name_at ts >>= λ m. type_attr_by m.0 m.1

unfoldable pub pointer_attr_by : List ℕ → List Token → Read PointerAttr
pointer_attr_by w ts = if bytes_eq w (codes "save") then Some (PointerSave, ts) else if bytes_eq w (codes "public") then Some (PointerAccess Public, ts)
    else if bytes_eq w (codes "private") then Some (PointerAccess Private, ts) else None

unfoldable pub pointer_attr_at : List Token → Read PointerAttr
pointer_attr_at ts = name_at ts >>= λ m. pointer_attr_by m.0 m.1

unfoldable pub pointer_at : List Token → Read ProcPointer
pointer_at ts = name_at ts >>= λ m. choose (arrow_at m.1) (Some (pointer m.0 false, m.1)) (λ r. null_at r >>= λ q. Some (pointer m.0 true, q))

-- ---- units

-- RECURSIVE or a type; neither SUBROUTINE nor FUNCTION
unfoldable pub prefix_at : ℕ → List Token → Read Prefix
prefix_at n ts = choose (this_at (codes "recursive") ts) (type_at (expr_at n) ts >>= λ t. Some (Returns t.0, t.1)) (λ r. Some (Recursive, r))

-- SUBROUTINE or FUNCTION, and whether it is FUNCTION
unfoldable pub unit_word_at : List Token → Read Bool
unit_word_at ts = choose (this_at (codes "subroutine") ts) (this_at (codes "function") ts >>= λ r. Some (true, r)) (λ r. Some (false, r))

unfoldable pub suffix_by : List ℕ → List Token → Read Suffix
suffix_by w ts = if bytes_eq w (codes "bind") then (bind_at ts >>= λ x. Some (BindSuffix x.0, x.1))
    else if bytes_eq w (codes "result") then (open_at ts >>= λ r. name_at r >>= λ m. closed_at m.1 >>= λ q. Some (Result m.0, q)) else None

unfoldable pub suffix_at : List Token → Read Suffix
suffix_at ts = name_at ts >>= λ m. suffix_by m.0 m.1

-- suffixes up to the end, at most so many
unfoldable pub suffixes_at : ℕ → List Token → Option (List Suffix)
suffixes_at k [] = Some []
suffixes_at zero (t ∷ ts) = None
suffixes_at (suc k) (t ∷ ts) = suffix_at (t ∷ ts) >>= λ x. suffixes_at k x.1 >>= λ y. Some (x.0 ∷ y)

-- the names of dummy arguments behind their `(`
unfoldable pub dummy_names_at : List Token → Read (List (List ℕ))
dummy_names_at ts = choose (closed_at ts) (listed_at name_at ts >>= λ x. closed_at x.1 >>= λ r. Some (x.0, r)) (λ r. Some ([], r))

unfoldable pub dummies_at : Bool → List Token → Read (Option (List (List ℕ)))
dummies_at is_function ts = choose (open_at ts) (if is_function then None else Some (None, ts)) (λ r. dummy_names_at r >>= λ x. Some (Some x.0, x.1))

-- a head behind SUBROUTINE or FUNCTION
unfoldable pub head_of : List Prefix → Bool → List Token → Option Declared
head_of prefixes is_function ts = name_at ts >>= λ m. dummies_at is_function m.1 >>= λ d. suffixes_at (length d.1) d.1 >>= λ s. Some (Head prefixes is_function m.0 d.0 s)

-- at most so many prefixes, and SUBROUTINE or FUNCTION
unfoldable pub prefixes_at : ℕ → ℕ → List Token → Read (List Prefix × Bool)
prefixes_at n zero ts = None
prefixes_at n (suc k) ts = choose (unit_word_at ts) (prefix_at n ts >>= λ x. prefixes_at n k x.1 >>= λ y. Some ((x.0 ∷ y.0.0, y.0.1), y.1)) (λ u. Some (([], u.0), u.1))

-- a head behind its first prefix
unfoldable pub head_behind : ℕ → Prefix → List Token → Option Declared
head_behind n first ts = prefixes_at n (length ts) ts >>= λ x. head_of (first ∷ x.0.0) x.0.1 x.1

-- ---- statements

unfoldable pub named_at : (List ℕ → Declared) → List Token → Option Declared
named_at make ts = name_at ts >>= λ m. ends (make m.0) m.1

-- names, where there are some, and `::` before them where it is there
unfoldable pub names_at : (Bool → List (List ℕ) → Declared) → List Token → Option Declared
names_at make [] = Some (make false [])
names_at make (t ∷ ts) = listed_at name_at (maybe_colons_at (t ∷ ts)).1 >>= λ x. ends (make (maybe_colons_at (t ∷ ts)).0 x.0) x.1

unfoldable pub only_colon_at : List Token → Option (List Token)
only_colon_at ts = this_at (codes "only") ts >>= colon_at

unfoldable pub onlys_at : List Token → Option UseList
onlys_at [] = Some (Onlys [])
onlys_at (t ∷ ts) = listed_at only_at (t ∷ ts) >>= λ x. ends (Onlys x.0) x.1

unfoldable pub renames_at : List Token → Option UseList
renames_at ts = listed_at rename_at ts >>= λ x. ends (Renames x.0) x.1

-- which names of a module are used
unfoldable pub uses_at : List Token → Option UseList
uses_at [] = Some All
uses_at (t ∷ ts) = comma_at (t ∷ ts) >>= λ r. choose (only_colon_at r) (renames_at r) onlys_at

unfoldable pub module_at : Bool → List Token → Option Declared
module_at is_intrinsic ts = name_at (maybe_colons_at ts).1 >>= λ m. uses_at m.1 >>= λ u. Some (Use is_intrinsic (maybe_colons_at ts).0 m.0 u)

unfoldable pub use_at : List Token → Option Declared
use_at ts = choose (comma_at ts) (module_at false ts) (λ r. this_at (codes "intrinsic") r >>= module_at true)

unfoldable pub implicit_at : List Token → Option Declared
implicit_at ts = this_at (codes "none") ts >>= λ r. ends ImplicitNone r

unfoldable pub abstract_at : List Token → Option Declared
abstract_at ts = this_at (codes "interface") ts >>= λ r. ends (InterfaceStart true) r

-- what stands behind a type: variables
unfoldable pub variables_at : ℕ → TypeOf → List Token → Option Declared
variables_at n t ts = behind_at (attr_at n) (length ts) ts >>= λ a. listed_at (entity_at n) (maybe_colons_at a.1).1 >>= λ x. ends (Variables t a.0 (maybe_colons_at a.1).0 x.0) x.1

-- what stands behind a type
unfoldable pub behind_type : ℕ → TypeOf → List Token → Option Declared
behind_type n t ts = if begins_head ts then head_behind n (Returns t) ts else variables_at n t ts

-- a statement that begins with a type
unfoldable pub typed_at : ℕ → List Token → Option Declared
typed_at n ts = type_at (expr_at n) ts >>= λ t. behind_type n t.0 t.1

-- the definition of a derived type behind its word
unfoldable pub type_start_at : List Token → Option Declared
type_start_at ts = behind_at type_attr_at (length ts) ts >>= λ a. name_at (maybe_colons_at a.1).1 >>= λ m. ends (TypeStart a.0 (maybe_colons_at a.1).0 m.0) m.1

-- procedure pointers behind their interface
unfoldable pub pointers_at : List ℕ → List Token → Option Declared
pointers_at interface ts = comma_at ts >>= λ r. this_at (codes "pointer") r >>= λ s. behind_at pointer_attr_at (length s) s >>= λ a. colons_at a.1 >>= λ q. listed_at pointer_at q >>= λ x. ends (Procedures interface a.0 x.0) x.1

unfoldable pub procedure_at : List Token → Option Declared
procedure_at ts = open_at ts >>= λ r. name_at r >>= λ m. closed_at m.1 >>= pointers_at m.0

-- the name behind the words of an END statement, where there is one
unfoldable pub end_name_at : Ended → Bool → List Token → Option Declared
end_name_at what is_one_word [] = Some (EndOf what is_one_word None)
end_name_at OfInterface is_one_word (t ∷ ts) = None
end_name_at what is_one_word (t ∷ ts) = name_at (t ∷ ts) >>= λ m. ends (EndOf what is_one_word (Some m.0)) m.1

unfoldable pub end_by : List ℕ → List Token → Option Declared
end_by w ts = if bytes_eq w (codes "program") then end_name_at OfProgram false ts else if bytes_eq w (codes "module") then end_name_at OfModule false ts
    else if bytes_eq w (codes "subroutine") then end_name_at OfSubroutine false ts else if bytes_eq w (codes "function") then end_name_at OfFunction false ts
    else if bytes_eq w (codes "type") then end_name_at OfType false ts else if bytes_eq w (codes "interface") then end_name_at OfInterface false ts else None

unfoldable pub end_at : List Token → Option Declared
end_at [] = Some End
end_at (t ∷ ts) = name_at (t ∷ ts) >>= λ m. end_by m.0 m.1

-- a statement that begins with END and a word in one
unfoldable pub joined_by : List ℕ → List Token → Option Declared
joined_by w ts = if bytes_eq w (codes "endprogram") then end_name_at OfProgram true ts else if bytes_eq w (codes "endmodule") then end_name_at OfModule true ts
    else if bytes_eq w (codes "endsubroutine") then end_name_at OfSubroutine true ts else if bytes_eq w (codes "endfunction") then end_name_at OfFunction true ts
    else if bytes_eq w (codes "endtype") then end_name_at OfType true ts else if bytes_eq w (codes "endinterface") then end_name_at OfInterface true ts else None

-- TYPE behind its word: a definition, or what begins with a type
unfoldable pub type_word_at : ℕ → List Token → Option Declared
type_word_at n ts = choose (open_at ts) (type_start_at ts) (λ _. typed_at n (token.Name (codes "type") ∷ ts))

-- the statement that a word begins
unfoldable pub declared_by : ℕ → List ℕ → List Token → Option Declared
declared_by n w ts = if bytes_eq w (codes "program") then named_at Program ts else if bytes_eq w (codes "module") then named_at Module ts
    else if bytes_eq w (codes "subroutine") then head_of [] false ts else if bytes_eq w (codes "function") then head_of [] true ts
    else if bytes_eq w (codes "recursive") then head_behind n Recursive ts else if bytes_eq w (codes "contains") then ends Contains ts
    else if bytes_eq w (codes "use") then use_at ts else if bytes_eq w (codes "import") then names_at Import ts
    else if bytes_eq w (codes "implicit") then implicit_at ts else if bytes_eq w (codes "interface") then ends (InterfaceStart false) ts
    else if bytes_eq w (codes "abstract") then abstract_at ts else if bytes_eq w (codes "public") then names_at (Accesses Public) ts
    else if bytes_eq w (codes "private") then names_at (Accesses Private) ts else if bytes_eq w (codes "save") then ends SaveAll ts
    else if bytes_eq w (codes "procedure") then procedure_at ts else if bytes_eq w (codes "end") then end_at ts
    else if bytes_eq w (codes "type") then type_word_at n ts else if bytes_eq w (codes "integer") then typed_at n (token.Name w ∷ ts)
    else if bytes_eq w (codes "logical") then typed_at n (token.Name w ∷ ts) else if bytes_eq w (codes "character") then typed_at n (token.Name w ∷ ts) else joined_by w ts

unfoldable pub declared_at : ℕ → List Token → Option Declared
declared_at n ts = name_at ts >>= λ m. declared_by n m.0 m.1
