-- The names that units define and ask for.
use Rattle.std.specs.Prelude.{ℕ, ◌≡◌, ◌≤◌, ◌+◌, List, [], ◌∷◌, ◌++◌, codes as text, string_bytes, bytes_eq, slice_get, Option, Some, None, if◌then◌else◌, String}
use Rattle.std.specs.declared.alloc.Global.{Global}
use Rattle.rv_assemble.specs.declared.object.ObjUnit.{ObjUnit}
use Rattle.rv_assemble.specs.declared.object.Relocation.{Relocation}
use Rattle.linker.specs.declared.names.Definition.{Definition}

-- a name and where it is defined
abbrev pub Entry : Type 0
Entry = List ℕ × Definition

-- the first definition of a name, or none
abbrev pub definition_at : List ℕ → List Entry → Option Definition
definition_at name [] = None
definition_at name (e ∷ es) = if bytes_eq name e.0 then Some e.1 else definition_at name es

-- how many definitions of a name there are
abbrev pub count_of : List ℕ → List Entry → ℕ
count_of name [] = 0
count_of name (e ∷ es) = (if bytes_eq name e.0 then 1 else 0) + count_of name es

-- an entry with its name as bytes
abbrev pub entry_of : (String Global × Definition) → Entry
entry_of e = (string_bytes e.0, e.1)

-- what the k-th unit defines
abbrev pub unit_entries : ℕ → List (List ℕ × ℕ) → List Entry
unit_entries k [] = []
unit_entries k (n ∷ names) = (n.0, record { unit = k; place = n.1 }) ∷ unit_entries k names

-- what the units from the k-th on define
abbrev pub entries_from : ℕ → List ObjUnit → List Entry
entries_from k [] = []
entries_from k (u ∷ units) = unit_entries k u.names ++ entries_from (k + 1) units

-- the name of what is done first
abbrev pub entry_name : List ℕ
entry_name = text "main"

-- the names that are asked for
abbrev pub asked_names : List Relocation → List (List ℕ)
asked_names [] = []
asked_names (r ∷ relocations) = r.name ∷ asked_names relocations

abbrev pub asked_of_units : List ObjUnit → List (List ℕ)
asked_of_units [] = []
asked_of_units (u ∷ units) = asked_names u.relocations ++ asked_of_units units

abbrev pub all_asked : List ObjUnit → List (List ℕ)
all_asked units = asked_of_units units ++ entry_name ∷ []

abbrev pub Holds : List (List ℕ) → List ℕ → Type 0
Holds names name = (k : ℕ) × (slice_get names k ≡ Some name)

-- a name that is asked for and has no definition, and one that has two
abbrev pub IsMissing : List ObjUnit → List ℕ → Type 0
IsMissing units name = Holds (all_asked units) name × (count_of name (entries_from 0 units) ≡ 0)

abbrev pub IsTwice : List ObjUnit → List ℕ → Type 0
IsTwice units name = 2 ≤ count_of name (entries_from 0 units)
