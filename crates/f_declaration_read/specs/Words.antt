-- The statements that a word begins, in three groups, each going on to the next. The word stands before the tokens, and first in the whole.
use Rattle.std.specs.Prelude.{ℕ, List, [], Option, true, false, if◌then◌else◌, codes}
use Rattle.std.specs.Str.{bytes_eq}
use Rattle.f_lex.specs.declared.token.Token.{Token}
use Rattle.f_grammar.specs.Reading.{◌>>=◌, choose, open_at, name_at}
use Rattle.f_declaration_grammar.specs.Declarations.{Declared, Public, Private, Recursive, Program, Module, Contains, Import, InterfaceStart, Accesses, SaveAll}
use Rattle.f_declaration_grammar.specs.DeclarationReading.{ends, named_at, names_at, head_of, head_behind, use_at, implicit_at, abstract_at, procedure_at, end_at, type_start_at, typed_at, joined_by}

-- TYPE: the definition of a type, or what begins with a type
unfoldable pub start_or_typed : ℕ → List Token → List Token → Option Declared
start_or_typed n ts whole = choose (open_at ts) (type_start_at ts) (λ _. typed_at n whole)

-- words of types, and END with another word in one
unfoldable pub by_type_word : ℕ → List ℕ → List Token → List Token → Option Declared
by_type_word n w ts whole = if bytes_eq w (codes "type") then start_or_typed n ts whole else if bytes_eq w (codes "integer") then typed_at n whole
    else if bytes_eq w (codes "logical") then typed_at n whole else if bytes_eq w (codes "character") then typed_at n whole else joined_by w ts

-- words of specification parts, and END
unfoldable pub by_part_word : ℕ → List ℕ → List Token → List Token → Option Declared
by_part_word n w ts whole = if bytes_eq w (codes "use") then use_at ts else if bytes_eq w (codes "import") then names_at Import ts
    else if bytes_eq w (codes "implicit") then implicit_at ts else if bytes_eq w (codes "interface") then ends (InterfaceStart false) ts
    else if bytes_eq w (codes "abstract") then abstract_at ts else if bytes_eq w (codes "public") then names_at (Accesses Public) ts
    else if bytes_eq w (codes "private") then names_at (Accesses Private) ts else if bytes_eq w (codes "save") then ends SaveAll ts
    else if bytes_eq w (codes "procedure") then procedure_at ts else if bytes_eq w (codes "end") then end_at ts else by_type_word n w ts whole

-- words that begin and divide units
unfoldable pub by_unit_word : ℕ → List ℕ → List Token → List Token → Option Declared
by_unit_word n w ts whole = if bytes_eq w (codes "program") then named_at Program ts else if bytes_eq w (codes "module") then named_at Module ts
    else if bytes_eq w (codes "subroutine") then head_of [] false ts else if bytes_eq w (codes "function") then head_of [] true ts
    else if bytes_eq w (codes "recursive") then head_behind n Recursive ts else if bytes_eq w (codes "contains") then ends Contains ts else by_part_word n w ts whole

unfoldable pub by_first_word : ℕ → List Token → Option Declared
by_first_word n ts = name_at ts >>= λ m. by_unit_word n m.0 m.1 ts
