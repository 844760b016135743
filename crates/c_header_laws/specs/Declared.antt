-- What declarations declare, and what definitions make.
use Rattle.std.specs.Prelude.{ℕ, List, [], ◌∷◌, ◌++◌, map, codes, true, false, if◌then◌else◌}
use Prim.Native.String.{String}
use Rattle.std.specs.Str.{bytes_eq}
use Rattle.c_token.specs.declared.token.CToken.{CToken}
use Rattle.c_token.specs.declared.token.CToken.TheVariants.{Id, Number, Mark}
use Rattle.c_token.specs.declared.mark.Mark.TheVariants as mark
use Rattle.c_form.specs.Forms.{spelled_token}
use Rattle.c_define.specs.declared.definitions.Written.{Written}
use Rattle.c_define.specs.Definitions.{Macro, Macros, defined}

-- where a declaration is read: in front of it, in a typedef behind this identifier, in a prototype behind this identifier, or behind the name that it declares
pub data Part : Type 0 where
  Front : Part
  Typedef : (last : List ℕ) → Part
  Prototype : (last : List ℕ) → Part
  Behind : Part

abbrev pub began : List ℕ → Part
began word = if bytes_eq word (codes "typedef") then Typedef [] else Prototype word

-- The names that declarations declare: a typedef its last identifier (ISO/IEC 9899:2011, 6.7.8), and a prototype the identifier in front of its first
-- parenthesis (6.7.6.3).
unfoldable pub declared : Part → List CToken → List (List ℕ)
declared part [] = []
declared Front (Id word ∷ ts) = declared (began word) ts
declared (Typedef last) (Id word ∷ ts) = declared (Typedef word) ts
declared (Prototype last) (Id word ∷ ts) = declared (Prototype word) ts
declared (Typedef last) (Mark mark.Semicolon ∷ ts) = last ∷ declared Front ts
declared (Prototype last) (Mark mark.Open ∷ ts) = last ∷ declared Behind ts
declared Behind (Mark mark.Semicolon ∷ ts) = declared Front ts
declared part (t ∷ ts) = declared part ts

-- a declaration: the name that it declares, and how it is written in front of its semicolon, with a blank between its tokens
pub record Declaration : Type 0 where
  pub name : List ℕ
  pub written : List ℕ

abbrev pub type_name : String → String → Declaration
type_name name meaning = record { name = codes name; written = codes "typedef " ++ (codes meaning ++ 32 ∷ codes name) }

abbrev pub function : String → String → String → Declaration
function name result parameters = record { name = codes name; written = codes result ++ 32 ∷ (codes name ++ (codes " ( " ++ (codes parameters ++ codes " )"))) }

abbrev pub followed_by : List ℕ → List ℕ → List ℕ
followed_by [] s = s
followed_by (b ∷ bs) s = (b ∷ bs) ++ 32 ∷ s

abbrev pub left_over : List ℕ → List (List ℕ)
left_over [] = []
left_over (b ∷ bs) = (b ∷ bs) ∷ []

-- how declarations are written, where this stands in front of the first: each up to its semicolon, and what has none
unfoldable pub written_in : List ℕ → List CToken → List (List ℕ)
written_in front [] = left_over front
written_in front (Mark mark.Semicolon ∷ ts) = front ∷ written_in [] ts
written_in front (t ∷ ts) = written_in (followed_by front (spelled_token t)) ts

-- a name, and what it is defined as
pub data Definition : Type 0 where
  Defines : (name : List ℕ) (macro : Macro) → Definition

-- the macros that definitions make, one behind the other
abbrev pub with_all : Macros → List Definition → Macros
with_all ms [] = ms
with_all ms (Defines name m ∷ ds) = with_all (defined ms name m) ds

-- ---- definitions whose replacement lists have no white space between their tokens

abbrev pub behind_none : CToken → Written
behind_none t = record { spelling = spelled_token t; after_blank = false }

abbrev pub written_as : List CToken → List Written
written_as [] = []
written_as (t ∷ ts) = record { spelling = spelled_token t; after_blank = true } ∷ map behind_none ts

abbrev pub defines : String → List CToken → Definition
defines name ts = Defines (codes name) (record { body = ts; written = written_as ts })

abbrev pub nothing : String → Definition
nothing name = defines name []

abbrev pub number : String → String → Definition
number name digits = defines name (Number (codes digits) ∷ [])

abbrev pub word : String → String → Definition
word name other = defines name (Id (codes other) ∷ [])

-- (-digits)
abbrev pub negative : String → String → Definition
negative name digits = defines name (Mark mark.Open ∷ Mark mark.Minus ∷ Number (codes digits) ∷ Mark mark.Close ∷ [])

-- (-digits-1)
abbrev pub least : String → String → Definition
least name digits = defines name (Mark mark.Open ∷ Mark mark.Minus ∷ Number (codes digits) ∷ Mark mark.Minus ∷ Number (codes "1") ∷ Mark mark.Close ∷ [])

-- ((void*)0)
abbrev pub null : Definition
null = defines "NULL" (Mark mark.Open ∷ Mark mark.Open ∷ Id (codes "void") ∷ Mark mark.Star ∷ Mark mark.Close ∷ Number (codes "0") ∷ Mark mark.Close ∷ [])
