-- The statements of specification parts and those that begin, divide and end units (ISO/IEC 1539-1:2018, 5.2, 7.5, 8, 14 and 15): what a tree is, all its
-- tokens but for its end, and which trees fit.
use Rattle.std.specs.Prelude.{◌≡◌, ℕ, List, [], ◌∷◌, Option, Some, None, Bool, true, false, codes}
use Rattle.f_lex.specs.declared.token.Kind.{Kind}
use Rattle.f_lex.specs.declared.token.Mark.TheVariants as mark
use Rattle.f_lex.specs.declared.token.Token.{Token}
use Rattle.f_lex.specs.declared.token.Token.TheVariants as token
use Rattle.f_grammar.specs.Grammar.{Expr, Maybe, Absent, Present, TypeOf, put, spell, spell_maybe, spell_type, FitsMaybe, FitsType, Within}
use Rattle.f_declaration_grammar.specs.Listing.{spell_behind, spell_listed, spell_each, AreAll, AreSome}

-- ---- trees, without places

-- a dimension (8.5.8): `upper`, `lower : upper`, `lower :`, `lower : *` and `..`, where a lower bound before a lone `:` or `*` may be left out
pub data Dim : Type 0 where
  Upper : (upper : Expr) → Dim
  Bounds : (lower upper : Expr) → Dim
  Deferred : (lower : Maybe) → Dim
  AssumedSize : (lower : Maybe) → Dim
  AssumedRank : Dim

pub data Access : Type 0 where
  Public : Access
  Private : Access

-- what a dummy argument is for (8.5.10), INOUT in one word or in two
pub data Intent : Type 0 where
  In : Intent
  Out : Intent
  InOut : Intent
  InOutTwoWords : Intent

-- the text behind `name =` in BIND, and its kind (18.10.2)
abbrev pub Label : Type 0
Label = Option (List ℕ × Option Kind)

-- an attribute (8.5)
pub data Attr : Type 0 where
  Parameter : Attr
  Dimension : (dims : List Dim) → Attr
  Allocatable : Attr
  Pointer : Attr
  Target : Attr
  Optional : Attr
  Value : Attr
  Contiguous : Attr
  Save : Attr
  Accessible : (a : Access) → Attr
  Bind : (label : Label) → Attr
  For : (i : Intent) → Attr

-- an initial value (8.2): none, `= value`, and `=> null()`
pub data Initial : Type 0 where
  NoInitial : Initial
  Starts : (value : Expr) → Initial
  Null : Initial

-- what is declared: a name, its dimensions and its initial value
pub data Entity : Type 0 where
  entity : (name : List ℕ) (dims : Option (List Dim)) (initial : Initial) → Entity

-- `local => used` (14.2.2)
pub data Rename : Type 0 where
  renamed : (local used : List ℕ) → Rename

-- a name behind ONLY
pub data Only : Type 0 where
  Plain : (name : List ℕ) → Only
  Renamed : (r : Rename) → Only

-- which names of a module are used
pub data UseList : Type 0 where
  All : UseList
  Renames : (rs : List Rename) → UseList
  Onlys : (os : List Only) → UseList

-- an attribute of a derived type (7.5.2)
pub data TypeAttr : Type 0 where
  TypeBind : (label : Label) → TypeAttr
  TypeAccess : (a : Access) → TypeAttr

-- an attribute of procedure pointers beside POINTER (15.4.3.6)
pub data PointerAttr : Type 0 where
  PointerSave : PointerAttr
  PointerAccess : (a : Access) → PointerAttr

-- a procedure pointer, and whether it begins with `=> null()`
pub data ProcPointer : Type 0 where
  pointer : (name : List ℕ) (is_null : Bool) → ProcPointer

-- what stands before SUBROUTINE or FUNCTION (15.6.2.1)
pub data Prefix : Type 0 where
  Recursive : Prefix
  Returns : (t : TypeOf) → Prefix

-- what stands behind the dummy arguments (15.6.2.5)
pub data Suffix : Type 0 where
  BindSuffix : (label : Label) → Suffix
  Result : (name : List ℕ) → Suffix

-- what an END statement ends
pub data Ended : Type 0 where
  OfProgram : Ended
  OfModule : Ended
  OfSubroutine : Ended
  OfFunction : Ended
  OfType : Ended
  OfInterface : Ended

pub data Declared : Type 0 where
  Program : (name : List ℕ) → Declared
  Module : (name : List ℕ) → Declared
  Head : (prefixes : List Prefix) (is_function : Bool) (name : List ℕ) (dummies : Option (List (List ℕ))) (suffixes : List Suffix) → Declared
  Contains : Declared
  Use : (is_intrinsic has_colons : Bool) (used : List ℕ) (names : UseList) → Declared
  Import : (has_colons : Bool) (names : List (List ℕ)) → Declared
  ImplicitNone : Declared
  Variables : (t : TypeOf) (attributes : List Attr) (has_colons : Bool) (entities : List Entity) → Declared
  TypeStart : (attributes : List TypeAttr) (has_colons : Bool) (name : List ℕ) → Declared
  InterfaceStart : (is_abstract : Bool) → Declared
  Accesses : (a : Access) (has_colons : Bool) (names : List (List ℕ)) → Declared
  SaveAll : Declared
  Procedures : (interface : List ℕ) (attributes : List PointerAttr) (pointers : List ProcPointer) → Declared
  End : Declared
  EndOf : (what : Ended) (is_one_word : Bool) (name : Option (List ℕ)) → Declared

-- ---- the tokens of a tree, in front of a rest

abbrev pub front : List ℕ → List Token → List Token
front word rest = token.Name word ∷ rest

abbrev pub spell_name : List ℕ → List Token → List Token
spell_name name rest = token.Name name ∷ rest

-- a bound and `:`
abbrev pub spell_lower : Maybe → List Token → List Token
spell_lower Absent rest = rest
spell_lower (Present e) rest = spell e (put mark.Colon rest)

abbrev pub spell_dim : Dim → List Token → List Token
spell_dim (Upper upper) rest = spell upper rest
spell_dim (Bounds lower upper) rest = spell lower (put mark.Colon (spell upper rest))
spell_dim (Deferred lower) rest = spell_maybe lower (put mark.Colon rest)
spell_dim (AssumedSize lower) rest = spell_lower lower (put mark.Star rest)
spell_dim AssumedRank rest = put mark.DotDot rest

-- dimensions in parentheses
abbrev pub spell_dims : List Dim → List Token → List Token
spell_dims dims rest = put mark.Open (spell_listed spell_dim dims (put mark.Close rest))

abbrev pub spell_maybe_dims : Option (List Dim) → List Token → List Token
spell_maybe_dims None rest = rest
spell_maybe_dims (Some dims) rest = spell_dims dims rest

abbrev pub access_word : Access → List ℕ
access_word Public = codes "public"
access_word Private = codes "private"

abbrev pub spell_intent : Intent → List Token → List Token
spell_intent In rest = front (codes "in") rest
spell_intent Out rest = front (codes "out") rest
spell_intent InOut rest = front (codes "inout") rest
spell_intent InOutTwoWords rest = front (codes "in") (front (codes "out") rest)

-- what stands behind BIND
abbrev pub spell_bind : Label → List Token → List Token
spell_bind None rest = put mark.Open (front (codes "c") (put mark.Close rest))
spell_bind (Some label) rest = put mark.Open (front (codes "c") (put mark.Comma (front (codes "name") (put mark.Assign (token.Text label.0 label.1 ∷ put mark.Close rest)))))

abbrev pub spell_attr : Attr → List Token → List Token
spell_attr Parameter rest = front (codes "parameter") rest
spell_attr (Dimension dims) rest = front (codes "dimension") (spell_dims dims rest)
spell_attr Allocatable rest = front (codes "allocatable") rest
spell_attr Pointer rest = front (codes "pointer") rest
spell_attr Target rest = front (codes "target") rest
spell_attr Optional rest = front (codes "optional") rest
spell_attr Value rest = front (codes "value") rest
spell_attr Contiguous rest = front (codes "contiguous") rest
spell_attr Save rest = front (codes "save") rest
spell_attr (Accessible a) rest = front (access_word a) rest
spell_attr (Bind label) rest = front (codes "bind") (spell_bind label rest)
spell_attr (For i) rest = front (codes "intent") (put mark.Open (spell_intent i (put mark.Close rest)))

abbrev pub spell_null : List Token → List Token
spell_null rest = put mark.Arrow (front (codes "null") (put mark.Open (put mark.Close rest)))

abbrev pub spell_initial : Initial → List Token → List Token
spell_initial NoInitial rest = rest
spell_initial (Starts value) rest = put mark.Assign (spell value rest)
spell_initial Null rest = spell_null rest

abbrev pub spell_entity : Entity → List Token → List Token
spell_entity (entity name dims initial) rest = front name (spell_maybe_dims dims (spell_initial initial rest))

abbrev pub spell_rename : Rename → List Token → List Token
spell_rename (renamed local used) rest = front local (put mark.Arrow (front used rest))

abbrev pub spell_only : Only → List Token → List Token
spell_only (Plain name) rest = front name rest
spell_only (Renamed r) rest = spell_rename r rest

abbrev pub spell_uses : UseList → List Token
spell_uses All = []
spell_uses (Renames rs) = put mark.Comma (spell_listed spell_rename rs [])
spell_uses (Onlys os) = put mark.Comma (front (codes "only") (put mark.Colon (spell_listed spell_only os [])))

-- `::`, where it is there
abbrev pub spell_colons : Bool → List Token → List Token
spell_colons true rest = put mark.DoubleColon rest
spell_colons false rest = rest

-- `, intrinsic`, where it is there
abbrev pub spell_intrinsic : Bool → List Token → List Token
spell_intrinsic true rest = put mark.Comma (front (codes "intrinsic") rest)
spell_intrinsic false rest = rest

abbrev pub spell_type_attr : TypeAttr → List Token → List Token
spell_type_attr (TypeBind label) rest = front (codes "bind") (spell_bind label rest)
spell_type_attr (TypeAccess a) rest = front (access_word a) rest

abbrev pub spell_pointer_attr : PointerAttr → List Token → List Token
spell_pointer_attr PointerSave rest = front (codes "save") rest
spell_pointer_attr (PointerAccess a) rest = front (access_word a) rest

abbrev pub spell_is_null : Bool → List Token → List Token
spell_is_null true rest = spell_null rest
spell_is_null false rest = rest

abbrev pub spell_pointer : ProcPointer → List Token → List Token
spell_pointer (pointer name is_null) rest = front name (spell_is_null is_null rest)

abbrev pub spell_prefix : Prefix → List Token → List Token
spell_prefix Recursive rest = front (codes "recursive") rest
spell_prefix (Returns t) rest = spell_type t rest

abbrev pub spell_suffix : Suffix → List Token → List Token
spell_suffix (BindSuffix label) rest = front (codes "bind") (spell_bind label rest)
spell_suffix (Result name) rest = front (codes "result") (put mark.Open (front name (put mark.Close rest)))

abbrev pub spell_dummies : Option (List (List ℕ)) → List Token → List Token
spell_dummies None rest = rest
spell_dummies (Some names) rest = put mark.Open (spell_listed spell_name names (put mark.Close rest))

abbrev pub unit_word : Bool → List ℕ
unit_word true = codes "function"
unit_word false = codes "subroutine"

abbrev pub ended_word : Ended → List ℕ
ended_word OfProgram = codes "program"
ended_word OfModule = codes "module"
ended_word OfSubroutine = codes "subroutine"
ended_word OfFunction = codes "function"
ended_word OfType = codes "type"
ended_word OfInterface = codes "interface"

-- END and the word of what is ended in one
abbrev pub joined_word : Ended → List ℕ
joined_word OfProgram = codes "endprogram"
joined_word OfModule = codes "endmodule"
joined_word OfSubroutine = codes "endsubroutine"
joined_word OfFunction = codes "endfunction"
joined_word OfType = codes "endtype"
joined_word OfInterface = codes "endinterface"

abbrev pub spell_maybe_name : Option (List ℕ) → List Token
spell_maybe_name None = []
spell_maybe_name (Some name) = front name []

abbrev pub spell_end : Ended → Bool → List Token → List Token
spell_end what true rest = front (joined_word what) rest
spell_end what false rest = front (codes "end") (front (ended_word what) rest)

abbrev pub spell_interface : Bool → List Token
spell_interface true = front (codes "abstract") (front (codes "interface") [])
spell_interface false = front (codes "interface") []

-- the tokens of a statement, but for its end
abbrev pub spell_declared : Declared → List Token
spell_declared (Program name) = front (codes "program") (front name [])
spell_declared (Module name) = front (codes "module") (front name [])
spell_declared (Head prefixes is_function name dummies suffixes) = spell_each spell_prefix prefixes (front (unit_word is_function) (front name (spell_dummies dummies (spell_each spell_suffix suffixes []))))
spell_declared Contains = front (codes "contains") []
spell_declared (Use is_intrinsic has_colons used names) = front (codes "use") (spell_intrinsic is_intrinsic (spell_colons has_colons (front used (spell_uses names))))
spell_declared (Import has_colons names) = front (codes "import") (spell_colons has_colons (spell_listed spell_name names []))
spell_declared ImplicitNone = front (codes "implicit") (front (codes "none") [])
spell_declared (Variables t attributes has_colons entities) = spell_type t (spell_behind spell_attr attributes (spell_colons has_colons (spell_listed spell_entity entities [])))
spell_declared (TypeStart attributes has_colons name) = front (codes "type") (spell_behind spell_type_attr attributes (spell_colons has_colons (front name [])))
spell_declared (InterfaceStart is_abstract) = spell_interface is_abstract
spell_declared (Accesses a has_colons names) = front (access_word a) (spell_colons has_colons (spell_listed spell_name names []))
spell_declared SaveAll = front (codes "save") []
spell_declared (Procedures interface attributes pointers) = front (codes "procedure") (put mark.Open (front interface (put mark.Close (put mark.Comma (front (codes "pointer")
    (spell_behind spell_pointer_attr attributes (put mark.DoubleColon (spell_listed spell_pointer pointers []))))))))
spell_declared End = front (codes "end") []
spell_declared (EndOf what is_one_word name) = spell_end what is_one_word (spell_maybe_name name)

-- ---- which trees fit

-- any name fits
abbrev pub IsAny : {A : Type 0} → A → Type 0
IsAny x = Unit {0}

abbrev pub FitsDim : ℕ → Dim → Type 0
FitsDim n (Upper upper) = Within n upper
FitsDim n (Bounds lower upper) = Within n lower × Within n upper
FitsDim n (Deferred lower) = FitsMaybe n lower
FitsDim n (AssumedSize lower) = FitsMaybe n lower
FitsDim n AssumedRank = Unit {0}

abbrev pub FitsDims : ℕ → Option (List Dim) → Type 0
FitsDims n None = Unit {0}
FitsDims n (Some dims) = AreSome (FitsDim n) dims

abbrev pub FitsAttr : ℕ → Attr → Type 0
FitsAttr n (Dimension dims) = AreSome (FitsDim n) dims
FitsAttr n _ = Unit {0}

abbrev pub FitsInitial : ℕ → Initial → Type 0
FitsInitial n (Starts value) = Within n value
FitsInitial n _ = Unit {0}

abbrev pub FitsEntity : ℕ → Entity → Type 0
FitsEntity n (entity name dims initial) = FitsDims n dims × FitsInitial n initial

abbrev pub FitsUses : UseList → Type 0
FitsUses (Renames rs) = AreSome IsAny rs
FitsUses _ = Unit {0}

abbrev pub FitsPrefix : ℕ → Prefix → Type 0
FitsPrefix n Recursive = Unit {0}
FitsPrefix n (Returns t) = FitsType n t

-- the dummies of a function are in parentheses
abbrev pub FitsDummies : Bool → Option (List (List ℕ)) → Type 0
FitsDummies is_function None = is_function ≡ false
FitsDummies is_function (Some names) = Unit {0}

-- `::` stands only before names
abbrev pub FitsNames : Bool → List (List ℕ) → Type 0
FitsNames has_colons [] = has_colons ≡ false
FitsNames has_colons (name ∷ names) = Unit {0}

-- no name stands behind END INTERFACE
abbrev pub FitsEnd : Ended → Option (List ℕ) → Type 0
FitsEnd OfInterface (Some name) = ⊥
FitsEnd _ _ = Unit {0}

-- with so many nestings left
abbrev pub FitsDeclared : ℕ → Declared → Type 0
FitsDeclared n (Head prefixes is_function name dummies suffixes) = AreAll (FitsPrefix n) prefixes × FitsDummies is_function dummies
FitsDeclared n (Use is_intrinsic has_colons used names) = FitsUses names
FitsDeclared n (Import has_colons names) = FitsNames has_colons names
FitsDeclared n (Variables t attributes has_colons entities) = FitsType n t × AreAll (FitsAttr n) attributes × AreSome (FitsEntity n) entities
FitsDeclared n (Accesses a has_colons names) = FitsNames has_colons names
FitsDeclared n (Procedures interface attributes pointers) = AreSome IsAny pointers
FitsDeclared n (EndOf what is_one_word name) = FitsEnd what name
FitsDeclared n _ = Unit {0}
