-- The grammar of expressions, references and types (ISO/IEC 1539-1:2018, 7.2, 9 and 10.1): what a tree is, its tokens, and which trees fit.
use Rattle.std.specs.Prelude.{◌≡◌, ℕ, zero, suc, ◌+◌, ◌<◌, ◌≤◌, List, ◌∷◌, Option, Some, None, Bool, true, false, codes}
use Rattle.f_lex.specs.declared.token.Kind.{Kind}
use Rattle.f_lex.specs.declared.token.Mark.{Mark}
use Rattle.f_lex.specs.declared.token.Mark.TheVariants as mark
use Rattle.f_lex.specs.declared.token.Token.{Token}
use Rattle.f_lex.specs.declared.token.Token.TheVariants as token

-- ---- trees, without places

mutual
  -- An expression (10.1). A chain has a level, a sign or `.not.` where there is one, and operands with operators between them; the levels go from
  -- `**`, 0, to `.eqv.`, 8.
  pub data Expr : Type 0 where
    Number : (digits : List ℕ) (kind : Option Kind) → Expr
    Truth : (value : Bool) (kind : Option Kind) → Expr
    Text : (bytes : List ℕ) (kind : Option Kind) → Expr
    Ref : (r : Refer) → Expr
    Paren : (e : Expr) → Expr
    Array : (items : Args) → Expr
    Typed : (t : TypeOf) (items : Args) → Expr
    Chain : (h : ℕ) (sign : Option Mark) (first : Expr) (links : Links) → Expr

  -- operators and their right operands
  pub data Links : Type 0 where
    no_links : Links
    link : (op : Mark) (e : Expr) (rest : Links) → Links

  -- parts with `%` between them (9.1)
  pub data Refer : Type 0 where
    refer : (first : Part) (others : Parts) → Refer

  pub data Parts : Type 0 where
    no_parts : Parts
    part : (p : Part) (rest : Parts) → Parts

  -- a name, its arguments or subscripts, and a substring range
  pub data Part : Type 0 where
    named : (name : List ℕ) (arguments : Group) (substring : Range) → Part

  pub data Group : Type 0 where
    NoGroup : Group
    group : (args : Args) → Group

  pub data Range : Type 0 where
    NoRange : Range
    range : (lower upper : Maybe) → Range

  pub data Args : Type 0 where
    no_args : Args
    arg : (a : Arg) (rest : Args) → Args

  -- an argument with its keyword (15.5.1), a subscript triplet (9.5.3), and one of which the first bound or none stands before `::`
  pub data Arg : Type 0 where
    Value : (keyword : Option (List ℕ)) (e : Expr) → Arg
    Section : (lower upper stride : Maybe) → Arg
    Strided : (lower : Maybe) (stride : Expr) → Arg

  pub data Maybe : Type 0 where
    Absent : Maybe
    Present : (e : Expr) → Maybe

  -- a type (7.3.2)
  pub data TypeOf : Type 0 where
    Integer : (k : Selector) → TypeOf
    Logical : (k : Selector) → TypeOf
    Character : (ps : Params) → TypeOf
    Derived : (name : List ℕ) → TypeOf
    Assumed : TypeOf

  -- a kind, behind `kind =` or without it
  pub data Selector : Type 0 where
    NoKind : Selector
    kind : (has_word : Bool) (e : Expr) → Selector

  pub data Params : Type 0 where
    NoParams : Params
    params : (first : Param) (rest : More) → Params

  pub data More : Type 0 where
    no_more : More
    more : (p : Param) (rest : More) → More

  -- a parameter of CHARACTER, behind its word or without it
  pub data Param : Type 0 where
    Length : (has_word : Bool) (e : Expr) → Param
    AnyLength : (has_word : Bool) → Param
    KindParam : (has_word : Bool) (e : Expr) → Param

-- ---- operators

-- How high an operator stands between two operands, which are lower (10.1.2.2 to 10.1.2.8). `(` and `%` go on with an operand and are lower than
-- all; what stands between no two operands is higher than all.
abbrev pub height_of : Mark → ℕ
height_of mark.Open = 0
height_of mark.Percent = 0
height_of mark.Power = 1
height_of mark.Star = 2
height_of mark.Slash = 2
height_of mark.Plus = 3
height_of mark.Minus = 3
height_of mark.Concat = 4
height_of mark.Equal = 5
height_of mark.NotEqual = 5
height_of mark.Less = 5
height_of mark.LessEqual = 5
height_of mark.Greater = 5
height_of mark.GreaterEqual = 5
height_of mark.DotEq = 5
height_of mark.DotNe = 5
height_of mark.DotLt = 5
height_of mark.DotLe = 5
height_of mark.DotGt = 5
height_of mark.DotGe = 5
height_of mark.And = 7
height_of mark.Or = 8
height_of mark.Eqv = 9
height_of mark.Neqv = 9
height_of _ = 10

-- how high an operator stands before its operand
abbrev pub sign_height : Mark → ℕ
sign_height mark.Plus = 3
sign_height mark.Minus = 3
sign_height mark.Not = 6
sign_height _ = 0

-- ---- the tokens of a tree, in front of a rest

abbrev pub put : Mark → List Token → List Token
put m rest = token.Mark m ∷ rest

abbrev pub spell_sign : Option Mark → List Token → List Token
spell_sign None rest = rest
spell_sign (Some m) rest = put m rest

abbrev pub spell_key : Option (List ℕ) → List Token → List Token
spell_key None rest = rest
spell_key (Some name) rest = token.Name name ∷ put mark.Assign rest

-- a keyword and `=`, where it is there
abbrev pub spell_word : List ℕ → Bool → List Token → List Token
spell_word word true rest = token.Name word ∷ put mark.Assign rest
spell_word word false rest = rest

abbrev mutual
  pub spell : Expr → List Token → List Token
  spell (Number digits k) rest = token.Number digits k ∷ rest
  spell (Truth value k) rest = token.Truth value k ∷ rest
  spell (Text bytes k) rest = token.Text bytes k ∷ rest
  spell (Ref r) rest = spell_refer r rest
  spell (Paren e) rest = put mark.Open (spell e (put mark.Close rest))
  spell (Array items) rest = put mark.OpenBracket (spell_args items (put mark.CloseBracket rest))
  spell (Typed t items) rest = put mark.OpenBracket (spell_type t (put mark.DoubleColon (spell_args items (put mark.CloseBracket rest))))
  spell (Chain h sign first links) rest = spell_sign sign (spell first (spell_links links rest))

  pub spell_links : Links → List Token → List Token
  spell_links no_links rest = rest
  spell_links (link op e links) rest = put op (spell e (spell_links links rest))

  pub spell_refer : Refer → List Token → List Token
  spell_refer (refer p ps) rest = spell_part p (spell_parts ps rest)

  pub spell_parts : Parts → List Token → List Token
  spell_parts no_parts rest = rest
  spell_parts (part p ps) rest = put mark.Percent (spell_part p (spell_parts ps rest))

  pub spell_part : Part → List Token → List Token
  spell_part (named name g r) rest = token.Name name ∷ spell_group g (spell_range r rest)

  pub spell_group : Group → List Token → List Token
  spell_group NoGroup rest = rest
  spell_group (group args) rest = put mark.Open (spell_args args (put mark.Close rest))

  pub spell_range : Range → List Token → List Token
  spell_range NoRange rest = rest
  spell_range (range lower upper) rest = put mark.Open (spell_maybe lower (put mark.Colon (spell_maybe upper (put mark.Close rest))))

  -- arguments with commas between them
  pub spell_args : Args → List Token → List Token
  spell_args no_args rest = rest
  spell_args (arg a args) rest = spell_arg a (spell_others args rest)

  -- arguments with a comma before each
  pub spell_others : Args → List Token → List Token
  spell_others no_args rest = rest
  spell_others (arg a args) rest = put mark.Comma (spell_arg a (spell_others args rest))

  pub spell_arg : Arg → List Token → List Token
  spell_arg (Value keyword e) rest = spell_key keyword (spell e rest)
  spell_arg (Section lower upper stride) rest = spell_maybe lower (put mark.Colon (spell_maybe upper (spell_stride stride rest)))
  spell_arg (Strided lower stride) rest = spell_maybe lower (put mark.DoubleColon (spell stride rest))

  pub spell_maybe : Maybe → List Token → List Token
  spell_maybe Absent rest = rest
  spell_maybe (Present e) rest = spell e rest

  pub spell_stride : Maybe → List Token → List Token
  spell_stride Absent rest = rest
  spell_stride (Present e) rest = put mark.Colon (spell e rest)

  pub spell_type : TypeOf → List Token → List Token
  spell_type (Integer k) rest = token.Name (codes "integer") ∷ spell_kind k rest
  spell_type (Logical k) rest = token.Name (codes "logical") ∷ spell_kind k rest
  spell_type (Character ps) rest = token.Name (codes "character") ∷ spell_params ps rest
  spell_type (Derived name) rest = token.Name (codes "type") ∷ put mark.Open (token.Name name ∷ put mark.Close rest)
  spell_type Assumed rest = token.Name (codes "type") ∷ put mark.Open (put mark.Star (put mark.Close rest))

  pub spell_kind : Selector → List Token → List Token
  spell_kind NoKind rest = rest
  spell_kind (kind has_word e) rest = put mark.Open (spell_word (codes "kind") has_word (spell e (put mark.Close rest)))

  pub spell_params : Params → List Token → List Token
  spell_params NoParams rest = rest
  spell_params (params p ps) rest = put mark.Open (spell_param p (spell_mores ps (put mark.Close rest)))

  pub spell_mores : More → List Token → List Token
  spell_mores no_more rest = rest
  spell_mores (more p ps) rest = put mark.Comma (spell_param p (spell_mores ps rest))

  pub spell_param : Param → List Token → List Token
  spell_param (Length has_word e) rest = spell_word (codes "len") has_word (spell e rest)
  spell_param (AnyLength has_word) rest = spell_word (codes "len") has_word (put mark.Star rest)
  spell_param (KindParam has_word e) rest = spell_word (codes "kind") has_word (spell e rest)

-- ---- which trees fit

-- a chain has a sign or a link
abbrev pub IsChain : Option Mark → Links → Type 0
IsChain None no_links = ⊥
IsChain _ _ = Unit {0}

-- a sign of a chain of level h
abbrev pub IsSign : ℕ → Option Mark → Type 0
IsSign h None = Unit {0}
IsSign h (Some m) = sign_height m ≡ suc h

abbrev pub count : Links → ℕ
count no_links = 0
count (link op e links) = count links + 1

-- an argument of a list in parentheses may have a keyword
abbrev pub IsKey : Bool → Option (List ℕ) → Type 0
IsKey in_call None = Unit {0}
IsKey in_call (Some name) = in_call ≡ true

abbrev pub IsSome : Args → Type 0
IsSome no_args = ⊥
IsSome (arg a args) = Unit {0}

-- a length stands first or behind its word
abbrev pub IsLength : Bool → Bool → Type 0
IsLength is_first true = Unit {0}
IsLength is_first false = is_first ≡ true

-- a kind stands later or behind its word
abbrev pub IsKind : Bool → Bool → Type 0
IsKind is_first true = Unit {0}
IsKind is_first false = is_first ≡ false

-- a substring range stands behind arguments, since the first parentheses of a part are those
abbrev pub HasGroup : Group → Type 0
HasGroup NoGroup = ⊥
HasGroup (group args) = Unit {0}

-- Expressions of at most a height, with so many nestings left: an expression in parentheses or brackets has one less. This bounds how deep a reader
-- goes; the rule on nesting is asked of the tokens.
abbrev mutual
  pub Fits : ℕ → ℕ → Expr → Type 0
  Fits n h (Number digits k) = Unit {0}
  Fits n h (Truth value k) = Unit {0}
  Fits n h (Text bytes k) = Unit {0}
  Fits n h (Ref r) = FitsRefer n r
  Fits zero h (Paren e) = ⊥
  Fits (suc n) h (Paren e) = Fits n 9 e
  Fits n h (Array items) = IsSome items × FitsArgs n false items
  Fits n h (Typed t items) = FitsType n t × FitsArgs n false items
  Fits n h (Chain k sign first links) = (k < h) × IsSign k sign × Fits n k first × FitsLinks n k links × IsChain sign links × (k ≡ 4 → count links ≤ 1)

  pub FitsLinks : ℕ → ℕ → Links → Type 0
  FitsLinks n k no_links = Unit {0}
  FitsLinks n k (link op e links) = (height_of op ≡ suc k) × Fits n k e × FitsLinks n k links

  pub FitsRefer : ℕ → Refer → Type 0
  FitsRefer n (refer p ps) = FitsPart n p × FitsParts n ps

  pub FitsParts : ℕ → Parts → Type 0
  FitsParts n no_parts = Unit {0}
  FitsParts n (part p ps) = FitsPart n p × FitsParts n ps

  pub FitsPart : ℕ → Part → Type 0
  FitsPart n (named name g r) = FitsGroup n g × FitsRange n g r

  pub FitsGroup : ℕ → Group → Type 0
  FitsGroup n NoGroup = Unit {0}
  FitsGroup n (group args) = FitsArgs n true args

  pub FitsRange : ℕ → Group → Range → Type 0
  FitsRange n g NoRange = Unit {0}
  FitsRange n g (range lower upper) = HasGroup g × FitsMaybe n lower × FitsMaybe n upper

  pub FitsArgs : ℕ → Bool → Args → Type 0
  FitsArgs n in_call no_args = Unit {0}
  FitsArgs n in_call (arg a args) = FitsArg n in_call a × FitsArgs n in_call args

  pub FitsArg : ℕ → Bool → Arg → Type 0
  FitsArg zero in_call (Value keyword e) = ⊥
  FitsArg (suc n) in_call (Value keyword e) = IsKey in_call keyword × Fits n 9 e
  FitsArg n in_call (Section lower upper stride) = (in_call ≡ true) × FitsMaybe n lower × FitsMaybe n upper × FitsMaybe n stride
  FitsArg zero in_call (Strided lower stride) = ⊥
  FitsArg (suc n) in_call (Strided lower stride) = (in_call ≡ true) × FitsMaybe (suc n) lower × Fits n 9 stride

  pub FitsMaybe : ℕ → Maybe → Type 0
  FitsMaybe n Absent = Unit {0}
  FitsMaybe zero (Present e) = ⊥
  FitsMaybe (suc n) (Present e) = Fits n 9 e

  pub FitsType : ℕ → TypeOf → Type 0
  FitsType n (Integer k) = FitsKind n k
  FitsType n (Logical k) = FitsKind n k
  FitsType n (Character ps) = FitsParams n ps
  FitsType n (Derived name) = Unit {0}
  FitsType n Assumed = Unit {0}

  pub FitsKind : ℕ → Selector → Type 0
  FitsKind n NoKind = Unit {0}
  FitsKind zero (kind has_word e) = ⊥
  FitsKind (suc n) (kind has_word e) = Fits n 9 e

  pub FitsParams : ℕ → Params → Type 0
  FitsParams n NoParams = Unit {0}
  FitsParams n (params p ps) = FitsParam n true p × FitsMores n ps

  pub FitsMores : ℕ → More → Type 0
  FitsMores n no_more = Unit {0}
  FitsMores n (more p ps) = FitsParam n false p × FitsMores n ps

  pub FitsParam : ℕ → Bool → Param → Type 0
  FitsParam zero is_first (Length has_word e) = ⊥
  FitsParam (suc n) is_first (Length has_word e) = IsLength is_first has_word × Fits n 9 e
  FitsParam n is_first (AnyLength has_word) = IsLength is_first has_word
  FitsParam zero is_first (KindParam has_word e) = ⊥
  FitsParam (suc n) is_first (KindParam has_word e) = IsKind is_first has_word × Fits n 9 e

-- an expression within so many nestings, its own counted
abbrev pub Within : ℕ → Expr → Type 0
Within zero e = ⊥
Within (suc n) e = Fits n 9 e

-- what follows doesn't go on with an expression of this height
abbrev pub Stops : ℕ → List Token → Type 0
Stops h (token.Mark m ∷ ts) = h < height_of m
Stops h _ = Unit {0}

-- what follows doesn't go on with a type
abbrev pub EndsType : List Token → Type 0
EndsType (token.Mark mark.Open ∷ ts) = ⊥
EndsType _ = Unit {0}

-- what follows doesn't make a keyword of a name
abbrev pub IsApart : List Token → Type 0
IsApart (token.Mark mark.Assign ∷ ts) = ⊥
IsApart _ = Unit {0}
