-- The grammar of expressions, specifiers and declarators (ISO/IEC 9899:2011, 6.5 and 6.7): what a tree is, its spelling, what it declares, and which trees fit.
use Rattle.std.specs.Prelude.{◌≡◌, ℕ, zero, suc, ◌<◌, List, [], ◌∷◌, ◌++◌, Option, Some, None, Bool, true, false, ◌==◌, if◌then◌else◌}
use Rattle.c_tree.specs.declared.operator.ConstantType.{ConstantType}
use Rattle.c_tree.specs.declared.operator.SpecifierWord.{SpecifierWord}
use Rattle.c_tree.specs.declared.operator.SpecifierWord.TheVariants as word
use Rattle.c_tree.specs.declared.operator.PointerMark.{PointerMark}
use Rattle.c_tree.specs.declared.operator.PointerMark.TheVariants as mark
use Rattle.c_tree.specs.declared.operator.BinaryOperator.{BinaryOperator}
use Rattle.c_tree.specs.declared.operator.BinaryOperator.TheVariants as op
use Rattle.c_tree.specs.declared.operator.AssignOperator.{AssignOperator}
use Rattle.c_tree.specs.declared.operator.AssignOperator.TheVariants as set
use Rattle.c_tree.specs.declared.operator.PrefixOperator.{PrefixOperator}
use Rattle.c_tree.specs.declared.operator.PrefixOperator.TheVariants as pre
use Rattle.c_grammar.specs.declared.token.Allowed.{Allowed}
use Rattle.c_grammar.specs.declared.token.Allowed.TheVariants.{Named, Abstract, Either}
use Rattle.c_grammar.specs.declared.token.Token.{Token}
use Rattle.c_grammar.specs.declared.token.Token.TheVariants as token
use Rattle.c_grammar.specs.declared.scope.Binding.{Binding}

-- ---- names in scope, in the order of their declarations

abbrev pub Scope : Type 0
Scope = List Binding

abbrev pub type_after : Bool → Scope → ℕ → Bool
type_after found [] k = found
type_after found (b ∷ s) k = type_after (if b.name == k then b.is_type else found) s k

-- the last declaration of a name tells whether it is one of a type
unfoldable pub is_type : Scope → ℕ → Bool
is_type s k = type_after false s k

abbrev pub bind : Option ℕ → Bool → Scope → Scope
bind None t s = s
bind (Some k) t s = s ++ record { name = k; is_type = t } ∷ []

-- whether specifiers begin here
abbrev pub starts_type : Scope → List Token → Bool
starts_type s (token.Name k ∷ ts) = is_type s k
starts_type s (token.Word w ∷ ts) = true
starts_type s (token.Struct ∷ ts) = true
starts_type s (token.Enum ∷ ts) = true
starts_type s (token.DescriptorOfRank ∷ ts) = true
starts_type s _ = false

-- ---- trees

mutual
  -- An expression (6.5). A chain has a height, and operands with joints between them; the heights go from the multiplicative operators, 1, to the
  -- comma, 13, along 6.5.5 to 6.5.17.
  pub data Expr : Type 0 where
    Name : (k : ℕ) → Expr
    Number : (k : ℕ) (t : ConstantType) → Expr
    Byte : (k : ℕ) → Expr
    Texts : (k : ℕ) (others : List ℕ) → Expr
    Paren : (e : Expr) → Expr
    Postfix : (e : Expr) (posts : Posts) → Expr
    Prefix : (o : PrefixOperator) (e : Expr) → Expr
    SizeOfExpr : (e : Expr) → Expr
    SizeOf : (t : Typed) → Expr
    Cast : (t : Typed) (e : Expr) → Expr
    Chain : (h : ℕ) (first : Expr) (links : Links) → Expr

  -- with_posts operators (6.5.2); the arguments of a call are spelled as expressions with commas between them are
  pub data Posts : Type 0 where
    no_posts : Posts
    post : (one : Post) (rest : Posts) → Posts

  pub data Post : Type 0 where
    Index : (e : Expr) → Post
    Call : (arguments : Expr) → Post
    CallNothing : Post
    Member : (k : ℕ) → Post
    Arrow : (k : ℕ) → Post
    Increment : Post
    Decrement : Post

  -- what stands between the operands of a chain: an operator, or the middle of a conditional expression
  pub data Joint : Type 0 where
    Infix : (o : BinaryOperator) → Joint
    Choose : (value : Expr) → Joint
    Assign : (o : AssignOperator) → Joint
    Comma : Joint

  pub data Links : Type 0 where
    no_links : Links
    link : (j : Joint) (e : Expr) (rest : Links) → Links

  -- specifiers and one declarator: a parameter, a member or the name of a type
  pub data Typed : Type 0 where
    typed : (specs : Specs) (d : Decl) → Typed

  pub data Specs : Type 0 where
    no_specs : Specs
    spec : (one : Spec) (rest : Specs) → Specs

  pub data Spec : Type 0 where
    Keyword : (w : SpecifierWord) → Spec
    TypeName : (k : ℕ) → Spec
    StructTag : (k : ℕ) → Spec
    Struct : (tag : Option ℕ) (members : Members) → Spec
    EnumTag : (k : ℕ) → Spec
    Enum : (tag : Option ℕ) (first : Item) (rest : Items) (comma : Bool) → Spec
    Ranked : (k : ℕ) (t : ConstantType) → Spec

  -- members that are declared together have their specifiers once
  pub data Members : Type 0 where
    no_members : Members
    member : (t : Typed) (others : Decls) (rest : Members) → Members

  pub data Decls : Type 0 where
    no_decls : Decls
    another : (d : Decl) (rest : Decls) → Decls

  -- an enumerator, with its value or without
  pub data Item : Type 0 where
    Plain : (k : ℕ) → Item
    Valued : (k : ℕ) (e : Expr) → Item

  pub data Items : Type 0 where
    no_items : Items
    item : (one : Item) (rest : Items) → Items

  pub data Decl : Type 0 where
    decl : (marks : List PointerMark) (core : Core) (suffixes : Suffixes) → Decl

  pub data Core : Type 0 where
    Absent : Core
    Id : (k : ℕ) → Core
    Group : (d : Decl) → Core

  pub data Suffixes : Type 0 where
    no_suffixes : Suffixes
    suffix : (one : Suffix) (rest : Suffixes) → Suffixes

  pub data Suffix : Type 0 where
    OpenArray : Suffix
    Array : (e : Expr) → Suffix
    Function : (ps : Params) → Suffix

  pub data Params : Type 0 where
    NoParams : Params
    OnlyVoid : Params
    Some_params : (first : Typed) (rest : More) → Params

  pub data More : Type 0 where
    no_more : More
    param : (t : Typed) (rest : More) → More

-- ---- spelling: the tokens of a tree, and then the rest

abbrev pub infix_height : BinaryOperator → ℕ
infix_height op.Times = 1
infix_height op.Over = 1
infix_height op.Remainder = 1
infix_height op.Plus = 2
infix_height op.Minus = 2
infix_height op.ShiftLeft = 3
infix_height op.ShiftRight = 3
infix_height op.Less = 4
infix_height op.Greater = 4
infix_height op.LessEqual = 4
infix_height op.GreaterEqual = 4
infix_height op.Equal = 5
infix_height op.NotEqual = 5
infix_height op.BitAnd = 6
infix_height op.BitXor = 7
infix_height op.BitOr = 8
infix_height op.And = 9
infix_height op.Or = 10

abbrev pub height_of : Joint → ℕ
height_of (Infix o) = infix_height o
height_of (Choose v) = 11
height_of (Assign o) = 12
height_of Comma = 13

abbrev pub sign_of : BinaryOperator → Token
sign_of op.Times = token.Star
sign_of op.Over = token.Slash
sign_of op.Remainder = token.Percent
sign_of op.Plus = token.Plus
sign_of op.Minus = token.Minus
sign_of op.ShiftLeft = token.ShiftLeft
sign_of op.ShiftRight = token.ShiftRight
sign_of op.Less = token.Less
sign_of op.Greater = token.Greater
sign_of op.LessEqual = token.LessEqual
sign_of op.GreaterEqual = token.GreaterEqual
sign_of op.Equal = token.Equal
sign_of op.NotEqual = token.NotEqual
sign_of op.BitAnd = token.Ampersand
sign_of op.BitXor = token.Caret
sign_of op.BitOr = token.Bar
sign_of op.And = token.AndAnd
sign_of op.Or = token.OrOr

abbrev pub sign_of_set : AssignOperator → Token
sign_of_set set.Set = token.Equals
sign_of_set set.Times = token.StarEquals
sign_of_set set.Over = token.SlashEquals
sign_of_set set.Remainder = token.PercentEquals
sign_of_set set.Plus = token.PlusEquals
sign_of_set set.Minus = token.MinusEquals
sign_of_set set.ShiftLeft = token.ShiftLeftEquals
sign_of_set set.ShiftRight = token.ShiftRightEquals
sign_of_set set.BitAnd = token.AmpersandEquals
sign_of_set set.BitXor = token.CaretEquals
sign_of_set set.BitOr = token.BarEquals

abbrev pub sign_of_prefix : PrefixOperator → Token
sign_of_prefix pre.Increment = token.Increment
sign_of_prefix pre.Decrement = token.Decrement
sign_of_prefix pre.Address = token.Ampersand
sign_of_prefix pre.Dereference = token.Star
sign_of_prefix pre.Plus = token.Plus
sign_of_prefix pre.Minus = token.Minus
sign_of_prefix pre.Complement = token.Tilde
sign_of_prefix pre.Not = token.Exclamation

abbrev pub sign_of_mark : PointerMark → Token
sign_of_mark mark.Star = token.Star
sign_of_mark mark.Const = token.Word word.Const
sign_of_mark mark.Restrict = token.Restrict

abbrev pub spell_marks : List PointerMark → List Token → List Token
spell_marks [] rest = rest
spell_marks (m ∷ ms) rest = sign_of_mark m ∷ spell_marks ms rest

abbrev pub spell_texts : List ℕ → List Token → List Token
spell_texts [] rest = rest
spell_texts (k ∷ ks) rest = token.Text k ∷ spell_texts ks rest

abbrev pub spell_tag : Option ℕ → List Token → List Token
spell_tag None rest = rest
spell_tag (Some k) rest = token.Name k ∷ rest

abbrev pub spell_comma : Bool → List Token → List Token
spell_comma true rest = token.Comma ∷ rest
spell_comma false rest = rest

abbrev mutual
  pub spell : Expr → List Token → List Token
  spell (Name k) rest = token.Name k ∷ rest
  spell (Number k t) rest = token.Number k t ∷ rest
  spell (Byte k) rest = token.Byte k ∷ rest
  spell (Texts k ks) rest = token.Text k ∷ spell_texts ks rest
  spell (Paren e) rest = token.Open ∷ spell e (token.Close ∷ rest)
  spell (Postfix e posts) rest = spell e (spell_posts posts rest)
  spell (Prefix o e) rest = sign_of_prefix o ∷ spell e rest
  spell (SizeOfExpr e) rest = token.Sizeof ∷ spell e rest
  spell (SizeOf t) rest = token.Sizeof ∷ token.Open ∷ spell_typed t (token.Close ∷ rest)
  spell (Cast t e) rest = token.Open ∷ spell_typed t (token.Close ∷ spell e rest)
  spell (Chain h first links) rest = spell first (spell_links links rest)

  pub spell_links : Links → List Token → List Token
  spell_links no_links rest = rest
  spell_links (link j e more) rest = spell_joint j (spell e (spell_links more rest))

  pub spell_joint : Joint → List Token → List Token
  spell_joint (Infix o) rest = sign_of o ∷ rest
  spell_joint (Choose v) rest = token.Question ∷ spell v (token.Colon ∷ rest)
  spell_joint (Assign o) rest = sign_of_set o ∷ rest
  spell_joint Comma rest = token.Comma ∷ rest

  pub spell_posts : Posts → List Token → List Token
  spell_posts no_posts rest = rest
  spell_posts (post one more) rest = spell_post one (spell_posts more rest)

  pub spell_post : Post → List Token → List Token
  spell_post (Index e) rest = token.SquareOpen ∷ spell e (token.SquareClose ∷ rest)
  spell_post (Call e) rest = token.Open ∷ spell e (token.Close ∷ rest)
  spell_post CallNothing rest = token.Open ∷ token.Close ∷ rest
  spell_post (Member k) rest = token.Dot ∷ token.Name k ∷ rest
  spell_post (Arrow k) rest = token.Arrow ∷ token.Name k ∷ rest
  spell_post Increment rest = token.Increment ∷ rest
  spell_post Decrement rest = token.Decrement ∷ rest

  pub spell_typed : Typed → List Token → List Token
  spell_typed (typed specs d) rest = spell_specs specs (spell_decl d rest)

  pub spell_specs : Specs → List Token → List Token
  spell_specs no_specs rest = rest
  spell_specs (spec one more) rest = spell_spec one (spell_specs more rest)

  pub spell_spec : Spec → List Token → List Token
  spell_spec (Keyword w) rest = token.Word w ∷ rest
  spell_spec (TypeName k) rest = token.Name k ∷ rest
  spell_spec (StructTag k) rest = token.Struct ∷ token.Name k ∷ rest
  spell_spec (Struct tag members) rest = token.Struct ∷ spell_tag tag (token.BraceOpen ∷ spell_members members (token.BraceClose ∷ rest))
  spell_spec (EnumTag k) rest = token.Enum ∷ token.Name k ∷ rest
  spell_spec (Enum tag i is c) rest = token.Enum ∷ spell_tag tag (token.BraceOpen ∷ spell_item i (spell_items is (spell_comma c (token.BraceClose ∷ rest))))
  spell_spec (Ranked k t) rest = token.DescriptorOfRank ∷ token.Open ∷ token.Number k t ∷ token.Close ∷ rest

  pub spell_members : Members → List Token → List Token
  spell_members no_members rest = rest
  spell_members (member t ds more) rest = spell_typed t (spell_decls ds (token.Semi ∷ spell_members more rest))

  pub spell_decls : Decls → List Token → List Token
  spell_decls no_decls rest = rest
  spell_decls (another d more) rest = token.Comma ∷ spell_decl d (spell_decls more rest)

  pub spell_item : Item → List Token → List Token
  spell_item (Plain k) rest = token.Name k ∷ rest
  spell_item (Valued k e) rest = token.Name k ∷ token.Equals ∷ spell e rest

  pub spell_items : Items → List Token → List Token
  spell_items no_items rest = rest
  spell_items (item i more) rest = token.Comma ∷ spell_item i (spell_items more rest)

  pub spell_decl : Decl → List Token → List Token
  spell_decl (decl marks core ends) rest = spell_marks marks (spell_core core (spell_suffixes ends rest))

  pub spell_core : Core → List Token → List Token
  spell_core Absent rest = rest
  spell_core (Id k) rest = token.Name k ∷ rest
  spell_core (Group d) rest = token.Open ∷ spell_decl d (token.Close ∷ rest)

  pub spell_suffixes : Suffixes → List Token → List Token
  spell_suffixes no_suffixes rest = rest
  spell_suffixes (suffix one more) rest = spell_suffix one (spell_suffixes more rest)

  pub spell_suffix : Suffix → List Token → List Token
  spell_suffix OpenArray rest = token.SquareOpen ∷ token.SquareClose ∷ rest
  spell_suffix (Array e) rest = token.SquareOpen ∷ spell e (token.SquareClose ∷ rest)
  spell_suffix (Function ps) rest = token.Open ∷ spell_params ps (token.Close ∷ rest)

  pub spell_params : Params → List Token → List Token
  spell_params NoParams rest = rest
  spell_params OnlyVoid rest = token.Word word.Void ∷ rest
  spell_params (Some_params t more) rest = spell_typed t (spell_more more rest)

  pub spell_more : More → List Token → List Token
  spell_more no_more rest = rest
  spell_more (param t rest_of) rest = token.Comma ∷ spell_typed t (spell_more rest_of rest)

-- ---- what is declared behind a tree; a list of parameters is a scope of its own

abbrev mutual
  pub after : Expr → Scope → Scope
  after (Name k) s = s
  after (Number k t) s = s
  after (Byte k) s = s
  after (Texts k ks) s = s
  after (Paren e) s = after e s
  after (Postfix e posts) s = after_posts posts (after e s)
  after (Prefix o e) s = after e s
  after (SizeOfExpr e) s = after e s
  after (SizeOf t) s = after_typed t s
  after (Cast t e) s = after e (after_typed t s)
  after (Chain h first links) s = after_links links (after first s)

  pub after_links : Links → Scope → Scope
  after_links no_links s = s
  after_links (link j e more) s = after_links more (after e (after_joint j s))

  pub after_joint : Joint → Scope → Scope
  after_joint (Choose v) s = after v s
  after_joint _ s = s

  pub after_posts : Posts → Scope → Scope
  after_posts no_posts s = s
  after_posts (post one more) s = after_posts more (after_post one s)

  pub after_post : Post → Scope → Scope
  after_post (Index e) s = after e s
  after_post (Call e) s = after e s
  after_post _ s = s

  pub after_typed : Typed → Scope → Scope
  after_typed (typed specs d) s = after_decl d (after_specs specs s)

  pub after_specs : Specs → Scope → Scope
  after_specs no_specs s = s
  after_specs (spec one more) s = after_specs more (after_spec one s)

  pub after_spec : Spec → Scope → Scope
  after_spec (Keyword w) s = s
  after_spec (TypeName k) s = s
  after_spec (StructTag k) s = s
  after_spec (Struct tag members) s = after_members members s
  after_spec (EnumTag k) s = s
  after_spec (Enum tag i is c) s = after_items is (after_item i s)
  after_spec (Ranked k t) s = s

  pub after_members : Members → Scope → Scope
  after_members no_members s = s
  after_members (member t ds more) s = after_members more (after_decls ds (after_typed t s))

  pub after_decls : Decls → Scope → Scope
  after_decls no_decls s = s
  after_decls (another d more) s = after_decls more (after_decl d s)

  -- an enumerator is declared behind its value (6.2.1p7)
  pub after_item : Item → Scope → Scope
  after_item (Plain k) s = bind (Some k) false s
  after_item (Valued k e) s = bind (Some k) false (after e s)

  pub after_items : Items → Scope → Scope
  after_items no_items s = s
  after_items (item i more) s = after_items more (after_item i s)

  pub after_decl : Decl → Scope → Scope
  after_decl (decl marks core ends) s = after_suffixes ends (after_core core s)

  pub after_core : Core → Scope → Scope
  after_core Absent s = s
  after_core (Id k) s = s
  after_core (Group d) s = after_decl d s

  pub after_suffixes : Suffixes → Scope → Scope
  after_suffixes no_suffixes s = s
  after_suffixes (suffix one more) s = after_suffixes more (after_suffix one s)

  pub after_suffix : Suffix → Scope → Scope
  after_suffix OpenArray s = s
  after_suffix (Array e) s = after e s
  after_suffix (Function ps) s = s

-- the name of a declarator
abbrev mutual
  pub name_of : Decl → Option ℕ
  name_of (decl marks core ends) = name_of_core core

  pub name_of_core : Core → Option ℕ
  name_of_core Absent = None
  name_of_core (Id k) = Some k
  name_of_core (Group d) = name_of d

abbrev pub is_typedef : Specs → Bool
is_typedef no_specs = false
is_typedef (spec (Keyword word.Typedef) more) = true
is_typedef (spec one more) = is_typedef more

-- a parameter declares its name for those behind it
abbrev pub after_param : Typed → Scope → Scope
after_param (typed specs d) s = bind (name_of d) (is_typedef specs) (after_decl d (after_specs specs s))

abbrev pub after_more : More → Scope → Scope
after_more no_more s = s
after_more (param t rest) s = after_more rest (after_param t s)

-- what is declared inside a list of parameters
abbrev pub inside : Params → Scope → Scope
inside (Some_params t more) s = after_more more (after_param t s)
inside _ s = s

-- ---- which trees fit

abbrev pub is_base : Spec → Bool
is_base (Keyword word.Typedef) = false
is_base (Keyword word.Extern) = false
is_base (Keyword word.Static) = false
is_base (Keyword word.Const) = false
is_base _ = true

abbrev pub or : Bool → Bool → Bool
or true b = true
or false b = b

-- whether there is a base, before specifiers or among them
abbrev pub is_based : Bool → Specs → Bool
is_based based no_specs = based
is_based based (spec one more) = is_based (or based (is_base one)) more

-- The name of a type behind specifiers without a base is their base, and begins no declarator.
abbrev pub NoBase : Bool → Scope → Decl → Type 0
NoBase true s d = Unit {0}
NoBase false s (decl [] (Id k) ends) = is_type s k ≡ false
NoBase false s d = Unit {0}

-- a pointer begins with a star
abbrev pub ArePointers : List PointerMark → Type 0
ArePointers [] = Unit {0}
ArePointers (mark.Star ∷ ms) = Unit {0}
ArePointers _ = ⊥

-- a primary expression (6.5.1)
abbrev pub is_primary : Expr → Bool
is_primary (Name k) = true
is_primary (Number k t) = true
is_primary (Byte k) = true
is_primary (Texts k ks) = true
is_primary (Paren e) = true
is_primary _ = false

-- a unary expression (6.5.3)
abbrev pub is_unary : Expr → Bool
is_unary (Cast t e) = false
is_unary (Chain h first links) = false
is_unary _ = true

-- 6.5.3.1: what is stepped is a unary expression, and so is (6.5.16) what is assigned
abbrev pub takes_operand : PrefixOperator → Expr → Bool
takes_operand pre.Increment e = is_unary e
takes_operand pre.Decrement e = is_unary e
takes_operand _ e = true

abbrev pub Joins : Expr → Joint → Type 0
Joins left (Assign o) = is_unary left ≡ true
Joins left _ = Unit {0}

abbrev pub ArePosts : Posts → Type 0
ArePosts no_posts = ⊥
ArePosts _ = Unit {0}

abbrev pub IsLinked : Links → Type 0
IsLinked no_links = ⊥
IsLinked _ = Unit {0}

-- which declarators may stand in parentheses: where there may be no name, nothing is no declarator, and a name of a type is a parameter
abbrev pub Grouped : Allowed → Scope → Decl → Type 0
Grouped Named s d = Unit {0}
Grouped a s (decl [] Absent no_suffixes) = ⊥
Grouped a s (decl [] (Id k) ends) = is_type s k ≡ false
Grouped a s d = Unit {0}

-- void alone is no parameter
abbrev pub IsAParam : Typed → More → Type 0
IsAParam (typed (spec (Keyword word.Void) no_specs) (decl [] Absent no_suffixes)) no_more = ⊥
IsAParam t more = Unit {0}

-- An expression of at most a height, a declarator and so on, in their scopes; what is nested has one nesting less.
-- Behind a base (based) a name is the declarator's. Specifiers are not empty, and need no base.
abbrev mutual
  pub Fits : ℕ → ℕ → Scope → Expr → Type 0
  Fits n h s (Name k) = is_type s k ≡ false
  Fits n h s (Number k t) = Unit {0}
  Fits n h s (Byte k) = Unit {0}
  Fits n h s (Texts k ks) = Unit {0}
  Fits zero h s (Paren e) = ⊥
  Fits (suc n) h s (Paren e) = Fits n 13 s e
  Fits n h s (Postfix e posts) = Fits n 0 s e × (is_primary e ≡ true) × FitsPosts n (after e s) posts × ArePosts posts
  Fits zero h s (Prefix o e) = ⊥
  Fits (suc n) h s (Prefix o e) = Fits n 0 s e × (takes_operand o e ≡ true)
  Fits zero h s (SizeOfExpr e) = ⊥
  Fits (suc n) h s (SizeOfExpr e) = Fits n 0 s e × (is_unary e ≡ true)
  Fits zero h s (SizeOf t) = ⊥
  Fits (suc n) h s (SizeOf t) = FitsTyped n Abstract s t
  Fits zero h s (Cast t e) = ⊥
  Fits (suc n) h s (Cast t e) = FitsTyped n Abstract s t × Fits n 0 (after_typed t s) e
  Fits n h s (Chain k first links) = (k < h) × Fits n k s first × FitsLinks n k (after first s) first links × IsLinked links

  pub FitsLinks : ℕ → ℕ → Scope → Expr → Links → Type 0
  FitsLinks n k s left no_links = Unit {0}
  FitsLinks n k s left (link j e more) = (height_of j ≡ suc k) × Joins left j × FitsJoint n s j × Fits n k (after_joint j s) e × FitsLinks n k (after e (after_joint j s)) e more

  pub FitsJoint : ℕ → Scope → Joint → Type 0
  FitsJoint n s (Infix o) = Unit {0}
  FitsJoint zero s (Choose v) = ⊥
  FitsJoint (suc n) s (Choose v) = Fits n 13 s v
  FitsJoint n s (Assign o) = Unit {0}
  FitsJoint n s Comma = Unit {0}

  pub FitsPosts : ℕ → Scope → Posts → Type 0
  FitsPosts n s no_posts = Unit {0}
  FitsPosts n s (post one more) = FitsPost n s one × FitsPosts n (after_post one s) more

  pub FitsPost : ℕ → Scope → Post → Type 0
  FitsPost zero s (Index e) = ⊥
  FitsPost (suc n) s (Index e) = Fits n 13 s e
  FitsPost zero s (Call e) = ⊥
  FitsPost (suc n) s (Call e) = Fits n 13 s e
  FitsPost n s CallNothing = Unit {0}
  FitsPost n s (Member k) = Unit {0}
  FitsPost n s (Arrow k) = Unit {0}
  FitsPost n s Increment = Unit {0}
  FitsPost n s Decrement = Unit {0}

  pub FitsTyped : ℕ → Allowed → Scope → Typed → Type 0
  FitsTyped n a s (typed specs d) = FitsSpecifiers n s specs × FitsDecl n a (after_specs specs s) d × NoBase (is_based false specs) (after_specs specs s) d

  pub FitsSpecifiers : ℕ → Scope → Specs → Type 0
  FitsSpecifiers n s no_specs = ⊥
  FitsSpecifiers n s (spec one more) = FitsSpec n false s one × FitsSpecs n (is_base one) (after_spec one s) more

  pub FitsSpecs : ℕ → Bool → Scope → Specs → Type 0
  FitsSpecs n based s no_specs = Unit {0}
  FitsSpecs n based s (spec one more) = FitsSpec n based s one × FitsSpecs n (or based (is_base one)) (after_spec one s) more

  pub FitsSpec : ℕ → Bool → Scope → Spec → Type 0
  FitsSpec n based s (Keyword w) = Unit {0}
  FitsSpec n based s (TypeName k) = (based ≡ false) × (is_type s k ≡ true)
  FitsSpec n based s (StructTag k) = Unit {0}
  FitsSpec n based s (Struct tag members) = FitsMembers n s members
  FitsSpec n based s (EnumTag k) = Unit {0}
  FitsSpec n based s (Enum tag i is c) = FitsItem n s i × FitsItems n (after_item i s) is
  FitsSpec n based s (Ranked k t) = k < 16

  pub FitsMembers : ℕ → Scope → Members → Type 0
  FitsMembers n s no_members = Unit {0}
  FitsMembers zero s (member t ds more) = ⊥
  FitsMembers (suc n) s (member t ds more) = FitsTyped n Named s t × FitsDecls (suc n) (after_typed t s) ds × FitsMembers (suc n) (after_decls ds (after_typed t s)) more

  pub FitsDecls : ℕ → Scope → Decls → Type 0
  FitsDecls n s no_decls = Unit {0}
  FitsDecls zero s (another d more) = ⊥
  FitsDecls (suc n) s (another d more) = FitsDecl n Named s d × FitsDecls (suc n) (after_decl d s) more

  pub FitsItem : ℕ → Scope → Item → Type 0
  FitsItem n s (Plain k) = Unit {0}
  FitsItem zero s (Valued k e) = ⊥
  FitsItem (suc n) s (Valued k e) = Fits n 11 s e

  pub FitsItems : ℕ → Scope → Items → Type 0
  FitsItems n s no_items = Unit {0}
  FitsItems n s (item i more) = FitsItem n s i × FitsItems n (after_item i s) more

  pub FitsDecl : ℕ → Allowed → Scope → Decl → Type 0
  FitsDecl n a s (decl marks core ends) = ArePointers marks × FitsCore n a s core × FitsSuffixes n (after_core core s) ends

  pub FitsCore : ℕ → Allowed → Scope → Core → Type 0
  FitsCore n a s Absent = a ≡ Named → ⊥
  FitsCore n a s (Id k) = a ≡ Abstract → ⊥
  FitsCore zero a s (Group d) = ⊥
  FitsCore (suc n) a s (Group d) = FitsDecl n a s d × Grouped a s d

  pub FitsSuffixes : ℕ → Scope → Suffixes → Type 0
  FitsSuffixes n s no_suffixes = Unit {0}
  FitsSuffixes n s (suffix one more) = FitsSuffix n s one × FitsSuffixes n (after_suffix one s) more

  pub FitsSuffix : ℕ → Scope → Suffix → Type 0
  FitsSuffix n s OpenArray = Unit {0}
  FitsSuffix zero s (Array e) = ⊥
  FitsSuffix (suc n) s (Array e) = Fits n 11 s e
  FitsSuffix n s (Function ps) = FitsParams n s ps

  pub FitsParams : ℕ → Scope → Params → Type 0
  FitsParams n s NoParams = Unit {0}
  FitsParams n s OnlyVoid = Unit {0}
  FitsParams zero s (Some_params t more) = ⊥
  FitsParams (suc n) s (Some_params t more) = FitsTyped n Either s t × FitsMore (suc n) (after_param t s) more × IsAParam t more

  pub FitsMore : ℕ → Scope → More → Type 0
  FitsMore n s no_more = Unit {0}
  FitsMore zero s (param t rest) = ⊥
  FitsMore (suc n) s (param t rest) = FitsTyped n Either s t × FitsMore (suc n) (after_param t s) rest

-- what is nested in n nestings
abbrev pub Within : ℕ → ℕ → Scope → Expr → Type 0
Within zero h s e = ⊥
Within (suc n) h s e = Fits n h s e

abbrev pub WithinDecl : ℕ → Allowed → Scope → Decl → Type 0
WithinDecl zero a s d = ⊥
WithinDecl (suc n) a s d = FitsDecl n a s d

abbrev pub WithinTyped : ℕ → Allowed → Scope → Typed → Type 0
WithinTyped zero a s t = ⊥
WithinTyped (suc n) a s t = FitsTyped n a s t

-- which joint begins with a token
pub data Sort : Type 0 where
  OfInfix : (o : BinaryOperator) → Sort
  OfChoice : Sort
  OfAssign : (o : AssignOperator) → Sort
  OfComma : Sort

abbrev pub sort_height : Sort → ℕ
sort_height (OfInfix o) = infix_height o
sort_height OfChoice = 11
sort_height (OfAssign o) = 12
sort_height OfComma = 13

abbrev pub sort_of : Token → Option Sort
sort_of token.Star = Some (OfInfix op.Times)
sort_of token.Slash = Some (OfInfix op.Over)
sort_of token.Percent = Some (OfInfix op.Remainder)
sort_of token.Plus = Some (OfInfix op.Plus)
sort_of token.Minus = Some (OfInfix op.Minus)
sort_of token.ShiftLeft = Some (OfInfix op.ShiftLeft)
sort_of token.ShiftRight = Some (OfInfix op.ShiftRight)
sort_of token.Less = Some (OfInfix op.Less)
sort_of token.Greater = Some (OfInfix op.Greater)
sort_of token.LessEqual = Some (OfInfix op.LessEqual)
sort_of token.GreaterEqual = Some (OfInfix op.GreaterEqual)
sort_of token.Equal = Some (OfInfix op.Equal)
sort_of token.NotEqual = Some (OfInfix op.NotEqual)
sort_of token.Ampersand = Some (OfInfix op.BitAnd)
sort_of token.Caret = Some (OfInfix op.BitXor)
sort_of token.Bar = Some (OfInfix op.BitOr)
sort_of token.AndAnd = Some (OfInfix op.And)
sort_of token.OrOr = Some (OfInfix op.Or)
sort_of token.Question = Some OfChoice
sort_of token.Equals = Some (OfAssign set.Set)
sort_of token.StarEquals = Some (OfAssign set.Times)
sort_of token.SlashEquals = Some (OfAssign set.Over)
sort_of token.PercentEquals = Some (OfAssign set.Remainder)
sort_of token.PlusEquals = Some (OfAssign set.Plus)
sort_of token.MinusEquals = Some (OfAssign set.Minus)
sort_of token.ShiftLeftEquals = Some (OfAssign set.ShiftLeft)
sort_of token.ShiftRightEquals = Some (OfAssign set.ShiftRight)
sort_of token.AmpersandEquals = Some (OfAssign set.BitAnd)
sort_of token.CaretEquals = Some (OfAssign set.BitXor)
sort_of token.BarEquals = Some (OfAssign set.BitOr)
sort_of token.Comma = Some OfComma
sort_of _ = None

-- a with_posts operator begins here
abbrev pub begins_post : List Token → Bool
begins_post (token.SquareOpen ∷ ts) = true
begins_post (token.Open ∷ ts) = true
begins_post (token.Dot ∷ ts) = true
begins_post (token.Arrow ∷ ts) = true
begins_post (token.Increment ∷ ts) = true
begins_post (token.Decrement ∷ ts) = true
begins_post _ = false

abbrev pub NoText : List Token → Type 0
NoText (token.Text k ∷ ts) = ⊥
NoText _ = Unit {0}

-- no joint up to this height begins with the token
abbrev pub Quiet : ℕ → Option Sort → Type 0
Quiet h None = Unit {0}
Quiet h (Some o) = h < sort_height o

abbrev pub NoJoint : ℕ → List Token → Type 0
NoJoint h [] = Unit {0}
NoJoint h (t ∷ ts) = Quiet h (sort_of t)

-- what follows doesn't go on with an expression of this height
abbrev pub Stops : ℕ → List Token → Type 0
Stops h ts = (begins_post ts ≡ false) × NoText ts × NoJoint h ts

-- a tag is not followed by the braces of what it names
abbrev pub NoBraces : List Token → Type 0
NoBraces (token.BraceOpen ∷ ts) = ⊥
NoBraces _ = Unit {0}

-- what follows doesn't go on with a declarator
abbrev pub Ends : List Token → Type 0
Ends [] = Unit {0}
Ends (token.Close ∷ ts) = Unit {0}
Ends (token.Comma ∷ ts) = Unit {0}
Ends (token.Semi ∷ ts) = Unit {0}
Ends (token.Equals ∷ ts) = Unit {0}
Ends (token.BraceOpen ∷ ts) = Unit {0}
Ends _ = ⊥
