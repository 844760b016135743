-- The grammar of declarations, statements and external declarations (ISO/IEC 9899:2011, 6.7 to 6.9): what a tree is, its spelling, what it declares, and which trees fit.
use Rattle.std.specs.Prelude.{◌≡◌, ℕ, zero, suc, List, [], ◌∷◌, Option, Some, None, Bool, true, false, if◌then◌else◌}
use Rattle.c_grammar.specs.declared.token.Allowed.TheVariants.{Named}
use Rattle.c_grammar.specs.declared.token.Token.{Token}
use Rattle.c_grammar.specs.declared.token.Token.TheVariants as token
use Rattle.c_grammar.specs.Grammar.{Scope, bind, Expr, Specs, Decl, decl, Core, Absent, Id, Group, Suffixes, no_suffixes, suffix, Function, Params, Some_params, after, after_specs, after_decl, after_param, after_more, name_of, is_typedef, spell, spell_specs, spell_decl, spell_comma, is_based, NoBase, Fits, FitsSpecifiers, FitsDecl, Within}

-- ---- initial values (6.7.9)

mutual
  pub data Initial : Type 0 where
    Value : (e : Expr) → Initial
    Braced : (first : Initial) (rest : Initials) (comma : Bool) → Initial

  pub data Initials : Type 0 where
    no_initials : Initials
    initial : (one : Initial) (rest : Initials) → Initials

abbrev mutual
  pub spell_initial : Initial → List Token → List Token
  spell_initial (Value e) rest = spell e rest
  spell_initial (Braced i is c) rest = token.BraceOpen ∷ spell_initial i (spell_initials is (spell_comma c (token.BraceClose ∷ rest)))

  pub spell_initials : Initials → List Token → List Token
  spell_initials no_initials rest = rest
  spell_initials (initial i more) rest = token.Comma ∷ spell_initial i (spell_initials more rest)

abbrev mutual
  pub after_initial : Initial → Scope → Scope
  after_initial (Value e) s = after e s
  after_initial (Braced i is c) s = after_initials is (after_initial i s)

  pub after_initials : Initials → Scope → Scope
  after_initials no_initials s = s
  after_initials (initial i more) s = after_initials more (after_initial i s)

-- braces nest
abbrev mutual
  pub FitsInitial : ℕ → Scope → Initial → Type 0
  FitsInitial n s (Value e) = Fits n 12 s e
  FitsInitial zero s (Braced i is c) = ⊥
  FitsInitial (suc n) s (Braced i is c) = FitsInitial n s i × FitsInitials n (after_initial i s) is

  pub FitsInitials : ℕ → Scope → Initials → Type 0
  FitsInitials n s no_initials = Unit {0}
  FitsInitials n s (initial i more) = FitsInitial n s i × FitsInitials n (after_initial i s) more

-- ---- declarations (6.7)

pub data Init : Type 0 where
  init : (d : Decl) (value : Option Initial) → Init

pub data Declaration : Type 0 where
  Bare : (specs : Specs) → Declaration
  Declares : (specs : Specs) (first : Init) (rest : List Init) → Declaration

abbrev pub spell_value : Option Initial → List Token → List Token
spell_value None rest = rest
spell_value (Some i) rest = token.Equals ∷ spell_initial i rest

abbrev pub spell_init : Init → List Token → List Token
spell_init (init d value) rest = spell_decl d (spell_value value rest)

abbrev pub spell_inits : List Init → List Token → List Token
spell_inits [] rest = rest
spell_inits (i ∷ is) rest = token.Comma ∷ spell_init i (spell_inits is rest)

abbrev pub spell_declaration : Declaration → List Token → List Token
spell_declaration (Bare specs) rest = spell_specs specs (token.Semi ∷ rest)
spell_declaration (Declares specs i is) rest = spell_specs specs (spell_init i (spell_inits is (token.Semi ∷ rest)))

-- a name is declared before its value (6.2.1p7)
abbrev pub declared : Bool → Decl → Scope → Scope
declared td d s = bind (name_of d) td (after_decl d s)

abbrev pub after_value : Option Initial → Scope → Scope
after_value None s = s
after_value (Some i) s = after_initial i s

abbrev pub after_init : Bool → Init → Scope → Scope
after_init td (init d value) s = after_value value (declared td d s)

abbrev pub after_inits : Bool → List Init → Scope → Scope
after_inits td [] s = s
after_inits td (i ∷ is) s = after_inits td is (after_init td i s)

abbrev pub after_declaration : Declaration → Scope → Scope
after_declaration (Bare specs) s = after_specs specs s
after_declaration (Declares specs i is) s = after_inits (is_typedef specs) (i ∷ is) (after_specs specs s)

abbrev pub FitsValue : ℕ → Scope → Option Initial → Type 0
FitsValue n s None = Unit {0}
FitsValue n s (Some i) = FitsInitial n s i

abbrev pub FitsInit : ℕ → Bool → Scope → Init → Type 0
FitsInit n td s (init d value) = FitsDecl n Named s d × FitsValue n (declared td d s) value

abbrev pub FitsInits : ℕ → Bool → Scope → List Init → Type 0
FitsInits n td s [] = Unit {0}
FitsInits n td s (i ∷ is) = FitsInit n td s i × FitsInits n td (after_init td i s) is

abbrev pub NoBaseFirst : Bool → Scope → Init → Type 0
NoBaseFirst based s (init d value) = NoBase based s d

abbrev pub FitsDeclaration : ℕ → Scope → Declaration → Type 0
FitsDeclaration n s (Bare specs) = FitsSpecifiers n s specs
FitsDeclaration n s (Declares specs i is) = FitsSpecifiers n s specs × FitsInits n (is_typedef specs) (after_specs specs s) (i ∷ is) × NoBaseFirst (is_based false specs) (after_specs specs s) i

-- ---- statements (6.8)

-- what a `for` begins with
pub data Start : Type 0 where
  ForDeclares : (d : Declaration) → Start
  ForExpr : (e : Option Expr) → Start

mutual
  pub data Stmt : Type 0 where
    Block : (items : Items) → Stmt
    Empty : Stmt
    Do : (e : Expr) → Stmt
    OnlyIf : (test : Expr) (body : Stmt) → Stmt
    IfElse : (test : Expr) (body other : Stmt) → Stmt
    Switch : (value : Expr) (body : Stmt) → Stmt
    Case : (value : Expr) (body : Stmt) → Stmt
    Default : (body : Stmt) → Stmt
    While : (test : Expr) (body : Stmt) → Stmt
    DoWhile : (body : Stmt) (test : Expr) → Stmt
    For : (start : Start) (test next : Option Expr) (body : Stmt) → Stmt
    Break : Stmt
    Continue : Stmt
    Return : (value : Option Expr) → Stmt

  pub data Items : Type 0 where
    nothing : Items
    declares : (d : Declaration) (rest : Items) → Items
    does : (x : Stmt) (rest : Items) → Items

abbrev pub spell_optional : Option Expr → List Token → List Token
spell_optional None rest = rest
spell_optional (Some e) rest = spell e rest

abbrev pub spell_start : Start → List Token → List Token
spell_start (ForDeclares d) rest = spell_declaration d rest
spell_start (ForExpr e) rest = spell_optional e (token.Semi ∷ rest)

abbrev mutual
  pub spell_stmt : Stmt → List Token → List Token
  spell_stmt (Block items) rest = token.BraceOpen ∷ spell_items items (token.BraceClose ∷ rest)
  spell_stmt Empty rest = token.Semi ∷ rest
  spell_stmt (Do e) rest = spell e (token.Semi ∷ rest)
  spell_stmt (OnlyIf e a) rest = token.If ∷ token.Open ∷ spell e (token.Close ∷ spell_stmt a rest)
  spell_stmt (IfElse e a b) rest = token.If ∷ token.Open ∷ spell e (token.Close ∷ spell_stmt a (token.Else ∷ spell_stmt b rest))
  spell_stmt (Switch e a) rest = token.Switch ∷ token.Open ∷ spell e (token.Close ∷ spell_stmt a rest)
  spell_stmt (Case e a) rest = token.Case ∷ spell e (token.Colon ∷ spell_stmt a rest)
  spell_stmt (Default a) rest = token.Default ∷ token.Colon ∷ spell_stmt a rest
  spell_stmt (While e a) rest = token.While ∷ token.Open ∷ spell e (token.Close ∷ spell_stmt a rest)
  spell_stmt (DoWhile a e) rest = token.Do ∷ spell_stmt a (token.While ∷ token.Open ∷ spell e (token.Close ∷ token.Semi ∷ rest))
  spell_stmt (For i e f a) rest = token.For ∷ token.Open ∷ spell_start i (spell_optional e (token.Semi ∷ spell_optional f (token.Close ∷ spell_stmt a rest)))
  spell_stmt Break rest = token.Break ∷ token.Semi ∷ rest
  spell_stmt Continue rest = token.Continue ∷ token.Semi ∷ rest
  spell_stmt (Return e) rest = token.Return ∷ spell_optional e (token.Semi ∷ rest)

  pub spell_items : Items → List Token → List Token
  spell_items nothing rest = rest
  spell_items (declares d more) rest = spell_declaration d (spell_items more rest)
  spell_items (does x more) rest = spell_stmt x (spell_items more rest)

abbrev pub after_optional : Option Expr → Scope → Scope
after_optional None s = s
after_optional (Some e) s = after e s

abbrev pub after_start : Start → Scope → Scope
after_start (ForDeclares d) s = after_declaration d s
after_start (ForExpr e) s = after_optional e s

-- a block, and a statement with others inside, is a scope of its own (6.8.2 to 6.8.5); a label is not
abbrev pub after_stmt : Stmt → Scope → Scope
after_stmt (Do e) s = after e s
after_stmt (Return e) s = after_optional e s
after_stmt (Case e a) s = after_stmt a (after e s)
after_stmt (Default a) s = after_stmt a s
after_stmt _ s = s

abbrev pub after_items : Items → Scope → Scope
after_items nothing s = s
after_items (declares d more) s = after_items more (after_declaration d s)
after_items (does x more) s = after_items more (after_stmt x s)

-- whether an else behind it would be its own
abbrev pub takes_else : Stmt → Bool
takes_else (OnlyIf e a) = true
takes_else (IfElse e a b) = takes_else b
takes_else (Switch e a) = takes_else a
takes_else (Case e a) = takes_else a
takes_else (Default a) = takes_else a
takes_else (While e a) = takes_else a
takes_else (For i e f a) = takes_else a
takes_else _ = false

-- an else belongs to the nearest if (6.8.4.1p3)
abbrev pub StopsElse : Bool → List Token → Type 0
StopsElse true (token.Else ∷ ts) = ⊥
StopsElse _ _ = Unit {0}

-- an expression, or none, one nesting down
abbrev pub WithinOptional : ℕ → Scope → Option Expr → Type 0
WithinOptional n s None = Unit {0}
WithinOptional n s (Some e) = Within n 13 s e

abbrev pub FitsOptional : ℕ → Scope → Option Expr → Type 0
FitsOptional n s None = Unit {0}
FitsOptional n s (Some e) = Fits n 13 s e

-- a declaration that a `for` begins with has declarators (6.8.5.3)
abbrev pub HasDeclarators : Declaration → Type 0
HasDeclarators (Bare specs) = ⊥
HasDeclarators (Declares specs i is) = Unit {0}

abbrev pub FitsStart : ℕ → Scope → Start → Type 0
FitsStart n s (ForDeclares d) = FitsDeclaration n s d × HasDeclarators d
FitsStart n s (ForExpr e) = FitsOptional n s e

-- What stands in a block, in parentheses, in a statement or behind a label has one nesting less.
abbrev mutual
  pub FitsStmt : ℕ → Scope → Stmt → Type 0
  FitsStmt n s Empty = Unit {0}
  FitsStmt n s (Do e) = Fits n 13 s e
  FitsStmt zero s (Block items) = ⊥
  FitsStmt (suc n) s (Block items) = FitsItems n s items
  FitsStmt zero s (OnlyIf e a) = ⊥
  FitsStmt (suc n) s (OnlyIf e a) = Fits n 13 s e × FitsStmt n (after e s) a
  FitsStmt zero s (IfElse e a b) = ⊥
  FitsStmt (suc n) s (IfElse e a b) = Fits n 13 s e × FitsStmt n (after e s) a × FitsStmt n (after e s) b × (takes_else a ≡ false)
  FitsStmt zero s (Switch e a) = ⊥
  FitsStmt (suc n) s (Switch e a) = Fits n 13 s e × FitsStmt n (after e s) a
  FitsStmt zero s (Case e a) = ⊥
  FitsStmt (suc n) s (Case e a) = Fits (suc n) 11 s e × FitsStmt n (after e s) a
  FitsStmt zero s (Default a) = ⊥
  FitsStmt (suc n) s (Default a) = FitsStmt n s a
  FitsStmt zero s (While e a) = ⊥
  FitsStmt (suc n) s (While e a) = Fits n 13 s e × FitsStmt n (after e s) a
  FitsStmt zero s (DoWhile a e) = ⊥
  FitsStmt (suc n) s (DoWhile a e) = FitsStmt n s a × Fits n 13 s e
  FitsStmt zero s (For i e f a) = ⊥
  FitsStmt (suc n) s (For i e f a) = FitsStart n s i × FitsOptional n (after_start i s) e × FitsOptional n (after_optional e (after_start i s)) f × FitsStmt n (after_optional f (after_optional e (after_start i s))) a
  FitsStmt n s Break = Unit {0}
  FitsStmt n s Continue = Unit {0}
  FitsStmt n s (Return e) = FitsOptional n s e

  pub FitsItems : ℕ → Scope → Items → Type 0
  FitsItems n s nothing = Unit {0}
  FitsItems n s (declares d more) = FitsDeclaration n s d × FitsItems n (after_declaration d s) more
  FitsItems n s (does x more) = FitsStmt n s x × FitsItems n (after_stmt x s) more

abbrev pub WithinStmt : ℕ → Scope → Stmt → Type 0
WithinStmt zero s x = ⊥
WithinStmt (suc n) s x = FitsStmt n s x

abbrev pub WithinItems : ℕ → Scope → Items → Type 0
WithinItems zero s x = ⊥
WithinItems (suc n) s x = FitsItems n s x

abbrev pub WithinDeclaration : ℕ → Scope → Declaration → Type 0
WithinDeclaration zero s d = ⊥
WithinDeclaration (suc n) s d = FitsDeclaration n s d

-- ---- external declarations (6.9)

-- a name and nothing else, maybe in parentheses
abbrev mutual
  pub is_bare : Decl → Bool
  is_bare (decl [] core no_suffixes) = is_bare_core core
  is_bare _ = false

  pub is_bare_core : Core → Bool
  is_bare_core Absent = false
  is_bare_core (Id k) = true
  is_bare_core (Group d) = is_bare d

abbrev pub list_of : Suffixes → Option Params
list_of (suffix (Function ps) more) = Some ps
list_of _ = None

-- the parameters of the function that a declarator names: those next to the name
abbrev mutual
  pub own : Decl → Option Params
  own (decl marks core ends) = own_core core ends

  pub own_core : Core → Suffixes → Option Params
  own_core Absent ends = None
  own_core (Id k) ends = list_of ends
  own_core (Group d) ends = if is_bare d then list_of ends else own d

abbrev pub with_params : Option Params → Scope → Scope
with_params (Some (Some_params t more)) s = after_more more (after_param t s)
with_params _ s = s

abbrev pub body_scope : Bool → Decl → Scope → Scope
body_scope td d s = with_params (own d) (bind (name_of d) td s)

pub data Ext : Type 0 where
  Outer : (d : Declaration) → Ext
  Defines : (specs : Specs) (d : Decl) (body : Items) → Ext

abbrev pub spell_ext : Ext → List Token → List Token
spell_ext (Outer d) rest = spell_declaration d rest
spell_ext (Defines specs d body) rest = spell_specs specs (spell_decl d (token.BraceOpen ∷ spell_items body (token.BraceClose ∷ rest)))

abbrev pub after_ext : Ext → Scope → Scope
after_ext (Outer d) s = after_declaration d s
after_ext (Defines specs d body) s = declared (is_typedef specs) d (after_specs specs s)

abbrev pub FitsExt : ℕ → Scope → Ext → Type 0
FitsExt n s (Outer d) = FitsDeclaration n s d
FitsExt n s (Defines specs d body) =
    FitsSpecifiers n s specs × FitsDecl n Named (after_specs specs s) d × WithinItems n (body_scope (is_typedef specs) d (after_decl d (after_specs specs s))) body × NoBase (is_based false specs) (after_specs specs s) d

abbrev pub spell_exts : List Ext → List Token → List Token
spell_exts [] rest = rest
spell_exts (x ∷ xs) rest = spell_ext x (spell_exts xs rest)

abbrev pub after_exts : List Ext → Scope → Scope
after_exts [] s = s
after_exts (x ∷ xs) s = after_exts xs (after_ext x s)

abbrev pub FitsExts : ℕ → Scope → List Ext → Type 0
FitsExts n s [] = Unit {0}
FitsExts n s (x ∷ xs) = FitsExt n s x × FitsExts n (after_ext x s) xs

-- the external declarations before the first place where none begins, and the tokens there
pub record IsFirstBroken (n : ℕ) (s : Scope) (ts rest : List Token) : Type 0 where
  pub before : List Ext
  pub fits : FitsExts n s before
  pub spelled : ts ≡ spell_exts before rest
  pub none : (x : Ext) (others : List Token) → FitsExt n (after_exts before s) x → rest ≡ spell_ext x others → ⊥
