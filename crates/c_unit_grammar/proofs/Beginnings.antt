-- What a declaration and a statement begin with, and what stands behind them.
use Rattle.std.proofs.Common.{◌≡◌, ℕ, zero, suc, Bool, true, false, List, [], ◌∷◌, Option, Some, None, lit<, refl}
use Rattle.c_tree.specs.declared.operator.PointerMark.TheVariants as mark
use Rattle.c_tree.specs.declared.operator.PrefixOperator.TheVariants as pre
use Rattle.c_grammar.specs.declared.token.Allowed.TheVariants.{Named}
use Rattle.c_grammar.specs.declared.token.Token.{Token}
use Rattle.c_grammar.specs.declared.token.Token.TheVariants as token
use Rattle.c_grammar.specs.Grammar.{Scope, starts_type, Expr, Name, Number, Byte, Texts, Paren, Postfix, Prefix, SizeOfExpr, SizeOf, Cast, Chain, Decl, decl, Absent, Id, Group, spell, spell_posts, spell_links, spell_decl, spell_comma, FitsDecl, Stops, Ends, NoBraces}
use Rattle.c_grammar.specs.Reading.{ends_braces}
use Rattle.c_grammar.proofs.Beginnings.{no_type, starts_specifiers}
use Rattle.c_unit_grammar.specs.Statements.{Initial, Value, Braced, Initials, no_initials, initial, spell_initial, spell_initials, Init, Declaration, Bare, Declares, spell_value, spell_inits, spell_declaration, FitsDeclaration, Stmt, Block, Empty, Do, OnlyIf, IfElse, Switch, Case, Default, While, DoWhile, For, Break, Continue, Return, Items, nothing, declares, does, spell_stmt, spell_items, StopsElse, FitsStmt, FitsItems}
use Rattle.c_unit_grammar.specs.Reading.{ends_semi, ends_parens, brace_at, else_at, next_initial}

-- ---- behind a value

abbrev pub Behind : List Token → Type 0
Behind (token.Comma ∷ ts) = Unit {0}
Behind (token.Semi ∷ ts) = Unit {0}
Behind _ = ⊥

pub behind_inits : (is : List Init) (rest : List Token) → Behind (spell_inits is (token.Semi ∷ rest))
behind_inits [] rest = tt
behind_inits (i ∷ is) rest = tt

pub behind_stops : (rest : List Token) → Behind rest → Stops 12 rest
behind_stops (token.Comma ∷ ts) b = (refl, tt, lit< tt)
behind_stops (token.Semi ∷ ts) b = (refl, tt, tt)
behind_stops _ b = absurd b

pub value_ends : (v : Option Initial) (rest : List Token) → Behind rest → Ends (spell_value v rest)
value_ends (Some e) rest b = tt
value_ends None (token.Comma ∷ ts) b = tt
value_ends None (token.Semi ∷ ts) b = tt
value_ends None _ b = absurd b

pub value_no_brace : (v : Option Initial) (rest : List Token) → Behind rest → brace_at (spell_value v rest) ≡ None
unfolding brace_at
value_no_brace (Some e) rest b = refl
value_no_brace None (token.Comma ∷ ts) b = refl
value_no_brace None (token.Semi ∷ ts) b = refl
value_no_brace None _ b = absurd b

pub value_no_braces : (v : Option Initial) (rest : List Token) → Behind rest → NoBraces (spell_value v rest)
value_no_braces (Some e) rest b = tt
value_no_braces None (token.Comma ∷ ts) b = tt
value_no_braces None (token.Semi ∷ ts) b = tt
value_no_braces None _ b = absurd b

-- ---- inside braces

pub initials_stop : (is : Initials) (c : Bool) (rest : List Token) → Stops 12 (spell_initials is (spell_comma c (token.BraceClose ∷ rest)))
initials_stop (initial i more) c rest = (refl, tt, lit< tt)
initials_stop no_initials true rest = (refl, tt, lit< tt)
initials_stop no_initials false rest = (refl, tt, tt)

abbrev NoBrace : List Token → Type 0
NoBrace (token.BraceClose ∷ ts) = ⊥
NoBrace [] = ⊥
NoBrace _ = Unit {0}

pub expr_no_brace : (e : Expr) (rest : List Token) → NoBrace (spell e rest)
expr_no_brace (Name k) rest = tt
expr_no_brace (Number k t) rest = tt
expr_no_brace (Byte k) rest = tt
expr_no_brace (Texts k ks) rest = tt
expr_no_brace (Paren e) rest = tt
expr_no_brace (Postfix e posts) rest = expr_no_brace e (spell_posts posts rest)
expr_no_brace (Prefix pre.Increment e) rest = tt
expr_no_brace (Prefix pre.Decrement e) rest = tt
expr_no_brace (Prefix pre.Address e) rest = tt
expr_no_brace (Prefix pre.Dereference e) rest = tt
expr_no_brace (Prefix pre.Plus e) rest = tt
expr_no_brace (Prefix pre.Minus e) rest = tt
expr_no_brace (Prefix pre.Complement e) rest = tt
expr_no_brace (Prefix pre.Not e) rest = tt
expr_no_brace (SizeOfExpr e) rest = tt
expr_no_brace (SizeOf t) rest = tt
expr_no_brace (Cast t e) rest = tt
expr_no_brace (Chain h first links) rest = expr_no_brace first (spell_links links rest)

pub initial_no_brace : (i : Initial) (rest : List Token) → NoBrace (spell_initial i rest)
initial_no_brace (Value e) rest = expr_no_brace e rest
initial_no_brace (Braced i is c) rest = tt

next_step : (ts : List Token) → NoBrace ts → next_initial (token.Comma ∷ ts) ≡ Some ts
unfolding next_initial
next_step (token.BraceClose ∷ ts) n = absurd n
next_step [] n = absurd n
next_step (_ ∷ ts) n = refl

pub next_again : (i : Initial) (rest : List Token) → next_initial (token.Comma ∷ spell_initial i rest) ≡ Some (spell_initial i rest)
next_again i rest = next_step (spell_initial i rest) (initial_no_brace i rest)

pub next_none : (c : Bool) (rest : List Token) → next_initial (spell_comma c (token.BraceClose ∷ rest)) ≡ None
unfolding next_initial
next_none true rest = refl
next_none false rest = refl

pub plain_no_brace : (e : Expr) (rest : List Token) → brace_at (spell e rest) ≡ None
unfolding brace_at
plain_no_brace (Name k) rest = refl
plain_no_brace (Number k t) rest = refl
plain_no_brace (Byte k) rest = refl
plain_no_brace (Texts k ks) rest = refl
plain_no_brace (Paren e) rest = refl
plain_no_brace (Postfix e posts) rest = plain_no_brace e (spell_posts posts rest)
plain_no_brace (Prefix pre.Increment e) rest = refl
plain_no_brace (Prefix pre.Decrement e) rest = refl
plain_no_brace (Prefix pre.Address e) rest = refl
plain_no_brace (Prefix pre.Dereference e) rest = refl
plain_no_brace (Prefix pre.Plus e) rest = refl
plain_no_brace (Prefix pre.Minus e) rest = refl
plain_no_brace (Prefix pre.Complement e) rest = refl
plain_no_brace (Prefix pre.Not e) rest = refl
plain_no_brace (SizeOfExpr e) rest = refl
plain_no_brace (SizeOf t) rest = refl
plain_no_brace (Cast t e) rest = refl
plain_no_brace (Chain h first links) rest = plain_no_brace first (spell_links links rest)

-- ---- declarations

pub starts_declaration : (n : ℕ) (s : Scope) (d : Declaration) (rest : List Token) → FitsDeclaration n s d → starts_type s (spell_declaration d rest) ≡ true
starts_declaration n s (Bare specs) rest f = starts_specifiers n s specs (token.Semi ∷ rest) f
starts_declaration n s (Declares specs i is) rest f = starts_specifiers n s specs _ f.0

pub no_semi : (n : ℕ) (s : Scope) (d : Decl) (rest : List Token) → FitsDecl n Named s d → ends_semi (spell_decl d rest) ≡ None
unfolding ends_semi
no_semi n s (decl (mark.Star ∷ ms) core ends) rest f = refl
no_semi n s (decl (mark.Const ∷ ms) core ends) rest f = refl
no_semi n s (decl (mark.Restrict ∷ ms) core ends) rest f = refl
no_semi n s (decl [] (Id k) ends) rest f = refl
no_semi n s (decl [] (Group d) ends) rest f = refl
no_semi n s (decl [] Absent ends) rest f = absurd (f.1 refl)

-- ---- expressions where there may be none

pub expr_no_semi : (e : Expr) (rest : List Token) → ends_semi (spell e rest) ≡ None
unfolding ends_semi
expr_no_semi (Name k) rest = refl
expr_no_semi (Number k t) rest = refl
expr_no_semi (Byte k) rest = refl
expr_no_semi (Texts k ks) rest = refl
expr_no_semi (Paren e) rest = refl
expr_no_semi (Postfix e posts) rest = expr_no_semi e (spell_posts posts rest)
expr_no_semi (Prefix pre.Increment e) rest = refl
expr_no_semi (Prefix pre.Decrement e) rest = refl
expr_no_semi (Prefix pre.Address e) rest = refl
expr_no_semi (Prefix pre.Dereference e) rest = refl
expr_no_semi (Prefix pre.Plus e) rest = refl
expr_no_semi (Prefix pre.Minus e) rest = refl
expr_no_semi (Prefix pre.Complement e) rest = refl
expr_no_semi (Prefix pre.Not e) rest = refl
expr_no_semi (SizeOfExpr e) rest = refl
expr_no_semi (SizeOf t) rest = refl
expr_no_semi (Cast t e) rest = refl
expr_no_semi (Chain h first links) rest = expr_no_semi first (spell_links links rest)

pub expr_no_close : (e : Expr) (rest : List Token) → ends_parens (spell e rest) ≡ None
unfolding ends_parens
expr_no_close (Name k) rest = refl
expr_no_close (Number k t) rest = refl
expr_no_close (Byte k) rest = refl
expr_no_close (Texts k ks) rest = refl
expr_no_close (Paren e) rest = refl
expr_no_close (Postfix e posts) rest = expr_no_close e (spell_posts posts rest)
expr_no_close (Prefix pre.Increment e) rest = refl
expr_no_close (Prefix pre.Decrement e) rest = refl
expr_no_close (Prefix pre.Address e) rest = refl
expr_no_close (Prefix pre.Dereference e) rest = refl
expr_no_close (Prefix pre.Plus e) rest = refl
expr_no_close (Prefix pre.Minus e) rest = refl
expr_no_close (Prefix pre.Complement e) rest = refl
expr_no_close (Prefix pre.Not e) rest = refl
expr_no_close (SizeOfExpr e) rest = refl
expr_no_close (SizeOf t) rest = refl
expr_no_close (Cast t e) rest = refl
expr_no_close (Chain h first links) rest = expr_no_close first (spell_links links rest)

-- ---- statements

braces_not : (ts : List Token) → NoBrace ts → ends_braces ts ≡ false
unfolding ends_braces
braces_not (token.BraceClose ∷ ts) n = absurd n
braces_not [] n = absurd n
braces_not (_ ∷ ts) n = refl

pub stmt_no_brace : (x : Stmt) (rest : List Token) → ends_braces (spell_stmt x rest) ≡ false
unfolding ends_braces
stmt_no_brace (Block items) rest = refl
stmt_no_brace Empty rest = refl
stmt_no_brace (Do e) rest = braces_not _ (expr_no_brace e (token.Semi ∷ rest))
stmt_no_brace (OnlyIf e a) rest = refl
stmt_no_brace (IfElse e a b) rest = refl
stmt_no_brace (Switch e a) rest = refl
stmt_no_brace (Case e a) rest = refl
stmt_no_brace (Default a) rest = refl
stmt_no_brace (While e a) rest = refl
stmt_no_brace (DoWhile a e) rest = refl
stmt_no_brace (For i e f a) rest = refl
stmt_no_brace Break rest = refl
stmt_no_brace Continue rest = refl
stmt_no_brace (Return e) rest = refl

pub stmt_no_type : (n : ℕ) (s : Scope) (x : Stmt) (rest : List Token) → FitsStmt n s x → starts_type s (spell_stmt x rest) ≡ false
stmt_no_type n s (Block items) rest f = refl
stmt_no_type n s Empty rest f = refl
stmt_no_type zero s (Do e) rest f = no_type zero 13 s e (token.Semi ∷ rest) f
stmt_no_type (suc n) s (Do e) rest f = no_type (suc n) 13 s e (token.Semi ∷ rest) f
stmt_no_type n s (OnlyIf e a) rest f = refl
stmt_no_type n s (IfElse e a b) rest f = refl
stmt_no_type n s (Switch e a) rest f = refl
stmt_no_type n s (Case e a) rest f = refl
stmt_no_type n s (Default a) rest f = refl
stmt_no_type n s (While e a) rest f = refl
stmt_no_type n s (DoWhile a e) rest f = refl
stmt_no_type n s (For i e g a) rest f = refl
stmt_no_type n s Break rest f = refl
stmt_no_type n s Continue rest f = refl
stmt_no_type n s (Return e) rest f = refl

expr_no_else : (e : Expr) (rest : List Token) → StopsElse true (spell e rest)
expr_no_else (Name k) rest = tt
expr_no_else (Number k t) rest = tt
expr_no_else (Byte k) rest = tt
expr_no_else (Texts k ks) rest = tt
expr_no_else (Paren e) rest = tt
expr_no_else (Postfix e posts) rest = expr_no_else e (spell_posts posts rest)
expr_no_else (Prefix pre.Increment e) rest = tt
expr_no_else (Prefix pre.Decrement e) rest = tt
expr_no_else (Prefix pre.Address e) rest = tt
expr_no_else (Prefix pre.Dereference e) rest = tt
expr_no_else (Prefix pre.Plus e) rest = tt
expr_no_else (Prefix pre.Minus e) rest = tt
expr_no_else (Prefix pre.Complement e) rest = tt
expr_no_else (Prefix pre.Not e) rest = tt
expr_no_else (SizeOfExpr e) rest = tt
expr_no_else (SizeOf t) rest = tt
expr_no_else (Cast t e) rest = tt
expr_no_else (Chain h first links) rest = expr_no_else first (spell_links links rest)

pub stmt_no_else : (x : Stmt) (rest : List Token) → StopsElse true (spell_stmt x rest)
stmt_no_else (Block items) rest = tt
stmt_no_else Empty rest = tt
stmt_no_else (Do e) rest = expr_no_else e (token.Semi ∷ rest)
stmt_no_else (OnlyIf e a) rest = tt
stmt_no_else (IfElse e a b) rest = tt
stmt_no_else (Switch e a) rest = tt
stmt_no_else (Case e a) rest = tt
stmt_no_else (Default a) rest = tt
stmt_no_else (While e a) rest = tt
stmt_no_else (DoWhile a e) rest = tt
stmt_no_else (For i e f a) rest = tt
stmt_no_else Break rest = tt
stmt_no_else Continue rest = tt
stmt_no_else (Return e) rest = tt

type_no_else : (s : Scope) (ts : List Token) → starts_type s ts ≡ true → StopsElse true ts
type_no_else s (token.Else ∷ ts) e = absurd cc
type_no_else s [] e = tt
type_no_else s (_ ∷ ts) e = tt

pub items_no_else : (n : ℕ) (s : Scope) (items : Items) (rest : List Token) → FitsItems n s items → StopsElse true (spell_items items (token.BraceClose ∷ rest))
items_no_else n s nothing rest f = tt
items_no_else n s (declares d more) rest f = type_no_else s _ (starts_declaration n s d _ f.0)
items_no_else n s (does x more) rest f = stmt_no_else x _

pub any_else : (b : Bool) (rest : List Token) → StopsElse true rest → StopsElse b rest
any_else true rest s = s
any_else false rest s = tt

pub no_else : (rest : List Token) → StopsElse true rest → else_at rest ≡ None
unfolding else_at
no_else (token.Else ∷ ts) s = absurd s
no_else [] s = refl
no_else (_ ∷ ts) s = refl

-- a declarator with a name doesn't begin with a brace
pub named_no_braces : (n : ℕ) (s : Scope) (d : Decl) (rest : List Token) → FitsDecl n Named s d → NoBraces (spell_decl d rest)
named_no_braces n s (decl (mark.Star ∷ ms) core ends) rest f = tt
named_no_braces n s (decl (mark.Const ∷ ms) core ends) rest f = tt
named_no_braces n s (decl (mark.Restrict ∷ ms) core ends) rest f = tt
named_no_braces n s (decl [] (Id k) ends) rest f = tt
named_no_braces n s (decl [] (Group d) ends) rest f = tt
named_no_braces n s (decl [] Absent ends) rest f = absurd (f.1 refl)
