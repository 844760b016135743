-- Reading declarations, statements and external declarations from left to right, with the names in scope.
use Rattle.std.specs.Prelude.{◌≡◌, ℕ, zero, suc, List, [], ◌∷◌, length, Option, Some, None, Result, Ok, Err, Bool, if◌then◌else◌}
use Rattle.c_grammar.specs.declared.token.Allowed.TheVariants.{Named}
use Rattle.c_grammar.specs.declared.token.Token.{Token}
use Rattle.c_grammar.specs.declared.token.Token.TheVariants as token
use Rattle.c_grammar.specs.declared.fault.Fault.{Fault}
use Rattle.c_grammar.specs.Grammar.{Scope, starts_type, bind, Expr, Specs, Decl, after, after_specs, after_decl, name_of, is_typedef}
use Rattle.c_grammar.specs.Reading.{◌>>=◌, Read, Reader, Inner, broken, deep, choose, closed_at, braced_at, semi_at, colon_at, comma_at, ends_braces, last_comma, level_at, specifiers_at, decl_at, inner}
use Rattle.c_unit_grammar.specs.Statements.{Initial, Value, Braced, Initials, no_initials, initial, after_initial, Init, init, Declaration, Bare, Declares, declared, after_value, after_init, after_declaration, Start, ForDeclares, ForExpr, Stmt, Block, Empty, Do, OnlyIf, IfElse, Switch, Case, Default, While, DoWhile, For, Break, Continue, Return, Items, nothing, declares, does, after_optional, after_start, after_stmt, body_scope, Ext, Outer, Defines, after_ext, spell_exts, FitsExts, IsFirstBroken}

-- ---- single tokens

unfoldable pub ends_semi : List Token → Option (List Token)
ends_semi (token.Semi ∷ ts) = Some ts
ends_semi ts = None

unfoldable pub ends_parens : List Token → Option (List Token)
ends_parens (token.Close ∷ ts) = Some ts
ends_parens ts = None

unfoldable pub equals_at : List Token → Option (List Token)
equals_at (token.Equals ∷ ts) = Some ts
equals_at ts = None

unfoldable pub brace_at : List Token → Option (List Token)
brace_at (token.BraceOpen ∷ ts) = Some ts
brace_at ts = None

unfoldable pub else_at : List Token → Option (List Token)
else_at (token.Else ∷ ts) = Some ts
else_at ts = None

unfoldable pub while_word : List Token → Result (List Token) Fault
while_word (token.While ∷ ts) = Ok ts
while_word ts = broken ts

-- a comma with an initial value behind it
unfoldable pub next_initial : List Token → Option (List Token)
next_initial (token.Comma ∷ token.BraceClose ∷ ts) = None
next_initial (token.Comma ∷ ts) = Some ts
next_initial ts = None

-- ---- initial values

-- at most so many more
unfoldable pub initials_at : Reader Initial → ℕ → Reader Initials
initials_at sub zero s ts = Ok (no_initials, ts)
initials_at sub (suc k) s ts = choose (next_initial ts) (Ok (no_initials, ts))
    (λ rest. sub s rest >>= λ x. initials_at sub k (after_initial x.0 s) x.1 >>= λ y. Ok (initial x.0 y.0, y.1))

unfoldable pub braced_initial : Reader Initial → Reader Initial
braced_initial sub s ts = sub s ts >>= λ x. initials_at sub (length x.1) (after_initial x.0 s) x.1 >>= λ y. braced_at (last_comma y.1).1 >>= λ rest. Ok (Braced x.0 y.0 (last_comma y.1).0, rest)

unfoldable pub plain_initial : ℕ → Reader Initial
plain_initial n s ts = level_at (inner n) 12 s ts >>= λ x. Ok (Value x.0, x.1)

unfoldable pub initial_at : ℕ → Reader Initial → Reader Initial
initial_at n sub s ts = choose (brace_at ts) (plain_initial n s ts) (λ rest. braced_initial sub s rest)

unfoldable pub initial_in : ℕ → Reader Initial
initial_in zero s ts = deep ts
initial_in (suc n) s ts = initial_at n (initial_in n) s ts

-- ---- declarations

unfoldable pub value_at : ℕ → Reader (Option Initial)
value_at n s ts = choose (equals_at ts) (Ok (None, ts)) (λ rest. initial_at n (initial_in n) s rest >>= λ x. Ok (Some x.0, x.1))

unfoldable pub init_at : ℕ → Bool → Reader Init
init_at n td s ts = decl_at (inner n) Named s ts >>= λ x. value_at n (declared td x.0 s) x.1 >>= λ y. Ok (init x.0 y.0, y.1)

-- at most so many more
unfoldable pub inits_at : ℕ → Bool → ℕ → Reader (List Init)
inits_at n td zero s ts = Ok ([], ts)
inits_at n td (suc k) s ts = choose (comma_at ts) (Ok ([], ts))
    (λ rest. init_at n td s rest >>= λ x. inits_at n td k (after_init td x.0 s) x.1 >>= λ y. Ok (x.0 ∷ y.0, y.1))

-- what stands behind the first declarator
unfoldable pub behind_at : ℕ → Specs → Decl → Reader Declaration
behind_at n specs d s ts =
    value_at n (bind (name_of d) (is_typedef specs) s) ts >>= λ x. inits_at n (is_typedef specs) (length x.1) (after_value x.0 (bind (name_of d) (is_typedef specs) s)) x.1 >>= λ y. semi_at y.1 >>= λ rest. Ok (Declares specs (init d x.0) y.0, rest)

unfoldable pub declares_at : ℕ → Specs → Reader Declaration
declares_at n specs s ts = decl_at (inner n) Named s ts >>= λ x. behind_at n specs x.0 (after_decl x.0 s) x.1

unfoldable pub declaration_at : ℕ → Reader Declaration
declaration_at n s ts = specifiers_at (inner n) s ts >>= λ x. choose (ends_semi x.1) (declares_at n x.0 (after_specs x.0 s) x.1) (λ rest. Ok (Bare x.0, rest))

-- a declaration that has declarators
unfoldable pub declarators_at : ℕ → Reader Declaration
declarators_at n s ts = specifiers_at (inner n) s ts >>= λ x. declares_at n x.0 (after_specs x.0 s) x.1

unfoldable pub declarators_in : ℕ → Reader Declaration
declarators_in zero s ts = deep ts
declarators_in (suc n) s ts = declarators_at n s ts

-- ---- statements

-- an expression in parentheses
unfoldable pub test_at : Inner → Reader Expr
test_at r s (token.Open ∷ ts) = r.expr 13 s ts >>= λ x. closed_at x.1 >>= λ rest. Ok (x.0, rest)
test_at r s ts = broken ts

-- an expression, or none, before a semicolon
unfoldable pub optional_at : Reader Expr → Reader (Option Expr)
optional_at e s ts = choose (ends_semi ts) (e s ts >>= λ x. semi_at x.1 >>= λ rest. Ok (Some x.0, rest)) (λ rest. Ok (None, rest))

-- an expression, or none, before a parenthesis
unfoldable pub next_at : Reader Expr → Reader (Option Expr)
next_at e s ts = choose (ends_parens ts) (e s ts >>= λ x. closed_at x.1 >>= λ rest. Ok (Some x.0, rest)) (λ rest. Ok (None, rest))

unfoldable pub items_at : ℕ → Reader Stmt → ℕ → Reader Items
items_at n sub zero s ts = Ok (nothing, ts)
items_at n sub (suc k) s ts = if ends_braces ts then Ok (nothing, ts) else if starts_type s ts
    then (declaration_at n s ts >>= λ x. items_at n sub k (after_declaration x.0 s) x.1 >>= λ y. Ok (declares x.0 y.0, y.1))
    else (sub s ts >>= λ x. items_at n sub k (after_stmt x.0 s) x.1 >>= λ y. Ok (does x.0 y.0, y.1))

-- what stands in a block, and what closes it
unfoldable pub block_at : ℕ → Reader Stmt → Reader Items
block_at n sub s ts = items_at n sub (length ts) s ts >>= λ x. braced_at x.1 >>= λ rest. Ok (x.0, rest)

unfoldable pub block_in : ℕ → Reader Stmt → Reader Items
block_in zero sub s ts = deep ts
block_in (suc n) sub s ts = block_at n sub s ts

unfoldable pub if_at : Inner → Reader Stmt → Reader Stmt
if_at r sub s ts = test_at r s ts >>= λ x. sub (after x.0 s) x.1 >>= λ y. choose (else_at y.1) (Ok (OnlyIf x.0 y.0, y.1))
    (λ rest. sub (after x.0 s) rest >>= λ z. Ok (IfElse x.0 y.0 z.0, z.1))

unfoldable pub switch_at : Inner → Reader Stmt → Reader Stmt
switch_at r sub s ts = test_at r s ts >>= λ x. sub (after x.0 s) x.1 >>= λ y. Ok (Switch x.0 y.0, y.1)

unfoldable pub case_at : Inner → Reader Stmt → Reader Stmt
case_at r sub s ts = level_at r 11 s ts >>= λ x. colon_at x.1 >>= λ rest. sub (after x.0 s) rest >>= λ y. Ok (Case x.0 y.0, y.1)

unfoldable pub default_at : Reader Stmt → Reader Stmt
default_at sub s ts = colon_at ts >>= λ rest. sub s rest >>= λ y. Ok (Default y.0, y.1)

unfoldable pub while_at : Inner → Reader Stmt → Reader Stmt
while_at r sub s ts = test_at r s ts >>= λ x. sub (after x.0 s) x.1 >>= λ y. Ok (While x.0 y.0, y.1)

unfoldable pub do_while_at : Inner → Reader Stmt → Reader Stmt
do_while_at r sub s ts = sub s ts >>= λ x. while_word x.1 >>= λ rest. test_at r s rest >>= λ y. semi_at y.1 >>= λ rest. Ok (DoWhile x.0 y.0, rest)

unfoldable pub start_at : ℕ → Reader Start
start_at n s ts = if starts_type s ts then (declarators_in n s ts >>= λ x. Ok (ForDeclares x.0, x.1)) else (optional_at ((inner n).expr 13) s ts >>= λ x. Ok (ForExpr x.0, x.1))

unfoldable pub for_rest : ℕ → Reader Stmt → Start → Reader Stmt
for_rest n sub i s ts = optional_at ((inner n).expr 13) s ts >>= λ x. next_at ((inner n).expr 13) (after_optional x.0 s) x.1 >>= λ y. sub (after_optional y.0 (after_optional x.0 s)) y.1 >>= λ z. Ok (For i x.0 y.0 z.0, z.1)

unfoldable pub for_at : ℕ → Reader Stmt → Reader Stmt
for_at n sub s (token.Open ∷ ts) = start_at n s ts >>= λ i. for_rest n sub i.0 (after_start i.0 s) i.1
for_at n sub s ts = broken ts

unfoldable pub break_at : List Token → Read Stmt
break_at ts = semi_at ts >>= λ rest. Ok (Break, rest)

unfoldable pub continue_at : List Token → Read Stmt
continue_at ts = semi_at ts >>= λ rest. Ok (Continue, rest)

unfoldable pub return_at : Inner → Reader Stmt
return_at r s ts = optional_at (level_at r 13) s ts >>= λ x. Ok (Return x.0, x.1)

unfoldable pub do_at : Inner → Reader Stmt
do_at r s ts = level_at r 13 s ts >>= λ x. semi_at x.1 >>= λ rest. Ok (Do x.0, rest)

unfoldable pub stmt_at : ℕ → Reader Stmt → Reader Items → Reader Stmt
stmt_at n sub block s (token.BraceOpen ∷ ts) = block s ts >>= λ x. Ok (Block x.0, x.1)
stmt_at n sub block s (token.Semi ∷ ts) = Ok (Empty, ts)
stmt_at n sub block s (token.If ∷ ts) = if_at (inner n) sub s ts
stmt_at n sub block s (token.Switch ∷ ts) = switch_at (inner n) sub s ts
stmt_at n sub block s (token.Case ∷ ts) = case_at (inner n) sub s ts
stmt_at n sub block s (token.Default ∷ ts) = default_at sub s ts
stmt_at n sub block s (token.While ∷ ts) = while_at (inner n) sub s ts
stmt_at n sub block s (token.Do ∷ ts) = do_while_at (inner n) sub s ts
stmt_at n sub block s (token.For ∷ ts) = for_at n sub s ts
stmt_at n sub block s (token.Break ∷ ts) = break_at ts
stmt_at n sub block s (token.Continue ∷ ts) = continue_at ts
stmt_at n sub block s (token.Return ∷ ts) = return_at (inner n) s ts
stmt_at n sub block s ts = do_at (inner n) s ts

-- a statement within so many nestings
unfoldable pub stmt_in : ℕ → Reader Stmt
stmt_in zero s ts = deep ts
stmt_in (suc n) s ts = stmt_at n (stmt_in n) (block_in n (stmt_in n)) s ts

-- ---- external declarations

unfoldable pub body_at : ℕ → Specs → Decl → Reader Ext
body_at n specs d s ts = block_in n (stmt_in n) (body_scope (is_typedef specs) d s) ts >>= λ x. Ok (Defines specs d x.0, x.1)

unfoldable pub outer_at : ℕ → Specs → Reader Ext
outer_at n specs s ts = decl_at (inner n) Named s ts >>= λ x. choose (brace_at x.1)
    (behind_at n specs x.0 (after_decl x.0 s) x.1 >>= λ y. Ok (Outer y.0, y.1))
    (λ rest. body_at n specs x.0 (after_decl x.0 s) rest)

unfoldable pub ext_at : ℕ → Reader Ext
ext_at n s ts = specifiers_at (inner n) s ts >>= λ x. choose (ends_semi x.1) (outer_at n x.0 (after_specs x.0 s) x.1) (λ rest. Ok (Outer (Bare x.0), rest))

-- all of them, and else the tokens where none begins
abbrev pub and_on : {A : Type 0} → Read A → List Token → (A × List Token → Result (List Ext) (List Token)) → Result (List Ext) (List Token)
and_on (Ok x) ts f = f x
and_on (Err e) ts f = Err ts

abbrev pub and_also : Ext → Result (List Ext) (List Token) → Result (List Ext) (List Token)
and_also x (Ok xs) = Ok (x ∷ xs)
and_also x (Err ts) = Err ts

unfoldable pub file_at : ℕ → ℕ → Scope → List Token → Result (List Ext) (List Token)
file_at n k s [] = Ok []
file_at n zero s (t ∷ ts) = Err (t ∷ ts)
file_at n (suc k) s (t ∷ ts) = and_on (ext_at n s (t ∷ ts)) (t ∷ ts) (λ x. and_also x.0 (file_at n k (after_ext x.0 s) x.1))

-- what the file is: external declarations, or a first place where none begins
abbrev pub Tells : ℕ → Scope → List Token → Result (List Ext) (List Token) → Type 0
Tells n s ts (Ok xs) = (ts ≡ spell_exts xs []) × FitsExts n s xs
Tells n s ts (Err rest) = IsFirstBroken n s ts rest
