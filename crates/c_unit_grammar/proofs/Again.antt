-- Declarations, statements and external declarations that fit and are spelled so are read.
use Rattle.std.proofs.Common.{◌≡◌, ℕ, zero, suc, ◌≤◌, Bool, true, false, List, [], ◌∷◌, length, Option, Some, None, Ok, refl, sym, subst, ◌∙◌, arith}
use Rattle.c_tree.specs.declared.operator.PrefixOperator.TheVariants as pre
use Rattle.c_grammar.specs.declared.token.Allowed.TheVariants.{Named}
use Rattle.c_grammar.specs.declared.token.Token.{Token}
use Rattle.c_grammar.specs.declared.token.Token.TheVariants as token
use Rattle.c_grammar.specs.Grammar.{Scope, starts_type, Expr, Name, Number, Byte, Texts, Paren, Postfix, Prefix, SizeOfExpr, SizeOf, Cast, Chain, spell_posts, spell_links, Specs, Decl, after, after_specs, after_decl, is_typedef, spell, spell_specs, spell_decl, spell_comma, is_based, NoBase, Fits, FitsSpecifiers, FitsDecl, Stops, Ends, NoBraces}
use Rattle.c_grammar.specs.Reading.{Reader, Inner, closed_at, braced_at, semi_at, colon_at, comma_at, ends_braces, last_comma, level_at, specifiers_at, decl_at, inner}
use Rattle.c_grammar.proofs.Beginnings.{no_type, end_no_spec, decl_no_spec, decl_no_braces, no_brace}
use Rattle.c_grammar.proofs.Steps.{last_again}
use Rattle.c_grammar.proofs.Again.{level_again, specifiers_again, decl_again}
use Rattle.c_unit_grammar.specs.Statements.{Initial, Value, Braced, Initials, no_initials, initial, spell_initial, spell_initials, after_initial, FitsInitial, FitsInitials, Init, init, Declaration, Bare, Declares, spell_value, spell_init, spell_inits, spell_declaration, declared, after_value, after_init, after_declaration, FitsValue, FitsInit, FitsInits, FitsDeclaration, HasDeclarators, Start, ForDeclares, ForExpr, Stmt, Block, Empty, Do, OnlyIf, IfElse, Switch, Case, Default, While, DoWhile, For, Break, Continue, Return, Items, nothing, declares, does, spell_optional, spell_start, spell_stmt, spell_items, after_optional, after_start, after_stmt, takes_else, StopsElse, FitsOptional, FitsStart, FitsStmt, FitsItems, WithinItems, body_scope, Ext, Outer, Defines, spell_ext, FitsExt}
use Rattle.c_unit_grammar.specs.Reading.{ends_semi, ends_parens, equals_at, brace_at, else_at, while_word, next_initial, initials_at, braced_initial, plain_initial, initial_at, initial_in, value_at, init_at, inits_at, behind_at, declares_at, declaration_at, declarators_at, declarators_in, test_at, optional_at, next_at, items_at, block_at, block_in, if_at, switch_at, case_at, default_at, while_at, do_while_at, start_at, for_rest, for_at, break_at, continue_at, return_at, do_at, stmt_at, stmt_in, body_at, outer_at, ext_at}
use Rattle.c_unit_grammar.proofs.Lengths.{count_initials, grows_initials, grows_inits, count_items, grows_items}
use Rattle.c_unit_grammar.proofs.Beginnings.{Behind, behind_inits, behind_stops, value_ends, value_no_brace, value_no_braces, initials_stop, next_again, next_none, plain_no_brace, starts_declaration, no_semi, named_no_braces, expr_no_semi, expr_no_close, stmt_no_brace, stmt_no_type, items_no_else, any_else, no_else}

-- ---- initial values

plain_step : (n : ℕ) (sub : Reader Initial) (s : Scope) (ts rest : List Token) (e : Expr) → brace_at ts ≡ None → level_at (inner n) 12 s ts ≡ Ok (e, rest) → initial_at n sub s ts ≡ Ok (Value e, rest)
unfolding initial_at plain_initial
plain_step n sub s ts rest e b p = rw (b, p) refl

braces_step : (n : ℕ) (sub : Reader Initial) (s : Scope) (ts mid behind rest : List Token) (i : Initial) (is : Initials) (c : Bool) → sub s ts ≡ Ok (i, mid) → initials_at sub (length mid) (after_initial i s) mid ≡ Ok (is, behind) → last_comma behind ≡ (c, token.BraceClose ∷ rest) → initial_at n sub s (token.BraceOpen ∷ ts) ≡ Ok (Braced i is c, rest)
unfolding initial_at braced_initial brace_at braced_at
braces_step n sub s ts mid behind rest i is c e1 e2 e3 = rw (e1, e2, e3) refl

initials_stops : (sub : Reader Initial) (m : ℕ) (s : Scope) (ts : List Token) → next_initial ts ≡ None → initials_at sub m s ts ≡ Ok (no_initials, ts)
unfolding initials_at
initials_stops sub zero s ts e = refl
initials_stops sub (suc m) s ts e = rw e refl

initials_step : (sub : Reader Initial) (m : ℕ) (s : Scope) (ts t1 mid rest : List Token) (i : Initial) (is : Initials) → next_initial ts ≡ Some t1 → sub s t1 ≡ Ok (i, mid) → initials_at sub m (after_initial i s) mid ≡ Ok (is, rest) → initials_at sub (suc m) s ts ≡ Ok (initial i is, rest)
unfolding initials_at
initials_step sub m s ts t1 mid rest i is e1 e2 e3 = rw (e1, e2, e3) refl

mutual
  unfolding initial_in

  pub initial_again : (i : Initial) (n : ℕ) (s : Scope) (rest : List Token) → FitsInitial n s i → Stops 12 rest → initial_at n (initial_in n) s (spell_initial i rest) ≡ Ok (i, rest)
  initial_again (Value e) zero s rest f stop = plain_step zero (initial_in zero) s _ rest e (plain_no_brace e rest) (level_again e zero 12 s rest f stop)
  initial_again (Value e) (suc n) s rest f stop = plain_step (suc n) (initial_in (suc n)) s _ rest e (plain_no_brace e rest) (level_again e (suc n) 12 s rest f stop)
  initial_again (Braced i is c) zero s rest f stop = absurd f
  initial_again (Braced i is c) (suc n) s rest f stop =
      let behind = spell_comma c (token.BraceClose ∷ rest) in
      let tail = spell_initials is behind in
      braces_step (suc n) (initial_in (suc n)) s (spell_initial i tail) tail behind rest i is c
      (initial_again i n s tail f.0 (initials_stop is c rest))
      (initials_again is n (length tail) (after_initial i s) c rest f.1 (omega (arith, grows_initials is behind)))
      (last_again c rest)

  initials_again : (is : Initials) (n m : ℕ) (s : Scope) (c : Bool) (rest : List Token) → FitsInitials n s is → count_initials is ≤ m → initials_at (initial_in (suc n)) m s (spell_initials is (spell_comma c (token.BraceClose ∷ rest))) ≡ Ok (is, spell_comma c (token.BraceClose ∷ rest))
  initials_again no_initials n m s c rest f le = initials_stops (initial_in (suc n)) m s _ (next_none c rest)
  initials_again (initial i more) n zero s c rest f le = absurd (omega arith)
  initials_again (initial i more) n (suc m) s c rest f le =
      let behind = spell_comma c (token.BraceClose ∷ rest) in
      let tail = spell_initials more behind in
      initials_step (initial_in (suc n)) m s _ _ tail behind i more (next_again i tail) (initial_again i n s tail f.0 (initials_stop more c rest)) (initials_again more n m (after_initial i s) c rest f.1 (omega (arith, le)))

-- ---- declarations

value_step : (n : ℕ) (s : Scope) (ts rest : List Token) (i : Initial) → initial_at n (initial_in n) s ts ≡ Ok (i, rest) → value_at n s (token.Equals ∷ ts) ≡ Ok (Some i, rest)
unfolding value_at equals_at
value_step n s ts rest i e = rw e refl

value_again : (v : Option Initial) (n : ℕ) (s : Scope) (rest : List Token) → FitsValue n s v → Behind rest → value_at n s (spell_value v rest) ≡ Ok (v, rest)
unfolding value_at equals_at
value_again None n s (token.Comma ∷ ts) f b = refl
value_again None n s (token.Semi ∷ ts) f b = refl
value_again None n s _ f b = absurd b
value_again (Some i) n s rest f b = value_step n s (spell_initial i rest) rest i (initial_again i n s rest f (behind_stops rest b))

init_step : (n : ℕ) (td : Bool) (s : Scope) (ts mid rest : List Token) (d : Decl) (v : Option Initial) → decl_at (inner n) Named s ts ≡ Ok (d, mid) → value_at n (declared td d s) mid ≡ Ok (v, rest) → init_at n td s ts ≡ Ok (init d v, rest)
unfolding init_at
init_step n td s ts mid rest d v e1 e2 = rw (e1, e2) refl

init_again : (i : Init) (n : ℕ) (td : Bool) (s : Scope) (rest : List Token) → FitsInit n td s i → Behind rest → init_at n td s (spell_init i rest) ≡ Ok (i, rest)
init_again (init d v) n td s rest f b = init_step n td s _ (spell_value v rest) rest d v (decl_again d n Named s (spell_value v rest) f.0 (value_ends v rest b)) (value_again v n (declared td d s) rest f.1 b)

inits_step : (n : ℕ) (td : Bool) (m : ℕ) (s : Scope) (ts mid rest : List Token) (i : Init) (is : List Init) → init_at n td s ts ≡ Ok (i, mid) → inits_at n td m (after_init td i s) mid ≡ Ok (is, rest) → inits_at n td (suc m) s (token.Comma ∷ ts) ≡ Ok (i ∷ is, rest)
unfolding inits_at comma_at
inits_step n td m s ts mid rest i is e1 e2 = rw (e1, e2) refl

inits_again : (is : List Init) (n m : ℕ) (td : Bool) (s : Scope) (rest : List Token) → FitsInits n td s is → length is ≤ m → inits_at n td m s (spell_inits is (token.Semi ∷ rest)) ≡ Ok (is, token.Semi ∷ rest)
unfolding inits_at comma_at
inits_again [] n zero td s rest f le = refl
inits_again [] n (suc m) td s rest f le = refl
inits_again (i ∷ is) n zero td s rest f le = absurd (omega arith)
inits_again (i ∷ is) n (suc m) td s rest f le =
    inits_step n td m s _ (spell_inits is (token.Semi ∷ rest)) (token.Semi ∷ rest) i is (init_again i n td s (spell_inits is (token.Semi ∷ rest)) f.0 (behind_inits is rest)) (inits_again is n m td (after_init td i s) rest f.1 (omega (arith, le)))

behind_step : (specs : Specs) (d : Decl) (v : Option Initial) (is : List Init) (n : ℕ) (s : Scope) (ts mid rest : List Token) → value_at n (declared (is_typedef specs) d s) ts ≡ Ok (v, mid) → inits_at n (is_typedef specs) (length mid) (after_value v (declared (is_typedef specs) d s)) mid ≡ Ok (is, token.Semi ∷ rest) → behind_at n specs d (after_decl d s) ts ≡ Ok (Declares specs (init d v) is, rest)
unfolding behind_at semi_at
behind_step specs d v is n s ts mid rest e1 e2 = rw (e1, e2) refl

behind_again : (specs : Specs) (d : Decl) (v : Option Initial) (is : List Init) (n : ℕ) (s : Scope) (rest : List Token) → FitsInits n (is_typedef specs) s (init d v ∷ is)
    → behind_at n specs d (after_decl d s) (spell_value v (spell_inits is (token.Semi ∷ rest))) ≡ Ok (Declares specs (init d v) is, rest)
behind_again specs d v is n s rest f =
    let td = is_typedef specs in
    let tail = spell_inits is (token.Semi ∷ rest) in
    behind_step specs d v is n s _ tail rest (value_again v n (declared td d s) tail f.0.1 (behind_inits is rest)) (inits_again is n (length tail) td (after_value v (declared td d s)) rest f.1 (omega (arith, grows_inits is (token.Semi ∷ rest))))

bare_step : (n : ℕ) (s : Scope) (ts rest : List Token) (specs : Specs) → specifiers_at (inner n) s ts ≡ Ok (specs, token.Semi ∷ rest) → declaration_at n s ts ≡ Ok (Bare specs, rest)
unfolding declaration_at ends_semi
bare_step n s ts rest specs e = rw e refl

declares_step : (n : ℕ) (s : Scope) (ts t1 t2 rest : List Token) (specs : Specs) (d : Decl) (x : Declaration) → specifiers_at (inner n) s ts ≡ Ok (specs, t1) → ends_semi t1 ≡ None → decl_at (inner n) Named (after_specs specs s) t1 ≡ Ok (d, t2) → behind_at n specs d (after_decl d (after_specs specs s)) t2 ≡ Ok (x, rest) → declaration_at n s ts ≡ Ok (x, rest)
unfolding declaration_at declares_at
declares_step n s ts t1 t2 rest specs d x e1 e2 e3 e4 = rw (e1, e2, e3, e4) refl

declarators_step : (n : ℕ) (s : Scope) (ts t1 t2 rest : List Token) (specs : Specs) (d : Decl) (x : Declaration) → specifiers_at (inner n) s ts ≡ Ok (specs, t1) → decl_at (inner n) Named (after_specs specs s) t1 ≡ Ok (d, t2) → behind_at n specs d (after_decl d (after_specs specs s)) t2 ≡ Ok (x, rest) → declarators_at n s ts ≡ Ok (x, rest)
unfolding declarators_at declares_at
declarators_step n s ts t1 t2 rest specs d x e1 e2 e3 = rw (e1, e2, e3) refl

-- specifiers before a declarator
before_decl : (specs : Specs) (d : Decl) (n : ℕ) (s : Scope) (rest : List Token) → FitsSpecifiers n s specs → FitsDecl n Named (after_specs specs s) d → NoBase (is_based false specs) (after_specs specs s) d → Ends rest → NoBraces (spell_decl d rest) → specifiers_at (inner n) s (spell_specs specs (spell_decl d rest)) ≡ Ok (specs, spell_decl d rest)
before_decl specs d n s rest f fd nb e b = specifiers_again specs n s (spell_decl d rest) f (decl_no_spec d rest n Named (is_based false specs) (after_specs specs s) fd nb e) b

-- specifiers before a semicolon
before_semi : (specs : Specs) (n : ℕ) (s : Scope) (rest : List Token) → FitsSpecifiers n s specs → specifiers_at (inner n) s (spell_specs specs (token.Semi ∷ rest)) ≡ Ok (specs, token.Semi ∷ rest)
before_semi specs n s rest f = specifiers_again specs n s (token.Semi ∷ rest) f (end_no_spec (token.Semi ∷ rest) tt (is_based false specs) (after_specs specs s)) tt

pub declaration_again : (x : Declaration) (n : ℕ) (s : Scope) (rest : List Token) → FitsDeclaration n s x → declaration_at n s (spell_declaration x rest) ≡ Ok (x, rest)
declaration_again (Bare specs) n s rest f = bare_step n s _ rest specs (before_semi specs n s rest f)
declaration_again (Declares specs (init d v) is) n s rest f =
    let behind = spell_inits is (token.Semi ∷ rest) in
    let tail = spell_value v behind in
    let ends = value_ends v behind (behind_inits is rest) in
    declares_step n s _ (spell_decl d tail) tail rest specs d (Declares specs (init d v) is)
    (before_decl specs d n s tail f.0 f.1.0.0 f.2 ends (decl_no_braces d tail (value_no_braces v behind (behind_inits is rest))))
    (no_semi n (after_specs specs s) d tail f.1.0.0)
    (decl_again d n Named (after_specs specs s) tail f.1.0.0 ends)
    (behind_again specs d v is n (after_specs specs s) rest f.1)

pub declarators_again : (x : Declaration) (n : ℕ) (s : Scope) (rest : List Token) → FitsDeclaration n s x → HasDeclarators x → declarators_at n s (spell_declaration x rest) ≡ Ok (x, rest)
declarators_again (Bare specs) n s rest f h = absurd h
declarators_again (Declares specs (init d v) is) n s rest f h =
    let behind = spell_inits is (token.Semi ∷ rest) in
    let tail = spell_value v behind in
    let ends = value_ends v behind (behind_inits is rest) in
    declarators_step n s _ (spell_decl d tail) tail rest specs d (Declares specs (init d v) is)
    (before_decl specs d n s tail f.0 f.1.0.0 f.2 ends (decl_no_braces d tail (value_no_braces v behind (behind_inits is rest))))
    (decl_again d n Named (after_specs specs s) tail f.1.0.0 ends)
    (behind_again specs d v is n (after_specs specs s) rest f.1)

-- ---- expressions in statements

test_step : (r : Inner) (s : Scope) (ts rest : List Token) (e : Expr) → r.expr 13 s ts ≡ Ok (e, token.Close ∷ rest) → test_at r s (token.Open ∷ ts) ≡ Ok (e, rest)
unfolding test_at closed_at
test_step r s ts rest e p = rw p refl

-- an expression one nesting down, before what closes it
nested_again : (e : Expr) (n : ℕ) (s : Scope) (rest : List Token) → Fits n 13 s e → Stops 13 rest → (inner (suc n)).expr 13 s (spell e rest) ≡ Ok (e, rest)
unfolding inner
nested_again e n s rest f stop = level_again e n 13 s rest f stop

test_again : (e : Expr) (n : ℕ) (s : Scope) (rest : List Token) → Fits n 13 s e → test_at (inner (suc n)) s (token.Open ∷ spell e (token.Close ∷ rest)) ≡ Ok (e, rest)
test_again e n s rest f = test_step (inner (suc n)) s _ rest e (nested_again e n s (token.Close ∷ rest) f (refl, tt, tt))

optional_none : (e : Reader Expr) (s : Scope) (rest : List Token) → optional_at e s (token.Semi ∷ rest) ≡ Ok (None, rest)
unfolding optional_at ends_semi
optional_none e s rest = refl

optional_some : (e : Reader Expr) (s : Scope) (ts rest : List Token) (x : Expr) → ends_semi ts ≡ None → e s ts ≡ Ok (x, token.Semi ∷ rest) → optional_at e s ts ≡ Ok (Some x, rest)
unfolding optional_at semi_at
optional_some e s ts rest x n p = rw (n, p) refl

next_none_at : (e : Reader Expr) (s : Scope) (rest : List Token) → next_at e s (token.Close ∷ rest) ≡ Ok (None, rest)
unfolding next_at ends_parens
next_none_at e s rest = refl

next_some_at : (e : Reader Expr) (s : Scope) (ts rest : List Token) (x : Expr) → ends_parens ts ≡ None → e s ts ≡ Ok (x, token.Close ∷ rest) → next_at e s ts ≡ Ok (Some x, rest)
unfolding next_at closed_at
next_some_at e s ts rest x n p = rw (n, p) refl

nested_optional : (e : Option Expr) (n : ℕ) (s : Scope) (rest : List Token) → FitsOptional n s e → optional_at ((inner (suc n)).expr 13) s (spell_optional e (token.Semi ∷ rest)) ≡ Ok (e, rest)
nested_optional None n s rest f = optional_none ((inner (suc n)).expr 13) s rest
nested_optional (Some e) n s rest f = optional_some ((inner (suc n)).expr 13) s _ rest e (expr_no_semi e (token.Semi ∷ rest)) (nested_again e n s (token.Semi ∷ rest) f (refl, tt, tt))

nested_next : (e : Option Expr) (n : ℕ) (s : Scope) (rest : List Token) → FitsOptional n s e → next_at ((inner (suc n)).expr 13) s (spell_optional e (token.Close ∷ rest)) ≡ Ok (e, rest)
nested_next None n s rest f = next_none_at ((inner (suc n)).expr 13) s rest
nested_next (Some e) n s rest f = next_some_at ((inner (suc n)).expr 13) s _ rest e (expr_no_close e (token.Close ∷ rest)) (nested_again e n s (token.Close ∷ rest) f (refl, tt, tt))

level_optional : (e : Option Expr) (n : ℕ) (s : Scope) (rest : List Token) → FitsOptional n s e → optional_at (level_at (inner n) 13) s (spell_optional e (token.Semi ∷ rest)) ≡ Ok (e, rest)
level_optional None n s rest f = optional_none (level_at (inner n) 13) s rest
level_optional (Some e) n s rest f = optional_some (level_at (inner n) 13) s _ rest e (expr_no_semi e (token.Semi ∷ rest)) (level_again e n 13 s (token.Semi ∷ rest) f (refl, tt, tt))

-- ---- statements

do_step : (n : ℕ) (s : Scope) (ts rest : List Token) (e : Expr) → level_at (inner n) 13 s ts ≡ Ok (e, token.Semi ∷ rest) → do_at (inner n) s ts ≡ Ok (Do e, rest)
unfolding do_at semi_at
do_step n s ts rest e p = rw p refl

do_first : (n : ℕ) (sub : Reader Stmt) (block : Reader Items) (s : Scope) (e : Expr) (rest : List Token) → stmt_at n sub block s (spell e rest) ≡ do_at (inner n) s (spell e rest)
unfolding stmt_at
do_first n sub block s (Name k) rest = refl
do_first n sub block s (Number k t) rest = refl
do_first n sub block s (Byte k) rest = refl
do_first n sub block s (Texts k ks) rest = refl
do_first n sub block s (Paren e) rest = refl
do_first n sub block s (Prefix pre.Increment e) rest = refl
do_first n sub block s (Prefix pre.Decrement e) rest = refl
do_first n sub block s (Prefix pre.Address e) rest = refl
do_first n sub block s (Prefix pre.Dereference e) rest = refl
do_first n sub block s (Prefix pre.Plus e) rest = refl
do_first n sub block s (Prefix pre.Minus e) rest = refl
do_first n sub block s (Prefix pre.Complement e) rest = refl
do_first n sub block s (Prefix pre.Not e) rest = refl
do_first n sub block s (SizeOfExpr e) rest = refl
do_first n sub block s (SizeOf t) rest = refl
do_first n sub block s (Cast t e) rest = refl
do_first n sub block s (Postfix e posts) rest = do_first n sub block s e (spell_posts posts rest)
do_first n sub block s (Chain k first links) rest = do_first n sub block s first (spell_links links rest)

do_again : (e : Expr) (n : ℕ) (sub : Reader Stmt) (block : Reader Items) (s : Scope) (rest : List Token) → Fits n 13 s e → stmt_at n sub block s (spell e (token.Semi ∷ rest)) ≡ Ok (Do e, rest)
do_again e n sub block s rest f = do_first n sub block s e (token.Semi ∷ rest) ∙ do_step n s (spell e (token.Semi ∷ rest)) rest e (level_again e n 13 s (token.Semi ∷ rest) f (refl, tt, tt))

return_step : (n : ℕ) (sub : Reader Stmt) (block : Reader Items) (s : Scope) (ts rest : List Token) (e : Option Expr) → optional_at (level_at (inner n) 13) s ts ≡ Ok (e, rest) → stmt_at n sub block s (token.Return ∷ ts) ≡ Ok (Return e, rest)
unfolding stmt_at return_at
return_step n sub block s ts rest e p = rw p refl

word_steps : (n : ℕ) (sub : Reader Stmt) (block : Reader Items) (s : Scope) (rest : List Token) → (stmt_at n sub block s (token.Semi ∷ rest) ≡ Ok (Empty, rest)) × (stmt_at n sub block s (token.Break ∷ token.Semi ∷ rest) ≡ Ok (Break, rest)) × (stmt_at n sub block s (token.Continue ∷ token.Semi ∷ rest) ≡ Ok (Continue, rest))
unfolding stmt_at break_at continue_at semi_at
word_steps n sub block s rest = (refl, refl, refl)

block_step : (n : ℕ) (sub : Reader Stmt) (s : Scope) (ts rest : List Token) (items : Items) → items_at n sub (length ts) s ts ≡ Ok (items, token.BraceClose ∷ rest) → block_in (suc n) sub s ts ≡ Ok (items, rest)
unfolding block_in block_at braced_at
block_step n sub s ts rest items e = rw e refl

compound_step : (n : ℕ) (sub : Reader Stmt) (block : Reader Items) (s : Scope) (ts rest : List Token) (items : Items) → block s ts ≡ Ok (items, rest) → stmt_at n sub block s (token.BraceOpen ∷ ts) ≡ Ok (Block items, rest)
unfolding stmt_at
compound_step n sub block s ts rest items e = rw e refl

if_step : (n : ℕ) (sub : Reader Stmt) (block : Reader Items) (s : Scope) (ts t1 rest : List Token) (e : Expr) (a : Stmt) → test_at (inner n) s ts ≡ Ok (e, t1) → sub (after e s) t1 ≡ Ok (a, rest) → else_at rest ≡ None → stmt_at n sub block s (token.If ∷ ts) ≡ Ok (OnlyIf e a, rest)
unfolding stmt_at if_at
if_step n sub block s ts t1 rest e a e1 e2 e3 = rw (e1, e2, e3) refl

else_step : (n : ℕ) (sub : Reader Stmt) (block : Reader Items) (s : Scope) (ts t1 t2 rest : List Token) (e : Expr) (a b : Stmt) → test_at (inner n) s ts ≡ Ok (e, t1) → sub (after e s) t1 ≡ Ok (a, token.Else ∷ t2) → sub (after e s) t2 ≡ Ok (b, rest) → stmt_at n sub block s (token.If ∷ ts) ≡ Ok (IfElse e a b, rest)
unfolding stmt_at if_at else_at
else_step n sub block s ts t1 t2 rest e a b e1 e2 e3 = rw (e1, e2, e3) refl

switch_step : (n : ℕ) (sub : Reader Stmt) (block : Reader Items) (s : Scope) (ts t1 rest : List Token) (e : Expr) (a : Stmt) → test_at (inner n) s ts ≡ Ok (e, t1) → sub (after e s) t1 ≡ Ok (a, rest) → stmt_at n sub block s (token.Switch ∷ ts) ≡ Ok (Switch e a, rest)
unfolding stmt_at switch_at
switch_step n sub block s ts t1 rest e a e1 e2 = rw (e1, e2) refl

case_step : (n : ℕ) (sub : Reader Stmt) (block : Reader Items) (s : Scope) (ts t1 rest : List Token) (e : Expr) (a : Stmt) → level_at (inner n) 11 s ts ≡ Ok (e, token.Colon ∷ t1) → sub (after e s) t1 ≡ Ok (a, rest) → stmt_at n sub block s (token.Case ∷ ts) ≡ Ok (Case e a, rest)
unfolding stmt_at case_at colon_at
case_step n sub block s ts t1 rest e a e1 e2 = rw (e1, e2) refl

default_step : (n : ℕ) (sub : Reader Stmt) (block : Reader Items) (s : Scope) (ts rest : List Token) (a : Stmt) → sub s ts ≡ Ok (a, rest) → stmt_at n sub block s (token.Default ∷ token.Colon ∷ ts) ≡ Ok (Default a, rest)
unfolding stmt_at default_at colon_at
default_step n sub block s ts rest a e = rw e refl

while_step : (n : ℕ) (sub : Reader Stmt) (block : Reader Items) (s : Scope) (ts t1 rest : List Token) (e : Expr) (a : Stmt) → test_at (inner n) s ts ≡ Ok (e, t1) → sub (after e s) t1 ≡ Ok (a, rest) → stmt_at n sub block s (token.While ∷ ts) ≡ Ok (While e a, rest)
unfolding stmt_at while_at
while_step n sub block s ts t1 rest e a e1 e2 = rw (e1, e2) refl

do_while_step : (n : ℕ) (sub : Reader Stmt) (block : Reader Items) (s : Scope) (ts t1 rest : List Token) (e : Expr) (a : Stmt) → sub s ts ≡ Ok (a, token.While ∷ t1) → test_at (inner n) s t1 ≡ Ok (e, token.Semi ∷ rest) → stmt_at n sub block s (token.Do ∷ ts) ≡ Ok (DoWhile a e, rest)
unfolding stmt_at do_while_at while_word semi_at
do_while_step n sub block s ts t1 rest e a e1 e2 = rw (e1, e2) refl

for_step : (n : ℕ) (sub : Reader Stmt) (block : Reader Items) (s : Scope) (ts t1 t2 t3 rest : List Token) (i : Start) (e f : Option Expr) (a : Stmt) → start_at n s ts ≡ Ok (i, t1) → optional_at ((inner n).expr 13) (after_start i s) t1 ≡ Ok (e, t2) → next_at ((inner n).expr 13) (after_optional e (after_start i s)) t2 ≡ Ok (f, t3) → sub (after_optional f (after_optional e (after_start i s))) t3 ≡ Ok (a, rest)
    → stmt_at n sub block s (token.For ∷ token.Open ∷ ts) ≡ Ok (For i e f a, rest)
unfolding stmt_at for_at for_rest
for_step n sub block s ts t1 t2 t3 rest i e f a e1 e2 e3 e4 = rw (e1, e2, e3, e4) refl

start_declares : (n : ℕ) (s : Scope) (ts rest : List Token) (d : Declaration) → starts_type s ts ≡ true → declarators_at n s ts ≡ Ok (d, rest) → start_at (suc n) s ts ≡ Ok (ForDeclares d, rest)
unfolding start_at declarators_in
start_declares n s ts rest d e1 e2 = rw (e1, e2) refl

start_expr : (n : ℕ) (s : Scope) (ts rest : List Token) (e : Option Expr) → starts_type s ts ≡ false → optional_at ((inner n).expr 13) s ts ≡ Ok (e, rest) → start_at n s ts ≡ Ok (ForExpr e, rest)
unfolding start_at
start_expr n s ts rest e e1 e2 = rw (e1, e2) refl

start_again : (i : Start) (n : ℕ) (s : Scope) (rest : List Token) → FitsStart n s i → start_at (suc n) s (spell_start i rest) ≡ Ok (i, rest)
start_again (ForDeclares d) n s rest f = start_declares n s _ rest d (starts_declaration n s d rest f.0) (declarators_again d n s rest f.0 f.1)
start_again (ForExpr None) n s rest f = start_expr (suc n) s _ rest None refl (nested_optional None n s rest f)
start_again (ForExpr (Some e)) n s rest f = start_expr (suc n) s _ rest (Some e) (no_type n 13 s e (token.Semi ∷ rest) f) (nested_optional (Some e) n s rest f)

items_stop : (n : ℕ) (sub : Reader Stmt) (m : ℕ) (s : Scope) (rest : List Token) → items_at n sub m s (token.BraceClose ∷ rest) ≡ Ok (nothing, token.BraceClose ∷ rest)
unfolding items_at ends_braces
items_stop n sub zero s rest = refl
items_stop n sub (suc m) s rest = refl

item_declares : (n : ℕ) (sub : Reader Stmt) (m : ℕ) (s : Scope) (ts t1 rest : List Token) (d : Declaration) (more : Items) → ends_braces ts ≡ false → starts_type s ts ≡ true → declaration_at n s ts ≡ Ok (d, t1) → items_at n sub m (after_declaration d s) t1 ≡ Ok (more, rest) → items_at n sub (suc m) s ts ≡ Ok (declares d more, rest)
unfolding items_at
item_declares n sub m s ts t1 rest d more e1 e2 e3 e4 = rw (e1, e2, e3, e4) refl

item_does : (n : ℕ) (sub : Reader Stmt) (m : ℕ) (s : Scope) (ts t1 rest : List Token) (x : Stmt) (more : Items) → ends_braces ts ≡ false → starts_type s ts ≡ false → sub s ts ≡ Ok (x, t1) → items_at n sub m (after_stmt x s) t1 ≡ Ok (more, rest) → items_at n sub (suc m) s ts ≡ Ok (does x more, rest)
unfolding items_at
item_does n sub m s ts t1 rest x more e1 e2 e3 e4 = rw (e1, e2, e3, e4) refl

in_step : (n : ℕ) (s : Scope) (ts rest : List Token) (x : Stmt) → stmt_at n (stmt_in n) (block_in n (stmt_in n)) s ts ≡ Ok (x, rest) → stmt_in (suc n) s ts ≡ Ok (x, rest)
unfolding stmt_in
in_step n s ts rest x e = e

abbrev of : (n : ℕ) → Reader Stmt
of n = stmt_at n (stmt_in n) (block_in n (stmt_in n))

mutual
  pub stmt_again : (x : Stmt) (n : ℕ) (s : Scope) (rest : List Token) → FitsStmt n s x → StopsElse (takes_else x) rest → of n s (spell_stmt x rest) ≡ Ok (x, rest)
  stmt_again (Block items) zero s rest f stop = absurd f
  stmt_again (Block items) (suc n) s rest f stop = compound_step (suc n) (stmt_in (suc n)) (block_in (suc n) (stmt_in (suc n))) s _ rest items (block_step n (stmt_in (suc n)) s _ rest items (items_again items n (length (spell_items items (token.BraceClose ∷ rest))) s rest f (omega (arith, grows_items items (token.BraceClose ∷ rest)))))
  stmt_again Empty n s rest f stop = (word_steps n (stmt_in n) (block_in n (stmt_in n)) s rest).0
  stmt_again (Do e) zero s rest f stop = do_again e zero (stmt_in zero) (block_in zero (stmt_in zero)) s rest f
  stmt_again (Do e) (suc n) s rest f stop = do_again e (suc n) (stmt_in (suc n)) (block_in (suc n) (stmt_in (suc n))) s rest f
  stmt_again (OnlyIf e a) zero s rest f stop = absurd f
  stmt_again (OnlyIf e a) (suc n) s rest f stop =
      if_step (suc n) (stmt_in (suc n)) (block_in (suc n) (stmt_in (suc n))) s _ (spell_stmt a rest) rest e a (test_again e n s _ f.0) (in_step n (after e s) _ rest a (stmt_again a n (after e s) rest f.1 (any_else (takes_else a) rest stop))) (no_else rest stop)
  stmt_again (IfElse e a b) zero s rest f stop = absurd f
  stmt_again (IfElse e a b) (suc n) s rest f stop =
      else_step (suc n) (stmt_in (suc n)) (block_in (suc n) (stmt_in (suc n))) s _ _ (spell_stmt b rest) rest e a b (test_again e n s _ f.0)
      (in_step n (after e s) _ (token.Else ∷ spell_stmt b rest) a (stmt_again a n (after e s) (token.Else ∷ spell_stmt b rest) f.1 (subst (λ b'. StopsElse b' (token.Else ∷ spell_stmt b rest)) (sym f.3) tt)))
      (in_step n (after e s) _ rest b (stmt_again b n (after e s) rest f.2 stop))
  stmt_again (Switch e a) zero s rest f stop = absurd f
  stmt_again (Switch e a) (suc n) s rest f stop =
      switch_step (suc n) (stmt_in (suc n)) (block_in (suc n) (stmt_in (suc n))) s _ (spell_stmt a rest) rest e a (test_again e n s _ f.0) (in_step n (after e s) _ rest a (stmt_again a n (after e s) rest f.1 stop))
  stmt_again (Case e a) zero s rest f stop = absurd f
  stmt_again (Case e a) (suc n) s rest f stop =
      case_step (suc n) (stmt_in (suc n)) (block_in (suc n) (stmt_in (suc n))) s _ (spell_stmt a rest) rest e a (level_again e (suc n) 11 s (token.Colon ∷ spell_stmt a rest) f.0 (refl, tt, tt)) (in_step n (after e s) _ rest a (stmt_again a n (after e s) rest f.1 stop))
  stmt_again (Default a) zero s rest f stop = absurd f
  stmt_again (Default a) (suc n) s rest f stop = default_step (suc n) (stmt_in (suc n)) (block_in (suc n) (stmt_in (suc n))) s (spell_stmt a rest) rest a (in_step n s _ rest a (stmt_again a n s rest f stop))
  stmt_again (While e a) zero s rest f stop = absurd f
  stmt_again (While e a) (suc n) s rest f stop =
      while_step (suc n) (stmt_in (suc n)) (block_in (suc n) (stmt_in (suc n))) s _ (spell_stmt a rest) rest e a (test_again e n s _ f.0) (in_step n (after e s) _ rest a (stmt_again a n (after e s) rest f.1 stop))
  stmt_again (DoWhile a e) zero s rest f stop = absurd f
  stmt_again (DoWhile a e) (suc n) s rest f stop =
      let tail = token.While ∷ token.Open ∷ spell e (token.Close ∷ token.Semi ∷ rest) in
      do_while_step (suc n) (stmt_in (suc n)) (block_in (suc n) (stmt_in (suc n))) s _ _ rest e a (in_step n s _ tail a (stmt_again a n s tail f.0 (any_else (takes_else a) tail tt))) (test_again e n s (token.Semi ∷ rest) f.1)
  stmt_again (For i e g a) zero s rest f stop = absurd f
  stmt_again (For i e g a) (suc n) s rest f stop =
      let s1 = after_start i s in
      let s2 = after_optional e s1 in
      for_step (suc n) (stmt_in (suc n)) (block_in (suc n) (stmt_in (suc n))) s _ _ _ (spell_stmt a rest) rest i e g a (start_again i n s _ f.0) (nested_optional e n s1 _ f.1) (nested_next g n s2 _ f.2) (in_step n (after_optional g s2) _ rest a (stmt_again a n (after_optional g s2) rest f.3 stop))
  stmt_again Break n s rest f stop = (word_steps n (stmt_in n) (block_in n (stmt_in n)) s rest).1
  stmt_again Continue n s rest f stop = (word_steps n (stmt_in n) (block_in n (stmt_in n)) s rest).2
  stmt_again (Return e) zero s rest f stop = return_step zero (stmt_in zero) (block_in zero (stmt_in zero)) s _ rest e (level_optional e zero s rest f)
  stmt_again (Return e) (suc n) s rest f stop = return_step (suc n) (stmt_in (suc n)) (block_in (suc n) (stmt_in (suc n))) s _ rest e (level_optional e (suc n) s rest f)

  items_again : (items : Items) (n m : ℕ) (s : Scope) (rest : List Token) → FitsItems n s items → count_items items ≤ m → items_at n (stmt_in (suc n)) m s (spell_items items (token.BraceClose ∷ rest)) ≡ Ok (items, token.BraceClose ∷ rest)
  items_again nothing n m s rest f le = items_stop n (stmt_in (suc n)) m s rest
  items_again (declares d more) n zero s rest f le = absurd (omega arith)
  items_again (declares d more) n (suc m) s rest f le =
      let start = starts_declaration n s d (spell_items more (token.BraceClose ∷ rest)) f.0 in
      item_declares n (stmt_in (suc n)) m s _ (spell_items more (token.BraceClose ∷ rest)) (token.BraceClose ∷ rest) d more (no_brace s _ start) start (declaration_again d n s _ f.0) (items_again more n m (after_declaration d s) rest f.1 (omega (arith, le)))
  items_again (does x more) n zero s rest f le = absurd (omega arith)
  items_again (does x more) n (suc m) s rest f le =
      let tail = spell_items more (token.BraceClose ∷ rest) in
      item_does n (stmt_in (suc n)) m s _ tail (token.BraceClose ∷ rest) x more (stmt_no_brace x tail) (stmt_no_type n s x tail f.0) (in_step n s _ tail x (stmt_again x n s tail f.0 (any_else (takes_else x) tail (items_no_else n (after_stmt x s) more rest f.1)))) (items_again more n m (after_stmt x s) rest f.1 (omega (arith, le)))

block_again : (items : Items) (n : ℕ) (s : Scope) (rest : List Token) → WithinItems n s items → block_in n (stmt_in n) s (spell_items items (token.BraceClose ∷ rest)) ≡ Ok (items, rest)
block_again items zero s rest f = absurd f
block_again items (suc n) s rest f =
    let tail = spell_items items (token.BraceClose ∷ rest) in
    block_step n (stmt_in (suc n)) s tail rest items (items_again items n (length tail) s rest f (omega (arith, grows_items items (token.BraceClose ∷ rest))))

-- ---- external declarations

outer_bare : (n : ℕ) (s : Scope) (ts rest : List Token) (specs : Specs) → specifiers_at (inner n) s ts ≡ Ok (specs, token.Semi ∷ rest) → ext_at n s ts ≡ Ok (Outer (Bare specs), rest)
unfolding ext_at ends_semi
outer_bare n s ts rest specs e = rw e refl

outer_step : (n : ℕ) (s : Scope) (ts t1 t2 rest : List Token) (specs : Specs) (d : Decl) (x : Declaration) → specifiers_at (inner n) s ts ≡ Ok (specs, t1) → ends_semi t1 ≡ None → decl_at (inner n) Named (after_specs specs s) t1 ≡ Ok (d, t2) → brace_at t2 ≡ None → behind_at n specs d (after_decl d (after_specs specs s)) t2 ≡ Ok (x, rest) → ext_at n s ts ≡ Ok (Outer x, rest)
unfolding ext_at outer_at
outer_step n s ts t1 t2 rest specs d x e1 e2 e3 e4 e5 = rw (e1, e2, e3, e4, e5) refl

defines_step : (n : ℕ) (s : Scope) (ts t1 t2 rest : List Token) (specs : Specs) (d : Decl) (body : Items) → specifiers_at (inner n) s ts ≡ Ok (specs, t1) → ends_semi t1 ≡ None → decl_at (inner n) Named (after_specs specs s) t1 ≡ Ok (d, token.BraceOpen ∷ t2) → block_in n (stmt_in n) (body_scope (is_typedef specs) d (after_decl d (after_specs specs s))) t2 ≡ Ok (body, rest) → ext_at n s ts ≡ Ok (Defines specs d body, rest)
unfolding ext_at outer_at brace_at body_at
defines_step n s ts t1 t2 rest specs d body e1 e2 e3 e4 = rw (e1, e2, e3, e4) refl

pub ext_again : (x : Ext) (n : ℕ) (s : Scope) (rest : List Token) → FitsExt n s x → ext_at n s (spell_ext x rest) ≡ Ok (x, rest)
ext_again (Outer (Bare specs)) n s rest f = outer_bare n s _ rest specs (before_semi specs n s rest f)
ext_again (Outer (Declares specs (init d v) is)) n s rest f =
    let behind = spell_inits is (token.Semi ∷ rest) in
    let tail = spell_value v behind in
    let ends = value_ends v behind (behind_inits is rest) in
    outer_step n s _ (spell_decl d tail) tail rest specs d (Declares specs (init d v) is)
    (before_decl specs d n s tail f.0 f.1.0.0 f.2 ends (decl_no_braces d tail (value_no_braces v behind (behind_inits is rest))))
    (no_semi n (after_specs specs s) d tail f.1.0.0)
    (decl_again d n Named (after_specs specs s) tail f.1.0.0 ends)
    (value_no_brace v behind (behind_inits is rest))
    (behind_again specs d v is n (after_specs specs s) rest f.1)
ext_again (Defines specs d body) n s rest f =
    let tail = spell_items body (token.BraceClose ∷ rest) in
    defines_step n s _ (spell_decl d (token.BraceOpen ∷ tail)) tail rest specs d body
    (before_decl specs d n s (token.BraceOpen ∷ tail) f.0 f.1 f.3 tt (named_no_braces n (after_specs specs s) d (token.BraceOpen ∷ tail) f.1))
    (no_semi n (after_specs specs s) d (token.BraceOpen ∷ tail) f.1)
    (decl_again d n Named (after_specs specs s) (token.BraceOpen ∷ tail) f.1 tt)
    (block_again body n (body_scope (is_typedef specs) d (after_decl d (after_specs specs s))) rest f.2)
