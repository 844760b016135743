-- Declarations, statements and external declarations are read the same with more nestings, unless a nesting too many stopped the reading.
use Rattle.std.proofs.Common.{ℕ, zero, suc, Bool, List, [], ◌∷◌, length, refl, inl, inr}
use Rattle.c_grammar.specs.declared.token.Allowed.TheVariants.{Named}
use Rattle.c_grammar.specs.declared.token.Token.{Token}
use Rattle.c_grammar.specs.declared.token.Token.TheVariants as token
use Rattle.c_grammar.specs.Grammar.{Scope, starts_type, bind, Expr, Specs, Decl, after, after_specs, after_decl, name_of, is_typedef}
use Rattle.c_grammar.specs.Reading.{Reader, colon_at, comma_at, ends_braces, level_at, specifiers_at, decl_at, inner}
use Rattle.c_unit_grammar.specs.Statements.{Initial, after_initial, declared, after_value, after_init, after_declaration, Stmt, Items, after_optional, after_start, after_stmt, body_scope}
use Rattle.c_unit_grammar.specs.Reading.{ends_semi, ends_parens, equals_at, brace_at, else_at, while_word, next_initial, initials_at, braced_initial, plain_initial, initial_at, initial_in, value_at, init_at, inits_at, behind_at, declares_at, declaration_at, declarators_at, declarators_in, test_at, optional_at, next_at, items_at, block_at, block_in, if_at, switch_at, case_at, default_at, while_at, do_while_at, start_at, for_rest, for_at, return_at, do_at, stmt_at, stmt_in, body_at, outer_at, ext_at}
use Rattle.c_nesting.specs.Agreeing.{Agrees}
use Rattle.c_nesting.proofs.Agree.{same, both, chosen, tested, level, specifiers, declarator, one_more}

-- two readers agree on each text
abbrev Alike : {A : Type 0} → Reader A → Reader A → Type 0
Alike less more = (s : Scope) (ts : List Token) → Agrees (less s ts) (more s ts)

-- ---- initial values

initials : (sub sup : Reader Initial) → Alike sub sup → (k : ℕ) → Alike (initials_at sub k) (initials_at sup k)
unfolding initials_at
initials sub sup a zero s ts = inl refl
initials sub sup a (suc k) s ts =
    chosen (next_initial ts) _ _ _ _ (inl refl) (λ rest.
    both (sub s rest) (sup s rest) _ _ (a s rest) (λ x.
    both (initials_at sub k (after_initial x.0 s) x.1) (initials_at sup k (after_initial x.0 s) x.1) _ _ (initials sub sup a k (after_initial x.0 s) x.1) (λ y. inl refl)))

braces : (sub sup : Reader Initial) → Alike sub sup → Alike (braced_initial sub) (braced_initial sup)
unfolding braced_initial
braces sub sup a s ts =
    both (sub s ts) (sup s ts) _ _ (a s ts) (λ x.
    both (initials_at sub (length x.1) (after_initial x.0 s) x.1) (initials_at sup (length x.1) (after_initial x.0 s) x.1) _ _ (initials sub sup a (length x.1) (after_initial x.0 s) x.1) (λ y. inl refl))

plain : (n : ℕ) → Alike (plain_initial n) (plain_initial (suc n))
unfolding plain_initial
plain n s ts = both (level_at (inner n) 12 s ts) (level_at (inner (suc n)) 12 s ts) _ _ (level (inner n) (inner (suc n)) (one_more n) 12 s ts) (λ x. inl refl)

initial_with : (n : ℕ) (sub sup : Reader Initial) → Alike sub sup → Alike (initial_at n sub) (initial_at (suc n) sup)
unfolding initial_at
initial_with n sub sup a s ts = chosen (brace_at ts) _ _ _ _ (plain n s ts) (λ rest. braces sub sup a s rest)

initial_nested : (n : ℕ) → Alike (initial_in n) (initial_in (suc n))
unfolding initial_in
initial_nested zero s ts = inr (length ts, refl)
initial_nested (suc n) s ts = initial_with n (initial_in n) (initial_in (suc n)) (initial_nested n) s ts

-- ---- declarations

value : (n : ℕ) → Alike (value_at n) (value_at (suc n))
unfolding value_at
value n s ts = chosen (equals_at ts) _ _ _ _ (inl refl) (λ rest.
    both (initial_at n (initial_in n) s rest) (initial_at (suc n) (initial_in (suc n)) s rest) _ _ (initial_with n (initial_in n) (initial_in (suc n)) (initial_nested n) s rest) (λ x. inl refl))

one_init : (n : ℕ) (td : Bool) → Alike (init_at n td) (init_at (suc n) td)
unfolding init_at
one_init n td s ts =
    both (decl_at (inner n) Named s ts) (decl_at (inner (suc n)) Named s ts) _ _ (declarator (inner n) (inner (suc n)) (one_more n) Named s ts) (λ x.
    both (value_at n (declared td x.0 s) x.1) (value_at (suc n) (declared td x.0 s) x.1) _ _ (value n (declared td x.0 s) x.1) (λ y. inl refl))

inits : (n : ℕ) (td : Bool) (k : ℕ) → Alike (inits_at n td k) (inits_at (suc n) td k)
unfolding inits_at
inits n td zero s ts = inl refl
inits n td (suc k) s ts =
    chosen (comma_at ts) _ _ _ _ (inl refl) (λ rest.
    both (init_at n td s rest) (init_at (suc n) td s rest) _ _ (one_init n td s rest) (λ x.
    both (inits_at n td k (after_init td x.0 s) x.1) (inits_at (suc n) td k (after_init td x.0 s) x.1) _ _ (inits n td k (after_init td x.0 s) x.1) (λ y. inl refl)))

behind : (n : ℕ) (ss : Specs) (d : Decl) → Alike (behind_at n ss d) (behind_at (suc n) ss d)
unfolding behind_at
behind n ss d s ts =
    both (value_at n (bind (name_of d) (is_typedef ss) s) ts) (value_at (suc n) (bind (name_of d) (is_typedef ss) s) ts) _ _ (value n (bind (name_of d) (is_typedef ss) s) ts) (λ x.
    both (inits_at n (is_typedef ss) (length x.1) (after_value x.0 (bind (name_of d) (is_typedef ss) s)) x.1) (inits_at (suc n) (is_typedef ss) (length x.1) (after_value x.0 (bind (name_of d) (is_typedef ss) s)) x.1) _ _ (inits n (is_typedef ss) (length x.1) (after_value x.0 (bind (name_of d) (is_typedef ss) s)) x.1) (λ y. inl refl))

declares : (n : ℕ) (ss : Specs) → Alike (declares_at n ss) (declares_at (suc n) ss)
unfolding declares_at
declares n ss s ts =
    both (decl_at (inner n) Named s ts) (decl_at (inner (suc n)) Named s ts) _ _ (declarator (inner n) (inner (suc n)) (one_more n) Named s ts) (λ x. behind n ss x.0 (after_decl x.0 s) x.1)

declaration : (n : ℕ) → Alike (declaration_at n) (declaration_at (suc n))
unfolding declaration_at
declaration n s ts =
    both (specifiers_at (inner n) s ts) (specifiers_at (inner (suc n)) s ts) _ _ (specifiers (inner n) (inner (suc n)) (one_more n) s ts) (λ x.
    chosen (ends_semi x.1) _ _ _ _ (declares n x.0 (after_specs x.0 s) x.1) (λ rest. inl refl))

declarators : (n : ℕ) → Alike (declarators_at n) (declarators_at (suc n))
unfolding declarators_at
declarators n s ts =
    both (specifiers_at (inner n) s ts) (specifiers_at (inner (suc n)) s ts) _ _ (specifiers (inner n) (inner (suc n)) (one_more n) s ts) (λ x. declares n x.0 (after_specs x.0 s) x.1)

declarators_nested : (n : ℕ) → Alike (declarators_in n) (declarators_in (suc n))
unfolding declarators_in
declarators_nested zero s ts = inr (length ts, refl)
declarators_nested (suc n) s ts = declarators n s ts

-- ---- statements

nested_expr : (n : ℕ) → Alike ((inner n).expr 13) ((inner (suc n)).expr 13)
nested_expr n s ts = let i = one_more n in i.expr 13 s ts

test : (n : ℕ) → Alike (test_at (inner n)) (test_at (inner (suc n)))
unfolding test_at
test n s (token.Open ∷ ts) = both ((inner n).expr 13 s ts) ((inner (suc n)).expr 13 s ts) _ _ (nested_expr n s ts) (λ x. inl refl)
test n s [] = inl refl
test n s (_ ∷ ts) = inl refl

optional : (e f : Reader Expr) → Alike e f → Alike (optional_at e) (optional_at f)
unfolding optional_at
optional e f a s ts = chosen (ends_semi ts) _ _ _ _ (both (e s ts) (f s ts) _ _ (a s ts) (λ x. inl refl)) (λ rest. inl refl)

step : (e f : Reader Expr) → Alike e f → Alike (next_at e) (next_at f)
unfolding next_at
step e f a s ts = chosen (ends_parens ts) _ _ _ _ (both (e s ts) (f s ts) _ _ (a s ts) (λ x. inl refl)) (λ rest. inl refl)

start : (n : ℕ) → Alike (start_at n) (start_at (suc n))
unfolding start_at
start n s ts =
    tested (starts_type s ts) _ _ _ _
    (both (declarators_in n s ts) (declarators_in (suc n) s ts) _ _ (declarators_nested n s ts) (λ x. inl refl))
    (both (optional_at ((inner n).expr 13) s ts) (optional_at ((inner (suc n)).expr 13) s ts) _ _ (optional ((inner n).expr 13) ((inner (suc n)).expr 13) (nested_expr n) s ts) (λ x. inl refl))

items : (n : ℕ) (sub sup : Reader Stmt) → Alike sub sup → (k : ℕ) → Alike (items_at n sub k) (items_at (suc n) sup k)
unfolding items_at
items n sub sup a zero s ts = inl refl
items n sub sup a (suc k) s ts =
    tested (ends_braces ts) _ _ _ _ (inl refl)
    (tested (starts_type s ts) _ _ _ _
    (both (declaration_at n s ts) (declaration_at (suc n) s ts) _ _ (declaration n s ts) (λ x.
    both (items_at n sub k (after_declaration x.0 s) x.1) (items_at (suc n) sup k (after_declaration x.0 s) x.1) _ _ (items n sub sup a k (after_declaration x.0 s) x.1) (λ y. inl refl)))
    (both (sub s ts) (sup s ts) _ _ (a s ts) (λ x.
    both (items_at n sub k (after_stmt x.0 s) x.1) (items_at (suc n) sup k (after_stmt x.0 s) x.1) _ _ (items n sub sup a k (after_stmt x.0 s) x.1) (λ y. inl refl))))

block : (n : ℕ) (sub sup : Reader Stmt) → Alike sub sup → Alike (block_at n sub) (block_at (suc n) sup)
unfolding block_at
block n sub sup a s ts = both (items_at n sub (length ts) s ts) (items_at (suc n) sup (length ts) s ts) _ _ (items n sub sup a (length ts) s ts) (λ x. inl refl)

block_nested : (n : ℕ) (sub sup : Reader Stmt) → Alike sub sup → Alike (block_in n sub) (block_in (suc n) sup)
unfolding block_in
block_nested zero sub sup a s ts = inr (length ts, refl)
block_nested (suc n) sub sup a s ts = block n sub sup a s ts

module _ (n : ℕ) (sub sup : Reader Stmt) (a : Alike sub sup) where
  if_stmt : Alike (if_at (inner n) sub) (if_at (inner (suc n)) sup)
  unfolding if_at
  if_stmt s ts =
      both (test_at (inner n) s ts) (test_at (inner (suc n)) s ts) _ _ (test n s ts) (λ x.
      both (sub (after x.0 s) x.1) (sup (after x.0 s) x.1) _ _ (a (after x.0 s) x.1) (λ y.
      chosen (else_at y.1) _ _ _ _ (inl refl) (λ rest.
      both (sub (after x.0 s) rest) (sup (after x.0 s) rest) _ _ (a (after x.0 s) rest) (λ z. inl refl))))

  switch_stmt : Alike (switch_at (inner n) sub) (switch_at (inner (suc n)) sup)
  unfolding switch_at
  switch_stmt s ts =
      both (test_at (inner n) s ts) (test_at (inner (suc n)) s ts) _ _ (test n s ts) (λ x.
      both (sub (after x.0 s) x.1) (sup (after x.0 s) x.1) _ _ (a (after x.0 s) x.1) (λ y. inl refl))

  case_stmt : Alike (case_at (inner n) sub) (case_at (inner (suc n)) sup)
  unfolding case_at
  case_stmt s ts =
      both (level_at (inner n) 11 s ts) (level_at (inner (suc n)) 11 s ts) _ _ (level (inner n) (inner (suc n)) (one_more n) 11 s ts) (λ x.
      both (colon_at x.1) (colon_at x.1) _ _ (same (colon_at x.1)) (λ rest.
      both (sub (after x.0 s) rest) (sup (after x.0 s) rest) _ _ (a (after x.0 s) rest) (λ y. inl refl)))

  default_stmt : Alike (default_at sub) (default_at sup)
  unfolding default_at
  default_stmt s ts =
      both (colon_at ts) (colon_at ts) _ _ (same (colon_at ts)) (λ rest.
      both (sub s rest) (sup s rest) _ _ (a s rest) (λ y. inl refl))

  while_stmt : Alike (while_at (inner n) sub) (while_at (inner (suc n)) sup)
  unfolding while_at
  while_stmt s ts =
      both (test_at (inner n) s ts) (test_at (inner (suc n)) s ts) _ _ (test n s ts) (λ x.
      both (sub (after x.0 s) x.1) (sup (after x.0 s) x.1) _ _ (a (after x.0 s) x.1) (λ y. inl refl))

  do_while_stmt : Alike (do_while_at (inner n) sub) (do_while_at (inner (suc n)) sup)
  unfolding do_while_at
  do_while_stmt s ts =
      both (sub s ts) (sup s ts) _ _ (a s ts) (λ x.
      both (while_word x.1) (while_word x.1) _ _ (same (while_word x.1)) (λ rest.
      both (test_at (inner n) s rest) (test_at (inner (suc n)) s rest) _ _ (test n s rest) (λ y. inl refl)))

  for_stmt : Alike (for_at n sub) (for_at (suc n) sup)
  unfolding for_at for_rest
  for_stmt s (token.Open ∷ ts) =
      both (start_at n s ts) (start_at (suc n) s ts) _ _ (start n s ts) (λ i.
      both (optional_at ((inner n).expr 13) (after_start i.0 s) i.1) (optional_at ((inner (suc n)).expr 13) (after_start i.0 s) i.1) _ _ (optional ((inner n).expr 13) ((inner (suc n)).expr 13) (nested_expr n) (after_start i.0 s) i.1) (λ x.
      both (next_at ((inner n).expr 13) (after_optional x.0 (after_start i.0 s)) x.1) (next_at ((inner (suc n)).expr 13) (after_optional x.0 (after_start i.0 s)) x.1) _ _ (step ((inner n).expr 13) ((inner (suc n)).expr 13) (nested_expr n) (after_optional x.0 (after_start i.0 s)) x.1) (λ y.
      both (sub (after_optional y.0 (after_optional x.0 (after_start i.0 s))) y.1) (sup (after_optional y.0 (after_optional x.0 (after_start i.0 s))) y.1) _ _ (a (after_optional y.0 (after_optional x.0 (after_start i.0 s))) y.1) (λ z. inl refl))))
  for_stmt s [] = inl refl
  for_stmt s (_ ∷ ts) = inl refl

  return_stmt : Alike (return_at (inner n)) (return_at (inner (suc n)))
  unfolding return_at
  return_stmt s ts = both (optional_at (level_at (inner n) 13) s ts) (optional_at (level_at (inner (suc n)) 13) s ts) _ _ (optional (level_at (inner n) 13) (level_at (inner (suc n)) 13) (level (inner n) (inner (suc n)) (one_more n) 13) s ts) (λ x. inl refl)

  do_stmt : Alike (do_at (inner n)) (do_at (inner (suc n)))
  unfolding do_at
  do_stmt s ts = both (level_at (inner n) 13 s ts) (level_at (inner (suc n)) 13 s ts) _ _ (level (inner n) (inner (suc n)) (one_more n) 13 s ts) (λ x. inl refl)

  statement : (less more : Reader Items) → Alike less more → Alike (stmt_at n sub less) (stmt_at (suc n) sup more)
  unfolding stmt_at
  statement less more b s (token.BraceOpen ∷ ts) = both (less s ts) (more s ts) _ _ (b s ts) (λ x. inl refl)
  statement less more b s (token.Semi ∷ ts) = inl refl
  statement less more b s (token.If ∷ ts) = if_stmt s ts
  statement less more b s (token.Switch ∷ ts) = switch_stmt s ts
  statement less more b s (token.Case ∷ ts) = case_stmt s ts
  statement less more b s (token.Default ∷ ts) = default_stmt s ts
  statement less more b s (token.While ∷ ts) = while_stmt s ts
  statement less more b s (token.Do ∷ ts) = do_while_stmt s ts
  statement less more b s (token.For ∷ ts) = for_stmt s ts
  statement less more b s (token.Break ∷ ts) = inl refl
  statement less more b s (token.Continue ∷ ts) = inl refl
  statement less more b s (token.Return ∷ ts) = return_stmt s ts
  statement less more b s ts = do_stmt s ts

statement_nested : (n : ℕ) → Alike (stmt_in n) (stmt_in (suc n))
unfolding stmt_in
statement_nested zero s ts = inr (length ts, refl)
statement_nested (suc n) s ts =
    statement n (stmt_in n) (stmt_in (suc n)) (statement_nested n) (block_in n (stmt_in n)) (block_in (suc n) (stmt_in (suc n))) (block_nested n (stmt_in n) (stmt_in (suc n)) (statement_nested n)) s ts

-- ---- external declarations

body : (n : ℕ) (ss : Specs) (d : Decl) → Alike (body_at n ss d) (body_at (suc n) ss d)
unfolding body_at
body n ss d s ts =
    both (block_in n (stmt_in n) (body_scope (is_typedef ss) d s) ts) (block_in (suc n) (stmt_in (suc n)) (body_scope (is_typedef ss) d s) ts) _ _ (block_nested n (stmt_in n) (stmt_in (suc n)) (statement_nested n) (body_scope (is_typedef ss) d s) ts) (λ x. inl refl)

outer : (n : ℕ) (ss : Specs) → Alike (outer_at n ss) (outer_at (suc n) ss)
unfolding outer_at
outer n ss s ts =
    both (decl_at (inner n) Named s ts) (decl_at (inner (suc n)) Named s ts) _ _ (declarator (inner n) (inner (suc n)) (one_more n) Named s ts) (λ x.
    chosen (brace_at x.1) _ _ _ _
    (both (behind_at n ss x.0 (after_decl x.0 s) x.1) (behind_at (suc n) ss x.0 (after_decl x.0 s) x.1) _ _ (behind n ss x.0 (after_decl x.0 s) x.1) (λ y. inl refl))
    (λ rest. body n ss x.0 (after_decl x.0 s) rest))

pub external : (n : ℕ) → Alike (ext_at n) (ext_at (suc n))
unfolding ext_at
external n s ts =
    both (specifiers_at (inner n) s ts) (specifiers_at (inner (suc n)) s ts) _ _ (specifiers (inner n) (inner (suc n)) (one_more n) s ts) (λ x.
    chosen (ends_semi x.1) _ _ _ _ (outer n x.0 (after_specs x.0 s) x.1) (λ rest. inl refl))
