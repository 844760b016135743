-- Declarations, statements and external declarations that are read are spelled so, and fit.
use Rattle.std.proofs.Common.{◌≡◌, ℕ, zero, suc, Bool, true, false, List, [], ◌∷◌, length, Option, Some, None, Ok, Err, refl, sym, ap, subst, ◌∙◌}
use Rattle.std.specs.Prelude.{IfOk}
use Rattle.c_grammar.specs.declared.token.Allowed.TheVariants.{Named}
use Rattle.c_grammar.specs.declared.token.Token.{Token}
use Rattle.c_grammar.specs.declared.token.Token.TheVariants as token
use Rattle.c_grammar.specs.Grammar.{Scope, starts_type, Expr, Specs, Decl, after, after_specs, after_decl, is_typedef, spell, spell_specs, spell_decl, spell_comma, is_based, NoBase, Fits, FitsSpecifiers, FitsDecl, Within}
use Rattle.c_grammar.specs.Reading.{Read, Reader, closed_at, braced_at, semi_at, colon_at, comma_at, ends_braces, last_comma, level_at, specifiers_at, begins_spec, decl_at, inner}
use Rattle.c_unit_grammar.specs.Statements.{Initial, Value, Braced, Initials, no_initials, initial, spell_initial, spell_initials, after_initial, FitsInitial, FitsInitials, Init, Declaration, spell_value, spell_init, spell_inits, spell_declaration, declared, after_value, after_init, after_declaration, FitsValue, FitsInit, FitsInits, FitsDeclaration, WithinDeclaration, HasDeclarators, Start, ForDeclares, ForExpr, Stmt, Block, Empty, Do, OnlyIf, IfElse, Switch, Case, Default, While, DoWhile, For, Break, Continue, Return, Items, spell_optional, spell_start, spell_stmt, spell_items, after_optional, after_start, after_stmt, takes_else, StopsElse, WithinOptional, FitsOptional, FitsStart, FitsStmt, FitsItems, WithinStmt, WithinItems, body_scope, Ext, spell_ext, FitsExt}
use Rattle.c_unit_grammar.specs.Reading.{ends_semi, ends_parens, equals_at, brace_at, else_at, while_word, next_initial, initials_at, braced_initial, plain_initial, initial_at, initial_in, value_at, init_at, inits_at, behind_at, declares_at, declaration_at, declarators_at, declarators_in, test_at, optional_at, next_at, items_at, block_at, block_in, if_at, switch_at, case_at, default_at, while_at, do_while_at, start_at, for_rest, for_at, break_at, continue_at, return_at, do_at, stmt_at, stmt_in, body_at, outer_at, ext_at}
use Rattle.c_grammar.proofs.Sound.{ok_then, ok_also, chosen, tested, closed_sound, braced_sound, semi_sound, colon_sound, IsComma, comma_sound, last_sound, IsRead, level_sound, specifiers_sound, decl_sound, inner_sound}
use Rattle.c_grammar.proofs.Beginnings.{no_base}

-- ---- single tokens

abbrev IsSemi : List Token → Option (List Token) → Type 0
IsSemi ts None = Unit {0}
IsSemi ts (Some rest) = ts ≡ token.Semi ∷ rest

ends_sound : (ts : List Token) → IsSemi ts (ends_semi ts)
unfolding ends_semi
ends_sound (token.Semi ∷ ts) = refl
ends_sound [] = tt
ends_sound (_ ∷ ts) = tt

abbrev IsClose : List Token → Option (List Token) → Type 0
IsClose ts None = Unit {0}
IsClose ts (Some rest) = ts ≡ token.Close ∷ rest

parens_sound : (ts : List Token) → IsClose ts (ends_parens ts)
unfolding ends_parens
parens_sound (token.Close ∷ ts) = refl
parens_sound [] = tt
parens_sound (_ ∷ ts) = tt

abbrev IsEquals : List Token → Option (List Token) → Type 0
IsEquals ts None = Unit {0}
IsEquals ts (Some rest) = ts ≡ token.Equals ∷ rest

equals_sound : (ts : List Token) → IsEquals ts (equals_at ts)
unfolding equals_at
equals_sound (token.Equals ∷ ts) = refl
equals_sound [] = tt
equals_sound (_ ∷ ts) = tt

abbrev IsBrace : List Token → Option (List Token) → Type 0
IsBrace ts None = Unit {0}
IsBrace ts (Some rest) = ts ≡ token.BraceOpen ∷ rest

brace_sound : (ts : List Token) → IsBrace ts (brace_at ts)
unfolding brace_at
brace_sound (token.BraceOpen ∷ ts) = refl
brace_sound [] = tt
brace_sound (_ ∷ ts) = tt

abbrev IsElse : List Token → Option (List Token) → Type 0
IsElse ts None = StopsElse true ts
IsElse ts (Some rest) = ts ≡ token.Else ∷ rest

else_sound : (ts : List Token) → IsElse ts (else_at ts)
unfolding else_at
else_sound (token.Else ∷ ts) = refl
else_sound [] = tt
else_sound (_ ∷ ts) = tt

while_sound_word : (ts : List Token) → IfOk (while_word ts) (λ rest. ts ≡ token.While ∷ rest)
unfolding while_word
while_sound_word (token.While ∷ ts) = refl
while_sound_word [] = tt
while_sound_word (_ ∷ ts) = tt

next_sound : (ts : List Token) → IsComma ts (next_initial ts)
unfolding next_initial
next_sound (token.Comma ∷ token.BraceClose ∷ ts) = tt
next_sound (token.Comma ∷ []) = refl
next_sound (token.Comma ∷ _ ∷ ts) = refl
next_sound [] = tt
next_sound (_ ∷ ts) = tt

taken : (b : Bool) (ts rest : List Token) → ts ≡ token.Else ∷ rest → StopsElse b ts → b ≡ false
taken b ts rest e s = pick b (subst (StopsElse b) e s)
  where
    pick : (b : Bool) → StopsElse b (token.Else ∷ rest) → b ≡ false
    pick true s = absurd s
    pick false s = refl

-- ---- initial values

abbrev pub IsInitial : ℕ → Scope → List Token → Initial × List Token → Type 0
IsInitial n s ts x = (ts ≡ spell_initial x.0 x.1) × FitsInitial n s x.0

abbrev pub WithinInitial : ℕ → Scope → Initial → Type 0
WithinInitial zero s i = ⊥
WithinInitial (suc n) s i = FitsInitial n s i

abbrev pub InInitial : ℕ → Scope → List Token → Initial × List Token → Type 0
InInitial n s ts x = (ts ≡ spell_initial x.0 x.1) × WithinInitial n s x.0

abbrev WithinInitials : ℕ → Scope → Initials → Type 0
WithinInitials zero s is = Unit {0}
WithinInitials (suc n) s is = FitsInitials n s is

more_initials : (n : ℕ) (s : Scope) (i : Initial) (is : Initials) → WithinInitial n s i → WithinInitials n (after_initial i s) is → WithinInitials n s (initial i is)
more_initials zero s i is w v = tt
more_initials (suc n) s i is w v = (w, v)

braced_fits : (n : ℕ) (s : Scope) (i : Initial) (is : Initials) (c : Bool) → WithinInitial n s i → WithinInitials n (after_initial i s) is → FitsInitial n s (Braced i is c)
braced_fits zero s i is c w v = w
braced_fits (suc n) s i is c w v = (w, v)

value_fits : (n : ℕ) (s : Scope) (e : Expr) → Fits n 12 s e → FitsInitial n s (Value e)
value_fits zero s e f = f
value_fits (suc n) s e f = f

no_initials_fit : (n : ℕ) (s : Scope) → WithinInitials n s no_initials
no_initials_fit zero s = tt
no_initials_fit (suc n) s = tt

a_level : (n h : ℕ) (s : Scope) (ts : List Token) → IfOk (level_at (inner n) h s ts) (IsRead n h s ts)
a_level n h s ts = level_sound (inner n) n (inner_sound n) h s ts

module _ (n : ℕ) (sub : Reader Initial) (i : (s : Scope) (ts : List Token) → IfOk (sub s ts) (InInitial n s ts)) where
  abbrev AreInitials : Scope → List Token → Initials × List Token → Type 0
  AreInitials s ts y = (ts ≡ spell_initials y.0 y.1) × WithinInitials n s y.0

  initials_sound : (k : ℕ) (s : Scope) (ts : List Token) → IfOk (initials_at sub k s ts) (AreInitials s ts)
  unfolding initials_at
  initials_sound zero s ts = (refl, no_initials_fit n s)
  initials_sound (suc k) s ts =
      chosen (next_initial ts) _ _ (IsComma ts) _ (next_sound ts) (λ _. (refl, no_initials_fit n s)) (λ rest c.
      ok_then (sub s rest) _ (InInitial n s rest) _ (i s rest) (λ x p.
      ok_then (initials_at sub k (after_initial x.0 s) x.1) _ (AreInitials (after_initial x.0 s) x.1) _ (initials_sound k (after_initial x.0 s) x.1) (λ y q.
      (c ∙ ap (λ r. token.Comma ∷ r) (p.0 ∙ ap (spell_initial x.0) q.0), more_initials n s x.0 y.0 p.1 q.1))))

  braced_initial_sound : (s : Scope) (ts : List Token) → IfOk (braced_initial sub s ts) (IsInitial n s (token.BraceOpen ∷ ts))
  unfolding braced_initial
  braced_initial_sound s ts =
      ok_then (sub s ts) _ (InInitial n s ts) _ (i s ts) (λ x p.
      ok_then (initials_at sub (length x.1) (after_initial x.0 s) x.1) _ (AreInitials (after_initial x.0 s) x.1) _ (initials_sound (length x.1) (after_initial x.0 s) x.1) (λ y q.
      ok_then (braced_at (last_comma y.1).1) _ (λ rest. (last_comma y.1).1 ≡ token.BraceClose ∷ rest) _ (braced_sound (last_comma y.1).1) (λ rest c.
      (ap (λ r. token.BraceOpen ∷ r) (p.0 ∙ ap (spell_initial x.0) (q.0 ∙ ap (spell_initials y.0) (last_sound y.1 ∙ ap (spell_comma (last_comma y.1).0) c))), braced_fits n s x.0 y.0 (last_comma y.1).0 p.1 q.1))))

  initial_sound : (s : Scope) (ts : List Token) → IfOk (initial_at n sub s ts) (IsInitial n s ts)
  unfolding initial_at plain_initial
  initial_sound s ts =
      chosen (brace_at ts) _ _ (IsBrace ts) _ (brace_sound ts)
      (λ _. ok_then (level_at (inner n) 12 s ts) _ (IsRead n 12 s ts) _ (a_level n 12 s ts) (λ x p. (p.0, value_fits n s x.0 p.1)))
      (λ rest b. ok_map rest b (braced_initial sub s rest) (braced_initial_sound s rest))
    where
      ok_map : (rest : List Token) → ts ≡ token.BraceOpen ∷ rest → (m : Read Initial) → IfOk m (IsInitial n s (token.BraceOpen ∷ rest)) → IfOk m (IsInitial n s ts)
      ok_map rest b (Ok x) p = (b ∙ p.0, p.1)
      ok_map rest b (Err e) p = tt

pub initial_in_sound : (n : ℕ) (s : Scope) (ts : List Token) → IfOk (initial_in n s ts) (InInitial n s ts)
unfolding initial_in
initial_in_sound zero s ts = tt
initial_in_sound (suc n) s ts = initial_sound n (initial_in n) (initial_in_sound n) s ts

-- ---- declarations

module _ (n : ℕ) where
  abbrev IsDecl : Scope → List Token → Decl × List Token → Type 0
  IsDecl s ts x = (ts ≡ spell_decl x.0 x.1) × FitsDecl n Named s x.0

  a_decl : (s : Scope) (ts : List Token) → IfOk (decl_at (inner n) Named s ts) (IsDecl s ts)
  a_decl s ts = decl_sound (inner n) n (inner_sound n) Named s ts

  abbrev HasSpecs : Scope → List Token → Specs × List Token → Type 0
  HasSpecs s ts y = (ts ≡ spell_specs y.0 y.1) × FitsSpecifiers n s y.0 × (begins_spec (is_based false y.0) (after_specs y.0 s) y.1 ≡ false)

  some_specs : (s : Scope) (ts : List Token) → IfOk (specifiers_at (inner n) s ts) (HasSpecs s ts)
  some_specs s ts = specifiers_sound (inner n) n (inner_sound n) s ts

  -- what stands behind specifiers is no base of theirs
  behind_specs : (specs : Specs) (s : Scope) (d : Decl) (ts rest : List Token) → begins_spec (is_based false specs) (after_specs specs s) ts ≡ false → ts ≡ spell_decl d rest → NoBase (is_based false specs) (after_specs specs s) d
  behind_specs specs s d ts rest none e = no_base (is_based false specs) (after_specs specs s) d rest (ap (begins_spec (is_based false specs) (after_specs specs s)) (sym e) ∙ none)

  abbrev IsValue : Scope → List Token → Option Initial × List Token → Type 0
  IsValue s ts x = (ts ≡ spell_value x.0 x.1) × FitsValue n s x.0

  value_sound : (s : Scope) (ts : List Token) → IfOk (value_at n s ts) (IsValue s ts)
  unfolding value_at
  value_sound s ts =
      chosen (equals_at ts) _ _ (IsEquals ts) _ (equals_sound ts) (λ _. (refl, tt)) (λ rest i.
      ok_then (initial_at n (initial_in n) s rest) _ (IsInitial n s rest) _ (initial_sound n (initial_in n) (initial_in_sound n) s rest) (λ x p. (i ∙ ap (λ r. token.Equals ∷ r) p.0, p.1)))

  abbrev IsInit : Bool → Scope → List Token → Init × List Token → Type 0
  IsInit td s ts x = (ts ≡ spell_init x.0 x.1) × FitsInit n td s x.0

  init_sound : (td : Bool) (s : Scope) (ts : List Token) → IfOk (init_at n td s ts) (IsInit td s ts)
  unfolding init_at
  init_sound td s ts =
      ok_then (decl_at (inner n) Named s ts) _ (IsDecl s ts) _ (a_decl s ts) (λ x p.
      ok_then (value_at n (declared td x.0 s) x.1) _ (IsValue (declared td x.0 s) x.1) _ (value_sound (declared td x.0 s) x.1) (λ y q.
      (p.0 ∙ ap (spell_decl x.0) q.0, (p.1, q.1))))

  abbrev AreInits : Bool → Scope → List Token → List Init × List Token → Type 0
  AreInits td s ts x = (ts ≡ spell_inits x.0 x.1) × FitsInits n td s x.0

  inits_sound : (td : Bool) (k : ℕ) (s : Scope) (ts : List Token) → IfOk (inits_at n td k s ts) (AreInits td s ts)
  unfolding inits_at
  inits_sound td zero s ts = (refl, tt)
  inits_sound td (suc k) s ts =
      chosen (comma_at ts) _ _ (IsComma ts) _ (comma_sound ts) (λ _. (refl, tt)) (λ rest i.
      ok_then (init_at n td s rest) _ (IsInit td s rest) _ (init_sound td s rest) (λ x p.
      ok_then (inits_at n td k (after_init td x.0 s) x.1) _ (AreInits td (after_init td x.0 s) x.1) _ (inits_sound td k (after_init td x.0 s) x.1) (λ y q.
      (i ∙ ap (λ r. token.Comma ∷ r) (p.0 ∙ ap (spell_init x.0) q.0), (p.1, q.1)))))

  abbrev pub IsDeclaration : Scope → List Token → Declaration × List Token → Type 0
  IsDeclaration s ts x = (ts ≡ spell_declaration x.0 x.1) × FitsDeclaration n s x.0

  abbrev pub HasInits : Scope → List Token → Declaration × List Token → Type 0
  HasInits s ts x = (ts ≡ spell_declaration x.0 x.1) × FitsDeclaration n s x.0 × HasDeclarators x.0

  behind_sound : (specs : Specs) (d : Decl) (s : Scope) (ts all : List Token) → FitsSpecifiers n s specs → FitsDecl n Named (after_specs specs s) d → NoBase (is_based false specs) (after_specs specs s) d → all ≡ spell_specs specs (spell_decl d ts) → IfOk (behind_at n specs d (after_decl d (after_specs specs s)) ts) (HasInits s all)
  unfolding behind_at
  behind_sound specs d s ts all fs fd nb e =
      let td = is_typedef specs in
      let s1 = declared td d (after_specs specs s) in
      ok_then (value_at n s1 ts) _ (IsValue s1 ts) _ (value_sound s1 ts) (λ x p.
      ok_then (inits_at n td (length x.1) (after_value x.0 s1) x.1) _ (AreInits td (after_value x.0 s1) x.1) _ (inits_sound td (length x.1) (after_value x.0 s1) x.1) (λ y q.
      ok_then (semi_at y.1) _ (λ rest. y.1 ≡ token.Semi ∷ rest) _ (semi_sound y.1) (λ rest c.
      (e ∙ ap (λ r. spell_specs specs (spell_decl d r)) (p.0 ∙ ap (spell_value x.0) (q.0 ∙ ap (spell_inits y.0) c)), (fs, ((fd, p.1), q.1), nb), tt))))

  declares_sound : (s : Scope) (ts : List Token) (specs : Specs) (rest : List Token) → HasSpecs s ts (specs, rest) → IfOk (declares_at n specs (after_specs specs s) rest) (HasInits s ts)
  unfolding declares_at
  declares_sound s ts specs rest p =
      ok_then (decl_at (inner n) Named (after_specs specs s) rest) _ (IsDecl (after_specs specs s) rest) _ (a_decl (after_specs specs s) rest) (λ y q.
      behind_sound specs y.0 s y.1 ts p.1 q.1 (behind_specs specs s y.0 rest y.1 p.2 q.0) (p.0 ∙ ap (spell_specs specs) q.0))

  pub declarators_sound : (s : Scope) (ts : List Token) → IfOk (declarators_at n s ts) (HasInits s ts)
  unfolding declarators_at
  declarators_sound s ts = ok_then (specifiers_at (inner n) s ts) _ (HasSpecs s ts) _ (some_specs s ts) (λ x p. declares_sound s ts x.0 x.1 p)

  pub declaration_sound : (s : Scope) (ts : List Token) → IfOk (declaration_at n s ts) (IsDeclaration s ts)
  unfolding declaration_at
  declaration_sound s ts =
      ok_then (specifiers_at (inner n) s ts) _ (HasSpecs s ts) _ (some_specs s ts) (λ x p.
      chosen (ends_semi x.1) _ _ (IsSemi x.1) _ (ends_sound x.1)
      (λ _. ok_also (declares_at n x.0 (after_specs x.0 s) x.1) (HasInits s ts) (IsDeclaration s ts) (declares_sound s ts x.0 x.1 p) (λ y q. (q.0, q.1)))
      (λ rest c. (p.0 ∙ ap (spell_specs x.0) c, p.1)))

abbrev InDeclarators : ℕ → Scope → List Token → Declaration × List Token → Type 0
InDeclarators n s ts x = (ts ≡ spell_declaration x.0 x.1) × WithinDeclaration n s x.0 × HasDeclarators x.0

declarators_in_sound : (n : ℕ) (s : Scope) (ts : List Token) → IfOk (declarators_in n s ts) (InDeclarators n s ts)
unfolding declarators_in
declarators_in_sound zero s ts = tt
declarators_in_sound (suc n) s ts = declarators_sound n s ts

-- ---- expressions in statements

abbrev IsTest : ℕ → Scope → List Token → Expr × List Token → Type 0
IsTest n s ts x = (ts ≡ token.Open ∷ spell x.0 (token.Close ∷ x.1)) × Within n 13 s x.0

test_sound : (n : ℕ) (s : Scope) (ts : List Token) → IfOk (test_at (inner n) s ts) (IsTest n s ts)
unfolding test_at
test_sound n s (token.Open ∷ ts) =
    ok_then ((inner n).expr 13 s ts) _ (λ x. (ts ≡ spell x.0 x.1) × Within n 13 s x.0) _ ((inner_sound n).expr 13 s ts) (λ x p.
    ok_then (closed_at x.1) _ (λ rest. x.1 ≡ token.Close ∷ rest) _ (closed_sound x.1) (λ rest c.
    (ap (λ r. token.Open ∷ r) (p.0 ∙ ap (spell x.0) c), p.1)))
test_sound n s [] = tt
test_sound n s (_ ∷ ts) = tt

abbrev IsOptional : (Scope → Option Expr → Type 0) → Scope → List Token → Token → Option Expr × List Token → Type 0
IsOptional fits s ts t x = (ts ≡ spell_optional x.0 (t ∷ x.1)) × fits s x.0

optional_sound : (e : Reader Expr) (fits : Scope → Option Expr → Type 0) (s : Scope) (ts : List Token) → fits s None → IfOk (e s ts) (λ x. (ts ≡ spell x.0 x.1) × fits s (Some x.0)) → IfOk (optional_at e s ts) (IsOptional fits s ts token.Semi)
unfolding optional_at
optional_sound e fits s ts none i =
    chosen (ends_semi ts) _ _ (IsSemi ts) _ (ends_sound ts)
    (λ _. ok_then (e s ts) _ (λ x. (ts ≡ spell x.0 x.1) × fits s (Some x.0)) _ i (λ x p.
    ok_then (semi_at x.1) _ (λ rest. x.1 ≡ token.Semi ∷ rest) _ (semi_sound x.1) (λ rest c.
    (p.0 ∙ ap (spell x.0) c, p.1))))
    (λ rest c. (c, none))

next_at_sound : (e : Reader Expr) (fits : Scope → Option Expr → Type 0) (s : Scope) (ts : List Token) → fits s None → IfOk (e s ts) (λ x. (ts ≡ spell x.0 x.1) × fits s (Some x.0)) → IfOk (next_at e s ts) (IsOptional fits s ts token.Close)
unfolding next_at
next_at_sound e fits s ts none i =
    chosen (ends_parens ts) _ _ (IsClose ts) _ (parens_sound ts)
    (λ _. ok_then (e s ts) _ (λ x. (ts ≡ spell x.0 x.1) × fits s (Some x.0)) _ i (λ x p.
    ok_then (closed_at x.1) _ (λ rest. x.1 ≡ token.Close ∷ rest) _ (closed_sound x.1) (λ rest c.
    (p.0 ∙ ap (spell x.0) c, p.1))))
    (λ rest c. (c, none))

-- ---- statements

abbrev pub InStmt : ℕ → Scope → List Token → Stmt × List Token → Type 0
InStmt n s ts x = (ts ≡ spell_stmt x.0 x.1) × WithinStmt n s x.0 × StopsElse (takes_else x.0) x.1

abbrev pub IsStmt : ℕ → Scope → List Token → Stmt × List Token → Type 0
IsStmt n s ts x = (ts ≡ spell_stmt x.0 x.1) × FitsStmt n s x.0 × StopsElse (takes_else x.0) x.1

if_fits : (n : ℕ) (s : Scope) (e : Expr) (a : Stmt) → Within n 13 s e → WithinStmt n (after e s) a → FitsStmt n s (OnlyIf e a)
if_fits zero s e a f w = w
if_fits (suc n) s e a f w = (f, w)

else_fits : (n : ℕ) (s : Scope) (e : Expr) (a b : Stmt) → Within n 13 s e → WithinStmt n (after e s) a → WithinStmt n (after e s) b → takes_else a ≡ false → FitsStmt n s (IfElse e a b)
else_fits zero s e a b f w v t = w
else_fits (suc n) s e a b f w v t = (f, w, v, t)

switch_fits : (n : ℕ) (s : Scope) (e : Expr) (a : Stmt) → Within n 13 s e → WithinStmt n (after e s) a → FitsStmt n s (Switch e a)
switch_fits zero s e a f w = w
switch_fits (suc n) s e a f w = (f, w)

case_fits : (n : ℕ) (s : Scope) (e : Expr) (a : Stmt) → Fits n 11 s e → WithinStmt n (after e s) a → FitsStmt n s (Case e a)
case_fits zero s e a f w = w
case_fits (suc n) s e a f w = (f, w)

default_fits : (n : ℕ) (s : Scope) (a : Stmt) → WithinStmt n s a → FitsStmt n s (Default a)
default_fits zero s a w = w
default_fits (suc n) s a w = w

while_fits : (n : ℕ) (s : Scope) (e : Expr) (a : Stmt) → Within n 13 s e → WithinStmt n (after e s) a → FitsStmt n s (While e a)
while_fits zero s e a f w = w
while_fits (suc n) s e a f w = (f, w)

do_while_fits : (n : ℕ) (s : Scope) (e : Expr) (a : Stmt) → WithinStmt n s a → Within n 13 s e → FitsStmt n s (DoWhile a e)
do_while_fits zero s e a w f = w
do_while_fits (suc n) s e a w f = (w, f)

abbrev WithinStart : ℕ → Scope → Start → Type 0
WithinStart n s (ForDeclares d) = WithinDeclaration n s d × HasDeclarators d
WithinStart n s (ForExpr e) = WithinOptional n s e

start_fits : (n : ℕ) (s : Scope) (i : Start) → WithinStart (suc n) s i → FitsStart n s i
start_fits n s (ForDeclares d) w = w
start_fits n s (ForExpr None) w = tt
start_fits n s (ForExpr (Some e)) w = w

optional_fits : (n : ℕ) (s : Scope) (e : Option Expr) → WithinOptional (suc n) s e → FitsOptional n s e
optional_fits n s None w = tt
optional_fits n s (Some e) w = w

for_fits : (n : ℕ) (s : Scope) (i : Start) (e f : Option Expr) (a : Stmt) → WithinStart n s i → WithinOptional n (after_start i s) e → WithinOptional n (after_optional e (after_start i s)) f → WithinStmt n (after_optional f (after_optional e (after_start i s))) a → FitsStmt n s (For i e f a)
for_fits zero s i e f a p q t w = w
for_fits (suc n) s i e f a p q t w = (start_fits n s i p, optional_fits n (after_start i s) e q, optional_fits n (after_optional e (after_start i s)) f t, w)

do_fits : (n : ℕ) (s : Scope) (e : Expr) → Fits n 13 s e → FitsStmt n s (Do e)
do_fits zero s e f = f
do_fits (suc n) s e f = f

return_fits : (n : ℕ) (s : Scope) (e : Option Expr) → FitsOptional n s e → FitsStmt n s (Return e)
return_fits zero s e f = f
return_fits (suc n) s e f = f

empty_fits : (n : ℕ) (s : Scope) → FitsStmt n s Empty × FitsStmt n s Break × FitsStmt n s Continue
empty_fits zero s = (tt, tt, tt)
empty_fits (suc n) s = (tt, tt, tt)

block_fits : (n : ℕ) (s : Scope) (items : Items) → WithinItems n s items → FitsStmt n s (Block items)
block_fits zero s items w = w
block_fits (suc n) s items w = w

module _ (n : ℕ) (sub : Reader Stmt) (i : (s : Scope) (ts : List Token) → IfOk (sub s ts) (IsStmt n s ts)) where
  abbrev AreItems : Scope → List Token → Items × List Token → Type 0
  AreItems s ts x = (ts ≡ spell_items x.0 x.1) × FitsItems n s x.0

  items_sound : (k : ℕ) (s : Scope) (ts : List Token) → IfOk (items_at n sub k s ts) (AreItems s ts)
  unfolding items_at
  items_sound zero s ts = (refl, tt)
  items_sound (suc k) s ts =
      tested (ends_braces ts) _ _ _ (λ _. (refl, tt)) (λ _. tested (starts_type s ts) _ _ _
      (λ _. ok_then (declaration_at n s ts) _ (IsDeclaration n s ts) _ (declaration_sound n s ts) (λ x p.
      ok_then (items_at n sub k (after_declaration x.0 s) x.1) _ (AreItems (after_declaration x.0 s) x.1) _ (items_sound k (after_declaration x.0 s) x.1) (λ y q.
      (p.0 ∙ ap (spell_declaration x.0) q.0, (p.1, q.1)))))
      (λ _. ok_then (sub s ts) _ (IsStmt n s ts) _ (i s ts) (λ x p.
      ok_then (items_at n sub k (after_stmt x.0 s) x.1) _ (AreItems (after_stmt x.0 s) x.1) _ (items_sound k (after_stmt x.0 s) x.1) (λ y q.
      (p.0 ∙ ap (spell_stmt x.0) q.0, (p.1, q.1))))))

  pub block_sound : (s : Scope) (ts : List Token) → IfOk (block_at n sub s ts) (λ x. (ts ≡ spell_items x.0 (token.BraceClose ∷ x.1)) × FitsItems n s x.0)
  unfolding block_at
  block_sound s ts =
      ok_then (items_at n sub (length ts) s ts) _ (AreItems s ts) _ (items_sound (length ts) s ts) (λ x p.
      ok_then (braced_at x.1) _ (λ rest. x.1 ≡ token.BraceClose ∷ rest) _ (braced_sound x.1) (λ rest c.
      (p.0 ∙ ap (spell_items x.0) c, p.1)))

abbrev InBlock : ℕ → Scope → List Token → Items × List Token → Type 0
InBlock n s ts x = (ts ≡ spell_items x.0 (token.BraceClose ∷ x.1)) × WithinItems n s x.0

block_in_sound : (n : ℕ) (sub : Reader Stmt) → ((s : Scope) (ts : List Token) → IfOk (sub s ts) (InStmt n s ts)) → (s : Scope) (ts : List Token) → IfOk (block_in n sub s ts) (InBlock n s ts)
unfolding block_in
block_in_sound zero sub i s ts = tt
block_in_sound (suc n) sub i s ts = block_sound n sub i s ts

module _ (n : ℕ) (sub : Reader Stmt) (i : (s : Scope) (ts : List Token) → IfOk (sub s ts) (InStmt n s ts)) where
  if_sound : (s : Scope) (ts : List Token) → IfOk (if_at (inner n) sub s ts) (IsStmt n s (token.If ∷ ts))
  unfolding if_at
  if_sound s ts =
      ok_then (test_at (inner n) s ts) _ (IsTest n s ts) _ (test_sound n s ts) (λ x p.
      ok_then (sub (after x.0 s) x.1) _ (InStmt n (after x.0 s) x.1) _ (i (after x.0 s) x.1) (λ y q.
      let so_far = ap (λ r. token.If ∷ r) (p.0 ∙ ap (λ r. token.Open ∷ spell x.0 (token.Close ∷ r)) q.0) in
      chosen (else_at y.1) _ _ (IsElse y.1) _ (else_sound y.1)
      (λ none. (so_far, if_fits n s x.0 y.0 p.1 q.1, none))
      (λ rest c. ok_then (sub (after x.0 s) rest) _ (InStmt n (after x.0 s) rest) _ (i (after x.0 s) rest) (λ z t. (
        so_far ∙ ap (λ r. token.If ∷ token.Open ∷ spell x.0 (token.Close ∷ spell_stmt y.0 r)) (c ∙ ap (λ r. token.Else ∷ r) t.0),
        else_fits n s x.0 y.0 z.0 p.1 q.1 t.1 (taken (takes_else y.0) y.1 rest c q.2),
        t.2,
      )))))

  switch_sound : (s : Scope) (ts : List Token) → IfOk (switch_at (inner n) sub s ts) (IsStmt n s (token.Switch ∷ ts))
  unfolding switch_at
  switch_sound s ts =
      ok_then (test_at (inner n) s ts) _ (IsTest n s ts) _ (test_sound n s ts) (λ x p.
      ok_then (sub (after x.0 s) x.1) _ (InStmt n (after x.0 s) x.1) _ (i (after x.0 s) x.1) (λ y q.
      (ap (λ r. token.Switch ∷ r) (p.0 ∙ ap (λ r. token.Open ∷ spell x.0 (token.Close ∷ r)) q.0), switch_fits n s x.0 y.0 p.1 q.1, q.2)))

  case_sound : (s : Scope) (ts : List Token) → IfOk (case_at (inner n) sub s ts) (IsStmt n s (token.Case ∷ ts))
  unfolding case_at
  case_sound s ts =
      ok_then (level_at (inner n) 11 s ts) _ (IsRead n 11 s ts) _ (a_level n 11 s ts) (λ x p.
      ok_then (colon_at x.1) _ (λ rest. x.1 ≡ token.Colon ∷ rest) _ (colon_sound x.1) (λ rest c.
      ok_then (sub (after x.0 s) rest) _ (InStmt n (after x.0 s) rest) _ (i (after x.0 s) rest) (λ y q.
      (ap (λ r. token.Case ∷ r) (p.0 ∙ ap (spell x.0) (c ∙ ap (λ r. token.Colon ∷ r) q.0)), case_fits n s x.0 y.0 p.1 q.1, q.2))))

  default_sound : (s : Scope) (ts : List Token) → IfOk (default_at sub s ts) (IsStmt n s (token.Default ∷ ts))
  unfolding default_at
  default_sound s ts =
      ok_then (colon_at ts) _ (λ rest. ts ≡ token.Colon ∷ rest) _ (colon_sound ts) (λ rest c.
      ok_then (sub s rest) _ (InStmt n s rest) _ (i s rest) (λ y q.
      (ap (λ r. token.Default ∷ r) (c ∙ ap (λ r. token.Colon ∷ r) q.0), default_fits n s y.0 q.1, q.2)))

  while_sound : (s : Scope) (ts : List Token) → IfOk (while_at (inner n) sub s ts) (IsStmt n s (token.While ∷ ts))
  unfolding while_at
  while_sound s ts =
      ok_then (test_at (inner n) s ts) _ (IsTest n s ts) _ (test_sound n s ts) (λ x p.
      ok_then (sub (after x.0 s) x.1) _ (InStmt n (after x.0 s) x.1) _ (i (after x.0 s) x.1) (λ y q.
      (ap (λ r. token.While ∷ r) (p.0 ∙ ap (λ r. token.Open ∷ spell x.0 (token.Close ∷ r)) q.0), while_fits n s x.0 y.0 p.1 q.1, q.2)))

  do_while_sound : (s : Scope) (ts : List Token) → IfOk (do_while_at (inner n) sub s ts) (IsStmt n s (token.Do ∷ ts))
  unfolding do_while_at
  do_while_sound s ts =
      ok_then (sub s ts) _ (InStmt n s ts) _ (i s ts) (λ x p.
      ok_then (while_word x.1) _ (λ rest. x.1 ≡ token.While ∷ rest) _ (while_sound_word x.1) (λ mid w.
      ok_then (test_at (inner n) s mid) _ (IsTest n s mid) _ (test_sound n s mid) (λ y q.
      ok_then (semi_at y.1) _ (λ rest. y.1 ≡ token.Semi ∷ rest) _ (semi_sound y.1) (λ rest c.
      (ap (λ r. token.Do ∷ r) (p.0 ∙ ap (spell_stmt x.0) (w ∙ ap (λ r. token.While ∷ r) (q.0 ∙ ap (λ r. token.Open ∷ spell y.0 (token.Close ∷ r)) c))), do_while_fits n s y.0 x.0 p.1 q.1, tt)))))

  nested_optional : (s : Scope) (ts : List Token) → IfOk (optional_at ((inner n).expr 13) s ts) (IsOptional (λ t e. WithinOptional n t e) s ts token.Semi)
  nested_optional s ts = optional_sound ((inner n).expr 13) (λ t e. WithinOptional n t e) s ts (none n s) ((inner_sound n).expr 13 s ts)
    where
      none : (n : ℕ) (s : Scope) → WithinOptional n s None
      none n s = tt

  nested_next : (s : Scope) (ts : List Token) → IfOk (next_at ((inner n).expr 13) s ts) (IsOptional (λ t e. WithinOptional n t e) s ts token.Close)
  nested_next s ts = next_at_sound ((inner n).expr 13) (λ t e. WithinOptional n t e) s ts tt ((inner_sound n).expr 13 s ts)

  abbrev IsStart : Scope → List Token → Start × List Token → Type 0
  IsStart s ts x = (ts ≡ spell_start x.0 x.1) × WithinStart n s x.0

  start_sound : (s : Scope) (ts : List Token) → IfOk (start_at n s ts) (IsStart s ts)
  unfolding start_at
  start_sound s ts =
      tested (starts_type s ts) _ _ _
      (λ _. ok_then (declarators_in n s ts) _ (InDeclarators n s ts) _ (declarators_in_sound n s ts) (λ x p. (p.0, (p.1, p.2))))
      (λ _. ok_then (optional_at ((inner n).expr 13) s ts) _ (IsOptional (λ t e. WithinOptional n t e) s ts token.Semi) _ (nested_optional s ts) (λ x p. p))

  for_sound : (s : Scope) (ts : List Token) → IfOk (for_at n sub s ts) (IsStmt n s (token.For ∷ ts))
  unfolding for_at for_rest
  for_sound s (token.Open ∷ ts) =
      ok_then (start_at n s ts) _ (IsStart s ts) _ (start_sound s ts) (λ d p.
      let s1 = after_start d.0 s in
      ok_then (optional_at ((inner n).expr 13) s1 d.1) _ (IsOptional (λ t e. WithinOptional n t e) s1 d.1 token.Semi) _ (nested_optional s1 d.1) (λ x q.
      let s2 = after_optional x.0 s1 in
      ok_then (next_at ((inner n).expr 13) s2 x.1) _ (IsOptional (λ t e. WithinOptional n t e) s2 x.1 token.Close) _ (nested_next s2 x.1) (λ y t.
      ok_then (sub (after_optional y.0 s2) y.1) _ (InStmt n (after_optional y.0 s2) y.1) _ (i (after_optional y.0 s2) y.1) (λ z w. (
        ap (λ r. token.For ∷ token.Open ∷ r) (p.0 ∙ ap (spell_start d.0) (q.0 ∙ ap (λ r. spell_optional x.0 (token.Semi ∷ r)) (t.0 ∙ ap (λ r. spell_optional y.0 (token.Close ∷ r)) w.0))),
        for_fits n s d.0 x.0 y.0 z.0 p.1 q.1 t.1 w.1,
        w.2,
      )))))
  for_sound s [] = tt
  for_sound s (_ ∷ ts) = tt

  do_sound : (s : Scope) (ts : List Token) → IfOk (do_at (inner n) s ts) (IsStmt n s ts)
  unfolding do_at
  do_sound s ts =
      ok_then (level_at (inner n) 13 s ts) _ (IsRead n 13 s ts) _ (a_level n 13 s ts) (λ x p.
      ok_then (semi_at x.1) _ (λ rest. x.1 ≡ token.Semi ∷ rest) _ (semi_sound x.1) (λ rest c.
      (p.0 ∙ ap (spell x.0) c, do_fits n s x.0 p.1, tt)))

  return_sound : (s : Scope) (ts : List Token) → IfOk (return_at (inner n) s ts) (IsStmt n s (token.Return ∷ ts))
  unfolding return_at
  return_sound s ts =
      ok_then (optional_at (level_at (inner n) 13) s ts) _ (IsOptional (λ t e. FitsOptional n t e) s ts token.Semi) _ (optional_sound (level_at (inner n) 13) (λ t e. FitsOptional n t e) s ts tt (a_level n 13 s ts)) (λ x p.
      (ap (λ r. token.Return ∷ r) p.0, return_fits n s x.0 p.1, tt))

  stmt_sound : (s : Scope) (ts : List Token) → IfOk (stmt_at n sub (block_in n sub) s ts) (IsStmt n s ts)
  unfolding stmt_at break_at continue_at
  stmt_sound s (token.BraceOpen ∷ ts) = ok_then (block_in n sub s ts) _ (InBlock n s ts) _ (block_in_sound n sub i s ts) (λ x p. (ap (λ r. token.BraceOpen ∷ r) p.0, block_fits n s x.0 p.1, tt))
  stmt_sound s (token.Semi ∷ ts) = (refl, (empty_fits n s).0, tt)
  stmt_sound s (token.If ∷ ts) = if_sound s ts
  stmt_sound s (token.Switch ∷ ts) = switch_sound s ts
  stmt_sound s (token.Case ∷ ts) = case_sound s ts
  stmt_sound s (token.Default ∷ ts) = default_sound s ts
  stmt_sound s (token.While ∷ ts) = while_sound s ts
  stmt_sound s (token.Do ∷ ts) = do_while_sound s ts
  stmt_sound s (token.For ∷ ts) = for_sound s ts
  stmt_sound s (token.Break ∷ ts) = ok_then (semi_at ts) _ (λ rest. ts ≡ token.Semi ∷ rest) _ (semi_sound ts) (λ rest c. (ap (λ r. token.Break ∷ r) c, (empty_fits n s).1, tt))
  stmt_sound s (token.Continue ∷ ts) = ok_then (semi_at ts) _ (λ rest. ts ≡ token.Semi ∷ rest) _ (semi_sound ts) (λ rest c. (ap (λ r. token.Continue ∷ r) c, (empty_fits n s).2, tt))
  stmt_sound s (token.Return ∷ ts) = return_sound s ts
  stmt_sound s ts = do_sound s ts

pub in_sound : (n : ℕ) (s : Scope) (ts : List Token) → IfOk (stmt_in n s ts) (InStmt n s ts)
unfolding stmt_in
in_sound zero s ts = tt
in_sound (suc n) s ts = stmt_sound n (stmt_in n) (in_sound n) s ts

-- ---- external declarations

abbrev pub IsExt : ℕ → Scope → List Token → Ext × List Token → Type 0
IsExt n s ts x = (ts ≡ spell_ext x.0 x.1) × FitsExt n s x.0

pub ext_sound : (n : ℕ) (s : Scope) (ts : List Token) → IfOk (ext_at n s ts) (IsExt n s ts)
unfolding ext_at outer_at body_at
ext_sound n s ts =
    ok_then (specifiers_at (inner n) s ts) _ (HasSpecs n s ts) _ (some_specs n s ts) (λ x p.
    chosen (ends_semi x.1) _ _ (IsSemi x.1) _ (ends_sound x.1)
    (λ _. ok_then (decl_at (inner n) Named (after_specs x.0 s) x.1) _ (IsDecl n (after_specs x.0 s) x.1) _ (a_decl n (after_specs x.0 s) x.1) (λ y q.
    let so_far = p.0 ∙ ap (spell_specs x.0) q.0 in
    chosen (brace_at y.1) _ _ (IsBrace y.1) _ (brace_sound y.1)
    (λ _. ok_then (behind_at n x.0 y.0 (after_decl y.0 (after_specs x.0 s)) y.1) _ (HasInits n s ts) _ (behind_sound n x.0 y.0 s y.1 ts p.1 q.1 (behind_specs n x.0 s y.0 x.1 y.1 p.2 q.0) so_far) (λ z t. (t.0, t.1)))
    (λ rest c.
    let s1 = body_scope (is_typedef x.0) y.0 (after_decl y.0 (after_specs x.0 s)) in
    ok_then (block_in n (stmt_in n) s1 rest) _ (InBlock n s1 rest) _ (block_in_sound n (stmt_in n) (in_sound n) s1 rest) (λ z t.
    (so_far ∙ ap (λ r. spell_specs x.0 (spell_decl y.0 r)) (c ∙ ap (λ r. token.BraceOpen ∷ r) t.0), (p.1, q.1, t.1, behind_specs n x.0 s y.0 x.1 y.1 p.2 q.0))))))
    (λ rest c. (p.0 ∙ ap (spell_specs x.0) c, p.1)))
