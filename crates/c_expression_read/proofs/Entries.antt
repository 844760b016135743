-- What is read is spelled by the tokens before the rest and fits; what is spelled so and fits is read.
use Rattle.std.proofs.Common.{◌≡◌, ℕ, zero, suc, List, length, Result, Ok, Err, false, true, ap, subst, ◌∙◌, arith}
use Rattle.std.specs.Prelude.{IfOk}
use Rattle.c_grammar.specs.declared.token.Allowed.{Allowed}
use Rattle.c_grammar.specs.declared.token.Token.{Token}
use Rattle.c_grammar.specs.declared.fault.Fault.{Fault}
use Rattle.c_grammar.specs.declared.fault.ReadError.{ReadError}
use Rattle.c_grammar.specs.Grammar.{Scope, Expr, Specs, Decl, Typed, spell, spell_specs, spell_decl, spell_typed, after_specs, is_based, Fits, FitsSpecifiers, FitsDecl, FitsTyped, Within, Stops, Ends, NoBraces}
use Rattle.c_grammar.specs.Reading.{Gives, inner, level_at, specifiers_at, decl_at, typed_at, begins_spec}
use Rattle.c_expression_read.specs.Gives.{IsReadAs}
use Rattle.c_grammar.proofs.Sound.{ok_also, AreSpecifiers, level_sound, specifiers_sound, decl_sound, typed_sound, inner_sound}
use Rattle.c_grammar.proofs.Again.{level_again, specifiers_again, decl_again, typed_again}

found_by : {X Y : Type 0} (seen : X → Y) (result : Result X ReadError) (read : Result Y Fault) (P : Y → Type 0) → Gives seen result read → IfOk read P → IfOk result (λ x. P (seen x))
found_by seen (Ok x) read P g p = subst (λ (r : Result _ Fault). IfOk r P) g p
found_by seen (Err e) read P g p = tt

only_by : {X Y : Type 0} (seen : X → Y) (result : Result X ReadError) (read : Result Y Fault) (y : Y) → Gives seen result read → read ≡ Ok y → Gives seen result (Ok y)
only_by seen result read y g e = subst (λ (r : Result _ Fault). Gives seen result r) e g

-- ---- expressions of at most a height

module _ {X : Type 0} (seen : X → Expr × List Token) (result : Result X ReadError) (n h : ℕ) (s : Scope) (ts : List Token) where
  pub level_found : Gives seen result (level_at (inner n) h s ts) → IfOk result (λ x. (ts ≡ spell (seen x).0 (seen x).1) × Fits n h s (seen x).0)
  level_found g = found_by seen result (level_at (inner n) h s ts) (λ y. (ts ≡ spell y.0 y.1) × Fits n h s y.0) g (level_sound (inner n) n (inner_sound n) h s ts)

  pub level_only : Gives seen result (level_at (inner n) h s ts) → (e : Expr) (rest : List Token) → Fits n h s e → Stops h rest → ts ≡ spell e rest → IsReadAs e rest seen result
  level_only g e rest f stop is = only_by seen result (level_at (inner n) h s ts) (e, rest) g (ap (λ (us : List Token). level_at (inner n) h s us) is ∙ level_again e n h s rest f stop)

-- ---- expressions one nesting down

nested_again : (n h : ℕ) (s : Scope) (e : Expr) (rest : List Token) → Within n h s e → Stops h rest → (inner n).expr h s (spell e rest) ≡ Ok (e, rest)
unfolding inner
nested_again zero h s e rest f stop = absurd f
nested_again (suc n) h s e rest f stop = level_again e n h s rest f stop

module _ {X : Type 0} (seen : X → Expr × List Token) (result : Result X ReadError) (n h : ℕ) (s : Scope) (ts : List Token) where
  pub nested_found : Gives seen result ((inner n).expr h s ts) → IfOk result (λ x. (ts ≡ spell (seen x).0 (seen x).1) × Within n h s (seen x).0)
  nested_found g = found_by seen result ((inner n).expr h s ts) (λ y. (ts ≡ spell y.0 y.1) × Within n h s y.0) g ((inner_sound n).expr h s ts)

  pub nested_only : Gives seen result ((inner n).expr h s ts) → (e : Expr) (rest : List Token) → Within n h s e → Stops h rest → ts ≡ spell e rest → IsReadAs e rest seen result
  nested_only g e rest f stop is = only_by seen result ((inner n).expr h s ts) (e, rest) g (ap (λ (us : List Token). (inner n).expr h s us) is ∙ nested_again n h s e rest f stop)

-- ---- specifiers

module _ {X : Type 0} (seen : X → Specs × List Token) (result : Result X ReadError) (n : ℕ) (s : Scope) (ts : List Token) where
  pub specs_found : Gives seen result (specifiers_at (inner n) s ts) → IfOk result (λ x. (ts ≡ spell_specs (seen x).0 (seen x).1) × FitsSpecifiers n s (seen x).0)
  specs_found g =
      found_by seen result (specifiers_at (inner n) s ts) (λ y. (ts ≡ spell_specs y.0 y.1) × FitsSpecifiers n s y.0) g
      (ok_also (specifiers_at (inner n) s ts) (AreSpecifiers (inner n) n (inner_sound n) s ts) (λ y. (ts ≡ spell_specs y.0 y.1) × FitsSpecifiers n s y.0) (specifiers_sound (inner n) n (inner_sound n) s ts) (λ y p. (p.0, p.1)))

  pub specs_only : Gives seen result (specifiers_at (inner n) s ts) → (specs : Specs) (rest : List Token) → FitsSpecifiers n s specs → begins_spec (is_based false specs) (after_specs specs s) rest ≡ false → NoBraces rest → ts ≡ spell_specs specs rest → IsReadAs specs rest seen result
  specs_only g specs rest f none b is = only_by seen result (specifiers_at (inner n) s ts) (specs, rest) g (ap (λ (us : List Token). specifiers_at (inner n) s us) is ∙ specifiers_again specs n s rest f none b)

-- ---- declarators

module _ {X : Type 0} (seen : X → Decl × List Token) (result : Result X ReadError) (n : ℕ) (a : Allowed) (s : Scope) (ts : List Token) where
  pub decl_found : Gives seen result (decl_at (inner n) a s ts) → IfOk result (λ x. (ts ≡ spell_decl (seen x).0 (seen x).1) × FitsDecl n a s (seen x).0)
  decl_found g = found_by seen result (decl_at (inner n) a s ts) (λ y. (ts ≡ spell_decl y.0 y.1) × FitsDecl n a s y.0) g (decl_sound (inner n) n (inner_sound n) a s ts)

  pub decl_only : Gives seen result (decl_at (inner n) a s ts) → (d : Decl) (rest : List Token) → FitsDecl n a s d → Ends rest → ts ≡ spell_decl d rest → IsReadAs d rest seen result
  decl_only g d rest f end is = only_by seen result (decl_at (inner n) a s ts) (d, rest) g (ap (λ (us : List Token). decl_at (inner n) a s us) is ∙ decl_again d n a s rest f end)

-- ---- specifiers with a declarator

module _ {X : Type 0} (seen : X → Typed × List Token) (result : Result X ReadError) (n : ℕ) (a : Allowed) (s : Scope) (ts : List Token) where
  pub typed_found : Gives seen result (typed_at (inner n) a s ts) → IfOk result (λ x. (ts ≡ spell_typed (seen x).0 (seen x).1) × FitsTyped n a s (seen x).0)
  typed_found g = found_by seen result (typed_at (inner n) a s ts) (λ y. (ts ≡ spell_typed y.0 y.1) × FitsTyped n a s y.0) g (typed_sound (inner n) n (inner_sound n) a s ts)

  pub typed_only : Gives seen result (typed_at (inner n) a s ts) → (t : Typed) (rest : List Token) → FitsTyped n a s t → Ends rest → NoBraces rest → ts ≡ spell_typed t rest → IsReadAs t rest seen result
  typed_only g t rest f end b is = only_by seen result (typed_at (inner n) a s ts) (t, rest) g (ap (λ (us : List Token). typed_at (inner n) a s us) is ∙ typed_again t n a s rest f end b)
