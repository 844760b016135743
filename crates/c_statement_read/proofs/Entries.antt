-- A statement that is read is spelled by the tokens before the rest and fits; one that is spelled so and fits is read.
use Rattle.std.proofs.Common.{◌≡◌, ℕ, List, Result, Ok, Err, ap, subst, ◌∙◌}
use Rattle.std.specs.Prelude.{IfOk}
use Rattle.c_grammar.specs.declared.token.Token.{Token}
use Rattle.c_grammar.specs.declared.fault.Fault.{Fault}
use Rattle.c_grammar.specs.declared.fault.ReadError.{ReadError}
use Rattle.c_grammar.specs.Grammar.{Scope}
use Rattle.c_grammar.specs.Reading.{Gives}
use Rattle.c_unit_grammar.specs.Statements.{Stmt, spell_stmt, takes_else, WithinStmt, StopsElse}
use Rattle.c_unit_grammar.specs.Reading.{stmt_in}
use Rattle.c_unit_grammar.proofs.Sound.{InStmt, in_sound}
use Rattle.c_unit_grammar.proofs.File.{statement_again}
use Rattle.c_expression_read.specs.Gives.{IsReadAs}

pub found_by : {X Y : Type 0} (seen : X → Y) (result : Result X ReadError) (read : Result Y Fault) (P : Y → Type 0) → Gives seen result read → IfOk read P → IfOk result (λ x. P (seen x))
found_by seen (Ok x) read P g p = subst (λ (r : Result _ Fault). IfOk r P) g p
found_by seen (Err e) read P g p = tt

pub only_by : {X Y : Type 0} (seen : X → Y) (result : Result X ReadError) (read : Result Y Fault) (y : Y) → Gives seen result read → read ≡ Ok y → Gives seen result (Ok y)
only_by seen result read y g e = subst (λ (r : Result _ Fault). Gives seen result r) e g

module _ {X : Type 0} (seen : X → Stmt × List Token) (result : Result X ReadError) (n : ℕ) (s : Scope) (ts : List Token) where
  pub statement_found : Gives seen result (stmt_in n s ts) → IfOk result (λ x. (ts ≡ spell_stmt (seen x).0 (seen x).1) × WithinStmt n s (seen x).0 × StopsElse (takes_else (seen x).0) (seen x).1)
  statement_found g = found_by seen result (stmt_in n s ts) (InStmt n s ts) g (in_sound n s ts)

  pub statement_only : Gives seen result (stmt_in n s ts) → (x : Stmt) (rest : List Token) → WithinStmt n s x → StopsElse (takes_else x) rest → ts ≡ spell_stmt x rest → IsReadAs x rest seen result
  statement_only g x rest f stop is = only_by seen result (stmt_in n s ts) (x, rest) g (ap (λ (us : List Token). stmt_in n s us) is ∙ statement_again n s x rest f stop)
