-- An external declaration that is read is spelled by the tokens before the rest and fits; one that is spelled so and fits is read.
use Rattle.std.proofs.Common.{◌≡◌, ℕ, List, Result, ap, ◌∙◌}
use Rattle.std.specs.Prelude.{IfOk}
use Rattle.c_grammar.specs.declared.token.Token.{Token}
use Rattle.c_grammar.specs.declared.fault.ReadError.{ReadError}
use Rattle.c_grammar.specs.Grammar.{Scope}
use Rattle.c_grammar.specs.Reading.{Gives}
use Rattle.c_unit_grammar.specs.Statements.{Ext, spell_ext, FitsExt}
use Rattle.c_unit_grammar.specs.Reading.{ext_at}
use Rattle.c_unit_grammar.proofs.Sound.{IsExt, ext_sound}
use Rattle.c_unit_grammar.proofs.Again.{ext_again}
use Rattle.c_expression_read.specs.Gives.{IsReadAs}
use Rattle.c_statement_read.proofs.Entries.{found_by, only_by}

module _ {X : Type 0} (seen : X → Ext × List Token) (result : Result X ReadError) (n : ℕ) (s : Scope) (ts : List Token) where
  pub external_found : Gives seen result (ext_at n s ts) → IfOk result (λ x. (ts ≡ spell_ext (seen x).0 (seen x).1) × FitsExt n s (seen x).0)
  external_found g = found_by seen result (ext_at n s ts) (IsExt n s ts) g (ext_sound n s ts)

  pub external_only : Gives seen result (ext_at n s ts) → (x : Ext) (rest : List Token) → FitsExt n s x → ts ≡ spell_ext x rest → IsReadAs x rest seen result
  external_only g x rest f is = only_by seen result (ext_at n s ts) (x, rest) g (ap (λ (us : List Token). ext_at n s us) is ∙ ext_again x n s rest f)
