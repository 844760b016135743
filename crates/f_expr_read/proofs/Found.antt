-- What a function that gives what is read finds.
use Rattle.std.proofs.Common.{List, Ok, Err, Result, subst}
use Rattle.std.specs.Prelude.{IfOk}
use Rattle.f_lex.specs.declared.token.Token.{Token}
use Rattle.f_grammar.specs.Reading.{IfSome, Read}
use Rattle.f_expr_read.specs.declared.error.ReadError.{ReadError}
use Rattle.f_expr_read.specs.Gives.{Gives}

pub found : {X A : Type 0} (see : X → A × List Token) (read : Read A) (P : A × List Token → Type 0) (r : Result X ReadError) → IfSome read P → Gives see r read → IfOk r (λ x. P (see x))
found see read P (Ok x) holds g = subst (λ (o : Read _). IfSome o P) g holds
found see read P (Err e) holds g = tt
