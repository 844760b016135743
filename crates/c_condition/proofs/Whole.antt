-- Whole expressions, with nothing behind them.
use Rattle.std.proofs.Common.{◌≡◌, Bool, true, false, List, [], ◌∷◌, length, Option, Some, None, refl, sym, ap, subst, ◌∙◌, arith}
use Rattle.std.specs.Prelude.{IfSome, MatchOption}
use Rattle.c_condition.specs.declared.number.Number.{Number}
use Rattle.c_condition.specs.declared.token.Token.{Token}
use Rattle.c_condition.specs.declared.outcome.Outcome.{Outcome}
use Rattle.c_condition.specs.Values.{value_of}
use Rattle.c_condition.specs.Grammar.{Expr, spell, outcome, IsConstantExpression, Controls, ControlsNothing}
use Rattle.c_condition.specs.Reading.{and_then, joint_at, Algebra, values, Found, inner, conditional_at, ended, constant_at}
use Rattle.c_condition.proofs.Folding.{fold, trees, fold_trees, fold_values, Stops}
use Rattle.c_condition.proofs.Sound.{Reads, inner_sound, conditional_sound}
use Rattle.c_condition.proofs.Complete.{inner_taken, conditional_taken}

-- what is read is a constant expression, and is what the algebra makes of it
abbrev pub Reading : {A : Type 0} → Algebra A → List Token → A → Type 0
Reading g ts x = (e : Expr) × IsConstantExpression ts e × (x ≡ fold g e)

pub constant_sound : {A : Type 0} (g : Algebra A) (ts : List Token) → IfSome (constant_at g ts) (Reading g ts)
unfolding constant_at
constant_sound {A} g ts = go (conditional_at g (inner g 64) (length ts) ts) (conditional_sound g 64 (inner g 64) (inner_sound g 64) (length ts) ts)
  where
    last : (x : A) (rest : List Token) → Reads g 64 11 ts (x, rest) → IfSome (ended (x, rest)) (Reading g ts)
    last x [] p = (p.tree, record { spelled = p.spelled; fits = p.fits; is_conditional = p.low }, p.is)
    last x (t ∷ rest) p = tt

    go : (o : Found A) → IfSome o (Reads g 64 11 ts) → IfSome (and_then o ended) (Reading g ts)
    go None p = tt
    go (Some x) p = last x.0 x.1 p

nothing_stops : Stops 11 []
unfolding joint_at
nothing_stops = tt

pub constant_taken : {A : Type 0} (g : Algebra A) (ts : List Token) (e : Expr) → IsConstantExpression ts e → constant_at g ts ≡ Some (fold g e)
unfolding constant_at
constant_taken {A} g ts e c = let P : List Token → Type 0 = λ t. and_then (conditional_at g (inner g 64) (length t) t) ended ≡ Some (fold g e) in
    subst P (sym c.spelled) (ap (λ o. and_then o ended) (conditional_taken g 64 (inner g 64) (inner_sound g 64) (inner_taken g 64) (length (spell e [])) e [] c.fits c.is_conditional nothing_stops (omega arith)))

-- ---- values

abbrev no_value : Option Number → Bool
no_value None = true
no_value (Some v) = false

abbrev no_outcome : Option Outcome → Bool
no_outcome None = true
no_outcome (Some v) = false

pub no_expression : (ts : List Token) → constant_at values ts ≡ None → ControlsNothing ts
no_expression ts e v c = let f : true ≡ false = ap no_outcome (sym e ∙ constant_taken values ts c.expression c.is_expression) in absurd (cc)

-- what an outcome says
pub outcome_read : (ts : List Token) (x : Outcome) → constant_at values ts ≡ Some x → MatchOption (value_of x) (ControlsNothing ts) (Controls ts)
outcome_read ts x e = let P : Option Outcome → Type 0 = λ o. IfSome o (Reading values ts) in go (subst P e (constant_sound values ts)) (value_of x) refl
  where
    only : Option Outcome → Outcome
    only None = x
    only (Some y) = y

    go : Reading values ts x → (v : Option Number) → value_of x ≡ v → MatchOption v (ControlsNothing ts) (Controls ts)
    go r (Some v) f = record { expression = r.0; is_expression = r.1; has_value = ap value_of (sym (r.2 ∙ fold_values r.0)) ∙ f }
    go r None f = λ w c. let same : outcome c.expression ≡ x = sym (fold_values c.expression) ∙ ap only (sym (constant_taken values ts c.expression c.is_expression) ∙ e) in
        let g : true ≡ false = ap no_value (sym f ∙ ap value_of (sym same) ∙ c.has_value) in absurd (cc)

-- ---- one tree and one value

only_tree : Expr → Option Expr → Expr
only_tree e None = e
only_tree e (Some t) = t

pub one_expression : (ts : List Token) (d e : Expr) → IsConstantExpression ts d → IsConstantExpression ts e → d ≡ e
unfolding only_tree
one_expression ts d e c k = sym (fold_trees d) ∙ ap (only_tree d) (sym (constant_taken trees ts d c) ∙ constant_taken trees ts e k) ∙ fold_trees e

only_value : Number → Option Number → Number
only_value v None = v
only_value v (Some w) = w

pub one_value : (ts : List Token) (v w : Number) → Controls ts v → Controls ts w → v ≡ w
unfolding only_value
one_value ts v w c k = ap (only_value v) (sym c.has_value ∙ ap (λ e. value_of (outcome e)) (one_expression ts c.expression k.expression c.is_expression k.is_expression) ∙ k.has_value)
