-- What literals and expressions are worth, and the texts of built-in headers.
use Rattle.std.proofs.Common.{◌≡◌, ℕ, Bool, true, false, cond, eqb, List, [], ◌∷◌, length, Option, Some, None, refl, sym, ap, ◌∙◌}
use Rattle.std.proofs.lemmas.Bool.{eqb-true, eq-eqb}
use Rattle.std.proofs.lemmas.Slice.Eq.{bytes_eq-Decides}
use Rattle.std.specs.Prelude.{MatchOption, ℤ, pos}
use Rattle.std.specs.Str.{bytes_eq}
use Rattle.c_headers.specs.declared.header.Header.{Header}
use Rattle.c_headers.specs.declared.header.Header.TheVariants.{Stddef, Stdint, Stdbool, Limits, Stdlib, Str, Stdio, FortranBinding}
use Rattle.c_headers.specs.Headers.{name_of, text_of, IsNamed, IsNoHeader}
use Rattle.c_literal.specs.declared.integer.IntegerConstant.{IntegerConstant}
use Rattle.c_literal.specs.Integers.{IsConstant, IsNoConstant}
use Rattle.c_literal.specs.IntegerReading.{constant_at as integer_at}
use Rattle.c_literal.specs.Literals.{IsCharacter, IsNoCharacter}
use Rattle.c_literal.specs.LiteralReading.{Found, element_at}
use Rattle.c_literal.proofs.IntegerLaws.{constant_read, constant_taken}
use Rattle.c_literal.proofs.Strings.{no_character, a_character, too_long, one_character}
use Rattle.c_condition.specs.declared.number.Number.{Number as Value}
use Rattle.c_condition.specs.declared.number.Number.TheVariants as value
use Rattle.c_condition.specs.declared.token.Token.{Token}
use Rattle.c_condition.specs.declared.token.Token.TheVariants as operand
use Rattle.c_condition.specs.declared.outcome.Outcome.{Outcome}
use Rattle.c_condition.specs.Values.{number_of, value_of}
use Rattle.c_condition.specs.Reading.{values, constant_at, and_then}
use Rattle.c_condition.specs.Grammar.{Controls, ControlsNothing}
use Rattle.c_condition.proofs.Whole.{no_expression, outcome_read, one_value}
use Rattle.c_directives.specs.Headers.{or_header, header_text}
use Rattle.c_directives.specs.Conditions.{number_operand, byte_operand, condition_value}

-- ---- expressions

pub value_is : (ts : List Token) (v : Value) → Controls ts v → condition_value ts ≡ Some v
unfolding condition_value
value_is ts v c = pick (constant_at values ts) refl
  where
    inner : (x : Outcome) → MatchOption (value_of x) (ControlsNothing ts) (Controls ts) → (o : Option Value) → value_of x ≡ o → MatchOption o (ControlsNothing ts) (Controls ts) → o ≡ Some v
    inner x m None e h = absurd (h v c)
    inner x m (Some w) e h = ap Some (one_value ts w v h c)

    pick : (o : Option Outcome) → constant_at values ts ≡ o → and_then o value_of ≡ Some v
    pick None e = absurd (no_expression ts e v c)
    pick (Some x) e = inner x (outcome_read ts x e) (value_of x) refl (outcome_read ts x e)

pub value_isnt : (ts : List Token) → ControlsNothing ts → condition_value ts ≡ None
unfolding condition_value
value_isnt ts n = pick (constant_at values ts) refl
  where
    inner : (o : Option Value) → MatchOption o (ControlsNothing ts) (Controls ts) → o ≡ None
    inner None h = refl
    inner (Some w) h = absurd (n w h)

    pick : (o : Option Outcome) → constant_at values ts ≡ o → and_then o value_of ≡ None
    pick None e = refl
    pick (Some x) e = inner (value_of x) (outcome_read ts x e)

pub number_is : (s : List ℕ) (c : IntegerConstant) → IsConstant s c → number_operand (integer_at s) ≡ operand.Number (number_of c)
number_is s c h = ap number_operand (constant_taken s c h)

pub number_isnt : (s : List ℕ) → IsNoConstant s → number_operand (integer_at s) ≡ operand.Other
number_isnt s n = pick (integer_at s) (constant_read s)
  where
    pick : (o : Option IntegerConstant) → MatchOption o (IsNoConstant s) (IsConstant s) → number_operand o ≡ operand.Other
    pick None h = refl
    pick (Some c) h = absurd (n c h)

pub byte_is : (s : List ℕ) (b : ℕ) → IsCharacter s b → byte_operand (element_at 39 s) ≡ operand.Number (value.Signed (pos b))
byte_is s b h = pick (element_at 39 s) refl
  where
    pick : (o : Found) → element_at 39 s ≡ o → byte_operand o ≡ operand.Number (value.Signed (pos b))
    pick None e = absurd (no_character s e b h)
    pick (Some x) e = ended (eqb (length x.1) 0) refl
      where
        ended : (v : Bool) → eqb (length x.1) 0 ≡ v → cond v (operand.Number (value.Signed (pos x.0))) operand.Other ≡ operand.Number (value.Signed (pos b))
        ended true f = ap (λ n. operand.Number (value.Signed (pos n))) (one_character s x.0 b (a_character s x.0 x.1 e (eqb-true (length x.1) 0 f)) h)
        ended false f = absurd (too_long s x.0 x.1 e (λ z. let t = eq-eqb (length x.1) 0 z in cc) b h)

pub byte_isnt : (s : List ℕ) → IsNoCharacter s → byte_operand (element_at 39 s) ≡ operand.Other
byte_isnt s n = pick (element_at 39 s) refl
  where
    pick : (o : Found) → element_at 39 s ≡ o → byte_operand o ≡ operand.Other
    pick None e = refl
    pick (Some x) e = ended (eqb (length x.1) 0) refl
      where
        ended : (v : Bool) → eqb (length x.1) 0 ≡ v → cond v (operand.Number (value.Signed (pos x.0))) operand.Other ≡ operand.Other
        ended true f = absurd (n x.0 (a_character s x.0 x.1 e (eqb-true (length x.1) 0 f)))
        ended false f = refl

-- ---- headers

pub header_is : (name : List ℕ) (h : Header) → IsNamed name h → header_text name ≡ Some (text_of h)
unfolding header_text
header_is name Stddef e = rw e refl
header_is name Stdint e = rw e refl
header_is name Stdbool e = rw e refl
header_is name Limits e = rw e refl
header_is name Stdlib e = rw e refl
header_is name Str e = rw e refl
header_is name Stdio e = rw e refl
header_is name FortranBinding e = rw e refl

passed : (name : List ℕ) → IsNoHeader name → (h : Header) (other : Option (List ℕ)) → other ≡ None → or_header name h other ≡ None
passed name n h other e = pick (bytes_eq name (name_of h)) refl
  where
    pick : (b : Bool) → bytes_eq name (name_of h) ≡ b → cond b (Some (text_of h)) other ≡ None
    pick false f = e
    pick true f = absurd (n h ((bytes_eq-Decides name (name_of h)).0 f))

pub header_isnt : (name : List ℕ) → IsNoHeader name → header_text name ≡ None
unfolding header_text
header_isnt name n = passed name n Stddef _ (passed name n Stdint _ (passed name n Stdbool _ (passed name n Limits _ (passed name n Stdlib _ (passed name n Str _ (passed name n Stdio _ (passed name n FortranBinding None refl)))))))
