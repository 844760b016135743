-- Counts of external declarations that stand one behind the other.
use Rattle.std.proofs.Common.{◌≡◌, ℕ, ◌+◌, ◌-◌, ◌≤◌, ◌<◌, List, [], ◌∷◌, ◌++◌, length, take, drop, Result, Ok, Err, sym, ap, subst, arith}
use Rattle.std.specs.Prelude.{IfOk, sum}
use Rattle.std.proofs.lemmas.List.Sums.{sum_by-take-le, sum_by-take-drop}
use Rattle.c_tree.specs.declared.unit.External.{External}
use Rattle.c_grammar.specs.declared.token.Token.{Token}
use Rattle.c_unit_grammar.specs.Statements.{Ext, spell_ext}
use Rattle.c_unit_grammar.proofs.Lengths.{grows_ext}
use Rattle.c_external_read.specs.Counts.{IsCounted, Counted}

-- the tokens of some words are no more than all
pub some_tokens : (counts : List ℕ) (first words most : ℕ) → sum counts < most → sum (take words (drop first counts)) < most
some_tokens counts first words most few =
    let front = sum_by-take-le (λ (x : ℕ). x) (drop first counts) words in
    let parts = sum_by-take-drop (λ (x : ℕ). x) counts first in
    omega (arith, front, parts, few)

-- from the number of the first word up to that behind the last there are as many as there are tokens up to the rest
pub recounted : {X E : Type 0} (see : X → External) (left : X → ℕ) (result : Result X E) (counts : List ℕ) (end most : ℕ) → most ≤ end → IfOk result (λ x. IsCounted counts (end - most) (end - left x - (end - most)) (see x)) → IfOk result (λ x. IsCounted counts (end - most) (most - left x) (see x))
recounted see left (Ok x) counts end most le c = let words : end - left x - (end - most) ≡ most - left x = omega arith in subst (λ (n : ℕ). IsCounted counts (end - most) n (see x)) words c
recounted see left (Err e) counts end most le c = tt

-- one more
pub counted_on : (counts : List ℕ) (end : ℕ) (xs : List External) (x : External) (ts mid rest : List Token) → Counted counts end ts xs mid → Counted counts end mid (x ∷ []) rest → Counted counts end ts (xs ++ x ∷ []) rest
counted_on counts end [] x ts mid rest p q = subst (λ (us : List Token). Counted counts end us (x ∷ []) rest) (sym p) q
counted_on counts end (y ∷ ys) x ts mid rest (behind, is, one, more) q = (behind, is, one, counted_on counts end ys x behind mid rest more q)

-- what stands behind an external declaration is shorter
pub shorter : (x : Ext) (ts rest : List Token) → ts ≡ spell_ext x rest → length rest < length ts
shorter x ts rest is = let len : length ts ≡ length (spell_ext x rest) = ap length is in omega (arith, len, grows_ext x rest)
