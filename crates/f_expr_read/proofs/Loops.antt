-- Loops that read one element after the other.
use Rattle.std.proofs.Common.{◌≡◌, ℕ, zero, suc, ◌-◌, ◌+◌, ◌≤◌, ◌<◌, List, [], ◌∷◌, ◌++◌, map, Some, None, refl, sym, ap, ◌∙◌, arith}
use Rattle.f_lex.specs.declared.token.Token.{Token}
use Rattle.f_grammar.specs.Grammar.{Param, More, more, Params, params}
use Rattle.f_grammar.specs.Reading.{◌>>=◌, Read}
use Rattle.f_expr_read.specs.declared.error.ReadError.{ReadError}
use Rattle.f_expr_read.specs.declared.error.ReadError.TheVariants.{Memory, Form}
use Rattle.f_expr_read.specs.Gives.{Fails, onto, behind}
use Rattle.f_expr_read.specs.Views.{mores_of, params_of}

onto-last : {E L : Type 0} (cons : E → L → L) (xs : List E) (x : E) (rest : L) → onto cons (xs ++ x ∷ []) rest ≡ onto cons xs (cons x rest)
onto-last cons [] x rest = refl
onto-last cons (y ∷ ys) x rest = ap (cons y) (onto-last cons ys x rest)

map-last : {X E : Type 0} (f : X → E) (xs : List X) (x : X) → map f (xs ++ x ∷ []) ≡ map f xs ++ f x ∷ []
map-last f [] x = refl
map-last f (y ∷ ys) x = ap (λ (zs : List _). f y ∷ zs) (map-last f ys x)

behind-last : {E L : Type 0} (cons : E → L → L) (xs : List E) (x : E) (read : Read L) → behind cons xs (read >>= λ y. Some (cons x y.0, y.1)) ≡ behind cons (xs ++ x ∷ []) read
behind-last cons xs x None = refl
behind-last cons xs x (Some y) = ap (λ (l : _). Some (l, y.1)) (sym (onto-last cons xs x y.0))

-- what goes on behind an element
abbrev pub Next : {E L : Type 0} → (E → L → L) → (ℕ → List Token → Read L) → List Token → E → List Token → Type 0
Next cons F ts x after = (k : ℕ) → F (suc k) ts ≡ (F k after >>= λ y. Some (cons x y.0, y.1))

module _ {X E L : Type 0} (nil : L) (cons : E → L → L) (F : ℕ → List Token → Read L) (see : X → E) (xs : List X) (most i : ℕ) (ts : List Token) (total : Read L) (so_far : behind cons (map see xs) (F (most - i) ts) ≡ total) where
  pub goes_on : (x : X) (after : List Token) → i < most → Next cons F ts (see x) after → behind cons (map see (xs ++ x ∷ [])) (F (most - (i + 1)) after) ≡ total
  goes_on x after lt next =
      let k : most - i ≡ suc (most - (i + 1)) = omega arith in
      ap (λ (es : List E). behind cons es (F (most - (i + 1)) after)) (map-last see xs x)
      ∙ sym (behind-last cons (map see xs) (see x) (F (most - (i + 1)) after))
      ∙ ap (behind cons (map see xs)) (sym (next (most - (i + 1))))
      ∙ ap (λ (n : ℕ). behind cons (map see xs) (F n ts)) (sym k)
      ∙ so_far

  pub fails : (e : ReadError) → i < most → ((k : ℕ) → Fails e (F (suc k) ts)) → Fails e total
  fails Memory lt f = tt
  fails Form lt f =
      let k : most - i ≡ suc (most - (i + 1)) = omega arith in
      sym so_far ∙ ap (λ (n : ℕ). behind cons (map see xs) (F n ts)) k ∙ ap (behind cons (map see xs)) (f (most - (i + 1)))

  pub no_more_of : i < most → ((k : ℕ) → F (suc k) ts ≡ Some (nil, ts)) → total ≡ Some (onto cons (map see xs) nil, ts)
  no_more_of lt stop =
      let k : most - i ≡ suc (most - (i + 1)) = omega arith in
      sym so_far ∙ ap (λ (n : ℕ). behind cons (map see xs) (F n ts)) k ∙ ap (behind cons (map see xs)) (stop (most - (i + 1)))

  pub done : most ≤ i → F zero ts ≡ Some (nil, ts) → total ≡ Some (onto cons (map see xs) nil, ts)
  done le stop =
      let k : most - i ≡ zero = omega arith in
      sym so_far ∙ ap (λ (n : ℕ). behind cons (map see xs) (F n ts)) k ∙ ap (behind cons (map see xs)) stop

abbrev pub with_first : Param → Read More → Read Params
with_first p read = read >>= λ y. Some (params p y.0, y.1)

read_is : (x y : More × List Token) → let d : Read More = Some x in let e : Read More = Some y in d ≡ e → x ≡ y
read_is x y e = cc

none_is : (x : More × List Token) → let d : Read More = None in let e : Read More = Some x in d ≡ e → ⊥
none_is x e = cc

from_first : (xs : List Param) (p : Param) (m : More) (r rest : List Token) → more p m ≡ mores_of xs → r ≡ rest → let a : Read Params = Some (params p m, r) in a ≡ Some (params_of xs, rest)
from_first [] p m r rest e1 e2 = absurd (cc)
from_first (x ∷ xs) p m r rest e1 e2 = cc

pub params_from : (xs : List Param) (p : Param) (read : Read More) (rest : List Token) → let r : Read More = Some (mores_of xs, rest) in behind more (p ∷ []) read ≡ r → with_first p read ≡ Some (params_of xs, rest)
params_from xs p None rest e = absurd (none_is (mores_of xs, rest) e)
params_from xs p (Some y) rest e =
    let same : (more p y.0, y.1) ≡ (mores_of xs, rest) = read_is (more p y.0, y.1) (mores_of xs, rest) e in
    from_first xs p y.0 y.1 rest (ap (λ (x : More × List Token). x.0) same) (ap (λ (x : More × List Token). x.1) same)
