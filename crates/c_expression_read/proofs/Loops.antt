-- Loops that read one element after the other, with the names in scope.
use Rattle.std.proofs.Common.{◌≡◌, ℕ, zero, suc, ◌-◌, ◌+◌, ◌≤◌, ◌<◌, List, [], ◌∷◌, ◌++◌, map, Ok, Err, refl, sym, ap, ◌∙◌, arith}
use Rattle.c_grammar.specs.declared.token.Token.{Token}
use Rattle.c_grammar.specs.declared.fault.ReadError.{ReadError}
use Rattle.c_grammar.specs.declared.fault.ReadError.TheVariants as errors
use Rattle.c_grammar.specs.Grammar.{Scope}
use Rattle.c_grammar.specs.Reading.{◌>>=◌, Read, Fails}
use Rattle.c_expression_read.specs.Gives.{onto, behind}

onto-last : {E L : Type 0} (cons : E → L → L) (xs : List E) (x : E) (rest : L) → onto cons (xs ++ x ∷ []) rest ≡ onto cons xs (cons x rest)
onto-last cons [] x rest = refl
onto-last cons (y ∷ ys) x rest = ap (cons y) (onto-last cons ys x rest)

pub map-last : {X E : Type 0} (f : X → E) (xs : List X) (x : X) → map f (xs ++ x ∷ []) ≡ map f xs ++ f x ∷ []
map-last f [] x = refl
map-last f (y ∷ ys) x = ap (λ (zs : List _). f y ∷ zs) (map-last f ys x)

behind-last : {E L : Type 0} (cons : E → L → L) (xs : List E) (x : E) (read : Read L) → behind cons xs (read >>= λ y. Ok (cons x y.0, y.1)) ≡ behind cons (xs ++ x ∷ []) read
behind-last cons xs x (Err e) = refl
behind-last cons xs x (Ok y) = ap (λ (l : _). Ok (l, y.1)) (sym (onto-last cons xs x y.0))

-- what goes on behind an element
abbrev pub Next : {E L S : Type 0} → (E → L → L) → (ℕ → S → List Token → Read L) → S → List Token → E → S → List Token → Type 0
Next cons F s ts x t after = (k : ℕ) → F (suc k) s ts ≡ (F k t after >>= λ y. Ok (cons x y.0, y.1))

-- a list of what is seen already
module _ {E L S : Type 0} (nil : L) (cons : E → L → L) (F : ℕ → S → List Token → Read L) (es : List E) (most i : ℕ) (s : S) (ts : List Token) (total : Read L) (so_far : behind cons es (F (most - i) s ts) ≡ total) where
  pub on : (x : E) (t : S) (after : List Token) → i < most → Next cons F s ts x t after → behind cons (es ++ x ∷ []) (F (most - (i + 1)) t after) ≡ total
  on x t after lt next =
      let k : most - i ≡ suc (most - (i + 1)) = omega arith in
      sym (behind-last cons es x (F (most - (i + 1)) t after))
      ∙ ap (behind cons es) (sym (next (most - (i + 1))))
      ∙ ap (λ (n : ℕ). behind cons es (F n s ts)) (sym k)
      ∙ so_far

  pub fails : (e : ReadError) → i < most → ((k : ℕ) → Fails e (F (suc k) s ts)) → Fails e total
  fails errors.Memory lt f = tt
  fails (errors.Fault d) lt f =
      let k : most - i ≡ suc (most - (i + 1)) = omega arith in
      sym so_far ∙ ap (λ (n : ℕ). behind cons es (F n s ts)) k ∙ ap (behind cons es) (f (most - (i + 1)))

  pub ends : i < most → (end : Read L) → ((k : ℕ) → F (suc k) s ts ≡ end) → total ≡ behind cons es end
  ends lt end stop =
      let k : most - i ≡ suc (most - (i + 1)) = omega arith in
      sym so_far ∙ ap (λ (n : ℕ). behind cons es (F n s ts)) k ∙ ap (behind cons es) (stop (most - (i + 1)))

  pub no_more_of : i < most → ((k : ℕ) → F (suc k) s ts ≡ Ok (nil, ts)) → total ≡ Ok (onto cons es nil, ts)
  no_more_of lt stop = ends lt (Ok (nil, ts)) stop

  pub done : most ≤ i → F zero s ts ≡ Ok (nil, ts) → total ≡ Ok (onto cons es nil, ts)
  done le stop =
      let k : most - i ≡ zero = omega arith in
      sym so_far ∙ ap (λ (n : ℕ). behind cons es (F n s ts)) k ∙ ap (behind cons es) stop

-- with a view of the elements
pub goes_on : {X E L S : Type 0} (nil : L) (cons : E → L → L) (F : ℕ → S → List Token → Read L) (see : X → E) (xs : List X) (most i : ℕ) (s : S) (ts : List Token) (total : Read L) → behind cons (map see xs) (F (most - i) s ts) ≡ total → (x : X) (t : S) (after : List Token) → i < most → Next cons F s ts (see x) t after → behind cons (map see (xs ++ x ∷ [])) (F (most - (i + 1)) t after) ≡ total
goes_on nil cons F see xs most i s ts total so_far x t after lt next =
    ap (λ (es : List _). behind cons es (F (most - (i + 1)) t after)) (map-last see xs x) ∙ on nil cons F (map see xs) most i s ts total so_far (see x) t after lt next

-- ---- what is declared behind elements
module _ {E L : Type 0} (nil : L) (cons : E → L → L) (A : L → Scope → Scope) (step : E → Scope → Scope) (at_nil : (s : Scope) → A nil s ≡ s) (at_cons : (e : E) (l : L) (s : Scope) → A (cons e l) s ≡ A l (step e s)) where
  pub after-last : (es : List E) (e : E) (s : Scope) → A (onto cons (es ++ e ∷ []) nil) s ≡ step e (A (onto cons es nil) s)
  after-last [] e s = at_cons e nil s ∙ at_nil (step e s) ∙ ap (step e) (sym (at_nil s))
  after-last (d ∷ es) e s = at_cons d (onto cons (es ++ e ∷ []) nil) s ∙ after-last es e (step d s) ∙ ap (step e) (sym (at_cons d (onto cons es nil) s))

  pub declares : {X : Type 0} (see : X → E) (xs : List X) (x : X) (s0 s t : Scope) → s ≡ A (onto cons (map see xs) nil) s0 → t ≡ step (see x) s → t ≡ A (onto cons (map see (xs ++ x ∷ [])) nil) s0
  declares see xs x s0 s t before one =
      one ∙ ap (step (see x)) before ∙ sym (after-last (map see xs) (see x) s0) ∙ ap (λ (es : List E). A (onto cons es nil) s0) (sym (map-last see xs x))

-- what a loop keeps: what is still read and what was read are the whole, and what is declared
pub record Reads {L : Type 0} (now whole : Read L) (scope declared : Scope) : Type 0 where
  pub reads : now ≡ whole
  pub scoped : scope ≡ declared

-- and where operands group to the right, which is the first
pub record ReadsFrom {L A : Type 0} (now whole : Read L) (front first : A) (scope declared : Scope) : Type 0 where
  pub reads : now ≡ whole
  pub front_is : front ≡ first
  pub scoped : scope ≡ declared

-- before the first turn
pub begun : {E L S : Type 0} (cons : E → L → L) (F : ℕ → S → List Token → Read L) (n : ℕ) (s : S) (ts : List Token) → behind cons [] (F (n - 0) s ts) ≡ F n s ts
begun cons F n s ts =
    let k : n - 0 ≡ n = omega arith in
    all (F (n - 0) s ts) ∙ ap (λ (m : ℕ). F m s ts) k
  where
    all : {L : Type 0} (m : Read L) → (m >>= λ y. Ok (y.0, y.1)) ≡ m
    all (Ok y) = refl
    all (Err e) = refl
