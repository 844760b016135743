-- Tokens of one kind side by side.
use Rattle.std.proofs.Common.{◌≡◌, ℕ, ◌<◌, List, [], ◌∷◌, ◌++◌, length, Some, None, refl, ap, ◌∙◌, append_assoc, arith}
use Rattle.std.proofs.lemmas.List.{append-nil}
use Rattle.c_tree.specs.declared.operator.PointerMark.{PointerMark}
use Rattle.c_tree.specs.declared.operator.PointerMark.TheVariants as mark
use Rattle.c_tree.specs.declared.operator.SpecifierWord.TheVariants as word
use Rattle.c_grammar.specs.declared.token.Token.{Token}
use Rattle.c_grammar.specs.declared.token.Token.TheVariants as token
use Rattle.c_grammar.specs.Reading.{texts_at, run_at}
use Rattle.c_expression_read.specs.Gives.{text_at, mark_at}

-- one more, and then the rest
abbrev pub one_more : {A : Type 0} → A → List A × List Token → List A × List Token
one_more x r = (x ∷ r.0, r.1)

abbrev pub before : {A : Type 0} → List A → List A × List Token → List A × List Token
before xs r = (xs ++ r.0, r.1)

pub before-last : {A : Type 0} (xs : List A) (x : A) (r : List A × List Token) → before (xs ++ x ∷ []) r ≡ before xs (one_more x r)
before-last xs x r = ap (λ (ys : List _). (ys, r.1)) (append_assoc xs (x ∷ []) r.0)

pub before-none : {A : Type 0} (xs : List A) (ts : List Token) → before xs ([], ts) ≡ (xs, ts)
before-none xs ts = ap (λ (ys : List _). (ys, ts)) (append-nil xs)

pair_is : {A : Type 0} (x y : A × List Token) → Some x ≡ Some y → x ≡ y
pair_is x y e = cc

first_is : {A : Type 0} (x y : A × List Token) → Some x ≡ Some y → x.0 ≡ y.0
first_is x y e = ap (λ p. p.0) (pair_is x y e)

rest_is : {A : Type 0} (x y : A × List Token) → Some x ≡ Some y → x.1 ≡ y.1
rest_is x y e = ap (λ p. p.1) (pair_is x y e)

-- ---- string literals

pub texts_next : (ts after : List Token) (k : ℕ) → text_at ts ≡ Some (k, after) → texts_at ts ≡ one_more k (texts_at after)
unfolding texts_at
texts_next (token.Text j ∷ ts) after k e =
    let a : j ≡ k = first_is (j, ts) (k, after) e in
    let b : ts ≡ after = rest_is (j, ts) (k, after) e in
    ap (λ i. one_more i (texts_at ts)) a ∙ ap (λ r. one_more k (texts_at r)) b
texts_next ts after k e = absurd cc

pub texts_shorter : (ts after : List Token) (k : ℕ) → text_at ts ≡ Some (k, after) → length after < length ts
texts_shorter (token.Text j ∷ ts) after k e =
    let b : length ts ≡ length after = ap length (rest_is (j, ts) (k, after) e) in
    omega (arith, b)
texts_shorter ts after k e = absurd cc

pub texts_none : (ts : List Token) → text_at ts ≡ None → texts_at ts ≡ ([], ts)
unfolding texts_at
texts_none (token.Text j ∷ ts) e = absurd cc
texts_none ts e = refl

-- ---- stars and qualifiers

pub marks_next : (ts after : List Token) (m : PointerMark) → mark_at ts ≡ Some (m, after) → run_at ts ≡ one_more m (run_at after)
unfolding run_at
marks_next (token.Star ∷ ts) after m e =
    let a : mark.Star ≡ m = first_is (mark.Star, ts) (m, after) e in
    let b : ts ≡ after = rest_is (mark.Star, ts) (m, after) e in
    ap (λ (i : PointerMark). one_more i (run_at ts)) a ∙ ap (λ r. one_more m (run_at r)) b
marks_next (token.Word word.Const ∷ ts) after m e =
    let a : mark.Const ≡ m = first_is (mark.Const, ts) (m, after) e in
    let b : ts ≡ after = rest_is (mark.Const, ts) (m, after) e in
    ap (λ (i : PointerMark). one_more i (run_at ts)) a ∙ ap (λ r. one_more m (run_at r)) b
marks_next (token.Restrict ∷ ts) after m e =
    let a : mark.Restrict ≡ m = first_is (mark.Restrict, ts) (m, after) e in
    let b : ts ≡ after = rest_is (mark.Restrict, ts) (m, after) e in
    ap (λ (i : PointerMark). one_more i (run_at ts)) a ∙ ap (λ r. one_more m (run_at r)) b
marks_next ts after m e = absurd cc

pub marks_shorter : (ts after : List Token) (m : PointerMark) → mark_at ts ≡ Some (m, after) → length after < length ts
marks_shorter (token.Star ∷ ts) after m e = let b : length ts ≡ length after = ap length (rest_is (mark.Star, ts) (m, after) e) in omega (arith, b)
marks_shorter (token.Word word.Const ∷ ts) after m e = let b : length ts ≡ length after = ap length (rest_is (mark.Const, ts) (m, after) e) in omega (arith, b)
marks_shorter (token.Restrict ∷ ts) after m e = let b : length ts ≡ length after = ap length (rest_is (mark.Restrict, ts) (m, after) e) in omega (arith, b)
marks_shorter ts after m e = absurd cc

pub marks_none : (ts : List Token) → mark_at ts ≡ None → run_at ts ≡ ([], ts)
unfolding run_at
marks_none (token.Star ∷ ts) e = absurd cc
marks_none (token.Word word.Const ∷ ts) e = absurd cc
marks_none (token.Restrict ∷ ts) e = absurd cc
marks_none ts e = refl
