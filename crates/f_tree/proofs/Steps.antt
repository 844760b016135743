-- The tokens of a list, its last element apart, and the tokens of each tree by its parts.
use Rattle.std.proofs.Common.{◌≡◌, ℕ, ◌+◌, ◌<◌, List, [], ◌∷◌, ◌++◌, map, take, length, get_or, refl, sym, ap, subst, ◌∙◌, arith}
use Rattle.std.proofs.lemmas.Grind.{common_steps}
use Rattle.f_lex.specs.declared.token.Mark.TheVariants.{Comma, Percent}
use Rattle.f_tree.specs.Lexemes.{Front, mark_of, each, behind_commas, listed, comma_behind}
use Rattle.f_tree.specs.Expressions.{behind_percents}
use Rattle.f_tree.specs.declared.lexeme.Lexeme.{Lexeme}

pub each-last : {A : Type 0} (f : A → Front) (xs : List A) (x : A) (rest : List Lexeme) → each (map f (xs ++ x ∷ [])) rest ≡ each (map f xs) (f x rest)
each-last f [] x rest = refl
each-last f (y ∷ ys) x rest = ap (f y) (each-last f ys x rest)

pub commas-last : {A : Type 0} (f : A → Front) (xs : List A) (x : A) (rest : List Lexeme) → behind_commas (map f (xs ++ x ∷ [])) rest ≡ behind_commas (map f xs) (mark_of Comma (f x rest))
commas-last f [] x rest = refl
commas-last f (y ∷ ys) x rest = ap (λ r. mark_of Comma (f y r)) (commas-last f ys x rest)

pub listed-last : {A : Type 0} (f : A → Front) (xs : List A) (x : A) (rest : List Lexeme) → listed (map f (xs ++ x ∷ [])) rest ≡ listed (map f xs) (comma_behind xs (f x rest))
listed-last f [] x rest = refl
listed-last f (y ∷ ys) x rest = ap (f y) (commas-last f ys x rest)

pub percents-last : {A : Type 0} (f : A → Front) (xs : List A) (x : A) (rest : List Lexeme) → behind_percents (map f (xs ++ x ∷ [])) rest ≡ behind_percents (map f xs) (mark_of Percent (f x rest))
percents-last f [] x rest = refl
percents-last f (y ∷ ys) x rest = ap (λ r. mark_of Percent (f y r)) (percents-last f ys x rest)

one_more : {A : Type 0} (xs : List A) (i : ℕ) (x : A) → i < length xs → get_or xs i x ≡ x → take (i + 1) xs ≡ take i xs ++ x ∷ []
one_more xs i x within is = grind (arith, common_steps, is)

pub each-step : {A : Type 0} (f : A → Front) (xs : List A) (left i : ℕ) (x : A) (rest : List Lexeme) → i + 1 ≡ left → i < length xs → get_or xs i x ≡ x → each (map f (take i xs)) (f x rest) ≡ each (map f (take left xs)) rest
each-step f xs left i x rest e within is = subst (λ n. each (map f (take i xs)) (f x rest) ≡ each (map f (take n xs)) rest) e (sym (ap (λ ys. each (map f ys) rest) (one_more xs i x within is) ∙ each-last f (take i xs) x rest))

pub listed-step : {A : Type 0} (f : A → Front) (xs : List A) (left i : ℕ) (x : A) (rest : List Lexeme) → i + 1 ≡ left → i < length xs → get_or xs i x ≡ x → listed (map f (take i xs)) (comma_behind (take i xs) (f x rest)) ≡ listed (map f (take left xs)) rest
listed-step f xs left i x rest e within is = subst (λ n. listed (map f (take i xs)) (comma_behind (take i xs) (f x rest)) ≡ listed (map f (take n xs)) rest) e (sym (ap (λ ys. listed (map f ys) rest) (one_more xs i x within is) ∙ listed-last f (take i xs) x rest))

pub percents-step : {A : Type 0} (f : A → Front) (xs : List A) (left i : ℕ) (x : A) (rest : List Lexeme) → i + 1 ≡ left → i < length xs → get_or xs i x ≡ x → behind_percents (map f (take i xs)) (mark_of Percent (f x rest)) ≡ behind_percents (map f (take left xs)) rest
percents-step f xs left i x rest e within is = subst (λ n. behind_percents (map f (take i xs)) (mark_of Percent (f x rest)) ≡ behind_percents (map f (take n xs)) rest) e (sym (ap (λ ys. behind_percents (map f ys) rest) (one_more xs i x within is) ∙ percents-last f (take i xs) x rest))

pub commas-step : {A : Type 0} (f : A → Front) (xs : List A) (left i : ℕ) (x : A) (rest : List Lexeme) → i + 1 ≡ left → i < length xs → get_or xs i x ≡ x → behind_commas (map f (take i xs)) (mark_of Comma (f x rest)) ≡ behind_commas (map f (take left xs)) rest
commas-step f xs left i x rest e within is = subst (λ n. behind_commas (map f (take i xs)) (mark_of Comma (f x rest)) ≡ behind_commas (map f (take n xs)) rest) e (sym (ap (λ ys. behind_commas (map f ys) rest) (one_more xs i x within is) ∙ commas-last f (take i xs) x rest))
