-- The items of a list, its last element apart.
use Rattle.std.proofs.Common.{◌≡◌, ℕ, ◌+◌, ◌<◌, List, [], ◌∷◌, ◌++◌, map, take, length, get_or, refl, sym, ap, subst, ◌∙◌, arith}
use Rattle.std.proofs.lemmas.Grind.{common_steps}
use Rattle.f_items.specs.declared.item.Item.{Item}
use Rattle.f_unit_items.specs.Fronts.{Front, each, each_given}

pub each-last : {A : Type 0} (f : A → Front) (xs : List A) (x : A) (rest : List Item) → each (map f (xs ++ x ∷ [])) rest ≡ each (map f xs) (f x rest)
each-last f [] x rest = refl
each-last f (y ∷ ys) x rest = ap (f y) (each-last f ys x rest)

pub given-last : {A B : Type 0} (b : B) (f : A → B → Front) (xs : List A) (x : A) (rest : List Item) → each_given b (map f (xs ++ x ∷ [])) rest ≡ each_given b (map f xs) (f x b rest)
given-last b f [] x rest = refl
given-last b f (y ∷ ys) x rest = ap (f y b) (given-last b f ys x rest)

one_more : {A : Type 0} (xs : List A) (i : ℕ) (x : A) → i < length xs → get_or xs i x ≡ x → take (i + 1) xs ≡ take i xs ++ x ∷ []
one_more xs i x within is = grind (arith, common_steps, is)

pub each-step : {A : Type 0} (f : A → Front) (xs : List A) (left i : ℕ) (x : A) (rest : List Item) → i + 1 ≡ left → i < length xs → get_or xs i x ≡ x → each (map f (take i xs)) (f x rest) ≡ each (map f (take left xs)) rest
each-step f xs left i x rest e within is = subst (λ n. each (map f (take i xs)) (f x rest) ≡ each (map f (take n xs)) rest) e (sym (ap (λ ys. each (map f ys) rest) (one_more xs i x within is) ∙ each-last f (take i xs) x rest))

pub given-step : {A B : Type 0} (b : B) (f : A → B → Front) (xs : List A) (left i : ℕ) (x : A) (rest : List Item) → i + 1 ≡ left → i < length xs → get_or xs i x ≡ x → each_given b (map f (take i xs)) (f x b rest) ≡ each_given b (map f (take left xs)) rest
given-step b f xs left i x rest e within is = subst (λ n. each_given b (map f (take i xs)) (f x b rest) ≡ each_given b (map f (take n xs)) rest) e (sym (ap (λ ys. each_given b (map f ys) rest) (one_more xs i x within is) ∙ given-last b f (take i xs) x rest))
