-- Offsets of choices, a dimension at a time.
use Rattle.std.proofs.Common.{◌≡◌, ℤ, List, [], ◌∷◌, ◌++◌, map, refl, ap, ◌∙◌}
use Rattle.std.specs.List.{flat_map}
use Rattle.std.proofs.lemmas.List.{map-append}

row : (f : List ℤ → ℤ) (g : ℤ → ℤ) (others : List ℤ) → ((k : ℤ) → f (k ∷ others) ≡ g k) → (ks : List ℤ) → map f (map (λ k. k ∷ others) ks) ≡ map g ks
row f g others h [] = refl
row f g others h (k ∷ ks) = rw (h k, row f g others h ks) refl

-- where a value of a choice comes of the value of its rest and its first, the values come row by row
pub map-choices : (f : List ℤ → ℤ) (g : ℤ → ℤ → ℤ) (h : List ℤ → ℤ) → ((k : ℤ) (others : List ℤ) → f (k ∷ others) ≡ g (h others) k) → (ks : List ℤ) (rest : List (List ℤ)) → map f (flat_map (λ others. map (λ k. k ∷ others) ks) rest) ≡ flat_map (λ o. map (g o) ks) (map h rest)
map-choices f g h e ks [] = refl
map-choices f g h e ks (others ∷ rest) =
    map-append f (map (λ k. k ∷ others) ks) (flat_map (λ others. map (λ k. k ∷ others) ks) rest)
    ∙ ap (λ xs. xs ++ map f (flat_map (λ others. map (λ k. k ∷ others) ks) rest)) (row f (g (h others)) others (λ k. e k others) ks)
    ∙ ap (λ xs. map (g (h others)) ks ++ xs) (map-choices f g h e ks rest)
