-- A word among others.
use Rattle.std.proofs.Common.{◌≡◌, ◌↔◌, ℕ, Bool, true, List, IsTrue, sym, ◌∙◌, rules}
use Rattle.std.specs.List.{Contains, list_any}
use Rattle.std.specs.Str.{bytes_eq}
use Rattle.std.specs.Cmp.Lexicographic.{nat_list_eq_equiv}
use Rattle.std.proofs.lemmas.Slice.Eq.{bytes_eq-Decides}
use Rattle.std.proofs.lemmas.Map.Views.{list_any-from_Contains, Contains-from_any}

true_to : (b : Bool) → IsTrue b → b ≡ true
true_to b h = search rules

true_from : (b : Bool) → b ≡ true → IsTrue b
true_from b h = search rules

pub found_exactly : (word : List ℕ) (words : List (List ℕ)) (found : Bool) → found ≡ list_any (bytes_eq word) words → IsTrue found ↔ Contains words word
found_exactly word words found e = (
  (λ t. Contains-from_any {eq = bytes_eq} (λ x y. (bytes_eq-Decides x y).0) word words (sym e ∙ true_to found t)),
  (λ h. true_from found (e ∙ list_any-from_Contains {eq = bytes_eq} nat_list_eq_equiv word words h)),
)
