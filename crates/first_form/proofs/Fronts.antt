-- What texts begin and end with.
use Rattle.std.proofs.Common.{◌≡◌, ◌≢◌, ℕ, List, [], ◌∷◌, ◌++◌, Option, Some, None, length, arith, refl, sym, ap, ◌∙◌}
use Rattle.std.specs.Option.{MatchOption}
use Rattle.std.specs.Borrow.{Bor}
use Rattle.std.proofs.lemmas.List.{append_cancel_left, append_cancel_right}

-- two ways to see a list have the same rest
pub tail_of : {A : Type 0} {list front back : List A} {a b : A} → list ≡ a ∷ front → list ≡ b ∷ back → front ≡ back
tail_of e h = cc

pub head_of : {A : Type 0} {list front back : List A} {a b : A} → list ≡ a ∷ front → list ≡ b ∷ back → a ≡ b
head_of e h = cc

pub rest_of : (front text a b : List ℕ) → text ≡ front ++ a → text ≡ front ++ b → a ≡ b
rest_of front text a b e h = append_cancel_left front a b (sym e ∙ h)

pub start_of : (end text a b : List ℕ) → text ≡ a ++ end → text ≡ b ++ end → a ≡ b
start_of end text a b e h = append_cancel_right a b end (sym e ∙ h)

pub between_is : (text front end rest : List ℕ) (r : Option (Bor (List ℕ))) → text ≡ front ++ rest → MatchOption r ((x : List ℕ) → rest ≢ x ++ end) (λ x. rest ≡ x.now ++ end)
    → MatchOption r ((x : List ℕ) → text ≢ front ++ (x ++ end)) (λ x. text ≡ front ++ (x.now ++ end))
between_is text front end rest None e none = λ x h. none x (rest_of front text rest (x ++ end) e h)
between_is text front end rest (Some x) e some = e ∙ ap (λ (y : List ℕ). front ++ y) some

pub is_nothing : (text : List ℕ) → length text ≡ 0 → text ≡ []
is_nothing [] e = refl
is_nothing (byte ∷ text) e = absurd (omega arith)
