-- Lists of trees: their tokens in front of a rest, and reading them.
use Rattle.std.specs.Prelude.{ℕ, zero, suc, List, [], ◌∷◌, length, Some}
use Rattle.f_lex.specs.declared.token.Mark.TheVariants as mark
use Rattle.f_lex.specs.declared.token.Token.{Token}
use Rattle.f_grammar.specs.Grammar.{put}
use Rattle.f_grammar.specs.Reading.{◌>>=◌, choose, Read, comma_at}

-- trees with a comma before each
abbrev pub spell_behind : {A : Type 0} → (A → List Token → List Token) → List A → List Token → List Token
spell_behind spell [] rest = rest
spell_behind spell (x ∷ xs) rest = put mark.Comma (spell x (spell_behind spell xs rest))

-- trees with commas between them
abbrev pub spell_listed : {A : Type 0} → (A → List Token → List Token) → List A → List Token → List Token
spell_listed spell [] rest = rest
spell_listed spell (x ∷ xs) rest = spell x (spell_behind spell xs rest)

-- trees one after the other
abbrev pub spell_each : {A : Type 0} → (A → List Token → List Token) → List A → List Token → List Token
spell_each spell [] rest = rest
spell_each spell (x ∷ xs) rest = spell x (spell_each spell xs rest)

-- each tree fits
abbrev pub AreAll : {A : Type 0} → (A → Type 0) → List A → Type 0
AreAll P [] = Unit {0}
AreAll P (x ∷ xs) = P x × AreAll P xs

-- there is at least one, and each fits
abbrev pub AreSome : {A : Type 0} → (A → Type 0) → List A → Type 0
AreSome P [] = ⊥
AreSome P (x ∷ xs) = P x × AreAll P xs

-- at most so many more, each behind a comma
unfoldable pub behind_at : {A : Type 0} → (List Token → Read A) → ℕ → List Token → Read (List A)
behind_at one zero ts = Some ([], ts)
behind_at one (suc k) ts = choose (comma_at ts) (Some ([], ts)) (λ r. one r >>= λ x. behind_at one k x.1 >>= λ y. Some (x.0 ∷ y.0, y.1))

-- one and more, with commas between them
unfoldable pub listed_at : {A : Type 0} → (List Token → Read A) → List Token → Read (List A)
listed_at one ts = one ts >>= λ x. behind_at one (length x.1) x.1 >>= λ y. Some (x.0 ∷ y.0, y.1)
