-- The grammar's statements are those of the three groups of words.
use Rattle.std.proofs.Common.{◌≡◌, ℕ, List, [], ◌∷◌, Bool, true, false, bytes_eq, codes, refl, sym, subst}
use Rattle.std.proofs.lemmas.Slice.Eq.{bytes_eq-Decides}
use Rattle.f_lex.specs.declared.token.Token.{Token}
use Rattle.f_lex.specs.declared.token.Token.TheVariants as token
use Rattle.f_grammar.specs.Reading.{name_at}
use Rattle.f_declaration_grammar.specs.DeclarationReading.{type_word_at, declared_by, declared_at}
use Rattle.f_declaration_read.specs.Words.{start_or_typed, by_type_word, by_part_word, by_unit_word, by_first_word}

type_is : (n : ℕ) (ts : List Token) → declared_by n (codes "type") ts ≡ by_unit_word n (codes "type") ts (token.Name (codes "type") ∷ ts)
unfolding declared_by type_word_at start_or_typed by_type_word by_part_word by_unit_word
type_is n ts = refl

another_is : (n : ℕ) (w : List ℕ) (ts : List Token) → bytes_eq w (codes "type") ≡ false → declared_by n w ts ≡ by_unit_word n w ts (token.Name w ∷ ts)
unfolding declared_by by_type_word by_part_word by_unit_word
another_is n w ts e = rw e refl

words_are : (n : ℕ) (w : List ℕ) (ts : List Token) → declared_by n w ts ≡ by_unit_word n w ts (token.Name w ∷ ts)
words_are n w ts = pick (bytes_eq w (codes "type")) refl
  where
    pick : (b : Bool) → bytes_eq w (codes "type") ≡ b → declared_by n w ts ≡ by_unit_word n w ts (token.Name w ∷ ts)
    pick true e = subst (λ (v : List ℕ). declared_by n v ts ≡ by_unit_word n v ts (token.Name v ∷ ts)) (sym ((bytes_eq-Decides w (codes "type")).0 e)) (type_is n ts)
    pick false e = another_is n w ts e

pub declared_is : (n : ℕ) (ts : List Token) → declared_at n ts ≡ by_first_word n ts
unfolding declared_at by_first_word name_at
declared_is n [] = refl
declared_is n (token.Name w ∷ ts) = words_are n w ts
declared_is n (token.Number digits k ∷ ts) = refl
declared_is n (token.Truth value k ∷ ts) = refl
declared_is n (token.Text bytes k ∷ ts) = refl
declared_is n (token.Mark m ∷ ts) = refl
declared_is n (token.End ∷ ts) = refl
