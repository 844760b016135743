-- The names of a text by their numbers.
use Rattle.std.proofs.Common.{◌≡◌, ℕ, Bool, true, false, cond, List, [], ◌∷◌, Some, refl, sym, ap, ◌∙◌}
use Rattle.std.specs.Prelude.{slice_get}
use Rattle.std.specs.Str.{bytes_eq}
use Rattle.c_words.specs.Pieces.{Piece}
use Rattle.c_words.specs.Words.{index_of}
use Rattle.c_words.specs.Numbering.{names_in, without, firsts, names_of}
use Rattle.c_words.specs.Making.{is_among}
use Rattle.c_words.proofs.Named.{same_bytes, named_at}

among_without : (x s : List ℕ) (ks : List (List ℕ)) → bytes_eq s x ≡ false → is_among (without x ks) s ≡ is_among ks s
among_without x s [] other = refl
among_without x s (k ∷ ks) other = pick (bytes_eq k x) refl (among_without x s ks other)
  where
    pick : (b : Bool) → bytes_eq k x ≡ b → is_among (without x ks) s ≡ is_among ks s → is_among (cond b (without x ks) (k ∷ without x ks)) s ≡ cond (bytes_eq s k) true (is_among ks s)
    pick true e ih = let t : bytes_eq s k ≡ false = ap (bytes_eq s) (same_bytes k x e) ∙ other in ih ∙ sym (rw t refl)
    pick false e ih = ap (λ b. cond (bytes_eq s k) true b) ih

among_firsts : (xs : List (List ℕ)) (s : List ℕ) → is_among (firsts xs) s ≡ is_among xs s
unfolding firsts
among_firsts [] s = refl
among_firsts (x ∷ xs) s = pick (bytes_eq s x) refl (among_firsts xs s)
  where
    pick : (b : Bool) → bytes_eq s x ≡ b → is_among (firsts xs) s ≡ is_among xs s → cond b true (is_among (without x (firsts xs)) s) ≡ cond b true (is_among xs s)
    pick true e ih = refl
    pick false e ih = among_without x s (firsts xs) e ∙ ih

pub found_by_number : (ps : List Piece) (name : List ℕ) → is_among (names_in ps) name ≡ true → slice_get (names_of ps) (index_of (names_of ps) name) ≡ Some name
unfolding names_of
found_by_number ps name e = named_at (firsts (names_in ps)) name (among_firsts (names_in ps) name ∙ e)
