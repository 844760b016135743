-- Lists of trees are read as they are spelled, and the other way round.
use Rattle.std.proofs.Common.{◌≡◌, ℕ, zero, suc, ◌+◌, ◌≤◌, List, [], ◌∷◌, length, Some, None, refl, ap, ◌∙◌, arith}
use Rattle.f_lex.specs.declared.token.Mark.TheVariants as mark
use Rattle.f_lex.specs.declared.token.Token.{Token}
use Rattle.f_grammar.specs.Grammar.{put}
use Rattle.f_grammar.specs.Reading.{IfSome, Read, comma_at}
use Rattle.f_grammar.proofs.Sound.{then, chosen, comma_sound}
use Rattle.f_declaration_grammar.specs.Listing.{spell_behind, spell_listed, AreAll, AreSome, behind_at, listed_at}

-- what is read is spelled before the rest, and fits
abbrev pub Spelled : {A : Type 0} → (A → List Token → List Token) → (A → Type 0) → List Token → A × List Token → Type 0
Spelled spell P ts x = (ts ≡ spell x.0 x.1) × P x.0

module _ {A : Type 0} (one : List Token → Read A) (spell : A → List Token → List Token) (P : A → Type 0) (sound : (ts : List Token) → IfSome (one ts) (Spelled spell P ts)) where
  pub behind_sound : (k : ℕ) (ts : List Token) → IfSome (behind_at one k ts) (Spelled (spell_behind spell) (AreAll P) ts)
  unfolding behind_at
  behind_sound zero ts = (refl, tt)
  behind_sound (suc k) ts = chosen (comma_at ts) _ _ (λ r. ts ≡ put mark.Comma r) (Spelled (spell_behind spell) (AreAll P) ts) (comma_sound ts) (refl, tt) (λ r i.
      then (one r) _ (Spelled spell P r) _ (sound r) (λ x p.
      then (behind_at one k x.1) _ (Spelled (spell_behind spell) (AreAll P) x.1) _ (behind_sound k x.1) (λ y q.
      (i ∙ ap (put mark.Comma) (p.0 ∙ ap (spell x.0) q.0), (p.1, q.1)))))

  pub listed_sound : (ts : List Token) → IfSome (listed_at one ts) (Spelled (spell_listed spell) (AreSome P) ts)
  unfolding listed_at
  listed_sound ts =
      then (one ts) _ (Spelled spell P ts) _ (sound ts) (λ x p.
      then (behind_at one (length x.1) x.1) _ (Spelled (spell_behind spell) (AreAll P) x.1) _ (behind_sound (length x.1) x.1) (λ y q.
      (p.0 ∙ ap (spell x.0) q.0, (p.1, q.1))))

pub behind_none : {A : Type 0} (one : List Token → Read A) (m : ℕ) (rest : List Token) → comma_at rest ≡ None → behind_at one m rest ≡ Some ([], rest)
unfolding behind_at
behind_none one zero rest e = refl
behind_none one (suc m) rest e = rw e refl

behind_step : {A : Type 0} (one : List Token → Read A) (m : ℕ) (ts r rest : List Token) (x : A) (xs : List A) → one ts ≡ Some (x, r) → behind_at one m r ≡ Some (xs, rest) → behind_at one (suc m) (put mark.Comma ts) ≡ Some (x ∷ xs, rest)
unfolding behind_at comma_at
behind_step one m ts r rest x xs e1 e2 = rw (e1, e2) refl

listed_step : {A : Type 0} (one : List Token → Read A) (ts r rest : List Token) (x : A) (xs : List A) → one ts ≡ Some (x, r) → behind_at one (length r) r ≡ Some (xs, rest) → listed_at one ts ≡ Some (x ∷ xs, rest)
unfolding listed_at
listed_step one ts r rest x xs e1 e2 = rw (e1, e2) refl

module _ {A : Type 0} (one : List Token → Read A) (spell : A → List Token → List Token) (P : A → Type 0) (E : List Token → Type 0)
    (comma : (ts : List Token) → E (put mark.Comma ts))
    (grows : (x : A) (rest : List Token) → length rest ≤ length (spell x rest))
    (again : (x : A) (rest : List Token) → P x → E rest → one (spell x rest) ≡ Some (x, rest)) where
  behind_ends : (xs : List A) (rest : List Token) → E rest → E (spell_behind spell xs rest)
  behind_ends [] rest e = e
  behind_ends (x ∷ xs) rest e = comma (spell x (spell_behind spell xs rest))

  pub behind_grows : (xs : List A) (rest : List Token) → length xs + length rest ≤ length (spell_behind spell xs rest)
  behind_grows [] rest = omega arith
  behind_grows (x ∷ xs) rest = omega (arith, grows x (spell_behind spell xs rest), behind_grows xs rest)

  pub behind_again : (xs : List A) (m : ℕ) (rest : List Token) → AreAll P xs → E rest → comma_at rest ≡ None → length xs ≤ m → behind_at one m (spell_behind spell xs rest) ≡ Some (xs, rest)
  behind_again [] m rest f e c le = behind_none one m rest c
  behind_again (x ∷ xs) zero rest f e c le = absurd (omega (arith, le))
  behind_again (x ∷ xs) (suc m) rest f e c le = behind_step one m (spell x (spell_behind spell xs rest)) (spell_behind spell xs rest) rest x xs
      (again x (spell_behind spell xs rest) f.0 (behind_ends xs rest e)) (behind_again xs m rest f.1 e c (omega (arith, le)))

  pub behind_all : (xs : List A) (rest : List Token) → AreAll P xs → E rest → comma_at rest ≡ None → behind_at one (length (spell_behind spell xs rest)) (spell_behind spell xs rest) ≡ Some (xs, rest)
  behind_all xs rest f e c = behind_again xs (length (spell_behind spell xs rest)) rest f e c (omega (arith, behind_grows xs rest))

  pub listed_again : (xs : List A) (rest : List Token) → AreSome P xs → E rest → comma_at rest ≡ None → listed_at one (spell_listed spell xs rest) ≡ Some (xs, rest)
  listed_again [] rest f e c = absurd f
  listed_again (x ∷ xs) rest f e c = listed_step one (spell x (spell_behind spell xs rest)) (spell_behind spell xs rest) rest x xs
      (again x (spell_behind spell xs rest) f.0 (behind_ends xs rest e)) (behind_all xs rest f.1 e c)

  pub listed_grows : (xs : List A) (rest : List Token) → length rest ≤ length (spell_listed spell xs rest)
  listed_grows [] rest = omega arith
  listed_grows (x ∷ xs) rest = omega (arith, grows x (spell_behind spell xs rest), behind_grows xs rest)
