-- Lists that are read one element after the other.
use Rattle.std.proofs.Common.{◌≡◌, ℕ, zero, suc, ◌-◌, ◌+◌, ◌≤◌, ◌<◌, List, [], ◌∷◌, ◌++◌, map, Some, None, refl, ap, ◌∙◌}
use Rattle.f_lex.specs.declared.token.Token.{Token}
use Rattle.f_grammar.specs.Reading.{◌>>=◌, choose, Read, comma_at}
use Rattle.f_declaration_grammar.specs.Listing.{behind_at}
use Rattle.f_expr_read.specs.declared.error.ReadError.{ReadError}
use Rattle.f_expr_read.specs.declared.error.ReadError.TheVariants.{Memory, Form}
use Rattle.f_expr_read.specs.Gives.{Fails, onto, behind}
use Rattle.f_expr_read.proofs.Loops.{Next, goes_on, fails, no_more_of, done}

abbrev pub front : {A : Type 0} → A → List A → List A
front x xs = x ∷ xs

pub behind_nothing : {A : Type 0} (read : Read (List A)) → behind (λ x xs. x ∷ xs) [] read ≡ read
behind_nothing None = refl
behind_nothing (Some y) = refl

pub onto_nothing : {A : Type 0} (xs : List A) → onto front xs [] ≡ xs
onto_nothing [] = refl
onto_nothing (x ∷ xs) = ap (λ (ys : List _). x ∷ ys) (onto_nothing xs)

module _ {A : Type 0} (one : List Token → Read A) where
  pub behind_next : (ts r after : List Token) (x : A) → comma_at ts ≡ Some r → one r ≡ Some (x, after) → Next front (behind_at one) ts x after
  unfolding behind_at
  behind_next ts r after x e1 e2 = λ k. rw (e1, e2) refl

  pub behind_fails : (ts r : List Token) (e : ReadError) → comma_at ts ≡ Some r → Fails e (one r) → (k : ℕ) → Fails e (behind_at one (suc k) ts)
  unfolding behind_at
  behind_fails ts r Memory e1 f = λ k. tt
  behind_fails ts r Form e1 f = λ k. rw (e1, f) refl

  pub behind_stops : (ts : List Token) → comma_at ts ≡ None → (k : ℕ) → behind_at one (suc k) ts ≡ Some ([], ts)
  unfolding behind_at
  behind_stops ts e = λ k. rw e refl

  pub behind_zero : (ts : List Token) → behind_at one zero ts ≡ Some ([], ts)
  unfolding behind_at
  behind_zero ts = refl

-- what was read before is there, and the rest is still to be read
module _ {X A : Type 0} (one : List Token → Read A) (see : X → A) (xs : List X) (most i : ℕ) (ts : List Token) (total : Read (List A)) (so_far : behind front (map see xs) (behind_at one (most - i) ts) ≡ total) where
  pub list_goes_on : (x : X) (r after : List Token) → i < most → comma_at ts ≡ Some r → one r ≡ Some (see x, after) → behind front (map see (xs ++ x ∷ [])) (behind_at one (most - (i + 1)) after) ≡ total
  list_goes_on x r after lt e1 e2 = goes_on [] front (behind_at one) see xs most i ts total so_far x after lt (behind_next one ts r after (see x) e1 e2)

  pub list_fails : (e : ReadError) (r : List Token) → i < most → comma_at ts ≡ Some r → Fails e (one r) → Fails e total
  list_fails e r lt e1 f = fails [] front (behind_at one) see xs most i ts total so_far e lt (behind_fails one ts r e e1 f)

  pub list_ends : i < most → comma_at ts ≡ None → total ≡ Some (map see xs, ts)
  list_ends lt e = no_more_of [] front (behind_at one) see xs most i ts total so_far lt (behind_stops one ts e) ∙ ap (λ (ys : List A). Some (ys, ts)) (onto_nothing (map see xs))

  pub list_is_done : most ≤ i → total ≡ Some (map see xs, ts)
  list_is_done le = done [] front (behind_at one) see xs most i ts total so_far le (behind_zero one ts) ∙ ap (λ (ys : List A). Some (ys, ts)) (onto_nothing (map see xs))
