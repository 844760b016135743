-- Suffixes that are read one after the other, up to the end.
use Rattle.std.proofs.Common.{◌≡◌, ℕ, zero, suc, ◌-◌, ◌+◌, ◌≤◌, ◌<◌, List, [], ◌∷◌, ◌++◌, map, Option, Some, None, true, false, refl, sym, ap, ◌∙◌, arith}
use Rattle.f_lex.specs.declared.token.Token.{Token}
use Rattle.f_grammar.specs.Reading.{◌>>=◌, name_at}
use Rattle.f_declaration_grammar.specs.Declarations.{Suffix}
use Rattle.f_declaration_grammar.specs.DeclarationReading.{suffix_at, suffixes_at}
use Rattle.f_expr_read.specs.declared.error.ReadError.{ReadError}
use Rattle.f_expr_read.specs.declared.error.ReadError.TheVariants.{Memory, Form}
use Rattle.f_expr_read.specs.Gives.{Fails}
use Rattle.f_header_read.specs.Heads.{is_ended}

-- what was read before, and what is still read
abbrev pub with_read : List Suffix → Option (List Suffix) → Option (List Suffix)
with_read xs read = read >>= λ ys. Some (xs ++ ys)

map_last : {X : Type 0} (see : X → Suffix) (xs : List X) (x : X) (ys : List Suffix) → map see (xs ++ x ∷ []) ++ ys ≡ map see xs ++ see x ∷ ys
map_last see [] x ys = refl
map_last see (z ∷ zs) x ys = ap (λ (l : List Suffix). see z ∷ l) (map_last see zs x ys)

with_last : {X : Type 0} (see : X → Suffix) (xs : List X) (x : X) (read : Option (List Suffix)) → with_read (map see (xs ++ x ∷ [])) read ≡ with_read (map see xs) (read >>= λ ys. Some (see x ∷ ys))
with_last see xs x None = refl
with_last see xs x (Some ys) = ap (λ (zs : List Suffix). Some zs) (map_last see xs x ys)

with_nothing : (xs : List Suffix) → xs ++ [] ≡ xs
with_nothing [] = refl
with_nothing (x ∷ xs) = ap (λ (ys : List Suffix). x ∷ ys) (with_nothing xs)

suffix_next : (k : ℕ) (ts after : List Token) (x : Suffix) → suffix_at ts ≡ Some (x, after) → suffixes_at (suc k) ts ≡ (suffixes_at k after >>= λ ys. Some (x ∷ ys))
unfolding suffixes_at suffix_at name_at
suffix_next k [] after x e = absurd (cc (e))
suffix_next k (t ∷ ts) after x e = rw e refl

suffix_fails : (k : ℕ) (ts : List Token) (e : ReadError) → is_ended ts ≡ false → Fails e (suffix_at ts) → Fails e (suffixes_at (suc k) ts)
unfolding suffixes_at
suffix_fails k [] e left f = absurd (cc (left))
suffix_fails k (t ∷ ts) Memory left f = tt
suffix_fails k (t ∷ ts) Form left f = rw f refl

none_left : (k : ℕ) (ts : List Token) → is_ended ts ≡ true → suffixes_at k ts ≡ Some []
unfolding suffixes_at
none_left zero [] ended = refl
none_left (suc k) [] ended = refl
none_left k (t ∷ ts) ended = absurd (cc (ended))

none_at_zero : (ts : List Token) → is_ended ts ≡ false → suffixes_at zero ts ≡ None
unfolding suffixes_at
none_at_zero [] left = absurd (cc (left))
none_at_zero (t ∷ ts) left = refl

-- what was read before is there, and the rest is still to be read
module _ {X : Type 0} (see : X → Suffix) (xs : List X) (most i : ℕ) (ts : List Token) (total : Option (List Suffix)) (so_far : with_read (map see xs) (suffixes_at (most - i) ts) ≡ total) where
  pub suffixes_go_on : (x : X) (after : List Token) → i < most → suffix_at ts ≡ Some (see x, after) → with_read (map see (xs ++ x ∷ [])) (suffixes_at (most - (i + 1)) after) ≡ total
  suffixes_go_on x after lt e =
      let k : most - i ≡ suc (most - (i + 1)) = omega arith in
      with_last see xs x (suffixes_at (most - (i + 1)) after) ∙ ap (with_read (map see xs)) (sym (suffix_next (most - (i + 1)) ts after (see x) e)) ∙ ap (λ (m : ℕ). with_read (map see xs) (suffixes_at m ts)) (sym k) ∙ so_far

  pub suffixes_fail : (e : ReadError) → i < most → is_ended ts ≡ false → Fails e (suffix_at ts) → Fails e total
  suffixes_fail Memory lt left f = tt
  suffixes_fail Form lt left f =
      let k : most - i ≡ suc (most - (i + 1)) = omega arith in
      sym so_far ∙ ap (λ (m : ℕ). with_read (map see xs) (suffixes_at m ts)) k ∙ ap (with_read (map see xs)) (suffix_fails (most - (i + 1)) ts Form left f)

  pub suffixes_end : is_ended ts ≡ true → total ≡ Some (map see xs)
  suffixes_end ended = sym so_far ∙ ap (with_read (map see xs)) (none_left (most - i) ts ended) ∙ ap (λ (ys : List Suffix). Some ys) (with_nothing (map see xs))

  pub no_end : most ≤ i → is_ended ts ≡ false → total ≡ None
  no_end le left =
      let k : most - i ≡ zero = omega arith in
      sym so_far ∙ ap (λ (m : ℕ). with_read (map see xs) (suffixes_at m ts)) k ∙ ap (with_read (map see xs)) (none_at_zero ts left)
