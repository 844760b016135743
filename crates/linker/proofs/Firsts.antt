-- The first of names, with one more name.
use Rattle.std.proofs.Common.{◌≡◌, ℕ, ◌+◌, ◌<◌, ◌⊎◌, inl, inr, List, [], sym, ap, ◌∙◌, subst, arith}
use Rattle.std.specs.Prelude.{slice_get, Some, true, false}
use Rattle.std.specs.Cmp.Lexicographic.{slice_cmp}
use Rattle.std.specs.Ordering.{nat_cmp, is_lt}
use Rattle.linker.specs.Names.{Holds}
use Rattle.linker.specs.First.{IsFirst, IsNoneBefore}
use Rattle.linker.proofs.Order.{not_before_itself, not_before_less, not_before_more}

abbrev pub FirstTo : (names : List (List ℕ)) (i first : ℕ) → Type 0
FirstTo names i first = (f n : List ℕ) (m : ℕ) → slice_get names first ≡ Some f → slice_get names m ≡ Some n → m < i → is_lt (slice_cmp nat_cmp n f) ≡ false

same_name : (a b : List ℕ) → Some a ≡ Some b → a ≡ b
same_name a b e = cc

below_cases : (a b : ℕ) → a < b + 1 → (a < b) ⊎ (a ≡ b)
below_cases a b le = grind arith

module _ (names : List (List ℕ)) (i first : ℕ) (a b : List ℕ) (ga : slice_get names i ≡ Some a) (gb : slice_get names first ≡ Some b) (h : FirstTo names i first) where
  at_i : (n : List ℕ) (m : ℕ) → slice_get names m ≡ Some n → m ≡ i → n ≡ a
  at_i n m g e = same_name n a (sym g ∙ ap (λ (k : ℕ). slice_get names k) e ∙ ga)

  pub first_then : is_lt (slice_cmp nat_cmp a b) ≡ true → FirstTo names (i + 1) i
  first_then less f n m gf gn lt =
      let same : a ≡ f = same_name a f (sym ga ∙ gf) in
      subst (λ (x : List ℕ). is_lt (slice_cmp nat_cmp n x) ≡ false) same (by (below_cases m i lt))
    where
      by : (m < i) ⊎ (m ≡ i) → is_lt (slice_cmp nat_cmp n a) ≡ false
      by (inl l) = not_before_less n a b (h b n m gb gn l) less
      by (inr e) = subst (λ (x : List ℕ). is_lt (slice_cmp nat_cmp x a) ≡ false) (sym (at_i n m gn e)) (not_before_itself a)

  pub first_else : is_lt (slice_cmp nat_cmp a b) ≡ false → FirstTo names (i + 1) first
  first_else not f n m gf gn lt = by (below_cases m i lt)
    where
      by : (m < i) ⊎ (m ≡ i) → is_lt (slice_cmp nat_cmp n f) ≡ false
      by (inl l) = h f n m gf gn l
      by (inr e) =
          let same : b ≡ f = same_name b f (sym gb ∙ gf) in
          subst (λ (x : List ℕ). is_lt (slice_cmp nat_cmp n x) ≡ false) same (subst (λ (x : List ℕ). is_lt (slice_cmp nat_cmp x b) ≡ false) (sym (at_i n m gn e)) not)

-- the first of two lists
pub first_again : (missing twice : List (List ℕ)) (lost again name : List ℕ) → IsFirst missing lost → IsFirst twice again → is_lt (slice_cmp nat_cmp again lost) ≡ true → name ≡ again
    → IsFirst twice name × IsNoneBefore missing name
first_again missing twice lost again name m t less e =
    let claim : List ℕ → Type 0 = λ n. IsFirst twice n × IsNoneBefore missing n in
    subst claim (sym e) (t, λ other h. not_before_less other again lost (m.1 other h) less)

pub first_lost : (missing twice : List (List ℕ)) (lost again name : List ℕ) → IsFirst missing lost → IsFirst twice again → is_lt (slice_cmp nat_cmp again lost) ≡ false → name ≡ lost
    → IsFirst missing name × IsNoneBefore twice name
first_lost missing twice lost again name m t not e =
    let claim : List ℕ → Type 0 = λ n. IsFirst missing n × IsNoneBefore twice n in
    subst claim (sym e) (m, λ other h. not_before_more other again lost (t.1 other h) not)

pub first_alone : (missing twice : List (List ℕ)) (lost name : List ℕ) → IsFirst missing lost → twice ≡ [] → name ≡ lost → IsFirst missing name × IsNoneBefore twice name
first_alone missing twice lost name m none e =
    let claim : List ℕ → Type 0 = λ n. IsFirst missing n × IsNoneBefore twice n in
    subst claim (sym e) (m, λ other h. absurd (nothing other h))
  where
    nothing : (other : List ℕ) → Holds twice other → ⊥
    nothing other h = let g : slice_get [] h.0 ≡ Some other = subst (λ (ns : List (List ℕ)). slice_get ns h.0 ≡ Some other) none h.1 in cc
