-- The order of faults, and the first of many.
use Rattle.std.proofs.Common.{◌≡◌, ℕ, Bool, true, false, cond, eqb, nat_lt, List, [], ◌∷◌, ◌⊎◌, inl, inr, Option, Some, None, refl, sym, ap, subst, ◌∙◌, arith}
use Rattle.std.specs.Prelude.{not}
use Rattle.std.proofs.lemmas.Bool.Decides.{nat_tests}
use Rattle.f_lex.specs.declared.reader.Fault.{Fault}
use Rattle.f_lex.specs.declared.fault.Rule.{Rule}
use Rattle.f_lex.specs.declared.fault.Rule.TheVariants as rule
use Rattle.f_lex.specs.Rules.{tag_number, is_before, reported, least}
use Rattle.f_lex.specs.Lexing.{AreKept, IsAmong, NotBefore, NoneBefore}

abbrev before : ℕ → ℕ → ℕ → ℕ → ℕ → ℕ → Bool
before l c t l' c' t' = cond (not (eqb l l')) (nat_lt l l') (cond (not (eqb c c')) (nat_lt c c') (nat_lt t t'))

irreflexive : (l c t : ℕ) → before l c t l c t ≡ false
irreflexive l c t = grind (arith, nat_tests)

earlier : (l1 c1 t1 l2 c2 t2 l3 c3 t3 : ℕ) → before l1 c1 t1 l2 c2 t2 ≡ true → before l1 c1 t1 l3 c3 t3 ≡ false → before l2 c2 t2 l3 c3 t3 ≡ false
earlier l1 c1 t1 l2 c2 t2 l3 c3 t3 e f = grind (arith, nat_tests)

later : (l1 c1 t1 l2 c2 t2 l3 c3 t3 : ℕ) → before l1 c1 t1 l2 c2 t2 ≡ false → before l2 c2 t2 l3 c3 t3 ≡ false → before l1 c1 t1 l3 c3 t3 ≡ false
later l1 c1 t1 l2 c2 t2 l3 c3 t3 e f = grind (arith, nat_tests)

same : (l1 c1 t1 l2 c2 t2 : ℕ) → before l1 c1 t1 l2 c2 t2 ≡ false → before l2 c2 t2 l1 c1 t1 ≡ false → (l1 ≡ l2) × (c1 ≡ c2) × (t1 ≡ t2)
same l1 c1 t1 l2 c2 t2 e f = grind (arith, nat_tests)

-- ---- faults

not_before_itself : (f : Fault) → is_before f f ≡ false
unfolding is_before
not_before_itself f = irreflexive f.point.line f.point.column (tag_number f.rule)

before_later : (b a f : Fault) → is_before b a ≡ true → is_before b f ≡ false → is_before a f ≡ false
unfolding is_before
before_later b a f e g = earlier b.point.line b.point.column (tag_number b.rule) a.point.line a.point.column (tag_number a.rule) f.point.line f.point.column (tag_number f.rule) e g

after_later : (b a f : Fault) → is_before b a ≡ false → is_before a f ≡ false → is_before b f ≡ false
unfolding is_before
after_later b a f e g = later b.point.line b.point.column (tag_number b.rule) a.point.line a.point.column (tag_number a.rule) f.point.line f.point.column (tag_number f.rule) e g

-- the rule of a number
rule_of : ℕ → Option Rule
rule_of n = cond (eqb n 101) (Some rule.LongLine) (cond (eqb n 102) (Some rule.LongName) (cond (eqb n 103) (Some rule.ForeignByte) (cond (eqb n 104) (Some rule.OpenText)
    (cond (eqb n 105) (Some rule.LostLine) (cond (eqb n 106) (Some rule.NoToken) (cond (eqb n 107) (Some rule.TooMany) (Some rule.LongStatement)))))))

rule_again : (r : Rule) → rule_of (tag_number r) ≡ Some r
unfolding rule_of
rule_again rule.LongLine = refl
rule_again rule.LongName = refl
rule_again rule.ForeignByte = refl
rule_again rule.OpenText = refl
rule_again rule.LostLine = refl
rule_again rule.NoToken = refl
rule_again rule.TooMany = refl
rule_again rule.LongStatement = refl

same_rule : (r s : Rule) → tag_number r ≡ tag_number s → r ≡ s
same_rule r s e = let both : Some r ≡ Some s = sym (rule_again r) ∙ ap rule_of e ∙ rule_again s in cc

fault_is : (l c l' c' : ℕ) (r r' : Rule) → l ≡ l' → c ≡ c' → r ≡ r' → let f : Fault = record { point = record { line = l; column = c }; rule = r } in let g : Fault = record { point = record { line = l'; column = c' }; rule = r' } in f ≡ g
fault_is l c l' c' r r' e f g =
    ap (λ (x : ℕ). let h : Fault = record { point = record { line = x; column = c }; rule = r } in h) e
    ∙ ap (λ (x : ℕ). let h : Fault = record { point = record { line = l'; column = x }; rule = r } in h) f
    ∙ ap (λ (x : Rule). let h : Fault = record { point = record { line = l'; column = c' }; rule = x } in h) g

-- two faults of which none is before the other are one
pub same_fault : (a b : Fault) → is_before a b ≡ false → is_before b a ≡ false → a ≡ b
unfolding is_before
same_fault a b e f =
    let (l, c, t) = same a.point.line a.point.column (tag_number a.rule) b.point.line b.point.column (tag_number b.rule) e f in
    fault_is a.point.line a.point.column b.point.line b.point.column a.rule b.rule l c (same_rule a.rule b.rule t)

-- ---- the first of many

reported-some : (first o : Option Fault) (f : Fault) → reported first o ≡ Some f → (first ≡ Some f) ⊎ (o ≡ Some f)
unfolding reported
reported-some None None f e = inl e
reported-some (Some a) None f e = inl e
reported-some None (Some b) f e = inr e
reported-some (Some a) (Some b) f e = pick (is_before b a) e
  where
    pick : (v : Bool) → cond v (Some b) (Some a) ≡ Some f → (Some a ≡ Some f) ⊎ (Some b ≡ Some f)
    pick true e = inr e
    pick false e = inl e

reported-first : (first o : Option Fault) (f : Fault) → NotBefore f (reported first o) → NotBefore f first × NotBefore f o
unfolding reported
reported-first None None f n = (tt, tt)
reported-first (Some a) None f n = (n, tt)
reported-first None (Some b) f n = (tt, n)
reported-first (Some a) (Some b) f n = pick (is_before b a) refl n
  where
    pick : (v : Bool) → is_before b a ≡ v → NotBefore f (cond v (Some b) (Some a)) → (is_before a f ≡ false) × (is_before b f ≡ false)
    pick true e n = (before_later b a f e n, n)
    pick false e n = (n, after_later b a f e n)

reported-kept : (first o : Option Fault) → reported first o ≡ None → (first ≡ None) × (o ≡ None)
unfolding reported
reported-kept None None e = (refl, refl)
reported-kept (Some a) None e = cc
reported-kept None (Some b) e = cc
reported-kept (Some a) (Some b) e = pick (is_before b a) e
  where
    pick : (v : Bool) → cond v (Some b) (Some a) ≡ None → (Some a ≡ None) × (Some b ≡ None)
    pick true e = cc
    pick false e = cc

pub least-kept : (first : Option Fault) (os : List (Option Fault)) → least first os ≡ None → (first ≡ None) × AreKept os
least-kept first [] e = (e, tt)
least-kept first (o ∷ os) e = let h = least-kept (reported first o) os e in let r = reported-kept first o h.0 in (r.0, (r.1, h.1))

pub least-first : (first : Option Fault) (os : List (Option Fault)) (f : Fault) → least first os ≡ Some f → ((first ≡ Some f) ⊎ IsAmong f os) × NotBefore f first × NoneBefore f os
least-first first [] f e = (inl e, subst (NotBefore f) (sym e) (not_before_itself f), tt)
least-first first (o ∷ os) f e =
    let h = least-first (reported first o) os f e in
    let r = reported-first first o f h.1 in
    (pick h.0, r.0, (r.1, h.2))
  where
    pick : (reported first o ≡ Some f) ⊎ IsAmong f os → (first ≡ Some f) ⊎ ((o ≡ Some f) ⊎ IsAmong f os)
    pick (inr i) = inr (inr i)
    pick (inl e) = two (reported-some first o f e)
      where
        two : (first ≡ Some f) ⊎ (o ≡ Some f) → (first ≡ Some f) ⊎ ((o ≡ Some f) ⊎ IsAmong f os)
        two (inl e) = inl e
        two (inr e) = inr (inl e)

-- no rule is broken where all are kept, and what is among them isn't before the first
pub kept_none : (f : Fault) (os : List (Option Fault)) → AreKept os → IsAmong f os → ⊥
kept_none f [] k i = i
kept_none f (o ∷ os) k (inl e) = let both : None ≡ Some f = sym k.0 ∙ e in cc
kept_none f (o ∷ os) k (inr i) = kept_none f os k.1 i

pub among_later : (f g : Fault) (os : List (Option Fault)) → NoneBefore f os → IsAmong g os → is_before g f ≡ false
among_later f g [] n i = absurd i
among_later f g (o ∷ os) n (inl e) = subst (NotBefore f) e n.0
among_later f g (o ∷ os) n (inr i) = among_later f g os n.1 i
