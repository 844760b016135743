-- Conditional expressions that stand in a row, from left to right.
use Rattle.std.proofs.Common.{◌≡◌, Bool, true, false, ◌||◌, Option, Some, None, refl, sym, ap, ◌∙◌}
use Rattle.c_condition.specs.declared.outcome.Outcome.{Outcome}
use Rattle.c_condition.specs.declared.outcome.Outcome.TheVariants.{Signed, Unsigned, Without}
use Rattle.c_condition.specs.declared.choice.Choice.{Choice}
use Rattle.c_condition.specs.Values.{is_unsigned, truth, with_type, chosen, conditional}
use Rattle.c_condition.specs.Choices.{no_choice, taken, chosen_after, settled, choice_after}

or_assoc : (a b c : Bool) → (a || b) || c ≡ a || (b || c)
or_assoc true b c = refl
or_assoc false b c = refl

or_false : (a : Bool) → a || false ≡ a
or_false true = refl
or_false false = refl

-- a conversion to a type and then to a wider one
twice : (u v : Bool) (x : Outcome) → with_type (u || v) (with_type v x) ≡ with_type (u || v) x
twice true true (Signed z) = refl
twice true true (Unsigned n) = refl
twice true true (Without w) = refl
twice true false x = refl
twice false true (Signed z) = refl
twice false true (Unsigned n) = refl
twice false true (Without w) = refl
twice false false x = refl

-- the type of a conditional expression is that of both sides
type_of_chosen : (t : Option Bool) (x y : Outcome) (u v : Bool) → is_unsigned x ≡ u → is_unsigned y ≡ v → is_unsigned (with_type (u || v) (chosen t x y)) ≡ u || v
type_of_chosen t x y u v e f = go t (u || v) refl
  where
    wide : (z : Outcome) → is_unsigned (with_type true z) ≡ true
    wide (Signed z) = refl
    wide (Unsigned n) = refl
    wide (Without w) = refl

    neither : (a b : Bool) → a || b ≡ false → (a ≡ false) × (b ≡ false)
    neither true b g = absurd (cc)
    neither false b g = (refl, g)

    go : (t : Option Bool) (b : Bool) → u || v ≡ b → is_unsigned (with_type b (chosen t x y)) ≡ b
    go t true g = wide (chosen t x y)
    go None false g = ap (λ a. a || is_unsigned y) e ∙ ap (λ a. u || a) f ∙ g
    go (Some true) false g = e ∙ (neither u v g).0
    go (Some false) false g = f ∙ (neither u v g).1

pub settled_after : (c : Choice) (first second last : Outcome) → settled (choice_after c first second) last ≡ settled c (conditional first second last)
settled_after c first second last = go c.taken refl (truth first)
  where
    u : Bool
    u = is_unsigned second

    v : Bool
    v = is_unsigned last

    same : (x : Outcome) → with_type ((c.is_unsigned || u) || v) x ≡ with_type (c.is_unsigned || (u || v)) x
    same x = ap (λ b. with_type b x) (or_assoc c.is_unsigned u v)

    typed : (t : Option Bool) → is_unsigned (with_type (u || v) (chosen t second last)) ≡ u || v
    typed t = type_of_chosen t second last u v refl refl

    missing : (b w : Bool) → with_type (b || w) (Without false) ≡ with_type (b || w) (with_type w (Without w))
    missing true true = refl
    missing true false = refl
    missing false true = refl
    missing false false = refl

    go : (o : Option Outcome) → c.taken ≡ o → (t : Option Bool) → with_type ((c.is_unsigned || u) || v) (taken (chosen_after o t second) last) ≡ with_type (c.is_unsigned || is_unsigned (with_type (u || v) (chosen t second last))) (taken o (with_type (u || v) (chosen t second last)))
    go (Some x) e t = same x ∙ ap (λ b. with_type (c.is_unsigned || b) x) (sym (typed t))
    go None e t = inside t ∙ ap (λ b. with_type (c.is_unsigned || b) (with_type (u || v) (chosen t second last))) (sym (typed t))
      where
        inside : (t : Option Bool) → with_type ((c.is_unsigned || u) || v) (taken (chosen_after None t second) last) ≡ with_type (c.is_unsigned || (u || v)) (with_type (u || v) (chosen t second last))
        inside None = same (Without false) ∙ missing c.is_unsigned (u || v)
        inside (Some true) = same second ∙ sym (twice c.is_unsigned (u || v) second)
        inside (Some false) = same last ∙ sym (twice c.is_unsigned (u || v) last)

-- nothing is chosen at first
pub settled_first : (x : Outcome) → settled no_choice x ≡ x
settled_first (Signed z) = refl
settled_first (Unsigned n) = refl
settled_first (Without true) = refl
settled_first (Without false) = refl
