-- Which types have a size, and the size of an array.
use Rattle.std.proofs.Common.{◌≡◌, ℕ, ◌*◌, ◌/◌, ◌<◌, ◌≤◌, ◌^◌, Option, Some, None, is_some, refl, ap, sym, ◌∙◌, arith}
use Rattle.std.specs.Option.{option_and_then, option_map}
use Rattle.c_types.specs.declared.ctype.CType.{CType}
use Rattle.c_types.specs.declared.ctype.CType.TheOpen as c
use Rattle.c_types.specs.declared.ctype.CType.TheOpen.{CType-F, Proto-F}
use Rattle.c_types.specs.declared.ctype.Proto.{Proto}
use Rattle.c_types.specs.Sizes.{Bodies, layout_at, alignment, align_step, whole_size, size_step, at_most_limit}
use Rattle.c_types.proofs.Induction.{by_layers, Shown, answered, fold-bare}

abbrev pub HasBoth : Bodies → CType → Type 0
HasBoth bodies kind = is_some (alignment bodies kind) ≡ is_some (whole_size bodies kind)

abbrev Any : Proto → Type 0
Any p = Unit {0}

is_some-option_map : {A B : Type 0} (f : A → B) (o : Option A) → is_some (option_map f o) ≡ is_some o
is_some-option_map f None = refl
is_some-option_map f (Some x) = refl

has_both_step : (bodies : Bodies) (y : Shown (HasBoth bodies) Any) →
    is_some (align_step bodies (answered (HasBoth bodies) Any (Option ℕ) (Unit {0}) (alignment bodies) (λ p. tt) y))
    ≡ is_some (size_step bodies (answered (HasBoth bodies) Any (Option ℕ) (Unit {0}) (whole_size bodies) (λ p. tt) y))
has_both_step bodies c.Void = refl
has_both_step bodies c.Bool = refl
has_both_step bodies (c.Int w s r) = refl
has_both_step bodies c.Char = refl
has_both_step bodies (c.Enum n) = refl
has_both_step bodies (c.Struct s) = is_some-option_map (λ l. l.align) (layout_at bodies s) ∙ sym (is_some-option_map (λ l. l.size) (layout_at bodies s))
has_both_step bodies (c.Pointer x) = refl
has_both_step bodies (c.Array x n) = x.1 ∙ sym (is_some-option_map (λ size. size * n) (whole_size bodies x.0))
has_both_step bodies (c.Function p) = refl
has_both_step bodies c.Descriptor = refl
has_both_step bodies (c.Cdesc r) = refl
has_both_step bodies (c.Const x) = x.1

-- a type has an alignment exactly where it has a size
pub has_both : (bodies : Bodies) (kind : CType) → HasBoth bodies kind
has_both bodies = by_layers (HasBoth bodies) Any
    (λ y. ap is_some (fold-bare (HasBoth bodies) Any (Option ℕ) (Unit {0}) (align_step bodies) (λ p. tt) y) ∙ has_both_step bodies y ∙ sym (ap is_some (fold-bare (HasBoth bodies) Any (Option ℕ) (Unit {0}) (size_step bodies) (λ p. tt) y)))
    (λ y. tt)

-- of what has no alignment there is no row
pub none_unaligned : (a w : Option ℕ) (n : ℕ) → is_some a ≡ is_some w → a ≡ None → None ≡ option_and_then at_most_limit (option_map (λ size. size * n) w)
none_unaligned a None n e h = refl
none_unaligned None (Some w) n e h = absurd (cc)
none_unaligned (Some a) (Some w) n e h = absurd (cc)

pub empty_row : (a w : Option ℕ) (n x : ℕ) → is_some a ≡ is_some w → a ≡ Some x → n ≡ 0 → Some 0 ≡ option_and_then at_most_limit (option_map (λ size. size * n) w)
empty_row None w n x e h z = absurd (cc)
empty_row (Some a) None n x e h z = absurd (cc)
empty_row (Some a) (Some w) n x e h z = let p : w * n ≡ 0 = rw z (omega arith) in rw p refl

product_past : (m w n : ℕ) → m / n < w → 1 ≤ n → m < w * n
product_past m w n h z = grind arith

limited : (n : ℕ) → at_most_limit n ≡ None → 2 ^ 62 < n
limited n h = grind arith

past : (n : ℕ) → 2 ^ 62 < n → None ≡ at_most_limit n
past n h = grind arith

limit_kept : (w size : ℕ) → at_most_limit w ≡ Some size → w ≡ size
limit_kept w size h = grind arith

pub row_too_large : (w : Option ℕ) (n size : ℕ) → option_and_then at_most_limit w ≡ Some size → 2 ^ 62 / n < size → 1 ≤ n → None ≡ option_and_then at_most_limit (option_map (λ size. size * n) w)
row_too_large None n size e h z = refl
row_too_large (Some w) n size e h z = let k : w ≡ size = limit_kept w size e in let l : 2 ^ 62 / n < w = rw k h in past (w * n) (product_past (2 ^ 62) w n l z)
