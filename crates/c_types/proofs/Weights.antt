-- How large the types of a table's members are.
use Rattle.std.proofs.Common.{◌≡◌, ℕ, suc, zero, ◌+◌, ◌-◌, ◌*◌, ◌<◌, ◌≤◌, max, Option, Some, None, List, [], ◌∷◌, get_or, length, refl, sym, arith}
use Rattle.c_types.specs.declared.ctype.CType.{size-CType}
use Rattle.c_types.specs.declared.ctype.Layout.{Layout}
use Rattle.c_types.specs.declared.ctype.Member.{Member}
use Rattle.c_types.specs.declared.ctype.StructBody.{StructBody}
use Rattle.c_types.specs.declared.ctype.StructBody.TheVariants.{Incomplete, Complete}
use Rattle.c_types.specs.Sizes.{Bodies, layout_at}

abbrev pub most : List Member → ℕ
most [] = 0
most (m ∷ ms) = max (size-CType m.kind) (most ms)

abbrev pub most_in : StructBody → ℕ
most_in Incomplete = 0
most_in (Complete l) = most l.members

abbrev pub greatest : Bodies → ℕ
greatest [] = 0
greatest (b ∷ bs) = max (most_in b) (greatest bs)

abbrev pub greatest_of : Option Bodies → ℕ
greatest_of None = 0
greatest_of (Some bodies) = greatest bodies

-- more than twice the types of a member of each
abbrev pub weight : Bodies → Option Bodies → ℕ
weight first other = 2 * (greatest first + greatest_of other) + 4

pub most-member : (ms : List Member) (i : ℕ) (d : Member) → i < length ms → size-CType (get_or ms i d).kind ≤ most ms
most-member [] i d h = absurd (omega arith)
most-member (n ∷ ms) zero d h = omega arith
most-member (n ∷ ms) (suc i) d h = let inner = most-member ms i d (omega arith) in omega arith

pub greatest-layout : (bodies : Bodies) (s : ℕ) (l : Layout) → layout_at bodies s ≡ Some l → most l.members ≤ greatest bodies
greatest-layout [] s l e = absurd (cc)
greatest-layout (Incomplete ∷ bs) zero l e = absurd (cc)
greatest-layout (Complete k ∷ bs) zero l e = let same : k ≡ l = cc in rw (sym same) (omega arith)
greatest-layout (b ∷ bs) (suc s) l e = let inner = greatest-layout bs s l e in omega arith

-- one struct less deep
falls-weight : (depth : ℕ) (first second : Bodies) (a b : ℕ) → (depth ≡ 0 → ⊥) → a ≤ greatest first → b ≤ greatest second → (depth - 1) * weight first (Some second) + 2 * (a + b) + 1 < depth * weight first (Some second) + 1
falls-weight zero first second a b h p q = absurd (h refl)
falls-weight (suc d) first second a b h p q = grind arith

pub falls-held : (depth : ℕ) (first second : Bodies) (other : Option Bodies) (s t : ℕ) (l k : Layout) (xs ys : List Member) → (depth ≡ 0 → ⊥) → other ≡ Some second → layout_at first s ≡ Some l → layout_at second t ≡ Some k → xs ≡ l.members → ys ≡ k.members →
    (depth - 1) * weight first other + 2 * (most xs + most ys) + 1 < depth * weight first other + 1
falls-held depth first second other s t l k xs ys h o e f p q =
    rw (o, p, q) (falls-weight depth first second (most l.members) (most k.members) h (greatest-layout first s l e) (greatest-layout second t k f))
