-- Compatibility is reflexive and symmetric.
use Rattle.std.proofs.Common.{◌≡◌, ℕ, suc, zero, ◌&&◌, ◌==◌, Bool, true, false, Option, Some, None, List, [], ◌∷◌, map, length, min, refl, ap, sym, ◌∙◌, arith}
use Rattle.jf_base.specs.Numbers.{size_of_width}
use Rattle.c_types.specs.declared.ctype.CType.{CType, CType-F, out-CType, out-roll-CType, map-CType, fold_out-CType}
use Rattle.c_types.specs.declared.ctype.CType.TheOpen as c
use Rattle.c_types.specs.declared.ctype.CType.TheOpen.{Proto-F}
use Rattle.c_types.specs.declared.ctype.Layout.{Layout}
use Rattle.c_types.specs.declared.ctype.Proto.{Proto}
use Rattle.c_types.specs.Sizes.{Bodies, layout_at}
use Rattle.c_types.specs.Compatible.{Rule, alike, alike_layers, alike_of_proto, alike_proto, alike_step, are_compatible, bool_eq, compatible_by, in_one_file, across_files, layouts_alike, pairs_alike, settled, structs_across}
use Rattle.c_types.proofs.Induction.{by_layers, bare, bare_proto, Shown, ShownProto, answered, fold-bare}
use Rattle.c_types.proofs.Settling.{alike_proto-is}

-- two rules, each with the two sides of the other
pub record Flips (r s : Rule) : Type 0 where
  pub enums : (m n : ℕ) → r.enums m n ≡ s.enums n m
  pub structs : (behind : Bool) (m n : ℕ) → r.structs behind m n ≡ s.structs behind n m

abbrev pub Flipped : Rule → Rule → CType → Type 0
Flipped r s a = (behind : Bool) (b : CType) → alike r a behind b ≡ alike s b behind a

abbrev FlippedProto : Rule → Rule → Proto → Type 0
FlippedProto r s f = (behind : Bool) (g : Proto) → alike_of_proto r f behind g ≡ alike_of_proto s g behind f

nat_eq-flips : (m n : ℕ) → (m == n) ≡ (n == m)
nat_eq-flips m n = grind arith

bool_eq-flips : (a b : Bool) → bool_eq a b ≡ bool_eq b a
bool_eq-flips true true = refl
bool_eq-flips true false = refl
bool_eq-flips false true = refl
bool_eq-flips false false = refl

and-both : (a b d e : Bool) → a ≡ b → d ≡ e → (a && d) ≡ (b && e)
and-both a b d e p q = cc

flip_layers : (r s : Rule) → Flips r s → (behind : Bool) (y : Shown (Flipped r s) (FlippedProto r s)) (z : CType-F CType Proto) →
    alike_layers r behind (answered (Flipped r s) (FlippedProto r s) (Bool → CType → Bool) (Bool → Proto → Bool) (alike r) (alike_of_proto r) y) z
    ≡ alike_layers s behind (map-CType CType Proto (Bool → CType → Bool) (Bool → Proto → Bool) (alike s) (alike_of_proto s) z) (answered (Flipped r s) (FlippedProto r s) CType Proto (λ k. k) (λ p. p) y)
flip_layers r s f behind c.Void c.Void = refl
flip_layers r s f behind c.Bool c.Bool = refl
flip_layers r s f behind (c.Int w a m) (c.Int v b n) = and-both _ _ _ _ (and-both _ _ _ _ (nat_eq-flips (size_of_width w) (size_of_width v)) (bool_eq-flips a b)) (nat_eq-flips m n)
flip_layers r s f behind (c.Int w a m) (c.Enum n) = refl
flip_layers r s f behind c.Char c.Char = refl
flip_layers r s f behind (c.Enum m) (c.Enum n) = f.enums m n
flip_layers r s f behind (c.Enum m) (c.Int w a n) = refl
flip_layers r s f behind (c.Struct m) (c.Struct n) = f.structs behind m n
flip_layers r s f behind (c.Pointer x) (c.Pointer y) = x.1 true y
flip_layers r s f behind (c.Array x m) (c.Array y n) = and-both _ _ _ _ (nat_eq-flips m n) (x.1 behind y)
flip_layers r s f behind (c.Function p) (c.Function q) = p.1 behind q
flip_layers r s f behind c.Descriptor c.Descriptor = refl
flip_layers r s f behind (c.Cdesc m) (c.Cdesc n) = nat_eq-flips m n
flip_layers r s f behind (c.Const x) (c.Const y) = x.1 behind y
flip_layers r s f behind _ _ = refl

pairs-flip : {X Y : Type 0} (same : X → Y → Bool) (also : Y → X → Bool) → ((x : X) (y : Y) → same x y ≡ also y x) → (xs : List X) (ys : List Y) → pairs_alike same xs ys ≡ pairs_alike also ys xs
pairs-flip same also h [] [] = refl
pairs-flip same also h [] (y ∷ ys) = refl
pairs-flip same also h (x ∷ xs) [] = refl
pairs-flip same also h (x ∷ xs) (y ∷ ys) = and-both _ _ _ _ (h x y) (pairs-flip same also h xs ys)

pairs-flip_shown : (r s : Rule) (behind : Bool) (xs : List ((k : CType) × Flipped r s k)) (ys : List CType) →
    pairs_alike (λ x y. alike r x behind y) (map (λ e. e.0) xs) ys ≡ pairs_alike (λ y x. alike s y behind x) ys (map (λ e. e.0) xs)
pairs-flip_shown r s behind [] [] = refl
pairs-flip_shown r s behind [] (y ∷ ys) = refl
pairs-flip_shown r s behind (x ∷ xs) [] = refl
pairs-flip_shown r s behind (x ∷ xs) (y ∷ ys) = and-both _ _ _ _ (x.1 behind y) (pairs-flip_shown r s behind xs ys)

flip_proto : (r s : Rule) (y : ShownProto (Flipped r s) (FlippedProto r s)) → FlippedProto r s (bare_proto (Flipped r s) (FlippedProto r s) y)
flip_proto r s y behind g =
    alike_proto-is r (bare_proto (Flipped r s) (FlippedProto r s) y) g behind
    ∙ and-both _ _ _ _ (y.result.1 behind g.result) (pairs-flip_shown r s behind y.params g.params)
    ∙ sym (alike_proto-is s g (bare_proto (Flipped r s) (FlippedProto r s) y) behind)

pub flipped : (r s : Rule) → Flips r s → (a : CType) → Flipped r s a
flipped r s f = by_layers (Flipped r s) (FlippedProto r s)
    (λ y behind b.
    ap (λ g. g behind b) (fold-bare (Flipped r s) (FlippedProto r s) (Bool → CType → Bool) (Bool → Proto → Bool) (alike_step r) alike_proto y)
    ∙ flip_layers r s f behind y (out-CType b)
    ∙ sym (ap (λ g. g behind (bare (Flipped r s) (FlippedProto r s) y)) (fold_out-CType (Bool → CType → Bool) (Bool → Proto → Bool) (alike_step s) alike_proto b)
    ∙ ap (alike_layers s behind (map-CType CType Proto (Bool → CType → Bool) (Bool → Proto → Bool) (alike s) (alike_of_proto s) (out-CType b)))
    (out-roll-CType (answered (Flipped r s) (FlippedProto r s) CType Proto (λ k. k) (λ p. p) y))))
    (λ y. flip_proto r s y)

one_file-flips : Flips in_one_file in_one_file
one_file-flips = record { enums = nat_eq-flips; structs = λ behind m n. nat_eq-flips m n }

pub layouts-flip : (same also : CType → CType → Bool) → ((a b : CType) → same a b ≡ also b a) → (l k : Option Layout) → layouts_alike same l k ≡ layouts_alike also k l
layouts-flip same also h None None = refl
layouts-flip same also h None (Some k) = refl
layouts-flip same also h (Some l) None = refl
layouts-flip same also h (Some l) (Some k) = pairs-flip (λ m n. same m.kind n.kind) (λ n m. also n.kind m.kind) (λ m n. h m.kind n.kind) l.members k.members

pub structs-flip : (depth : ℕ) (t u : Bodies) (behind : Bool) (m n : ℕ) → structs_across depth t u behind m n ≡ structs_across depth u t behind n m
structs-flip zero t u true m n = refl
structs-flip (suc d) t u true m n = refl
structs-flip zero t u false m n = refl
structs-flip (suc d) t u false m n =
    let flips : Flips (across_files d t u) (across_files d u t) = record { enums = λ i j. refl; structs = structs-flip d t u } in
    layouts-flip (compatible_by (across_files d t u)) (compatible_by (across_files d u t)) (λ a b. flipped (across_files d t u) (across_files d u t) flips (settled a false) false (settled b false)) (layout_at t m) (layout_at u n)

pub one_file-symmetric : (t : Bodies) (a b : CType) → are_compatible t a None b ≡ are_compatible t b None a
one_file-symmetric t a b = flipped in_one_file in_one_file one_file-flips (settled a false) false (settled b false)

pub two_files-symmetric : (t u : Bodies) (a b : CType) → are_compatible t a (Some u) b ≡ are_compatible u b (Some t) a
two_files-symmetric t u a b =
    let d : ℕ = min (length t) (length u) in
    let flips : Flips (across_files (min (length t) (length u)) t u) (across_files (min (length t) (length u)) u t) = record { enums = λ i j. refl; structs = structs-flip (min (length t) (length u)) t u } in
    let same : min (length t) (length u) ≡ min (length u) (length t) = omega arith in
    flipped (across_files (min (length t) (length u)) t u) (across_files (min (length t) (length u)) u t) flips (settled a false) false (settled b false)
    ∙ ap (λ n. compatible_by (across_files n u t) b a) same

-- a rule by which each enum and struct is like itself
pub record Selfs (r : Rule) : Type 0 where
  pub enums : (m : ℕ) → r.enums m m ≡ true
  pub structs : (behind : Bool) (m : ℕ) → r.structs behind m m ≡ true

abbrev Self : Rule → CType → Type 0
Self r a = (behind : Bool) → alike r a behind a ≡ true

abbrev SelfProto : Rule → Proto → Type 0
SelfProto r f = (behind : Bool) → alike_of_proto r f behind f ≡ true

nat_eq-self : (n : ℕ) → (n == n) ≡ true
nat_eq-self n = grind arith

bool_eq-self : (b : Bool) → bool_eq b b ≡ true
bool_eq-self true = refl
bool_eq-self false = refl

both-true : (a b : Bool) → a ≡ true → b ≡ true → (a && b) ≡ true
both-true a b p q = rw (p, q) refl

self_layers : (r : Rule) → Selfs r → (behind : Bool) (y : Shown (Self r) (SelfProto r)) →
    alike_layers r behind (answered (Self r) (SelfProto r) (Bool → CType → Bool) (Bool → Proto → Bool) (alike r) (alike_of_proto r) y) (answered (Self r) (SelfProto r) CType Proto (λ k. k) (λ p. p) y) ≡ true
self_layers r h behind c.Void = refl
self_layers r h behind c.Bool = refl
self_layers r h behind (c.Int w s n) = both-true _ _ (both-true _ _ (nat_eq-self (size_of_width w)) (bool_eq-self s)) (nat_eq-self n)
self_layers r h behind c.Char = refl
self_layers r h behind (c.Enum n) = h.enums n
self_layers r h behind (c.Struct s) = h.structs behind s
self_layers r h behind (c.Pointer x) = x.1 true
self_layers r h behind (c.Array x n) = both-true _ _ (nat_eq-self n) (x.1 behind)
self_layers r h behind (c.Function p) = p.1 behind
self_layers r h behind c.Descriptor = refl
self_layers r h behind (c.Cdesc n) = nat_eq-self n
self_layers r h behind (c.Const x) = x.1 behind

pairs-self_shown : (r : Rule) (behind : Bool) (xs : List ((k : CType) × Self r k)) → pairs_alike (λ x y. alike r x behind y) (map (λ e. e.0) xs) (map (λ e. e.0) xs) ≡ true
pairs-self_shown r behind [] = refl
pairs-self_shown r behind (x ∷ xs) = both-true _ _ (x.1 behind) (pairs-self_shown r behind xs)

self : (r : Rule) → Selfs r → (a : CType) → Self r a
self r h = by_layers (Self r) (SelfProto r)
    (λ y behind.
    ap (λ g. g behind (bare (Self r) (SelfProto r) y)) (fold-bare (Self r) (SelfProto r) (Bool → CType → Bool) (Bool → Proto → Bool) (alike_step r) alike_proto y)
    ∙ ap (alike_layers r behind (answered (Self r) (SelfProto r) (Bool → CType → Bool) (Bool → Proto → Bool) (alike r) (alike_of_proto r) y)) (out-roll-CType (answered (Self r) (SelfProto r) CType Proto (λ k. k) (λ p. p) y))
    ∙ self_layers r h behind y)
    (λ y behind.
    alike_proto-is r (bare_proto (Self r) (SelfProto r) y) (bare_proto (Self r) (SelfProto r) y) behind
    ∙ both-true _ _ (y.result.1 behind) (pairs-self_shown r behind y.params))

pairs-self : {X : Type 0} (same : X → X → Bool) → ((x : X) → same x x ≡ true) → (xs : List X) → pairs_alike same xs xs ≡ true
pairs-self same h [] = refl
pairs-self same h (x ∷ xs) = both-true _ _ (h x) (pairs-self same h xs)

layouts-self : (same : CType → CType → Bool) → ((a : CType) → same a a ≡ true) → (l : Option Layout) → layouts_alike same l l ≡ true
layouts-self same h None = refl
layouts-self same h (Some l) = pairs-self (λ m n. same m.kind n.kind) (λ m. h m.kind) l.members

structs-self : (depth : ℕ) (t : Bodies) (behind : Bool) (m : ℕ) → structs_across depth t t behind m m ≡ true
structs-self zero t true m = refl
structs-self (suc d) t true m = refl
structs-self zero t false m = refl
structs-self (suc d) t false m =
    let selfs : Selfs (across_files d t t) = record { enums = λ i. refl; structs = structs-self d t } in
    layouts-self (compatible_by (across_files d t t)) (λ a. self (across_files d t t) selfs (settled a false) false) (layout_at t m)

pub one_file-reflexive : (t : Bodies) (a : CType) → are_compatible t a None a ≡ true
one_file-reflexive t a =
    let selfs : Selfs in_one_file = record { enums = nat_eq-self; structs = λ behind m. nat_eq-self m } in
    self in_one_file selfs (settled a false) false

pub two_files-reflexive : (t : Bodies) (a : CType) → are_compatible t a (Some t) a ≡ true
two_files-reflexive t a =
    let selfs : Selfs (across_files (min (length t) (length t)) t t) = record { enums = λ i. refl; structs = structs-self (min (length t) (length t)) t } in
    self (across_files (min (length t) (length t)) t t) selfs (settled a false) false
