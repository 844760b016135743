-- The depth to which structs of two files are compared is never reached.
use Rattle.std.proofs.Common.{◌≡◌, ℕ, suc, zero, ◌<◌, ◌≤◌, ◌&&◌, ◌==◌, All, Bool, true, false, Option, Some, None, IfSome, IsSome, List, [], ◌∷◌, map, length, min, refl, ap, sym, subst, ◌∙◌, arith}
use Rattle.std.proofs.Math.Path.{fun_ext}
use Rattle.c_types.specs.declared.ctype.CType.{CType, CType-F, out-CType, fold-roll-CType}
use Rattle.c_types.specs.declared.ctype.CType.TheVariants.{Struct}
use Rattle.c_types.specs.declared.ctype.CType.TheViews.{outs-Struct, rolls-Struct}
use Rattle.c_types.specs.declared.ctype.CType.TheOpen as c
use Rattle.c_types.specs.declared.ctype.CType.TheOpen.{Proto-F}
use Rattle.c_types.specs.declared.ctype.Layout.{Layout}
use Rattle.c_types.specs.declared.ctype.Member.{Member}
use Rattle.c_types.specs.declared.ctype.Proto.{Proto}
use Rattle.c_types.specs.declared.ctype.StructBody.TheVariants.{Incomplete, Complete}
use Rattle.c_types.specs.Sizes.{Bodies, layout_at, whole_size}
use Rattle.c_types.specs.Compatible.{ComparesByMembers, Rule, across_by, alike, alike_layers, alike_of_proto, alike_proto, alike_step, are_compatible, across_files, compatible_by, layouts_alike, pairs_alike, rule_for, settled, structs_across, structs_by}
use Rattle.c_types.specs.Tables.{AreSound, InOrder, CompletedInTurn, IsTable, completed, held}
use Rattle.c_types.proofs.Induction.{by_layers, bare_proto, Shown, ShownProto, answered, fold-bare}
use Rattle.c_types.proofs.Held.{Made, base, base_step, base-settled, of_base, held-is, sized}
use Rattle.c_types.proofs.Settling.{alike_proto-is, settled-roll}
use Rattle.c_types.proofs.AlikeLaws.{Flips, flipped, layouts-flip, structs-flip}

-- two rules that differ only in structs that aren't behind a pointer
record Agrees (r s : Rule) : Type 0 where
  enums : (m n : ℕ) → r.enums m n ≡ s.enums m n
  structs : (m n : ℕ) → r.structs true m n ≡ s.structs true m n

-- they don't differ in what the objects consist of
abbrev Fine : Rule → Rule → Bool → Option (Option ℕ) → Type 0
Fine r s true b = Unit {0}
Fine r s false None = ⊥
Fine r s false (Some None) = Unit {0}
Fine r s false (Some (Some u)) = (t : ℕ) → r.structs false u t ≡ s.structs false u t

abbrev Same : Rule → Rule → CType → Type 0
Same r s a = (behind : Bool) (b : CType) → Fine r s behind (base a) → alike r a behind b ≡ alike s a behind b

abbrev SameProto : Rule → Rule → Proto → Type 0
SameProto r s f = (g : Proto) → alike_of_proto r f true g ≡ alike_of_proto s f true g

and-both : (a b d e : Bool) → a ≡ b → d ≡ e → (a && d) ≡ (b && e)
and-both a b d e p q = cc

same_structs : (r s : Rule) → Agrees r s → (behind : Bool) (m n : ℕ) → Fine r s behind (Some (Some m)) → r.structs behind m n ≡ s.structs behind m n
same_structs r s f true m n h = f.structs m n
same_structs r s f false m n h = h n

same_functions : (r s : Rule) (behind : Bool) (f g : Proto) → Fine r s behind None → SameProto r s f → alike_of_proto r f behind g ≡ alike_of_proto s f behind g
same_functions r s true f g h k = k g
same_functions r s false f g h k = absurd h

same_layers : (r s : Rule) → Agrees r s → (behind : Bool) (y : Shown (Same r s) (SameProto r s)) (z : CType-F CType Proto) →
    Fine r s behind (base_step (answered (Same r s) (SameProto r s) (Option (Option ℕ)) (Unit {0}) base (λ p. tt) y)) →
    alike_layers r behind (answered (Same r s) (SameProto r s) (Bool → CType → Bool) (Bool → Proto → Bool) (alike r) (alike_of_proto r) y) z
    ≡ alike_layers s behind (answered (Same r s) (SameProto r s) (Bool → CType → Bool) (Bool → Proto → Bool) (alike s) (alike_of_proto s) y) z
same_layers r s f behind (c.Enum m) (c.Enum n) h = f.enums m n
same_layers r s f behind (c.Struct m) (c.Struct n) h = same_structs r s f behind m n h
same_layers r s f behind (c.Pointer x) (c.Pointer y) h = x.1 true y tt
same_layers r s f behind (c.Array x m) (c.Array y n) h = ap (λ b. (m == n) && b) (x.1 behind y h)
same_layers r s f behind (c.Function p) (c.Function q) h = same_functions r s behind p.0 q h p.1
same_layers r s f behind (c.Const x) (c.Const y) h = x.1 behind y h
same_layers r s f behind _ _ h = refl

pairs-same_shown : (r s : Rule) (xs : List ((k : CType) × Same r s k)) (ys : List CType) →
    pairs_alike (λ x y. alike r x true y) (map (λ e. e.0) xs) ys ≡ pairs_alike (λ x y. alike s x true y) (map (λ e. e.0) xs) ys
pairs-same_shown r s [] [] = refl
pairs-same_shown r s [] (y ∷ ys) = refl
pairs-same_shown r s (x ∷ xs) [] = refl
pairs-same_shown r s (x ∷ xs) (y ∷ ys) = and-both _ _ _ _ (x.1 true y tt) (pairs-same_shown r s xs ys)

same_proto : (r s : Rule) (y : ShownProto (Same r s) (SameProto r s)) → SameProto r s (bare_proto (Same r s) (SameProto r s) y)
same_proto r s y g =
    alike_proto-is r (bare_proto (Same r s) (SameProto r s) y) g true
    ∙ and-both _ _ _ _ (y.result.1 true g.result tt) (pairs-same_shown r s y.params g.params)
    ∙ sym (alike_proto-is s (bare_proto (Same r s) (SameProto r s) y) g true)

same_kinds : (r s : Rule) → Agrees r s → (a : CType) → Same r s a
same_kinds r s f = by_layers (Same r s) (SameProto r s)
    (λ y behind b fine.
    ap (λ g. g behind b) (fold-bare (Same r s) (SameProto r s) (Bool → CType → Bool) (Bool → Proto → Bool) (alike_step r) alike_proto y)
    ∙ same_layers r s f behind y (out-CType b) (subst (Fine r s behind) (fold-bare (Same r s) (SameProto r s) (Option (Option ℕ)) (Unit {0}) base_step (λ p. tt) y) fine)
    ∙ sym (ap (λ g. g behind b) (fold-bare (Same r s) (SameProto r s) (Bool → CType → Bool) (Bool → Proto → Bool) (alike_step s) alike_proto y)))
    (λ y. same_proto r s y)

any_behind : (depth : ℕ) (first second : Bodies) (m n : ℕ) → structs_across depth first second true m n ≡ true
any_behind zero first second m n = refl
any_behind (suc depth) first second m n = refl

abbrev Before : (ℕ → ℕ) → ℕ → Member → Type 0
Before time end m = IfSome (held m.kind) (λ u. time u < end)

-- two rules agree on the structs of the first file that were completed before a time
abbrev Until : Rule → Rule → (ℕ → ℕ) → ℕ → Type 0
Until r s time end = (u : ℕ) → time u < end → (t : ℕ) → r.structs false u t ≡ s.structs false u t

kinds-same : (r s : Rule) → Agrees r s → (first : Bodies) (time : ℕ → ℕ) (end : ℕ) → Until r s time end → (kind b : CType) → IsSome (whole_size first kind) → IfSome (held kind) (λ u. time u < end) →
    compatible_by r kind b ≡ compatible_by s kind b
kinds-same r s f first time end until kind b h before =
    same_kinds r s f (settled kind false) false (settled b false)
    (subst (Fine r s false) (sym (base-settled kind false))
    (fine (base kind) (sized first kind h) (subst (λ o. IfSome o (λ u. time u < end)) (held-is kind) before)))
  where
    fine : (o : Option (Option ℕ)) → Made first o → IfSome (of_base o) (λ u. time u < end) → Fine r s false o
    fine None m k = m
    fine (Some None) m k = tt
    fine (Some (Some u)) m k = λ t. until u k t

members-same : (r s : Rule) → Agrees r s → (first : Bodies) (time : ℕ → ℕ) (now : ℕ) → Until r s time now → (ms ns : List Member) (end size : ℕ) → InOrder first end ms size → All (Before time now) ms →
    pairs_alike (λ m n. compatible_by r m.kind n.kind) ms ns ≡ pairs_alike (λ m n. compatible_by s m.kind n.kind) ms ns
members-same r s f first time now until [] [] end size o h = refl
members-same r s f first time now until [] (n ∷ ns) end size o h = refl
members-same r s f first time now until (m ∷ ms) [] end size o h = refl
members-same r s f first time now until (m ∷ ms) (n ∷ ns) end size o h =
    and-both _ _ _ _ (kinds-same r s f first time now until m.kind n.kind o.2 (h 0 m (omega arith)))
    (members-same r s f first time now until ms ns _ size o.3 (λ k d b. h (suc k) d (omega arith)))

-- the members of a struct were completed before it
layouts-same : (r s : Rule) → Agrees r s → (first : Bodies) (time : ℕ → ℕ) → AreSound first → CompletedInTurn first time → (now v : ℕ) → time v < suc now → Until r s time now → (k : Option Layout) →
    layouts_alike (compatible_by r) (layout_at first v) k ≡ layouts_alike (compatible_by s) (layout_at first v) k
layouts-same r s f first time sound in_turn now v h until k = layouts (layout_at first v) k (λ l e. (sound v l e).in_order) (λ l e. earlier l (in_turn.earlier v l e))
  where
    less : (o : Option ℕ) → IfSome o (λ u. time u < time v) → IfSome o (λ u. time u < now)
    less None k = k
    less (Some u) k = omega arith

    earlier : (l : Layout) → All (Before time (time v)) l.members → All (Before time now) l.members
    earlier l k i d b = less _ (k i d b)

    layouts : (o k : Option Layout) → ((l : Layout) → o ≡ Some l → InOrder first 0 l.members l.size) → ((l : Layout) → o ≡ Some l → All (Before time now) l.members) →
        layouts_alike (compatible_by r) o k ≡ layouts_alike (compatible_by s) o k
    layouts None k g i = refl
    layouts (Some l) None g i = refl
    layouts (Some l) (Some k) g i = members-same r s f first time now until l.members k.members 0 l.size (g l refl) (i l refl)

-- one struct more makes no difference to what was completed
structs-stable : (first second : Bodies) (time : ℕ → ℕ) → AreSound first → CompletedInTurn first time → (depth v : ℕ) → time v < depth → (t : ℕ) → structs_across depth first second false v t ≡ structs_across (suc depth) first second false v t
structs-stable first second time sound in_turn zero v h t = absurd (omega arith)
structs-stable first second time sound in_turn (suc depth) v h t =
    let agrees : Agrees (across_files depth first second) (across_files (suc depth) first second) = record { enums = λ m n. refl; structs = λ m n. any_behind depth first second m n } in
    layouts-same (across_files depth first second) (across_files (suc depth) first second) agrees first time sound in_turn depth v h (λ u e. structs-stable first second time sound in_turn depth u e) (layout_at second t)

-- each relation that compares by members is the same there
structs-one : (first second : Bodies) (same : ℕ → ℕ → Bool) → ComparesByMembers first second same → (time : ℕ → ℕ) → AreSound first → CompletedInTurn first time → (depth v : ℕ) → time v < depth → (t : ℕ) → structs_across depth first second false v t ≡ same v t
structs-one first second same compares time sound in_turn zero v h t = absurd (omega arith)
structs-one first second same compares time sound in_turn (suc depth) v h t =
    let agrees : Agrees (across_files depth first second) (across_by same) = record { enums = λ m n. refl; structs = λ m n. any_behind depth first second m n } in
    layouts-same (across_files depth first second) (across_by same) agrees first time sound in_turn depth v h (λ u e. structs-one first second same compares time sound in_turn depth u e) (layout_at second t)
    ∙ sym (compares v t)

completed-most : (bodies : Bodies) → completed bodies ≤ length bodies
completed-most [] = omega arith
completed-most (Incomplete ∷ bs) = omega (arith, completed-most bs)
completed-most (Complete l ∷ bs) = omega (arith, completed-most bs)

incomplete-alike : (depth : ℕ) (first second : Bodies) (s t : ℕ) → layout_at first s ≡ None → structs_across depth first second false s t ≡ true
incomplete-alike zero first second s t e = refl
incomplete-alike (suc depth) first second s t e = rw e refl

-- as many structs as one file has are enough
enough : (first second : Bodies) → IsTable first → (s t : ℕ) → structs_across (length first) first second false s t ≡ structs_across (suc (length first)) first second false s t
enough first second table s t = whether (layout_at first s) refl
  where
    whether : (o : Option Layout) → layout_at first s ≡ o → structs_across (length first) first second false s t ≡ structs_across (suc (length first)) first second false s t
    whether None e = incomplete-alike (length first) first second s t e ∙ sym (incomplete-alike (suc (length first)) first second s t e)
    whether (Some l) e =
        let counted = table.times.1.counted s l e in
        structs-stable first second table.times.0 table.sound table.times.1 (length first) s (omega (arith, completed-most first, counted)) t

enough-one : (first second : Bodies) (same : ℕ → ℕ → Bool) → ComparesByMembers first second same → IsTable first → (s t : ℕ) → structs_across (length first) first second false s t ≡ same s t
enough-one first second same compares table s t = whether (layout_at first s) refl
  where
    whether : (o : Option Layout) → layout_at first s ≡ o → structs_across (length first) first second false s t ≡ same s t
    whether None e = incomplete-alike (length first) first second s t e ∙ sym (compares s t ∙ ap (λ o. layouts_alike (compatible_by (across_by same)) o (layout_at second t)) e)
    whether (Some l) e =
        let counted = table.times.1.counted s l e in
        structs-one first second same compares table.times.0 table.sound table.times.1 (length first) s (omega (arith, completed-most first, counted)) t

-- the relation from the other side
compares-flip : (first second : Bodies) (same : ℕ → ℕ → Bool) → ComparesByMembers first second same → ComparesByMembers second first (λ s t. same t s)
compares-flip first second same compares s t =
    let flips : Flips (across_by same) (across_by (λ m n. same n m)) = record { enums = λ m n. refl; structs = behind_flips } in
    compares t s ∙ layouts-flip (compatible_by (across_by same)) (compatible_by (across_by (λ m n. same n m))) (λ a b. flipped (across_by same) (across_by (λ m n. same n m)) flips (settled a false) false (settled b false)) (layout_at first t) (layout_at second s)
  where
    behind_flips : (behind : Bool) (m n : ℕ) → structs_by same behind m n ≡ structs_by (λ m n. same n m) behind n m
    behind_flips true m n = refl
    behind_flips false m n = refl

lesser : (P : ℕ → Type 0) (a b : ℕ) → P a → P b → P (min a b)
lesser P zero b p q = let e : min zero b ≡ zero = omega arith in rw e p
lesser P (suc a) zero p q = let e : min (suc a) zero ≡ zero = omega arith in rw e q
lesser P (suc a) (suc b) p q = let e : min (suc a) (suc b) ≡ suc (min a b) = omega arith in rw e (lesser (λ n. P (suc n)) a b p q)

structs-alike : (rule : Rule) (s t : ℕ) → compatible_by rule (Struct s) (Struct t) ≡ rule.structs false s t
structs-alike rule s t =
    ap (λ a. alike rule a false (settled (Struct t) false)) (settled-Struct s)
    ∙ ap (λ b. alike rule (Struct s) false b) (settled-Struct t)
    ∙ ap (λ a. alike rule a false (Struct t)) (sym (rolls-Struct s))
    ∙ ap (λ f. f false (Struct t)) (fold-roll-CType (Bool → CType → Bool) (Bool → Proto → Bool) (alike_step rule) alike_proto (c.Struct s))
    ∙ ap (alike_layers rule false (c.Struct s)) (outs-Struct t)
  where
    settled-Struct : (s : ℕ) → settled (Struct s) false ≡ Struct s
    settled-Struct s = ap (λ k. settled k false) (sym (rolls-Struct s)) ∙ ap (λ f. f false) (settled-roll (c.Struct s))

pub never_reached : (first second : Bodies) → IsTable first → IsTable second → (s t : ℕ) →
    are_compatible first (Struct s) (Some second) (Struct t) ≡ layouts_alike (λ a b. are_compatible first a (Some second) b) (layout_at first s) (layout_at second t)
never_reached first second f g s t =
    structs-alike (rule_for first (Some second)) s t
    ∙ lesser (λ n. structs_across n first second false s t ≡ structs_across (suc n) first second false s t) (length first) (length second)
    (enough first second f s t)
    (structs-flip (length second) first second false s t ∙ enough second first g t s ∙ sym (structs-flip (suc (length second)) first second false s t))

one_relation : (first second : Bodies) → IsTable first → IsTable second → (same : ℕ → ℕ → Bool) → ComparesByMembers first second same → (s t : ℕ) → structs_across (min (length first) (length second)) first second false s t ≡ same s t
one_relation first second f g same compares s t =
    lesser (λ n. structs_across n first second false s t ≡ same s t) (length first) (length second)
    (enough-one first second same compares f s t)
    (structs-flip (length second) first second false s t ∙ enough-one second first (λ m n. same n m) (compares-flip first second same compares) g t s)

pub only_relation : (first second : Bodies) → IsTable first → IsTable second → (same : ℕ → ℕ → Bool) → ComparesByMembers first second same → (a b : CType) → are_compatible first a (Some second) b ≡ compatible_by (across_by same) a b
only_relation first second f g same compares a b =
    ap (λ (structs : Bool → ℕ → ℕ → Bool). compatible_by (record { enums = λ m n. true; structs = structs }) a b)
    (fun_ext (λ behind. fun_ext (λ m. fun_ext (λ n. places behind m n))))
  where
    places : (behind : Bool) (m n : ℕ) → structs_across (min (length first) (length second)) first second behind m n ≡ structs_by same behind m n
    places true m n = any_behind (min (length first) (length second)) first second m n
    places false m n = one_relation first second f g same compares m n
