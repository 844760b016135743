-- Settled types by their kinds, and functions by their parts.
use Rattle.std.proofs.Common.{◌≡◌, ℕ, zero, suc, ◌-◌, sub-one, Some, ◌&&◌, Bool, false, List, [], ◌∷◌, map, refl, ap, sym, ◌∙◌}
use Rattle.c_types.specs.declared.ctype.CType.{CType, CType-F, roll-CType, fold-roll-CType, map-CType, Function, Pointer}
use Rattle.c_types.specs.declared.ctype.CType.TheFolds.{fold_out-Proto}
use Rattle.c_types.specs.declared.ctype.CType.TheViews.{outs-Function, rolls-Function}
use Rattle.c_types.specs.declared.ctype.CType.TheOpen as c
use Rattle.c_types.specs.declared.ctype.CType.TheOpen.{Proto-F}
use Rattle.c_types.specs.declared.ctype.Layout.{Layout}
use Rattle.c_types.specs.declared.ctype.Member.{Member}
use Rattle.c_types.specs.Sizes.{Bodies, layout_at}
use Rattle.c_types.specs.declared.ctype.Proto.{Proto}
use Rattle.c_types.specs.Compatible.{adjusted, adjusted_layer, settled, settled_of_proto, settled_step, settled_proto, Rule, alike, alike_step, alike_proto, alike_of_proto, compatible_by, pairs_alike, members_alike, across_files, structs_across}
use Rattle.c_types.proofs.Pairs.{pairs-map, pairs-map_first}

pub settled-roll : (l : CType-F CType Proto) → settled (roll-CType l) ≡ settled_step (map-CType CType Proto (Bool → CType) Proto settled settled_of_proto l)
settled-roll l = fold-roll-CType (Bool → CType) Proto settled_step settled_proto l

settled-Function : (p : Proto) (q : Bool) → settled (Function p) q ≡ Function (settled_of_proto p)
settled-Function p q = ap (λ k. settled k q) (sym (rolls-Function p)) ∙ ap (λ f. f q) (settled-roll (c.Function p))

pub adjusted-Function : (p : Proto) (q : Bool) → adjusted (settled (Function p) q) ≡ Pointer (settled (Function p) false)
adjusted-Function p q =
    ap adjusted (settled-Function p q) ∙ ap (λ l. adjusted_layer l (Function (settled_of_proto p))) (outs-Function (settled_of_proto p)) ∙ ap Pointer (sym (settled-Function p false))

map-map : {X Y Z : Type 0} (f : X → Y) (g : Y → Z) (xs : List X) → map g (map f xs) ≡ map (λ x. g (f x)) xs
map-map f g [] = refl
map-map f g (x ∷ xs) = ap (λ r. g (f x) ∷ r) (map-map f g xs)

-- whether lists of parameters are alike, as they are adjusted
abbrev pub params_alike : Rule → Bool → List CType → List CType → Bool
params_alike rule behind xs ys = pairs_alike (λ x y. alike rule (adjusted (settled x false)) behind (adjusted (settled y false))) xs ys

settled_proto-is : (p : Proto) → settled_of_proto p ≡ record { result = settled p.result false; params = map (λ x. adjusted (settled x false)) p.params }
settled_proto-is p =
    fold_out-Proto (Bool → CType) Proto settled_step settled_proto p
    ∙ ap (λ ps. let made : Proto = record { result = settled p.result false; params = ps } in made) (map-map settled (λ x. adjusted (x false)) p.params)

pub alike_proto-is : (rule : Rule) (p q : Proto) (behind : Bool) → alike_of_proto rule p behind q ≡ (alike rule p.result behind q.result && pairs_alike (λ x y. alike rule x behind y) p.params q.params)
alike_proto-is rule p q behind =
    ap (λ f. f behind q) (fold_out-Proto (Bool → CType → Bool) (Bool → Proto → Bool) (alike_step rule) alike_proto p)
    ∙ ap (λ b. alike rule p.result behind q.result && b) (pairs-map_first (λ x y. x behind y) (alike rule) p.params q.params)

pub protos_alike : (rule : Rule) (f g : Proto) (behind : Bool) → alike_of_proto rule (settled_of_proto f) behind (settled_of_proto g) ≡ (alike rule (settled f.result false) behind (settled g.result false) && params_alike rule behind f.params g.params)
protos_alike rule f g behind =
    let parts : Proto → Proto = λ p. record { result = settled p.result false; params = map (λ x. adjusted (settled x false)) p.params } in
    ap (λ z. alike_of_proto rule z behind (settled_of_proto g)) (settled_proto-is f)
    ∙ ap (λ z. alike_of_proto rule (parts f) behind z) (settled_proto-is g)
    ∙ alike_proto-is rule (parts f) (parts g) behind
    ∙ ap (λ b. alike rule (settled f.result false) behind (settled g.result false) && b) (pairs-map (λ x y. alike rule x behind y) (λ x. adjusted (settled x false)) (λ x. adjusted (settled x false)) f.params g.params)

pub same_at : (rule : Rule) (m m' n n' : Member) (b v : Bool) → m ≡ m' → n ≡ n' → b ≡ compatible_by rule m'.kind n'.kind → b ≡ v → compatible_by rule m.kind n.kind ≡ v
same_at rule m m' n n' b v e f h i = ap (λ x. compatible_by rule x.kind n.kind) e ∙ ap (λ y. compatible_by rule m'.kind y.kind) f ∙ sym h ∙ i

-- structs that aren't behind a pointer, by their members
pub structs-held : (depth : ℕ) (first second : Bodies) (s t : ℕ) (l k : Layout) → (depth ≡ 0 → ⊥) → layout_at first s ≡ Some l → layout_at second t ≡ Some k →
    members_alike (compatible_by (across_files (depth - 1) first second)) l.members k.members ≡ structs_across depth first second false s t
structs-held zero first second s t l k h e f = absurd (h refl)
structs-held (suc d) first second s t l k h e f = rw (e, f, sub-one) refl
