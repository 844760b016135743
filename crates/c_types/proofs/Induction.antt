-- Induction over types, a layer at a time.
use Rattle.std.proofs.Common.{◌≡◌, subst, refl, ap, ◌∙◌, List, [], ◌∷◌, map}
use Rattle.c_types.specs.declared.ctype.CType.{CType, roll-CType, ind-CType, map-CType, fold-CType, fold-roll-CType}
use Rattle.c_types.specs.declared.ctype.CType.TheFolds.{ind-Proto, map-Proto, fold-Proto, fold-roll-Proto}
use Rattle.c_types.specs.declared.ctype.CType.TheViews.{roll-Proto}
use Rattle.c_types.specs.declared.ctype.CType.TheOpen as c
use Rattle.c_types.specs.declared.ctype.CType.TheOpen.{CType-F, Proto-F}
use Rattle.c_types.specs.declared.ctype.Proto.{Proto}

-- a layer whose parts each have a proof
abbrev pub Shown : (P : CType → Type 0) (Q : Proto → Type 0) → Type 0
Shown P Q = CType-F ((kind : CType) × P kind) ((proto : Proto) × Q proto)

abbrev pub ShownProto : (P : CType → Type 0) (Q : Proto → Type 0) → Type 0
ShownProto P Q = Proto-F ((kind : CType) × P kind) ((proto : Proto) × Q proto)

-- the same with an answer in the place of each part
abbrev pub answered : (P : CType → Type 0) (Q : Proto → Type 0) (A A' : Type 0) → (CType → A) → (Proto → A') → Shown P Q → CType-F A A'
answered P Q A A' f f' y = map-CType ((kind : CType) × P kind) ((proto : Proto) × Q proto) A A' (λ e. f e.0) (λ e. f' e.0) y

abbrev pub answered_proto : (P : CType → Type 0) (Q : Proto → Type 0) (A A' : Type 0) → (CType → A) → (Proto → A') → ShownProto P Q → Proto-F A A'
answered_proto P Q A A' f f' y = map-Proto ((kind : CType) × P kind) ((proto : Proto) × Q proto) A A' (λ e. f e.0) (λ e. f' e.0) y

-- the value of a layer, without the proofs
abbrev pub bare : (P : CType → Type 0) (Q : Proto → Type 0) → Shown P Q → CType
bare P Q y = roll-CType (answered P Q CType Proto (λ kind. kind) (λ proto. proto) y)

abbrev pub bare_proto : (P : CType → Type 0) (Q : Proto → Type 0) → ShownProto P Q → Proto
bare_proto P Q y = roll-Proto (answered_proto P Q CType Proto (λ kind. kind) (λ proto. proto) y)

pub by_layers : (P : CType → Type 0) (Q : Proto → Type 0) → ((y : Shown P Q) → P (bare P Q y)) → ((y : ShownProto P Q) → Q (bare_proto P Q y)) → (kind : CType) → P kind
by_layers P Q step step' = ind-CType P Q (λ x y is. subst (λ z. P (roll-CType z)) is (step y)) (λ x y is. subst (λ z. Q (roll-Proto z)) is (step' y))

pub by_layers_proto : (P : CType → Type 0) (Q : Proto → Type 0) → ((y : Shown P Q) → P (bare P Q y)) → ((y : ShownProto P Q) → Q (bare_proto P Q y)) → (proto : Proto) → Q proto
by_layers_proto P Q step step' = ind-Proto P Q (λ x y is. subst (λ z. P (roll-CType z)) is (step y)) (λ x y is. subst (λ z. Q (roll-Proto z)) is (step' y))

map-map : {X Y Z : Type 0} (f : X → Y) (g : Y → Z) (xs : List X) → map g (map f xs) ≡ map (λ x. g (f x)) xs
map-map f g [] = refl
map-map f g (x ∷ xs) = ap (λ r. g (f x) ∷ r) (map-map f g xs)

answered-answered : (P : CType → Type 0) (Q : Proto → Type 0) (A A' : Type 0) (f : CType → A) (f' : Proto → A') (y : Shown P Q) → map-CType CType Proto A A' f f' (answered P Q CType Proto (λ kind. kind) (λ proto. proto) y) ≡ answered P Q A A' f f' y
answered-answered P Q A A' f f' c.Void = refl
answered-answered P Q A A' f f' c.Bool = refl
answered-answered P Q A A' f f' (c.Int w s r) = refl
answered-answered P Q A A' f f' c.Char = refl
answered-answered P Q A A' f f' (c.Enum n) = refl
answered-answered P Q A A' f f' (c.Struct s) = refl
answered-answered P Q A A' f f' (c.Pointer x) = refl
answered-answered P Q A A' f f' (c.Array x n) = refl
answered-answered P Q A A' f f' (c.Function p) = refl
answered-answered P Q A A' f f' c.Descriptor = refl
answered-answered P Q A A' f f' (c.Cdesc r) = refl
answered-answered P Q A A' f f' (c.Const x) = refl

-- a fold of a layer's value is its step at the folds of the parts
pub fold-bare : (P : CType → Type 0) (Q : Proto → Type 0) (A A' : Type 0) (step : CType-F A A' → A) (step' : Proto-F A A' → A') (y : Shown P Q) →
    fold-CType A A' step step' (bare P Q y) ≡ step (answered P Q A A' (fold-CType A A' step step') (fold-Proto A A' step step') y)
fold-bare P Q A A' step step' y =
    fold-roll-CType A A' step step' (answered P Q CType Proto (λ kind. kind) (λ proto. proto) y) ∙ ap step (answered-answered P Q A A' (fold-CType A A' step step') (fold-Proto A A' step step') y)

pub fold-bare_proto : (P : CType → Type 0) (Q : Proto → Type 0) (A A' : Type 0) (step : CType-F A A' → A) (step' : Proto-F A A' → A') (y : ShownProto P Q) →
    fold-Proto A A' step step' (bare_proto P Q y) ≡ step' (answered_proto P Q A A' (fold-CType A A' step step') (fold-Proto A A' step step') y)
fold-bare_proto P Q A A' step step' y =
    fold-roll-Proto A A' step step' (answered_proto P Q CType Proto (λ kind. kind) (λ proto. proto) y)
    ∙ ap (λ ps. step' (record { result = fold-CType A A' step step' y.result.0; params = ps })) (map-map (λ e. e.0) (fold-CType A A' step step') y.params)
