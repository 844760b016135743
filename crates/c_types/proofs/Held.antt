-- Of what the objects of a type consist: no struct, or one struct through arrays and const.
use Rattle.std.proofs.Common.{◌≡◌, ℕ, zero, suc, ◌*◌, All, Bool, true, false, Option, Some, None, IfSome, IsSome, List, [], ◌∷◌, refl, ap, sym, subst, ◌∙◌, arith}
use Rattle.std.specs.Option.{option_map}
use Rattle.c_types.specs.declared.ctype.CType.{CType, CType-F, fold-CType, fold-roll-CType, map-CType, roll-CType}
use Rattle.c_types.specs.declared.ctype.CType.TheVariants.{Void, Bool as TheBool, Int, Char, Enum, Struct, Pointer, Array, Function, Descriptor, Cdesc, Const}
use Rattle.c_types.specs.declared.ctype.CType.TheViews.{rolls-Void, rolls-Bool, rolls-Int, rolls-Char, rolls-Enum, rolls-Struct, rolls-Pointer, rolls-Array, rolls-Function, rolls-Descriptor, rolls-Cdesc, rolls-Const}
use Rattle.c_types.specs.declared.ctype.CType.TheOpen as c
use Rattle.c_types.specs.declared.ctype.Member.{Member}
use Rattle.c_types.specs.declared.ctype.Proto.{Proto}
use Rattle.c_types.specs.Sizes.{Bodies, layout_at, whole_size, size_step}
use Rattle.c_types.specs.Compatible.{qualified, settled, settled_of_proto, settled_proto, settled_step}
use Rattle.c_types.specs.Tables.{InOrder, held, held_step}
use Rattle.c_types.proofs.Induction.{by_layers, bare, Shown, answered, fold-bare}

-- what an object of the type consists of: a struct or none; functions are no objects
abbrev pub base_step : CType-F (Option (Option ℕ)) (Unit {0}) → Option (Option ℕ)
base_step (c.Struct s) = Some (Some s)
base_step (c.Array x n) = x
base_step (c.Function p) = None
base_step (c.Const x) = x
base_step _ = Some None

abbrev pub base : CType → Option (Option ℕ)
base = fold-CType (Option (Option ℕ)) (Unit {0}) base_step (λ p. tt)

abbrev pub Any : Proto → Type 0
Any p = Unit {0}

base-bare : (P : CType → Type 0) (y : Shown P Any) → base (bare P Any y) ≡ base_step (answered P Any (Option (Option ℕ)) (Unit {0}) base (λ p. tt) y)
base-bare P y = fold-bare P Any (Option (Option ℕ)) (Unit {0}) base_step (λ p. tt) y

-- settling a type leaves what its objects consist of
abbrev pub Settles : CType → Type 0
Settles a = (is_const : Bool) → base (settled a is_const) ≡ base a

base-rolled : (l : CType-F CType Proto) (a : CType) → roll-CType l ≡ a → base a ≡ base_step (map-CType CType Proto (Option (Option ℕ)) (Unit {0}) base (λ p. tt) l)
base-rolled l a e = ap base (sym e) ∙ fold-roll-CType (Option (Option ℕ)) (Unit {0}) base_step (λ p. tt) l

base-qualified : (is_const : Bool) (a : CType) → base (qualified is_const a) ≡ base a
base-qualified true a = base-rolled (c.Const a) (Const a) (rolls-Const a)
base-qualified false a = refl

settles_step : (y : Shown Settles Any) (is_const : Bool) →
    base (settled_step (answered Settles Any (Bool → CType) Proto settled settled_of_proto y) is_const) ≡ base_step (answered Settles Any (Option (Option ℕ)) (Unit {0}) base (λ p. tt) y)
settles_step c.Void b = base-qualified b Void ∙ base-rolled c.Void Void rolls-Void
settles_step c.Bool b = base-qualified b TheBool ∙ base-rolled c.Bool TheBool rolls-Bool
settles_step (c.Int w s r) b = base-qualified b (Int w s r) ∙ base-rolled (c.Int w s r) (Int w s r) (rolls-Int w s r)
settles_step c.Char b = base-qualified b Char ∙ base-rolled c.Char Char rolls-Char
settles_step (c.Enum n) b = base-qualified b (Enum n) ∙ base-rolled (c.Enum n) (Enum n) (rolls-Enum n)
settles_step (c.Struct s) b = base-qualified b (Struct s) ∙ base-rolled (c.Struct s) (Struct s) (rolls-Struct s)
settles_step (c.Pointer x) b = let to : CType = settled x.0 false in base-qualified b (Pointer to) ∙ base-rolled (c.Pointer to) (Pointer to) (rolls-Pointer to)
settles_step (c.Array x n) b = let of : CType = settled x.0 b in base-rolled (c.Array of n) (Array of n) (rolls-Array of n) ∙ x.1 b
settles_step (c.Function p) b = let f : Proto = settled_of_proto p.0 in base-rolled (c.Function f) (Function f) (rolls-Function f)
settles_step c.Descriptor b = base-qualified b Descriptor ∙ base-rolled c.Descriptor Descriptor rolls-Descriptor
settles_step (c.Cdesc r) b = base-qualified b (Cdesc r) ∙ base-rolled (c.Cdesc r) (Cdesc r) (rolls-Cdesc r)
settles_step (c.Const x) b = x.1 true

pub base-settled : (a : CType) → Settles a
base-settled = by_layers Settles Any
    (λ y is_const.
    ap (λ f. base (f is_const)) (fold-bare Settles Any (Bool → CType) Proto settled_step settled_proto y)
    ∙ settles_step y is_const
    ∙ sym (base-bare Settles y))
    (λ y. tt)

-- what has a size consists of no struct or of a complete one
abbrev pub Made : Bodies → Option (Option ℕ) → Type 0
Made bodies None = ⊥
Made bodies (Some None) = Unit {0}
Made bodies (Some (Some s)) = IsSome (layout_at bodies s)

abbrev pub Sized : Bodies → CType → Type 0
Sized bodies a = IsSome (whole_size bodies a) → Made bodies (base a)

some_mapped : {A B : Type 0} (f : A → B) (o : Option A) → IsSome (option_map f o) → IsSome o
some_mapped f None h = h
some_mapped f (Some x) h = refl

sized_step : (bodies : Bodies) (y : Shown (Sized bodies) Any) →
    IsSome (size_step bodies (answered (Sized bodies) Any (Option ℕ) (Unit {0}) (whole_size bodies) (λ p. tt) y)) →
    Made bodies (base_step (answered (Sized bodies) Any (Option (Option ℕ)) (Unit {0}) base (λ p. tt) y))
sized_step bodies c.Void h = tt
sized_step bodies c.Bool h = tt
sized_step bodies (c.Int w s r) h = tt
sized_step bodies c.Char h = tt
sized_step bodies (c.Enum n) h = tt
sized_step bodies (c.Struct s) h = some_mapped (λ l. l.size) (layout_at bodies s) h
sized_step bodies (c.Pointer x) h = tt
sized_step bodies (c.Array x n) h = x.1 (some_mapped (λ size. size * n) (whole_size bodies x.0) h)
sized_step bodies (c.Function p) h = absurd (cc)
sized_step bodies c.Descriptor h = tt
sized_step bodies (c.Cdesc r) h = tt
sized_step bodies (c.Const x) h = x.1 h

pub sized : (bodies : Bodies) (a : CType) → Sized bodies a
sized bodies = by_layers (Sized bodies) Any
    (λ y h.
    subst (Made bodies) (sym (base-bare (Sized bodies) y))
    (sized_step bodies y (subst (λ o. IsSome o) (fold-bare (Sized bodies) Any (Option ℕ) (Unit {0}) (size_step bodies) (λ p. tt) y) h)))
    (λ y. tt)

abbrev pub of_base : Option (Option ℕ) → Option ℕ
of_base None = None
of_base (Some o) = o

abbrev pub HeldIs : CType → Type 0
HeldIs a = held a ≡ of_base (base a)

held_is_step : (y : Shown HeldIs Any) → held_step (answered HeldIs Any (Option ℕ) (Unit {0}) held (λ p. tt) y) ≡ of_base (base_step (answered HeldIs Any (Option (Option ℕ)) (Unit {0}) base (λ p. tt) y))
held_is_step c.Void = refl
held_is_step c.Bool = refl
held_is_step (c.Int w s r) = refl
held_is_step c.Char = refl
held_is_step (c.Enum n) = refl
held_is_step (c.Struct s) = refl
held_is_step (c.Pointer x) = refl
held_is_step (c.Array x n) = x.1
held_is_step (c.Function p) = refl
held_is_step c.Descriptor = refl
held_is_step (c.Cdesc r) = refl
held_is_step (c.Const x) = x.1

pub held-is : (a : CType) → HeldIs a
held-is = by_layers HeldIs Any
    (λ y. fold-bare HeldIs Any (Option ℕ) (Unit {0}) held_step (λ p. tt) y ∙ held_is_step y ∙ sym (ap of_base (base-bare HeldIs y)))
    (λ y. tt)

-- a type with a size holds complete structs alone
pub held-complete : (bodies : Bodies) (kind : CType) → IsSome (whole_size bodies kind) → IfSome (held kind) (λ u. IsSome (layout_at bodies u))
held-complete bodies kind h = subst (λ o. IfSome o (λ u. IsSome (layout_at bodies u))) (sym (held-is kind)) (complete (base kind) (sized bodies kind h))
  where
    complete : (o : Option (Option ℕ)) → Made bodies o → IfSome (of_base o) (λ u. IsSome (layout_at bodies u))
    complete None m = absurd m
    complete (Some None) m = tt
    complete (Some (Some u)) m = m

pub members-complete : (bodies : Bodies) (ms : List Member) (end size : ℕ) → InOrder bodies end ms size → All (λ m. IfSome (held m.kind) (λ u. IsSome (layout_at bodies u))) ms
members-complete bodies [] end size h i d b = absurd (omega arith)
members-complete bodies (m ∷ ms) end size h zero d b = held-complete bodies m.kind h.2
members-complete bodies (m ∷ ms) end size h (suc i) d b = members-complete bodies ms _ size h.3 i d (omega arith)
