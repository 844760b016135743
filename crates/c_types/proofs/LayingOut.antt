-- Members laid out one by one.
use Rattle.std.proofs.Common.{◌≡◌, ℕ, suc, ◌+◌, ◌-◌, ◌/◌, ◌%◌, ◌<◌, ◌≤◌, ◌^◌, max, Option, Some, None, IsSome, unwrap_or, List, [], ◌∷◌, ◌++◌, All, refl, sym, subst, ◌∙◌, arith, append_assoc, append-nil}
use Rattle.std.specs.Option.{option_and_then, option_map}
use Rattle.jf_base.specs.declared.numbers.Width.{Width}
use Rattle.jf_base.specs.declared.numbers.Width.TheVariants.{W1, W2, W4, W8}
use Rattle.jf_base.specs.Numbers.{size_of_width}
use Rattle.std.proofs.Math.Nat.{lt-div-mul-add, mul-mod_left}
use Rattle.c_types.specs.declared.ctype.CType.{CType}
use Rattle.c_types.specs.declared.ctype.CType.TheOpen as c
use Rattle.c_types.specs.declared.ctype.CType.TheOpen.{CType-F, Proto-F}
use Rattle.c_types.specs.declared.ctype.Proto.{Proto}
use Rattle.c_types.proofs.Induction.{by_layers, Shown, answered, fold-bare}
use Rattle.c_types.specs.declared.ctype.Layout.{Layout}
use Rattle.c_types.specs.declared.ctype.Member.{Member}
use Rattle.c_types.specs.Layouts.{Declared, rounded, align_or_one, size_or_none, placed, end_of_last, strictest, layout_of}
use Rattle.c_types.specs.Sizes.{Bodies, alignment, align_step, layout_at, whole_size, at_most_limit, size_in}
use Rattle.c_types.specs.Tables.{InOrder, IsSound, AreSound}

-- rounding up: at or after, and by less than the alignment
pub rounded-least : (end align : ℕ) → 1 ≤ align → end ≤ rounded end align
rounded-least end align h = omega (arith, lt-div-mul-add {a = end + (align - 1)} {b = align} h)

pub rounded-most : (end align : ℕ) → 1 ≤ align → rounded end align ≤ end + (align - 1)
rounded-most end align h = grind arith

-- what is still to be laid out leads to the layout of all
pub record Laying (bodies : Bodies) (members : Declared) (done : List Member) (end align : ℕ) (rest : Declared) : Type 0 where
  pub in_order : done ++ placed bodies end rest ≡ placed bodies 0 members
  pub ends : end_of_last bodies end rest ≡ end_of_last bodies 0 members
  pub strict : strictest bodies align rest ≡ strictest bodies 1 members
  pub some_align : 1 ≤ align
  pub most_align : align ≤ 8
  pub sized : All (λ m. IsSome (size_in bodies m.1)) rest

pub laying-start : (bodies : Bodies) (members : Declared) → All (λ m. IsSome (size_in bodies m.1)) members → Laying bodies members [] 0 1 members
laying-start bodies members h = record { in_order = refl; ends = refl; strict = refl; some_align = omega arith; most_align = omega arith; sized = h }

pub size_or_none-size_in : (bodies : Bodies) (kind : CType) → IsSome (size_in bodies kind) → unwrap_or (size_in bodies kind) 0 ≡ size_or_none bodies kind
size_or_none-size_in bodies kind h = at_limit (whole_size bodies kind) h
  where
    at_limit : (w : Option ℕ) → IsSome (option_and_then at_most_limit w) → unwrap_or (option_and_then at_most_limit w) 0 ≡ unwrap_or w 0
    at_limit None h = refl
    at_limit (Some n) h = grind arith

pub laying-step : (bodies : Bodies) (members : Declared) (done : List Member) (end align : ℕ) (name : ℕ) (kind : CType) (rest : Declared) (a size : ℕ) →
    Laying bodies members done end align ((name, kind) ∷ rest) → a ≡ align_or_one bodies kind → size ≡ size_or_none bodies kind → 1 ≤ a → a ≤ 8 →
    Laying bodies members (done ++ record { name = name; kind = kind; offset = rounded end a } ∷ []) (rounded end a + size) (max align a) rest
laying-step bodies members done end align name kind rest a size l e s some most = record {
  in_order = rw (e, s) (append_assoc done _ _ ∙ l.in_order);
  ends = rw (e, s) l.ends;
  strict = rw e l.strict;
  some_align = omega arith;
  most_align = omega arith;
  sized = λ k d h. l.sized (suc k) d (omega arith);
}

abbrev IsAligned : Bodies → CType → Type 0
IsAligned bodies kind = (1 ≤ align_or_one bodies kind) × (align_or_one bodies kind ≤ 8)

abbrev Any : Proto → Type 0
Any p = Unit {0}

aligned_width : (w : Width) → (1 ≤ size_of_width w) × (size_of_width w ≤ 8)
aligned_width W1 = (omega arith, omega arith)
aligned_width W2 = (omega arith, omega arith)
aligned_width W4 = (omega arith, omega arith)
aligned_width W8 = (omega arith, omega arith)

aligned_struct : (bodies : Bodies) (l : Option Layout) → ((k : Layout) → l ≡ Some k → IsSound bodies k) → (1 ≤ unwrap_or (option_map (λ k. k.align) l) 1) × (unwrap_or (option_map (λ k. k.align) l) 1 ≤ 8)
aligned_struct bodies None h = (omega arith, omega arith)
aligned_struct bodies (Some k) h = ((h k refl).some_align, (h k refl).most_align)

aligned_step : (bodies : Bodies) → AreSound bodies → (y : Shown (IsAligned bodies) Any) →
    let a = align_step bodies (answered (IsAligned bodies) Any (Option ℕ) (Unit {0}) (alignment bodies) (λ p. tt) y) in
    (1 ≤ unwrap_or a 1) × (unwrap_or a 1 ≤ 8)
aligned_step bodies t c.Void = (omega arith, omega arith)
aligned_step bodies t c.Bool = (omega arith, omega arith)
aligned_step bodies t (c.Int w s r) = aligned_width w
aligned_step bodies t c.Char = (omega arith, omega arith)
aligned_step bodies t (c.Enum n) = (omega arith, omega arith)
aligned_step bodies t (c.Struct s) = aligned_struct bodies (layout_at bodies s) (λ k e. t s k e)
aligned_step bodies t (c.Pointer x) = (omega arith, omega arith)
aligned_step bodies t (c.Array x n) = x.1
aligned_step bodies t (c.Function p) = (omega arith, omega arith)
aligned_step bodies t c.Descriptor = (omega arith, omega arith)
aligned_step bodies t (c.Cdesc r) = (omega arith, omega arith)
aligned_step bodies t (c.Const x) = x.1

pub aligned : (bodies : Bodies) → AreSound bodies → (kind : CType) → IsAligned bodies kind
aligned bodies t = by_layers (IsAligned bodies) Any
    (λ y. subst (λ a. (1 ≤ unwrap_or a 1) × (unwrap_or a 1 ≤ 8)) (sym (fold-bare (IsAligned bodies) Any (Option ℕ) (Unit {0}) (align_step bodies) (λ p. tt) y)) (aligned_step bodies t y))
    (λ y. tt)

-- nothing ends past the last member's end
pub end_of_last-least : (bodies : Bodies) → AreSound bodies → (end : ℕ) (members : Declared) → end ≤ end_of_last bodies end members
end_of_last-least bodies t end [] = omega arith
end_of_last-least bodies t end (m ∷ ms) =
    let a : ℕ = align_or_one bodies m.1 in
    omega (arith, rounded-least end (align_or_one bodies m.1) (aligned bodies t m.1).0, end_of_last-least bodies t (rounded end (align_or_one bodies m.1) + size_or_none bodies m.1) ms)

pub strictest-least : (bodies : Bodies) (align : ℕ) (members : Declared) → align ≤ strictest bodies align members
strictest-least bodies align [] = omega arith
strictest-least bodies align (m ∷ ms) = omega (arith, strictest-least bodies (max align (align_or_one bodies m.1)) ms)

pub laying-within : (bodies : Bodies) → AreSound bodies → (members : Declared) (done : List Member) (end align : ℕ) (rest : Declared) → Laying bodies members done end align rest → (layout_of bodies members).size ≤ 2 ^ 62 → end ≤ 2 ^ 62
laying-within bodies t members done end align rest l h =
    omega (arith, l.ends, end_of_last-least bodies t end rest, rounded-least (end_of_last bodies 0 members) (strictest bodies 1 members) (strictest-least bodies 1 members), h)

-- the place of the next member, and its end
pub laying-next : (bodies : Bodies) → AreSound bodies → (members : Declared) (done : List Member) (end align : ℕ) (m : ℕ × CType) (rest : Declared) → Laying bodies members done end align (m ∷ rest) → (layout_of bodies members).size ≤ 2 ^ 62 →
    rounded end (align_or_one bodies m.1) + size_or_none bodies m.1 ≤ 2 ^ 62
laying-next bodies t members done end align m rest l h =
    omega (arith, l.ends, end_of_last-least bodies t (rounded end (align_or_one bodies m.1) + size_or_none bodies m.1) rest, rounded-least (end_of_last bodies 0 members) (strictest bodies 1 members) (strictest-least bodies 1 members), h)

pub laying-end : (bodies : Bodies) (members : Declared) (done : List Member) (end align : ℕ) → Laying bodies members done end align [] → record { members = done; size = rounded end align; align = align } ≡ layout_of bodies members
laying-end bodies members done end align l = laid done end align (placed bodies 0 members) (end_of_last bodies 0 members) (strictest bodies 1 members) (sym (append-nil done) ∙ l.in_order) l.ends l.strict
  where
    made : List Member → ℕ → ℕ → Layout
    made ms e a = record { members = ms; size = rounded e a; align = a }

    laid : (ms : List Member) (e a : ℕ) (ns : List Member) (f b : ℕ) → ms ≡ ns → e ≡ f → a ≡ b → made ms e a ≡ made ns f b
    laid ms e a ns f b p q r = cc

rounded-multiple : (end align : ℕ) → rounded end align % align ≡ 0
rounded-multiple end align = mul-mod_left ((end + (align - 1)) / align) align

some_size : (w : Option ℕ) → IsSome (option_and_then at_most_limit w) → IsSome w
some_size None h = h
some_size (Some n) h = refl

-- members that are laid out lie in order
pub placed_in_order : (bodies : Bodies) → AreSound bodies → (end : ℕ) (members : Declared) (size : ℕ) → All (λ m. IsSome (size_in bodies m.1)) members → end_of_last bodies end members ≤ size → InOrder bodies end (placed bodies end members) size
placed_in_order bodies t end [] size h l = l
placed_in_order bodies t end (m ∷ ms) size h l = (
  rounded-least end (align_or_one bodies m.1) (aligned bodies t m.1).0,
  rounded-multiple end (align_or_one bodies m.1),
  some_size (whole_size bodies m.1) (h 0 m (omega arith)),
  placed_in_order bodies t (rounded end (align_or_one bodies m.1) + size_or_none bodies m.1) ms size (λ k d b. h (suc k) d (omega arith)) l,
)

pub strictest-most : (bodies : Bodies) → AreSound bodies → (align : ℕ) (members : Declared) → align ≤ 8 → strictest bodies align members ≤ 8
strictest-most bodies t align [] h = h
strictest-most bodies t align (m ∷ ms) h = let a = aligned bodies t m.1 in strictest-most bodies t (max align (align_or_one bodies m.1)) ms (omega arith)

pub sound_layout : (bodies : Bodies) → AreSound bodies → (members : Declared) → All (λ m. IsSome (size_in bodies m.1)) members → (layout_of bodies members).size ≤ 2 ^ 62 → IsSound bodies (layout_of bodies members)
sound_layout bodies t members h l =
    let least = strictest-least bodies 1 members in
    record {
      some_align = least;
      most_align = strictest-most bodies t 1 members (omega arith);
      most_size = l;
      padded = rounded-multiple (end_of_last bodies 0 members) (strictest bodies 1 members);
      in_order = placed_in_order bodies t 0 members (layout_of bodies members).size h (rounded-least (end_of_last bodies 0 members) (strictest bodies 1 members) least);
    }

-- what is still to be measured leads to the size of all
pub record Measuring (bodies : Bodies) (members : Declared) (end align : ℕ) (rest : Declared) : Type 0 where
  pub ends : end_of_last bodies end rest ≡ end_of_last bodies 0 members
  pub strict : strictest bodies align rest ≡ strictest bodies 1 members
  pub some_align : 1 ≤ align
  pub most_align : align ≤ 8
  pub small : end ≤ 2 ^ 62

pub measuring-step : (bodies : Bodies) (members : Declared) (end align : ℕ) (m : ℕ × CType) (rest : Declared) (a size : ℕ) →
    Measuring bodies members end align (m ∷ rest) → a ≡ align_or_one bodies m.1 → size ≡ size_or_none bodies m.1 → 1 ≤ a → a ≤ 8 → rounded end a + size ≤ 2 ^ 62 →
    Measuring bodies members (rounded end a + size) (max align a) rest
measuring-step bodies members end align m rest a size l e s some most small = record {
  ends = rw (e, s) l.ends;
  strict = rw e l.strict;
  some_align = omega arith;
  most_align = omega arith;
  small = small;
}

past_limit : (n : ℕ) → 2 ^ 62 < n → None ≡ at_most_limit n
past_limit n h = grind arith

pub measuring-past : (bodies : Bodies) → AreSound bodies → (members : Declared) (end align : ℕ) (m : ℕ × CType) (rest : Declared) (a size : ℕ) →
    Measuring bodies members end align (m ∷ rest) → a ≡ align_or_one bodies m.1 → size ≡ size_or_none bodies m.1 → 2 ^ 62 < rounded end a + size →
    None ≡ at_most_limit (layout_of bodies members).size
measuring-past bodies t members end align m rest a size l e s past =
    let last = end_of_last-least bodies t (rounded end (align_or_one bodies m.1) + size_or_none bodies m.1) rest in
    let up = rounded-least (end_of_last bodies 0 members) (strictest bodies 1 members) (strictest-least bodies 1 members) in
    let here : 2 ^ 62 < rounded end (align_or_one bodies m.1) + size_or_none bodies m.1 = rw (← e, ← s) past in
    past_limit (layout_of bodies members).size (omega (arith, l.ends, last, up, here))
