-- A list of places that grows at its end.
use Rattle.std.proofs.Common.{◌≡◌, ℕ, zero, suc, ◌+◌, ◌<◌, ◌≤◌, ◌⊎◌, inl, inr, List, [], ◌∷◌, ◌++◌, length, refl, sym, ap, ◌∙◌, subst, arith, lit<}
use Rattle.std.specs.Prelude.{slice_index, slice_get, Some, nat_lt, if◌then◌else◌, Bool, true, false}
use Rattle.std.proofs.lemmas.List.{length-append}
use Rattle.std.proofs.lemmas.Option.{slice_get_within}
use Rattle.std.proofs.lemmas.Grind.{common_steps}
use Rattle.rv_isa.specs.declared.insn.Insn.{Insn}
use Rattle.rv_isa.specs.declared.insn.Insn.TheVariants.{Jal}
use Rattle.rv_assemble.specs.declared.unit.AsmLine.{AsmLine}
use Rattle.rv_assemble.specs.declared.unit.AsmLine.TheVariants.{Label, Plain, Branch, Call, Address}
use Rattle.rv_assemble.specs.Places.{widest_of, jump_size, branch_size, size_of_line, gap, AreWide, ArePlaces}

pub index-old : (xs : List ℕ) (y k : ℕ) → k < length xs → slice_index (xs ++ y ∷ []) k ≡ slice_index xs k
index-old xs y k l = grind (arith, common_steps)

index-past : (xs : List ℕ) (y k : ℕ) → length xs < k → slice_index (xs ++ y ∷ []) k ≡ 0
index-past [] y zero l = absurd (omega arith)
index-past [] y (suc k) l = past k
  where
    past : (k : ℕ) → slice_index [] k ≡ 0
    past k = grind (arith, common_steps)
index-past (x ∷ xs) y zero l = absurd (omega arith)
index-past (x ∷ xs) y (suc k) l = index-past xs y k (omega arith)

pub index-new : (xs : List ℕ) (y k : ℕ) → k ≡ length xs → slice_index (xs ++ y ∷ []) k ≡ y
index-new xs y k e = grind (arith, common_steps)

-- each place below n is followed by the next
abbrev pub Steps : (lines : List AsmLine) (xs : List ℕ) (size : ℕ → AsmLine → ℕ) (n : ℕ) → Type 0
Steps lines xs size n = (k : ℕ) (line : AsmLine) → k < n → slice_get lines k ≡ Some line → slice_index xs (k + 1) ≡ slice_index xs k + size k line

pub same_line : (a b : AsmLine) → Some a ≡ Some b → a ≡ b
same_line a b e = cc

pub last_or_before : (k n : ℕ) → k < n + 1 → (k < n) ⊎ (k ≡ n)
last_or_before k n l = grind arith

pub steps-more : (lines : List AsmLine) (xs : List ℕ) (size : ℕ → AsmLine → ℕ) (n y : ℕ) (here : AsmLine)
    → length xs ≡ n + 1 → Steps lines xs size n → slice_get lines n ≡ Some here → y ≡ slice_index xs n + size n here → Steps lines (xs ++ y ∷ []) size (n + 1)
steps-more lines xs size n y here e h g q k line l gk = elim (last_or_before k n l) [
  | inl b ↦ index-old xs y (k + 1) (omega arith) ∙ h k line b gk ∙ ap (λ m. m + size k line) (sym (index-old xs y k (omega arith)))
  | inr s ↦
      let P : ℕ → Type 0 = λ m. slice_get lines m ≡ Some line in
      let gn : slice_get lines n ≡ Some line = subst P s gk in
      let same : here ≡ line = same_line here line (sym g ∙ gn) in
      let new : slice_index (xs ++ y ∷ []) (k + 1) ≡ y = index-new xs y (k + 1) (omega arith) in
      let old : slice_index (xs ++ y ∷ []) k ≡ slice_index xs k = index-old xs y k (omega arith) in
      let at : slice_index xs n + size n here ≡ slice_index xs k + size k line = ap (λ m. slice_index xs m + size m here) (sym s) ∙ ap (λ i. slice_index xs k + size k i) same in
      new ∙ q ∙ at ∙ ap (λ m. m + size k line) (sym old)
]

pub small-more : (xs : List ℕ) (y most : ℕ) → ((k : ℕ) → slice_index xs k < most) → y < most → (k : ℕ) → slice_index (xs ++ y ∷ []) k < most
small-more [] y most h l k = grind (arith, common_steps)
small-more (x ∷ xs) y most h l zero = h zero
small-more (x ∷ xs) y most h l (suc k) = small-more xs y most (λ i. h (suc i)) l k

-- the widest places of the first n lines, which end there
pub record WideTo (lines : List AsmLine) (wide : List ℕ) (n end : ℕ) : Type 0 where
  pub count : length wide ≡ n + 1
  pub begins : slice_index wide 0 ≡ 0
  pub ends : slice_index wide n ≡ end
  pub below : end < 1999999990
  pub small : (k : ℕ) → slice_index wide k < 1999999990
  pub steps : Steps lines wide (λ k line. widest_of line) n

pub wide-none : (lines : List AsmLine) → WideTo lines (0 ∷ []) 0 0
wide-none lines = record {
  count = refl;
  begins = refl;
  ends = refl;
  below = omega arith;
  small = small-more [] 0 1999999990 (λ k. lit< tt) (omega arith);
  steps = λ k line l g. absurd (omega arith);
}

pub wide-more : (lines : List AsmLine) (xs : List ℕ) (n end : ℕ) (here : AsmLine) → WideTo lines xs n end → slice_get lines n ≡ Some here
    → end + widest_of here < 1999999990 → WideTo lines (xs ++ (end + widest_of here) ∷ []) (n + 1) (end + widest_of here)
wide-more lines xs n end here h g l = record {
  count = simp length-append (omega (arith, h.count));
  begins = index-old xs (end + widest_of here) 0 (omega (arith, h.count)) ∙ h.begins;
  ends = index-new xs (end + widest_of here) (n + 1) (omega (arith, h.count));
  below = l;
  small = small-more xs (end + widest_of here) 1999999990 h.small l;
  steps = steps-more lines xs (λ k line. widest_of line) n (end + widest_of here) here h.count h.steps g (ap (λ m. m + widest_of here) (sym h.ends));
}

pub wide-all : (lines : List AsmLine) (xs : List ℕ) (n end : ℕ) → n ≡ length lines → WideTo lines xs n end → AreWide lines xs
wide-all lines xs n end e h = record {
  count = h.count ∙ ap (λ m. m + 1) e;
  begins = h.begins;
  steps = λ k line g. h.steps k line (let l = slice_get_within lines k line g in omega arith) g;
  small = h.small;
}

pub widest-le : (line : AsmLine) → widest_of line ≤ 12
widest-le (Label label) = omega arith
widest-le (Plain i) = omega arith
widest-le (Branch insn to) = omega arith
widest-le (Call name) = omega arith
widest-le (Address rd name offset) = omega arith

jump_size-le : (far : ℕ) → jump_size far ≤ 8
jump_size-le far = chosen (nat_lt far 1048000) (jump_size far) refl
  where
    chosen : (b : Bool) (n : ℕ) → n ≡ (if b then 4 else 8) → n ≤ 8
    chosen true n e = omega arith
    chosen false n e = omega arith

branch_size-le : (i : Insn) (far : ℕ) → branch_size i far ≤ 12
branch_size-le (Jal rd imm) far = let l = jump_size-le far in omega arith
branch_size-le i far = chosen (nat_lt far 4000) (branch_size i far) refl
  where
    chosen : (b : Bool) (n : ℕ) → n ≡ (if b then 4 else 4 + jump_size far) → n ≤ 12
    chosen true n e = omega arith
    chosen false n e = let l = jump_size-le far in omega arith

pub size-le-widest : (line : AsmLine) (far : ℕ) → size_of_line line far ≤ widest_of line
size-le-widest (Label label) far = omega arith
size-le-widest (Plain i) far = omega arith
size-le-widest (Branch insn to) far = branch_size-le insn far
size-le-widest (Call name) far = omega arith
size-le-widest (Address rd name offset) far = omega arith

-- the places of the first n lines, which end there
pub record PlacesTo (lines : List AsmLine) (targets wide places : List ℕ) (n end : ℕ) : Type 0 where
  pub count : length places ≡ n + 1
  pub begins : slice_index places 0 ≡ 0
  pub ends : slice_index places n ≡ end
  pub below : end ≤ slice_index wide n
  pub narrow : (k : ℕ) → slice_index places k ≤ slice_index wide k
  pub steps : Steps lines places (λ k line. size_of_line line (gap (slice_index wide k) (slice_index wide (slice_index targets k)))) n

pub places-none : (lines : List AsmLine) (targets wide : List ℕ) → PlacesTo lines targets wide (0 ∷ []) 0 0
places-none lines targets wide = record {
  count = refl;
  begins = refl;
  ends = refl;
  below = omega arith;
  narrow = first wide;
  steps = λ k line l g. absurd (omega arith);
}
  where
    past : (k : ℕ) → slice_index [] k ≡ 0
    past k = grind (arith, common_steps)

    first : (wide : List ℕ) (k : ℕ) → slice_index (0 ∷ []) k ≤ slice_index wide k
    first wide zero = omega arith
    first wide (suc k) = omega (arith, past k)

narrow-more : (xs wide : List ℕ) (y : ℕ) → ((k : ℕ) → slice_index xs k ≤ slice_index wide k) → y ≤ slice_index wide (length xs) → (k : ℕ)
    → slice_index (xs ++ y ∷ []) k ≤ slice_index wide k
narrow-more xs wide y h l k = elim (three k (length xs)) [
  | inl b ↦ subst (λ (m : ℕ). m ≤ slice_index wide k) (sym (index-old xs y k b)) (h k)
  | inr s ↦ elim s [
    | inl e ↦ subst (λ (m : ℕ). m ≤ slice_index wide k) (sym (index-new xs y k e)) (subst (λ (m : ℕ). y ≤ slice_index wide m) (sym e) l)
    | inr a ↦ let z : slice_index (xs ++ y ∷ []) k ≡ 0 = index-past xs y k a in omega (arith, z)
  ]
]
  where
    three : (k n : ℕ) → (k < n) ⊎ ((k ≡ n) ⊎ (n < k))
    three k n = grind arith

pub places-more : (lines : List AsmLine) (targets wide xs : List ℕ) (n end : ℕ) (here : AsmLine) (size : ℕ) → PlacesTo lines targets wide xs n end
    → slice_get lines n ≡ Some here → size ≡ size_of_line here (gap (slice_index wide n) (slice_index wide (slice_index targets n)))
    → slice_index wide (n + 1) ≡ slice_index wide n + widest_of here
    → PlacesTo lines targets wide (xs ++ (end + size) ∷ []) (n + 1) (end + size)
places-more lines targets wide xs n end here size h g e w =
    let most = size-le-widest here (gap (slice_index wide n) (slice_index wide (slice_index targets n))) in
    let below : end + size ≤ slice_index wide (n + 1) = omega (arith, h.below, e, w, most) in
    record {
      count = simp length-append (omega (arith, h.count));
      begins = index-old xs (end + size) 0 (omega (arith, h.count)) ∙ h.begins;
      ends = index-new xs (end + size) (n + 1) (omega (arith, h.count));
      below = below;
      narrow = narrow-more xs wide (end + size) h.narrow (subst (λ (m : ℕ). end + size ≤ slice_index wide m) (sym h.count) below);
      steps = steps-more lines xs (λ k line. size_of_line line (gap (slice_index wide k) (slice_index wide (slice_index targets k)))) n (end + size) here h.count h.steps g
          (ap (λ m. m + size) (sym h.ends) ∙ ap (λ m. slice_index xs n + m) e);
    }

pub places-all : (lines : List AsmLine) (targets wide xs : List ℕ) (n end : ℕ) → n ≡ length lines → PlacesTo lines targets wide xs n end → ArePlaces lines targets wide xs
places-all lines targets wide xs n end e h = record {
  count = h.count ∙ ap (λ m. m + 1) e;
  begins = h.begins;
  steps = λ k line g. h.steps k line (let l = slice_get_within lines k line g in omega arith) g;
  narrow = h.narrow;
}
