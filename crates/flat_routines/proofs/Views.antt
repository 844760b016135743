-- Elements by their dimensions are those of views, in the same order.
use Rattle.std.proofs.Common.{◌≡◌, ℕ, ℤ, pos, negsuc, zero, suc, ◌+◌, ◌-◌, ◌*◌, ◌^◌, ◌<◌, ◌+ℤ◌, ◌-ℤ◌, ◌*ℤ◌, FitsSigned, w64, List, [], ◌∷◌, length, map, Some, refl, sym, ap, ◌∙◌, arith}
use Rattle.std.specs.Prelude.{slice_get, option_map}
use Rattle.std.specs.Int.{cast_unsigned}
use Rattle.std.proofs.Math.Nat.{suc-mul}
use Rattle.std.proofs.Math.IntN.{suc_ℤ-*ℤ, zero-*ℤ}
use Rattle.std.proofs.lemmas.Int.{ints}
use Rattle.std.proofs.lemmas.Option.{slice_get-map}
use Rattle.std.proofs.lemmas.List.{length-map}
use Rattle.std.proofs.lemmas.List.Elements.{All-head, All-tail}
use Rattle.array_view.specs.declared.axes.AxisDim.{AxisDim}
use Rattle.array_view.specs.Subscripts.{steps_from}
use Rattle.array_view.specs.Elements.{choices, element_offset, count_of, axis_subscripts}
use Rattle.flat_routines.specs.Dims.{count, AreSubscripts, position, offset}
use Rattle.flat_routines.specs.Views.{dims_of, AreStrides, IsView}
use Rattle.flat_routines.proofs.Blocks.{get_block, blocks_length}

-- the view's own subscripts, from those that are counted from 0
abbrev subscripts_from : List AxisDim → List ℕ → List ℤ
subscripts_from [] ks = []
subscripts_from (d ∷ ds) [] = []
subscripts_from (d ∷ ds) (k ∷ ks) = (d.lower +ℤ pos k) ∷ subscripts_from ds ks

steps_length : (n : ℕ) (low step : ℤ) → length (steps_from low step n) ≡ n
steps_length zero low step = refl
steps_length (suc n) low step = let e = steps_length n (low +ℤ step) step in omega (arith, e)

steps_get : (n k : ℕ) (low : ℤ) → k < n → slice_get (steps_from low (pos 1) n) k ≡ Some (low +ℤ pos k)
steps_get zero k low h = absurd (omega arith)
steps_get (suc n) zero low h = let e : low ≡ low +ℤ pos 0 = omega (arith, ints) in ap Some e
steps_get (suc n) (suc k) low h =
    let e : low +ℤ pos 1 +ℤ pos k ≡ low +ℤ pos (suc k) = omega (arith, ints) in
    steps_get n k (low +ℤ pos 1) (omega arith) ∙ ap Some e

row_length : (d : AxisDim) (others : List ℤ) → length (map (λ k. k ∷ others) (axis_subscripts d)) ≡ count_of d.extent
row_length d others = length-map (axis_subscripts d) (λ k. k ∷ others) ∙ steps_length (count_of d.extent) d.lower (pos 1)

pub choices_get : (ds : List AxisDim) (ks : List ℕ) → AreSubscripts (dims_of ds) ks → slice_get (choices (map axis_subscripts ds)) (position (dims_of ds) ks) ≡ Some (subscripts_from ds ks)
choices_get [] [] h = refl
choices_get [] (k ∷ ks) h = absurd h
choices_get (d ∷ ds) [] h = absurd h
choices_get (d ∷ ds) (k ∷ ks) h =
    let others = subscripts_from ds ks in
    get_block (λ others. map (λ k. k ∷ others) (axis_subscripts d)) (count_of d.extent) (row_length d) (choices (map axis_subscripts ds)) (position (dims_of ds) ks) k others h.0 (choices_get ds ks h.1)
    ∙ (slice_get-map (λ k. k ∷ others) (axis_subscripts d) k ∙ ap (option_map (λ k. k ∷ others)) (steps_get (count_of d.extent) k d.lower h.0))

pub choices_length : (ds : List AxisDim) → length (choices (map axis_subscripts ds)) ≡ count (dims_of ds)
choices_length [] = refl
choices_length (d ∷ ds) =
    blocks_length (λ others. map (λ k. k ∷ others) (axis_subscripts d)) (count_of d.extent) (row_length d) (choices (map axis_subscripts ds))
    ∙ ap (λ n. count_of d.extent * n) (choices_length ds)

-- a stride and its number of 64 bits, some times
times : (k c s : ℕ) (z : ℤ) → z +ℤ pos c ≡ pos s → pos k *ℤ z +ℤ pos (k * c) ≡ pos (k * s)
times zero c s z e = let f = zero-*ℤ z in omega (arith, ints, f)
times (suc k) c s z e =
    let i = times k c s z e in
    let f : pos (suc k) *ℤ z ≡ pos k *ℤ z +ℤ z = suc_ℤ-*ℤ (pos k) z in
    let m = suc-mul k c in
    let n = suc-mul k s in
    omega (arith, ints, i, f, m, n, e)

stride_step : (k : ℕ) (z : ℤ) → FitsSigned w64 z → (q : ℕ) × (pos k *ℤ z +ℤ pos (q * 2 ^ 64) ≡ pos (k * cast_unsigned w64 z))
stride_step k (pos n) h = (0, let e = times k 0 n (pos n) (omega (arith, ints)) in omega (arith, ints, e))
stride_step k (negsuc n) h = (k, times k (2 ^ 64) (2 ^ 64 - suc n) (negsuc n) (omega (arith, ints, h.sfits)))

offsets : (base : ℤ) (ds : List AxisDim) (ks : List ℕ) → AreStrides ds → AreSubscripts (dims_of ds) ks → (q : ℕ) × (element_offset base ds (subscripts_from ds ks) +ℤ pos (q * 2 ^ 64) ≡ base +ℤ pos (offset (dims_of ds) ks))
offsets base [] [] strides h = (0, omega (arith, ints))
offsets base [] (k ∷ ks) strides h = absurd h
offsets base (d ∷ ds) [] strides h = absurd h
offsets base (d ∷ ds) (k ∷ ks) strides h =
    let rest = offsets base ds ks (All-tail (λ (d : AxisDim). FitsSigned w64 d.sm) d ds strides) h.1 in
    let step = stride_step k d.sm (All-head (λ (d : AxisDim). FitsSigned w64 d.sm) d ds strides) in
    let e : d.lower +ℤ pos k -ℤ d.lower ≡ pos k = omega (arith, ints) in
    let f : (d.lower +ℤ pos k -ℤ d.lower) *ℤ d.sm ≡ pos k *ℤ d.sm = ap (λ z. z *ℤ d.sm) e in
    let g = rest.1 in
    let i = step.1 in
    (rest.0 + step.0, omega (arith, ints, f, g, i))

pub is_view : (base : ℕ) (ds : List AxisDim) → AreStrides ds → IsView base ds
is_view base ds strides = record {
  counts = length-map (choices (map axis_subscripts ds)) (element_offset (pos base) ds) ∙ choices_length ds;
  each = λ ks a h small e.
      let o = offsets (pos base) ds ks strides h in
      let listed = slice_get-map (element_offset (pos base) ds) (choices (map axis_subscripts ds)) (position (dims_of ds) ks) ∙ ap (option_map (element_offset (pos base) ds)) (choices_get ds ks h) in
      let at : element_offset (pos base) ds (subscripts_from ds ks) ≡ pos a = some_is (sym listed ∙ e) in
      let f = o.1 in
      omega (arith, ints, f, at, small);
}
  where
    some_is : {x y : ℤ} → Some x ≡ Some y → x ≡ y
    some_is {x} {y} e = cc
