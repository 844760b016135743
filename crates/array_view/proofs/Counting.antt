-- How many subscripts a triplet has, a stride at a time.
use Rattle.std.proofs.Common.{◌≡◌, ◌≢◌, ℕ, ℤ, pos, negsuc, suc, zero, ◌+◌, ◌/◌, ◌<◌, ◌+ℤ◌, ◌-ℤ◌, ◌≤ℤ◌, ◌<ℤ◌, FitsSigned, w64, cond, Bool, true, false, unsigned_abs, List, [], ◌∷◌, ◌++◌, append_assoc, append-nil, refl, sym, ◌∙◌, arith}
use Rattle.std.proofs.Math.Nat.{div-eq_of_lt, add-div_right}
use Rattle.std.proofs.lemmas.Int.{ints}
use Rattle.std.specs.Int.Signed.{lt_z}
use Rattle.array_view.specs.Subscripts.{is_past, triplet_count, steps_from}

pub abs_is : (z : ℤ) → pos 0 ≤ℤ z → z ≡ pos (unsigned_abs z)
abs_is (pos n) h = refl
abs_is (negsuc n) h = absurd (omega (arith, ints))

pub abs_is_down : (z : ℤ) → z ≤ℤ pos 0 → z +ℤ pos (unsigned_abs z) ≡ pos 0
abs_is_down (pos zero) h = refl
abs_is_down (pos (suc n)) h = absurd (omega (arith, ints))
abs_is_down (negsuc n) h = omega (arith, ints)

whole_step : (t : Bool) (n m s : ℕ) → 0 < s → (t ≡ true → n < s) → (t ≡ false → n ≡ m + s) → n / s + 1 ≡ suc (cond t 0 (m / s + 1))
whole_step true n m s p f g = omega (arith, div-eq_of_lt (f refl))
whole_step false n m s p f g = rw (g refl, add-div_right m p) (omega arith)

count_up : (first last : ℤ) (s : ℕ) → lt_z last first ≡ false → triplet_count first last (pos (suc s)) ≡ suc (triplet_count (first +ℤ pos (suc s)) last (pos (suc s)))
unfolding triplet_count
count_up first last s h =
    let a : last -ℤ first ≡ pos (unsigned_abs (last -ℤ first)) = abs_is (last -ℤ first) (omega (arith, ints)) in
    rw h (whole_step (lt_z last (first +ℤ pos (suc s))) (unsigned_abs (last -ℤ first)) (unsigned_abs (last -ℤ (first +ℤ pos (suc s)))) (suc s) (omega arith)
    (λ e. omega (arith, ints))
    (λ e. let b : last -ℤ (first +ℤ pos (suc s)) ≡ pos (unsigned_abs (last -ℤ (first +ℤ pos (suc s)))) = abs_is (last -ℤ (first +ℤ pos (suc s))) (omega (arith, ints)) in omega (arith, ints)))

count_down : (first last : ℤ) (s : ℕ) → lt_z first last ≡ false → triplet_count first last (negsuc s) ≡ suc (triplet_count (first +ℤ negsuc s) last (negsuc s))
unfolding triplet_count
count_down first last s h =
    let a : (last -ℤ first) +ℤ pos (unsigned_abs (last -ℤ first)) ≡ pos 0 = abs_is_down (last -ℤ first) (omega (arith, ints)) in
    rw h (whole_step (lt_z (first +ℤ negsuc s) last) (unsigned_abs (last -ℤ first)) (unsigned_abs (last -ℤ (first +ℤ negsuc s))) (suc s) (omega arith)
    (λ e. omega (arith, ints))
    (λ e. let b : (last -ℤ (first +ℤ negsuc s)) +ℤ pos (unsigned_abs (last -ℤ (first +ℤ negsuc s))) ≡ pos 0 = abs_is_down (last -ℤ (first +ℤ negsuc s)) (omega (arith, ints)) in omega (arith, ints)))

-- before the end there is one more than from the next subscript on
pub triplet_count-step : (first last stride : ℤ) → stride ≢ pos 0 → is_past last stride first ≡ false → triplet_count first last stride ≡ suc (triplet_count (first +ℤ stride) last stride)
triplet_count-step first last (pos zero) d h = absurd (d refl)
triplet_count-step first last (pos (suc s)) d h = count_up first last s h
triplet_count-step first last (negsuc s) d h = count_down first last s h

-- past the end there is none
pub triplet_count-past : (first last stride : ℤ) → is_past last stride first ≡ true → triplet_count first last stride ≡ 0
unfolding triplet_count
triplet_count-past first last stride h = rw h refl

-- a step on has one subscript less, however its numbers are written
pub count_smaller : (k last stride k' last' stride' k'' last'' stride'' : ℤ) → stride ≢ pos 0 → is_past last stride k ≡ false → k' ≡ k +ℤ stride → last' ≡ last → stride' ≡ stride → k'' ≡ k → last'' ≡ last → stride'' ≡ stride → triplet_count k' last' stride' < triplet_count k'' last'' stride''
count_smaller k last stride k' last' stride' k'' last'' stride'' d h e f g e' f' g' = rw (e, f, g, e', f', g', triplet_count-step k last stride d h) (omega arith)

-- what a test said of numbers that are written otherwise
pub past_as : (b : Bool) (last stride k last' stride' k' : ℤ) → b ≡ is_past last' stride' k' → last' ≡ last → stride' ≡ stride → k' ≡ k → is_past last stride k ≡ b
past_as b last stride k last' stride' k' h e f g = sym (rw (e, f, g) at h)

-- the subscripts from a step on follow the one that was taken
pub steps_taken : (items after all : List ℤ) (taken k last stride k0 l0 s0 k' last' stride' : ℤ) → stride ≢ pos 0 → is_past last stride k ≡ false → items ++ steps_from k0 s0 (triplet_count k0 l0 s0) ≡ all → after ≡ items ++ taken ∷ [] → k0 ≡ k → l0 ≡ last → s0 ≡ stride → taken ≡ k → k' ≡ k +ℤ stride → last' ≡ last → stride' ≡ stride → after ++ steps_from k' stride' (triplet_count k' last' stride') ≡ all
steps_taken items after all taken k last stride k0 l0 s0 k' last' stride' d h old p a b c t e f g =
    rw (p, e, f, g, t, append_assoc) (rw (a, b, c, triplet_count-step k last stride d h) at old)

-- past the end all are taken
pub steps_end : (items : List ℤ) (k first last stride k0 f0 l0 s0 : ℤ) → is_past last stride k ≡ true → items ++ steps_from k0 s0 (triplet_count k0 l0 s0) ≡ steps_from f0 s0 (triplet_count f0 l0 s0) → k0 ≡ k → f0 ≡ first → l0 ≡ last → s0 ≡ stride → items ≡ steps_from first stride (triplet_count first last stride)
steps_end items k first last stride k0 f0 l0 s0 h old a b c d = sym (append-nil items) ∙ (rw (a, b, c, d, triplet_count-past k last stride h) at old)

-- a subscript on the way from the first to the last is as small as they are
pub reach : (first last stride k : ℤ) → FitsSigned w64 first → FitsSigned w64 last → (pos 0 ≤ℤ stride → first ≤ℤ k) → (stride <ℤ pos 0 → k ≤ℤ first) → is_past last stride k ≡ false → FitsSigned w64 k
reach first last (pos s) k f l up down h = let low : first ≤ℤ k = up (omega (arith, ints)) in let high : k ≤ℤ last = omega (arith, ints) in omega (arith, ints)
reach first last (negsuc s) k f l up down h = let low : k ≤ℤ first = down (omega (arith, ints)) in let high : last ≤ℤ k = omega (arith, ints) in omega (arith, ints)
