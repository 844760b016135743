-- The subscripts of a triplet, by the standard's quotient.
use Rattle.std.proofs.Common.{◌≡◌, ◌≢◌, ℕ, ℤ, pos, negsuc, neg_ℤ, suc, zero, ◌+◌, ◌/◌, ◌<◌, ◌+ℤ◌, ◌-ℤ◌, ◌*ℤ◌, ◌<ℤ◌, Bool, true, false, if◌then◌else◌, nat_lt, rules, unsigned_abs, int_div, length, get_or, refl, ap, sym, ◌∙◌, arith}
use Rattle.std.proofs.Math.Nat.{div-eq_of_lt, add-div_right}
use Rattle.std.proofs.Math.IntN.{suc_ℤ-*ℤ, zero-*ℤ}
use Rattle.std.proofs.lemmas.Int.{ints}
use Rattle.std.proofs.lemmas.List.Elements.{All-cons}
use Rattle.std.specs.Int.{int_max}
use Rattle.std.specs.Int.Signed.{lt_z}
use Rattle.std.specs.List.{All}
use Rattle.array_view.specs.declared.subscript.Sub.TheVariants.{Triplet}
use Rattle.array_view.specs.Subscripts.{is_past, subscripts_of, triplet_count, steps_from}
use Rattle.array_view.proofs.Counting.{abs_is, abs_is_down, triplet_count-step, triplet_count-past}

pub length-steps_from : (k step : ℤ) (n : ℕ) → length (steps_from k step n) ≡ n
length-steps_from k step zero = refl
length-steps_from k step (suc n) = ap suc (length-steps_from (k +ℤ step) step n)

no_more : (x : ℕ) → int_max (neg_ℤ (pos x)) (pos 0) ≡ pos 0
no_more zero = refl
no_more (suc x) = refl

so_many : (n : ℕ) → int_max (pos n) (pos 0) ≡ pos n
so_many zero = refl
so_many (suc n) = let e : nat_lt 0 (suc n) ≡ true = grind arith in rw e refl

none_up : (z : ℤ) (s : ℕ) → z <ℤ pos (suc s) → int_max (int_div z (pos (suc s))) (pos 0) ≡ pos 0
none_up (pos n) s h = let e : n / suc s ≡ 0 = div-eq_of_lt {n = n} {m = suc s} (omega (arith, ints)) in rw e refl
none_up (negsuc n) s h = no_more (suc n / suc s)

none_down : (z : ℤ) (s : ℕ) → negsuc s <ℤ z → int_max (int_div z (negsuc s)) (pos 0) ≡ pos 0
none_down (pos n) s h = no_more (n / suc s)
none_down (negsuc n) s h = let e : suc n / suc s ≡ 0 = div-eq_of_lt {n = suc n} {m = suc s} (omega (arith, ints)) in rw e refl

some : (x s : ℕ) → x / suc s + 1 ≡ (x + suc s) / suc s
some x s = let p : 0 < suc s = omega arith in rw (add-div_right x p) (omega arith)

up_at : (first last : ℤ) (s : ℕ) (b : Bool) → lt_z last first ≡ b → pos (if b then 0 else unsigned_abs (last -ℤ first) / suc s + 1) ≡ int_max (int_div (last -ℤ first +ℤ pos (suc s)) (pos (suc s))) (pos 0)
up_at first last s true e = sym (none_up (last -ℤ first +ℤ pos (suc s)) s (omega (arith, ints)))
up_at first last s false e =
    let a : last -ℤ first ≡ pos (unsigned_abs (last -ℤ first)) = abs_is (last -ℤ first) (omega (arith, ints)) in
    let z : last -ℤ first +ℤ pos (suc s) ≡ pos (unsigned_abs (last -ℤ first) + suc s) = omega (arith, ints) in
    ap pos (some (unsigned_abs (last -ℤ first)) s) ∙ sym (so_many ((unsigned_abs (last -ℤ first) + suc s) / suc s)) ∙ ap (λ (y : ℤ). int_max (int_div y (pos (suc s))) (pos 0)) (sym z)

down_at : (first last : ℤ) (s : ℕ) (b : Bool) → lt_z first last ≡ b → pos (if b then 0 else unsigned_abs (last -ℤ first) / suc s + 1) ≡ int_max (int_div (last -ℤ first +ℤ negsuc s) (negsuc s)) (pos 0)
down_at first last s true e = sym (none_down (last -ℤ first +ℤ negsuc s) s (omega (arith, ints)))
down_at first last s false e =
    let a : (last -ℤ first) +ℤ pos (unsigned_abs (last -ℤ first)) ≡ pos 0 = abs_is_down (last -ℤ first) (omega (arith, ints)) in
    let z : last -ℤ first +ℤ negsuc s ≡ negsuc (unsigned_abs (last -ℤ first) + s) = omega (arith, ints) in
    let m : suc (unsigned_abs (last -ℤ first) + s) ≡ unsigned_abs (last -ℤ first) + suc s = omega arith in
    ap pos (some (unsigned_abs (last -ℤ first)) s ∙ ap (λ (n : ℕ). n / suc s) (sym m)) ∙ sym (so_many (suc (unsigned_abs (last -ℤ first) + s) / suc s)) ∙ ap (λ (y : ℤ). int_max (int_div y (negsuc s)) (pos 0)) (sym z)

count_is : (first last stride : ℤ) → stride ≢ pos 0 → pos (triplet_count first last stride) ≡ int_max (int_div (last -ℤ first +ℤ stride) stride) (pos 0)
unfolding triplet_count
count_is first last (pos zero) h = absurd (h refl)
count_is first last (pos (suc s)) h = up_at first last s (lt_z last first) refl
count_is first last (negsuc s) h = down_at first last s (lt_z first last) refl

pub counted : (first last stride : ℤ) → stride ≢ pos 0 → pos (length (subscripts_of (Triplet first last stride))) ≡ int_max (int_div (last -ℤ first +ℤ stride) stride) (pos 0)
counted first last stride h = ap pos (length-steps_from first stride (triplet_count first last stride)) ∙ count_is first last stride h

one_more : (first stride : ℤ) (n : ℕ) → (first +ℤ stride) +ℤ pos n *ℤ stride ≡ first +ℤ pos (suc n) *ℤ stride
one_more first stride n = let e : pos (suc n) *ℤ stride ≡ pos n *ℤ stride +ℤ stride = suc_ℤ-*ℤ (pos n) stride in rw e (omega (arith, ints))

none_yet : (first stride : ℤ) → first ≡ first +ℤ pos 0 *ℤ stride
none_yet first stride = let e : pos 0 *ℤ stride ≡ pos 0 = zero-*ℤ stride in rw e (omega (arith, ints))

step_at : (n : ℕ) (k step d : ℤ) (count : ℕ) → n < count → get_or (steps_from k step count) n d ≡ k +ℤ pos n *ℤ step
step_at n k step d zero h = absurd (omega arith)
step_at zero k step d (suc count) h = none_yet k step
step_at (suc n) k step d (suc count) h = step_at n (k +ℤ step) step d count (omega arith) ∙ one_more k step n

pub by_strides : (first last stride d : ℤ) (n : ℕ) → n < length (subscripts_of (Triplet first last stride)) → get_or (subscripts_of (Triplet first last stride)) n d ≡ first +ℤ pos n *ℤ stride
by_strides first last stride d n h = step_at n first stride d (triplet_count first last stride) (rw (length-steps_from first stride (triplet_count first last stride)) at h)

-- where some are left, the first of them isn't past the last, and one less is left from the next on
left_at : (first last stride : ℤ) (n : ℕ) (b : Bool) → stride ≢ pos 0 → is_past last stride first ≡ b → suc n ≡ triplet_count first last stride → (is_past last stride first ≡ false) × (n ≡ triplet_count (first +ℤ stride) last stride)
left_at first last stride n true h p e = absurd (omega (arith, triplet_count-past first last stride p))
left_at first last stride n false h p e = (p, omega (arith, triplet_count-step first last stride h p))

end_at : (first last stride : ℤ) (b : Bool) → stride ≢ pos 0 → is_past last stride first ≡ b → 0 ≡ triplet_count first last stride → is_past last stride first ≡ true
end_at first last stride true h p e = p
end_at first last stride false h p e = absurd (omega (arith, triplet_count-step first last stride h p))

none_past : (n : ℕ) (first last stride : ℤ) → stride ≢ pos 0 → n ≡ triplet_count first last stride → All (λ k. is_past last stride k ≡ false) (steps_from first stride n)
none_past zero first last stride h e = search rules
none_past (suc n) first last stride h e =
    let l = left_at first last stride n (is_past last stride first) h refl e in
    All-cons (λ k. is_past last stride k ≡ false) first (steps_from (first +ℤ stride) stride n) l.0 (none_past n (first +ℤ stride) last stride h l.1)

next_past : (n : ℕ) (first last stride : ℤ) → stride ≢ pos 0 → n ≡ triplet_count first last stride → is_past last stride (first +ℤ pos n *ℤ stride) ≡ true
next_past zero first last stride h e = ap (is_past last stride) (sym (none_yet first stride)) ∙ end_at first last stride (is_past last stride first) h refl e
next_past (suc n) first last stride h e =
    let l = left_at first last stride n (is_past last stride first) h refl e in
    ap (is_past last stride) (sym (one_more first stride n)) ∙ next_past n (first +ℤ stride) last stride h l.1

pub to_the_last : (first last stride : ℤ) → stride ≢ pos 0
    → All (λ k. is_past last stride k ≡ false) (subscripts_of (Triplet first last stride))
    × (is_past last stride (first +ℤ pos (length (subscripts_of (Triplet first last stride))) *ℤ stride) ≡ true)
to_the_last first last stride h = (
  none_past (triplet_count first last stride) first last stride h refl,
  ap (λ (n : ℕ). is_past last stride (first +ℤ pos n *ℤ stride)) (length-steps_from first stride (triplet_count first last stride)) ∙ next_past (triplet_count first last stride) first last stride h refl,
)
