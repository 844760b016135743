-- All steps from one end to another lie in an interval where both ends do.
use Rattle.std.proofs.Common.{◌≡◌, ◌≢◌, ℕ, ℤ, pos, negsuc, suc, zero, ◌*◌, ◌+ℤ◌, ◌-ℤ◌, ◌≤ℤ◌, ◌%◌, ◌/◌, unsigned_abs, int_rem, add-one, Bool, true, false, ◌&&◌, refl, ap, sym, ◌∙◌, arith}
use Rattle.std.proofs.lemmas.Int.{ints}
use Rattle.std.specs.Int.Signed.{lt_z}
use Rattle.std.specs.List.{list_all}
use Rattle.std.proofs.lemmas.Nat.{div-add-mod'}
use Rattle.array_view.proofs.Counting.{abs_is, abs_is_down, triplet_count-past}
use Rattle.array_view.specs.declared.axes.AxisDim.{AxisDim}
use Rattle.array_view.specs.Subscripts.{is_in_axis, is_past, triplet_count, steps_from}

-- what lies between two numbers of the dimension lies in it
between : (d : AxisDim) (o : Bool) (a b c : ℤ) → a ≤ℤ b → b ≤ℤ c → (is_in_axis d o a && (is_in_axis d o b && is_in_axis d o c)) ≡ (is_in_axis d o a && is_in_axis d o c)
between d true a b c h k = grind (arith, ints)
between d false a b c h k = grind (arith, ints)

swapped : (a b : Bool) → (a && b) ≡ (b && a)
swapped true true = refl
swapped true false = refl
swapped false true = refl
swapped false false = refl

between_down : (d : AxisDim) (o : Bool) (a b c : ℤ) → b ≤ℤ a → c ≤ℤ b → (is_in_axis d o a && (is_in_axis d o b && is_in_axis d o c)) ≡ (is_in_axis d o a && is_in_axis d o c)
between_down d true a b c h k = grind (arith, ints)
between_down d false a b c h k = grind (arith, ints)

alone : (b : Bool) → (b && true) ≡ b
alone true = refl
alone false = refl

twice : (b : Bool) → (b && b) ≡ b
twice true = refl
twice false = refl

pub all_up : (d : AxisDim) (o : Bool) (n s : ℕ) (k last : ℤ) → last ≡ k +ℤ pos (n * s) → list_all (is_in_axis d o) (steps_from k (pos s) (suc n)) ≡ (is_in_axis d o k && is_in_axis d o last)
all_up d o zero s k last e = let f : last ≡ k = omega (arith, ints) in rw (f, alone (is_in_axis d o k)) (sym (twice (is_in_axis d o k)))
all_up d o (suc n) s k last e = rw (all_up d o n s (k +ℤ pos s) last (omega (arith, ints))) (between d o k (k +ℤ pos s) last (omega (arith, ints)) (omega (arith, ints)))

pub all_down : (d : AxisDim) (o : Bool) (n s : ℕ) (k last : ℤ) → last +ℤ pos (n * suc s) ≡ k → list_all (is_in_axis d o) (steps_from k (negsuc s) (suc n)) ≡ (is_in_axis d o k && is_in_axis d o last)
all_down d o zero s k last e = let f : last ≡ k = omega (arith, ints) in rw (f, alone (is_in_axis d o k)) (sym (twice (is_in_axis d o k)))
all_down d o (suc n) s k last e = rw (all_down d o n s (k +ℤ negsuc s) last (omega (arith, ints))) (between_down d o k (k +ℤ negsuc s) last (omega (arith, ints)) (omega (arith, ints)))

-- the test of the upper bound, where the lower one holds
pub in_axis_closed : (d : AxisDim) (o : Bool) (k a b : ℤ) → o ≡ false → d.lower ≤ℤ k → a ≡ k → b ≡ d.lower +ℤ d.extent → lt_z a b ≡ is_in_axis d o k
in_axis_closed d true k a b h l e f = absurd (cc)
in_axis_closed d false k a b h l e f = rw (e, f) (grind (arith, ints))

up_to_last : (d : AxisDim) (o : Bool) (first last final : ℤ) (s : ℕ) → lt_z last first ≡ false → final ≡ last -ℤ int_rem (last -ℤ first) (pos (suc s)) → list_all (is_in_axis d o) (steps_from first (pos (suc s)) (triplet_count first last (pos (suc s)))) ≡ (is_in_axis d o first && is_in_axis d o final)
unfolding triplet_count
up_to_last d o first last final s h e =
    let x : ℕ = unsigned_abs (last -ℤ first) in
    let a : last -ℤ first ≡ pos (unsigned_abs (last -ℤ first)) = abs_is (last -ℤ first) (omega (arith, ints)) in
    let r : int_rem (last -ℤ first) (pos (suc s)) ≡ pos (unsigned_abs (last -ℤ first) % suc s) = ap (λ z. int_rem z (pos (suc s))) a in
    rw (h, add-one) (all_up d o (unsigned_abs (last -ℤ first) / suc s) (suc s) first final (omega (arith, ints, div-add-mod' (unsigned_abs (last -ℤ first)) (suc s))))

rem_down : (z : ℤ) (s : ℕ) → z ≤ℤ pos 0 → int_rem z (negsuc s) +ℤ pos (unsigned_abs z % suc s) ≡ pos 0
rem_down (pos zero) s h = omega (arith, ints)
rem_down (pos (suc n)) s h = absurd (omega (arith, ints))
rem_down (negsuc n) s h = omega (arith, ints)

down_to_last : (d : AxisDim) (o : Bool) (first last final : ℤ) (s : ℕ) → lt_z first last ≡ false → final ≡ last -ℤ int_rem (last -ℤ first) (negsuc s) → list_all (is_in_axis d o) (steps_from first (negsuc s) (triplet_count first last (negsuc s))) ≡ (is_in_axis d o first && is_in_axis d o final)
unfolding triplet_count
down_to_last d o first last final s h e =
    let a : (last -ℤ first) +ℤ pos (unsigned_abs (last -ℤ first)) ≡ pos 0 = abs_is_down (last -ℤ first) (omega (arith, ints)) in
    let r : int_rem (last -ℤ first) (negsuc s) +ℤ pos (unsigned_abs (last -ℤ first) % suc s) ≡ pos 0 = rem_down (last -ℤ first) s (omega (arith, ints)) in
    rw (h, add-one) (all_down d o (unsigned_abs (last -ℤ first) / suc s) s first final (omega (arith, ints, div-add-mod' (unsigned_abs (last -ℤ first)) (suc s))))

-- the first subscript and the last that occurs tell of all
pub ends_tell : (d : AxisDim) (o : Bool) (first last stride final : ℤ) → stride ≢ pos 0 → is_past last stride first ≡ false → final ≡ last -ℤ int_rem (last -ℤ first) stride → list_all (is_in_axis d o) (steps_from first stride (triplet_count first last stride)) ≡ (is_in_axis d o first && is_in_axis d o final)
ends_tell d o first last (pos zero) final n h e = absurd (n refl)
ends_tell d o first last (pos (suc s)) final n h e = up_to_last d o first last final s h e
ends_tell d o first last (negsuc s) final n h e = down_to_last d o first last final s h e

-- no subscript occurs
pub none_tells : (d : AxisDim) (o : Bool) (first last stride : ℤ) → is_past last stride first ≡ true → true ≡ list_all (is_in_axis d o) (steps_from first stride (triplet_count first last stride))
none_tells d o first last stride h = rw (triplet_count-past first last stride h) refl

-- what two tests of the ends say, at numbers that are written otherwise
pub tell_both : (d : AxisDim) (o : Bool) (first final f0 l0 : ℤ) (r all : Bool) → all ≡ (is_in_axis d o first && is_in_axis d o final) → f0 ≡ first → l0 ≡ final → true ≡ is_in_axis d o f0 → r ≡ is_in_axis d o l0 → r ≡ all
tell_both d o first final f0 l0 r all e a b t h = h ∙ ap (is_in_axis d o) b ∙ sym (e ∙ ap (λ (x : Bool). x && is_in_axis d o final) (sym (t ∙ ap (is_in_axis d o) a)))

pub tell_none : (d : AxisDim) (o : Bool) (first final f0 : ℤ) (r all : Bool) → all ≡ (is_in_axis d o first && is_in_axis d o final) → f0 ≡ first → false ≡ is_in_axis d o f0 → r ≡ false → r ≡ all
tell_none d o first final f0 r all e a t h = h ∙ sym (e ∙ ap (λ (x : Bool). x && is_in_axis d o final) (sym (t ∙ ap (is_in_axis d o) a)))
