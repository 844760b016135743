-- Structured code sheds units that show nothing, and shows what the joint meaning shows.
use Rattle.std.proofs.Common.{ℕ, zero, suc, pos, List, [], ◌∷◌, ◌++◌, ◌+◌, ◌≡◌, ◌≤◌, ◌⊎◌, refl, sym, ◌∙◌, append_assoc, subst, arith, inl}
use Rattle.std.specs.Prelude.{Option, None, Bool, true, false, map, nat_le, if◌then◌else◌}
use Rattle.std.specs.List.{flat_map}
use Rattle.std.proofs.lemmas.Bool.{le-leb}
use Rattle.behaviour.specs.Behaviour.{Ending, Stopped, Limited, Frames, Objects, Wrong, Behaviour}
use Rattle.behaviour.specs.Follows.{Follows}
use Rattle.jf_base.specs.declared.place.Limits.{Limits}
use Rattle.jf_base.specs.Limits.{AreLimits}
use Rattle.first_form.specs.declared.program.FirstProgram.{FirstProgram}
use Rattle.first_form.specs.declared.program.PutcharArgument.{PutcharArgument}
use Rattle.first_meaning.specs.Charges.{main_tokens, function_tokens, frame, charge}
use Rattle.first_meaning.specs.Joint.{joint}
use Rattle.first_meaning.specs.Units.{put_units, call_units, after_unit, seen_until, Course, course_of_calls, course_of}
use Rattle.first_meaning.proofs.Course.{course_seen as joint_seen}
use Rattle.flat_ir.specs.Placement.{Placement}
use Rattle.flat_ir.specs.Flat.{flat}
use Rattle.first_flat.specs.Lowered.{lowered}
use Rattle.first_flat.specs.Course.{given, calling, course_behind, begun, flat_course}
use Rattle.first_flat.proofs.Course.{course_seen}

-- the first units are the second without some that show nothing
data Sheds : List (Option ℕ) → List (Option ℕ) → Type 0 where
  Empty : Sheds [] []
  Keeps : (u : Option ℕ) (xs ys : List (Option ℕ)) → Sheds xs ys → Sheds (u ∷ xs) (u ∷ ys)
  Drops : (xs ys : List (Option ℕ)) → Sheds xs ys → Sheds xs (None ∷ ys)

shown : (e : Ending) (xs ys : List (Option ℕ)) → Sheds xs ys → (output : List ℕ) (n : ℕ) → (m : ℕ) × (m ≤ n) × (seen_until e output xs m ≡ seen_until e output ys n)
shown e _ _ s output zero = (0, omega arith, refl)
shown e _ _ Empty output (suc n) = (suc n, omega arith, refl)
shown e _ _ (Keeps u xs ys s) output (suc n) = let r = shown e xs ys s (after_unit u output) n in (suc r.0, omega (arith, r.1), r.2)
shown e _ _ (Drops xs ys s) output (suc n) = let r = shown e xs ys s output n in (r.0, omega (arith, r.1), r.2)

showing : (e : Ending) (xs ys : List (Option ℕ)) → Sheds xs ys → (output : List ℕ) (m : ℕ) → (n : ℕ) × (seen_until e output xs m ≡ seen_until e output ys n)
showing e _ _ s output zero = (0, refl)
showing e _ _ Empty output (suc m) = (suc m, refl)
showing e _ _ (Keeps u xs ys s) output (suc m) = let r = showing e xs ys s (after_unit u output) m in (suc r.0, r.1)
showing e _ _ (Drops xs ys s) output (suc m) = let r = showing e xs ys s output (suc m) in (suc r.0, r.1)

puts_shed : (c : ℕ) (puts : List PutcharArgument) (xs ys : List (Option ℕ)) → Sheds xs ys → Sheds (map (given c) puts ++ xs) (flat_map (put_units c) puts ++ ys)
puts_shed c [] xs ys s = s
puts_shed c (a ∷ puts) xs ys s = Drops _ _ (Keeps _ _ _ (puts_shed c puts xs ys s))

calls_shed : (puts : List PutcharArgument) (calls : List ℕ) → Sheds (flat_map (calling puts) calls) (flat_map (call_units puts) calls)
calls_shed puts [] = Empty
calls_shed puts (c ∷ calls) =
    let rest = flat_map (call_units puts) calls in
    let behind = subst (λ us. Sheds (map (given c) puts ++ flat_map (calling puts) calls) us) (sym (append_assoc (flat_map (put_units c) puts) (None ∷ []) rest))
    (puts_shed c puts _ (None ∷ rest) (Drops _ _ (calls_shed puts calls))) in
    Keeps None _ _ (Drops _ _ behind)

-- a run that is begun and then does what is left of the units follows a run that does them all
abbrev Seen : Behaviour → Course → Type 0
Seen r c = (n : ℕ) → r n ≡ seen_until c.end [] c.units n

begun_follows : (a b : Behaviour) (e : Ending) (xs ys : List (Option ℕ)) → Sheds xs ys → Seen a (record { units = None ∷ xs; end = e }) → Seen b (record { units = ys; end = e }) → Follows 1 a b
begun_follows a b e xs ys s seen seen' = record {
  forth = λ n right. (let r = shown e xs ys s [] n in (suc r.0, omega (arith, r.1), seen (suc r.0) ∙ (r.2 ∙ sym (seen' n))));
  back = back;
}
  where
    back : (m : ℕ) → (n : ℕ) × ((a m ≡ b n) ⊎ ((b n).ending ≡ Wrong))
    back zero = (0, inl (seen 0 ∙ sym (seen' 0)))
    back (suc m) = let r = showing e xs ys s [] m in (r.0, inl (seen (suc m) ∙ (r.1 ∙ sym (seen' r.0))))

same_follows : (a b : Behaviour) (c : Course) → Seen a c → Seen b c → Follows 1 a b
same_follows a b c seen seen' = record {
  forth = λ n right. (n, omega arith, seen n ∙ sym (seen' n));
  back = λ m. (m, inl (seen m ∙ sym (seen' m)));
}

module _ (p : FirstProgram) (l : Limits) (fits : nat_le (charge 4) l.objects ≡ true) (a b : Behaviour) where
  of_calls : (cs : List ℕ) → Seen a (begun (course_behind p l cs)) → Seen b (course_of_calls p l cs) → Follows 1 a b
  of_calls [] = begun_follows a b (Stopped (pos 0)) [] [] Empty
  of_calls (c ∷ cs) = go (nat_le (frame (main_tokens p) + frame (function_tokens p)) l.frames) (nat_le (charge 4) l.objects) fits
    where
      go : (t u : Bool) → u ≡ true
          → Seen a (begun (if t then record { units = flat_map (calling p.puts) (c ∷ cs); end = Stopped (pos 0) } else record { units = []; end = Limited Frames }))
          → Seen b (if t then (if u then record { units = flat_map (call_units p.puts) (c ∷ cs); end = Stopped (pos 0) } else record { units = None ∷ []; end = Limited Objects }) else record { units = []; end = Limited Frames })
          → Follows 1 a b
      go true true _ = begun_follows a b (Stopped (pos 0)) _ _ (calls_shed p.puts (c ∷ cs))
      go true false q = absurd (cc)
      go false u _ = begun_follows a b (Limited Frames) [] [] Empty

  of_courses : Seen a (flat_course p l) → Seen b (course_of p l) → Follows 1 a b
  of_courses = go (nat_le (frame (main_tokens p)) l.frames)
    where
      go : (t : Bool) → Seen a (if t then begun (course_behind p l p.calls) else record { units = []; end = Limited Frames })
          → Seen b (if t then course_of_calls p l p.calls else record { units = []; end = Limited Frames }) → Follows 1 a b
      go true = of_calls p.calls
      go false = same_follows a b (record { units = []; end = Limited Frames })

-- an object of four bytes passes no limit that is in range
pub followed : (p : FirstProgram) (g : Placement) → AreLimits g.limits → (input : List ℕ) → Follows 1 (flat (lowered p) g input) (joint p g.limits input)
followed p g are input =
    let least = are.objects.least in
    of_courses p g.limits (le-leb (charge 4) g.limits.objects (omega (arith, least))) (flat (lowered p) g input) (joint p g.limits input) (course_seen p g input) (joint_seen p g.limits input)
