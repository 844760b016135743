-- What follows from the units.
use Rattle.std.proofs.Common.{ℕ, zero, suc, List, [], ◌∷◌, ◌+◌, ◌*◌, ◌≡◌, ◌≤◌, ◌<◌, refl, sym, ◌∙◌, ap, arith, length, length-append}
use Rattle.std.specs.Prelude.{◌≢◌, Option, None, pos}
use Rattle.std.specs.List.{flat_map}
use Rattle.behaviour.specs.Behaviour.{Ending, Running, Stopped, Limited, Limit}
use Rattle.jf_base.specs.declared.place.Limits.{Limits}
use Rattle.jf_base.specs.Limits.{AreLimits}
use Rattle.first_form.specs.declared.program.FirstProgram.{FirstProgram}
use Rattle.first_form.specs.declared.program.PutcharArgument.{PutcharArgument}
use Rattle.first_meaning.specs.Joint.{joint}
use Rattle.first_meaning.specs.Units.{put_units, call_units, units_of, after_unit, seen_until, FitsIn, course_of}
use Rattle.first_meaning.proofs.Course.{units_seen, course_seen}

pub fits : (p : FirstProgram) (l : Limits) → AreLimits l → 68544 ≤ l.frames → length p.calls ≤ 100 → length p.puts ≤ 100 → FitsIn p l
fits p l are frames calls puts = record {
  frames = omega (arith, frames, calls, puts);
  objects = let o = are.objects.least in omega (arith, o);
}

-- within the units the run goes on
pub runs : (e : Ending) (us : List (Option ℕ)) (output : List ℕ) (n : ℕ) → n ≤ length us → (seen_until e output us n).ending ≡ Running
runs e us output zero le = refl
runs e [] output (suc n) le = absurd (omega arith)
runs e (u ∷ us) output (suc n) le = runs e us (after_unit u output) n (omega arith)

-- behind them it has ended
pub is_over : (e : Ending) (us : List (Option ℕ)) (output : List ℕ) (n : ℕ) → length us < n → (seen_until e output us n).ending ≡ e
is_over e us output zero lt = absurd (omega arith)
is_over e [] output (suc n) lt = refl
is_over e (u ∷ us) output (suc n) lt = is_over e us (after_unit u output) n (omega arith)

untaken : (e : Ending) (us : List (Option ℕ)) (output : List ℕ) (n : ℕ) → (seen_until e output us n).taken ≡ 0
untaken e us output zero = refl
untaken e [] output (suc n) = refl
untaken e (u ∷ us) output (suc n) = untaken e us (after_unit u output) n

pub takes_none : (p : FirstProgram) (l : Limits) (input : List ℕ) (n : ℕ) → (joint p l input n).taken ≡ 0
takes_none p l input n = ap (λ s. s.taken) (course_seen p l input n) ∙ untaken (course_of p l).end (course_of p l).units [] n

unlimited : (k : Limit) (us : List (Option ℕ)) (output : List ℕ) (n : ℕ) → (seen_until (Stopped (pos 0)) output us n).ending ≢ Limited k
unlimited k us output zero e = absurd (cc)
unlimited k [] output (suc n) e = absurd (cc)
unlimited k (u ∷ us) output (suc n) e = unlimited k us (after_unit u output) n e

pub no_limit : (p : FirstProgram) (l : Limits) → FitsIn p l → (input : List ℕ) (n : ℕ) (k : Limit) → (joint p l input n).ending ≢ Limited k
no_limit p l h input n k e = unlimited k (units_of p) [] n (sym (ap (λ s. s.ending) (units_seen p l input h n)) ∙ e)

puts_counted : (c : ℕ) (puts : List PutcharArgument) → length (flat_map (put_units c) puts) ≡ 2 * length puts
puts_counted c [] = refl
puts_counted c (a ∷ puts) = omega (arith, puts_counted c puts)

calls_counted : (puts : List PutcharArgument) (calls : List ℕ) → length (flat_map (call_units puts) calls) ≡ length calls * (3 + 2 * length puts)
calls_counted puts [] = omega arith
calls_counted puts (c ∷ calls) =
    let here = length-append (call_units puts c) (flat_map (call_units puts) calls) in
    let inside = length-append (flat_map (put_units c) puts) (None ∷ []) in
    let one = puts_counted c puts in
    let rest = calls_counted puts calls in
    grind (arith, here, inside, one, rest)

pub counted : (p : FirstProgram) → length (units_of p) ≡ length p.calls * (3 + 2 * length p.puts)
counted p = calls_counted p.puts p.calls

pub six : (p : FirstProgram) (l : Limits) → FitsIn p l → length p.calls ≡ 1 → length p.puts ≡ 1 → (input : List ℕ)
    → ((joint p l input 5).ending ≡ Running) × ((joint p l input 6).ending ≡ Stopped (pos 0))
six p l h calls puts input =
    let five : length (units_of p) ≡ 5 = counted p ∙ ap (λ x. x * (3 + 2 * length p.puts)) calls ∙ ap (λ x. 1 * (3 + 2 * x)) puts in (
      ap (λ s. s.ending) (units_seen p l input h 5) ∙ runs (Stopped (pos 0)) (units_of p) [] 5 (omega (arith, five)),
      ap (λ s. s.ending) (units_seen p l input h 6) ∙ is_over (Stopped (pos 0)) (units_of p) [] 6 (omega (arith, five)),
    )
