-- The units of a program of the first form, one by one, where no limit is met.
use Rattle.std.specs.Prelude.{ℕ, zero, suc, pos, ◌+◌, ◌≤◌, List, [], ◌∷◌, ◌++◌, Option, Some, None, nat_le, if◌then◌else◌}
use Rattle.std.specs.List.{flat_map}
use Rattle.behaviour.specs.Behaviour.{Ending, Running, Stopped, Limited, Frames, Objects, Seen}
use Rattle.jf_base.specs.declared.place.Limits.{Limits}
use Rattle.first_form.specs.declared.program.FirstProgram.{FirstProgram}
use Rattle.first_form.specs.declared.program.PutcharArgument.{PutcharArgument}
use Rattle.first_meaning.specs.Charges.{main_tokens, function_tokens, frame, charge}
use Rattle.first_meaning.specs.Joint.{byte_of}

-- a unit that shows nothing is None, one that gives the byte b is Some b
-- a putchar: its call, and the byte
abbrev pub put_units : ℕ → PutcharArgument → List (Option ℕ)
put_units c a = None ∷ Some (byte_of c a) ∷ []

-- a call of the function with c: the call, its parameter made, its statements, its parameter ended
abbrev pub call_units : List PutcharArgument → ℕ → List (Option ℕ)
call_units puts c = None ∷ None ∷ (flat_map (put_units c) puts ++ None ∷ [])

-- all units but the end
abbrev pub units_of : FirstProgram → List (Option ℕ)
units_of p = flat_map (call_units p.puts) p.calls

abbrev pub after_unit : Option ℕ → List ℕ → List ℕ
after_unit None output = output
after_unit (Some b) output = output ++ b ∷ []

abbrev pub seen_so : List ℕ → Ending → Seen
seen_so output ending = record { output = output; taken = 0; ending = ending }

-- what is seen after n of these units, begun with this output; behind them comes this end, which is a unit too
abbrev pub seen_until : Ending → List ℕ → List (Option ℕ) → ℕ → Seen
seen_until end output us zero = seen_so output Running
seen_until end output [] (suc n) = seen_so output end
seen_until end output (u ∷ us) (suc n) = seen_until end (after_unit u output) us n

-- what is seen of units behind which the program ends by itself, begun with this output
abbrev pub seen_from : List ℕ → List (Option ℕ) → ℕ → Seen
seen_from output us n = seen_until (Stopped (pos 0)) output us n

abbrev pub seen_of_units : List (Option ℕ) → ℕ → Seen
seen_of_units us n = seen_from [] us n

-- the frames of the main program and of the function, and the function's parameter, pass no limit
pub record FitsIn (p : FirstProgram) (limits : Limits) : Type 0 where
  pub frames : frame (main_tokens p) + frame (function_tokens p) ≤ limits.frames
  pub objects : charge 4 ≤ limits.objects

-- the units behind which the program ends, and its end
pub record Course : Type 0 where
  pub units : List (Option ℕ)
  pub end : Ending

-- of a main program with these calls: the first call's frame may pass the limit, which is met in the call's unit; else its parameter may, which is met in the unit that makes it
abbrev pub course_of_calls : FirstProgram → Limits → List ℕ → Course
course_of_calls p l [] = record { units = []; end = Stopped (pos 0) }
course_of_calls p l (c ∷ cs) =
    if nat_le (frame (main_tokens p) + frame (function_tokens p)) l.frames
    then (if nat_le (charge 4) l.objects then record { units = flat_map (call_units p.puts) (c ∷ cs); end = Stopped (pos 0) } else record { units = None ∷ []; end = Limited Objects })
    else record { units = []; end = Limited Frames }

-- under any limits: the main program's own frame may pass the limit, which is met in the first unit
abbrev pub course_of : FirstProgram → Limits → Course
course_of p l = if nat_le (frame (main_tokens p)) l.frames then course_of_calls p l p.calls else record { units = []; end = Limited Frames }
