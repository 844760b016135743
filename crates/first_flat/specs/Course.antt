-- The units of a program's structured code, one by one. A putchar is the byte alone, and the parameter is a value, which needs no unit to be made and ended.
use Rattle.std.specs.Prelude.{ℕ, pos, ◌+◌, List, [], ◌∷◌, Option, Some, None, map, nat_le, if◌then◌else◌}
use Rattle.std.specs.List.{flat_map}
use Rattle.behaviour.specs.Behaviour.{Stopped, Limited, Frames}
use Rattle.jf_base.specs.declared.place.Limits.{Limits}
use Rattle.first_form.specs.declared.program.FirstProgram.{FirstProgram}
use Rattle.first_form.specs.declared.program.PutcharArgument.{PutcharArgument}
use Rattle.first_meaning.specs.Charges.{main_tokens, function_tokens, frame}
use Rattle.first_meaning.specs.Joint.{byte_of}
use Rattle.first_meaning.specs.Units.{Course}

-- a putchar in a call with c: the byte
abbrev pub given : ℕ → PutcharArgument → Option ℕ
given c a = Some (byte_of c a)

-- a call of the function with c: the call, and its bytes
abbrev pub calling : List PutcharArgument → ℕ → List (Option ℕ)
calling puts c = None ∷ map (given c) puts

-- of the main program's calls: the first call's frame may pass the limit, which is met in the call's unit
abbrev pub course_behind : FirstProgram → Limits → List ℕ → Course
course_behind p l [] = record { units = []; end = Stopped (pos 0) }
course_behind p l (c ∷ cs) =
    if nat_le (frame (main_tokens p) + frame (function_tokens p)) l.frames
    then record { units = flat_map (calling p.puts) (c ∷ cs); end = Stopped (pos 0) }
    else record { units = []; end = Limited Frames }

-- one unit in front
abbrev pub begun : Course → Course
begun c = record { units = None ∷ c.units; end = c.end }

-- the whole: the main program is entered, in a unit that is met by the limit where its own frame passes it
abbrev pub flat_course : FirstProgram → Limits → Course
flat_course p l = if nat_le (frame (main_tokens p)) l.frames then begun (course_behind p l p.calls) else record { units = []; end = Limited Frames }
