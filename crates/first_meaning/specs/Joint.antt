-- What a program of the first form means: the Fortran main program calls the C function with each number in order, and the function puts its characters.
use Rattle.std.specs.Prelude.{ℕ, ◌+◌, ◌-◌, ◌%◌, List, [], ◌∷◌, Option, Some, None, nat_le, slice_index, if◌then◌else◌}
use Rattle.behaviour.specs.Behaviour.{Objects, Behaviour}
use Rattle.jf_base.specs.declared.place.Limits.{Limits}
use Rattle.first_form.specs.declared.program.FirstProgram.{FirstProgram}
use Rattle.first_form.specs.declared.program.PutcharArgument.{PutcharArgument}
use Rattle.first_form.specs.declared.program.PutcharArgument.TheVariants.{Parameter, Number}
use Rattle.work.specs.Work.{Returned, Over, Procedure, Deed, Counted, GivesByte, EndsRun, Limited, Rules}
use Rattle.work.specs.Doing.{Doing, give, ◌>>◌, act, call}
use Rattle.work.specs.Run.{behaviour_of}
use Rattle.first_meaning.specs.Charges.{main_tokens, function_tokens, frame, charge}

-- the acts: an object of so many bytes is made and ended, putchar is called, and a byte is given
pub data Act : Type 0 where
  Make : (bytes : ℕ) → Act
  Finish : (bytes : ℕ) → Act
  Putchar : Act
  Give : (byte : ℕ) → Act

-- the bytes of frames and of objects that are charged
pub record Charged : Type 0 where
  pub frames : ℕ
  pub objects : ℕ

-- no act can break a rule here, so none has a place
abbrev pub Step : Type 0
Step = Doing Act ℕ (Unit {0}) ℕ

-- each act is a unit; making an object ends the run where its charge would pass the limit
abbrev pub deed : Limits → Act → Charged → Deed ℕ Charged (Unit {0})
deed l (Make s) m = if nat_le (m.objects + charge s) l.objects then Counted 0 (record m { objects = m.objects + charge s }) else EndsRun (Limited Objects)
deed l (Finish s) m = Counted 0 (record m { objects = m.objects - charge s })
deed l Putchar m = Counted 0 m
deed l (Give b) m = GivesByte b 0 m

abbrev pub enter : Limits → ℕ → Charged → Option Charged
enter l bytes m = if nat_le (m.frames + bytes) l.frames then Some (record m { frames = m.frames + bytes }) else None

abbrev pub leave : ℕ → Charged → Charged
leave bytes m = record m { frames = m.frames - bytes }

abbrev pub rules_of : Limits → Rules Act ℕ Charged (Unit {0})
rules_of l = record { deed = λ place a m. deed l a m; enter = enter l; leave = leave }

abbrev pub do_act : Act → Step
do_act a = act tt a

-- what a putchar is given in a call with c
abbrev pub value_of : ℕ → PutcharArgument → ℕ
value_of c Parameter = c
value_of c (Number n) = n

-- ISO/IEC 9899:2011, 7.21.7.8 and 7.21.7.3: putchar writes its argument converted to an unsigned char
abbrev pub byte_of : ℕ → PutcharArgument → ℕ
byte_of c a = value_of c a % 256

-- the statements of the function: each calls putchar, which gives its byte
abbrev pub put_all : ℕ → List PutcharArgument → Step
put_all c [] = give 0
put_all c (a ∷ rest) = do
  do_act Putchar
  do_act (Give (byte_of c a))
  put_all c rest

-- the function called with c: its parameter, an int of 4 bytes, is made, and ends at the return
abbrev pub body : List PutcharArgument → ℕ → Step
body puts c = do
  do_act (Make 4)
  put_all c puts
  do_act (Finish 4)

abbrev pub function : FirstProgram → Procedure Act ℕ (Unit {0})
function p = record { frame = frame (function_tokens p); work = λ arguments. body p.puts (slice_index arguments 0) (λ _. Over (Returned [])) }

-- the statements of the main program: each calls the function, which is procedure 0
abbrev pub call_all : List ℕ → Step
call_all [] = give 0
call_all (c ∷ rest) = do
  call 0 (c ∷ [])
  call_all rest

abbrev pub main : FirstProgram → Procedure Act ℕ (Unit {0})
main p = record { frame = frame (main_tokens p); work = λ arguments. call_all p.calls (λ _. Over (Returned [])) }

-- what is seen of the program at each number of units, under these limits and with these bytes of input
abbrev pub joint : FirstProgram → Limits → List ℕ → Behaviour
joint p limits input = behaviour_of (rules_of limits) (λ _. function p) (main p) (record { frames = 0; objects = 0 }) input
