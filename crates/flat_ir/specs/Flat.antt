-- What a program does: what is seen of it by n units. A unit is a turn of a loop where it goes back, a call, a byte asked for or given, and the end.
use Rattle.std.specs.Prelude.{ℕ, zero, suc, ◌+◌, ◌-◌, ◌%◌, ◌^◌, ◌==◌, List, [], ◌∷◌, ◌++◌, length, replicate, Option, Some, None, cond, nat_le, if◌then◌else◌, slice_get, slice_set, slice_index}
use Rattle.std.specs.Int.{w32, cast_signed}
use Rattle.behaviour.specs.Behaviour as B
use Rattle.behaviour.specs.Behaviour.{Ending, Running, Stopped, Limited, Wrong, Seen, Behaviour}
use Rattle.work.specs.Units.{unit, ended, with_value}
use Rattle.jf_base.specs.Numbers.{size_of_width}
use Rattle.flat_ir.specs.declared.program.Exceeded.{Exceeded}
use Rattle.flat_ir.specs.declared.program.Exceeded.TheVariants as X
use Rattle.flat_ir.specs.declared.program.FlatProgram.{FlatProgram}
use Rattle.flat_ir.specs.Bytes.{Bytes, loaded, stored}
use Rattle.flat_ir.specs.Operations.{result_of, extended}
use Rattle.flat_ir.specs.Placement.{Placement, Places, places, proc_at, first_bytes, entry_arguments}
use Rattle.flat_ir.specs.Tree.{Expr, Num, Val, Bin, Load, ProcAt, ImageAt, Stmt, Skip, Seq, Set, Store, Call, CallAt, If, Loop, Break, Return, Take, Give, Stop, Limit, Procedure}
use Rattle.flat_ir.specs.View.{procs_of}

-- what outlives a procedure: the memory, the bytes of frames that are charged, the input and the output
pub record World : Type 0 where
  pub memory : Bytes
  pub frames : ℕ
  pub unread : List ℕ
  pub taken : ℕ
  pub output : List ℕ

abbrev pub seen : World → Ending → Seen
seen w e = record { output = w.output; taken = w.taken; ending = e }

abbrev pub with_memory : World → Bytes → World
with_memory w m = record w { memory = m }

abbrev pub with_frames : World → ℕ → World
with_frames w n = record w { frames = n }

-- a byte of output
abbrev pub gave : World → ℕ → World
gave w b = record w { output = w.output ++ b ∷ [] }

-- a byte of input, where there is one
abbrev pub took : List ℕ → World → World
took [] w = w
took (b ∷ bs) w = record w { unread = bs; taken = w.taken + 1 }

-- its value, or all ones where there is none
abbrev pub first_byte : List ℕ → ℕ
first_byte [] = 2 ^ 64 - 1
first_byte (b ∷ bs) = b

-- what follows, from a procedure's values and the world; behind a return, from its results; behind a call; and behind the loop of each number
abbrev pub Next : Type 0
Next = List ℕ → World → Behaviour

abbrev pub Back : Type 0
Back = List ℕ → World → Behaviour

abbrev pub Calls : Type 0
Calls = (p : ℕ) → List ℕ → World → Back → Behaviour

abbrev pub Leaves : Type 0
Leaves = ℕ → Next

abbrev pub over : World → Ending → Behaviour
over w e = ended (seen w Running) (seen w e)

abbrev pub wrong : World → Behaviour
wrong w = over w Wrong

abbrev pub halted : World → Behaviour
halted w n = seen w Running

abbrev pub on : World → Behaviour → Behaviour
on w next = unit (seen w Running) next

-- the first at 0, and else the second
abbrev pub at_zero : ℕ → Behaviour → Behaviour → Behaviour
at_zero zero a b = a
at_zero (suc n) a b = b

-- a number, and what follows from it; a load may be wrong
abbrev pub eval : Expr → Places → List ℕ → World → (ℕ → Behaviour) → Behaviour
eval (Num n) g env w k = k n
eval (Val x) g env w k = k (slice_index env x)
eval (Bin o a b) g env w k = eval a g env w (λ x. eval b g env w (λ y. k (result_of o x y)))
eval (Load s is_signed a) g env w k =
    eval a g env w (λ i. with_value (loaded (size_of_width s) g.areas w.memory i) (wrong w) (λ v. k (extended s is_signed v)))
eval (ProcAt p) g env w k = k (g.procs p)
eval (ImageAt n) g env w k = k (g.image + n)

-- numbers one after the other
abbrev pub evals : List Expr → Places → List ℕ → World → (List ℕ → Behaviour) → Behaviour
evals [] g env w k = k []
evals (e ∷ es) g env w k = eval e g env w (λ v. evals es g env w (λ vs. k (v ∷ vs)))

-- results go into values, where there are as many
abbrev pub received : List ℕ → List ℕ → List ℕ → Option (List ℕ)
received [] [] env = Some env
received [] (r ∷ rs) env = None
received (x ∷ xs) [] env = None
received (x ∷ xs) (r ∷ rs) env = received xs rs (slice_set env x r)

abbrev pub receiving : List ℕ → List ℕ → Next → Back
receiving xs env next rs w = with_value (received xs rs env) (wrong w) (λ env. next env w)

-- turns of a loop that has just gone back and goes back at most d times more; going back is a unit
abbrev pub turns : ℕ → (Next → Next) → Next
turns zero body env w = halted w
turns (suc d) body env w = on w (body (turns d body) env w)

-- behind each loop, with one more within
abbrev pub inside : Next → Leaves → Leaves
inside next leaves zero = next
inside next leaves (suc k) = leaves k

abbrev pub stop_code : ℕ → Ending
stop_code v = Stopped (cast_signed w32 (v % 2 ^ 32))

abbrev pub limit_of : Exceeded → B.Limit
limit_of X.Frames = B.Frames
limit_of X.Objects = B.Objects

-- a statement, where a loop goes back at most d times
abbrev pub meaning : Stmt → Places → Calls → ℕ → Back → Leaves → Next → Next
meaning Skip g calls d back leaves next env w = next env w
meaning (Seq a b) g calls d back leaves next env w = meaning a g calls d back leaves (meaning b g calls d back leaves next) env w
meaning (Set x e) g calls d back leaves next env w = eval e g env w (λ v. next (slice_set env x v) w)
meaning (Store s a e) g calls d back leaves next env w =
    eval a g env w (λ i. eval e g env w (λ v. with_value (stored (size_of_width s) g.areas w.memory i v) (wrong w) (λ m. next env (with_memory w m))))
meaning (Call xs p es) g calls d back leaves next env w = evals es g env w (λ vs. calls p vs w (receiving xs env next))
meaning (CallAt xs a es) g calls d back leaves next env w =
    eval a g env w (λ i. evals es g env w (λ vs. with_value (proc_at g.procs g.count i) (wrong w) (λ p. calls p vs w (receiving xs env next))))
meaning (If e a b) g calls d back leaves next env w =
    eval e g env w (λ v. at_zero v (meaning b g calls d back leaves next env w) (meaning a g calls d back leaves next env w))
meaning (Loop s) g calls d back leaves next env w =
    meaning s g calls d back (inside next leaves) (turns d (meaning s g calls d back (inside next leaves))) env w
meaning (Break k) g calls d back leaves next env w = leaves k env w
meaning (Return es) g calls d back leaves next env w = evals es g env w (λ vs. back vs w)
meaning (Take x) g calls d back leaves next env w = on w (next (slice_set env x (first_byte w.unread)) (took w.unread w))
meaning (Give e) g calls d back leaves next env w = eval e g env w (λ v. on w (next env (gave w (v % 256))))
meaning (Stop e) g calls d back leaves next env w = eval e g env w (λ v. over w (stop_code v))
meaning (Limit l) g calls d back leaves next env w = over w (Limited (limit_of l))

-- the values at the start of a procedure, where it gets as many arguments as it has parameters
abbrev pub frame_of : ℕ → ℕ → List ℕ → Option (List ℕ)
frame_of params values args = if length args == params then Some (args ++ replicate (values - params) 0) else None

-- a frame is charged, where that doesn't pass the limit
abbrev pub charged : ℕ → ℕ → World → Option World
charged limit charge w = cond (nat_le (w.frames + charge) limit) (Some (with_frames w (w.frames + charge))) None

-- a return gives the frame back
abbrev pub returning : ℕ → Back → Back
returning charge back rs w = back rs (with_frames w (w.frames - charge))

-- no loop is left outside all loops
abbrev pub nowhere : Leaves
nowhere k env w = wrong w

-- a procedure; the end of its body returns no result. A call is a unit
abbrev pub called : Option Procedure → Places → Calls → ℕ → List ℕ → World → Back → Behaviour
called None g calls d args w back = wrong w
called (Some f) g calls d args w back =
    with_value (frame_of f.params f.values args) (wrong w) (λ env.
    with_value (charged g.frames f.charge w) (over w (Limited B.Frames)) (λ w'.
    on w (meaning f.body g calls d (returning f.charge back) nowhere (λ env w. returning f.charge back [] w) env w')))

-- calls, at most d deep
abbrev pub calls_of : List Procedure → Places → ℕ → Calls
calls_of ps g zero p args w back = halted w
calls_of ps g (suc d) p args w back = called (slice_get ps p) g (calls_of ps g d) d args w back

-- at the start
abbrev pub starting : Bytes → List ℕ → World
starting m input = record { memory = m; frames = 0; unread = input; taken = 0; output = [] }

abbrev pub params_of : Option Procedure → ℕ
params_of None = 0
params_of (Some f) = f.params

-- a program with calls at most d deep and loops that go back at most d times; its entry may not return
abbrev pub flat_within : FlatProgram → Placement → ℕ → List ℕ → Behaviour
flat_within p g d input =
    calls_of (procs_of p.procs) (places (length p.procs) (length p.image) g) d p.entry
    (entry_arguments (params_of (slice_get (procs_of p.procs) p.entry)) (length p.image) g)
    (starting (first_bytes g p.image p.fixes) input) (λ rs w. wrong w)

-- a program at n units: no call in it can be deeper than n, and no loop can go back more often
abbrev pub flat : FlatProgram → Placement → List ℕ → Behaviour
flat p g input n = flat_within p g n input n
