-- What a program of blocks does, step by step.
use Rattle.std.specs.Prelude.{ℕ, zero, suc, ◌+◌, ◌-◌, ◌%◌, List, [], ◌∷◌, length, map, Option, Some, None, slice_get, slice_set, slice_index}
use Rattle.behaviour.specs.Behaviour as B
use Rattle.behaviour.specs.Behaviour.{Running, Limited, Wrong, Seen, Behaviour}
use Rattle.jf_base.specs.Numbers.{size_of_width}
use Rattle.flat_ir.specs.Bytes.{loaded, stored}
use Rattle.flat_ir.specs.Operations.{result_of, extended}
use Rattle.flat_ir.specs.Placement.{Placement, Places, places, proc_at, first_bytes, entry_arguments}
use Rattle.flat_ir.specs.Flat.{World, seen, with_memory, with_frames, gave, took, first_byte, received, stop_code, limit_of, frame_of, charged, starting}
use Rattle.flatten.specs.declared.blocks.BlockInsn.{BlockInsn}
use Rattle.flatten.specs.declared.blocks.BlockInsn.TheVariants as I
use Rattle.flatten.specs.declared.blocks.BlockEnd.{BlockEnd}
use Rattle.flatten.specs.declared.blocks.BlockEnd.TheVariants as E
use Rattle.flatten.specs.declared.blocks.Block.{Block}
use Rattle.flatten.specs.declared.blocks.BlockProc.{BlockProc}
use Rattle.flatten.specs.declared.blocks.BlockProgram.{BlockProgram}

-- a procedure that waits for the results of a call, with what is left of its block
pub record Waiting : Type 0 where
  pub proc : BlockProc
  pub rest : Block
  pub env : List ℕ
  pub targets : List ℕ

-- a procedure, what is left of its block, its values, the world, and the procedures that wait
pub record State : Type 0 where
  pub proc : BlockProc
  pub rest : Block
  pub env : List ℕ
  pub world : World
  pub stack : List Waiting

abbrev pub Go : Type 0
Go = State → Seen

-- what values hold
abbrev pub held : List ℕ → List ℕ → List ℕ
held env ys = map (λ y. slice_index env y) ys

abbrev pub if_value : {A : Type 0} → Option A → Seen → (A → Seen) → Seen
if_value None other go = other
if_value (Some v) other go = go v

abbrev pub at_block : Option Block → Go → BlockProc → List ℕ → World → List Waiting → Seen
at_block None go f env w stack = seen w Wrong
at_block (Some b) go f env w stack = go (record { proc = f; rest = b; env = env; world = w; stack = stack })

-- a call: the procedure's frame is charged, and it begins with its first block
abbrev pub enter : Option BlockProc → Places → Go → List ℕ → World → List Waiting → Seen
enter None g go args w stack = seen w Wrong
enter (Some f) g go args w stack =
    if_value (frame_of f.params f.values args) (seen w Wrong) (λ env.
    if_value (charged g.frames f.frame w) (seen w (Limited B.Frames)) (λ w'. at_block (slice_get f.blocks 0) go f env w' stack))

-- a return: the results go to the procedure that waits; the entry may not return
abbrev pub give_back : List Waiting → List ℕ → World → Go → Seen
give_back [] rs w go = seen w Wrong
give_back (f ∷ fs) rs w go =
    if_value (received f.targets rs f.env) (seen w Wrong) (λ env. go (record { proc = f.proc; rest = f.rest; env = env; world = w; stack = fs }))

abbrev pub branch_to : ℕ → ℕ → ℕ → ℕ
branch_to zero a b = b
branch_to (suc v) a b = a

-- one instruction, in front of the rest k of its block
abbrev pub insn_step : List BlockProc → Places → Go → BlockInsn → BlockProc → Block → List ℕ → World → List Waiting → Seen
insn_step ps g go (I.Number x n) f k env w stack = go (record { proc = f; rest = k; env = slice_set env x n; world = w; stack = stack })
insn_step ps g go (I.Copy x y) f k env w stack = go (record { proc = f; rest = k; env = slice_set env x (slice_index env y); world = w; stack = stack })
insn_step ps g go (I.Binary o x y z) f k env w stack =
    go (record { proc = f; rest = k; env = slice_set env x (result_of o (slice_index env y) (slice_index env z)); world = w; stack = stack })
insn_step ps g go (I.Load x s is_signed y) f k env w stack =
    if_value (loaded (size_of_width s) g.areas w.memory (slice_index env y)) (seen w Wrong) (λ v.
    go (record { proc = f; rest = k; env = slice_set env x (extended s is_signed v); world = w; stack = stack }))
insn_step ps g go (I.Store s y z) f k env w stack =
    if_value (stored (size_of_width s) g.areas w.memory (slice_index env y) (slice_index env z)) (seen w Wrong) (λ m.
    go (record { proc = f; rest = k; env = env; world = with_memory w m; stack = stack }))
insn_step ps g go (I.ProcAddress x p) f k env w stack = go (record { proc = f; rest = k; env = slice_set env x (g.procs p); world = w; stack = stack })
insn_step ps g go (I.ImageAddress x n) f k env w stack = go (record { proc = f; rest = k; env = slice_set env x (g.image + n); world = w; stack = stack })
insn_step ps g go (I.Call xs p ys) f k env w stack =
    enter (slice_get ps p) g go (held env ys) w (record { proc = f; rest = k; env = env; targets = xs } ∷ stack)
insn_step ps g go (I.CallAt xs y ys) f k env w stack =
    if_value (proc_at g.procs g.count (slice_index env y)) (seen w Wrong) (λ p.
    enter (slice_get ps p) g go (held env ys) w (record { proc = f; rest = k; env = env; targets = xs } ∷ stack))
insn_step ps g go (I.Take x) f k env w stack =
    go (record { proc = f; rest = k; env = slice_set env x (first_byte w.unread); world = took w.unread w; stack = stack })
insn_step ps g go (I.Give y) f k env w stack =
    go (record { proc = f; rest = k; env = env; world = gave w (slice_index env y % 256); stack = stack })

-- the end of a block
abbrev pub end_step : Go → BlockEnd → BlockProc → List ℕ → World → List Waiting → Seen
end_step go (E.Jump b) f env w stack = at_block (slice_get f.blocks b) go f env w stack
end_step go (E.Branch y a b) f env w stack = at_block (slice_get f.blocks (branch_to (slice_index env y) a b)) go f env w stack
end_step go (E.Return ys) f env w stack = give_back stack (held env ys) (with_frames w (w.frames - f.frame)) go
end_step go (E.Stop y) f env w stack = seen w (stop_code (slice_index env y))
end_step go (E.Limit l) f env w stack = seen w (Limited (limit_of l))

abbrev pub step : List BlockProc → Places → Go → List BlockInsn → BlockEnd → BlockProc → List ℕ → World → List Waiting → Seen
step ps g go [] e f env w stack = end_step go e f env w stack
step ps g go (i ∷ is) e f env w stack = insn_step ps g go i f (record { insns = is; end = e }) env w stack

-- at most m steps
abbrev pub exec : List BlockProc → Places → ℕ → Go
exec ps g zero s = seen s.world Running
exec ps g (suc m) s = step ps g (exec ps g m) s.rest.insns s.rest.end s.proc s.env s.world s.stack

abbrev pub params_of : Option BlockProc → ℕ
params_of None = 0
params_of (Some f) = f.params

-- at most m steps of a program, the first of which calls the entry
abbrev pub blocks : BlockProgram → Placement → List ℕ → Behaviour
blocks q g input zero = seen (starting (first_bytes g q.image q.fixes) input) Running
blocks q g input (suc m) =
    enter (slice_get q.procs q.entry) (places (length q.procs) (length q.image) g) (exec q.procs (places (length q.procs) (length q.image) g) m)
    (entry_arguments (params_of (slice_get q.procs q.entry)) (length q.image) g) (starting (first_bytes g q.image q.fixes) input) []
