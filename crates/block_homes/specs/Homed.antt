-- What a program of blocks does with each value at its home, step by step.
use Rattle.std.specs.Prelude.{ℕ, zero, suc, ◌+◌, ◌-◌, ◌%◌, cond, ◌==◌, if◌then◌else◌, List, [], ◌∷◌, length, map, Option, Some, None, slice_get, slice_index}
use Rattle.behaviour.specs.Behaviour as B
use Rattle.behaviour.specs.Behaviour.{Running, Limited, Wrong, Seen, Behaviour}
use Rattle.jf_base.specs.Numbers.{size_of_width}
use Rattle.flat_ir.specs.Bytes.{loaded, stored}
use Rattle.flat_ir.specs.Operations.{result_of, extended}
use Rattle.flat_ir.specs.Placement as P
use Rattle.flat_ir.specs.Placement.{Placement, Places, proc_at, first_bytes, entry_arguments}
use Rattle.flat_ir.specs.Flat.{World, seen, with_memory, with_frames, gave, took, first_byte, stop_code, limit_of, charged, starting}
use Rattle.flatten.specs.declared.blocks.BlockInsn.{BlockInsn}
use Rattle.flatten.specs.declared.blocks.BlockInsn.TheVariants as I
use Rattle.flatten.specs.declared.blocks.BlockEnd.{BlockEnd}
use Rattle.flatten.specs.declared.blocks.BlockEnd.TheVariants as E
use Rattle.flatten.specs.declared.blocks.Block.{Block}
use Rattle.flatten.specs.declared.blocks.BlockProc.{BlockProc}
use Rattle.flatten.specs.declared.blocks.BlockProgram.{BlockProgram}
use Rattle.flatten.specs.Blocks.{if_value, branch_to, params_of}
use Rattle.block_homes.specs.declared.homes.Assignment.{Assignment}
use Rattle.block_homes.specs.Held.{places_at}

-- what each place of a procedure holds
abbrev pub Cells : Type 0
Cells = ℕ → ℕ

abbrev pub write : Cells → ℕ → ℕ → Cells
write c at x = λ h. cond (at == h) x (c h)

-- a procedure that waits for the results of a call, with the place of each of its values and what is left of its block
pub record Waiting : Type 0 where
  pub proc : BlockProc
  pub places : List ℕ
  pub rest : Block
  pub cells : Cells
  pub targets : List ℕ

pub record State : Type 0 where
  pub proc : BlockProc
  pub places : List ℕ
  pub rest : Block
  pub cells : Cells
  pub world : World
  pub stack : List Waiting

abbrev pub Go : Type 0
Go = State → Seen

-- what the home of a value holds
abbrev pub value : List ℕ → Cells → ℕ → ℕ
value places c y = c (slice_index places y)

abbrev pub values : List ℕ → Cells → List ℕ → List ℕ
values places c ys = map (λ y. value places c y) ys

-- a value is set at its home
abbrev pub set_value : List ℕ → Cells → ℕ → ℕ → Cells
set_value places c x n = write c (slice_index places x) n

-- results go to the homes of values, where there are as many
abbrev pub received : List ℕ → List ℕ → List ℕ → Cells → Option Cells
received places [] [] c = Some c
received places [] (r ∷ rs) c = None
received places (x ∷ xs) [] c = None
received places (x ∷ xs) (r ∷ rs) c = received places xs rs (set_value places c x r)

-- the first n arguments are written to the homes of the parameters, from the first to the last
abbrev pub passed : List ℕ → List ℕ → Cells → ℕ → Cells
passed places args c zero = c
passed places args c (suc n) = set_value places (passed places args c n) n (slice_index args n)

-- the cells at the start of a procedure, where it gets as many arguments as it has parameters
abbrev pub cells_of : ℕ → List ℕ → List ℕ → Cells → Option Cells
cells_of params places args c = if length args == params then Some (passed places args c params) else None

abbrev pub at_block : Option Block → Go → BlockProc → List ℕ → Cells → World → List Waiting → Seen
at_block None go f places c w stack = seen w Wrong
at_block (Some b) go f places c w stack = go (record { proc = f; places = places; rest = b; cells = c; world = w; stack = stack })

-- a call: the procedure's frame is charged, and it begins with its first block; `c` lay in its places before
abbrev pub enter : Option BlockProc → List ℕ → Places → Go → Cells → List ℕ → World → List Waiting → Seen
enter None places g go c args w stack = seen w Wrong
enter (Some f) places g go c args w stack =
    if_value (cells_of f.params places args c) (seen w Wrong) (λ c.
    if_value (charged g.frames f.frame w) (seen w (Limited B.Frames)) (λ w'. at_block (slice_get f.blocks 0) go f places c w' stack))

-- a return: the procedure that waits has its cells as it left them, and the results go to its targets; the entry may not return
abbrev pub give_back : List Waiting → List ℕ → World → Go → Seen
give_back [] rs w go = seen w Wrong
give_back (f ∷ fs) rs w go =
    if_value (received f.places f.targets rs f.cells) (seen w Wrong) (λ c. go (record { proc = f.proc; places = f.places; rest = f.rest; cells = c; world = w; stack = fs }))

-- one instruction, in front of the rest k of its block; a procedure that it calls finds `entered` in its places
abbrev pub insn_step : List BlockProc → List Assignment → Places → Cells → Go → BlockInsn → BlockProc → List ℕ → Block → Cells → World → List Waiting → Seen
insn_step ps as' g entered go (I.Number x n) f places k c w stack =
    go (record { proc = f; places = places; rest = k; cells = set_value places c x n; world = w; stack = stack })
insn_step ps as' g entered go (I.Copy x y) f places k c w stack =
    go (record { proc = f; places = places; rest = k; cells = set_value places c x (value places c y); world = w; stack = stack })
insn_step ps as' g entered go (I.Binary o x y z) f places k c w stack =
    go (record { proc = f; places = places; rest = k; cells = set_value places c x (result_of o (value places c y) (value places c z)); world = w; stack = stack })
insn_step ps as' g entered go (I.Load x s is_signed y) f places k c w stack =
    if_value (loaded (size_of_width s) g.areas w.memory (value places c y)) (seen w Wrong) (λ v.
    go (record { proc = f; places = places; rest = k; cells = set_value places c x (extended s is_signed v); world = w; stack = stack }))
insn_step ps as' g entered go (I.Store s y z) f places k c w stack =
    if_value (stored (size_of_width s) g.areas w.memory (value places c y) (value places c z)) (seen w Wrong) (λ m.
    go (record { proc = f; places = places; rest = k; cells = c; world = with_memory w m; stack = stack }))
insn_step ps as' g entered go (I.ProcAddress x p) f places k c w stack =
    go (record { proc = f; places = places; rest = k; cells = set_value places c x (g.procs p); world = w; stack = stack })
insn_step ps as' g entered go (I.ImageAddress x n) f places k c w stack =
    go (record { proc = f; places = places; rest = k; cells = set_value places c x (g.image + n); world = w; stack = stack })
insn_step ps as' g entered go (I.Call xs p ys) f places k c w stack =
    enter (slice_get ps p) (places_at as' p) g go entered (values places c ys) w (record { proc = f; places = places; rest = k; cells = c; targets = xs } ∷ stack)
insn_step ps as' g entered go (I.CallAt xs y ys) f places k c w stack =
    if_value (proc_at g.procs g.count (value places c y)) (seen w Wrong) (λ p.
    enter (slice_get ps p) (places_at as' p) g go entered (values places c ys) w (record { proc = f; places = places; rest = k; cells = c; targets = xs } ∷ stack))
insn_step ps as' g entered go (I.Take x) f places k c w stack =
    go (record { proc = f; places = places; rest = k; cells = set_value places c x (first_byte w.unread); world = took w.unread w; stack = stack })
insn_step ps as' g entered go (I.Give y) f places k c w stack =
    go (record { proc = f; places = places; rest = k; cells = c; world = gave w (value places c y % 256); stack = stack })

-- the end of a block
abbrev pub end_step : Go → BlockEnd → BlockProc → List ℕ → Cells → World → List Waiting → Seen
end_step go (E.Jump b) f places c w stack = at_block (slice_get f.blocks b) go f places c w stack
end_step go (E.Branch y a b) f places c w stack = at_block (slice_get f.blocks (branch_to (value places c y) a b)) go f places c w stack
end_step go (E.Return ys) f places c w stack = give_back stack (values places c ys) (with_frames w (w.frames - f.frame)) go
end_step go (E.Stop y) f places c w stack = seen w (stop_code (value places c y))
end_step go (E.Limit l) f places c w stack = seen w (Limited (limit_of l))

abbrev pub step : List BlockProc → List Assignment → Places → Cells → Go → List BlockInsn → BlockEnd → BlockProc → List ℕ → Cells → World → List Waiting → Seen
step ps as' g entered go [] e f places c w stack = end_step go e f places c w stack
step ps as' g entered go (i ∷ is) e f places c w stack = insn_step ps as' g entered go i f places (record { insns = is; end = e }) c w stack

-- at most m steps; a procedure that is entered when n more steps may follow finds `entered n` in its places
abbrev pub exec : List BlockProc → List Assignment → Places → (ℕ → Cells) → ℕ → Go
exec ps as' g entered zero s = seen s.world Running
exec ps as' g entered (suc m) s = step ps as' g (entered m) (exec ps as' g entered m) s.rest.insns s.rest.end s.proc s.places s.cells s.world s.stack

-- at most m steps of a program, the first of which calls the entry
abbrev pub homed : BlockProgram → List Assignment → (ℕ → Cells) → Placement → List ℕ → Behaviour
homed q as' entered g input zero = seen (starting (first_bytes g q.image q.fixes) input) Running
homed q as' entered g input (suc m) =
    enter (slice_get q.procs q.entry) (places_at as' q.entry) (P.places (length q.procs) (length q.image) g) (exec q.procs as' (P.places (length q.procs) (length q.image) g) entered m) (entered m)
    (entry_arguments (params_of (slice_get q.procs q.entry)) (length q.image) g) (starting (first_bytes g q.image q.fixes) input) []
