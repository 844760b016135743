-- What a machine that has the code of units does with their lines, as far as code is concerned.
use Rattle.std.proofs.Common.{◌≡◌, ℕ, ◌+◌, ◌-◌, ◌%◌, ◌^◌, ◌<◌, ◌≤◌, List, [], ◌∷◌, ◌++◌, length, subst, arith}
use Rattle.std.specs.Prelude.{slice_get}
use Rattle.std.specs.Int.{w32, cast_signed}
use Rattle.rv_isa.specs.declared.insn.Insn.TheVariants as M
use Rattle.rv_assemble.specs.declared.unit.AsmLine.{AsmLine}
use Rattle.rv_assemble.specs.declared.unit.AsmLine.TheVariants.{Label, Plain, Branch, Call, Address}
use Rattle.rv_machine.specs.declared.event.Event.TheVariants as event
use Rattle.rv_machine.specs.declared.event.Mode.TheVariants as mode
use Rattle.rv_machine.specs.Exec.{Run, turn}
use Rattle.assembled_run.specs.Machine.{Leads}
use Rattle.assembled_run.proofs.Leads.{leads_none, leads_then}
use Rattle.flat_ir.specs.Placement.{Placement, heap_end}
use Rattle.flatten.specs.declared.blocks.BlockProc.{BlockProc}
use Rattle.flatten.specs.declared.blocks.BlockProgram.{BlockProgram}
use Rattle.block_homes.specs.declared.homes.Assignment.{Assignment}
use Rattle.block_homes.specs.Held.{homes_in}
use Rattle.emitted_code.specs.Straight.{Straight, insn_of, lines}
use Rattle.emitted_code.specs.Names.{proc_name, image_name, image_place}
use Rattle.emitted_code.specs.Frames.{layout_of}
use Rattle.emitted_code.specs.Code.{proc_lines}
use Rattle.emitted_code.specs.Room.{IsProc}
use Rattle.emitted_code.proofs.Data.{Data, set, act, acts, Safe, AreSafe, IsTarget}

-- `On i ls d r`: the run r is at the lines ls of the unit i, with d in its registers and its memory. `Addr i ls a`: these lines stand at the address a.
-- `Labelled i b ls`: these lines stand behind the label b.
module _ (q : BlockProgram) (hs : List Assignment) (g : Placement) (On : ℕ → List AsmLine → Data → Run → Type 0) (Addr : ℕ → List AsmLine → ℕ → Type 0) (Labelled : ℕ → ℕ → List AsmLine → Type 0) where
  -- n instructions, with nothing seen on the way
  pub record Went (n i : ℕ) (ls : List AsmLine) (d : Data) (r : Run) : Type 0 where
    pub run : Run
    pub leads : Leads n r run
    pub on : On i ls d run

  -- a jump: x6 may have changed
  pub record Jumped (i : ℕ) (ls : List AsmLine) (d : Data) (r : Run) : Type 0 where
    pub junk : ℕ
    pub count : ℕ
    pub some : 1 ≤ count
    pub few : count ≤ 3
    pub went : Went count i ls (set d 6 junk) r

  -- a call: the address of the lines behind it is in x1
  pub record Called (n i : ℕ) (ls : List AsmLine) (p : ℕ) (f : BlockProc) (d : Data) (r : Run) : Type 0 where
    pub address : ℕ
    pub small : address < 2 ^ 64
    pub stands : Addr i ls address
    pub went : Went n p (proc_lines (layout_of f (homes_in (slice_get hs p))) f) (set d 1 address) r

  -- one instruction that gives or takes
  pub record Turned (i : ℕ) (ls : List AsmLine) (d : Data) (r r' : Run) : Type 0 where
    pub turns : turn r ≡ r'
    pub on : On i ls d r'

  pub record Laws : Type 0 where
    pub ready : (i : ℕ) (ls : List AsmLine) (d : Data) (r : Run) → On i ls d r → r.state.mode ≡ mode.Ready
    pub plain : (i : ℕ) (x : Straight) (ls : List AsmLine) (d : Data) (r : Run) → On i (Plain (insn_of x) ∷ ls) d r → Safe g.image (heap_end (length q.image) g) x d → Went 1 i ls (act x d) r
    pub label : (i b : ℕ) (ls : List AsmLine) (d : Data) (r : Run) → On i (Label b ∷ ls) d r → On i ls d r
    pub jump : (i b : ℕ) (ls to : List AsmLine) (d : Data) (r : Run) → On i (Branch (M.Jal 0 0) b ∷ ls) d r → Labelled i b to → Jumped i to d r
    pub taken : (i a b : ℕ) (ls to : List AsmLine) (d : Data) (r : Run) → On i (Branch (M.Bne a 0 0) b ∷ ls) d r → a < 32 → d.regs 0 ≡ 0 → ¬ (d.regs a ≡ 0) → Labelled i b to → Jumped i to d r
    pub passed : (i a b : ℕ) (ls : List AsmLine) (d : Data) (r : Run) → On i (Branch (M.Bne a 0 0) b ∷ ls) d r → a < 32 → d.regs 0 ≡ 0 → d.regs a ≡ 0 → Went 1 i ls d r
    pub less : (i b : ℕ) (ls to : List AsmLine) (d : Data) (r : Run) → On i (Branch (M.Bltu 5 6 0) b ∷ ls) d r → d.regs 5 < d.regs 6 → Labelled i b to → Jumped i to d r
    pub not_less : (i b : ℕ) (ls : List AsmLine) (d : Data) (r : Run) → On i (Branch (M.Bltu 5 6 0) b ∷ ls) d r → d.regs 6 ≤ d.regs 5 → Went 1 i ls d r
    pub call : (i p : ℕ) (f : BlockProc) (ls : List AsmLine) (d : Data) (r : Run) → On i (Call (proc_name p) ∷ ls) d r → IsProc q p f → Called 2 i ls p f d r
    pub call_at : (i p : ℕ) (f : BlockProc) (ls : List AsmLine) (d : Data) (r : Run) → On i (Plain (M.Jalr 1 6 0) ∷ ls) d r → IsProc q p f → d.regs 6 < 2 ^ 64 → d.regs 6 ≡ g.procs p → Called 1 i ls p f d r
    pub back : (i j : ℕ) (ls to : List AsmLine) (d : Data) (r : Run) → On i (Plain (M.Jalr 0 1 0) ∷ ls) d r → Addr j to (d.regs 1) → Went 1 j to d r
    pub proc_address : (i p rd : ℕ) (f : BlockProc) (ls : List AsmLine) (d : Data) (r : Run) → On i (Address rd (proc_name p) 0 ∷ ls) d r → IsTarget rd → IsProc q p f → g.procs p < 2 ^ 64 → Went 2 i ls (set d rd (g.procs p)) r
    pub image_address : (i n rd : ℕ) (ls : List AsmLine) (d : Data) (r : Run) → On i (Address rd image_name (image_place n) ∷ ls) d r → IsTarget rd → n ≤ length q.image → Went 2 i ls (set d rd (g.image + n)) r
    pub takes : (i : ℕ) (b : ℕ) (bs : List ℕ) (ls : List AsmLine) (d : Data) (r : Run) → On i (Plain M.Ecall ∷ ls) d r → d.regs 17 ≡ 63 → r.left ≡ b ∷ bs
        → Turned i ls (set d 10 b) r (record { state = (turn r).state; left = bs; taken = r.taken + 1; output = r.output })
    pub takes_none : (i : ℕ) (ls : List AsmLine) (d : Data) (r : Run) → On i (Plain M.Ecall ∷ ls) d r → d.regs 17 ≡ 63 → r.left ≡ []
        → Turned i ls (set d 10 (2 ^ 64 - 1)) r (record { state = (turn r).state; left = []; taken = r.taken; output = r.output })
    pub gives : (i : ℕ) (ls : List AsmLine) (d : Data) (r : Run) → On i (Plain M.Ecall ∷ ls) d r → d.regs 17 ≡ 64
        → Turned i ls d r (record { state = (turn r).state; left = r.left; taken = r.taken; output = r.output ++ (d.regs 10 % 256) ∷ [] })
    pub stops : (i : ℕ) (ls : List AsmLine) (d : Data) (r : Run) → On i (Plain M.Ecall ∷ ls) d r → d.regs 17 ≡ 93
        → turn r ≡ record { state = record r.state { mode = mode.Ended (event.Exit (cast_signed w32 (d.regs 10 % 2 ^ 32))) }; left = r.left; taken = r.taken; output = r.output }
    pub limits : (i n : ℕ) (ls : List AsmLine) (d : Data) (r : Run) → On i (Plain M.Ecall ∷ ls) d r → d.regs 17 ≡ 94 → d.regs 10 ≡ n → n ≤ 1
        → turn r ≡ record { state = record r.state { mode = mode.Ended (event.Limited n) }; left = r.left; taken = r.taken; output = r.output }

  -- where a run is
  pub still : Laws → (i : ℕ) (ls : List AsmLine) (d : Data) (r : Run) → On i ls d r → Went 0 i ls d r
  still laws i ls d r o = record { run = r; leads = leads_none r (laws.ready i ls d r o); on = o }

  pub went_then : (n m i j : ℕ) (ls to : List AsmLine) (d e : Data) (r : Run) (a : Went n i ls d r) → Went m j to e a.run → Went (n + m) j to e r
  went_then n m i j ls to d e r a b = record { run = b.run; leads = leads_then n m r a.run b.run a.leads b.leads; on = b.on }

  -- straight code
  pub goes : Laws → (i : ℕ) (xs : List Straight) (ls : List AsmLine) (d : Data) (r : Run) → On i (lines xs ls) d r → AreSafe g.image (heap_end (length q.image) g) xs d → Went (length xs) i ls (acts xs d) r
  goes laws i [] ls d r o s = still laws i ls d r o
  goes laws i (x ∷ xs) ls d r o s =
      let a = laws.plain i x (lines xs ls) d r o s.0 in
      let b = goes laws i xs ls (act x d) a.run a.on s.1 in
      let e : 1 + length xs ≡ length (x ∷ xs) = omega arith in
      subst (λ n. Went n i ls (acts (x ∷ xs) d) r) e (went_then 1 (length xs) i i (lines xs ls) ls (act x d) (acts xs (act x d)) r a b)
