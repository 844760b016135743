-- States of the blocks and runs of the machine that stand for each other, and one step of both.
use Rattle.std.proofs.Common.{◌≡◌, ℕ, zero, suc, ◌+◌, ◌*◌, ◌^◌, ◌<◌, ◌≤◌, ◌⊎◌, true, false, List, [], ◌∷◌, length, Some, refl, sym, ap, ◌∙◌, subst, arith}
use Rattle.std.specs.Prelude.{slice_get, slice_set}
use Rattle.behaviour.specs.Behaviour.{Ending, Running, Wrong, Seen, Behaviour}
use Rattle.work.specs.Units.{unit, ended}
use Rattle.work.specs.Same.{Same}
use Rattle.work.proofs.Same.{alike_first, wrong}
use Rattle.flat_ir.specs.Placement as P
use Rattle.flat_ir.specs.Placement.{Placement, Places, heap_end}
use Rattle.flat_ir.specs.Flat as F
use Rattle.flat_ir.specs.Flat.{World}
use Rattle.flatten.specs.declared.blocks.BlockInsn.{BlockInsn}
use Rattle.flatten.specs.declared.blocks.BlockEnd.{BlockEnd}
use Rattle.flatten.specs.declared.blocks.Block.{Block}
use Rattle.flatten.specs.declared.blocks.BlockProc.{BlockProc}
use Rattle.flatten.specs.declared.blocks.BlockProgram.{BlockProgram}
use Rattle.flatten.specs.Blocks as B
use Rattle.flatten.specs.Paths.{sets}
use Rattle.flatten.specs.Named.{AllBelow}
use Rattle.block_homes.specs.declared.homes.Assignment.{Assignment}
use Rattle.block_homes.specs.Held.{places_of}
use Rattle.block_homes.proofs.Lockstep.{At, moved_set}
use Rattle.rv_assemble.specs.declared.unit.AsmLine.{AsmLine}
use Rattle.rv_machine.specs.declared.event.Event.{Event}
use Rattle.rv_machine.specs.declared.event.Mode.{Mode}
use Rattle.rv_machine.specs.declared.event.Mode.TheVariants as mode
use Rattle.rv_machine.specs.Exec.{Run, turn}
use Rattle.image_run.specs.Behaviour.{seen, mode_ending}
use Rattle.assembled_run.specs.Machine.{Leads}
use Rattle.emitted_code.specs.Frames.{Layout, home_of, is_charged}
use Rattle.emitted_code.specs.Code.{rest_code, limit_code}
use Rattle.emitted_code.specs.Room.{IsProc, CanEmit}
use Rattle.emitted_code.specs.Placed.{AllBytes}
use Rattle.emitted_code.proofs.Data.{Data}
use Rattle.emitted_code.proofs.LineLaws.{Laws, Went}
use Rattle.emitted_code.proofs.Steps.{shown, quietly, stepped, ends_so}
use Rattle.emitted_code.proofs.Relate.{cells, Laid, at_alike, total, lay, Level, Body}
use Rattle.emitted_code.proofs.Values.{Wrote, cells_written, body_written, set_low}

-- the run has taken and given what the world says, and bytes are left
pub record Told (r : Run) (w : World) : Type 0 where
  pub bytes : AllBytes w.unread
  pub left : r.left ≡ w.unread
  pub taken : r.taken ≡ w.taken
  pub output : r.output ≡ w.output

pub told_after : (n : ℕ) (r r' : Run) (w : World) → Leads n r r' → Told r w → Told r' w
told_after n r r' w l t =
    let k = l.quiet n (omega arith) in
    record {
      bytes = t.bytes;
      left = ap (λ (x : Run). x.left) (sym l.ends) ∙ (k.left ∙ t.left);
      taken = ap (λ (x : Run). x.taken) (sym l.ends) ∙ (k.taken ∙ t.taken);
      output = ap (λ (x : Run). x.output) (sym l.ends) ∙ (k.output ∙ t.output);
    }

pub ready_after : (n : ℕ) (r r' : Run) → Leads n r r' → r'.state.mode ≡ mode.Ready
ready_after n r r' l = ap (λ (x : Run). x.state.mode) (sym l.ends) ∙ (l.quiet n (omega arith)).ready

abbrev so : List ℕ → ℕ → Ending → Seen
so o t e = record { output = o; taken = t; ending = e }

pub seen_now : (r : Run) (w : World) → r.state.mode ≡ mode.Ready → Told r w → seen r ≡ F.seen w Running
seen_now r w ready t = same r.output w.output r.taken w.taken r.state.mode t.output t.taken ready
  where
    same : (o o' : List ℕ) (t t' : ℕ) (m : Mode) → o ≡ o' → t ≡ t' → m ≡ mode.Ready → so o t (mode_ending m) ≡ so o' t' Running
    same o o' t t' m p q s = λ i. so (p i) (q i) (mode_ending (s i))

module _ (q : BlockProgram) (hs : List Assignment) (g : Placement) (On : ℕ → List AsmLine → Data → Run → Type 0) (Addr : ℕ → List AsmLine → ℕ → Type 0) (Labelled : ℕ → ℕ → List AsmLine → Type 0) where
  -- where a block's code stands, and the end at the limit
  pub record BlockAt (i b : ℕ) (l : Layout) (k : Block) : Type 0 where
    pub tail : List AsmLine
    pub stands : Labelled i b (rest_code l k.insns k.end tail)

  pub record LimitAt (i n : ℕ) : Type 0 where
    pub tail : List AsmLine
    pub stands : Labelled i n (limit_code 0 tail)

  -- what holds of the program, its image and the bound on steps
  pub record Given : Type 0 where
    pub can : CanEmit q hs
    pub laws : Laws q hs g On Addr Labelled
    pub bounded : heap_end (length q.image) g ≤ 2 ^ 63
    pub laid : (i : ℕ) (f : BlockProc) → IsProc q i f → Laid f (lay q hs g can.room Addr i f)
    pub blocks : (i : ℕ) (f : BlockProc) → IsProc q i f → (b : ℕ) (k : Block) → slice_get f.blocks b ≡ Some k → BlockAt i b (lay q hs g can.room Addr i f) k
    pub limit : (i : ℕ) (f : BlockProc) → IsProc q i f → is_charged f ≡ true → LimitAt i (length f.blocks)
    pub alone : (i : ℕ) (f : BlockProc) → IsProc q i f → i ≡ q.entry → is_charged f ≡ false → 2 ^ 64 ≤ g.procs i
    pub near : (i : ℕ) (f : BlockProc) → IsProc q i f → (is_charged f ≡ true) ⊎ ¬ (i ≡ q.entry) → g.procs i < 2 ^ 64
    pub K : ℕ
    pub dear : 400 ≤ K
    pub cost : (i : ℕ) (f : BlockProc) → IsProc q i f → 40 * f.params + 400 ≤ K

  module _ (x : Given) where
    abbrev pub L : ℕ → BlockProc → Layout
    L i f = lay q hs g x.can.room Addr i f

    abbrev pub at_places : Places
    at_places = P.places (length q.procs) (length q.image) g

    abbrev pub Cells_at : ℕ → BlockProc → List BlockInsn → BlockEnd → List ℕ → Data → Type 0
    Cells_at i f rest end env d = At f (places_of (L i f).homes) rest end env (cells (L i f) d)

    abbrev pub Body_of : ℕ → BlockProc → World → List B.Waiting → Data → Type 0
    Body_of i f w stack d = Body q hs g x.can.room Addr (L i f) w stack d

    abbrev pub Level_of : ℕ → BlockProc → List B.Waiting → Type 0
    Level_of i f stack = Level q hs g x.can.room Addr i f stack

    abbrev pub Goes : ℕ → ℕ → List AsmLine → Data → Run → Type 0
    Goes n i ls d r = Went q hs g On Addr Labelled n i ls d r

    pub some : 1 ≤ x.K
    some = let dear = x.dear in omega arith

    -- a procedure is at this rest of a block
    pub record Related (f : BlockProc) (rest : List BlockInsn) (end : BlockEnd) (env : List ℕ) (w : World) (stack : List B.Waiting) (r : Run) : Type 0 where
      pub number : ℕ
      pub is : IsProc q number f
      pub data' : Data
      pub tail : List AsmLine
      pub on : On number (rest_code (L number f) rest end tail) data' r
      pub told : Told r w
      pub frames : w.frames ≡ f.frame + total stack
      pub level : Level_of number f stack
      pub at : Cells_at number f rest end env data'
      pub body : Body_of number f w stack data'

    abbrev pub going : BlockProc → List BlockInsn → BlockEnd → List ℕ → World → List B.Waiting → Behaviour
    going f rest end env w stack m = B.exec q.procs at_places m (record { proc = f; rest = record { insns = rest; end = end }; env = env; world = w; stack = stack })

    -- what is to be shown of n units
    abbrev pub Again : ℕ → Type 0
    Again n = (f : BlockProc) (rest : List BlockInsn) (end : BlockEnd) (env : List ℕ) (w : World) (stack : List B.Waiting) (r : Run) → Related f rest end env w stack r → Same x.K 0 n (going f rest end env w stack) (shown r)

    abbrev pub Now : ℕ → Behaviour → Run → Type 0
    Now n a r = Same x.K 0 n a (shown r)

    -- the step leads to a related state
    pub proceeds : (n : ℕ) → Again n → (a : Behaviour) (w0 : World) (r : Run) → Told r w0 → r.state.mode ≡ mode.Ready → (f : BlockProc) (rest : List BlockInsn) (end : BlockEnd) (env : List ℕ) (w : World) (stack : List B.Waiting) (k : ℕ) (r' : Run)
        → Leads k r r' → 1 ≤ k → k ≤ x.K → Related f rest end env w stack r' → a 0 ≡ F.seen w0 Running → ((m : ℕ) → a (suc m) ≡ going f rest end env w stack m) → Now (suc n) a r
    proceeds n again a w0 r told ready f rest end env w stack k r' l low high rel e0 e =
        alike_first x.K some 0 (suc n) a (unit (F.seen w0 Running) (going f rest end env w stack)) (shown r) same
        (quietly x.K some n k (F.seen w0 Running) (going f rest end env w stack) r r' l low high (seen_now r w0 ready told) (again f rest end env w stack r' rel))
      where
        same : (i : ℕ) → a i ≡ unit (F.seen w0 Running) (going f rest end env w stack) i
        same zero = e0
        same (suc m) = e m

    -- the same, where something is seen of one instruction
    pub proceeds_seen : (n : ℕ) → Again n → (a : Behaviour) (w0 : World) (r : Run) → Told r w0 → r.state.mode ≡ mode.Ready → (f : BlockProc) (rest : List BlockInsn) (end : BlockEnd) (env : List ℕ) (w : World) (stack : List B.Waiting) (k1 k2 : ℕ) (r1 r2 r3 : Run)
        → Leads k1 r r1 → turn r1 ≡ r2 → Leads k2 r2 r3 → k1 + k2 + 1 ≤ x.K → Related f rest end env w stack r3 → a 0 ≡ F.seen w0 Running → ((m : ℕ) → a (suc m) ≡ going f rest end env w stack m) → Now (suc n) a r
    proceeds_seen n again a w0 r told ready f rest end env w stack k1 k2 r1 r2 r3 l1 t l2 high rel e0 e =
        alike_first x.K some 0 (suc n) a (unit (F.seen w0 Running) (going f rest end env w stack)) (shown r) same
        (stepped x.K some n k1 k2 (F.seen w0 Running) (going f rest end env w stack) r r1 r2 r3 l1 t l2 high (seen_now r w0 ready told) (again f rest end env w stack r3 rel))
      where
        same : (i : ℕ) → a i ≡ unit (F.seen w0 Running) (going f rest end env w stack) i
        same zero = e0
        same (suc m) = e m

    -- the step ends the run
    pub ends_now : (n : ℕ) (a : Behaviour) (w0 : World) (end : Ending) (r : Run) → Told r w0 → r.state.mode ≡ mode.Ready → (k : ℕ) (r1 r2 : Run) (ev : Event) → Leads k r r1 → turn r1 ≡ r2 → r2.state.mode ≡ mode.Ended ev → seen r2 ≡ F.seen w0 end → k + 1 ≤ x.K → a 0 ≡ F.seen w0 Running → ((m : ℕ) → a (suc m) ≡ F.seen w0 end) → Now n a r
    ends_now n a w0 end r told ready k r1 r2 ev l t over is le e0 e =
        alike_first x.K some 0 n a (ended (F.seen w0 Running) (F.seen w0 end)) (shown r) same (ends_so x.K some n k (F.seen w0 Running) (F.seen w0 end) r r1 r2 ev l t over is le (seen_now r w0 ready told))
      where
        same : (i : ℕ) → a i ≡ ended (F.seen w0 Running) (F.seen w0 end) i
        same zero = e0
        same (suc m) = e m

    -- the step is wrong
    pub goes_wrong : (n : ℕ) (a : Behaviour) (w0 : World) (r : Run) → Told r w0 → r.state.mode ≡ mode.Ready → a 0 ≡ F.seen w0 Running → ((m : ℕ) → a (suc m) ≡ F.seen w0 Wrong) → Now n a r
    goes_wrong n a w0 r told ready e0 e =
        alike_first x.K some 0 n a (ended (F.seen w0 Running) (F.seen w0 Wrong)) (shown r) same (wrong x.K some 0 n (F.seen w0 Running) (F.seen w0 Wrong) (shown r) refl (seen_now r w0 ready told))
      where
        same : (i : ℕ) → a i ≡ ended (F.seen w0 Running) (F.seen w0 Wrong) i
        same zero = e0
        same (suc m) = e m

    -- one value is set at its home
    pub set_next : (f : BlockProc) (y : BlockInsn) (rest : List BlockInsn) (end : BlockEnd) (env : List ℕ) (w : World) (stack : List B.Waiting) (i : ℕ) → IsProc q i f → (d d' : Data) (tail : List AsmLine) (r' : Run) → On i (rest_code (L i f) rest end tail) d' r' → Told r' w → w.frames ≡ f.frame + total stack → Level_of i f stack
        → Cells_at i f (y ∷ rest) end env d → Body_of i f w stack d → (v val : ℕ) → sets y ≡ v ∷ [] → val < 2 ^ 64 → Wrote (L i f) (home_of (L i f) v) val d d' → Related f rest end (slice_set env v val) w stack r'
    set_next f y rest end env w stack i ip d d' tail r' on told frames level at body v val es lt wr =
        let l = L i f in
        let is = x.laid i f ip in
        let lv = subst (λ vs. AllBelow f.values vs) es (set_low f (places_of l.homes) y rest end env (cells l d) at) in
        record {
          number = i;
          is = ip;
          data' = d';
          tail = tail;
          on = on;
          told = told;
          frames = frames;
          level = level;
          at = at_alike f (places_of l.homes) rest end (slice_set env v val) _ (cells l d') (cells_written f l v val d d' is lv.0 lt wr) (moved_set f (places_of l.homes) y rest end env (cells l d) v val es at);
          body = body_written q hs g x.can.room Addr x.bounded f l w stack d d' v val is lv.0 wr body;
        }

    -- an instruction has set one value
    pub has_set : (f : BlockProc) (y : BlockInsn) (rest : List BlockInsn) (end : BlockEnd) (env : List ℕ) (w : World) (stack : List B.Waiting) (r : Run) (rel : Related f (y ∷ rest) end env w stack r) (v val k : ℕ) (d' : Data)
        → (went : Goes k rel.number (rest_code (L rel.number f) rest end rel.tail) d' r) → sets y ≡ v ∷ [] → val < 2 ^ 64 → Wrote (L rel.number f) (home_of (L rel.number f) v) val rel.data' d' → Related f rest end (slice_set env v val) w stack went.run
    has_set f y rest end env w stack r rel v val k d' went es lt wr =
        set_next f y rest end env w stack rel.number rel.is rel.data' d' rel.tail went.run went.on (told_after k r went.run w went.leads rel.told) rel.frames rel.level rel.at rel.body v val es lt wr
