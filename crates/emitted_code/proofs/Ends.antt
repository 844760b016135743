-- Bytes taken and given, and the ends of blocks but a return.
use Rattle.std.proofs.Common.{◌≡◌, ℕ, zero, suc, ◌+◌, ◌-◌, ◌%◌, ◌^◌, ◌<◌, ◌≤◌, inl, inr, List, [], ◌∷◌, ◌++◌, length, Option, Some, None, refl, sym, ap, ◌∙◌, subst, arith}
use Rattle.std.specs.Prelude.{slice_get, slice_set, slice_index, Contains}
use Rattle.std.specs.Int.{w32, cast_signed}
use Rattle.behaviour.specs.Behaviour as R
use Rattle.behaviour.specs.Behaviour.{Running, Wrong, Behaviour, Seen, Ending}
use Rattle.flat_ir.specs.declared.program.Exceeded.{Exceeded}
use Rattle.flat_ir.specs.declared.program.Exceeded.TheVariants as X
use Rattle.flat_ir.specs.Placement.{Placement, heap_end}
use Rattle.flat_ir.specs.Flat as F
use Rattle.flat_ir.specs.Flat.{World, took, gave, first_byte, stop_code, limit_of}
use Rattle.flat_ir.proofs.Framing.{poke_same, poke_apart}
use Rattle.flatten.specs.declared.blocks.BlockInsn.{BlockInsn}
use Rattle.flatten.specs.declared.blocks.BlockInsn.TheVariants as I
use Rattle.flatten.specs.declared.blocks.BlockEnd.{BlockEnd}
use Rattle.flatten.specs.declared.blocks.BlockEnd.TheVariants as E
use Rattle.flatten.specs.declared.blocks.Block.{Block}
use Rattle.flatten.specs.declared.blocks.BlockProc.{BlockProc}
use Rattle.flatten.specs.declared.blocks.BlockProgram.{BlockProgram}
use Rattle.flatten.specs.Blocks as B
use Rattle.flatten.specs.Paths.{goes_to}
use Rattle.block_homes.specs.declared.homes.Home.{Home}
use Rattle.block_homes.specs.declared.homes.Assignment.{Assignment}
use Rattle.block_homes.specs.Held.{places_of}
use Rattle.block_homes.specs.Valid.{IsHome}
use Rattle.block_homes.proofs.Lockstep.{At, moved_none, next_block}
use Rattle.rv_isa.specs.declared.insn.Insn.TheVariants as M
use Rattle.rv_assemble.specs.declared.unit.AsmLine.{AsmLine}
use Rattle.rv_assemble.specs.declared.unit.AsmLine.TheVariants.{Plain, Branch}
use Rattle.rv_machine.specs.declared.event.Event.TheVariants as event
use Rattle.rv_machine.specs.declared.event.Mode.TheVariants as mode
use Rattle.rv_machine.specs.Exec.{Run, turn}
use Rattle.assembled_run.specs.Machine.{Leads}
use Rattle.assembled_run.proofs.Leads.{leads_none, leads_then}
use Rattle.image_run.specs.Behaviour.{seen, mode_ending}
use Rattle.emitted_code.specs.Straight.{Straight, AddImmediate, lines}
use Rattle.emitted_code.specs.Frames.{Layout, home_of}
use Rattle.emitted_code.specs.Code.{operand_register, fetch, read, write, system_call, limit_number, limit_code, rest_code}
use Rattle.emitted_code.specs.Placed.{AllBytes}
use Rattle.emitted_code.specs.Room.{IsProc}
use Rattle.emitted_code.proofs.Data.{Data, set, acts, AreSafe, Gets, gets_one, Small, poke_small}
use Rattle.emitted_code.proofs.Relate.{at_home, cells, Laid, Stays, IsFree, free_kept, Body, total}
use Rattle.emitted_code.proofs.Values.{set_low, Fetched, Wrote, gets_stays, five, free_target, operand_low, reads, fetches, fetched_stays, writes, scratched, scratched_at}
use Rattle.emitted_code.proofs.LineLaws.{Went, went_then, goes, Jumped}
use Rattle.emitted_code.proofs.States.{Told, told_after, Given, at_places, Level_of, Again, Now, proceeds, proceeds_seen, ends_now, goes_wrong, set_next}
use Rattle.emitted_code.proofs.Simple.{Rel, Lay, run_of, home_is, home_low, read_few, write_few, fetch_few}

pub ten : IsFree 10
ten = inr (omega arith, omega arith)

pub seventeen : IsFree 17
seventeen = inr (omega arith, omega arith)

abbrev so : List ℕ → ℕ → Ending → Seen
so o t e = record { output = o; taken = t; ending = e }

module _ (q : BlockProgram) (hs : List Assignment) (g : Placement) (On : ℕ → List AsmLine → Data → Run → Type 0) (Addr : ℕ → List AsmLine → ℕ → Type 0) (Labelled : ℕ → ℕ → List AsmLine → Type 0) (x : Given q hs g On Addr Labelled) where
  abbrev lo : ℕ
  lo = g.image

  abbrev hi : ℕ
  hi = heap_end (length q.image) g

  abbrev R' : BlockProc → List BlockInsn → BlockEnd → List ℕ → World → List B.Waiting → Run → Type 0
  R' f rest end env w stack r = Rel q hs g On Addr Labelled x f rest end env w stack r

  abbrev N' : ℕ → Behaviour → Run → Type 0
  N' n a r = Now q hs g On Addr Labelled x n a r

  abbrev A' : ℕ → Type 0
  A' n = Again q hs g On Addr Labelled x n

  abbrev run : BlockProc → List BlockInsn → BlockEnd → List ℕ → World → List B.Waiting → Behaviour
  run f rest end env w stack = run_of q hs g On Addr Labelled x f rest end env w stack

  abbrev Ly : ℕ → BlockProc → Layout
  Ly i f = Lay q hs g On Addr Labelled x i f

  abbrev Bo : Layout → World → List B.Waiting → Data → Type 0
  Bo l w stack d = Body q hs g x.can.room Addr l w stack d

  -- a small number in a free register
  puts : (rd n : ℕ) (d : Data) → IsFree rd → n < 2 ^ 64 → d.regs 0 ≡ 0 → Gets lo hi rd n d (AddImmediate rd 0 n ∷ [])
  puts rd n d fr lt z = let e : (d.regs 0 + n) % 2 ^ 64 ≡ n = omega arith in gets_one lo hi rd n d (AddImmediate rd 0 n) (ap (set d rd) e) (free_target rd fr, omega arith) lt

  -- the same procedure in another world with the same memory
  body_world : (l : Layout) (w w' : World) (stack : List B.Waiting) (d : Data) → w'.memory ≡ w.memory → Bo l w stack d → Bo l w' stack d
  body_world l w w' stack d e b = record {
    memory = λ a o. b.memory a o ∙ ap (λ (m : ℕ → ℕ). m a) (sym e);
    bytes = b.bytes;
    zero = b.zero;
    base = b.base;
    low = b.low;
    aligned = b.aligned;
    small = b.small;
    frame = b.frame;
  }

  -- a byte is taken into a value
  take_done : (n : ℕ) → A' n → (f : BlockProc) (v : ℕ) (rest : List BlockInsn) (end : BlockEnd) (env : List ℕ) (w w' : World) (stack : List B.Waiting) (r : Run) (rel : R' f (I.Take v ∷ rest) end env w stack r) (b : ℕ) (r1 r2 : Run) → b < 2 ^ 64
      → (went : Went q hs g On Addr Labelled 1 rel.number (Plain M.Ecall ∷ lines (write (Ly rel.number f) (home_of (Ly rel.number f) v) 10) (rest_code (Ly rel.number f) rest end rel.tail)) (acts (AddImmediate 17 0 63 ∷ []) rel.data') r) → turn went.run ≡ r2
      → On rel.number (lines (write (Ly rel.number f) (home_of (Ly rel.number f) v) 10) (rest_code (Ly rel.number f) rest end rel.tail)) (set (acts (AddImmediate 17 0 63 ∷ []) rel.data') 10 b) r2
      → Told r2 w' → w'.memory ≡ w.memory → w'.frames ≡ w.frames → ((m : ℕ) → run f (I.Take v ∷ rest) end env w stack (suc m) ≡ run f rest end (slice_set env v b) w' stack m) → N' (suc n) (run f (I.Take v ∷ rest) end env w stack) r
  take_done n again f v rest end env w w' stack r rel b r1 r2 lt went t on told em ef e =
      let l = Ly rel.number f in
      let d = rel.data' in
      let is = x.laid rel.number f rel.is in
      let y = I.Take v in
      let lv = (set_low f (places_of l.homes) y rest end env (cells l d) rel.at).0 in
      let h = home_of l v in
      let d1 = acts (AddImmediate 17 0 63 ∷ []) d in
      let g1 = puts 17 63 d seventeen (omega arith) rel.body.zero in
      let s1 = gets_stays lo hi 17 63 d (AddImmediate 17 0 63 ∷ []) seventeen g1 rel.body.small in
      let b1 = scratched q hs g x.can.room Addr x.bounded f l w stack d d1 is s1 refl rel.body in
      let a1 = scratched_at q hs g x.can.room Addr x.bounded f l (y ∷ rest) end env d d1 is s1 refl rel.at in
      let d2 = set d1 10 b in
      let s2 : Stays d1 d2 = record { zero = poke_apart d1.regs 10 b 0 (λ z. omega arith); sp = poke_apart d1.regs 10 b 2 (λ z. omega arith); base = poke_apart d1.regs 10 b 3 (λ z. omega arith); kept = λ k kk. poke_apart d1.regs 10 b k (free_kept 10 k ten kk); small = poke_small d1.regs 10 b b1.small lt } in
      let b2 = scratched q hs g x.can.room Addr x.bounded f l w stack d1 d2 is s2 refl b1 in
      let a2 = scratched_at q hs g x.can.room Addr x.bounded f l (y ∷ rest) end env d1 d2 is s2 refl a1 in
      let wr = writes q hs g x.can.room Addr x.bounded f l w stack d2 10 h is (is.homes v lv) ten (λ z. omega arith) (λ z. omega arith) b2 in
      let xs = write l h 10 in
      let code = rest_code l rest end rel.tail in
      let back = goes q hs g On Addr Labelled x.laws rel.number xs code d2 r2 on wr.1 in
      let few = write_few l h 10 in
      let dear = x.dear in
      let w2 : Wrote l h b d2 (acts xs d2) = subst (λ z. Wrote l h z d2 (acts xs d2)) (poke_same d1.regs 10 b 10 refl) wr.0 in
      proceeds_seen q hs g On Addr Labelled x n again (run f (y ∷ rest) end env w stack) w r rel.told (x.laws.ready rel.number _ d r rel.on) f rest end (slice_set env v b) w' stack 1 (length xs) went.run r2 back.run went.leads t back.leads (omega (arith, few.1))
      (set_next q hs g On Addr Labelled x f y rest end env w' stack rel.number rel.is d2 (acts xs d2) rel.tail back.run back.on (told_after (length xs) r2 back.run w' back.leads told) (ef ∙ rel.frames) rel.level a2 (body_world l w w' stack d2 em b2) v b refl lt w2) refl e

  pub take_case : (n : ℕ) → A' n → (f : BlockProc) (v : ℕ) (rest : List BlockInsn) (end : BlockEnd) (env : List ℕ) (w : World) (stack : List B.Waiting) (r : Run) → R' f (I.Take v ∷ rest) end env w stack r → N' (suc n) (run f (I.Take v ∷ rest) end env w stack) r
  take_case n again f v rest end env w stack r rel = go w.unread refl
    where
      l : Layout
      l = Ly rel.number f

      d1 : Data
      d1 = acts (AddImmediate 17 0 63 ∷ []) rel.data'

      behind : List AsmLine
      behind = lines (write l (home_of l v) 10) (rest_code l rest end rel.tail)

      g1 : Gets lo hi 17 63 rel.data' (AddImmediate 17 0 63 ∷ [])
      g1 = puts 17 63 rel.data' seventeen (omega arith) rel.body.zero

      went : Went q hs g On Addr Labelled 1 rel.number (Plain M.Ecall ∷ behind) d1 r
      went = goes q hs g On Addr Labelled x.laws rel.number (AddImmediate 17 0 63 ∷ []) (Plain M.Ecall ∷ behind) rel.data' r rel.on g1.safe

      now : Told went.run w
      now = told_after 1 r went.run w went.leads rel.told

      go : (bs : List ℕ) → w.unread ≡ bs → N' (suc n) (run f (I.Take v ∷ rest) end env w stack) r
      go [] e =
          let t = x.laws.takes_none rel.number behind d1 went.run went.on g1.value (now.left ∙ e) in
          let r2 : Run = record { state = (turn went.run).state; left = []; taken = went.run.taken; output = went.run.output } in
          take_done n again f v rest end env w w stack r rel (2 ^ 64 - 1) went.run r2 (omega arith) went t.turns t.on (record { bytes = now.bytes; left = sym e; taken = now.taken; output = now.output }) refl refl
          (λ m. ap (λ bs. run f rest end (slice_set env v (first_byte bs)) (took bs w) stack m) e)
      go (b ∷ bs) e =
          let t = x.laws.takes rel.number b bs behind d1 went.run went.on g1.value (now.left ∙ e) in
          let r2 : Run = record { state = (turn went.run).state; left = bs; taken = went.run.taken + 1; output = went.run.output } in
          let fresh : AllBytes (b ∷ bs) = subst (λ u. AllBytes u) e now.bytes in
          let lt = fresh.0 in
          take_done n again f v rest end env w (took (b ∷ bs) w) stack r rel b went.run r2 (omega arith) went t.turns t.on (record { bytes = fresh.1; left = refl; taken = ap (λ k. k + 1) now.taken; output = now.output }) refl refl
          (λ m. ap (λ bs. run f rest end (slice_set env v (first_byte bs)) (took bs w) stack m) e)

  -- behind a jump x6 may hold anything
  junk_stays : (d : Data) (j : ℕ) → Small d.regs → Stays d (set d 6 j)
  junk_stays d j s = record {
    zero = poke_apart d.regs 6 j 0 (λ z. omega arith);
    sp = poke_apart d.regs 6 j 2 (λ z. omega arith);
    base = poke_apart d.regs 6 j 3 (λ z. omega arith);
    kept = λ k kk. poke_apart d.regs 6 j k (free_kept 6 k (inl (inr (omega arith, omega arith))) kk);
    small = λ k n. subst (λ v. v < 2 ^ 64) (sym (poke_apart d.regs 6 j k n)) (s k n);
  }

  -- a value in x10, and then a number in x17
  record Asked (l : Layout) (d : Data) (v num : ℕ) (xs : List Straight) : Type 0 where
    value : (acts (AddImmediate 17 0 num ∷ []) (acts xs d)).regs 10 ≡ v
    number : (acts (AddImmediate 17 0 num ∷ []) (acts xs d)).regs 17 ≡ num
    first : AreSafe lo hi xs d
    second : AreSafe lo hi (AddImmediate 17 0 num ∷ []) (acts xs d)
    stays : Stays d (acts (AddImmediate 17 0 num ∷ []) (acts xs d))
    mem : (acts (AddImmediate 17 0 num ∷ []) (acts xs d)).mem ≡ d.mem

  asks : (l : Layout) (d : Data) (v num : ℕ) (xs : List Straight) → num < 2 ^ 64 → d.regs 0 ≡ 0 → Small d.regs → Gets lo hi 10 v d xs → Asked l d v num xs
  asks l d v num xs lt z sm a =
      let d1 = acts xs d in
      let s1 = gets_stays lo hi 10 v d xs ten a sm in
      let b = puts 17 num d1 seventeen lt (s1.zero ∙ z) in
      let s2 = gets_stays lo hi 17 num d1 (AddImmediate 17 0 num ∷ []) seventeen b s1.small in
      record {
        value = b.others 10 (λ e. omega arith) (λ e. omega arith) ∙ a.value;
        number = b.value;
        first = a.safe;
        second = b.safe;
        stays = record { zero = s2.zero ∙ s1.zero; sp = s2.sp ∙ s1.sp; base = s2.base ∙ s1.base; kept = λ k kk. s2.kept k kk ∙ s1.kept k kk; small = s2.small };
        mem = b.mem ∙ a.mem;
      }

  pub give_case : (n : ℕ) → A' n → (f : BlockProc) (y : ℕ) (rest : List BlockInsn) (end : BlockEnd) (env : List ℕ) (w : World) (stack : List B.Waiting) (r : Run) → R' f (I.Give y ∷ rest) end env w stack r → N' (suc n) (run f (I.Give y ∷ rest) end env w stack) r
  give_case n again f y rest end env w stack r rel =
      let i = rel.number in
      let l = Ly i f in
      let d = rel.data' in
      let is = x.laid i f rel.is in
      let h = home_of l y in
      let now = I.Give y in
      let ih = home_low q hs g On Addr Labelled x f (now ∷ rest) end env w stack r rel y (0, omega arith, refl) in
      let ey = home_is q hs g On Addr Labelled x f (now ∷ rest) end env w stack r rel y (0, omega arith, refl) in
      let xs = read l h 10 in
      let a = asks l d (at_home l d h) 64 xs (omega arith) rel.body.zero rel.body.small (reads q hs g x.can.room Addr x.bounded f l w stack d 10 h is ih (free_target 10 ten) rel.body) in
      let code = rest_code l rest end rel.tail in
      let d1 = acts xs d in
      let d2 = acts (AddImmediate 17 0 64 ∷ []) d1 in
      let t1 = goes q hs g On Addr Labelled x.laws i xs (system_call 64 code) d r rel.on a.first in
      let t2 = goes q hs g On Addr Labelled x.laws i (AddImmediate 17 0 64 ∷ []) (Plain M.Ecall ∷ code) d1 t1.run t1.on a.second in
      let t = went_then q hs g On Addr Labelled (length xs) 1 i i (system_call 64 code) (Plain M.Ecall ∷ code) d1 d2 r t1 t2 in
      let told = told_after (length xs + 1) r t.run w t.leads rel.told in
      let u = x.laws.gives i code d2 t.run t.on a.number in
      let r2 : Run = record { state = (turn t.run).state; left = t.run.left; taken = t.run.taken; output = t.run.output ++ (d2.regs 10 % 256) ∷ [] } in
      let v = slice_index env y % 256 in
      let ev : d2.regs 10 % 256 ≡ v = ap (λ k. k % 256) (a.value ∙ ey) in
      let few = read_few l h 10 in
      let dear = x.dear in
      proceeds_seen q hs g On Addr Labelled x n again (run f (now ∷ rest) end env w stack) w r rel.told (x.laws.ready i _ d r rel.on) f rest end env (gave w v) stack (length xs + 1) 0 t.run r2 r2 t.leads u.turns (leads_none r2 (x.laws.ready i code d2 r2 u.on)) (omega (arith, few.1))
      (record {
        number = i;
        is = rel.is;
        data' = d2;
        tail = rel.tail;
        on = u.on;
        told = record { bytes = told.bytes; left = told.left; taken = told.taken; output = ap (λ o. o ++ (d2.regs 10 % 256) ∷ []) told.output ∙ ap (λ k. w.output ++ k ∷ []) ev };
        frames = rel.frames;
        level = rel.level;
        at = moved_none f (places_of l.homes) now rest end env (cells l d2) refl (scratched_at q hs g x.can.room Addr x.bounded f l (now ∷ rest) end env d d2 is a.stays a.mem rel.at);
        body = body_world l w (gave w v) stack d2 refl (scratched q hs g x.can.room Addr x.bounded f l w stack d d2 is a.stays a.mem rel.body);
      }) refl (λ m. refl)

  -- to a block, after k instructions
  goes_to_block : (n : ℕ) → A' n → (a : Behaviour) (f : BlockProc) (end : BlockEnd) (env : List ℕ) (w : World) (stack : List B.Waiting) (r : Run) (i : ℕ) → IsProc q i f → Told r w → r.state.mode ≡ mode.Ready → w.frames ≡ f.frame + total stack → Level_of q hs g On Addr Labelled x i f stack
      → (t : ℕ) → Contains (goes_to end) t → (d : Data) → Bo (Ly i f) w stack d → At f (places_of (Ly i f).homes) [] end env (cells (Ly i f) d)
      → (k : ℕ) (r1 : Run) → Leads k r r1 → k + 3 ≤ x.K → ((to : List AsmLine) → Labelled i t to → Jumped q hs g On Addr Labelled i to d r1)
      → a 0 ≡ F.seen w Running → ((m : ℕ) → a (suc m) ≡ B.at_block (slice_get f.blocks t) (B.exec q.procs (at_places q hs g On Addr Labelled x) m) f env w stack) → N' (suc n) a r
  goes_to_block n again a f end env w stack r i ip told ready frames level t ct d body at k r1 l1 le jumps e0 e = go (slice_get f.blocks t) refl
    where
      go : (o : Option Block) → slice_get f.blocks t ≡ o → N' (suc n) a r
      go None eo = goes_wrong q hs g On Addr Labelled x (suc n) a w r told ready e0 (λ m. e m ∙ ap (λ o. B.at_block o (B.exec q.procs (at_places q hs g On Addr Labelled x) m) f env w stack) eo)
      go (Some b) eo =
          let l = Ly i f in
          let is = x.laid i f ip in
          let p = x.blocks i f ip t b eo in
          let j = jumps (rest_code l b.insns b.end p.tail) p.stands in
          let d' = set d 6 j.junk in
          let st = junk_stays d j.junk body.small in
          let all = leads_then k j.count r r1 j.went.run l1 j.went.leads in
          let low = j.some in
          let high = j.few in
          proceeds q hs g On Addr Labelled x n again a w r told ready f b.insns b.end env w stack (k + j.count) j.went.run all (omega arith) (omega arith)
          (record {
            number = i;
            is = ip;
            data' = d';
            tail = p.tail;
            on = j.went.on;
            told = told_after (k + j.count) r j.went.run w all told;
            frames = frames;
            level = level;
            at = scratched_at q hs g x.can.room Addr x.bounded f l b.insns b.end env d d' is st refl (next_block f (places_of l.homes) end env (cells l d) t b at ct eo);
            body = scratched q hs g x.can.room Addr x.bounded f l w stack d d' is st refl body;
          }) e0 (λ m. e m ∙ ap (λ o. B.at_block o (B.exec q.procs (at_places q hs g On Addr Labelled x) m) f env w stack) eo)

  pub jump_case : (n : ℕ) → A' n → (f : BlockProc) (b : ℕ) (env : List ℕ) (w : World) (stack : List B.Waiting) (r : Run) → R' f [] (E.Jump b) env w stack r → N' (suc n) (run f [] (E.Jump b) env w stack) r
  jump_case n again f b env w stack r rel =
      let dear = x.dear in
      let ready = x.laws.ready rel.number _ rel.data' r rel.on in
      goes_to_block n again (run f [] (E.Jump b) env w stack) f (E.Jump b) env w stack r rel.number rel.is rel.told ready rel.frames rel.level b (0, omega arith, refl) rel.data' rel.body rel.at 0 r (leads_none r ready) (omega arith)
      (λ to s. x.laws.jump rel.number b rel.tail to rel.data' r rel.on s) refl (λ m. refl)

  branch_in : (v y a b : ℕ) → Contains (goes_to (E.Branch y a b)) (B.branch_to v a b)
  branch_in zero y a b = (1, omega arith, refl)
  branch_in (suc v) y a b = (0, omega arith, refl)

  pub branch_case : (n : ℕ) → A' n → (f : BlockProc) (y a b : ℕ) (env : List ℕ) (w : World) (stack : List B.Waiting) (r : Run) → R' f [] (E.Branch y a b) env w stack r → N' (suc n) (run f [] (E.Branch y a b) env w stack) r
  branch_case n again f y a b env w stack r rel = by (slice_index env y) refl
    where
      i : ℕ
      i = rel.number

      l : Layout
      l = Ly i f

      d : Data
      d = rel.data'

      h : Home
      h = home_of l y

      end : BlockEnd
      end = E.Branch y a b

      is : Laid f l
      is = x.laid i f rel.is

      ih : IsHome f.values h
      ih = home_low q hs g On Addr Labelled x f [] end env w stack r rel y (0, omega arith, refl)

      xs : List Straight
      xs = fetch l h 5

      ry : ℕ
      ry = operand_register h 5

      got : Fetched lo hi 5 ry (at_home l d h) d xs
      got = fetches q hs g x.can.room Addr x.bounded f l w stack d 5 h is ih (free_target 5 five) rel.body

      st : Stays d (acts xs d)
      st = fetched_stays lo hi 5 ry (at_home l d h) d xs five got rel.body.small

      lines1 : List AsmLine
      lines1 = Branch (M.Bne ry 0 0) a ∷ Branch (M.Jal 0 0) b ∷ rel.tail

      t1 : Went q hs g On Addr Labelled (length xs) i lines1 (acts xs d) r
      t1 = goes q hs g On Addr Labelled x.laws i xs lines1 d r rel.on got.safe

      value : (acts xs d).regs ry ≡ slice_index env y
      value = got.value ∙ home_is q hs g On Addr Labelled x f [] end env w stack r rel y (0, omega arith, refl)

      z : (acts xs d).regs 0 ≡ 0
      z = st.zero ∙ rel.body.zero

      body1 : Bo l w stack (acts xs d)
      body1 = scratched q hs g x.can.room Addr x.bounded f l w stack d (acts xs d) is st got.mem rel.body

      at1 : At f (places_of l.homes) [] end env (cells l (acts xs d))
      at1 = scratched_at q hs g x.can.room Addr x.bounded f l [] end env d (acts xs d) is st got.mem rel.at

      ready : r.state.mode ≡ mode.Ready
      ready = x.laws.ready i _ d r rel.on

      few : length xs ≤ 10
      few = fetch_few l h 5

      rylow : ry < 32
      rylow = operand_low f.values 5 h ih (omega arith)

      step : (v : ℕ) → slice_index env y ≡ v → (m : ℕ) → run f [] end env w stack (suc m) ≡ B.at_block (slice_get f.blocks (B.branch_to v a b)) (B.exec q.procs (at_places q hs g On Addr Labelled x) m) f env w stack
      step v e m = ap (λ k. B.at_block (slice_get f.blocks (B.branch_to k a b)) (B.exec q.procs (at_places q hs g On Addr Labelled x) m) f env w stack) e

      by : (v : ℕ) → slice_index env y ≡ v → N' (suc n) (run f [] end env w stack) r
      by zero e =
          let t2 = x.laws.passed i ry a (Branch (M.Jal 0 0) b ∷ rel.tail) (acts xs d) t1.run t1.on rylow z (value ∙ e) in
          let t = went_then q hs g On Addr Labelled (length xs) 1 i i lines1 (Branch (M.Jal 0 0) b ∷ rel.tail) (acts xs d) (acts xs d) r t1 t2 in
          let dear = x.dear in
          goes_to_block n again (run f [] end env w stack) f end env w stack r i rel.is rel.told ready rel.frames rel.level b (branch_in zero y a b) (acts xs d) body1 at1 (length xs + 1) t.run t.leads (omega (arith, few))
          (λ to s. x.laws.jump i b rel.tail to (acts xs d) t.run t.on s) refl (step zero e)
      by (suc v) e =
          let dear = x.dear in
          let nz : ¬ ((acts xs d).regs ry ≡ 0) = λ c. (let k = value ∙ e in omega arith) in
          goes_to_block n again (run f [] end env w stack) f end env w stack r i rel.is rel.told ready rel.frames rel.level a (branch_in (suc v) y a b) (acts xs d) body1 at1 (length xs) t1.run t1.leads (omega (arith, few))
          (λ to s. x.laws.taken i ry a (Branch (M.Jal 0 0) b ∷ rel.tail) to (acts xs d) t1.run t1.on rylow z nz s) refl (step (suc v) e)

  seen_end : (r2 : Run) (w : World) (e : Ending) → r2.taken ≡ w.taken → r2.output ≡ w.output → mode_ending r2.state.mode ≡ e → seen r2 ≡ F.seen w e
  seen_end r2 w e et eo em = same r2.output w.output r2.taken w.taken (mode_ending r2.state.mode) e eo et em
    where
      same : (o o' : List ℕ) (t t' : ℕ) (m m' : Ending) → o ≡ o' → t ≡ t' → m ≡ m' → so o t m ≡ so o' t' m'
      same o o' t t' m m' p q s = λ i. so (p i) (q i) (s i)

  pub stop_case : (n : ℕ) (f : BlockProc) (y : ℕ) (env : List ℕ) (w : World) (stack : List B.Waiting) (r : Run) → R' f [] (E.Stop y) env w stack r → N' n (run f [] (E.Stop y) env w stack) r
  stop_case n f y env w stack r rel =
      let i = rel.number in
      let l = Ly i f in
      let d = rel.data' in
      let is = x.laid i f rel.is in
      let h = home_of l y in
      let ih = home_low q hs g On Addr Labelled x f [] (E.Stop y) env w stack r rel y (0, omega arith, refl) in
      let ey = home_is q hs g On Addr Labelled x f [] (E.Stop y) env w stack r rel y (0, omega arith, refl) in
      let xs = read l h 10 in
      let a = asks l d (at_home l d h) 93 xs (omega arith) rel.body.zero rel.body.small (reads q hs g x.can.room Addr x.bounded f l w stack d 10 h is ih (free_target 10 ten) rel.body) in
      let d1 = acts xs d in
      let d2 = acts (AddImmediate 17 0 93 ∷ []) d1 in
      let t1 = goes q hs g On Addr Labelled x.laws i xs (system_call 93 rel.tail) d r rel.on a.first in
      let t2 = goes q hs g On Addr Labelled x.laws i (AddImmediate 17 0 93 ∷ []) (Plain M.Ecall ∷ rel.tail) d1 t1.run t1.on a.second in
      let t = went_then q hs g On Addr Labelled (length xs) 1 i i (system_call 93 rel.tail) (Plain M.Ecall ∷ rel.tail) d1 d2 r t1 t2 in
      let told = told_after (length xs + 1) r t.run w t.leads rel.told in
      let code = cast_signed w32 (d2.regs 10 % 2 ^ 32) in
      let r2 : Run = record { state = record t.run.state { mode = mode.Ended (event.Exit code) }; left = t.run.left; taken = t.run.taken; output = t.run.output } in
      let ends : R.Stopped code ≡ stop_code (slice_index env y) = ap (λ v. R.Stopped (cast_signed w32 (v % 2 ^ 32))) (a.value ∙ ey) in
      let few = read_few l h 10 in
      let dear = x.dear in
      ends_now q hs g On Addr Labelled x n (run f [] (E.Stop y) env w stack) w (stop_code (slice_index env y)) r rel.told (x.laws.ready i _ d r rel.on) (length xs + 1) t.run r2 (event.Exit code) t.leads (x.laws.stops i rel.tail d2 t.run t.on a.number) refl (seen_end r2 w (stop_code (slice_index env y)) told.taken told.output ends) (omega (arith, few.1)) refl (λ m. refl)

  limit_small : (e : Exceeded) → limit_number e ≤ 1
  limit_small X.Frames = omega arith
  limit_small X.Objects = omega arith

  limit_ends : (e : Exceeded) → mode_ending (mode.Ended (event.Limited (limit_number e))) ≡ R.Limited (limit_of e)
  limit_ends X.Frames = refl
  limit_ends X.Objects = refl

  -- the run ends at a limit, after k instructions
  pub ends_limited : (n : ℕ) (a : Behaviour) (w : World) (r r1 : Run) (i : ℕ) (e : Exceeded) (tail : List AsmLine) (d : Data) (k : ℕ) → Told r w → r.state.mode ≡ mode.Ready → Leads k r r1 → On i (limit_code (limit_number e) tail) d r1 → d.regs 0 ≡ 0 → Small d.regs → k + 3 ≤ x.K → a 0 ≡ F.seen w Running → ((m : ℕ) → a (suc m) ≡ F.seen w (R.Limited (limit_of e))) → N' n a r
  ends_limited n a w r r1 i e tail d k told ready l1 on z0 sm le e0 es =
      let num = limit_number e in
      let lt = limit_small e in
      let g1 = puts 10 num d ten (omega arith) z0 in
      let b = asks (record { homes = []; words = 0; size = 0 }) d num 94 (AddImmediate 10 0 num ∷ []) (omega arith) z0 sm g1 in
      let d1 = acts (AddImmediate 10 0 num ∷ []) d in
      let d2 = acts (AddImmediate 17 0 94 ∷ []) d1 in
      let t1 = goes q hs g On Addr Labelled x.laws i (AddImmediate 10 0 num ∷ []) (system_call 94 tail) d r1 on b.first in
      let t2 = goes q hs g On Addr Labelled x.laws i (AddImmediate 17 0 94 ∷ []) (Plain M.Ecall ∷ tail) d1 t1.run t1.on b.second in
      let all = leads_then (k + 1) 1 r t1.run t2.run (leads_then k 1 r r1 t1.run l1 t1.leads) t2.leads in
      let told2 = told_after (k + 1 + 1) r t2.run w all told in
      let r2 : Run = record { state = record t2.run.state { mode = mode.Ended (event.Limited num) }; left = t2.run.left; taken = t2.run.taken; output = t2.run.output } in
      ends_now q hs g On Addr Labelled x n a w (R.Limited (limit_of e)) r told ready (k + 1 + 1) t2.run r2 (event.Limited num) all (x.laws.limits i num tail d2 t2.run t2.on b.number b.value lt) refl (seen_end r2 w (R.Limited (limit_of e)) told2.taken told2.output (limit_ends e)) (omega arith) e0 es

  pub limit_case : (n : ℕ) (f : BlockProc) (e : Exceeded) (env : List ℕ) (w : World) (stack : List B.Waiting) (r : Run) → R' f [] (E.Limit e) env w stack r → N' n (run f [] (E.Limit e) env w stack) r
  limit_case n f e env w stack r rel =
      let ready = x.laws.ready rel.number _ rel.data' r rel.on in
      let dear = x.dear in
      ends_limited n (run f [] (E.Limit e) env w stack) w r r rel.number e rel.tail rel.data' 0 rel.told ready (leads_none r ready) rel.on rel.body.zero rel.body.small (omega arith) refl (λ m. refl)
