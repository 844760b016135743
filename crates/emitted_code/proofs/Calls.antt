-- Calls: a procedure begins.
use Rattle.std.proofs.Common.{◌≡◌, ℕ, zero, suc, ◌+◌, ◌-◌, ◌*◌, ◌/◌, ◌%◌, ◌^◌, ◌<◌, ◌≤◌, ◌⊎◌, inl, inr, Bool, true, false, cond, List, [], ◌∷◌, ◌++◌, length, Option, Some, None, refl, sym, ap, ◌∙◌, subst, arith, length-append}
use Rattle.std.specs.Prelude.{slice_get, slice_index, Contains, nat_le, nat_eq, ◌==◌, ◌||◌, replicate, if◌then◌else◌}
use Rattle.std.proofs.Math.Nat.{le-max_left, le-max_right}
use Rattle.std.proofs.lemmas.Bool.Decides.{nat_tests}
use Rattle.behaviour.specs.Behaviour as R
use Rattle.behaviour.specs.Behaviour.{Running, Wrong, Behaviour}
use Rattle.flat_ir.specs.declared.program.Exceeded.TheVariants as X
use Rattle.flat_ir.specs.declared.program.Operation.TheVariants as O
use Rattle.flat_ir.specs.Bytes.{Bytes, number}
use Rattle.flat_ir.specs.Ranges.{AreBytes}
use Rattle.flat_ir.specs.Placement.{Placement, heap_end, proc_at}
use Rattle.flat_ir.specs.Flat as F
use Rattle.flat_ir.specs.Flat.{World, with_frames, frame_of, charged}
use Rattle.flat_ir.proofs.Framing.{poke_same, poke_apart, number_alike}
use Rattle.flatten.specs.declared.blocks.BlockInsn.{BlockInsn}
use Rattle.flatten.specs.declared.blocks.BlockInsn.TheVariants as I
use Rattle.flatten.specs.declared.blocks.BlockEnd.{BlockEnd}
use Rattle.flatten.specs.declared.blocks.Block.{Block}
use Rattle.flatten.specs.declared.blocks.BlockProc.{BlockProc}
use Rattle.flatten.specs.declared.blocks.BlockProgram.{BlockProgram}
use Rattle.flatten.specs.Blocks as B
use Rattle.flatten.specs.Paths.{sets}
use Rattle.block_homes.specs.declared.homes.Home.{Home}
use Rattle.block_homes.specs.declared.homes.Assignment.{Assignment}
use Rattle.block_homes.specs.Held.{places_of, uses_from}
use Rattle.block_homes.specs.Homed.{passed}
use Rattle.block_homes.specs.Valid.{IsHome, IsNamed}
use Rattle.block_homes.proofs.Lockstep.{At, first_block}
use Rattle.rv_isa.specs.declared.insn.Insn.TheVariants as M
use Rattle.rv_assemble.specs.declared.unit.AsmLine.{AsmLine}
use Rattle.rv_assemble.specs.declared.unit.AsmLine.TheVariants.{Plain, Branch, Call}
use Rattle.rv_machine.specs.declared.event.Mode.TheVariants as mode
use Rattle.rv_machine.specs.Exec.{Run}
use Rattle.assembled_run.specs.Machine.{Leads}
use Rattle.assembled_run.proofs.Leads.{leads_then}
use Rattle.emitted_code.specs.Straight.{Straight, Operate, lines, load_number}
use Rattle.emitted_code.specs.Names.{proc_name}
use Rattle.emitted_code.specs.Frames.{Layout, home_of, save_at, saved_of, is_charged, frame_size, need, words_of, most_words, words_of_blocks}
use Rattle.emitted_code.specs.Code.{read, pass, receive, take_results, save, rest_code, blocks_code, past_code, enter_code, proc_lines, limit_code}
use Rattle.emitted_code.specs.Units.{first_size}
use Rattle.emitted_code.specs.Placed.{AllBytes}
use Rattle.emitted_code.specs.Room.{IsProc, HasInsn, IsRoutine, HasRoom}
use Rattle.emitted_code.proofs.Data.{Data, set, act, acts, acts_append, AreSafe, safe_append, Gets, Small, poke_small}
use Rattle.emitted_code.proofs.Constants.{gets_number, number_few}
use Rattle.emitted_code.proofs.Relate.{at_home, cells, Laid, cell_home, kept_range, free_kept, Stays, at_alike, sizes, total, IsOwn, Suspended, depth, apart, Body, spans, is_plain, top, floor, first_bytes_taken}
use Rattle.emitted_code.proofs.Values.{gets_stays, seven, six, free_target, reads, home_small, scratched, scratched_at}
use Rattle.emitted_code.proofs.Saves.{IsSaved, saved_range, Saved, saves, save_few}
use Rattle.emitted_code.proofs.Args.{arg_at, arg_same, pass_few, receive_few, Passed, passes, homes_kept, Received, receives}
use Rattle.emitted_code.proofs.Returns.{saved_few}
use Rattle.emitted_code.proofs.LineLaws.{Went, goes}
use Rattle.emitted_code.proofs.States.{Told, told_after, Given, at_places, Level_of, Again, Now, proceeds, goes_wrong}
use Rattle.emitted_code.proofs.Simple.{Rel, Lay, run_of, home_is, home_low, has_insn, read_few}
use Rattle.emitted_code.proofs.Ends.{ends_limited}

held_length : (env ys : List ℕ) → length (B.held env ys) ≡ length ys
held_length env [] = refl
held_length env (y ∷ ys) = omega (arith, held_length env ys)

-- the bytes that an uncharged entry takes are among those beside the limit
pub size_low : (f : BlockProc) → is_charged f ≡ false → (frame_size f ≤ need f) × (f.frame ≡ 0)
size_low f e =
    let z : f.frame ≡ 0 = grind (arith, nat_tests) in
    let s : frame_size f ≡ need f / 16 * 16 = ap (λ b. cond b f.frame (need f / 16 * 16)) e in
    (omega (arith, s), z)

size_charged : (f : BlockProc) → is_charged f ≡ true → frame_size f ≡ f.frame
size_charged f e = ap (λ b. cond b f.frame (need f / 16 * 16)) e

pub first_most : (q : BlockProgram) (room : HasRoom q) → first_size (slice_get q.procs q.entry) + room.most ≤ 8192
first_most q room = go (slice_get q.procs q.entry) refl
  where
    charged' : (e : BlockProc) → IsProc q q.entry e → (b : Bool) → is_charged e ≡ b → cond b 0 (frame_size e) + room.most ≤ 8192
    charged' e ie true h = (let b = room.bound in omega arith)
    charged' e ie false h = (let a = (room.alone e ie h).fits in let s = (size_low e h).0 in omega arith)

    go : (o : Option BlockProc) → slice_get q.procs q.entry ≡ o → first_size o + room.most ≤ 8192
    go None e = (let b = room.bound in omega arith)
    go (Some f) e = charged' f e (is_charged f) refl

module _ (q : BlockProgram) (hs : List Assignment) (g : Placement) (On : ℕ → List AsmLine → Data → Run → Type 0) (Addr : ℕ → List AsmLine → ℕ → Type 0) (Labelled : ℕ → ℕ → List AsmLine → Type 0) (x : Given q hs g On Addr Labelled) where
  abbrev lo : ℕ
  lo = g.image

  abbrev hi : ℕ
  hi = heap_end (length q.image) g

  abbrev Ly : ℕ → BlockProc → Layout
  Ly i f = Lay q hs g On Addr Labelled x i f

  abbrev Bo : Layout → World → List B.Waiting → Data → Type 0
  Bo l w stack d = Body q hs g x.can.room Addr l w stack d

  abbrev Hangs : List B.Waiting → Bytes → (ℕ → ℕ) → Type 0
  Hangs st mem regs = Suspended q hs g x.can.room Addr st mem regs

  abbrev N' : ℕ → Behaviour → Run → Type 0
  N' n a r = Now q hs g On Addr Labelled x n a r

  abbrev go_on : ℕ → B.Go
  go_on m = B.exec q.procs (at_places q hs g On Addr Labelled x) m

  abbrev limit : ℕ
  limit = g.limits.frames

  abbrev first : ℕ
  first = first_bytes_taken q hs g x.can.room Addr

  -- what a procedure finds where it begins
  pub record Found (vs : List ℕ) (w : World) (st : List B.Waiting) (d : Data) : Type 0 where
    pub memory : (a : ℕ) → IsOwn (length q.image) g a → d.mem a ≡ w.memory a
    pub bytes : AreBytes d.mem
    pub zero : d.regs 0 ≡ 0
    pub base : d.regs 3 ≡ floor q hs g x.can.room Addr + 8192 - first
    pub aligned : d.regs 2 % 8 ≡ 0
    pub small : Small d.regs
    pub rest : Hangs st d.mem d.regs
    pub args : (j : ℕ) → j < length vs → arg_at (d.regs 2) d j ≡ slice_index vs j
    pub wide : (j : ℕ) → 8 ≤ j → j < length vs → d.regs 2 + 8 * (j - 8) + 8 ≤ top q hs g x.can.room Addr

  -- how a procedure may begin over what waits
  pub record Enters (p : ℕ) (f : BlockProc) (w : World) (st : List B.Waiting) : Type 0 where
    pub frames : w.frames ≡ total st
    pub within : total st ≤ limit
    pub charged : is_charged f ≡ true → sizes st ≡ total st + first
    pub uncharged : is_charged f ≡ false → Level_of q hs g On Addr Labelled x p f st × (frame_size f + sizes st ≤ limit + 8192)

  -- room was made for the frame, after k instructions
  begins : (n : ℕ) → Again q hs g On Addr Labelled x n → (a : Behaviour) (p : ℕ) (f : BlockProc) (ip : IsProc q p f) (vs : List ℕ) (w w0 : World) (st : List B.Waiting) (r rL : Run) (d dL : Data) (k : ℕ) (tail : List AsmLine) → Told r w0 → r.state.mode ≡ mode.Ready → Leads k r rL
      → On p (lines (save (Ly p f) (saved_of (Ly p f)) ++ receive (Ly p f) f.params) (blocks_code (Ly p f) 0 f.blocks tail)) dL rL → Found vs w0 st d → w.memory ≡ w0.memory → w.unread ≡ w0.unread → w.taken ≡ w0.taken → w.output ≡ w0.output → w.frames ≡ f.frame + total st → Level_of q hs g On Addr Labelled x p f st → frame_size f + sizes st ≤ limit + 8192
      → length vs ≡ f.params → dL.regs 2 ≡ d.regs 2 - frame_size f → dL.mem ≡ d.mem → ((r : ℕ) → ¬ (r ≡ 2) → ¬ (r ≡ 5) → ¬ (r ≡ 6) → ¬ (r ≡ 7) → dL.regs r ≡ d.regs r) → Small dL.regs → 1 ≤ k → k ≤ 20 * f.params + 30
      → a 0 ≡ F.seen w0 Running → ((m : ℕ) → a (suc m) ≡ B.at_block (slice_get f.blocks 0) (go_on m) f (vs ++ replicate (f.values - f.params) 0) w st) → N' (suc n) a r
  begins n again a p f ip vs w w0 st r rL d dL k tail told ready lead on t em eu et eo frames level room' ev e2 emem eregs sm some' few e0 e = go f.blocks refl
    where
      l : Layout
      l = Ly p f

      is : Laid f l
      is = x.laid p f ip

      hs' : List ℕ
      hs' = saved_of l

      all : d.regs 2 + sizes st ≡ top q hs g x.can.room Addr
      all = depth q hs g x.can.room Addr st d.mem d.regs t.rest

      down : dL.regs 2 + l.size ≡ d.regs 2
      down = let a = all in omega arith

      bottom : floor q hs g x.can.room Addr ≤ dL.regs 2
      bottom = let a = all in omega arith

      even : dL.regs 2 % 8 ≡ 0
      even = let a = t.aligned in let b = is.even in let c = down in omega arith

      fit : dL.regs 2 + 8 * l.words + 104 ≤ hi
      fit = let a = all in let b = down in let c = is.fits in omega arith

      bot : lo ≤ dL.regs 2
      bot = let a = bottom in omega arith

      zero' : dL.regs 0 ≡ 0
      zero' = eregs 0 (λ z. omega arith) (λ z. omega arith) (λ z. omega arith) (λ z. omega arith) ∙ t.zero

      bytesL : AreBytes dL.mem
      bytesL = λ i. subst (λ (m : Bytes). m i < 256) (sym emem) (t.bytes i)

      s : Saved lo hi x.bounded l (dL.regs 2) bot even fit hs' dL
      s = saves lo hi x.bounded l (dL.regs 2) bot even fit hs' dL refl is.saves zero' sm bytesL

      dS : Data
      dS = acts (save l hs') dL

      kept_same : (h : ℕ) → IsSaved h → dL.regs h ≡ d.regs h
      kept_same h k = (let c = saved_range h k in eregs h c.3 (not_five h k) c.2 c.1)
        where
          not_five : (h : ℕ) → IsSaved h → ¬ (h ≡ 5)
          not_five h (inl e) z = omega arith
          not_five h (inr k) z = (let c = (kept_range h k).0 in omega arith)

      base_is : d.regs 2 ≡ dS.regs 2 + l.size
      base_is = sym down ∙ ap (λ z. z + l.size) (sym (s.regs 2 (λ z. omega arith)))

      body : Bo l w st dS
      body = record {
        memory = λ i o. s.apart i (own i o) ∙ (ap (λ (m : Bytes). m i) emem ∙ (t.memory i o ∙ ap (λ (m : Bytes). m i) (sym em)));
        bytes = s.bytes;
        zero = s.regs 0 (λ z. omega arith) ∙ zero';
        base = s.regs 3 (λ z. omega arith) ∙ (eregs 3 (λ z. omega arith) (λ z. omega arith) (λ z. omega arith) (λ z. omega arith) ∙ t.base);
        low = (let a = s.regs 2 (λ z. omega arith) in let b = bottom in omega arith);
        aligned = ap (λ z. z % 8) (s.regs 2 (λ z. omega arith)) ∙ even;
        small = s.small;
        frame = record {
          caller = d.regs;
          above = base_is;
          saved = λ h i. ap (λ z. number 8 dS.mem (z + save_at l h)) (s.regs 2 (λ z. omega arith)) ∙ (s.there h (is.saves h i) (inl i) ∙ kept_same h (is.saves h i));
          others = λ h k n. s.regs h (free_kept 7 h seven k) ∙ kept_same h (inr k);
          rest = apart q hs g x.can.room Addr st d.mem dS.mem d.regs (λ i low high. s.apart i (inr (let c = is.fits in let b = down in omega arith)) ∙ ap (λ (m : Bytes). m i) emem) t.rest;
        };
      }
        where
          own : (i : ℕ) → IsOwn (length q.image) g i → (i < dL.regs 2 + 8 * l.words) ⊎ (dL.regs 2 + 8 * l.words + 104 ≤ i)
          own i (inl o) = (let o1 = o.1 in let b = bottom in inl (omega arith))
          own i (inr o) = (let o0 = o.0 in let a = all in let b = down in let c = is.fits in inr (omega arith))

      start : Received q hs g x.can.room Addr x.bounded f l w st vs (cells l dS) 0 (d.regs 2) dS
      start = record {
        body = body;
        held = λ u lu. refl;
        args = λ j lj. arg_same (d.regs 2) d dS j (λ l8. s.regs (10 + j) (λ z. omega arith) ∙ eregs (10 + j) (λ z. omega arith) (λ z. omega arith) (λ z. omega arith) (λ z. omega arith)) (λ g8. number_alike 8 d.mem dS.mem (d.regs 2 + 8 * (j - 8)) (λ i low high. s.apart i (inr (let c = is.fits in let b = down in omega arith)) ∙ ap (λ (m : Bytes). m i) emem)) ∙ t.args j lj;
        base_is = base_is;
      }

      named : IsNamed f
      named = (x.can.valid p f ip).0

      got : Received q hs g x.can.room Addr x.bounded f l w st vs (cells l dS) f.params (d.regs 2) (acts (receive l f.params) dS) × AreSafe lo hi (receive l f.params) dS
      got = receives q hs g x.can.room Addr x.bounded f l w st vs (cells l dS) f.params (d.regs 2) dS is named.params (omega (arith, ev)) t.wide start

      xs : List Straight
      xs = save l hs' ++ receive l f.params

      dR : Data
      dR = acts (receive l f.params) dS

      went : Went q hs g On Addr Labelled (length xs) p (blocks_code l 0 f.blocks tail) dR rL
      went = subst (λ e. Went q hs g On Addr Labelled (length xs) p (blocks_code l 0 f.blocks tail) e rL) (acts_append (save l hs') (receive l f.params) dL) (goes q hs g On Addr Labelled x.laws p xs (blocks_code l 0 f.blocks tail) dL rL on (safe_append lo hi (save l hs') (receive l f.params) dL s.safe got.1))

      lead2 : Leads (k + length xs) r went.run
      lead2 = leads_then k (length xs) r rL went.run lead went.leads

      long : length xs ≤ 130 + 20 * f.params
      long = omega (arith, length-append (save l hs') (receive l f.params), save_few l hs', saved_few l, receive_few l f.params)

      go : (bs : List Block) → f.blocks ≡ bs → N' (suc n) a r
      go [] eb = goes_wrong q hs g On Addr Labelled x (suc n) a w0 r told ready e0 (λ m. e m ∙ (ap (λ bs. B.at_block (slice_get bs 0) (go_on m) f (vs ++ replicate (f.values - f.params) 0) w st) eb ∙ world_seen))
        where
          world_seen : F.seen w Wrong ≡ F.seen w0 Wrong
          world_seen = λ i. record { output = eo i; taken = et i; ending = Wrong }
      go (b ∷ bs) eb =
          let here : slice_get f.blocks 0 ≡ Some b = ap (λ bs. slice_get bs 0) eb in
          let at0 = first_block f (places_of l.homes) vs (cells l dS) b named (x.can.valid p f ip).1 ev here in
          let on1 = subst (λ bs. On p (blocks_code l 0 bs tail) dR went.run) eb went.on in
          let on2 = x.laws.label p 0 (rest_code l b.insns b.end (blocks_code l 1 bs tail)) dR went.run on1 in
          let told2 = told_after (k + length xs) r went.run w0 lead2 told in
          let dear = x.cost p f ip in
          let lg = long in
          proceeds q hs g On Addr Labelled x n again a w0 r told ready f b.insns b.end (vs ++ replicate (f.values - f.params) 0) w st (k + length xs) went.run lead2 (omega arith) (omega arith)
          (record {
            number = p;
            is = ip;
            data' = dR;
            tail = blocks_code l 1 bs tail;
            on = on2;
            told = record { bytes = subst (λ u. AllBytes u) (sym eu) told2.bytes; left = told2.left ∙ sym eu; taken = told2.taken ∙ sym et; output = told2.output ∙ sym eo };
            frames = frames;
            level = level;
            at = at_alike f (places_of l.homes) b.insns b.end (vs ++ replicate (f.values - f.params) 0) (passed (places_of l.homes) vs (cells l dS) f.params) (cells l dR) (λ u lu. got.0.held u lu) at0;
            body = got.0.body;
          }) e0 (λ m. e m ∙ ap (λ o. B.at_block o (go_on m) f (vs ++ replicate (f.values - f.params) 0) w st) here)

  -- room is made: x6 has the size
  lowers : (l : Layout) (d e : Data) → l.size ≤ d.regs 2 → d.regs 2 < 2 ^ 63 → e.regs 2 ≡ d.regs 2 → e.regs 6 ≡ l.size → e.mem ≡ d.mem → ((r : ℕ) → ¬ (r ≡ 5) → ¬ (r ≡ 6) → ¬ (r ≡ 7) → e.regs r ≡ d.regs r) → Small e.regs
      → ((act (Operate O.Sub 2 2 6) e).regs 2 ≡ d.regs 2 - l.size) × ((act (Operate O.Sub 2 2 6) e).mem ≡ d.mem) × ((r : ℕ) → ¬ (r ≡ 2) → ¬ (r ≡ 5) → ¬ (r ≡ 6) → ¬ (r ≡ 7) → (act (Operate O.Sub 2 2 6) e).regs r ≡ d.regs r) × Small (act (Operate O.Sub 2 2 6) e).regs
  lowers l d e le low e2 e6 em er sm =
      let v = (e.regs 2 + (2 ^ 64 - e.regs 6)) % 2 ^ 64 in
      let ev : v ≡ d.regs 2 - l.size = omega arith in
      (poke_same e.regs 2 v 2 refl ∙ ev, em, (λ r n2 n5 n6 n7. poke_apart e.regs 2 v r n2 ∙ er r n5 n6 n7), poke_small e.regs 2 v sm (omega arith))

  -- a procedure is entered, after k instructions
  pub entered : (n : ℕ) → Again q hs g On Addr Labelled x n → (a : Behaviour) (p : ℕ) (f : BlockProc) (ip : IsProc q p f) (vs : List ℕ) (w : World) (st : List B.Waiting) (r rB : Run) (d : Data) (k : ℕ) → Told r w → r.state.mode ≡ mode.Ready → Leads k r rB
      → On p (proc_lines (Ly p f) f) d rB → Found vs w st d → Enters p f w st → k ≤ 20 * length vs + 12 → a 0 ≡ F.seen w Running → ((m : ℕ) → a (suc m) ≡ B.enter (Some f) (at_places q hs g On Addr Labelled x) (go_on m) vs w st) → N' (suc n) a r
  entered n again a p f ip vs w st r rB d k told ready lead on t en short e0 e = counted (length vs == f.params) refl
    where
      l : Layout
      l = Ly p f

      w' : World
      w' = with_frames w (w.frames + f.frame)

      env : List ℕ
      env = vs ++ replicate (f.values - f.params) 0

      nb : ℕ
      nb = length f.blocks

      inner : Bool → List AsmLine
      inner b = lines (save l (saved_of l) ++ receive l f.params) (blocks_code l 0 f.blocks (past_code b nb))

      all : d.regs 2 + sizes st ≡ top q hs g x.can.room Addr
      all = depth q hs g x.can.room Addr st d.mem d.regs t.rest

      fm : first ≤ 8192
      fm = let h = first_most q x.can.room in omega arith

      more : (m : ℕ) (o : Bool) → (length vs == f.params) ≡ o → a (suc m) ≡ B.if_value (if o then Some env else None) (F.seen w Wrong) (λ env. B.if_value (charged limit f.frame w) (F.seen w (R.Limited R.Frames)) (λ w'. B.at_block (slice_get f.blocks 0) (go_on m) f env w' st))
      more m o eo = e m ∙ ap (λ o. B.if_value (if o then Some env else None) (F.seen w Wrong) (λ env. B.if_value (charged limit f.frame w) (F.seen w (R.Limited R.Frames)) (λ w'. B.at_block (slice_get f.blocks 0) (go_on m) f env w' st))) eo

      charging : (m : ℕ) → (length vs == f.params) ≡ true → (c : Bool) → nat_le (w.frames + f.frame) limit ≡ c → a (suc m) ≡ B.if_value (cond c (Some w') None) (F.seen w (R.Limited R.Frames)) (λ w'. B.at_block (slice_get f.blocks 0) (go_on m) f env w' st)
      charging m el c ec = more m true el ∙ ap (λ c. B.if_value (cond c (Some w') None) (F.seen w (R.Limited R.Frames)) (λ w'. B.at_block (slice_get f.blocks 0) (go_on m) f env w' st)) ec

      -- with the size in x6
      load : List Straight
      load = load_number 6 l.size

      with_size : l.size < 2 ^ 64 → Gets lo hi 6 l.size d load
      with_size lt = gets_number lo hi 6 l.size d (omega arith, omega arith) lt t.zero

      low2 : d.regs 2 < 2 ^ 63 + 1
      low2 = let b = x.bounded in let c = all in omega arith

      charged_case : is_charged f ≡ true → (length vs == f.params) ≡ true → length vs ≡ f.params → (c : Bool) → nat_le (w.frames + f.frame) limit ≡ c → N' (suc n) a r
      charged_case ech el lv = trying
        where
          size : l.size ≡ f.frame
          size = size_charged f ech

          lt : l.size < 2 ^ 64
          lt = let h = (x.can.room.charged p f ip ech).2 in omega (arith, size)

          g6 : Gets lo hi 6 l.size d load
          g6 = with_size lt

          d6 : Data
          d6 = acts load d

          ys : List Straight
          ys = load ++ (Operate O.Sub 5 2 3 ∷ [])

          v : ℕ
          v = (d6.regs 2 + (2 ^ 64 - d6.regs 3)) % 2 ^ 64

          dA : Data
          dA = set d6 5 v

          on1 : On p (enter_code true l nb (inner true)) d rB
          on1 = subst (λ b. On p (enter_code b l nb (inner b)) d rB) ech on

          behind : List AsmLine
          behind = Branch (M.Bltu 5 6 0) nb ∷ lines (Operate O.Sub 2 2 6 ∷ []) (inner true)

          t1 : Went q hs g On Addr Labelled (length ys) p behind dA rB
          t1 = subst (λ z. Went q hs g On Addr Labelled (length ys) p behind z rB) (acts_append load (Operate O.Sub 5 2 3 ∷ []) d) (goes q hs g On Addr Labelled x.laws p ys behind d rB on1 (safe_append lo hi load (Operate O.Sub 5 2 3 ∷ []) d g6.safe (((omega arith, omega arith), omega arith, omega arith), tt)))

          lead1 : Leads (k + length ys) r t1.run
          lead1 = leads_then k (length ys) r rB t1.run lead t1.leads

          long : length ys ≤ 9
          long = omega (arith, length-append load (Operate O.Sub 5 2 3 ∷ []), (number_few 6 l.size).1)

          five_is : dA.regs 5 ≡ limit - total st
          five_is =
              let e2 = g6.others 2 (λ z. omega arith) (λ z. omega arith) in
              let e3 = g6.others 3 (λ z. omega arith) (λ z. omega arith) ∙ t.base in
              let es = en.charged ech in
              let wi = en.within in
              let a' = all in
              let f' = fm in
              let big = x.bounded in
              let ev : v ≡ limit - total st = omega arith in
              poke_same d6.regs 5 v 5 refl ∙ ev

          six_is : dA.regs 6 ≡ l.size
          six_is = poke_apart d6.regs 5 v 6 (λ z. omega arith) ∙ g6.value

          others : (r : ℕ) → ¬ (r ≡ 5) → ¬ (r ≡ 6) → ¬ (r ≡ 7) → dA.regs r ≡ d.regs r
          others r n5 n6 n7 = poke_apart d6.regs 5 v r n5 ∙ g6.others r n6 n7

          smallA : Small dA.regs
          smallA = poke_small d6.regs 5 v (g6.small t.small) (omega arith)

          trying : (c : Bool) → nat_le (w.frames + f.frame) limit ≡ c → N' (suc n) a r
          trying false ec =
              let over : limit < w.frames + f.frame = grind (arith, nat_tests) in
              let fr = en.frames in
              let wi = en.within in
              let e5 = five_is in
              let e6 = six_is in
              let es = size in
              let lim = x.limit p f ip ech in
              let j = x.laws.less p nb (lines (Operate O.Sub 2 2 6 ∷ []) (inner true)) (limit_code 0 lim.tail) dA t1.run t1.on (omega arith) lim.stands in
              let dj = set dA 6 j.junk in
              let lead2 = leads_then (k + length ys) j.count r t1.run j.went.run lead1 j.went.leads in
              let cost = x.cost p f ip in
              let jf = j.few in
              let lg = long in
              let z0 : dj.regs 0 ≡ 0 = poke_apart dA.regs 6 j.junk 0 (λ z. omega arith) ∙ (others 0 (λ z. omega arith) (λ z. omega arith) (λ z. omega arith) ∙ t.zero) in
              ends_limited q hs g On Addr Labelled x (suc n) a w r j.went.run p X.Frames lim.tail dj (k + length ys + j.count) told ready lead2 j.went.on z0 (λ i ni. subst (λ z. z < 2 ^ 64) (sym (poke_apart dA.regs 6 j.junk i ni)) (smallA i ni)) (omega (arith, lv)) e0 (λ m. charging m el false ec)
          trying true ec =
              let fits : w.frames + f.frame ≤ limit = grind (arith, nat_tests) in
              let fr = en.frames in
              let e5 = five_is in
              let e6 = six_is in
              let es = size in
              let ss = en.charged ech in
              let a' = all in
              let f' = fm in
              let l2 = low2 in
              let t2 = x.laws.not_less p nb (lines (Operate O.Sub 2 2 6 ∷ []) (inner true)) dA t1.run t1.on (omega arith) in
              let t3 = goes q hs g On Addr Labelled x.laws p (Operate O.Sub 2 2 6 ∷ []) (inner true) dA t2.run t2.on (((omega arith, omega arith), omega arith, omega arith), tt) in
              let lead2 = leads_then (k + length ys) 1 r t1.run t2.run lead1 t2.leads in
              let lead3 = leads_then (k + length ys + 1) 1 r t2.run t3.run lead2 t3.leads in
              let low = lowers l d dA (omega arith) (omega arith) (others 2 (λ z. omega arith) (λ z. omega arith) (λ z. omega arith)) e6 g6.mem others smallA in
              let lg = long in
              let level : Level_of q hs g On Addr Labelled x p f st = record {
                plain = λ h. omega arith;
                routine = λ h. absurd (not_plain ech h);
                within = omega arith;
              } in
              begins n again a p f ip vs w' w st r t3.run d (act (Operate O.Sub 2 2 6) dA) (k + length ys + 1 + 1) (past_code true nb) told ready lead3 t3.on t refl refl refl refl (omega arith) level (omega arith) lv low.0 low.1 low.2 low.3 (omega arith) (omega (arith, lv)) e0 (λ m. charging m el true ec)
            where
              not_plain : is_charged f ≡ true → (is_charged f || nat_eq p q.entry) ≡ false → ⊥
              not_plain h z = (let u = ap (λ b. b || nat_eq p q.entry) h in absurd (cc))

      free_case : is_charged f ≡ false → (length vs == f.params) ≡ true → length vs ≡ f.params → (c : Bool) → nat_le (w.frames + f.frame) limit ≡ c → N' (suc n) a r
      free_case ech el lv false ec =
          let over : limit < w.frames + f.frame = grind (arith, nat_tests) in
          let z = (size_low f ech).1 in
          let fr = en.frames in
          let wi = en.within in
          absurd (omega arith)
      free_case ech el lv true ec =
          let z = (size_low f ech).1 in
          let fr = en.frames in
          let un = en.uncharged ech in
          let un1 = un.1 in
          let a' = all in
          let big = x.bounded in
          let l2 = low2 in
          let g6 = with_size (omega arith) in
          let d6 = acts load d in
          let ys = load ++ (Operate O.Sub 2 2 6 ∷ []) in
          let on1 = subst (λ b. On p (enter_code b l nb (inner b)) d rB) ech on in
          let low = lowers l d d6 (omega arith) (omega arith) (g6.others 2 (λ z. omega arith) (λ z. omega arith)) g6.value g6.mem (λ r n5 n6 n7. g6.others r n6 n7) (g6.small t.small) in
          let dL = act (Operate O.Sub 2 2 6) d6 in
          let t1 = subst (λ z. Went q hs g On Addr Labelled (length ys) p (inner false) z rB) (acts_append load (Operate O.Sub 2 2 6 ∷ []) d) (goes q hs g On Addr Labelled x.laws p ys (inner false) d rB on1 (safe_append lo hi load (Operate O.Sub 2 2 6 ∷ []) d g6.safe (((omega arith, omega arith), omega arith, omega arith), tt))) in
          let lead1 = leads_then k (length ys) r rB t1.run lead t1.leads in
          let la = length-append load (Operate O.Sub 2 2 6 ∷ []) in
          let nf = number_few 6 l.size in
          begins n again a p f ip vs w' w st r t1.run d dL (k + length ys) (past_code false nb) told ready lead1 t1.on t refl refl refl refl (omega arith) un.0 un.1 lv low.0 low.1 low.2 low.3 (omega (arith, la)) (omega (arith, la, nf.1, lv)) e0 (λ m. charging m el true ec)

      counted : (o : Bool) → (length vs == f.params) ≡ o → N' (suc n) a r
      counted false eo = goes_wrong q hs g On Addr Labelled x (suc n) a w r told ready e0 (λ m. more m false eo)
      counted true eo = let lv : length vs ≡ f.params = grind (arith, nat_tests) in either (is_charged f) refl lv
        where
          either : (b : Bool) → is_charged f ≡ b → length vs ≡ f.params → N' (suc n) a r
          either true h lv = charged_case h eo lv (nat_le (w.frames + f.frame) limit) refl
          either false h lv = free_case h eo lv (nat_le (w.frames + f.frame) limit) refl

  plain_parts : (a b : Bool) → (a || b) ≡ false → (a ≡ false) × (b ≡ false)
  plain_parts true b e = absurd (cc)
  plain_parts false b e = (refl, e)

  -- what a procedure that is called finds of the room
  may_enter : (i : ℕ) (f : BlockProc) → IsProc q i f → (p : ℕ) (c : BlockProc) → IsProc q p c → (w : World) (v : B.Waiting) (stack : List B.Waiting) → v.proc ≡ f → w.frames ≡ f.frame + total stack → Level_of q hs g On Addr Labelled x i f stack
      → (IsRoutine q i f → IsRoutine q p c × (need c + x.can.room.deep p ≤ x.can.room.deep i)) → (is_charged c ≡ false → ¬ (p ≡ q.entry)) → Enters p c w (v ∷ stack)
  may_enter i f ip p c ic w v stack ev fr lv routine alone = by (is_plain q hs g x.can.room Addr i f) refl
    where
      same_size : frame_size v.proc ≡ frame_size f
      same_size = ap (λ (z : BlockProc). frame_size z) ev

      same_frame : v.proc.frame ≡ f.frame
      same_frame = ap (λ (z : BlockProc). z.frame) ev

      frames' : w.frames ≡ total (v ∷ stack)
      frames' = let e = same_frame in omega arith

      within' : total (v ∷ stack) ≤ limit
      within' = let e = same_frame in let h = lv.within in omega arith

      not_plain : is_charged c ≡ false → is_plain q hs g x.can.room Addr p c ≡ true → ⊥
      not_plain h e = (let u = ap (λ b. b || nat_eq p q.entry) h in let n = alone h in let z : nat_eq p q.entry ≡ true = sym u ∙ e in absurd (n (let k : p ≡ q.entry = grind (arith, nat_tests) in k)))

      level_free : is_charged c ≡ false → frame_size c + sizes (v ∷ stack) + x.can.room.deep p ≤ limit + 8192 → Level_of q hs g On Addr Labelled x p c (v ∷ stack)
      level_free h room' = record {
        plain = λ e. absurd (not_plain h e);
        routine = λ e. room';
        within = (let z = (size_low c h).1 in let k = within' in omega arith);
      }

      by : (b : Bool) → is_plain q hs g x.can.room Addr i f ≡ b → Enters p c w (v ∷ stack)
      by true e =
          let pl = lv.plain e in
          let es = same_size in
          let ef = same_frame in
          let wi = lv.within in
          let fm = first_most q x.can.room in
          let exact : sizes (v ∷ stack) ≡ total (v ∷ stack) + first = omega arith in
          let room' : is_charged c ≡ false → frame_size c + sizes (v ∷ stack) + x.can.room.deep p ≤ limit + 8192 = λ h. (let s = (size_low c h).0 in let m = x.can.room.routines p c (ic, h, alone h) in let k = within' in omega arith) in
          record {
            frames = frames';
            within = within';
            charged = λ h. exact;
            uncharged = λ h. (level_free h (room' h), (let k = room' h in omega arith));
          }
      by false e =
          let parts = plain_parts (is_charged f) (nat_eq i q.entry) e in
          let ni : ¬ (i ≡ q.entry) = (let z = parts.1 in let k : ¬ (i ≡ q.entry) = grind (arith, nat_tests) in k) in
          let r = routine (ip, parts.0, ni) in
          let h = r.0.1 in
          let es = same_size in
          let rl = lv.routine e in
          let s = (size_low c h).0 in
          let m = r.1 in
          let room' : frame_size c + sizes (v ∷ stack) + x.can.room.deep p ≤ limit + 8192 = omega arith in
          record {
            frames = frames';
            within = within';
            charged = λ k. absurd (let z = h in cc);
            uncharged = λ k. (level_free h room', omega arith);
          }

  -- what is found behind a call: `d` has the arguments, and the address of what follows is in x1
  found_call : (f : BlockProc) (i : ℕ) (ip : IsProc q i f) (insn : BlockInsn) (xs : List ℕ) (rest : List BlockInsn) (end : BlockEnd) (env : List ℕ) (w : World) (stack : List B.Waiting) (vs : List ℕ) (d : Data) (address : ℕ) (tail : List AsmLine)
      → sets insn ≡ xs → length xs ≤ 2 → Level_of q hs g On Addr Labelled x i f stack → At f (places_of (Ly i f).homes) (insn ∷ rest) end env (cells (Ly i f) d) → Bo (Ly i f) w stack d → address < 2 ^ 64 → Addr i (lines (take_results (Ly i f) 0 xs) (rest_code (Ly i f) rest end tail)) address
      → ((j : ℕ) → j < length vs → arg_at (d.regs 2) d j ≡ slice_index vs j) → length vs ≤ 8 + (Ly i f).words
      → Found vs w (record { proc = f; rest = record { insns = rest; end = end }; env = env; targets = xs } ∷ stack) (set d 1 address)
  found_call f i ip insn xs rest end env w stack vs d address tail es few level at body lt stands args short =
      let l = Ly i f in
      let is = x.laid i f ip in
      let d1 = set d 1 address in
      let away : (r : ℕ) → ¬ (r ≡ 1) → d1.regs r ≡ d.regs r = λ r n. poke_apart d.regs 1 address r n in
      let st : Stays d d1 = record { zero = away 0 (λ z. omega arith); sp = away 2 (λ z. omega arith); base = away 3 (λ z. omega arith); kept = λ k kk. away k (λ z. (let c = (kept_range k kk).0 in omega arith)); small = poke_small d.regs 1 address body.small lt } in
      let b1 = scratched q hs g x.can.room Addr x.bounded f l w stack d d1 is st refl body in
      let a1 = scratched_at q hs g x.can.room Addr x.bounded f l (insn ∷ rest) end env d d1 is st refl at in
      let all = spans q hs g x.can.room Addr l w stack d body in
      let fits = is.fits in
      let e2 = st.sp in
      record {
        memory = b1.memory;
        bytes = b1.bytes;
        zero = b1.zero;
        base = b1.base;
        aligned = b1.aligned;
        small = b1.small;
        rest = record {
          number = i;
          is = ip;
          laid = is;
          level = level;
          insn = insn;
          sets_targets = es;
          at = a1;
          few = few;
          tail = tail;
          code = subst (λ z. Addr i (lines (take_results l 0 xs) (rest_code l rest end tail)) z) (sym (poke_same d.regs 1 address 1 refl)) stands;
          frame = b1.frame;
        };
        args = λ j lj. ap (λ z. arg_at z d1 j) e2 ∙ (arg_same (d.regs 2) d d1 j (λ l8. away (10 + j) (λ z. omega arith)) (λ g8. refl) ∙ args j lj);
        wide = λ j g8 lj. omega arith;
      }

  -- the words that an instruction passes have room
  words_most : (insns : List BlockInsn) (j : ℕ) (i : BlockInsn) → slice_get insns j ≡ Some i → words_of i ≤ most_words insns
  words_most [] j i e = absurd (cc)
  words_most (y ∷ ys) zero i e = (let k : words_of y ≡ words_of i = ap words_or e in let m = le-max_left (words_of y) (most_words ys) in omega arith)
    where
      words_or : Option BlockInsn → ℕ
      words_or None = 0
      words_or (Some i) = words_of i
  words_most (y ∷ ys) (suc j) i e = (let k = words_most ys j i e in let m = le-max_right (words_of y) (most_words ys) in omega arith)

  words_blocks : (bs : List Block) (b : ℕ) (k : Block) → slice_get bs b ≡ Some k → most_words k.insns ≤ words_of_blocks bs
  words_blocks [] b k e = absurd (cc)
  words_blocks (z ∷ bs) zero k e = (let u : most_words z.insns ≡ most_words k.insns = ap most_or e in let m = le-max_left (most_words z.insns) (words_of_blocks bs) in omega arith)
    where
      most_or : Option Block → ℕ
      most_or None = 0
      most_or (Some k) = most_words k.insns
  words_blocks (z ∷ bs) (suc b) k e = (let u = words_blocks bs b k e in let m = le-max_right (most_words z.insns) (words_of_blocks bs) in omega arith)

  words_bound : (f : BlockProc) (i : BlockInsn) → HasInsn f i → words_of i ≤ words_of_blocks f.blocks
  words_bound f i h =
      let k = h.1 in
      let j = k.2 in
      let a = words_most k.0.insns j.0 i j.1 in
      let b = words_blocks f.blocks h.0 k.0 k.1 in
      omega arith

  pub call_case : (n : ℕ) → Again q hs g On Addr Labelled x n → (f : BlockProc) (xs : List ℕ) (p : ℕ) (ys : List ℕ) (rest : List BlockInsn) (end : BlockEnd) (env : List ℕ) (w : World) (stack : List B.Waiting) (r : Run) → Rel q hs g On Addr Labelled x f (I.Call xs p ys ∷ rest) end env w stack r → N' (suc n) (run_of q hs g On Addr Labelled x f (I.Call xs p ys ∷ rest) end env w stack) r
  call_case n again f xs p ys rest end env w stack r rel = go (slice_get q.procs p) refl
    where
      i : ℕ
      i = rel.number

      l : Layout
      l = Ly i f

      insn : BlockInsn
      insn = I.Call xs p ys

      a : Behaviour
      a = run_of q hs g On Addr Labelled x f (insn ∷ rest) end env w stack

      d : Data
      d = rel.data'

      is : Laid f l
      is = x.laid i f rel.is

      has : HasInsn f insn
      has = has_insn f (places_of l.homes) insn rest end env (cells l d) rel.at

      v : B.Waiting
      v = record { proc = f; rest = record { insns = rest; end = end }; env = env; targets = xs }

      vs : List ℕ
      vs = B.held env ys

      short : length ys ≤ 8 + l.words
      short = let h = words_bound f insn has in omega arith

      pass' : List Straight
      pass' = pass l 0 ys

      ps : Passed q hs g x.can.room Addr x.bounded l w stack 0 vs d pass'
      ps = passes q hs g x.can.room Addr x.bounded f l w stack env 0 ys d is (let h = short in omega arith) rel.body (λ y c. (home_low q hs g On Addr Labelled x f (insn ∷ rest) end env w stack r rel y c, home_is q hs g On Addr Labelled x f (insn ∷ rest) end env w stack r rel y c))

      d1 : Data
      d1 = acts pass' d

      behind : List AsmLine
      behind = lines (take_results l 0 xs) (rest_code l rest end rel.tail)

      t1 : Went q hs g On Addr Labelled (length pass') i (Call (proc_name p) ∷ behind) d1 r
      t1 = goes q hs g On Addr Labelled x.laws i pass' (Call (proc_name p) ∷ behind) d r rel.on ps.safe

      ready : r.state.mode ≡ mode.Ready
      ready = x.laws.ready i _ d r rel.on

      at1 : At f (places_of l.homes) (insn ∷ rest) end env (cells l d1)
      at1 = at_alike f (places_of l.homes) (insn ∷ rest) end env (cells l d) (cells l d1) (λ u lt. cell_home f l d1 u is lt ∙ (homes_kept q hs g x.can.room Addr x.bounded f l d d1 (home_of l u) is (is.homes u lt) ps.stays ps.above ∙ sym (cell_home f l d u is lt))) rel.at

      go : (o : Option BlockProc) → slice_get q.procs p ≡ o → N' (suc n) a r
      go None eo = goes_wrong q hs g On Addr Labelled x (suc n) a w r rel.told ready refl (λ m. ap (λ o. B.enter o (at_places q hs g On Addr Labelled x) (go_on m) vs w (v ∷ stack)) eo)
      go (Some c) ic =
          let t2 = x.laws.call i p c behind d1 t1.run t1.on ic in
          let lead = leads_then (length pass') 2 r t1.run t2.went.run t1.leads t2.went.leads in
          let fits' : length xs ≤ 2 = (x.can.insns i f rel.is insn has).1 in
          let sh = short in
          let hl = held_length env ys in
          let found = found_call f i rel.is insn xs rest end env w stack vs d1 t2.address rel.tail refl fits' rel.level at1 ps.body t2.small t2.stands (λ j lj. subst (λ z. arg_at z d1 j ≡ slice_index vs j) (sym ps.stays.sp) (ap (λ k. arg_at (d.regs 2) d1 k) (let e : j ≡ 0 + j = omega arith in e) ∙ ps.args j lj)) (omega arith) in
          let en = may_enter i f rel.is p c ic w v stack refl rel.frames rel.level (λ ro. x.can.room.calls i f ro insn has c ic) (λ h e. (x.can.room.alone c (subst (λ k. IsProc q k c) e ic) h).insns i f rel.is insn has e) in
          let pf = pass_few l 0 ys in
          entered n again a p c ic vs w (v ∷ stack) r t2.went.run (set d1 1 t2.address) (length pass' + 2) rel.told ready lead t2.went.on found en (omega arith) refl (λ m. ap (λ o. B.enter o (at_places q hs g On Addr Labelled x) (go_on m) vs w (v ∷ stack)) ic)

  -- the procedure at an address
  proc_found : (m a p : ℕ) → proc_at g.procs m a ≡ Some p → g.procs p ≡ a
  proc_found zero a p e = absurd (cc)
  proc_found (suc m) a p e = by (nat_eq (g.procs m) a) refl e (proc_found m a p)
    where
      by : (b : Bool) → nat_eq (g.procs m) a ≡ b → cond b (Some m) (proc_at g.procs m a) ≡ Some p → (proc_at g.procs m a ≡ Some p → g.procs p ≡ a) → g.procs p ≡ a
      by true t e again = (let k : g.procs m ≡ a = grind (arith, nat_tests) in let mp : m ≡ p = cc in subst (λ z. g.procs z ≡ a) mp k)
      by false t e again = again e

  pub call_at_case : (n : ℕ) → Again q hs g On Addr Labelled x n → (f : BlockProc) (xs : List ℕ) (y : ℕ) (ys : List ℕ) (rest : List BlockInsn) (end : BlockEnd) (env : List ℕ) (w : World) (stack : List B.Waiting) (r : Run) → Rel q hs g On Addr Labelled x f (I.CallAt xs y ys ∷ rest) end env w stack r → N' (suc n) (run_of q hs g On Addr Labelled x f (I.CallAt xs y ys ∷ rest) end env w stack) r
  call_at_case n again f xs y ys rest end env w stack r rel = at (proc_at g.procs (length q.procs) (slice_index env y)) refl
    where
      i : ℕ
      i = rel.number

      l : Layout
      l = Ly i f

      insn : BlockInsn
      insn = I.CallAt xs y ys

      a : Behaviour
      a = run_of q hs g On Addr Labelled x f (insn ∷ rest) end env w stack

      d : Data
      d = rel.data'

      is : Laid f l
      is = x.laid i f rel.is

      has : HasInsn f insn
      has = has_insn f (places_of l.homes) insn rest end env (cells l d) rel.at

      v : B.Waiting
      v = record { proc = f; rest = record { insns = rest; end = end }; env = env; targets = xs }

      vs : List ℕ
      vs = B.held env ys

      short : length ys ≤ 8 + l.words
      short = let h = words_bound f insn has in omega arith

      pass' : List Straight
      pass' = pass l 0 ys

      later : (z : ℕ) → Contains ys z → Contains (uses_from (insn ∷ rest) end 0) z
      later z c = (suc c.0, omega (arith, c.1), c.2)

      ps : Passed q hs g x.can.room Addr x.bounded l w stack 0 vs d pass'
      ps = passes q hs g x.can.room Addr x.bounded f l w stack env 0 ys d is (let h = short in omega arith) rel.body (λ z c. (home_low q hs g On Addr Labelled x f (insn ∷ rest) end env w stack r rel z (later z c), home_is q hs g On Addr Labelled x f (insn ∷ rest) end env w stack r rel z (later z c)))

      d1 : Data
      d1 = acts pass' d

      h : Home
      h = home_of l y

      ih : IsHome f.values h
      ih = home_low q hs g On Addr Labelled x f (insn ∷ rest) end env w stack r rel y (0, omega arith, refl)

      rd : Gets lo hi 6 (at_home l d1 h) d1 (read l h 6)
      rd = reads q hs g x.can.room Addr x.bounded f l w stack d1 6 h is ih (free_target 6 six) ps.body

      d2 : Data
      d2 = acts (read l h 6) d1

      st : Stays d1 d2
      st = gets_stays lo hi 6 (at_home l d1 h) d1 (read l h 6) six rd ps.body.small

      body2 : Bo l w stack d2
      body2 = scratched q hs g x.can.room Addr x.bounded f l w stack d1 d2 is st rd.mem ps.body

      at1 : At f (places_of l.homes) (insn ∷ rest) end env (cells l d1)
      at1 = at_alike f (places_of l.homes) (insn ∷ rest) end env (cells l d) (cells l d1) (λ u lt. cell_home f l d1 u is lt ∙ (homes_kept q hs g x.can.room Addr x.bounded f l d d1 (home_of l u) is (is.homes u lt) ps.stays ps.above ∙ sym (cell_home f l d u is lt))) rel.at

      at2 : At f (places_of l.homes) (insn ∷ rest) end env (cells l d2)
      at2 = scratched_at q hs g x.can.room Addr x.bounded f l (insn ∷ rest) end env d1 d2 is st rd.mem at1

      six_is : d2.regs 6 ≡ slice_index env y
      six_is = rd.value ∙ (homes_kept q hs g x.can.room Addr x.bounded f l d d1 h is ih ps.stays ps.above ∙ home_is q hs g On Addr Labelled x f (insn ∷ rest) end env w stack r rel y (0, omega arith, refl))

      six_small : d2.regs 6 < 2 ^ 64
      six_small = subst (λ z. z < 2 ^ 64) (sym rd.value) (home_small q hs g x.can.room Addr x.bounded f l w stack d1 h ih ps.body)

      behind : List AsmLine
      behind = lines (take_results l 0 xs) (rest_code l rest end rel.tail)

      xs' : List Straight
      xs' = pass' ++ read l h 6

      t1 : Went q hs g On Addr Labelled (length xs') i (Plain (M.Jalr 1 6 0) ∷ behind) d2 r
      t1 = subst (λ z. Went q hs g On Addr Labelled (length xs') i (Plain (M.Jalr 1 6 0) ∷ behind) z r) (acts_append pass' (read l h 6) d) (goes q hs g On Addr Labelled x.laws i xs' (Plain (M.Jalr 1 6 0) ∷ behind) d r rel.on (safe_append lo hi pass' (read l h 6) d ps.safe rd.safe))

      ready : r.state.mode ≡ mode.Ready
      ready = x.laws.ready i _ d r rel.on

      args2 : (j : ℕ) → j < length vs → arg_at (d2.regs 2) d2 j ≡ slice_index vs j
      args2 j lj = ap (λ z. arg_at z d2 j) (st.sp ∙ ps.stays.sp) ∙ (arg_same (d.regs 2) d1 d2 j (λ l8. rd.others (10 + j) (λ z. omega arith) (λ z. omega arith)) (λ g8. ap (λ (m : Bytes). number 8 m (d.regs 2 + 8 * (j - 8))) rd.mem) ∙ (ap (λ k. arg_at (d.regs 2) d1 k) (let e : j ≡ 0 + j = omega arith in e) ∙ ps.args j lj))

      go : (p : ℕ) → g.procs p ≡ slice_index env y → (o : Option BlockProc) → slice_get q.procs p ≡ o → ((m : ℕ) → a (suc m) ≡ B.enter o (at_places q hs g On Addr Labelled x) (go_on m) vs w (v ∷ stack)) → N' (suc n) a r
      go p ep None eo e = goes_wrong q hs g On Addr Labelled x (suc n) a w r rel.told ready refl e
      go p ep (Some c) ic e =
          let t2 = x.laws.call_at i p c behind d2 t1.run t1.on ic six_small (six_is ∙ sym ep) in
          let lead = leads_then (length xs') 1 r t1.run t2.went.run t1.leads t2.went.leads in
          let fits' : length xs ≤ 2 = x.can.insns i f rel.is insn has in
          let sh = short in
          let hl = held_length env ys in
          let found = found_call f i rel.is insn xs rest end env w stack vs d2 t2.address rel.tail refl fits' rel.level at2 body2 t2.small t2.stands args2 (omega arith) in
          let en = may_enter i f rel.is p c ic w v stack refl rel.frames rel.level (λ ro. absurd (x.can.room.calls i f ro insn has)) (λ hc e. (let far = x.alone p c ic e hc in let s6 = six_small in let e6 = six_is in omega arith)) in
          let pf = pass_few l 0 ys in
          let rf = (read_few l h 6).1 in
          let la = length-append pass' (read l h 6) in
          entered n again a p c ic vs w (v ∷ stack) r t2.went.run (set d2 1 t2.address) (length xs' + 1) rel.told ready lead t2.went.on found en (omega arith) refl e

      at : (o : Option ℕ) → proc_at g.procs (length q.procs) (slice_index env y) ≡ o → N' (suc n) a r
      at None eo = goes_wrong q hs g On Addr Labelled x (suc n) a w r rel.told ready refl (λ m. ap (λ o. B.if_value o (F.seen w Wrong) (λ p. B.enter (slice_get q.procs p) (at_places q hs g On Addr Labelled x) (go_on m) vs w (v ∷ stack))) eo)
      at (Some p) eo = go p (proc_found (length q.procs) (slice_index env y) p eo) (slice_get q.procs p) refl (λ m. ap (λ o. B.if_value o (F.seen w Wrong) (λ p. B.enter (slice_get q.procs p) (at_places q hs g On Addr Labelled x) (go_on m) vs w (v ∷ stack))) eo)
