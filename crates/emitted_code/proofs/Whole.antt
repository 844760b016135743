-- Whole runs.
use Rattle.std.proofs.Common.{◌≡◌, ℕ, zero, suc, ◌+◌, ◌-◌, ◌*◌, ◌%◌, ◌^◌, ◌<◌, ◌≤◌, Bool, true, false, cond, List, [], ◌∷◌, ◌++◌, length, take, Option, Some, None, refl, sym, ap, ◌∙◌, subst, arith}
use Rattle.std.specs.Prelude.{slice_get, slice_index, nat_eq, nat_lt, ◌||◌}
use Rattle.std.proofs.lemmas.Bool.Decides.{nat_tests}
use Rattle.behaviour.specs.Follows.{Follows}
use Rattle.work.specs.Same.{Same}
use Rattle.work.proofs.Same.{nothing_yet, same_follows}
use Rattle.flat_ir.specs.declared.program.Operation.TheVariants as O
use Rattle.flat_ir.specs.Bytes.{Bytes, number}
use Rattle.flat_ir.specs.Ranges.{AreBytes}
use Rattle.flat_ir.specs.Placement.{Placement, objects_at, heap_at, frames_at, heap_end, first_bytes, entry_arguments}
use Rattle.flat_ir.specs.Flat.{World, starting}
use Rattle.flat_ir.proofs.Framing.{poke_same, poke_apart}
use Rattle.flatten.specs.declared.blocks.BlockInsn.{BlockInsn}
use Rattle.flatten.specs.declared.blocks.BlockInsn.TheVariants as I
use Rattle.flatten.specs.declared.blocks.BlockEnd.{BlockEnd}
use Rattle.flatten.specs.declared.blocks.BlockEnd.TheVariants as E
use Rattle.flatten.specs.declared.blocks.BlockProc.{BlockProc}
use Rattle.flatten.specs.declared.blocks.BlockProgram.{BlockProgram}
use Rattle.flatten.specs.Blocks as B
use Rattle.flatten.specs.Blocks.{blocks, params_of}
use Rattle.block_homes.specs.declared.homes.Assignment.{Assignment}
use Rattle.rv_assemble.specs.declared.unit.AsmLine.{AsmLine}
use Rattle.rv_assemble.specs.declared.unit.AsmLine.TheVariants.{Call}
use Rattle.rv_machine.specs.declared.event.Mode.TheVariants as mode
use Rattle.rv_machine.specs.Exec.{Run}
use Rattle.assembled_run.proofs.Leads.{leads_then}
use Rattle.emitted_code.specs.Straight.{Straight, Operate, load_pair, upper, lower}
use Rattle.emitted_code.specs.Names.{proc_name}
use Rattle.emitted_code.specs.Frames.{is_charged, frame_size}
use Rattle.emitted_code.specs.Units.{first_size, start_lines}
use Rattle.emitted_code.specs.Room.{IsProc}
use Rattle.emitted_code.proofs.Data.{Data, set, acts, acts_append, safe_append, Gets, Small, poke_small}
use Rattle.emitted_code.proofs.Constants.{pair_whole, gets_pair}
use Rattle.emitted_code.proofs.Relate.{IsOwn}
use Rattle.emitted_code.proofs.LineLaws.{Went, goes}
use Rattle.emitted_code.proofs.Args.{arg_at}
use Rattle.emitted_code.proofs.Steps.{shown}
use Rattle.emitted_code.proofs.States.{Told, seen_now, Given, at_places, going, Related, Again, Now, goes_wrong}
use Rattle.emitted_code.proofs.Simple.{number_case, copy_case, binary_case, load_case, store_case, proc_address_case, image_address_case}
use Rattle.emitted_code.proofs.Ends.{take_case, give_case, jump_case, branch_case, stop_case, limit_case}
use Rattle.emitted_code.proofs.Returns.{return_case}
use Rattle.emitted_code.proofs.Calls.{Found, Enters, entered, call_case, call_at_case, first_most, size_low}

taken_index : (n : ℕ) (xs : List ℕ) (j : ℕ) → j < n → slice_index (take n xs) j ≡ slice_index xs j
taken_index zero xs j h = absurd (omega arith)
taken_index (suc n) [] j h = refl
taken_index (suc n) (y ∷ xs) zero h = refl
taken_index (suc n) (y ∷ xs) (suc j) h = taken_index n xs j (omega arith)

taken_length : (n : ℕ) (xs : List ℕ) → (length (take n xs) ≤ n) × (length (take n xs) ≤ length xs)
taken_length zero xs = (omega arith, omega arith)
taken_length (suc n) [] = (omega arith, omega arith)
taken_length (suc n) (y ∷ xs) = (let r = taken_length n xs in (omega (arith, r.0), omega (arith, r.1)))

module _ (q : BlockProgram) (hs : List Assignment) (g : Placement) (On : ℕ → List AsmLine → Data → Run → Type 0) (Addr : ℕ → List AsmLine → ℕ → Type 0) (Labelled : ℕ → ℕ → List AsmLine → Type 0) (x : Given q hs g On Addr Labelled) where
  each : (n : ℕ) → Again q hs g On Addr Labelled x n → (f : BlockProc) (rest : List BlockInsn) (end : BlockEnd) (env : List ℕ) (w : World) (stack : List B.Waiting) (r : Run) → Related q hs g On Addr Labelled x f rest end env w stack r → Now q hs g On Addr Labelled x (suc n) (going q hs g On Addr Labelled x f rest end env w stack) r
  each n again f (I.Number v num ∷ rest) end env w stack r rel = number_case q hs g On Addr Labelled x n again f v num rest end env w stack r rel
  each n again f (I.Copy v y ∷ rest) end env w stack r rel = copy_case q hs g On Addr Labelled x n again f v y rest end env w stack r rel
  each n again f (I.Binary o v y z ∷ rest) end env w stack r rel = binary_case q hs g On Addr Labelled x n again f o v y z rest end env w stack r rel
  each n again f (I.Load v s k y ∷ rest) end env w stack r rel = load_case q hs g On Addr Labelled x n again f v s k y rest end env w stack r rel
  each n again f (I.Store s y z ∷ rest) end env w stack r rel = store_case q hs g On Addr Labelled x n again f s y z rest end env w stack r rel
  each n again f (I.ProcAddress v p ∷ rest) end env w stack r rel = proc_address_case q hs g On Addr Labelled x n again f v p rest end env w stack r rel
  each n again f (I.ImageAddress v k ∷ rest) end env w stack r rel = image_address_case q hs g On Addr Labelled x n again f v k rest end env w stack r rel
  each n again f (I.Call xs p ys ∷ rest) end env w stack r rel = call_case q hs g On Addr Labelled x n again f xs p ys rest end env w stack r rel
  each n again f (I.CallAt xs y ys ∷ rest) end env w stack r rel = call_at_case q hs g On Addr Labelled x n again f xs y ys rest end env w stack r rel
  each n again f (I.Take v ∷ rest) end env w stack r rel = take_case q hs g On Addr Labelled x n again f v rest end env w stack r rel
  each n again f (I.Give y ∷ rest) end env w stack r rel = give_case q hs g On Addr Labelled x n again f y rest end env w stack r rel
  each n again f [] (E.Jump b) env w stack r rel = jump_case q hs g On Addr Labelled x n again f b env w stack r rel
  each n again f [] (E.Branch y a b) env w stack r rel = branch_case q hs g On Addr Labelled x n again f y a b env w stack r rel
  each n again f [] (E.Return ys) env w stack r rel = return_case q hs g On Addr Labelled x n again f ys env w stack r rel
  each n again f [] (E.Stop y) env w stack r rel = stop_case q hs g On Addr Labelled x (suc n) f y env w stack r rel
  each n again f [] (E.Limit l) env w stack r rel = limit_case q hs g On Addr Labelled x (suc n) f l env w stack r rel

  pub states_follow : (n : ℕ) → Again q hs g On Addr Labelled x n
  states_follow zero f rest end env w stack r rel = nothing_yet x.K (let dear = x.dear in omega arith) 0 (going q hs g On Addr Labelled x f rest end env w stack) (shown r) (seen_now r w (x.laws.ready rel.number _ rel.data' r rel.on) rel.told)
  states_follow (suc n) f rest end env w stack r rel = each n (states_follow n) f rest end env w stack r rel

  abbrev first : ℕ
  first = first_size (slice_get q.procs q.entry)

  -- what the machine begins with
  pub record Begun (input : List ℕ) (i : ℕ) (d : Data) (r : Run) : Type 0 where
    pub on : On i (start_lines first q.entry) d r
    pub told : Told r (starting (first_bytes g q.image q.fixes) input)
    pub memory : (a : ℕ) → IsOwn (length q.image) g a → d.mem a ≡ first_bytes g q.image q.fixes a
    pub bytes : AreBytes d.mem
    pub zero : d.regs 0 ≡ 0
    pub sp : d.regs 2 ≡ objects_at (length q.image) g
    pub aligned : objects_at (length q.image) g % 8 ≡ 0
    pub frames : d.regs 14 ≡ frames_at (length q.image) g
    pub small : Small d.regs
    pub args : (j : ℕ) → j < 5 → d.regs (10 + j) ≡ slice_index (objects_at (length q.image) g ∷ g.limits.objects ∷ heap_at (length q.image) g ∷ g.limits.heap ∷ frames_at (length q.image) g ∷ []) j

  begins : (n : ℕ) (input : List ℕ) (i : ℕ) (d : Data) (r : Run) → Begun input i d r → Now q hs g On Addr Labelled x (suc n) (blocks q g input) r
  begins n input i d r s = go (slice_get q.procs q.entry) refl
    where
      w : World
      w = starting (first_bytes g q.image q.fixes) input

      lo : ℕ
      lo = g.image

      hi : ℕ
      hi = heap_end (length q.image) g

      fm : first ≤ 8192
      fm = let h = first_most q x.can.room in omega arith

      num : ℕ
      num = 8192 - first

      pair : List Straight
      pair = load_pair 3 num

      add : List Straight
      add = Operate O.Add 3 3 14 ∷ []

      g1 : Gets lo hi 3 ((upper num + lower num) % 2 ^ 64) d pair
      g1 = gets_pair lo hi 3 num d (omega arith, omega arith)

      d1 : Data
      d1 = acts pair d

      v : ℕ
      v = (d1.regs 3 + d1.regs 14) % 2 ^ 64

      d2 : Data
      d2 = set d1 3 v

      three : v ≡ frames_at (length q.image) g + 8192 - first
      three =
          let e3 = g1.value ∙ pair_whole num (omega arith) in
          let e14 = g1.others 14 (λ z. omega arith) (λ z. omega arith) ∙ s.frames in
          let big = x.bounded in
          let f = fm in
          omega arith

      away : (k : ℕ) → ¬ (k ≡ 3) → ¬ (k ≡ 7) → d2.regs k ≡ d.regs k
      away k n3 n7 = poke_apart d1.regs 3 v k n3 ∙ g1.others k n3 n7

      ready : r.state.mode ≡ mode.Ready
      ready = x.laws.ready i _ d r s.on

      args : ℕ → List ℕ
      args k = entry_arguments k (length q.image) g

      go : (o : Option BlockProc) → slice_get q.procs q.entry ≡ o → Now q hs g On Addr Labelled x (suc n) (blocks q g input) r
      go None e = goes_wrong q hs g On Addr Labelled x (suc n) (blocks q g input) w r s.told ready refl (λ m. ap (λ o. B.enter o (at_places q hs g On Addr Labelled x) (B.exec q.procs (at_places q hs g On Addr Labelled x) m) (args (params_of o)) w []) e)
      go (Some f) ip =
          let t1 = subst (λ z. Went q hs g On Addr Labelled (length (pair ++ add)) i (Call (proc_name q.entry) ∷ []) z r) (acts_append pair add d) (goes q hs g On Addr Labelled x.laws i (pair ++ add) (Call (proc_name q.entry) ∷ []) d r s.on (safe_append lo hi pair add d g1.safe (((omega arith, omega arith), omega arith, omega arith), tt))) in
          let t2 = x.laws.call i q.entry f [] d2 t1.run t1.on ip in
          let lead = leads_then (length (pair ++ add)) 2 r t1.run t2.went.run t1.leads t2.went.leads in
          let dB = set d2 1 t2.address in
          let at : (k : ℕ) → ¬ (k ≡ 1) → ¬ (k ≡ 3) → ¬ (k ≡ 7) → dB.regs k ≡ d.regs k = λ k n1 n3 n7. poke_apart d2.regs 1 t2.address k n1 ∙ away k n3 n7 in
          let vs = args f.params in
          let tl = taken_length f.params (objects_at (length q.image) g ∷ g.limits.objects ∷ heap_at (length q.image) g ∷ g.limits.heap ∷ frames_at (length q.image) g ∷ []) in
          let tl0 = tl.0 in
          let tl1 = tl.1 in
          let e2 = at 2 (λ z. omega arith) (λ z. omega arith) (λ z. omega arith) ∙ s.sp in
          let found : Found q hs g On Addr Labelled x vs w [] dB = record {
            memory = λ a o. ap (λ (m : Bytes). m a) g1.mem ∙ s.memory a o;
            bytes = λ a. subst (λ (m : Bytes). m a < 256) (sym g1.mem) (s.bytes a);
            zero = at 0 (λ z. omega arith) (λ z. omega arith) (λ z. omega arith) ∙ s.zero;
            base = poke_apart d2.regs 1 t2.address 3 (λ z. omega arith) ∙ (poke_same d1.regs 3 v 3 refl ∙ three);
            aligned = ap (λ z. z % 8) e2 ∙ s.aligned;
            small = poke_small d2.regs 1 t2.address (poke_small d1.regs 3 v (g1.small s.small) (omega arith)) t2.small;
            rest = e2;
            args = λ j lj. arg_early dB j (omega arith) ∙ (at (10 + j) (λ z. omega arith) (λ z. omega arith) (λ z. omega arith) ∙ (s.args j (omega arith) ∙ sym (taken_index f.params (objects_at (length q.image) g ∷ g.limits.objects ∷ heap_at (length q.image) g ∷ g.limits.heap ∷ frames_at (length q.image) g ∷ []) j (omega arith))));
            wide = λ j g8 lj. absurd (omega arith);
          } in
          entered q hs g On Addr Labelled x n (states_follow n) (blocks q g input) q.entry f ip vs w [] r t2.went.run dB (length (pair ++ add) + 2) s.told ready lead t2.went.on found (enters f ip (is_charged f) refl) (omega arith) refl (λ m. ap (λ o. B.enter o (at_places q hs g On Addr Labelled x) (B.exec q.procs (at_places q hs g On Addr Labelled x) m) (args (params_of o)) w []) ip)
        where
          arg_early : (dB : Data) (j : ℕ) → j < 8 → arg_at (dB.regs 2) dB j ≡ dB.regs (10 + j)
          arg_early dB j l = let t : nat_lt j 8 ≡ true = grind (arith, nat_tests) in ap (λ b. cond b (dB.regs (10 + j)) (number 8 dB.mem (dB.regs 2 + 8 * (j - 8)))) t

          first_is : (f : BlockProc) → IsProc q q.entry f → first ≡ cond (is_charged f) 0 (frame_size f)
          first_is f ip = ap first_size ip

          itself : nat_eq q.entry q.entry ≡ true
          itself = grind (arith, nat_tests)

          enters : (f : BlockProc) → IsProc q q.entry f → (b : Bool) → is_charged f ≡ b → Enters q hs g On Addr Labelled x q.entry f w []
          enters f ip true eb = record {
            frames = refl;
            within = omega arith;
            charged = λ h. (let e = first_is f ip ∙ ap (λ b. cond b 0 (frame_size f)) eb in omega arith);
            uncharged = λ h. absurd (let z = sym eb ∙ h in cc);
          }
          enters f ip false eb = record {
            frames = refl;
            within = omega arith;
            charged = λ h. absurd (let z = sym eb ∙ h in cc);
            uncharged = λ h. (let e = first_is f ip ∙ ap (λ b. cond b 0 (frame_size f)) eb in let s' = size_low f eb in let s0 = s'.0 in let s1 = s'.1 in let al = (x.can.room.alone f ip eb).fits in (
              record {
                plain = λ k. omega arith;
                routine = λ k. absurd (let z : (is_charged f || nat_eq q.entry q.entry) ≡ true = ap (λ b. b || nat_eq q.entry q.entry) eb ∙ itself in let y = sym z ∙ k in cc);
                within = omega arith;
              },
              omega arith,
            ));
          }

  -- the machine follows the blocks
  pub image_follows : (input : List ℕ) (i : ℕ) (d : Data) (r : Run) → Begun input i d r → Follows x.K (shown r) (blocks q g input)
  image_follows input i d r s = let e : 0 + x.K ≡ x.K = omega arith in subst (λ k. Follows k (shown r) (blocks q g input)) e (same_follows x.K 0 (λ k. blocks q g input) (shown r) (λ n k le. refl) (λ n. at n))
    where
      at : (n : ℕ) → Same x.K 0 n (blocks q g input) (shown r)
      at zero = nothing_yet x.K (let dear = x.dear in omega arith) 0 (blocks q g input) (shown r) (seen_now r (starting (first_bytes g q.image q.fixes) input) (x.laws.ready i _ d r s.on) s.told)
      at (suc n) = begins n input i d r s
