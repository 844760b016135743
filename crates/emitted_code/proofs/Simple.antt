-- Instructions that are straight code, and addresses.
use Rattle.std.proofs.Common.{◌≡◌, ℕ, zero, suc, ◌+◌, ◌%◌, ◌^◌, ◌<◌, ◌≤◌, inl, inr, Bool, true, false, List, [], ◌∷◌, ◌++◌, length, Option, Some, None, refl, sym, ap, ◌∙◌, subst, arith, length-append}
use Rattle.std.specs.Prelude.{slice_get, slice_set, slice_index, Contains}
use Rattle.behaviour.specs.Behaviour.{Wrong, Behaviour}
use Rattle.jf_base.specs.declared.numbers.Width.{Width}
use Rattle.jf_base.specs.Numbers.{size_of_width}
use Rattle.flat_ir.specs.declared.program.Operation.{Operation}
use Rattle.flat_ir.specs.Bytes.{Bytes, number, put, loaded, stored}
use Rattle.flat_ir.specs.Operations.{result_of, extended}
use Rattle.flat_ir.specs.Placement.{Placement, heap_end}
use Rattle.flat_ir.specs.Flat as F
use Rattle.flat_ir.specs.Flat.{World, with_memory}
use Rattle.flat_ir.proofs.Framing.{number_alike, number_small, put_apart, put_bytes, poke_same, poke_apart}
use Rattle.flatten.specs.declared.blocks.BlockInsn.{BlockInsn}
use Rattle.flatten.specs.declared.blocks.BlockInsn.TheVariants as I
use Rattle.flatten.specs.declared.blocks.BlockEnd.{BlockEnd}
use Rattle.flatten.specs.declared.blocks.BlockProc.{BlockProc}
use Rattle.flatten.specs.declared.blocks.BlockProgram.{BlockProgram}
use Rattle.flatten.specs.Blocks as B
use Rattle.flatten.specs.Named.{AllBelow}
use Rattle.flatten.specs.Paths.{sets}
use Rattle.block_homes.specs.declared.homes.Home.{Home}
use Rattle.block_homes.specs.declared.homes.Home.TheVariants as H
use Rattle.block_homes.specs.declared.homes.Assignment.{Assignment}
use Rattle.block_homes.specs.Held.{places_of, uses_from}
use Rattle.block_homes.specs.Homed.{Cells}
use Rattle.block_homes.specs.Valid.{IsHome}
use Rattle.block_homes.proofs.Lockstep.{At, used, moved_none}
use Rattle.rv_assemble.specs.declared.unit.AsmLine.{AsmLine}
use Rattle.rv_machine.specs.Exec.{Run}
use Rattle.emitted_code.specs.Straight.{Straight, Operate, LoadFrom, StoreTo, lines, load_number, store_word}
use Rattle.emitted_code.specs.Frames.{Layout, home_of, slot_at, is_charged}
use Rattle.emitted_code.specs.Code.{operand_register, fetch, result_register, settle, read, write, copy, rest_code}
use Rattle.emitted_code.specs.Room.{IsProc, HasInsn}
use Rattle.emitted_code.proofs.Data.{Data, set, act, acts, acts_append, Safe, AreSafe, safe_append, Small, poke_small, Compared, same, other, compared}
use Rattle.emitted_code.proofs.Constants.{gets_number, number_few}
use Rattle.emitted_code.proofs.FrameWords.{regroup, word_few, store_few, puts_word}
use Rattle.emitted_code.proofs.Small.{result_small, extended_small}
use Rattle.emitted_code.proofs.Relate.{at_home, cells, Laid, cell_home, frame_moved, homes_same, Stays, at_alike, Suspended, apart, Body, spans, sizes}
use Rattle.emitted_code.proofs.Values.{use_low, set_low, kept_apart, Wrote, result_target, operand_low, apart_seven, fetched_stays, five, free_target, reads, fetches, home_small, scratched, scratched_at, reaches}
use Rattle.emitted_code.proofs.Operands.{Scratches, gets_computes, computes_last, fetched_scratches, settles, fetches_two, apart_not}
use Rattle.emitted_code.proofs.Access.{Owned, owned, owned_reach, owned_bytes, owned_apart, load_done, store_done, put_same}
use Rattle.emitted_code.proofs.LineLaws.{Went, went_then, goes}
use Rattle.emitted_code.proofs.States.{told_after, Given, L, at_places, Related, going, Again, Now, proceeds, goes_wrong, has_set}

mid_get : (ran : List BlockInsn) (y : BlockInsn) (rest : List BlockInsn) → slice_get (ran ++ y ∷ rest) (length ran) ≡ Some y
mid_get [] y rest = refl
mid_get (z ∷ ran) y rest = mid_get ran y rest

pub has_insn : (f : BlockProc) (pl : List ℕ) (y : BlockInsn) (rest : List BlockInsn) (end : BlockEnd) (env : List ℕ) (c : Cells) → At f pl (y ∷ rest) end env c → HasInsn f y
has_insn f pl y rest end env c a = (a.number, (a.block, a.is_block, (length a.ran, ap (λ xs. slice_get xs (length a.ran)) a.insns ∙ mid_get a.ran y rest)))

settle_few : (l : Layout) (h : Home) → length (settle l h) ≤ 10
settle_few l (H.Register r) = omega arith
settle_few l (H.Slot k) = (store_few 5 (slot_at l k)).1

pub fetch_few : (l : Layout) (h : Home) (t : ℕ) → length (fetch l h t) ≤ 10
fetch_few l (H.Register r) t = omega arith
fetch_few l (H.Slot k) t = (word_few t (slot_at l k)).1

pub read_few : (l : Layout) (h : Home) (t : ℕ) → (1 ≤ length (read l h t)) × (length (read l h t) ≤ 10)
read_few l (H.Register r) t = (omega arith, omega arith)
read_few l (H.Slot k) t = word_few t (slot_at l k)

pub write_few : (l : Layout) (h : Home) (t : ℕ) → (1 ≤ length (write l h t)) × (length (write l h t) ≤ 10)
write_few l (H.Register r) t = (omega arith, omega arith)
write_few l (H.Slot k) t = store_few t (slot_at l k)

copy_few : (l : Layout) (h y : Home) → (1 ≤ length (copy l h y)) × (length (copy l h y) ≤ 20)
copy_few l (H.Register r) y = (let c = read_few l y r in (c.0, omega (arith, c.1)))
copy_few l (H.Slot k) y =
    let a = fetch_few l y 5 in
    let b = store_few (operand_register y 5) (slot_at l k) in
    let e = length-append (fetch l y 5) (store_word (operand_register y 5) (slot_at l k)) in
    (omega (arith, b.0, e), omega (arith, a, b.1, e))

module _ (q : BlockProgram) (hs : List Assignment) (g : Placement) (On : ℕ → List AsmLine → Data → Run → Type 0) (Addr : ℕ → List AsmLine → ℕ → Type 0) (Labelled : ℕ → ℕ → List AsmLine → Type 0) (x : Given q hs g On Addr Labelled) where
  abbrev lo : ℕ
  lo = g.image

  abbrev hi : ℕ
  hi = heap_end (length q.image) g

  abbrev pub Rel : BlockProc → List BlockInsn → BlockEnd → List ℕ → World → List B.Waiting → Run → Type 0
  Rel f rest end env w stack r = Related q hs g On Addr Labelled x f rest end env w stack r

  abbrev pub Lay : ℕ → BlockProc → Layout
  Lay i f = L q hs g On Addr Labelled x i f

  abbrev pub run_of : BlockProc → List BlockInsn → BlockEnd → List ℕ → World → List B.Waiting → Behaviour
  run_of f rest end env w stack = going q hs g On Addr Labelled x f rest end env w stack

  -- a home holds its value
  pub home_is : (f : BlockProc) (rest : List BlockInsn) (end : BlockEnd) (env : List ℕ) (w : World) (stack : List B.Waiting) (r : Run) (rel : Rel f rest end env w stack r) (y : ℕ) → Contains (uses_from rest end 0) y
      → at_home (Lay rel.number f) rel.data' (home_of (Lay rel.number f) y) ≡ slice_index env y
  home_is f rest end env w stack r rel y m =
      let l = Lay rel.number f in
      let lt = use_low f (places_of l.homes) rest end env (cells l rel.data') rel.at y m in
      sym (cell_home f l rel.data' y (x.laid rel.number f rel.is) lt) ∙ sym (used f (places_of l.homes) rest end env (cells l rel.data') rel.at y m)

  pub home_low : (f : BlockProc) (rest : List BlockInsn) (end : BlockEnd) (env : List ℕ) (w : World) (stack : List B.Waiting) (r : Run) (rel : Rel f rest end env w stack r) (y : ℕ) → Contains (uses_from rest end 0) y → IsHome f.values (home_of (Lay rel.number f) y)
  home_low f rest end env w stack r rel y m = (x.laid rel.number f rel.is).homes y (use_low f (places_of (Lay rel.number f).homes) rest end env (cells (Lay rel.number f) rel.data') rel.at y m)

  -- straight code that sets a value
  straight_set : (n : ℕ) → Again q hs g On Addr Labelled x n → (f : BlockProc) (y : BlockInsn) (rest : List BlockInsn) (end : BlockEnd) (env : List ℕ) (w : World) (stack : List B.Waiting) (r : Run) (rel : Rel f (y ∷ rest) end env w stack r) (v val : ℕ) (xs : List Straight)
      → On rel.number (lines xs (rest_code (Lay rel.number f) rest end rel.tail)) rel.data' r → sets y ≡ v ∷ [] → val < 2 ^ 64
      → Wrote (Lay rel.number f) (home_of (Lay rel.number f) v) val rel.data' (acts xs rel.data') × AreSafe lo hi xs rel.data' → 1 ≤ length xs → length xs ≤ 400
      → ((m : ℕ) → run_of f (y ∷ rest) end env w stack (suc m) ≡ run_of f rest end (slice_set env v val) w stack m) → Now q hs g On Addr Labelled x (suc n) (run_of f (y ∷ rest) end env w stack) r
  straight_set n again f y rest end env w stack r rel v val xs on es lt done low few e =
      let went = goes q hs g On Addr Labelled x.laws rel.number xs (rest_code (Lay rel.number f) rest end rel.tail) rel.data' r on done.1 in
      let dear = x.dear in
      proceeds q hs g On Addr Labelled x n again (run_of f (y ∷ rest) end env w stack) w r rel.told (x.laws.ready rel.number _ rel.data' r rel.on) f rest end (slice_set env v val) w stack (length xs) went.run went.leads low (omega arith)
      (has_set q hs g On Addr Labelled x f y rest end env w stack r rel v val (length xs) (acts xs rel.data') went es lt done.0) refl e

  pub number_case : (n : ℕ) → Again q hs g On Addr Labelled x n → (f : BlockProc) (v num : ℕ) (rest : List BlockInsn) (end : BlockEnd) (env : List ℕ) (w : World) (stack : List B.Waiting) (r : Run) → Rel f (I.Number v num ∷ rest) end env w stack r → Now q hs g On Addr Labelled x (suc n) (run_of f (I.Number v num ∷ rest) end env w stack) r
  number_case n again f v num rest end env w stack r rel =
      let l = Lay rel.number f in
      let h = home_of l v in
      let is = x.laid rel.number f rel.is in
      let lv = (set_low f (places_of l.homes) (I.Number v num) rest end env (cells l rel.data') rel.at).0 in
      let ih = is.homes v lv in
      let lt : num < 2 ^ 64 = x.can.insns rel.number f rel.is (I.Number v num) (has_insn f (places_of l.homes) (I.Number v num) rest end env (cells l rel.data') rel.at) in
      let ys = load_number (result_register h) num in
      let c = gets_computes lo hi (result_register h) num rel.data' ys (gets_number lo hi (result_register h) num rel.data' (result_target f.values h ih) lt rel.body.zero) in
      let nf = number_few (result_register h) num in
      let e = length-append ys (settle l h) in
      let sf = settle_few l h in
      straight_set n again f (I.Number v num) rest end env w stack r rel v num (ys ++ settle l h) rel.on refl lt (settles q hs g x.can.room Addr x.bounded f l w stack rel.data' h num ys is ih rel.body c) (omega (arith, nf.0, e)) (omega (arith, nf.1, e, sf)) (λ m. refl)

  -- a value copied from one home to another
  copies : (f : BlockProc) (l : Layout) (w : World) (stack : List B.Waiting) (d : Data) (h y : Home) → Laid f l → IsHome f.values h → IsHome f.values y → Body q hs g x.can.room Addr l w stack d → Wrote l h (at_home l d y) d (acts (copy l h y) d) × AreSafe lo hi (copy l h y) d
  copies f l w stack d (H.Register r) y is ih iy b =
      let t = result_target f.values (H.Register r) ih in
      let c = reads q hs g x.can.room Addr x.bounded f l w stack d r y is iy t b in
      (record { to = (c.value, (λ k n a. c.others k n (apart_seven k a)), c.mem); small = c.small b.small }, c.safe)
  copies f l w stack d (H.Slot k) y is ih iy b =
      let fits' = is.fits in
      let xs = fetch l y 5 in
      let a = fetches q hs g x.can.room Addr x.bounded f l w stack d 5 y is iy (free_target 5 five) b in
      let st = fetched_stays lo hi 5 (operand_register y 5) (at_home l d y) d xs five a b.small in
      let d1 = acts xs d in
      let b1 = scratched q hs g x.can.room Addr x.bounded f l w stack d d1 is st a.mem b in
      let ys = store_word (operand_register y 5) (slot_at l k) in
      let p = puts_word lo hi x.bounded (operand_register y 5) (slot_at l k) d1 (operand_low f.values 5 y iy (omega arith)) (not_seven y iy) (reaches q hs g x.can.room Addr x.bounded l w stack d1 (slot_at l k) b1 (omega arith) (omega arith)) b1.zero in
      let s : acts ys d1 ≡ acts (xs ++ ys) d = sym (acts_append xs ys d) in (
        record {
          to = (
            (λ j n. ap (λ (e : Data). e.regs j) (sym s) ∙ (p.others j (apart_seven j n) ∙ a.others j (apart_not j 5 n (omega arith, omega arith)) (apart_seven j n))),
            ap (λ (e : Data). e.mem) (sym s) ∙ (p.mem ∙ (ap (λ m. put 8 m (d1.regs 2 + slot_at l k) (d1.regs (operand_register y 5))) a.mem ∙ (ap (λ z. put 8 d.mem (z + slot_at l k) (d1.regs (operand_register y 5))) st.sp ∙ ap (λ n. put 8 d.mem (d.regs 2 + slot_at l k) n) a.value))),
          );
          small = subst (λ (e : Data). Small e.regs) s (p.small (a.small b.small));
        },
        safe_append lo hi xs ys d a.safe p.safe,
      )
    where
      not_seven : (y : Home) → IsHome f.values y → ¬ (operand_register y 5 ≡ 7)
      not_seven (H.Register r) iy e = (let a = kept_apart r iy in apart_seven r a e)
      not_seven (H.Slot s) iy e = omega arith

  pub copy_case : (n : ℕ) → Again q hs g On Addr Labelled x n → (f : BlockProc) (v y : ℕ) (rest : List BlockInsn) (end : BlockEnd) (env : List ℕ) (w : World) (stack : List B.Waiting) (r : Run) → Rel f (I.Copy v y ∷ rest) end env w stack r → Now q hs g On Addr Labelled x (suc n) (run_of f (I.Copy v y ∷ rest) end env w stack) r
  copy_case n again f v y rest end env w stack r rel =
      let l = Lay rel.number f in
      let h = home_of l v in
      let hy = home_of l y in
      let is = x.laid rel.number f rel.is in
      let lv = (set_low f (places_of l.homes) (I.Copy v y) rest end env (cells l rel.data') rel.at).0 in
      let iy = home_low f (I.Copy v y ∷ rest) end env w stack r rel y (0, omega arith, refl) in
      let ey = home_is f (I.Copy v y ∷ rest) end env w stack r rel y (0, omega arith, refl) in
      let small = home_small q hs g x.can.room Addr x.bounded f l w stack rel.data' hy iy rel.body in
      let c = copies f l w stack rel.data' h hy is (is.homes v lv) iy rel.body in
      let few = copy_few l h hy in
      straight_set n again f (I.Copy v y) rest end env w stack r rel v (slice_index env y) (copy l h hy) rel.on refl (subst (λ z. z < 2 ^ 64) ey small) (subst (λ z. Wrote l h z rel.data' (acts (copy l h hy) rel.data')) ey c.0, c.1) few.0 (omega (arith, few.1)) (λ m. refl)

  -- code that computes by one last instruction
  by_last : (f : BlockProc) (l : Layout) (w : World) (stack : List B.Waiting) (d : Data) (h : Home) (val : ℕ) (xs : List Straight) (y : Straight) → Laid f l → IsHome f.values h → Body q hs g x.can.room Addr l w stack d → Scratches lo hi d xs → act y (acts xs d) ≡ set (acts xs d) (result_register h) val → Safe lo hi y (acts xs d) → val < 2 ^ 64
      → Wrote l h val d (acts (xs ++ (y ∷ settle l h)) d) × AreSafe lo hi (xs ++ (y ∷ settle l h)) d
  by_last f l w stack d h val xs y is ih b sc e sf lt =
      subst (λ zs. Wrote l h val d (acts zs d) × AreSafe lo hi zs d) (regroup xs y (settle l h))
      (settles q hs g x.can.room Addr x.bounded f l w stack d h val (xs ++ y ∷ []) is ih b (computes_last lo hi (result_register h) val d xs y sc e sf lt))

  pub binary_case : (n : ℕ) → Again q hs g On Addr Labelled x n → (f : BlockProc) (o : Operation) (v y z : ℕ) (rest : List BlockInsn) (end : BlockEnd) (env : List ℕ) (w : World) (stack : List B.Waiting) (r : Run) → Rel f (I.Binary o v y z ∷ rest) end env w stack r → Now q hs g On Addr Labelled x (suc n) (run_of f (I.Binary o v y z ∷ rest) end env w stack) r
  binary_case n again f o v y z rest end env w stack r rel =
      let l = Lay rel.number f in
      let d = rel.data' in
      let h = home_of l v in
      let hy = home_of l y in
      let hz = home_of l z in
      let is = x.laid rel.number f rel.is in
      let lv = (set_low f (places_of l.homes) (I.Binary o v y z) rest end env (cells l d) rel.at).0 in
      let iy = home_low f (I.Binary o v y z ∷ rest) end env w stack r rel y (0, omega arith, refl) in
      let iz = home_low f (I.Binary o v y z ∷ rest) end env w stack r rel z (1, omega arith, refl) in
      let ey = home_is f (I.Binary o v y z ∷ rest) end env w stack r rel y (0, omega arith, refl) in
      let ez = home_is f (I.Binary o v y z ∷ rest) end env w stack r rel z (1, omega arith, refl) in
      let sy = subst (λ k. k < 2 ^ 64) ey (home_small q hs g x.can.room Addr x.bounded f l w stack d hy iy rel.body) in
      let sz = subst (λ k. k < 2 ^ 64) ez (home_small q hs g x.can.room Addr x.bounded f l w stack d hz iz rel.body) in
      let xs = fetch l hy 5 ++ fetch l hz 6 in
      let t = fetches_two q hs g x.can.room Addr x.bounded f l w stack d hy hz is iy iz rel.body in
      let val = result_of o (slice_index env y) (slice_index env z) in
      let rd = result_register h in
      let ry = operand_register hy 5 in
      let rz = operand_register hz 6 in
      let lt = result_small o (slice_index env y) (slice_index env z) sy sz in
      let e : act (Operate o rd ry rz) (acts xs d) ≡ set (acts xs d) rd val = ap (λ k. set (acts xs d) rd (result_of o k ((acts xs d).regs rz))) (t.left ∙ ey) ∙ ap (λ k. set (acts xs d) rd (result_of o (slice_index env y) k)) (t.right ∙ ez) in
      let done = by_last f l w stack d h val xs (Operate o rd ry rz) is (is.homes v lv) rel.body t.scratches e (result_target f.values h (is.homes v lv), operand_low f.values 5 hy iy (omega arith), operand_low f.values 6 hz iz (omega arith)) lt in
      let n1 = length-append (fetch l hy 5) (fetch l hz 6) in
      let n2 = length-append xs (Operate o rd ry rz ∷ settle l h) in
      straight_set n again f (I.Binary o v y z) rest end env w stack r rel v val (xs ++ (Operate o rd ry rz ∷ settle l h)) rel.on refl lt done (omega (arith, n2)) (omega (arith, n1, n2, fetch_few l hy 5, fetch_few l hz 6, settle_few l h)) (λ m. refl)

  pub load_case : (n : ℕ) → Again q hs g On Addr Labelled x n → (f : BlockProc) (v : ℕ) (s : Width) (is_signed : Bool) (y : ℕ) (rest : List BlockInsn) (end : BlockEnd) (env : List ℕ) (w : World) (stack : List B.Waiting) (r : Run) → Rel f (I.Load v s is_signed y ∷ rest) end env w stack r → Now q hs g On Addr Labelled x (suc n) (run_of f (I.Load v s is_signed y ∷ rest) end env w stack) r
  load_case n again f v s is_signed y rest end env w stack r rel = go (loaded (size_of_width s) (at_places q hs g On Addr Labelled x).areas w.memory (slice_index env y)) refl
    where
      a : ℕ
      a = slice_index env y

      size : ℕ
      size = size_of_width s

      now : BlockInsn
      now = I.Load v s is_signed y

      go : (o : Option ℕ) → loaded size (at_places q hs g On Addr Labelled x).areas w.memory a ≡ o → Now q hs g On Addr Labelled x (suc n) (run_of f (I.Load v s is_signed y ∷ rest) end env w stack) r
      go None eo = goes_wrong q hs g On Addr Labelled x (suc n) (run_of f (I.Load v s is_signed y ∷ rest) end env w stack) w r rel.told (x.laws.ready rel.number _ rel.data' r rel.on) refl (λ m. ap (λ o. B.if_value o (F.seen w Wrong) (λ val. run_of f rest end (slice_set env v (extended s is_signed val)) w stack m)) eo)
      go (Some got) eo =
          let l = Lay rel.number f in
          let d = rel.data' in
          let h = home_of l v in
          let hy = home_of l y in
          let is = x.laid rel.number f rel.is in
          let lv = (set_low f (places_of l.homes) (I.Load v s is_signed y) rest end env (cells l d) rel.at).0 in
          let iy = home_low f (I.Load v s is_signed y ∷ rest) end env w stack r rel y (0, omega arith, refl) in
          let ey = home_is f (I.Load v s is_signed y ∷ rest) end env w stack r rel y (0, omega arith, refl) in
          let done = load_done size (at_places q hs g On Addr Labelled x).areas w.memory a got eo in
          let own = owned size (length q.image) g a done.0 in
          let reach = owned_reach size (length q.image) g a own in
          let up = reach.2 in
          let big = x.bounded in
          let xs = fetch l hy 5 in
          let c = fetches q hs g x.can.room Addr x.bounded f l w stack d 5 hy is iy (free_target 5 five) rel.body in
          let rd = result_register h in
          let ry = operand_register hy 5 in
          let d1 = acts xs d in
          let there : (d1.regs ry + 0) % 2 ^ 64 ≡ a = (let e1 = c.value ∙ ey in omega arith) in
          let same : number size d1.mem a ≡ got = number_alike size w.memory d1.mem a (λ i low high. ap (λ (m : Bytes). m i) c.mem ∙ rel.body.memory i (owned_bytes size (length q.image) g a i own low high)) ∙ done.1 in
          let val = extended s is_signed got in
          let lt = subst (λ k. extended s is_signed k < 2 ^ 64) same (extended_small s is_signed (number size d1.mem a) (number_small size d1.mem a (λ i. subst (λ (m : Bytes). m i < 256) (sym c.mem) (rel.body.bytes i)))) in
          let e : act (LoadFrom s is_signed rd ry 0) d1 ≡ set d1 rd val = ap (λ k. set d1 rd (extended s is_signed (number size d1.mem k))) there ∙ ap (λ k. set d1 rd (extended s is_signed k)) same in
          let sc = fetched_scratches lo hi 5 ry (at_home l d hy) d xs (omega arith, omega arith) c in
          let fine = by_last f l w stack d h val xs (LoadFrom s is_signed rd ry 0) is (is.homes v lv) rel.body sc e (result_target f.values h (is.homes v lv), operand_low f.values 5 hy iy (omega arith), subst (λ k. (k % size ≡ 0) × (lo ≤ k) × (k + size ≤ hi)) (sym there) reach) lt in
          let n2 = length-append xs (LoadFrom s is_signed rd ry 0 ∷ settle l h) in
          straight_set n again f (I.Load v s is_signed y) rest end env w stack r rel v val (xs ++ (LoadFrom s is_signed rd ry 0 ∷ settle l h)) rel.on refl lt fine (omega (arith, n2)) (omega (arith, n2, fetch_few l hy 5, settle_few l h)) (λ m. ap (λ o. B.if_value o (F.seen w Wrong) (λ val. run_of f rest end (slice_set env v (extended s is_signed val)) w stack m)) eo)

  -- the program's own memory is written
  body_stored : (f : BlockProc) (l : Layout) (w : World) (stack : List B.Waiting) (d : Data) (size a v : ℕ) → Laid f l → Owned size (length q.image) g a → Body q hs g x.can.room Addr l w stack d
      → Body q hs g x.can.room Addr l (with_memory w (put size w.memory a v)) stack (record { regs = d.regs; mem = put size d.mem a v })
  body_stored f l w stack d size a v is own b =
      let d' : Data = record { regs = d.regs; mem = put size d.mem a v } in
      let bottom = b.low in
      let all = spans q hs g x.can.room Addr l w stack d b in
      let off : (i : ℕ) → d.regs 2 ≤ i → i < d.regs 2 + l.size + sizes stack → d'.mem i ≡ d.mem i = λ i low high. put_apart size d.mem a v i (owned_apart size (length q.image) g a i own (omega arith) (omega arith)) in
      record {
        memory = λ i o. put_same size w.memory d.mem a v i (b.memory i o);
        bytes = put_bytes size d.mem a v b.bytes;
        zero = b.zero;
        base = b.base;
        low = b.low;
        aligned = b.aligned;
        small = b.small;
        frame = (let fits' = is.fits in let up = b.frame.above in frame_moved f l d d' (Suspended q hs g x.can.room Addr stack d.mem) (Suspended q hs g x.can.room Addr stack d'.mem) is refl (λ h k n. refl) (λ i low high. off i (omega arith) (omega arith)) (λ ρ e t. apart q hs g x.can.room Addr stack d.mem d'.mem ρ (λ i low high. off i (omega arith) (omega arith)) t) b.frame);
      }

  at_stored : (f : BlockProc) (l : Layout) (rest : List BlockInsn) (end : BlockEnd) (env : List ℕ) (w : World) (stack : List B.Waiting) (d : Data) (size a v : ℕ) → Laid f l → Owned size (length q.image) g a → Body q hs g x.can.room Addr l w stack d
      → At f (places_of l.homes) rest end env (cells l d) → At f (places_of l.homes) rest end env (cells l (record { regs = d.regs; mem = put size d.mem a v }))
  at_stored f l rest end env w stack d size a v is own b at =
      let d' : Data = record { regs = d.regs; mem = put size d.mem a v } in
      let bottom = b.low in
      let all = spans q hs g x.can.room Addr l w stack d b in
      at_alike f (places_of l.homes) rest end env (cells l d) (cells l d') (λ u lt. cell_home f l d' u is lt ∙ (homes_same f l d d' (home_of l u) (is.homes u lt) is refl (λ h k. refl) (λ i low high. put_apart size d.mem a v i (owned_apart size (length q.image) g a i own (omega arith) (omega arith))) ∙ sym (cell_home f l d u is lt))) at

  pub store_case : (n : ℕ) → Again q hs g On Addr Labelled x n → (f : BlockProc) (s : Width) (y z : ℕ) (rest : List BlockInsn) (end : BlockEnd) (env : List ℕ) (w : World) (stack : List B.Waiting) (r : Run) → Rel f (I.Store s y z ∷ rest) end env w stack r → Now q hs g On Addr Labelled x (suc n) (run_of f (I.Store s y z ∷ rest) end env w stack) r
  store_case n again f s y z rest end env w stack r rel = go (stored (size_of_width s) (at_places q hs g On Addr Labelled x).areas w.memory (slice_index env y) (slice_index env z)) refl
    where
      a : ℕ
      a = slice_index env y

      v : ℕ
      v = slice_index env z

      size : ℕ
      size = size_of_width s

      go : (o : Option Bytes) → stored size (at_places q hs g On Addr Labelled x).areas w.memory a v ≡ o → Now q hs g On Addr Labelled x (suc n) (run_of f (I.Store s y z ∷ rest) end env w stack) r
      go None eo = goes_wrong q hs g On Addr Labelled x (suc n) (run_of f (I.Store s y z ∷ rest) end env w stack) w r rel.told (x.laws.ready rel.number _ rel.data' r rel.on) refl (λ m. ap (λ o. B.if_value o (F.seen w Wrong) (λ k. run_of f rest end env (with_memory w k) stack m)) eo)
      go (Some m') eo =
          let l = Lay rel.number f in
          let d = rel.data' in
          let hy = home_of l y in
          let hz = home_of l z in
          let is = x.laid rel.number f rel.is in
          let iy = home_low f (I.Store s y z ∷ rest) end env w stack r rel y (0, omega arith, refl) in
          let iz = home_low f (I.Store s y z ∷ rest) end env w stack r rel z (1, omega arith, refl) in
          let ey = home_is f (I.Store s y z ∷ rest) end env w stack r rel y (0, omega arith, refl) in
          let ez = home_is f (I.Store s y z ∷ rest) end env w stack r rel z (1, omega arith, refl) in
          let done = store_done size (at_places q hs g On Addr Labelled x).areas w.memory m' a v eo in
          let own = owned size (length q.image) g a done.0 in
          let reach = owned_reach size (length q.image) g a own in
          let up = reach.2 in
          let big = x.bounded in
          let dear = x.dear in
          let xs = fetch l hy 5 ++ fetch l hz 6 in
          let ry = operand_register hy 5 in
          let rz = operand_register hz 6 in
          let t = fetches_two q hs g x.can.room Addr x.bounded f l w stack d hy hz is iy iz rel.body in
          let d1 = acts xs d in
          let there : (d1.regs ry + 0) % 2 ^ 64 ≡ a = (let e1 = t.left ∙ ey in omega arith) in
          let last = StoreTo s rz ry 0 in
          let st : Stays d d1 = record { zero = t.scratches.others 0 (inl (omega arith)); sp = t.scratches.others 2 (inl (omega arith)); base = t.scratches.others 3 (inl (omega arith)); kept = λ h k. t.scratches.others h (kept_apart h k); small = t.scratches.small rel.body.small } in
          let b1 = scratched q hs g x.can.room Addr x.bounded f l w stack d d1 is st t.scratches.mem rel.body in
          let at1 = scratched_at q hs g x.can.room Addr x.bounded f l (I.Store s y z ∷ rest) end env d d1 is st t.scratches.mem rel.at in
          let d2 : Data = record { regs = d1.regs; mem = put size d1.mem a v } in
          let e2 : acts (xs ++ last ∷ []) d ≡ d2 = acts_append xs (last ∷ []) d ∙ (ap (λ k. record { regs = d1.regs; mem = put size d1.mem k (d1.regs rz) }) there ∙ ap (λ k. record { regs = d1.regs; mem = put size d1.mem a k }) (t.right ∙ ez)) in
          let sf = safe_append lo hi xs (last ∷ []) d t.scratches.safe ((operand_low f.values 6 hz iz (omega arith), operand_low f.values 5 hy iy (omega arith), subst (λ k. (k % size ≡ 0) × (lo ≤ k) × (k + size ≤ hi)) (sym there) reach), tt) in
          let code = rest_code l rest end rel.tail in
          let went = goes q hs g On Addr Labelled x.laws rel.number (xs ++ last ∷ []) code d r rel.on sf in
          let b2 = body_stored f l w stack d1 size a v is own b1 in
          let at2 = at_stored f l (I.Store s y z ∷ rest) end env w stack d1 size a v is own b1 at1 in
          let few = length-append xs (last ∷ []) in
          let few1 = length-append (fetch l hy 5) (fetch l hz 6) in
          proceeds q hs g On Addr Labelled x n again (run_of f (I.Store s y z ∷ rest) end env w stack) w r rel.told (x.laws.ready rel.number _ rel.data' r rel.on) f rest end env (with_memory w m') stack (length (xs ++ last ∷ [])) went.run went.leads (omega (arith, few)) (omega (arith, few, few1, fetch_few l hy 5, fetch_few l hz 6))
          (record {
            number = rel.number;
            is = rel.is;
            data' = d2;
            tail = rel.tail;
            on = subst (λ e. On rel.number code e went.run) e2 went.on;
            told = (let k = told_after (length (xs ++ last ∷ [])) r went.run w went.leads rel.told in record { bytes = k.bytes; left = k.left; taken = k.taken; output = k.output });
            frames = rel.frames;
            level = rel.level;
            at = moved_none f (places_of l.homes) (I.Store s y z) rest end env (cells l d2) refl at2;
            body = subst (λ m. Body q hs g x.can.room Addr l (with_memory w m) stack d2) done.1 b2;
          }) refl (λ m. ap (λ o. B.if_value o (F.seen w Wrong) (λ k. run_of f rest end env (with_memory w k) stack m)) eo)

  -- an address, and then it goes to its home
  address_done : (n : ℕ) → Again q hs g On Addr Labelled x n → (f : BlockProc) (y : BlockInsn) (rest : List BlockInsn) (end : BlockEnd) (env : List ℕ) (w : World) (stack : List B.Waiting) (r : Run) (rel : Rel f (y ∷ rest) end env w stack r) (v val : ℕ)
      → Went q hs g On Addr Labelled 2 rel.number (lines (settle (Lay rel.number f) (home_of (Lay rel.number f) v)) (rest_code (Lay rel.number f) rest end rel.tail)) (set rel.data' (result_register (home_of (Lay rel.number f) v)) val) r
      → sets y ≡ v ∷ [] → val < 2 ^ 64 → ((m : ℕ) → run_of f (y ∷ rest) end env w stack (suc m) ≡ run_of f rest end (slice_set env v val) w stack m) → Now q hs g On Addr Labelled x (suc n) (run_of f (y ∷ rest) end env w stack) r
  address_done n again f y rest end env w stack r rel v val a es lt e =
      let l = Lay rel.number f in
      let d = rel.data' in
      let h = home_of l v in
      let rd = result_register h in
      let is = x.laid rel.number f rel.is in
      let lv = subst (λ vs. AllBelow f.values vs) es (set_low f (places_of l.homes) y rest end env (cells l d) rel.at) in
      let ih = is.homes v lv.0 in
      let d1 = set d rd val in
      let code = rest_code l rest end rel.tail in
      let done = settled f l w stack d h val is ih rel.body lt in
      let b = goes q hs g On Addr Labelled x.laws rel.number (settle l h) code d1 a.run a.on done.1 in
      let went = went_then q hs g On Addr Labelled 2 (length (settle l h)) rel.number rel.number (lines (settle l h) code) code d1 (acts (settle l h) d1) r a b in
      let dear = x.dear in
      proceeds q hs g On Addr Labelled x n again (run_of f (y ∷ rest) end env w stack) w r rel.told (x.laws.ready rel.number _ rel.data' r rel.on) f rest end (slice_set env v val) w stack (2 + length (settle l h)) went.run went.leads (omega arith) (omega (arith, settle_few l h))
      (has_set q hs g On Addr Labelled x f y rest end env w stack r rel v val (2 + length (settle l h)) (acts (settle l h) d1) went es lt done.0) refl e
    where
      settled : (f : BlockProc) (l : Layout) (w : World) (stack : List B.Waiting) (d : Data) (h : Home) (val : ℕ) → Laid f l → IsHome f.values h → Body q hs g x.can.room Addr l w stack d → val < 2 ^ 64
          → Wrote l h val d (acts (settle l h) (set d (result_register h) val)) × AreSafe lo hi (settle l h) (set d (result_register h) val)
      settled f l w stack d (H.Register r) val is ih b lt = (
        record {
          to = (poke_same d.regs r val r refl, (λ k n a. poke_apart d.regs r val k n), refl);
          small = poke_small d.regs r val b.small lt;
        },
        tt,
      )
      settled f l w stack d (H.Slot k) val is ih b lt =
          let fits' = is.fits in
          let d1 = set d 5 val in
          let e0 : d1.regs 0 ≡ d.regs 0 = poke_apart d.regs 5 val 0 (λ z. omega arith) in
          let e2 : d1.regs 2 ≡ d.regs 2 = poke_apart d.regs 5 val 2 (λ z. omega arith) in
          let e5 : d1.regs 5 ≡ val = poke_same d.regs 5 val 5 refl in
          let p = puts_word lo hi x.bounded 5 (slot_at l k) d1 (omega arith) (λ z. omega arith) (subst (λ a. (((a + slot_at l k) % 8 ≡ 0) × (lo ≤ a + slot_at l k) × (a + slot_at l k + 8 ≤ hi))) (sym e2) (reaches q hs g x.can.room Addr x.bounded l w stack d (slot_at l k) b (omega arith) (omega arith))) (e0 ∙ b.zero) in (
            record {
              to = (
                (λ j n. p.others j (apart_seven j n) ∙ poke_apart d.regs 5 val j (apart_not j 5 n (omega arith, omega arith))),
                p.mem ∙ (ap (λ a. put 8 d.mem (a + slot_at l k) (d1.regs 5)) e2 ∙ ap (λ n. put 8 d.mem (d.regs 2 + slot_at l k) n) e5),
              );
              small = p.small (poke_small d.regs 5 val b.small lt);
            },
            p.safe,
          )

  none_past : (ps : List BlockProc) (i : ℕ) → slice_get ps i ≡ None → length ps ≤ i
  none_past [] i e = omega arith
  none_past (p ∷ ps) zero e = absurd (cc)
  none_past (p ∷ ps) (suc i) e = (let h = none_past ps i e in omega arith)

  pub proc_address_case : (n : ℕ) → Again q hs g On Addr Labelled x n → (f : BlockProc) (v p : ℕ) (rest : List BlockInsn) (end : BlockEnd) (env : List ℕ) (w : World) (stack : List B.Waiting) (r : Run) → Rel f (I.ProcAddress v p ∷ rest) end env w stack r → Now q hs g On Addr Labelled x (suc n) (run_of f (I.ProcAddress v p ∷ rest) end env w stack) r
  proc_address_case n again f v p rest end env w stack r rel = go (slice_get q.procs p) refl
    where
      l : Layout
      l = Lay rel.number f

      has : HasInsn f (I.ProcAddress v p)
      has = has_insn f (places_of l.homes) (I.ProcAddress v p) rest end env (cells l rel.data') rel.at

      lv : v < f.values
      lv = (set_low f (places_of l.homes) (I.ProcAddress v p) rest end env (cells l rel.data') rel.at).0

      near : (d : BlockProc) → IsProc q p d → (b : Bool) → is_charged d ≡ b → Compared p q.entry → g.procs p < 2 ^ 64
      near d ip true e c = x.near p d ip (inl e)
      near d ip false e (other n) = x.near p d ip (inr n)
      near d ip false e (same n) =
          let ie : IsProc q q.entry d = subst (λ k. slice_get q.procs k ≡ Some d) n ip in
          absurd ((x.can.room.alone d ie e).insns rel.number f rel.is (I.ProcAddress v p) has n)

      go : (o : Option BlockProc) → slice_get q.procs p ≡ o → Now q hs g On Addr Labelled x (suc n) (run_of f (I.ProcAddress v p ∷ rest) end env w stack) r
      go None eo = absurd (let lt = x.can.insns rel.number f rel.is (I.ProcAddress v p) has in let past = none_past q.procs p eo in omega arith)
      go (Some d) eo =
          let lt = near d eo (is_charged d) refl (compared p q.entry) in
          let a = x.laws.proc_address rel.number p (result_register (home_of l v)) d (lines (settle l (home_of l v)) (rest_code l rest end rel.tail)) rel.data' r rel.on (result_target f.values (home_of l v) ((x.laid rel.number f rel.is).homes v lv)) eo lt in
          address_done n again f (I.ProcAddress v p) rest end env w stack r rel v (g.procs p) a refl lt (λ m. refl)

  pub image_address_case : (n : ℕ) → Again q hs g On Addr Labelled x n → (f : BlockProc) (v k : ℕ) (rest : List BlockInsn) (end : BlockEnd) (env : List ℕ) (w : World) (stack : List B.Waiting) (r : Run) → Rel f (I.ImageAddress v k ∷ rest) end env w stack r → Now q hs g On Addr Labelled x (suc n) (run_of f (I.ImageAddress v k ∷ rest) end env w stack) r
  image_address_case n again f v k rest end env w stack r rel =
      let l = Lay rel.number f in
      let lv = (set_low f (places_of l.homes) (I.ImageAddress v k) rest end env (cells l rel.data') rel.at).0 in
      let fit : k ≤ length q.image = x.can.insns rel.number f rel.is (I.ImageAddress v k) (has_insn f (places_of l.homes) (I.ImageAddress v k) rest end env (cells l rel.data') rel.at) in
      let big = x.bounded in
      let a = x.laws.image_address rel.number k (result_register (home_of l v)) (lines (settle l (home_of l v)) (rest_code l rest end rel.tail)) rel.data' r rel.on (result_target f.values (home_of l v) ((x.laid rel.number f rel.is).homes v lv)) fit in
      address_done n again f (I.ImageAddress v k) rest end env w stack r rel v (g.image + k) a refl (omega arith) (λ m. refl)
