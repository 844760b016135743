-- Arguments: passed by a caller, and received by a procedure.
use Rattle.std.proofs.Common.{◌≡◌, ℕ, zero, suc, ◌+◌, ◌-◌, ◌*◌, ◌%◌, ◌^◌, ◌<◌, ◌≤◌, ◌⊎◌, inl, inr, Bool, true, false, cond, List, [], ◌∷◌, ◌++◌, length, refl, sym, ap, ◌∙◌, subst, arith, length-append}
use Rattle.std.specs.Prelude.{nat_lt, ◌==◌, slice_index, Contains}
use Rattle.std.proofs.lemmas.Bool.Decides.{nat_tests}
use Rattle.flat_ir.specs.Bytes.{Bytes, number, put}
use Rattle.flat_ir.specs.Placement.{Placement, heap_end}
use Rattle.flat_ir.specs.Flat.{World}
use Rattle.flat_ir.proofs.Framing.{number_put_same, number_put_apart, number_small, put_apart, put_bytes}
use Rattle.flatten.specs.declared.blocks.BlockProc.{BlockProc}
use Rattle.flatten.specs.declared.blocks.BlockProgram.{BlockProgram}
use Rattle.flatten.specs.Blocks as B
use Rattle.block_homes.specs.declared.homes.Home.{Home}
use Rattle.block_homes.specs.declared.homes.Home.TheVariants as H
use Rattle.block_homes.specs.declared.homes.Assignment.{Assignment}
use Rattle.block_homes.specs.Held.{places_of}
use Rattle.block_homes.specs.Homed.{Cells, value, passed}
use Rattle.block_homes.specs.Valid.{IsHome}
use Rattle.rv_assemble.specs.declared.unit.AsmLine.{AsmLine}
use Rattle.emitted_code.specs.Straight.{Straight, store_word, load_word}
use Rattle.emitted_code.specs.Frames.{Layout, home_of, slot_at}
use Rattle.emitted_code.specs.Code.{read, write, pass_one, pass, receive_one, receive}
use Rattle.emitted_code.specs.Room.{HasRoom}
use Rattle.emitted_code.proofs.Data.{Data, acts, acts_append, Reach, AreSafe, safe_append}
use Rattle.emitted_code.proofs.FrameWords.{puts_word, gets_word, word_few, store_few}
use Rattle.emitted_code.proofs.Relate.{at_home, cells, Laid, cell_home, kept_range, IsFree, Stays, frame_moved, homes_same, IsOwn, Suspended, apart, Body, spans, top}
use Rattle.emitted_code.proofs.Values.{Wrote, cells_written, gets_stays, five, free_target, reads, writes, home_small, scratched, body_written}
use Rattle.emitted_code.proofs.Simple.{read_few, write_few}

-- the j-th argument, where x2 was sp at the call
abbrev pub arg_at : ℕ → Data → ℕ → ℕ
arg_at sp d j = cond (nat_lt j 8) (d.regs (10 + j)) (number 8 d.mem (sp + 8 * (j - 8)))

pub data Below (j : ℕ) : Type 0 where
  early : j < 8 → nat_lt j 8 ≡ true → Below j
  late : 8 ≤ j → nat_lt j 8 ≡ false → Below j

pub below_eight : (j : ℕ) → Below j
below_eight j = go (nat_lt j 8) refl
  where
    go : (b : Bool) → nat_lt j 8 ≡ b → Below j
    go true e = let l : j < 8 = grind (arith, nat_tests) in early l e
    go false e = let l : 8 ≤ j = grind (arith, nat_tests) in late l e

pub arg_same : (sp : ℕ) (d d' : Data) (j : ℕ) → (j < 8 → d'.regs (10 + j) ≡ d.regs (10 + j)) → (8 ≤ j → number 8 d'.mem (sp + 8 * (j - 8)) ≡ number 8 d.mem (sp + 8 * (j - 8))) → arg_at sp d' j ≡ arg_at sp d j
arg_same sp d d' j a b = go (below_eight j)
  where
    go : Below j → arg_at sp d' j ≡ arg_at sp d j
    go (early l e) = ap (λ t. cond t (d'.regs (10 + j)) (number 8 d'.mem (sp + 8 * (j - 8)))) e ∙ (a l ∙ sym (ap (λ t. cond t (d.regs (10 + j)) (number 8 d.mem (sp + 8 * (j - 8)))) e))
    go (late l e) = ap (λ t. cond t (d'.regs (10 + j)) (number 8 d'.mem (sp + 8 * (j - 8)))) e ∙ (b l ∙ sym (ap (λ t. cond t (d.regs (10 + j)) (number 8 d.mem (sp + 8 * (j - 8)))) e))

pub pass_few : (l : Layout) (i : ℕ) (ys : List ℕ) → length (pass l i ys) ≤ 20 * length ys
pass_few l i [] = omega arith
pass_few l i (y ∷ ys) =
    let a = read_few l (home_of l y) (10 + i) in
    let b = read_few l (home_of l y) 5 in
    let c = store_few 5 (8 * (i - 8)) in
    let e = length-append (read l (home_of l y) 5) (store_word 5 (8 * (i - 8))) in
    let one : length (pass_one l i y) ≤ 20 = by (nat_lt i 8) (omega (arith, a.1)) (omega (arith, b.1, c.1, e)) in
    omega (arith, one, pass_few l (i + 1) ys, length-append (pass_one l i y) (pass l (i + 1) ys))
  where
    by : (t : Bool) → length (read l (home_of l y) (10 + i)) ≤ 20 → length (read l (home_of l y) 5 ++ store_word 5 (8 * (i - 8))) ≤ 20 → length (cond t (read l (home_of l y) (10 + i)) (read l (home_of l y) 5 ++ store_word 5 (8 * (i - 8)))) ≤ 20
    by true p r = p
    by false p r = r

pub receive_few : (l : Layout) (n : ℕ) → length (receive l n) ≤ 20 * n
receive_few l zero = omega arith
receive_few l (suc n) =
    let a = write_few l (home_of l n) (10 + n) in
    let b = write_few l (home_of l n) 5 in
    let c = word_few 5 (l.size + 8 * (n - 8)) in
    let e = length-append (load_word 5 (l.size + 8 * (n - 8))) (write l (home_of l n) 5) in
    let one : length (receive_one l n) ≤ 20 = by (nat_lt n 8) (omega (arith, a.1)) (omega (arith, b.1, c.1, e)) in
    omega (arith, one, receive_few l n, length-append (receive l n) (receive_one l n))
  where
    by : (t : Bool) → length (write l (home_of l n) (10 + n)) ≤ 20 → length (load_word 5 (l.size + 8 * (n - 8)) ++ write l (home_of l n) 5) ≤ 20 → length (cond t (write l (home_of l n) (10 + n)) (load_word 5 (l.size + 8 * (n - 8)) ++ write l (home_of l n) 5)) ≤ 20
    by true p r = p
    by false p r = r

cells_same : (f : BlockProc) (l : Layout) (d d' : Data) → Laid f l → Stays d d' → d'.mem ≡ d.mem → (u : ℕ) → u < f.values → value (places_of l.homes) (cells l d') u ≡ value (places_of l.homes) (cells l d) u
cells_same f l d d' is st e u lu = cell_home f l d' u is lu ∙ (homes_same f l d d' (home_of l u) (is.homes u lu) is st.sp st.kept (λ a low high. ap (λ (m : Bytes). m a) e) ∙ sym (cell_home f l d u is lu))

module _ (q : BlockProgram) (hs : List Assignment) (g : Placement) (room : HasRoom q) (Addr : ℕ → List AsmLine → ℕ → Type 0) (bounded : heap_end (length q.image) g ≤ 2 ^ 63) where
  abbrev lo : ℕ
  lo = g.image

  abbrev hi : ℕ
  hi = heap_end (length q.image) g

  abbrev Bo : Layout → World → List B.Waiting → Data → Type 0
  Bo l w stack d = Body q hs g room Addr l w stack d

  -- a word is written into the place of the arguments that are passed
  body_out : (f : BlockProc) (l : Layout) (w : World) (stack : List B.Waiting) (d d' : Data) (k v : ℕ) → Laid f l → k < l.words → Stays d d' → d'.mem ≡ put 8 d.mem (d.regs 2 + 8 * k) v → Bo l w stack d → Bo l w stack d'
  body_out f l w stack d d' k v is lt st e b =
      let fits = is.fits in
      let bottom = b.low in
      let all = spans q hs g room Addr l w stack d b in
      let at = d.regs 2 + 8 * k in
      let off : (a : ℕ) → (at + 8 ≤ a) ⊎ (a + 1 ≤ at) → d'.mem a ≡ d.mem a = λ a o. ap (λ (m : Bytes). m a) e ∙ put_apart 8 d.mem at v a o in
      record {
        memory = λ a o. off a (own at a (omega arith) (omega arith) o) ∙ b.memory a o;
        bytes = λ a. subst (λ (m : Bytes). m a < 256) (sym e) (put_bytes 8 d.mem at v b.bytes a);
        zero = st.zero ∙ b.zero;
        base = st.base ∙ b.base;
        low = (let sp = st.sp in omega arith);
        aligned = ap (λ z. z % 8) st.sp ∙ b.aligned;
        small = st.small;
        frame = frame_moved f l d d' (Suspended q hs g room Addr stack d.mem) (Suspended q hs g room Addr stack d'.mem) is st.sp (λ h kk n. st.kept h kk) (λ a low high. off a (inl (omega arith))) (λ ρ up t. apart q hs g room Addr stack d.mem d'.mem ρ (λ a low high. off a (inl (omega arith))) t) b.frame;
      }
    where
      own : (at a : ℕ) → g.image + length q.image ≤ at → at + 8 ≤ top q hs g room Addr → IsOwn (length q.image) g a → (at + 8 ≤ a) ⊎ (a + 1 ≤ at)
      own at a lo hi (inl o) = (let o1 = o.1 in inr (omega arith))
      own at a lo hi (inr o) = (let o0 = o.0 in inl (omega arith))

  -- arguments from the i-th on are passed
  pub record Passed (l : Layout) (w : World) (stack : List B.Waiting) (i : ℕ) (vs : List ℕ) (d : Data) (xs : List Straight) : Type 0 where
    pub body : Bo l w stack (acts xs d)
    pub stays : Stays d (acts xs d)
    pub above : (a : ℕ) → d.regs 2 + 8 * l.words ≤ a → (acts xs d).mem a ≡ d.mem a
    pub old : (j : ℕ) → j < i → arg_at (d.regs 2) (acts xs d) j ≡ arg_at (d.regs 2) d j
    pub args : (j : ℕ) → j < length vs → arg_at (d.regs 2) (acts xs d) (i + j) ≡ slice_index vs j
    pub safe : AreSafe lo hi xs d

  -- one of them
  record One (l : Layout) (w : World) (stack : List B.Waiting) (i v : ℕ) (d : Data) (xs : List Straight) : Type 0 where
    body : Bo l w stack (acts xs d)
    stays : Stays d (acts xs d)
    above : (a : ℕ) → d.regs 2 + 8 * l.words ≤ a → (acts xs d).mem a ≡ d.mem a
    old : (j : ℕ) → j < i → arg_at (d.regs 2) (acts xs d) j ≡ arg_at (d.regs 2) d j
    arg : arg_at (d.regs 2) (acts xs d) i ≡ v
    safe : AreSafe lo hi xs d

  passes_one : (f : BlockProc) (l : Layout) (w : World) (stack : List B.Waiting) (i y : ℕ) (d : Data) → Laid f l → i < 8 + l.words → Bo l w stack d → IsHome f.values (home_of l y) → One l w stack i (at_home l d (home_of l y)) d (pass_one l i y)
  passes_one f l w stack i y d is lt b ih = go (below_eight i)
    where
      h : Home
      h = home_of l y

      v : ℕ
      v = at_home l d h

      first : i < 8 → nat_lt i 8 ≡ true → One l w stack i v d (read l h (10 + i))
      first l8 e =
          let fr : IsFree (10 + i) = inr (omega arith, omega arith) in
          let a = reads q hs g room Addr bounded f l w stack d (10 + i) h is ih (free_target (10 + i) fr) b in
          let d1 = acts (read l h (10 + i)) d in
          let st = gets_stays lo hi (10 + i) v d (read l h (10 + i)) fr a b.small in
          record {
            body = scratched q hs g room Addr bounded f l w stack d d1 is st a.mem b;
            stays = st;
            above = λ z low. ap (λ (m : Bytes). m z) a.mem;
            old = λ j lj. arg_same (d.regs 2) d d1 j (λ l8. a.others (10 + j) (λ z. omega arith) (λ z. omega arith)) (λ g8. ap (λ m. number 8 m (d.regs 2 + 8 * (j - 8))) a.mem);
            arg = ap (λ t. cond t (d1.regs (10 + i)) (number 8 d1.mem (d.regs 2 + 8 * (i - 8)))) e ∙ a.value;
            safe = a.safe;
          }

      second : 8 ≤ i → nat_lt i 8 ≡ false → One l w stack i v d (read l h 5 ++ store_word 5 (8 * (i - 8)))
      second g8 e =
          let xs = read l h 5 in
          let zs = store_word 5 (8 * (i - 8)) in
          let a = reads q hs g room Addr bounded f l w stack d 5 h is ih (free_target 5 five) b in
          let d1 = acts xs d in
          let st = gets_stays lo hi 5 v d xs five a b.small in
          let b1 = scratched q hs g room Addr bounded f l w stack d d1 is st a.mem b in
          let fits = is.fits in
          let all = spans q hs g room Addr l w stack d b in
          let bottom = b.low in
          let level = b.aligned in
          let at = d.regs 2 + 8 * (i - 8) in
          let here : Reach lo hi 8 (d.regs 2 + 8 * (i - 8)) = (omega arith, omega arith, omega arith) in
          let p = puts_word lo hi bounded 5 (8 * (i - 8)) d1 (omega arith) (λ z. omega arith) (subst (λ z. Reach lo hi 8 (z + 8 * (i - 8))) (sym st.sp) here) b1.zero in
          let d2 = acts zs d1 in
          let m2 : d2.mem ≡ put 8 d.mem at v = p.mem ∙ (ap (λ z. put 8 d1.mem (z + 8 * (i - 8)) (d1.regs 5)) st.sp ∙ (ap (λ m. put 8 m at (d1.regs 5)) a.mem ∙ ap (λ n. put 8 d.mem at n) a.value)) in
          let s : d2 ≡ acts (xs ++ zs) d = sym (acts_append xs zs d) in
          let st2 : Stays d d2 = record { zero = p.others 0 (λ z. omega arith) ∙ st.zero; sp = p.others 2 (λ z. omega arith) ∙ st.sp; base = p.others 3 (λ z. omega arith) ∙ st.base; kept = λ k kk. p.others k (λ z. (let c = (kept_range k kk).0 in omega arith)) ∙ st.kept k kk; small = p.small st.small } in
          let b2 = body_out f l w stack d d2 (i - 8) v is (omega arith) st2 m2 b in
          let lv = home_small q hs g room Addr bounded f l w stack d h ih b in
          record {
            body = subst (λ (k : Data). Bo l w stack k) s b2;
            stays = subst (λ (k : Data). Stays d k) s st2;
            above = λ z low. ap (λ (k : Data). k.mem z) (sym s) ∙ (ap (λ (m : Bytes). m z) m2 ∙ put_apart 8 d.mem at v z (inl (omega arith)));
            old = λ j lj. ap (λ (k : Data). arg_at (d.regs 2) k j) (sym s) ∙ arg_same (d.regs 2) d d2 j (λ l8. p.others (10 + j) (λ z. omega arith) ∙ a.others (10 + j) (λ z. omega arith) (λ z. omega arith)) (λ h8. ap (λ (m : Bytes). number 8 m (d.regs 2 + 8 * (j - 8))) m2 ∙ number_put_apart 8 8 d.mem at v (d.regs 2 + 8 * (j - 8)) (inr (omega arith)));
            arg = ap (λ (k : Data). arg_at (d.regs 2) k i) (sym s) ∙ (ap (λ t. cond t (d2.regs (10 + i)) (number 8 d2.mem at)) e ∙ (ap (λ (m : Bytes). number 8 m at) m2 ∙ number_put_same 8 d.mem at v lv));
            safe = safe_append lo hi xs zs d a.safe p.safe;
          }

      go : Below i → One l w stack i v d (pass_one l i y)
      go (early l8 e) = subst (λ t. One l w stack i v d (cond t (read l h (10 + i)) (read l h 5 ++ store_word 5 (8 * (i - 8))))) (sym e) (first l8 e)
      go (late g8 e) = subst (λ t. One l w stack i v d (cond t (read l h (10 + i)) (read l h 5 ++ store_word 5 (8 * (i - 8))))) (sym e) (second g8 e)

  -- homes keep what they hold while arguments are passed
  pub homes_kept : (f : BlockProc) (l : Layout) (d d' : Data) (h : Home) → Laid f l → IsHome f.values h → Stays d d' → ((a : ℕ) → d.regs 2 + 8 * l.words ≤ a → d'.mem a ≡ d.mem a) → at_home l d' h ≡ at_home l d h
  homes_kept f l d d' h is ih st above = homes_same f l d d' h ih is st.sp st.kept (λ a low high. above a (omega arith))

  pub passes : (f : BlockProc) (l : Layout) (w : World) (stack : List B.Waiting) (env : List ℕ) (i : ℕ) (ys : List ℕ) (d : Data) → Laid f l → i + length ys ≤ 8 + l.words → Bo l w stack d → ((y : ℕ) → Contains ys y → IsHome f.values (home_of l y) × (at_home l d (home_of l y) ≡ slice_index env y)) → Passed l w stack i (B.held env ys) d (pass l i ys)
  passes f l w stack env i [] d is le b h = record { body = b; stays = record { zero = refl; sp = refl; base = refl; kept = λ k kk. refl; small = b.small }; above = λ a low. refl; old = λ j lj. refl; args = λ j lj. absurd (omega arith); safe = tt }
  passes f l w stack env i (y ∷ ys) d is le b h =
      let here = h y (0, omega arith, refl) in
      let a = passes_one f l w stack i y d is (omega arith) b here.0 in
      let xs = pass_one l i y in
      let zs = pass l (i + 1) ys in
      let d1 = acts xs d in
      let later : (z : ℕ) → Contains ys z → IsHome f.values (home_of l z) × (at_home l d1 (home_of l z) ≡ slice_index env z) = λ z c. (let k = h z (suc c.0, omega (arith, c.1), c.2) in (k.0, homes_kept f l d d1 (home_of l z) is k.0 a.stays a.above ∙ k.1)) in
      let rest = passes f l w stack env (i + 1) ys d1 is (omega arith) a.body later in
      passes_join f l w stack env i y ys d a here.1 rest
    where
      passes_join : (f : BlockProc) (l : Layout) (w : World) (stack : List B.Waiting) (env : List ℕ) (i y : ℕ) (ys : List ℕ) (d : Data) → One l w stack i (at_home l d (home_of l y)) d (pass_one l i y) → at_home l d (home_of l y) ≡ slice_index env y → Passed l w stack (i + 1) (B.held env ys) (acts (pass_one l i y) d) (pass l (i + 1) ys) → Passed l w stack i (B.held env (y ∷ ys)) d (pass l i (y ∷ ys))
      passes_join f l w stack env i y ys d a ev rest =
          let xs = pass_one l i y in
          let zs = pass l (i + 1) ys in
          let d1 = acts xs d in
          let d2 = acts zs d1 in
          let s : d2 ≡ acts (xs ++ zs) d = sym (acts_append xs zs d) in
          let sp = d.regs 2 in
          let e2 : d1.regs 2 ≡ sp = a.stays.sp in
          let old2 : (j : ℕ) → j < i + 1 → arg_at sp d2 j ≡ arg_at sp d1 j = λ j lj. subst (λ p. arg_at p d2 j ≡ arg_at p d1 j) e2 (rest.old j lj) in
          let values : (j : ℕ) → j < length (B.held env (y ∷ ys)) → arg_at sp d2 (i + j) ≡ slice_index (B.held env (y ∷ ys)) j = λ j lj. each f l w stack env i y ys d sp d1 d2 (old2 i (omega arith) ∙ (a.arg ∙ ev)) (λ k lk. subst (λ p. arg_at p d2 (i + 1 + k) ≡ slice_index (B.held env ys) k) e2 (rest.args k lk)) j lj in
          record {
            body = subst (λ (k : Data). Bo l w stack k) s rest.body;
            stays = subst (λ (k : Data). Stays d k) s (record { zero = rest.stays.zero ∙ a.stays.zero; sp = rest.stays.sp ∙ a.stays.sp; base = rest.stays.base ∙ a.stays.base; kept = λ k kk. rest.stays.kept k kk ∙ a.stays.kept k kk; small = rest.stays.small });
            above = λ z low. ap (λ (k : Data). k.mem z) (sym s) ∙ (rest.above z (subst (λ p. p + 8 * l.words ≤ z) (sym e2) low) ∙ a.above z low);
            old = λ j lj. ap (λ (k : Data). arg_at sp k j) (sym s) ∙ (old2 j (omega arith) ∙ a.old j lj);
            args = λ j lj. ap (λ (k : Data). arg_at sp k (i + j)) (sym s) ∙ values j lj;
            safe = safe_append lo hi xs zs d a.safe rest.safe;
          }
        where
          each : (f : BlockProc) (l : Layout) (w : World) (stack : List B.Waiting) (env : List ℕ) (i y : ℕ) (ys : List ℕ) (d : Data) (sp : ℕ) (d1 d2 : Data) → arg_at sp d2 i ≡ slice_index env y → ((k : ℕ) → k < length (B.held env ys) → arg_at sp d2 (i + 1 + k) ≡ slice_index (B.held env ys) k) → (j : ℕ) → j < length (B.held env (y ∷ ys)) → arg_at sp d2 (i + j) ≡ slice_index (B.held env (y ∷ ys)) j
          each f l w stack env i y ys d sp d1 d2 here rest zero lj = let e : i + 0 ≡ i = omega arith in ap (λ k. arg_at sp d2 k) e ∙ here
          each f l w stack env i y ys d sp d1 d2 here rest (suc j) lj = let e : i + suc j ≡ i + 1 + j = omega arith in ap (λ k. arg_at sp d2 k) e ∙ rest j (omega arith)

  -- the first n parameters are in their homes; c is what lay there before
  pub record Received (f : BlockProc) (l : Layout) (w : World) (stack : List B.Waiting) (vs : List ℕ) (c : Cells) (n base : ℕ) (d : Data) : Type 0 where
    pub body : Bo l w stack d
    pub held : (u : ℕ) → u < f.values → value (places_of l.homes) (cells l d) u ≡ value (places_of l.homes) (passed (places_of l.homes) vs c n) u
    pub args : (j : ℕ) → j < length vs → arg_at base d j ≡ slice_index vs j
    pub base_is : base ≡ d.regs 2 + l.size

  -- a home was written: arguments are what they were
  args_kept : (f : BlockProc) (l : Layout) (w : World) (stack : List B.Waiting) (h : Home) (v base : ℕ) (d d' : Data) (j : ℕ) → Laid f l → IsHome f.values h → Bo l w stack d → base ≡ d.regs 2 + l.size → Wrote l h v d d' → arg_at base d' j ≡ arg_at base d j
  args_kept f l w stack (H.Register r) v base d d' j is ih b eb wr =
      let k = kept_range r ih in
      arg_same base d d' j (λ l8. wr.to.1 (10 + j) (not_ten r j k.2 l8) (inr (omega arith))) (λ g8. ap (λ m. number 8 m (base + 8 * (j - 8))) wr.to.2)
    where
      not_ten : (r j : ℕ) → (r ≤ 9) ⊎ (18 ≤ r) → j < 8 → ¬ (10 + j ≡ r)
      not_ten r j (inl a) l e = omega arith
      not_ten r j (inr a) l e = omega arith
  args_kept f l w stack (H.Slot s) v base d d' j is ih b eb wr =
      let fits = is.fits in
      arg_same base d d' j (λ l8. wr.to.0 (10 + j) (inr (omega arith))) (λ g8. ap (λ m. number 8 m (base + 8 * (j - 8))) wr.to.1 ∙ number_put_apart 8 8 d.mem (d.regs 2 + slot_at l s) v (base + 8 * (j - 8)) (inl (omega arith)))

  receives_write : (f : BlockProc) (l : Layout) (w : World) (stack : List B.Waiting) (vs : List ℕ) (c : Cells) (n base : ℕ) (d d' : Data) → Laid f l → n < f.values → slice_index vs n < 2 ^ 64 → Wrote l (home_of l n) (slice_index vs n) d d' → Received f l w stack vs c n base d → Received f l w stack vs c (suc n) base d'
  receives_write f l w stack vs c n base d d' is ln lt wr r =
      let ih = is.homes n ln in
      let pl = places_of l.homes in
      record {
        body = body_written q hs g room Addr bounded f l w stack d d' n (slice_index vs n) is ln wr r.body;
        held = λ u lu. cells_written f l n (slice_index vs n) d d' is ln lt wr u lu ∙ ap (λ z. cond (slice_index pl n == slice_index pl u) (slice_index vs n) z) (r.held u lu);
        args = λ j lj. args_kept f l w stack (home_of l n) (slice_index vs n) base d d' j is ih r.body r.base_is wr ∙ r.args j lj;
        base_is = r.base_is ∙ ap (λ z. z + l.size) (sym (two f l (home_of l n) (slice_index vs n) d d' ih wr));
      }
    where
      two : (f : BlockProc) (l : Layout) (h : Home) (v : ℕ) (d d' : Data) → IsHome f.values h → Wrote l h v d d' → d'.regs 2 ≡ d.regs 2
      two f l (H.Register r) v d d' ih wr = (let k = kept_range r ih in let k0 = k.0 in wr.to.1 2 (λ e. omega arith) (inl (omega arith)))
      two f l (H.Slot s) v d d' ih wr = wr.to.0 2 (inl (omega arith))

  receives_one : (f : BlockProc) (l : Layout) (w : World) (stack : List B.Waiting) (vs : List ℕ) (c : Cells) (n base : ℕ) (d : Data) → Laid f l → n < f.values → n < length vs → (8 ≤ n → base + 8 * (n - 8) + 8 ≤ top q hs g room Addr) → Received f l w stack vs c n base d → Received f l w stack vs c (suc n) base (acts (receive_one l n) d) × AreSafe lo hi (receive_one l n) d
  receives_one f l w stack vs c n base d is ln lv wide r = go (below_eight n)
    where
      h : Home
      h = home_of l n

      P : List Straight → Type 0
      P xs = Received f l w stack vs c (suc n) base (acts xs d) × AreSafe lo hi xs d

      first : n < 8 → nat_lt n 8 ≡ true → P (write l h (10 + n))
      first l8 e =
          let fr : IsFree (10 + n) = inr (omega arith, omega arith) in
          let ev : d.regs (10 + n) ≡ slice_index vs n = sym (ap (λ t. cond t (d.regs (10 + n)) (number 8 d.mem (base + 8 * (n - 8)))) e) ∙ r.args n lv in
          let wr = writes q hs g room Addr bounded f l w stack d (10 + n) h is (is.homes n ln) fr (λ z. omega arith) (λ z. omega arith) r.body in
          let lt = subst (λ k. k < 2 ^ 64) ev (r.body.small (10 + n) (λ z. omega arith)) in
          (receives_write f l w stack vs c n base d (acts (write l h (10 + n)) d) is ln lt (subst (λ k. Wrote l h k d (acts (write l h (10 + n)) d)) ev wr.0) r, wr.1)

      second : 8 ≤ n → nat_lt n 8 ≡ false → P (load_word 5 (l.size + 8 * (n - 8)) ++ write l h 5)
      second g8 e =
          let xs = load_word 5 (l.size + 8 * (n - 8)) in
          let zs = write l h 5 in
          let eb = r.base_is in
          let even = is.even in
          let level = r.body.aligned in
          let bottom = r.body.low in
          let far = wide g8 in
          let v = slice_index vs n in
          let at : d.regs 2 + (l.size + 8 * (n - 8)) ≡ base + 8 * (n - 8) = omega arith in
          let ev : number 8 d.mem (d.regs 2 + (l.size + 8 * (n - 8))) ≡ v = ap (λ z. number 8 d.mem z) at ∙ (sym (ap (λ t. cond t (d.regs (10 + n)) (number 8 d.mem (base + 8 * (n - 8)))) e) ∙ r.args n lv) in
          let lt : v < 2 ^ 64 = subst (λ k. k < 2 ^ 64) ev (number_small 8 d.mem (d.regs 2 + (l.size + 8 * (n - 8))) r.body.bytes) in
          let a = gets_word lo hi bounded 5 (l.size + 8 * (n - 8)) v d (omega arith, omega arith) (omega arith, omega arith, omega arith) r.body.zero ev lt in
          let d1 = acts xs d in
          let st = gets_stays lo hi 5 v d xs five a r.body.small in
          let b1 = scratched q hs g room Addr bounded f l w stack d d1 is st a.mem r.body in
          let r1 : Received f l w stack vs c n base d1 = record {
            body = b1;
            held = λ u lu. cells_same f l d d1 is st a.mem u lu ∙ r.held u lu;
            args = λ j lj. arg_same base d d1 j (λ l8. a.others (10 + j) (λ z. omega arith) (λ z. omega arith)) (λ h8. ap (λ m. number 8 m (base + 8 * (j - 8))) a.mem) ∙ r.args j lj;
            base_is = r.base_is ∙ ap (λ z. z + l.size) (sym st.sp);
          } in
          let wr = writes q hs g room Addr bounded f l w stack d1 5 h is (is.homes n ln) five (λ z. omega arith) (λ z. omega arith) b1 in
          let done = receives_write f l w stack vs c n base d1 (acts zs d1) is ln lt (subst (λ k. Wrote l h k d1 (acts zs d1)) a.value wr.0) r1 in
          (subst (λ (k : Data). Received f l w stack vs c (suc n) base k) (sym (acts_append xs zs d)) done, safe_append lo hi xs zs d a.safe wr.1)

      go : Below n → P (receive_one l n)
      go (early l8 e) = subst (λ t. P (cond t (write l h (10 + n)) (load_word 5 (l.size + 8 * (n - 8)) ++ write l h 5))) (sym e) (first l8 e)
      go (late g8 e) = subst (λ t. P (cond t (write l h (10 + n)) (load_word 5 (l.size + 8 * (n - 8)) ++ write l h 5))) (sym e) (second g8 e)

  pub receives : (f : BlockProc) (l : Layout) (w : World) (stack : List B.Waiting) (vs : List ℕ) (c : Cells) (n base : ℕ) (d : Data) → Laid f l → n ≤ f.values → n ≤ length vs → ((j : ℕ) → 8 ≤ j → j < length vs → base + 8 * (j - 8) + 8 ≤ top q hs g room Addr) → Received f l w stack vs c 0 base d → Received f l w stack vs c n base (acts (receive l n) d) × AreSafe lo hi (receive l n) d
  receives f l w stack vs c zero base d is lv lh wide r = (r, tt)
  receives f l w stack vs c (suc n) base d is lv lh wide r =
      let before = receives f l w stack vs c n base d is (omega arith) (omega arith) wide r in
      let xs = receive l n in
      let one = receives_one f l w stack vs c n base (acts xs d) is (omega arith) (omega arith) (λ g8. wide n g8 (omega arith)) before.0 in
      (subst (λ (k : Data). Received f l w stack vs c (suc n) base k) (sym (acts_append xs (receive_one l n) d)) one.0, safe_append lo hi xs (receive_one l n) d before.1 one.1)
