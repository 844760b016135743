-- Returns: results in x10 and x11, the caller's registers, and the results at their homes.
use Rattle.std.proofs.Common.{◌≡◌, ℕ, suc, ◌+◌, ◌-◌, ◌*◌, ◌%◌, ◌^◌, ◌<◌, ◌≤◌, ◌⊎◌, inl, inr, Bool, true, false, cond, List, [], ◌∷◌, ◌++◌, length, Option, Some, None, refl, sym, ap, ◌∙◌, subst, arith, length-append}
use Rattle.std.specs.Prelude.{slice_set, slice_index, Contains}
use Rattle.behaviour.specs.Behaviour.{Wrong}
use Rattle.flat_ir.specs.Bytes.{Bytes}
use Rattle.flat_ir.specs.Placement.{Placement, heap_end}
use Rattle.flat_ir.specs.Flat as F
use Rattle.flat_ir.specs.Flat.{World, with_frames}
use Rattle.flat_ir.proofs.Framing.{poke_same, poke_apart}
use Rattle.flatten.specs.declared.blocks.BlockEnd.TheVariants as E
use Rattle.flatten.specs.declared.blocks.BlockProc.{BlockProc}
use Rattle.flatten.specs.declared.blocks.BlockProgram.{BlockProgram}
use Rattle.flatten.specs.Blocks as B
use Rattle.flatten.specs.Named.{AllBelow}
use Rattle.block_homes.specs.declared.homes.Home.{Home}
use Rattle.block_homes.specs.declared.homes.Home.TheVariants as H
use Rattle.block_homes.specs.declared.homes.Assignment.{Assignment}
use Rattle.block_homes.specs.Held.{places_of, put as put_all, wrote, after, held}
use Rattle.block_homes.specs.Valid.{IsHome}
use Rattle.block_homes.proofs.Lockstep.{At, Agrees, agrees_set, moved}
use Rattle.rv_isa.specs.declared.insn.Insn.TheVariants as M
use Rattle.rv_assemble.specs.declared.unit.AsmLine.{AsmLine}
use Rattle.rv_assemble.specs.declared.unit.AsmLine.TheVariants.{Plain}
use Rattle.rv_machine.specs.declared.event.Mode.TheVariants as mode
use Rattle.rv_machine.specs.Exec.{Run}
use Rattle.assembled_run.specs.Machine.{Leads}
use Rattle.assembled_run.proofs.Leads.{leads_then}
use Rattle.flat_ir.specs.declared.program.Operation.TheVariants as O
use Rattle.emitted_code.specs.Straight.{Straight, Operate, lines, load_number}
use Rattle.emitted_code.specs.Frames.{Layout, home_of, saved_of, is_used, used_of, kept_registers}
use Rattle.emitted_code.specs.Code.{read, write, give_results, take_results, restore, leave, rest_code}
use Rattle.emitted_code.proofs.Data.{Data, set, acts, acts_append, AreSafe, safe_append, Gets, Small, poke_small, Compared, same, other, compared}
use Rattle.emitted_code.proofs.Constants.{gets_number, number_few}
use Rattle.emitted_code.proofs.Relate.{IsKept, In, at_home, cells, Laid, cell_home, kept_range, IsFree, Stays, at_alike, frame_moved, homes_same, sizes, Waits, Suspended, Body, spans, top, floor}
use Rattle.emitted_code.proofs.Values.{set_low, Wrote, cells_written, gets_stays, free_target, reads, writes, scratched, body_written}
use Rattle.emitted_code.proofs.Saves.{IsSaved, Restored, restores, restore_few}
use Rattle.emitted_code.proofs.LineLaws.{Went, goes}
use Rattle.emitted_code.proofs.States.{told_after, Given, at_places, Again, Now, proceeds, goes_wrong}
use Rattle.emitted_code.proofs.Simple.{Rel, Lay, run_of, home_is, home_low, read_few, write_few}

-- these numbers are in the registers from x10 + i on
abbrev pub Results : ℕ → List ℕ → Data → Type 0
Results i [] d = Unit {0}
Results i (v ∷ vs) d = (d.regs (10 + i) ≡ v) × Results (i + 1) vs d

pub results_same : (i : ℕ) (vs : List ℕ) (d d' : Data) → i + length vs ≤ 2 → ((r : ℕ) → 10 + i ≤ r → r ≤ 11 → d'.regs r ≡ d.regs r) → Results i vs d → Results i vs d'
results_same i [] d d' le e r = tt
results_same i (v ∷ vs) d d' le e r = (e (10 + i) (omega arith) (omega arith) ∙ r.0, results_same (i + 1) vs d d' (omega arith) (λ k lo hi. e k (omega arith) hi) r.1)

data InOr (h : ℕ) (hs : List ℕ) : Type 0 where
  is_in : In h hs → InOr h hs
  is_out : ¬ (In h hs) → InOr h hs

in_or : (h : ℕ) (hs : List ℕ) → InOr h hs
in_or h [] = is_out (λ i. i)
in_or h (k ∷ ks) = go (compared h k) (in_or h ks)
  where
    both : ¬ (h ≡ k) → ¬ (In h ks) → In h (k ∷ ks) → ⊥
    both n m (inl e) = n e
    both n m (inr i) = m i

    go : Compared h k → InOr h ks → InOr h (k ∷ ks)
    go (same e) o = is_in (inl e)
    go (other n) (is_in i) = is_in (inr i)
    go (other n) (is_out m) = is_out (both n m)

take_few : (l : Layout) (i : ℕ) (vs : List ℕ) → length (take_results l i vs) ≤ 10 * length vs
take_few l i [] = omega arith
take_few l i (y ∷ vs) =
    let a = write_few l (home_of l y) (10 + i) in
    let b = take_few l (i + 1) vs in
    omega (arith, a.1, b, length-append (write l (home_of l y) (10 + i)) (take_results l (i + 1) vs))

give_few : (l : Layout) (i : ℕ) (vs : List ℕ) → length (give_results l i vs) ≤ 10 * length vs
give_few l i [] = omega arith
give_few l i (y ∷ vs) =
    let a = read_few l (home_of l y) (10 + i) in
    let b = give_few l (i + 1) vs in
    omega (arith, a.1, b, length-append (read l (home_of l y) (10 + i)) (give_results l (i + 1) vs))

used_few : (rs : List ℕ) (homes : List Home) → length (used_of rs homes) ≤ length rs
used_few [] homes = omega arith
used_few (r ∷ rs) homes = by (is_used r homes) (used_few rs homes)
  where
    by : (b : Bool) → length (used_of rs homes) ≤ length rs → length (cond b (r ∷ used_of rs homes) (used_of rs homes)) ≤ suc (length rs)
    by true h = omega arith
    by false h = omega arith

pub saved_few : (l : Layout) → length (saved_of l) ≤ 13
saved_few l = (let h = used_few kept_registers l.homes in omega arith)

pub leave_few : (l : Layout) → length (leave l) ≤ 139
leave_few l =
    let a = restore_few l (saved_of l) in
    let b = saved_few l in
    let c = number_few 5 l.size in
    omega (arith, a, b, c.1, length-append (restore l (saved_of l)) (load_number 5 l.size ++ (Operate O.Add 2 2 5 ∷ [])), length-append (load_number 5 l.size) (Operate O.Add 2 2 5 ∷ []))

held_length : (env ys : List ℕ) → length (B.held env ys) ≡ length ys
held_length env [] = refl
held_length env (y ∷ ys) = omega (arith, held_length env ys)

module _ (q : BlockProgram) (hs : List Assignment) (g : Placement) (On : ℕ → List AsmLine → Data → Run → Type 0) (Addr : ℕ → List AsmLine → ℕ → Type 0) (Labelled : ℕ → ℕ → List AsmLine → Type 0) (x : Given q hs g On Addr Labelled) where
  abbrev lo : ℕ
  lo = g.image

  abbrev hi : ℕ
  hi = heap_end (length q.image) g

  abbrev Ly : ℕ → BlockProc → Layout
  Ly i f = Lay q hs g On Addr Labelled x i f

  abbrev Bo : Layout → World → List B.Waiting → Data → Type 0
  Bo l w stack d = Body q hs g x.can.room Addr l w stack d

  -- values go into the registers of results
  record Gave (i : ℕ) (vs : List ℕ) (d : Data) (xs : List Straight) : Type 0 where
    results : Results i vs (acts xs d)
    stays : Stays d (acts xs d)
    below : (r : ℕ) → 10 ≤ r → r < 10 + i → (acts xs d).regs r ≡ d.regs r
    mem : (acts xs d).mem ≡ d.mem
    safe : AreSafe lo hi xs d

  gives : (f : BlockProc) (l : Layout) (w : World) (stack : List B.Waiting) (env : List ℕ) (i : ℕ) (ys : List ℕ) (d : Data) → Laid f l → i + length ys ≤ 2 → Bo l w stack d → ((y : ℕ) → Contains ys y → IsHome f.values (home_of l y) × (at_home l d (home_of l y) ≡ slice_index env y)) → Gave i (B.held env ys) d (give_results l i ys)
  gives f l w stack env i [] d is le b h = record { results = tt; stays = record { zero = refl; sp = refl; base = refl; kept = λ k kk. refl; small = b.small }; below = λ r lo hi. refl; mem = refl; safe = tt }
  gives f l w stack env i (y ∷ ys) d is le b h =
      let hy = home_of l y in
      let first = h y (0, omega arith, refl) in
      let fr : IsFree (10 + i) = inr (omega arith, omega arith) in
      let xs = read l hy (10 + i) in
      let zs = give_results l (i + 1) ys in
      let a = reads q hs g x.can.room Addr x.bounded f l w stack d (10 + i) hy is first.0 (free_target (10 + i) fr) b in
      let d1 = acts xs d in
      let st = gets_stays lo hi (10 + i) (at_home l d hy) d xs fr a b.small in
      let b1 = scratched q hs g x.can.room Addr x.bounded f l w stack d d1 is st a.mem b in
      let later : (z : ℕ) → Contains ys z → IsHome f.values (home_of l z) × (at_home l d1 (home_of l z) ≡ slice_index env z) = λ z c. (let k = h z (suc c.0, omega (arith, c.1), c.2) in (k.0, homes_same f l d d1 (home_of l z) k.0 is st.sp st.kept (λ j lo hi. ap (λ (m : Bytes). m j) a.mem) ∙ k.1)) in
      let rest = gives f l w stack env (i + 1) ys d1 is (omega arith) b1 later in
      let s : acts zs d1 ≡ acts (xs ++ zs) d = sym (acts_append xs zs d) in
      record {
        results = subst (λ (e : Data). Results i (B.held env (y ∷ ys)) e) s (rest.below (10 + i) (omega arith) (omega arith) ∙ (a.value ∙ first.1), rest.results);
        stays = subst (λ (e : Data). Stays d e) s (record { zero = rest.stays.zero ∙ st.zero; sp = rest.stays.sp ∙ st.sp; base = rest.stays.base ∙ st.base; kept = λ k kk. rest.stays.kept k kk ∙ st.kept k kk; small = rest.stays.small });
        below = λ r low high. ap (λ (e : Data). e.regs r) (sym s) ∙ (rest.below r low (omega arith) ∙ a.others r (λ e. omega arith) (λ e. omega arith));
        mem = ap (λ (e : Data). e.mem) (sym s) ∙ (rest.mem ∙ a.mem);
        safe = safe_append lo hi xs zs d a.safe rest.safe;
      }

  -- the registers are the caller's again
  pub record Left (rs : List ℕ) (ρ : ℕ → ℕ) (d d' : Data) : Type 0 where
    pub mem : d'.mem ≡ d.mem
    pub small : Small d'.regs
    pub zero : d'.regs 0 ≡ 0
    pub base : d'.regs 3 ≡ d.regs 3
    pub link : d'.regs 1 ≡ ρ 1
    pub sp : d'.regs 2 ≡ ρ 2
    pub kept : (h : ℕ) → IsKept h → d'.regs h ≡ ρ h
    pub results : Results 0 rs d'

  not_saved : (l : Layout) → ((h : ℕ) → In h (saved_of l) → IsSaved h) → (r : ℕ) → ¬ (IsSaved r) → ¬ (In r (saved_of l))
  not_saved l all r n i = n (all r i)

  unsaved : (r : ℕ) → ((r ≡ 0) ⊎ ((r ≡ 2) ⊎ (r ≡ 3))) ⊎ ((10 ≤ r) × (r ≤ 11)) → ¬ (IsSaved r)
  unsaved r c (inl e) = grind arith
  unsaved r c (inr (inl k)) = grind arith
  unsaved r c (inr (inr k)) = grind arith

  pub leaves : (f : BlockProc) (l : Layout) (w : World) (stack : List B.Waiting) (rs : List ℕ) (d : Data) → Laid f l → length rs ≤ 2 → Results 0 rs d → (b : Bo l w stack d) → Left rs b.frame.caller d (acts (leave l) d) × AreSafe lo hi (leave l) d
  leaves f l w stack rs d is few res b = (
    record {
      mem = ap (λ (e : Data). e.mem) (sym s2) ∙ (n.mem ∙ r.mem);
      small = subst (λ (e : Data). Small e.regs) s2 (poke_small d2.regs 2 up (n.small r.small) (omega arith));
      zero = there 0 (λ e. omega arith) ∙ (fixed 0 (inl (inl refl)) (λ e. omega arith) (λ e. omega arith) ∙ b.zero);
      base = there 3 (λ e. omega arith) ∙ fixed 3 (inl (inr (inr refl))) (λ e. omega arith) (λ e. omega arith);
      link = there 1 (λ e. omega arith) ∙ (n.others 1 (λ e. omega arith) (λ e. omega arith) ∙ r.there 1 (inl refl) (inl (inl refl)));
      sp = ap (λ (e : Data). e.regs 2) (sym s2) ∙ (poke_same d2.regs 2 up 2 refl ∙ (up_is ∙ sym b.frame.above));
      kept = λ h k. there h (kept_not h 2 k (omega arith)) ∙ (n.others h (kept_not h 5 k (omega arith)) (kept_not h 7 k (omega arith)) ∙ back h k (in_or h hs'));
      results = results_same 0 rs d (acts (leave l) d) (omega arith) (λ k lo hi. there k (λ e. omega arith) ∙ fixed k (inr (lo, hi)) (λ e. omega arith) (λ e. omega arith)) res;
    },
    safe_append lo hi (restore l hs') (num ++ last) d r.safe (safe_append lo hi num last d1 n.safe (((omega arith, omega arith), omega arith, omega arith), tt)),
  )
    where
      hs' : List ℕ
      hs' = saved_of l

      all : d.regs 2 + l.size + sizes stack ≡ top q hs g x.can.room Addr
      all = spans q hs g x.can.room Addr l w stack d b

      bottom : floor q hs g x.can.room Addr ≤ d.regs 2
      bottom = b.low

      num : List Straight
      num = load_number 5 l.size

      last : List Straight
      last = Operate O.Add 2 2 5 ∷ []

      d1 : Data
      d1 = acts (restore l hs') d

      d2 : Data
      d2 = acts num d1

      bot : lo ≤ d.regs 2
      bot = let b0 = bottom in omega arith

      fit : d.regs 2 + 8 * l.words + 104 ≤ hi
      fit = let fits' = is.fits in let a = all in omega arith

      r : Restored lo hi x.bounded l (d.regs 2) bot b.aligned fit hs' b.frame.caller d
      r = restores lo hi x.bounded l (d.regs 2) bot b.aligned fit hs' b.frame.caller d refl is.saves b.frame.saved b.zero b.small b.bytes

      n : Gets lo hi 5 l.size d1 num
      n = gets_number lo hi 5 l.size d1 (omega arith, omega arith) (let big = x.bounded in let a = all in omega arith) (r.others 0 (not_saved l is.saves 0 (unsaved 0 (inl (inl refl)))) (λ e. omega arith) ∙ b.zero)

      up : ℕ
      up = (d2.regs 2 + d2.regs 5) % 2 ^ 64

      fixed : (k : ℕ) → ((k ≡ 0) ⊎ ((k ≡ 2) ⊎ (k ≡ 3))) ⊎ ((10 ≤ k) × (k ≤ 11)) → ¬ (k ≡ 5) → ¬ (k ≡ 7) → d2.regs k ≡ d.regs k
      fixed k c n5 n7 = n.others k n5 n7 ∙ r.others k (not_saved l is.saves k (unsaved k c)) n7

      up_is : up ≡ d.regs 2 + l.size
      up_is =
          let e2 = fixed 2 (inl (inr (inl refl))) (λ e. omega arith) (λ e. omega arith) in
          let e5 = n.value in
          let big = x.bounded in
          let a = all in
          omega arith

      s2 : set d2 2 up ≡ acts (leave l) d
      s2 = sym (acts_append (restore l hs') (num ++ last) d ∙ acts_append num last d1)

      there : (k : ℕ) → ¬ (k ≡ 2) → (acts (leave l) d).regs k ≡ d2.regs k
      there k ne = ap (λ (e : Data). e.regs k) (sym s2) ∙ poke_apart d2.regs 2 up k ne

      kept_not : (h k : ℕ) → IsKept h → k ≤ 7 → ¬ (h ≡ k)
      kept_not h k kk le e = (let a = (kept_range h kk).0 in omega arith)

      back : (h : ℕ) → IsKept h → InOr h hs' → d1.regs h ≡ b.frame.caller h
      back h k (is_in i) = r.there h (inr k) (inl i)
      back h k (is_out m) = r.there h (inr k) (inr (b.frame.others h k m))

  -- results go to the homes of values
  record Took (f : BlockProc) (l : Layout) (w : World) (stack : List B.Waiting) (o : ℕ → ℕ) (env' : List ℕ) (vs : List ℕ) (d : Data) (xs : List Straight) : Type 0 where
    agrees : Agrees (places_of l.homes) f.values (λ h. put_all (places_of l.homes) h vs (o h)) env' (cells l (acts xs d))
    body : Bo l w stack (acts xs d)
    safe : AreSafe lo hi xs d

  takes : (f : BlockProc) (l : Layout) (w : World) (stack : List B.Waiting) (o : ℕ → ℕ) (i : ℕ) (vs rs env env' : List ℕ) (d : Data) → Laid f l → i + length rs ≤ 2 → F.received vs rs env ≡ Some env' → AllBelow f.values vs → Results i rs d → Agrees (places_of l.homes) f.values o env (cells l d) → Bo l w stack d → Took f l w stack o env' vs d (take_results l i vs)
  takes f l w stack o i [] [] env env' d is le e low res a b = record { agrees = subst (λ z. Agrees (places_of l.homes) f.values o z (cells l d)) (some_same env env' e) a; body = b; safe = tt }
    where
      some_same : (a b : List ℕ) → Some a ≡ Some b → a ≡ b
      some_same a b e = cc
  takes f l w stack o i [] (v ∷ rs) env env' d is le e low res a b = absurd (cc)
  takes f l w stack o i (y ∷ vs) [] env env' d is le e low res a b = absurd (cc)
  takes f l w stack o i (y ∷ vs) (v ∷ rs) env env' d is le e low res a b =
      let hy = home_of l y in
      let ih = is.homes y low.0 in
      let fr : IsFree (10 + i) = inr (omega arith, omega arith) in
      let xs = write l hy (10 + i) in
      let zs = take_results l (i + 1) vs in
      let wr = writes q hs g x.can.room Addr x.bounded f l w stack d (10 + i) hy is ih fr (λ e. omega arith) (λ e. omega arith) b in
      let d1 = acts xs d in
      let wrote' : Wrote l hy v d d1 = subst (λ k. Wrote l hy k d d1) res.0 wr.0 in
      let lt : v < 2 ^ 64 = subst (λ k. k < 2 ^ 64) res.0 (b.small (10 + i) (λ e. omega arith)) in
      let b1 = body_written q hs g x.can.room Addr x.bounded f l w stack d d1 y v is low.0 wrote' b in
      let pl = places_of l.homes in
      let a1 = agrees_set pl f.values o env (cells l d) y v a in
      let a2 : Agrees pl f.values (λ h. wrote pl h y (o h)) (slice_set env y v) (cells l d1) = record { len = a1.len; same = λ u lu h. a1.same u lu h ∙ sym (cells_written f l y v d d1 is low.0 lt wrote' u lu) } in
      let res1 = results_same (i + 1) rs d d1 (omega arith) (λ r lo hi. tens f l hy ih v d d1 wrote' r (omega arith) hi) res.1 in
      let rest = takes f l w stack (λ h. wrote pl h y (o h)) (i + 1) vs rs (slice_set env y v) env' d1 is (omega arith) e low.1 res1 a2 b1 in
      let s : acts zs d1 ≡ acts (xs ++ zs) d = sym (acts_append xs zs d) in
      record {
        agrees = subst (λ (k : Data). Agrees pl f.values (λ h. put_all pl h (y ∷ vs) (o h)) env' (cells l k)) s rest.agrees;
        body = subst (λ (k : Data). Bo l w stack k) s rest.body;
        safe = safe_append lo hi xs zs d wr.1 rest.safe;
      }
    where
      tens : (f : BlockProc) (l : Layout) (h : Home) → IsHome f.values h → (v : ℕ) (d d1 : Data) → Wrote l h v d d1 → (r : ℕ) → 10 ≤ r → r ≤ 11 → d1.regs r ≡ d.regs r
      tens f l (H.Register k) ih v d d1 wr r lo hi = (let kr = kept_range k ih in wr.to.1 r (not_ten k r kr.2 lo hi) (inr (omega arith)))
        where
          not_ten : (k r : ℕ) → (k ≤ 9) ⊎ (18 ≤ k) → 10 ≤ r → r ≤ 11 → ¬ (r ≡ k)
          not_ten k r (inl a) lo hi e = omega arith
          not_ten k r (inr a) lo hi e = omega arith
      tens f l (H.Slot s) ih v d d1 wr r lo hi = wr.to.0 r (inr (omega arith))

  pub return_case : (n : ℕ) → Again q hs g On Addr Labelled x n → (f : BlockProc) (ys : List ℕ) (env : List ℕ) (w : World) (stack : List B.Waiting) (r : Run) → Rel q hs g On Addr Labelled x f [] (E.Return ys) env w stack r → Now q hs g On Addr Labelled x (suc n) (run_of q hs g On Addr Labelled x f [] (E.Return ys) env w stack) r
  return_case n again f ys env w stack r rel = by stack rel
    where
      by : (stack : List B.Waiting) → Rel q hs g On Addr Labelled x f [] (E.Return ys) env w stack r → Now q hs g On Addr Labelled x (suc n) (run_of q hs g On Addr Labelled x f [] (E.Return ys) env w stack) r
      by [] rel = goes_wrong q hs g On Addr Labelled x (suc n) (run_of q hs g On Addr Labelled x f [] (E.Return ys) env w []) w r rel.told (x.laws.ready rel.number _ rel.data' r rel.on) refl (λ m. refl)
      by (v ∷ vs) rel = go (F.received v.targets rs v.env) refl
        where
          i : ℕ
          i = rel.number

          l : Layout
          l = Ly i f

          d : Data
          d = rel.data'

          is : Laid f l
          is = x.laid i f rel.is

          rs : List ℕ
          rs = B.held env ys

          few : length ys ≤ 2
          few = x.can.ends i f rel.is (E.Return ys) (rel.at.number, (rel.at.block, rel.at.is_block, rel.at.ends))

          rfew : 0 + length rs ≤ 2
          rfew = omega (arith, held_length env ys, few)

          xs : List Straight
          xs = give_results l 0 ys

          a : Gave 0 rs d xs
          a = gives f l w (v ∷ vs) env 0 ys d is (omega (arith, few)) rel.body (λ y c. (home_low q hs g On Addr Labelled x f [] (E.Return ys) env w (v ∷ vs) r rel y c, home_is q hs g On Addr Labelled x f [] (E.Return ys) env w (v ∷ vs) r rel y c))

          d1 : Data
          d1 = acts xs d

          b1 : Bo l w (v ∷ vs) d1
          b1 = scratched q hs g x.can.room Addr x.bounded f l w (v ∷ vs) d d1 is a.stays a.mem rel.body

          ρ : ℕ → ℕ
          ρ = b1.frame.caller

          d2 : Data
          d2 = acts (leave l) d1

          le : Left rs ρ d1 d2 × AreSafe lo hi (leave l) d1
          le = leaves f l w (v ∷ vs) rs d1 is (omega (arith, rfew)) a.results b1

          s : Waits q hs g x.can.room Addr v vs d1.mem ρ (Suspended q hs g x.can.room Addr vs d1.mem)
          s = b1.frame.rest

          j : ℕ
          j = s.number

          m' : Layout
          m' = Ly j v.proc

          to : List AsmLine
          to = lines (take_results m' 0 v.targets) (rest_code m' v.rest.insns v.rest.end s.tail)

          t1 : Went q hs g On Addr Labelled (length (xs ++ leave l)) i (Plain (M.Jalr 0 1 0) ∷ rel.tail) d2 r
          t1 = subst (λ e. Went q hs g On Addr Labelled (length (xs ++ leave l)) i (Plain (M.Jalr 0 1 0) ∷ rel.tail) e r) (acts_append xs (leave l) d) (goes q hs g On Addr Labelled x.laws i (xs ++ leave l) (Plain (M.Jalr 0 1 0) ∷ rel.tail) d r rel.on (safe_append lo hi xs (leave l) d a.safe le.1))

          t2 : Went q hs g On Addr Labelled 1 j to d2 t1.run
          t2 = x.laws.back i j rel.tail to d2 t1.run t1.on (subst (λ z. Addr j to z) (sym le.0.link) s.code)

          w' : World
          w' = with_frames w (w.frames - f.frame)

          up : ρ 2 ≡ d1.regs 2 + l.size
          up = b1.frame.above

          dρ : Data
          dρ = record { regs = ρ; mem = d1.mem }

          body2 : Bo m' w' vs d2
          body2 = record {
            memory = λ p o. ap (λ (m : Bytes). m p) le.0.mem ∙ b1.memory p o;
            bytes = λ p. subst (λ (m : Bytes). m p < 256) (sym le.0.mem) (b1.bytes p);
            zero = le.0.zero;
            base = le.0.base ∙ b1.base;
            low = (let e = le.0.sp in let low1 = b1.low in omega (arith, up));
            aligned = (let e = le.0.sp in let al = b1.aligned in let even = is.even in omega (arith, up));
            small = le.0.small;
            frame = frame_moved v.proc m' dρ d2 (Suspended q hs g x.can.room Addr vs d1.mem) (Suspended q hs g x.can.room Addr vs d2.mem) s.laid le.0.sp (λ h k n. le.0.kept h k) (λ p low1 high1. ap (λ (m : Bytes). m p) le.0.mem) (λ σ u t. subst (λ m. Suspended q hs g x.can.room Addr vs m σ) (sym le.0.mem) t) s.frame;
          }

          at2 : At v.proc (places_of m'.homes) (s.insn ∷ v.rest.insns) v.rest.end v.env (cells m' d2)
          at2 = at_alike v.proc (places_of m'.homes) (s.insn ∷ v.rest.insns) v.rest.end v.env (cells m' dρ) (cells m' d2) (λ u lt. cell_home v.proc m' d2 u s.laid lt ∙ (homes_same v.proc m' dρ d2 (home_of m' u) (s.laid.homes u lt) s.laid le.0.sp le.0.kept (λ p low1 high1. ap (λ (m : Bytes). m p) le.0.mem) ∙ sym (cell_home v.proc m' dρ u s.laid lt))) s.at

          all : Leads (length (xs ++ leave l) + 1) r t2.run
          all = leads_then (length (xs ++ leave l)) 1 r t1.run t2.run t1.leads t2.leads

          ready : r.state.mode ≡ mode.Ready
          ready = x.laws.ready i _ d r rel.on

          go : (o : Option (List ℕ)) → F.received v.targets rs v.env ≡ o → Now q hs g On Addr Labelled x (suc n) (run_of q hs g On Addr Labelled x f [] (E.Return ys) env w (v ∷ vs)) r
          go None eo = goes_wrong q hs g On Addr Labelled x (suc n) (run_of q hs g On Addr Labelled x f [] (E.Return ys) env w (v ∷ vs)) w r rel.told ready refl (λ m. ap (λ o. B.if_value o (F.seen w' Wrong) (λ env. B.exec q.procs (at_places q hs g On Addr Labelled x) m (record { proc = v.proc; rest = v.rest; env = env; world = w'; stack = vs }))) eo)
          go (Some env') eo =
              let pl = places_of m'.homes in
              let o : ℕ → ℕ = λ h. after pl h at2.ran (held pl v.proc at2.run h) in
              let below = subst (λ ts. AllBelow v.proc.values ts) s.sets_targets (set_low v.proc pl s.insn v.rest.insns v.rest.end v.env (cells m' d2) at2) in
              let k = takes v.proc m' w' vs o 0 v.targets rs v.env env' d2 s.laid rfew eo below le.0.results at2.agrees body2 in
              let zs = take_results m' 0 v.targets in
              let d3 = acts zs d2 in
              let code = rest_code m' v.rest.insns v.rest.end s.tail in
              let t3 = goes q hs g On Addr Labelled x.laws j zs code d2 t2.run t2.on k.safe in
              let count = length (xs ++ leave l) + 1 + length zs in
              let whole = leads_then (length (xs ++ leave l) + 1) (length zs) r t2.run t3.run all t3.leads in
              let told = told_after count r t3.run w whole rel.told in
              let n1 = length-append xs (leave l) in
              let n2 = give_few l 0 ys in
              let n3 = leave_few l in
              let n4 = take_few m' 0 v.targets in
              let n5 = s.few in
              let dear = x.dear in
              let fr = rel.frames in
              proceeds q hs g On Addr Labelled x n again (run_of q hs g On Addr Labelled x f [] (E.Return ys) env w (v ∷ vs)) w r rel.told ready v.proc v.rest.insns v.rest.end env' w' vs count t3.run whole (omega arith) (omega (arith, few))
              (record {
                number = j;
                is = s.is;
                data' = d3;
                tail = s.tail;
                on = t3.on;
                told = record { bytes = told.bytes; left = told.left; taken = told.taken; output = told.output };
                frames = omega arith;
                level = s.level;
                at = moved v.proc pl s.insn v.rest.insns v.rest.end v.env env' (cells m' d2) (cells m' d3) at2 (subst (λ ts. Agrees pl v.proc.values (λ h. put_all pl h ts (o h)) env' (cells m' d3)) (sym s.sets_targets) k.agrees);
                body = k.body;
              }) refl (λ m. ap (λ o. B.if_value o (F.seen w' Wrong) (λ env. B.exec q.procs (at_places q hs g On Addr Labelled x) m (record { proc = v.proc; rest = v.rest; env = env; world = w'; stack = vs }))) eo)
