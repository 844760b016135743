-- Values in their homes: how code reads and writes them.
use Rattle.std.proofs.Common.{◌≡◌, ℕ, suc, ◌+◌, ◌%◌, ◌^◌, ◌<◌, ◌≤◌, ◌⊎◌, inl, inr, true, false, cond, List, [], ◌∷◌, ◌++◌, length, refl, sym, ap, ◌∙◌, subst, arith}
use Rattle.std.specs.Prelude.{◌==◌, slice_index, Contains, All}
use Rattle.std.proofs.lemmas.Bool.Decides.{nat_tests, eqb_tells}
use Rattle.flat_ir.specs.Bytes.{Bytes, number, put}
use Rattle.flat_ir.specs.Placement.{Placement, heap_end}
use Rattle.flat_ir.specs.Flat.{World}
use Rattle.flat_ir.proofs.Framing.{put_apart, put_bytes, number_put_same, number_put_apart, number_small}
use Rattle.flatten.specs.declared.blocks.BlockInsn.{BlockInsn}
use Rattle.flatten.specs.declared.blocks.BlockEnd.{BlockEnd}
use Rattle.flatten.specs.declared.blocks.BlockProc.{BlockProc}
use Rattle.flatten.specs.declared.blocks.BlockProgram.{BlockProgram}
use Rattle.flatten.specs.Blocks as B
use Rattle.flatten.specs.Named.{AllBelow}
use Rattle.flatten.specs.Paths.{sets}
use Rattle.block_homes.specs.declared.homes.Home.{Home}
use Rattle.block_homes.specs.declared.homes.Home.TheVariants as H
use Rattle.block_homes.specs.declared.homes.Assignment.{Assignment}
use Rattle.block_homes.specs.Held.{place, places_of, uses_from}
use Rattle.block_homes.specs.Homed.{Cells, value, set_value}
use Rattle.block_homes.specs.Valid.{IsHome, InsnBelow}
use Rattle.block_homes.proofs.Lockstep.{At, named_use, block_named, uses_append}
use Rattle.rv_assemble.specs.declared.unit.AsmLine.{AsmLine}
use Rattle.emitted_code.specs.Straight.{Straight, AddImmediate}
use Rattle.emitted_code.specs.Frames.{Layout, home_of, slot_at, saved_of}
use Rattle.emitted_code.specs.Code.{operand_register, fetch, result_register, read, write}
use Rattle.emitted_code.specs.Room.{HasRoom}
use Rattle.emitted_code.proofs.Data.{Data, set, acts, IsTarget, Reach, AreSafe, Gets, gets_one, Small}
use Rattle.emitted_code.proofs.FrameWords.{gets_word, puts_word}
use Rattle.emitted_code.proofs.Relate.{IsKept, In, at_home, cells, Laid, cell_home, kept_range, IsFree, free_kept, free_not, Stays, at_alike, frame_moved, homes_same, IsOwn, Suspended, apart, Body, spans, top}

-- a value that is used is there
pub use_low : (f : BlockProc) (pl : List ℕ) (rest : List BlockInsn) (end : BlockEnd) (env : List ℕ) (c : Cells) → At f pl rest end env c → (v : ℕ) → Contains (uses_from rest end 0) v → v < f.values
use_low f pl rest end env c a v m =
    let e : uses_from a.block.insns a.block.end (length a.ran) ≡ uses_from rest end 0 = ap (λ xs. uses_from xs a.block.end (length a.ran)) a.insns ∙ uses_append a.ran rest a.block.end ∙ ap (λ x. uses_from rest x 0) a.ends in
    named_use f a.named a.number a.block a.is_block (length a.ran) v (subst (λ us. Contains us v) (sym e) m)

all_mid : (P : BlockInsn → Type 0) (ran : List BlockInsn) (x : BlockInsn) (rest : List BlockInsn) → All P (ran ++ x ∷ rest) → P x
all_mid P [] x rest w = w 0 x (omega arith)
all_mid P (y ∷ ran) x rest w = all_mid P ran x rest (λ j d lt. w (suc j) d (omega (arith, lt)))

-- and each that is set
pub set_low : (f : BlockProc) (pl : List ℕ) (x : BlockInsn) (rest : List BlockInsn) (end : BlockEnd) (env : List ℕ) (c : Cells) → At f pl (x ∷ rest) end env c → AllBelow f.values (sets x)
set_low f pl x rest end env c a =
    let k = block_named f a.named a.number a.block a.is_block in
    (all_mid (InsnBelow f.values) a.ran x rest (subst (λ xs. All (InsnBelow f.values) xs) a.insns k.0)).1

-- code has put a value into a register for an operand
pub record Fetched (low high t reg v : ℕ) (d : Data) (xs : List Straight) : Type 0 where
  pub value : (acts xs d).regs reg ≡ v
  pub others : (r : ℕ) → ¬ (r ≡ t) → ¬ (r ≡ 7) → (acts xs d).regs r ≡ d.regs r
  pub mem : (acts xs d).mem ≡ d.mem
  pub safe : AreSafe low high xs d
  pub small : Small d.regs → Small (acts xs d).regs

-- the registers that aren't scratch
abbrev pub IsApart : ℕ → Type 0
IsApart k = (k ≤ 4) ⊎ (8 ≤ k)

pub kept_apart : (h : ℕ) → IsKept h → IsApart h
kept_apart h k = inr (kept_range h k).0

-- a value was written to a home
abbrev pub WrittenTo : Layout → Home → ℕ → Data → Data → Type 0
WrittenTo l (H.Register r) v d d' = (d'.regs r ≡ v) × ((k : ℕ) → ¬ (k ≡ r) → IsApart k → d'.regs k ≡ d.regs k) × (d'.mem ≡ d.mem)
WrittenTo l (H.Slot s) v d d' = ((k : ℕ) → IsApart k → d'.regs k ≡ d.regs k) × (d'.mem ≡ put 8 d.mem (d.regs 2 + slot_at l s) v)

pub record Wrote (l : Layout) (h : Home) (v : ℕ) (d d' : Data) : Type 0 where
  pub to : WrittenTo l h v d d'
  pub small : Small d'.regs

pub apart_seven : (k : ℕ) → IsApart k → ¬ (k ≡ 7)
apart_seven k (inl a) e = omega arith
apart_seven k (inr a) e = omega arith

two_apart : IsApart 2
two_apart = inl (omega arith)

-- what each home holds then
pub home_written : (n : ℕ) (l : Layout) (h u : Home) (v : ℕ) (d d' : Data) → IsHome n h → IsHome n u → v < 2 ^ 64 → Wrote l h v d d' → at_home l d' u ≡ cond (place h == place u) v (at_home l d u)
home_written n l (H.Register r) (H.Register k) v d d' ih iu lt w = go (eqb_tells r k)
  where
    go : (((r == k) ≡ true) × (r ≡ k)) ⊎ (((r == k) ≡ false) × ¬ (r ≡ k)) → d'.regs k ≡ cond (r == k) v (d.regs k)
    go (inl e) = ap (λ x. d'.regs x) (sym e.1) ∙ (w.to.0 ∙ ap (λ b. cond b v (d.regs k)) (sym e.0))
    go (inr e) = w.to.1 k (λ z. e.1 (sym z)) (kept_apart k iu) ∙ ap (λ b. cond b v (d.regs k)) (sym e.0)
home_written n l (H.Register r) (H.Slot s) v d d' ih iu lt w =
    let g = kept_range r ih in
    let g0 = g.0 in
    let g1 = g.1 in
    let t : (r == 32 + s) ≡ false = grind (arith, nat_tests) in
    let e2 = w.to.1 2 (λ z. omega arith) two_apart in
    ap (λ x. number 8 d'.mem (x + slot_at l s)) e2 ∙ (ap (λ m. number 8 m (d.regs 2 + slot_at l s)) w.to.2 ∙ ap (λ b. cond b v (number 8 d.mem (d.regs 2 + slot_at l s))) (sym t))
home_written n l (H.Slot s) (H.Register k) v d d' ih iu lt w =
    let g = kept_range k iu in
    let g0 = g.0 in
    let g1 = g.1 in
    let t : (32 + s == k) ≡ false = grind (arith, nat_tests) in
    w.to.0 k (kept_apart k iu) ∙ ap (λ b. cond b v (d.regs k)) (sym t)
home_written n l (H.Slot s) (H.Slot k) v d d' ih iu lt w = go (eqb_tells (32 + s) (32 + k))
  where
    e2 : d'.regs 2 ≡ d.regs 2
    e2 = w.to.0 2 two_apart

    there : number 8 d'.mem (d'.regs 2 + slot_at l k) ≡ number 8 (put 8 d.mem (d.regs 2 + slot_at l s) v) (d.regs 2 + slot_at l k)
    there = ap (λ x. number 8 d'.mem (x + slot_at l k)) e2 ∙ ap (λ m. number 8 m (d.regs 2 + slot_at l k)) w.to.1

    go : (((32 + s == 32 + k) ≡ true) × (32 + s ≡ 32 + k)) ⊎ (((32 + s == 32 + k) ≡ false) × ¬ (32 + s ≡ 32 + k)) → number 8 d'.mem (d'.regs 2 + slot_at l k) ≡ cond (32 + s == 32 + k) v (number 8 d.mem (d.regs 2 + slot_at l k))
    go (inl e) = (let same_slot : d.regs 2 + slot_at l k ≡ d.regs 2 + slot_at l s = (let z = e.1 in omega arith) in there ∙ (ap (λ a. number 8 (put 8 d.mem (d.regs 2 + slot_at l s) v) a) same_slot ∙ (number_put_same 8 d.mem (d.regs 2 + slot_at l s) v lt ∙ ap (λ b. cond b v (number 8 d.mem (d.regs 2 + slot_at l k))) (sym e.0))))
    go (inr e) = there ∙ (number_put_apart 8 8 d.mem (d.regs 2 + slot_at l s) v (d.regs 2 + slot_at l k) (sides e.1) ∙ ap (λ b. cond b v (number 8 d.mem (d.regs 2 + slot_at l k))) (sym e.0))
      where
        sides : ¬ (32 + s ≡ 32 + k) → (d.regs 2 + slot_at l s + 8 ≤ d.regs 2 + slot_at l k) ⊎ (d.regs 2 + slot_at l k + 8 ≤ d.regs 2 + slot_at l s)
        sides z = grind arith

-- and each cell
pub cells_written : (f : BlockProc) (l : Layout) (x v : ℕ) (d d' : Data) → Laid f l → x < f.values → v < 2 ^ 64 → Wrote l (home_of l x) v d d' → (u : ℕ) → u < f.values → value (places_of l.homes) (cells l d') u ≡ value (places_of l.homes) (set_value (places_of l.homes) (cells l d) x v) u
cells_written f l x v d d' is lx lt w u lu =
    let pl = places_of l.homes in
    let ex = is.places x lx in
    let eu = is.places u lu in
    cell_home f l d' u is lu ∙ (home_written f.values l (home_of l x) (home_of l u) v d d' (is.homes x lx) (is.homes u lu) lt w
    ∙ (ap (λ z. cond (place (home_of l x) == place (home_of l u)) v z) (sym (cell_home f l d u is lu))
    ∙ (ap (λ p. cond (p == place (home_of l u)) v (cells l d (slice_index pl u))) (sym ex) ∙ ap (λ p. cond (slice_index pl x == p) v (cells l d (slice_index pl u))) (sym eu))))

pub stays_of : (t : ℕ) (d d' : Data) → IsFree t → ((r : ℕ) → ¬ (r ≡ t) → ¬ (r ≡ 7) → d'.regs r ≡ d.regs r) → Small d'.regs → Stays d d'
stays_of t d d' ft h s = record {
  zero = h 0 (free_not t 0 ft (inl refl)) (λ z. omega arith);
  sp = h 2 (free_not t 2 ft (inr (inl refl))) (λ z. omega arith);
  base = h 3 (free_not t 3 ft (inr (inr refl))) (λ z. omega arith);
  kept = λ k kk. h k (free_kept t k ft kk) (free_kept 7 k (inl (inr (omega arith, omega arith))) kk);
  small = s;
}

pub gets_stays : (low high t v : ℕ) (d : Data) (xs : List Straight) → IsFree t → Gets low high t v d xs → Small d.regs → Stays d (acts xs d)
gets_stays low high t v d xs ft g s = stays_of t d (acts xs d) ft g.others (g.small s)

pub fetched_stays : (low high t reg v : ℕ) (d : Data) (xs : List Straight) → IsFree t → Fetched low high t reg v d xs → Small d.regs → Stays d (acts xs d)
fetched_stays low high t reg v d xs ft g s = stays_of t d (acts xs d) ft g.others (g.small s)

pub free_target : (t : ℕ) → IsFree t → IsTarget t
free_target t (inl (inl a)) = (omega arith, omega arith)
free_target t (inl (inr a)) = (let a0 = a.0 in let a1 = a.1 in (omega arith, omega arith))
free_target t (inr a) = (let a0 = a.0 in let a1 = a.1 in (omega arith, omega arith))

pub five : IsFree 5
five = inl (inr (omega arith, omega arith))

pub six : IsFree 6
six = inl (inr (omega arith, omega arith))

pub seven : IsFree 7
seven = inl (inr (omega arith, omega arith))

-- an operand's register is no scratch register but its own
pub operand_apart : (n t r : ℕ) (h : Home) → IsHome n h → (5 ≤ r) × (r ≤ 7) → ¬ (t ≡ r) → ¬ (operand_register h t ≡ r)
operand_apart n t r (H.Register k) ih b ne e = (let g = kept_range k ih in let g0 = g.0 in let b1 = b.1 in omega arith)
operand_apart n t r (H.Slot s) ih b ne e = ne e

pub operand_low : (n t : ℕ) (h : Home) → IsHome n h → t < 32 → (operand_register h t < 32)
operand_low n t (H.Register k) ih lt = (kept_range k ih).1
operand_low n t (H.Slot s) ih lt = lt

pub result_target : (n : ℕ) (h : Home) → IsHome n h → IsTarget (result_register h)
result_target n (H.Register k) ih = (let g = kept_range k ih in let g0 = g.0 in (omega arith, g.1))
result_target n (H.Slot s) ih = (omega arith, omega arith)

module _ (q : BlockProgram) (hs : List Assignment) (g : Placement) (room : HasRoom q) (Addr : ℕ → List AsmLine → ℕ → Type 0) (bounded : heap_end (length q.image) g ≤ 2 ^ 63) where
  abbrev pub low : ℕ
  low = g.image

  abbrev pub high : ℕ
  high = heap_end (length q.image) g

  abbrev pub Is : Layout → World → List B.Waiting → Data → Type 0
  Is l w stack d = Body q hs g room Addr l w stack d

  -- a word of the frame can be loaded and stored
  pub reaches : (l : Layout) (w : World) (stack : List B.Waiting) (d : Data) (offset : ℕ) → Is l w stack d → offset % 8 ≡ 0 → offset + 8 ≤ l.size → Reach low high 8 (d.regs 2 + offset)
  reaches l w stack d offset b even fits =
      let all = spans q hs g room Addr l w stack d b in
      let bottom = b.low in
      let level = b.aligned in
      (omega arith, omega arith, omega arith)

  -- what changes no kept register and no memory
  pub scratched : (f : BlockProc) (l : Layout) (w : World) (stack : List B.Waiting) (d d' : Data) → Laid f l → Stays d d' → d'.mem ≡ d.mem → Is l w stack d → Is l w stack d'
  scratched f l w stack d d' is s e b = record {
    memory = λ a o. ap (λ (m : Bytes). m a) e ∙ b.memory a o;
    bytes = λ a. subst (λ (m : Bytes). m a < 256) (sym e) (b.bytes a);
    zero = s.zero ∙ b.zero;
    base = s.base ∙ b.base;
    low = (let bottom = b.low in let sp = s.sp in omega arith);
    aligned = ap (λ v. v % 8) s.sp ∙ b.aligned;
    small = s.small;
    frame = frame_moved f l d d' (Suspended q hs g room Addr stack d.mem) (Suspended q hs g room Addr stack d'.mem) is s.sp (λ h k n. s.kept h k) (λ a lo hi. ap (λ (m : Bytes). m a) e) (λ r up t. subst (λ m. Suspended q hs g room Addr stack m r) (sym e) t) b.frame;
  }

  pub scratched_at : (f : BlockProc) (l : Layout) (rest : List BlockInsn) (end : BlockEnd) (env : List ℕ) (d d' : Data) → Laid f l → Stays d d' → d'.mem ≡ d.mem → At f (places_of l.homes) rest end env (cells l d) → At f (places_of l.homes) rest end env (cells l d')
  scratched_at f l rest end env d d' is s e a =
      at_alike f (places_of l.homes) rest end env (cells l d) (cells l d') (λ u lt. cell_home f l d' u is lt ∙ (homes_same f l d d' (home_of l u) (is.homes u lt) is s.sp s.kept (λ a lo hi. ap (λ (m : Bytes). m a) e) ∙ sym (cell_home f l d u is lt))) a

  -- what a home holds is a number of 64 bits
  pub home_small : (f : BlockProc) (l : Layout) (w : World) (stack : List B.Waiting) (d : Data) (h : Home) → IsHome f.values h → Is l w stack d → at_home l d h < 2 ^ 64
  home_small f l w stack d (H.Register r) ih b = (let g = kept_range r ih in let g0 = g.0 in b.small r (λ z. omega arith))
  home_small f l w stack d (H.Slot s) ih b = number_small 8 d.mem (d.regs 2 + slot_at l s) b.bytes

  -- a home into a register
  pub reads : (f : BlockProc) (l : Layout) (w : World) (stack : List B.Waiting) (d : Data) (rd : ℕ) (h : Home) → Laid f l → IsHome f.values h → IsTarget rd → Is l w stack d → Gets low high rd (at_home l d h) d (read l h rd)
  reads f l w stack d rd (H.Register r) is ih t b =
      let k = kept_range r ih in
      let v = home_small f l w stack d (H.Register r) ih b in
      let e : (d.regs r + 0) % 2 ^ 64 ≡ d.regs r = omega arith in
      gets_one low high rd (d.regs r) d (AddImmediate rd r 0) (ap (set d rd) e) (t, k.1) v
  reads f l w stack d rd (H.Slot s) is ih t b =
      let fits = is.fits in
      gets_word low high bounded rd (slot_at l s) (number 8 d.mem (d.regs 2 + slot_at l s)) d t (reaches l w stack d (slot_at l s) b (omega arith) (omega arith)) b.zero refl (home_small f l w stack d (H.Slot s) ih b)

  pub fetches : (f : BlockProc) (l : Layout) (w : World) (stack : List B.Waiting) (d : Data) (t : ℕ) (h : Home) → Laid f l → IsHome f.values h → IsTarget t → Is l w stack d → Fetched low high t (operand_register h t) (at_home l d h) d (fetch l h t)
  fetches f l w stack d t (H.Register r) is ih it b = record { value = refl; others = λ k n m. refl; mem = refl; safe = tt; small = λ s. s }
  fetches f l w stack d t (H.Slot s) is ih it b =
      let x = reads f l w stack d t (H.Slot s) is ih it b in
      record { value = x.value; others = x.others; mem = x.mem; safe = x.safe; small = x.small }

  -- a register to a home
  pub writes : (f : BlockProc) (l : Layout) (w : World) (stack : List B.Waiting) (d : Data) (rs : ℕ) (h : Home) → Laid f l → IsHome f.values h → IsFree rs → ¬ (rs ≡ 6) → ¬ (rs ≡ 7) → Is l w stack d → Wrote l h (d.regs rs) d (acts (write l h rs) d) × AreSafe low high (write l h rs) d
  writes f l w stack d rs (H.Register r) is ih fr n6 n7 b =
      let k = kept_range r ih in
      let k0 = k.0 in
      let v = b.small rs n6 in
      let e : (d.regs rs + 0) % 2 ^ 64 ≡ d.regs rs = omega arith in
      let x = gets_one low high r (d.regs rs) d (AddImmediate r rs 0) (ap (set d r) e) ((omega arith, k.1), (free_target rs fr).1) v in
      (record { to = (x.value, (λ j n a. x.others j n (apart_seven j a)), x.mem); small = x.small b.small }, x.safe)
  writes f l w stack d rs (H.Slot s) is ih fr n6 n7 b =
      let fits = is.fits in
      let x = puts_word low high bounded rs (slot_at l s) d (free_target rs fr).1 n7 (reaches l w stack d (slot_at l s) b (omega arith) (omega arith)) b.zero in
      (record { to = ((λ j a. x.others j (apart_seven j a)), x.mem); small = x.small b.small }, x.safe)

  -- what holds behind a write to a home
  pub body_written : (f : BlockProc) (l : Layout) (w : World) (stack : List B.Waiting) (d d' : Data) (x v : ℕ) → Laid f l → x < f.values → Wrote l (home_of l x) v d d' → Is l w stack d → Is l w stack d'
  body_written f l w stack d d' x v is lx wr b = go (home_of l x) refl (is.homes x lx) wr
    where
      go : (h : Home) → home_of l x ≡ h → IsHome f.values h → Wrote l h v d d' → Is l w stack d'
      go (H.Register r) eh ih wr =
          let k = kept_range r ih in
          let k0 = k.0 in
          let keep : (j : ℕ) → j ≤ 3 → d'.regs j ≡ d.regs j = λ j le. wr.to.1 j (λ z. omega arith) (inl (omega arith)) in
          let sp = keep 2 (omega arith) in
          let e = wr.to.2 in
          record {
            memory = λ a o. ap (λ (m : Bytes). m a) e ∙ b.memory a o;
            bytes = λ a. subst (λ (m : Bytes). m a < 256) (sym e) (b.bytes a);
            zero = keep 0 (omega arith) ∙ b.zero;
            base = keep 3 (omega arith) ∙ b.base;
            low = (let bottom = b.low in omega arith);
            aligned = ap (λ v. v % 8) sp ∙ b.aligned;
            small = wr.small;
            frame = frame_moved f l d d' (Suspended q hs g room Addr stack d.mem) (Suspended q hs g room Addr stack d'.mem) is sp (λ h kk n. wr.to.1 h (λ z. n (subst (λ y. In y (saved_of l)) (sym z) (is.used x r lx eh))) (kept_apart h kk)) (λ a lo hi. ap (λ (m : Bytes). m a) e) (λ ρ up t. subst (λ m. Suspended q hs g room Addr stack m ρ) (sym e) t) b.frame;
          }
      go (H.Slot s) eh ih wr =
          let fits = is.fits in
          let keep : (j : ℕ) → j ≤ 3 → d'.regs j ≡ d.regs j = λ j le. wr.to.0 j (inl (omega arith)) in
          let sp = keep 2 (omega arith) in
          let e = wr.to.1 in
          let bottom = b.low in
          let at = d.regs 2 + slot_at l s in
          let all = spans q hs g room Addr l w stack d b in
          let off : (a : ℕ) → (a < at) ⊎ (at + 8 ≤ a) → d'.mem a ≡ d.mem a = λ a o. ap (λ (m : Bytes). m a) e ∙ put_apart 8 d.mem at v a (sides at a o) in
          record {
            memory = λ a o. off a (own at a (omega arith) (omega arith) o) ∙ b.memory a o;
            bytes = λ a. subst (λ (m : Bytes). m a < 256) (sym e) (put_bytes 8 d.mem at v b.bytes a);
            zero = keep 0 (omega arith) ∙ b.zero;
            base = keep 3 (omega arith) ∙ b.base;
            low = omega arith;
            aligned = ap (λ v. v % 8) sp ∙ b.aligned;
            small = wr.small;
            frame = frame_moved f l d d' (Suspended q hs g room Addr stack d.mem) (Suspended q hs g room Addr stack d'.mem) is sp (λ h kk n. wr.to.0 h (kept_apart h kk)) (λ a lo hi. off a (inl (omega arith))) (λ ρ up t. apart q hs g room Addr stack d.mem d'.mem ρ (λ a lo hi. off a (inr (omega arith))) t) b.frame;
          }
        where
          sides : (at a : ℕ) → (a < at) ⊎ (at + 8 ≤ a) → (at + 8 ≤ a) ⊎ (a + 1 ≤ at)
          sides at a (inl o) = inr (omega arith)
          sides at a (inr o) = inl o

          own : (at a : ℕ) → g.image + length q.image ≤ at → at + 8 ≤ top q hs g room Addr → IsOwn (length q.image) g a → (a < at) ⊎ (at + 8 ≤ a)
          own at a lo hi (inl o) = (let o1 = o.1 in inl (omega arith))
          own at a lo hi (inr o) = (let o0 = o.0 in inr (omega arith))
