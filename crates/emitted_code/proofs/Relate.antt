-- How a state of the blocks lies in registers and memory.
use Rattle.std.proofs.Common.{◌≡◌, ℕ, ◌+◌, ◌-◌, ◌*◌, ◌%◌, ◌<◌, ◌≤◌, ◌⊎◌, inl, inr, Bool, true, false, cond, List, [], ◌∷◌, length, refl, sym, ap, ◌∙◌, subst, arith}
use Rattle.std.specs.Prelude.{nat_lt, nat_eq, ◌||◌, slice_get, slice_index}
use Rattle.std.proofs.lemmas.Bool.Decides.{nat_tests}
use Rattle.flat_ir.specs.Bytes.{Bytes, number}
use Rattle.flat_ir.specs.Placement.{Placement, frames_at, objects_at, heap_end}
use Rattle.flat_ir.specs.Flat.{World}
use Rattle.flat_ir.specs.Ranges.{AreBytes}
use Rattle.flat_ir.proofs.Framing.{number_alike}
use Rattle.flatten.specs.declared.blocks.BlockInsn.{BlockInsn}
use Rattle.flatten.specs.declared.blocks.BlockEnd.{BlockEnd}
use Rattle.flatten.specs.declared.blocks.BlockProc.{BlockProc}
use Rattle.flatten.specs.declared.blocks.BlockProgram.{BlockProgram}
use Rattle.flatten.specs.Blocks as B
use Rattle.flatten.specs.Paths.{sets}
use Rattle.block_homes.specs.declared.homes.Home.{Home}
use Rattle.block_homes.specs.declared.homes.Home.TheVariants as H
use Rattle.block_homes.specs.declared.homes.Assignment.{Assignment}
use Rattle.block_homes.specs.Held.{place, places_of, homes_in}
use Rattle.block_homes.specs.Homed.{Cells, value}
use Rattle.block_homes.specs.Valid.{IsHome}
use Rattle.block_homes.proofs.Lockstep.{At}
use Rattle.rv_assemble.specs.declared.unit.AsmLine.{AsmLine}
use Rattle.emitted_code.specs.Straight.{lines}
use Rattle.emitted_code.specs.Frames.{Layout, layout_of, home_of, save_number, save_at, slot_at, saved_of, is_charged, frame_size}
use Rattle.emitted_code.specs.Code.{take_results, rest_code}
use Rattle.emitted_code.specs.Units.{first_size}
use Rattle.emitted_code.specs.Room.{IsProc, HasRoom}
use Rattle.emitted_code.proofs.Data.{Data, Small}

-- the registers that a call keeps, besides x2
abbrev pub IsKept : ℕ → Type 0
IsKept r = ((8 ≤ r) × (r ≤ 9)) ⊎ ((18 ≤ r) × (r ≤ 27))

abbrev pub In : ℕ → List ℕ → Type 0
In h [] = ⊥
In h (k ∷ ks) = (h ≡ k) ⊎ In h ks

-- what a home holds
abbrev pub at_home : Layout → Data → Home → ℕ
at_home l d (H.Register r) = d.regs r
at_home l d (H.Slot k) = number 8 d.mem (d.regs 2 + slot_at l k)

abbrev pub cells : Layout → Data → Cells
cells l d h = cond (nat_lt h 32) (d.regs h) (number 8 d.mem (d.regs 2 + slot_at l (h - 32)))

-- what is known of a procedure's layout
pub record Laid (f : BlockProc) (l : Layout) : Type 0 where
  pub homes : (y : ℕ) → y < f.values → IsHome f.values (home_of l y)
  pub places : (y : ℕ) → y < f.values → slice_index (places_of l.homes) y ≡ place (home_of l y)
  pub used : (y r : ℕ) → y < f.values → home_of l y ≡ H.Register r → In r (saved_of l)
  pub saves : (h : ℕ) → In h (saved_of l) → (h ≡ 1) ⊎ IsKept h
  pub fits : 8 * l.words + 104 + 8 * f.values ≤ l.size
  pub even : l.size % 8 ≡ 0

-- the cells are what the homes hold
pub cell_home : (f : BlockProc) (l : Layout) (d : Data) (y : ℕ) → Laid f l → y < f.values → value (places_of l.homes) (cells l d) y ≡ at_home l d (home_of l y)
cell_home f l d y is lt = ap (cells l d) (is.places y lt) ∙ by (home_of l y) (is.homes y lt)
  where
    by : (h : Home) → IsHome f.values h → cells l d (place h) ≡ at_home l d h
    by (H.Register r) k =
        let t : nat_lt r 32 ≡ true = grind (arith, nat_tests) in
        ap (λ b. cond b (d.regs r) (number 8 d.mem (d.regs 2 + slot_at l (r - 32)))) t
    by (H.Slot s) k =
        let t : nat_lt (32 + s) 32 ≡ false = grind (arith, nat_tests) in
        let e : 32 + s - 32 ≡ s = omega arith in
        ap (λ b. cond b (d.regs (32 + s)) (number 8 d.mem (d.regs 2 + slot_at l (32 + s - 32)))) t ∙ ap (λ n. number 8 d.mem (d.regs 2 + slot_at l n)) e

-- where a register is saved
pub data Saving (h : ℕ) : Type 0 where
  link : h ≡ 1 → save_number h ≡ 0 → Saving h
  first : 8 ≤ h → h ≤ 9 → save_number h ≡ h - 7 → Saving h
  second : 18 ≤ h → h ≤ 27 → save_number h ≡ h - 15 → Saving h

pub saving : (h : ℕ) → (h ≡ 1) ⊎ IsKept h → Saving h
saving h (inl e) = let t : nat_lt h 8 ≡ true = grind (arith, nat_tests) in link e (ap (λ b. cond b 0 (cond (nat_lt h 18) (h - 7) (h - 15))) t)
saving h (inr (inl k)) =
    let t : nat_lt h 8 ≡ false = grind (arith, nat_tests) in
    let u : nat_lt h 18 ≡ true = grind (arith, nat_tests) in
    first k.0 k.1 (ap (λ b. cond b 0 (cond (nat_lt h 18) (h - 7) (h - 15))) t ∙ ap (λ b. cond b (h - 7) (h - 15)) u)
saving h (inr (inr k)) =
    let t : nat_lt h 8 ≡ false = grind (arith, nat_tests) in
    let u : nat_lt h 18 ≡ false = grind (arith, nat_tests) in
    second k.0 k.1 (ap (λ b. cond b 0 (cond (nat_lt h 18) (h - 7) (h - 15))) t ∙ ap (λ b. cond b (h - 7) (h - 15)) u)

pub save_low : (h : ℕ) → (h ≡ 1) ⊎ IsKept h → save_number h ≤ 12
save_low h k = by (saving h k)
  where
    by : Saving h → save_number h ≤ 12
    by (link e s) = omega arith
    by (first a b s) = omega arith
    by (second a b s) = omega arith

pub save_differs : (h k : ℕ) → (h ≡ 1) ⊎ IsKept h → (k ≡ 1) ⊎ IsKept k → ¬ (h ≡ k) → ¬ (save_number h ≡ save_number k)
save_differs h k a b n = by (saving h a) (saving k b)
  where
    by : Saving h → Saving k → ¬ (save_number h ≡ save_number k)
    by (link e s) (link e' s') z = n (omega arith)
    by (link e s) (first x y s') z = omega arith
    by (link e s) (second x y s') z = omega arith
    by (first u v s) (link e' s') z = omega arith
    by (first u v s) (first x y s') z = n (omega arith)
    by (first u v s) (second x y s') z = omega arith
    by (second u v s) (link e' s') z = omega arith
    by (second u v s) (first x y s') z = omega arith
    by (second u v s) (second x y s') z = n (omega arith)

pub kept_range : (h : ℕ) → IsKept h → (8 ≤ h) × (h < 32) × ((h ≤ 9) ⊎ (18 ≤ h))
kept_range h (inl k) = (omega arith, omega arith, inl k.1)
kept_range h (inr k) = (omega arith, omega arith, inr k.0)

-- the registers that code may change: x1, x5 to x7 and x10 to x17
abbrev pub IsFree : ℕ → Type 0
IsFree r = ((r ≡ 1) ⊎ ((5 ≤ r) × (r ≤ 7))) ⊎ ((10 ≤ r) × (r ≤ 17))

pub free_kept : (r h : ℕ) → IsFree r → IsKept h → ¬ (h ≡ r)
free_kept r h (inl (inl a)) (inl k) e = omega arith
free_kept r h (inl (inl a)) (inr k) e = omega arith
free_kept r h (inl (inr a)) (inl k) e = omega arith
free_kept r h (inl (inr a)) (inr k) e = omega arith
free_kept r h (inr a) (inl k) e = omega arith
free_kept r h (inr a) (inr k) e = omega arith

pub free_not : (r h : ℕ) → IsFree r → (h ≡ 0) ⊎ ((h ≡ 2) ⊎ (h ≡ 3)) → ¬ (h ≡ r)
free_not r h (inl (inl a)) (inl k) e = omega arith
free_not r h (inl (inl a)) (inr (inl k)) e = omega arith
free_not r h (inl (inl a)) (inr (inr k)) e = omega arith
free_not r h (inl (inr a)) (inl k) e = omega arith
free_not r h (inl (inr a)) (inr (inl k)) e = omega arith
free_not r h (inl (inr a)) (inr (inr k)) e = omega arith
free_not r h (inr a) (inl k) e = omega arith
free_not r h (inr a) (inr (inl k)) e = omega arith
free_not r h (inr a) (inr (inr k)) e = omega arith

-- the registers that stay, and that each is small
pub record Stays (d d' : Data) : Type 0 where
  pub zero : d'.regs 0 ≡ d.regs 0
  pub sp : d'.regs 2 ≡ d.regs 2
  pub base : d'.regs 3 ≡ d.regs 3
  pub kept : (h : ℕ) → IsKept h → d'.regs h ≡ d.regs h
  pub small : Small d'.regs

-- values at their homes, where other cells hold the same
pub at_alike : (f : BlockProc) (pl : List ℕ) (rest : List BlockInsn) (end : BlockEnd) (env : List ℕ) (c c' : Cells) → ((u : ℕ) → u < f.values → value pl c' u ≡ value pl c u) → At f pl rest end env c → At f pl rest end env c'
at_alike f pl rest end env c c' e a = record {
  named = a.named;
  kept = a.kept;
  number = a.number;
  block = a.block;
  is_block = a.is_block;
  ran = a.ran;
  insns = a.insns;
  ends = a.ends;
  run = a.run;
  path = a.path;
  agrees = record { len = a.agrees.len; same = λ u lt h. a.agrees.same u lt h ∙ sym (e u lt) };
}

-- a procedure's frame: what its caller's registers are to be again
pub record Frame (l : Layout) (d : Data) (Rest : (ℕ → ℕ) → Type 0) : Type 0 where
  pub caller : ℕ → ℕ
  pub above : caller 2 ≡ d.regs 2 + l.size
  pub saved : (h : ℕ) → In h (saved_of l) → number 8 d.mem (d.regs 2 + save_at l h) ≡ caller h
  pub others : (h : ℕ) → IsKept h → ¬ (In h (saved_of l)) → d.regs h ≡ caller h
  pub rest : Rest caller

-- the same frame where the saved words and the registers that aren't saved are the same
pub frame_moved : (f : BlockProc) (l : Layout) (d d' : Data) (Rest Rest' : (ℕ → ℕ) → Type 0) → Laid f l → d'.regs 2 ≡ d.regs 2 → ((h : ℕ) → IsKept h → ¬ (In h (saved_of l)) → d'.regs h ≡ d.regs h)
    → ((a : ℕ) → d.regs 2 + 8 * l.words ≤ a → a < d.regs 2 + 8 * l.words + 104 → d'.mem a ≡ d.mem a)
    → ((r : ℕ → ℕ) → r 2 ≡ d.regs 2 + l.size → Rest r → Rest' r) → Frame l d Rest → Frame l d' Rest'
frame_moved f l d d' Rest Rest' is sp kept mem on a = record {
  caller = a.caller;
  above = a.above ∙ ap (λ v. v + l.size) (sym sp);
  saved = λ h i. (let low = save_low h (is.saves h i) in ap (λ v. number 8 d'.mem (v + save_at l h)) sp ∙ (number_alike 8 d.mem d'.mem (d.regs 2 + save_at l h) (λ b lo hi. mem b (omega arith) (omega arith)) ∙ a.saved h i));
  others = λ h k n. kept h k n ∙ a.others h k n;
  rest = on a.caller a.above a.rest;
}

-- the same homes where the slots and the registers that are kept are the same
pub homes_same : (f : BlockProc) (l : Layout) (d d' : Data) (h : Home) → IsHome f.values h → Laid f l → d'.regs 2 ≡ d.regs 2 → ((r : ℕ) → IsKept r → d'.regs r ≡ d.regs r) → ((a : ℕ) → d.regs 2 + 8 * l.words + 104 ≤ a → a < d.regs 2 + l.size → d'.mem a ≡ d.mem a) → at_home l d' h ≡ at_home l d h
homes_same f l d d' (H.Register r) k is sp kept mem = kept r k
homes_same f l d d' (H.Slot s) k is sp kept mem =
    let fits = is.fits in
    ap (λ v. number 8 d'.mem (v + slot_at l s)) sp ∙ number_alike 8 d.mem d'.mem (d.regs 2 + slot_at l s) (λ b lo hi. mem b (omega arith) (omega arith))

-- what the frames of procedures that wait take, and what they are charged
abbrev pub sizes : List B.Waiting → ℕ
sizes [] = 0
sizes (w ∷ ws) = frame_size w.proc + sizes ws

abbrev pub total : List B.Waiting → ℕ
total [] = 0
total (w ∷ ws) = w.proc.frame + total ws

-- the bytes that the program itself has: those of the image, and behind the frames
abbrev pub IsOwn : ℕ → Placement → ℕ → Type 0
IsOwn n g a = ((g.image ≤ a) × (a < g.image + n)) ⊎ ((objects_at n g ≤ a) × (a < heap_end n g))

module _ (q : BlockProgram) (hs : List Assignment) (g : Placement) (room : HasRoom q) (Addr : ℕ → List AsmLine → ℕ → Type 0) where
  abbrev pub top : ℕ
  top = objects_at (length q.image) g

  abbrev pub floor : ℕ
  floor = frames_at (length q.image) g

  abbrev pub lay : ℕ → BlockProc → Layout
  lay i f = layout_of f (homes_in (slice_get hs i))

  abbrev pub first_bytes_taken : ℕ
  first_bytes_taken = first_size (slice_get q.procs q.entry)

  -- a procedure that is charged, or the entry
  abbrev pub is_plain : ℕ → BlockProc → Bool
  is_plain i f = is_charged f || nat_eq i q.entry

  -- the room behind a procedure's frame: where only such procedures wait, their charges tell it
  pub record Level (i : ℕ) (f : BlockProc) (ws : List B.Waiting) : Type 0 where
    pub plain : is_plain i f ≡ true → frame_size f + sizes ws ≡ f.frame + total ws + first_bytes_taken
    pub routine : is_plain i f ≡ false → frame_size f + sizes ws + room.deep i ≤ g.limits.frames + 8192
    pub within : f.frame + total ws ≤ g.limits.frames

  -- a procedure that waits for a call, by the registers that it is to find
  pub record Waits (w : B.Waiting) (ws : List B.Waiting) (mem : Bytes) (regs : ℕ → ℕ) (Rest : (ℕ → ℕ) → Type 0) : Type 0 where
    pub number : ℕ
    pub is : IsProc q number w.proc
    pub laid : Laid w.proc (lay number w.proc)
    pub level : Level number w.proc ws
    pub insn : BlockInsn
    pub sets_targets : sets insn ≡ w.targets
    pub at : At w.proc (places_of (lay number w.proc).homes) (insn ∷ w.rest.insns) w.rest.end w.env (cells (lay number w.proc) (record { regs = regs; mem = mem }))
    pub few : length w.targets ≤ 2
    pub tail : List AsmLine
    pub code : Addr number (lines (take_results (lay number w.proc) 0 w.targets) (rest_code (lay number w.proc) w.rest.insns w.rest.end tail)) (regs 1)
    pub frame : Frame (lay number w.proc) (record { regs = regs; mem = mem }) Rest

  abbrev pub Suspended : List B.Waiting → Bytes → (ℕ → ℕ) → Type 0
  Suspended [] mem regs = regs 2 ≡ top
  Suspended (w ∷ ws) mem regs = Waits w ws mem regs (Suspended ws mem)

  pub depth : (ws : List B.Waiting) (mem : Bytes) (regs : ℕ → ℕ) → Suspended ws mem regs → regs 2 + sizes ws ≡ top
  depth [] mem regs s = omega (arith, s)
  depth (w ∷ ws) mem regs s =
      let e = s.frame.above in
      let r = depth ws mem s.frame.caller s.frame.rest in
      omega arith

  -- only some registers matter
  pub suspended_regs : (ws : List B.Waiting) (mem : Bytes) (regs regs' : ℕ → ℕ) → regs' 1 ≡ regs 1 → regs' 2 ≡ regs 2 → ((h : ℕ) → IsKept h → regs' h ≡ regs h) → Suspended ws mem regs → Suspended ws mem regs'
  suspended_regs [] mem regs regs' e1 e2 k s = e2 ∙ s
  suspended_regs (w ∷ ws) mem regs regs' e1 e2 k s =
      let l = lay s.number w.proc in
      let d : Data = record { regs = regs; mem = mem } in
      let d' : Data = record { regs = regs'; mem = mem } in
      record {
        number = s.number;
        is = s.is;
        laid = s.laid;
        level = s.level;
        insn = s.insn;
        sets_targets = s.sets_targets;
        at = at_alike w.proc (places_of l.homes) (s.insn ∷ w.rest.insns) w.rest.end w.env (cells l d) (cells l d') (λ u lt. cell_home w.proc l d' u s.laid lt ∙ (homes_same w.proc l d d' (home_of l u) (s.laid.homes u lt) s.laid e2 k (λ a lo hi. refl) ∙ sym (cell_home w.proc l d u s.laid lt))) s.at;
        few = s.few;
        tail = s.tail;
        code = subst (λ a. Addr s.number (lines (take_results l 0 w.targets) (rest_code l w.rest.insns w.rest.end s.tail)) a) (sym e1) s.code;
        frame = frame_moved w.proc l d d' (Suspended ws mem) (Suspended ws mem) s.laid e2 (λ h i n. k h i) (λ a lo hi. refl) (λ r up t. t) s.frame;
      }

  -- what changes no byte of the frames from x2 on changes nothing of them
  pub apart : (ws : List B.Waiting) (mem mem' : Bytes) (regs : ℕ → ℕ) → ((a : ℕ) → regs 2 ≤ a → a < top → mem' a ≡ mem a) → Suspended ws mem regs → Suspended ws mem' regs
  apart [] mem mem' regs e s = s
  apart (w ∷ ws) mem mem' regs e s = (let l = lay s.number w.proc in let down = depth ws mem s.frame.caller s.frame.rest in let up = s.frame.above in let fits = s.laid.fits in record {
    number = s.number;
    is = s.is;
    laid = s.laid;
    level = s.level;
    insn = s.insn;
    sets_targets = s.sets_targets;
    at = at_alike w.proc (places_of l.homes) (s.insn ∷ w.rest.insns) w.rest.end w.env (cells l (record { regs = regs; mem = mem })) (cells l (record { regs = regs; mem = mem' })) (λ u lt. cell_home w.proc l (record { regs = regs; mem = mem' }) u s.laid lt ∙ (homes_same w.proc l (record { regs = regs; mem = mem }) (record { regs = regs; mem = mem' }) (home_of l u) (s.laid.homes u lt) s.laid refl (λ h k. refl) (λ a lo hi. e a (omega arith) (omega arith)) ∙ sym (cell_home w.proc l (record { regs = regs; mem = mem }) u s.laid lt))) s.at;
    few = s.few;
    tail = s.tail;
    code = s.code;
    frame = frame_moved w.proc l (record { regs = regs; mem = mem }) (record { regs = regs; mem = mem' }) (Suspended ws mem) (Suspended ws mem') s.laid refl (λ h k n. refl) (λ a lo hi. e a (omega arith) (omega arith)) (λ r u t. apart ws mem mem' r (λ a lo hi. e a (omega arith) hi) t) s.frame;
  })

  -- what holds between the instructions of a procedure, besides what its homes hold
  pub record Body (l : Layout) (w : World) (stack : List B.Waiting) (d : Data) : Type 0 where
    pub memory : (a : ℕ) → IsOwn (length q.image) g a → d.mem a ≡ w.memory a
    pub bytes : AreBytes d.mem
    pub zero : d.regs 0 ≡ 0
    pub base : d.regs 3 ≡ floor + 8192 - first_bytes_taken
    pub low : floor ≤ d.regs 2
    pub aligned : d.regs 2 % 8 ≡ 0
    pub small : Small d.regs
    pub frame : Frame l d (Suspended stack d.mem)

  -- the frames end where the objects begin
  pub spans : (l : Layout) (w : World) (stack : List B.Waiting) (d : Data) → Body l w stack d → d.regs 2 + l.size + sizes stack ≡ top
  spans l w stack d b =
      let e = depth stack d.mem b.frame.caller b.frame.rest in
      let up = b.frame.above in
      omega arith
