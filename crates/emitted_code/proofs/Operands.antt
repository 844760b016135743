-- Operands and results of one instruction.
use Rattle.std.proofs.Common.{◌≡◌, ℕ, ◌+◌, ◌^◌, ◌<◌, ◌≤◌, inl, inr, List, [], ◌∷◌, ◌++◌, length, refl, sym, ap, ◌∙◌, subst, arith}
use Rattle.flat_ir.specs.Bytes.{Bytes, put}
use Rattle.flat_ir.specs.Placement.{Placement, heap_end}
use Rattle.flat_ir.specs.Flat.{World}
use Rattle.flat_ir.proofs.Framing.{poke_same, poke_apart}
use Rattle.flatten.specs.declared.blocks.BlockProc.{BlockProc}
use Rattle.flatten.specs.declared.blocks.BlockProgram.{BlockProgram}
use Rattle.flatten.specs.Blocks as B
use Rattle.block_homes.specs.declared.homes.Home.{Home}
use Rattle.block_homes.specs.declared.homes.Home.TheVariants as H
use Rattle.block_homes.specs.declared.homes.Assignment.{Assignment}
use Rattle.block_homes.specs.Valid.{IsHome}
use Rattle.rv_assemble.specs.declared.unit.AsmLine.{AsmLine}
use Rattle.emitted_code.specs.Straight.{Straight, store_word}
use Rattle.emitted_code.specs.Frames.{Layout, slot_at}
use Rattle.emitted_code.specs.Code.{operand_register, fetch, result_register, settle}
use Rattle.emitted_code.specs.Room.{HasRoom}
use Rattle.emitted_code.proofs.Data.{Data, set, act, acts, acts_append, Reach, Safe, AreSafe, safe_append, Gets, Small, poke_small}
use Rattle.emitted_code.proofs.FrameWords.{puts_word}
use Rattle.emitted_code.proofs.Relate.{at_home, Laid, homes_same}
use Rattle.emitted_code.proofs.Values.{Fetched, IsApart, Wrote, apart_seven, fetched_stays, five, six, free_target, operand_apart, low, high, Is, reaches, scratched, fetches}

-- code that changes scratch registers alone
pub record Scratches (low high : ℕ) (d : Data) (xs : List Straight) : Type 0 where
  pub others : (k : ℕ) → IsApart k → (acts xs d).regs k ≡ d.regs k
  pub mem : (acts xs d).mem ≡ d.mem
  pub safe : AreSafe low high xs d
  pub small : Small d.regs → Small (acts xs d).regs

-- and that puts a number into a register
pub record Computes (low high rd v : ℕ) (d : Data) (xs : List Straight) : Type 0 where
  pub value : (acts xs d).regs rd ≡ v
  pub others : (k : ℕ) → ¬ (k ≡ rd) → IsApart k → (acts xs d).regs k ≡ d.regs k
  pub mem : (acts xs d).mem ≡ d.mem
  pub safe : AreSafe low high xs d
  pub small : Small d.regs → Small (acts xs d).regs

pub gets_computes : (low high rd v : ℕ) (d : Data) (xs : List Straight) → Gets low high rd v d xs → Computes low high rd v d xs
gets_computes lo hi rd v d xs x = record { value = x.value; others = λ k n a. x.others k n (apart_seven k a); mem = x.mem; safe = x.safe; small = x.small }

pub apart_not : (k t : ℕ) → IsApart k → (5 ≤ t) × (t ≤ 7) → ¬ (k ≡ t)
apart_not k t (inl a) b e = (let b0 = b.0 in omega arith)
apart_not k t (inr a) b e = (let b1 = b.1 in omega arith)

pub fetched_scratches : (low high t reg v : ℕ) (d : Data) (xs : List Straight) → (5 ≤ t) × (t ≤ 7) → Fetched low high t reg v d xs → Scratches low high d xs
fetched_scratches lo hi t reg v d xs b x = record { others = λ k a. x.others k (apart_not k t a b) (apart_seven k a); mem = x.mem; safe = x.safe; small = x.small }

pub scratches_append : (low high : ℕ) (d : Data) (xs ys : List Straight) → Scratches low high d xs → Scratches low high (acts xs d) ys → Scratches low high d (xs ++ ys)
scratches_append low high d xs ys a b =
    let s : acts ys (acts xs d) ≡ acts (xs ++ ys) d = sym (acts_append xs ys d) in
    record {
      others = λ k n. ap (λ (w : Data). w.regs k) (sym s) ∙ (b.others k n ∙ a.others k n);
      mem = ap (λ (w : Data). w.mem) (sym s) ∙ (b.mem ∙ a.mem);
      safe = safe_append low high xs ys d a.safe b.safe;
      small = λ h. subst (λ (w : Data). Small w.regs) s (b.small (a.small h));
    }

-- one last instruction that sets a register
pub computes_last : (low high rd v : ℕ) (d : Data) (xs : List Straight) (x : Straight) → Scratches low high d xs → act x (acts xs d) ≡ set (acts xs d) rd v → Safe low high x (acts xs d) → v < 2 ^ 64 → Computes low high rd v d (xs ++ x ∷ [])
computes_last low high rd v d xs x a e sf lt =
    let s : set (acts xs d) rd v ≡ acts (xs ++ x ∷ []) d = sym e ∙ sym (acts_append xs (x ∷ []) d) in
    record {
      value = ap (λ (w : Data). w.regs rd) (sym s) ∙ poke_same (acts xs d).regs rd v rd refl;
      others = λ k n p. ap (λ (w : Data). w.regs k) (sym s) ∙ (poke_apart (acts xs d).regs rd v k n ∙ a.others k p);
      mem = ap (λ (w : Data). w.mem) (sym s) ∙ a.mem;
      safe = safe_append low high xs (x ∷ []) d a.safe (sf, tt);
      small = λ h. subst (λ (w : Data). Small w.regs) s (poke_small (acts xs d).regs rd v (a.small h) lt);
    }

module _ (q : BlockProgram) (hs : List Assignment) (g : Placement) (room : HasRoom q) (Addr : ℕ → List AsmLine → ℕ → Type 0) (bounded : heap_end (length q.image) g ≤ 2 ^ 63) where
  abbrev lo : ℕ
  lo = low q hs g room Addr bounded

  abbrev hi : ℕ
  hi = high q hs g room Addr bounded

  abbrev It : Layout → World → List B.Waiting → Data → Type 0
  It l w stack d = Is q hs g room Addr bounded l w stack d

  -- what was computed goes to its home
  pub settles : (f : BlockProc) (l : Layout) (w : World) (stack : List B.Waiting) (d : Data) (h : Home) (v : ℕ) (ys : List Straight) → Laid f l → IsHome f.values h → It l w stack d → Computes lo hi (result_register h) v d ys
      → Wrote l h v d (acts (ys ++ settle l h) d) × AreSafe lo hi (ys ++ settle l h) d
  settles f l w stack d (H.Register r) v ys is ih b x =
      let s : acts ys d ≡ acts (ys ++ []) d = sym (acts_append ys [] d) in (
        record {
          to = (ap (λ (e : Data). e.regs r) (sym s) ∙ x.value, (λ k n a. ap (λ (e : Data). e.regs k) (sym s) ∙ x.others k n a), ap (λ (e : Data). e.mem) (sym s) ∙ x.mem);
          small = subst (λ (e : Data). Small e.regs) s (x.small b.small);
        },
        safe_append lo hi ys [] d x.safe tt,
      )
  settles f l w stack d (H.Slot k) v ys is ih b x =
      let fits = is.fits in
      let zs = store_word 5 (slot_at l k) in
      let d1 = acts ys d in
      let e0 : d1.regs 0 ≡ d.regs 0 = x.others 0 (λ z. omega arith) (inl (omega arith)) in
      let e2 : d1.regs 2 ≡ d.regs 2 = x.others 2 (λ z. omega arith) (inl (omega arith)) in
      let p = puts_word lo hi bounded 5 (slot_at l k) d1 (omega arith) (λ z. omega arith) (subst (λ a. Reach lo hi 8 (a + slot_at l k)) (sym e2) (reaches q hs g room Addr bounded l w stack d (slot_at l k) b (omega arith) (omega arith))) (e0 ∙ b.zero) in
      let s : acts zs d1 ≡ acts (ys ++ zs) d = sym (acts_append ys zs d) in (
        record {
          to = (
            (λ j a. ap (λ (e : Data). e.regs j) (sym s) ∙ (p.others j (apart_seven j a) ∙ x.others j (apart_not j 5 a (omega arith, omega arith)) a)),
            ap (λ (e : Data). e.mem) (sym s) ∙ (p.mem ∙ (ap (λ m. put 8 m (d1.regs 2 + slot_at l k) (d1.regs 5)) x.mem ∙ (ap (λ a. put 8 d.mem (a + slot_at l k) (d1.regs 5)) e2 ∙ ap (λ n. put 8 d.mem (d.regs 2 + slot_at l k) n) x.value))),
          );
          small = subst (λ (e : Data). Small e.regs) s (p.small (x.small b.small));
        },
        safe_append lo hi ys zs d x.safe p.safe,
      )

  -- two operands
  pub record Two (y z : Home) (u v : ℕ) (d : Data) (xs : List Straight) : Type 0 where
    pub left : (acts xs d).regs (operand_register y 5) ≡ u
    pub right : (acts xs d).regs (operand_register z 6) ≡ v
    pub scratches : Scratches lo hi d xs

  pub fetches_two : (f : BlockProc) (l : Layout) (w : World) (stack : List B.Waiting) (d : Data) (y z : Home) → Laid f l → IsHome f.values y → IsHome f.values z → It l w stack d → Two y z (at_home l d y) (at_home l d z) d (fetch l y 5 ++ fetch l z 6)
  fetches_two f l w stack d y z is iy iz b =
      let xs = fetch l y 5 in
      let ys = fetch l z 6 in
      let d1 = acts xs d in
      let a = fetches q hs g room Addr bounded f l w stack d 5 y is iy (free_target 5 five) b in
      let st = fetched_stays lo hi 5 (operand_register y 5) (at_home l d y) d xs five a b.small in
      let b1 = scratched q hs g room Addr bounded f l w stack d d1 is st a.mem b in
      let c = fetches q hs g room Addr bounded f l w stack d1 6 z is iz (free_target 6 six) b1 in
      let s : acts ys d1 ≡ acts (xs ++ ys) d = sym (acts_append xs ys d) in
      let same : at_home l d1 z ≡ at_home l d z = homes_same f l d d1 z iz is st.sp st.kept (λ k lo hi. ap (λ (m : Bytes). m k) a.mem) in
      record {
        left = ap (λ (e : Data). e.regs (operand_register y 5)) (sym s) ∙ (c.others (operand_register y 5) (operand_apart f.values 5 6 y iy (omega arith, omega arith) (λ e. omega arith)) (operand_apart f.values 5 7 y iy (omega arith, omega arith) (λ e. omega arith)) ∙ a.value);
        right = ap (λ (e : Data). e.regs (operand_register z 6)) (sym s) ∙ (c.value ∙ same);
        scratches = scratches_append lo hi d xs ys (fetched_scratches lo hi 5 (operand_register y 5) (at_home l d y) d xs (omega arith, omega arith) a) (fetched_scratches lo hi 6 (operand_register z 6) (at_home l d1 z) d1 ys (omega arith, omega arith) c);
      }
