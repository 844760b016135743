-- The image of a program follows its blocks.
use Rattle.std.proofs.Common.{◌≡◌, ℕ, zero, suc, ◌+◌, ◌-◌, ◌^◌, ◌<◌, ◌≤◌, ◌⊎◌, inl, inr, Bool, true, false, cond, List, [], ◌∷◌, ◌++◌, length, map, Some, refl, sym, ap, ◌∙◌, subst, arith, length-append}
use Rattle.std.specs.Prelude.{slice_get, slice_index, nat_eq, nat_lt, nat_le, not, ◌&&◌, replicate}
use Rattle.std.proofs.lemmas.Bool.{cases_lt}
use Rattle.std.proofs.lemmas.Bool.Decides.{nat_tests}
use Rattle.std.proofs.lemmas.List.{length-replicate, get_or_append_left}
use Rattle.std.proofs.Math.Seq.{get_or-append_right}
use Rattle.behaviour.specs.Follows.{Follows}
use Rattle.jf_base.specs.declared.place.Limits.{Limits}
use Rattle.jf_base.specs.Limits.{AreLimits}
use Rattle.program_image.specs.declared.Image.{Image}
use Rattle.rv_assemble.specs.declared.unit.AsmLine.{AsmLine}
use Rattle.rv_assemble.specs.declared.unit.AsmUnit.{AsmUnit}
use Rattle.rv_assemble.specs.declared.object.ObjUnit.{ObjUnit}
use Rattle.linker.specs.Layout.{code_size}
use Rattle.linker.specs.Linked.{base}
use Rattle.rv_machine.specs.Loaded as V
use Rattle.rv_machine.specs.Loaded.{loaded, first_registers, memory_size}
use Rattle.rv_machine.specs.Exec.{Run, start}
use Rattle.image_run.specs.Behaviour.{image_behaviour}
use Rattle.assembled_run.specs.Program.{AreLinked, UnitAt}
use Rattle.assembled_run.proofs.Laws as A
use Rattle.flat_ir.specs.declared.program.Fix.{Fix}
use Rattle.flat_ir.specs.declared.program.Target.{Target}
use Rattle.flat_ir.specs.declared.program.Target.TheVariants as T
use Rattle.flat_ir.specs.Bytes.{Bytes, put}
use Rattle.flat_ir.specs.Placement as P
use Rattle.flat_ir.specs.Placement.{Placement, heap_end, address_of, fixed, image_bytes, first_bytes}
use Rattle.flat_ir.proofs.Framing.{put_apart}
use Rattle.flatten.specs.declared.blocks.BlockProc.{BlockProc}
use Rattle.flatten.specs.declared.blocks.BlockProgram.{BlockProgram}
use Rattle.flatten.specs.Blocks.{blocks}
use Rattle.block_homes.specs.declared.homes.Assignment.{Assignment}
use Rattle.block_homes.specs.Held.{homes_in}
use Rattle.emitted_code.specs.Frames.{Layout, layout_of, is_charged}
use Rattle.emitted_code.specs.Code.{rest_code, limit_code, proc_lines}
use Rattle.emitted_code.specs.Units.{program_units, proc_unit, target_fix, named_fix, start_lines, first_size}
use Rattle.emitted_code.specs.Room.{IsProc, CanEmit}
use Rattle.emitted_code.specs.Placed.{is_free, is_alone, placed, pace, AllBytes, HoldsImage}
use Rattle.emitted_code.proofs.Data.{Data}
use Rattle.emitted_code.proofs.Bridge.{From, here}
use Rattle.emitted_code.proofs.Keeps as K
use Rattle.emitted_code.proofs.Labels.{behind, tail_at, Stood, all_stood}
use Rattle.emitted_code.proofs.Layouts.{laid}
use Rattle.emitted_code.proofs.Relate.{IsOwn}
use Rattle.emitted_code.proofs.States.{Given}
use Rattle.emitted_code.proofs.Whole.{Begun, image_follows}
use Rattle.emitted_code.proofs.Program as Q

pub bytes_index : (bs : List ℕ) (i : ℕ) → AllBytes bs → slice_index bs i < 256
bytes_index [] i h = omega arith
bytes_index (b ∷ bs) zero h = h.0
bytes_index (b ∷ bs) (suc i) h = bytes_index bs i h.1

zeros_index : (n i : ℕ) → slice_index (replicate {A = ℕ} n 0) i ≡ 0
zeros_index zero i = refl
zeros_index (suc n) zero = refl
zeros_index (suc n) (suc i) = zeros_index n i

-- what stands behind the bytes of an image
padded_index : (bs : List ℕ) (n i : ℕ) → length bs ≤ i → slice_index (bs ++ replicate n 0) i ≡ 0
padded_index bs n i le = get_or-append_right bs (replicate n 0) i 0 le ∙ zeros_index n (i - length bs)

padded_bytes : (bs : List ℕ) (n i : ℕ) → AllBytes bs → slice_index (bs ++ replicate n 0) i < 256
padded_bytes bs n i h = go (cases_lt i (length bs))
  where
    go : (i < length bs) ⊎ (length bs ≤ i) → slice_index (bs ++ replicate n 0) i < 256
    go (inl l) = subst (λ v. v < 256) (sym (get_or_append_left bs (replicate n 0) 0 i l)) (bytes_index bs i h)
    go (inr l) = subst (λ v. v < 256) (sym (padded_index bs n i l)) (omega arith)

-- small numbers in a list
abbrev AllSmall : List ℕ → Type 0
AllSmall [] = Unit {0}
AllSmall (x ∷ xs) = (x < 2 ^ 64) × AllSmall xs

small_index : (xs : List ℕ) (i : ℕ) → AllSmall xs → slice_index xs i < 2 ^ 64
small_index [] i h = omega arith
small_index (x ∷ xs) zero h = h.0
small_index (x ∷ xs) (suc i) h = small_index xs i h.1

small_zeros : (n : ℕ) → AllSmall (replicate n 0)
small_zeros zero = tt
small_zeros (suc n) = (omega arith, small_zeros n)

-- fixes change nothing elsewhere
abbrev FixesIn : ℕ → List Fix → Type 0
FixesIn n [] = Unit {0}
FixesIn n (f ∷ fs) = (f.at + 8 ≤ n) × FixesIn n fs

fixed_outside : (g : Placement) (fs : List Fix) (n : ℕ) (m : Bytes) (a : ℕ) → FixesIn n fs → (a < g.image) ⊎ (g.image + n ≤ a) → fixed g fs m a ≡ m a
fixed_outside g [] n m a h o = refl
fixed_outside g (f ∷ fs) n m a h o = (let h0 = h.0 in fixed_outside g fs n (put 8 m (g.image + f.at) (address_of g f.target)) a h.1 o ∙ put_apart 8 m (g.image + f.at) (address_of g f.target) a (sides o))
  where
    sides : (a < g.image) ⊎ (g.image + n ≤ a) → (g.image + f.at + 8 ≤ a) ⊎ (a + 1 ≤ g.image + f.at)
    sides (inl l) = inr (omega arith)
    sides (inr l) = inl (let h0 = h.0 in omega arith)

fixes_in : (n : ℕ) (fs : List Fix) → ((k : ℕ) (f : Fix) → slice_get fs k ≡ Some f → f.at + 8 ≤ n) → FixesIn n fs
fixes_in n [] h = tt
fixes_in n (f ∷ fs) h = (h 0 f refl, fixes_in n fs (λ k x e. h (suc k) x e))

pub mapped_get : (fs : List Fix) (k : ℕ) (f : Fix) → slice_get fs k ≡ Some f → slice_get (map named_fix fs) k ≡ Some (named_fix f)
mapped_get [] k f e = absurd (cc)
mapped_get (x ∷ fs) zero f e = (let u : x ≡ f = cc in ap (λ y. Some (named_fix y)) u)
mapped_get (x ∷ fs) (suc k) f e = mapped_get fs k f e

pub named_at : (f : Fix) → (named_fix f).at ≡ f.at
named_at f = by f.target
  where
    by : (t : Target) → (target_fix f.at t).at ≡ f.at
    by (T.Proc p) = refl
    by (T.Image n) = refl

module _ (q : BlockProgram) (hs : List Assignment) (os : List ObjUnit) (image : Image) (made : AreLinked (program_units q hs) os image) (can : CanEmit q hs) (limits : Limits) (ranges : AreLimits limits) where
  us : List AsmUnit
  us = program_units q hs

  abbrev g : Placement
  g = placed q os limits

  abbrev lo : ℕ
  lo = base + code_size os

  abbrev hi : ℕ
  hi = heap_end (length q.image) (placed q os limits)

  abbrev bot : 65536 ≤ base + code_size os
  bot = Q.bottom' q hs os image made can limits ranges

  abbrev cod : 65536 + image.code_len ≤ base + code_size os
  cod = Q.code_end' q hs os image made can limits ranges

  abbrev bou : heap_end (length q.image) (placed q os limits) ≤ 2 ^ 63
  bou = Q.bounded' q hs os image made can limits ranges

  abbrev On : ℕ → List AsmLine → Data → Run → Type 0
  On = K.On (program_units q hs) os image made lo hi bot cod bou

  abbrev Addr : ℕ → List AsmLine → ℕ → Type 0
  Addr = K.Addr (program_units q hs) os image made lo hi bot cod bou

  abbrev Labelled : ℕ → ℕ → List AsmLine → Type 0
  Labelled = K.Labelled (program_units q hs) os image made lo hi bot cod bou

  abbrev lay : ℕ → BlockProc → Layout
  lay i f = layout_of f (homes_in (slice_get hs i))

  some_unit : (a b : AsmUnit) → Some a ≡ Some b → a ≡ b
  some_unit a b e = cc

  -- what stands behind a label of a procedure
  labelled : (i : ℕ) (f : BlockProc) → IsProc q i f → (b : ℕ) (to : List AsmLine) → ((t : List AsmLine) → Stood (lay i f) f b t → t ≡ to) → Labelled i b to
  labelled i f ip b to h = record {
    stands = λ u eu m em. (let e = some_unit u (proc_unit i f (slice_get hs i)) (sym eu ∙ Q.unit_proc q hs os image made i f ip) in
        let ls = ap (λ (z : AsmUnit). z.lines) e in
        let t = behind (Stood (lay i f) f) (proc_lines (lay i f) f) m b (all_stood (lay i f) f) (sym (ap (λ (xs : List AsmLine). slice_get xs m) ls) ∙ em) in
        let n : suc m ≡ m + 1 = omega arith in
        subst (λ (xs : List AsmLine). From xs (m + 1) to) (sym ls) (subst (λ k. From (proc_lines (lay i f) f) k to) n (subst (λ z. From (proc_lines (lay i f) f) (suc m) z) (h t.to t.is) t.from)));
  }

  alone_is : (i : ℕ) (f : BlockProc) → IsProc q i f → i ≡ q.entry → is_charged f ≡ false → is_alone q i ≡ true
  alone_is i f ip e c =
      let t : nat_eq i q.entry ≡ true = grind (arith, nat_tests) in
      ap (λ b. b && is_free (slice_get q.procs i)) t ∙ (ap is_free ip ∙ ap not c)

  alone_not : (i : ℕ) (f : BlockProc) → IsProc q i f → (is_charged f ≡ true) ⊎ ¬ (i ≡ q.entry) → is_alone q i ≡ false
  alone_not i f ip (inl c) = ap (λ o. nat_eq i q.entry && is_free o) ip ∙ (ap (λ b. nat_eq i q.entry && not b) c ∙ and_false (nat_eq i q.entry))
    where
      and_false : (b : Bool) → (b && false) ≡ false
      and_false true = refl
      and_false false = refl
  alone_not i f ip (inr n) = (let t : nat_eq i q.entry ≡ false = grind (arith, nat_tests) in ap (λ b. b && is_free (slice_get q.procs i)) t)

  given : Given q hs g On Addr Labelled
  given = record {
    can = can;
    laws = K.laws (program_units q hs) os image made lo hi bot cod bou q hs g (λ p f ip. Q.proc_unit_at q hs os image made can limits ranges p f ip) (Q.image_unit_at q hs os image made can limits ranges) refl refl;
    bounded = bou;
    laid = λ i f ip. laid q hs can i f ip;
    blocks = λ i f ip b k eb. record { tail = tail_at (lay i f) f b; stands = labelled i f ip b (rest_code (lay i f) k.insns k.end (tail_at (lay i f) f b)) (λ t s. s.block k eb) };
    limit = λ i f ip c. record { tail = []; stands = labelled i f ip (length f.blocks) (limit_code 0 []) (λ t s. s.limit refl) };
    alone = λ i f ip e c. (let z = Q.alone_place q hs os image made can limits ranges i (alone_is i f ip e c) in omega arith);
    near = λ i f ip o. (let z = Q.proc_place q hs os image made can limits ranges i (alone_not i f ip o) in let lt = Q.proc_small q hs os image made can limits ranges i f ip in omega arith);
    K = pace q;
    dear = omega arith;
    cost = λ i f ip. (let m = Q.params_most q.procs i f ip in omega arith);
  }

  abbrev count : ℕ
  count = length q.procs

  abbrev image_at : UnitAt (program_units q hs) os count
  image_at = Q.image_at q hs os image made can limits ranges

  length_is : length image.bytes ≡ code_size os + length q.image
  length_is = Q.image_length q hs os image made can limits ranges

  abbrev Holds : Type 0
  Holds = HoldsImage q os image limits

  -- the machine's registers and memory at the start
  abbrev d0 : Data
  d0 = record { regs = λ r. slice_index (loaded image limits).registers r; mem = λ a. slice_index (loaded image limits).memory (a - 65536) }

  fixes_fit : FixesIn (length q.image) q.fixes
  fixes_fit = fixes_in (length q.image) q.fixes each
    where
      each : (k : ℕ) (f : Fix) → slice_get q.fixes k ≡ Some f → f.at + 8 ≤ length q.image
      each k f e =
          let u = Q.image_is q hs os image made can limits ranges in
          let p = made.assembled.proper count image_at.unit image_at.is_unit in
          let ge : slice_get image_at.unit.fixes k ≡ Some (named_fix f) = ap (λ (z : AsmUnit). slice_get z.fixes k) u ∙ mapped_get q.fixes k f e in
          let h = p.fixes k (named_fix f) ge in
          let n = named_at f in
          let l = ap (λ (z : AsmUnit). length z.image) u in
          omega arith

  elsewhere : (a : ℕ) → (a < base + code_size os) ⊎ (base + code_size os + length q.image ≤ a) → first_bytes (placed q os limits) q.image q.fixes a ≡ 0
  elsewhere a o = fixed_outside (placed q os limits) q.fixes (length q.image) (image_bytes (placed q os limits) q.image) a fixes_fit o ∙ ap (λ b. cond b (slice_index q.image (a - (base + code_size os))) 0) (outside o)
    where
      outside : (a < base + code_size os) ⊎ (base + code_size os + length q.image ≤ a) → (nat_le (base + code_size os) a && nat_lt a (base + code_size os + length q.image)) ≡ false
      outside (inl l) = grind (arith, nat_tests)
      outside (inr l) = grind (arith, nat_tests)

  memory_is : Holds → (a : ℕ) → IsOwn (length q.image) g a → slice_index (image.bytes ++ replicate (memory_size image limits - length image.bytes) 0) (a - 65536) ≡ first_bytes (placed q os limits) q.image q.fixes a
  memory_is holds a (inl o) =
      let o0 = o.0 in
      let o1 = o.1 in
      let n = length_is in
      let j = a - (base + code_size os) in
      let e : a - 65536 ≡ code_size os + j = omega arith in
      let t : base + code_size os + j ≡ a = omega arith in
      ap (λ k. slice_index (image.bytes ++ replicate (memory_size image limits - length image.bytes) 0) k) e
      ∙ (get_or_append_left image.bytes (replicate (memory_size image limits - length image.bytes) 0) 0 (code_size os + j) (omega arith) ∙ (holds j (omega arith) ∙ ap (λ k. first_bytes (placed q os limits) q.image q.fixes k) t))
  memory_is holds a (inr o) =
      let o0 = o.0 in
      let n = length_is in
      padded_index image.bytes (memory_size image limits - length image.bytes) (a - 65536) (omega arith) ∙ sym (elsewhere a (inr (omega arith)))

  long : 65536 + length (image.bytes ++ replicate {A = ℕ} (memory_size image limits - length image.bytes) 0) ≡ heap_end (length q.image) (placed q os limits)
  long =
      let n = length_is in
      let whole = made.linked.code_len in
      omega (arith, length-append image.bytes (replicate {A = ℕ} (memory_size image limits - length image.bytes) 0), length-replicate {A = ℕ} (memory_size image limits - length image.bytes) 0)

  objects_same : V.objects_at image limits ≡ P.objects_at (length q.image) (placed q os limits)
  objects_same = let n = length_is in omega arith

  firsts : AllSmall (first_registers image limits)
  firsts =
      let n = length_is in
      let s = made.small in
      let f = ranges.frames.most in
      let o = ranges.objects.most in
      let h = ranges.heap.most in
      (omega arith, (omega arith, (omega arith, (omega arith, (omega arith, (omega arith, (omega arith, (omega arith, (omega arith, (omega arith, (omega arith, (omega arith, (omega arith, (omega arith, (omega arith, small_zeros 17)))))))))))))))

  begun : (input : List ℕ) → AllBytes input → AllBytes image.bytes → Holds → Begun q hs g On Addr Labelled given input count d0 (start (loaded image limits) input)
  unfolding loaded
  begun input fresh bytes holds =
      let u = Q.image_is q hs os image made can limits ranges in
      let ls = ap (λ (z : AsmUnit). z.lines) u in
      let c = Q.image_code q hs os image made can limits ranges in
      let os' = objects_same in
      let n = length_is in
      record {
        on = record {
          unit = image_at;
          line = 0;
          rest = subst (λ (xs : List AsmLine). From xs 0 (start_lines (first_size (slice_get q.procs q.entry)) q.entry)) (sym ls) (here (start_lines (first_size (slice_get q.procs q.entry)) q.entry));
          at = A.begins (program_units q hs) os image made count image_at (ap (λ (z : AsmUnit). z.name) u) (omega arith) limits;
          like = record {
            regs = λ r lt. refl;
            mem = λ p lt. (let e : p ≡ 65536 + p - 65536 = omega arith in ap (λ k. slice_index (image.bytes ++ replicate (memory_size image limits - length image.bytes) 0) k) e);
            long = long;
            count = refl;
          };
          bytes = λ a. padded_bytes image.bytes (memory_size image limits - length image.bytes) (a - 65536) bytes;
        };
        told = record { bytes = fresh; left = refl; taken = refl; output = refl };
        memory = λ a o. memory_is holds a o;
        bytes = λ a. padded_bytes image.bytes (memory_size image limits - length image.bytes) (a - 65536) bytes;
        zero = refl;
        sp = objects_same;
        aligned = (let w = ranges.frames.whole in omega arith);
        frames = omega arith;
        small = λ r ne. small_index (first_registers image limits) r firsts;
        args = λ j lt. arg j lt;
      }
    where
      arg : (j : ℕ) → j < 5 → slice_index (first_registers image limits) (10 + j) ≡ slice_index (P.objects_at (length q.image) (placed q os limits) ∷ limits.objects ∷ P.heap_at (length q.image) (placed q os limits) ∷ limits.heap ∷ P.frames_at (length q.image) (placed q os limits) ∷ []) j
      arg zero lt = objects_same
      arg (suc zero) lt = refl
      arg (suc (suc zero)) lt = (let n = length_is in omega arith)
      arg (suc (suc (suc zero))) lt = refl
      arg (suc (suc (suc (suc zero)))) lt = (let n = length_is in omega arith)
      arg (suc (suc (suc (suc (suc j))))) lt = absurd (omega arith)

  pub follows_blocks : (input : List ℕ) → AllBytes input → AllBytes image.bytes → Holds → Follows (pace q) (image_behaviour image limits input) (blocks q (placed q os limits) input)
  unfolding given
  follows_blocks input fresh bytes holds = image_follows q hs g On Addr Labelled given input count d0 (start (loaded image limits) input) (begun input fresh bytes holds)
