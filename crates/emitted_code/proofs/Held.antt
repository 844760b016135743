-- The bytes of a program's image, linked.
use Rattle.std.proofs.Common.{◌≡◌, ◌≢◌, ℕ, zero, suc, ◌+◌, ◌-◌, ◌/◌, ◌%◌, ◌^◌, ◌<◌, ◌≤◌, ◌⊎◌, inl, inr, Bool, true, false, cond, List, [], ◌∷◌, ◌++◌, length, map, take, Option, Some, None, refl, sym, ap, ◌∙◌, subst, arith, length-append}
use Rattle.std.specs.Prelude.{slice_get, slice_index, nat_eq, nat_lt, nat_le, not, ◌&&◌, if◌then◌else◌}
use Rattle.std.specs.Int.{byte_at}
use Rattle.std.proofs.lemmas.Bool.{cases_lt}
use Rattle.std.proofs.lemmas.Bool.Decides.{nat_tests}
use Rattle.std.proofs.lemmas.Option.{slice_get_within}
use Rattle.std.proofs.Math.Seq.{get_or-append_right}
use Rattle.jf_base.specs.Numbers.{number_low_first}
use Rattle.jf_base.specs.declared.place.Limits.{Limits}
use Rattle.jf_base.specs.Limits.{AreLimits}
use Rattle.program_image.specs.declared.Image.{Image}
use Rattle.rv_assemble.specs.declared.unit.AsmUnit.{AsmUnit}
use Rattle.rv_assemble.specs.declared.unit.NamedFix.{NamedFix}
use Rattle.rv_assemble.specs.declared.object.ObjUnit.{ObjUnit}
use Rattle.rv_assemble.specs.declared.object.Relocation.{Relocation}
use Rattle.linker.specs.Layout.{codes, images, code_size, laid, zeros, offset_of}
use Rattle.linker.specs.Linked.{base, IsUntouched}
use Rattle.assembled_run.specs.Program.{AreLinked, UnitAt, line_address, name_address}
use Rattle.assembled_run.proofs.Linkable.{unit_at}
use Rattle.assembled_run.proofs.Asked.{Request, OfFix, origin, request_within}
use Rattle.assembled_run.proofs.Standing.{code_fits, offset_code}
use Rattle.assembled_run.proofs.Laws.{fix_holds}
use Rattle.flat_ir.specs.declared.program.Fix.{Fix}
use Rattle.flat_ir.specs.declared.program.Target.{Target}
use Rattle.flat_ir.specs.declared.program.Target.TheVariants as T
use Rattle.flat_ir.specs.Bytes.{Bytes, put}
use Rattle.flat_ir.specs.Placement.{Placement, address_of, fixed, image_bytes, first_bytes}
use Rattle.flat_ir.proofs.Framing.{put_apart}
use Rattle.flatten.specs.declared.blocks.BlockProc.{BlockProc}
use Rattle.flatten.specs.declared.blocks.BlockProgram.{BlockProgram}
use Rattle.block_homes.specs.declared.homes.Assignment.{Assignment}
use Rattle.emitted_code.specs.Frames.{is_charged}
use Rattle.emitted_code.specs.Units.{program_units, proc_unit, image_unit, target_fix, named_fix}
use Rattle.emitted_code.specs.Room.{IsProc, CanEmit, TargetFits, AimsElsewhere}
use Rattle.emitted_code.specs.Placed.{is_free, is_alone, placed, AllBytes, HoldsImage}
use Rattle.emitted_code.proofs.Data.{Compared, same, other, compared}
use Rattle.emitted_code.proofs.MachineMemory.{put_byte, byte_next}
use Rattle.emitted_code.proofs.Follow.{mapped_get, named_at, bytes_index}
use Rattle.emitted_code.proofs.Program as Q

-- the bytes of a number
digit : (n p k v : ℕ) (bs : List ℕ) → AllBytes bs → number_low_first p n bs ≡ v → k < n → slice_index bs (p + k) ≡ byte_at k v
digit zero p k v bs h e lt = absurd (omega arith)
digit (suc n) p zero v bs h e lt =
    let b = bytes_index bs p h in
    let t : p + 0 ≡ p = omega arith in
    let s : slice_index bs p ≡ v % 256 = omega arith in
    ap (λ z. slice_index bs z) t ∙ s
digit (suc n) p (suc k) v bs h e lt =
    let b = bytes_index bs p h in
    let t : p + suc k ≡ suc p + k = omega arith in
    let r : number_low_first (suc p) n bs ≡ v / 256 = omega arith in
    ap (λ z. slice_index bs z) t ∙ (digit n (suc p) k (v / 256) bs h r (omega arith) ∙ byte_next k v)

-- a fix has the byte, or none has it
abbrev Covers : ℕ → Fix → Type 0
Covers j f = (f.at ≤ j) × (j < f.at + 8)

data Found (j : ℕ) (fs : List Fix) : Type 0 where
  by_fix : (k : ℕ) (f : Fix) → slice_get fs k ≡ Some f → Covers j f → Found j fs
  by_none : ((k : ℕ) (f : Fix) → slice_get fs k ≡ Some f → ¬ (Covers j f)) → Found j fs

found : (j : ℕ) (fs : List Fix) → Found j fs
found j [] = by_none (λ k f e c. (absurd (cc)))
found j (f ∷ fs) = go (cases_lt j f.at) (cases_lt j (f.at + 8)) (found j fs)
  where
    go : (j < f.at) ⊎ (f.at ≤ j) → (j < f.at + 8) ⊎ (f.at + 8 ≤ j) → Found j fs → Found j (f ∷ fs)
    go (inr a) (inl b) r = by_fix 0 f refl (a, b)
    go a b (by_fix k x e c) = by_fix (suc k) x e c
    go (inl a) b (by_none n) = by_none (λ k x e c. none k x e c)
      where
        none : (k : ℕ) (x : Fix) → slice_get (f ∷ fs) k ≡ Some x → Covers j x → ⊥
        none zero x e c = (let u : f ≡ x = cc in let t : f.at ≡ x.at = ap (λ (y : Fix). y.at) u in let c0 = c.0 in absurd (omega arith))
        none (suc k) x e c = n k x e c
    go (inr a) (inr b) (by_none n) = by_none (λ k x e c. none k x e c)
      where
        none : (k : ℕ) (x : Fix) → slice_get (f ∷ fs) k ≡ Some x → Covers j x → ⊥
        none zero x e c = (let u : f ≡ x = cc in let t : f.at ≡ x.at = ap (λ (y : Fix). y.at) u in let c1 = c.1 in absurd (omega arith))
        none (suc k) x e c = n k x e c

apart_of : (j : ℕ) (f : Fix) (A : ℕ) → ¬ (Covers j f) → (A + f.at + 8 ≤ A + j) ⊎ (A + j + 1 ≤ A + f.at)
apart_of j f A n = go (cases_lt j f.at) (cases_lt j (f.at + 8))
  where
    go : (j < f.at) ⊎ (f.at ≤ j) → (j < f.at + 8) ⊎ (f.at + 8 ≤ j) → (A + f.at + 8 ≤ A + j) ⊎ (A + j + 1 ≤ A + f.at)
    go (inl a) b = inr (omega arith)
    go (inr a) (inr b) = inl (omega arith)
    go (inr a) (inl b) = absurd (n (a, b))

missed : (g : Placement) (fs : List Fix) (m : Bytes) (j : ℕ) → ((k : ℕ) (f : Fix) → slice_get fs k ≡ Some f → ¬ (Covers j f)) → fixed g fs m (g.image + j) ≡ m (g.image + j)
missed g [] m j n = refl
missed g (f ∷ fs) m j n = missed g fs (put 8 m (g.image + f.at) (address_of g f.target)) j (λ k x e. n (suc k) x e) ∙ put_apart 8 m (g.image + f.at) (address_of g f.target) (g.image + j) (apart_of j f g.image (n 0 f refl))

hit : (g : Placement) (fs : List Fix) (m : Bytes) (j k : ℕ) (f : Fix) → slice_get fs k ≡ Some f → Covers j f → ((i : ℕ) (x : Fix) → slice_get fs i ≡ Some x → k < i → ¬ (Covers j x)) → fixed g fs m (g.image + j) ≡ byte_at (j - f.at) (address_of g f.target)
hit g [] m j k f e c n = absurd (cc)
hit g (y ∷ fs) m j zero f e c n =
    let u : y ≡ f = cc in
    let t : y.at ≡ f.at = ap (λ (z : Fix). z.at) u in
    let c0 = c.0 in
    let c1 = c.1 in
    let i : g.image + j ≡ g.image + y.at + (j - y.at) = omega arith in
    missed g fs (put 8 m (g.image + y.at) (address_of g y.target)) j (λ k x e. n (suc k) x e (omega arith))
    ∙ (ap (λ z. put 8 m (g.image + y.at) (address_of g y.target) z) i ∙ (put_byte 8 m (g.image + y.at) (address_of g y.target) (j - y.at) (omega arith) ∙ ap (λ (z : Fix). byte_at (j - z.at) (address_of g z.target)) u))
hit g (y ∷ fs) m j (suc k) f e c n = hit g fs (put 8 m (g.image + y.at) (address_of g y.target)) j k f e c (λ i x ex lt. n (suc i) x ex (omega arith))

unmapped : (fs : List Fix) (k : ℕ) (x : NamedFix) → slice_get (map named_fix fs) k ≡ Some x → (f : Fix) × (slice_get fs k ≡ Some f) × (x ≡ named_fix f)
unmapped [] k x e = absurd (cc)
unmapped (f ∷ fs) zero x e = (f, refl, cc)
unmapped (f ∷ fs) (suc k) x e = unmapped fs k x e

zeros_length : (n : ℕ) → length (zeros n) ≡ n
zeros_length zero = refl
zeros_length (suc n) = omega (arith, zeros_length n)

module _ (q : BlockProgram) (hs : List Assignment) (os : List ObjUnit) (image : Image) (made : AreLinked (program_units q hs) os image) (can : CanEmit q hs) (limits : Limits) (ranges : AreLimits limits) (bytes : AllBytes image.bytes) where
  abbrev us : List AsmUnit
  us = program_units q hs

  abbrev g : Placement
  g = placed q os limits

  abbrev count : ℕ
  count = length q.procs

  abbrev w : UnitAt (program_units q hs) os count
  w = Q.image_at q hs os image made can limits ranges

  w_is : w.unit ≡ image_unit q
  w_is = Q.image_is q hs os image made can limits ranges

  fixes_are : (k : ℕ) (f : Fix) → slice_get q.fixes k ≡ Some f → slice_get w.unit.fixes k ≡ Some (named_fix f)
  fixes_are k f e = ap (λ (z : AsmUnit). slice_get z.fixes k) w_is ∙ mapped_get q.fixes k f e

  -- no byte belongs to two fixes
  only_one : (j i k : ℕ) (x f : Fix) → slice_get q.fixes i ≡ Some x → slice_get q.fixes k ≡ Some f → i ≢ k → Covers j x → Covers j f → ⊥
  only_one j i k x f ex ef ne cx cf =
      let p = made.assembled.proper count w.unit w.is_unit in
      let a = p.apart i k (named_fix x) (named_fix f) (fixes_are i x ex) (fixes_are k f ef) ne in
      let nx = named_at x in
      let nf = named_at f in
      let x0 = cx.0 in
      let x1 = cx.1 in
      let f0 = cf.0 in
      let f1 = cf.1 in
      go a
    where
      go : ((named_fix x).at + 8 ≤ (named_fix f).at) ⊎ ((named_fix f).at + 8 ≤ (named_fix x).at) → ⊥
      go (inl l) = (let nx = named_at x in let nf = named_at f in let x0 = cx.0 in let x1 = cx.1 in let f0 = cf.0 in let f1 = cf.1 in absurd (omega arith))
      go (inr l) = (let nx = named_at x in let nf = named_at f in let x0 = cx.0 in let x1 = cx.1 in let f0 = cf.0 in let f1 = cf.1 in absurd (omega arith))

  -- where a byte of the image lies
  place_of : (at : ℕ) → offset_of os count w.object (length w.object.code + at) ≡ code_size os + at
  place_of at =
      let t : nat_lt (length w.object.code + at) (length w.object.code) ≡ false = grind (arith, nat_tests) in
      let z = ap (λ (l : List ℕ). length l) (Q.all_images q hs os image made can limits ranges).1 in
      ap (λ b. if b then length (codes (take count os)) + (length w.object.code + at) else code_size os + length (images (take count os)) + (length w.object.code + at - length w.object.code)) t ∙ (omega arith)

  first_place : (p : ℕ) (c : BlockProc) (ic : IsProc q p c) → name_address (Q.proc_unit_at q hs os image made can limits ranges p c ic).unit 0 ≡ line_address (Q.proc_unit_at q hs os image made can limits ranges p c ic).unit 0
  first_place p c ic =
      let u = Q.proc_unit_at q hs os image made can limits ranges p c ic in
      let e = offset_code (program_units q hs) os image made p u.unit 0 u.some in
      let z = u.unit.assembled.begins in
      omega (arith, e, z)

  -- the address that a fix asks for
  target_is : (k : ℕ) (f : Fix) → slice_get q.fixes k ≡ Some f → number_low_first (code_size os + f.at) 8 image.bytes ≡ address_of (placed q os limits) f.target
  target_is k f e = by f.target refl
    where
      at_is : (named_fix f).at ≡ f.at
      at_is = named_at f

      there : code_size os + f.at ≡ offset_of os count w.object (length w.object.code + (named_fix f).at)
      there = sym (place_of f.at) ∙ ap (λ z. offset_of os count w.object (length w.object.code + z)) (sym at_is)

      by : (t : Target) → f.target ≡ t → number_low_first (code_size os + f.at) 8 image.bytes ≡ address_of (placed q os limits) f.target
      by (T.Image n) et =
          let fits : n ≤ length q.image = subst (λ z. TargetFits (length q.procs) (length q.image) z) et (can.fixes k f e) in
          let u = Q.image_unit_at q hs os image made can limits ranges in
          let nf : named_fix f ≡ target_fix f.at (T.Image n) = ap (λ z. target_fix f.at z) et in
          let h = fix_holds (program_units q hs) os image made count w k (named_fix f) (fixes_are k f e) count u.unit (u.named ∙ sym (ap (λ (z : NamedFix). z.name) nf)) in
          ap (λ z. number_low_first z 8 image.bytes) there ∙ (h ∙ (ap (λ (z : NamedFix). name_address u.unit z.offset) nf ∙ (u.address n fits ∙ sym (ap (λ z. address_of (placed q os limits) z) et))))
      by (T.Proc p) et = proc (slice_get q.procs p) refl
        where
          fits : p < length q.procs
          fits = subst (λ z. TargetFits (length q.procs) (length q.image) z) et (can.fixes k f e)

          nf : named_fix f ≡ target_fix f.at (T.Proc p)
          nf = ap (λ z. target_fix f.at z) et

          near : (c : BlockProc) → IsProc q p c → (placed q os limits).procs p < 2 ^ 64
          near c ic = go (is_charged c) refl (compared p q.entry)
            where
              near_by : is_alone q p ≡ false → (placed q os limits).procs p < 2 ^ 64
              near_by ea = (let z = Q.proc_place q hs os image made can limits ranges p ea in let lt = Q.proc_small q hs os image made can limits ranges p c ic in omega arith)

              and_false : (b : Bool) → (b && false) ≡ false
              and_false true = refl
              and_false false = refl

              go : (b : Bool) → is_charged c ≡ b → Compared p q.entry → (placed q os limits).procs p < 2 ^ 64
              go true ec cmp = near_by (ap (λ o. nat_eq p q.entry && is_free o) ic ∙ (ap (λ b. nat_eq p q.entry && not b) ec ∙ and_false (nat_eq p q.entry)))
              go false ec (other ne) = near_by (let t : nat_eq p q.entry ≡ false = grind (arith, nat_tests) in ap (λ b. b && is_free (slice_get q.procs p)) t)
              go false ec (same eq) = absurd (subst (λ z. AimsElsewhere q.entry z) et ((can.room.alone c (subst (λ z. IsProc q z c) eq ic) ec).fixes k f e) eq)

          proc : (o : Option BlockProc) → slice_get q.procs p ≡ o → number_low_first (code_size os + f.at) 8 image.bytes ≡ address_of (placed q os limits) f.target
          proc None eo = absurd (let h = Q.none_past q.procs p eo in let k = fits in omega arith)
          proc (Some c) ic =
              let u = Q.proc_unit_at q hs os image made can limits ranges p c ic in
              let h = fix_holds (program_units q hs) os image made count w k (named_fix f) (fixes_are k f e) p u.unit (u.named ∙ sym (ap (λ (z : NamedFix). z.name) nf)) in
              let a = u.address (near c ic) in
              ap (λ z. number_low_first z 8 image.bytes) there ∙ (h ∙ (ap (λ (z : NamedFix). name_address u.unit z.offset) nf ∙ (first_place p c ic ∙ (sym a ∙ sym (ap (λ z. address_of (placed q os limits) z) et)))))

  -- no relocation lies over a byte that no fix has
  untouched : (j : ℕ) → ((k : ℕ) (f : Fix) → slice_get q.fixes k ≡ Some f → ¬ (Covers j f)) → IsUntouched os (code_size os + j)
  untouched j n k m u r eu er = by (origin v.unit v.object v.assembled m r er')
    where
      klt : k < length us
      klt = (let a = slice_get_within os k u eu in let b = made.assembled.count in omega arith)

      v : UnitAt (program_units q hs) os k
      v = unit_at (program_units q hs) os made.assembled k klt

      same_object : (a b : ObjUnit) → Some a ≡ Some b → a ≡ b
      same_object a b e = cc

      vu : v.object ≡ u
      vu = same_object v.object u (sym v.is_object ∙ eu)

      er' : slice_get v.object.relocations m ≡ Some r
      er' = ap (λ (z : ObjUnit). slice_get z.relocations m) vu ∙ er

      len : length v.object.code ≡ length u.code
      len = ap (λ (z : ObjUnit). length z.code) vu

      Away : Type 0
      Away = (code_size os + j < offset_of os k u r.at) ⊎ (offset_of os k u r.at + 8 ≤ code_size os + j)

      some_unit : (a b : AsmUnit) → Some a ≡ Some b → a ≡ b
      some_unit a b e = cc

      fixed' : OfFix v.unit v.object r → Compared k count → Away
      fixed' h (same ek) =
          let vi : v.unit ≡ image_unit q = some_unit v.unit (image_unit q) (sym v.is_unit ∙ (ap (λ z. slice_get us z) ek ∙ Q.unit_image q hs os image made)) in
          let x = unmapped q.fixes h.index h.fix (sym (ap (λ (z : AsmUnit). slice_get z.fixes h.index) vi) ∙ h.stands) in
          let at = ap (λ (z : Relocation). z.at) (sym h.is) in
          let nx = ap (λ (z : NamedFix). z.at) x.2 ∙ named_at x.0 in
          let c = Q.image_code q hs os image made can limits ranges in
          let wl : length u.code ≡ length w.object.code = (let t : u ≡ w.object = same_object u w.object (sym eu ∙ (ap (λ z. slice_get os z) ek ∙ w.is_object)) in ap (λ (z : ObjUnit). length z.code) t) in
          let uw : u ≡ w.object = same_object u w.object (sym eu ∙ (ap (λ z. slice_get os z) ek ∙ w.is_object)) in
          let there : offset_of os k u r.at ≡ code_size os + x.0.at = ap (λ z. offset_of os z u r.at) ek ∙ (ap (λ (z : ObjUnit). offset_of os count z r.at) uw ∙ (ap (λ z. offset_of os count w.object z) (let l = len in omega arith) ∙ place_of x.0.at)) in
          away x.0.at there (apart_of j x.0 (code_size os) (n h.index x.0 x.1))
        where
          away : (at : ℕ) → offset_of os k u r.at ≡ code_size os + at → (code_size os + at + 8 ≤ code_size os + j) ⊎ (code_size os + j + 1 ≤ code_size os + at) → Away
          away at e (inl l) = inr (subst (λ z. z + 8 ≤ code_size os + j) (sym e) l)
          away at e (inr l) = inl (subst (λ z. code_size os + j < z) (sym e) (omega arith))
      fixed' h (other ne) = none (slice_get q.procs k) refl
        where
          none : (o : Option BlockProc) → slice_get q.procs k ≡ o → Away
          none None eo = absurd (let a = Q.none_past q.procs k eo in let b = Q.units q hs os image made in let c = klt in omega arith)
          none (Some f) ip =
              let e : v.unit ≡ proc_unit k f (slice_get hs k) = some_unit v.unit (proc_unit k f (slice_get hs k)) (sym v.is_unit ∙ Q.unit_proc q hs os image made k f ip) in
              let z : slice_get v.unit.fixes h.index ≡ None = ap (λ (y : AsmUnit). slice_get y.fixes h.index) e in
              absurd (let y = sym z ∙ h.stands in cc)

      by : Request v.unit v.object v.assembled.places r ⊎ OfFix v.unit v.object r → Away
      by (inl h) =
          let rw = request_within v.unit v.object v.assembled r h in
          let cf = code_fits (program_units q hs) os image made k v in
          let cl = made.linked.code_len in
          let l = len in
          let t : nat_lt r.at (length u.code) ≡ true = grind (arith, nat_tests) in
          let there : offset_of os k u r.at ≡ length (codes (take k os)) + r.at = ap (λ b. if b then length (codes (take k os)) + r.at else code_size os + length (images (take k os)) + (r.at - length u.code)) t in
          inr (omega arith)
      by (inr h) = fixed' h (compared k count)

  pub holds : HoldsImage q os image limits
  holds j lt = go (found j q.fixes)
    where
      go : Found j q.fixes → slice_index image.bytes (code_size os + j) ≡ first_bytes (placed q os limits) q.image q.fixes (base + code_size os + j)
      go (by_fix k f e c) =
          let c0 = c.0 in
          let c1 = c.1 in
          let t : code_size os + j ≡ code_size os + f.at + (j - f.at) = omega arith in
          let d = digit 8 (code_size os + f.at) (j - f.at) (address_of (placed q os limits) f.target) image.bytes bytes (target_is k f e) (omega arith) in
          ap (λ z. slice_index image.bytes z) t ∙ (d ∙ sym (hit (placed q os limits) q.fixes (image_bytes (placed q os limits) q.image) j k f e c (λ i x ex lt cx. only_one j i k x f ex e (λ z. omega arith) cx c)))
      go (by_none n) =
          let len = Q.image_length q hs os image made can limits ranges in
          let o = made.linked.others (code_size os + j) (omega arith) (untouched j n) in
          let im = (Q.all_images q hs os image made can limits ranges).0 ∙ Q.image_bytes_are q hs os image made can limits ranges in
          let front = codes os in
          let mid = zeros (code_size os - length (codes os)) in
          let fl : length (front ++ mid) ≡ code_size os = omega (arith, length-append front mid, zeros_length (code_size os - length (codes os))) in
          let e1 : code_size os + j - length (front ++ mid) ≡ j = omega arith in
          let laid_is : slice_index (laid os) (code_size os + j) ≡ slice_index q.image j = get_or-append_right (front ++ mid) (images os) (code_size os + j) 0 (omega arith) ∙ (ap (λ z. slice_index (images os) z) e1 ∙ ap (λ (xs : List ℕ). slice_index xs j) im) in
          let t : (nat_le (base + code_size os) (base + code_size os + j) && nat_lt (base + code_size os + j) (base + code_size os + length q.image)) ≡ true = grind (arith, nat_tests) in
          let k : base + code_size os + j - (base + code_size os) ≡ j = omega arith in
          o ∙ (laid_is ∙ sym (missed (placed q os limits) q.fixes (image_bytes (placed q os limits) q.image) j n ∙ (ap (λ b. cond b (slice_index q.image (base + code_size os + j - (base + code_size os))) 0) t ∙ ap (λ z. slice_index q.image z) k)))
