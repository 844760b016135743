-- A program's units, linked: where its procedures and its image lie.
use Rattle.std.proofs.Common.{◌≡◌, ℕ, zero, suc, ◌+◌, ◌-◌, ◌^◌, ◌<◌, ◌≤◌, Bool, true, false, cond, List, [], ◌∷◌, ◌++◌, length, take, Option, Some, None, refl, sym, ap, ◌∙◌, subst, arith, append-nil, length-append}
use Rattle.std.specs.Prelude.{slice_get, nat_lt, if◌then◌else◌}
use Rattle.std.proofs.Math.Nat.{le-max_left, le-max_right}
use Rattle.std.proofs.lemmas.Bool.Decides.{nat_tests}
use Rattle.std.proofs.lemmas.Option.{slice_get_within}
use Rattle.jf_base.specs.declared.place.Limits.{Limits}
use Rattle.jf_base.specs.Limits.{AreLimits}
use Rattle.program_image.specs.declared.Image.{Image}
use Rattle.rv_assemble.specs.declared.unit.AsmLine.{AsmLine}
use Rattle.rv_assemble.specs.declared.unit.AsmLine.TheVariants.{Plain, Branch}
use Rattle.rv_assemble.specs.declared.unit.AsmUnit.{AsmUnit}
use Rattle.rv_assemble.specs.declared.object.ObjUnit.{ObjUnit}
use Rattle.rv_assemble.specs.Lines.{IsAssembled}
use Rattle.linker.specs.Layout.{codes, images, code_size, offset_of}
use Rattle.linker.specs.Linked.{base}
use Rattle.linker.proofs.Sites.{length-laid}
use Rattle.assembled_run.specs.Program.{AreLinked, UnitAt, line_address}
use Rattle.assembled_run.proofs.Linkable.{unit_at}
use Rattle.assembled_run.proofs.Follows.{within}
use Rattle.assembled_run.proofs.Standing.{code_len_small}
use Rattle.assembled_run.proofs.Laws.{plain_steps, are_in_code}
use Rattle.flat_ir.specs.Placement.{Placement, heap_end}
use Rattle.flatten.specs.declared.blocks.BlockProc.{BlockProc}
use Rattle.flatten.specs.declared.blocks.BlockProgram.{BlockProgram}
use Rattle.block_homes.specs.declared.homes.Assignment.{Assignment}
use Rattle.block_homes.specs.Held.{homes_in}
use Rattle.rv_isa.specs.declared.insn.Insn.TheVariants as M
use Rattle.flat_ir.specs.declared.program.Operation.TheVariants as O
use Rattle.emitted_code.specs.Straight.{Straight, Operate, insn_of, lines, load_number}
use Rattle.emitted_code.specs.Frames.{Layout, layout_of, is_charged}
use Rattle.emitted_code.specs.Code.{enter_code}
use Rattle.emitted_code.specs.Units.{proc_unit, proc_units, image_unit, program_units}
use Rattle.emitted_code.specs.Room.{IsProc, CanEmit}
use Rattle.emitted_code.specs.Placed.{is_alone, placed, most_params}
use Rattle.emitted_code.proofs.Constants.{number_few}
use Rattle.emitted_code.proofs.Keeps.{ProcUnit, ImageUnit}

units_length : (k : ℕ) (fs : List BlockProc) (hs : List Assignment) → length (proc_units k fs hs) ≡ length fs
units_length k [] hs = refl
units_length k (f ∷ fs) [] = omega (arith, units_length (k + 1) fs [])
units_length k (f ∷ fs) (a ∷ hs) = omega (arith, units_length (k + 1) fs hs)

units_get : (k : ℕ) (fs : List BlockProc) (hs : List Assignment) (p : ℕ) (f : BlockProc) → slice_get fs p ≡ Some f → slice_get (proc_units k fs hs) p ≡ Some (proc_unit (k + p) f (slice_get hs p))
units_get k [] hs p f e = absurd (cc)
units_get k (z ∷ fs) [] zero f e = (let t : k ≡ k + 0 = omega arith in let u : z ≡ f = cc in ap (λ g. Some (proc_unit k g None)) u ∙ ap (λ n. Some (proc_unit n f None)) t)
units_get k (z ∷ fs) (a ∷ hs) zero f e = (let t : k ≡ k + 0 = omega arith in let u : z ≡ f = cc in ap (λ g. Some (proc_unit k g (Some a))) u ∙ ap (λ n. Some (proc_unit n f (Some a))) t)
units_get k (z ∷ fs) [] (suc p) f e = (let t : k + 1 + p ≡ k + suc p = omega arith in units_get (k + 1) fs [] p f e ∙ ap (λ n. Some (proc_unit n f None)) t)
units_get k (z ∷ fs) (a ∷ hs) (suc p) f e = (let t : k + 1 + p ≡ k + suc p = omega arith in units_get (k + 1) fs hs p f e ∙ ap (λ n. Some (proc_unit n f (slice_get hs p))) t)

get_left : {A : Type 0} → (xs ys : List A) (i : ℕ) (x : A) → slice_get xs i ≡ Some x → slice_get (xs ++ ys) i ≡ Some x
get_left [] ys i x e = absurd (cc)
get_left (z ∷ xs) ys zero x e = e
get_left (z ∷ xs) ys (suc i) x e = get_left xs ys i x e

get_last : {A : Type 0} → (xs : List A) (y : A) → slice_get (xs ++ y ∷ []) (length xs) ≡ Some y
get_last [] y = refl
get_last (z ∷ xs) y = get_last xs y

some_unit : (a b : AsmUnit) → Some a ≡ Some b → a ≡ b
some_unit a b e = cc

-- an image behind others that have none
images_last : (os : List ObjUnit) (n : ℕ) (o : ObjUnit) → length os ≡ n + 1 → ((k : ℕ) (p : ObjUnit) → k < n → slice_get os k ≡ Some p → p.image ≡ []) → slice_get os n ≡ Some o → (images os ≡ o.image) × (images (take n os) ≡ [])
images_last [] n o len h e = absurd (omega arith)
images_last (x ∷ []) zero o len h e = (let t : x ≡ o = cc in append-nil x.image ∙ ap (λ (z : ObjUnit). z.image) t, refl)
images_last (x ∷ y ∷ os) zero o len h e = absurd (omega arith)
images_last (x ∷ os) (suc n) o len h e =
    let r = images_last os n o (omega arith) (λ k p lt g. h (suc k) p (omega arith) g) e in
    let z = h 0 x (omega arith) refl in
    (ap (λ l. l ++ images os) z ∙ r.0, ap (λ l. l ++ images (take n os)) z ∙ r.1)

pub none_past : (ps : List BlockProc) (i : ℕ) → slice_get ps i ≡ None → length ps ≤ i
none_past [] i e = omega arith
none_past (p ∷ ps) zero e = absurd (cc)
none_past (p ∷ ps) (suc i) e = (let h = none_past ps i e in omega arith)

-- the lines of a procedure begin with an instruction
first_line : (xs : List Straight) (k : List AsmLine) → 1 ≤ length xs → (x : Straight) × (slice_get (lines xs k) 0 ≡ Some (Plain (insn_of x)))
first_line [] k h = absurd (omega arith)
first_line (x ∷ xs) k h = (x, refl)

first_enter : (c : Bool) (l : Layout) (n : ℕ) (k : List AsmLine) → (x : Straight) × (slice_get (enter_code c l n k) 0 ≡ Some (Plain (insn_of x)))
first_enter true l n k =
    let ys = Operate O.Sub 5 2 3 ∷ [] in
    first_line (load_number 6 l.size ++ ys) (Branch (M.Bltu 5 6 0) n ∷ lines (Operate O.Sub 2 2 6 ∷ []) k) (let a = (number_few 6 l.size).0 in omega (arith, a, length-append (load_number 6 l.size) ys))
first_enter false l n k =
    let ys = Operate O.Sub 2 2 6 ∷ [] in
    first_line (load_number 6 l.size ++ ys) k (let a = (number_few 6 l.size).0 in omega (arith, a, length-append (load_number 6 l.size) ys))

-- the unit of the image has 20 bytes of code
start_size : (q : BlockProgram) (u : AsmUnit) (o : ObjUnit) → u ≡ image_unit q → IsAssembled u o → length o.code ≡ 20
start_size q u o e a = by (subst (λ (z : AsmUnit). IsAssembled z o) e a)
  where
    by : IsAssembled (image_unit q) o → length o.code ≡ 20
    by a =
        let l0 = (a.lines 0 _ refl).0 in
        let l1 = (a.lines 1 _ refl).0 in
        let l2 = (a.lines 2 _ refl).0 in
        let l3 = (a.lines 3 _ refl).0 in
        let b = a.begins in
        let e = a.ends in
        omega arith

pub params_most : (fs : List BlockProc) (p : ℕ) (f : BlockProc) → slice_get fs p ≡ Some f → f.params ≤ most_params fs
params_most [] p f e = absurd (cc)
params_most (z ∷ fs) zero f e = (let u : z ≡ f = cc in let k : z.params ≡ f.params = ap (λ (w : BlockProc). w.params) u in let m = le-max_left z.params (most_params fs) in omega arith)
params_most (z ∷ fs) (suc p) f e = (let k = params_most fs p f e in let m = le-max_right z.params (most_params fs) in omega arith)

module _ (q : BlockProgram) (hs : List Assignment) (os : List ObjUnit) (image : Image) (made : AreLinked (program_units q hs) os image) where
  abbrev pub us : List AsmUnit
  us = program_units q hs

  abbrev pub count : ℕ
  count = length q.procs

  pub units : length us ≡ count + 1
  units = omega (arith, length-append (proc_units 0 q.procs hs) (image_unit q ∷ []), units_length 0 q.procs hs)

  objects : length os ≡ count + 1
  objects = omega (arith, made.assembled.count, units)

  pub unit_proc : (p : ℕ) (f : BlockProc) → IsProc q p f → slice_get us p ≡ Some (proc_unit p f (slice_get hs p))
  unit_proc p f ip = let e : 0 + p ≡ p = omega arith in get_left (proc_units 0 q.procs hs) (image_unit q ∷ []) p _ (units_get 0 q.procs hs p f ip) ∙ ap (λ n. Some (proc_unit n f (slice_get hs p))) e

  pub unit_image : slice_get us count ≡ Some (image_unit q)
  unit_image = ap (λ n. slice_get us n) (sym (units_length 0 q.procs hs)) ∙ get_last (proc_units 0 q.procs hs) (image_unit q)

  -- where a unit begins
  begins_at : (i : ℕ) (w : UnitAt us os i) → line_address w 0 ≡ base + length (codes (take i os))
  begins_at i w = let b = w.assembled.begins in omega (arith, b)

  module _ (can : CanEmit q hs) (limits : Limits) (ranges : AreLimits limits) where
    g : Placement
    g = placed q os limits

    not_alone : (p : ℕ) → (is_alone q p ≡ true → ⊥) → is_alone q p ≡ false
    not_alone p n = by (is_alone q p) n
      where
        by : (b : Bool) → (b ≡ true → ⊥) → b ≡ false
        by true n = absurd (n refl)
        by false n = refl

    pub proc_place : (p : ℕ) → is_alone q p ≡ false → (placed q os limits).procs p ≡ base + length (codes (take p os))
    proc_place p e = ap (λ b. cond b (2 ^ 64) (base + length (codes (take p os)))) e

    pub alone_place : (p : ℕ) → is_alone q p ≡ true → (placed q os limits).procs p ≡ 2 ^ 64
    alone_place p e = ap (λ b. cond b (2 ^ 64) (base + length (codes (take p os)))) e

    small_place : (p : ℕ) → p < length us → base + length (codes (take p os)) < 2 ^ 64
    small_place p lt =
        let w = unit_at us os made.assembled p lt in
        let a = (are_in_code us os image made p w 0 (omega arith)).2 in
        let b = begins_at p w in
        let c = code_len_small us os image made in
        omega arith

    pub image_at : UnitAt us os count
    image_at = unit_at us os made.assembled count (let n = units in omega arith)

    pub image_is : image_at.unit ≡ image_unit q
    image_is = some_unit image_at.unit (image_unit q) (sym image_at.is_unit ∙ unit_image)

    pub image_code : length image_at.object.code ≡ 20
    image_code = start_size q image_at.unit image_at.object image_is image_at.assembled

    empty : (k : ℕ) (o : ObjUnit) → k < count → slice_get os k ≡ Some o → o.image ≡ []
    empty k o lt e = go (slice_get q.procs k) refl
      where
        go : (z : Option BlockProc) → slice_get q.procs k ≡ z → o.image ≡ []
        go None ez = absurd (let h = none_past q.procs k ez in omega arith)
        go (Some f) ip = (made.assembled.each k (proc_unit k f (slice_get hs k)) o (unit_proc k f ip) e).image

    pub all_images : (images os ≡ image_at.object.image) × (images (take count os) ≡ [])
    all_images = images_last os count image_at.object objects empty image_at.is_object

    pub image_bytes_are : image_at.object.image ≡ q.image
    image_bytes_are = image_at.assembled.image ∙ ap (λ (u : AsmUnit). u.image) image_is

    -- the bytes of the linked image
    pub image_length : length image.bytes ≡ code_size os + length q.image
    image_length = made.linked.count ∙ (length-laid os ∙ ap (λ (l : List ℕ). code_size os + length l) (all_images.0 ∙ image_bytes_are))

    abbrev pub low' : ℕ
    low' = base + code_size os

    abbrev pub high' : ℕ
    high' = heap_end (length q.image) (placed q os limits)

    pub bottom' : 65536 ≤ base + code_size os
    bottom' = omega arith

    pub code_end' : 65536 + image.code_len ≤ base + code_size os
    code_end' = let e = made.linked.code_len in omega arith

    pub bounded' : heap_end (length q.image) (placed q os limits) ≤ 2 ^ 63
    bounded' =
        let e = image_length in
        let s = made.small in
        let f = ranges.frames.most in
        let o = ranges.objects.most in
        let h = ranges.heap.most in
        omega arith

    pub proc_small : (p : ℕ) (f : BlockProc) → IsProc q p f → base + length (codes (take p os)) < 2 ^ 64
    proc_small p f ip = (let lt = slice_get_within q.procs p f ip in let n = units in small_place p (omega arith))

    -- a procedure's unit
    pub proc_unit_at : (p : ℕ) (f : BlockProc) → IsProc q p f → ProcUnit us os image made low' high' bottom' code_end' bounded' q hs (placed q os limits) p f
    proc_unit_at p f ip =
        let lt = slice_get_within q.procs p f ip in
        let n = units in
        let w = unit_at us os made.assembled p (omega arith) in
        let e : w.unit ≡ proc_unit p f (slice_get hs p) = some_unit w.unit (proc_unit p f (slice_get hs p)) (sym w.is_unit ∙ unit_proc p f ip) in
        let ls = ap (λ (u : AsmUnit). u.lines) e in
        let x = first_enter (is_charged f) (layout_of f (homes_in (slice_get hs p))) (length f.blocks) _ in
        let g0 = ap (λ (xs : List AsmLine). slice_get xs 0) ls ∙ x.1 in
        let s = (plain_steps us os image made p w 0 (insn_of x.0) g0).0 in
        let k = slice_get_within w.unit.lines 0 (Plain (insn_of x.0)) g0 in
        let wi = within w.unit w.object w.assembled 1 (omega arith) in
        let b = w.assembled.begins in
        record {
          unit = w;
          named = ap (λ (u : AsmUnit). u.name) e;
          lines = ls;
          some = omega arith;
          address = λ h. proc_place p (not_alone p (λ al. (let z = alone_place p al in omega arith))) ∙ sym (begins_at p w);
        }

    pub image_unit_at : ImageUnit us os image made low' high' bottom' code_end' bounded' q hs (placed q os limits)
    image_unit_at = record {
      unit = image_at;
      named = ap (λ (u : AsmUnit). u.name) image_is;
      address = λ n le. image_place_is n;
    }
      where
        image_place_is : (n : ℕ) → base + offset_of os count image_at.object (20 + n) ≡ base + code_size os + n
        image_place_is n =
            let c = image_code in
            let t : nat_lt (20 + n) (length image_at.object.code) ≡ false = grind (arith, nat_tests) in
            let z = ap (λ (l : List ℕ). length l) all_images.1 in
            ap (λ b. base + (if b then length (codes (take count os)) + (20 + n) else code_size os + length (images (take count os)) + (20 + n - length image_at.object.code))) t ∙ (omega arith)
