-- The units of a program are proper, their names are their own, and no address lies behind its unit.
use Rattle.std.proofs.Common.{◌≡◌, ℕ, ◌+◌, ◌-◌, ◌^◌, ◌<◌, ◌≤◌, ◌⊎◌, inl, inr, true, List, [], ◌∷◌, ◌++◌, length, map, Option, Some, refl, ap, sym, subst, arith, ◌∙◌}
use Rattle.std.specs.Prelude.{slice_get, nat_le}
use Rattle.std.proofs.lemmas.Bool.Decides.{nat_tests}
use Rattle.rv_assemble.specs.declared.unit.AsmLine.{AsmLine}
use Rattle.rv_assemble.specs.declared.unit.AsmLine.TheVariants.{Call, Address}
use Rattle.rv_assemble.specs.declared.unit.NamedFix.{NamedFix}
use Rattle.rv_assemble.specs.declared.unit.AsmUnit.{AsmUnit}
use Rattle.rv_assemble.specs.declared.object.ObjUnit.{ObjUnit}
use Rattle.rv_assemble.specs.Lines.{HasLabel, IsProperUnit, IsAssembled}
use Rattle.assembled_run.specs.Program.{AreProper, AreAssembled, AsksFor, Names, IsNameOf, AreClosed, StayWithin}
use Rattle.flat_ir.specs.declared.program.Fix.{Fix}
use Rattle.flat_ir.specs.declared.program.Target.{Target}
use Rattle.flat_ir.specs.declared.program.Target.TheVariants as T
use Rattle.flat_ir.specs.declared.program.Operation.TheVariants as O
use Rattle.flat_ir.specs.Checked.{fix_fits, target_fits}
use Rattle.flatten.specs.declared.blocks.BlockProc.{BlockProc}
use Rattle.flatten.specs.declared.blocks.BlockProgram.{BlockProgram}
use Rattle.flatten.proofs.Values.{and_left, and_right, below}
use Rattle.block_homes.specs.declared.homes.Assignment.{Assignment}
use Rattle.block_homes.specs.Held.{homes_in}
use Rattle.emitted_code.specs.Straight.{Operate, load_pair}
use Rattle.emitted_code.specs.Frames.{layout_of}
use Rattle.emitted_code.specs.Names.{proc_name, image_name, image_place}
use Rattle.emitted_code.specs.Units.{proc_unit, first_size, start_lines, named_fix, image_unit, program_units}
use Rattle.emitted_units.specs.Units.{CanAssemble}
use Rattle.emitted_units.proofs.Encodable.{both, pair_encodable}
use Rattle.emitted_units.proofs.Walk.{Allowed, walk_lines}
use Rattle.emitted_units.proofs.Layouts.{layout_holds}
use Rattle.emitted_units.proofs.Lines.{AllAllowed, allowed_at, allowed_proper, proc_allowed}
use Rattle.emitted_units.proofs.Distinct.{proc_name_own, not_image}
use Rattle.emitted_units.proofs.Listed.{IsListed, listed, has_unit, has_last, proc_of_list, held_of_list, inside, fix_of, fix_place, each_is, apart_at}

-- an address that code may ask for: a procedure's start, or a byte of the image or the place behind it
abbrev pub IsInside : ℕ → List ℕ → ℕ → Type 0
IsInside bytes name offset = (offset ≡ 0) ⊎ ((name ≡ image_name) × (offset ≤ 20 + bytes))

at_most : (x n : ℕ) → nat_le x n ≡ true → x ≤ n
at_most x n h = grind (arith, nat_tests)

module _ (q : BlockProgram) (as' : List Assignment) (can : CanAssemble q as') where
  abbrev units : List AsmUnit
  units = program_units q as'

  abbrev IsAddress : List ℕ → ℕ → Type 0
  IsAddress name offset = IsNameOf units name × IsInside (length q.image) name offset

  is_proc_name : (p : ℕ) → p < length q.procs → IsNameOf units (proc_name p)
  is_proc_name p lt = let w = has_unit 0 q.procs as' (image_unit q) p lt in (p, (proc_unit (0 + p) w.0 w.1.0, w.1.1, ap proc_name (omega arith)))

  is_image_name : IsNameOf units image_name
  is_image_name = (length q.procs, (image_unit q, has_last 0 q.procs as' (image_unit q), refl))

  proc_address : (p : ℕ) → p < length q.procs → IsAddress (proc_name p) 0
  proc_address p lt = (is_proc_name p lt, inl refl)

  image_address : (n : ℕ) → n ≤ length q.image → IsAddress image_name (image_place n)
  image_address n le = (is_image_name, inr (refl, omega arith))

  abbrev allowed : List AsmLine → Allowed
  allowed xs = record { label = HasLabel xs; called = IsNameOf units; address = IsAddress }

  abbrev IsFit : AsmUnit → Type 0
  IsFit u = AllAllowed (allowed u.lines) u.lines

  proc_fit : (p : ℕ) (f : BlockProc) (a : Option Assignment) → slice_get q.procs p ≡ Some f → a ≡ slice_get as' p → IsFit (proc_unit (0 + p) f a)
  proc_fit p f a e same =
      let homes = can.homes p f e in
      let held = held_of_list q.procs p f can.held e in
      let holds = layout_holds f (homes_in (slice_get as' p)) held homes in
      subst (λ a. IsFit (proc_unit (0 + p) f a)) (sym same)
      (proc_allowed f (layout_of f (homes_in (slice_get as' p))) (length q.procs) (length q.image) (proc_of_list (length q.procs) (length q.image) q.procs p f can.named e) held holds
      (IsNameOf units) IsAddress is_proc_name proc_address image_address)

  image_fit : IsFit (image_unit q)
  image_fit =
      let start = start_lines (first_size (slice_get q.procs q.entry)) q.entry in
      let pair = load_pair 3 (8192 - first_size (slice_get q.procs q.entry)) in
      walk_lines (allowed start) (AllAllowed (allowed start)) (λ x k ok h. (ok, h)) (pair ++ (Operate O.Add 3 3 14 ∷ [])) (Call (proc_name q.entry) ∷ [])
      (both pair (Operate O.Add 3 3 14 ∷ []) (pair_encodable 3 (8192 - first_size (slice_get q.procs q.entry)) (omega arith)) ((omega arith, omega arith, omega arith), tt))
      (is_proc_name q.entry can.entry, tt)

  -- a unit is that of a procedure or the image's
  kind : (i : ℕ) (u : AsmUnit) → slice_get units i ≡ Some u → IsListed 0 q.procs as' (image_unit q) i u
  kind i u e = listed 0 q.procs as' (image_unit q) i u e

  fit : (i : ℕ) (u : AsmUnit) → slice_get units i ≡ Some u → IsFit u
  fit i u e = go (kind i u e)
    where
      go : IsListed 0 q.procs as' (image_unit q) i u → IsFit u
      go (inl w) = subst (λ u. IsFit u) (sym w.2) (proc_fit i w.0 (slice_get as' i) w.1 refl)
      go (inr w) = subst (λ u. IsFit u) (sym w.1) image_fit

  -- what a named fix of the image is
  record IsFixOf (k : ℕ) (n : NamedFix) : Type 0 where
    fix : Fix
    there : slice_get q.fixes k ≡ Some fix
    place : n.at ≡ fix.at
    fits : fix.at + 8 ≤ length q.image
    asks : IsAddress n.name n.offset

  target_address : (at : ℕ) (t : Target) → target_fits (length q.procs) (length q.image) t ≡ true
      → IsAddress (named_fix (record { at = at; target = t })).name (named_fix (record { at = at; target = t })).offset
  target_address at (T.Proc p) h = proc_address p (below p (length q.procs) h)
  target_address at (T.Image n) h = image_address n (at_most n (length q.image) h)

  named_fix_of : (k : ℕ) (n : NamedFix) → slice_get (map named_fix q.fixes) k ≡ Some n → IsFixOf k n
  named_fix_of k n e =
      let w = fix_of q.fixes k n e in
      let f = w.0 in
      let ok = each_is (λ f. fix_fits (length q.procs) (length q.image) f) q.fixes k f can.fixes w.1 in
      let ends = at_most (f.at + 8) (length q.image) (and_left (nat_le (f.at + 8) (length q.image)) (target_fits (length q.procs) (length q.image) f.target) ok) in
      let aims = and_right (nat_le (f.at + 8) (length q.image)) (target_fits (length q.procs) (length q.image) f.target) ok in
      record {
        fix = f;
        there = w.1;
        place = ap (λ n. n.at) w.2 ∙ fix_place f.at f.target;
        fits = ends;
        asks = subst (λ (n : NamedFix). IsAddress n.name n.offset) (sym w.2) (target_address f.at f.target aims);
      }

  image_proper : IsProperUnit (image_unit q)
  image_proper = record {
    lines = allowed_proper (image_unit q).lines (IsNameOf units) IsAddress image_fit;
    fixes = λ k n e. let w = named_fix_of k n e in subst (λ at. at + 8 ≤ length q.image) (sym w.place) w.fits;
    apart = λ i j n m ei ej ne.
        let v = named_fix_of i n ei in
        let w = named_fix_of j m ej in
        let P : ℕ → ℕ → Type 0 = λ a b. (a + 8 ≤ b) ⊎ (b + 8 ≤ a) in
        subst (λ a. P a m.at) (sym v.place) (subst (λ b. P v.fix.at b) (sym w.place) (apart_at q.fixes i j v.fix w.fix can.apart v.there w.there ne));
  }

  pub units_proper : AreProper units
  units_proper i u e = go (kind i u e)
    where
      go : IsListed 0 q.procs as' (image_unit q) i u → IsProperUnit u
      go (inl w) =
          let bare = proc_unit (0 + i) w.0 (slice_get as' i) in
          subst (λ u. IsProperUnit u) (sym w.2)
          (record {
            lines = allowed_proper bare.lines (IsNameOf units) IsAddress (proc_fit i w.0 (slice_get as' i) w.1 refl);
            fixes = λ k n e. absurd (cc);
            apart = λ i j n m ei ej ne. absurd (cc);
          })
      go (inr w) = subst (λ u. IsProperUnit u) (sym w.1) image_proper

  -- what a unit asks for is an address
  asks_address : (i : ℕ) (u : AsmUnit) (name : List ℕ) (offset : ℕ) → slice_get units i ≡ Some u → AsksFor u name offset → IsAddress name offset
  asks_address i u name offset e (inl w) = (allowed_at (allowed u.lines) u.lines w.0 (Address w.1.0 name offset) (fit i u e) w.1.1).1
  asks_address i u name offset e (inr w) = go (kind i u e)
    where
      go : IsListed 0 q.procs as' (image_unit q) i u → IsAddress name offset
      go (inl v) = let none : u.fixes ≡ [] = ap (λ u. u.fixes) v.2 in let e : slice_get [] w.0 ≡ Some w.1.0 = subst (λ fs. slice_get fs w.0 ≡ Some w.1.0) none w.1.1 in absurd (cc)
      go (inr v) =
          let all : u.fixes ≡ map named_fix q.fixes = ap (λ u. u.fixes) v.1 in
          let is = named_fix_of w.0 w.1.0 (subst (λ fs. slice_get fs w.0 ≡ Some w.1.0) all w.1.1) in
          subst (λ n. IsAddress n offset) w.1.2 (subst (λ o. IsAddress w.1.0.name o) w.1.3 is.asks)

  named : (i : ℕ) (u : AsmUnit) (name : List ℕ) → slice_get units i ≡ Some u → Names u name → IsNameOf units name
  named i u name e (inl w) = allowed_at (allowed u.lines) u.lines w.0 (Call name) (fit i u e) w.1
  named i u name e (inr w) = (asks_address i u name w.0 e w.1).0

  own : (i j : ℕ) (u v : AsmUnit) → slice_get units i ≡ Some u → slice_get units j ≡ Some v → u.name ≡ v.name → i ≡ j
  own i j u v ei ej e = go (kind i u ei) (kind j v ej)
    where
      name_of : (p : ℕ) (f : BlockProc) (u : AsmUnit) → u ≡ proc_unit (0 + p) f (slice_get as' p) → u.name ≡ proc_name p
      name_of p f u e = ap (λ u. u.name) e ∙ ap proc_name (omega arith)

      few : (p : ℕ) (f : BlockProc) → slice_get q.procs p ≡ Some f → p < 2 ^ 32
      few p f e = let l = inside q.procs p f e in let c = can.count in omega (arith, l, c)

      go : IsListed 0 q.procs as' (image_unit q) i u → IsListed 0 q.procs as' (image_unit q) j v → i ≡ j
      go (inl a) (inl b) = proc_name_own i j (few i a.0 a.1) (few j b.0 b.1) (sym (name_of i a.0 u a.2) ∙ e ∙ name_of j b.0 v b.2)
      go (inl a) (inr b) = absurd (not_image i (sym (name_of i a.0 u a.2) ∙ e ∙ ap (λ u. u.name) b.1))
      go (inr a) (inl b) = absurd (not_image j (sym (name_of j b.0 v b.2) ∙ sym e ∙ ap (λ u. u.name) a.1))
      go (inr a) (inr b) = a.0 ∙ sym b.0

  pub units_closed : AreClosed units
  units_closed = record { own = own; named = named; main = is_image_name }

  -- the image's unit has at least 20 bytes of code
  start_size : (o : ObjUnit) → IsAssembled (image_unit q) o → length o.code ≡ 20
  start_size o w =
      let a = (w.lines 0 _ refl).0 in
      let b = (w.lines 1 _ refl).0 in
      let c = (w.lines 2 _ refl).0 in
      let d = (w.lines 3 _ refl).0 in
      let first = w.begins in
      let last = w.ends in
      omega (arith, a, b, c, d, first, last)

  pub units_within : (os : List ObjUnit) → AreAssembled units os → StayWithin units os
  units_within os are i j u v o offset ei ej eo asks = go (asks_address i u v.name offset ei asks).1 (kind j v ej)
    where
      go : IsInside (length q.image) v.name offset → IsListed 0 q.procs as' (image_unit q) j v → offset ≤ length o.code + length o.image
      go (inl z) kind = omega arith
      go (inr w) (inl p) = absurd (not_image j (ap proc_name (omega arith) ∙ sym (ap (λ u. u.name) p.2) ∙ w.0))
      go (inr w) (inr p) =
          let is = subst (λ v. IsAssembled v o) p.1 (are.each j v o ej eo) in
          let size = start_size o is in
          let image : length o.image ≡ length q.image = ap (λ b. length b) is.image in
          let low = w.1 in
          omega (arith, size, image, low)
