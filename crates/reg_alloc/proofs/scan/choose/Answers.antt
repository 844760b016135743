use Rattle.std.proofs.Common.{List, ℕ, subst, length, ◌<◌, ◌≤◌, ◌≡◌, ◌∙◌, sym, ap, refl, arith, rules}
use Rattle.std.specs.Prelude.{slice_index}
use Rattle.reg_alloc.specs.declared.scan.Choice.TheVariants as C
use Rattle.reg_alloc.specs.Scan.{IsFree, IsBusy, codes}
use Rattle.reg_alloc.proofs.Scanning.{register_taken, slot_taken}
use Rattle.reg_alloc.proofs.Choosing.{code_at, codes_length, chosen_scan, chosen_kept, chosen_done}
use Rattle.reg_alloc.proofs.scan.choose.Goals as goal

pub returns-in-Some-clause-scan : goal.returns-in-Some-clause-scan
returns-in-Some-clause-scan c =
    let cs = c.args.choices.now.items in
    let v = c.args.start.now.value in
    let r = c.in-Some.r in
    let lv : v < length cs = (let n = c.requires.scan.count in let m = codes_length cs in let l = c.requires.value in omega (arith, n, m, l)) in
    let fresh : slice_index (codes cs) v ≡ 13 = code_at cs v c.index.result.now lv c.index.ensures ∙ c.if-not-is_open.ensures.open refl in
    let inside : c.args.start.now.first < 4294967295 = search rules in
    let lr = subst (λ (l : List ℕ). r < length l) c.as_slice.ensures.value c.in-Some.ensures.0 in
    chosen_scan cs v r (C.Saved r) lv refl (let n = c.requires.scan.registers in omega (arith, n, lr)) c.args._p.now c.args.ranges.now _ c.args.start.now.first (register_taken c.args._p.now c.args.ranges.now (codes cs) c.args.users.now.items c.args._at c.args.start.now.first v c.requires.ranges c.requires.value (sym c.requires.first) inside c.requires.order fresh c.requires.scan r lr (subst (λ (l : List ℕ). IsFree c.args._p.now.values c.args.ranges.now l c.args.start.now.first r) c.as_slice.ensures.value c.in-Some.ensures.1))

pub returns-in-Some-clause-kept : goal.returns-in-Some-clause-kept
returns-in-Some-clause-kept c =
    let cs = c.args.choices.now.items in
    let lr = subst (λ (l : List ℕ). c.in-Some.r < length l) c.as_slice.ensures.value c.in-Some.ensures.0 in
    chosen_kept cs c.args.start.now.value c.in-Some.r (C.Saved c.in-Some.r) (let n = c.requires.scan.count in let m = codes_length cs in let l = c.requires.value in omega (arith, n, m, l)) refl (let n = c.requires.scan.registers in omega (arith, n, lr))

pub returns-in-Some-clause-done : goal.returns-in-Some-clause-done
returns-in-Some-clause-done c h =
    let cs = c.args.choices.now.items in
    let lr = subst (λ (l : List ℕ). c.in-Some.r < length l) c.as_slice.ensures.value c.in-Some.ensures.0 in
    chosen_done cs c.args.start.now.value c.in-Some.r (C.Saved c.in-Some.r) (let n = c.requires.scan.count in let m = codes_length cs in let l = c.requires.value in omega (arith, n, m, l)) refl (let n = c.requires.scan.registers in omega (arith, n, lr))

pub returns-in-None-clause-scan : goal.returns-in-None-clause-scan
returns-in-None-clause-scan c =
    let cs = c.args.choices.now.items in
    let v = c.args.start.now.value in
    let lv : v < length cs = (let n = c.requires.scan.count in let m = codes_length cs in let l = c.requires.value in omega (arith, n, m, l)) in
    let fresh : slice_index (codes cs) v ≡ 13 = code_at cs v c.index.result.now lv c.index.ensures ∙ c.if-not-is_open.ensures.open refl in
    let inside : c.args.start.now.first < 4294967295 = search rules in
    chosen_scan cs v 12 C.Slot lv refl (omega arith) c.args._p.now c.args.ranges.now c.args.users.now.items c.args.start.now.first (slot_taken c.args._p.now c.args.ranges.now (codes cs) c.args.users.now.items c.args._at c.args.start.now.first v c.requires.ranges c.requires.value (sym c.requires.first) inside c.requires.order fresh c.requires.scan (subst (λ (l : List ℕ). (r : ℕ) → r < length l → IsBusy c.args._p.now.values c.args.ranges.now l c.args.start.now.first r) c.as_slice.ensures.value c.in-None.ensures))

pub returns-in-None-clause-kept : goal.returns-in-None-clause-kept
returns-in-None-clause-kept c =
    let cs = c.args.choices.now.items in
    chosen_kept cs c.args.start.now.value 12 C.Slot (let n = c.requires.scan.count in let m = codes_length cs in let l = c.requires.value in omega (arith, n, m, l)) refl (omega arith)

pub returns-in-None-clause-done : goal.returns-in-None-clause-done
returns-in-None-clause-done c h =
    let cs = c.args.choices.now.items in
    chosen_done cs c.args.start.now.value 12 C.Slot (let n = c.requires.scan.count in let m = codes_length cs in let l = c.requires.value in omega (arith, n, m, l)) refl (omega arith)
