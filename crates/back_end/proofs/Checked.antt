-- What a program that holds together gives its blocks.
use Rattle.std.proofs.Common.{◌≡◌, ℕ, zero, suc, ◌<◌, true, List, [], ◌∷◌, length, map, refl, sym, subst, arith}
use Rattle.std.specs.Prelude.{slice_get, ◌&&◌}
use Rattle.std.specs.List.{list_all}
use Rattle.flat_ir.specs.declared.program.FlatProc.{FlatProc}
use Rattle.flat_ir.specs.declared.program.FlatProgram.{FlatProgram}
use Rattle.flat_ir.specs.View.{proc_of, procs_of}
use Rattle.flat_ir.specs.Checked.{proc_fits, fix_fits, all_apart, entry_fits, is_ok}
use Rattle.flatten.specs.declared.blocks.BlockProgram.{BlockProgram}
use Rattle.flatten.specs.Code.{proc_code, program_code}
use Rattle.flatten.specs.Named.{ProcsNamed}
use Rattle.flatten.specs.Paths.{AllUsesAreSet}
use Rattle.flatten.proofs.Values.{and_left, and_right}
use Rattle.block_image.specs.Images.{HoldTogether}

as_many : (fs : List FlatProc) → length (map proc_code (procs_of fs)) ≡ length fs
as_many [] = refl
as_many (f ∷ fs) = omega (arith, as_many fs)

entry_there : (fs : List FlatProc) (e : ℕ) → entry_fits (slice_get (procs_of fs) e) ≡ true → e < length fs
entry_there [] e h = absurd (cc)
entry_there (f ∷ fs) zero h = omega arith
entry_there (f ∷ fs) (suc e) h = omega (arith, entry_there fs e h)

pub blocks_hold : (p : FlatProgram) → is_ok p ≡ true → ProcsNamed (length p.procs) (length p.image) (program_code p).procs → AllUsesAreSet (program_code p).procs → HoldTogether (program_code p)
blocks_hold p ok named set_first =
    let count = as_many p.procs in
    let procs = list_all (λ f. proc_fits (length p.procs) (length p.image) (proc_of f)) p.procs in
    let fixes = list_all (λ f. fix_fits (length p.procs) (length p.image) f) p.fixes in
    let entry = entry_fits (slice_get (procs_of p.procs) p.entry) in
    let rest = and_right procs (fixes && all_apart p.fixes) (and_right entry (procs && (fixes && all_apart p.fixes)) ok) in
    let there = entry_there p.procs p.entry (and_left entry (procs && (fixes && all_apart p.fixes)) ok) in
    record {
      named = subst (λ n. ProcsNamed n (length p.image) (program_code p).procs) (sym count) named;
      set_first = set_first;
      entry = omega (arith, count, there);
      fixes = subst (λ n. list_all (λ f. fix_fits n (length p.image) f) p.fixes ≡ true) (sym count) (and_left fixes (all_apart p.fixes) rest);
      apart = and_right fixes (all_apart p.fixes) rest;
    }

pub blocks_hold_at : (p : FlatProgram) (q : BlockProgram) → q ≡ program_code p → is_ok p ≡ true → ProcsNamed (length p.procs) (length p.image) q.procs → AllUsesAreSet q.procs → HoldTogether q
blocks_hold_at p q e ok named set_first =
    let N : BlockProgram → Type 0 = λ q. ProcsNamed (length p.procs) (length p.image) q.procs in
    let S : BlockProgram → Type 0 = λ q. AllUsesAreSet q.procs in
    let H : BlockProgram → Type 0 = λ q. HoldTogether q in
    subst H (sym e) (blocks_hold p ok (subst N e named) (subst S e set_first))
