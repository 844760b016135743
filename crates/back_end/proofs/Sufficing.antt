-- A program that passes the test has room for its frames.
use Rattle.std.proofs.Common.{◌≡◌, ◌≢◌, ℕ, zero, suc, ◌≤◌, ◌<◌, ◌+◌, ◌%◌, ◌^◌, Bool, true, false, cond, List, [], ◌∷◌, Some, inl, inr, refl, subst, lit≤, arith}
use Rattle.std.specs.Prelude.{◌==◌, ◌&&◌, ◌||◌, not, nat_le, nat_lt, slice_get}
use Rattle.std.specs.List.{list_all}
use Rattle.std.proofs.lemmas.Bool.Decides.{eqb_tells, nat_tests}
use Rattle.flat_ir.specs.declared.program.Fix.{Fix}
use Rattle.flat_ir.specs.declared.program.Target.{Target}
use Rattle.flat_ir.specs.declared.program.Target.TheVariants as T
use Rattle.flatten.specs.declared.blocks.BlockInsn.{BlockInsn}
use Rattle.flatten.specs.declared.blocks.BlockInsn.TheVariants as I
use Rattle.flatten.specs.declared.blocks.Block.{Block}
use Rattle.flatten.specs.declared.blocks.BlockProc.{BlockProc}
use Rattle.flatten.specs.declared.blocks.BlockProgram.{BlockProgram}
use Rattle.flatten.proofs.Values.{and_left, and_right}
use Rattle.emitted_units.proofs.Listed.{each_is}
use Rattle.emitted_code.specs.Frames.{need, is_charged}
use Rattle.emitted_code.specs.Room.{IsProc, HasInsn, IsRoutine, CallsRoutines, NamesOther, AimsElsewhere, HasRoom}
use Rattle.back_end.specs.Suffices.{has_frame, is_no_call, names_other, aims_elsewhere, each_insn, is_small, has_place, all_placed, is_entry_alone, suffices}

at_most : (x y : ℕ) → nat_le x y ≡ true → x ≤ y
at_most x y h = grind (arith, nat_tests)

below : (x y : ℕ) → nat_lt x y ≡ true → x < y
below x y h = grind (arith, nat_tests)

same : (x y : ℕ) → (x == y) ≡ true → x ≡ y
same x y h = elim (eqb_tells x y) [ inl t ↦ t.1 | inr f ↦ absurd (let q = f.0 in cc) ]

apart : (x y : ℕ) → not (x == y) ≡ true → x ≢ y
apart x y h = elim (eqb_tells x y) [ inl t ↦ absurd (let q = t.0 in cc) | inr f ↦ f.1 ]

first_of : (t x y : Bool) → t ≡ true → cond t x y ≡ true → x ≡ true
first_of true x y e h = h
first_of false x y e h = absurd (cc)

second_of : (t x y : Bool) → t ≡ false → cond t x y ≡ true → y ≡ true
second_of true x y e h = absurd (cc)
second_of false x y e h = h

or_second : (t x : Bool) → (t ≡ true → ⊥) → (t || x) ≡ true → x ≡ true
or_second true x never h = absurd (never refl)
or_second false x never h = h

placed_at : (e p n : ℕ) (fs : List BlockProc) (i : ℕ) (f : BlockProc) → n ≡ p + i → all_placed e p fs ≡ true → slice_get fs i ≡ Some f → has_place (n == e) f ≡ true
placed_at e p n [] i f c h s = absurd (cc)
placed_at e p n (g ∷ fs) zero f c h s =
    let here = and_left (has_place (p == e) g) (all_placed e (p + 1) fs) h in
    let is : g ≡ f = cc in
    let number : p ≡ n = omega (arith, c) in
    let P : ℕ → Type 0 = λ m. has_place (m == e) f ≡ true in
    let Q : BlockProc → Type 0 = λ f. has_place (p == e) f ≡ true in
    subst P number (subst Q is here)
placed_at e p n (g ∷ fs) (suc i) f c h s = placed_at e (p + 1) n fs i f (omega (arith, c)) (and_right (has_place (p == e) g) (all_placed e (p + 1) fs) h) s

framed : (b : Bool) (f : BlockProc) → is_charged f ≡ true → has_place b f ≡ true → (f.frame % 16 ≡ 0) × (need f ≤ f.frame) × (f.frame < 2 ^ 64)
framed b f c h =
    let frame = first_of (is_charged f) (has_frame f) (is_small b f) c h in
    let rest = and_right (f.frame % 16 == 0) (nat_le (need f) f.frame && nat_lt f.frame (2 ^ 64)) frame in (
      same (f.frame % 16) 0 (and_left (f.frame % 16 == 0) (nat_le (need f) f.frame && nat_lt f.frame (2 ^ 64)) frame),
      at_most (need f) f.frame (and_left (nat_le (need f) f.frame) (nat_lt f.frame (2 ^ 64)) rest),
      below f.frame (2 ^ 64) (and_right (nat_le (need f) f.frame) (nat_lt f.frame (2 ^ 64)) rest),
    )

small : (b : Bool) (f : BlockProc) → is_charged f ≡ false → has_place b f ≡ true → is_small b f ≡ true
small b f c h = second_of (is_charged f) (has_frame f) (is_small b f) c h

small_need : (b : Bool) (f : BlockProc) → is_small b f ≡ true → need f ≤ 4096
small_need b f h = at_most (need f) 4096 (and_left (nat_le (need f) 4096) (b || each_insn is_no_call f) h)

each_at : (t : BlockInsn → Bool) (f : BlockProc) (i : BlockInsn) → each_insn t f ≡ true → HasInsn f i → t i ≡ true
each_at t f i h has = each_is t has.1.0.insns has.1.2.0 i (each_is (λ (b : Block). list_all t b.insns) f.blocks has.0 has.1.0 h has.1.1) has.1.2.1

no_call : (q : BlockProgram) (deep : ℕ → ℕ) (n : ℕ) (i : BlockInsn) → is_no_call i ≡ true → CallsRoutines q deep n i
no_call q deep n (I.Number x m) h = tt
no_call q deep n (I.Copy x y) h = tt
no_call q deep n (I.Binary o x y z) h = tt
no_call q deep n (I.Load x w s y) h = tt
no_call q deep n (I.Store w y z) h = tt
no_call q deep n (I.ProcAddress x p) h = tt
no_call q deep n (I.ImageAddress x m) h = tt
no_call q deep n (I.Call xs p ys) h = absurd (cc)
no_call q deep n (I.CallAt xs y ys) h = absurd (cc)
no_call q deep n (I.Take x) h = tt
no_call q deep n (I.Give y) h = tt

other : (e : ℕ) (i : BlockInsn) → names_other e i ≡ true → NamesOther e i
other e (I.Number x m) h = tt
other e (I.Copy x y) h = tt
other e (I.Binary o x y z) h = tt
other e (I.Load x w s y) h = tt
other e (I.Store w y z) h = tt
other e (I.ProcAddress x p) h = apart p e h
other e (I.ImageAddress x m) h = tt
other e (I.Call xs p ys) h = apart p e h
other e (I.CallAt xs y ys) h = tt
other e (I.Take x) h = tt
other e (I.Give y) h = tt

elsewhere : (e : ℕ) (t : Target) → aims_elsewhere e t ≡ true → AimsElsewhere e t
elsewhere e (T.Proc p) h = apart p e h
elsewhere e (T.Image n) h = tt

pub room : (q : BlockProgram) → suffices q ≡ true → HasRoom q
room q h =
    let placed = and_left (all_placed q.entry 0 q.procs) (is_entry_alone q) h in
    let alone = and_right (all_placed q.entry 0 q.procs) (is_entry_alone q) h in
    let by_insns = and_left (list_all (each_insn (names_other q.entry)) q.procs) (list_all (λ (fix : Fix). aims_elsewhere q.entry fix.target) q.fixes) alone in
    let by_fixes = and_right (list_all (each_insn (names_other q.entry)) q.procs) (list_all (λ (fix : Fix). aims_elsewhere q.entry fix.target) q.fixes) alone in
    let at : (p : ℕ) (f : BlockProc) → IsProc q p f → has_place (p == q.entry) f ≡ true = λ p f s. placed_at q.entry 0 p q.procs p f (omega arith) placed s in
    let fits : (p : ℕ) (f : BlockProc) → IsProc q p f → is_charged f ≡ false → need f ≤ 4096 = λ p f s c. small_need (p == q.entry) f (small (p == q.entry) f c (at p f s)) in
    let quiet : (p : ℕ) (f : BlockProc) → IsRoutine q p f → each_insn is_no_call f ≡ true = λ p f r.
    or_second (p == q.entry) (each_insn is_no_call f) (λ e. r.2 (same p q.entry e))
    (and_right (nat_le (need f) 4096) ((p == q.entry) || each_insn is_no_call f) (small (p == q.entry) f r.1 (at p f r.0))) in
    record {
      deep = λ _. 0;
      most = 4096;
      charged = λ p f s c. framed (p == q.entry) f c (at p f s);
      routines = λ p f r. let n = fits p f r.0 r.1 in omega (arith, n);
      calls = λ p f r i has. no_call q (λ _. 0) 0 i (each_at is_no_call f i (quiet p f r) has);
      bound = lit≤ tt;
      alone = λ e s c. let n = fits q.entry e s c in record {
        fits = omega (arith, n);
        insns = λ p f s' i has. other q.entry i (each_at (names_other q.entry) f i (each_is (each_insn (names_other q.entry)) q.procs p f by_insns s') has);
        fixes = λ k fix s'. elsewhere q.entry fix.target (each_is (λ (fix : Fix). aims_elsewhere q.entry fix.target) q.fixes k fix by_fixes s');
      };
    }
