-- Code and requests that grow by a line.
use Rattle.std.proofs.Common.{◌≡◌, ℕ, zero, suc, ◌+◌, inl, inr, List, [], ◌∷◌, ◌++◌, length, take, sym, ap, ◌∙◌, subst, arith}
use Rattle.std.specs.Prelude.{slice_index, slice_get, Some}
use Rattle.std.proofs.lemmas.List.{append_assoc, append-nil}
use Rattle.std.proofs.lemmas.Option.{slice_get_within}
use Rattle.rv_isa.specs.declared.insn.Insn.TheVariants.{Auipc, Jalr, Addi}
use Rattle.rv_assemble.specs.declared.unit.AsmLine.{AsmLine}
use Rattle.rv_assemble.specs.declared.unit.AsmLine.TheVariants.{Label, Plain, Branch, Call, Address}
use Rattle.rv_assemble.specs.declared.unit.NamedFix.{NamedFix}
use Rattle.rv_assemble.specs.declared.object.Relocation.{Relocation}
use Rattle.rv_assemble.specs.Lines.{IsProperLine, LineAt, asked_by, asked_by_lines, asked_by_fix, asked_by_fixes}
use Rattle.rv_assemble.specs.Places.{Keeps, LineTo, IsProperFor, IsCodeTo, AreTargets}
use Rattle.rv_assemble.proofs.Kept.{Stands-kept, Reaches-kept}
use Rattle.rv_assemble.proofs.Pushed.{last_or_before, same_line}

pub proper-for : (lines : List AsmLine) (line : AsmLine) → IsProperLine lines line → IsProperFor line
proper-for lines (Label label) h = tt
proper-for lines (Plain i) h = h
proper-for lines (Branch insn to) h = h.0
proper-for lines (Call name) h = tt
proper-for lines (Address rd name offset) h = h

LineTo-kept : {a b : List ℕ} → Keeps a b → (place next target : ℕ) (line : AsmLine) → LineTo a place next target line → LineTo b place next target line
LineTo-kept h place next target (Label label) t = t
LineTo-kept h place next target (Plain i) t = (t.0, Stands-kept h place i t.1)
LineTo-kept h place next target (Branch insn to) t = Reaches-kept h insn place next target t
LineTo-kept h place next target (Call name) t = (t.0, Stands-kept h place (Auipc 1 0) t.1, Stands-kept h (place + 4) (Jalr 1 1 0) t.2)
LineTo-kept h place next target (Address rd name offset) t = (t.0, Stands-kept h place (Auipc rd 0) t.1, Stands-kept h (place + 4) (Addi rd rd 0) t.2)

pub code-more : (lines : List AsmLine) (targets places : List ℕ) (n : ℕ) (a b : List ℕ) (here : AsmLine) → IsCodeTo lines targets places n a → slice_get lines n ≡ Some here
    → Keeps a b → length b ≡ slice_index places (n + 1)
    → LineTo b (slice_index places n) (slice_index places (n + 1)) (slice_index places (slice_index targets n)) here
    → IsCodeTo lines targets places (n + 1) b
code-more lines targets places n a b here h g keeps e to = record {
  ends = e;
  each = λ k line l gk. elim (last_or_before k n l) [
    | inl before ↦ LineTo-kept keeps (slice_index places k) (slice_index places (k + 1)) (slice_index places (slice_index targets k)) line (h.each k line before gk)
    | inr s ↦
        let same = same_line here line (sym g ∙ subst (λ (m : ℕ). slice_get lines m ≡ Some line) s gk) in
        subst (λ (m : ℕ). LineTo b (slice_index places m) (slice_index places (m + 1)) (slice_index places (slice_index targets m)) line) (sym s)
        (subst (λ (i : AsmLine). LineTo b (slice_index places n) (slice_index places (n + 1)) (slice_index places (slice_index targets n)) i) same to)
  ];
}

-- the lines' requests, with one more line
pub asked-more : (j n : ℕ) (lines : List AsmLine) (places : List ℕ) (here : AsmLine) → slice_get lines n ≡ Some here
    → asked_by_lines j (take (n + 1) lines) places ≡ asked_by_lines j (take n lines) places ++ asked_by (slice_index places (j + n)) here
asked-more j n [] places here g = cc
asked-more j zero (line ∷ lines) places here g =
    let e : j + 0 ≡ j = omega arith in
    append-nil (asked_by (slice_index places j) line)
    ∙ ap (λ (i : AsmLine). asked_by (slice_index places j) i) (same_line line here g)
    ∙ ap (λ (m : ℕ). asked_by (slice_index places m) here) (sym e)
asked-more j (suc n) (line ∷ lines) places here g =
    let e : suc n + 1 ≡ suc (n + 1) = omega arith in
    let f : j + 1 + n ≡ j + suc n = omega arith in
    let first = asked_by (slice_index places j) line in
    ap (λ (m : ℕ). asked_by_lines j (take m (line ∷ lines)) places) e
    ∙ ap (λ (rs : List Relocation). first ++ rs) (asked-more (j + 1) n lines places here g)
    ∙ sym (append_assoc first (asked_by_lines (j + 1) (take n lines) places) (asked_by (slice_index places (j + 1 + n)) here))
    ∙ ap (λ (m : ℕ). (first ++ asked_by_lines (j + 1) (take n lines) places) ++ asked_by (slice_index places m) here) f

same_fix : (a b : NamedFix) → Some a ≡ Some b → a ≡ b
same_fix a b e = cc

-- the fixes' requests, with one more fix
pub fixes-more : (code_len k : ℕ) (fixes : List NamedFix) (fix : NamedFix) → slice_get fixes k ≡ Some fix
    → asked_by_fixes code_len (take (k + 1) fixes) ≡ asked_by_fixes code_len (take k fixes) ++ asked_by_fix code_len fix ∷ []
fixes-more code_len k [] fix g = cc
fixes-more code_len zero (f ∷ fixes) fix g = ap (λ (x : NamedFix). asked_by_fix code_len x ∷ []) (same_fix f fix g)
fixes-more code_len (suc k) (f ∷ fixes) fix g =
    let e : suc k + 1 ≡ suc (k + 1) = omega arith in
    ap (λ (m : ℕ). asked_by_fixes code_len (take m (f ∷ fixes))) e ∙ ap (λ (rs : List Relocation). asked_by_fix code_len f ∷ rs) (fixes-more code_len k fixes fix g)

line-at : (lines : List AsmLine) (targets places code : List ℕ) (k next : ℕ) (line : AsmLine) → AreTargets lines targets → slice_get lines k ≡ Some line
    → LineTo code (slice_index places k) next (slice_index places (slice_index targets k)) line → LineAt lines places code (slice_index places k) next line
line-at lines targets places code k next (Label label) ht g t = t
line-at lines targets places code k next (Plain i) ht g t = t
line-at lines targets places code k next (Branch insn to) ht g t = (slice_index targets k, ht.labels k insn to g, t)
line-at lines targets places code k next (Call name) ht g t = t
line-at lines targets places code k next (Address rd name offset) ht g t = t

-- each line stands at its place, and the code ends with the last
pub record AreAt (lines : List AsmLine) (places code : List ℕ) : Type 0 where
  pub each : (k : ℕ) (line : AsmLine) → slice_get lines k ≡ Some line → LineAt lines places code (slice_index places k) (slice_index places (k + 1)) line
  pub ends : slice_index places (length lines) ≡ length code

lines-at : (lines : List AsmLine) (targets places code : List ℕ) → AreTargets lines targets → IsCodeTo lines targets places (length lines) code → AreAt lines places code
lines-at lines targets places code ht h = record {
  each = λ k line g. line-at lines targets places code k (slice_index places (k + 1)) line ht g (h.each k line (slice_get_within lines k line g) g);
  ends = sym h.ends;
}

-- the same where the lists were read through references
pub lines-read : (lines0 lines : List AsmLine) (targets targets3 places places4 code code0 : List ℕ) → lines0 ≡ lines → targets3 ≡ targets → places4 ≡ places → code ≡ code0
    → AreTargets lines0 targets → IsCodeTo lines0 targets3 places4 (length lines0) code0 → AreAt lines places code
lines-read lines0 lines targets targets3 places places4 code code0 el et ep ec ht h =
    let h1 = subst (λ (t : List ℕ). IsCodeTo lines0 t places4 (length lines0) code0) et h in
    let h2 = subst (λ (p : List ℕ). IsCodeTo lines0 targets p (length lines0) code0) ep h1 in
    subst (λ (c : List ℕ). AreAt lines places c) (sym ec) (subst (λ (ls : List AsmLine). AreAt ls places code0) el (lines-at lines0 targets places code0 ht h2))
