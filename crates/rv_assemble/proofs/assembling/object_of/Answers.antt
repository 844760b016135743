use Rattle.std.proofs.Common.{◌≡◌, ℕ, ◌+◌, List, ◌++◌, length, sym, ap, ◌∙◌, arith}
use Rattle.std.specs.Prelude.{vec_len}
use Rattle.rv_assemble.specs.declared.unit.AsmLine.{AsmLine}
use Rattle.rv_assemble.specs.declared.unit.NamedFix.{NamedFix}
use Rattle.rv_assemble.specs.declared.object.Relocation.{Relocation}
use Rattle.rv_assemble.specs.Lines.{asked_by_lines, asked_by_fixes}
use Rattle.rv_assemble.proofs.Fits.{fitting-read}
use Rattle.rv_assemble.proofs.Coded.{lines-read}
use Rattle.rv_assemble.proofs.assembling.object_of.Goals as goal

pub code_of-requires-clause-fitting : goal.code_of-requires-clause-fitting
code_of-requires-clause-fitting c =
    fitting-read c.as_slice-lines.result.now c.in_ok-targets.targets.items c.deref.result.now c.deref-3.result.now c.in_ok-wide.wide.items c.deref-2.result.now
    c.in_ok-places.places.items c.deref-4.result.now c.deref.ensures.value c.deref-3.ensures.value c.deref-2.ensures.value c.deref-4.ensures.value
    c.in_ok-targets.ensures c.in_ok-wide.ensures c.in_ok-places.ensures

pub returns-clause-assembled : goal.returns-clause-assembled
returns-clause-assembled c =
    let lines = c.args.u.now.lines in
    let fixes = c.args.u.now.fixes in
    let places = c.in_ok-places.places.items in
    let at = lines-read c.as_slice-lines.result.now lines c.in_ok-targets.targets.items c.deref-3.result.now places c.deref-4.result.now c.from_vec.result c.in_ok-code.code.items
    c.as_slice-lines.ensures c.deref-3.ensures.value c.deref-4.ensures.value c.from_vec.ensures c.in_ok-targets.ensures c.in_ok-code.ensures in
    let hp = c.in_ok-places.ensures in
    let code_len : c.len-code_len.result ≡ length c.from_vec.result =
    c.len-code_len.ensures ∙ len ∙ ap (λ (b : List ℕ). length b) (sym c.from_vec.ensures) in
    record {
      places = places;
      count = hp.count ∙ ap (λ (ls : List AsmLine). length ls + 1) c.as_slice-lines.ensures;
      begins = hp.begins;
      ends = at.ends;
      lines = at.each;
      image = c.from_vec-2.ensures ∙ c.in_ok-image.ensures.items ∙ c.as_slice-2.ensures;
      names = c.from_vec-3.ensures ∙ c.in_ok-names.ensures;
      relocations =
          c.from_vec-4.ensures
          ∙ c.in_ok-ask_fixes.ensures
          ∙ ap (λ (rs : List Relocation). rs ++ asked_by_fixes c.len-code_len.result c.as_slice.result.now) c.in_ok-asked.ensures
          ∙ ap (λ (ls : List AsmLine). asked_by_lines 0 ls c.deref-5.result.now ++ asked_by_fixes c.len-code_len.result c.as_slice.result.now) c.as_slice-lines.ensures
          ∙ ap (λ (ps : List ℕ). asked_by_lines 0 lines ps ++ asked_by_fixes c.len-code_len.result c.as_slice.result.now) c.deref-5.ensures.value
          ∙ ap (λ (fs : List NamedFix). asked_by_lines 0 lines places ++ asked_by_fixes c.len-code_len.result fs) c.as_slice.ensures
          ∙ ap (λ (n : ℕ). asked_by_lines 0 lines places ++ asked_by_fixes n fixes) code_len;
    }
  where
    len : vec_len c.in_ok-code.code ≡ length c.in_ok-code.code.items
    len = omega arith
