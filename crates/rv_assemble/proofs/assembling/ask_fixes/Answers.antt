use Rattle.std.proofs.Common.{◌≡◌, ℕ, ◌+◌, List, [], ◌∷◌, ◌++◌, length, take, refl, sym, ap, ◌∙◌, arith}
use Rattle.std.proofs.lemmas.Option.{slice_get_read}
use Rattle.std.proofs.lemmas.List.{append_assoc}
use Rattle.rv_assemble.specs.declared.object.Relocation.{Relocation}
use Rattle.rv_assemble.specs.declared.object.RelocationKind.TheVariants.{Word}
use Rattle.rv_assemble.specs.Lines.{asked_by_fix, asked_by_fixes}
use Rattle.rv_assemble.proofs.Coded.{fixes-more}
use Rattle.rv_assemble.proofs.assembling.ask_fixes.Goals as goal

pub loop-fix-preserved : goal.loop-fix-preserved
loop-fix-preserved c =
    let fixes = c.args.fixes.now in
    let code_len = c.args.code_len in
    let k = c.loop-fix.fix-index in
    let fix = c.fix-item.result in
    let start = c.args.asked.now.items in
    let g = slice_get_read fixes (length fixes) k fix refl (omega arith) c.fix-item.is in
    let name : c.in_ok-name.name ≡ fix.name = c.in_ok-name.ensures.cases in
    let new : c.push.new.self.items ≡ c.loop-fix.asked.items ++ asked_by_fix code_len fix ∷ [] =
    c.in_ok-push.ensures.items ∙ ap (λ (n : List ℕ). c.loop-fix.asked.items ++ record { at = code_len + fix.at; name = n; offset = fix.offset; kind = Word } ∷ []) name in
    new
    ∙ ap (λ (rs : List Relocation). rs ++ asked_by_fix code_len fix ∷ []) c.loop-fix.invariant
    ∙ append_assoc start (asked_by_fixes code_len (take k fixes)) (asked_by_fix code_len fix ∷ [])
    ∙ ap (λ (rs : List Relocation). start ++ rs) (sym (fixes-more code_len k fixes fix g))
