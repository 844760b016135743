use Rattle.std.proofs.Common.{◌≡◌, ℕ, List, Option, Some, slice_get, is_some, sym, ap, ◌∙◌, subst}
use Rattle.std.specs.Prelude.{Decides}
use Rattle.f_items.specs.Accessible.{IsUsed}
use Rattle.f_items.specs.Declarations.{Declaration, declaration_of}
use Rattle.f_scope.specs.Alone.{DeclarationFound}
use Rattle.f_scope.specs.Program.{Outline}
use Rattle.f_scope.proofs.Scans.{some_one}
use Rattle.f_stated.specs.Stated.{NamesImport}
use Rattle.f_use.specs.Associated.{Found}
use Rattle.f_rules.specs.declared.rule.NameRule.{NameRule}
use Rattle.f_rules.specs.RuleOf.{RuleFound, declared_rule}
use Rattle.f_rules.proofs.Breaking.{declared}
use Rattle.f_rules.proofs.broken.broken_declaration.Goals as goal

pub returns : goal.returns
returns c l at =
    let p = c.args.program.now.items in
    let k = c.args.place in
    let h = c.requires.at in
    let d : Declaration = record { scope = c.args.scope; what = c.args.declared.now } in
    let one = some_one (slice_get p k) l h.0 at h.1 in
    let declares : declaration_of l ≡ Some d = ap declaration_of one ∙ h.2 in
    let A : Outline → Type 0 = λ v. DeclarationFound v.items k c.broken-alone.result in
    let alone = subst A (c.program.ensures ∙ c.stated.ensures) c.broken-alone.ensures l d at declares in
    let U : List ℕ → Type 0 = λ n. Found (IsUsed p c.args.scope n) c.used-used.result in
    let used = subst U c.as_slice-name.ensures c.used-used.ensures in
    let I : Outline → Type 0 = λ v. Decides c.imports_name-is_imported.result (NamesImport v.items c.args.scope c.as_slice-name.result.now) in
    let J : List ℕ → Type 0 = λ n. Decides c.imports_name-is_imported.result (NamesImport p c.args.scope n) in
    let imported = subst J c.as_slice-name.ensures (subst I c.stated-2.ensures c.imports_name-is_imported.ensures) in
    let R : Option NameRule → Type 0 = λ r. RuleFound p k l r in
    subst R (sym (c.declared_rule.ensures ∙ ap (λ b. declared_rule c.broken-alone.result b c.imports_name-is_imported.result) c.is_some.ensures))
    (declared p k l d declares c.broken-alone.result alone c.used-used.result used c.imports_name-is_imported.result imported)
