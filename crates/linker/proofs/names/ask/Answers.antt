use Rattle.std.proofs.Common.{◌≡◌, ℕ, List, [], ◌∷◌, ◌++◌, sym, ap, ◌∙◌, subst}
use Rattle.std.specs.Prelude.{Some, None}
use Rattle.linker.specs.Names.{definition_at}
use Rattle.linker.specs.Table.{AreMissed}
use Rattle.linker.proofs.Tabled.{missed-same, missed-more}
use Rattle.linker.proofs.names.ask.Goals as goal

pub returns-in-Some : goal.returns-in-Some
returns-in-Some c = λ asked h.
    let name = c.args.name.now in
    let table = c.args.table.now in
    let found : definition_at name table ≡ Some c.in-Some.field-0 = ap (λ (n : List ℕ). definition_at n table) (sym c.as_str.ensures) ∙ sym c.in-Some.ensures in
    missed-same asked table c.args.missing.now.items name h c.in-Some.field-0 found

pub returns-in_ok-push-in-None : goal.returns-in_ok-push-in-None
returns-in_ok-push-in-None c = λ asked h.
    let name = c.args.name.now in
    let table = c.args.table.now in
    let missing = c.args.missing.now.items in
    let absent : definition_at name table ≡ None = ap (λ (n : List ℕ). definition_at n table) (sym c.as_str.ensures) ∙ sym c.in-None.ensures in
    let items : c.push.new.self.items ≡ missing ++ name ∷ [] = c.in_ok-push-in-None.ensures.items ∙ ap (λ (n : List ℕ). missing ++ n ∷ []) c.in_ok-clone-in-None.ensures.cases in
    subst (λ (m : List (List ℕ)). AreMissed (asked ++ name ∷ []) table m) (sym items) (missed-more asked table missing name h absent)
