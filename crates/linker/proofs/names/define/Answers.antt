use Rattle.std.proofs.Common.{◌≡◌, ℕ, List, [], ◌∷◌, ◌++◌, sym, ap, ◌∙◌, subst}
use Rattle.std.specs.Prelude.{Some, None}
use Rattle.linker.specs.Names.{Entry, definition_at}
use Rattle.linker.specs.Table.{IsTable}
use Rattle.linker.proofs.Tabled.{table-again, table-new}
use Rattle.linker.proofs.names.define.Goals as goal

pub returns-in_ok-push-in-Some : goal.returns-in_ok-push-in-Some
returns-in_ok-push-in-Some c = λ entries h.
    let name = c.args.name.now in
    let table = c.args.table.now in
    let twice = c.args.twice.now.items in
    let new : List Entry = entries ++ (name, c.args.definition) ∷ [] in
    let found : definition_at name table ≡ Some c.in-Some.field-0 = ap (λ (n : List ℕ). definition_at n table) (sym c.as_str.ensures) ∙ sym c.in-Some.ensures in
    let items : c.push.new.self.items ≡ twice ++ name ∷ [] = c.in_ok-push-in-Some.ensures.items ∙ ap (λ (n : List ℕ). twice ++ n ∷ []) c.in_ok-text.ensures.cases in
    subst (λ (t : List (List ℕ)). IsTable new table t) (sym items) (table-again entries table twice name c.args.definition h c.in-Some.field-0 found)

pub returns-in_ok-insert-in-None : goal.returns-in_ok-insert-in-None
returns-in_ok-insert-in-None c = λ entries h.
    let name = c.args.name.now in
    let table = c.args.table.now in
    let twice = c.args.twice.now.items in
    let new : List Entry = entries ++ (name, c.args.definition) ∷ [] in
    let absent : definition_at name table ≡ None = ap (λ (n : List ℕ). definition_at n table) (sym c.as_str.ensures) ∙ sym c.in-None.ensures in
    let text = c.into_string.ensures ∙ c.in_ok-text.ensures.cases in
    let items : c.insert.new.self ≡ table ++ (name, c.args.definition) ∷ [] = c.in_ok-insert-in-None.ensures.ok ∙ ap (λ (n : List ℕ). table ++ (n, c.args.definition) ∷ []) text in
    subst (λ (t : List Entry). IsTable new t twice) (sym items) (table-new entries table twice name c.args.definition h absent)
