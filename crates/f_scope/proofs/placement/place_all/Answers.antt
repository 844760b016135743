use Rattle.std.proofs.Common.{◌≡◌, ◌∷◌, ◌++◌, [], reverse, sym, ap, ◌∙◌, arith}
use Rattle.std.proofs.lemmas.List.{reverse-append, nil_from_length}
use Rattle.f_scope.specs.Rows.{closed_at, rows_after, placed_after}
use Rattle.f_scope.proofs.Chains.{rows_next, placed_next, rows_end, placed_end}
use Rattle.f_scope.proofs.placement.place_all.Goals as goal

pub items-preserved : goal.items-preserved
items-preserved c =
    let rows = c.items.scopes.items in
    let s = c.items.current in
    let i = c.in-Some.item in
    let behind = reverse c.pop.new.self.items in
    let e : reverse c.items.left.items ≡ i ∷ behind = ap reverse c.in-Some.ensures.items ∙ reverse-append c.pop.new.self.items (i ∷ []) in
    let closes = c.close_scope-current.ensures ∙ ap (λ r. closed_at r c.in_ok-at.at i) c.as_slice.ensures.value in
    record {
      rows = rows_next rows c.open_scope.new.scopes.items s c.in_ok-at.at c.close_scope-current.result i behind c.in_ok-at.ensures.0 c.in_ok-at.ensures.1 closes ∙ ap (rows_after rows s) (sym e) ∙ c.items.invariant.rows;
      placed = placed_next rows c.open_scope.new.scopes.items s c.in_ok-at.at c.close_scope-current.result i behind c.items.placed.items c.push.new.self.items c.in_ok-at.ensures.0 c.in_ok-at.ensures.1 closes c.in_ok-push.ensures.items
          ∙ ap (λ l. c.items.placed.items ++ placed_after rows s l) (sym e) ∙ c.items.invariant.placed;
    }

pub returns-clause-rows : goal.returns-clause-rows
returns-clause-rows c =
    let k = c.items.left.ok.0 in
    let n = c.in_default.ensures.cases.0 in
    let none : c.items.left.items ≡ [] = nil_from_length c.items.left.items (omega (arith, k, n)) in
    rows_end c.items.scopes.items c.items.current c.items.left.items none ∙ c.items.invariant.rows

pub returns-clause-items : goal.returns-clause-items
returns-clause-items c =
    let k = c.items.left.ok.0 in
    let n = c.in_default.ensures.cases.0 in
    let none : c.items.left.items ≡ [] = nil_from_length c.items.left.items (omega (arith, k, n)) in
    placed_end c.items.scopes.items c.items.current c.items.left.items c.items.placed.items none ∙ c.items.invariant.placed
