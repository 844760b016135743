use Rattle.std.proofs.Common.{◌≡◌, ◌∷◌, ◌++◌, [], length, map, reverse, sym, ap, ◌∙◌, subst, List}
use Rattle.std.proofs.lemmas.List.{reverse-reverse}
use Rattle.f_items.specs.declared.item.Item.{Item}
use Rattle.f_scope.specs.declared.placement.ScopeRow.{ScopeRow}
use Rattle.f_scope.specs.declared.placement.Placed.{Placed}
use Rattle.f_scope.specs.Rows.{outer_row, rows_after, placed_after, seen, AreHosts, AreWithin}
use Rattle.f_scope.proofs.Chains.{from_first, hosts_from_first, within_from_first}
use Rattle.f_scope.proofs.placement.place_items.Goals as goal

both : (rows first : List ScopeRow) (items : List Placed) (backward is : List Item) → first ≡ outer_row ∷ [] → backward ≡ reverse is → rows ≡ rows_after first 0 (reverse backward) → items ≡ [] ++ placed_after first 0 (reverse backward)
    → (rows ≡ rows_after (outer_row ∷ []) 0 is) × (items ≡ placed_after (outer_row ∷ []) 0 is)
both rows first items backward is f b r p =
    let e : reverse backward ≡ is = ap reverse b ∙ reverse-reverse is in (
      r ∙ ap (λ x. rows_after x 0 (reverse backward)) f ∙ ap (rows_after (outer_row ∷ []) 0) e,
      p ∙ ap (λ x. placed_after x 0 (reverse backward)) f ∙ ap (placed_after (outer_row ∷ []) 0) e,
    )

pub returns-clause-items : goal.returns-clause-items
returns-clause-items c =
    let first = c.in_ok-push.ensures.items ∙ ap (λ l. l ++ outer_row ∷ []) c.new-scopes.ensures.items in
    let items = c.in_ok-place_all.ensures.items ∙ ap (λ l. l ++ placed_after c.push.new.self.items 0 (reverse c.reverse.new.self.items)) c.new-placed.ensures.items in
    let b = both c.place_all.new.scopes.items c.push.new.self.items c.place_all.new.placed.items c.reverse.new.self.items c.args.items.items first c.reverse.ensures.items c.in_ok-place_all.ensures.rows items in
    ap (λ r. map (seen r) c.place_all.new.placed.items) b.0 ∙ ap (map (seen (rows_after (outer_row ∷ []) 0 c.args.items.items))) b.1 ∙ from_first c.args.items.items

pub returns-clause-hosts : goal.returns-clause-hosts
returns-clause-hosts c =
    let first = c.in_ok-push.ensures.items ∙ ap (λ l. l ++ outer_row ∷ []) c.new-scopes.ensures.items in
    let items = c.in_ok-place_all.ensures.items ∙ ap (λ l. l ++ placed_after c.push.new.self.items 0 (reverse c.reverse.new.self.items)) c.new-placed.ensures.items in
    let b = both c.place_all.new.scopes.items c.push.new.self.items c.place_all.new.placed.items c.reverse.new.self.items c.args.items.items first c.reverse.ensures.items c.in_ok-place_all.ensures.rows items in
    subst AreHosts (sym b.0) (hosts_from_first c.args.items.items)

pub returns-clause-within : goal.returns-clause-within
returns-clause-within c =
    let first = c.in_ok-push.ensures.items ∙ ap (λ l. l ++ outer_row ∷ []) c.new-scopes.ensures.items in
    let items = c.in_ok-place_all.ensures.items ∙ ap (λ l. l ++ placed_after c.push.new.self.items 0 (reverse c.reverse.new.self.items)) c.new-placed.ensures.items in
    let b = both c.place_all.new.scopes.items c.push.new.self.items c.place_all.new.placed.items c.reverse.new.self.items c.args.items.items first c.reverse.ensures.items c.in_ok-place_all.ensures.rows items in
    let P : List ScopeRow → Type 0 = λ r. AreWithin (length r) (placed_after (outer_row ∷ []) 0 c.args.items.items) in
    let Q : List Placed → Type 0 = λ l. AreWithin (length c.place_all.new.scopes.items) l in
    subst Q (sym b.1) (subst P (sym b.0) (within_from_first c.args.items.items))
