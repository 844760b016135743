use Rattle.std.proofs.Common.{◌≡◌, ◌<◌, ℕ, Option, Some, None, sym, ap, subst, arith}
use Rattle.f_items.specs.Accessible.{Visible}
use Rattle.f_scope.specs.declared.placement.ScopeRow.{ScopeRow}
use Rattle.f_scope.specs.Rows.{row_at, chain_of}
use Rattle.f_use.specs.declared.origins.Origins.{Origins}
use Rattle.f_use.specs.Associated.{Found}
use Rattle.f_find.specs.Steps.{FoundIn, GoesOn}
use Rattle.f_find.proofs.Outward.{row_here, row_outward, row_beyond, row_last, host_less}
use Rattle.f_find.proofs.scopes_around.visible_from.Goals as goal

pub scopes-init : goal.scopes-init
scopes-init c = record { within = c.requires.scope; goes = λ r f. f }

pub returns-in-Some : goal.returns-in-Some
returns-in-Some c =
    let p = c.args.program.now.items in
    let name = c.args.name.now in
    let rows = c.args.scopes.now in
    let at = c.scopes.at in
    let P : ScopeRow → Type 0 = λ r. FoundIn p r.kind at name (Some c.in-Some.found) in
    let Q : Option Origins → Type 0 = λ o. FoundIn p c.row_in-row.result.kind at name o in
    c.scopes.invariant.goes (Some c.in-Some.found) (row_here p name rows c.requires.rows.hosts at c.in-Some.found c.scopes-test.true (subst P c.row_in-row.ensures (subst Q c.in-Some.is c.found_in.ensures)))

pub scopes-preserved : goal.scopes-preserved
scopes-preserved c =
    let p = c.args.program.now.items in
    let name = c.args.name.now in
    let rows = c.args.scopes.now in
    let at = c.scopes.at in
    let P : ScopeRow → Type 0 = λ r. FoundIn p r.kind at name None in
    let Q : Option Origins → Type 0 = λ o. FoundIn p c.row_in-row.result.kind at name o in
    let R : ScopeRow → Type 0 = λ r. GoesOn p r.kind at name in
    let host : c.row_in-row.result.host ≡ (row_at rows at).host = ap (λ r. r.host) c.row_in-row.ensures in
    let less = host_less rows c.requires.rows.hosts at c.scopes-test.true in
    let within = c.scopes.invariant.within in
    record {
      within = omega (arith, host, less, within);
      goes = λ r f.
          let S : ℕ → Type 0 = λ h. Found (Visible p (chain_of rows h) name) r in
          c.scopes.invariant.goes r (row_outward p name rows c.requires.rows.hosts at r c.scopes-test.true (subst P c.row_in-row.ensures (subst Q c.in-None.is c.found_in.ensures)) (subst R c.row_in-row.ensures (c.continues.ensures.0 c.if-continues.true)) (subst S host f));
    }

pub scopes-smaller : goal.scopes-smaller
scopes-smaller c =
    let host : c.row_in-row.result.host ≡ (row_at c.args.scopes.now c.scopes.at).host = ap (λ r. r.host) c.row_in-row.ensures in
    let less = host_less c.args.scopes.now c.requires.rows.hosts c.scopes.at c.scopes-test.true in
    omega (arith, host, less)

pub returns-else-continues : goal.returns-else-continues
returns-else-continues c =
    let p = c.args.program.now.items in
    let name = c.args.name.now in
    let rows = c.args.scopes.now in
    let at = c.scopes.at in
    let P : ScopeRow → Type 0 = λ r. FoundIn p r.kind at name None in
    let Q : Option Origins → Type 0 = λ o. FoundIn p c.row_in-row.result.kind at name o in
    let R : ScopeRow → Type 0 = λ r. GoesOn p r.kind at name in
    let ends : GoesOn p (row_at rows at).kind at name → ⊥ = λ g. let yes = c.continues.ensures.1 (subst R (sym c.row_in-row.ensures) g) in let bad = c.if-continues.false in cc in
    c.scopes.invariant.goes c.intrinsic.result (row_beyond p name rows c.requires.rows.hosts at c.intrinsic.result c.scopes-test.true (subst P c.row_in-row.ensures (subst Q c.in-None.is c.found_in.ensures)) ends c.intrinsic.ensures)

pub returns : goal.returns
returns c = c.scopes.invariant.goes c.intrinsic-2.result (row_last c.args.program.now.items c.args.name.now c.args.scopes.now c.requires.rows.hosts c.scopes.at c.intrinsic-2.result c.scopes-test.false c.intrinsic-2.ensures)
