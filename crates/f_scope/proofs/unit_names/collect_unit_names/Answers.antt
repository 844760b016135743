use Rattle.std.proofs.Common.{sym, ap, ◌∙◌, subst, map}
use Rattle.f_scope.specs.Rows.{seen}
use Rattle.f_scope.specs.UnitNames.{Scan, scan_units}
use Rattle.f_scope.proofs.Units.{Found, found_units}
use Rattle.f_scope.proofs.unit_names.collect_unit_names.Goals as goal

pub returns : goal.returns
returns c =
    let p = map (seen c.args.scopes.now) c.args.items.now in
    let is = c.in_ok-twice.ensures ∙ ap (λ t. scan_units t 0 c.args.items.now) c.new-table.ensures in
    let P : Scan → Type 0 = λ x. Found p x in
    subst P (sym is) (found_units c.args.scopes.now c.args.items.now)
