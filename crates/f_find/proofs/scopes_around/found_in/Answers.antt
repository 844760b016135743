use Rattle.std.proofs.Common.{◌≡◌, sym, ◌∙◌}
use Rattle.f_find.proofs.Outward.{sought_in, not_sought}
use Rattle.f_find.proofs.scopes_around.found_in.Goals as goal

pub returns-then-has_names : goal.returns-then-has_names
returns-then-has_names c = sought_in c.args.program.now.items c.args.kind c.args.scope c.args.name.now c.denoted.result (sym c.has_names.ensures ∙ c.if-has_names.true) c.denoted.ensures

pub returns-else-has_names : goal.returns-else-has_names
returns-else-has_names c = not_sought c.args.program.now.items c.args.kind c.args.scope c.args.name.now (sym c.has_names.ensures ∙ c.if-has_names.false)
