use Rattle.std.proofs.Common.{◌∙◌, sym}
use Rattle.reg_alloc.proofs.Below.{named_by, homes_by}
use Rattle.reg_alloc.proofs.tests.checked.Goals as goal

pub validate-requires-clause-named : goal.validate-requires-clause-named
validate-requires-clause-named c = named_by c.args.p.now (sym c.is_named.ensures ∙ c.if-not-is_named.false)

pub validate-requires-clause-homes : goal.validate-requires-clause-homes
validate-requires-clause-homes c = homes_by c.args.p.now.values c.args.a.now.homes (sym c.are_homes.ensures ∙ c.if-not-are_homes.false)
