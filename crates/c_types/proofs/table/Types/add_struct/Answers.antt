use Rattle.c_types.proofs.Growing.{keeps-push, table-push}
use Rattle.c_types.proofs.table.Types.add_struct.Goals as goal

pub invariant_of-self : goal.invariant_of-self
invariant_of-self c = rw c.in-Err.ensures.items c.self.invariant

pub invariant_of-self-2 : goal.invariant_of-self-2
invariant_of-self-2 c = rw c.in_default.ensures.items (table-push c.self.inside.bodies.items c.self.invariant)

pub returns-clause-kept : goal.returns-clause-kept
returns-clause-kept c = rw (c.in_default.ensures.items, ← c.self.view_is) (keeps-push c.self.inside.bodies.items)
