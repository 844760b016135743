use Rattle.std.proofs.Common.{◌≡◌, Some, slice_get}
use Rattle.c_types.specs.declared.ctype.StructBody.TheVariants.{Incomplete}
use Rattle.c_types.specs.Tables.{IsSound}
use Rattle.c_types.proofs.Growing.{keeps-set, table-set}
use Rattle.c_types.proofs.table.Types.complete.Goals as goal

pub invariant_of-self : goal.invariant_of-self
invariant_of-self c =
    let was : slice_get c.self.inside.bodies.items c.args.s ≡ Some Incomplete = rw c.self.view_is c.requires.incomplete in
    let sound : IsSound c.self.inside.bodies.items c.in_ok-layout.layout = rw c.self.view_is c.in_ok-layout.ensures.sound in
    table-set c.self.inside.bodies.items c.args.s c.in_ok-layout.layout was c.self.invariant sound

pub returns-clause-kept : goal.returns-clause-kept
returns-clause-kept c =
    let was : slice_get c.self.inside.bodies.items c.args.s ≡ Some Incomplete = rw c.self.view_is c.requires.incomplete in
    rw (← c.self.view_is) (keeps-set c.self.inside.bodies.items c.args.s c.in_ok-layout.layout was)
