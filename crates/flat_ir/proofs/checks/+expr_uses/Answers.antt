use Rattle.std.proofs.Common.{rules, arith}
use Rattle.std.proofs.lemmas.Grind.{common_steps}
use Rattle.flat_ir.proofs.Rows.{binary_tree, load_tree}
use Rattle.flat_ir.proofs.checks.+expr_uses.Goals as goal

pub returns-then-expr_uses : goal.returns-then-expr_uses
returns-then-expr_uses t c =
    let e = binary_tree c.in-Binary.field-0 c.in-Binary.a c.in-Binary.b in
    rw (c.in-Binary.is, e) (first_of (search rules, grind (arith, common_steps)))

pub returns-else-expr_uses : goal.returns-else-expr_uses
returns-else-expr_uses t c =
    let e = binary_tree c.in-Binary.field-0 c.in-Binary.a c.in-Binary.b in
    rw (c.in-Binary.is, e) (first_of (search rules, grind (arith, common_steps)))

pub returns-in-Load : goal.returns-in-Load
returns-in-Load t c =
    let e = load_tree c.in-Load.field-0 c.in-Load.field-1 c.in-Load.a in
    rw (c.in-Load.is, e) (first_of (search rules, grind (arith, common_steps)))
