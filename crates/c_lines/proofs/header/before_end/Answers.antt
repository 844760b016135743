use Rattle.std.proofs.Common.{refl, eqb, rules, sym, true, false, eq-eqb, ◌∙◌}
use Rattle.c_lines.proofs.Names.{end_at}
use Rattle.c_lines.proofs.header.before_end.Goals as goal

pub returns-then-contains : goal.returns-then-contains
returns-then-contains c = end_at c.args.close c.in-Some.last.now c.in-Some.name.now c.args.text.now true (eqb c.in-Some.last.now c.args.close) c.in-Some.ensures.cases.0 (sym c.if-contains.true ∙ c.contains.ensures.value) refl

pub returns-then-last-close : goal.returns-then-last-close
returns-then-last-close c = end_at c.args.close c.in-Some.last.now c.in-Some.name.now c.args.text.now false true c.in-Some.ensures.cases.0 (sym c.if-contains.false ∙ c.contains.ensures.value) (eq-eqb _ _ c.if-last-close.true)

pub returns-else-last-close : goal.returns-else-last-close
returns-else-last-close c = end_at c.args.close c.in-Some.last.now c.in-Some.name.now c.args.text.now false false c.in-Some.ensures.cases.0 (sym c.if-contains.false ∙ c.contains.ensures.value) (search (rules, c.if-last-close.false))
