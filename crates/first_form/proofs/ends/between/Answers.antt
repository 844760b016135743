use Rattle.first_form.proofs.Fronts.{between_is}
use Rattle.first_form.proofs.ends.between.Goals as goal

pub returns : goal.returns
returns c = between_is c.args.text.now c.args.front.now c.args.end.now c.in_ok-after.field-0.now c.before-2.result c.in_ok-after.ensures c.before-2.ensures
