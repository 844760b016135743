use Rattle.array_view.proofs.Strides.{by_strides}
use Rattle.array_view.proofs.laws.strides_lead_to_the_elements.Goals as goal

pub returns : goal.returns
returns c = by_strides c.args._v.now.base c.args._v.now.dims c.args._subs.now c.requires.one_each c.requires.no_vector
