use Rattle.std.proofs.Common.{◌∙◌, ap}
use Rattle.c_define.specs.Numbers.{number_of}
use Rattle.c_define.proofs.Named.{find_is}
use Rattle.c_define.proofs.names.Names.find.Goals as goal

pub returns : goal.returns
returns c = c.get_index_of.ensures.index ∙ find_is c.self.inside.names.keys c.args.name.now ∙ ap (λ names. number_of names c.args.name.now) c.self.view_is
