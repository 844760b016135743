use Rattle.c_types.proofs.AlikeLaws.{one_file-symmetric, two_files-symmetric}
use Rattle.c_types.proofs.laws.compatible_either_way.Goals as goal

pub returns-clause-one_file : goal.returns-clause-one_file
returns-clause-one_file c = one_file-symmetric c.args.t.now c.args.a.now c.args.b.now

pub returns-clause-two_files : goal.returns-clause-two_files
returns-clause-two_files c = two_files-symmetric c.args.t.now c.args.other.now c.args.a.now c.args.b.now
