use Rattle.c_types.proofs.AlikeLaws.{one_file-reflexive, two_files-reflexive}
use Rattle.c_types.proofs.laws.compatible_with_itself.Goals as goal

pub returns-clause-one_file : goal.returns-clause-one_file
returns-clause-one_file c = one_file-reflexive c.args.t.now c.args.a.now

pub returns-clause-two_files : goal.returns-clause-two_files
returns-clause-two_files c = two_files-reflexive c.args.t.now c.args.a.now
