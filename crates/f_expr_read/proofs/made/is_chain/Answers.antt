use Rattle.f_expr_read.proofs.Chains.{chain_linked}
use Rattle.f_expr_read.proofs.made.is_chain.Goals as goal

pub returns-in-len1-up : goal.returns-in-len1-up
returns-in-len1-up c = λ h e. chain_linked h c.args.sign.now e c.args.links.now c.in-len1-up.len_at_least
