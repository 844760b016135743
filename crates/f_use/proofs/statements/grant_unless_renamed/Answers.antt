use Rattle.std.proofs.Common.{◌≡◌, true, false, sym, ◌∙◌}
use Rattle.f_use.proofs.Grants.{renamed_none, unrenamed}
use Rattle.f_use.proofs.statements.grant_unless_renamed.Goals as goal

pub returns-then-renamed : goal.returns-then-renamed
returns-then-renamed c = renamed_none c.args.stated.now.items c.args.scope c.args.module_name.now c.args.source c.args.name.now c.args.table.now (c.in_ok-renamed.ensures.0 c.if-renamed.true)

pub returns-in_ok-grant : goal.returns-in_ok-grant
returns-in_ok-grant c = unrenamed c.args.stated.now.items c.args.scope c.args.module_name.now c.args.source c.args.name.now c.args.table.now c.grant.new.table
    (λ r. let bad : true ≡ false = sym (c.in_ok-renamed.ensures.1 r) ∙ c.if-renamed.false in absurd (cc)) c.in_ok-grant.ensures
