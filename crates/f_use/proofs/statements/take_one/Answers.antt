use Rattle.std.proofs.Common.{◌≡◌, ℕ, Option, subst}
use Rattle.f_use.specs.Uses.{ModuleIn}
use Rattle.f_use.proofs.Grants.{none_one, taken_one}
use Rattle.f_use.proofs.statements.take_one.Goals as goal

pub grant-requires-clause-source : goal.grant-requires-clause-source
grant-requires-clause-source c = let P : Option ℕ → Type 0 = λ r. ModuleIn c.args.stated.now c.args.module_name.now r in (subst P c.in-Some.is c.module_of.ensures).1

pub grant-requires-clause-known : goal.grant-requires-clause-known
grant-requires-clause-known c = let P : Option ℕ → Type 0 = λ r. ModuleIn c.args.stated.now c.args.module_name.now r in c.requires c.in-Some.source (subst P c.in-Some.is c.module_of.ensures).0

pub returns-in-None : goal.returns-in-None
returns-in-None c = let P : Option ℕ → Type 0 = λ r. ModuleIn c.args.stated.now c.args.module_name.now r in none_one c.args.stated.now c.args.module_name.now c.args.local.now c.args.used.now (subst P c.in-None.is c.module_of.ensures) c.args.table.now

pub returns-in_ok-grant-in-Some : goal.returns-in_ok-grant-in-Some
returns-in_ok-grant-in-Some c = let P : Option ℕ → Type 0 = λ r. ModuleIn c.args.stated.now c.args.module_name.now r in taken_one c.args.stated.now c.args.module_name.now c.in-Some.source (subst P c.in-Some.is c.module_of.ensures) c.args.local.now c.args.used.now c.args.table.now c.grant.new.table c.in_ok-grant-in-Some.ensures
