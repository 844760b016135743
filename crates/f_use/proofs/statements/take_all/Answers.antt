use Rattle.std.proofs.Common.{◌≡◌, ℕ, Option, subst}
use Rattle.f_use.specs.Uses.{ModuleIn}
use Rattle.f_use.proofs.Grants.{none_all, taken_all}
use Rattle.f_use.proofs.statements.take_all.Goals as goal

pub grant_all-requires-clause-source : goal.grant_all-requires-clause-source
grant_all-requires-clause-source c = let P : Option ℕ → Type 0 = λ r. ModuleIn c.args.stated.now c.args.module_name.now r in (subst P c.in-Some.is c.module_of.ensures).1

pub grant_all-requires-clause-known : goal.grant_all-requires-clause-known
grant_all-requires-clause-known c = let P : Option ℕ → Type 0 = λ r. ModuleIn c.args.stated.now c.args.module_name.now r in c.requires.known c.in-Some.source (subst P c.in-Some.is c.module_of.ensures).0

pub returns-in-None : goal.returns-in-None
returns-in-None c = let P : Option ℕ → Type 0 = λ r. ModuleIn c.args.stated.now c.args.module_name.now r in none_all c.args.stated.now c.args.scope c.args.module_name.now (subst P c.in-None.is c.module_of.ensures) c.args.table.now

pub returns-in_ok-grant_all-in-Some : goal.returns-in_ok-grant_all-in-Some
returns-in_ok-grant_all-in-Some c = let P : Option ℕ → Type 0 = λ r. ModuleIn c.args.stated.now c.args.module_name.now r in taken_all c.args.stated.now c.args.module_name.now c.in-Some.source (subst P c.in-Some.is c.module_of.ensures) c.args.scope c.args.table.now c.grant_all.new.table c.in_ok-grant_all-in-Some.ensures
