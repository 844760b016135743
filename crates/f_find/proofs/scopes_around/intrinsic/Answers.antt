use Rattle.std.proofs.Common.{◌≡◌, ℕ, Option, sym, ◌∙◌, subst}
use Rattle.f_scope.specs.Own.{IsTold}
use Rattle.f_scope.specs.Program.{Outline}
use Rattle.f_find.proofs.Outward.{intrinsic_none, intrinsic_some}
use Rattle.f_find.proofs.scopes_around.intrinsic.Goals as goal

pub returns-in-None : goal.returns-in-None
returns-in-None c =
    let P : Outline → Type 0 = λ v. IsTold v.items 0 c.args.name.now c.declared.result in
    let Q : Option ℕ → Type 0 = λ r. IsTold c.args.program.now.items 0 c.args.name.now r in
    intrinsic_none c.args.program.now.items c.args.name.now (subst Q c.in-None.is (subst P (c.program.ensures ∙ c.stated.ensures) c.declared.ensures))

pub returns-in-Some : goal.returns-in-Some
returns-in-Some c =
    let P : Outline → Type 0 = λ v. IsTold v.items 0 c.args.name.now c.declared.result in
    let Q : Option ℕ → Type 0 = λ r. IsTold c.args.program.now.items 0 c.args.name.now r in
    intrinsic_some c.args.program.now.items c.args.name.now c.in-Some.place (subst Q c.in-Some.is (subst P (c.program.ensures ∙ c.stated.ensures) c.declared.ensures))
