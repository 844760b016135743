use Rattle.std.proofs.Common.{◌≡◌, length, arith, subst}
use Rattle.f_scope.specs.Program.{Outline}
use Rattle.f_use.proofs.associated.no_tables.Goals as goal

pub returns : goal.returns
returns c =
    let P : Outline → Type 0 = λ v. length c.parts.result.scopes.now ≡ v.scopes in
    let scopes = subst P c.program.ensures c.parts.ensures.scopes_are in
    let k = c.scopes.tables.ok.0 in
    let within = c.scopes.invariant in
    let ended = c.scopes-test.false in
    let len = c.len.ensures in
    omega (arith, scopes, k, within, ended, len)
