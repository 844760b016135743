use Rattle.std.proofs.Common.{◌≡◌, ◌+◌, ◌++◌, ◌∷◌, [], ℕ, suc, length, ap, ◌∙◌, subst, arith}
use Rattle.std.proofs.lemmas.List.{length-append}
use Rattle.f_scope.specs.Rows.{host_in}
use Rattle.f_order.specs.Units.{unit_by, AreNumbers}
use Rattle.f_order.proofs.Numbers.{numbers_next}
use Rattle.f_order.proofs.units.unit_numbers.Goals as goal

pub scopes-preserved : goal.scopes-preserved
scopes-preserved c =
    let rows = c.args.scopes.now in
    let s = c.scopes.scope in
    let test = c.scopes-test.true in
    let pushed = c.in_ok-push.ensures.items in
    let long = c.scopes.invariant.long in
    let more = length-append c.scopes.units.items (c.unit_by-unit.result ∷ []) in
    let grown : length c.push.new.self.items ≡ length (c.scopes.units.items ++ c.unit_by-unit.result ∷ []) = ap length pushed in
    let is : c.unit_by-unit.result ≡ unit_by c.scopes.units.items (host_in rows s) s = c.unit_by-unit.ensures ∙ ap (λ l. unit_by l c.host_in.result s) c.as_slice.ensures.value ∙ ap (λ h. unit_by c.scopes.units.items h s) c.host_in.ensures in
    let next : suc s ≡ s + 1 = omega arith in
    let Q : ℕ → Type 0 = λ j. AreNumbers rows c.push.new.self.items j in
    record {
      within = omega (arith, test);
      long = omega (arith, grown, more, long);
      known = subst Q next (numbers_next rows c.requires c.scopes.units.items c.push.new.self.items s c.unit_by-unit.result long pushed is c.scopes.invariant.known);
    }
