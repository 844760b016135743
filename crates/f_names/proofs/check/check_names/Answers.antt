use Rattle.std.proofs.Common.{◌≡◌, ℕ, List, [], sym, subst}
use Rattle.f_items.specs.Places.{Located, located}
use Rattle.f_items.specs.Scoped.{IsNamedTwice}
use Rattle.f_scope.specs.declared.program.Begun.{Begun}
use Rattle.f_scope.specs.Begun.{IsBegun}
use Rattle.f_names.proofs.check.check_names.Goals as goal

pub check_begun-requires : goal.check_begun-requires
check_begun-requires c =
    let B : Begun → Type 0 = λ b. IsBegun (located 1 [] c.args.items.items) b in
    let is = subst B c.in-Begins.is c.in_ok-place.ensures in
    let N : List Located → Type 0 = λ l. (k : ℕ) → IsNamedTwice l k → ⊥ in
    record { names = subst N (sym is.0) is.1 }
