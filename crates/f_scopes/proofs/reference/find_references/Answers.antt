use Rattle.std.proofs.Common.{◌≡◌, ◌++◌, ◌∷◌, ℕ, List, [], Option, length, sym, ap, ◌∙◌, subst, arith}
use Rattle.std.proofs.lemmas.List.{length-append}
use Rattle.f_scope.specs.Program.{Outline}
use Rattle.f_scopes.specs.References.{AreFirst}
use Rattle.f_scopes.proofs.Referring.{first_none, first_next}
use Rattle.f_scopes.proofs.reference.find_references.Goals as goal

pub items-init : goal.items-init
items-init c =
    let p = c.args.program.now.items in
    let empty = c.new-found.ensures.items in
    let F : List (Option ℕ) → Type 0 = λ f. AreFirst p f in
    record {
      within = omega arith;
      long = ap length empty;
      first = subst F (sym empty) (first_none p);
    }

pub items-preserved : goal.items-preserved
items-preserved c =
    let p = c.args.program.now.items in
    let test = c.items-test.true in
    let long = c.items.invariant.long in
    let pushed = c.in_ok-push.ensures.items in
    let more = length-append c.items.found.items (c.reference_at.result ∷ []) in
    let grown : length c.push.new.self.items ≡ length (c.items.found.items ++ c.reference_at.result ∷ []) = ap length pushed in
    record {
      within = omega (arith, test);
      long = omega (arith, grown, more, long);
      first = first_next p c.items.found.items c.push.new.self.items c.reference_at.result c.items.place long c.items.invariant.first c.reference_at.ensures pushed;
    }

pub returns : goal.returns
returns c =
    let p = c.args.program.now.items in
    let test = c.items-test.false in
    let within = c.items.invariant.within in
    let long = c.items.invariant.long in
    let N : Outline → ℕ = λ o. length o.items in
    let count = c.item_count-count.ensures ∙ ap N (c.program.ensures ∙ c.stated.ensures) in
    record { count = omega (arith, test, within, long, count); each = c.items.invariant.first }
