use Rattle.std.proofs.Common.{◌≡◌, [], sym, ◌∙◌, arith}
use Rattle.std.proofs.lemmas.Grind.{common_steps}
use Rattle.linker.proofs.Firsts.{first_again, first_lost, first_alone}
use Rattle.linker.proofs.fault.fault_of.Goals as goal
use Rattle.linker.proofs.fault.fault_of.Goals.{then-not-is_empty+else-is_before, else-not-is_empty}

pub returns-then-is_before : goal.returns-then-is_before
returns-then-is_before c =
    first_again c.args.missing.now c.args.twice.now c.first_of-lost.result.now c.first_of-again.result.now c.in_ok-clone-2.field-0
    c.first_of-lost.ensures c.first_of-again.ensures (sym c.is_before.ensures ∙ c.if-is_before.true) c.in_ok-clone-2.ensures.cases

pub returns : goal.returns
returns c =
    let missing = c.args.missing.now in
    let twice = c.args.twice.now in
    let lost = c.first_of-lost.result.now in
    let name = c.in_ok-clone-3.field-0 in
    let e = c.in_ok-clone-3.ensures.cases in
    elim c.if-not-is_empty.branch [
      | then-not-is_empty+else-is_before w ↦
          first_lost missing twice lost w.first_of-again.result.now name c.first_of-lost.ensures w.first_of-again.ensures (sym w.is_before.ensures ∙ w.if-is_before.false) e
      | else-not-is_empty w ↦ (let none : twice ≡ [] = grind (arith, common_steps) in first_alone missing twice lost name c.first_of-lost.ensures none e)
    ]
