use Rattle.std.proofs.Common.{◌≡◌, ◌≤◌, ◌+◌, List, ℕ, length, sym, ap, ◌∙◌, arith}
use Rattle.rv_machine.specs.Memory.{stored}
use Rattle.rv_machine.proofs.Kept.{agree_stored, length-stored, written_back}
use Rattle.rv_machine.proofs.machine.Machine.store_64.Goals as goal

pub invariant_of-self : goal.invariant_of-self
invariant_of-self c =
    let items : List ℕ = c.self.inside.memory.items in
    let new : List ℕ = c.write_64.new.memory in
    let at : ℕ = c.in-Ok.at in
    let value : ℕ = c.args.value in
    let same : c.args.self.now.memory ≡ items = ap (λ s. s.memory) (sym c.self.view_is) in
    let fits : at + 8 ≤ length items = omega (arith, c.in-Ok.ensures.fits, ap length same) in
    let is : new ≡ stored items at 8 value = c.write_64.ensures ∙ ap (λ m. stored m at 8 value) c.deref_mut.ensures.value in
    let len : ℕ = c.self.inside.memory.len in
    let whole : length items ≡ len = omega (arith, c.deref_mut.ensures.len, ap length c.deref_mut.ensures.value) in
    let same_length : length new ≡ len = omega (arith, ap length is, length-stored items 8 at value fits, whole) in
    let back = written_back items new len same_length whole in
    agree_stored _ items _ _ _ 8 at value c.self.invariant c.in-Ok.ensures.behind fits (back ∙ is)
