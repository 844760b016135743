use Rattle.std.proofs.Common.{◌≡◌, ◌++◌, ap, sym, ◌∙◌, List, Bool, false, length, subst, take, drop, arith}
use Rattle.std.proofs.Math.ListN.{set, length-set}
use Rattle.c_macros.specs.Stack.{texts}
use Rattle.c_macros.specs.Remembering.{Remembers}
use Rattle.c_macros.proofs.Kept.{written_back, unmade_keeps}
use Rattle.c_macros.proofs.macros.MacroTable.undefine.Goals as goal

pub invariant_of-self : goal.invariant_of-self
invariant_of-self c =
    let bodies = texts c.self.inside.bodies.items in
    let on = c.self.inside.on.items in
    let void = c.forget_with.new.void in
    let flags = c.set.new.flags in
    let back : take c.self.inside.void.len (void ++ drop (length void) c.self.inside.void.items) ≡ void
    = written_back void (drop (length void) c.self.inside.void.items) c.self.inside.void.len (let k = c.self.inside.void.ok.0 in let a = c.forget_with.auto.void in let v = ap length c.deref_mut.ensures.value in omega arith) in
    let down : take c.self.inside.on.len (flags ++ drop (length flags) on) ≡ flags
    = written_back flags (drop (length flags) on) c.self.inside.on.len (let k = c.self.inside.on.ok.0 in let a = ap length c.set.ensures in let v = ap length c.deref_mut-2.ensures.value in let s = length-set c.deref_mut-2.result.now c.args.name false in omega arith) in
    let right = c.forget_with.ensures.right bodies on (subst (λ (l : List Bool). Remembers bodies on l) (sym c.deref_mut.ensures.value) c.self.invariant.remembers) in
    unmade_keeps bodies on (take c.self.inside.on.len (flags ++ drop (length flags) on)) void (take c.self.inside.void.len (void ++ drop (length void) c.self.inside.void.items)) c.forget_with.new.remembered.items c.args.name right c.forget_with.ensures.tracked c.forget_with.ensures.down
    (down ∙ c.set.ensures ∙ ap (λ l. set l c.args.name false) c.deref_mut-2.ensures.value) back
