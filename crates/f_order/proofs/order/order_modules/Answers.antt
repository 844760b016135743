use Rattle.std.proofs.Common.{◌≡◌, ℕ, List, Bool, Option, ap, ◌∙◌, subst}
use Rattle.f_use.specs.Places.{list_at}
use Rattle.f_order.specs.Ready.{State, released, AreUsers, AreReady, TakesFirst}
use Rattle.f_order.proofs.Waits.{waits_first, progress_fewer, progress_next, progress_last}
use Rattle.f_order.proofs.order.order_modules.Goals as goal

pub modules-init : goal.modules-init
modules-init c =
    let m = c.args.graph.now.modules.now in
    let e = c.args.graph.now.edges.now in
    let w = c.in_ok-waiting.waiting in
    let P : List Bool → Type 0 = λ d. AreReady m d w.counts.items w.ready.keys in
    record {
      are = c.requires.done;
      waits = waits_first m c.args.done.now.items e c.args.program.now.scopes (w.counts.items, w.ready.keys) c.requires.none c.in_ok-waiting.ensures.counts (subst P c.as_slice.ensures.value c.in_ok-waiting.ensures.ready);
    }

pub modules-smaller : goal.modules-smaller
modules-smaller c =
    let m = c.args.graph.now.modules.now in
    let e = c.args.graph.now.edges.now in
    let s : State = (c.modules.waiting.counts.items, c.modules.waiting.ready.keys) in
    let behind = c.next_module.new.waiting.ready.keys in
    let Q : Option ℕ → Type 0 = λ r. TakesFirst c.modules.waiting.ready.keys r behind in
    let first = subst Q c.in-Some.is c.next_module.ensures.first in
    progress_fewer c.args.program.now c.args.graph.now.units.now m e c.requires.graph c.modules.order.items c.modules.done.items s c.modules.invariant c.in-Some.unit behind first c.take.new.done.items c.in_ok-take.ensures.done

pub modules-preserved : goal.modules-preserved
modules-preserved c =
    let m = c.args.graph.now.modules.now in
    let e = c.args.graph.now.edges.now in
    let u = c.in-Some.unit in
    let users = c.in_ok-users.users.items in
    let marks = c.take.new.done.items in
    let s : State = (c.modules.waiting.counts.items, c.modules.waiting.ready.keys) in
    let behind = c.next_module.new.waiting.ready.keys in
    let Q : Option ℕ → Type 0 = λ r. TakesFirst c.modules.waiting.ready.keys r behind in
    let first = subst Q c.in-Some.is c.next_module.ensures.first in
    let counts = c.next_module.new.waiting.counts.items in
    let t : State = (c.release.new.waiting.counts.items, c.release.new.waiting.ready.keys) in
    let P : ℕ → Type 0 = λ n. AreUsers n e users in
    let is : t ≡ released m marks (list_at users u) (c.modules.waiting.counts.items, behind) =
    c.in_ok-release.ensures
    ∙ ap (λ d. released m d c.places_in-using.result.now (counts, behind)) c.as_slice-in-Some-2.ensures.value
    ∙ ap (λ us. released m marks us (counts, behind)) (c.places_in-using.ensures ∙ ap (λ l. list_at l u) c.as_slice-in-Some.ensures.value)
    ∙ ap (λ cs. released m marks (list_at users u) (cs, behind)) c.next_module.ensures.counts in
    progress_next c.args.program.now c.args.graph.now.units.now m e c.requires.graph c.modules.order.items c.modules.done.items s c.modules.invariant u behind first users (subst P c.scope_count.ensures c.in_ok-users.ensures) c.take.new.order.items marks t c.in_ok-take.ensures.order c.in_ok-take.ensures.done is

pub returns : goal.returns
returns c =
    let m = c.args.graph.now.modules.now in
    let e = c.args.graph.now.edges.now in
    let s : State = (c.modules.waiting.counts.items, c.modules.waiting.ready.keys) in
    let behind = c.next_module.new.waiting.ready.keys in
    let Q : Option ℕ → Type 0 = λ r. TakesFirst c.modules.waiting.ready.keys r behind in
    record {
      are = c.modules.invariant.are;
      none_next = progress_last c.args.program.now c.args.graph.now.units.now m e c.requires.graph c.modules.order.items c.modules.done.items s c.modules.invariant behind (subst Q c.in_default.is c.next_module.ensures.first);
    }
