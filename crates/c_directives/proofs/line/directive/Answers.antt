use Rattle.std.proofs.Common.{◌≡◌, sym, ◌∙◌, ap, reverse, refl, Ok}
use Rattle.c_define.specs.Numbers.{Tables, macros_of}
use Rattle.c_directives.specs.Reading.{State, Stand, is_live, and_state}
use Rattle.c_directives.specs.Reads.{Read}
use Rattle.c_directives.specs.Sorting.{state_of}
use Rattle.c_directives.proofs.Sorted.{turned, acted, passed, turn_fails}
use Rattle.c_directives.proofs.line.directive.Goals as goal

pub returns-in-Err-clause-sorts : goal.returns-in-Err-clause-sorts
returns-in-Err-clause-sorts c = λ k including.
    let s : State = state_of k c.args.pre.now in
    turn_fails c.in-Err.stop _ k c.args.pre.now _ (reverse c.args.opens.now.items) _ including s _ _ c.in-Err.ensures.says
    (turned including c.args.head s (reverse c.args.opens.now.items) c.args.place c.args.tail.now (sym c.is_conditional.ensures ∙ c.if-is_conditional.true))

pub returns-in-Ok-clause-sorts : goal.returns-in-Ok-clause-sorts
returns-in-Ok-clause-sorts c = λ k including.
    let s : State = state_of k c.args.pre.now in
    let done : Tables → Read Stand = λ m. Ok (reverse c.turn_at.new.opens.items, record { work = record { macros = macros_of m; out = c.args.pre.now.out.items }; calls = k }) in
    turned including c.args.head s (reverse c.args.opens.now.items) c.args.place c.args.tail.now (sym c.is_conditional.ensures ∙ c.if-is_conditional.true)
    ∙ ap (and_state s) c.in-Ok.ensures.says ∙ ap done (sym c.in-Ok.ensures.same)

pub returns-then-is_live-clause-sorts : goal.returns-then-is_live-clause-sorts
returns-then-is_live-clause-sorts c = λ k including.
    (refl, refl, acted including c.args.head (state_of k c.args.pre.now) (reverse c.args.opens.now.items) c.args.place c.args.tail.now (sym c.is_conditional.ensures ∙ c.if-is_conditional.false) (sym (c.is_live.ensures ∙ ap (λ l. is_live (reverse l)) c.deref.ensures.value) ∙ c.if-is_live.true))

pub returns-else-is_live-clause-sorts : goal.returns-else-is_live-clause-sorts
returns-else-is_live-clause-sorts c = λ k including.
    passed including c.args.head (state_of k c.args.pre.now) (reverse c.args.opens.now.items) c.args.place c.args.tail.now (sym c.is_conditional.ensures ∙ c.if-is_conditional.false) (sym (c.is_live.ensures ∙ ap (λ l. is_live (reverse l)) c.deref.ensures.value) ∙ c.if-is_live.false)
