use Rattle.std.proofs.Common.{◌≡◌, sym, ◌∙◌, ap, reverse, subst}
use Rattle.jf_base.specs.declared.place.Place.{Place}
use Rattle.c_lines.specs.declared.rule.Fault.{Fault}
use Rattle.std.specs.Prelude.{Option}
use Rattle.c_directives.specs.Reads.{Read, broken}
use Rattle.c_directives.specs.Texts.{Work, text_at}
use Rattle.c_directives.specs.Reading.{State, Stand, Opens, is_live, with_opens, with_work, unless_ill, directive_at, hash_place}
use Rattle.c_directives.specs.Sorting.{state_of, Sorted, text_line}
use Rattle.c_directives.proofs.Sorted.{text_is, directive_line, work_fails, sorted_broken}
use Rattle.c_directives.proofs.line.sort.Goals as goal

pub returns-in-Err-clause-sorts : goal.returns-in-Err-clause-sorts
returns-in-Err-clause-sorts c = λ k including.
    let s : State = state_of k c.args.pre.now in
    let os : Opens = reverse c.args.opens.now.items in
    work_fails c.in-Err.stop _ k c.args.pre.now _ os _ os including s _ _ c.in-Err.ensures.says
    (text_is including c.args.limit c.args.origin os s c.args.row.now c.head_at-head.result.0 c.head_at-head.result.1.now c.head_at-head.ensures c.in-Text.is
    ∙ ap (λ o. with_opens os (with_work s (text_line c.args.limit c.args.origin (is_live (reverse o)) s.work c.args.row.now c.head_at-head.result.1.now))) (sym c.deref.ensures.value))

pub returns-in-Ok-clause-sorts : goal.returns-in-Ok-clause-sorts
returns-in-Ok-clause-sorts c = λ k including.
    let s : State = state_of k c.args.pre.now in
    let os : Opens = reverse c.args.opens.now.items in
    text_is including c.args.limit c.args.origin os s c.args.row.now c.head_at-head.result.0 c.head_at-head.result.1.now c.head_at-head.ensures c.in-Text.is
    ∙ ap (λ o. with_opens os (with_work s (text_line c.args.limit c.args.origin (is_live (reverse o)) s.work c.args.row.now c.head_at-head.result.1.now))) (sym c.deref.ensures.value)
    ∙ ap (λ r. with_opens os (with_work s r)) c.in-Ok.ensures.says

pub returns-in-Some-clause-sorts : goal.returns-in-Some-clause-sorts
returns-in-Some-clause-sorts c = λ k including.
    let s : State = state_of k c.args.pre.now in
    let os : Opens = reverse c.args.opens.now.items in
    let rest : Read Stand = directive_at including c.head_at-head.result.0 (os, s) (hash_place c.args.origin c.args.row.now) c.head_at-head.result.1.now in
    sorted_broken c.breaks.result k c.args.pre.now c.args.pre.now os os including c.in-Some.fault.rule c.place_of.result _ c.breaks.ensures
    (directive_line including c.args.limit c.args.origin os s c.args.row.now c.head_at-head.result.0 c.head_at-head.result.1.now c.head_at-head.ensures c.in_default.not-Text
    ∙ ap (λ (o : Option Fault). unless_ill c.args.origin o rest) (sym c.in-Some.ensures) ∙ ap (λ (p : Place). broken c.in-Some.fault.rule p) (sym c.place_of.ensures))

pub returns-in-None-clause-sorts : goal.returns-in-None-clause-sorts
returns-in-None-clause-sorts c = λ k including.
    let s : State = state_of k c.args.pre.now in
    let os : Opens = reverse c.args.opens.now.items in
    let rest : Place → Read Stand = λ p. directive_at including c.head_at-head.result.0 (os, s) p c.head_at-head.result.1.now in
    let P : Read Stand → Type 0 = λ d. Sorted c.directive.result k c.args.pre.now c.directive.new.pre os (reverse c.directive.new.opens.items) including d in
    subst P (sym (directive_line including c.args.limit c.args.origin os s c.args.row.now c.head_at-head.result.0 c.head_at-head.result.1.now c.head_at-head.ensures c.in_default.not-Text
    ∙ ap (λ (o : Option Fault). unless_ill c.args.origin o (rest (hash_place c.args.origin c.args.row.now))) (sym c.in-None.ensures) ∙ ap rest (sym c.hash_place-place.ensures)))
    (c.directive.ensures.sorts k including)
