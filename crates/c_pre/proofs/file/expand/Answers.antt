use Rattle.std.proofs.Common.{◌≡◌, ℕ, ◌+◌, ◌-◌, List, Result, Ok, Err, ap, sym, ◌∙◌, refl, subst}
use Rattle.c_define.specs.Numbers.{macros_of}
use Rattle.c_define.specs.Definitions.{Macros}
use Rattle.c_token.specs.declared.token.CSpanned.{CSpanned}
use Rattle.c_directives.specs.Texts.{Work}
use Rattle.c_directives.specs.Conditions.{most_tokens}
use Rattle.c_directives.specs.Sorting.{state_of}
use Rattle.c_pre.specs.declared.file.PreFault.{PreFault}
use Rattle.c_pre.specs.Files.{FaultCounts, FaultStrays, IsOfRule, Told, expanded_at}
use Rattle.c_pre.proofs.Acting.{told_counts, told_strays, told_rule, all_given, all_fails}
use Rattle.c_pre.proofs.file.expand.Goals as goal

pub returns-in-Err-clause-cause : goal.returns-in-Err-clause-cause
returns-in-Err-clause-cause g c =
    let P : PreFault → Type 0 = λ f. FaultCounts (Err f) (g.L.Library.faults c.args.library.now) (g.L.Library.faults c.read.new.library) in
    subst P (sym c.fault_of.ensures) (told_counts c.in-Err.stop _ _ c.in-Err.ensures.cause)

pub returns-in-Err-clause-strays : goal.returns-in-Err-clause-strays
returns-in-Err-clause-strays g c = λ fs fe.
    let P : PreFault → Type 0 = λ f. FaultStrays (Err f) fs (g.L.Library.strays c.args.library.now) (g.L.Library.strays c.read.new.library) in
    subst P (sym c.fault_of.ensures) (told_strays c.in-Err.stop fs _ _ (c.in-Err.ensures.strays fs fe))

pub returns-in-Err-clause-gives : goal.returns-in-Err-clause-gives
returns-in-Err-clause-gives g c = λ fs fe.
    let a = c.in-Err.ensures.gives fs fe in
    let w : Work = record { macros = macros_of c.new.result; out = c.new-2.result.items } in
    let we : Macros → List CSpanned → Work = λ m o. record { macros = m; out = o } in (
      a.0,
      λ k. let P : PreFault → Type 0 = λ f. Told (Err f) k (expanded_at fs c.args.file c.args.before c.args.bytes.now (a.0 + k)) in
          subst P (sym c.fault_of.ensures)
          (all_fails fs c.args.file c.args.before c.args.bytes.now w (most_tokens - c.args.before) (ap (λ m. we m c.new-2.result.items) c.new.ensures ∙ ap (we _) c.new-2.ensures.items) refl k (a.0 + k) c.in-Err.stop (state_of k c.read.new.pre) (a.1 k)),
    )

pub returns-in-Ok-clause-gives : goal.returns-in-Ok-clause-gives
returns-in-Ok-clause-gives g c = λ fs fe.
    let a = c.in-Ok.ensures.gives fs fe in
    let w : Work = record { macros = macros_of c.new.result; out = c.new-2.result.items } in
    let we : Macros → List CSpanned → Work = λ m o. record { macros = m; out = o } in (
      a.0,
      λ k. all_given fs c.args.file c.args.before c.args.bytes.now w (most_tokens - c.args.before) (ap (λ m. we m c.new-2.result.items) c.new.ensures ∙ ap (we _) c.new-2.ensures.items) refl k (a.0 + k) (state_of k c.read.new.pre) c.read.new.pre.out refl (a.1 k),
    )

pub returns-in-Err-clause-rule : goal.returns-in-Err-clause-rule
returns-in-Err-clause-rule g c =
    let P : PreFault → Type 0 = λ f. IsOfRule (Err f) in
    subst P (sym c.fault_of.ensures) (told_rule c.in-Err.stop)
