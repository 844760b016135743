use Rattle.std.proofs.Common.{◌∙◌, ap, sym}
use Rattle.rv_machine.proofs.Keeps.{ran}
use Rattle.rv_machine.proofs.machine.Machine.step.Goals as goal

pub returns-in-Ran : goal.returns-in-Ran
returns-in-Ran c =
    ran c.args.self.now _ c.args.given (ap (λ s. s.mode) (sym c.self.view_is) ∙ c.in-Ready.is) c.in-Ran.ensures
