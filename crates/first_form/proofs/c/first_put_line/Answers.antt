use Rattle.std.proofs.Common.{◌∙◌, sym, ap, length, arith}
use Rattle.std.proofs.lemmas.List.{append-nil}
use Rattle.first_form.specs.Forms.{put_text}
use Rattle.first_form.proofs.Fronts.{head_of}
use Rattle.first_form.proofs.PutTexts.{whole_put}
use Rattle.first_form.proofs.c.first_put_line.Goals as goal

pub returns-in_err-argument-clause-lines : goal.returns-in_err-argument-clause-lines
returns-in_err-argument-clause-lines c =
    rw c.from_residual-in_err-argument.ensures (λ a rest is e. c.in_err-argument.ensures.statement a _ is (head_of c.in_ok-line.ensures.lines e ∙ sym (append-nil (put_text a))))

pub returns-else-is_empty-clause-lines : goal.returns-else-is_empty-clause-lines
returns-else-is_empty-clause-lines c = λ a rest is e.
    let same = whole_put c.in_ok-line.line.now c.in_ok-argument.argument a c.in_ok-argument.behind.now c.in_ok-argument.ensures.statement.0 is c.in_ok-argument.ensures.statement.1
    (head_of c.in_ok-line.ensures.lines e) in
    let none = ap length same.1 in
    grind (arith, none)
