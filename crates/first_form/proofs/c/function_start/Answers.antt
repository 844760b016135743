use Rattle.first_form.specs.Lines.{text_lines}
use Rattle.first_form.specs.Forms.{include_line}
use Rattle.first_form.proofs.CTexts.{opening_line, behind_type, behind_label, start_is_there}
use Rattle.first_form.proofs.c.function_start.Goals as goal

pub returns-in_err-text : goal.returns-in_err-text
unfolding include_line
returns-in_err-text c = rw c.from_residual.ensures (λ body rest e. c.in_err-text.ensures _ e)

pub returns-in_err-behind_type : goal.returns-in_err-behind_type
unfolding include_line
returns-in_err-behind_type c =
    rw c.from_residual-in_err-behind_type.ensures
    (λ body rest e. c.in_err-behind_type.ensures _
    (opening_line (text_lines c.args.text.now) (text_lines c.in_ok-text.text.now) (text_lines c.in_ok-line.rest.now) c.in_ok-line.line.now c.args.label.now body rest c.in_ok-text.ensures c.in_ok-line.ensures.lines e))

pub returns-in_err-behind_label : goal.returns-in_err-behind_label
unfolding include_line
returns-in_err-behind_label c =
    rw c.from_residual-in_err-behind_label.ensures
    (λ body rest e. c.in_err-behind_label.ensures _
    (behind_type c.in_ok-line.line.now c.in_ok-behind_type.behind_type.now c.args.label.now body c.in_ok-behind_type.ensures
    (opening_line (text_lines c.args.text.now) (text_lines c.in_ok-text.text.now) (text_lines c.in_ok-line.rest.now) c.in_ok-line.line.now c.args.label.now body rest c.in_ok-text.ensures c.in_ok-line.ensures.lines e)))

pub returns-in_err-body : goal.returns-in_err-body
unfolding include_line
returns-in_err-body c =
    rw c.from_residual-in_err-body.ensures
    (λ body rest e. c.in_err-body.ensures body
    (behind_label c.in_ok-line.line.now c.in_ok-behind_type.behind_type.now c.in_ok-behind_label.behind_label.now c.args.label.now body c.in_ok-behind_type.ensures c.in_ok-behind_label.ensures
    (opening_line (text_lines c.args.text.now) (text_lines c.in_ok-text.text.now) (text_lines c.in_ok-line.rest.now) c.in_ok-line.line.now c.args.label.now body rest c.in_ok-text.ensures c.in_ok-line.ensures.lines e)))

pub returns : goal.returns
unfolding include_line
returns c =
    start_is_there (text_lines c.args.text.now) (text_lines c.in_ok-text.text.now) (text_lines c.in_ok-line.rest.now) c.in_ok-line.line.now c.in_ok-behind_type.behind_type.now c.in_ok-behind_label.behind_label.now
    c.args.label.now c.in_ok-body.body.now c.in_ok-text.ensures c.in_ok-line.ensures.lines c.in_ok-behind_type.ensures c.in_ok-behind_label.ensures c.in_ok-body.ensures
