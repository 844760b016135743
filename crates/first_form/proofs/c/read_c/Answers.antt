use Rattle.first_form.specs.Lines.{text_lines}
use Rattle.first_form.proofs.CTexts.{no_function, puts_behind}
use Rattle.first_form.proofs.c.read_c.Goals as goal

pub returns-in_default : goal.returns-in_default
returns-in_default c = no_function c.args.bytes.now c.args.label.now c.in_default.ensures

pub returns-in_default-2 : goal.returns-in_default-2
returns-in_default-2 c = λ puts h.
    let none = rw c.in_default-2.is at c.in_ok-puts.ensures in
    none puts h.are_puts (puts_behind c.args.bytes.now c.args.label.now c.in-Some.body.now (text_lines c.in-Some.rest.now) puts c.in-Some.ensures h)
