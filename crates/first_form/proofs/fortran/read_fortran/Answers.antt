use Rattle.std.proofs.Common.{rules}
use Rattle.first_form.specs.Lines.{text_lines}
use Rattle.first_form.proofs.FortranTexts.{no_interface, no_words, no_calls}
use Rattle.first_form.proofs.fortran.read_fortran.Goals as goal
use Rattle.first_form.proofs.fortran.read_fortran.Goals.{then-not-is_name-via-then-not-is_name, then-not-is_name-via-else-not-is_name+then-not-is_label}

pub returns-in_default-interface : goal.returns-in_default-interface
returns-in_default-interface c = no_interface c.args.bytes.now c.in-Some.name.now (text_lines c.in-Some.text.now) c.in-Some.ensures c.in_default-interface.ensures

pub returns-then-not-is_name : goal.returns-then-not-is_name
returns-then-not-is_name c =
    no_words c.args.bytes.now c.in-Some.name.now c.in-Some-interface.label.now (text_lines c.in-Some.text.now) (text_lines c.in-Some-interface.text.now) c.in-Some.ensures c.in-Some-interface.ensures
    (λ is_name is_label. elim c.then-not-is_name.branch [
      | then-not-is_name-via-then-not-is_name w ↦ search (rules, w.if-not-is_name.ensures.1 is_name)
      | then-not-is_name-via-else-not-is_name+then-not-is_label w ↦ search (rules, w.if-not-is_label.ensures.1 is_label)
    ])

pub returns-in_default-2 : goal.returns-in_default-2
returns-in_default-2 c =
    no_calls c.args.bytes.now c.in-Some.name.now c.in-Some-interface.label.now (text_lines c.in-Some.text.now) (text_lines c.in-Some-interface.text.now) c.in-Some.ensures c.in-Some-interface.ensures
    (rw c.in_default-2.is at c.in_ok-calls.ensures)
