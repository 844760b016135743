use Rattle.std.proofs.Common.{arith, rules, ap, length}
use Rattle.first_form.specs.Lines.{text_lines}
use Rattle.first_form.specs.Forms.{end_line}
use Rattle.first_form.proofs.CallLines.{calls_are_there, calls_are_read}
use Rattle.first_form.proofs.fortran.program_calls.Goals as goal
use Rattle.first_form.proofs.fortran.program_calls.Goals.{else-not-is_empty-via-then-not-is_empty+then-len-le-MOST_CALLS+else-is_only_line, else-not-is_empty-via-then-not-is_empty+else-len-le-MOST_CALLS, else-not-is_empty-via-else-not-is_empty}

pub returns-then-is_only_line : goal.returns-then-is_only_line
unfolding end_line
returns-then-is_only_line c = (
  record { some = grind arith; most = grind arith; numbers = c.in_ok-calls.ensures.are },
  calls_are_there c.args.label.now (text_lines c.args.text.now) c.in_ok-calls.calls.items (text_lines c.in_ok-calls.rest.now) c.in_ok-calls.ensures (c.if-is_only_line.ensures.0 (search rules)),
)

pub returns-else-not-is_empty : goal.returns-else-not-is_empty
unfolding end_line
returns-else-not-is_empty c = λ calls are e.
    let read = calls_are_read c.args.label.now (text_lines c.args.text.now) c.in_ok-calls.calls.items calls (text_lines c.in_ok-calls.rest.now) c.in_ok-calls.ensures are.numbers e in
    let as_many = ap length read.0 in
    elim c.else-not-is_empty.branch [
      | else-not-is_empty-via-then-not-is_empty+then-len-le-MOST_CALLS+else-is_only_line w ↦ search (rules, w.if-is_only_line.ensures.1 read.1)
      | else-not-is_empty-via-then-not-is_empty+else-len-le-MOST_CALLS w ↦ grind (arith, as_many, are.most)
      | else-not-is_empty-via-else-not-is_empty w ↦ grind (arith, as_many, are.some)
    ]
