use Rattle.std.proofs.Common.{arith, rules, ap, length}
use Rattle.first_form.specs.Lines.{text_lines}
use Rattle.first_form.specs.Forms.{closing_text}
use Rattle.first_form.proofs.PutTexts.{put_lines_are_there, put_lines_are_read}
use Rattle.first_form.proofs.c.puts_on_lines.Goals as goal
use Rattle.first_form.proofs.c.puts_on_lines.Goals.{else-not-is_empty-via-then-not-is_empty+then-len-le-MOST_PUTS+else-is_only_line, else-not-is_empty-via-then-not-is_empty+else-len-le-MOST_PUTS, else-not-is_empty-via-else-not-is_empty}

pub returns-then-is_only_line : goal.returns-then-is_only_line
unfolding closing_text
returns-then-is_only_line c = (
  record { some = grind arith; most = grind arith; arguments = c.in_ok-puts.ensures.are },
  put_lines_are_there (text_lines c.args.text.now) c.in_ok-puts.puts.items (text_lines c.in_ok-puts.rest.now) c.in_ok-puts.ensures (c.if-is_only_line.ensures.0 (search rules)),
)

pub returns-else-not-is_empty : goal.returns-else-not-is_empty
unfolding closing_text
returns-else-not-is_empty c = λ puts are e.
    let read = put_lines_are_read (text_lines c.args.text.now) c.in_ok-puts.puts.items puts (text_lines c.in_ok-puts.rest.now) c.in_ok-puts.ensures are.arguments e in
    let as_many = ap length read.0 in
    elim c.else-not-is_empty.branch [
      | else-not-is_empty-via-then-not-is_empty+then-len-le-MOST_PUTS+else-is_only_line w ↦ search (rules, w.if-is_only_line.ensures.1 read.1)
      | else-not-is_empty-via-then-not-is_empty+else-len-le-MOST_PUTS w ↦ grind (arith, as_many, are.most)
      | else-not-is_empty-via-else-not-is_empty w ↦ grind (arith, as_many, are.some)
    ]
