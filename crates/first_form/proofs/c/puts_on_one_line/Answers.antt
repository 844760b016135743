use Rattle.std.proofs.Common.{arith, ap, length, sym, ◌∙◌}
use Rattle.std.proofs.lemmas.Slice.Eq.{bytes_eq-Decides}
use Rattle.first_form.specs.Forms.{closing_text}
use Rattle.first_form.proofs.PutTexts.{puts_are_there, puts_are_read}
use Rattle.first_form.proofs.c.puts_on_one_line.Goals as goal
use Rattle.first_form.proofs.c.puts_on_one_line.Goals.{else-not-is_empty-via-then-not-is_empty+then-len-le-MOST_PUTS+else-eq, else-not-is_empty-via-then-not-is_empty+else-len-le-MOST_PUTS, else-not-is_empty-via-else-not-is_empty}

pub returns-then-eq : goal.returns-then-eq
unfolding closing_text
returns-then-eq c = (
  record { some = grind arith; most = grind arith; arguments = c.in_ok-puts.ensures.are },
  puts_are_there c.args.text.now c.in_ok-puts.puts.items c.in_ok-puts.rest.now c.in_ok-puts.ensures
      ((bytes_eq-Decides c.in_ok-puts.rest.now c.as_slice.result.now).0 (sym c.if-eq.ensures) ∙ c.as_slice.ensures),
)

pub returns-else-not-is_empty : goal.returns-else-not-is_empty
unfolding closing_text
returns-else-not-is_empty c = λ puts are e.
    let read = puts_are_read c.args.text.now c.in_ok-puts.puts.items puts c.in_ok-puts.rest.now c.in_ok-puts.ensures are.arguments e in
    let as_many = ap length read.0 in
    elim c.else-not-is_empty.branch [
      | else-not-is_empty-via-then-not-is_empty+then-len-le-MOST_PUTS+else-eq w ↦
          (let same = (bytes_eq-Decides c.in_ok-puts.rest.now w.as_slice.result.now).1 (read.1 ∙ sym w.as_slice.ensures) in cc (same, w.if-eq.ensures))
      | else-not-is_empty-via-then-not-is_empty+else-len-le-MOST_PUTS w ↦ grind (arith, as_many, are.most)
      | else-not-is_empty-via-else-not-is_empty w ↦ grind (arith, as_many, are.some)
    ]
