use Rattle.std.proofs.Common.{◌<◌, ◌≤◌, ◌-◌, length, Some, sym, ap, ◌∙◌, arith}
use Rattle.c_condition.specs.declared.marks.Joint.TheVariants as joint
use Rattle.c_condition.specs.Reading.{and_then, values, inner, links_at, level_at, conditional_at, commas_at}
use Rattle.c_condition.proofs.Steps.{level_above, level_zero, whole_above, operand_above, whole_zero, operand_zero, level_shorter, conditional_shorter, behind_shorter, links_end, links_stuck, links_more, settled_found, settled_next, conditional_stuck, conditional_end, middle_stuck, colon_stuck, last_shorter, conditional_more, commas_end, commas_stuck, commas_more, whole_read, whole_stuck}
use Rattle.c_condition.proofs.Complete.{infix_shorter}
use Rattle.c_condition.proofs.reader.+expression.Goals as goal

-- ---- one nesting less

pub nested_whole-returns-then-nestings-eq0 : goal.nested_whole-returns-then-nestings-eq0
nested_whole-returns-then-nestings-eq0 _ c = whole_zero values c.args.nestings c.args.tokens.now c.if-nestings-eq0.true

pub nested_whole-returns-else-nestings-eq0 : goal.nested_whole-returns-else-nestings-eq0
nested_whole-returns-else-nestings-eq0 _ c = c.whole_at.ensures ∙ whole_above values c.args.nestings c.args.tokens.now (grind (arith, c.if-nestings-eq0.false))

pub nested_operand-returns-then-nestings-eq0 : goal.nested_operand-returns-then-nestings-eq0
nested_operand-returns-then-nestings-eq0 _ c = operand_zero values c.args.nestings c.args.tokens.now c.if-nestings-eq0.true

pub nested_operand-returns-else-nestings-eq0 : goal.nested_operand-returns-else-nestings-eq0
nested_operand-returns-else-nestings-eq0 _ c = c.operand_at.ensures ∙ operand_above values c.args.nestings c.args.tokens.now (grind (arith, c.if-nestings-eq0.false))

-- ---- operators of a height

pub level_at-returns-then-height-eq0 : goal.level_at-returns-then-height-eq0
level_at-returns-then-height-eq0 _ c = c.operand_at.ensures ∙ level_zero values (inner values c.args.nestings) c.args.height c.args.tokens.now c.if-height-eq0.true

pub level_at-returns-in-None : goal.level_at-returns-in-None
level_at-returns-in-None _ c = let r = inner values c.args.nestings in let positive : 1 ≤ c.args.height = grind (arith, c.if-height-eq0.false) in
    sym (level_above values r c.args.height c.args.tokens.now positive
    ∙ ap (λ o. and_then o (λ x. links_at values (level_at values r (c.args.height - 1)) c.args.height (length x.1) x.0 x.1)) (sym c.in-None.ensures))

pub level_at-operators-init : goal.level_at-operators-init
level_at-operators-init _ c = let r = inner values c.args.nestings in let positive : 1 ≤ c.args.height = grind (arith, c.if-height-eq0.false) in (
  length c.in-Some.found.1.now,
  omega arith,
  sym (level_above values r c.args.height c.args.tokens.now positive
      ∙ ap (λ o. and_then o (λ x. links_at values (level_at values r (c.args.height - 1)) c.args.height (length x.1) x.0 x.1)) (sym c.in-Some.ensures)),
)

pub level_at-returns-in-None-level_at : goal.level_at-returns-in-None-level_at
level_at-returns-in-None-level_at _ c = let r = inner values c.args.nestings in let i = c.operators.invariant in
    sym (sym i.2 ∙ links_stuck values (level_at values r (c.args.height - 1)) c.args.height i.0 c.operators.left c.operators.rest.now (c.in-Some-infix_at.operator, c.in-Some-infix_at.behind.now) i.1
    (sym c.in-Some-infix_at.ensures) (sym c.in-None-level_at.ensures))

pub level_at-operators-smaller : goal.level_at-operators-smaller
level_at-operators-smaller _ c =
    let s : length c.in-Some-infix_at.behind.now < length c.operators.rest.now = infix_shorter c.args.height c.operators.rest.now (c.in-Some-infix_at.operator, c.in-Some-infix_at.behind.now) (sym c.in-Some-infix_at.ensures) in
    let t : length c.in-Some-level_at.tail.now < length c.in-Some-infix_at.behind.now = level_shorter values c.args.nestings (c.args.height - 1) c.in-Some-infix_at.behind.now (c.in-Some-level_at.right, c.in-Some-level_at.tail.now) (sym c.in-Some-level_at.ensures) in
    let u : length c.in-Some-level_at.tail.now < length c.operators.rest.now = omega arith in u

pub level_at-operators-preserved : goal.level_at-operators-preserved
level_at-operators-preserved _ c = let r = inner values c.args.nestings in let i = c.operators.invariant in
    let t : length c.in-Some-level_at.tail.now < length c.in-Some-infix_at.behind.now = level_shorter values c.args.nestings (c.args.height - 1) c.in-Some-infix_at.behind.now (c.in-Some-level_at.right, c.in-Some-level_at.tail.now) (sym c.in-Some-level_at.ensures) in
    let s = links_more values (level_at values r (c.args.height - 1)) c.args.height i.0 c.operators.left c.operators.rest.now (c.in-Some-infix_at.operator, c.in-Some-infix_at.behind.now) (c.in-Some-level_at.right, c.in-Some-level_at.tail.now) i.1
    (sym c.in-Some-infix_at.ensures) (sym c.in-Some-level_at.ensures) t in
    (s.0, s.1, ap (λ x. links_at values (level_at values r (c.args.height - 1)) c.args.height s.0 x c.in-Some-level_at.tail.now) c.binary-left.ensures ∙ sym s.2 ∙ i.2)

pub level_at-returns : goal.level_at-returns
level_at-returns _ c = let r = inner values c.args.nestings in let i = c.operators.invariant in
    sym (links_end values (level_at values r (c.args.height - 1)) c.args.height i.0 c.operators.left c.operators.rest.now (sym c.in_default.ensures)) ∙ i.2

-- ---- conditional expressions

pub conditional_at-returns-in-None : goal.conditional_at-returns-in-None
conditional_at-returns-in-None _ c = let r = inner values c.args.nestings in let i = c.conditions.invariant in
    sym (sym i.2 ∙ ap (settled_found c.conditions.choice) (conditional_stuck values r i.0 c.conditions.rest.now (sym c.in-None.ensures)))

pub conditional_at-returns-in-None-question_at : goal.conditional_at-returns-in-None-question_at
conditional_at-returns-in-None-question_at _ c = let i = c.conditions.invariant in
    ap (λ x. Some (x, c.in-Some.found.1.now)) c.settled.ensures
    ∙ sym (sym i.2 ∙ ap (settled_found c.conditions.choice) (conditional_end values c.args.nestings i.0 c.conditions.rest.now (c.in-Some.found.0, c.in-Some.found.1.now) i.1 (sym c.in-Some.ensures) (sym c.in-None-question_at.ensures)))

pub conditional_at-returns-in-None-nested_whole : goal.conditional_at-returns-in-None-nested_whole
conditional_at-returns-in-None-nested_whole _ c = let i = c.conditions.invariant in
    sym (sym i.2 ∙ ap (settled_found c.conditions.choice) (middle_stuck values c.args.nestings i.0 c.conditions.rest.now (c.in-Some.found.0, c.in-Some.found.1.now) c.in-Some-question_at.middle.now
    (sym c.in-Some.ensures) (sym c.in-Some-question_at.ensures) (sym c.in-None-nested_whole.ensures)))

pub conditional_at-returns-in-None-colon_at : goal.conditional_at-returns-in-None-colon_at
conditional_at-returns-in-None-colon_at _ c = let i = c.conditions.invariant in
    sym (sym i.2 ∙ ap (settled_found c.conditions.choice) (colon_stuck values c.args.nestings i.0 c.conditions.rest.now (c.in-Some.found.0, c.in-Some.found.1.now) c.in-Some-question_at.middle.now
    (c.in-Some-nested_whole.found.0, c.in-Some-nested_whole.found.1.now) (sym c.in-Some.ensures) (sym c.in-Some-question_at.ensures) (sym c.in-Some-nested_whole.ensures) (sym c.in-None-colon_at.ensures)))

pub conditional_at-conditions-smaller : goal.conditional_at-conditions-smaller
conditional_at-conditions-smaller _ c = last_shorter values c.args.nestings c.conditions.rest.now (c.in-Some.found.0, c.in-Some.found.1.now) c.in-Some-question_at.middle.now (c.in-Some-nested_whole.found.0, c.in-Some-nested_whole.found.1.now) c.in-Some-colon_at.last.now
    (sym c.in-Some.ensures) (sym c.in-Some-question_at.ensures) (sym c.in-Some-nested_whole.ensures) (sym c.in-Some-colon_at.ensures)

pub conditional_at-conditions-preserved : goal.conditional_at-conditions-preserved
conditional_at-conditions-preserved _ c = let r = inner values c.args.nestings in let i = c.conditions.invariant in
    let s = conditional_more values c.args.nestings i.0 c.conditions.rest.now (c.in-Some.found.0, c.in-Some.found.1.now) c.in-Some-question_at.middle.now (c.in-Some-nested_whole.found.0, c.in-Some-nested_whole.found.1.now) c.in-Some-colon_at.last.now i.1
    (sym c.in-Some.ensures) (sym c.in-Some-question_at.ensures) (sym c.in-Some-nested_whole.ensures) (sym c.in-Some-colon_at.ensures) in (
      s.0,
      s.1,
      ap (λ x. settled_found x (conditional_at values r s.0 c.in-Some-colon_at.last.now)) c.after-choice.ensures
          ∙ settled_next c.conditions.choice c.in-Some.found.0 c.in-Some-nested_whole.found.0 (conditional_at values r s.0 c.in-Some-colon_at.last.now)
          ∙ ap (settled_found c.conditions.choice) (sym s.2) ∙ i.2,
    )

-- ---- commas

pub whole_at-returns-in-None : goal.whole_at-returns-in-None
whole_at-returns-in-None _ c = sym (whole_stuck values (inner values c.args.nestings) c.args.tokens.now (sym c.in-None.ensures))

pub whole_at-commas-init : goal.whole_at-commas-init
whole_at-commas-init _ c = (length c.in-Some.found.1.now, omega arith, whole_read values (inner values c.args.nestings) c.args.tokens.now (c.in-Some.found.0, c.in-Some.found.1.now) (sym c.in-Some.ensures))

pub whole_at-returns-in-None-conditional_at : goal.whole_at-returns-in-None-conditional_at
whole_at-returns-in-None-conditional_at _ c = let i = c.commas.invariant in
    sym (sym i.2 ∙ commas_stuck values (inner values c.args.nestings) i.0 c.commas.left c.commas.rest.now c.in-Some-comma_at.next.now i.1 (sym c.in-Some-comma_at.ensures) (sym c.in-None-conditional_at.ensures))

pub whole_at-commas-smaller : goal.whole_at-commas-smaller
whole_at-commas-smaller _ c =
    let s : length c.in-Some-comma_at.next.now < length c.commas.rest.now = behind_shorter joint.Comma c.commas.rest.now c.in-Some-comma_at.next.now (sym c.in-Some-comma_at.ensures) in
    let t : length c.in-Some-conditional_at.tail.now < length c.in-Some-comma_at.next.now = conditional_shorter values c.args.nestings (length c.in-Some-comma_at.next.now) c.in-Some-comma_at.next.now (c.in-Some-conditional_at.right, c.in-Some-conditional_at.tail.now) (sym c.in-Some-conditional_at.ensures) in
    let u : length c.in-Some-conditional_at.tail.now < length c.commas.rest.now = omega arith in u

pub whole_at-commas-preserved : goal.whole_at-commas-preserved
whole_at-commas-preserved _ c = let i = c.commas.invariant in
    let s = commas_more values c.args.nestings i.0 c.commas.left c.commas.rest.now c.in-Some-comma_at.next.now (c.in-Some-conditional_at.right, c.in-Some-conditional_at.tail.now) i.1 (sym c.in-Some-comma_at.ensures) (sym c.in-Some-conditional_at.ensures) in
    (s.0, s.1, ap (λ x. commas_at values (inner values c.args.nestings) s.0 x c.in-Some-conditional_at.tail.now) c.comma-left.ensures ∙ sym s.2 ∙ i.2)

pub whole_at-returns : goal.whole_at-returns
whole_at-returns _ c = let i = c.commas.invariant in
    sym (commas_end values (inner values c.args.nestings) i.0 c.commas.left c.commas.rest.now (sym c.in_default.ensures)) ∙ i.2
