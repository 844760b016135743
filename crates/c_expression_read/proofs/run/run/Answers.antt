use Rattle.std.proofs.Common.{List, sym, ap, ◌∙◌}
use Rattle.c_grammar.specs.Reading.{run_at}
use Rattle.c_expression_read.proofs.Runs.{before, before-last, before-none, marks_next, marks_none}
use Rattle.c_expression_read.proofs.run.run.Goals as goal

pub marks-preserved : goal.marks-preserved
marks-preserved c =
    ap (λ (xs : List _). before xs (run_at c.in-Some.after.now)) c.in_ok-push.ensures.items
    ∙ before-last c.marks.marks.items c.in-Some.mark (run_at c.in-Some.after.now)
    ∙ ap (before c.marks.marks.items) (sym (marks_next c.marks.rest.now c.in-Some.after.now c.in-Some.mark c.in-Some.ensures))
    ∙ c.marks.invariant

pub returns : goal.returns
returns c = sym (before-none c.marks.marks.items c.marks.rest.now) ∙ ap (before c.marks.marks.items) (sym (marks_none c.marks.rest.now c.in_default.ensures)) ∙ c.marks.invariant
