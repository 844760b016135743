use Rattle.std.proofs.Common.{List, sym, ap, ◌∙◌}
use Rattle.c_grammar.specs.Reading.{texts_at}
use Rattle.c_expression_read.proofs.Runs.{before, before-last, before-none, texts_next, texts_none}
use Rattle.c_expression_read.proofs.run.texts.Goals as goal

pub texts-preserved : goal.texts-preserved
texts-preserved c =
    ap (λ (xs : List _). before xs (texts_at c.in-Some.after.now)) c.in_ok-push.ensures.items
    ∙ before-last c.texts.texts.items c.in-Some.text (texts_at c.in-Some.after.now)
    ∙ ap (before c.texts.texts.items) (sym (texts_next c.texts.rest.now c.in-Some.after.now c.in-Some.text c.in-Some.ensures))
    ∙ c.texts.invariant

pub returns : goal.returns
returns c = sym (before-none c.texts.texts.items c.texts.rest.now) ∙ ap (before c.texts.texts.items) (sym (texts_none c.texts.rest.now c.in_default.ensures)) ∙ c.texts.invariant
