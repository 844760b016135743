use Rattle.std.proofs.Common.{◌++◌, ap, sym, ◌∙◌}
use Rattle.c_text.proofs.Steps.{one_more, passes_end, begins_splice, keeps, none_joined, all_done}
use Rattle.c_text.proofs.character.joined.Goals as goal

pub loop-first-preserved-then-in_splice : goal.loop-first-preserved-then-in_splice
loop-first-preserved-then-in_splice c =
    ap (λ l. c.loop-first.joined.items ++ l) (sym (passes_end _ c.loop-first.rest.now c.in-Some.tail.now c.in-Some.ensures.cases.0 c.loop-first.in_splice c.if-in_splice.true)) ∙ c.loop-first.invariant

pub loop-first-preserved-then-is_splice : goal.loop-first-preserved-then-is_splice
loop-first-preserved-then-is_splice c =
    ap (λ l. c.loop-first.joined.items ++ l) (sym (begins_splice _ c.loop-first.rest.now c.in-Some.tail.now c.in-Some.ensures.cases.0 c.loop-first.in_splice c.if-in_splice.false c.if-is_splice.ensures)) ∙ c.loop-first.invariant

pub loop-first-preserved : goal.loop-first-preserved
loop-first-preserved c =
    one_more c.loop-first.joined.items c.push.new.self.items _ _ c.in_ok-push.ensures.items
    ∙ ap (λ l. c.loop-first.joined.items ++ l) (sym (keeps _ c.loop-first.rest.now c.in-Some.tail.now c.in-Some.ensures.cases.0 c.loop-first.in_splice c.if-in_splice.false c.if-is_splice.ensures)) ∙ c.loop-first.invariant

pub returns : goal.returns
returns c = all_done c.loop-first.joined.items _ _ (none_joined c.loop-first.in_splice c.loop-first.rest.now c.in_default.ensures.cases) c.loop-first.invariant
