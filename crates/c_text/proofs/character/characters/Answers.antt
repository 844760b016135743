use Rattle.std.proofs.Common.{◌++◌, ap, sym, ◌∙◌, length, arith}
use Rattle.c_text.proofs.Steps.{one_more, passes, drops, ends, gives, none_left, all_done}
use Rattle.c_text.proofs.character.characters.Goals as goal

pub loop-first-preserved-then-skipped-gt0 : goal.loop-first-preserved-then-skipped-gt0
loop-first-preserved-then-skipped-gt0 c =
    let is = c.in-Some.ensures.cases.0 in
    let len = ap length is in
    record {
      so = ap (λ l. c.loop-first.characters.items ++ l) (sym (passes c.loop-first.line c.loop-first.column _ c.loop-first.rest.now c.in-Some.tail.now is c.loop-first.skipped c.if-skipped-gt0.true)) ∙ c.loop-first.invariant.so;
      line = omega arith;
      column = omega arith;
    }

pub loop-first-preserved-then-is_dropped : goal.loop-first-preserved-then-is_dropped
loop-first-preserved-then-is_dropped c =
    let is = c.in-Some.ensures.cases.0 in
    let len = ap length is in
    record {
      so = ap (λ l. c.loop-first.characters.items ++ l) (sym (drops c.loop-first.line c.loop-first.column _ c.loop-first.rest.now c.in-Some.tail.now is c.loop-first.skipped c.if-skipped-gt0.false c.if-is_dropped.ensures)) ∙ c.loop-first.invariant.so;
      line = omega arith;
      column = omega arith;
    }

pub loop-first-preserved-in_ok-push : goal.loop-first-preserved-in_ok-push
loop-first-preserved-in_ok-push c =
    let is = c.in-Some.ensures.cases.0 in
    let len = ap length is in
    record {
      so = one_more c.loop-first.characters.items c.push.new.self.items _ _ c.in_ok-push.ensures.items
          ∙ ap (λ l. c.loop-first.characters.items ++ l) (sym (ends c.loop-first.line c.loop-first.column _ c.loop-first.rest.now c.in-Some.tail.now is c.loop-first.skipped c.if-skipped-gt0.false c.if-is_dropped.ensures c.if-first-eq10.true)) ∙ c.loop-first.invariant.so;
      line = omega arith;
      column = omega arith;
    }

pub loop-first-preserved : goal.loop-first-preserved
loop-first-preserved c =
    let is = c.in-Some.ensures.cases.0 in
    let len = ap length is in
    record {
      so = one_more c.loop-first.characters.items c.push-else-first-eq10.new.self.items _ _ c.in_ok-push-2.ensures.items
          ∙ ap (λ l. c.loop-first.characters.items ++ l) (sym (gives c.loop-first.line c.loop-first.column _ c.loop-first.rest.now c.in-Some.tail.now is c.loop-first.skipped c.written_at-byte.result c.if-skipped-gt0.false c.if-is_dropped.ensures c.if-first-eq10.false c.written_at-byte.ensures)) ∙ c.loop-first.invariant.so;
      line = omega arith;
      column = omega arith;
    }

pub returns : goal.returns
returns c = all_done c.loop-first.characters.items _ _ (none_left c.loop-first.skipped c.loop-first.line c.loop-first.column c.loop-first.rest.now c.in_default.ensures.cases) c.loop-first.invariant.so
