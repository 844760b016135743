use Rattle.std.proofs.Common.{◌+◌, [], length, ℕ, List, ap, subst, sym, ◌∙◌, arith}
use Rattle.f_lex.specs.declared.text.Body.{Body}
use Rattle.f_lex.specs.declared.text.Part.TheVariants.{Byte, Doubled, Joined, Closed, Open, Lost}
use Rattle.f_lex.specs.Texts.{body_at}
use Rattle.f_lex.proofs.Lengths.{Comes, behind, shorter}
use Rattle.f_lex.proofs.text.body_at.Goals as goal

pub overflow_sub-passed : goal.overflow_sub-passed
overflow_sub-passed c = omega (arith, shorter c.args.quote c.parts.rest.now _ Joined c.part_at-part.result.1.now c.part_at-part.ensures c.in-Joined.is)

pub returns-in-Closed : goal.returns-in-Closed
returns-in-Closed c =
    ap (λ (b : Body). (b, c.part_at-part.result.1.now)) c.ended.ensures
    ∙ behind c.args.quote c.parts.content c.parts.passed c.parts.rest.now _ _ Closed c.part_at-part.result.1.now c.part_at-part.ensures c.in-Closed.is c.parts.invariant.comes

pub returns-in-Open : goal.returns-in-Open
returns-in-Open c =
    ap (λ (b : Body). (b, c.part_at-part.result.1.now)) c.ended-in-Open.ensures
    ∙ behind c.args.quote c.parts.content c.parts.passed c.parts.rest.now _ _ Open c.part_at-part.result.1.now c.part_at-part.ensures c.in-Open.is c.parts.invariant.comes

pub returns-in-Lost : goal.returns-in-Lost
returns-in-Lost c =
    ap (λ (b : Body). (b, c.part_at-part.result.1.now)) c.ended-in-Lost.ensures
    ∙ behind c.args.quote c.parts.content c.parts.passed c.parts.rest.now _ _ Lost c.part_at-part.result.1.now c.part_at-part.ensures c.in-Lost.is c.parts.invariant.comes

pub parts-smaller-in_ok-push-in-Byte : goal.parts-smaller-in_ok-push-in-Byte
parts-smaller-in_ok-push-in-Byte c = omega (arith, shorter c.args.quote c.parts.rest.now _ (Byte c.in-Byte.byte) c.part_at-part.result.1.now c.part_at-part.ensures c.in-Byte.is)

pub parts-preserved-in_ok-push-in-Byte : goal.parts-preserved-in_ok-push-in-Byte
parts-preserved-in_ok-push-in-Byte c = record {
  comes = subst (λ (l : List ℕ). Comes c.args.quote l c.parts.passed c.part_at-part.result.1.now (body_at (length c.args.bytes.now + 1) c.args.quote [] 0 c.args.bytes.now)) (sym c.in_ok-push-in-Byte.ensures.ok)
      (behind c.args.quote c.parts.content c.parts.passed c.parts.rest.now _ _ (Byte c.in-Byte.byte) c.part_at-part.result.1.now c.part_at-part.ensures c.in-Byte.is c.parts.invariant.comes);
  room = omega (arith, shorter c.args.quote c.parts.rest.now _ (Byte c.in-Byte.byte) c.part_at-part.result.1.now c.part_at-part.ensures c.in-Byte.is, c.parts.invariant.room);
}

pub parts-smaller-in_ok-push-in-Doubled : goal.parts-smaller-in_ok-push-in-Doubled
parts-smaller-in_ok-push-in-Doubled c = omega (arith, shorter c.args.quote c.parts.rest.now _ Doubled c.part_at-part.result.1.now c.part_at-part.ensures c.in-Doubled.is)

pub parts-preserved-in_ok-push-in-Doubled : goal.parts-preserved-in_ok-push-in-Doubled
parts-preserved-in_ok-push-in-Doubled c = record {
  comes = subst (λ (l : List ℕ). Comes c.args.quote l c.parts.passed c.part_at-part.result.1.now (body_at (length c.args.bytes.now + 1) c.args.quote [] 0 c.args.bytes.now)) (sym c.in_ok-push-in-Doubled.ensures.ok)
      (behind c.args.quote c.parts.content c.parts.passed c.parts.rest.now _ _ Doubled c.part_at-part.result.1.now c.part_at-part.ensures c.in-Doubled.is c.parts.invariant.comes);
  room = omega (arith, shorter c.args.quote c.parts.rest.now _ Doubled c.part_at-part.result.1.now c.part_at-part.ensures c.in-Doubled.is, c.parts.invariant.room);
}

pub parts-smaller : goal.parts-smaller
parts-smaller c = omega (arith, shorter c.args.quote c.parts.rest.now _ Joined c.part_at-part.result.1.now c.part_at-part.ensures c.in-Joined.is)

pub parts-preserved : goal.parts-preserved
parts-preserved c = record {
  comes = behind c.args.quote c.parts.content c.parts.passed c.parts.rest.now _ _ Joined c.part_at-part.result.1.now c.part_at-part.ensures c.in-Joined.is c.parts.invariant.comes;
  room = omega (arith, shorter c.args.quote c.parts.rest.now _ Joined c.part_at-part.result.1.now c.part_at-part.ensures c.in-Joined.is, c.parts.invariant.room);
}
