use Rattle.std.proofs.Common.{◌<◌, [], ◌++◌, ◌∷◌, length, refl, sym, subst, ◌∙◌, arith}
use Rattle.std.specs.Prelude.{IfSome}
use Rattle.c_literal.specs.Literals.{IsNoString}
use Rattle.c_literal.specs.LiteralReading.{Found}
use Rattle.c_literal.proofs.Strings.{shorter, step, stuck, no_string, a_string, isnt_empty, is_empty, ended_at}
use Rattle.c_literal.proofs.literal.is_string_literal.Goals as goal

pub loop-rest-init : goal.loop-rest-init
loop-rest-init c = (length c.args.content.now, [], omega arith, refl)

pub loop-rest-preserved : goal.loop-rest-preserved
loop-rest-preserved c = let i = c.loop-rest.invariant in
    let s = step i.0 i.1 c.loop-rest.rest.now (c.in-Some.field-0-0, c.in-Some.tail.now) c.in-Some.ensures i.2 in
    (s.0, i.1 ++ c.in-Some.field-0-0 ∷ [], s.1, sym s.2 ∙ i.3)

pub loop-rest-smaller : goal.loop-rest-smaller
loop-rest-smaller c = let P : Found → Type 0 = λ o. IfSome o (λ x. length x.1 < length c.loop-rest.rest.now) in
    subst P c.in-Some.ensures (shorter 34 c.loop-rest.rest.now)

pub returns-in-None : goal.returns-in-None
returns-in-None c = let i = c.loop-rest.invariant in
    let no : IsNoString c.args.content.now = no_string c.args.content.now (sym i.3 ∙ stuck i.0 i.1 c.loop-rest.rest.now c.in-None.ensures
    (isnt_empty c.loop-rest.rest.now (sym c.is_empty.ensures ∙ c.loop-rest-test.true))) in
    ((λ t. absurd (cc)), (λ s. absurd (no s.0 s.1)))

pub returns : goal.returns
returns c = let i = c.loop-rest.invariant in
    ((λ t. (i.1, a_string c.args.content.now i.1 (ended_at i.0 i.1 c.loop-rest.rest.now c.args.content.now i.3 (is_empty c.loop-rest.rest.now (sym c.is_empty.ensures ∙ c.loop-rest-test.false))))), (λ s. refl))
