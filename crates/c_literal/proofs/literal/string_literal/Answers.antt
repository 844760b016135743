use Rattle.std.proofs.Common.{◌<◌, ℕ, List, length, sym, ap, subst, ◌∙◌, arith}
use Rattle.std.specs.Prelude.{IfSome}
use Rattle.c_literal.specs.Literals.{IsString}
use Rattle.c_literal.specs.LiteralReading.{Found, bytes_at}
use Rattle.c_literal.proofs.Strings.{shorter, step, stuck, no_string, a_string, isnt_empty, is_empty, ended_at}
use Rattle.c_literal.proofs.literal.string_literal.Goals as goal

pub loop-rest-init : goal.loop-rest-init
loop-rest-init c = (length c.args.content.now, omega arith, ap (λ bytes. bytes_at (length c.args.content.now) bytes c.args.content.now) c.new-bytes.ensures.items)

pub loop-rest-preserved : goal.loop-rest-preserved
loop-rest-preserved c = let i = c.loop-rest.invariant in
    let s = step i.0 c.loop-rest.bytes.items c.loop-rest.rest.now (c.in-Some.byte, c.in-Some.tail.now) c.in-Some.ensures i.1 in
    (s.0, s.1, ap (λ bytes. bytes_at s.0 bytes c.in-Some.tail.now) c.in_ok-push-in-Some.ensures.items ∙ sym s.2 ∙ i.2)

pub loop-rest-smaller : goal.loop-rest-smaller
loop-rest-smaller c = let P : Found → Type 0 = λ o. IfSome o (λ x. length x.1 < length c.loop-rest.rest.now) in
    subst P c.in-Some.ensures (shorter 34 c.loop-rest.rest.now)

pub returns-in-None : goal.returns-in-None
returns-in-None c = let i = c.loop-rest.invariant in
    no_string c.args.content.now (sym i.2 ∙ stuck i.0 c.loop-rest.bytes.items c.loop-rest.rest.now c.in-None.ensures
    (isnt_empty c.loop-rest.rest.now (sym c.is_empty.ensures ∙ c.loop-rest-test.true)))

pub returns : goal.returns
returns c = let i = c.loop-rest.invariant in
    let P : List ℕ → Type 0 = λ bytes. IsString c.args.content.now bytes in
    subst P (sym c.from_vec.ensures) (a_string c.args.content.now c.loop-rest.bytes.items
    (ended_at i.0 c.loop-rest.bytes.items c.loop-rest.rest.now c.args.content.now i.2 (is_empty c.loop-rest.rest.now (sym c.is_empty.ensures ∙ c.loop-rest-test.false))))
