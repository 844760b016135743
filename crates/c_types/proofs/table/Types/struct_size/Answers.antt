use Rattle.std.proofs.Common.{◌≡◌, ◌≤◌, ◌<◌, ◌+◌, ◌∷◌, ◌^◌, drop, suc, ap, sym, ◌∙◌, add-one, drop-cons, subst, arith}
use Rattle.c_types.specs.Layouts.{rounded}
use Rattle.c_types.specs.Tables.{AreSound}
use Rattle.c_types.proofs.LayingOut.{Measuring, measuring-past, measuring-step}
use Rattle.c_types.proofs.table.Types.struct_size.Goals as goal

pub returns-then-end-gt-LARGEST : goal.returns-then-end-gt-LARGEST
returns-then-end-gt-LARGEST c =
    let at = c.loop-kind in
    let members = c.args.members.now in
    let m = c.loop-kind-item.result in
    let table : AreSound c.args.self.now = subst AreSound c.self.view_is c.self.invariant.sound in
    let here : drop at.kind-index members ≡ m ∷ drop (at.kind-index + 1) members = rw add-one (drop-cons members at.kind-index c.loop-kind-item.result c.loop-kind-test.true ∙ ap (λ z. z ∷ drop (suc at.kind-index) members) (sym c.loop-kind-item.is)) in
    let measuring = subst (Measuring c.args.self.now members at.end at.align) here at.invariant in
    let past : 2 ^ 62 < rounded at.end c.member_align-kind_align.result + c.member_size-size.result = rw (← c.round_up.ensures) (omega (arith, c.if-end-gt-LARGEST.true)) in
    measuring-past c.args.self.now table members at.end at.align m (drop (at.kind-index + 1) members) c.member_align-kind_align.result c.member_size-size.result measuring c.member_align-kind_align.ensures.value c.member_size-size.ensures past

pub loop-kind-preserved : goal.loop-kind-preserved
loop-kind-preserved c =
    let at = c.loop-kind in
    let members = c.args.members.now in
    let m = c.loop-kind-item.result in
    let here : drop at.kind-index members ≡ m ∷ drop (at.kind-index + 1) members = rw add-one (drop-cons members at.kind-index c.loop-kind-item.result c.loop-kind-test.true ∙ ap (λ z. z ∷ drop (suc at.kind-index) members) (sym c.loop-kind-item.is)) in
    let measuring = subst (Measuring c.args.self.now members at.end at.align) here at.invariant in
    let within : rounded at.end c.member_align-kind_align.result + c.member_size-size.result ≤ 2 ^ 62 = rw (← c.round_up.ensures) (omega (arith, c.if-end-gt-LARGEST.false)) in
    let small = c.member_align-kind_align.ensures.small in
    rw (c.round_up.ensures, c.max-align.ensures)
    (measuring-step c.args.self.now members at.end at.align m (drop (at.kind-index + 1) members) c.member_align-kind_align.result c.member_size-size.result measuring c.member_align-kind_align.ensures.value c.member_size-size.ensures small.0 small.1 within)
