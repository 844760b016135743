use Rattle.std.proofs.Common.{◌≡◌, ◌≤◌, ◌+◌, List, [], ◌∷◌, refl, ◌^◌, length, ap, subst, sym, ◌∙◌, arith}
use Rattle.std.specs.Vec.Iter.{into_iter_items}
use Rattle.c_types.specs.Tables.{AreSound, IsSound}
use Rattle.c_types.proofs.LayingOut.{Laying, laying-within, laying-next, laying-step, laying-end, sound_layout}
use Rattle.c_types.proofs.table.Types.lay_out.Goals as goal

pub round_up-offset-requires-clause-small : goal.round_up-offset-requires-clause-small
round_up-offset-requires-clause-small c =
    let at = c.loop-name in
    let table : AreSound c.args.self.now = subst AreSound c.self.view_is c.self.invariant.sound in
    let within : at.end ≤ 2 ^ 62 = laying-within c.args.self.now table c.args.members.items at.laid at.end at.align (into_iter_items at.name-iterator) at.invariant.0 c.requires.small in
    omega arith

pub overflow_add-end : goal.overflow_add-end
overflow_add-end c =
    let at = c.loop-name in
    let table : AreSound c.args.self.now = subst AreSound c.self.view_is c.self.invariant.sound in
    let laying = subst (Laying c.args.self.now c.args.members.items at.laid at.end at.align) c.in-Some.ensures.steps.0 at.invariant.0 in
    let within = laying-next c.args.self.now table c.args.members.items at.laid at.end at.align (c.in-Some.name, c.in-Some.kind) (into_iter_items c.next.new.self) laying c.requires.small in
    let sum : c.round_up-offset.result + c.member_size-size.result ≤ 2 ^ 62 = rw (c.round_up-offset.ensures, c.member_align-kind_align.ensures.value, c.member_size-size.ensures) within in
    omega arith

pub loop-name-preserved : goal.loop-name-preserved
loop-name-preserved c =
    let at = c.loop-name in
    let steps : into_iter_items at.name-iterator ≡ (c.in-Some.name, c.in-Some.kind) ∷ into_iter_items c.next.new.self = c.in-Some.ensures.steps.0 in
    let laying = subst (Laying c.args.self.now c.args.members.items at.laid at.end at.align) steps at.invariant.0 in
    let small = c.member_align-kind_align.ensures.small in (
      rw (c.in_ok-push.ensures.ok, c.round_up-offset.ensures, c.max-align.ensures)
          (laying-step c.args.self.now c.args.members.items at.laid at.end at.align c.in-Some.name c.in-Some.kind (into_iter_items c.next.new.self) c.member_align-kind_align.result c.member_size-size.result laying c.member_align-kind_align.ensures.value c.member_size-size.ensures small.0 small.1),
      let was = at.invariant.1 in
          let gone = c.in-Some.ensures.steps.1 in
          let short = ap length steps in
          omega arith,
    )

nothing_left : {X : Type 0} (l : List X) → length l ≡ 0 → l ≡ []
nothing_left [] h = refl
nothing_left (x ∷ xs) h = absurd (omega arith)

pub returns-clause-sound : goal.returns-clause-sound
returns-clause-sound c =
    let at = c.loop-name in
    let table : AreSound c.args.self.now = subst AreSound c.self.view_is c.self.invariant.sound in
    let empty : into_iter_items at.name-iterator ≡ [] = nothing_left (into_iter_items at.name-iterator) (sym at.invariant.1 ∙ c.in-None.ensures.steps.0) in
    let laying = subst (Laying c.args.self.now c.args.members.items at.laid at.end at.align) empty at.invariant.0 in
    rw c.round_up.ensures
    (subst (IsSound c.args.self.now) (sym (laying-end c.args.self.now c.args.members.items at.laid at.end at.align laying))
    (sound_layout c.args.self.now table c.args.members.items c.requires.sized c.requires.small))
