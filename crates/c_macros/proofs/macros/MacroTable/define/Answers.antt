use Rattle.std.proofs.Common.{◌≡◌, ◌++◌, refl, ap, sym, ◌∙◌, [], List, Bool, true, false, length, get_or, subst, take, drop, arith, get_or-set_other}
use Rattle.std.proofs.Math.ListN.{set}
use Rattle.c_macros.specs.Stack.{texts}
use Rattle.c_macros.specs.Keeping.{defined, State}
use Rattle.c_macros.specs.Remembering.{Remembers}
use Rattle.c_macros.proofs.Puts.{map_set}
use Rattle.c_macros.proofs.Kept.{still_keeps, written_back, put_elsewhere}
use Rattle.c_macros.proofs.macros.MacroTable.define.Goals as goal

pub returns-clause-value : goal.returns-clause-value
returns-clause-value c =
    let bodies = map_set (λ v. v.items) c.make_room_for_body.new.bodies.items c.args.name c.args.body ∙ c.in_ok-make_room_for_body.ensures.value c.args.body.items in
    let on = c.in_ok-put_flag.ensures.value in
    let now : State = record { bodies = texts c.self.inside.bodies.items; on = c.self.inside.on.items } in
    let both : record { bodies = texts (set c.make_room_for_body.new.bodies.items c.args.name c.args.body); on = c.put_flag.new.flags.items } ≡ defined now c.args.name c.args.body.items
    = λ i. record { bodies = bodies i; on = on i } in
    both ∙ ap (λ s. defined s c.args.name c.args.body.items) c.self.view_is

pub invariant_of-self : goal.invariant_of-self
invariant_of-self c =
    let bodies = texts c.self.inside.bodies.items in
    let on = c.self.inside.on.items in
    let void = c.forget_with.new.void in
    let back : take c.self.inside.void.len (void ++ drop (length void) c.self.inside.void.items) ≡ void
    = written_back void (drop (length void) c.self.inside.void.items) c.self.inside.void.len (let k = c.self.inside.void.ok.0 in let a = c.forget_with.auto.void in let v = ap length c.deref_mut.ensures.value in omega arith) in
    let right = c.forget_with.ensures.right bodies on (subst (λ (l : List Bool). Remembers bodies on l) (sym c.deref_mut.ensures.value) c.self.invariant.remembers) in
    let wide = ap length back in let longer = c.make_room.ensures.longer in let size = right.size in
    still_keeps bodies bodies on on void c.make_room.new.flags.items c.forget_with.new.remembered.items c.args.name right c.forget_with.ensures.tracked c.forget_with.ensures.down
    (λ m ne. refl) (λ m ne e. e) (λ m. c.make_room.ensures.same m ∙ ap (λ l. get_or l m false) back) (omega arith)

pub invariant_of-self-in_err-make_room_for_body : goal.invariant_of-self-in_err-make_room_for_body
invariant_of-self-in_err-make_room_for_body c =
    let bodies = texts c.self.inside.bodies.items in
    let on = c.self.inside.on.items in
    let void = c.forget_with.new.void in
    let back : take c.self.inside.void.len (void ++ drop (length void) c.self.inside.void.items) ≡ void
    = written_back void (drop (length void) c.self.inside.void.items) c.self.inside.void.len (let k = c.self.inside.void.ok.0 in let a = c.forget_with.auto.void in let v = ap length c.deref_mut.ensures.value in omega arith) in
    let right = c.forget_with.ensures.right bodies on (subst (λ (l : List Bool). Remembers bodies on l) (sym c.deref_mut.ensures.value) c.self.invariant.remembers) in
    let wide = ap length back in let longer = c.make_room.ensures.longer in let size = right.size in
    still_keeps bodies (texts c.make_room_for_body.new.bodies.items) on on void c.make_room.new.flags.items c.forget_with.new.remembered.items c.args.name right c.forget_with.ensures.tracked c.forget_with.ensures.down
    (λ m ne. c.make_room_for_body.ensures.same m) (λ m ne e. e) (λ m. c.make_room.ensures.same m ∙ ap (λ l. get_or l m false) back) (omega arith)

pub invariant_of-self-in_err-put_flag : goal.invariant_of-self-in_err-put_flag
invariant_of-self-in_err-put_flag c =
    let bodies = texts c.self.inside.bodies.items in
    let on = c.self.inside.on.items in
    let void = c.forget_with.new.void in
    let back : take c.self.inside.void.len (void ++ drop (length void) c.self.inside.void.items) ≡ void
    = written_back void (drop (length void) c.self.inside.void.items) c.self.inside.void.len (let k = c.self.inside.void.ok.0 in let a = c.forget_with.auto.void in let v = ap length c.deref_mut.ensures.value in omega arith) in
    let right = c.forget_with.ensures.right bodies on (subst (λ (l : List Bool). Remembers bodies on l) (sym c.deref_mut.ensures.value) c.self.invariant.remembers) in
    let wide = ap length back in let longer = c.make_room.ensures.longer in let size = right.size in
    still_keeps bodies (texts c.make_room_for_body.new.bodies.items) on c.put_flag.new.flags.items void c.make_room.new.flags.items c.forget_with.new.remembered.items c.args.name right c.forget_with.ensures.tracked c.forget_with.ensures.down
    (λ m ne. c.make_room_for_body.ensures.same m) (λ m ne e. c.in_err-put_flag.ensures.same m ∙ e) (λ m. c.make_room.ensures.same m ∙ ap (λ l. get_or l m false) back) (let k = c.put_flag.ensures.size in let r = c.in_ok-make_room.ensures.room in omega arith)

pub invariant_of-self-2 : goal.invariant_of-self-2
invariant_of-self-2 c =
    let bodies = texts c.self.inside.bodies.items in
    let on = c.self.inside.on.items in
    let void = c.forget_with.new.void in
    let back : take c.self.inside.void.len (void ++ drop (length void) c.self.inside.void.items) ≡ void
    = written_back void (drop (length void) c.self.inside.void.items) c.self.inside.void.len (let k = c.self.inside.void.ok.0 in let a = c.forget_with.auto.void in let v = ap length c.deref_mut.ensures.value in omega arith) in
    let right = c.forget_with.ensures.right bodies on (subst (λ (l : List Bool). Remembers bodies on l) (sym c.deref_mut.ensures.value) c.self.invariant.remembers) in
    let wide = ap length back in let longer = c.make_room.ensures.longer in let size = right.size in
    still_keeps bodies (texts (set c.make_room_for_body.new.bodies.items c.args.name c.args.body)) on c.put_flag.new.flags.items void c.make_room.new.flags.items c.forget_with.new.remembered.items c.args.name right c.forget_with.ensures.tracked c.forget_with.ensures.down
    (λ m ne. ap (λ l. get_or l m []) (map_set (λ v. v.items) c.make_room_for_body.new.bodies.items c.args.name c.args.body) ∙ get_or-set_other (texts c.make_room_for_body.new.bodies.items) c.args.name m c.args.body.items [] ne ∙ c.make_room_for_body.ensures.same m) (λ m ne e. ap (λ l. get_or l m false) c.in_ok-put_flag.ensures.value ∙ put_elsewhere on c.args.name m true false ne ∙ e) (λ m. c.make_room.ensures.same m ∙ ap (λ l. get_or l m false) back) (let k = c.put_flag.ensures.size in let r = c.in_ok-make_room.ensures.room in omega arith)
