use Rattle.std.proofs.Common.{◌++◌, ◌∷◌, [], refl, sym, subst, List}
use Rattle.c_macros.specs.declared.token.Token.{Token}
use Rattle.c_define.specs.Numbers.{AreNumbers}
use Rattle.c_define.proofs.Wide.{wider_both, same_tables, one_number}
use Rattle.c_define.proofs.numbers.numbered_all.Goals as goal

pub loop-token-init : goal.loop-token-init
loop-token-init c =
    let none : AreNumbers c.args.names.now c.args.others.now.items [] [] = record { are_in = tt; tokens_are = refl } in
    (tt, tt, same_tables c.args.names.now c.args.others.now.items, subst (λ (l : List Token). AreNumbers c.args.names.now c.args.others.now.items [] l) (sym c.new-numbers.ensures.items) none)

pub loop-token-preserved : goal.loop-token-preserved
loop-token-preserved c =
    let w = c.numbered.ensures.wider in
    let n = c.in_ok-numbered.ensures.number in
    let i = c.loop-token.invariant in (
      tt,
      tt,
      wider_both c.args.names.now c.args.others.now.items c.loop-token.names c.loop-token.others.items c.numbered.new.names c.numbered.new.others.items i.2 w,
      subst (λ (l : List Token). AreNumbers c.numbered.new.names c.numbered.new.others.items (c.loop-token.yielded ++ c.in-Some.token ∷ []) l) (sym c.in_ok-push.ensures.items)
          (one_number c.loop-token.names c.loop-token.others.items c.numbered.new.names c.numbered.new.others.items w c.loop-token.yielded c.in-Some.token c.loop-token.numbers.items c.in_ok-numbered.field-0 i.3 n.0 n.1),
    )
