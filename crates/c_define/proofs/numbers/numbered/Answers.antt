use Rattle.std.proofs.Common.{rules, sym, ◌∙◌, ap, arith}
use Rattle.c_token.specs.declared.token.CToken.TheVariants.{Id}
use Rattle.c_define.proofs.Wide.{one_other, same_others, name_number, other_number, no_id}
use Rattle.c_define.proofs.numbers.numbered.Goals as goal

pub returns-in_err-push-in_default : goal.returns-in_err-push-in_default
returns-in_err-push-in_default c = record { wider = same_others c.args.names.now c.args.others.now.items c.push.new.self.items (search rules); number = search rules }

pub returns-in_ok-number_of-in-Id-clause-number : goal.returns-in_ok-number_of-in-Id-clause-number
returns-in_ok-number_of-in-Id-clause-number c =
    let name = c.as_slice.ensures in
    let h = name_number c.number_of.new.names c.args.others.now.items c.as_slice.result.now c.in_ok-number_of-in-Id.field-0 c.in_ok-number_of-in-Id.ensures.number in
    (h.0, h.1 ∙ ap Id c.as_slice.ensures ∙ sym c.in-Id.is)

pub returns-in_ok-push-in_default : goal.returns-in_ok-push-in_default
returns-in_ok-push-in_default c = record {
  wider = one_other c.args.names.now c.args.others.now.items c.push.new.self.items c.args.token c.in_ok-push-in_default.ensures.items;
  number = other_number c.args.names.now c.args.others.now.items c.push.new.self.items c.args.token c.len-number.result c.in_ok-push-in_default.ensures.items (let k = c.args.others.now.ok.0 in let e = c.len-number.ensures in omega arith) (no_id c.args.token c.in_default.not-Id);
}
