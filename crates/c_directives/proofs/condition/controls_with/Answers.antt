use Rattle.std.proofs.Common.{◌≡◌, sym, ◌∙◌, ap, map, List}
use Rattle.c_token.specs.declared.token.CToken.{CToken}
use Rattle.c_token.specs.declared.token.CSpanned.{CSpanned}
use Rattle.c_define.specs.Numbers.{macros_of}
use Rattle.c_condition.specs.declared.token.Token.{Token}
use Rattle.c_directives.specs.Conditions.{if_few, all_expanded, decided, condition_value, operand_of}
use Rattle.c_directives.proofs.Puts.{says_same}
use Rattle.c_directives.proofs.Steps.{all_put_some, tokens_there, few}
use Rattle.c_directives.proofs.condition.controls_with.Goals as goal

pub returns-in_ok-operands-in-Some-clause-says : goal.returns-in_ok-operands-in-Some-clause-says
returns-in_ok-operands-in-Some-clause-says c =
    let ms = macros_of c.args.macros.now in
    let ts = all_expanded ms c.args.tokens.now in
    let put = all_put_some c.in_ok-expand_all.field-0 c.in-Some.expanded ms c.args.place c.args.tokens.now c.in-Some.is c.in_ok-expand_all.ensures.tokens in
    let read : c.in_ok-operands-in-Some.operands.items ≡ map operand_of ts
    = c.in_ok-operands-in-Some.ensures ∙ ap (λ (l : List CSpanned). map operand_of (map (λ (s : CSpanned). s.token) l)) (c.deref.ensures.value ∙ put.0) ∙ ap (map operand_of) (tokens_there c.args.place ts) in
    let value : c.value.result ≡ condition_value (map operand_of ts) = c.value.ensures ∙ ap condition_value (c.deref-in-Some.ensures.value ∙ read) in
    says_same c.decided.result (λ b. b) _ (decided c.args.place c.value.result) (few c.args.place ts (λ ts. decided c.args.place (condition_value (map operand_of ts))) put.1 ∙ ap (decided c.args.place) (sym value)) c.decided.ensures
