use Rattle.std.proofs.Common.{◌≡◌, ◌++◌, ◌∷◌, [], sym, ◌∙◌, ap, arith, rules, refl}
use Rattle.c_token.specs.declared.token.CToken.{CToken}
use Rattle.c_token.specs.declared.token.CSpanned.{CSpanned}
use Rattle.c_define.specs.Numbers.{macros_of}
use Rattle.c_directives.proofs.Steps.{put_full, put_one}
use Rattle.c_directives.proofs.condition.put_expanded.Goals as goal

pub returns-then-len-ge-MOST_TOKENS : goal.returns-then-len-ge-MOST_TOKENS
returns-then-len-ge-MOST_TOKENS c =
    let k = c.args.out.now.ok.0 in let e = c.len.ensures in let t = c.if-len-ge-MOST_TOKENS.true in
    record { same = λ f. absurd (cc); tokens = put_full (macros_of c.args.macros.now) c.args.token.now _ c.in_default.not-Id (omega arith) }

pub returns-in_ok-push-in_default : goal.returns-in_ok-push-in_default
returns-in_ok-push-in_default c =
    let k = c.args.out.now.ok.0 in let e = c.len.ensures in let t = c.if-len-ge-MOST_TOKENS.false in
    record {
      same = λ f. refl;
      tokens = put_one (macros_of c.args.macros.now) c.args.place c.args.token.now c.args.out.now.items c.push.new.self.items c.in_default.not-Id (omega arith)
          (c.in_ok-push-in_default.ensures.items ∙ ap (λ (t : CToken). c.args.out.now.items ++ record { token = t; place = c.args.place } ∷ []) c.in_ok-token-in_default.ensures);
    }
