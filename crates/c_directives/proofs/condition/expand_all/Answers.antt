use Rattle.std.proofs.Common.{◌≡◌, sym, ◌∙◌, ap, subst}
use Rattle.c_define.specs.Numbers.{Tables, macros_of}
use Rattle.c_directives.specs.Conditions.{Put}
use Rattle.c_directives.proofs.Steps.{put_so, put_over, over_all, few_all, expanded_more}
use Rattle.c_directives.proofs.condition.expand_all.Goals as goal

pub returns-then-not-branch-clause-tokens : goal.returns-then-not-branch-clause-tokens
returns-then-not-branch-clause-tokens c =
    let i = c.tokens.invariant in
    let put = subst (λ (m : Tables). Put c.in_ok-put_expanded.field-0 (macros_of m) c.args.place c.in-Some.token.now c.tokens.out.items c.put_expanded.new.out.items) i.same c.in_ok-put_expanded.ensures.tokens in
    over_all (macros_of c.args.macros.now) c.args.place c.tokens.out.items c.args.tokens.now c.tokens.rest.now c.in-Some.token.now c.in-Some.tail.now c.in-Some.ensures.cases.0 i.so_far
    (put_over c.in_ok-put_expanded.field-0 (macros_of c.args.macros.now) c.args.place c.in-Some.token.now c.tokens.out.items c.put_expanded.new.out.items c.if-not-branch.true put)

pub tokens-preserved : goal.tokens-preserved
tokens-preserved c =
    let i = c.tokens.invariant in
    let put = subst (λ (m : Tables). Put c.in_ok-put_expanded.field-0 (macros_of m) c.args.place c.in-Some.token.now c.tokens.out.items c.put_expanded.new.out.items) i.same c.in_ok-put_expanded.ensures.tokens in
    let so = put_so c.in_ok-put_expanded.field-0 (macros_of c.args.macros.now) c.args.place c.in-Some.token.now c.tokens.out.items c.put_expanded.new.out.items c.if-not-branch.false put in
    record {
      same = c.in_ok-put_expanded.ensures.same c.if-not-branch.false ∙ i.same;
      room = so.1;
      so_far = expanded_more (macros_of c.args.macros.now) c.args.place c.tokens.out.items c.put_expanded.new.out.items c.in-Some.token.now c.in-Some.tail.now c.tokens.rest.now c.in-Some.ensures.cases.0 so.0 ∙ i.so_far;
    }

pub returns-clause-tokens : goal.returns-clause-tokens
returns-clause-tokens c = few_all (macros_of c.args.macros.now) c.args.place c.tokens.out.items c.args.tokens.now c.tokens.rest.now c.in_default.ensures.cases c.tokens.invariant.room c.tokens.invariant.so_far
