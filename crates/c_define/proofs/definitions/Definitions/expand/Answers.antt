use Rattle.std.proofs.Common.{◌≡◌, ◌≤◌, ◌<◌, ◌+◌, ◌-◌, ◌++◌, ◌∷◌, [], rules, sym, ◌∙◌, ap, arith, map, length, subst, List, ℕ}
use Rattle.std.specs.Prelude.{Some, None}
use Rattle.c_token.specs.declared.token.CToken.TheVariants.{Id}
use Rattle.c_macros.specs.declared.token.Token.TheVariants.{Name}
use Rattle.c_macros.specs.Expansion.{expansion as number_expansion}
use Rattle.c_define.specs.Expansion.{expansion, IsPut}
use Rattle.c_define.specs.Numbers.{Tables, macros_of, number_of, macro_at, put_out}
use Rattle.c_define.proofs.Put.{no_room, one_put, number_over, number_put, expanded_over, expanded_put}
use Rattle.c_define.proofs.definitions.Definitions.expand.Goals as goal

pub returns-then-len-limit-clause-tokens : goal.returns-then-len-limit-clause-tokens
returns-then-len-limit-clause-tokens c =
    let t = c.args.self.now in
    let none : number_of t.names c.args.name.now ≡ None = ap (λ (s : Tables). number_of s.names c.args.name.now) (sym c.self.view_is) ∙ sym c.in-None.ensures in
    let e = c.len.ensures in
    no_room (macros_of t) c.args.name.now c.args.limit (length c.args.out.now.items) (ap (macro_at t) none) (let k = c.args.out.now.ok.0 in omega arith)

pub returns-in_ok-push-in-None-clause-tokens : goal.returns-in_ok-push-in-None-clause-tokens
returns-in_ok-push-in-None-clause-tokens c =
    let t = c.args.self.now in
    let none : number_of t.names c.args.name.now ≡ None = ap (λ (s : Tables). number_of s.names c.args.name.now) (sym c.self.view_is) ∙ sym c.in-None.ensures in
    let items : c.in_ok-spelling-in-None.spelling.items ≡ c.args.name.now = search rules in
    let e = c.len.ensures in
    one_put (macros_of t) c.args.name.now c.args.place c.args.limit c.args.out.now.items c.push.new.self.items (ap (macro_at t) none) (let k = c.args.out.now.ok.0 in omega arith)
    (c.in_ok-push-in-None.ensures.items ∙ ap (λ (l : List ℕ). c.args.out.now.items ++ record { token = Id l; place = c.args.place } ∷ []) (c.from_vec.ensures ∙ items))

pub returns-then-not-branch-clause-tokens : goal.returns-then-not-branch-clause-tokens
returns-then-not-branch-clause-tokens c =
    let t : Tables = record { names = c.self.inside.names; others = c.self.inside.others.items; written = c.self.inside.written.items; state = c.self.inside.macros } in
    let at : number_of t.names c.args.name.now ≡ Some c.in-Some.number = sym c.in-Some.ensures in
    let over = expanded_over c.self.inside.macros c.args.place (c.args.limit - c.len-in-Some.result) c.in-Some.number c.in_ok-expand-in-Some.field-0 c.self.inside.macros.on c.new-numbers.result.items c.expand.new.self.on c.expand.new.out.items c.if-not-branch.true c.new-numbers.ensures.items c.in_ok-expand-in-Some.ensures.tokens in
    let e = c.len-in-Some.ensures in
    let k = c.args.out.now.ok.0 in
    let len : c.len-in-Some.result ≡ length c.args.out.now.items = omega arith in
    subst (λ (s : Tables). c.args.limit < length c.args.out.now.items + length (expansion (macros_of s) (Id c.args.name.now ∷ []))) c.self.view_is
    (number_over t c.self.invariant c.args.name.now c.in-Some.number at c.args.limit (length c.args.out.now.items) c.requires (subst (λ (n : ℕ). c.args.limit - n < length (number_expansion t.state.bodies t.state.on (Name c.in-Some.number ∷ []))) len over))

pub returns-in_ok-put_out-in-Some-clause-tokens : goal.returns-in_ok-put_out-in-Some-clause-tokens
returns-in_ok-put_out-in-Some-clause-tokens c =
    let t : Tables = record { names = c.self.inside.names; others = c.self.inside.others.items; written = c.self.inside.written.items; state = c.self.inside.macros } in
    let at : number_of t.names c.args.name.now ≡ Some c.in-Some.number = sym c.in-Some.ensures in
    let put = expanded_put c.self.inside.macros c.args.place (c.args.limit - c.len-in-Some.result) c.in-Some.number c.in_ok-expand-in-Some.field-0 c.self.inside.macros.on c.new-numbers.result.items c.expand.new.self.on c.expand.new.out.items c.if-not-branch.false c.new-numbers.ensures.items c.in_ok-expand-in-Some.ensures.tokens in
    let e = c.len-in-Some.ensures in
    let k = c.args.out.now.ok.0 in
    let len : c.len-in-Some.result ≡ length c.args.out.now.items = omega arith in
    subst (λ (s : Tables). IsPut (macros_of s) c.args.name.now c.args.place c.args.limit c.args.out.now.items c.put_out.new.out.items) c.self.view_is
    (number_put t c.self.invariant c.args.name.now c.in-Some.number at c.args.place c.args.limit c.args.out.now.items c.put_out.new.out.items c.expand.new.out.items c.requires put.0 (subst (λ (n : ℕ). length c.expand.new.out.items ≤ c.args.limit - n) len put.1)
    (c.in_ok-put_out-in-Some.ensures ∙ ap (λ o. c.args.out.now.items ++ map (put_out t.names o) c.deref-in-Some.result.now) c.deref.ensures.value ∙ ap (λ l. c.args.out.now.items ++ map (put_out t.names t.others) l) c.deref-in-Some.ensures.value))
