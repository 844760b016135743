use Rattle.std.proofs.Common.{◌≡◌, ◌<◌, ◌≤◌, ◌+◌, List, [], ◌∷◌, ◌++◌, length, take, sym, ap, subst, ◌∙◌, arith}
use Rattle.c_scope.specs.declared.scope.Declared.{Declared}
use Rattle.c_scope.specs.Scopes.{Remembers, bindings}
use Rattle.c_scope.proofs.Tables.{in_table, taken_back, take_front, take_all}
use Rattle.c_scope.proofs.scope.take_back.Goals as goal

pub index_mut-requires : goal.index_mut-requires
index_mut-requires c =
    let e : c.loop-declared.declared.items ≡ c.pop.new.self.items ++ c.in-Some.last ∷ [] = c.in-Some.ensures.items in
    let h : c.in-Some.last.name < length c.loop-declared.kinds.items = in_table c.loop-declared.kinds.items c.pop.new.self.items c.in-Some.last (subst (λ (ds : List Declared). Remembers c.loop-declared.kinds.items ds) e c.loop-declared.invariant.0) in
    omega (arith, h, c.loop-declared.kinds.ok)

pub loop-declared-preserved-in-Some : goal.loop-declared-preserved-in-Some
loop-declared-preserved-in-Some c =
    let e : c.loop-declared.declared.items ≡ c.pop.new.self.items ++ c.in-Some.last ∷ [] = c.in-Some.ensures.items in
    let le : c.args.mark ≤ length c.pop.new.self.items = omega (arith, c.in-Some.ensures.cases, c.loop-declared-test.true, c.len.ensures) in (
      taken_back c.loop-declared.kinds.items c.pop.new.self.items c.in-Some.last (subst (λ (ds : List Declared). Remembers c.loop-declared.kinds.items ds) e c.loop-declared.invariant.0),
      sym (ap (λ (ds : List Declared). take c.args.mark (bindings ds)) e ∙ take_front c.args.mark c.pop.new.self.items c.in-Some.last le) ∙ c.loop-declared.invariant.1,
    )

pub returns-clause-kept : goal.returns-clause-kept
returns-clause-kept c =
    let le : length c.loop-declared.declared.items ≤ c.args.mark = omega (arith, c.loop-declared-test.false, c.len.ensures) in
    sym (take_all c.args.mark c.loop-declared.declared.items le) ∙ c.loop-declared.invariant.1
