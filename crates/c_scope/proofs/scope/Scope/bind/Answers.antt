use Rattle.std.proofs.Common.{◌≡◌, ◌<◌, List, [], ◌∷◌, ◌++◌, Bool, false, set, length, refl, sym, ap, subst, ◌∙◌}
use Rattle.c_grammar.specs.declared.scope.Binding.{Binding}
use Rattle.c_grammar.specs.Grammar.{is_type, type_after, bind}
use Rattle.c_scope.specs.declared.scope.Declared.{Declared}
use Rattle.c_scope.specs.Scopes.{Remembers, binding, bindings}
use Rattle.c_scope.proofs.Tables.{roomier, declared_last, bound_last}
use Rattle.c_scope.proofs.scope.Scope.bind.Goals as goal

pub invariant_of-self : goal.invariant_of-self
invariant_of-self c = roomier c.self.inside.kinds.items c.make_room.new.kinds.items c.self.inside.declared.items c.make_room.ensures.long c.make_room.ensures.same c.self.invariant

pub invariant_of-self-in_err-push-in-Some : goal.invariant_of-self-in_err-push-in-Some
invariant_of-self-in_err-push-in-Some c =
    let e : c.push.new.self.items ≡ c.self.inside.declared.items = c.in_err-push-in-Some.ensures.items in
    subst (λ (ds : List Declared). Remembers c.make_room.new.kinds.items ds) (sym e) (roomier c.self.inside.kinds.items c.make_room.new.kinds.items c.self.inside.declared.items c.make_room.ensures.long c.make_room.ensures.same c.self.invariant)

pub invariant_of-self-in-Some : goal.invariant_of-self-in-Some
unfolding is_type
invariant_of-self-in-Some c =
    let d : Declared = record { name = c.in-Some.name; is_type = c.args.is_type; was_type = c.is_type-was_type.result } in
    let e : c.push.new.self.items ≡ c.self.inside.declared.items ++ d ∷ [] = c.in_ok-push-in-Some.ensures.items in
    let was : c.is_type-was_type.result ≡ type_after false (bindings c.self.inside.declared.items) c.in-Some.name = c.is_type-was_type.ensures ∙ ap (λ (s : List Binding). type_after false s c.in-Some.name) (sym c.self.view_is) in
    subst (λ (ds : List Declared). Remembers (set c.make_room.new.kinds.items c.in-Some.name c.args.is_type) ds) (sym e) (declared_last c.make_room.new.kinds.items c.self.inside.declared.items d (roomier c.self.inside.kinds.items c.make_room.new.kinds.items c.self.inside.declared.items c.make_room.ensures.long c.make_room.ensures.same c.self.invariant) c.in_ok-make_room-in-Some.ensures.room was)

pub returns-in_ok-push-in-Some : goal.returns-in_ok-push-in-Some
returns-in_ok-push-in-Some c =
    let d : Declared = record { name = c.in-Some.name; is_type = c.args.is_type; was_type = c.is_type-was_type.result } in
    let e : c.push.new.self.items ≡ c.self.inside.declared.items ++ d ∷ [] = c.in_ok-push-in-Some.ensures.items in
    rw c.in-Some.is (ap (λ (ds : List Declared). bindings ds) e ∙ bound_last c.self.inside.declared.items d ∙ ap (λ (s : List Binding). s ++ binding d ∷ []) c.self.view_is)
