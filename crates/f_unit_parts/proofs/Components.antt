-- Statements that declare components.
use Rattle.std.proofs.Common.{◌≡◌, List, [], ◌∷◌, map, Option, Some, None, Bool, true, false, ◌&&◌, refl, ap, ◌∙◌}
use Rattle.f_tree.specs.declared.declaration.Entity.{Entity}
use Rattle.f_tree.specs.declared.declaration.Initial.{Initial}
use Rattle.f_tree.specs.declared.declaration.Initial.TheVariants as initial
use Rattle.f_declaration_grammar.specs.Declarations as grammar
use Rattle.f_unit_grammar.specs.Units.{is_component, are_components}
use Rattle.f_declared.specs.Views.{view_entity, view_dimensions, initial_of}
use Rattle.f_unit_parts.specs.Views.{bare}

and_parts : (a b : Bool) → (a && b) ≡ true → (a ≡ true) × (b ≡ true)
and_parts true true e = (refl, refl)
and_parts true false e = absurd (cc)
and_parts false b e = absurd (cc)

pub three : (a b c : Bool) → (a && b && c) ≡ true → (a ≡ true) × (b ≡ true) × (c ≡ true)
three true true true e = (refl, refl, refl)
three true true false e = absurd (cc)
three true false c e = absurd (cc)
three false b c e = absurd (cc)

none_initial : (name : _) (dims : _) (i : Option Initial) → is_component (grammar.entity name dims (initial_of i)) ≡ true → grammar.entity name dims grammar.NoInitial ≡ grammar.entity name dims (initial_of i)
none_initial name dims None e = refl
none_initial name dims (Some (initial.Value v)) e = absurd (cc)
none_initial name dims (Some (initial.Null p)) e = absurd (cc)

pub all_bare : (es : List Entity) → are_components (map view_entity es) ≡ true → map bare es ≡ map view_entity es
all_bare [] p = refl
all_bare (e ∷ es) p =
    let q = and_parts (is_component (view_entity e)) (are_components (map view_entity es)) p in
    ap (λ (x : grammar.Entity). x ∷ map bare es) (none_initial e.name.bytes (view_dimensions e.dimensions) e.initial q.0) ∙ ap (λ (xs : List grammar.Entity). view_entity e ∷ xs) (all_bare es q.1)
