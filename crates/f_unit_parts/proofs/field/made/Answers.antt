use Rattle.std.proofs.Common.{◌≡◌, List, map, Bool, true, ap, sym, ◌∙◌}
use Rattle.f_declaration_grammar.specs.Declarations as grammar
use Rattle.f_statement_grammar.specs.Statements.{Statement, Declaring}
use Rattle.f_unit_grammar.specs.Units.{are_component_attributes, are_components}
use Rattle.f_expr_read.specs.Views.{view_type}
use Rattle.f_declared.specs.Views.{view_attribute, view_entity}
use Rattle.f_unit_parts.specs.Units.{view_field, variables_line, component_line}
use Rattle.f_unit_parts.proofs.Components.{three, all_bare}
use Rattle.f_unit_parts.proofs.field.made.Goals as goal

pub returns : goal.returns
unfolding component_line variables_line
returns c =
    let v = c.args.variables in
    let attributes = map view_attribute v.attributes in
    let t = three v.has_colons (are_component_attributes attributes) (are_components (map view_entity v.entities)) c.requires in
    let fields = map view_field c.in_ok-fields.fields in
    let line : List grammar.Attr → Bool → List grammar.Entity → Statement = λ xs b es. Declaring (grammar.Variables (view_type v.declared) xs b es) in
    ap (λ (xs : List grammar.Attr). line xs true fields) c.dimension.ensures ∙ ap (λ (b : Bool). line attributes b fields) (sym t.0) ∙ ap (line attributes v.has_colons) (c.in_ok-fields.ensures ∙ all_bare v.entities t.2)
