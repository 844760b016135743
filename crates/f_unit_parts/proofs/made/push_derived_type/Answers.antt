use Rattle.std.proofs.Common.{rules, ◌≡◌, ◌∷◌, List, refl, ap, ◌∙◌}
use Rattle.std.proofs.lemmas.Result.{on_ok_weaker}
use Rattle.f_tree.specs.declared.declaration.Declaration.{Declaration}
use Rattle.f_tree.specs.declared.declaration.Declaration.TheVariants as declaration
use Rattle.f_tree.specs.declared.declaration.Declaration.TheFolds.{the_lemmas}
use Rattle.f_statement_grammar.specs.Statements as grammar
use Rattle.f_unit_parts.specs.Units.{declaration_lines, declarations_of, derived_type_lines}
use Rattle.f_unit_parts.proofs.Lists.{each_last}
use Rattle.f_unit_parts.proofs.made.push_derived_type.Goals as goal

pub returns : goal.returns
returns c =
    let last : (rest : List grammar.Statement) → declaration_lines (declaration.DerivedType c.args.defined) rest ≡ derived_type_lines c.args.defined rest = λ rest. search (rules, the_lemmas) in
    on_ok_weaker c.push.result (λ e rest. ap (λ (xs : List Declaration). declarations_of xs rest) e ∙ each_last declaration_lines c.args.declarations.now (declaration.DerivedType c.args.defined) rest ∙ ap (declarations_of c.args.declarations.now) (last rest)) c.push.ensures.ok
