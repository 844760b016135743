-- The statements of a file's units are those of their trees of statements.
use Rattle.std.proofs.Common.{◌≡◌, List, [], ◌∷◌, Option, Some, None, map, refl, ap, ◌∙◌}
use Rattle.std.specs.Option.{option_map}
use Rattle.f_tree.specs.declared.unit.Procedure.{Procedure}
use Rattle.f_tree.specs.declared.unit.Program.{Program}
use Rattle.f_tree.specs.declared.unit.Module.{Module}
use Rattle.f_tree.specs.declared.unit.Unit.{Unit as ProgramUnit}
use Rattle.f_tree.specs.declared.unit.Unit.TheVariants as unit_form
use Rattle.f_tree.specs.declared.statement.Statement.{Statement as Construct}
use Rattle.f_tree.specs.declared.declaration.Specification.{Specification}
use Rattle.f_declaration_grammar.specs.Declarations as grammar
use Rattle.f_statement_grammar.specs.Statements.{Statement}
use Rattle.f_unit_grammar.specs.Units.{no_trees, spell_tree, spell_trees}
use Rattle.f_construct_parts.specs.Lines.{optional, blocks_of}
use Rattle.f_unit_parts.specs.Units.{program_line, module_line, contains_line, specification_lines, procedure_lines, procedures_of, program_lines, contained_lines, module_lines, unit_lines, units_of}
use Rattle.f_unit_laws.specs.Shapes.{bare_ending, bare_blocks, bare_specification, bare_procedure, bare_unit}
use Rattle.f_unit_laws.specs.Derivations.{unit_end, block_trees, specification_trees, procedure_tree, procedure_trees, contained_trees, unit_tree, derivation}
use Rattle.f_unit_laws.proofs.Constructs.{blocks_spelled}
use Rattle.f_unit_laws.proofs.Specifications.{end_is, head_is, procedure_end_is, specification_spelled}

-- a specification and a block behind it
inside : (s : Specification) (body : List Construct) (rest : List Statement) → spell_trees (specification_trees (bare_specification s) (block_trees (bare_blocks body) no_trees)) rest ≡ specification_lines s (blocks_of body rest)
inside s body rest = specification_spelled s (block_trees (bare_blocks body) no_trees) rest ∙ ap (specification_lines s) (blocks_spelled body no_trees rest)

procedure_spelled : (p : Procedure) (rest : List Statement) → spell_tree (procedure_tree (bare_procedure p)) rest ≡ procedure_lines p rest
unfolding procedure_lines
procedure_spelled p rest = λ i. head_is p.head i ∷ inside p.specification p.body (procedure_end_is p.head p.ending i ∷ rest) i

procedures_spelled : (ps : List Procedure) (rest : List Statement) → spell_trees (procedure_trees (map bare_procedure ps)) rest ≡ procedures_of ps rest
procedures_spelled [] rest = refl
procedures_spelled (p ∷ ps) rest = procedure_spelled p (spell_trees (procedure_trees (map bare_procedure ps)) rest) ∙ ap (procedure_lines p) (procedures_spelled ps rest)

contained_spelled : (ps : Option (List Procedure)) (rest : List Statement) → spell_trees (contained_trees (option_map (map bare_procedure) ps)) rest ≡ optional (option_map contained_lines ps) rest
contained_spelled None rest = refl
contained_spelled (Some ps) rest = ap (λ (ss : List Statement). contains_line ∷ ss) (procedures_spelled ps rest)

program_spelled : (p : Program) (rest : List Statement) → spell_tree (unit_tree (bare_unit (unit_form.Program p))) rest ≡ program_lines p rest
unfolding program_lines
program_spelled p rest = λ i. program_line p.name ∷ inside p.specification p.body (end_is grammar.OfProgram p.ending i ∷ rest) i

module_spelled : (m : Module) (rest : List Statement) → spell_tree (unit_tree (bare_unit (unit_form.Module m))) rest ≡ module_lines m rest
unfolding module_lines
module_spelled m rest =
    let ps = contained_trees (option_map (map bare_procedure) m.procedures) in
    let end : Statement = unit_end grammar.OfModule (bare_ending m.ending) in
    ap (λ (ss : List Statement). module_line m.name ∷ ss) (specification_spelled m.specification ps (end ∷ rest)
    ∙ ap (specification_lines m.specification) (contained_spelled m.procedures (end ∷ rest)
    ∙ ap (λ (s : Statement). optional (option_map contained_lines m.procedures) (s ∷ rest)) (end_is grammar.OfModule m.ending)))

unit_spelled : (u : ProgramUnit) (rest : List Statement) → spell_tree (unit_tree (bare_unit u)) rest ≡ unit_lines u rest
unfolding unit_lines
unit_spelled (unit_form.Program p) rest = program_spelled p rest
unit_spelled (unit_form.Module m) rest = module_spelled m rest
unit_spelled (unit_form.Procedure p) rest = procedure_spelled p rest

pub units_spelled : (units : List ProgramUnit) → spell_trees (derivation units) [] ≡ units_of units []
units_spelled [] = refl
units_spelled (u ∷ us) = unit_spelled u (spell_trees (derivation us) []) ∙ ap (unit_lines u) (units_spelled us)
