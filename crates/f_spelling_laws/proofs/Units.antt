-- The tokens of units are those of their statements (ISO/IEC 1539-1:2018, 5.1, 14 and 15.6.2).
use Rattle.std.proofs.Common.{◌≡◌, List, [], ◌∷◌, Option, Some, None, Bool, true, ◌&&◌, map, refl}
use Rattle.std.specs.Prelude.{codes}
use Rattle.std.specs.Option.{option_map}
use Rattle.f_lex.specs.declared.token.Token.{Token}
use Rattle.f_tree.specs.declared.lexeme.Lexeme.{Lexeme}
use Rattle.f_tree.specs.declared.unit.Procedure.{Procedure}
use Rattle.f_tree.specs.declared.unit.Program.{Program}
use Rattle.f_tree.specs.declared.unit.Module.{Module}
use Rattle.f_tree.specs.declared.unit.Unit.{Unit as ProgramUnit}
use Rattle.f_tree.specs.declared.unit.Unit.TheVariants as unit_form
use Rattle.f_tree.specs.Lexemes.{each, if_there}
use Rattle.f_tree.specs.Declarations.{ending}
use Rattle.f_tree.specs.Statements.{statement}
use Rattle.f_tree.specs.Units.{procedure_word, joined_word, specification, procedure, program, contained, module_unit, unit}
use Rattle.f_declaration_grammar.specs.Declarations as grammar
use Rattle.f_statement_grammar.specs.Statements.{Statement}
use Rattle.f_construct_parts.specs.Lines.{optional, blocks_of}
use Rattle.f_unit_parts.specs.Units.{head_line, program_line, module_line, contains_line, end_line, word_of, specification_lines, procedure_lines, procedures_of, program_lines, contained_lines, module_lines, unit_lines, units_of}
use Rattle.f_spelling_laws.specs.Told.{all, maybe, head_told, unit_end_told, construct_is_told, specification_is_told, procedure_told, procedures_told, program_told, module_told, unit_told}
use Rattle.f_spelling_laws.proofs.Fronts.{first_of, second_of}
use Rattle.f_spelling_laws.proofs.Constructs.{Follows, one_more, blocks_spelled}
use Rattle.f_spelling_laws.proofs.Specifications.{end_follows, procedure_end_follows, head_line_spelled, specification_spelled}

procedure_follows : (p : Procedure) → procedure_told p ≡ true → (behind : List Token) (rest : List Lexeme) (ss : List Statement) → Follows behind rest ss → Follows behind (procedure p rest) (procedure_lines p ss)
unfolding procedure_lines
procedure_follows p sure behind rest ss follows =
    let h : Bool = head_told p.head in
    let s : Bool = specification_is_told p.specification in
    let b : Bool = all (map construct_is_told p.body) in
    let e : Bool = unit_end_told p.ending in
    let in_parts : (s && (b && e)) ≡ true = second_of h (s && (b && e)) sure in
    let in_body : (b && e) ≡ true = second_of s (b && e) in_parts in
    let end : List Lexeme = ending (procedure_word p.head.kind) (joined_word p.head.kind) p.ending rest in
    let body : List Lexeme = each (map statement p.body) end in
    let end_said : List Statement = end_line (word_of p.head.kind) p.ending ∷ ss in
    let body_said : List Statement = blocks_of p.body end_said in
    one_more (head_line p.head) behind (specification_lines p.specification body_said) (head_line_spelled p.head (first_of h (s && (b && e)) sure) (specification p.specification body))
    (specification_spelled p.specification (first_of s (b && e) in_parts) behind body body_said
    (blocks_spelled p.body (first_of b e in_body) behind end end_said
    (procedure_end_follows p.head.kind p.ending (second_of b e in_body) behind rest ss follows)))

program_follows : (p : Program) → program_told p ≡ true → (behind : List Token) (rest : List Lexeme) (ss : List Statement) → Follows behind rest ss → Follows behind (program p rest) (program_lines p ss)
unfolding program_lines
program_follows p sure behind rest ss follows =
    let s : Bool = specification_is_told p.specification in
    let b : Bool = all (map construct_is_told p.body) in
    let e : Bool = unit_end_told p.ending in
    let in_body : (b && e) ≡ true = second_of s (b && e) sure in
    let end : List Lexeme = ending (codes "program") (codes "endprogram") p.ending rest in
    let body : List Lexeme = each (map statement p.body) end in
    let end_said : List Statement = end_line grammar.OfProgram p.ending ∷ ss in
    let body_said : List Statement = blocks_of p.body end_said in
    one_more (program_line p.name) behind (specification_lines p.specification body_said) refl
    (specification_spelled p.specification (first_of s (b && e) sure) behind body body_said
    (blocks_spelled p.body (first_of b e in_body) behind end end_said
    (end_follows grammar.OfProgram p.ending (second_of b e in_body) behind rest ss follows)))

procedures_follow : (ps : List Procedure) → procedures_told ps ≡ true → (behind : List Token) (rest : List Lexeme) (ss : List Statement) → Follows behind rest ss → Follows behind (each (map procedure ps) rest) (procedures_of ps ss)
procedures_follow [] sure behind rest ss follows = follows
procedures_follow (p ∷ ps) sure behind rest ss follows =
    let a : Bool = procedures_told ps in
    procedure_follows p (first_of (procedure_told p) a sure) behind (each (map procedure ps) rest) (procedures_of ps ss) (procedures_follow ps (second_of (procedure_told p) a sure) behind rest ss follows)

contained_follows : (ps : Option (List Procedure)) → maybe (option_map procedures_told ps) ≡ true → (behind : List Token) (rest : List Lexeme) (ss : List Statement) → Follows behind rest ss → Follows behind (if_there contained ps rest) (optional (option_map contained_lines ps) ss)
contained_follows None sure behind rest ss follows = follows
contained_follows (Some ps) sure behind rest ss follows = one_more contains_line behind (procedures_of ps ss) refl (procedures_follow ps sure behind rest ss follows)

module_follows : (m : Module) → module_told m ≡ true → (behind : List Token) (rest : List Lexeme) (ss : List Statement) → Follows behind rest ss → Follows behind (module_unit m rest) (module_lines m ss)
unfolding module_lines
module_follows m sure behind rest ss follows =
    let s : Bool = specification_is_told m.specification in
    let c : Bool = maybe (option_map procedures_told m.procedures) in
    let e : Bool = unit_end_told m.ending in
    let in_parts : (c && e) ≡ true = second_of s (c && e) sure in
    let end : List Lexeme = ending (codes "module") (codes "endmodule") m.ending rest in
    let inside : List Lexeme = if_there contained m.procedures end in
    let end_said : List Statement = end_line grammar.OfModule m.ending ∷ ss in
    let inside_said : List Statement = optional (option_map contained_lines m.procedures) end_said in
    one_more (module_line m.name) behind (specification_lines m.specification inside_said) refl
    (specification_spelled m.specification (first_of s (c && e) sure) behind inside inside_said
    (contained_follows m.procedures (first_of c e in_parts) behind end end_said
    (end_follows grammar.OfModule m.ending (second_of c e in_parts) behind rest ss follows)))

pub unit_follows : (u : ProgramUnit) → unit_told u ≡ true → (behind : List Token) (rest : List Lexeme) (ss : List Statement) → Follows behind rest ss → Follows behind (unit u rest) (unit_lines u ss)
unfolding unit_lines
unit_follows (unit_form.Program p) sure behind rest ss follows = program_follows p sure behind rest ss follows
unit_follows (unit_form.Module m) sure behind rest ss follows = module_follows m sure behind rest ss follows
unit_follows (unit_form.Procedure p) sure behind rest ss follows = procedure_follows p sure behind rest ss follows

pub units_follow : (us : List ProgramUnit) → all (map unit_told us) ≡ true → (behind : List Token) (rest : List Lexeme) (ss : List Statement) → Follows behind rest ss → Follows behind (each (map unit us) rest) (units_of us ss)
units_follow [] sure behind rest ss follows = follows
units_follow (u ∷ us) sure behind rest ss follows =
    let a : Bool = all (map unit_told us) in
    unit_follows u (first_of (unit_told u) a sure) behind (each (map unit us) rest) (units_of us ss) (units_follow us (second_of (unit_told u) a sure) behind rest ss follows)
