-- What is shown: the tokens of a tree are those that the grammar spells for its view.
use Rattle.std.specs.Prelude.{◌≡◌, ◌⊎◌, ℕ, List, [], ◌++◌, true, map, ◌∷◌}
use Rattle.f_lex.specs.declared.token.Spanned.{Spanned}
use Rattle.f_lex.specs.declared.reader.Fault.{Fault}
use Rattle.f_lex.specs.Lexing.{Lexes, Breaks}
use Rattle.f_tree.specs.Text.{text_of}
use Rattle.f_print_laws.specs.Tokens.{IsOnLengths}
use Rattle.f_tree.specs.declared.lexeme.Lexeme.{Lexeme}
use Rattle.f_tree.specs.declared.expression.Expression.{Expression}
use Rattle.f_tree.specs.declared.expression.Reference.{Reference}
use Rattle.f_tree.specs.declared.expression.TypeSpec.{TypeSpec}
use Rattle.f_tree.specs.declared.statement.Action.{Action}
use Rattle.f_tree.specs.declared.statement.Statement.{Statement as Construct}
use Rattle.f_tree.specs.declared.declaration.Specification.{Specification}
use Rattle.f_tree.specs.declared.unit.Unit.{Unit as ProgramUnit}
use Rattle.f_tree.specs.Lexemes.{each}
use Rattle.f_tree.specs.Expressions.{expression, reference, type_spec}
use Rattle.f_tree.specs.Statements.{action, statement}
use Rattle.f_tree.specs.Units.{specification, unit}
use Rattle.f_grammar.specs.Grammar.{spell, spell_refer, spell_type}
use Rattle.f_grammar.specs.Actions.{spell_act}
use Rattle.f_expr_read.specs.Views.{view, view_reference, view_type}
use Rattle.f_action_read.specs.Actions.{view_action}
use Rattle.f_declaration_grammar.specs.Listing.{AreAll}
use Rattle.f_statement_grammar.specs.Statements.{Statement, FitsStatement}
use Rattle.f_unit_grammar.specs.Units.{IsFile}
use Rattle.f_unit_grammar.specs.Rules.{IsText}
use Rattle.f_construct_parts.specs.Lines.{blocks_of}
use Rattle.f_unit_parts.specs.Units.{specification_lines, unit_lines, units_of}
use Rattle.f_spelling_laws.specs.Told.{tokens_of, all, is_told, reference_is_told, type_is_told, action_told, construct_is_told, specification_is_told, unit_told}
use Rattle.f_spelling_laws.specs.Plain.{unit_is_plain}
use Rattle.f_spelling_laws.specs.Statements.{spell_statements}

abbrev pub OfExpressions : Type 0
OfExpressions = (e : Expression) → is_told e ≡ true → (rest : List Lexeme) → tokens_of (expression e rest) ≡ spell (view e) (tokens_of rest)

abbrev pub OfReferences : Type 0
OfReferences = (r : Reference) → reference_is_told r ≡ true → (rest : List Lexeme) → tokens_of (reference r rest) ≡ spell_refer (view_reference r) (tokens_of rest)

abbrev pub OfTypes : Type 0
OfTypes = (t : TypeSpec) → type_is_told t ≡ true → (rest : List Lexeme) → tokens_of (type_spec t rest) ≡ spell_type (view_type t) (tokens_of rest)

abbrev pub OfActions : Type 0
OfActions = (a : Action) → action_told a ≡ true → (rest : List Lexeme) → tokens_of (action a rest) ≡ spell_act (view_action a) ++ tokens_of rest

abbrev pub OfBlocks : Type 0
OfBlocks = (cs : List Construct) → all (map construct_is_told cs) ≡ true → (rest : List Lexeme) → tokens_of (each (map statement cs) rest) ≡ spell_statements (blocks_of cs []) (tokens_of rest)

abbrev pub OfSpecifications : Type 0
OfSpecifications = (s : Specification) → specification_is_told s ≡ true → (rest : List Lexeme) → tokens_of (specification s rest) ≡ spell_statements (specification_lines s []) (tokens_of rest)

abbrev pub OfUnits : Type 0
OfUnits = (us : List ProgramUnit) → all (map unit_told us) ≡ true → (rest : List Lexeme) → tokens_of (each (map unit us) rest) ≡ spell_statements (units_of us []) (tokens_of rest)

-- each statement has at most so many nestings
abbrev pub Fit : List Statement → Type 0
Fit ss = AreAll (FitsStatement 65) ss

abbrev pub OfFiles : Type 0
OfFiles = (us : List ProgramUnit) → all (map unit_told us) ≡ true → IsFile (units_of us []) → Fit (units_of us []) → (text : IsText (tokens_of (each (map unit us) []))) × (text.statements ≡ units_of us [])

-- A unit of a text, printed by itself and read again, has the same statements, or the printed text breaks a rule on lengths (L01, L07, L08).
abbrev pub OfTexts : Type 0
OfTexts = (file before other earlier : ℕ) (bytes : List ℕ) (tokens : List Spanned) (front back : List ProgramUnit) (u : ProgramUnit) → Lexes file before bytes tokens
    → all (map unit_told (front ++ u ∷ back)) ≡ true → map (λ t. t.token) tokens ≡ spell_statements (units_of (front ++ u ∷ back) []) []
    → ((again : List Spanned) × Lexes other earlier (text_of (unit u [])) again × (map (λ t. t.token) again ≡ spell_statements (unit_lines u []) [])) ⊎ ((fault : Fault) × Breaks earlier (text_of (unit u [])) fault × IsOnLengths fault.rule)

-- units of a file are told where no CHARACTER has empty parentheses
abbrev pub PlainAreTold : Type 0
PlainAreTold = (us : List ProgramUnit) → all (map unit_is_plain us) ≡ true → IsFile (units_of us []) → Fit (units_of us []) → all (map unit_told us) ≡ true
