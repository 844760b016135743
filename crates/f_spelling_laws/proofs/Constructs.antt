-- The tokens of constructs are those of their statements (ISO/IEC 1539-1:2018, 11.1).
use Rattle.std.proofs.Common.{◌≡◌, List, [], ◌∷◌, ◌++◌, Option, Some, None, Bool, true, ◌&&◌, map, refl, sym, ap, subst, ◌∙◌}
use Rattle.std.specs.Prelude.{codes}
use Rattle.std.specs.Option.{option_map}
use Rattle.f_lex.specs.declared.token.Token.{Token}
use Rattle.f_lex.specs.declared.token.Token.TheVariants as token
use Rattle.f_tree.specs.declared.lexeme.Lexeme.{Lexeme}
use Rattle.f_tree.specs.declared.declaration.Ending.{Ending}
use Rattle.f_tree.specs.declared.statement.Statement.{Statement as Construct, map-Statement, ind-Statement, roll-Statement, fold-roll-Statement}
use Rattle.f_tree.specs.declared.statement.Statement.TheOpen as open_
use Rattle.f_tree.specs.declared.statement.Statement.TheOpen.{Statement-F, Case-F, DoConstruct-F, Else-F, ElseIf-F, IfConstruct-F, RankCase-F, SelectCase-F, SelectRank-F}
use Rattle.f_tree.specs.declared.statement.Statement.TheFolds.{map-Case, map-DoConstruct, map-Else, map-ElseIf, map-IfConstruct, map-RankCase, map-SelectCase, map-SelectRank, fold-roll-Case, fold-roll-DoConstruct, fold-roll-Else, fold-roll-ElseIf, fold-roll-IfConstruct, fold-roll-RankCase, fold-roll-SelectCase, fold-roll-SelectRank}
use Rattle.f_tree.specs.declared.statement.Statement.TheViews.{roll-Case, roll-DoConstruct, roll-Else, roll-ElseIf, roll-IfConstruct, roll-RankCase, roll-SelectCase, roll-SelectRank}
use Rattle.f_tree.specs.declared.statement.Case.{Case}
use Rattle.f_tree.specs.declared.statement.DoConstruct.{DoConstruct}
use Rattle.f_tree.specs.declared.statement.Else.{Else}
use Rattle.f_tree.specs.declared.statement.ElseIf.{ElseIf}
use Rattle.f_tree.specs.declared.statement.IfConstruct.{IfConstruct}
use Rattle.f_tree.specs.declared.statement.RankCase.{RankCase}
use Rattle.f_tree.specs.declared.statement.SelectCase.{SelectCase}
use Rattle.f_tree.specs.declared.statement.SelectRank.{SelectRank}
use Rattle.f_tree.specs.Lexemes.{Front, each, optional}
use Rattle.f_tree.specs.Declarations.{ending}
use Rattle.f_tree.specs.Statements.{statement_step, case_step, do_step, else_step, else_if_step, if_step, rank_step, select_step, select_rank_step, statement, case_block, do_construct, else_block, else_if, if_construct, rank_block, select_case, select_rank}
use Rattle.f_line_grammar.specs.Lines as line
use Rattle.f_statement_grammar.specs.Statements.{Statement, spell_statement}
use Rattle.f_construct_parts.specs.Lines.{Front as LinesFront, each as each_said, optional as optional_said, blocks_of, end_line, else_line, action_line, guarded_line, if_line, else_if_line, loop_line, select_case_line, case_line, select_rank_line, rank_line, statement_step as statement_said, case_step as case_said, do_step as do_said, else_step as else_said, else_if_step as else_if_said, if_step as if_said, rank_step as rank_said, select_step as select_said, select_rank_step as select_rank_said, lines_of, case_lines, do_lines, else_lines, else_if_lines, if_lines, rank_lines, select_lines, select_rank_lines}
use Rattle.f_spelling_laws.specs.Told.{tokens_of, all, maybe, is_told, control_told, choice_told, rank_told, construct_end_told, construct_told, case_told, do_told, else_told, else_if_told, if_told, rank_part_told, select_told, select_rank_told, construct_is_told, case_is_told, do_is_told, else_is_told, else_if_is_told, if_is_told, rank_is_told, select_is_told, select_rank_is_told}
use Rattle.f_spelling_laws.specs.Statements.{spell_statements}
use Rattle.f_spelling_laws.proofs.Fronts.{first_of, second_of}
use Rattle.f_spelling_laws.proofs.Lines.{action_line_spelled, guarded_line_spelled, if_line_spelled, else_if_line_spelled, loop_line_spelled, select_line_spelled, case_line_spelled, select_rank_line_spelled, rank_line_spelled, end_line_spelled}

-- what follows has the tokens of these statements, and then these
abbrev pub Follows : List Token → List Lexeme → List Statement → Type 0
Follows behind rest ss = tokens_of rest ≡ spell_statements ss behind

-- one statement more
pub one_more : {front rest : List Token} (s : Statement) (behind : List Token) (ss : List Statement) → front ≡ spell_statement s ++ token.End ∷ rest → rest ≡ spell_statements ss behind → front ≡ spell_statements (s ∷ ss) behind
one_more s behind ss spelled follows = spelled ∙ ap (λ (ts : List Token). spell_statement s ++ token.End ∷ ts) follows

-- ---- what is shown of each construct

abbrev IsStatement : Construct → Type 0
IsStatement x = construct_is_told x ≡ true → (behind : List Token) (rest : List Lexeme) (ss : List Statement) → Follows behind rest ss → Follows behind (statement x rest) (lines_of x ss)

abbrev IsCase : Case → Type 0
IsCase x = case_is_told x ≡ true → (behind : List Token) (rest : List Lexeme) (ss : List Statement) → Follows behind rest ss → Follows behind (case_block x rest) (case_lines x ss)

abbrev IsDoConstruct : DoConstruct → Type 0
IsDoConstruct x = do_is_told x ≡ true → (behind : List Token) (rest : List Lexeme) (ss : List Statement) → Follows behind rest ss → Follows behind (do_construct x rest) (do_lines x ss)

abbrev IsElse : Else → Type 0
IsElse x = else_is_told x ≡ true → (behind : List Token) (rest : List Lexeme) (ss : List Statement) → Follows behind rest ss → Follows behind (else_block x rest) (else_lines x ss)

abbrev IsElseIf : ElseIf → Type 0
IsElseIf x = else_if_is_told x ≡ true → (behind : List Token) (rest : List Lexeme) (ss : List Statement) → Follows behind rest ss → Follows behind (else_if x rest) (else_if_lines x ss)

abbrev IsIfConstruct : IfConstruct → Type 0
IsIfConstruct x = if_is_told x ≡ true → (behind : List Token) (rest : List Lexeme) (ss : List Statement) → Follows behind rest ss → Follows behind (if_construct x rest) (if_lines x ss)

abbrev IsRankCase : RankCase → Type 0
IsRankCase x = rank_is_told x ≡ true → (behind : List Token) (rest : List Lexeme) (ss : List Statement) → Follows behind rest ss → Follows behind (rank_block x rest) (rank_lines x ss)

abbrev IsSelectCase : SelectCase → Type 0
IsSelectCase x = select_is_told x ≡ true → (behind : List Token) (rest : List Lexeme) (ss : List Statement) → Follows behind rest ss → Follows behind (select_case x rest) (select_lines x ss)

abbrev IsSelectRank : SelectRank → Type 0
IsSelectRank x = select_rank_is_told x ≡ true → (behind : List Token) (rest : List Lexeme) (ss : List Statement) → Follows behind rest ss → Follows behind (select_rank x rest) (select_rank_lines x ss)

-- a construct with its proof
abbrev ShownStatement : Type 0
ShownStatement = (x : Construct) × IsStatement x

abbrev ShownCase : Type 0
ShownCase = (x : Case) × IsCase x

abbrev ShownDoConstruct : Type 0
ShownDoConstruct = (x : DoConstruct) × IsDoConstruct x

abbrev ShownElse : Type 0
ShownElse = (x : Else) × IsElse x

abbrev ShownElseIf : Type 0
ShownElseIf = (x : ElseIf) × IsElseIf x

abbrev ShownIfConstruct : Type 0
ShownIfConstruct = (x : IfConstruct) × IsIfConstruct x

abbrev ShownRankCase : Type 0
ShownRankCase = (x : RankCase) × IsRankCase x

abbrev ShownSelectCase : Type 0
ShownSelectCase = (x : SelectCase) × IsSelectCase x

abbrev ShownSelectRank : Type 0
ShownSelectRank = (x : SelectRank) × IsSelectRank x

-- a layer whose parts each have a proof
abbrev StatementLayer : Type 0
StatementLayer = Statement-F ShownStatement ShownCase ShownDoConstruct ShownElse ShownElseIf ShownIfConstruct ShownRankCase ShownSelectCase ShownSelectRank

abbrev CaseLayer : Type 0
CaseLayer = Case-F ShownStatement ShownCase ShownDoConstruct ShownElse ShownElseIf ShownIfConstruct ShownRankCase ShownSelectCase ShownSelectRank

abbrev DoConstructLayer : Type 0
DoConstructLayer = DoConstruct-F ShownStatement ShownCase ShownDoConstruct ShownElse ShownElseIf ShownIfConstruct ShownRankCase ShownSelectCase ShownSelectRank

abbrev ElseLayer : Type 0
ElseLayer = Else-F ShownStatement ShownCase ShownDoConstruct ShownElse ShownElseIf ShownIfConstruct ShownRankCase ShownSelectCase ShownSelectRank

abbrev ElseIfLayer : Type 0
ElseIfLayer = ElseIf-F ShownStatement ShownCase ShownDoConstruct ShownElse ShownElseIf ShownIfConstruct ShownRankCase ShownSelectCase ShownSelectRank

abbrev IfConstructLayer : Type 0
IfConstructLayer = IfConstruct-F ShownStatement ShownCase ShownDoConstruct ShownElse ShownElseIf ShownIfConstruct ShownRankCase ShownSelectCase ShownSelectRank

abbrev RankCaseLayer : Type 0
RankCaseLayer = RankCase-F ShownStatement ShownCase ShownDoConstruct ShownElse ShownElseIf ShownIfConstruct ShownRankCase ShownSelectCase ShownSelectRank

abbrev SelectCaseLayer : Type 0
SelectCaseLayer = SelectCase-F ShownStatement ShownCase ShownDoConstruct ShownElse ShownElseIf ShownIfConstruct ShownRankCase ShownSelectCase ShownSelectRank

abbrev SelectRankLayer : Type 0
SelectRankLayer = SelectRank-F ShownStatement ShownCase ShownDoConstruct ShownElse ShownElseIf ShownIfConstruct ShownRankCase ShownSelectCase ShownSelectRank

-- the value of a layer, without the proofs
abbrev plain_statement : StatementLayer → Statement-F Construct Case DoConstruct Else ElseIf IfConstruct RankCase SelectCase SelectRank
plain_statement y = map-Statement ShownStatement ShownCase ShownDoConstruct ShownElse ShownElseIf ShownIfConstruct ShownRankCase ShownSelectCase ShownSelectRank Construct Case DoConstruct Else ElseIf IfConstruct RankCase SelectCase SelectRank (λ e. e.0) (λ e. e.0) (λ e. e.0) (λ e. e.0) (λ e. e.0) (λ e. e.0) (λ e. e.0) (λ e. e.0) (λ e. e.0) y

abbrev plain_case : CaseLayer → Case-F Construct Case DoConstruct Else ElseIf IfConstruct RankCase SelectCase SelectRank
plain_case y = map-Case ShownStatement ShownCase ShownDoConstruct ShownElse ShownElseIf ShownIfConstruct ShownRankCase ShownSelectCase ShownSelectRank Construct Case DoConstruct Else ElseIf IfConstruct RankCase SelectCase SelectRank (λ e. e.0) (λ e. e.0) (λ e. e.0) (λ e. e.0) (λ e. e.0) (λ e. e.0) (λ e. e.0) (λ e. e.0) (λ e. e.0) y

abbrev plain_do : DoConstructLayer → DoConstruct-F Construct Case DoConstruct Else ElseIf IfConstruct RankCase SelectCase SelectRank
plain_do y = map-DoConstruct ShownStatement ShownCase ShownDoConstruct ShownElse ShownElseIf ShownIfConstruct ShownRankCase ShownSelectCase ShownSelectRank Construct Case DoConstruct Else ElseIf IfConstruct RankCase SelectCase SelectRank (λ e. e.0) (λ e. e.0) (λ e. e.0) (λ e. e.0) (λ e. e.0) (λ e. e.0) (λ e. e.0) (λ e. e.0) (λ e. e.0) y

abbrev plain_else : ElseLayer → Else-F Construct Case DoConstruct Else ElseIf IfConstruct RankCase SelectCase SelectRank
plain_else y = map-Else ShownStatement ShownCase ShownDoConstruct ShownElse ShownElseIf ShownIfConstruct ShownRankCase ShownSelectCase ShownSelectRank Construct Case DoConstruct Else ElseIf IfConstruct RankCase SelectCase SelectRank (λ e. e.0) (λ e. e.0) (λ e. e.0) (λ e. e.0) (λ e. e.0) (λ e. e.0) (λ e. e.0) (λ e. e.0) (λ e. e.0) y

abbrev plain_else_if : ElseIfLayer → ElseIf-F Construct Case DoConstruct Else ElseIf IfConstruct RankCase SelectCase SelectRank
plain_else_if y = map-ElseIf ShownStatement ShownCase ShownDoConstruct ShownElse ShownElseIf ShownIfConstruct ShownRankCase ShownSelectCase ShownSelectRank Construct Case DoConstruct Else ElseIf IfConstruct RankCase SelectCase SelectRank (λ e. e.0) (λ e. e.0) (λ e. e.0) (λ e. e.0) (λ e. e.0) (λ e. e.0) (λ e. e.0) (λ e. e.0) (λ e. e.0) y

abbrev plain_if : IfConstructLayer → IfConstruct-F Construct Case DoConstruct Else ElseIf IfConstruct RankCase SelectCase SelectRank
plain_if y = map-IfConstruct ShownStatement ShownCase ShownDoConstruct ShownElse ShownElseIf ShownIfConstruct ShownRankCase ShownSelectCase ShownSelectRank Construct Case DoConstruct Else ElseIf IfConstruct RankCase SelectCase SelectRank (λ e. e.0) (λ e. e.0) (λ e. e.0) (λ e. e.0) (λ e. e.0) (λ e. e.0) (λ e. e.0) (λ e. e.0) (λ e. e.0) y

abbrev plain_rank : RankCaseLayer → RankCase-F Construct Case DoConstruct Else ElseIf IfConstruct RankCase SelectCase SelectRank
plain_rank y = map-RankCase ShownStatement ShownCase ShownDoConstruct ShownElse ShownElseIf ShownIfConstruct ShownRankCase ShownSelectCase ShownSelectRank Construct Case DoConstruct Else ElseIf IfConstruct RankCase SelectCase SelectRank (λ e. e.0) (λ e. e.0) (λ e. e.0) (λ e. e.0) (λ e. e.0) (λ e. e.0) (λ e. e.0) (λ e. e.0) (λ e. e.0) y

abbrev plain_select : SelectCaseLayer → SelectCase-F Construct Case DoConstruct Else ElseIf IfConstruct RankCase SelectCase SelectRank
plain_select y = map-SelectCase ShownStatement ShownCase ShownDoConstruct ShownElse ShownElseIf ShownIfConstruct ShownRankCase ShownSelectCase ShownSelectRank Construct Case DoConstruct Else ElseIf IfConstruct RankCase SelectCase SelectRank (λ e. e.0) (λ e. e.0) (λ e. e.0) (λ e. e.0) (λ e. e.0) (λ e. e.0) (λ e. e.0) (λ e. e.0) (λ e. e.0) y

abbrev plain_select_rank : SelectRankLayer → SelectRank-F Construct Case DoConstruct Else ElseIf IfConstruct RankCase SelectCase SelectRank
plain_select_rank y = map-SelectRank ShownStatement ShownCase ShownDoConstruct ShownElse ShownElseIf ShownIfConstruct ShownRankCase ShownSelectCase ShownSelectRank Construct Case DoConstruct Else ElseIf IfConstruct RankCase SelectCase SelectRank (λ e. e.0) (λ e. e.0) (λ e. e.0) (λ e. e.0) (λ e. e.0) (λ e. e.0) (λ e. e.0) (λ e. e.0) (λ e. e.0) y

-- the tokens of a layer, its statements and what is asked of it
abbrev statement_front : StatementLayer → Front
statement_front y = statement_step (map-Statement Construct Case DoConstruct Else ElseIf IfConstruct RankCase SelectCase SelectRank Front Front Front Front Front Front Front Front Front statement case_block do_construct else_block else_if if_construct rank_block select_case select_rank (plain_statement y))

abbrev statement_layer_lines : StatementLayer → LinesFront
statement_layer_lines y = statement_said (map-Statement Construct Case DoConstruct Else ElseIf IfConstruct RankCase SelectCase SelectRank LinesFront LinesFront LinesFront LinesFront LinesFront LinesFront LinesFront LinesFront LinesFront lines_of case_lines do_lines else_lines else_if_lines if_lines rank_lines select_lines select_rank_lines (plain_statement y))

abbrev statement_asked : StatementLayer → Bool
statement_asked y = construct_told (map-Statement Construct Case DoConstruct Else ElseIf IfConstruct RankCase SelectCase SelectRank Bool Bool Bool Bool Bool Bool Bool Bool Bool construct_is_told case_is_told do_is_told else_is_told else_if_is_told if_is_told rank_is_told select_is_told select_rank_is_told (plain_statement y))

abbrev case_front : CaseLayer → Front
case_front y = case_step (map-Case Construct Case DoConstruct Else ElseIf IfConstruct RankCase SelectCase SelectRank Front Front Front Front Front Front Front Front Front statement case_block do_construct else_block else_if if_construct rank_block select_case select_rank (plain_case y))

abbrev case_layer_lines : CaseLayer → LinesFront
case_layer_lines y = case_said (map-Case Construct Case DoConstruct Else ElseIf IfConstruct RankCase SelectCase SelectRank LinesFront LinesFront LinesFront LinesFront LinesFront LinesFront LinesFront LinesFront LinesFront lines_of case_lines do_lines else_lines else_if_lines if_lines rank_lines select_lines select_rank_lines (plain_case y))

abbrev case_asked : CaseLayer → Bool
case_asked y = case_told (map-Case Construct Case DoConstruct Else ElseIf IfConstruct RankCase SelectCase SelectRank Bool Bool Bool Bool Bool Bool Bool Bool Bool construct_is_told case_is_told do_is_told else_is_told else_if_is_told if_is_told rank_is_told select_is_told select_rank_is_told (plain_case y))

abbrev do_front : DoConstructLayer → Front
do_front y = do_step (map-DoConstruct Construct Case DoConstruct Else ElseIf IfConstruct RankCase SelectCase SelectRank Front Front Front Front Front Front Front Front Front statement case_block do_construct else_block else_if if_construct rank_block select_case select_rank (plain_do y))

abbrev do_layer_lines : DoConstructLayer → LinesFront
do_layer_lines y = do_said (map-DoConstruct Construct Case DoConstruct Else ElseIf IfConstruct RankCase SelectCase SelectRank LinesFront LinesFront LinesFront LinesFront LinesFront LinesFront LinesFront LinesFront LinesFront lines_of case_lines do_lines else_lines else_if_lines if_lines rank_lines select_lines select_rank_lines (plain_do y))

abbrev do_asked : DoConstructLayer → Bool
do_asked y = do_told (map-DoConstruct Construct Case DoConstruct Else ElseIf IfConstruct RankCase SelectCase SelectRank Bool Bool Bool Bool Bool Bool Bool Bool Bool construct_is_told case_is_told do_is_told else_is_told else_if_is_told if_is_told rank_is_told select_is_told select_rank_is_told (plain_do y))

abbrev else_front : ElseLayer → Front
else_front y = else_step (map-Else Construct Case DoConstruct Else ElseIf IfConstruct RankCase SelectCase SelectRank Front Front Front Front Front Front Front Front Front statement case_block do_construct else_block else_if if_construct rank_block select_case select_rank (plain_else y))

abbrev else_layer_lines : ElseLayer → LinesFront
else_layer_lines y = else_said (map-Else Construct Case DoConstruct Else ElseIf IfConstruct RankCase SelectCase SelectRank LinesFront LinesFront LinesFront LinesFront LinesFront LinesFront LinesFront LinesFront LinesFront lines_of case_lines do_lines else_lines else_if_lines if_lines rank_lines select_lines select_rank_lines (plain_else y))

abbrev else_asked : ElseLayer → Bool
else_asked y = else_told (map-Else Construct Case DoConstruct Else ElseIf IfConstruct RankCase SelectCase SelectRank Bool Bool Bool Bool Bool Bool Bool Bool Bool construct_is_told case_is_told do_is_told else_is_told else_if_is_told if_is_told rank_is_told select_is_told select_rank_is_told (plain_else y))

abbrev else_if_front : ElseIfLayer → Front
else_if_front y = else_if_step (map-ElseIf Construct Case DoConstruct Else ElseIf IfConstruct RankCase SelectCase SelectRank Front Front Front Front Front Front Front Front Front statement case_block do_construct else_block else_if if_construct rank_block select_case select_rank (plain_else_if y))

abbrev else_if_layer_lines : ElseIfLayer → LinesFront
else_if_layer_lines y = else_if_said (map-ElseIf Construct Case DoConstruct Else ElseIf IfConstruct RankCase SelectCase SelectRank LinesFront LinesFront LinesFront LinesFront LinesFront LinesFront LinesFront LinesFront LinesFront lines_of case_lines do_lines else_lines else_if_lines if_lines rank_lines select_lines select_rank_lines (plain_else_if y))

abbrev else_if_asked : ElseIfLayer → Bool
else_if_asked y = else_if_told (map-ElseIf Construct Case DoConstruct Else ElseIf IfConstruct RankCase SelectCase SelectRank Bool Bool Bool Bool Bool Bool Bool Bool Bool construct_is_told case_is_told do_is_told else_is_told else_if_is_told if_is_told rank_is_told select_is_told select_rank_is_told (plain_else_if y))

abbrev if_front : IfConstructLayer → Front
if_front y = if_step (map-IfConstruct Construct Case DoConstruct Else ElseIf IfConstruct RankCase SelectCase SelectRank Front Front Front Front Front Front Front Front Front statement case_block do_construct else_block else_if if_construct rank_block select_case select_rank (plain_if y))

abbrev if_layer_lines : IfConstructLayer → LinesFront
if_layer_lines y = if_said (map-IfConstruct Construct Case DoConstruct Else ElseIf IfConstruct RankCase SelectCase SelectRank LinesFront LinesFront LinesFront LinesFront LinesFront LinesFront LinesFront LinesFront LinesFront lines_of case_lines do_lines else_lines else_if_lines if_lines rank_lines select_lines select_rank_lines (plain_if y))

abbrev if_asked : IfConstructLayer → Bool
if_asked y = if_told (map-IfConstruct Construct Case DoConstruct Else ElseIf IfConstruct RankCase SelectCase SelectRank Bool Bool Bool Bool Bool Bool Bool Bool Bool construct_is_told case_is_told do_is_told else_is_told else_if_is_told if_is_told rank_is_told select_is_told select_rank_is_told (plain_if y))

abbrev rank_front : RankCaseLayer → Front
rank_front y = rank_step (map-RankCase Construct Case DoConstruct Else ElseIf IfConstruct RankCase SelectCase SelectRank Front Front Front Front Front Front Front Front Front statement case_block do_construct else_block else_if if_construct rank_block select_case select_rank (plain_rank y))

abbrev rank_layer_lines : RankCaseLayer → LinesFront
rank_layer_lines y = rank_said (map-RankCase Construct Case DoConstruct Else ElseIf IfConstruct RankCase SelectCase SelectRank LinesFront LinesFront LinesFront LinesFront LinesFront LinesFront LinesFront LinesFront LinesFront lines_of case_lines do_lines else_lines else_if_lines if_lines rank_lines select_lines select_rank_lines (plain_rank y))

abbrev rank_asked : RankCaseLayer → Bool
rank_asked y = rank_part_told (map-RankCase Construct Case DoConstruct Else ElseIf IfConstruct RankCase SelectCase SelectRank Bool Bool Bool Bool Bool Bool Bool Bool Bool construct_is_told case_is_told do_is_told else_is_told else_if_is_told if_is_told rank_is_told select_is_told select_rank_is_told (plain_rank y))

abbrev select_front : SelectCaseLayer → Front
select_front y = select_step (map-SelectCase Construct Case DoConstruct Else ElseIf IfConstruct RankCase SelectCase SelectRank Front Front Front Front Front Front Front Front Front statement case_block do_construct else_block else_if if_construct rank_block select_case select_rank (plain_select y))

abbrev select_layer_lines : SelectCaseLayer → LinesFront
select_layer_lines y = select_said (map-SelectCase Construct Case DoConstruct Else ElseIf IfConstruct RankCase SelectCase SelectRank LinesFront LinesFront LinesFront LinesFront LinesFront LinesFront LinesFront LinesFront LinesFront lines_of case_lines do_lines else_lines else_if_lines if_lines rank_lines select_lines select_rank_lines (plain_select y))

abbrev select_asked : SelectCaseLayer → Bool
select_asked y = select_told (map-SelectCase Construct Case DoConstruct Else ElseIf IfConstruct RankCase SelectCase SelectRank Bool Bool Bool Bool Bool Bool Bool Bool Bool construct_is_told case_is_told do_is_told else_is_told else_if_is_told if_is_told rank_is_told select_is_told select_rank_is_told (plain_select y))

abbrev select_rank_front : SelectRankLayer → Front
select_rank_front y = select_rank_step (map-SelectRank Construct Case DoConstruct Else ElseIf IfConstruct RankCase SelectCase SelectRank Front Front Front Front Front Front Front Front Front statement case_block do_construct else_block else_if if_construct rank_block select_case select_rank (plain_select_rank y))

abbrev select_rank_layer_lines : SelectRankLayer → LinesFront
select_rank_layer_lines y = select_rank_said (map-SelectRank Construct Case DoConstruct Else ElseIf IfConstruct RankCase SelectCase SelectRank LinesFront LinesFront LinesFront LinesFront LinesFront LinesFront LinesFront LinesFront LinesFront lines_of case_lines do_lines else_lines else_if_lines if_lines rank_lines select_lines select_rank_lines (plain_select_rank y))

abbrev select_rank_asked : SelectRankLayer → Bool
select_rank_asked y = select_rank_told (map-SelectRank Construct Case DoConstruct Else ElseIf IfConstruct RankCase SelectCase SelectRank Bool Bool Bool Bool Bool Bool Bool Bool Bool construct_is_told case_is_told do_is_told else_is_told else_if_is_told if_is_told rank_is_told select_is_told select_rank_is_told (plain_select_rank y))

-- ---- lists of parts

bodies_follow : (xs : List ShownStatement) → all (map construct_is_told (map (λ x. x.0) xs)) ≡ true → (behind : List Token) (rest : List Lexeme) (ss : List Statement) → Follows behind rest ss →
    Follows behind (each (map statement (map (λ x. x.0) xs)) rest) (each_said (map lines_of (map (λ x. x.0) xs)) ss)
bodies_follow [] sure behind rest ss follows = follows
bodies_follow (x ∷ xs) sure behind rest ss follows =
    let a : Bool = all (map construct_is_told (map (λ x. x.0) xs)) in
    x.1 (first_of (construct_is_told x.0) a sure) behind (each (map statement (map (λ x. x.0) xs)) rest) (each_said (map lines_of (map (λ x. x.0) xs)) ss) (bodies_follow xs (second_of (construct_is_told x.0) a sure) behind rest ss follows)

cases_follow : (xs : List ShownCase) → all (map case_is_told (map (λ x. x.0) xs)) ≡ true → (behind : List Token) (rest : List Lexeme) (ss : List Statement) → Follows behind rest ss →
    Follows behind (each (map case_block (map (λ x. x.0) xs)) rest) (each_said (map case_lines (map (λ x. x.0) xs)) ss)
cases_follow [] sure behind rest ss follows = follows
cases_follow (x ∷ xs) sure behind rest ss follows =
    let a : Bool = all (map case_is_told (map (λ x. x.0) xs)) in
    x.1 (first_of (case_is_told x.0) a sure) behind (each (map case_block (map (λ x. x.0) xs)) rest) (each_said (map case_lines (map (λ x. x.0) xs)) ss) (cases_follow xs (second_of (case_is_told x.0) a sure) behind rest ss follows)

else_ifs_follow : (xs : List ShownElseIf) → all (map else_if_is_told (map (λ x. x.0) xs)) ≡ true → (behind : List Token) (rest : List Lexeme) (ss : List Statement) → Follows behind rest ss →
    Follows behind (each (map else_if (map (λ x. x.0) xs)) rest) (each_said (map else_if_lines (map (λ x. x.0) xs)) ss)
else_ifs_follow [] sure behind rest ss follows = follows
else_ifs_follow (x ∷ xs) sure behind rest ss follows =
    let a : Bool = all (map else_if_is_told (map (λ x. x.0) xs)) in
    x.1 (first_of (else_if_is_told x.0) a sure) behind (each (map else_if (map (λ x. x.0) xs)) rest) (each_said (map else_if_lines (map (λ x. x.0) xs)) ss) (else_ifs_follow xs (second_of (else_if_is_told x.0) a sure) behind rest ss follows)

ranks_follow : (xs : List ShownRankCase) → all (map rank_is_told (map (λ x. x.0) xs)) ≡ true → (behind : List Token) (rest : List Lexeme) (ss : List Statement) → Follows behind rest ss →
    Follows behind (each (map rank_block (map (λ x. x.0) xs)) rest) (each_said (map rank_lines (map (λ x. x.0) xs)) ss)
ranks_follow [] sure behind rest ss follows = follows
ranks_follow (x ∷ xs) sure behind rest ss follows =
    let a : Bool = all (map rank_is_told (map (λ x. x.0) xs)) in
    x.1 (first_of (rank_is_told x.0) a sure) behind (each (map rank_block (map (λ x. x.0) xs)) rest) (each_said (map rank_lines (map (λ x. x.0) xs)) ss) (ranks_follow xs (second_of (rank_is_told x.0) a sure) behind rest ss follows)

-- ---- each layer

-- the end of a construct behind its parts
end_follows : (c : line.Construct) (e : Ending) → construct_end_told e ≡ true → (behind : List Token) (rest : List Lexeme) (ss : List Statement) → Follows behind rest ss → Follows behind (ending (line.construct_word c) (line.joined_word c) e rest) (end_line c e ∷ ss)
end_follows c e sure behind rest ss follows = one_more (end_line c e) behind ss (end_line_spelled c e sure rest) follows

statement_shown : (y : StatementLayer) → statement_asked y ≡ true → (behind : List Token) (rest : List Lexeme) (ss : List Statement) → Follows behind rest ss → Follows behind (statement_front y rest) (statement_layer_lines y ss)
statement_shown (open_.Action a) sure behind rest ss follows = one_more (action_line a) behind ss (action_line_spelled a sure rest) follows
statement_shown (open_.IfAction p condition a) sure behind rest ss follows = one_more (guarded_line condition a) behind ss (guarded_line_spelled p condition a sure rest) follows
statement_shown (open_.If c) sure behind rest ss follows = c.1 sure behind rest ss follows
statement_shown (open_.Do c) sure behind rest ss follows = c.1 sure behind rest ss follows
statement_shown (open_.SelectCase c) sure behind rest ss follows = c.1 sure behind rest ss follows
statement_shown (open_.SelectRank c) sure behind rest ss follows = c.1 sure behind rest ss follows

case_shown : (y : CaseLayer) → case_asked y ≡ true → (behind : List Token) (rest : List Lexeme) (ss : List Statement) → Follows behind rest ss → Follows behind (case_front y rest) (case_layer_lines y ss)
case_shown y sure behind rest ss follows =
    let a : Bool = all (map construct_is_told (map (λ x. x.0) y.body)) in
    one_more (case_line y.choice) behind (each_said (map lines_of (map (λ x. x.0) y.body)) ss) (case_line_spelled y.place y.choice (first_of (choice_told y.choice) a sure) (each (map statement (map (λ x. x.0) y.body)) rest))
    (bodies_follow y.body (second_of (choice_told y.choice) a sure) behind rest ss follows)

rank_shown : (y : RankCaseLayer) → rank_asked y ≡ true → (behind : List Token) (rest : List Lexeme) (ss : List Statement) → Follows behind rest ss → Follows behind (rank_front y rest) (rank_layer_lines y ss)
rank_shown y sure behind rest ss follows =
    let a : Bool = all (map construct_is_told (map (λ x. x.0) y.body)) in
    one_more (rank_line y.choice) behind (each_said (map lines_of (map (λ x. x.0) y.body)) ss) (rank_line_spelled y.place y.choice (first_of (rank_told y.choice) a sure) (each (map statement (map (λ x. x.0) y.body)) rest))
    (bodies_follow y.body (second_of (rank_told y.choice) a sure) behind rest ss follows)

else_if_shown : (y : ElseIfLayer) → else_if_asked y ≡ true → (behind : List Token) (rest : List Lexeme) (ss : List Statement) → Follows behind rest ss → Follows behind (else_if_front y rest) (else_if_layer_lines y ss)
else_if_shown y sure behind rest ss follows =
    let a : Bool = all (map construct_is_told (map (λ x. x.0) y.body)) in
    one_more (else_if_line y.is_one_word y.condition) behind (each_said (map lines_of (map (λ x. x.0) y.body)) ss) (else_if_line_spelled y.place y.is_one_word y.condition (first_of (is_told y.condition) a sure) (each (map statement (map (λ x. x.0) y.body)) rest))
    (bodies_follow y.body (second_of (is_told y.condition) a sure) behind rest ss follows)

else_shown : (y : ElseLayer) → else_asked y ≡ true → (behind : List Token) (rest : List Lexeme) (ss : List Statement) → Follows behind rest ss → Follows behind (else_front y rest) (else_layer_lines y ss)
else_shown y sure behind rest ss follows = one_more else_line behind (each_said (map lines_of (map (λ x. x.0) y.body)) ss) refl (bodies_follow y.body sure behind rest ss follows)

do_shown : (y : DoConstructLayer) → do_asked y ≡ true → (behind : List Token) (rest : List Lexeme) (ss : List Statement) → Follows behind rest ss → Follows behind (do_front y rest) (do_layer_lines y ss)
do_shown y sure behind rest ss follows =
    let a : Bool = all (map construct_is_told (map (λ x. x.0) y.body)) in
    let e : Bool = construct_end_told y.ending in
    let c : Bool = control_told y.control in
    let end : List Lexeme = ending (codes "do") (codes "enddo") y.ending rest in
    one_more (loop_line y.control) behind (each_said (map lines_of (map (λ x. x.0) y.body)) (end_line line.Do y.ending ∷ ss)) (loop_line_spelled y.place y.control (first_of c (a && e) sure) (each (map statement (map (λ x. x.0) y.body)) end))
    (bodies_follow y.body (first_of a e (second_of c (a && e) sure)) behind end (end_line line.Do y.ending ∷ ss)
    (end_follows line.Do y.ending (second_of a e (second_of c (a && e) sure)) behind rest ss follows))

select_shown : (y : SelectCaseLayer) → select_asked y ≡ true → (behind : List Token) (rest : List Lexeme) (ss : List Statement) → Follows behind rest ss → Follows behind (select_front y rest) (select_layer_lines y ss)
select_shown y sure behind rest ss follows =
    let a : Bool = all (map case_is_told (map (λ x. x.0) y.cases)) in
    let e : Bool = construct_end_told y.ending in
    let c : Bool = is_told y.selector in
    let end : List Lexeme = ending (codes "select") (codes "endselect") y.ending rest in
    one_more (select_case_line y.is_one_word y.selector) behind (each_said (map case_lines (map (λ x. x.0) y.cases)) (end_line line.Select y.ending ∷ ss)) (select_line_spelled y.place y.is_one_word y.selector (first_of c (a && e) sure) (each (map case_block (map (λ x. x.0) y.cases)) end))
    (cases_follow y.cases (first_of a e (second_of c (a && e) sure)) behind end (end_line line.Select y.ending ∷ ss)
    (end_follows line.Select y.ending (second_of a e (second_of c (a && e) sure)) behind rest ss follows))

select_rank_shown : (y : SelectRankLayer) → select_rank_asked y ≡ true → (behind : List Token) (rest : List Lexeme) (ss : List Statement) → Follows behind rest ss → Follows behind (select_rank_front y rest) (select_rank_layer_lines y ss)
select_rank_shown y sure behind rest ss follows =
    let a : Bool = all (map rank_is_told (map (λ x. x.0) y.ranks)) in
    let e : Bool = construct_end_told y.ending in
    let end : List Lexeme = ending (codes "select") (codes "endselect") y.ending rest in
    one_more (select_rank_line y.renamed y.selector) behind (each_said (map rank_lines (map (λ x. x.0) y.ranks)) (end_line line.Select y.ending ∷ ss)) (select_rank_line_spelled y.place y.renamed y.selector (each (map rank_block (map (λ x. x.0) y.ranks)) end))
    (ranks_follow y.ranks (first_of a e sure) behind end (end_line line.Select y.ending ∷ ss) (end_follows line.Select y.ending (second_of a e sure) behind rest ss follows))

otherwise_follows : (other : Option ShownElse) → maybe (option_map else_is_told (option_map (λ x. x.0) other)) ≡ true → (behind : List Token) (rest : List Lexeme) (ss : List Statement) → Follows behind rest ss →
    Follows behind (optional (option_map else_block (option_map (λ x. x.0) other)) rest) (optional_said (option_map else_lines (option_map (λ x. x.0) other)) ss)
otherwise_follows None sure behind rest ss follows = follows
otherwise_follows (Some x) sure behind rest ss follows = x.1 sure behind rest ss follows

if_shown : (y : IfConstructLayer) → if_asked y ≡ true → (behind : List Token) (rest : List Lexeme) (ss : List Statement) → Follows behind rest ss → Follows behind (if_front y rest) (if_layer_lines y ss)
if_shown y = of y.otherwise
  where
    with_other : Option ShownElse → IfConstructLayer
    with_other other = record { place = y.place; condition = y.condition; body = y.body; else_ifs = y.else_ifs; otherwise = other; ending = y.ending }

    inside : (other : Option ShownElse) →
        (is_told y.condition && (all (map construct_is_told (map (λ x. x.0) y.body)) && (all (map else_if_is_told (map (λ x. x.0) y.else_ifs)) && (maybe (option_map else_is_told (option_map (λ x. x.0) other)) && construct_end_told y.ending)))) ≡ true →
        (behind : List Token) (rest : List Lexeme) (ss : List Statement) → Follows behind rest ss →
        Follows behind (if_step (record { place = y.place; condition = y.condition; body = map statement (map (λ x. x.0) y.body); else_ifs = map else_if (map (λ x. x.0) y.else_ifs); otherwise = option_map else_block (option_map (λ x. x.0) other); ending = y.ending }) rest)
        (if_said (record { place = y.place; condition = y.condition; body = map lines_of (map (λ x. x.0) y.body); else_ifs = map else_if_lines (map (λ x. x.0) y.else_ifs); otherwise = option_map else_lines (option_map (λ x. x.0) other); ending = y.ending }) ss)
    inside other sure behind rest ss follows =
        let c : Bool = is_told y.condition in
        let a : Bool = all (map construct_is_told (map (λ x. x.0) y.body)) in
        let i : Bool = all (map else_if_is_told (map (λ x. x.0) y.else_ifs)) in
        let o : Bool = maybe (option_map else_is_told (option_map (λ x. x.0) other)) in
        let e : Bool = construct_end_told y.ending in
        let in_parts : (a && (i && (o && e))) ≡ true = second_of c (a && (i && (o && e))) sure in
        let in_elses : (i && (o && e)) ≡ true = second_of a (i && (o && e)) in_parts in
        let in_last : (o && e) ≡ true = second_of i (o && e) in_elses in
        let end : List Lexeme = ending (codes "if") (codes "endif") y.ending rest in
        let last : List Lexeme = optional (option_map else_block (option_map (λ x. x.0) other)) end in
        let elses : List Lexeme = each (map else_if (map (λ x. x.0) y.else_ifs)) last in
        let end_said : List Statement = end_line line.If y.ending ∷ ss in
        let last_said : List Statement = optional_said (option_map else_lines (option_map (λ x. x.0) other)) end_said in
        let elses_said : List Statement = each_said (map else_if_lines (map (λ x. x.0) y.else_ifs)) last_said in
        one_more (if_line y.condition) behind (each_said (map lines_of (map (λ x. x.0) y.body)) elses_said) (if_line_spelled y.place y.condition (first_of c (a && (i && (o && e))) sure) (each (map statement (map (λ x. x.0) y.body)) elses))
        (bodies_follow y.body (first_of a (i && (o && e)) in_parts) behind elses elses_said
        (else_ifs_follow y.else_ifs (first_of i (o && e) in_elses) behind last last_said
        (otherwise_follows other (first_of o e in_last) behind end end_said
        (end_follows line.If y.ending (second_of o e in_last) behind rest ss follows))))

    of : (other : Option ShownElse) → if_asked (with_other other) ≡ true → (behind : List Token) (rest : List Lexeme) (ss : List Statement) → Follows behind rest ss → Follows behind (if_front (with_other other) rest) (if_layer_lines (with_other other) ss)
    of None sure behind rest ss follows = inside None sure behind rest ss follows
    of (Some x) sure behind rest ss follows = inside (Some x) sure behind rest ss follows

-- ---- each construct, where its parts have it

statement_layer : (y : StatementLayer) → IsStatement (roll-Statement (plain_statement y))
statement_layer y sure behind rest ss follows =
    ap (λ (f : Front). tokens_of (f rest)) (fold-roll-Statement Front Front Front Front Front Front Front Front Front statement_step case_step do_step else_step else_if_step if_step rank_step select_step select_rank_step (plain_statement y))
    ∙ statement_shown y (sym (fold-roll-Statement Bool Bool Bool Bool Bool Bool Bool Bool Bool construct_told case_told do_told else_told else_if_told if_told rank_part_told select_told select_rank_told (plain_statement y)) ∙ sure) behind rest ss follows
    ∙ sym (ap (λ (f : LinesFront). spell_statements (f ss) behind) (fold-roll-Statement LinesFront LinesFront LinesFront LinesFront LinesFront LinesFront LinesFront LinesFront LinesFront statement_said case_said do_said else_said else_if_said if_said rank_said select_said select_rank_said (plain_statement y)))

case_layer : (y : CaseLayer) → IsCase (roll-Case (plain_case y))
case_layer y sure behind rest ss follows =
    ap (λ (f : Front). tokens_of (f rest)) (fold-roll-Case Front Front Front Front Front Front Front Front Front statement_step case_step do_step else_step else_if_step if_step rank_step select_step select_rank_step (plain_case y))
    ∙ case_shown y (sym (fold-roll-Case Bool Bool Bool Bool Bool Bool Bool Bool Bool construct_told case_told do_told else_told else_if_told if_told rank_part_told select_told select_rank_told (plain_case y)) ∙ sure) behind rest ss follows
    ∙ sym (ap (λ (f : LinesFront). spell_statements (f ss) behind) (fold-roll-Case LinesFront LinesFront LinesFront LinesFront LinesFront LinesFront LinesFront LinesFront LinesFront statement_said case_said do_said else_said else_if_said if_said rank_said select_said select_rank_said (plain_case y)))

do_layer : (y : DoConstructLayer) → IsDoConstruct (roll-DoConstruct (plain_do y))
do_layer y sure behind rest ss follows =
    ap (λ (f : Front). tokens_of (f rest)) (fold-roll-DoConstruct Front Front Front Front Front Front Front Front Front statement_step case_step do_step else_step else_if_step if_step rank_step select_step select_rank_step (plain_do y))
    ∙ do_shown y (sym (fold-roll-DoConstruct Bool Bool Bool Bool Bool Bool Bool Bool Bool construct_told case_told do_told else_told else_if_told if_told rank_part_told select_told select_rank_told (plain_do y)) ∙ sure) behind rest ss follows
    ∙ sym (ap (λ (f : LinesFront). spell_statements (f ss) behind) (fold-roll-DoConstruct LinesFront LinesFront LinesFront LinesFront LinesFront LinesFront LinesFront LinesFront LinesFront statement_said case_said do_said else_said else_if_said if_said rank_said select_said select_rank_said (plain_do y)))

else_layer : (y : ElseLayer) → IsElse (roll-Else (plain_else y))
else_layer y sure behind rest ss follows =
    ap (λ (f : Front). tokens_of (f rest)) (fold-roll-Else Front Front Front Front Front Front Front Front Front statement_step case_step do_step else_step else_if_step if_step rank_step select_step select_rank_step (plain_else y))
    ∙ else_shown y (sym (fold-roll-Else Bool Bool Bool Bool Bool Bool Bool Bool Bool construct_told case_told do_told else_told else_if_told if_told rank_part_told select_told select_rank_told (plain_else y)) ∙ sure) behind rest ss follows
    ∙ sym (ap (λ (f : LinesFront). spell_statements (f ss) behind) (fold-roll-Else LinesFront LinesFront LinesFront LinesFront LinesFront LinesFront LinesFront LinesFront LinesFront statement_said case_said do_said else_said else_if_said if_said rank_said select_said select_rank_said (plain_else y)))

else_if_layer : (y : ElseIfLayer) → IsElseIf (roll-ElseIf (plain_else_if y))
else_if_layer y sure behind rest ss follows =
    ap (λ (f : Front). tokens_of (f rest)) (fold-roll-ElseIf Front Front Front Front Front Front Front Front Front statement_step case_step do_step else_step else_if_step if_step rank_step select_step select_rank_step (plain_else_if y))
    ∙ else_if_shown y (sym (fold-roll-ElseIf Bool Bool Bool Bool Bool Bool Bool Bool Bool construct_told case_told do_told else_told else_if_told if_told rank_part_told select_told select_rank_told (plain_else_if y)) ∙ sure) behind rest ss follows
    ∙ sym (ap (λ (f : LinesFront). spell_statements (f ss) behind) (fold-roll-ElseIf LinesFront LinesFront LinesFront LinesFront LinesFront LinesFront LinesFront LinesFront LinesFront statement_said case_said do_said else_said else_if_said if_said rank_said select_said select_rank_said (plain_else_if y)))

if_layer : (y : IfConstructLayer) → IsIfConstruct (roll-IfConstruct (plain_if y))
if_layer y sure behind rest ss follows =
    ap (λ (f : Front). tokens_of (f rest)) (fold-roll-IfConstruct Front Front Front Front Front Front Front Front Front statement_step case_step do_step else_step else_if_step if_step rank_step select_step select_rank_step (plain_if y))
    ∙ if_shown y (sym (fold-roll-IfConstruct Bool Bool Bool Bool Bool Bool Bool Bool Bool construct_told case_told do_told else_told else_if_told if_told rank_part_told select_told select_rank_told (plain_if y)) ∙ sure) behind rest ss follows
    ∙ sym (ap (λ (f : LinesFront). spell_statements (f ss) behind) (fold-roll-IfConstruct LinesFront LinesFront LinesFront LinesFront LinesFront LinesFront LinesFront LinesFront LinesFront statement_said case_said do_said else_said else_if_said if_said rank_said select_said select_rank_said (plain_if y)))

rank_layer : (y : RankCaseLayer) → IsRankCase (roll-RankCase (plain_rank y))
rank_layer y sure behind rest ss follows =
    ap (λ (f : Front). tokens_of (f rest)) (fold-roll-RankCase Front Front Front Front Front Front Front Front Front statement_step case_step do_step else_step else_if_step if_step rank_step select_step select_rank_step (plain_rank y))
    ∙ rank_shown y (sym (fold-roll-RankCase Bool Bool Bool Bool Bool Bool Bool Bool Bool construct_told case_told do_told else_told else_if_told if_told rank_part_told select_told select_rank_told (plain_rank y)) ∙ sure) behind rest ss follows
    ∙ sym (ap (λ (f : LinesFront). spell_statements (f ss) behind) (fold-roll-RankCase LinesFront LinesFront LinesFront LinesFront LinesFront LinesFront LinesFront LinesFront LinesFront statement_said case_said do_said else_said else_if_said if_said rank_said select_said select_rank_said (plain_rank y)))

select_layer : (y : SelectCaseLayer) → IsSelectCase (roll-SelectCase (plain_select y))
select_layer y sure behind rest ss follows =
    ap (λ (f : Front). tokens_of (f rest)) (fold-roll-SelectCase Front Front Front Front Front Front Front Front Front statement_step case_step do_step else_step else_if_step if_step rank_step select_step select_rank_step (plain_select y))
    ∙ select_shown y (sym (fold-roll-SelectCase Bool Bool Bool Bool Bool Bool Bool Bool Bool construct_told case_told do_told else_told else_if_told if_told rank_part_told select_told select_rank_told (plain_select y)) ∙ sure) behind rest ss follows
    ∙ sym (ap (λ (f : LinesFront). spell_statements (f ss) behind) (fold-roll-SelectCase LinesFront LinesFront LinesFront LinesFront LinesFront LinesFront LinesFront LinesFront LinesFront statement_said case_said do_said else_said else_if_said if_said rank_said select_said select_rank_said (plain_select y)))

select_rank_layer : (y : SelectRankLayer) → IsSelectRank (roll-SelectRank (plain_select_rank y))
select_rank_layer y sure behind rest ss follows =
    ap (λ (f : Front). tokens_of (f rest)) (fold-roll-SelectRank Front Front Front Front Front Front Front Front Front statement_step case_step do_step else_step else_if_step if_step rank_step select_step select_rank_step (plain_select_rank y))
    ∙ select_rank_shown y (sym (fold-roll-SelectRank Bool Bool Bool Bool Bool Bool Bool Bool Bool construct_told case_told do_told else_told else_if_told if_told rank_part_told select_told select_rank_told (plain_select_rank y)) ∙ sure) behind rest ss follows
    ∙ sym (ap (λ (f : LinesFront). spell_statements (f ss) behind) (fold-roll-SelectRank LinesFront LinesFront LinesFront LinesFront LinesFront LinesFront LinesFront LinesFront LinesFront statement_said case_said do_said else_said else_if_said if_said rank_said select_said select_rank_said (plain_select_rank y)))

-- ---- all constructs

pub construct_spelled : (x : Construct) → IsStatement x
construct_spelled = ind-Statement IsStatement IsCase IsDoConstruct IsElse IsElseIf IsIfConstruct IsRankCase IsSelectCase IsSelectRank
    (λ x y is. subst (λ (z : Statement-F Construct Case DoConstruct Else ElseIf IfConstruct RankCase SelectCase SelectRank). IsStatement (roll-Statement z)) is (statement_layer y))
    (λ x y is. subst (λ (z : Case-F Construct Case DoConstruct Else ElseIf IfConstruct RankCase SelectCase SelectRank). IsCase (roll-Case z)) is (case_layer y))
    (λ x y is. subst (λ (z : DoConstruct-F Construct Case DoConstruct Else ElseIf IfConstruct RankCase SelectCase SelectRank). IsDoConstruct (roll-DoConstruct z)) is (do_layer y))
    (λ x y is. subst (λ (z : Else-F Construct Case DoConstruct Else ElseIf IfConstruct RankCase SelectCase SelectRank). IsElse (roll-Else z)) is (else_layer y))
    (λ x y is. subst (λ (z : ElseIf-F Construct Case DoConstruct Else ElseIf IfConstruct RankCase SelectCase SelectRank). IsElseIf (roll-ElseIf z)) is (else_if_layer y))
    (λ x y is. subst (λ (z : IfConstruct-F Construct Case DoConstruct Else ElseIf IfConstruct RankCase SelectCase SelectRank). IsIfConstruct (roll-IfConstruct z)) is (if_layer y))
    (λ x y is. subst (λ (z : RankCase-F Construct Case DoConstruct Else ElseIf IfConstruct RankCase SelectCase SelectRank). IsRankCase (roll-RankCase z)) is (rank_layer y))
    (λ x y is. subst (λ (z : SelectCase-F Construct Case DoConstruct Else ElseIf IfConstruct RankCase SelectCase SelectRank). IsSelectCase (roll-SelectCase z)) is (select_layer y))
    (λ x y is. subst (λ (z : SelectRank-F Construct Case DoConstruct Else ElseIf IfConstruct RankCase SelectCase SelectRank). IsSelectRank (roll-SelectRank z)) is (select_rank_layer y))

pub blocks_spelled : (xs : List Construct) → all (map construct_is_told xs) ≡ true → (behind : List Token) (rest : List Lexeme) (ss : List Statement) → Follows behind rest ss → Follows behind (each (map statement xs) rest) (blocks_of xs ss)
blocks_spelled [] sure behind rest ss follows = follows
blocks_spelled (x ∷ xs) sure behind rest ss follows =
    let a : Bool = all (map construct_is_told xs) in
    construct_spelled x (first_of (construct_is_told x) a sure) behind (each (map statement xs) rest) (blocks_of xs ss) (blocks_spelled xs (second_of (construct_is_told x) a sure) behind rest ss follows)
