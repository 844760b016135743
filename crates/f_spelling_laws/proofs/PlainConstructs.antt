-- Constructs whose statements fit, ended as they began, in which no CHARACTER has empty parentheses, are told.
use Rattle.std.proofs.Common.{◌≡◌, List, [], ◌∷◌, Option, Some, None, Bool, true, ◌&&◌, map, refl, sym, subst, ◌∙◌}
use Rattle.std.proofs.lemmas.Bool.{and_from}
use Rattle.std.specs.Option.{option_map}
use Rattle.f_tree.specs.declared.statement.Statement.{Statement as Construct, map-Statement, ind-Statement, roll-Statement, fold-roll-Statement}
use Rattle.f_tree.specs.declared.statement.Statement.TheOpen as open_
use Rattle.f_tree.specs.declared.statement.Statement.TheOpen.{Statement-F, Case-F, DoConstruct-F, Else-F, ElseIf-F, IfConstruct-F, RankCase-F, SelectCase-F, SelectRank-F}
use Rattle.f_tree.specs.declared.statement.Statement.TheFolds.{map-Case, map-DoConstruct, map-Else, map-ElseIf, map-IfConstruct, map-RankCase, map-SelectCase, map-SelectRank, fold-Case, fold-DoConstruct, fold-Else, fold-ElseIf, fold-IfConstruct, fold-RankCase, fold-SelectCase, fold-SelectRank, fold-roll-Case, fold-roll-DoConstruct, fold-roll-Else, fold-roll-ElseIf, fold-roll-IfConstruct, fold-roll-RankCase, fold-roll-SelectCase, fold-roll-SelectRank}
use Rattle.f_tree.specs.declared.statement.Statement.TheViews.{roll-Case, roll-DoConstruct, roll-Else, roll-ElseIf, roll-IfConstruct, roll-RankCase, roll-SelectCase, roll-SelectRank}
use Rattle.f_tree.specs.declared.statement.Case.{Case}
use Rattle.f_tree.specs.declared.statement.DoConstruct.{DoConstruct}
use Rattle.f_tree.specs.declared.statement.Else.{Else}
use Rattle.f_tree.specs.declared.statement.ElseIf.{ElseIf}
use Rattle.f_tree.specs.declared.statement.IfConstruct.{IfConstruct}
use Rattle.f_tree.specs.declared.statement.RankCase.{RankCase}
use Rattle.f_tree.specs.declared.statement.SelectCase.{SelectCase}
use Rattle.f_tree.specs.declared.statement.SelectRank.{SelectRank}
use Rattle.f_grammar.specs.Grammar.{Expr}
use Rattle.f_line_grammar.specs.Lines as line
use Rattle.f_line_grammar.specs.Lines.{FitsLine}
use Rattle.f_unit_grammar.specs.Units.{Trees, no_trees}
use Rattle.f_unit_laws.specs.Shapes.{Values, RankOf, Block, Blocks, blocks, else_ifs_of, otherwise_of, cases_of, ranks_of, bare_block, bare_blocks, statement_bare, case_bare, do_bare, else_bare, else_if_bare, if_bare, rank_bare, select_bare, select_rank_bare}
use Rattle.f_unit_laws.specs.Derivations.{values_line, block_tree, block_trees, else_if_trees, otherwise_trees, case_trees, rank_trees}
use Rattle.f_spelling_laws.specs.Told.{all, maybe, is_told, action_told, control_told, choice_told, rank_told, construct_end_told, construct_told, case_told, do_told, else_told, else_if_told, if_told, rank_part_told, select_told, select_rank_told, construct_is_told, case_is_told, do_is_told, else_is_told, else_if_is_told, if_is_told, rank_is_told, select_is_told, select_rank_is_told}
use Rattle.f_spelling_laws.specs.Plain.{action_plain, choice_plain, construct_is_plain, statement_plain, case_plain, do_plain, else_plain, else_if_plain, if_plain, rank_plain, select_plain, select_rank_plain}
use Rattle.f_spelling_laws.proofs.Fronts.{first_of, second_of}
use Rattle.f_spelling_laws.proofs.Good.{GoodTree, GoodTrees, good_parts, construct_end_is_told, action_is_told, choice_is_told}

-- ---- each construct without its places, and whether it is plain

abbrev bare_case : Case → Values × Blocks
bare_case = fold-Case Block (Values × Blocks) Block Blocks (Bool × Expr × Blocks) Block (RankOf × Blocks) Block Block statement_bare case_bare do_bare else_bare else_if_bare if_bare rank_bare select_bare select_rank_bare

abbrev case_is_plain : Case → Bool
case_is_plain = fold-Case Bool Bool Bool Bool Bool Bool Bool Bool Bool statement_plain case_plain do_plain else_plain else_if_plain if_plain rank_plain select_plain select_rank_plain

abbrev bare_do : DoConstruct → Block
bare_do = fold-DoConstruct Block (Values × Blocks) Block Blocks (Bool × Expr × Blocks) Block (RankOf × Blocks) Block Block statement_bare case_bare do_bare else_bare else_if_bare if_bare rank_bare select_bare select_rank_bare

abbrev do_is_plain : DoConstruct → Bool
do_is_plain = fold-DoConstruct Bool Bool Bool Bool Bool Bool Bool Bool Bool statement_plain case_plain do_plain else_plain else_if_plain if_plain rank_plain select_plain select_rank_plain

abbrev bare_else : Else → Blocks
bare_else = fold-Else Block (Values × Blocks) Block Blocks (Bool × Expr × Blocks) Block (RankOf × Blocks) Block Block statement_bare case_bare do_bare else_bare else_if_bare if_bare rank_bare select_bare select_rank_bare

abbrev else_is_plain : Else → Bool
else_is_plain = fold-Else Bool Bool Bool Bool Bool Bool Bool Bool Bool statement_plain case_plain do_plain else_plain else_if_plain if_plain rank_plain select_plain select_rank_plain

abbrev bare_else_if : ElseIf → Bool × Expr × Blocks
bare_else_if = fold-ElseIf Block (Values × Blocks) Block Blocks (Bool × Expr × Blocks) Block (RankOf × Blocks) Block Block statement_bare case_bare do_bare else_bare else_if_bare if_bare rank_bare select_bare select_rank_bare

abbrev else_if_is_plain : ElseIf → Bool
else_if_is_plain = fold-ElseIf Bool Bool Bool Bool Bool Bool Bool Bool Bool statement_plain case_plain do_plain else_plain else_if_plain if_plain rank_plain select_plain select_rank_plain

abbrev bare_if : IfConstruct → Block
bare_if = fold-IfConstruct Block (Values × Blocks) Block Blocks (Bool × Expr × Blocks) Block (RankOf × Blocks) Block Block statement_bare case_bare do_bare else_bare else_if_bare if_bare rank_bare select_bare select_rank_bare

abbrev if_is_plain : IfConstruct → Bool
if_is_plain = fold-IfConstruct Bool Bool Bool Bool Bool Bool Bool Bool Bool statement_plain case_plain do_plain else_plain else_if_plain if_plain rank_plain select_plain select_rank_plain

abbrev bare_rank_part : RankCase → RankOf × Blocks
bare_rank_part = fold-RankCase Block (Values × Blocks) Block Blocks (Bool × Expr × Blocks) Block (RankOf × Blocks) Block Block statement_bare case_bare do_bare else_bare else_if_bare if_bare rank_bare select_bare select_rank_bare

abbrev rank_is_plain : RankCase → Bool
rank_is_plain = fold-RankCase Bool Bool Bool Bool Bool Bool Bool Bool Bool statement_plain case_plain do_plain else_plain else_if_plain if_plain rank_plain select_plain select_rank_plain

abbrev bare_select : SelectCase → Block
bare_select = fold-SelectCase Block (Values × Blocks) Block Blocks (Bool × Expr × Blocks) Block (RankOf × Blocks) Block Block statement_bare case_bare do_bare else_bare else_if_bare if_bare rank_bare select_bare select_rank_bare

abbrev select_is_plain : SelectCase → Bool
select_is_plain = fold-SelectCase Bool Bool Bool Bool Bool Bool Bool Bool Bool statement_plain case_plain do_plain else_plain else_if_plain if_plain rank_plain select_plain select_rank_plain

abbrev bare_select_rank : SelectRank → Block
bare_select_rank = fold-SelectRank Block (Values × Blocks) Block Blocks (Bool × Expr × Blocks) Block (RankOf × Blocks) Block Block statement_bare case_bare do_bare else_bare else_if_bare if_bare rank_bare select_bare select_rank_bare

abbrev select_rank_is_plain : SelectRank → Bool
select_rank_is_plain = fold-SelectRank Bool Bool Bool Bool Bool Bool Bool Bool Bool statement_plain case_plain do_plain else_plain else_if_plain if_plain rank_plain select_plain select_rank_plain

-- ---- what is shown of each construct

abbrev IsStatement : Construct → Type 0
IsStatement x = construct_is_plain x ≡ true → GoodTree (block_tree (bare_block x)) → construct_is_told x ≡ true

abbrev IsCase : Case → Type 0
IsCase x = case_is_plain x ≡ true → FitsLine 65 (values_line (bare_case x).0) × GoodTrees (block_trees (bare_case x).1 no_trees) → case_is_told x ≡ true

abbrev IsDoConstruct : DoConstruct → Type 0
IsDoConstruct x = do_is_plain x ≡ true → GoodTree (block_tree (bare_do x)) → do_is_told x ≡ true

abbrev IsElse : Else → Type 0
IsElse x = else_is_plain x ≡ true → GoodTrees (block_trees (bare_else x) no_trees) → else_is_told x ≡ true

abbrev IsElseIf : ElseIf → Type 0
IsElseIf x = else_if_is_plain x ≡ true → GoodTrees (block_trees (bare_else_if x).2 no_trees) → else_if_is_told x ≡ true

abbrev IsIfConstruct : IfConstruct → Type 0
IsIfConstruct x = if_is_plain x ≡ true → GoodTree (block_tree (bare_if x)) → if_is_told x ≡ true

abbrev IsRankCase : RankCase → Type 0
IsRankCase x = rank_is_plain x ≡ true → GoodTrees (block_trees (bare_rank_part x).1 no_trees) → rank_is_told x ≡ true

abbrev IsSelectCase : SelectCase → Type 0
IsSelectCase x = select_is_plain x ≡ true → GoodTree (block_tree (bare_select x)) → select_is_told x ≡ true

abbrev IsSelectRank : SelectRank → Type 0
IsSelectRank x = select_rank_is_plain x ≡ true → GoodTree (block_tree (bare_select_rank x)) → select_rank_is_told x ≡ true

-- a construct with its proof
abbrev ShownStatement : Type 0
ShownStatement = (x : Construct) × IsStatement x

abbrev ShownCase : Type 0
ShownCase = (x : Case) × IsCase x

abbrev ShownDoConstruct : Type 0
ShownDoConstruct = (x : DoConstruct) × IsDoConstruct x

abbrev ShownElse : Type 0
ShownElse = (x : Else) × IsElse x

abbrev ShownElseIf : Type 0
ShownElseIf = (x : ElseIf) × IsElseIf x

abbrev ShownIfConstruct : Type 0
ShownIfConstruct = (x : IfConstruct) × IsIfConstruct x

abbrev ShownRankCase : Type 0
ShownRankCase = (x : RankCase) × IsRankCase x

abbrev ShownSelectCase : Type 0
ShownSelectCase = (x : SelectCase) × IsSelectCase x

abbrev ShownSelectRank : Type 0
ShownSelectRank = (x : SelectRank) × IsSelectRank x

-- a layer whose parts each have a proof
abbrev StatementLayer : Type 0
StatementLayer = Statement-F ShownStatement ShownCase ShownDoConstruct ShownElse ShownElseIf ShownIfConstruct ShownRankCase ShownSelectCase ShownSelectRank

abbrev CaseLayer : Type 0
CaseLayer = Case-F ShownStatement ShownCase ShownDoConstruct ShownElse ShownElseIf ShownIfConstruct ShownRankCase ShownSelectCase ShownSelectRank

abbrev DoConstructLayer : Type 0
DoConstructLayer = DoConstruct-F ShownStatement ShownCase ShownDoConstruct ShownElse ShownElseIf ShownIfConstruct ShownRankCase ShownSelectCase ShownSelectRank

abbrev ElseLayer : Type 0
ElseLayer = Else-F ShownStatement ShownCase ShownDoConstruct ShownElse ShownElseIf ShownIfConstruct ShownRankCase ShownSelectCase ShownSelectRank

abbrev ElseIfLayer : Type 0
ElseIfLayer = ElseIf-F ShownStatement ShownCase ShownDoConstruct ShownElse ShownElseIf ShownIfConstruct ShownRankCase ShownSelectCase ShownSelectRank

abbrev IfConstructLayer : Type 0
IfConstructLayer = IfConstruct-F ShownStatement ShownCase ShownDoConstruct ShownElse ShownElseIf ShownIfConstruct ShownRankCase ShownSelectCase ShownSelectRank

abbrev RankCaseLayer : Type 0
RankCaseLayer = RankCase-F ShownStatement ShownCase ShownDoConstruct ShownElse ShownElseIf ShownIfConstruct ShownRankCase ShownSelectCase ShownSelectRank

abbrev SelectCaseLayer : Type 0
SelectCaseLayer = SelectCase-F ShownStatement ShownCase ShownDoConstruct ShownElse ShownElseIf ShownIfConstruct ShownRankCase ShownSelectCase ShownSelectRank

abbrev SelectRankLayer : Type 0
SelectRankLayer = SelectRank-F ShownStatement ShownCase ShownDoConstruct ShownElse ShownElseIf ShownIfConstruct ShownRankCase ShownSelectCase ShownSelectRank

-- the value of a layer, without the proofs
abbrev plain_statement : StatementLayer → Statement-F Construct Case DoConstruct Else ElseIf IfConstruct RankCase SelectCase SelectRank
plain_statement y = map-Statement ShownStatement ShownCase ShownDoConstruct ShownElse ShownElseIf ShownIfConstruct ShownRankCase ShownSelectCase ShownSelectRank Construct Case DoConstruct Else ElseIf IfConstruct RankCase SelectCase SelectRank (λ e. e.0) (λ e. e.0) (λ e. e.0) (λ e. e.0) (λ e. e.0) (λ e. e.0) (λ e. e.0) (λ e. e.0) (λ e. e.0) y

abbrev plain_case : CaseLayer → Case-F Construct Case DoConstruct Else ElseIf IfConstruct RankCase SelectCase SelectRank
plain_case y = map-Case ShownStatement ShownCase ShownDoConstruct ShownElse ShownElseIf ShownIfConstruct ShownRankCase ShownSelectCase ShownSelectRank Construct Case DoConstruct Else ElseIf IfConstruct RankCase SelectCase SelectRank (λ e. e.0) (λ e. e.0) (λ e. e.0) (λ e. e.0) (λ e. e.0) (λ e. e.0) (λ e. e.0) (λ e. e.0) (λ e. e.0) y

abbrev plain_do : DoConstructLayer → DoConstruct-F Construct Case DoConstruct Else ElseIf IfConstruct RankCase SelectCase SelectRank
plain_do y = map-DoConstruct ShownStatement ShownCase ShownDoConstruct ShownElse ShownElseIf ShownIfConstruct ShownRankCase ShownSelectCase ShownSelectRank Construct Case DoConstruct Else ElseIf IfConstruct RankCase SelectCase SelectRank (λ e. e.0) (λ e. e.0) (λ e. e.0) (λ e. e.0) (λ e. e.0) (λ e. e.0) (λ e. e.0) (λ e. e.0) (λ e. e.0) y

abbrev plain_else : ElseLayer → Else-F Construct Case DoConstruct Else ElseIf IfConstruct RankCase SelectCase SelectRank
plain_else y = map-Else ShownStatement ShownCase ShownDoConstruct ShownElse ShownElseIf ShownIfConstruct ShownRankCase ShownSelectCase ShownSelectRank Construct Case DoConstruct Else ElseIf IfConstruct RankCase SelectCase SelectRank (λ e. e.0) (λ e. e.0) (λ e. e.0) (λ e. e.0) (λ e. e.0) (λ e. e.0) (λ e. e.0) (λ e. e.0) (λ e. e.0) y

abbrev plain_else_if : ElseIfLayer → ElseIf-F Construct Case DoConstruct Else ElseIf IfConstruct RankCase SelectCase SelectRank
plain_else_if y = map-ElseIf ShownStatement ShownCase ShownDoConstruct ShownElse ShownElseIf ShownIfConstruct ShownRankCase ShownSelectCase ShownSelectRank Construct Case DoConstruct Else ElseIf IfConstruct RankCase SelectCase SelectRank (λ e. e.0) (λ e. e.0) (λ e. e.0) (λ e. e.0) (λ e. e.0) (λ e. e.0) (λ e. e.0) (λ e. e.0) (λ e. e.0) y

abbrev plain_if : IfConstructLayer → IfConstruct-F Construct Case DoConstruct Else ElseIf IfConstruct RankCase SelectCase SelectRank
plain_if y = map-IfConstruct ShownStatement ShownCase ShownDoConstruct ShownElse ShownElseIf ShownIfConstruct ShownRankCase ShownSelectCase ShownSelectRank Construct Case DoConstruct Else ElseIf IfConstruct RankCase SelectCase SelectRank (λ e. e.0) (λ e. e.0) (λ e. e.0) (λ e. e.0) (λ e. e.0) (λ e. e.0) (λ e. e.0) (λ e. e.0) (λ e. e.0) y

abbrev plain_rank : RankCaseLayer → RankCase-F Construct Case DoConstruct Else ElseIf IfConstruct RankCase SelectCase SelectRank
plain_rank y = map-RankCase ShownStatement ShownCase ShownDoConstruct ShownElse ShownElseIf ShownIfConstruct ShownRankCase ShownSelectCase ShownSelectRank Construct Case DoConstruct Else ElseIf IfConstruct RankCase SelectCase SelectRank (λ e. e.0) (λ e. e.0) (λ e. e.0) (λ e. e.0) (λ e. e.0) (λ e. e.0) (λ e. e.0) (λ e. e.0) (λ e. e.0) y

abbrev plain_select : SelectCaseLayer → SelectCase-F Construct Case DoConstruct Else ElseIf IfConstruct RankCase SelectCase SelectRank
plain_select y = map-SelectCase ShownStatement ShownCase ShownDoConstruct ShownElse ShownElseIf ShownIfConstruct ShownRankCase ShownSelectCase ShownSelectRank Construct Case DoConstruct Else ElseIf IfConstruct RankCase SelectCase SelectRank (λ e. e.0) (λ e. e.0) (λ e. e.0) (λ e. e.0) (λ e. e.0) (λ e. e.0) (λ e. e.0) (λ e. e.0) (λ e. e.0) y

abbrev plain_select_rank : SelectRankLayer → SelectRank-F Construct Case DoConstruct Else ElseIf IfConstruct RankCase SelectCase SelectRank
plain_select_rank y = map-SelectRank ShownStatement ShownCase ShownDoConstruct ShownElse ShownElseIf ShownIfConstruct ShownRankCase ShownSelectCase ShownSelectRank Construct Case DoConstruct Else ElseIf IfConstruct RankCase SelectCase SelectRank (λ e. e.0) (λ e. e.0) (λ e. e.0) (λ e. e.0) (λ e. e.0) (λ e. e.0) (λ e. e.0) (λ e. e.0) (λ e. e.0) y

-- what is asked of a layer, what it is without its places, and what is told of it
abbrev statement_asked : StatementLayer → Bool
statement_asked y = statement_plain (map-Statement Construct Case DoConstruct Else ElseIf IfConstruct RankCase SelectCase SelectRank Bool Bool Bool Bool Bool Bool Bool Bool Bool construct_is_plain case_is_plain do_is_plain else_is_plain else_if_is_plain if_is_plain rank_is_plain select_is_plain select_rank_is_plain (plain_statement y))

abbrev statement_shape : StatementLayer → Block
statement_shape y = statement_bare (map-Statement Construct Case DoConstruct Else ElseIf IfConstruct RankCase SelectCase SelectRank Block (Values × Blocks) Block Blocks (Bool × Expr × Blocks) Block (RankOf × Blocks) Block Block bare_block bare_case bare_do bare_else bare_else_if bare_if bare_rank_part bare_select bare_select_rank (plain_statement y))

abbrev statement_answer : StatementLayer → Bool
statement_answer y = construct_told (map-Statement Construct Case DoConstruct Else ElseIf IfConstruct RankCase SelectCase SelectRank Bool Bool Bool Bool Bool Bool Bool Bool Bool construct_is_told case_is_told do_is_told else_is_told else_if_is_told if_is_told rank_is_told select_is_told select_rank_is_told (plain_statement y))

abbrev case_asked : CaseLayer → Bool
case_asked y = case_plain (map-Case Construct Case DoConstruct Else ElseIf IfConstruct RankCase SelectCase SelectRank Bool Bool Bool Bool Bool Bool Bool Bool Bool construct_is_plain case_is_plain do_is_plain else_is_plain else_if_is_plain if_is_plain rank_is_plain select_is_plain select_rank_is_plain (plain_case y))

abbrev case_shape : CaseLayer → Values × Blocks
case_shape y = case_bare (map-Case Construct Case DoConstruct Else ElseIf IfConstruct RankCase SelectCase SelectRank Block (Values × Blocks) Block Blocks (Bool × Expr × Blocks) Block (RankOf × Blocks) Block Block bare_block bare_case bare_do bare_else bare_else_if bare_if bare_rank_part bare_select bare_select_rank (plain_case y))

abbrev case_answer : CaseLayer → Bool
case_answer y = case_told (map-Case Construct Case DoConstruct Else ElseIf IfConstruct RankCase SelectCase SelectRank Bool Bool Bool Bool Bool Bool Bool Bool Bool construct_is_told case_is_told do_is_told else_is_told else_if_is_told if_is_told rank_is_told select_is_told select_rank_is_told (plain_case y))

abbrev do_asked : DoConstructLayer → Bool
do_asked y = do_plain (map-DoConstruct Construct Case DoConstruct Else ElseIf IfConstruct RankCase SelectCase SelectRank Bool Bool Bool Bool Bool Bool Bool Bool Bool construct_is_plain case_is_plain do_is_plain else_is_plain else_if_is_plain if_is_plain rank_is_plain select_is_plain select_rank_is_plain (plain_do y))

abbrev do_shape : DoConstructLayer → Block
do_shape y = do_bare (map-DoConstruct Construct Case DoConstruct Else ElseIf IfConstruct RankCase SelectCase SelectRank Block (Values × Blocks) Block Blocks (Bool × Expr × Blocks) Block (RankOf × Blocks) Block Block bare_block bare_case bare_do bare_else bare_else_if bare_if bare_rank_part bare_select bare_select_rank (plain_do y))

abbrev do_answer : DoConstructLayer → Bool
do_answer y = do_told (map-DoConstruct Construct Case DoConstruct Else ElseIf IfConstruct RankCase SelectCase SelectRank Bool Bool Bool Bool Bool Bool Bool Bool Bool construct_is_told case_is_told do_is_told else_is_told else_if_is_told if_is_told rank_is_told select_is_told select_rank_is_told (plain_do y))

abbrev else_asked : ElseLayer → Bool
else_asked y = else_plain (map-Else Construct Case DoConstruct Else ElseIf IfConstruct RankCase SelectCase SelectRank Bool Bool Bool Bool Bool Bool Bool Bool Bool construct_is_plain case_is_plain do_is_plain else_is_plain else_if_is_plain if_is_plain rank_is_plain select_is_plain select_rank_is_plain (plain_else y))

abbrev else_shape : ElseLayer → Blocks
else_shape y = else_bare (map-Else Construct Case DoConstruct Else ElseIf IfConstruct RankCase SelectCase SelectRank Block (Values × Blocks) Block Blocks (Bool × Expr × Blocks) Block (RankOf × Blocks) Block Block bare_block bare_case bare_do bare_else bare_else_if bare_if bare_rank_part bare_select bare_select_rank (plain_else y))

abbrev else_answer : ElseLayer → Bool
else_answer y = else_told (map-Else Construct Case DoConstruct Else ElseIf IfConstruct RankCase SelectCase SelectRank Bool Bool Bool Bool Bool Bool Bool Bool Bool construct_is_told case_is_told do_is_told else_is_told else_if_is_told if_is_told rank_is_told select_is_told select_rank_is_told (plain_else y))

abbrev else_if_asked : ElseIfLayer → Bool
else_if_asked y = else_if_plain (map-ElseIf Construct Case DoConstruct Else ElseIf IfConstruct RankCase SelectCase SelectRank Bool Bool Bool Bool Bool Bool Bool Bool Bool construct_is_plain case_is_plain do_is_plain else_is_plain else_if_is_plain if_is_plain rank_is_plain select_is_plain select_rank_is_plain (plain_else_if y))

abbrev else_if_shape : ElseIfLayer → Bool × Expr × Blocks
else_if_shape y = else_if_bare (map-ElseIf Construct Case DoConstruct Else ElseIf IfConstruct RankCase SelectCase SelectRank Block (Values × Blocks) Block Blocks (Bool × Expr × Blocks) Block (RankOf × Blocks) Block Block bare_block bare_case bare_do bare_else bare_else_if bare_if bare_rank_part bare_select bare_select_rank (plain_else_if y))

abbrev else_if_answer : ElseIfLayer → Bool
else_if_answer y = else_if_told (map-ElseIf Construct Case DoConstruct Else ElseIf IfConstruct RankCase SelectCase SelectRank Bool Bool Bool Bool Bool Bool Bool Bool Bool construct_is_told case_is_told do_is_told else_is_told else_if_is_told if_is_told rank_is_told select_is_told select_rank_is_told (plain_else_if y))

abbrev if_asked : IfConstructLayer → Bool
if_asked y = if_plain (map-IfConstruct Construct Case DoConstruct Else ElseIf IfConstruct RankCase SelectCase SelectRank Bool Bool Bool Bool Bool Bool Bool Bool Bool construct_is_plain case_is_plain do_is_plain else_is_plain else_if_is_plain if_is_plain rank_is_plain select_is_plain select_rank_is_plain (plain_if y))

abbrev if_shape : IfConstructLayer → Block
if_shape y = if_bare (map-IfConstruct Construct Case DoConstruct Else ElseIf IfConstruct RankCase SelectCase SelectRank Block (Values × Blocks) Block Blocks (Bool × Expr × Blocks) Block (RankOf × Blocks) Block Block bare_block bare_case bare_do bare_else bare_else_if bare_if bare_rank_part bare_select bare_select_rank (plain_if y))

abbrev if_answer : IfConstructLayer → Bool
if_answer y = if_told (map-IfConstruct Construct Case DoConstruct Else ElseIf IfConstruct RankCase SelectCase SelectRank Bool Bool Bool Bool Bool Bool Bool Bool Bool construct_is_told case_is_told do_is_told else_is_told else_if_is_told if_is_told rank_is_told select_is_told select_rank_is_told (plain_if y))

abbrev rank_asked : RankCaseLayer → Bool
rank_asked y = rank_plain (map-RankCase Construct Case DoConstruct Else ElseIf IfConstruct RankCase SelectCase SelectRank Bool Bool Bool Bool Bool Bool Bool Bool Bool construct_is_plain case_is_plain do_is_plain else_is_plain else_if_is_plain if_is_plain rank_is_plain select_is_plain select_rank_is_plain (plain_rank y))

abbrev rank_shape : RankCaseLayer → RankOf × Blocks
rank_shape y = rank_bare (map-RankCase Construct Case DoConstruct Else ElseIf IfConstruct RankCase SelectCase SelectRank Block (Values × Blocks) Block Blocks (Bool × Expr × Blocks) Block (RankOf × Blocks) Block Block bare_block bare_case bare_do bare_else bare_else_if bare_if bare_rank_part bare_select bare_select_rank (plain_rank y))

abbrev rank_answer : RankCaseLayer → Bool
rank_answer y = rank_part_told (map-RankCase Construct Case DoConstruct Else ElseIf IfConstruct RankCase SelectCase SelectRank Bool Bool Bool Bool Bool Bool Bool Bool Bool construct_is_told case_is_told do_is_told else_is_told else_if_is_told if_is_told rank_is_told select_is_told select_rank_is_told (plain_rank y))

abbrev select_asked : SelectCaseLayer → Bool
select_asked y = select_plain (map-SelectCase Construct Case DoConstruct Else ElseIf IfConstruct RankCase SelectCase SelectRank Bool Bool Bool Bool Bool Bool Bool Bool Bool construct_is_plain case_is_plain do_is_plain else_is_plain else_if_is_plain if_is_plain rank_is_plain select_is_plain select_rank_is_plain (plain_select y))

abbrev select_shape : SelectCaseLayer → Block
select_shape y = select_bare (map-SelectCase Construct Case DoConstruct Else ElseIf IfConstruct RankCase SelectCase SelectRank Block (Values × Blocks) Block Blocks (Bool × Expr × Blocks) Block (RankOf × Blocks) Block Block bare_block bare_case bare_do bare_else bare_else_if bare_if bare_rank_part bare_select bare_select_rank (plain_select y))

abbrev select_answer : SelectCaseLayer → Bool
select_answer y = select_told (map-SelectCase Construct Case DoConstruct Else ElseIf IfConstruct RankCase SelectCase SelectRank Bool Bool Bool Bool Bool Bool Bool Bool Bool construct_is_told case_is_told do_is_told else_is_told else_if_is_told if_is_told rank_is_told select_is_told select_rank_is_told (plain_select y))

abbrev select_rank_asked : SelectRankLayer → Bool
select_rank_asked y = select_rank_plain (map-SelectRank Construct Case DoConstruct Else ElseIf IfConstruct RankCase SelectCase SelectRank Bool Bool Bool Bool Bool Bool Bool Bool Bool construct_is_plain case_is_plain do_is_plain else_is_plain else_if_is_plain if_is_plain rank_is_plain select_is_plain select_rank_is_plain (plain_select_rank y))

abbrev select_rank_shape : SelectRankLayer → Block
select_rank_shape y = select_rank_bare (map-SelectRank Construct Case DoConstruct Else ElseIf IfConstruct RankCase SelectCase SelectRank Block (Values × Blocks) Block Blocks (Bool × Expr × Blocks) Block (RankOf × Blocks) Block Block bare_block bare_case bare_do bare_else bare_else_if bare_if bare_rank_part bare_select bare_select_rank (plain_select_rank y))

abbrev select_rank_answer : SelectRankLayer → Bool
select_rank_answer y = select_rank_told (map-SelectRank Construct Case DoConstruct Else ElseIf IfConstruct RankCase SelectCase SelectRank Bool Bool Bool Bool Bool Bool Bool Bool Bool construct_is_told case_is_told do_is_told else_is_told else_if_is_told if_is_told rank_is_told select_is_told select_rank_is_told (plain_select_rank y))

-- ---- lists of parts

bodies_told : (xs : List ShownStatement) → all (map construct_is_plain (map (λ x. x.0) xs)) ≡ true → GoodTrees (block_trees (blocks (map bare_block (map (λ x. x.0) xs))) no_trees) → all (map construct_is_told (map (λ x. x.0) xs)) ≡ true
bodies_told [] sure good = refl
bodies_told (x ∷ xs) sure good =
    let a : Bool = all (map construct_is_plain (map (λ x. x.0) xs)) in
    and_from (construct_is_told x.0) (all (map construct_is_told (map (λ x. x.0) xs))) (x.1 (first_of (construct_is_plain x.0) a sure) good.0) (bodies_told xs (second_of (construct_is_plain x.0) a sure) good.1)

cases_told : (xs : List ShownCase) → all (map case_is_plain (map (λ x. x.0) xs)) ≡ true → GoodTrees (case_trees (cases_of (map bare_case (map (λ x. x.0) xs))) no_trees) → all (map case_is_told (map (λ x. x.0) xs)) ≡ true
cases_told [] sure good = refl
cases_told (x ∷ xs) sure good =
    let a : Bool = all (map case_is_plain (map (λ x. x.0) xs)) in
    let p = good_parts (bare_case x.0).1 (case_trees (cases_of (map bare_case (map (λ x. x.0) xs))) no_trees) good.1 in
    and_from (case_is_told x.0) (all (map case_is_told (map (λ x. x.0) xs))) (x.1 (first_of (case_is_plain x.0) a sure) (good.0, p.0)) (cases_told xs (second_of (case_is_plain x.0) a sure) p.1)

ranks_told : (xs : List ShownRankCase) → all (map rank_is_plain (map (λ x. x.0) xs)) ≡ true → GoodTrees (rank_trees (ranks_of (map bare_rank_part (map (λ x. x.0) xs))) no_trees) → all (map rank_is_told (map (λ x. x.0) xs)) ≡ true
ranks_told [] sure good = refl
ranks_told (x ∷ xs) sure good =
    let a : Bool = all (map rank_is_plain (map (λ x. x.0) xs)) in
    let p = good_parts (bare_rank_part x.0).1 (rank_trees (ranks_of (map bare_rank_part (map (λ x. x.0) xs))) no_trees) good.1 in
    and_from (rank_is_told x.0) (all (map rank_is_told (map (λ x. x.0) xs))) (x.1 (first_of (rank_is_plain x.0) a sure) p.0) (ranks_told xs (second_of (rank_is_plain x.0) a sure) p.1)

else_ifs_told : (xs : List ShownElseIf) (ts : Trees) → all (map else_if_is_plain (map (λ x. x.0) xs)) ≡ true → GoodTrees (else_if_trees (else_ifs_of (map bare_else_if (map (λ x. x.0) xs))) ts) →
    (all (map else_if_is_told (map (λ x. x.0) xs)) ≡ true) × GoodTrees ts
else_ifs_told [] ts sure good = (refl, good)
else_ifs_told (x ∷ xs) ts sure good =
    let a : Bool = all (map else_if_is_plain (map (λ x. x.0) xs)) in
    let p = good_parts (bare_else_if x.0).2 (else_if_trees (else_ifs_of (map bare_else_if (map (λ x. x.0) xs))) ts) good.1 in
    let q = else_ifs_told xs ts (second_of (else_if_is_plain x.0) a sure) p.1 in
    (and_from (else_if_is_told x.0) (all (map else_if_is_told (map (λ x. x.0) xs))) (x.1 (first_of (else_if_is_plain x.0) a sure) p.0) q.0, q.1)

otherwise_told : (x : Option ShownElse) → maybe (option_map else_is_plain (option_map (λ x. x.0) x)) ≡ true → GoodTrees (otherwise_trees (otherwise_of (option_map bare_else (option_map (λ x. x.0) x))) no_trees) → maybe (option_map else_is_told (option_map (λ x. x.0) x)) ≡ true
otherwise_told None sure good = refl
otherwise_told (Some x) sure good = x.1 sure good.1

-- ---- each layer

statement_shown : (y : StatementLayer) → statement_asked y ≡ true → GoodTree (block_tree (statement_shape y)) → statement_answer y ≡ true
statement_shown (open_.Action a) sure good = action_is_told a sure good
statement_shown (open_.IfAction p condition a) sure good = and_from (is_told condition) (action_told a) (first_of (is_told condition) (action_plain a) sure) (action_is_told a (second_of (is_told condition) (action_plain a) sure) good.1)
statement_shown (open_.If c) sure good = c.1 sure good
statement_shown (open_.Do c) sure good = c.1 sure good
statement_shown (open_.SelectCase c) sure good = c.1 sure good
statement_shown (open_.SelectRank c) sure good = c.1 sure good

case_shown : (y : CaseLayer) → case_asked y ≡ true → FitsLine 65 (values_line (case_shape y).0) × GoodTrees (block_trees (case_shape y).1 no_trees) → case_answer y ≡ true
case_shown y sure good =
    let a : Bool = all (map construct_is_plain (map (λ x. x.0) y.body)) in
    and_from (choice_told y.choice) (all (map construct_is_told (map (λ x. x.0) y.body))) (choice_is_told y.choice (first_of (choice_plain y.choice) a sure) good.0) (bodies_told y.body (second_of (choice_plain y.choice) a sure) good.1)

rank_shown : (y : RankCaseLayer) → rank_asked y ≡ true → GoodTrees (block_trees (rank_shape y).1 no_trees) → rank_answer y ≡ true
rank_shown y sure good =
    let a : Bool = all (map construct_is_plain (map (λ x. x.0) y.body)) in
    and_from (rank_told y.choice) (all (map construct_is_told (map (λ x. x.0) y.body))) (first_of (rank_told y.choice) a sure) (bodies_told y.body (second_of (rank_told y.choice) a sure) good)

else_shown : (y : ElseLayer) → else_asked y ≡ true → GoodTrees (block_trees (else_shape y) no_trees) → else_answer y ≡ true
else_shown y sure good = bodies_told y.body sure good

else_if_shown : (y : ElseIfLayer) → else_if_asked y ≡ true → GoodTrees (block_trees (else_if_shape y).2 no_trees) → else_if_answer y ≡ true
else_if_shown y sure good =
    let a : Bool = all (map construct_is_plain (map (λ x. x.0) y.body)) in
    and_from (is_told y.condition) (all (map construct_is_told (map (λ x. x.0) y.body))) (first_of (is_told y.condition) a sure) (bodies_told y.body (second_of (is_told y.condition) a sure) good)

do_shown : (y : DoConstructLayer) → do_asked y ≡ true → GoodTree (block_tree (do_shape y)) → do_answer y ≡ true
do_shown y sure good =
    let a : Bool = all (map construct_is_plain (map (λ x. x.0) y.body)) in
    let b : Bool = all (map construct_is_told (map (λ x. x.0) y.body)) in
    and_from (control_told y.control) (b && construct_end_told y.ending) (first_of (control_told y.control) a sure)
    (and_from b (construct_end_told y.ending) (bodies_told y.body (second_of (control_told y.control) a sure) good.1) (construct_end_is_told line.Do y.ending good.2))

select_shown : (y : SelectCaseLayer) → select_asked y ≡ true → GoodTree (block_tree (select_shape y)) → select_answer y ≡ true
select_shown y sure good =
    let a : Bool = all (map case_is_plain (map (λ x. x.0) y.cases)) in
    let b : Bool = all (map case_is_told (map (λ x. x.0) y.cases)) in
    and_from (is_told y.selector) (b && construct_end_told y.ending) (first_of (is_told y.selector) a sure)
    (and_from b (construct_end_told y.ending) (cases_told y.cases (second_of (is_told y.selector) a sure) good.1) (construct_end_is_told line.Select y.ending good.2))

select_rank_shown : (y : SelectRankLayer) → select_rank_asked y ≡ true → GoodTree (block_tree (select_rank_shape y)) → select_rank_answer y ≡ true
select_rank_shown y sure good = and_from (all (map rank_is_told (map (λ x. x.0) y.ranks))) (construct_end_told y.ending) (ranks_told y.ranks sure good.1) (construct_end_is_told line.Select y.ending good.2)

if_shown : (y : IfConstructLayer) → if_asked y ≡ true → GoodTree (block_tree (if_shape y)) → if_answer y ≡ true
if_shown y = of y.otherwise
  where
    with_other : Option ShownElse → IfConstructLayer
    with_other other = record { place = y.place; condition = y.condition; body = y.body; else_ifs = y.else_ifs; otherwise = other; ending = y.ending }

    inside : (other : Option ShownElse) →
        (is_told y.condition && (all (map construct_is_plain (map (λ x. x.0) y.body)) && (all (map else_if_is_plain (map (λ x. x.0) y.else_ifs)) && maybe (option_map else_is_plain (option_map (λ x. x.0) other))))) ≡ true →
        GoodTree (block_tree (if_bare (record { place = y.place; condition = y.condition; body = map bare_block (map (λ x. x.0) y.body); else_ifs = map bare_else_if (map (λ x. x.0) y.else_ifs); otherwise = option_map bare_else (option_map (λ x. x.0) other); ending = y.ending }))) →
        (is_told y.condition && (all (map construct_is_told (map (λ x. x.0) y.body)) && (all (map else_if_is_told (map (λ x. x.0) y.else_ifs)) && (maybe (option_map else_is_told (option_map (λ x. x.0) other)) && construct_end_told y.ending)))) ≡ true
    inside other sure good =
        let c : Bool = is_told y.condition in
        let a : Bool = all (map construct_is_plain (map (λ x. x.0) y.body)) in
        let i : Bool = all (map else_if_is_plain (map (λ x. x.0) y.else_ifs)) in
        let o : Bool = maybe (option_map else_is_plain (option_map (λ x. x.0) other)) in
        let in_parts : (a && (i && o)) ≡ true = second_of c (a && (i && o)) sure in
        let in_elses : (i && o) ≡ true = second_of a (i && o) in_parts in
        let last : Trees = otherwise_trees (otherwise_of (option_map bare_else (option_map (λ x. x.0) other))) no_trees in
        let p = good_parts (blocks (map bare_block (map (λ x. x.0) y.body))) (else_if_trees (else_ifs_of (map bare_else_if (map (λ x. x.0) y.else_ifs))) last) good.1 in
        let q = else_ifs_told y.else_ifs last (first_of i o in_elses) p.1 in
        let b : Bool = all (map construct_is_told (map (λ x. x.0) y.body)) in
        let e : Bool = all (map else_if_is_told (map (λ x. x.0) y.else_ifs)) in
        let t : Bool = maybe (option_map else_is_told (option_map (λ x. x.0) other)) in
        let z : Bool = construct_end_told y.ending in
        and_from c (b && (e && (t && z))) (first_of c (a && (i && o)) sure)
        (and_from b (e && (t && z)) (bodies_told y.body (first_of a (i && o) in_parts) p.0)
        (and_from e (t && z) q.0
        (and_from t z (otherwise_told other (second_of i o in_elses) q.1) (construct_end_is_told line.If y.ending good.2))))

    of : (other : Option ShownElse) → if_asked (with_other other) ≡ true → GoodTree (block_tree (if_shape (with_other other))) → if_answer (with_other other) ≡ true
    of None sure good = inside None sure good
    of (Some x) sure good = inside (Some x) sure good

-- ---- each construct, where its parts have it

statement_layer : (y : StatementLayer) → IsStatement (roll-Statement (plain_statement y))
statement_layer y sure good =
    fold-roll-Statement Bool Bool Bool Bool Bool Bool Bool Bool Bool construct_told case_told do_told else_told else_if_told if_told rank_part_told select_told select_rank_told (plain_statement y)
    ∙ statement_shown y (sym (fold-roll-Statement Bool Bool Bool Bool Bool Bool Bool Bool Bool statement_plain case_plain do_plain else_plain else_if_plain if_plain rank_plain select_plain select_rank_plain (plain_statement y)) ∙ sure)
    (subst (λ (v : Block). GoodTree (block_tree v)) (fold-roll-Statement Block (Values × Blocks) Block Blocks (Bool × Expr × Blocks) Block (RankOf × Blocks) Block Block statement_bare case_bare do_bare else_bare else_if_bare if_bare rank_bare select_bare select_rank_bare (plain_statement y)) good)

case_layer : (y : CaseLayer) → IsCase (roll-Case (plain_case y))
case_layer y sure good =
    fold-roll-Case Bool Bool Bool Bool Bool Bool Bool Bool Bool construct_told case_told do_told else_told else_if_told if_told rank_part_told select_told select_rank_told (plain_case y)
    ∙ case_shown y (sym (fold-roll-Case Bool Bool Bool Bool Bool Bool Bool Bool Bool statement_plain case_plain do_plain else_plain else_if_plain if_plain rank_plain select_plain select_rank_plain (plain_case y)) ∙ sure)
    (subst (λ (v : Values × Blocks). FitsLine 65 (values_line v.0) × GoodTrees (block_trees v.1 no_trees)) (fold-roll-Case Block (Values × Blocks) Block Blocks (Bool × Expr × Blocks) Block (RankOf × Blocks) Block Block statement_bare case_bare do_bare else_bare else_if_bare if_bare rank_bare select_bare select_rank_bare (plain_case y)) good)

do_layer : (y : DoConstructLayer) → IsDoConstruct (roll-DoConstruct (plain_do y))
do_layer y sure good =
    fold-roll-DoConstruct Bool Bool Bool Bool Bool Bool Bool Bool Bool construct_told case_told do_told else_told else_if_told if_told rank_part_told select_told select_rank_told (plain_do y)
    ∙ do_shown y (sym (fold-roll-DoConstruct Bool Bool Bool Bool Bool Bool Bool Bool Bool statement_plain case_plain do_plain else_plain else_if_plain if_plain rank_plain select_plain select_rank_plain (plain_do y)) ∙ sure)
    (subst (λ (v : Block). GoodTree (block_tree v)) (fold-roll-DoConstruct Block (Values × Blocks) Block Blocks (Bool × Expr × Blocks) Block (RankOf × Blocks) Block Block statement_bare case_bare do_bare else_bare else_if_bare if_bare rank_bare select_bare select_rank_bare (plain_do y)) good)

else_layer : (y : ElseLayer) → IsElse (roll-Else (plain_else y))
else_layer y sure good =
    fold-roll-Else Bool Bool Bool Bool Bool Bool Bool Bool Bool construct_told case_told do_told else_told else_if_told if_told rank_part_told select_told select_rank_told (plain_else y)
    ∙ else_shown y (sym (fold-roll-Else Bool Bool Bool Bool Bool Bool Bool Bool Bool statement_plain case_plain do_plain else_plain else_if_plain if_plain rank_plain select_plain select_rank_plain (plain_else y)) ∙ sure)
    (subst (λ (v : Blocks). GoodTrees (block_trees v no_trees)) (fold-roll-Else Block (Values × Blocks) Block Blocks (Bool × Expr × Blocks) Block (RankOf × Blocks) Block Block statement_bare case_bare do_bare else_bare else_if_bare if_bare rank_bare select_bare select_rank_bare (plain_else y)) good)

else_if_layer : (y : ElseIfLayer) → IsElseIf (roll-ElseIf (plain_else_if y))
else_if_layer y sure good =
    fold-roll-ElseIf Bool Bool Bool Bool Bool Bool Bool Bool Bool construct_told case_told do_told else_told else_if_told if_told rank_part_told select_told select_rank_told (plain_else_if y)
    ∙ else_if_shown y (sym (fold-roll-ElseIf Bool Bool Bool Bool Bool Bool Bool Bool Bool statement_plain case_plain do_plain else_plain else_if_plain if_plain rank_plain select_plain select_rank_plain (plain_else_if y)) ∙ sure)
    (subst (λ (v : Bool × Expr × Blocks). GoodTrees (block_trees v.2 no_trees)) (fold-roll-ElseIf Block (Values × Blocks) Block Blocks (Bool × Expr × Blocks) Block (RankOf × Blocks) Block Block statement_bare case_bare do_bare else_bare else_if_bare if_bare rank_bare select_bare select_rank_bare (plain_else_if y)) good)

if_layer : (y : IfConstructLayer) → IsIfConstruct (roll-IfConstruct (plain_if y))
if_layer y sure good =
    fold-roll-IfConstruct Bool Bool Bool Bool Bool Bool Bool Bool Bool construct_told case_told do_told else_told else_if_told if_told rank_part_told select_told select_rank_told (plain_if y)
    ∙ if_shown y (sym (fold-roll-IfConstruct Bool Bool Bool Bool Bool Bool Bool Bool Bool statement_plain case_plain do_plain else_plain else_if_plain if_plain rank_plain select_plain select_rank_plain (plain_if y)) ∙ sure)
    (subst (λ (v : Block). GoodTree (block_tree v)) (fold-roll-IfConstruct Block (Values × Blocks) Block Blocks (Bool × Expr × Blocks) Block (RankOf × Blocks) Block Block statement_bare case_bare do_bare else_bare else_if_bare if_bare rank_bare select_bare select_rank_bare (plain_if y)) good)

rank_layer : (y : RankCaseLayer) → IsRankCase (roll-RankCase (plain_rank y))
rank_layer y sure good =
    fold-roll-RankCase Bool Bool Bool Bool Bool Bool Bool Bool Bool construct_told case_told do_told else_told else_if_told if_told rank_part_told select_told select_rank_told (plain_rank y)
    ∙ rank_shown y (sym (fold-roll-RankCase Bool Bool Bool Bool Bool Bool Bool Bool Bool statement_plain case_plain do_plain else_plain else_if_plain if_plain rank_plain select_plain select_rank_plain (plain_rank y)) ∙ sure)
    (subst (λ (v : RankOf × Blocks). GoodTrees (block_trees v.1 no_trees)) (fold-roll-RankCase Block (Values × Blocks) Block Blocks (Bool × Expr × Blocks) Block (RankOf × Blocks) Block Block statement_bare case_bare do_bare else_bare else_if_bare if_bare rank_bare select_bare select_rank_bare (plain_rank y)) good)

select_layer : (y : SelectCaseLayer) → IsSelectCase (roll-SelectCase (plain_select y))
select_layer y sure good =
    fold-roll-SelectCase Bool Bool Bool Bool Bool Bool Bool Bool Bool construct_told case_told do_told else_told else_if_told if_told rank_part_told select_told select_rank_told (plain_select y)
    ∙ select_shown y (sym (fold-roll-SelectCase Bool Bool Bool Bool Bool Bool Bool Bool Bool statement_plain case_plain do_plain else_plain else_if_plain if_plain rank_plain select_plain select_rank_plain (plain_select y)) ∙ sure)
    (subst (λ (v : Block). GoodTree (block_tree v)) (fold-roll-SelectCase Block (Values × Blocks) Block Blocks (Bool × Expr × Blocks) Block (RankOf × Blocks) Block Block statement_bare case_bare do_bare else_bare else_if_bare if_bare rank_bare select_bare select_rank_bare (plain_select y)) good)

select_rank_layer : (y : SelectRankLayer) → IsSelectRank (roll-SelectRank (plain_select_rank y))
select_rank_layer y sure good =
    fold-roll-SelectRank Bool Bool Bool Bool Bool Bool Bool Bool Bool construct_told case_told do_told else_told else_if_told if_told rank_part_told select_told select_rank_told (plain_select_rank y)
    ∙ select_rank_shown y (sym (fold-roll-SelectRank Bool Bool Bool Bool Bool Bool Bool Bool Bool statement_plain case_plain do_plain else_plain else_if_plain if_plain rank_plain select_plain select_rank_plain (plain_select_rank y)) ∙ sure)
    (subst (λ (v : Block). GoodTree (block_tree v)) (fold-roll-SelectRank Block (Values × Blocks) Block Blocks (Bool × Expr × Blocks) Block (RankOf × Blocks) Block Block statement_bare case_bare do_bare else_bare else_if_bare if_bare rank_bare select_bare select_rank_bare (plain_select_rank y)) good)

-- ---- all constructs

construct_plain_told : (x : Construct) → IsStatement x
construct_plain_told = ind-Statement IsStatement IsCase IsDoConstruct IsElse IsElseIf IsIfConstruct IsRankCase IsSelectCase IsSelectRank
    (λ x y is. subst (λ (z : Statement-F Construct Case DoConstruct Else ElseIf IfConstruct RankCase SelectCase SelectRank). IsStatement (roll-Statement z)) is (statement_layer y))
    (λ x y is. subst (λ (z : Case-F Construct Case DoConstruct Else ElseIf IfConstruct RankCase SelectCase SelectRank). IsCase (roll-Case z)) is (case_layer y))
    (λ x y is. subst (λ (z : DoConstruct-F Construct Case DoConstruct Else ElseIf IfConstruct RankCase SelectCase SelectRank). IsDoConstruct (roll-DoConstruct z)) is (do_layer y))
    (λ x y is. subst (λ (z : Else-F Construct Case DoConstruct Else ElseIf IfConstruct RankCase SelectCase SelectRank). IsElse (roll-Else z)) is (else_layer y))
    (λ x y is. subst (λ (z : ElseIf-F Construct Case DoConstruct Else ElseIf IfConstruct RankCase SelectCase SelectRank). IsElseIf (roll-ElseIf z)) is (else_if_layer y))
    (λ x y is. subst (λ (z : IfConstruct-F Construct Case DoConstruct Else ElseIf IfConstruct RankCase SelectCase SelectRank). IsIfConstruct (roll-IfConstruct z)) is (if_layer y))
    (λ x y is. subst (λ (z : RankCase-F Construct Case DoConstruct Else ElseIf IfConstruct RankCase SelectCase SelectRank). IsRankCase (roll-RankCase z)) is (rank_layer y))
    (λ x y is. subst (λ (z : SelectCase-F Construct Case DoConstruct Else ElseIf IfConstruct RankCase SelectCase SelectRank). IsSelectCase (roll-SelectCase z)) is (select_layer y))
    (λ x y is. subst (λ (z : SelectRank-F Construct Case DoConstruct Else ElseIf IfConstruct RankCase SelectCase SelectRank). IsSelectRank (roll-SelectRank z)) is (select_rank_layer y))

pub blocks_plain_told : (xs : List Construct) → all (map construct_is_plain xs) ≡ true → GoodTrees (block_trees (bare_blocks xs) no_trees) → all (map construct_is_told xs) ≡ true
blocks_plain_told [] sure good = refl
blocks_plain_told (x ∷ xs) sure good =
    let a : Bool = all (map construct_is_plain xs) in
    and_from (construct_is_told x) (all (map construct_is_told xs)) (construct_plain_told x (first_of (construct_is_plain x) a sure) good.0) (blocks_plain_told xs (second_of (construct_is_plain x) a sure) good.1)
