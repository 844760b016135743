-- The statements of a construct are those of its trees of statements.
use Rattle.std.proofs.Common.{◌≡◌, List, [], ◌∷◌, Option, Some, None, Bool, map, refl, sym, ap, subst, ◌∙◌}
use Rattle.std.specs.Option.{option_map}
use Rattle.f_tree.specs.declared.name.Name.{Name}
use Rattle.f_tree.specs.declared.declaration.EndingForm.{EndingForm}
use Rattle.f_tree.specs.declared.declaration.EndingForm.TheVariants.{Bare, TwoWords, OneWord}
use Rattle.f_tree.specs.declared.declaration.Ending.{Ending}
use Rattle.f_tree.specs.declared.statement.CaseChoice.{CaseChoice}
use Rattle.f_tree.specs.declared.statement.CaseChoice.TheVariants as choice
use Rattle.f_tree.specs.declared.statement.RankChoice.{RankChoice}
use Rattle.f_tree.specs.declared.statement.RankChoice.TheVariants as rank_choice
use Rattle.f_tree.specs.declared.statement.Statement.{Statement as Construct, map-Statement, ind-Statement, roll-Statement, fold-roll-Statement}
use Rattle.f_tree.specs.declared.statement.Statement.TheOpen as open_
use Rattle.f_tree.specs.declared.statement.Statement.TheOpen.{Statement-F, Case-F, DoConstruct-F, Else-F, ElseIf-F, IfConstruct-F, RankCase-F, SelectCase-F, SelectRank-F}
use Rattle.f_tree.specs.declared.statement.Statement.TheFolds.{fold-Case, fold-DoConstruct, fold-Else, fold-ElseIf, fold-IfConstruct, fold-RankCase, fold-SelectCase, fold-SelectRank, map-Case, map-DoConstruct, map-Else, map-ElseIf, map-IfConstruct, map-RankCase, map-SelectCase, map-SelectRank, fold-roll-Case, fold-roll-DoConstruct, fold-roll-Else, fold-roll-ElseIf, fold-roll-IfConstruct, fold-roll-RankCase, fold-roll-SelectCase, fold-roll-SelectRank}
use Rattle.f_tree.specs.declared.statement.Statement.TheViews.{roll-Case, roll-DoConstruct, roll-Else, roll-ElseIf, roll-IfConstruct, roll-RankCase, roll-SelectCase, roll-SelectRank}
use Rattle.f_tree.specs.declared.statement.Case.{Case}
use Rattle.f_tree.specs.declared.statement.DoConstruct.{DoConstruct}
use Rattle.f_tree.specs.declared.statement.Else.{Else}
use Rattle.f_tree.specs.declared.statement.ElseIf.{ElseIf}
use Rattle.f_tree.specs.declared.statement.IfConstruct.{IfConstruct}
use Rattle.f_tree.specs.declared.statement.RankCase.{RankCase}
use Rattle.f_tree.specs.declared.statement.SelectCase.{SelectCase}
use Rattle.f_tree.specs.declared.statement.SelectRank.{SelectRank}
use Rattle.f_grammar.specs.Grammar.{Expr}
use Rattle.f_line_grammar.specs.Lines as line
use Rattle.f_statement_grammar.specs.Statements.{Statement, Executable}
use Rattle.f_unit_grammar.specs.Units.{Trees, no_trees, spell_tree, spell_trees}
use Rattle.f_declared.specs.Views.{view_name}
use Rattle.f_construct_parts.specs.Lines.{Front, each, optional, blocks_of, ended, end_line, action_line, guarded_line, if_line, else_if_line, loop_line, select_case_line, case_line, select_rank_line, rank_line as rank_statement, statement_step, case_step, do_step, else_step, else_if_step, if_step, rank_step, select_step, select_rank_step, lines_of, case_lines, do_lines, else_lines, else_if_lines, if_lines, rank_lines, select_lines, select_rank_lines}
use Rattle.f_unit_laws.specs.Shapes.{close, Values, RankOf, Block, Blocks, no_blocks, block, blocks, bare_blocks, else_ifs_of, otherwise_of, cases_of, ranks_of, bare_choice, bare_rank, bare_ending, bare_block, statement_bare, case_bare, do_bare, else_bare, else_if_bare, if_bare, rank_bare, select_bare, select_rank_bare}
use Rattle.f_unit_laws.specs.Derivations.{construct_end, values_line, rank_line, block_tree, block_trees, else_if_trees, otherwise_trees, case_trees, rank_trees}

-- ---- each construct without its places, and its statements

abbrev bare_case : Case → Values × Blocks
bare_case = fold-Case Block (Values × Blocks) Block Blocks (Bool × Expr × Blocks) Block (RankOf × Blocks) Block Block statement_bare case_bare do_bare else_bare else_if_bare if_bare rank_bare select_bare select_rank_bare

abbrev bare_do : DoConstruct → Block
bare_do = fold-DoConstruct Block (Values × Blocks) Block Blocks (Bool × Expr × Blocks) Block (RankOf × Blocks) Block Block statement_bare case_bare do_bare else_bare else_if_bare if_bare rank_bare select_bare select_rank_bare

abbrev bare_else : Else → Blocks
bare_else = fold-Else Block (Values × Blocks) Block Blocks (Bool × Expr × Blocks) Block (RankOf × Blocks) Block Block statement_bare case_bare do_bare else_bare else_if_bare if_bare rank_bare select_bare select_rank_bare

abbrev bare_else_if : ElseIf → Bool × Expr × Blocks
bare_else_if = fold-ElseIf Block (Values × Blocks) Block Blocks (Bool × Expr × Blocks) Block (RankOf × Blocks) Block Block statement_bare case_bare do_bare else_bare else_if_bare if_bare rank_bare select_bare select_rank_bare

abbrev bare_if : IfConstruct → Block
bare_if = fold-IfConstruct Block (Values × Blocks) Block Blocks (Bool × Expr × Blocks) Block (RankOf × Blocks) Block Block statement_bare case_bare do_bare else_bare else_if_bare if_bare rank_bare select_bare select_rank_bare

abbrev bare_rank_part : RankCase → RankOf × Blocks
bare_rank_part = fold-RankCase Block (Values × Blocks) Block Blocks (Bool × Expr × Blocks) Block (RankOf × Blocks) Block Block statement_bare case_bare do_bare else_bare else_if_bare if_bare rank_bare select_bare select_rank_bare

abbrev bare_select : SelectCase → Block
bare_select = fold-SelectCase Block (Values × Blocks) Block Blocks (Bool × Expr × Blocks) Block (RankOf × Blocks) Block Block statement_bare case_bare do_bare else_bare else_if_bare if_bare rank_bare select_bare select_rank_bare

abbrev bare_select_rank : SelectRank → Block
bare_select_rank = fold-SelectRank Block (Values × Blocks) Block Blocks (Bool × Expr × Blocks) Block (RankOf × Blocks) Block Block statement_bare case_bare do_bare else_bare else_if_bare if_bare rank_bare select_bare select_rank_bare

abbrev block_front : Block → Front
block_front b = spell_tree (block_tree b)

abbrev case_front : Values × Blocks → Front
case_front c rest = Executable (values_line c.0) ∷ spell_trees (block_trees c.1 no_trees) rest

abbrev else_front : Blocks → Front
else_front body rest = Executable line.Else ∷ spell_trees (block_trees body no_trees) rest

abbrev else_if_front : Bool × Expr × Blocks → Front
else_if_front e rest = Executable (line.ElseIf e.0 e.1) ∷ spell_trees (block_trees e.2 no_trees) rest

abbrev rank_front : RankOf × Blocks → Front
rank_front r rest = Executable (rank_line r.0) ∷ spell_trees (block_trees r.1 no_trees) rest

-- ---- the statements are those of the trees

abbrev IsBlock : Construct → Type 0
IsBlock c = (rest : List Statement) → block_front (bare_block c) rest ≡ lines_of c rest

abbrev IsCase : Case → Type 0
IsCase c = (rest : List Statement) → case_front (bare_case c) rest ≡ case_lines c rest

abbrev IsDo : DoConstruct → Type 0
IsDo c = (rest : List Statement) → block_front (bare_do c) rest ≡ do_lines c rest

abbrev IsElse : Else → Type 0
IsElse c = (rest : List Statement) → else_front (bare_else c) rest ≡ else_lines c rest

abbrev IsElseIf : ElseIf → Type 0
IsElseIf c = (rest : List Statement) → else_if_front (bare_else_if c) rest ≡ else_if_lines c rest

abbrev IsIf : IfConstruct → Type 0
IsIf c = (rest : List Statement) → block_front (bare_if c) rest ≡ if_lines c rest

abbrev IsRank : RankCase → Type 0
IsRank c = (rest : List Statement) → rank_front (bare_rank_part c) rest ≡ rank_lines c rest

abbrev IsSelect : SelectCase → Type 0
IsSelect c = (rest : List Statement) → block_front (bare_select c) rest ≡ select_lines c rest

abbrev IsSelectRank : SelectRank → Type 0
IsSelectRank c = (rest : List Statement) → block_front (bare_select_rank c) rest ≡ select_rank_lines c rest

-- a construct with its proof
abbrev ShownBlock : Type 0
ShownBlock = (c : Construct) × IsBlock c

abbrev ShownCase : Type 0
ShownCase = (c : Case) × IsCase c

abbrev ShownDo : Type 0
ShownDo = (c : DoConstruct) × IsDo c

abbrev ShownElse : Type 0
ShownElse = (c : Else) × IsElse c

abbrev ShownElseIf : Type 0
ShownElseIf = (c : ElseIf) × IsElseIf c

abbrev ShownIf : Type 0
ShownIf = (c : IfConstruct) × IsIf c

abbrev ShownRank : Type 0
ShownRank = (c : RankCase) × IsRank c

abbrev ShownSelect : Type 0
ShownSelect = (c : SelectCase) × IsSelect c

abbrev ShownSelectRank : Type 0
ShownSelectRank = (c : SelectRank) × IsSelectRank c

-- a layer whose parts each have a proof
abbrev BlockLayer : Type 0
BlockLayer = Statement-F ShownBlock ShownCase ShownDo ShownElse ShownElseIf ShownIf ShownRank ShownSelect ShownSelectRank

abbrev CaseLayer : Type 0
CaseLayer = Case-F ShownBlock ShownCase ShownDo ShownElse ShownElseIf ShownIf ShownRank ShownSelect ShownSelectRank

abbrev DoLayer : Type 0
DoLayer = DoConstruct-F ShownBlock ShownCase ShownDo ShownElse ShownElseIf ShownIf ShownRank ShownSelect ShownSelectRank

abbrev ElseLayer : Type 0
ElseLayer = Else-F ShownBlock ShownCase ShownDo ShownElse ShownElseIf ShownIf ShownRank ShownSelect ShownSelectRank

abbrev ElseIfLayer : Type 0
ElseIfLayer = ElseIf-F ShownBlock ShownCase ShownDo ShownElse ShownElseIf ShownIf ShownRank ShownSelect ShownSelectRank

abbrev IfLayer : Type 0
IfLayer = IfConstruct-F ShownBlock ShownCase ShownDo ShownElse ShownElseIf ShownIf ShownRank ShownSelect ShownSelectRank

abbrev RankLayer : Type 0
RankLayer = RankCase-F ShownBlock ShownCase ShownDo ShownElse ShownElseIf ShownIf ShownRank ShownSelect ShownSelectRank

abbrev SelectLayer : Type 0
SelectLayer = SelectCase-F ShownBlock ShownCase ShownDo ShownElse ShownElseIf ShownIf ShownRank ShownSelect ShownSelectRank

abbrev SelectRankLayer : Type 0
SelectRankLayer = SelectRank-F ShownBlock ShownCase ShownDo ShownElse ShownElseIf ShownIf ShownRank ShownSelect ShownSelectRank

-- the value of a layer, without the proofs
abbrev plain_block : BlockLayer → Statement-F Construct Case DoConstruct Else ElseIf IfConstruct RankCase SelectCase SelectRank
plain_block y = map-Statement ShownBlock ShownCase ShownDo ShownElse ShownElseIf ShownIf ShownRank ShownSelect ShownSelectRank Construct Case DoConstruct Else ElseIf IfConstruct RankCase SelectCase SelectRank (λ e. e.0) (λ e. e.0) (λ e. e.0) (λ e. e.0) (λ e. e.0) (λ e. e.0) (λ e. e.0) (λ e. e.0) (λ e. e.0) y

abbrev plain_case : CaseLayer → Case-F Construct Case DoConstruct Else ElseIf IfConstruct RankCase SelectCase SelectRank
plain_case y = map-Case ShownBlock ShownCase ShownDo ShownElse ShownElseIf ShownIf ShownRank ShownSelect ShownSelectRank Construct Case DoConstruct Else ElseIf IfConstruct RankCase SelectCase SelectRank (λ e. e.0) (λ e. e.0) (λ e. e.0) (λ e. e.0) (λ e. e.0) (λ e. e.0) (λ e. e.0) (λ e. e.0) (λ e. e.0) y

abbrev plain_do : DoLayer → DoConstruct-F Construct Case DoConstruct Else ElseIf IfConstruct RankCase SelectCase SelectRank
plain_do y = map-DoConstruct ShownBlock ShownCase ShownDo ShownElse ShownElseIf ShownIf ShownRank ShownSelect ShownSelectRank Construct Case DoConstruct Else ElseIf IfConstruct RankCase SelectCase SelectRank (λ e. e.0) (λ e. e.0) (λ e. e.0) (λ e. e.0) (λ e. e.0) (λ e. e.0) (λ e. e.0) (λ e. e.0) (λ e. e.0) y

abbrev plain_else : ElseLayer → Else-F Construct Case DoConstruct Else ElseIf IfConstruct RankCase SelectCase SelectRank
plain_else y = map-Else ShownBlock ShownCase ShownDo ShownElse ShownElseIf ShownIf ShownRank ShownSelect ShownSelectRank Construct Case DoConstruct Else ElseIf IfConstruct RankCase SelectCase SelectRank (λ e. e.0) (λ e. e.0) (λ e. e.0) (λ e. e.0) (λ e. e.0) (λ e. e.0) (λ e. e.0) (λ e. e.0) (λ e. e.0) y

abbrev plain_else_if : ElseIfLayer → ElseIf-F Construct Case DoConstruct Else ElseIf IfConstruct RankCase SelectCase SelectRank
plain_else_if y = map-ElseIf ShownBlock ShownCase ShownDo ShownElse ShownElseIf ShownIf ShownRank ShownSelect ShownSelectRank Construct Case DoConstruct Else ElseIf IfConstruct RankCase SelectCase SelectRank (λ e. e.0) (λ e. e.0) (λ e. e.0) (λ e. e.0) (λ e. e.0) (λ e. e.0) (λ e. e.0) (λ e. e.0) (λ e. e.0) y

abbrev plain_if : IfLayer → IfConstruct-F Construct Case DoConstruct Else ElseIf IfConstruct RankCase SelectCase SelectRank
plain_if y = map-IfConstruct ShownBlock ShownCase ShownDo ShownElse ShownElseIf ShownIf ShownRank ShownSelect ShownSelectRank Construct Case DoConstruct Else ElseIf IfConstruct RankCase SelectCase SelectRank (λ e. e.0) (λ e. e.0) (λ e. e.0) (λ e. e.0) (λ e. e.0) (λ e. e.0) (λ e. e.0) (λ e. e.0) (λ e. e.0) y

abbrev plain_rank : RankLayer → RankCase-F Construct Case DoConstruct Else ElseIf IfConstruct RankCase SelectCase SelectRank
plain_rank y = map-RankCase ShownBlock ShownCase ShownDo ShownElse ShownElseIf ShownIf ShownRank ShownSelect ShownSelectRank Construct Case DoConstruct Else ElseIf IfConstruct RankCase SelectCase SelectRank (λ e. e.0) (λ e. e.0) (λ e. e.0) (λ e. e.0) (λ e. e.0) (λ e. e.0) (λ e. e.0) (λ e. e.0) (λ e. e.0) y

abbrev plain_select : SelectLayer → SelectCase-F Construct Case DoConstruct Else ElseIf IfConstruct RankCase SelectCase SelectRank
plain_select y = map-SelectCase ShownBlock ShownCase ShownDo ShownElse ShownElseIf ShownIf ShownRank ShownSelect ShownSelectRank Construct Case DoConstruct Else ElseIf IfConstruct RankCase SelectCase SelectRank (λ e. e.0) (λ e. e.0) (λ e. e.0) (λ e. e.0) (λ e. e.0) (λ e. e.0) (λ e. e.0) (λ e. e.0) (λ e. e.0) y

abbrev plain_select_rank : SelectRankLayer → SelectRank-F Construct Case DoConstruct Else ElseIf IfConstruct RankCase SelectCase SelectRank
plain_select_rank y = map-SelectRank ShownBlock ShownCase ShownDo ShownElse ShownElseIf ShownIf ShownRank ShownSelect ShownSelectRank Construct Case DoConstruct Else ElseIf IfConstruct RankCase SelectCase SelectRank (λ e. e.0) (λ e. e.0) (λ e. e.0) (λ e. e.0) (λ e. e.0) (λ e. e.0) (λ e. e.0) (λ e. e.0) (λ e. e.0) y

-- ---- the parts of constructs

ended_is : (c : line.Construct) (form : EndingForm) (name : Option Name) → construct_end c (close form (option_map view_name name)) ≡ ended c form name
ended_is c OneWord None = refl
ended_is c TwoWords None = refl
ended_is c Bare None = refl
ended_is c OneWord (Some n) = refl
ended_is c TwoWords (Some n) = refl
ended_is c Bare (Some n) = refl

end_is : (c : line.Construct) (e : Ending) → construct_end c (bare_ending e) ≡ end_line c e
unfolding end_line
end_is c e = ended_is c e.form e.name

choice_is : (c : CaseChoice) → Executable (values_line (bare_choice c)) ≡ case_line c
unfolding case_line
choice_is choice.Default = refl
choice_is (choice.Ranges []) = refl
choice_is (choice.Ranges (r ∷ rs)) = refl

rank_is : (c : RankChoice) → Executable (rank_line (bare_rank c)) ≡ rank_statement c
unfolding rank_statement
rank_is rank_choice.Default = refl
rank_is (rank_choice.Rank e) = refl
rank_is (rank_choice.AssumedSize p) = refl

blocks_are : (xs : List ShownBlock) (ts : Trees) (rest : List Statement) → spell_trees (block_trees (blocks (map bare_block (map (λ x. x.0) xs))) ts) rest ≡ each (map lines_of (map (λ x. x.0) xs)) (spell_trees ts rest)
blocks_are [] ts rest = refl
blocks_are (x ∷ xs) ts rest = x.1 (spell_trees (block_trees (blocks (map bare_block (map (λ x. x.0) xs))) ts) rest) ∙ ap (lines_of x.0) (blocks_are xs ts rest)

-- the trees of a block in front of others
behind : (bs : Blocks) (ts : Trees) (rest : List Statement) → spell_trees (block_trees bs ts) rest ≡ spell_trees (block_trees bs no_trees) (spell_trees ts rest)
behind no_blocks ts rest = refl
behind (block b bs) ts rest = ap (spell_tree (block_tree b)) (behind bs ts rest)

else_ifs_are : (xs : List ShownElseIf) (ts : Trees) (rest : List Statement) → spell_trees (else_if_trees (else_ifs_of (map bare_else_if (map (λ x. x.0) xs))) ts) rest ≡ each (map else_if_lines (map (λ x. x.0) xs)) (spell_trees ts rest)
else_ifs_are [] ts rest = refl
else_ifs_are (x ∷ xs) ts rest =
    let e : Bool × Expr × Blocks = bare_else_if x.0 in
    let others : Trees = else_if_trees (else_ifs_of (map bare_else_if (map (λ x. x.0) xs))) ts in
    ap (λ (ss : List Statement). Executable (line.ElseIf e.0 e.1) ∷ ss) (behind e.2 others rest) ∙ x.1 (spell_trees others rest) ∙ ap (else_if_lines x.0) (else_ifs_are xs ts rest)

otherwise_is : (x : Option ShownElse) (ts : Trees) (rest : List Statement) → spell_trees (otherwise_trees (otherwise_of (option_map bare_else (option_map (λ x. x.0) x))) ts) rest ≡ optional (option_map else_lines (option_map (λ x. x.0) x)) (spell_trees ts rest)
otherwise_is None ts rest = refl
otherwise_is (Some x) ts rest = ap (λ (ss : List Statement). Executable line.Else ∷ ss) (behind (bare_else x.0) ts rest) ∙ x.1 (spell_trees ts rest)

cases_are : (xs : List ShownCase) (ts : Trees) (rest : List Statement) → spell_trees (case_trees (cases_of (map bare_case (map (λ x. x.0) xs))) ts) rest ≡ each (map case_lines (map (λ x. x.0) xs)) (spell_trees ts rest)
cases_are [] ts rest = refl
cases_are (x ∷ xs) ts rest =
    let c : Values × Blocks = bare_case x.0 in
    let others : Trees = case_trees (cases_of (map bare_case (map (λ x. x.0) xs))) ts in
    ap (λ (ss : List Statement). Executable (values_line c.0) ∷ ss) (behind c.1 others rest) ∙ x.1 (spell_trees others rest) ∙ ap (case_lines x.0) (cases_are xs ts rest)

ranks_are : (xs : List ShownRank) (ts : Trees) (rest : List Statement) → spell_trees (rank_trees (ranks_of (map bare_rank_part (map (λ x. x.0) xs))) ts) rest ≡ each (map rank_lines (map (λ x. x.0) xs)) (spell_trees ts rest)
ranks_are [] ts rest = refl
ranks_are (x ∷ xs) ts rest =
    let r : RankOf × Blocks = bare_rank_part x.0 in
    let others : Trees = rank_trees (ranks_of (map bare_rank_part (map (λ x. x.0) xs))) ts in
    ap (λ (ss : List Statement). Executable (rank_line r.0) ∷ ss) (behind r.1 others rest) ∙ x.1 (spell_trees others rest) ∙ ap (rank_lines x.0) (ranks_are xs ts rest)

-- ---- each construct, where its parts have it

case_layer : (y : CaseLayer) → IsCase (roll-Case (plain_case y))
case_layer y rest =
    ap (λ (c : Values × Blocks). case_front c rest) (fold-roll-Case Block (Values × Blocks) Block Blocks (Bool × Expr × Blocks) Block (RankOf × Blocks) Block Block statement_bare case_bare do_bare else_bare else_if_bare if_bare rank_bare select_bare select_rank_bare (plain_case y))
    ∙ (λ i. choice_is y.choice i ∷ blocks_are y.body no_trees rest i)
    ∙ sym (ap (λ (f : Front). f rest) (fold-roll-Case Front Front Front Front Front Front Front Front Front statement_step case_step do_step else_step else_if_step if_step rank_step select_step select_rank_step (plain_case y)))

else_layer : (y : ElseLayer) → IsElse (roll-Else (plain_else y))
else_layer y rest =
    ap (λ (c : Blocks). else_front c rest) (fold-roll-Else Block (Values × Blocks) Block Blocks (Bool × Expr × Blocks) Block (RankOf × Blocks) Block Block statement_bare case_bare do_bare else_bare else_if_bare if_bare rank_bare select_bare select_rank_bare (plain_else y))
    ∙ ap (λ (ss : List Statement). Executable line.Else ∷ ss) (blocks_are y.body no_trees rest)
    ∙ sym (ap (λ (f : Front). f rest) (fold-roll-Else Front Front Front Front Front Front Front Front Front statement_step case_step do_step else_step else_if_step if_step rank_step select_step select_rank_step (plain_else y)))

else_if_layer : (y : ElseIfLayer) → IsElseIf (roll-ElseIf (plain_else_if y))
unfolding else_if_line
else_if_layer y rest =
    ap (λ (c : Bool × Expr × Blocks). else_if_front c rest) (fold-roll-ElseIf Block (Values × Blocks) Block Blocks (Bool × Expr × Blocks) Block (RankOf × Blocks) Block Block statement_bare case_bare do_bare else_bare else_if_bare if_bare rank_bare select_bare select_rank_bare (plain_else_if y))
    ∙ ap (λ (ss : List Statement). else_if_line y.is_one_word y.condition ∷ ss) (blocks_are y.body no_trees rest)
    ∙ sym (ap (λ (f : Front). f rest) (fold-roll-ElseIf Front Front Front Front Front Front Front Front Front statement_step case_step do_step else_step else_if_step if_step rank_step select_step select_rank_step (plain_else_if y)))

rank_layer : (y : RankLayer) → IsRank (roll-RankCase (plain_rank y))
rank_layer y rest =
    ap (λ (c : RankOf × Blocks). rank_front c rest) (fold-roll-RankCase Block (Values × Blocks) Block Blocks (Bool × Expr × Blocks) Block (RankOf × Blocks) Block Block statement_bare case_bare do_bare else_bare else_if_bare if_bare rank_bare select_bare select_rank_bare (plain_rank y))
    ∙ (λ i. rank_is y.choice i ∷ blocks_are y.body no_trees rest i)
    ∙ sym (ap (λ (f : Front). f rest) (fold-roll-RankCase Front Front Front Front Front Front Front Front Front statement_step case_step do_step else_step else_if_step if_step rank_step select_step select_rank_step (plain_rank y)))

do_layer : (y : DoLayer) → IsDo (roll-DoConstruct (plain_do y))
unfolding loop_line
do_layer y rest =
    ap (λ (c : Block). block_front c rest) (fold-roll-DoConstruct Block (Values × Blocks) Block Blocks (Bool × Expr × Blocks) Block (RankOf × Blocks) Block Block statement_bare case_bare do_bare else_bare else_if_bare if_bare rank_bare select_bare select_rank_bare (plain_do y))
    ∙ (ap (λ (ss : List Statement). loop_line y.control ∷ ss) (blocks_are y.body no_trees (construct_end line.Do (bare_ending y.ending) ∷ rest))
    ∙ ap (λ (s : Statement). loop_line y.control ∷ each (map lines_of (map (λ x. x.0) y.body)) (s ∷ rest)) (end_is line.Do y.ending))
    ∙ sym (ap (λ (f : Front). f rest) (fold-roll-DoConstruct Front Front Front Front Front Front Front Front Front statement_step case_step do_step else_step else_if_step if_step rank_step select_step select_rank_step (plain_do y)))

select_layer : (y : SelectLayer) → IsSelect (roll-SelectCase (plain_select y))
unfolding select_case_line
select_layer y rest =
    ap (λ (c : Block). block_front c rest) (fold-roll-SelectCase Block (Values × Blocks) Block Blocks (Bool × Expr × Blocks) Block (RankOf × Blocks) Block Block statement_bare case_bare do_bare else_bare else_if_bare if_bare rank_bare select_bare select_rank_bare (plain_select y))
    ∙ (ap (λ (ss : List Statement). select_case_line y.is_one_word y.selector ∷ ss) (cases_are y.cases no_trees (construct_end line.Select (bare_ending y.ending) ∷ rest))
    ∙ ap (λ (s : Statement). select_case_line y.is_one_word y.selector ∷ each (map case_lines (map (λ x. x.0) y.cases)) (s ∷ rest)) (end_is line.Select y.ending))
    ∙ sym (ap (λ (f : Front). f rest) (fold-roll-SelectCase Front Front Front Front Front Front Front Front Front statement_step case_step do_step else_step else_if_step if_step rank_step select_step select_rank_step (plain_select y)))

select_rank_layer : (y : SelectRankLayer) → IsSelectRank (roll-SelectRank (plain_select_rank y))
unfolding select_rank_line
select_rank_layer y rest =
    ap (λ (c : Block). block_front c rest) (fold-roll-SelectRank Block (Values × Blocks) Block Blocks (Bool × Expr × Blocks) Block (RankOf × Blocks) Block Block statement_bare case_bare do_bare else_bare else_if_bare if_bare rank_bare select_bare select_rank_bare (plain_select_rank y))
    ∙ (ap (λ (ss : List Statement). select_rank_line y.renamed y.selector ∷ ss) (ranks_are y.ranks no_trees (construct_end line.Select (bare_ending y.ending) ∷ rest))
    ∙ ap (λ (s : Statement). select_rank_line y.renamed y.selector ∷ each (map rank_lines (map (λ x. x.0) y.ranks)) (s ∷ rest)) (end_is line.Select y.ending))
    ∙ sym (ap (λ (f : Front). f rest) (fold-roll-SelectRank Front Front Front Front Front Front Front Front Front statement_step case_step do_step else_step else_if_step if_step rank_step select_step select_rank_step (plain_select_rank y)))

-- what stands inside of an IF construct, and its end
if_inside : (body : List ShownBlock) (elses : List ShownElseIf) (other : Option ShownElse) (e : Ending) (rest : List Statement) →
    spell_trees (block_trees (blocks (map bare_block (map (λ x. x.0) body))) (else_if_trees (else_ifs_of (map bare_else_if (map (λ x. x.0) elses))) (otherwise_trees (otherwise_of (option_map bare_else (option_map (λ x. x.0) other))) no_trees))) (construct_end line.If (bare_ending e) ∷ rest)
    ≡ each (map lines_of (map (λ x. x.0) body)) (each (map else_if_lines (map (λ x. x.0) elses)) (optional (option_map else_lines (option_map (λ x. x.0) other)) (end_line line.If e ∷ rest)))
if_inside body elses other e rest =
    let last : Trees = otherwise_trees (otherwise_of (option_map bare_else (option_map (λ x. x.0) other))) no_trees in
    let middle : Trees = else_if_trees (else_ifs_of (map bare_else_if (map (λ x. x.0) elses))) last in
    let ss : List Statement = construct_end line.If (bare_ending e) ∷ rest in
    blocks_are body middle ss
    ∙ ap (each (map lines_of (map (λ x. x.0) body))) (else_ifs_are elses last ss ∙ ap (each (map else_if_lines (map (λ x. x.0) elses))) (otherwise_is other no_trees ss
    ∙ ap (λ (s : Statement). optional (option_map else_lines (option_map (λ x. x.0) other)) (s ∷ rest)) (end_is line.If e)))

if_layer : (y : IfLayer) → IsIf (roll-IfConstruct (plain_if y))
unfolding if_line
if_layer y rest = shown y.otherwise
  where
    with_other : Option ShownElse → IfLayer
    with_other other = record { place = y.place; condition = y.condition; body = y.body; else_ifs = y.else_ifs; otherwise = other; ending = y.ending }

    inside : (other : Option ShownElse) → block_front (if_bare (map-IfConstruct Construct Case DoConstruct Else ElseIf IfConstruct RankCase SelectCase SelectRank Block (Values × Blocks) Block Blocks (Bool × Expr × Blocks) Block (RankOf × Blocks) Block Block bare_block bare_case bare_do bare_else bare_else_if bare_if bare_rank_part bare_select bare_select_rank (plain_if (with_other other)))) rest
        ≡ if_step (map-IfConstruct Construct Case DoConstruct Else ElseIf IfConstruct RankCase SelectCase SelectRank Front Front Front Front Front Front Front Front Front lines_of case_lines do_lines else_lines else_if_lines if_lines rank_lines select_lines select_rank_lines (plain_if (with_other other))) rest
    inside None = ap (λ (ss : List Statement). if_line y.condition ∷ ss) (if_inside y.body y.else_ifs None y.ending rest)
    inside (Some x) = ap (λ (ss : List Statement). if_line y.condition ∷ ss) (if_inside y.body y.else_ifs (Some x) y.ending rest)

    shown : (other : Option ShownElse) → block_front (bare_if (roll-IfConstruct (plain_if (with_other other)))) rest ≡ if_lines (roll-IfConstruct (plain_if (with_other other))) rest
    shown other =
        ap (λ (c : Block). block_front c rest) (fold-roll-IfConstruct Block (Values × Blocks) Block Blocks (Bool × Expr × Blocks) Block (RankOf × Blocks) Block Block statement_bare case_bare do_bare else_bare else_if_bare if_bare rank_bare select_bare select_rank_bare (plain_if (with_other other)))
        ∙ inside other
        ∙ sym (ap (λ (f : Front). f rest) (fold-roll-IfConstruct Front Front Front Front Front Front Front Front Front statement_step case_step do_step else_step else_if_step if_step rank_step select_step select_rank_step (plain_if (with_other other))))

block_step : (y : BlockLayer) (rest : List Statement) →
    block_front (statement_bare (map-Statement Construct Case DoConstruct Else ElseIf IfConstruct RankCase SelectCase SelectRank Block (Values × Blocks) Block Blocks (Bool × Expr × Blocks) Block (RankOf × Blocks) Block Block bare_block bare_case bare_do bare_else bare_else_if bare_if bare_rank_part bare_select bare_select_rank (plain_block y))) rest
    ≡ statement_step (map-Statement Construct Case DoConstruct Else ElseIf IfConstruct RankCase SelectCase SelectRank Front Front Front Front Front Front Front Front Front lines_of case_lines do_lines else_lines else_if_lines if_lines rank_lines select_lines select_rank_lines (plain_block y)) rest
unfolding action_line guarded_line
block_step (open_.Action a) rest = refl
block_step (open_.IfAction p condition a) rest = refl
block_step (open_.If c) rest = c.1 rest
block_step (open_.Do c) rest = c.1 rest
block_step (open_.SelectCase c) rest = c.1 rest
block_step (open_.SelectRank c) rest = c.1 rest

block_layer : (y : BlockLayer) → IsBlock (roll-Statement (plain_block y))
block_layer y rest =
    ap (λ (b : Block). block_front b rest) (fold-roll-Statement Block (Values × Blocks) Block Blocks (Bool × Expr × Blocks) Block (RankOf × Blocks) Block Block statement_bare case_bare do_bare else_bare else_if_bare if_bare rank_bare select_bare select_rank_bare (plain_block y))
    ∙ block_step y rest
    ∙ sym (ap (λ (f : Front). f rest) (fold-roll-Statement Front Front Front Front Front Front Front Front Front statement_step case_step do_step else_step else_if_step if_step rank_step select_step select_rank_step (plain_block y)))

-- the statements of an action statement or a construct are those of its tree
pub block_spelled : (c : Construct) → IsBlock c
block_spelled = ind-Statement IsBlock IsCase IsDo IsElse IsElseIf IsIf IsRank IsSelect IsSelectRank
    (λ x y is. subst (λ (z : Statement-F Construct Case DoConstruct Else ElseIf IfConstruct RankCase SelectCase SelectRank). IsBlock (roll-Statement z)) is (block_layer y))
    (λ x y is. subst (λ (z : Case-F Construct Case DoConstruct Else ElseIf IfConstruct RankCase SelectCase SelectRank). IsCase (roll-Case z)) is (case_layer y))
    (λ x y is. subst (λ (z : DoConstruct-F Construct Case DoConstruct Else ElseIf IfConstruct RankCase SelectCase SelectRank). IsDo (roll-DoConstruct z)) is (do_layer y))
    (λ x y is. subst (λ (z : Else-F Construct Case DoConstruct Else ElseIf IfConstruct RankCase SelectCase SelectRank). IsElse (roll-Else z)) is (else_layer y))
    (λ x y is. subst (λ (z : ElseIf-F Construct Case DoConstruct Else ElseIf IfConstruct RankCase SelectCase SelectRank). IsElseIf (roll-ElseIf z)) is (else_if_layer y))
    (λ x y is. subst (λ (z : IfConstruct-F Construct Case DoConstruct Else ElseIf IfConstruct RankCase SelectCase SelectRank). IsIf (roll-IfConstruct z)) is (if_layer y))
    (λ x y is. subst (λ (z : RankCase-F Construct Case DoConstruct Else ElseIf IfConstruct RankCase SelectCase SelectRank). IsRank (roll-RankCase z)) is (rank_layer y))
    (λ x y is. subst (λ (z : SelectCase-F Construct Case DoConstruct Else ElseIf IfConstruct RankCase SelectCase SelectRank). IsSelect (roll-SelectCase z)) is (select_layer y))
    (λ x y is. subst (λ (z : SelectRank-F Construct Case DoConstruct Else ElseIf IfConstruct RankCase SelectCase SelectRank). IsSelectRank (roll-SelectRank z)) is (select_rank_layer y))

pub blocks_spelled : (cs : List Construct) (ts : Trees) (rest : List Statement) → spell_trees (block_trees (bare_blocks cs) ts) rest ≡ blocks_of cs (spell_trees ts rest)
blocks_spelled [] ts rest = refl
blocks_spelled (c ∷ cs) ts rest = block_spelled c (spell_trees (block_trees (bare_blocks cs) ts) rest) ∙ ap (lines_of c) (blocks_spelled cs ts rest)
