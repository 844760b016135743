-- The trees of a block's statements tell the block.
use Rattle.std.proofs.Common.{◌≡◌, Some, None, true, false, refl, ap, ◌∙◌}
use Rattle.f_tree.specs.declared.declaration.EndingForm.TheVariants.{Bare, TwoWords, OneWord}
use Rattle.f_grammar.specs.Actions as act
use Rattle.f_line_grammar.specs.Lines as line
use Rattle.f_line_grammar.specs.Lines.{Line, Construct}
use Rattle.f_declaration_grammar.specs.Declarations as grammar
use Rattle.f_statement_grammar.specs.Statements.{Statement, Executable, Declaring}
use Rattle.f_unit_grammar.specs.Units.{Tree, single, nested, Trees, no_trees, tree}
use Rattle.f_unit_laws.specs.Shapes as shape
use Rattle.f_unit_laws.specs.Shapes.{Close, close, Values, OtherValues, These, RankOf, OtherRanks, This, AssumedSize, Block, Blocks, no_blocks, block, ElseIfs, no_else_ifs, else_if, Otherwise, no_otherwise, otherwise, Cases, no_cases, case_of, Ranks, no_ranks, rank_of}
use Rattle.f_unit_laws.specs.Derivations.{construct_end, unit_end, block_tree, block_trees, else_if_trees, otherwise_trees, case_trees, rank_trees}
use Rattle.f_unit_laws.proofs.Sorts.{is_executable}
use Rattle.f_unit_laws.proofs.Formed.{IsMatched, AreMatched}

-- ---- the end of something by its statement

abbrev pub closing : Statement → Close
closing (Executable (line.End c true)) = close OneWord None
closing (Executable (line.End c false)) = close TwoWords None
closing (Declaring (grammar.EndOf what true name)) = close OneWord name
closing (Declaring (grammar.EndOf what false name)) = close TwoWords name
closing _ = close Bare None

construct_closes : (c : Construct) (e : Close) → true ≡ is_executable (construct_end c e) → closing (construct_end c e) ≡ e
construct_closes c (close OneWord None) m = refl
construct_closes c (close TwoWords None) m = refl
construct_closes c (close Bare None) m = absurd cc
construct_closes c (close OneWord (Some n)) m = absurd cc
construct_closes c (close TwoWords (Some n)) m = absurd cc
construct_closes c (close Bare (Some n)) m = absurd cc

pub unit_closes : (what : grammar.Ended) (e : Close) → false ≡ is_executable (unit_end what e) → closing (unit_end what e) ≡ e
unit_closes what (close OneWord name) m = refl
unit_closes what (close TwoWords name) m = refl
unit_closes what (close Bare None) m = refl
unit_closes what (close Bare (Some n)) m = absurd cc

-- ---- a block by its trees

-- an action statement or a construct, a statement that divides a construct, and what is declared
pub data Part : Type 0 where
  Whole : Part
  Divides : Part
  Declares : Part

abbrev line_part : Line → Part
line_part (line.Simple a) = Whole
line_part (line.Guarded condition a) = Whole
line_part _ = Divides

abbrev part_of : Tree → Part
part_of (single (Executable l)) = line_part l
part_of (single (Declaring d)) = Declares
part_of (nested (Executable l) inside end) = Whole
part_of (nested (Declaring d) inside end) = Declares

abbrev with_block : Part → Block → Blocks → Blocks
with_block Whole b bs = block b bs
with_block Divides b bs = no_blocks
with_block Declares b bs = bs

abbrev mutual
  block_of : Tree → Block
  block_of (single (Executable (line.Simple a))) = shape.Action a
  block_of (single (Executable (line.Guarded condition a))) = shape.IfAction condition a
  block_of (nested (Executable (line.IfThen condition)) inside end) = shape.If condition (blocks_from inside) (else_ifs_from inside) (otherwise_from inside) (closing end)
  block_of (nested (Executable (line.Loop control)) inside end) = shape.Do control (blocks_from inside) (closing end)
  block_of (nested (Executable (line.SelectCase w e)) inside end) = shape.SelectCase w e (cases_from inside) (closing end)
  block_of (nested (Executable (line.SelectRank renamed selector)) inside end) = shape.SelectRank renamed selector (ranks_from inside) (closing end)
  block_of _ = shape.Action act.Exit

  -- up to the first statement that divides a construct
  pub blocks_from : Trees → Blocks
  blocks_from no_trees = no_blocks
  blocks_from (tree t ts) = with_block (part_of t) (block_of t) (blocks_from ts)

  else_ifs_from : Trees → ElseIfs
  else_ifs_from no_trees = no_else_ifs
  else_ifs_from (tree (single (Executable (line.ElseIf w condition))) ts) = else_if w condition (blocks_from ts) (else_ifs_from ts)
  else_ifs_from (tree t ts) = else_ifs_from ts

  otherwise_from : Trees → Otherwise
  otherwise_from no_trees = no_otherwise
  otherwise_from (tree (single (Executable line.Else)) ts) = otherwise (blocks_from ts)
  otherwise_from (tree t ts) = otherwise_from ts

  cases_from : Trees → Cases
  cases_from no_trees = no_cases
  cases_from (tree (single (Executable (line.Cases first others))) ts) = case_of (These first others) (blocks_from ts) (cases_from ts)
  cases_from (tree (single (Executable line.CaseDefault)) ts) = case_of OtherValues (blocks_from ts) (cases_from ts)
  cases_from (tree t ts) = cases_from ts

  ranks_from : Trees → Ranks
  ranks_from no_trees = no_ranks
  ranks_from (tree (single (Executable (line.Rank e))) ts) = rank_of (This e) (blocks_from ts) (ranks_from ts)
  ranks_from (tree (single (Executable line.RankStar)) ts) = rank_of AssumedSize (blocks_from ts) (ranks_from ts)
  ranks_from (tree (single (Executable line.RankDefault)) ts) = rank_of OtherRanks (blocks_from ts) (ranks_from ts)
  ranks_from (tree t ts) = ranks_from ts

-- ---- what a block doesn't count for

-- what is told by some trees is told without a block in front of them
pub over_blocks : {A : Type 0} (f : Trees → A) → ((b : Block) (ts : Trees) → f (tree (block_tree b) ts) ≡ f ts) → (bs : Blocks) (ts : Trees) → f (block_trees bs ts) ≡ f ts
over_blocks f over no_blocks ts = refl
over_blocks f over (block b bs) ts = over b (block_trees bs ts) ∙ over_blocks f over bs ts

else_ifs_over : (b : Block) (ts : Trees) → else_ifs_from (tree (block_tree b) ts) ≡ else_ifs_from ts
else_ifs_over (shape.Action a) ts = refl
else_ifs_over b ts = refl

otherwise_over : (b : Block) (ts : Trees) → otherwise_from (tree (block_tree b) ts) ≡ otherwise_from ts
otherwise_over (shape.Action a) ts = refl
otherwise_over b ts = refl

cases_over : (b : Block) (ts : Trees) → cases_from (tree (block_tree b) ts) ≡ cases_from ts
cases_over (shape.Action a) ts = refl
cases_over b ts = refl

ranks_over : (b : Block) (ts : Trees) → ranks_from (tree (block_tree b) ts) ≡ ranks_from ts
ranks_over (shape.Action a) ts = refl
ranks_over b ts = refl

otherwise_over_else_ifs : (es : ElseIfs) (ts : Trees) → otherwise_from (else_if_trees es ts) ≡ otherwise_from ts
otherwise_over_else_ifs no_else_ifs ts = refl
otherwise_over_else_ifs (else_if w condition body es) ts = over_blocks otherwise_from otherwise_over body (else_if_trees es ts) ∙ otherwise_over_else_ifs es ts

matched_behind : (bs : Blocks) (ts : Trees) → AreMatched (block_trees bs ts) → AreMatched ts
matched_behind no_blocks ts m = m
matched_behind (block b bs) ts m = matched_behind bs ts m.1

matched_behind_else_ifs : (es : ElseIfs) (ts : Trees) → AreMatched (else_if_trees es ts) → AreMatched ts
matched_behind_else_ifs no_else_ifs ts m = m
matched_behind_else_ifs (else_if w condition body es) ts m = matched_behind_else_ifs es ts (matched_behind body (else_if_trees es ts) m.1)

is_whole : (b : Block) (bs : Blocks) → with_block (part_of (block_tree b)) (block_of (block_tree b)) bs ≡ block (block_of (block_tree b)) bs
is_whole (shape.Action a) bs = refl
is_whole b bs = refl

-- a block ends before ELSE IF, ELSE, CASE and RANK
else_ifs_halt : (es : ElseIfs) (ts : Trees) → blocks_from ts ≡ no_blocks → blocks_from (else_if_trees es ts) ≡ no_blocks
else_ifs_halt no_else_ifs ts h = h
else_ifs_halt (else_if w condition body es) ts h = refl

otherwise_halts : (o : Otherwise) → blocks_from (otherwise_trees o no_trees) ≡ no_blocks
otherwise_halts no_otherwise = refl
otherwise_halts (otherwise body) = refl

cases_halt : (cs : Cases) → blocks_from (case_trees cs no_trees) ≡ no_blocks
cases_halt no_cases = refl
cases_halt (case_of OtherValues body cs) = refl
cases_halt (case_of (These first others) body cs) = refl

ranks_halt : (rs : Ranks) → blocks_from (rank_trees rs no_trees) ≡ no_blocks
ranks_halt no_ranks = refl
ranks_halt (rank_of OtherRanks body rs) = refl
ranks_halt (rank_of (This e) body rs) = refl
ranks_halt (rank_of AssumedSize body rs) = refl

no_else_ifs_in : (o : Otherwise) → else_ifs_from (otherwise_trees o no_trees) ≡ no_else_ifs
no_else_ifs_in no_otherwise = refl
no_else_ifs_in (otherwise body) = over_blocks else_ifs_from else_ifs_over body no_trees

-- ---- its trees tell a block

mutual
  block_back : (b : Block) → IsMatched (block_tree b) → block_of (block_tree b) ≡ b
  block_back (shape.Action a) m = refl
  block_back (shape.IfAction condition a) m = refl
  block_back (shape.If condition body elses other ending) m =
      let last : Trees = otherwise_trees other no_trees in
      let middle : Trees = else_if_trees elses last in
      let behind = matched_behind body middle m.1 in
      let body_is = blocks_back body middle (else_ifs_halt elses last (otherwise_halts other)) m.1 in
      let elses_are = over_blocks else_ifs_from else_ifs_over body middle ∙ else_ifs_back elses last (otherwise_halts other) (no_else_ifs_in other) behind in
      let other_is = over_blocks otherwise_from otherwise_over body middle ∙ otherwise_over_else_ifs elses last ∙ otherwise_back other (matched_behind_else_ifs elses last behind) in
      λ i. shape.If condition (body_is i) (elses_are i) (other_is i) (construct_closes line.If ending m.0 i)
  block_back (shape.Do control body ending) m = λ i. shape.Do control (blocks_back body no_trees refl m.1 i) (construct_closes line.Do ending m.0 i)
  block_back (shape.SelectCase w e cases ending) m = λ i. shape.SelectCase w e (cases_back cases m.1 i) (construct_closes line.Select ending m.0 i)
  block_back (shape.SelectRank renamed selector ranks ending) m = λ i. shape.SelectRank renamed selector (ranks_back ranks m.1 i) (construct_closes line.Select ending m.0 i)

  pub blocks_back : (bs : Blocks) (ts : Trees) → blocks_from ts ≡ no_blocks → AreMatched (block_trees bs ts) → blocks_from (block_trees bs ts) ≡ bs
  blocks_back no_blocks ts h m = h
  blocks_back (block b bs) ts h m = is_whole b (blocks_from (block_trees bs ts)) ∙ (λ i. block (block_back b m.0 i) (blocks_back bs ts h m.1 i))

  else_ifs_back : (es : ElseIfs) (ts : Trees) → blocks_from ts ≡ no_blocks → else_ifs_from ts ≡ no_else_ifs → AreMatched (else_if_trees es ts) → else_ifs_from (else_if_trees es ts) ≡ es
  else_ifs_back no_else_ifs ts h g m = g
  else_ifs_back (else_if w condition body es) ts h g m =
      let others : Trees = else_if_trees es ts in
      let others_are = over_blocks else_ifs_from else_ifs_over body others ∙ else_ifs_back es ts h g (matched_behind body others m.1) in
      λ i. else_if w condition (blocks_back body others (else_ifs_halt es ts h) m.1 i) (others_are i)

  otherwise_back : (o : Otherwise) → AreMatched (otherwise_trees o no_trees) → otherwise_from (otherwise_trees o no_trees) ≡ o
  otherwise_back no_otherwise m = refl
  otherwise_back (otherwise body) m = ap otherwise (blocks_back body no_trees refl m.1)

  cases_back : (cs : Cases) → AreMatched (case_trees cs no_trees) → cases_from (case_trees cs no_trees) ≡ cs
  cases_back no_cases m = refl
  cases_back (case_of OtherValues body cs) m =
      let others : Trees = case_trees cs no_trees in
      let others_are = over_blocks cases_from cases_over body others ∙ cases_back cs (matched_behind body others m.1) in
      λ i. case_of OtherValues (blocks_back body others (cases_halt cs) m.1 i) (others_are i)
  cases_back (case_of (These first rest) body cs) m =
      let others : Trees = case_trees cs no_trees in
      let others_are = over_blocks cases_from cases_over body others ∙ cases_back cs (matched_behind body others m.1) in
      λ i. case_of (These first rest) (blocks_back body others (cases_halt cs) m.1 i) (others_are i)

  ranks_back : (rs : Ranks) → AreMatched (rank_trees rs no_trees) → ranks_from (rank_trees rs no_trees) ≡ rs
  ranks_back no_ranks m = refl
  ranks_back (rank_of OtherRanks body rs) m =
      let others : Trees = rank_trees rs no_trees in
      let others_are = over_blocks ranks_from ranks_over body others ∙ ranks_back rs (matched_behind body others m.1) in
      λ i. rank_of OtherRanks (blocks_back body others (ranks_halt rs) m.1 i) (others_are i)
  ranks_back (rank_of (This e) body rs) m =
      let others : Trees = rank_trees rs no_trees in
      let others_are = over_blocks ranks_from ranks_over body others ∙ ranks_back rs (matched_behind body others m.1) in
      λ i. rank_of (This e) (blocks_back body others (ranks_halt rs) m.1 i) (others_are i)
  ranks_back (rank_of AssumedSize body rs) m =
      let others : Trees = rank_trees rs no_trees in
      let others_are = over_blocks ranks_from ranks_over body others ∙ ranks_back rs (matched_behind body others m.1) in
      λ i. rank_of AssumedSize (blocks_back body others (ranks_halt rs) m.1 i) (others_are i)
