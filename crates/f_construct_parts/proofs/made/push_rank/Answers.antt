use Rattle.std.proofs.Common.{rules, ◌≡◌, ◌∷◌, List, ap, ◌∙◌}
use Rattle.std.proofs.lemmas.Result.{on_ok_weaker}
use Rattle.f_tree.specs.declared.statement.RankCase.{RankCase}
use Rattle.f_tree.specs.declared.statement.Statement.TheFolds.{the_lemmas}
use Rattle.f_statement_grammar.specs.Statements as grammar
use Rattle.f_construct_parts.specs.Lines.{rank_lines, blocks_of, rank_line}
use Rattle.f_construct_parts.specs.Parts.{ranks_of}
use Rattle.f_construct_parts.proofs.Blocks.{each_last}
use Rattle.f_construct_parts.proofs.made.push_rank.Goals as goal

pub returns : goal.returns
returns c =
    let h = c.args.head in
    let last : (rest : List grammar.Statement) → rank_lines (record { place = h.place; choice = h.choice; body = c.args.body }) rest ≡ rank_line h.choice ∷ blocks_of c.args.body rest = λ rest. search (rules, the_lemmas) in
    on_ok_weaker c.push.result (λ e rest. ap (λ (xs : List RankCase). ranks_of xs rest) e ∙ each_last rank_lines c.args.ranks.now (record { place = h.place; choice = h.choice; body = c.args.body }) rest ∙ ap (ranks_of c.args.ranks.now) (last rest)) c.push.ensures.ok
