use Rattle.std.proofs.Common.{rules, ◌≡◌, List, ap, ◌∙◌}
use Rattle.std.proofs.lemmas.Result.{on_ok_weaker}
use Rattle.f_tree.specs.declared.statement.Statement.{Statement as Tree}
use Rattle.f_tree.specs.declared.statement.Statement.TheVariants as tree
use Rattle.f_tree.specs.declared.statement.Statement.TheFolds.{the_lemmas}
use Rattle.f_statement_grammar.specs.Statements as grammar
use Rattle.f_construct_parts.specs.Lines.{lines_of, blocks_of, if_lines}
use Rattle.f_construct_parts.proofs.Blocks.{each_last}
use Rattle.f_construct_parts.proofs.made.push_if_construct.Goals as goal

pub returns : goal.returns
returns c =
    let x = c.if_construct.result in
    let last : (rest : List grammar.Statement) → lines_of (tree.If x) rest ≡ if_lines x rest = λ rest. search (rules, the_lemmas) in
    on_ok_weaker c.push.result (λ e rest. ap (λ (xs : List Tree). blocks_of xs rest) e ∙ each_last lines_of c.args.block.now (tree.If x) rest ∙ ap (blocks_of c.args.block.now) (last rest ∙ c.if_construct.ensures rest)) c.push.ensures.ok
