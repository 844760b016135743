use Rattle.std.proofs.Common.{rules, ◌≡◌, ◌∷◌, List, ap, ◌∙◌}
use Rattle.std.proofs.lemmas.Result.{on_ok_weaker}
use Rattle.f_tree.specs.declared.statement.ElseIf.{ElseIf}
use Rattle.f_tree.specs.declared.statement.Statement.TheFolds.{the_lemmas}
use Rattle.f_statement_grammar.specs.Statements as grammar
use Rattle.f_construct_parts.specs.Lines.{else_if_lines, blocks_of, else_if_line}
use Rattle.f_construct_parts.specs.Parts.{else_ifs_of}
use Rattle.f_construct_parts.proofs.Blocks.{each_last}
use Rattle.f_construct_parts.proofs.made.push_else_if.Goals as goal

pub returns : goal.returns
returns c =
    let h = c.args.head in
    let last : (rest : List grammar.Statement) → else_if_lines (record { place = h.place; is_one_word = h.is_one_word; condition = h.condition; body = c.args.body }) rest ≡ else_if_line h.is_one_word h.condition ∷ blocks_of c.args.body rest = λ rest. search (rules, the_lemmas) in
    on_ok_weaker c.push.result (λ e rest. ap (λ (xs : List ElseIf). else_ifs_of xs rest) e ∙ each_last else_if_lines c.args.parts.now (record { place = h.place; is_one_word = h.is_one_word; condition = h.condition; body = c.args.body }) rest ∙ ap (else_ifs_of c.args.parts.now) (last rest)) c.push.ensures.ok
