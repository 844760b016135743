use Rattle.std.proofs.Common.{rules, ◌≡◌, ◌∷◌, List, ap, ◌∙◌}
use Rattle.std.proofs.lemmas.Result.{on_ok_weaker}
use Rattle.f_tree.specs.declared.statement.Case.{Case}
use Rattle.f_tree.specs.declared.statement.Statement.TheFolds.{the_lemmas}
use Rattle.f_statement_grammar.specs.Statements as grammar
use Rattle.f_construct_parts.specs.Lines.{case_lines, blocks_of, case_line}
use Rattle.f_construct_parts.specs.Parts.{cases_of}
use Rattle.f_construct_parts.proofs.Blocks.{each_last}
use Rattle.f_construct_parts.proofs.made.push_case.Goals as goal

pub returns : goal.returns
returns c =
    let h = c.args.head in
    let last : (rest : List grammar.Statement) → case_lines (record { place = h.place; choice = h.choice; body = c.args.body }) rest ≡ case_line h.choice ∷ blocks_of c.args.body rest = λ rest. search (rules, the_lemmas) in
    on_ok_weaker c.push.result (λ e rest. ap (λ (xs : List Case). cases_of xs rest) e ∙ each_last case_lines c.args.cases.now (record { place = h.place; choice = h.choice; body = c.args.body }) rest ∙ ap (cases_of c.args.cases.now) (last rest)) c.push.ensures.ok
