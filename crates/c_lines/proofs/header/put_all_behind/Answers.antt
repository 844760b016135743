use Rattle.std.proofs.Common.{◌≡◌, ap, ◌∙◌, sym, ◌++◌, append_assoc, length, List, [], ℕ}
use Rattle.std.proofs.lemmas.List.{append-nil}
use Rattle.c_text.specs.declared.kind.Lexeme.{Lexeme}
use Rattle.c_lines.specs.Headers.{blank_before, spelled_behind}
use Rattle.c_lines.proofs.Names.{behind_none, behind_one}
use Rattle.c_lines.proofs.header.put_all_behind.Goals as goal

pub lexemes-preserved : goal.lexemes-preserved
lexemes-preserved c =
    behind_one c.lexemes.out.items c.put_behind.new.out.items c.in-Some.lexeme.now c.in-Some.tail.now c.lexemes.rest.now c.in_ok-put_behind.ensures c.in-Some.ensures.cases.0 ∙ c.lexemes.invariant

pub returns : goal.returns
returns c = behind_none c.lexemes.out.items c.lexemes.rest.now c.in_default.ensures.cases ∙ c.lexemes.invariant
