use Rattle.std.proofs.Common.{◌≡◌, sym, ◌∙◌}
use Rattle.c_directives.specs.Sorting.{work_of}
use Rattle.c_directives.proofs.Puts.{text_goes, text_fails, text_end}
use Rattle.c_directives.proofs.work.text.Goals as goal

pub returns-in-Err-clause-says : goal.returns-in-Err-clause-says
returns-in-Err-clause-says c =
    text_fails {A = Unit {0}} {C = Unit {0}} c.in-Err.stop _ _ c.args.limit c.args.origin (work_of c.lexemes.pre) c.in-Some.lexeme.now c.in-Some.tail.now c.lexemes.rest.now _ c.in-Some.ensures.cases.0 (sym c.lexemes.invariant.so_far) c.in-Err.ensures.says

pub lexemes-preserved : goal.lexemes-preserved
lexemes-preserved c = record {
  room = c.in-Ok.ensures.room;
  so_far = text_goes c.args.limit c.args.origin (work_of c.lexemes.pre) (work_of c.put_lexeme.new.pre) c.in-Some.lexeme.now c.in-Some.tail.now c.lexemes.rest.now c.in-Some.ensures.cases.0 c.in-Ok.ensures.says ∙ c.lexemes.invariant.so_far;
}

pub returns-clause-says : goal.returns-clause-says
returns-clause-says c = sym c.lexemes.invariant.so_far ∙ text_end c.args.limit c.args.origin (work_of c.lexemes.pre) c.lexemes.rest.now c.in_default.ensures.cases
