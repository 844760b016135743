use Rattle.std.proofs.Common.{◌≡◌, ◌≤◌, ◌∙◌, sym, false, List, length, arith, subst}
use Rattle.std.proofs.lemmas.Bool.Decides.{nat_tests}
use Rattle.c_text.specs.declared.kind.Lexeme.{Lexeme}
use Rattle.c_text.specs.Source.{lexemes_in}
use Rattle.c_text.proofs.Cuts.{Goes, next-shorter, goes_on, goes_from, goes_out, white_is}
use Rattle.c_text.proofs.WholeLaws.{lexes}
use Rattle.c_text.proofs.lexer.lexemes.Goals as goal

pub overflow_sub-rest : goal.overflow_sub-rest
overflow_sub-rest c =
    let some : 1 ≤ length c.pieces.rest.now = grind (arith, nat_tests, c.pieces-test.ensures) in
    omega (arith, next-shorter c.pieces.rest.now (c.piece_at-kind.result.0, c.piece_at-kind.result.1.now) some c.piece_at-kind.ensures)

pub pieces-smaller : goal.pieces-smaller
pieces-smaller c =
    let some : 1 ≤ length c.pieces.rest.now = grind (arith, nat_tests, c.pieces-test.ensures) in
    omega (arith, next-shorter c.pieces.rest.now (c.piece_at-kind.result.0, c.piece_at-kind.result.1.now) some c.piece_at-kind.ensures)

pub pieces-preserved : goal.pieces-preserved
pieces-preserved c =
    let some : 1 ≤ length c.pieces.rest.now = grind (arith, nat_tests, c.pieces-test.ensures) in
    goes_on c.pieces.lexemes.items c.give.new.lexemes.items (lexemes_in c.args.bytes.now) c.pieces.after_blank c.is_none-after_blank.result c.pieces.rest.now (c.piece_at-kind.result.0, c.piece_at-kind.result.1.now) c.split_at.result.0.now
    some c.piece_at-kind.ensures c.split_at.ensures.front c.in_ok-give.ensures (white_is c.piece_at-kind.result.0 c.is_none-after_blank.result c.is_none-after_blank.ensures) c.pieces.invariant

pub returns : goal.returns
returns c =
    let none : length c.pieces.rest.now ≡ 0 = grind (arith, nat_tests, c.pieces-test.ensures) in
    lexes c.args.bytes.now c.pieces.lexemes.items (goes_out c.pieces.lexemes.items (lexemes_in c.args.bytes.now) c.pieces.after_blank c.pieces.rest.now none c.pieces.invariant)

pub pieces-init : goal.pieces-init
pieces-init c =
    let start = goes_from c.args.bytes.now c.as_slice-rest.result.now (c.as_slice-rest.ensures.value ∙ c.in_ok-text.ensures) in
    subst (λ (l : List Lexeme). Goes l false c.as_slice-rest.result.now (lexemes_in c.args.bytes.now)) (sym c.new-lexemes.ensures.items) start
