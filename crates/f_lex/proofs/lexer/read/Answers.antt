use Rattle.std.proofs.Common.{◌≡◌, ◌+◌, ◌≤◌, ◌++◌, [], ℕ, List, None, length, refl, sym, ap, subst, ◌∙◌, arith}
use Rattle.std.specs.Prelude.{option_to_list}
use Rattle.std.proofs.lemmas.Bool.Decides.{nat_tests}
use Rattle.f_lex.specs.declared.piece.Piece.TheVariants as piece
use Rattle.f_lex.specs.declared.reader.Position.{Position}
use Rattle.f_lex.specs.declared.token.Spanned.{Spanned}
use Rattle.f_lex.specs.Rules.{least, given}
use Rattle.f_lex.specs.Source.{IsRoom, start, breaks_of, tokens_of}
use Rattle.f_lex.proofs.Whole.{Goes, Took, goes_on, ends, begins, next-shorter, none-left, room-behind}
use Rattle.f_lex.proofs.lexer.read.Goals as goal

pub pieces-init : goal.pieces-init
pieces-init c = record {
  goes = subst (λ (t : List Spanned). Goes c.args.file (start c.args.before) t c.first_long_line.result c.args.bytes.now (least None (breaks_of c.args.before c.args.bytes.now)) (tokens_of c.args.file c.args.before c.args.bytes.now))
      (sym (c.from_vec.ensures ∙ c.new.ensures.items)) (begins c.args.file c.args.before c.args.bytes.now c.first_long_line.result c.first_long_line.ensures);
  file = refl;
  room = record { offset = omega arith; line = omega arith; column = omega arith; first = omega arith; characters = omega arith; tokens = omega arith };
}

pub overflow_sub-rest : goal.overflow_sub-rest
overflow_sub-rest c =
    let some : 1 ≤ length c.pieces.rest.now = grind (arith, nat_tests, c.pieces-test.ensures) in
    omega (arith, next-shorter c.in_ok-piece.piece c.pieces.rest.now c.in_ok-piece.next.now some c.in_ok-piece.ensures)

pub pieces-smaller : goal.pieces-smaller
pieces-smaller c =
    let some : 1 ≤ length c.pieces.rest.now = grind (arith, nat_tests, c.pieces-test.ensures) in
    omega (arith, next-shorter c.in_ok-piece.piece c.pieces.rest.now c.in_ok-piece.next.now some c.in_ok-piece.ensures)

pub pieces-preserved : goal.pieces-preserved
pieces-preserved c =
    let some : 1 ≤ length c.pieces.rest.now = grind (arith, nat_tests, c.pieces-test.ensures) in
    let less : length c.in_ok-piece.next.now + 1 ≤ length c.pieces.rest.now = next-shorter c.in_ok-piece.piece c.pieces.rest.now c.in_ok-piece.next.now some c.in_ok-piece.ensures in
    let spelled = c.split_at.result.0.now in
    let len : length spelled + length c.in_ok-piece.next.now ≡ length c.pieces.rest.now = omega (arith, c.split_at.ensures.front_len, less) in
    let took : Took c.args.file c.pieces.reader.position c.pieces.reader.tokens c.pieces.reader.fault (c.in_ok-piece.piece, spelled) c.take.new.self.position c.take.new.self.tokens c.take.new.self.fault = record {
      position = c.in_ok-take.ensures.position;
      broken = c.in_ok-take.ensures.fault;
      given_tokens = λ none. c.in_ok-take.ensures.tokens none ∙ ap (λ (f : ℕ). c.pieces.reader.tokens ++ option_to_list (given f c.pieces.reader.position c.in_ok-piece.piece (length spelled))) c.pieces.invariant.file;
    } in
    record {
      goes = goes_on c.args.file c.pieces.reader.position c.pieces.reader.tokens c.pieces.reader.fault c.take.new.self.position c.take.new.self.tokens c.take.new.self.fault _ _ c.in_ok-piece.piece c.pieces.rest.now c.in_ok-piece.next.now
          some c.in_ok-piece.ensures
          (subst (λ (b : List ℕ). Took c.args.file c.pieces.reader.position c.pieces.reader.tokens c.pieces.reader.fault (c.in_ok-piece.piece, b) c.take.new.self.position c.take.new.self.tokens c.take.new.self.fault) c.split_at.ensures.front took)
          c.pieces.invariant.goes;
      file = c.in_ok-take.ensures.file ∙ c.pieces.invariant.file;
      room = subst (λ (p : Position). IsRoom p (length c.in_ok-piece.next.now)) (sym c.in_ok-take.ensures.position)
          (room-behind c.pieces.reader.position c.in_ok-piece.piece spelled (length c.in_ok-piece.next.now) (subst (λ (n : ℕ). IsRoom c.pieces.reader.position n) (sym len) c.pieces.invariant.room) (omega (arith, len, less)));
    }

pub returns : goal.returns
returns c =
    let zero : length c.pieces.rest.now ≡ 0 = grind (arith, nat_tests, c.pieces-test.ensures) in
    let none_left : c.pieces.rest.now ≡ [] = none-left c.pieces.rest.now zero in
    let took : Took c.args.file c.pieces.reader.position c.pieces.reader.tokens c.pieces.reader.fault (piece.LineEnd, c.pieces.rest.now) c.take-2.new.self.position c.take-2.new.self.tokens c.take-2.new.self.fault = record {
      position = c.in_ok-take-2.ensures.position;
      broken = c.in_ok-take-2.ensures.fault;
      given_tokens = λ none. c.in_ok-take-2.ensures.tokens none ∙ ap (λ (f : ℕ). c.pieces.reader.tokens ++ option_to_list (given f c.pieces.reader.position piece.LineEnd (length c.pieces.rest.now))) c.pieces.invariant.file;
    } in
    let end = ends c.args.file c.pieces.reader.position c.pieces.reader.tokens c.pieces.reader.fault c.take-2.new.self.position c.take-2.new.self.tokens c.take-2.new.self.fault _ _
    (subst (λ (b : List ℕ). Took c.args.file c.pieces.reader.position c.pieces.reader.tokens c.pieces.reader.fault (piece.LineEnd, b) c.take-2.new.self.position c.take-2.new.self.tokens c.take-2.new.self.fault) none_left took)
    (subst (λ (b : List ℕ). Goes c.args.file c.pieces.reader.position c.pieces.reader.tokens c.pieces.reader.fault b (least None (breaks_of c.args.before c.args.bytes.now)) (tokens_of c.args.file c.args.before c.args.bytes.now)) none_left c.pieces.invariant.goes) in
    record { first = end.0; all = end.1 }
