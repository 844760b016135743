use Rattle.std.proofs.Common.{◌≡◌, None, length}
use Rattle.f_lex.specs.Rules.{least}
use Rattle.f_lex.specs.Source.{IsRoom, breaks_of, tokens_of}
use Rattle.f_lex.proofs.Whole.{Goes}
use Rattle.f_lex.proofs.lexer.read.Given as goal

abbrev pub invariant-pieces : goal.invariant-pieces
invariant-pieces l = record {
  goes : Goes l.file l.reader.position l.reader.tokens l.reader.fault l.rest (least None (breaks_of l.before l.bytes)) (tokens_of l.file l.before l.bytes);
  file : l.reader.file ≡ l.file;
  room : IsRoom l.reader.position (length l.rest);
}

abbrev pub decreases-pieces : goal.decreases-pieces
decreases-pieces l = length l.rest
