use Rattle.std.proofs.Common.{◌≡◌, ◌<◌, ◌^◌, drop}
use Rattle.f_lex.specs.Words.{number_from, number_of}
use Rattle.f_lex.proofs.words.is_number.Given as goal

abbrev pub invariant-loop-digit : goal.invariant-loop-digit
invariant-loop-digit l = record {
  small : l.value < 2 ^ 63;
  so_far : number_from l.value (drop l.digit-index l.digits) ≡ number_of l.digits;
}
