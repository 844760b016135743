use Rattle.std.proofs.Common.{◌≡◌, ◌<◌, ◌^◌, ◌+◌, ◌-◌, ◌*◌, drop}
use Rattle.std.specs.Prelude.{fold}
use Rattle.command.specs.Number.{value_of}
use Rattle.command.proofs.number.value.Given as goal

abbrev pub invariant-loop-digit : goal.invariant-loop-digit
invariant-loop-digit l = record {
  below : l.value < 10 ^ l.digit-index;
  same : value_of l.digits ≡ fold (λ value digit. value * 10 + (digit - 48)) l.value (drop l.digit-index l.digits);
}
