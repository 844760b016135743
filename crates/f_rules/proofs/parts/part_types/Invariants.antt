use Rattle.std.proofs.Common.{◌≡◌, ◌≤◌, ◌-◌, length}
use Rattle.f_rules.specs.PartTypes.{AreLevels}
use Rattle.f_rules.proofs.Levels.{TypesBelow}
use Rattle.f_rules.proofs.parts.part_types.Given as goal

abbrev pub invariant-items : goal.invariant-items
invariant-items l = record {
  within : l.place ≤ l.count;
  long : length l.types.items ≡ l.place;
  levels : AreLevels l.program.items l.place l.levels;
  below : TypesBelow l.program.items l.types.items l.place;
}

abbrev pub decreases-items : goal.decreases-items
decreases-items l = l.count - l.place
