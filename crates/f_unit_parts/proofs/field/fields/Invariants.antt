use Rattle.std.proofs.Common.{◌≡◌, ◌++◌, map, reverse, vec_len}
use Rattle.f_unit_parts.specs.Units.{view_field}
use Rattle.f_unit_parts.specs.Views.{bare}
use Rattle.f_unit_parts.proofs.field.fields.Given as goal

abbrev pub invariant-entities : goal.invariant-entities
invariant-entities l = map view_field l.fields ++ map bare (reverse l.left.items) ≡ map bare l.fn.entities

abbrev pub decreases-entities : goal.decreases-entities
decreases-entities l = vec_len l.left
