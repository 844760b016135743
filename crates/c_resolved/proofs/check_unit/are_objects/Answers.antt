use Rattle.std.proofs.Common.{ap, ◌∙◌}
use Rattle.std.specs.List.{list_all}
use Rattle.c_resolved.specs.Units.{object_fits, outer_counts}
use Rattle.c_resolved.specs.declared.check_type.Counts.{Counts}
use Rattle.c_resolved.proofs.check_unit.are_objects.Goals as goal

pub returns : goal.returns
returns c =
    c.are_objects_there.ensures
    ∙ ap (λ (n : Counts). list_all (λ x. object_fits n c.args.u.now.types x) c.as_slice.result.now) c.counts_of.ensures
    ∙ ap (list_all (λ x. object_fits (outer_counts c.args.u.now) c.args.u.now.types x)) c.as_slice.ensures
