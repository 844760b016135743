use Rattle.std.proofs.Common.{◌≡◌, drop, length, ◌+◌, ◌*◌}
use Rattle.std.specs.Option.{option_copied}
use Rattle.c_types.specs.declared.ctype.CType.{size-CType}
use Rattle.c_types.specs.declared.ctype.CType.TheViews.{size-Proto}
use Rattle.c_types.specs.Compatible.{compatible_by, rule_within, members_alike}
use Rattle.c_types.proofs.Settling.{params_alike}
use Rattle.c_types.proofs.Weights.{most, weight}
use Rattle.c_types.proofs.compatibility.+compare.Given as goal

abbrev pub decreases-compare : goal.decreases-compare
decreases-compare l = l.files.now.depth * weight l.files.now.first.now (option_copied l.files.now.other) + 2 * (size-CType l.a.now + size-CType l.b.now)

abbrev pub decreases-compare_members : goal.decreases-compare_members
decreases-compare_members l = l.files.now.depth * weight l.files.now.first.now (option_copied l.files.now.other) + 2 * (most l.ours.now + most l.theirs.now) + 1

abbrev pub decreases-compare_parameters : goal.decreases-compare_parameters
decreases-compare_parameters l = l.files.now.depth * weight l.files.now.first.now (option_copied l.files.now.other) + 2 * (size-CType l.a.now + size-CType l.b.now) + 1

abbrev pub decreases-compare_protos : goal.decreases-compare_protos
decreases-compare_protos l = l.files.now.depth * weight l.files.now.first.now (option_copied l.files.now.other) + 2 * (size-Proto l.f.now + size-Proto l.g.now)

abbrev pub decreases-compare_structs : goal.decreases-compare_structs
decreases-compare_structs l = l.files.now.depth * weight l.files.now.first.now (option_copied l.files.now.other) + 1

abbrev pub invariant-compare_members-loop-i : goal.invariant-compare_members-loop-i
invariant-compare_members-loop-i l = record {
  lengths : length l.ours ≡ length l.theirs;
  rest : members_alike (compatible_by (rule_within l.files.depth l.files.first.now (option_copied l.files.other))) (drop l.i l.ours) (drop l.i l.theirs)
      ≡ members_alike (compatible_by (rule_within l.files.depth l.files.first.now (option_copied l.files.other))) l.ours l.theirs;
}

abbrev pub invariant-compare_protos-loop-i : goal.invariant-compare_protos-loop-i
invariant-compare_protos-loop-i l = record {
  lengths : length l.ours ≡ length l.theirs;
  rest : params_alike (rule_within l.files.depth l.files.first.now (option_copied l.files.other)) l.behind (drop l.i l.ours) (drop l.i l.theirs)
      ≡ params_alike (rule_within l.files.depth l.files.first.now (option_copied l.files.other)) l.behind l.ours l.theirs;
}
