use Rattle.std.proofs.Common.{false, refl, ap, sym, ◌∙◌, arith}
use Rattle.std.specs.Option.{option_copied}
use Rattle.c_types.specs.declared.ctype.CType.{CType}
use Rattle.c_types.specs.declared.ctype.Member.{Member}
use Rattle.c_types.specs.Compatible.{adjusted, alike, compatible_by, rule_within, settled}
use Rattle.c_types.proofs.Pairs.{pairs-lengths, pairs-differ, pairs-go_on, pairs-end}
use Rattle.c_types.proofs.Settling.{protos_alike, same_at, structs-held}
use Rattle.c_types.proofs.Weights.{most-member, falls-held}
use Rattle.c_types.proofs.compatibility.+compare.Goals as goal

pub compare_members-returns-then-ours-theirs : goal.compare_members-returns-then-ours-theirs
compare_members-returns-then-ours-theirs t c =
    pairs-lengths (λ (m n : Member). compatible_by (rule_within c.args.files.now.depth c.args.files.now.first.now (option_copied c.args.files.now.other)) m.kind n.kind) c.args.ours.now c.args.theirs.now c.if-ours-theirs.true

pub compare_members-loop-i-init : goal.compare_members-loop-i-init
compare_members-loop-i-init t c = record { lengths = c.if-ours-theirs.false; rest = refl }

pub compare_members-returns-then-not-compare : goal.compare_members-returns-then-not-compare
compare_members-returns-then-not-compare t c =
    let at = c.loop-i in
    pairs-differ (λ (m n : Member). compatible_by (rule_within c.args.files.now.depth c.args.files.now.first.now (option_copied c.args.files.now.other)) m.kind n.kind)
    c.args.ours.now c.args.theirs.now at.i c.index-ours-i.result c.index-theirs-i.result c.loop-i-test.true at.invariant.lengths c.index-ours-i.is c.index-theirs-i.is at.invariant.rest (same_at (rule_within c.args.files.now.depth c.args.files.now.first.now (option_copied c.args.files.now.other)) _ _ _ _ _ _ c.index-ours-i.is c.index-theirs-i.is c.compare.ensures c.if-not-compare.true)

pub compare_members-loop-i-preserved : goal.compare_members-loop-i-preserved
compare_members-loop-i-preserved t c =
    let at = c.loop-i in
    record {
      lengths = at.invariant.lengths;
      rest = pairs-go_on (λ (m n : Member). compatible_by (rule_within c.args.files.now.depth c.args.files.now.first.now (option_copied c.args.files.now.other)) m.kind n.kind)
          c.args.ours.now c.args.theirs.now at.i c.index-ours-i.result c.index-theirs-i.result c.loop-i-test.true at.invariant.lengths c.index-ours-i.is c.index-theirs-i.is at.invariant.rest (same_at (rule_within c.args.files.now.depth c.args.files.now.first.now (option_copied c.args.files.now.other)) _ _ _ _ _ _ c.index-ours-i.is c.index-theirs-i.is c.compare.ensures c.if-not-compare.false);
    }

pub compare_members-returns : goal.compare_members-returns
compare_members-returns t c =
    let at = c.loop-i in
    sym (pairs-end (λ (m n : Member). compatible_by (rule_within c.args.files.now.depth c.args.files.now.first.now (option_copied c.args.files.now.other)) m.kind n.kind)
    c.args.ours.now c.args.theirs.now at.i c.loop-i-test.false at.invariant.lengths) ∙ at.invariant.rest

pub compare_structs-returns-in-Some-Some : goal.compare_structs-returns-in-Some-Some
compare_structs-returns-in-Some-Some t c =
    let held = structs-held c.args.files.now.depth c.args.files.now.first.now c.in-Some.second.now c.args.s c.args.t c.in-Some-Some.ours.now c.in-Some-Some.theirs.now c.if-files-eq0.false (sym c.in-Some-Some.ensures.found) (sym c.in-Some-Some.ensures'.found) in
    rw (c.compare_members.ensures, c.in-Some.is, c.as_slice.ensures, c.as_slice-in-Some-Some.ensures, c.if-behind.false) held

pub compare_structs-compare_members-requires : goal.compare_structs-compare_members-requires
compare_structs-compare_members-requires t c =
    let falls = falls-held c.args.files.now.depth c.args.files.now.first.now c.in-Some.second.now (option_copied c.args.files.now.other) c.args.s c.args.t c.in-Some-Some.ours.now c.in-Some-Some.theirs.now c.as_slice.result.now c.as_slice-in-Some-Some.result.now
    c.if-files-eq0.false (ap option_copied c.in-Some.is) (sym c.in-Some-Some.ensures.found) (sym c.in-Some-Some.ensures'.found) c.as_slice.ensures c.as_slice-in-Some-Some.ensures in
    (omega (arith, c.decreases, falls), tt)

pub compare_members-compare-requires : goal.compare_members-compare-requires
compare_members-compare-requires t c =
    let ours = most-member c.args.ours.now c.loop-i.i c.index-ours-i.result c.loop-i-test.true in
    let theirs = most-member c.args.theirs.now c.loop-i.i c.index-theirs-i.result (omega (arith, c.loop-i.invariant.lengths, c.loop-i-test.true)) in
    (omega (arith, c.decreases), tt)

pub compare_protos-returns-then-not-compare_parameters : goal.compare_protos-returns-then-not-compare_parameters
compare_protos-returns-then-not-compare_parameters t c =
    let at = c.loop-i in
    let rule = rule_within c.args.files.now.depth c.args.files.now.first.now (option_copied c.args.files.now.other) in
    let differ = pairs-differ (λ (x y : CType). alike rule (adjusted (settled x false)) c.args.behind (adjusted (settled y false))) c.as_slice-ours.result.now c.as_slice-theirs.result.now at.i c.index-ours-i.result c.index-theirs-i.result c.loop-i-test.true at.invariant.lengths c.index-ours-i.is c.index-theirs-i.is at.invariant.rest
    (sym c.compare_parameters.ensures ∙ c.if-not-compare_parameters.true) in
    let alike_results = sym c.compare.ensures ∙ c.if-not-compare.false in
    rw (protos_alike rule c.args.f.now c.args.g.now c.args.behind, alike_results, ← c.as_slice-ours.ensures, ← c.as_slice-theirs.ensures) differ

pub compare_protos-returns : goal.compare_protos-returns
compare_protos-returns t c =
    let at = c.loop-i in
    let rule = rule_within c.args.files.now.depth c.args.files.now.first.now (option_copied c.args.files.now.other) in
    let all = sym (pairs-end (λ (x y : CType). alike rule (adjusted (settled x false)) c.args.behind (adjusted (settled y false))) c.as_slice-ours.result.now c.as_slice-theirs.result.now at.i c.loop-i-test.false at.invariant.lengths) ∙ at.invariant.rest in
    let alike_results = sym c.compare.ensures ∙ c.if-not-compare.false in
    rw (protos_alike rule c.args.f.now c.args.g.now c.args.behind, alike_results, ← c.as_slice-ours.ensures, ← c.as_slice-theirs.ensures) all
