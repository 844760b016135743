use Rattle.std.proofs.Common.{rules, ◌≡◌, true, FitsSigned, to_z, of_z, w64, sym, ◌∙◌}
use Rattle.std.proofs.lemmas.Int.{to_z-of_z}
use Rattle.array_view.specs.Subscripts.{are_designated}
use Rattle.array_view.proofs.Rows.{section_is, nothing_is, none_chosen, directed}
use Rattle.array_view.proofs.offsets.section.Goals as goal

pub wrapped_offsets-requires-clause-directed : goal.wrapped_offsets-requires-clause-directed
wrapped_offsets-requires-clause-directed c = directed c.args.v.now.dims c.args.subs.now c.requires (sym (rw c.as_slice-dims.ensures at c.if-not-are_designated.ensures))

pub returns-then-has_empty : goal.returns-then-has_empty
returns-then-has_empty c =
    let d : are_designated c.args.v.now.dims c.args.subs.now ≡ true = sym (rw c.as_slice-dims.ensures at c.if-not-are_designated.ensures) in
    nothing_is c.args.v.now c.args.subs.now c.new.result d (none_chosen c.args.subs.now (sym c.has_empty.ensures ∙ c.if-has_empty.true)) (search rules)

pub returns : goal.returns
returns c =
    let d : are_designated c.args.v.now.dims c.args.subs.now ≡ true = sym (rw c.as_slice-dims.ensures at c.if-not-are_designated.ensures) in
    let f : FitsSigned w64 c.args.v.now.base = search rules in
    section_is c.args.v.now c.args.subs.now (to_z w64 (of_z w64 c.args.v.now.base)) c.as_slice-dims.result.now c.in_ok-offsets.offsets d (to_z-of_z w64 c.args.v.now.base f) c.as_slice-dims.ensures c.in_ok-offsets.ensures
