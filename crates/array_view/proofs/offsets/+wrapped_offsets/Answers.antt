use Rattle.std.proofs.Common.{rules, get_or, FitsSigned, to_z, of_z, w64, ap, ◌∙◌}
use Rattle.std.proofs.lemmas.Int.{to_z-of_z}
use Rattle.array_view.specs.Subscripts.{subscripts_of}
use Rattle.array_view.specs.Elements.{rows_in_64_bits}
use Rattle.array_view.proofs.Rows.{wrapped_at}
use Rattle.array_view.proofs.offsets.+wrapped_offsets.Goals as goal

pub returns : goal.returns
returns t c =
    let f : FitsSigned w64 c.args.base = search rules in
    wrapped_at (to_z w64 (of_z w64 c.args.base)) c.args.base c.args.dims.now c.args.subs.now _ c.sub-item.result c.in_ok-offsets.offsets.items c.in_ok-rows_at.field-0.items c.in-len1-up.len_at_least c.in-len1-up-subs.len_at_least c.sub-item.is (to_z-of_z w64 c.args.base f) c.in_ok-offsets.ensures (c.in_ok-rows_at.ensures ∙ ap (rows_in_64_bits (get_or c.args.dims.now 0 _) (subscripts_of c.sub-item.result)) c.as_slice.ensures.value)
