use Rattle.std.proofs.Common.{ℕ, List, ◌++◌, length, take, refl, sym, ap, ◌∙◌, arith}
use Rattle.std.proofs.lemmas.Option.{slice_get_read}
use Rattle.std.proofs.lemmas.List.{append_assoc}
use Rattle.linker.specs.Layout.{codes}
use Rattle.linker.proofs.Joined.{codes-more}
use Rattle.linker.proofs.laid.put_codes.Goals as goal

pub loop-u-preserved : goal.loop-u-preserved
loop-u-preserved c =
    let units = c.args.units.now in
    let k = c.loop-u.u-index in
    let u = c.u-item.result in
    let start = c.args.bytes.now.items in
    let g = slice_get_read units (length units) k u refl (omega arith) c.u-item.is in
    c.in_ok-extend_from_slice.ensures.items
    ∙ ap (λ (b : List ℕ). c.loop-u.bytes.items ++ b) c.as_slice.ensures
    ∙ ap (λ (b : List ℕ). b ++ u.code) c.loop-u.invariant
    ∙ append_assoc start (codes (take k units)) u.code
    ∙ ap (λ (b : List ℕ). start ++ b) (sym (codes-more k units u g))
