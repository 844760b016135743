use Rattle.std.proofs.Common.{◌≡◌, ◌+◌, [], ap, ◌∙◌}
use Rattle.flat_ir.specs.View.{proc_of, stmts_of}
use Rattle.flatten.specs.declared.blocks.BlockEnd.TheVariants as E
use Rattle.flatten.specs.Code.{only}
use Rattle.flatten.specs.Emission.{emitted, measured}
use Rattle.flatten.proofs.Emitted.{measure, emission, body_spare, body_blocks}
use Rattle.flatten.proofs.program.flatten_proc.Goals as goal

pub returns : goal.returns
returns c =
    let f = proc_of c.args.f.now in
    let m = c.measure_stmts.new.m in
    let out = c.emit_stmts.new.out in
    let at = c.in_ok-at.at in
    let is_measured : m ≡ measured f.body (measure 0 0 []) = c.in_ok-measure_stmts.ensures ∙ (λ i. measured (stmts_of (c.as_slice.ensures i)) (measure 0 0 (c.new.ensures i))) in
    let is_emitted : out ≡ emitted f.body (emission f.values [] [] (only (E.Return [])) at m.turns) =
    c.in_ok-emit_stmts.ensures
    ∙ ap (λ b. emitted (stmts_of b) c.new-out.result) c.as_slice-2.ensures
    ∙ ap (emitted f.body) (c.new-out.ensures ∙ ap (λ ys. emission f.values [] [] (only (E.Return ys)) at m.turns) (c.from_vec.ensures ∙ c.new-2.ensures.items)) in
    let blocks = body_blocks f m at out c.in_ok-into_blocks.field-0 is_measured c.in_ok-at.ensures is_emitted c.in_ok-into_blocks.ensures in
    let values = c.in_ok-add.ensures ∙ ap (λ n. f.values + n) (body_spare f m is_measured) in
    λ i. record { params = f.params; blocks = blocks i; values = values i; frame = f.charge }
