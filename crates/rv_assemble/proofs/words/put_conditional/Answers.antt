use Rattle.std.proofs.Common.{ℕ, ◌-◌, subst, sym, ◌∙◌, ap}
use Rattle.rv_isa.specs.declared.insn.Insn.{Insn}
use Rattle.rv_isa.specs.Encode.{IsEncodable}
use Rattle.rv_assemble.specs.Lines.{distance, aimed}
use Rattle.rv_assemble.specs.Places.{FitsBranch}
use Rattle.rv_assemble.proofs.Aimed.{aimed-encodable, opposite-encodable, fits-near, fits-over}
use Rattle.rv_assemble.proofs.words.put_conditional.Goals as goal

pub put-requires : goal.put-requires
put-requires c =
    let place = c.len-place.result in
    let fits = subst (λ (n : ℕ). FitsBranch n c.args.next c.args.target) (sym c.len-place.ensures) c.requires.fits in
    let near = fits-near place c.args.next c.args.target fits c.if-next-place-eq4.true in
    subst (λ (i : Insn). IsEncodable i) (sym c.aim.ensures) (aimed-encodable c.args.insn (distance place c.args.target) c.requires.insn near.0 near.1)

pub put-requires-else-next-place-eq4 : goal.put-requires-else-next-place-eq4
put-requires-else-next-place-eq4 c =
    let place = c.len-place.result in
    let fits = subst (λ (n : ℕ). FitsBranch n c.args.next c.args.target) (sym c.len-place.ensures) c.requires.fits in
    let over = fits-over place c.args.next c.args.target fits c.if-next-place-eq4.false in
    let same = c.aim-else-next-place-eq4.ensures ∙ ap (λ (i : Insn). aimed i (c.args.next - place)) c.turned.ensures in
    subst (λ (i : Insn). IsEncodable i) (sym same) (opposite-encodable c.args.insn (c.args.next - place) c.requires.insn over.0 over.1)
