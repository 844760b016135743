use Rattle.std.proofs.Common.{List, ◌∷◌, ◌++◌, [], length, take, refl, sym, subst, arith}
use Rattle.std.proofs.lemmas.Option.{slice_get_read}
use Rattle.std.proofs.lemmas.List.{take_all}
use Rattle.rv_assemble.specs.declared.unit.AsmUnit.{AsmUnit}
use Rattle.rv_assemble.specs.declared.object.ObjUnit.{ObjUnit}
use Rattle.assembled_run.specs.Program.{AreAssembled}
use Rattle.assembled_run.proofs.Closed.{assembled_more, assembled_none, units_more}
use Rattle.assembled_run.proofs.image.objects_of.Goals as goal

pub loop-u-init : goal.loop-u-init
loop-u-init c = subst (λ (os : List ObjUnit). AreAssembled [] os) (sym c.new-objects.ensures.items) assembled_none

pub loop-u-preserved : goal.loop-u-preserved
loop-u-preserved c =
    let units = c.args.units.now in
    let k = c.loop-u.u-index in
    let u = c.u-item.result in
    let g = slice_get_read units (length units) k u refl (omega arith) c.u-item.is in
    let more = assembled_more (take k units) c.loop-u.objects.items u c.in_ok-object.object c.loop-u.invariant (c.requires k u g) c.in_ok-object.ensures.assembled in
    subst (λ (us : List AsmUnit). AreAssembled us c.add.new.objects.items) (sym (units_more units k u g))
    (subst (λ (os : List ObjUnit). AreAssembled (take k units ++ u ∷ []) os) (sym c.in_ok-add.ensures) more)

pub returns : goal.returns
returns c = subst (λ (us : List AsmUnit). AreAssembled us c.loop-u.objects.items) (take_all c.loop-u.u-index c.args.units.now c.loop-u-test.false) c.loop-u.invariant
