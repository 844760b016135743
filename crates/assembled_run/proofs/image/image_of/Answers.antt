use Rattle.std.proofs.Common.{◌≡◌, ℕ, List, refl, sym, subst}
use Rattle.rv_assemble.specs.declared.object.ObjUnit.{ObjUnit}
use Rattle.linker.specs.declared.fault.LinkFault.{LinkFault}
use Rattle.linker.specs.declared.fault.LinkFault.TheVariants.{Memory, Missing, Twice}
use Rattle.linker.specs.Told.{IsFault}
use Rattle.linker.specs.Linked.{IsFaulty}
use Rattle.assembled_run.specs.Program.{AreAssembled}
use Rattle.assembled_run.proofs.Linkable.{linkable}
use Rattle.assembled_run.proofs.Closed.{closed_link}
use Rattle.assembled_run.proofs.image.image_of.Goals as goal

pub link-requires : goal.link-requires
link-requires c =
    let units = c.args.units.now in
    let made = subst (λ (os : List ObjUnit). AreAssembled units os) (sym c.as_slice.ensures.value) c.in_ok-objects.ensures in
    linkable units c.as_slice.result.now made (c.requires.within c.as_slice.result.now made)

pub returns-in-Ok : goal.returns-in-Ok
returns-in-Ok c =
    let units = c.args.units.now in
    let os = c.as_slice.result.now in
    let made = subst (λ (xs : List ObjUnit). AreAssembled units xs) (sym c.as_slice.ensures.value) c.in_ok-objects.ensures in (
      os,
      record {
        assembled = made;
        linkable = linkable units os made (c.requires.within os made);
        linked = c.in-Ok.ensures.linked;
        sound = c.in-Ok.ensures.sound;
        small = c.in-Ok.ensures.small;
      },
    )

-- a fault that isn't want of memory tells a name that has no or two definitions
told_none : (os : List ObjUnit) (fault : LinkFault) → ((name : List ℕ) → IsFaulty os name → ⊥) → (fault ≡ Memory → ⊥) → IsFault os fault → ⊥
told_none os Memory sound other h = other refl
told_none os (Missing name) sound other h = sound name h.1.0
told_none os (Twice name) sound other h = sound name h.1.0

pub unreachable-requires : goal.unreachable-requires
unreachable-requires c =
    let units = c.args.units.now in
    let os = c.as_slice.result.now in
    let made = subst (λ (xs : List ObjUnit). AreAssembled units xs) (sym c.as_slice.ensures.value) c.in_ok-objects.ensures in
    told_none os c.in-Err.fault (closed_link units os made c.requires.closed) c.in_default.not-Memory c.in-Err.ensures.fault
