use Rattle.std.proofs.Common.{ℕ, List, length, sym, subst}
use Rattle.behaviour.specs.Follows.{Follows}
use Rattle.flat_ir.specs.Flat.{flat}
use Rattle.flat_ir.specs.Placement.{Placement}
use Rattle.flat_ir.specs.View.{procs_of}
use Rattle.flatten.specs.declared.blocks.BlockProgram.{BlockProgram}
use Rattle.flatten.specs.Blocks.{blocks}
use Rattle.flatten.specs.Forward.{OnlyLoopsGoBackIn}
use Rattle.flatten.specs.Named.{ProcsNamed}
use Rattle.flatten.specs.Paths.{AllUsesAreSet}
use Rattle.flatten.specs.Sizes.{sizes_of, ProcsWithin}
use Rattle.flatten.proofs.Bounds.{procs_within}
use Rattle.flatten.proofs.Correct.{blocks_follow}
use Rattle.flatten.proofs.Forward.{blocks_forward}
use Rattle.flatten.proofs.Named.{blocks_named}
use Rattle.flatten.proofs.SetFirst.{all_uses_are_set}
use Rattle.flatten.proofs.program.flatten.Goals as goal

pub returns-clause-follows : goal.returns-clause-follows
returns-clause-follows c =
    let p = c.args.p.now in
    subst (λ (q : BlockProgram). (g : Placement) (input : List ℕ) → Follows (sizes_of (procs_of p.procs)) (blocks q g input) (flat p g input)) (sym c.in_ok-q.ensures) (λ g input. blocks_follow p c.requires g input)

pub returns-clause-named : goal.returns-clause-named
returns-clause-named c =
    let p = c.args.p.now in
    subst (λ (q : BlockProgram). ProcsNamed (length p.procs) (length p.image) q.procs) (sym c.in_ok-q.ensures) (blocks_named p c.requires)

pub returns-clause-forward : goal.returns-clause-forward
returns-clause-forward c =
    let p = c.args.p.now in
    subst (λ (q : BlockProgram). OnlyLoopsGoBackIn (procs_of p.procs) q.procs) (sym c.in_ok-q.ensures) (blocks_forward p c.requires)

pub returns-clause-set_first : goal.returns-clause-set_first
returns-clause-set_first c = subst (λ (q : BlockProgram). AllUsesAreSet q.procs) (sym c.in_ok-q.ensures) (all_uses_are_set c.args.p.now c.requires)

pub returns-clause-within : goal.returns-clause-within
returns-clause-within c =
    let p = c.args.p.now in
    subst (λ (q : BlockProgram). ProcsWithin (procs_of p.procs) q.procs) (sym c.in_ok-q.ensures) (procs_within (procs_of p.procs))
