use Rattle.std.proofs.Common.{sym, subst, ℕ, List}
use Rattle.block_homes.specs.declared.homes.Home.{Home}
use Rattle.block_homes.specs.Held.{places_of}
use Rattle.block_homes.specs.Valid.{Kept}
use Rattle.reg_alloc.specs.declared.ranges.Range.{Range}
use Rattle.reg_alloc.specs.Scan.{Scanned, Chosen, codes}
use Rattle.reg_alloc.specs.declared.scan.Choice.{Choice}
use Rattle.reg_alloc.proofs.Assigning.{chosen_kept}
use Rattle.reg_alloc.proofs.scan.homes_by_scan.Goals as goal

pub returns-clause-valid : goal.returns-clause-valid
returns-clause-valid c b i =
    let r = subst (λ (l : List Range). Scanned c.args.p.now l (codes c.in_ok-choices.choices.items)) c.as_slice.ensures.value c.in_ok-choices.ensures.scan in
    let h = subst (λ (l : List Choice). Chosen (codes l) c.in_ok-homes.homes.items) c.as_slice-2.ensures.value c.in_ok-homes.ensures in
    let k = chosen_kept c.args.p.now c.requires.named c.in_ok-ranges.ranges.items c.in_ok-ranges.ensures (codes c.in_ok-choices.choices.items) r.0 c.args.count r.1 c.requires.count c.requires.size r.2 r.3 c.in_ok-homes.homes.items h c.requires.set_first b i in
    subst (λ (l : List Home). Kept (places_of l) c.args.p.now b i) (sym c.from_vec.ensures) k
