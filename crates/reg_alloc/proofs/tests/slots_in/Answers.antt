use Rattle.std.proofs.Common.{subst, sym, List}
use Rattle.std.specs.Prelude.{All}
use Rattle.flatten.specs.declared.blocks.BlockProc.{BlockProc}
use Rattle.flatten.specs.Paths.{UsesAreSet}
use Rattle.block_homes.specs.Valid.{IsNamed}
use Rattle.block_homes.proofs.Naming.{all_named, all_set}
use Rattle.reg_alloc.proofs.tests.slots_in.Goals as goal

pub slots_of-requires-clause-named : goal.slots_of-requires-clause-named
slots_of-requires-clause-named c = subst (λ (l : List BlockProc). All IsNamed l) (sym c.as_slice.ensures) (all_named _ _ c.in_ok-q.q.procs c.in_ok-q.ensures.named)

pub slots_of-requires-clause-set_first : goal.slots_of-requires-clause-set_first
slots_of-requires-clause-set_first c = subst (λ (l : List BlockProc). All UsesAreSet l) (sym c.as_slice.ensures) (all_set c.in_ok-q.q.procs c.in_ok-q.ensures.set_first)
