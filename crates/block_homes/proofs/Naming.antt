-- Procedures that name what is there.
use Rattle.std.proofs.Common.{◌≡◌, ℕ, zero, suc, ◌<◌, List, [], ◌∷◌, length, arith}
use Rattle.std.specs.Prelude.{All}
use Rattle.std.proofs.lemmas.List.Elements.{All-nil, All-cons}
use Rattle.flatten.specs.declared.blocks.BlockInsn.{BlockInsn}
use Rattle.flatten.specs.declared.blocks.BlockInsn.TheVariants as I
use Rattle.flatten.specs.declared.blocks.BlockEnd.{BlockEnd}
use Rattle.flatten.specs.declared.blocks.BlockEnd.TheVariants as E
use Rattle.flatten.specs.declared.blocks.Block.{Block}
use Rattle.flatten.specs.declared.blocks.BlockProc.{BlockProc}
use Rattle.flatten.specs.Paths.{end_uses, goes_to, UsesAreSet, AllUsesAreSet}
use Rattle.flatten.specs.Named.{Counts, AllBelow, InsnNamed, EndNamed, InsnsNamed, BlocksNamed, ProcNamed, ProcsNamed}
use Rattle.block_homes.specs.Valid.{InsnBelow, BlockBelow, IsNamed}

insn_below : (c : Counts) (i : BlockInsn) → InsnNamed c i → InsnBelow c.values i
insn_below c (I.Number x n) h = (tt, (h, tt))
insn_below c (I.Copy x y) h = ((h.1, tt), (h.0, tt))
insn_below c (I.Binary o x y z) h = ((h.1, (h.2, tt)), (h.0, tt))
insn_below c (I.Load x w s y) h = ((h.1, tt), (h.0, tt))
insn_below c (I.Store w y z) h = ((h.0, (h.1, tt)), tt)
insn_below c (I.ProcAddress x p) h = (tt, (h.0, tt))
insn_below c (I.ImageAddress x n) h = (tt, (h.0, tt))
insn_below c (I.Call xs p ys) h = (h.2, h.0)
insn_below c (I.CallAt xs y ys) h = ((h.1, h.2), h.0)
insn_below c (I.Take x) h = (tt, (h, tt))
insn_below c (I.Give y) h = ((h, tt), tt)

end_below : (c : Counts) (e : BlockEnd) → EndNamed c e → AllBelow c.values (end_uses e) × AllBelow c.blocks (goes_to e)
end_below c (E.Jump b) h = (tt, (h, tt))
end_below c (E.Branch y a b) h = ((h.0, tt), (h.1, (h.2, tt)))
end_below c (E.Return ys) h = (h, tt)
end_below c (E.Stop y) h = ((h, tt), tt)
end_below c (E.Limit l) h = (tt, tt)

insns_below : (c : Counts) (is : List BlockInsn) → InsnsNamed c is → All (InsnBelow c.values) is
insns_below c [] h = All-nil (InsnBelow c.values)
insns_below c (i ∷ is) h = All-cons (InsnBelow c.values) i is (insn_below c i h.0) (insns_below c is h.1)

blocks_below : (c : Counts) (ks : List Block) → BlocksNamed c ks → All (BlockBelow c.values c.blocks) ks
blocks_below c [] h = All-nil (BlockBelow c.values c.blocks)
blocks_below c (k ∷ ks) h = let e = end_below c k.end h.0.1 in All-cons (BlockBelow c.values c.blocks) k ks (insns_below c k.insns h.0.0, e.0, e.1) (blocks_below c ks h.1)

pub all_named : (n m : ℕ) (qs : List BlockProc) → ProcsNamed n m qs → All IsNamed qs
all_named n m [] h = All-nil IsNamed
all_named n m (q ∷ qs) h = All-cons IsNamed q qs (record { params = h.0.params; blocks = blocks_below (record { values = q.values; blocks = length q.blocks; procs = n; bytes = m }) q.blocks h.0.blocks }) (all_named n m qs h.1)

pub all_set : (qs : List BlockProc) → AllUsesAreSet qs → All UsesAreSet qs
all_set [] h = All-nil UsesAreSet
all_set (q ∷ qs) h = All-cons UsesAreSet q qs h.0 (all_set qs h.1)
