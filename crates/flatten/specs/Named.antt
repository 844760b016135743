-- When each value, block, procedure and byte of the image that blocks name is there.
use Rattle.std.specs.Prelude.{ℕ, ◌<◌, ◌≤◌, List, [], ◌∷◌, length}
use Rattle.flatten.specs.declared.blocks.BlockInsn.{BlockInsn}
use Rattle.flatten.specs.declared.blocks.BlockInsn.TheVariants as I
use Rattle.flatten.specs.declared.blocks.BlockEnd.{BlockEnd}
use Rattle.flatten.specs.declared.blocks.BlockEnd.TheVariants as E
use Rattle.flatten.specs.declared.blocks.Block.{Block}
use Rattle.flatten.specs.declared.blocks.BlockProc.{BlockProc}

-- how many values and blocks a procedure has, and how many procedures and bytes of the image there are
pub record Counts : Type 0 where
  pub values : ℕ
  pub blocks : ℕ
  pub procs : ℕ
  pub bytes : ℕ

abbrev pub AllBelow : ℕ → List ℕ → Type 0
AllBelow n [] = Unit {0}
AllBelow n (x ∷ xs) = (x < n) × AllBelow n xs

abbrev pub InsnNamed : Counts → BlockInsn → Type 0
InsnNamed c (I.Number x n) = x < c.values
InsnNamed c (I.Copy x y) = (x < c.values) × (y < c.values)
InsnNamed c (I.Binary o x y z) = (x < c.values) × (y < c.values) × (z < c.values)
InsnNamed c (I.Load x w s y) = (x < c.values) × (y < c.values)
InsnNamed c (I.Store w y z) = (y < c.values) × (z < c.values)
InsnNamed c (I.ProcAddress x p) = (x < c.values) × (p < c.procs)
InsnNamed c (I.ImageAddress x n) = (x < c.values) × (n ≤ c.bytes)
InsnNamed c (I.Call xs p ys) = AllBelow c.values xs × (p < c.procs) × AllBelow c.values ys
InsnNamed c (I.CallAt xs y ys) = AllBelow c.values xs × (y < c.values) × AllBelow c.values ys
InsnNamed c (I.Take x) = x < c.values
InsnNamed c (I.Give y) = y < c.values

abbrev pub EndNamed : Counts → BlockEnd → Type 0
EndNamed c (E.Jump b) = b < c.blocks
EndNamed c (E.Branch y a b) = (y < c.values) × (a < c.blocks) × (b < c.blocks)
EndNamed c (E.Return ys) = AllBelow c.values ys
EndNamed c (E.Stop y) = y < c.values
EndNamed c (E.Limit l) = Unit {0}

abbrev pub InsnsNamed : Counts → List BlockInsn → Type 0
InsnsNamed c [] = Unit {0}
InsnsNamed c (i ∷ is) = InsnNamed c i × InsnsNamed c is

abbrev pub BlockNamed : Counts → Block → Type 0
BlockNamed c b = InsnsNamed c b.insns × EndNamed c b.end

abbrev pub BlocksNamed : Counts → List Block → Type 0
BlocksNamed c [] = Unit {0}
BlocksNamed c (b ∷ bs) = BlockNamed c b × BlocksNamed c bs

-- a procedure begins with a block, has no more parameters than values, and names what is there
pub record ProcNamed (procs bytes : ℕ) (q : BlockProc) : Type 0 where
  pub some : 1 ≤ length q.blocks
  pub params : q.params ≤ q.values
  pub blocks : BlocksNamed (record { values = q.values; blocks = length q.blocks; procs = procs; bytes = bytes }) q.blocks

abbrev pub ProcsNamed : (procs bytes : ℕ) → List BlockProc → Type 0
ProcsNamed procs bytes [] = Unit {0}
ProcsNamed procs bytes (q ∷ qs) = ProcNamed procs bytes q × ProcsNamed procs bytes qs
