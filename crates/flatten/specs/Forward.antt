-- Where blocks go back.
use Rattle.std.specs.Prelude.{◌≡◌, ℕ, ◌+◌, ◌<◌, ◌⊎◌, List, [], ◌∷◌}
use Rattle.flat_ir.specs.Tree.{Stmt, Skip, Seq, Set, Store, Call, CallAt, If, Loop, Break, Return, Take, Give, Stop, Limit, Procedure}
use Rattle.flatten.specs.declared.blocks.BlockEnd.{BlockEnd}
use Rattle.flatten.specs.declared.blocks.BlockEnd.TheVariants as E
use Rattle.flatten.specs.declared.blocks.Block.{Block}
use Rattle.flatten.specs.declared.blocks.BlockProc.{BlockProc}
use Rattle.flatten.specs.Code.{count}

-- the block t begins the turns of a loop of the statement, whose other blocks are numbered from `at` on
abbrev pub Begins : Stmt → ℕ → ℕ → Type 0
Begins Skip at t = ⊥
Begins (Seq a b) at t = Begins a at t ⊎ Begins b (at + count a) t
Begins (Set x e) at t = ⊥
Begins (Store w a e) at t = ⊥
Begins (Call xs p es) at t = ⊥
Begins (CallAt xs a es) at t = ⊥
Begins (If e a b) at t = Begins a (at + 1) t ⊎ Begins b (at + 1 + count a + 1) t
Begins (Loop s) at t = (t ≡ at) ⊎ Begins s (at + 1) t
Begins (Break k) at t = ⊥
Begins (Return es) at t = ⊥
Begins (Take x) at t = ⊥
Begins (Give e) at t = ⊥
Begins (Stop e) at t = ⊥
Begins (Limit l) at t = ⊥

-- a block of number b goes to blocks of greater numbers, or by a jump to where a turn of a loop begins
abbrev pub EndForward : (ℕ → Type 0) → ℕ → BlockEnd → Type 0
EndForward Turn b (E.Jump t) = (b < t) ⊎ Turn t
EndForward Turn b (E.Branch y s t) = (b < s) × (b < t)
EndForward Turn b (E.Return ys) = Unit {0}
EndForward Turn b (E.Stop y) = Unit {0}
EndForward Turn b (E.Limit l) = Unit {0}

abbrev pub BlocksForward : (ℕ → Type 0) → ℕ → List Block → Type 0
BlocksForward Turn b [] = Unit {0}
BlocksForward Turn b (k ∷ ks) = EndForward Turn b k.end × BlocksForward Turn (b + 1) ks

-- in the blocks of a procedure only the ends of loops go back
abbrev pub OnlyLoopsGoBack : Procedure → BlockProc → Type 0
OnlyLoopsGoBack f q = BlocksForward (Begins f.body 1) 0 q.blocks

abbrev pub OnlyLoopsGoBackIn : List Procedure → List BlockProc → Type 0
OnlyLoopsGoBackIn [] [] = Unit {0}
OnlyLoopsGoBackIn [] (q ∷ qs) = ⊥
OnlyLoopsGoBackIn (f ∷ fs) [] = ⊥
OnlyLoopsGoBackIn (f ∷ fs) (q ∷ qs) = OnlyLoopsGoBack f q × OnlyLoopsGoBackIn fs qs
