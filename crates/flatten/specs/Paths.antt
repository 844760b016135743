-- When each use of a value has a definition before it on every path.
use Rattle.std.specs.Prelude.{◌≡◌, ℕ, ◌<◌, ◌⊎◌, List, [], ◌∷◌, ◌++◌, Some, slice_get, Contains, Any}
use Rattle.flatten.specs.declared.blocks.BlockInsn.{BlockInsn}
use Rattle.flatten.specs.declared.blocks.BlockInsn.TheVariants as I
use Rattle.flatten.specs.declared.blocks.BlockEnd.{BlockEnd}
use Rattle.flatten.specs.declared.blocks.BlockEnd.TheVariants as E
use Rattle.flatten.specs.declared.blocks.Block.{Block}
use Rattle.flatten.specs.declared.blocks.BlockProc.{BlockProc}

-- the values that an instruction sets
abbrev pub sets : BlockInsn → List ℕ
sets (I.Number x n) = x ∷ []
sets (I.Copy x y) = x ∷ []
sets (I.Binary o x y z) = x ∷ []
sets (I.Load x w s y) = x ∷ []
sets (I.Store w y z) = []
sets (I.ProcAddress x p) = x ∷ []
sets (I.ImageAddress x n) = x ∷ []
sets (I.Call xs p ys) = xs
sets (I.CallAt xs y ys) = xs
sets (I.Take x) = x ∷ []
sets (I.Give y) = []

-- and those that it uses
abbrev pub uses_of : BlockInsn → List ℕ
uses_of (I.Number x n) = []
uses_of (I.Copy x y) = y ∷ []
uses_of (I.Binary o x y z) = y ∷ z ∷ []
uses_of (I.Load x w s y) = y ∷ []
uses_of (I.Store w y z) = y ∷ z ∷ []
uses_of (I.ProcAddress x p) = []
uses_of (I.ImageAddress x n) = []
uses_of (I.Call xs p ys) = ys
uses_of (I.CallAt xs y ys) = y ∷ ys
uses_of (I.Take x) = []
uses_of (I.Give y) = y ∷ []

abbrev pub end_uses : BlockEnd → List ℕ
end_uses (E.Jump b) = []
end_uses (E.Branch y a b) = y ∷ []
end_uses (E.Return ys) = ys
end_uses (E.Stop y) = y ∷ []
end_uses (E.Limit l) = []

-- the blocks to which an end may go
abbrev pub goes_to : BlockEnd → List ℕ
goes_to (E.Jump b) = b ∷ []
goes_to (E.Branch y a b) = a ∷ b ∷ []
goes_to (E.Return ys) = []
goes_to (E.Stop y) = []
goes_to (E.Limit l) = []

-- a path from the start of a procedure to the start of a block: the blocks that are run on it, the last one first
pub data Path (q : BlockProc) : List Block → ℕ → Type 0 where
  Start : Path q [] 0
  On : (run : List Block) (b : ℕ) (k : Block) (next : ℕ) → Path q run b → slice_get q.blocks b ≡ Some k → Contains (goes_to k.end) next → Path q (k ∷ run) next

-- one of the instructions sets the value
abbrev pub SetIn : ℕ → List BlockInsn → Type 0
SetIn x is = Any (λ i. Contains (sets i) x) is

-- the value is a parameter, or it is set in one of the blocks that are run, or by one of the instructions that are run of the block behind them
abbrev pub IsSet : BlockProc → List Block → List BlockInsn → ℕ → Type 0
IsSet q run done x = (x < q.params) ⊎ (Any (λ k. SetIn x k.insns) run ⊎ SetIn x done)

-- on every path each value that an instruction or an end uses is set before
pub record UsesAreSet (q : BlockProc) : Type 0 where
  pub insns : (run : List Block) (b : ℕ) (k : Block) → Path q run b → slice_get q.blocks b ≡ Some k
      → (done : List BlockInsn) (i : BlockInsn) (rest : List BlockInsn) → k.insns ≡ done ++ i ∷ rest
      → (x : ℕ) → Contains (uses_of i) x → IsSet q run done x
  pub ends : (run : List Block) (b : ℕ) (k : Block) → Path q run b → slice_get q.blocks b ≡ Some k
      → (x : ℕ) → Contains (end_uses k.end) x → IsSet q run k.insns x

abbrev pub AllUsesAreSet : List BlockProc → Type 0
AllUsesAreSet [] = Unit {0}
AllUsesAreSet (q ∷ qs) = UsesAreSet q × AllUsesAreSet qs
