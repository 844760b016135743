-- The blocks of a program.
use Rattle.std.specs.Prelude.{ℕ, zero, suc, ◌+◌, max, List, [], ◌∷◌, ◌++◌, map}
use Rattle.flat_ir.specs.Tree.{Expr, Num, Val, Bin, Load, ProcAt, ImageAt, Stmt, Skip, Seq, Set, Store, Call, CallAt, If, Loop, Break, Return, Take, Give, Stop, Limit, Procedure}
use Rattle.flat_ir.specs.View.{procs_of}
use Rattle.flat_ir.specs.declared.program.FlatProgram.{FlatProgram}
use Rattle.flatten.specs.declared.blocks.BlockInsn.{BlockInsn}
use Rattle.flatten.specs.declared.blocks.BlockInsn.TheVariants as I
use Rattle.flatten.specs.declared.blocks.BlockEnd.{BlockEnd}
use Rattle.flatten.specs.declared.blocks.BlockEnd.TheVariants as E
use Rattle.flatten.specs.declared.blocks.Block.{Block}
use Rattle.flatten.specs.declared.blocks.BlockProc.{BlockProc}
use Rattle.flatten.specs.declared.blocks.BlockProgram.{BlockProgram}

abbrev pub only : BlockEnd → Block
only e = record { insns = []; end = e }

-- one more instruction in front
abbrev pub before : BlockInsn → Block → Block
before i b = record { insns = i ∷ b.insns; end = b.end }

-- where an operand is: a value of the procedure stands for itself, and anything else is computed into a spare one
abbrev pub place : Expr → ℕ → ℕ
place (Val x) t = x
place (Num n) t = t
place (Bin o a b) t = t
place (Load w s a) t = t
place (ProcAt p) t = t
place (ImageAt n) t = t

-- an operand's code in front, where it needs any
abbrev pub front : Expr → (Block → Block) → Block → Block
front (Val x) code k = k
front (Num n) code k = code k
front (Bin o a b) code k = code k
front (Load w s a) code k = code k
front (ProcAt p) code k = code k
front (ImageAt n) code k = code k

-- the code that sets x, in front of k; the values from t on are spare
abbrev pub expr_code : Expr → ℕ → ℕ → Block → Block
expr_code (Num n) x t k = before (I.Number x n) k
expr_code (Val y) x t k = before (I.Copy x y) k
expr_code (Bin o a b) x t k =
    front a (expr_code a t t) (front b (expr_code b (t + 1) (t + 1)) (before (I.Binary o x (place a t) (place b (t + 1))) k))
expr_code (Load w s a) x t k = front a (expr_code a t t) (before (I.Load x w s (place a t)) k)
expr_code (ProcAt p) x t k = before (I.ProcAddress x p) k
expr_code (ImageAt n) x t k = before (I.ImageAddress x n) k

abbrev pub operand : Expr → ℕ → Block → Block
operand e t k = front e (expr_code e t t) k

-- operands one after the other, each with a spare value
abbrev pub operands : List Expr → ℕ → Block → Block
operands [] t k = k
operands (e ∷ es) t k = operand e t (operands es (t + 1) k)

abbrev pub places_of : List Expr → ℕ → List ℕ
places_of [] t = []
places_of (e ∷ es) t = place e t ∷ places_of es (t + 1)

-- so many blocks has a statement, besides the one that it begins with
abbrev pub count : Stmt → ℕ
count Skip = 0
count (Seq a b) = count a + count b
count (Set x e) = 0
count (Store w a e) = 0
count (Call xs p es) = 0
count (CallAt xs a es) = 0
count (If e a b) = count a + count b + 3
count (Loop s) = count s + 2
count (Break k) = 0
count (Return es) = 0
count (Take x) = 0
count (Give e) = 0
count (Stop e) = 0
count (Limit l) = 0

-- the block that a statement begins with, and the others
pub record Code : Type 0 where
  pub first : Block
  pub others : List Block

-- the block behind the loop of a number
abbrev pub behind : List ℕ → ℕ → ℕ
behind [] k = 0
behind (b ∷ bs) zero = b
behind (b ∷ bs) (suc k) = behind bs k

-- a statement's code in front of k: its other blocks are numbered from `at` on, a break goes to the block `behind` its loop, and the values from t on are spare
unfoldable pub code : Stmt → ℕ → ℕ → List ℕ → Block → Code
code Skip t at exits k = record { first = k; others = [] }
code (Seq a b) t at exits k =
    record { first = (code a t at exits (code b t (at + count a) exits k).first).first; others = (code a t at exits (code b t (at + count a) exits k).first).others ++ (code b t (at + count a) exits k).others }
code (Set x e) t at exits k = record { first = expr_code e x t k; others = [] }
code (Store w a e) t at exits k = record { first = operand a t (operand e (t + 1) (before (I.Store w (place a t) (place e (t + 1))) k)); others = [] }
code (Call xs p es) t at exits k = record { first = operands es t (before (I.Call xs p (places_of es t)) k); others = [] }
code (CallAt xs a es) t at exits k =
    record { first = operand a t (operands es (t + 1) (before (I.CallAt xs (place a t) (places_of es (t + 1))) k)); others = [] }
-- the first side's blocks, the second's, and what follows
code (If e a b) t at exits k =
    record {
      first = operand e t (only (E.Branch (place e t) at (at + 1 + count a)));
      others =
          ((code a t (at + 1) exits (only (E.Jump (at + 1 + count a + 1 + count b)))).first ∷ (code a t (at + 1) exits (only (E.Jump (at + 1 + count a + 1 + count b)))).others)
          ++ (((code b t (at + 1 + count a + 1) exits (only (E.Jump (at + 1 + count a + 1 + count b)))).first ∷ (code b t (at + 1 + count a + 1) exits (only (E.Jump (at + 1 + count a + 1 + count b)))).others)
          ++ k ∷ []);
    }
-- a turn's blocks, and what follows
code (Loop s) t at exits k =
    record {
      first = only (E.Jump at);
      others =
          ((code s t (at + 1) ((at + 1 + count s) ∷ exits) (only (E.Jump at))).first ∷ (code s t (at + 1) ((at + 1 + count s) ∷ exits) (only (E.Jump at))).others)
          ++ k ∷ [];
    }
code (Break j) t at exits k = record { first = only (E.Jump (behind exits j)); others = [] }
code (Return es) t at exits k = record { first = operands es t (only (E.Return (places_of es t))); others = [] }
code (Take x) t at exits k = record { first = before (I.Take x) k; others = [] }
code (Give e) t at exits k = record { first = operand e t (before (I.Give (place e t)) k); others = [] }
code (Stop e) t at exits k = record { first = operand e t (only (E.Stop (place e t))); others = [] }
code (Limit l) t at exits k = record { first = only (E.Limit l); others = [] }

-- so many spare values does an expression need beside the one that it sets
abbrev pub spare : Expr → ℕ
spare (Num n) = 0
spare (Val x) = 0
spare (Bin o a b) = max (1 + spare a) (2 + spare b)
spare (Load w s a) = 1 + spare a
spare (ProcAt p) = 0
spare (ImageAt n) = 0

abbrev pub spares : List Expr → ℕ
spares [] = 0
spares (e ∷ es) = max (1 + spare e) (1 + spares es)

-- and a statement
abbrev pub spare_of : Stmt → ℕ
spare_of Skip = 0
spare_of (Seq a b) = max (spare_of a) (spare_of b)
spare_of (Set x e) = spare e
spare_of (Store w a e) = max (1 + spare a) (2 + spare e)
spare_of (Call xs p es) = spares es
spare_of (CallAt xs a es) = max (1 + spare a) (1 + spares es)
spare_of (If e a b) = max (1 + spare e) (max (spare_of a) (spare_of b))
spare_of (Loop s) = spare_of s
spare_of (Break k) = 0
spare_of (Return es) = spares es
spare_of (Take x) = 0
spare_of (Give e) = 1 + spare e
spare_of (Stop e) = 1 + spare e
spare_of (Limit l) = 0

-- the end of a body returns no result
abbrev pub body_code : Procedure → Code
body_code f = code f.body f.values 1 [] (only (E.Return []))

abbrev pub proc_code : Procedure → BlockProc
proc_code f = record { params = f.params; blocks = (body_code f).first ∷ (body_code f).others; values = f.values + spare_of f.body; frame = f.charge }

abbrev pub program_code : FlatProgram → BlockProgram
program_code p = record { procs = map proc_code (procs_of p.procs); image = p.image; fixes = p.fixes; entry = p.entry }
