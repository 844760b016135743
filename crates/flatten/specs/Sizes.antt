-- How long code is.
use Rattle.std.specs.Prelude.{ℕ, ◌+◌, ◌*◌, ◌≤◌, List, [], ◌∷◌, length}
use Rattle.flat_ir.specs.Tree.{Expr, Num, Val, Bin, Load, ProcAt, ImageAt, Stmt, Skip, Seq, Set, Store, Call, CallAt, If, Loop, Break, Return, Take, Give, Stop, Limit, Procedure}
use Rattle.flatten.specs.declared.blocks.Block.{Block}
use Rattle.flatten.specs.declared.blocks.BlockProc.{BlockProc}

-- the nodes of an expression, and of a list of them
abbrev pub size_of_expr : Expr → ℕ
size_of_expr (Num n) = 1
size_of_expr (Val x) = 1
size_of_expr (Bin o a b) = 1 + size_of_expr a + size_of_expr b
size_of_expr (Load w s a) = 1 + size_of_expr a
size_of_expr (ProcAt p) = 1
size_of_expr (ImageAt n) = 1

abbrev pub size_of_exprs : List Expr → ℕ
size_of_exprs [] = 0
size_of_exprs (e ∷ es) = size_of_expr e + size_of_exprs es

-- the size of a statement: at most three for the statement itself, and its parts
abbrev pub size_of : Stmt → ℕ
size_of Skip = 1
size_of (Seq a b) = size_of a + size_of b
size_of (Set x e) = size_of_expr e
size_of (Store w a e) = 1 + size_of_expr a + size_of_expr e
size_of (Call xs p es) = 1 + size_of_exprs es
size_of (CallAt xs a es) = 1 + size_of_expr a + size_of_exprs es
size_of (If e a b) = 2 + size_of_expr e + size_of a + size_of b
size_of (Loop s) = 3 + size_of s
size_of (Break k) = 1
size_of (Return es) = 1 + size_of_exprs es
size_of (Take x) = 1
size_of (Give e) = 1 + size_of_expr e
size_of (Stop e) = 1 + size_of_expr e
size_of (Limit l) = 1

-- all procedures, with four more
abbrev pub sizes_of : List Procedure → ℕ
sizes_of [] = 4
sizes_of (f ∷ fs) = size_of f.body + sizes_of fs

-- so many instructions have blocks, where an end counts as one
abbrev pub lines_of : List Block → ℕ
lines_of [] = 0
lines_of (b ∷ bs) = length b.insns + 1 + lines_of bs

-- what the blocks of a procedure take, by the procedure's size: as many values as it has, and one for each part of its body at most; and at most twice as many instructions as its body has parts.
-- No procedure runs an instruction twice between two ends of its loops, since nothing else goes back; so this bounds its work there too
pub record ProcWithin (f : Procedure) (q : BlockProc) : Type 0 where
  pub values : q.values ≤ f.values + size_of f.body
  pub lines : lines_of q.blocks ≤ 2 * size_of f.body + 1

abbrev pub ProcsWithin : List Procedure → List BlockProc → Type 0
ProcsWithin [] [] = Unit {0}
ProcsWithin [] (q ∷ qs) = ⊥
ProcsWithin (f ∷ fs) [] = ⊥
ProcsWithin (f ∷ fs) (q ∷ qs) = ProcWithin f q × ProcsWithin fs qs
