-- What falls as code is written.
use Rattle.std.proofs.Common.{ℕ, zero, suc, ◌+◌, ◌<◌, List, [], ◌∷◌, length, get_or, arith}
use Rattle.flat_ir.specs.declared.program.FlatStmt.{FlatStmt}
use Rattle.flat_ir.specs.Tree.{Stmt, Skip, Seq, Set, Store, Call, CallAt, If, Loop, Break, Return, Take, Give, Stop, Limit}
use Rattle.flat_ir.specs.View.{stmt_of, stmts_of}

abbrev pub weight : Stmt → ℕ
weight Skip = 0
weight (Seq a b) = weight a + weight b + 1
weight (Set x e) = 0
weight (Store w a e) = 0
weight (Call xs p es) = 0
weight (CallAt xs a es) = 0
weight (If e a b) = weight a + weight b + 2
weight (Loop s) = weight s + 2
weight (Break k) = 0
weight (Return es) = 0
weight (Take x) = 0
weight (Give e) = 0
weight (Stop e) = 0
weight (Limit l) = 0

-- each statement of a list is lighter
pub lighter : (ss : List FlatStmt) (i : ℕ) (s : FlatStmt) → i < length ss → weight (stmt_of (get_or ss i s)) < weight (stmts_of ss)
lighter [] i s h = absurd (omega arith)
lighter (a ∷ ss) zero s h = omega arith
lighter (a ∷ ss) (suc i) s h = let l = lighter ss i s (omega arith) in omega (arith, l)
