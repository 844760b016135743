-- The trees that statements, expressions and procedures are.
use Rattle.std.specs.Prelude.{List, [], ◌∷◌, map}
use Rattle.flat_ir.specs.declared.program.FlatExpr.{FlatExpr, end_of-FlatExpr, more_of-FlatExpr}
use Rattle.flat_ir.specs.declared.program.FlatExpr.TheVariants as E
use Rattle.flat_ir.specs.declared.program.FlatStmt.{FlatStmt, Row_of-FlatStmt, end_of-FlatStmt, more_of-FlatStmt}
use Rattle.flat_ir.specs.declared.program.FlatStmt.TheVariants as S
use Rattle.flat_ir.specs.declared.program.FlatProc.{FlatProc}
use Rattle.flat_ir.specs.Tree.{Expr, Num, Val, Bin, Load, ProcAt, ImageAt, Stmt, Skip, Seq, Set, Store, Call, CallAt, If, Loop, Break, Return, Take, Give, Stop, Limit, Procedure}

abbrev pub expr_of : FlatExpr → Expr
expr_of (E.Number n) = Num n
expr_of (E.Value x) = Val x
expr_of (E.Binary' o p (more_of-FlatExpr a end_of-FlatExpr) q (more_of-FlatExpr b end_of-FlatExpr)) = Bin o (expr_of a) (expr_of b)
expr_of (E.Load' w s p (more_of-FlatExpr a end_of-FlatExpr)) = Load w s (expr_of a)
expr_of (E.Procedure p) = ProcAt p
expr_of (E.Image n) = ImageAt n

abbrev pub exprs_of : List FlatExpr → List Expr
exprs_of es = map expr_of es

abbrev mutual
  pub stmt_of : FlatStmt → Stmt
  stmt_of (S.Set x e) = Set x (expr_of e)
  stmt_of (S.Load x w s a) = Set x (Load w s (expr_of a))
  stmt_of (S.Store w a e) = Store w (expr_of a) (expr_of e)
  stmt_of (S.Call xs p es) = Call xs p (exprs_of es)
  stmt_of (S.CallAt xs a es) = CallAt xs (expr_of a) (exprs_of es)
  stmt_of (S.If' e p a q b) = If (expr_of e) (row_of a) (row_of b)
  stmt_of (S.Loop' p a) = Loop (row_of a)
  stmt_of (S.Break k) = Break k
  stmt_of (S.Return es) = Return (exprs_of es)
  stmt_of (S.Take x) = Take x
  stmt_of (S.Give e) = Give (expr_of e)
  stmt_of (S.Stop e) = Stop (expr_of e)
  stmt_of (S.Limit l) = Limit l

  pub row_of : {m : _} → Row_of-FlatStmt m → Stmt
  row_of end_of-FlatStmt = Skip
  row_of (more_of-FlatStmt s rest) = Seq (stmt_of s) (row_of rest)

-- statements one after the other
abbrev pub stmts_of : List FlatStmt → Stmt
stmts_of [] = Skip
stmts_of (s ∷ ss) = Seq (stmt_of s) (stmts_of ss)

abbrev pub proc_of : FlatProc → Procedure
proc_of f = record { params = f.params; values = f.values; charge = f.charge; body = stmts_of f.body }

abbrev pub procs_of : List FlatProc → List Procedure
procs_of fs = map proc_of fs
