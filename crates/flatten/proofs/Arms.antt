-- A fact of a tree, at the arm of a match that found its variant.
use Rattle.std.proofs.Common.{◌≡◌, List, Bool, sym, ap, ◌∙◌, subst}
use Rattle.jf_base.specs.declared.numbers.Width.{Width}
use Rattle.flat_ir.specs.declared.program.Operation.{Operation}
use Rattle.flat_ir.specs.declared.program.FlatExpr.{FlatExpr}
use Rattle.flat_ir.specs.declared.program.FlatExpr.TheVariants as E
use Rattle.flat_ir.specs.declared.program.FlatStmt.{FlatStmt}
use Rattle.flat_ir.specs.declared.program.FlatStmt.TheVariants as S
use Rattle.flat_ir.specs.Tree.{Expr, Bin, Load, Stmt, If, Loop}
use Rattle.flat_ir.specs.View.{expr_of, stmt_of, stmts_of}
use Rattle.flat_ir.proofs.Rows.{binary_tree, load_tree, if_tree, loop_tree}

pub binary_arm : (P : Expr → Type 0) (e : FlatExpr) (o : Operation) (a b x y : FlatExpr) → e ≡ E.Binary o a b → x ≡ a → y ≡ b → P (Bin o (expr_of x) (expr_of y)) → P (expr_of e)
binary_arm P e o a b x y is ex ey h =
    subst P (ap (λ x. Bin o (expr_of x) (expr_of y)) ex ∙ ap (λ y. Bin o (expr_of a) (expr_of y)) ey ∙ sym (ap expr_of is ∙ binary_tree o a b)) h

pub load_arm : (P : Expr → Type 0) (e : FlatExpr) (w : Width) (s : Bool) (a x : FlatExpr) → e ≡ E.Load w s a → x ≡ a → P (Load w s (expr_of x)) → P (expr_of e)
load_arm P e w s a x is ex h = subst P (ap (λ x. Load w s (expr_of x)) ex ∙ sym (ap expr_of is ∙ load_tree w s a)) h

pub if_arm : (P : Stmt → Type 0) (s : FlatStmt) (e : FlatExpr) (a b x y : List FlatStmt) → s ≡ S.If e a b → x ≡ a → y ≡ b → P (If (expr_of e) (stmts_of x) (stmts_of y)) → P (stmt_of s)
if_arm P s e a b x y is ex ey h =
    subst P (ap (λ x. If (expr_of e) (stmts_of x) (stmts_of y)) ex ∙ ap (λ y. If (expr_of e) (stmts_of a) (stmts_of y)) ey ∙ sym (ap stmt_of is ∙ if_tree e a b)) h

pub loop_arm : (P : Stmt → Type 0) (s : FlatStmt) (a x : List FlatStmt) → s ≡ S.Loop a → x ≡ a → P (Loop (stmts_of x)) → P (stmt_of s)
loop_arm P s a x is ex h = subst P (ap (λ x. Loop (stmts_of x)) ex ∙ sym (ap stmt_of is ∙ loop_tree a)) h
