-- The trees of statements and expressions, by their variants.
use mathlib.Core.Former.{Count}
use denote.Hole.Carrier.{hidden}
use Rattle.flat_ir.specs.declared.program.FlatExpr.TheBlock.{hidden-the_row-FlatExpr-0}
use Rattle.std.proofs.Common.{◌≡◌, ℕ, List, refl, ap, ◌∙◌, Bool}
use Rattle.jf_base.specs.declared.numbers.Width.{Width}
use Rattle.flat_ir.specs.declared.program.Operation.{Operation}
use Rattle.flat_ir.specs.declared.program.FlatExpr.{FlatExpr}
use Rattle.flat_ir.specs.declared.program.FlatExpr.TheVariants as E
use Rattle.flat_ir.specs.declared.program.FlatStmt.{FlatStmt, Row_of-FlatStmt, end_of-FlatStmt, more_of-FlatStmt, items-the_row-FlatStmt, items_hidden-the_row-FlatStmt-0}
use Rattle.flat_ir.specs.declared.program.FlatStmt.TheVariants as S
use Rattle.flat_ir.specs.Tree.{Bin, Load, Seq, If, Loop}
use Rattle.std.specs.Prelude.{◌&&◌, ◌||◌}
use Rattle.std.proofs.Common.{sym}
use Rattle.flat_ir.specs.Checked.{asks, uses, stmt_fits, expr_fits}
use Rattle.flat_ir.specs.View.{expr_of, stmt_of, row_of, stmts_of}

pub binary_tree : (o : Operation) (a b : FlatExpr) → expr_of (E.Binary o a b) ≡ Bin o (expr_of a) (expr_of b)
unfolding hidden-the_row-FlatExpr-0 hidden
binary_tree o a b = refl

pub load_tree : (w : Width) (s : Bool) (a : FlatExpr) → expr_of (E.Load w s a) ≡ Load w s (expr_of a)
unfolding hidden-the_row-FlatExpr-0 hidden
load_tree w s a = refl

row-items : {n : _} (k : Row_of-FlatStmt n) → row_of k ≡ stmts_of (items-the_row-FlatStmt n k)
row-items end_of-FlatStmt = refl
row-items (more_of-FlatStmt s rest) = ap (λ t. Seq (stmt_of s) t) (row-items rest)

abbrev rows_in : FlatStmt → (n : Count) × Row_of-FlatStmt n
rows_in (S.Loop' _ row) = (_, row)
rows_in (S.If' _ _ row _ _) = (_, row)
rows_in _ = (_, end_of-FlatStmt)

abbrev else_in : FlatStmt → (n : Count) × Row_of-FlatStmt n
else_in (S.If' _ _ _ _ row) = (_, row)
else_in _ = (_, end_of-FlatStmt)

pub loop_tree : (a : List FlatStmt) → stmt_of (S.Loop a) ≡ Loop (stmts_of a)
loop_tree a = ap Loop (row-items (rows_in (S.Loop a)).1 ∙ ap stmts_of (items_hidden-the_row-FlatStmt-0 a))

pub if_tree : (e : FlatExpr) (a b : List FlatStmt) → stmt_of (S.If e a b) ≡ If (expr_of e) (stmts_of a) (stmts_of b)
if_tree e a b =
    ap (λ t. If (expr_of e) t (row_of (else_in (S.If e a b)).1)) (row-items (rows_in (S.If e a b)).1 ∙ ap stmts_of (items_hidden-the_row-FlatStmt-0 a))
    ∙ ap (λ t. If (expr_of e) (stmts_of a) t) (row-items (else_in (S.If e a b)).1 ∙ ap stmts_of (items_hidden-the_row-FlatStmt-0 b))

pub asks_if : (x : ℕ) (s : FlatStmt) (e : FlatExpr) (a b ra rb : List FlatStmt) (after : Bool) (exits : List Bool) (first second r : Bool) → s ≡ S.If e a b → ra ≡ a → rb ≡ b → first ≡ asks x (stmts_of ra) after exits → second ≡ asks x (stmts_of rb) after exits
    → r ≡ (uses x (expr_of e) || (first || second)) → r ≡ asks x (stmt_of s) after exits
asks_if x s e a b ra rb after exits first second r es ea eb ef eg er =
    er
    ∙ ap (λ v. uses x (expr_of e) || (v || second)) (ef ∙ ap (λ l. asks x (stmts_of l) after exits) ea)
    ∙ ap (λ v. uses x (expr_of e) || (asks x (stmts_of a) after exits || v)) (eg ∙ ap (λ l. asks x (stmts_of l) after exits) eb)
    ∙ sym (ap (λ t. asks x t after exits) (ap stmt_of es ∙ if_tree e a b))

pub fits_if : (v p n loops : ℕ) (s : FlatStmt) (e : FlatExpr) (a b ra rb : List FlatStmt) (first second r : Bool) → s ≡ S.If e a b → ra ≡ a → rb ≡ b → first ≡ stmt_fits v p n loops (stmts_of ra) → second ≡ stmt_fits v p n loops (stmts_of rb)
    → r ≡ (expr_fits v p n (expr_of e) && (first && second)) → r ≡ stmt_fits v p n loops (stmt_of s)
fits_if v p n loops s e a b ra rb first second r es ea eb ef eg er =
    er
    ∙ ap (λ t. expr_fits v p n (expr_of e) && (t && second)) (ef ∙ ap (λ l. stmt_fits v p n loops (stmts_of l)) ea)
    ∙ ap (λ t. expr_fits v p n (expr_of e) && (stmt_fits v p n loops (stmts_of a) && t)) (eg ∙ ap (λ l. stmt_fits v p n loops (stmts_of l)) eb)
    ∙ sym (ap (λ t. stmt_fits v p n loops t) (ap stmt_of es ∙ if_tree e a b))
