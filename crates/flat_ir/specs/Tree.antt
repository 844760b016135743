-- Code as a tree. `View.antt` says which tree a program's code is.
use Rattle.std.specs.Prelude.{ℕ, Bool, List}
use Rattle.jf_base.specs.declared.numbers.Width.{Width}
use Rattle.flat_ir.specs.declared.program.Exceeded.{Exceeded}
use Rattle.flat_ir.specs.declared.program.Operation.{Operation}

-- what is computed: a number, a value of the procedure, an operation on two numbers, bytes at an address, and the addresses of a procedure and of a byte of the image
pub data Expr : Type 0 where
  Num : (n : ℕ) → Expr
  Val : (x : ℕ) → Expr
  Bin : (o : Operation) → (a : Expr) → (b : Expr) → Expr
  Load : (w : Width) → (is_signed : Bool) → (a : Expr) → Expr
  ProcAt : (p : ℕ) → Expr
  ImageAt : (n : ℕ) → Expr

pub data Stmt : Type 0 where
  Skip : Stmt
  Seq : (a : Stmt) → (b : Stmt) → Stmt
  Set : (x : ℕ) → (e : Expr) → Stmt
  Store : (w : Width) → (a : Expr) → (e : Expr) → Stmt
  Call : (xs : List ℕ) → (p : ℕ) → (es : List Expr) → Stmt
  CallAt : (xs : List ℕ) → (a : Expr) → (es : List Expr) → Stmt
  If : (e : Expr) → (a : Stmt) → (b : Stmt) → Stmt
  Loop : (s : Stmt) → Stmt
  Break : (k : ℕ) → Stmt
  Return : (es : List Expr) → Stmt
  Take : (x : ℕ) → Stmt
  Give : (e : Expr) → Stmt
  Stop : (e : Expr) → Stmt
  Limit : (l : Exceeded) → Stmt

-- a procedure: its first values hold the arguments
pub record Procedure : Type 0 where
  pub params : ℕ
  pub values : ℕ
  pub charge : ℕ
  pub body : Stmt
