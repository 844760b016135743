-- Short names for code.
use Rattle.std.specs.Prelude.{List, [], ◌∷◌}
use Rattle.flat_ir.specs.declared.program.Operation.TheVariants as O
use Rattle.flat_ir.specs.Tree.{Expr, Bin, Stmt, Skip, Seq, If, Loop, Break}

infixl 10 ◌⊹◌
infixl 10 ◌⊖◌
infixl 11 ◌⊛◌
-- sums, differences and products, in 64 bits
abbrev pub ◌⊹◌ : Expr → Expr → Expr
a ⊹ b = Bin O.Add a b

abbrev pub ◌⊖◌ : Expr → Expr → Expr
a ⊖ b = Bin O.Sub a b

abbrev pub ◌⊛◌ : Expr → Expr → Expr
a ⊛ b = Bin O.Mul a b

-- quotients and remainders, and the order of numbers without sign
abbrev pub quotient : Expr → Expr → Expr
quotient a b = Bin O.Divu a b

abbrev pub remainder : Expr → Expr → Expr
remainder a b = Bin O.Remu a b

abbrev pub less : Expr → Expr → Expr
less a b = Bin O.Sltu a b

abbrev pub statements : List Stmt → Stmt
statements [] = Skip
statements (s ∷ ss) = Seq s (statements ss)

-- the turns of a loop that goes on while a number isn't 0, which is tested before the first
abbrev pub turn : Expr → List Stmt → Stmt
turn e ss = If e (statements ss) (Break 0)

abbrev pub while : Expr → List Stmt → Stmt
while e ss = Loop (turn e ss)
