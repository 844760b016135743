-- Code as it is written, from its end to its start: steps that together give what `Code.antt` says.
use Rattle.std.specs.Prelude.{ℕ, Bool, true, false, ◌+◌, ◌-◌, max, List, ◌∷◌, drop, slice_index}
use Rattle.flat_ir.specs.Tree.{Expr, Num, Val, Bin, Load, ProcAt, ImageAt, Stmt, Skip, Seq, Set, Store, Call, CallAt, If, Loop, Break, Return, Take, Give, Stop, Limit}
use Rattle.flatten.specs.declared.blocks.BlockInsn.TheVariants as I
use Rattle.flatten.specs.declared.blocks.BlockEnd.{BlockEnd}
use Rattle.flatten.specs.declared.blocks.BlockEnd.TheVariants as E
use Rattle.flatten.specs.declared.blocks.Block.{Block}
use Rattle.flatten.specs.declared.measure.Measure.{Measure}
use Rattle.flatten.specs.Code.{only, before, place, expr_code, operand, operands, places_of, spare, spares}

-- the first spare value, the block that is being written, the finished blocks with the number of the first of them,
-- of each loop that is still to be written how many blocks its body has beside its first one, and the blocks behind the loops around
pub record Emission : Type 0 where
  pub spare : ℕ
  pub current : Block
  pub others : List Block
  pub at : ℕ
  pub turns : List ℕ
  pub exits : List ℕ

abbrev pub changed : Block → Emission → Emission
changed b s = record s { current = b }

-- the current block is finished, and the one in front of it is only this end so far
abbrev pub finished : BlockEnd → Emission → Emission
finished e s = record s { current = only e; others = s.current ∷ s.others; at = s.at - 1 }

-- at the end of a loop: its body goes back to where its turn begins
abbrev pub turning : Emission → Emission
turning s =
    record s {
      current = only (E.Jump (s.at - 1 - slice_index s.turns 0 - 1));
      others = s.current ∷ s.others;
      at = s.at - 1;
      turns = drop 1 s.turns;
      exits = (s.at - 1) ∷ s.exits;
    }

-- at its start
abbrev pub looping : Emission → Emission
looping s = record s { current = only (E.Jump (s.at - 1)); others = s.current ∷ s.others; at = s.at - 1; exits = drop 1 s.exits }

-- a choice between the current block and the one of a number
abbrev pub choosing : Expr → ℕ → Emission → Emission
choosing e second s =
    record s {
      current = operand e s.spare (only (E.Branch (place e s.spare) (s.at - 1) second));
      others = s.current ∷ s.others;
      at = s.at - 1;
    }

-- an operand that needs no code
abbrev pub stands : Expr → Bool
stands (Num n) = false
stands (Val x) = true
stands (Bin o a b) = false
stands (Load w s a) = false
stands (ProcAt p) = false
stands (ImageAt n) = false

-- a statement
unfoldable pub emitted : Stmt → Emission → Emission
emitted Skip s = s
emitted (Seq a b) s = emitted a (emitted b s)
emitted (Set x e) s = changed (expr_code e x s.spare s.current) s
emitted (Store w a e) s = changed (operand a s.spare (operand e (s.spare + 1) (before (I.Store w (place a s.spare) (place e (s.spare + 1))) s.current))) s
emitted (Call xs p es) s = changed (operands es s.spare (before (I.Call xs p (places_of es s.spare)) s.current)) s
emitted (CallAt xs a es) s = changed (operand a s.spare (operands es (s.spare + 1) (before (I.CallAt xs (place a s.spare) (places_of es (s.spare + 1))) s.current))) s
emitted (If e a b) s =
    choosing e ((emitted b (finished (E.Jump (s.at - 1)) s)).at - 1) (emitted a (finished (E.Jump (s.at - 1)) (emitted b (finished (E.Jump (s.at - 1)) s))))
emitted (Loop a) s = looping (emitted a (turning s))
emitted (Break k) s = changed (only (E.Jump (slice_index s.exits k))) s
emitted (Return es) s = changed (operands es s.spare (only (E.Return (places_of es s.spare)))) s
emitted (Take x) s = changed (before (I.Take x) s.current) s
emitted (Give e) s = changed (operand e s.spare (before (I.Give (place e s.spare)) s.current)) s
emitted (Stop e) s = changed (operand e s.spare (only (E.Stop (place e s.spare)))) s
emitted (Limit l) s = changed (only (E.Limit l)) s

-- what is to be known before code is written: how many blocks there are so far, how many spare values are needed, and the loops' blocks, the last loop first
abbrev pub needing : ℕ → Measure → Measure
needing n m = record m { spare = max m.spare n }

abbrev pub choice_measured : Measure → Measure
choice_measured m = record m { blocks = m.blocks + 3 }

-- a loop whose body began at so many blocks
abbrev pub loop_measured : ℕ → Measure → Measure
loop_measured n m = record m { blocks = m.blocks + 2; turns = (m.blocks - n) ∷ m.turns }

unfoldable pub measured : Stmt → Measure → Measure
measured Skip m = m
measured (Seq a b) m = measured b (measured a m)
measured (Set x e) m = needing (spare e) m
measured (Store w a e) m = needing (max (1 + spare a) (2 + spare e)) m
measured (Call xs p es) m = needing (spares es) m
measured (CallAt xs a es) m = needing (max (1 + spare a) (1 + spares es)) m
measured (If e a b) m = needing (1 + spare e) (choice_measured (measured b (measured a m)))
measured (Loop a) m = loop_measured m.blocks (measured a m)
measured (Break k) m = m
measured (Return es) m = needing (spares es) m
measured (Take x) m = m
measured (Give e) m = needing (1 + spare e) m
measured (Stop e) m = needing (1 + spare e) m
measured (Limit l) m = m
