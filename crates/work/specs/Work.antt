-- Work is a tree of acts, calls and loops: A are the acts, V the values that acts answer and calls hand on, P the places of the source.
use Rattle.std.specs.Prelude.{ℕ, ℤ, List, Option}
use Rattle.behaviour.specs.Behaviour.{Limit}

-- how a part of the work comes out: a turn of a loop asks for one more or leaves the loop, with what the loop carries; or the procedure returns
pub data Outcome (V : Type 0) : Type 0 where
  Again : List V → Outcome V
  Left : List V → Outcome V
  Returned : List V → Outcome V

-- the outcome; an act at a place, and what comes after its answer; a call of a procedure by its number, and what comes after its results; a loop: what its first turn gets, one turn, and what comes after the loop
pub data Work (A V P : Type 0) : Type 0 where
  Over : Outcome V → Work A V P
  Do : P → A → (V → Work A V P) → Work A V P
  Call : (procedure : ℕ) → List V → (List V → Work A V P) → Work A V P
  Loop : List V → (List V → Work A V P) → (Outcome V → Work A V P) → Work A V P

-- a procedure: the bytes of its frame, and its work with the values passed
pub record Procedure (A V P : Type 0) : Type 0 where
  pub frame : ℕ
  pub work : List V → Work A V P

-- how a run stands; a violation has its rule's tag and its place
pub data End (P : Type 0) : Type 0 where
  Running : End P
  Stopped : (code : ℤ) → End P
  Limited : (limit : Limit) → End P
  Violated : (tag : ℕ) → (place : P) → End P

-- what an act comes to, with its answer and the memory after it: work with no unit of its own; a unit that shows nothing; a unit that gives a byte; a unit that takes a byte, if one is left, and answers by what was left; or the end, which is a unit too
pub data Deed (V M P : Type 0) : Type 0 where
  Quiet : V → M → Deed V M P
  Counted : V → M → Deed V M P
  GivesByte : (byte : ℕ) → V → M → Deed V M P
  TakesByte : (List ℕ → V) → M → Deed V M P
  EndsRun : End P → Deed V M P

-- how acts work on a memory M, and how a frame of so many bytes is charged and given back; None where it would pass the limit
pub record Rules (A V M P : Type 0) : Type 0 where
  pub deed : P → A → M → Deed V M P
  pub enter : ℕ → M → Option M
  pub leave : ℕ → M → M
