-- What contracts see of the objects in memory. `calls` counts the calls so far, and `failing` lists the calls, counted from 0, that fail.
use Rattle.std.specs.Prelude.{ℕ, List}

-- a source, with the bytes that it has left
pub record SourceState : Type 0 where
  pub left : List ℕ
  pub calls : ℕ
  pub failing : List ℕ
  pub faults : ℕ

-- a sink, with the bytes that it holds and the room for all of them
pub record SinkState : Type 0 where
  pub contents : List ℕ
  pub room : ℕ
  pub calls : ℕ
  pub failing : List ℕ
  pub faults : ℕ

-- a library, with its files in order, by name
pub record LibraryState : Type 0 where
  pub files : List (List ℕ × List ℕ)
  pub calls : ℕ
  pub failing : List ℕ
  pub faults : ℕ
  pub strays : ℕ
