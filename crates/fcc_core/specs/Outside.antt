-- What can be told of the outside at one moment.
use Rattle.std.specs.Prelude.{◌≡◌, ℕ, List, Option}
use Rattle.source_tokens.specs.Outside.{LibraryAt}

-- a source: the bytes left, where it tells them, and how often it has failed
pub record SourceAt : Type 0 where
  pub left : Option (List ℕ)
  pub faults : ℕ

-- a sink: the bytes held, where it tells them, and how often it has failed
pub record SinkAt : Type 0 where
  pub contents : Option (List ℕ)
  pub faults : ℕ

-- the objects that a call is handed, but for the error stream
pub record Outside : Type 0 where
  pub library : LibraryAt
  pub input : SourceAt
  pub out : SinkAt

-- nothing was taken from the input or written to the output
pub record IsIdle (before after : Outside) : Type 0 where
  pub input : after.input ≡ before.input
  pub out : after.out ≡ before.out
