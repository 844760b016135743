use Rattle.std.proofs.Common.{◌≡◌, ◌≤◌, ◌+◌, Some, map, length}
use Rattle.source_tokens.specs.Outside.{IsUntroubled}
use Rattle.source_tokens.specs.Sources.{Files}
use Rattle.source_tokens.specs.Reading.{seen}
use Rattle.source_tokens.proofs.Many.{GoesOn}
use Rattle.source_tokens.proofs.files.read_sources.Given as goal

abbrev pub invariant-loop-name : goal.invariant-loop-name
invariant-loop-name g l = record {
  listing : g.L.Library.files l.library ≡ g.L.Library.files l.fn.library;
  untroubled : IsUntroubled
      (record { listing = g.L.Library.files l.fn.library; faults = g.L.Library.faults l.fn.library; strays = g.L.Library.strays l.fn.library })
      (record { listing = g.L.Library.files l.library; faults = g.L.Library.faults l.library; strays = g.L.Library.strays l.library });
  numbered : l.file + length l.rest ≡ length l.names;
  counted : length l.sources.items ≡ l.file;
  room : l.before ≤ 262144;
  goes : (files : Files) → g.L.Library.files l.fn.library ≡ Some files → GoesOn files l.names l.rest l.file l.before (map seen l.sources.items);
}

abbrev pub decreases-loop-name : goal.decreases-loop-name
decreases-loop-name g l = length l.rest
