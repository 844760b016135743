use Rattle.std.proofs.Common.{◌≡◌, ◌≤◌, [], length, map}
use Rattle.c_external_read.specs.Counts.{Counted}
use Rattle.c_external_read.specs.Files.{deepest, externals_at}
use Rattle.c_external_read.specs.Views.{view_external}
use Rattle.c_external_read.proofs.Turns.{behind_all}
use Rattle.c_external_read.proofs.file.read_externals.Given as goal

abbrev pub invariant-externals : goal.invariant-externals
invariant-externals l = record {
  reads : behind_all (map view_external l.externals.items) (externals_at deepest (length l.rest) l.scope l.rest) ≡ externals_at deepest (length l.tokens) [] l.tokens;
  counted : Counted l.counts (length l.tokens) l.tokens l.externals.items l.rest;
  within : length l.rest ≤ length l.tokens;
}

abbrev pub decreases-externals : goal.decreases-externals
decreases-externals l = length l.rest
