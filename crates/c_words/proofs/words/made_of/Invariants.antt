use Rattle.std.proofs.Common.{◌≡◌, ◌+◌, ◌≤◌, length}
use Rattle.c_words.specs.Pieces.{pieces}
use Rattle.c_words.specs.Making.{nothing, all_put}
use Rattle.c_words.proofs.words.made_of.Given as goal

-- what is made so far and what is left make the whole, and there is at most one name and one literal for each token that was read
abbrev pub invariant-pieces : goal.invariant-pieces
invariant-pieces l = record {
  all : all_put l.made (pieces l.rest) ≡ all_put nothing (pieces l.tokens);
  names : length l.made.names + length l.rest ≤ length l.tokens;
  literals : length l.made.literals + length l.rest ≤ length l.tokens;
}

abbrev pub decreases-pieces : goal.decreases-pieces
decreases-pieces l = length l.rest
