use Rattle.std.proofs.Common.{◌≡◌, length, Some}
use Rattle.c_words.specs.Words.{joined, strings_at}
use Rattle.c_words.specs.Numbering.{contents_of}
use Rattle.c_words.proofs.literal.with_others.Given as goal

-- the bytes so far and those of the literals that are left are those of the whole
abbrev pub invariant-literals : goal.invariant-literals
invariant-literals l = joined (Some l.bytes.items) (strings_at (contents_of l.rest)) ≡ joined (Some l.fn.first.items) (strings_at (contents_of l.fn.others))

abbrev pub decreases-literals : goal.decreases-literals
decreases-literals l = length l.rest
