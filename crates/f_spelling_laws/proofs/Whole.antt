-- The laws of blocks, specifications and units in front of any rest.
use Rattle.std.proofs.Common.{[], refl}
use Rattle.f_spelling_laws.specs.Told.{tokens_of}
use Rattle.f_spelling_laws.specs.Laws.{OfBlocks, OfSpecifications, OfUnits}
use Rattle.f_spelling_laws.proofs.Constructs.{blocks_spelled}
use Rattle.f_spelling_laws.proofs.Specifications.{specification_spelled}
use Rattle.f_spelling_laws.proofs.Units.{units_follow}

pub blocks : OfBlocks
blocks cs sure rest = blocks_spelled cs sure (tokens_of rest) rest [] refl

pub specifications : OfSpecifications
specifications s sure rest = specification_spelled s sure (tokens_of rest) rest [] refl

pub units : OfUnits
units us sure rest = units_follow us sure (tokens_of rest) rest [] refl
