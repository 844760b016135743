use Rattle.std.proofs.Common.{refl}
use Rattle.c_words.proofs.Putting.{are_words}
use Rattle.c_words.proofs.words.words_of.Goals as goal

pub returns : goal.returns
returns c = are_words c.args.tokens.now c.in_ok-names.field-0 _ c.in_ok-names.ensures c.in_ok-into_list.ensures refl refl refl refl
