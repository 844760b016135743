use Rattle.command.proofs.Unique.{command_same}
use Rattle.command.proofs.words.command_of_words_is_unique.Goals as goal

pub returns : goal.returns
returns c = command_same
