use Rattle.c_words.proofs.Constants.{strings_say}
use Rattle.c_words.proofs.literal.string_at.Goals as goal

pub returns : goal.returns
returns c = strings_say c.args.content.now c.string_literal.result c.string_literal.ensures
