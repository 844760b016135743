use Rattle.std.proofs.Common.{sym}
use Rattle.c_words.proofs.Constants.{byte_is, byte_isnt}
use Rattle.c_words.proofs.constant.byte_word.Goals as goal

pub returns-in-None : goal.returns-in-None
returns-in-None c = sym (byte_isnt c.args.content.now c.in-None.ensures)

pub returns-in-Some : goal.returns-in-Some
returns-in-Some c = sym (byte_is c.args.content.now c.in-Some.byte c.in-Some.ensures)
