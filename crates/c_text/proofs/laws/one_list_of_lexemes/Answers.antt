use Rattle.std.proofs.Common.{sym, ◌∙◌}
use Rattle.c_text.proofs.WholeLaws.{lexes_one}
use Rattle.c_text.proofs.laws.one_list_of_lexemes.Goals as goal

pub returns : goal.returns
returns c = λ bytes lexemes others l m. lexes_one bytes lexemes l ∙ sym (lexes_one bytes others m)
