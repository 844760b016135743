use Rattle.f_value.proofs.TextLaws.{order-padded}
use Rattle.f_value.proofs.laws.texts.texts_are_compared_with_blanks_behind.Goals as goal

pub returns : goal.returns
returns c = λ s t n h k. order-padded n s t h k
