use Rattle.first_form.proofs.Numerals.{name_utf8}
use Rattle.first_form.proofs.words.label_text.Goals as goal

pub unreachable-requires : goal.unreachable-requires
unreachable-requires c = c.in-Err.ensures.cases.0 (name_utf8 c.args.label.now c.requires)
