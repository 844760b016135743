use Rattle.std.proofs.Common.{◌≡◌, true, false, length, sym, ◌∙◌}
use Rattle.std.proofs.lemmas.Bool.{eqb-true, eq-eqb}
use Rattle.c_literal.proofs.Strings.{no_character, a_character, too_long}
use Rattle.c_literal.proofs.literal.character_constant.Goals as goal

pub returns-in-None : goal.returns-in-None
returns-in-None c = no_character c.args.content.now c.in-None.ensures

pub returns-then-is_empty : goal.returns-then-is_empty
returns-then-is_empty c = a_character c.args.content.now c.in-Some.byte c.in-Some.rest.now c.in-Some.ensures (eqb-true (length c.in-Some.rest.now) 0 (sym c.is_empty.ensures ∙ c.if-is_empty.true))

pub returns-else-is_empty : goal.returns-else-is_empty
returns-else-is_empty c = too_long c.args.content.now c.in-Some.byte c.in-Some.rest.now c.in-Some.ensures
    (λ e. let f : false ≡ true = sym c.if-is_empty.false ∙ c.is_empty.ensures ∙ eq-eqb (length c.in-Some.rest.now) 0 e in absurd (cc))
