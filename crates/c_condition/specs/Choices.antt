-- What conditional expressions that stand in a row have come to, from left to right.
use Rattle.std.specs.Prelude.{Bool, true, false, ◌||◌, Option, Some, None}
use Rattle.c_condition.specs.declared.outcome.Outcome.{Outcome}
use Rattle.c_condition.specs.declared.outcome.Outcome.TheVariants.{Without}
use Rattle.c_condition.specs.declared.choice.Choice.{Choice}
use Rattle.c_condition.specs.Values.{is_unsigned, truth, with_type}

abbrev pub no_choice : Choice
no_choice = record { taken = None; is_unsigned = false }

-- what is taken, or else the last operand
abbrev pub taken : Option Outcome → Outcome → Outcome
taken None last = last
taken (Some x) last = x

-- what is taken behind one more condition
abbrev pub chosen_after : Option Outcome → Option Bool → Outcome → Option Outcome
chosen_after (Some x) t second = Some x
chosen_after None None second = Some (Without false)
chosen_after None (Some true) second = Some second
chosen_after None (Some false) second = None

abbrev pub choice_after : Choice → Outcome → Outcome → Choice
choice_after c first second = record { taken = chosen_after c.taken (truth first) second; is_unsigned = c.is_unsigned || is_unsigned second }

-- the outcome, with the last operand
abbrev pub settled : Choice → Outcome → Outcome
settled c last = with_type (c.is_unsigned || is_unsigned last) (taken c.taken last)
