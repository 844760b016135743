use Rattle.std.proofs.Common.{◌≡◌, ◌≤◌, length, ℕ, ◌+◌, ◌-◌, ◌*◌}
use Rattle.c_condition.specs.Reading.{values, inner, links_at, level_at, conditional_at, commas_at, whole_at}
use Rattle.c_condition.proofs.Steps.{settled_found}
use Rattle.c_condition.proofs.reader.+expression.Given as goal

-- a nesting less is worth more than all heights

abbrev pub decreases-nested_whole : goal.decreases-nested_whole
decreases-nested_whole l = 16 * l.nestings

abbrev pub decreases-nested_operand : goal.decreases-nested_operand
decreases-nested_operand l = 16 * l.nestings

abbrev pub decreases-nested_at : goal.decreases-nested_at
decreases-nested_at l = 16 * l.nestings + 1

abbrev pub decreases-operand_at : goal.decreases-operand_at
decreases-operand_at l = 16 * l.nestings + 2

abbrev pub decreases-level_at : goal.decreases-level_at
decreases-level_at l = 16 * l.nestings + 3 + l.height

abbrev pub decreases-conditional_at : goal.decreases-conditional_at
decreases-conditional_at l = 16 * l.nestings + 14

abbrev pub decreases-whole_at : goal.decreases-whole_at
decreases-whole_at l = 16 * l.nestings + 15

-- what is left, behind the conditions that were read, comes to what the tokens come to
abbrev pub invariant-conditional_at-conditions : goal.invariant-conditional_at-conditions
invariant-conditional_at-conditions l = (k : ℕ) × (length l.rest ≤ k) × (settled_found l.choice (conditional_at values (inner values l.fn.nestings) k l.rest) ≡ conditional_at values (inner values l.fn.nestings) (length l.fn.tokens) l.fn.tokens)

abbrev pub decreases-conditional_at-conditions : goal.decreases-conditional_at-conditions
decreases-conditional_at-conditions l = length l.rest

-- what is left, behind the operators that were read, comes to what the tokens come to
abbrev pub invariant-level_at-operators : goal.invariant-level_at-operators
invariant-level_at-operators l = (k : ℕ) × (length l.rest ≤ k)
    × (links_at values (level_at values (inner values l.fn.nestings) (l.fn.height - 1)) l.fn.height k l.left l.rest ≡ level_at values (inner values l.fn.nestings) l.fn.height l.fn.tokens)

abbrev pub decreases-level_at-operators : goal.decreases-level_at-operators
decreases-level_at-operators l = length l.rest

-- what is left, behind the commas that were read, comes to what the tokens come to
abbrev pub invariant-whole_at-commas : goal.invariant-whole_at-commas
invariant-whole_at-commas l = (k : ℕ) × (length l.rest ≤ k) × (commas_at values (inner values l.fn.nestings) k l.left l.rest ≡ whole_at values (inner values l.fn.nestings) l.fn.tokens)

abbrev pub decreases-whole_at-commas : goal.decreases-whole_at-commas
decreases-whole_at-commas l = length l.rest
