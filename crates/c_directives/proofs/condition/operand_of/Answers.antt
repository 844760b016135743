use Rattle.std.proofs.Common.{sym, ◌∙◌, ap, List, ℕ}
use Rattle.c_condition.specs.declared.token.Token.TheVariants as operand
use Rattle.c_literal.specs.IntegerReading.{constant_at as integer_at}
use Rattle.c_literal.specs.LiteralReading.{element_at}
use Rattle.c_directives.specs.Conditions.{operand_of, number_operand, byte_operand}
use Rattle.c_directives.proofs.Values.{number_is, number_isnt, byte_is, byte_isnt}
use Rattle.c_directives.proofs.condition.operand_of.Goals as goal

pub returns-in-None : goal.returns-in-None
unfolding operand_of
returns-in-None c = sym (ap operand_of c.in-Number.is ∙ ap (λ (s : List ℕ). number_operand (integer_at s)) (sym c.as_slice.ensures) ∙ number_isnt c.as_slice.result.now c.in-None.ensures)

pub returns-in-Some : goal.returns-in-Some
unfolding operand_of
returns-in-Some c = sym (ap operand_of c.in-Number.is ∙ ap (λ (s : List ℕ). number_operand (integer_at s)) (sym c.as_slice.ensures) ∙ number_is c.as_slice.result.now c.in-Some.constant c.in-Some.ensures ∙ ap operand.Number (sym c.of_constant.ensures))

pub returns-in-None-character_constant : goal.returns-in-None-character_constant
unfolding operand_of
returns-in-None-character_constant c = sym (ap operand_of c.in-Byte.is ∙ ap (λ (s : List ℕ). byte_operand (element_at 39 s)) (sym c.as_slice-in-Byte.ensures) ∙ byte_isnt c.as_slice-in-Byte.result.now c.in-None-character_constant.ensures)

pub returns-in-Some-character_constant : goal.returns-in-Some-character_constant
unfolding operand_of
returns-in-Some-character_constant c = sym (ap operand_of c.in-Byte.is ∙ ap (λ (s : List ℕ). byte_operand (element_at 39 s)) (sym c.as_slice-in-Byte.ensures) ∙ byte_is c.as_slice-in-Byte.result.now c.in-Some-character_constant.byte c.in-Some-character_constant.ensures ∙ sym c.byte_operand.ensures)
