use Rattle.std.proofs.Common.{◌≡◌, ◌<◌, ◌/◌, ◌^◌, ℕ, List, length, get_or, Option, None, Result, subst, sym, ap, ◌∙◌, arith}
use Rattle.std.specs.Prelude.{IfOk}
use Rattle.std.specs.Option.{ok_or}
use Rattle.rv_isa.specs.declared.insn.Insn.{Insn}
use Rattle.rv_isa.specs.Encode.{IsEncodable}
use Rattle.rv_machine.specs.declared.event.TrapKind.{TrapKind}
use Rattle.rv_machine.specs.declared.event.TrapKind.TheVariants as trap
use Rattle.rv_machine.specs.Insns.{insns_of, AreEncodable}
use Rattle.rv_machine.proofs.Kept.{length-insns}
use Rattle.rv_machine.specs.Step.{fetched}
use Rattle.rv_machine.proofs.Fetch.{offset, get-insns, get-AreEncodable, ok_operands, fetched-misaligned, fetched-outside, fetched-inside}
use Rattle.rv_machine.proofs.machine.Machine.fetch.Goals as goal

pub returns-then-at-ne0-clause-value : goal.returns-then-at-ne0-clause-value
returns-then-at-ne0-clause-value c = sym (ap fetched (sym c.self.view_is) ∙ fetched-misaligned _ c.if-at-ne0.true)

pub returns-then-k-insns-clause-value : goal.returns-then-k-insns-clause-value
returns-then-k-insns-clause-value c =
    let low : c.self.inside.pc < 2 ^ 64 = omega arith in
    let all : length c.as_slice-insns.result.now ≡ c.self.inside.code / 4 = ap length (c.as_slice-insns.ensures.value ∙ c.self.invariant.decoded) ∙ length-insns _ _ in
    sym (ap fetched (sym c.self.view_is) ∙ fetched-outside _ low c.self.invariant.small c.if-at-ne0.false (omega (arith, all)))

pub returns-clause-value : goal.returns-clause-value
returns-clause-value c =
    let low : c.self.inside.pc < 2 ^ 64 = omega arith in
    let kept : c.as_slice-insns.result.now ≡ insns_of (c.self.inside.code / 4) c.self.inside.memory.items = c.as_slice-insns.ensures.value ∙ c.self.invariant.decoded in
    let all : length c.as_slice-insns.result.now ≡ c.self.inside.code / 4 = ap length kept ∙ length-insns _ _ in
    let before : offset c.self.inside.pc / 4 < c.self.inside.code / 4 = omega (arith, all) in
    let here = ap fetched (sym c.self.view_is) ∙ fetched-inside _ low c.self.invariant.small c.if-at-ne0.false before in
    c.ok_or.ensures.value
    ∙ ap (λ l. ok_or (get_or l (offset c.self.inside.pc / 4) None) trap.Word) kept
    ∙ ap (λ o. ok_or o trap.Word) (get-insns (c.self.inside.code / 4) (offset c.self.inside.pc / 4) c.self.inside.memory.items None before)
    ∙ sym here

pub returns-clause-operands : goal.returns-clause-operands
returns-clause-operands c =
    let insns : List (Option Insn) = c.as_slice-insns.result.now in
    let k : ℕ = offset c.self.inside.pc / 4 in
    let all : AreEncodable insns = subst AreEncodable (sym c.as_slice-insns.ensures.value) c.self.invariant.operands in
    subst (λ (r : Result Insn TrapKind). IfOk r IsEncodable) (sym c.ok_or.ensures.value) (ok_operands (get_or insns k None) (get-AreEncodable insns k all))
