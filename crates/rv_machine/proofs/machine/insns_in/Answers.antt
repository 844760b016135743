use Rattle.std.proofs.Common.{◌≡◌, ◌+◌, ◌*◌, ℕ, List, [], ◌∷◌, ◌++◌, Option, subst, sym, ap, ◌∙◌, add-one, ◌-◌, length, drop, arith, length-drop}
use Rattle.std.proofs.lemmas.List.{take_all}
use Rattle.byteorder.specs.Endian.{little_number}
use Rattle.rv_isa.specs.declared.insn.Insn.{Insn}
use Rattle.rv_isa.specs.Decode.{decode_of}
use Rattle.rv_machine.specs.Memory.{number_at}
use Rattle.rv_machine.specs.Insns.{insns_of, AreEncodable}
use Rattle.rv_machine.proofs.Fetch.{encodable, AreEncodable-push}
use Rattle.rv_machine.proofs.machine.insns_in.Goals as goal

pub loop-k-preserved : goal.loop-k-preserved
loop-k-preserved c =
    let before : List (Option Insn) = c.loop-k.insns.items in
    let w : ℕ = c.read_u32.result in
    let k : ℕ = c.loop-k.k in
    let memory : List ℕ = c.args.memory.now in
    let word : w ≡ number_at memory 4 (4 * k) =
    c.read_u32.ensures ∙ ap (little_number 4) (take_all (length memory - 4 * k) (drop (4 * k) memory) (omega (arith, length-drop (4 * k) memory))) in
    let next : before ++ decode_of w ∷ [] ≡ insns_of (k + 1) memory =
    ap (λ l. l ++ decode_of w ∷ []) c.loop-k.invariant.0
    ∙ ap (λ x. insns_of k memory ++ decode_of x ∷ []) word
    ∙ ap (λ n. insns_of n memory) (sym (add-one k)) in
    let pushed : c.push.new.self.items ≡ before ++ decode_of w ∷ [] = c.in_ok-push.ensures.items ∙ ap (λ o. before ++ o ∷ []) c.decode.ensures in (
      pushed ∙ next,
      subst AreEncodable (sym pushed) (AreEncodable-push before (decode_of w) c.loop-k.invariant.1 (encodable w c.read_u32.type_inv)),
    )
