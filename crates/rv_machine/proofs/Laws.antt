-- Laws of steps and of whole runs.
use Rattle.std.proofs.Common.{◌≡◌, ◌≤◌, ℕ, zero, suc, ◌+◌, ◌-◌, ◌%◌, List, [], ◌∷◌, true, ◌&&◌, nat_eq, nat_le, Option, Some, None, Ok, sym, ap, ◌∙◌, subst, inl, inr, arith, add-zero, add-suc}
use Rattle.std.specs.Option.{ok_or}
use Rattle.std.proofs.lemmas.Bool.{cases_lt, le-leb, eq-eqb, and_from}
use Rattle.rv_isa.specs.declared.insn.Insn.{Insn}
use Rattle.rv_isa.specs.Decode.{decode_of}
use Rattle.rv_isa.specs.Encode.{encode_of, IsEncodable}
use Rattle.rv_isa.proofs.Laws.{encode-decode}
use Rattle.rv_machine.specs.declared.event.Mode.TheVariants as mode
use Rattle.rv_machine.specs.declared.event.Event.{Event}
use Rattle.rv_machine.specs.declared.event.TrapKind.TheVariants as trap
use Rattle.rv_machine.specs.State.{State}
use Rattle.rv_machine.specs.Memory.{number_at}
use Rattle.rv_machine.specs.Step.{one, act, fetched, act_fetched, mode_after, settled, ready_step, step_in}
use Rattle.rv_machine.specs.Exec.{Run, turn, turn_in, after, exec}

-- what one instruction does to a run, by its event
pub turn_is : (r : Run) (s : State) (e : Event) → r.state.mode ≡ mode.Ready → (s, e) ≡ one r.state None → turn r ≡ after e s r
unfolding turn
turn_is r s e ready is =
    ap (λ m. turn_in m r) ready ∙ ap (λ w. after w.1 w.0 r) (sym is)

-- the mode behind an instruction is told by its event
pub mode_is : (s s' : State) (e : Event) (g : Option ℕ) → s.mode ≡ mode.Ready → (s', e) ≡ one s g → s'.mode ≡ mode_after e
unfolding one
mode_is s s' e g ready is =
    let there : (s', e) ≡ settled (ready_step s) = is ∙ ap (λ m. step_in m s g) ready in
    ap (λ w. w.0.mode) there ∙ sym (ap (λ w. mode_after w.1) there)

-- a machine that waits is ready when it has its byte
pub ready_again : (s : State) (g : Option ℕ) → s.mode ≡ mode.Waiting → (one s g).0.mode ≡ mode.Ready
unfolding one
ready_again s g waits = ap (λ m. (step_in m s g).0.mode) waits

-- behind an end a step gives the same event again, and changes nothing
pub one_ended : (s : State) (e : Event) (g : Option ℕ) → s.mode ≡ mode.Ended e → one s g ≡ (s, e)
unfolding one
one_ended s e g over = ap (λ m. step_in m s g) over

-- a byte that isn't asked for is ignored
pub one_given : (s : State) (g : Option ℕ) → s.mode ≡ mode.Ready → one s g ≡ one s None
unfolding one
one_given s g ready = ap (λ m. step_in m s g) ready ∙ sym (ap (λ m. step_in m s None) ready)

-- behind an end nothing changes
pub turn_ended : (r : Run) (e : Event) → r.state.mode ≡ mode.Ended e → turn r ≡ r
unfolding turn
turn_ended r e over = ap (λ m. turn_in m r) over

pub exec_ended : (r : Run) (m n : ℕ) (e : Event) → (exec r m).state.mode ≡ mode.Ended e → m ≤ n → exec r n ≡ exec r m
exec_ended r m zero e over le = let same : m ≡ 0 = omega arith in ap (λ k. exec r k) (sym same)
exec_ended r m (suc n) e over le =
    elim (cases_lt n m) [
      | inl past ↦ (let same : m ≡ suc n = omega arith in ap (λ k. exec r k) (sym same))
      | inr here ↦ (let same = exec_ended r m n e over here in
          let P : Run → Type 0 = λ w. w.state.mode ≡ mode.Ended e in
          turn_ended (exec r n) e (subst P (sym same) over) ∙ same)
    ]

-- m instructions, and then n
pub exec_add : (r : Run) (m n : ℕ) → exec r (m + n) ≡ exec (exec r m) n
exec_add r m zero = ap (exec r) (add-zero m)
exec_add r m (suc n) = ap (exec r) (add-suc m n) ∙ ap turn (exec_add r m n)

-- this word stands in the code at this place
pub record IsWord (memory : List ℕ) (code pc w : ℕ) : Type 0 where
  pub low : 65536 ≤ pc
  pub high : pc + 4 ≤ 65536 + code
  pub whole : pc % 4 ≡ 0
  pub word : number_at memory 4 (pc - 65536) ≡ w

-- these words stand in the code from this place on
abbrev pub HasWords : List ℕ → ℕ → ℕ → List ℕ → Type 0
HasWords memory code pc [] = Unit {0}
HasWords memory code pc (w ∷ ws) = IsWord memory code pc w × HasWords memory code (pc + 4) ws

-- the machine is ready, at this word of its code
pub record IsAtWord (s : State) (w : ℕ) : Type 0 where
  pub ready : s.mode ≡ mode.Ready
  pub here : IsWord s.memory s.code s.pc w

-- the instruction that the word is decoded to is done
pub one_at_word : (s : State) (w : ℕ) (i : Insn) (g : Option ℕ) → IsAtWord s w → decode_of w ≡ Some i → one s g ≡ settled (act i s)
unfolding one fetched
one_at_word s w i g at is =
    let whole : nat_eq (s.pc % 4) 0 ≡ true = eq-eqb _ _ at.here.whole in
    let inside : (nat_le 65536 s.pc && nat_le (s.pc + 4) (65536 + s.code)) ≡ true = and_from _ _ (le-leb _ _ at.here.low) (le-leb _ _ at.here.high) in
    let here : fetched s ≡ ok_or (decode_of (number_at s.memory 4 (s.pc - 65536))) trap.Word = simp (whole, inside) in
    let there : fetched s ≡ Ok i = here ∙ ap (λ w. ok_or (decode_of w) trap.Word) at.here.word ∙ ap (λ o. ok_or o trap.Word) is in
    ap (λ m. step_in m s g) at.ready ∙ ap (λ f. settled (act_fetched f s)) there

-- the instruction whose word it is is done
pub one_at : (s : State) (i : Insn) (g : Option ℕ) → IsAtWord s (encode_of i) → IsEncodable i → one s g ≡ settled (act i s)
one_at s i g at can = one_at_word s (encode_of i) i g at (encode-decode i can)

pub turn_at : (r : Run) (i : Insn) → IsAtWord r.state (encode_of i) → IsEncodable i → turn r ≡ after (act i r.state).1 (settled (act i r.state)).0 r
turn_at r i at can = turn_is r _ _ at.ready (sym (one_at r.state i None at can))
