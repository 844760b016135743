-- Runs that go on by some instructions, with nothing seen on the way.
use Rattle.std.proofs.Common.{◌≡◌, ℕ, zero, suc, ◌+◌, ◌-◌, ◌≤◌, inl, inr, List, length, refl, sym, ap, ◌∙◌, subst, arith}
use Rattle.std.proofs.lemmas.Bool.{cases_lt}
use Rattle.program_image.specs.declared.Image.{Image}
use Rattle.rv_machine.specs.declared.event.Mode.TheVariants.{Ready}
use Rattle.rv_machine.specs.Exec.{Run, turn, exec}
use Rattle.rv_machine.proofs.Laws.{exec_add}
use Rattle.assembled_run.specs.Machine.{IsAt, moved_to, IsQuiet, Leads}

pub still : (r : Run) → r.state.mode ≡ Ready → IsQuiet r r
still r ready = record { ready = ready; left = refl; taken = refl; output = refl }

-- no instruction
pub leads_none : (r : Run) → r.state.mode ≡ Ready → Leads 0 r r
leads_none r ready = record {
  ends = refl;
  quiet = λ j le. (let e : 0 ≡ j = omega arith in subst (λ (n : ℕ). IsQuiet r (exec r n)) e (still r ready));
}

-- one instruction
pub leads_one : (r : Run) (registers : List ℕ) (p : ℕ) → r.state.mode ≡ Ready → turn r ≡ moved_to r registers p → Leads 1 r (moved_to r registers p)
leads_one r registers p ready goes = record { ends = goes; quiet = by }
  where
    first : IsQuiet r (exec r 0)
    first = still r ready

    last : IsQuiet r (exec r 1)
    last = subst (λ (w : Run). IsQuiet r w) (sym goes) (record { ready = refl; left = refl; taken = refl; output = refl })

    by : (j : ℕ) → j ≤ 1 → IsQuiet r (exec r j)
    by zero le = first
    by (suc j) le = let e : 0 ≡ j = omega arith in subst (λ (n : ℕ). IsQuiet r (exec r (suc n))) e last

quiet_then : (r w v : Run) → IsQuiet r w → IsQuiet w v → IsQuiet r v
quiet_then r w v a b = record { ready = b.ready; left = b.left ∙ a.left; taken = b.taken ∙ a.taken; output = b.output ∙ a.output }

-- some instructions, and then some more
pub leads_then : (m n : ℕ) (r w v : Run) → Leads m r w → Leads n w v → Leads (m + n) r v
leads_then m n r w v a b = record { ends = exec_add r m n ∙ ap (λ (x : Run). exec x n) a.ends ∙ b.ends; quiet = by }
  where
    by : (j : ℕ) → j ≤ m + n → IsQuiet r (exec r j)
    by j le = elim (cases_lt m j) [
      | inl past ↦ (let split : m + (j - m) ≡ j = omega arith in
          let there : exec r j ≡ exec w (j - m) = sym (ap (exec r) split) ∙ exec_add r m (j - m) ∙ ap (λ (x : Run). exec x (j - m)) a.ends in
          let at_w : IsQuiet r w = subst (λ (x : Run). IsQuiet r x) a.ends (a.quiet m (omega arith)) in
          subst (λ (x : Run). IsQuiet r x) (sym there) (quiet_then r w (exec w (j - m)) at_w (b.quiet (j - m) (omega arith))))
      | inr here ↦ a.quiet j here
    ]

-- the machine that was moved has the image's code as before
pub at_moved : (image : Image) (r : Run) (from : ℕ) (registers : List ℕ) (to : ℕ) → IsAt image r.state from → length registers ≡ length r.state.registers → IsAt image (moved_to r registers to).state to
at_moved image r from registers to h same = record { ready = refl; has = record { len = h.has.len; long = h.has.long; bytes = h.has.bytes }; count = same ∙ h.count; place = refl }
