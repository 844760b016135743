-- Steps of the blocks and instructions of the machine, by what is seen of them.
use Rattle.std.proofs.Common.{◌≡◌, ℕ, zero, suc, ◌+◌, ◌≤◌, List, refl, sym, ap, ◌∙◌, subst, arith}
use Rattle.behaviour.specs.Behaviour.{Seen, Behaviour}
use Rattle.work.specs.Units.{unit, ended}
use Rattle.work.specs.Same.{Same, Ready}
use Rattle.work.proofs.Same.{less, constant, ready, tick_ready}
use Rattle.work.proofs.Leads as W
use Rattle.rv_machine.specs.declared.event.Event.{Event}
use Rattle.rv_machine.specs.declared.event.Mode.{Mode}
use Rattle.rv_machine.specs.declared.event.Mode.TheVariants as mode
use Rattle.rv_machine.specs.Exec.{Run, turn, exec}
use Rattle.rv_machine.proofs.Laws.{exec_ended}
use Rattle.image_run.specs.Behaviour.{seen, mode_ending}
use Rattle.assembled_run.specs.Machine.{Leads, IsQuiet}

-- what is seen of a run from now on
abbrev pub shown : Run → Behaviour
shown r = λ j. seen (exec r j)

exec_front : (r : Run) (m : ℕ) → exec r (suc m) ≡ exec (turn r) m
exec_front r zero = refl
exec_front r (suc m) = ap turn (exec_front r m)

abbrev seen_of : List ℕ → ℕ → Mode → Seen
seen_of output taken m = record { output = output; taken = taken; ending = mode_ending m }

quiet_seen : (r w : Run) → r.state.mode ≡ mode.Ready → IsQuiet r w → seen w ≡ seen r
quiet_seen r w ready q = same r.output w.output r.taken w.taken r.state.mode w.state.mode q.output q.taken (q.ready ∙ sym ready)
  where
    same : (o o' : List ℕ) (t t' : ℕ) (m m' : Mode) → o' ≡ o → t' ≡ t → m' ≡ m → seen_of o' t' m' ≡ seen_of o t m
    same o o' t t' m m' p q s = λ i. record { output = p i; taken = q i; ending = mode_ending (s i) }

module _ (K : ℕ) (some : 1 ≤ K) where
  -- one instruction on which nothing is seen
  one_leads : (r : Run) → seen r ≡ seen (turn r) → W.Leads K some 1 (shown r) (shown (turn r))
  one_leads r e = W.one K some (shown r) (shown (turn r)) e (λ j. ap seen (exec_front r j))

  each_leads : (n : ℕ) (r : Run) → ((j : ℕ) → j ≤ n → seen (exec r j) ≡ seen r) → W.Leads K some n (shown r) (shown (exec r n))
  each_leads zero r h = W.still K some (shown r)
  each_leads (suc n) r h =
      let first : seen (turn r) ≡ seen r = h 1 (omega arith) in
      let rest = each_leads n (turn r) (λ j le. ap seen (sym (exec_front r j)) ∙ (h (suc j) (omega arith) ∙ sym first)) in
      let l : 1 + n ≡ suc n = omega arith in
      subst (λ w. W.Leads K some (suc n) (shown r) (shown w)) (sym (exec_front r n)) (W.join K some 1 n (suc n) (shown r) (shown (turn r)) (shown (exec (turn r) n)) l (one_leads r (sym first)) rest)

  -- the machine's own steps lead so
  pub leads : (n : ℕ) (r r' : Run) → Leads n r r' → W.Leads K some n (shown r) (shown r')
  leads n r r' l =
      let now : r.state.mode ≡ mode.Ready = (l.quiet 0 (omega arith)).ready in
      subst (λ w. W.Leads K some n (shown r) (shown w)) l.ends (each_leads n r (λ j le. quiet_seen r (exec r j) now (l.quiet j le)))

  leads_seen : (n : ℕ) (r r' : Run) → Leads n r r' → seen r' ≡ seen r
  leads_seen n r r' l =
      let now : r.state.mode ≡ mode.Ready = (l.quiet 0 (omega arith)).ready in
      ap seen (sym l.ends) ∙ quiet_seen r (exec r n) now (l.quiet n (omega arith))

  -- some instructions, one on which something may be seen, and some more are a step
  pub stepped : (n k1 k2 : ℕ) (now : Seen) (a : Behaviour) (r r1 r2 r3 : Run) → Leads k1 r r1 → turn r1 ≡ r2 → Leads k2 r2 r3 → k1 + k2 + 1 ≤ K → seen r ≡ now → Same K 0 n a (shown r3) → Same K 0 (suc n) (unit now a) (shown r)
  stepped n k1 k2 now a r r1 r2 r3 l1 t l2 le e s =
      let w1 = leads k1 r r1 l1 in
      let w2 = leads k2 r2 r3 l2 in
      let next : (m : ℕ) → suc m ≤ suc n → Same K (0 + k2) m a (shown r2) = λ m h. w2.same 0 m a (less K some 0 n m a (shown r3) (omega arith) s) in
      let here : Ready K (0 + k2 + 1) (suc n) (unit now a) (shown r1) = tick_ready K some (0 + k2) (suc n) now a (shown r1) (shown r2) (leads_seen k1 r r1 l1 ∙ e) (λ j. ap seen (exec_front r1 j ∙ ap (λ (x : Run). exec x j) t)) next in
      ready K some (0 + k2 + 1 + k1) (suc n) (unit now a) (shown r) (omega arith) (w1.ready (0 + k2 + 1) (suc n) (unit now a) here)

  -- instructions on which nothing is seen
  pub quietly : (n k : ℕ) (now : Seen) (a : Behaviour) (r r' : Run) → Leads k r r' → 1 ≤ k → k ≤ K → seen r ≡ now → Same K 0 n a (shown r') → Same K 0 (suc n) (unit now a) (shown r)
  quietly n zero now a r r' l some' le e s = absurd (omega arith)
  quietly n (suc k) now a r r' l some' le e s = go (turn r) refl
    where
      go : (w : Run) → turn r ≡ w → Same K 0 (suc n) (unit now a) (shown r)
      go w t =
          let rest : W.Leads K some k (shown (turn r)) (shown r') = subst (λ x. W.Leads K some k (shown (turn r)) (shown x)) (sym (exec_front r k) ∙ l.ends) (each_leads k (turn r) (λ j h. each (suc j) (omega arith) j refl ∙ sym (each 1 (omega arith) 0 refl))) in
          let next : (m : ℕ) → suc m ≤ suc n → Same K (0 + k) m a (shown (turn r)) = λ m h. rest.same 0 m a (less K some 0 n m a (shown r') (omega arith) s) in
          ready K some (0 + k + 1) (suc n) (unit now a) (shown r) (omega arith) (tick_ready K some (0 + k) (suc n) now a (shown r) (shown (turn r)) e (λ j. ap seen (exec_front r j)) next)
        where
          now' : r.state.mode ≡ mode.Ready
          now' = (l.quiet 0 (omega arith)).ready

          each : (i : ℕ) → i ≤ suc k → (j : ℕ) → i ≡ suc j → seen (exec (turn r) j) ≡ seen r
          each i h j e = ap seen (sym (exec_front r j)) ∙ quiet_seen r (exec r (suc j)) now' (l.quiet (suc j) (omega arith))

  -- the end
  pub ends_so : (n k : ℕ) (now end : Seen) (r r1 r2 : Run) (ev : Event) → Leads k r r1 → turn r1 ≡ r2 → r2.state.mode ≡ mode.Ended ev → seen r2 ≡ end → k + 1 ≤ K → seen r ≡ now → Same K 0 n (ended now end) (shown r)
  ends_so n k now end r r1 r2 ev l t over is le e =
      let w1 = leads k r r1 l in
      let for_ever : (j : ℕ) → seen (exec r2 j) ≡ end = λ j. ap seen (exec_ended r2 0 j ev over (omega arith)) ∙ is in
      let here : Ready K (0 + 1) n (ended now end) (shown r1) = tick_ready K some 0 n now (λ i. end) (shown r1) (shown r2) (leads_seen k r r1 l ∙ e) (λ j. ap seen (exec_front r1 j ∙ ap (λ (x : Run). exec x j) t)) (λ m h. constant K some 0 m end (shown r2) for_ever) in
      ready K some (0 + 1 + k) n (ended now end) (shown r) (omega arith) (w1.ready (0 + 1) n (ended now end) here)
