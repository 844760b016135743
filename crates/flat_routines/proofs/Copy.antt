-- `copy_bytes` copies.
use Rattle.std.proofs.Common.{◌≡◌, ℕ, zero, suc, ◌+◌, ◌-◌, ◌%◌, ◌^◌, ◌<◌, ◌≤◌, List, [], ◌∷◌, Bool, true, false, refl, sym, ap, ◌∙◌, subst, arith, inl, inr}
use Rattle.std.specs.Prelude.{◌⊎◌, nat_le}
use Rattle.std.proofs.lemmas.Bool.Decides.{nat_tests}
use Rattle.behaviour.specs.Behaviour.{Running}
use Rattle.flat_ir.specs.Bytes.{Bytes, number, put}
use Rattle.flat_ir.specs.Ranges.{AreBytes, MayUse, Apart, copied}
use Rattle.flat_ir.specs.Placement.{Places}
use Rattle.flat_ir.specs.Tree.{Val, Procedure}
use Rattle.flat_ir.specs.Flat.{World, seen, with_memory, Next, Back, turns, inside, nowhere, meaning, calls_of}
use Rattle.flat_ir.specs.Comes.{Exactly}
use Rattle.flat_ir.proofs.Exact.{done, counted, ending, ticks, load, store, if_zero, if_some, if_less, enters_routine}
use Rattle.flat_ir.proofs.Framing.{put_apart, put_bytes, byte_put, copied_there, copied_elsewhere, copied_bytes, is_copied}
use Rattle.flat_routines.specs.Short.{less, turn}
use Rattle.flat_routines.specs.Copying.{down_turn, up_turn, copy_bytes, Copies}

copied_none : (m : Bytes) (to from : ℕ) → m ≡ copied m to from 0
copied_none m to from = is_copied m m to from 0 (λ i l. absurd (omega arith)) (λ i a. refl)

-- the last byte goes first
down_step : (m : Bytes) (to from n : ℕ) → from ≤ to → AreBytes m → copied (put 1 m (to + n) (number 1 m (from + n))) to from n ≡ copied m to from (suc n)
down_step m to from n le bytes = is_copied m (copied m' to from n) to from (suc n) there elsewhere
  where
    m' : Bytes
    m' = put 1 m (to + n) (number 1 m (from + n))

    there : (i : ℕ) → i < suc n → copied m' to from n (to + i) ≡ m (from + i)
    there i l = go (nat_le n i) refl
      where
        go : (b : Bool) → nat_le n i ≡ b → copied m' to from n (to + i) ≡ m (from + i)
        go true e =
            let same : i ≡ n = grind (arith, nat_tests) in
            copied_elsewhere m' to from n (to + i) (inl (omega arith)) ∙ (ap (λ i. m' (to + i)) same ∙ (byte_put m (to + n) (from + n) (bytes (from + n)) ∙ ap (λ i. m (from + i)) (sym same)))
        go false e =
            let less : i < n = grind (arith, nat_tests) in
            copied_there m' to from n i less ∙ put_apart 1 m (to + n) _ (from + i) (inr (omega arith))

    elsewhere : (i : ℕ) → Apart to (suc n) i 1 → copied m' to from n i ≡ m i
    elsewhere i (inl a) = copied_elsewhere m' to from n i (inl (omega arith)) ∙ put_apart 1 m (to + n) _ i (inl (omega arith))
    elsewhere i (inr a) = copied_elsewhere m' to from n i (inr a) ∙ put_apart 1 m (to + n) _ i (inr (omega arith))

-- the first byte goes first
up_step : (m : Bytes) (to from i : ℕ) → Apart to i (from + i) 1 → AreBytes m → put 1 (copied m to from i) (to + i) (number 1 (copied m to from i) (from + i)) ≡ copied m to from (suc i)
up_step m to from i apart bytes = is_copied m m'' to from (suc i) there elsewhere
  where
    m' : Bytes
    m' = copied m to from i

    m'' : Bytes
    m'' = put 1 m' (to + i) (number 1 m' (from + i))

    there : (j : ℕ) → j < suc i → m'' (to + j) ≡ m (from + j)
    there j l = go (nat_le i j) refl
      where
        go : (b : Bool) → nat_le i j ≡ b → m'' (to + j) ≡ m (from + j)
        go true e =
            let same : j ≡ i = grind (arith, nat_tests) in
            ap (λ j. m'' (to + j)) same ∙ (byte_put m' (to + i) (from + i) (copied_bytes m to from i bytes (from + i)) ∙ (copied_elsewhere m to from i (from + i) apart ∙ ap (λ j. m (from + j)) (sym same)))
        go false e =
            let less : j < i = grind (arith, nat_tests) in
            put_apart 1 m' (to + i) _ (to + j) (inr (omega arith)) ∙ copied_there m to from i j less

    elsewhere : (j : ℕ) → Apart to (suc i) j 1 → m'' j ≡ m j
    elsewhere j (inl a) = put_apart 1 m' (to + i) _ j (inl (omega arith)) ∙ copied_elsewhere m to from i j (inl (omega arith))
    elsewhere j (inr a) = put_apart 1 m' (to + i) _ j (inr (omega arith)) ∙ copied_elsewhere m to from i j (inr a)

fewer : {s : _} {a n k : ℕ} → k ≤ n → MayUse s a n → MayUse s a k
fewer {s} {a} {n} {k} le u = record { each = λ i l. u.each i (omega arith); narrow = omega (arith, u.narrow) }

module _ (ps : List Procedure) (g : Places) (d : ℕ) (back : Back) (w : World) where
  abbrev down_body : Next → Next
  down_body = meaning (turn (Val 2) down_turn) g (calls_of ps g d) d back (inside (λ env w. back [] w) nowhere)

  abbrev up_body : Next → Next
  up_body = meaning (turn (less (Val 3) (Val 2)) up_turn) g (calls_of ps g d) d back (inside (λ env w. back [] w) nowhere)

  down : (n fuel to from v x : ℕ) (m : Bytes) → v ≡ n → n ≤ fuel → from ≤ to → MayUse g.areas to n → MayUse g.areas from n → AreBytes m
      → Exactly (seen w Running) n (back [] (with_memory w (copied m to from n))) (down_body (turns fuel down_body) (to ∷ from ∷ v ∷ x ∷ []) (with_memory w m))
  down zero fuel to from v x m e le order rt rf bytes =
      if_zero v _ _ e (ending (ap (λ m. back [] (with_memory w m)) (copied_none m to from)) done)
  down (suc n) zero to from v x m e le order rt rf bytes = absurd (omega arith)
  down (suc n) (suc fuel) to from v x m e le order rt rf bytes =
      if_some v _ _ (omega arith)
      (load g.areas _ _ 1 m (from + n) _ (omega (arith, rf.narrow)) (rf.each n (omega arith)) refl
      (store g.areas _ _ 1 m _ (to + n) _ (omega (arith, rt.narrow)) (rt.each n (omega arith)) refl
      (ticks (with_memory w (put 1 m (to + n) (number 1 m (from + n)))) _ refl
      (ending (ap (λ m. back [] (with_memory w m)) (down_step m to from n order bytes))
      (down n fuel to from _ x _ (omega arith) (omega arith) order (fewer (omega arith) rt) (fewer (omega arith) rf) (put_bytes 1 m _ _ bytes))))))

  up : (left fuel i to from n v : ℕ) (m : Bytes) → v ≡ i → i + left ≡ n → left ≤ fuel → (to ≤ from) ⊎ (from + n ≤ to) → MayUse g.areas to n → MayUse g.areas from n → AreBytes m
      → Exactly (seen w Running) left (back [] (with_memory w (copied m to from n))) (up_body (turns fuel up_body) (to ∷ from ∷ n ∷ v ∷ []) (with_memory w (copied m to from i)))
  up zero fuel i to from n v m e sum le order rt rf bytes =
      if_less v n _ _ (λ h. absurd (omega arith)) (λ h. ending (ap (λ i. back [] (with_memory w (copied m to from i))) (omega arith)) done)
  up (suc left) zero i to from n v m e sum le order rt rf bytes = absurd (omega arith)
  up (suc left) (suc fuel) i to from n v m e sum le order rt rf bytes =
      if_less v n _ _
      (λ h.
      load g.areas _ _ 1 _ (from + i) _ (omega (arith, rf.narrow)) (rf.each i (omega arith)) refl
      (store g.areas _ _ 1 _ (copied m to from (suc i)) (to + i) _ (omega (arith, rt.narrow)) (rt.each i (omega arith)) (up_step m to from i (apart order) bytes)
      (ticks (with_memory w (copied m to from (suc i))) _ refl
      (up left fuel (suc i) to from n _ m (omega (arith, rt.narrow)) (omega arith) (omega arith) order rt rf bytes))))
      (λ h. absurd (omega arith))
    where
      apart : (to ≤ from) ⊎ (from + n ≤ to) → Apart to i (from + i) 1
      apart (inl a) = inl (omega arith)
      apart (inr a) = inr (omega arith)

pub copies : Copies copy_bytes
copies ps g p here d to from n w back room c fuel =
    counted (omega arith) (enters_routine ps g p _ _ _ d n _ _ w back refl here refl room fuel
    (λ d le. if_less ((to + (2 ^ 64 - from)) % 2 ^ 64) n _ _
    (λ h. down ps g d back w n d to from n 0 w.memory refl le (omega (arith, c.target.narrow, c.source.narrow)) c.target c.source c.bytes)
    (λ h. ups d le h)))
  where
    ups : (d : ℕ) → n ≤ d → n ≤ (to + (2 ^ 64 - from)) % 2 ^ 64 → Exactly (seen w Running) n (back [] (with_memory w (copied w.memory to from n))) (up_body ps g d back w (turns d (up_body ps g d back w)) (to ∷ from ∷ n ∷ 0 ∷ []) w)
    ups d le h =
        subst (λ (m : Bytes). Exactly (seen w Running) n (back [] (with_memory w (copied w.memory to from n))) (up_body ps g d back w (turns d (up_body ps g d back w)) (to ∷ from ∷ n ∷ 0 ∷ []) (with_memory w m)))
        (sym (copied_none w.memory to from))
        (up ps g d back w n d 0 to from n 0 w.memory refl (omega arith) le (go (nat_le to from) refl) c.target c.source c.bytes)
      where
        go : (b : Bool) → nat_le to from ≡ b → (to ≤ from) ⊎ (from + n ≤ to)
        go true e = inl (grind (arith, nat_tests))
        go false e = let after : from < to = grind (arith, nat_tests) in inr (omega (arith, c.target.narrow, c.source.narrow))
