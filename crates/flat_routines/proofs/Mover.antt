-- What the mover does: it copies each element, in the order of their positions.
use Rattle.std.proofs.Common.{◌≡◌, ℕ, zero, suc, ◌+◌, ◌-◌, ◌*◌, ◌/◌, ◌%◌, ◌^◌, ◌<◌, ◌≤◌, List, [], ◌∷◌, length, false, cond, Some, refl, sym, ap, ◌∙◌, subst, arith}
use Rattle.std.specs.Prelude.{slice_get, ◌==◌}
use Rattle.std.proofs.lemmas.Bool.Decides.{nat_tests}
use Rattle.std.proofs.Math.Nat.{suc-mul, mul-le-mul_right}
use Rattle.behaviour.specs.Behaviour.{Running, Behaviour}
use Rattle.rv_machine.specs.Alu.{quotient_unsigned, remainder_unsigned}
use Rattle.flat_ir.specs.Bytes.{Bytes}
use Rattle.flat_ir.specs.Ranges.{AreBytes, MayUse, copied}
use Rattle.flat_ir.specs.Placement.{Places}
use Rattle.flat_ir.specs.Tree.{Expr, Val, Procedure}
use Rattle.flat_ir.specs.Flat.{World, seen, with_memory, Next, Back, Leaves, evals, turns, inside, nowhere, meaning, calls_of}
use Rattle.flat_ir.specs.Comes.{Exactly}
use Rattle.flat_ir.proofs.Exact.{done, counted, ending, joined, ticks, load_known, if_zero, if_some, if_less}
use Rattle.flat_routines.specs.Short.{less, turn, statements}
use Rattle.flat_routines.specs.Copying.{Copies}
use Rattle.flat_routines.specs.Dims.{Dim, count, offset, element, DimsAt}
use Rattle.flat_routines.specs.Moving.{dim_turn, copy_turn, element_turn}
use Rattle.flat_routines.proofs.Order.{digits, some_extent, quotient_less}
use Rattle.flat_routines.proofs.Moves.{moves, moves_bytes}

quotient_is : (a b : ℕ) → 0 < b → quotient_unsigned a b ≡ a / b
quotient_is a b h = let t : (b == 0) ≡ false = grind (arith, nat_tests) in ap (λ t. cond t (2 ^ 64 - 1) (a / b)) t

remainder_is : (a b : ℕ) → 0 < b → remainder_unsigned a b ≡ a % b
remainder_is a b h = let t : (b == 0) ≡ false = grind (arith, nat_tests) in ap (λ t. cond t a (a % b)) t

wrapped_sum : (a b : ℕ) → (a % 2 ^ 64 + b % 2 ^ 64) % 2 ^ 64 ≡ (a + b) % 2 ^ 64
wrapped_sum a b = omega arith

regrouped : (a b c : ℕ) → (a + b + c) % 2 ^ 64 ≡ (a + (b + c)) % 2 ^ 64
regrouped a b c = omega arith

module _ (ps : List Procedure) (g : Places) (copy : ℕ) (arguments : List Expr) (d : ℕ) (back : Back) (w : World) where
  abbrev dim_body : Leaves → Next → Next → Next
  dim_body leaves next = meaning (turn (Val 10) dim_turn) g (calls_of ps g d) d back (inside next leaves)

  abbrev element_body : Next → Next
  element_body = meaning (turn (less (Val 6) (Val 5)) (element_turn copy arguments)) g (calls_of ps g d) d back (inside (λ env w. back [] w) nowhere)

  -- what follows it
  abbrev behind : ℕ → Next
  behind fuel = meaning (statements (copy_turn copy arguments)) g (calls_of ps g d) d back (inside (λ env w. back [] w) nowhere) (turns fuel element_body)

  -- the loop over the dimensions finds the element at a position
  dims_loop : {t : Behaviour} {j : ℕ} (leaves : Leaves) (next : Next) (m : Bytes) (ds : List Dim) (fuel c b l r tb n k q e at left x first sum a : ℕ) → q ≡ first → e ≡ sum % 2 ^ 64 → at ≡ a → left ≡ length ds → a + length ds * 24 < 2 ^ 64 → first < count ds → DimsAt g.areas m a ds → length ds ≤ fuel
      → ((q e at left x : ℕ) → e ≡ (sum + offset ds (digits first ds)) % 2 ^ 64 → Exactly (seen w Running) j t (next (c ∷ b ∷ l ∷ r ∷ tb ∷ n ∷ k ∷ q ∷ e ∷ at ∷ left ∷ x ∷ []) (with_memory w m)))
      → Exactly (seen w Running) (length ds + j) t (dim_body leaves next (turns fuel (dim_body leaves next)) (c ∷ b ∷ l ∷ r ∷ tb ∷ n ∷ k ∷ q ∷ e ∷ at ∷ left ∷ x ∷ []) (with_memory w m))
  dims_loop {t} {j} leaves next m [] fuel c b l r tb n k q e at left x first sum a eq ee ea el narrow small there enough go =
      if_zero left _ _ el (counted (omega arith) (go q e at left x (ee ∙ omega arith)))
  dims_loop {t} {j} leaves next m (y ∷ ds) zero c b l r tb n k q e at left x first sum a eq ee ea el narrow small there enough go = absurd (omega arith)
  dims_loop {t} {j} leaves next m (y ∷ ds) (suc fuel) c b l r tb n k q e at left x first sum a eq ee ea el narrow small there enough go =
      let some : 0 < y.extent = some_extent first y ds small in
      let step = first % y.extent * y.stride in
      let step_is : remainder_unsigned q y.extent * y.stride ≡ step = ap (λ r. r * y.stride) (remainder_is q y.extent some ∙ ap (λ q. q % y.extent) eq) in
      if_some left _ _ (omega arith)
      (load_known g.areas _ _ 8 m (a + 8) y.extent (omega arith) there.0
      (load_known g.areas _ _ 8 m (a + 16) y.stride (omega arith) there.1
      (counted (omega arith) (ticks (with_memory w m) _ refl
      (dims_loop leaves next m ds fuel c b l r tb n k _ _ _ _ _ (first / y.extent) (sum + step) (a + 24)
      (quotient_is q y.extent some ∙ ap (λ q. q / y.extent) eq)
      (ap (λ e. (e + remainder_unsigned q y.extent * y.stride % 2 ^ 64) % 2 ^ 64) ee ∙ (ap (λ v. (sum % 2 ^ 64 + v % 2 ^ 64) % 2 ^ 64) step_is ∙ wrapped_sum sum step))
      (omega arith) (omega arith) (omega arith) (quotient_less first y.extent (count ds) small) there.2 (omega arith)
      (λ q e at left x h. go q e at left x (h ∙ regrouped sum step (offset ds (digits (first / y.extent) ds)))))))))

  module _ (copying : Procedure) (copies : Copies copying) (has_copy : slice_get ps copy ≡ Some copying) (room : w.frames ≤ g.frames)
      (packed base len table : ℕ) (dims : List Dim) (to_of from_of : ℕ → ℕ → ℕ)
      (goes : (c e b l r tb n k q at left x : ℕ) (w : World) (next : List ℕ → Behaviour) → evals arguments g (c ∷ b ∷ l ∷ r ∷ tb ∷ n ∷ k ∷ q ∷ e ∷ at ∷ left ∷ x ∷ []) w next ≡ next (to_of c e ∷ from_of c e ∷ l ∷ [])) where
    abbrev target : ℕ → ℕ
    target k = to_of (packed + k * len) (element base dims (digits k dims))

    abbrev source : ℕ → ℕ
    source k = from_of (packed + k * len) (element base dims (digits k dims))

    abbrev after : ℕ → Bytes
    after k = moves target source len w.memory k

    pub elements_loop : base < 2 ^ 64 → packed + count dims * len < 2 ^ 64 → count dims < 2 ^ 64 → table + length dims * 24 < 2 ^ 64 → AreBytes w.memory → length dims ≤ d → len < d
        → ((k : ℕ) → k < count dims → MayUse g.areas (target k) len) → ((k : ℕ) → k < count dims → MayUse g.areas (source k) len) → ((k : ℕ) → k < count dims → DimsAt g.areas (after k) table dims)
        → (left fuel k c v q e at lf x : ℕ) (m : Bytes) → v ≡ k → c ≡ packed + k * len → m ≡ after k → k + left ≡ count dims → left ≤ fuel
        → Exactly (seen w Running) (left * (len + length dims + 2)) (back [] (with_memory w (after (count dims)))) (element_body (turns fuel element_body) (c ∷ base ∷ len ∷ length dims ∷ table ∷ count dims ∷ v ∷ q ∷ e ∷ at ∷ lf ∷ x ∷ []) (with_memory w m))
    elements_loop fits narrow small table_ends bytes enough deep ut uf kept zero fuel k c v q e at lf x m ev ec em sum le =
        let last : k ≡ count dims = omega arith in
        if_less v (count dims) _ _ (λ h. absurd (omega arith)) (λ h. ending (ap (λ m. back [] (with_memory w m)) (em ∙ ap after last)) (counted (omega arith) done))
    elements_loop fits narrow small table_ends bytes enough deep ut uf kept (suc left) zero k c v q e at lf x m ev ec em sum le = absurd (omega arith)
    elements_loop fits narrow small table_ends bytes enough deep ut uf kept (suc left) (suc fuel) k c v q e at lf x m ev ec em sum le =
        let here : k < count dims = omega arith in
        if_less v (count dims) _ _
        (λ h.
        counted (one_more left) (dims_loop (inside (λ env w. back [] w) nowhere) (behind (suc fuel)) m dims d c base len (length dims) table (count dims) v _ _ _ _ _ k base table ev (omega arith) refl refl table_ends here there enough
        (λ q e at lf x h.
        let to_is : to_of c e ≡ target k = ap (λ c. to_of c e) ec ∙ ap (λ e. to_of (packed + k * len) e) h in
        let from_is : from_of c e ≡ source k = ap (λ c. from_of c e) ec ∙ ap (λ e. from_of (packed + k * len) e) h in
        let m' = copied m (to_of c e) (from_of c e) len in
        let m'_is : m' ≡ after (suc k) = ap (λ m. copied m (to_of c e) (from_of c e) len) em ∙ (ap (λ a. copied (after k) a (from_of c e) len) to_is ∙ ap (λ a. copied (after k) (target k) a len) from_is) in
        subst (λ r. Exactly (seen w Running) (len + 1 + suc (left * (len + length dims + 2))) (back [] (with_memory w (after (count dims)))) r) (sym (goes c e base len (length dims) table (count dims) v q at lf x (with_memory w m) _))
        (joined (copies ps g copy has_copy d (to_of c e) (from_of c e) len (with_memory w m) _ room (record {
          target = subst (λ a. MayUse g.areas a len) (sym to_is) (ut k here);
          source = subst (λ a. MayUse g.areas a len) (sym from_is) (uf k here);
          bytes = subst AreBytes (sym em) (moves_bytes target source len w.memory k bytes);
        }) deep)
        (ticks (with_memory w m') _ refl
        (elements_loop fits narrow small table_ends bytes enough deep ut uf kept left fuel (suc k) _ _ q e at lf x m' (omega arith) (next_place c ec) m'_is (omega arith) (omega arith)))))))
        (λ h. absurd (omega arith))
      where
        one_more : (left : ℕ) → length dims + (len + 1 + suc (left * (len + length dims + 2))) ≡ suc left * (len + length dims + 2)
        one_more left = let e = suc-mul left (len + length dims + 2) in omega (arith, e)

        there : DimsAt g.areas m table dims
        there = subst (λ (m : Bytes). DimsAt g.areas m table dims) (sym em) (kept k (omega arith))

        next_place : (c : ℕ) → c ≡ packed + k * len → (c + len) % 2 ^ 64 ≡ packed + suc k * len
        next_place c ec =
            let less : suc k ≤ count dims = omega arith in
            let le : suc k * len ≤ count dims * len = mul-le-mul_right len less in
            let e = suc-mul k len in
            omega (arith, e, le, narrow, ec)
