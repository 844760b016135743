-- Work with no bound but its units: each form as an equation.
use Rattle.std.proofs.Common.{ℕ, zero, suc, List, ◌≡◌, ◌≤◌, refl, arith}
use Rattle.std.specs.Prelude.{Option, Some, None}
use Rattle.work.specs.Units.{unit, ended}
use Rattle.work.specs.Work.{Outcome, Again, Left, Returned, Work, Over, Do, Call, Loop, Procedure, End, Running, Rules}
use Rattle.work.specs.Run.{World, Told, told, Run, over, with_memory, does, Back, again, run, result_of, entered, calls_of, begun, starting, whole, seen}
use Rattle.work.specs.Whole.{free, around, through, from}
use Rattle.work.proofs.Depth.{AgreeBack, does_agree, again_agree, run_agree, calls_agree}

pub unit_same : {S : Type 0} (now : S) (r r' : ℕ → S) → ((m : ℕ) → r m ≡ r' m) → (n : ℕ) → unit now r n ≡ unit now r' n
unit_same now r r' h zero = refl
unit_same now r r' h (suc n) = h n

-- a unit, and an end, as they are seen: what Same and Sheds speak of
pub seen_unit : {P : Type 0} (now : Told P) (r : Run P) (n : ℕ) → seen (unit now r n) ≡ unit (seen now) (λ m. seen (r m)) n
seen_unit now r zero = refl
seen_unit now r (suc n) = refl

pub seen_over : {M P : Type 0} (w : World M) (e : End P) (n : ℕ) → seen (over w e n) ≡ ended (seen (told {P = P} w Running)) (seen (told w e)) n
seen_over w e zero = refl
seen_over w e (suc n) = refl

module _ {A V M P : Type 0} (r : Rules A V M P) (ps : ℕ → Procedure A V P) where
  any_depth : (d m : ℕ) → m ≤ d → (c : Work A V P) (back back' : Back V M P) → AgreeBack m back back' → (w : World M) → run r (calls_of r ps d) d c back w m ≡ run r (calls_of r ps m) m c back' w m
  any_depth d m le c back back' h w =
      run_agree r m (calls_of r ps d) (calls_of r ps m) (calls_agree r ps m d m le (omega arith)) d m le (omega arith) c m (omega arith) back back' h w m (omega arith)

  pub free_over : (o : Outcome V) (back : Back V M P) (w : World M) (n : ℕ) → free r ps (Over o) back w n ≡ back o w n
  free_over o back w n = refl

  pub free_do : (at : P) (a : A) (k : V → Work A V P) (back : Back V M P) (w : World M) (n : ℕ) → free r ps (Do at a k) back w n ≡ does (r.deed at a w.memory) w (λ v. free r ps (k v) back) n
  free_do at a k back w n = does_agree n (r.deed at a w.memory) w _ _ (λ v w' m le. any_depth n m le (k v) back back (λ o w'' i le'. refl) w') n (omega arith)

  around_agree : (n : ℕ) (body : List V → Work A V P) (k : Outcome V → Work A V P) (back : Back V M P) (d : ℕ) → d ≤ n
      → AgreeBack d (again d (λ t. run r (calls_of r ps n) n (body t)) (λ o. run r (calls_of r ps n) n (k o) back)) (around r ps body k back)
  around_agree n body k back zero le (Again s) w zero lo = refl
  around_agree n body k back zero le (Again s) w (suc m) lo = absurd (omega arith)
  around_agree n body k back (suc d) le (Again s) w zero lo = refl
  around_agree n body k back (suc d) le (Again s) w (suc m) lo =
      run_agree r m (calls_of r ps n) (calls_of r ps m) (calls_agree r ps m n m (omega arith) (omega arith)) n m (omega arith) (omega arith) (body s) m (omega arith) _ _
      (again_agree m (λ t. run r (calls_of r ps n) n (body t)) (λ t. run r (calls_of r ps m) m (body t))
      (λ i le' t b b' hb w'' j le''. run_agree r m (calls_of r ps n) (calls_of r ps m) (calls_agree r ps m n m (omega arith) (omega arith)) n m (omega arith) (omega arith) (body t) i le' b b' hb w'' j le'')
      d m m (omega arith) (omega arith) (omega arith) _ _
      (λ o w'' j le'. run_agree r m (calls_of r ps n) (calls_of r ps m) (calls_agree r ps m n m (omega arith) (omega arith)) n m (omega arith) (omega arith) (k o) m (omega arith) back back (λ o' w3 i le''. refl) w'' j le'))
      w m (omega arith)
  around_agree n body k back zero le (Left s) w m lo = any_depth n m (omega arith) (k (Left s)) back back (λ o w' i le'. refl) w
  around_agree n body k back (suc d) le (Left s) w m lo = any_depth n m (omega arith) (k (Left s)) back back (λ o w' i le'. refl) w
  around_agree n body k back zero le (Returned s) w m lo = any_depth n m (omega arith) (k (Returned s)) back back (λ o w' i le'. refl) w
  around_agree n body k back (suc d) le (Returned s) w m lo = any_depth n m (omega arith) (k (Returned s)) back back (λ o w' i le'. refl) w

  pub free_loop : (s : List V) (body : List V → Work A V P) (k : Outcome V → Work A V P) (back : Back V M P) (w : World M) (n : ℕ) → free r ps (Loop s body k) back w n ≡ free r ps (body s) (around r ps body k back) w n
  free_loop s body k back w n = any_depth n n (omega arith) (body s) _ (around r ps body k back) (around_agree n body k back n (omega arith)) w

  pub free_call : (p : ℕ) (vs : List V) (k : List V → Work A V P) (back : Back V M P) (w : World M) (n : ℕ)
      → free r ps (Call p vs k) back w n ≡ through r ps (ps p) vs w (λ v. free r ps (k v) back) (r.enter (ps p).frame w.memory) n
  free_call p vs k back w zero = zero_case (r.enter (ps p).frame w.memory)
    where
      zero_case : (o : Option M) → free r ps (Call p vs k) back w 0 ≡ through r ps (ps p) vs w (λ v. free r ps (k v) back) o 0
      zero_case None = refl
      zero_case (Some m) = refl
  free_call p vs k back w (suc n) = suc_case (r.enter (ps p).frame w.memory)
    where
      suc_case : (o : Option M) → entered r (calls_of r ps n) n (ps p) vs w (λ v. run r (calls_of r ps (suc n)) (suc n) (k v) back) o (suc n) ≡ through r ps (ps p) vs w (λ v. free r ps (k v) back) o (suc n)
      suc_case None = refl
      suc_case (Some m) =
          any_depth n n (omega arith) ((ps p).work vs) _ _
          (λ o w' j le. any_depth (suc n) j (omega arith) (k (result_of o)) back back (λ o' w'' i le'. refl) (with_memory w' (r.leave (ps p).frame w'.memory))) (with_memory w m)

  pub whole_is : (main : Procedure A V P) (m : M) (input : List ℕ) (n : ℕ) → whole r ps main m input n ≡ from r ps main (starting m input) (r.enter main.frame m) n
  whole_is main m input n = go (r.enter main.frame m)
    where
      go : (o : Option M) → begun r (calls_of r ps n) n main (starting m input) o n ≡ from r ps main (starting m input) o n
      go None = refl
      go (Some m') = refl
