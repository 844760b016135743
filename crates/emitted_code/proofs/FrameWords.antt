-- Words of a frame, near and far.
use Rattle.std.proofs.Common.{◌≡◌, ℕ, ◌+◌, ◌%◌, ◌^◌, ◌<◌, ◌≤◌, Bool, true, false, cond, List, [], ◌∷◌, ◌++◌, length, refl, sym, ap, ◌∙◌, subst, arith, length-append}
use Rattle.std.specs.Prelude.{nat_lt}
use Rattle.jf_base.specs.declared.numbers.Width.TheVariants.{W8}
use Rattle.flat_ir.specs.declared.program.Operation.TheVariants as O
use Rattle.flat_ir.specs.Bytes.{number, put}
use Rattle.emitted_code.specs.Straight.{Straight, Operate, LoadFrom, StoreTo, load_number, load_word, store_word}
use Rattle.emitted_code.proofs.Data.{Data, set, acts, acts_append, IsTarget, Reach, AreSafe, safe_append, Gets, gets_append, gets_one, Small}
use Rattle.emitted_code.proofs.Constants.{gets_number, number_few}

-- a word is in memory; no register has changed but x7
pub record Puts (low high a v : ℕ) (d : Data) (xs : List Straight) : Type 0 where
  pub others : (r : ℕ) → ¬ (r ≡ 7) → (acts xs d).regs r ≡ d.regs r
  pub mem : (acts xs d).mem ≡ put 8 d.mem a v
  pub safe : AreSafe low high xs d
  pub small : Small d.regs → Small (acts xs d).regs

pub regroup : (xs : List Straight) (x : Straight) (ys : List Straight) → (xs ++ x ∷ []) ++ ys ≡ xs ++ (x ∷ ys)
regroup [] x ys = refl
regroup (z ∷ xs) x ys = ap (λ t. z ∷ t) (regroup xs x ys)

module _ (low high : ℕ) (bounded : high ≤ 2 ^ 63) where
  -- the address of a far word is in x7
  gets_address : (offset : ℕ) (d : Data) → Reach low high 8 (d.regs 2 + offset) → d.regs 0 ≡ 0 → Gets low high 7 (d.regs 2 + offset) d (load_number 7 offset ++ Operate O.Add 7 7 2 ∷ [])
  gets_address offset d h z =
      let t : IsTarget 7 = (omega arith, omega arith) in
      let up = h.2 in
      let g = gets_number low high 7 offset d t (omega arith) z in
      let d1 = acts (load_number 7 offset) d in
      let e : (d1.regs 7 + d1.regs 2) % 2 ^ 64 ≡ d.regs 2 + offset = (let e7 = g.value in let e2 = g.others 2 (λ x. omega arith) (λ x. omega arith) in omega arith) in
      gets_append low high 7 7 offset (d.regs 2 + offset) d (load_number 7 offset) (Operate O.Add 7 7 2 ∷ []) refl g
      (gets_one low high 7 (d.regs 2 + offset) d1 (Operate O.Add 7 7 2) (ap (set d1 7) e) (t, omega arith, omega arith) (omega arith))

  pub gets_word : (rd offset v : ℕ) (d : Data) → IsTarget rd → Reach low high 8 (d.regs 2 + offset) → d.regs 0 ≡ 0 → number 8 d.mem (d.regs 2 + offset) ≡ v → v < 2 ^ 64 → Gets low high rd v d (load_word rd offset)
  gets_word rd offset v d t h z is l = by (nat_lt offset 2048)
    where
      up : d.regs 2 + offset + 8 ≤ high
      up = h.2

      here : (d.regs 2 + offset) % 2 ^ 64 ≡ d.regs 2 + offset
      here = omega arith

      near : Gets low high rd v d (LoadFrom W8 false rd 2 offset ∷ [])
      near = gets_one low high rd v d (LoadFrom W8 false rd 2 offset) (ap (λ a. set d rd (number 8 d.mem a)) here ∙ ap (set d rd) is) (t, omega arith, subst (λ a. Reach low high 8 a) (sym here) h) l

      front : List Straight
      front = load_number 7 offset

      d1 : Data
      d1 = acts (front ++ Operate O.Add 7 7 2 ∷ []) d

      g : Gets low high 7 (d.regs 2 + offset) d (front ++ Operate O.Add 7 7 2 ∷ [])
      g = gets_address offset d h z

      there : (d1.regs 7 + 0) % 2 ^ 64 ≡ d.regs 2 + offset
      there = let e = g.value in omega arith

      last : Gets low high rd v d1 (LoadFrom W8 false rd 7 0 ∷ [])
      last = gets_one low high rd v d1 (LoadFrom W8 false rd 7 0) (ap (λ a. set d1 rd (number 8 d1.mem a)) there ∙ ap (λ m. set d1 rd (number 8 m (d.regs 2 + offset))) g.mem ∙ ap (set d1 rd) is) (t, omega arith, subst (λ a. Reach low high 8 a) (sym there) h) l

      both : Gets low high rd v d ((front ++ Operate O.Add 7 7 2 ∷ []) ++ LoadFrom W8 false rd 7 0 ∷ [])
      both =
          let s = sym (acts_append (front ++ Operate O.Add 7 7 2 ∷ []) (LoadFrom W8 false rd 7 0 ∷ []) d) in
          record {
            value = ap (λ (w : Data). w.regs rd) (sym s) ∙ last.value;
            others = λ r n m. ap (λ (w : Data). w.regs r) (sym s) ∙ (last.others r n m ∙ g.others r m m);
            mem = ap (λ (w : Data). w.mem) (sym s) ∙ (last.mem ∙ g.mem);
            safe = safe_append low high (front ++ Operate O.Add 7 7 2 ∷ []) (LoadFrom W8 false rd 7 0 ∷ []) d g.safe last.safe;
            small = λ h. subst (λ (w : Data). Small w.regs) s (last.small (g.small h));
          }

      by : (b : Bool) → Gets low high rd v d (cond b (LoadFrom W8 false rd 2 offset ∷ []) (front ++ (Operate O.Add 7 7 2 ∷ LoadFrom W8 false rd 7 0 ∷ [])))
      by true = near
      by false = subst (λ xs. Gets low high rd v d xs) (regroup front (Operate O.Add 7 7 2) (LoadFrom W8 false rd 7 0 ∷ [])) both

  pub puts_word : (rs offset : ℕ) (d : Data) → rs < 32 → ¬ (rs ≡ 7) → Reach low high 8 (d.regs 2 + offset) → d.regs 0 ≡ 0 → Puts low high (d.regs 2 + offset) (d.regs rs) d (store_word rs offset)
  puts_word rs offset d l n h z = by (nat_lt offset 2048)
    where
      up : d.regs 2 + offset + 8 ≤ high
      up = h.2

      here : (d.regs 2 + offset) % 2 ^ 64 ≡ d.regs 2 + offset
      here = omega arith

      near : Puts low high (d.regs 2 + offset) (d.regs rs) d (StoreTo W8 rs 2 offset ∷ [])
      near = record {
        others = λ r m. refl;
        mem = ap (λ a. put 8 d.mem a (d.regs rs)) here;
        safe = ((l, omega arith, subst (λ a. Reach low high 8 a) (sym here) h), tt);
        small = λ s. s;
      }

      front : List Straight
      front = load_number 7 offset

      d1 : Data
      d1 = acts (front ++ Operate O.Add 7 7 2 ∷ []) d

      g : Gets low high 7 (d.regs 2 + offset) d (front ++ Operate O.Add 7 7 2 ∷ [])
      g = gets_address offset d h z

      there : (d1.regs 7 + 0) % 2 ^ 64 ≡ d.regs 2 + offset
      there = let e = g.value in omega arith

      both : Puts low high (d.regs 2 + offset) (d.regs rs) d ((front ++ Operate O.Add 7 7 2 ∷ []) ++ StoreTo W8 rs 7 0 ∷ [])
      both =
          let s = sym (acts_append (front ++ Operate O.Add 7 7 2 ∷ []) (StoreTo W8 rs 7 0 ∷ []) d) in
          record {
            others = λ r m. ap (λ (w : Data). w.regs r) (sym s) ∙ g.others r m m;
            mem = ap (λ (w : Data). w.mem) (sym s) ∙ (ap (λ a. put 8 d1.mem a (d1.regs rs)) there ∙ ap (λ m. put 8 m (d.regs 2 + offset) (d1.regs rs)) g.mem ∙ ap (λ v. put 8 d.mem (d.regs 2 + offset) v) (g.others rs n n));
            safe = safe_append low high (front ++ Operate O.Add 7 7 2 ∷ []) (StoreTo W8 rs 7 0 ∷ []) d g.safe ((l, omega arith, subst (λ a. Reach low high 8 a) (sym there) h), tt);
            small = λ h. subst (λ (w : Data). Small w.regs) s (g.small h);
          }

      by : (b : Bool) → Puts low high (d.regs 2 + offset) (d.regs rs) d (cond b (StoreTo W8 rs 2 offset ∷ []) (front ++ (Operate O.Add 7 7 2 ∷ StoreTo W8 rs 7 0 ∷ [])))
      by true = near
      by false = subst (λ xs. Puts low high (d.regs 2 + offset) (d.regs rs) d xs) (regroup front (Operate O.Add 7 7 2) (StoreTo W8 rs 7 0 ∷ [])) both

pub word_few : (rd offset : ℕ) → (1 ≤ length (load_word rd offset)) × (length (load_word rd offset) ≤ 10)
word_few rd offset =
    let n = number_few 7 offset in
    let e = length-append (load_number 7 offset) (Operate O.Add 7 7 2 ∷ LoadFrom W8 false rd 7 0 ∷ []) in
    by n e (nat_lt offset 2048)
  where
    by : (1 ≤ length (load_number 7 offset)) × (length (load_number 7 offset) ≤ 8) → length (load_number 7 offset ++ (Operate O.Add 7 7 2 ∷ LoadFrom W8 false rd 7 0 ∷ [])) ≡ length (load_number 7 offset) + length (Operate O.Add 7 7 2 ∷ LoadFrom W8 false rd 7 0 ∷ [])
        → (b : Bool) → (1 ≤ length (cond b (LoadFrom W8 false rd 2 offset ∷ []) (load_number 7 offset ++ (Operate O.Add 7 7 2 ∷ LoadFrom W8 false rd 7 0 ∷ [])))) × (length (cond b (LoadFrom W8 false rd 2 offset ∷ []) (load_number 7 offset ++ (Operate O.Add 7 7 2 ∷ LoadFrom W8 false rd 7 0 ∷ []))) ≤ 10)
    by n e true = (omega arith, omega arith)
    by n e false = (omega (arith, n, e), omega (arith, n, e))

pub store_few : (rs offset : ℕ) → (1 ≤ length (store_word rs offset)) × (length (store_word rs offset) ≤ 10)
store_few rs offset =
    let n = number_few 7 offset in
    let e = length-append (load_number 7 offset) (Operate O.Add 7 7 2 ∷ StoreTo W8 rs 7 0 ∷ []) in
    by n e (nat_lt offset 2048)
  where
    by : (1 ≤ length (load_number 7 offset)) × (length (load_number 7 offset) ≤ 8) → length (load_number 7 offset ++ (Operate O.Add 7 7 2 ∷ StoreTo W8 rs 7 0 ∷ [])) ≡ length (load_number 7 offset) + length (Operate O.Add 7 7 2 ∷ StoreTo W8 rs 7 0 ∷ [])
        → (b : Bool) → (1 ≤ length (cond b (StoreTo W8 rs 2 offset ∷ []) (load_number 7 offset ++ (Operate O.Add 7 7 2 ∷ StoreTo W8 rs 7 0 ∷ [])))) × (length (cond b (StoreTo W8 rs 2 offset ∷ []) (load_number 7 offset ++ (Operate O.Add 7 7 2 ∷ StoreTo W8 rs 7 0 ∷ []))) ≤ 10)
    by n e true = (omega arith, omega arith)
    by n e false = (omega (arith, n, e), omega (arith, n, e))
