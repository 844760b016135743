-- Registers and memory as functions, and what straight code makes of them.
use Rattle.std.proofs.Common.{◌≡◌, ℕ, ◌+◌, ◌%◌, ◌^◌, ◌<◌, ◌≤◌, Bool, true, false, cond, List, [], ◌∷◌, ◌++◌, refl, sym, ap, ◌∙◌, subst, arith, nat_eq}
use Rattle.std.proofs.lemmas.Bool.Decides.{nat_tests}
use Rattle.jf_base.specs.Numbers.{size_of_width}
use Rattle.rv_machine.specs.Alu.{shifted_left}
use Rattle.flat_ir.specs.Bytes.{Bytes, poke, number, put}
use Rattle.flat_ir.specs.Operations.{result_of, extended}
use Rattle.flat_ir.proofs.Framing.{poke_same, poke_apart}
use Rattle.emitted_code.specs.Straight.{Straight, Upper, AddImmediate, ShiftLeft, Operate, LoadFrom, StoreTo}

pub record Data : Type 0 where
  pub regs : ℕ → ℕ
  pub mem : Bytes

abbrev pub set : Data → ℕ → ℕ → Data
set d rd v = record { regs = poke d.regs rd v; mem = d.mem }

abbrev pub act : Straight → Data → Data
act (Upper rd imm) d = set d rd imm
act (AddImmediate rd rs imm) d = set d rd ((d.regs rs + imm) % 2 ^ 64)
act (ShiftLeft rd rs amount) d = set d rd (shifted_left (d.regs rs) amount)
act (Operate o rd a b) d = set d rd (result_of o (d.regs a) (d.regs b))
act (LoadFrom w is_signed rd a imm) d = set d rd (extended w is_signed (number (size_of_width w) d.mem ((d.regs a + imm) % 2 ^ 64)))
act (StoreTo w b a imm) d = record { regs = d.regs; mem = put (size_of_width w) d.mem ((d.regs a + imm) % 2 ^ 64) (d.regs b) }

abbrev pub acts : List Straight → Data → Data
acts [] d = d
acts (x ∷ xs) d = acts xs (act x d)

pub acts_append : (xs ys : List Straight) (d : Data) → acts (xs ++ ys) d ≡ acts ys (acts xs d)
acts_append [] ys d = refl
acts_append (x ∷ xs) ys d = acts_append xs ys (act x d)

-- a register that can be set
abbrev pub IsTarget : ℕ → Type 0
IsTarget r = (1 ≤ r) × (r < 32)

-- n bytes at an address are aligned and lie where they can be loaded and stored
abbrev pub Reach : (low high n a : ℕ) → Type 0
Reach low high n a = (a % n ≡ 0) × (low ≤ a) × (a + n ≤ high)

-- an instruction names registers, and its access doesn't trap
abbrev pub Safe : (low high : ℕ) → Straight → Data → Type 0
Safe low high (Upper rd imm) d = IsTarget rd
Safe low high (AddImmediate rd rs imm) d = IsTarget rd × (rs < 32)
Safe low high (ShiftLeft rd rs amount) d = IsTarget rd × (rs < 32)
Safe low high (Operate o rd a b) d = IsTarget rd × (a < 32) × (b < 32)
Safe low high (LoadFrom w is_signed rd a imm) d = IsTarget rd × (a < 32) × Reach low high (size_of_width w) ((d.regs a + imm) % 2 ^ 64)
Safe low high (StoreTo w b a imm) d = (b < 32) × (a < 32) × Reach low high (size_of_width w) ((d.regs a + imm) % 2 ^ 64)

abbrev pub AreSafe : (low high : ℕ) → List Straight → Data → Type 0
AreSafe low high [] d = Unit {0}
AreSafe low high (x ∷ xs) d = Safe low high x d × AreSafe low high xs (act x d)

pub safe_append : (low high : ℕ) (xs ys : List Straight) (d : Data) → AreSafe low high xs d → AreSafe low high ys (acts xs d) → AreSafe low high (xs ++ ys) d
safe_append low high [] ys d a b = b
safe_append low high (x ∷ xs) ys d a b = (a.0, safe_append low high xs ys (act x d) a.1 b)

-- a number of 64 bits is in each register but x6, in which the assembler's jumps may leave anything
abbrev pub Small : (ℕ → ℕ) → Type 0
Small f = (r : ℕ) → ¬ (r ≡ 6) → f r < 2 ^ 64

pub poke_small : (f : ℕ → ℕ) (x v : ℕ) → Small f → v < 2 ^ 64 → Small (poke f x v)
unfolding poke
poke_small f x v h l r n = go (nat_eq r x)
  where
    go : (t : Bool) → cond t v (f r) < 2 ^ 64
    go true = l
    go false = h r n

-- either the same, or not
pub data Compared (x y : ℕ) : Type 0 where
  same : x ≡ y → Compared x y
  other : ¬ (x ≡ y) → Compared x y

pub compared : (x y : ℕ) → Compared x y
compared x y = go (nat_eq x y) refl
  where
    go : (t : Bool) → nat_eq x y ≡ t → Compared x y
    go true e = let l : x ≡ y = grind (arith, nat_tests) in same l
    go false e = let l : ¬ (x ≡ y) = grind (arith, nat_tests) in other l

-- code puts a number into a register, and changes no other but x7, and no memory
pub record Gets (low high rd v : ℕ) (d : Data) (xs : List Straight) : Type 0 where
  pub value : (acts xs d).regs rd ≡ v
  pub others : (r : ℕ) → ¬ (r ≡ rd) → ¬ (r ≡ 7) → (acts xs d).regs r ≡ d.regs r
  pub mem : (acts xs d).mem ≡ d.mem
  pub safe : AreSafe low high xs d
  pub small : Small d.regs → Small (acts xs d).regs

pub gets_append : (low high q rd u v : ℕ) (d : Data) (xs ys : List Straight) → (q ≡ rd) → Gets low high q u d xs → Gets low high rd v (acts xs d) ys → Gets low high rd v d (xs ++ ys)
gets_append low high q rd u v d xs ys e a b =
    let s : acts ys (acts xs d) ≡ acts (xs ++ ys) d = sym (acts_append xs ys d) in
    record {
      value = ap (λ (w : Data). w.regs rd) (sym s) ∙ b.value;
      others = λ r n m. ap (λ (w : Data). w.regs r) (sym s) ∙ (b.others r n m ∙ a.others r (λ z. n (z ∙ e)) m);
      mem = ap (λ (w : Data). w.mem) (sym s) ∙ (b.mem ∙ a.mem);
      safe = safe_append low high xs ys d a.safe b.safe;
      small = λ h. subst (λ (w : Data). Small w.regs) s (b.small (a.small h));
    }

-- one instruction that sets a register
pub gets_one : (low high rd v : ℕ) (d : Data) (x : Straight) → act x d ≡ set d rd v → Safe low high x d → v < 2 ^ 64 → Gets low high rd v d (x ∷ [])
gets_one low high rd v d x e s l = record {
  value = ap (λ (w : Data). w.regs rd) e ∙ poke_same d.regs rd v rd refl;
  others = λ r n m. ap (λ (w : Data). w.regs r) e ∙ poke_apart d.regs rd v r n;
  mem = ap (λ (w : Data). w.mem) e;
  safe = (s, tt);
  small = λ h. subst (λ (w : Data). Small w.regs) (sym e) (poke_small d.regs rd v h l);
}
