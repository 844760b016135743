-- One step down a chain in the vectors.
use Rattle.std.proofs.Common.{ℕ, zero, suc, ◌≡◌, ◌≤◌, ◌<◌, refl, sym, ◌∙◌, ap, subst, arith, List, [], ◌∷◌, length, get_or}
use Rattle.std.specs.Prelude.{Bool, true, false, ◌&&◌, ◌||◌}
use Rattle.std.specs.List.{list_all, list_any}
use Rattle.storage_model.specs.declared.cell.View.{View}
use Rattle.storage_model.specs.declared.cell.View.TheVariants.{Home, Loan}
use Rattle.storage_model.specs.declared.cell.Place.{Place}
use Rattle.storage_model.specs.declared.held.HeldLoan.{HeldLoan}
use Rattle.storage_model.specs.declared.held.LoanByte.{LoanByte}
use Rattle.storage_model.specs.declared.storage.Storage.{Storage}
use Rattle.storage_model.specs.Storage.{places, is_memory, Good}
use Rattle.storage_model.specs.Chain.{chain_of, home_of}
use Rattle.storage_model.specs.Held.{no_byte}
use Rattle.storage_model.specs.Model.{model}
use Rattle.storage_model.proofs.Nth.{nth_loan_at}
use Rattle.storage_model.proofs.Grounds.{bound, open_of, within_of, good_below, chain_loan, home_loan}

-- how many loans may still stand under a byte of this view
abbrev pub depth : View → ℕ
depth (Home o) = 0
depth (Loan l) = suc l

depth_below : (v : View) (l : ℕ) → ((m : ℕ) → v ≡ Loan m → m < l) → depth v < suc l
depth_below (Home o) l h = omega arith
depth_below (Loan m) l h = let i = h m refl in omega arith

pub get_or_any : {A : Type 0} (xs : List A) (k : ℕ) (d e : A) → k < length xs → get_or xs k d ≡ get_or xs k e
get_or_any [] k d e h = absurd (omega arith)
get_or_any (x ∷ xs) zero d e h = refl
get_or_any (x ∷ xs) (suc k) d e h = get_or_any xs k d e (omega arith)

pub and_step : (a b c : Bool) → a && (b && c) ≡ (a && b) && c
and_step true b c = refl
and_step false b c = refl

pub or_step : (a b c : Bool) → a || (b || c) ≡ (a || b) || c
or_step true b c = refl
or_step false b c = refl

-- from byte p of loan l, which is held as b, to its place
pub record Stepped (s : Storage) (p : Place) (l : ℕ) (x : HeldLoan) (b : LoanByte) : Type 0 where
  pub next : places (model s) l p.offset ≡ b.place
  pub memory : is_memory (model s) b.place ≡ true
  pub good : Good (model s) b.place
  pub less : depth b.place.view < depth p.view
  pub chain : chain_of (model s) p ≡ p ∷ chain_of (model s) b.place
  pub home : home_of (model s) p ≡ home_of (model s) b.place
  pub writable : ((model s).loan l).writable ≡ x.writable
  pub read : ((model s).loan l).read p.offset ≡ b.read
  pub written : ((model s).loan l).written p.offset ≡ b.written

module _ (s : Storage) (p : Place) (good : Good (model s) p) (l : ℕ) (at_l : p.view ≡ Loan l) where
  pub there : l < length s.loans.items
  there = bound (model s) s.held.sound good l at_l

  module _ (x : HeldLoan) (is : x ≡ get_or s.loans.items l x) where
    pub in_bytes : p.offset < length x.bytes.items
    in_bytes = subst (λ y. p.offset < y.bytes) (nth_loan_at s.loans.items l x there is) (within_of (model s) s.held.sound l good at_l)

    pub step : (b : LoanByte) → b ≡ get_or x.bytes.items p.offset b → Stepped s p l x b
    step b e =
        let n = nth_loan_at s.loans.items l x there is in
        let byte : get_or x.bytes.items p.offset no_byte ≡ b = get_or_any x.bytes.items p.offset no_byte b in_bytes ∙ sym e in
        let next : places (model s) l p.offset ≡ b.place = ap (λ y. y.place p.offset) n ∙ ap (λ y. y.place) byte in
        record {
          next = next;
          memory = subst (λ q. is_memory (model s) q ≡ true) next (s.held.sound.plain l p.offset (open_of (model s) s.held.sound l good at_l) (within_of (model s) s.held.sound l good at_l));
          good = subst (Good (model s)) next (good_below (model s) s.held.sound l good at_l);
          less = subst (λ v. depth b.place.view < depth v) (sym at_l)
              (depth_below b.place.view l (λ m f. s.held.sound.older l p.offset m (ap (λ y. y.view) next ∙ f)));
          chain = chain_loan (model s) s.held.sound p l good at_l ∙ ap (λ q. p ∷ chain_of (model s) q) next;
          home = home_loan (model s) s.held.sound p l good at_l ∙ ap (home_of (model s)) next;
          writable = ap (λ y. y.writable) n;
          read = ap (λ y. y.read p.offset) n ∙ ap (λ y. y.read) byte;
          written = ap (λ y. y.written p.offset) n ∙ ap (λ y. y.written) byte;
        }

-- a test over a chain, with what was found so far
pub all_step : (test : Place → Bool) (p q : Place) (c d : List Place) (a t : Bool) → c ≡ p ∷ d → test p ≡ t
    → a && list_all test c ≡ (a && t) && list_all test d
all_step test p q c d a t e f = ap (λ x. a && list_all test x) e ∙ and_step a (test p) (list_all test d) ∙ ap (λ x. (a && x) && list_all test d) f

pub all_end : (test : Place → Bool) (p : Place) (c : List Place) (a t : Bool) → c ≡ p ∷ [] → test p ≡ t → a && list_all test c ≡ a && t
all_end test p c a t e f = ap (λ x. a && list_all test x) e ∙ ap (λ x. a && (x && true)) f ∙ last t
  where
    last : (t : Bool) → a && (t && true) ≡ a && t
    last true = refl
    last false = refl

-- a byte that isn't sought is passed
pub any_step : (test : Place → Bool) (p : Place) (c d : List Place) → c ≡ p ∷ d → test p ≡ false → list_any test c ≡ list_any test d
any_step test p c d e f = ap (list_any test) e ∙ ap (λ x. x || list_any test d) f

pub get_or_past : {A : Type 0} (xs : List A) (k : ℕ) (d : A) → length xs ≤ k → get_or xs k d ≡ d
get_or_past [] k d h = refl
get_or_past (x ∷ xs) zero d h = absurd (omega arith)
get_or_past (x ∷ xs) (suc k) d h = get_or_past xs k d (omega arith)
