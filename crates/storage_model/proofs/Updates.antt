-- One element of the vectors is set.
use Rattle.std.proofs.Common.{ℕ, zero, suc, ◌≡◌, ◌<◌, refl, sym, ◌∙◌, ap, subst, arith, ⊎_elim, List, [], ◌∷◌, length, get_or, set}
use Rattle.std.specs.Prelude.{◌≢◌, Bool, true, false, ◌==◌, ◌||◌, if◌then◌else◌}
use Rattle.std.proofs.lemmas.Bool.{eq-eqb, ne_eqb, and_from, and_left, and_right, cond-true, cond-false}
use Rattle.std.proofs.lemmas.List.{length-set}
use Rattle.storage_model.specs.declared.cell.Cell.{Cell}
use Rattle.storage_model.specs.declared.cell.Cell.TheVariants.{Undefined}
use Rattle.storage_model.specs.declared.held.HeldObject.{HeldObject}
use Rattle.storage_model.specs.declared.held.HeldLoan.{HeldLoan}
use Rattle.storage_model.specs.declared.held.LoanByte.{LoanByte}
use Rattle.storage_model.specs.Storage.{Lending, Object}
use Rattle.storage_model.specs.Held.{facts, nth_object, nth_loan, object_of, loan_of, no_byte}
use Rattle.storage_model.specs.Marks.{is_at, cell_set, written_set, read_set}
use Rattle.storage_model.proofs.Chains.{nat_or}
use Rattle.storage_model.proofs.Nth.{nth_loan_at, nth_object_at}
use Rattle.storage_model.proofs.Steps.{get_or_any}

pub set_loan_here : (xs : List HeldLoan) (n : ℕ) (x : HeldLoan) → n < length xs → nth_loan (set xs n x) n ≡ loan_of x
set_loan_here [] n x h = absurd (omega arith)
set_loan_here (y ∷ ys) zero x h = refl
set_loan_here (y ∷ ys) (suc n) x h = set_loan_here ys n x (omega arith)

pub set_loan_else : (xs : List HeldLoan) (n : ℕ) (x : HeldLoan) (m : ℕ) → m ≢ n → nth_loan (set xs n x) m ≡ nth_loan xs m
set_loan_else [] n x m ne = refl
set_loan_else (y ∷ ys) zero x zero ne = absurd (ne refl)
set_loan_else (y ∷ ys) zero x (suc m) ne = refl
set_loan_else (y ∷ ys) (suc n) x zero ne = refl
set_loan_else (y ∷ ys) (suc n) x (suc m) ne = set_loan_else ys n x m (λ e. ne (omega (arith, e)))

pub set_object_here : (xs : List HeldObject) (n : ℕ) (x : HeldObject) → n < length xs → nth_object (set xs n x) n ≡ object_of x
set_object_here [] n x h = absurd (omega arith)
set_object_here (y ∷ ys) zero x h = refl
set_object_here (y ∷ ys) (suc n) x h = set_object_here ys n x (omega arith)

pub set_object_else : (xs : List HeldObject) (n : ℕ) (x : HeldObject) (m : ℕ) → m ≢ n → nth_object (set xs n x) m ≡ nth_object xs m
set_object_else [] n x m ne = refl
set_object_else (y ∷ ys) zero x zero ne = absurd (ne refl)
set_object_else (y ∷ ys) zero x (suc m) ne = refl
set_object_else (y ∷ ys) (suc n) x zero ne = refl
set_object_else (y ∷ ys) (suc n) x (suc m) ne = set_object_else ys n x m (λ e. ne (omega (arith, e)))

pub got_here : {A : Type 0} (xs : List A) (k : ℕ) (x d : A) → k < length xs → get_or (set xs k x) k d ≡ x
got_here [] k x d h = absurd (omega arith)
got_here (y ∷ ys) zero x d h = refl
got_here (y ∷ ys) (suc k) x d h = got_here ys k x d (omega arith)

pub got_else : {A : Type 0} (xs : List A) (k : ℕ) (x d : A) (j : ℕ) → j ≢ k → get_or (set xs k x) j d ≡ get_or xs j d
got_else [] k x d j ne = refl
got_else (y ∷ ys) zero x d zero ne = absurd (ne refl)
got_else (y ∷ ys) zero x d (suc j) ne = refl
got_else (y ∷ ys) (suc k) x d zero ne = refl
got_else (y ∷ ys) (suc k) x d (suc j) ne = got_else ys k x d j (λ e. ne (omega (arith, e)))

pub at_here : (l k m j : ℕ) → m ≡ l → j ≡ k → is_at l k m j ≡ true
at_here l k m j e f = and_from (m == l) (j == k) (eq-eqb m l e) (eq-eqb j k f)

pub at_else_left : (l k m j : ℕ) → m ≢ l → is_at l k m j ≡ false
at_else_left l k m j ne = and_left (m == l) (j == k) (ne_eqb m l ne)

pub at_else_right : (l k m j : ℕ) → j ≢ k → is_at l k m j ≡ false
at_else_right l k m j ne = and_right (m == l) (j == k) (ne_eqb j k ne)

-- a mark that is set, or stays
or_here : (a b c : Bool) → a ≡ true → c ≡ true → c ≡ a || b
or_here a b c e f = f ∙ sym (ap (λ x. x || b) e)

or_else : (a b c : Bool) → a ≡ false → c ≡ b → c ≡ a || b
or_else a b c e f = f ∙ sym (ap (λ x. x || b) e)

module _ (loans : List HeldLoan) (l k : ℕ) (x x' : HeldLoan) (b b' : LoanByte)
    (hl : l < length loans) (is : x ≡ get_or loans l x) (hk : k < length x.bytes.items) (isb : b ≡ get_or x.bytes.items k b)
    (eb : x'.bytes.items ≡ set x.bytes.items k b') (eo : x'.is_open ≡ x.is_open) (ew : x'.writable ≡ x.writable) (pl : b'.place ≡ b.place) where
  old_byte : get_or x.bytes.items k no_byte ≡ b
  old_byte = get_or_any x.bytes.items k no_byte b hk ∙ sym isb

  new_byte : get_or x'.bytes.items k no_byte ≡ b'
  new_byte = ap (λ xs. get_or xs k no_byte) eb ∙ got_here x.bytes.items k b' no_byte hk

  other_byte : (j : ℕ) → j ≢ k → get_or x'.bytes.items j no_byte ≡ get_or x.bytes.items j no_byte
  other_byte j ne = ap (λ xs. get_or xs j no_byte) eb ∙ got_else x.bytes.items k b' no_byte j ne

  count : length x'.bytes.items ≡ length x.bytes.items
  count = ap length eb ∙ length-set x.bytes.items k b'

  place_same : (j : ℕ) → (get_or x'.bytes.items j no_byte).place ≡ (get_or x.bytes.items j no_byte).place
  place_same j = ⊎_elim
      (λ e. subst (λ i. (get_or x'.bytes.items i no_byte).place ≡ (get_or x.bytes.items i no_byte).place) (sym e)
      (ap (λ y. y.place) new_byte ∙ pl ∙ sym (ap (λ y. y.place) old_byte)))
      (λ ne. ap (λ y. y.place) (other_byte j ne))
      (nat_or j k)

  written_same : b'.written ≡ b.written → (j : ℕ) → (get_or x'.bytes.items j no_byte).written ≡ (get_or x.bytes.items j no_byte).written
  written_same f j = ⊎_elim
      (λ e. subst (λ i. (get_or x'.bytes.items i no_byte).written ≡ (get_or x.bytes.items i no_byte).written) (sym e)
      (ap (λ y. y.written) new_byte ∙ f ∙ sym (ap (λ y. y.written) old_byte)))
      (λ ne. ap (λ y. y.written) (other_byte j ne))
      (nat_or j k)

  read_same : b'.read ≡ b.read → (j : ℕ) → (get_or x'.bytes.items j no_byte).read ≡ (get_or x.bytes.items j no_byte).read
  read_same f j = ⊎_elim
      (λ e. subst (λ i. (get_or x'.bytes.items i no_byte).read ≡ (get_or x.bytes.items i no_byte).read) (sym e)
      (ap (λ y. y.read) new_byte ∙ f ∙ sym (ap (λ y. y.read) old_byte)))
      (λ ne. ap (λ y. y.read) (other_byte j ne))
      (nat_or j k)

  read_put : b'.read ≡ true → (j : ℕ) → (get_or x'.bytes.items j no_byte).read ≡ is_at l k l j || (get_or x.bytes.items j no_byte).read
  read_put f j = ⊎_elim
      (λ e. or_here (is_at l k l j) _ _ (at_here l k l j refl e) (ap (λ i. (get_or x'.bytes.items i no_byte).read) e ∙ ap (λ y. y.read) new_byte ∙ f))
      (λ ne. or_else (is_at l k l j) _ _ (at_else_right l k l j ne) (ap (λ y. y.read) (other_byte j ne)))
      (nat_or j k)

  written_put : b'.written ≡ true → (j : ℕ) → (get_or x'.bytes.items j no_byte).written ≡ is_at l k l j || (get_or x.bytes.items j no_byte).written
  written_put f j = ⊎_elim
      (λ e. or_here (is_at l k l j) _ _ (at_here l k l j refl e) (ap (λ i. (get_or x'.bytes.items i no_byte).written) e ∙ ap (λ y. y.written) new_byte ∙ f))
      (λ ne. or_else (is_at l k l j) _ _ (at_else_right l k l j ne) (ap (λ y. y.written) (other_byte j ne)))
      (nat_or j k)

  read_loan : ℕ → Lending → Lending
  read_loan m y = record y { read = λ j. is_at l k m j || y.read j }

  written_loan : ℕ → Lending → Lending
  written_loan m y = record y { written = λ j. is_at l k m j || y.written j }

  read_at : b'.read ≡ true → b'.written ≡ b.written → (m : ℕ) → nth_loan (set loans l x') m ≡ read_loan m (nth_loan loans m)
  unfolding read_loan
  read_at f g m = ⊎_elim
      (λ e. subst (λ n. nth_loan (set loans l x') n ≡ read_loan n (nth_loan loans n)) (sym e)
      (set_loan_here loans l x' hl
      ∙ (λ i. record { bytes = count i; place = λ j. place_same j i; is_open = eo i; writable = ew i; written = λ j. written_same g j i; read = λ j. read_put f j i })
      ∙ ap (read_loan l) (sym (nth_loan_at loans l x hl is))))
      (λ ne. set_loan_else loans l x' m ne
      ∙ (λ i. record (nth_loan loans m) { read = λ j. (or_else (is_at l k m j) ((nth_loan loans m).read j) ((nth_loan loans m).read j) (at_else_left l k m j ne) refl) i }))
      (nat_or m l)

  written_at : b'.written ≡ true → b'.read ≡ b.read → (m : ℕ) → nth_loan (set loans l x') m ≡ written_loan m (nth_loan loans m)
  unfolding written_loan
  written_at f g m = ⊎_elim
      (λ e. subst (λ n. nth_loan (set loans l x') n ≡ written_loan n (nth_loan loans n)) (sym e)
      (set_loan_here loans l x' hl
      ∙ (λ i. record { bytes = count i; place = λ j. place_same j i; is_open = eo i; writable = ew i; written = λ j. written_put f j i; read = λ j. read_same g j i })
      ∙ ap (written_loan l) (sym (nth_loan_at loans l x hl is))))
      (λ ne. set_loan_else loans l x' m ne
      ∙ (λ i. record (nth_loan loans m) { written = λ j. (or_else (is_at l k m j) ((nth_loan loans m).written j) ((nth_loan loans m).written j) (at_else_left l k m j ne) refl) i }))
      (nat_or m l)

  pub read_facts : (objects : List HeldObject) → b'.read ≡ true → b'.written ≡ b.written → facts objects (set loans l x') ≡ read_set (facts objects loans) l k
  unfolding read_loan
  read_facts objects f g = λ i. record (facts objects loans) { opened = length-set loans l x' i; loan = λ m. read_at f g m i }

  pub written_facts : (objects : List HeldObject) → b'.written ≡ true → b'.read ≡ b.read → facts objects (set loans l x') ≡ written_set (facts objects loans) l k
  unfolding written_loan
  written_facts objects f g = λ i. record (facts objects loans) { opened = length-set loans l x' i; loan = λ m. written_at f g m i }

module _ (objects : List HeldObject) (o k : ℕ) (x x' : HeldObject) (c : Cell)
    (ho : o < length objects) (is : x ≡ get_or objects o x) (hk : k < length x.cells.items)
    (ec : x'.cells.items ≡ set x.cells.items k c) (es : x'.size ≡ x.size) (ea : x'.alive ≡ x.alive) (ek : x'.kind ≡ x.kind) where
  cell_put : (j : ℕ) → get_or x'.cells.items j Undefined ≡ (if is_at o k o j then c else get_or x.cells.items j Undefined)
  cell_put j = ⊎_elim
      (λ e. ap (λ i. get_or x'.cells.items i Undefined) e ∙ ap (λ xs. get_or xs k Undefined) ec ∙ got_here x.cells.items k c Undefined hk
      ∙ sym (cond-true (is_at o k o j) c (get_or x.cells.items j Undefined) (at_here o k o j refl e)))
      (λ ne. ap (λ xs. get_or xs j Undefined) ec ∙ got_else x.cells.items k c Undefined j ne
      ∙ sym (cond-false (is_at o k o j) c (get_or x.cells.items j Undefined) (at_else_right o k o j ne)))
      (nat_or j k)

  cell_object : ℕ → Object → Object
  cell_object p y = record y { cells = λ j. if is_at o k p j then c else y.cells j }

  cell_at : (p : ℕ) → nth_object (set objects o x') p ≡ cell_object p (nth_object objects p)
  unfolding cell_object
  cell_at p = ⊎_elim
      (λ e. subst (λ n. nth_object (set objects o x') n ≡ cell_object n (nth_object objects n)) (sym e)
      (set_object_here objects o x' ho
      ∙ (λ i. record { size = es i; alive = ea i; kind = ek i; cells = λ j. cell_put j i })
      ∙ ap (cell_object o) (sym (nth_object_at objects o x ho is))))
      (λ ne. set_object_else objects o x' p ne
      ∙ (λ i. record (nth_object objects p) { cells = λ j. (sym (cond-false (is_at o k p j) c ((nth_object objects p).cells j) (at_else_left o k p j ne))) i }))
      (nat_or p o)

  pub cell_facts : (loans : List HeldLoan) → facts (set objects o x') loans ≡ cell_set (facts objects loans) o k c
  unfolding cell_object
  cell_facts loans = λ i. record (facts objects loans) { made = length-set objects o x' i; object = λ p. cell_at p i }
