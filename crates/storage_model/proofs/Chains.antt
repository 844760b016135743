-- Chains: they are linear, go down, and end at one home.
use Rattle.std.proofs.Common.{ℕ, zero, suc, ◌+◌, ◌≡◌, ◌≤◌, ◌<◌, refl, sym, ◌∙◌, ap, subst, inl, inr, arith, ⊎_elim}
use Rattle.std.specs.Prelude.{◌≢◌, ◌⊎◌}
use Rattle.std.proofs.lemmas.Bool.{cases_lt}
use Rattle.storage_model.specs.declared.cell.View.{View}
use Rattle.storage_model.specs.declared.cell.View.TheVariants.{Home, Loan}
use Rattle.storage_model.specs.declared.cell.Place.{Place}
use Rattle.storage_model.specs.Storage.{at, On, Here, Below, IsHome}

pub loan_no_home : {v : View} (l : ℕ) → v ≡ Loan l → IsHome v → ⊥
loan_no_home l e h = subst IsHome e h

pub loan_same : {l m : ℕ} → Loan l ≡ Loan m → l ≡ m
loan_same e = cc

pub place_same : {p q : Place} → p.view ≡ q.view → p.offset ≡ q.offset → p ≡ q
place_same e f = λ i. record { view = e i; offset = f i }

pub place_at : {p : Place} {v : View} → p.view ≡ v → p ≡ at v p.offset
place_at {p} e = λ i. record { view = e i; offset = p.offset }

-- a spot is in a home or in a loan
pub home_or_loan : (v : View) → IsHome v ⊎ ((l : ℕ) × (v ≡ Loan l))
home_or_loan (Home o) = inl tt
home_or_loan (Loan l) = inr (l, refl)

pub nat_or : (m n : ℕ) → (m ≡ n) ⊎ (m ≢ n)
nat_or m n = ⊎_elim (λ lt. inr (λ e. absurd (omega arith))) (λ le. ⊎_elim (λ lt. inr (λ e. absurd (omega arith))) (λ ge. inl (omega arith)) (cases_lt n m)) (cases_lt m n)

pub view_or : (v w : View) → (v ≡ w) ⊎ (v ≢ w)
view_or (Home o) (Home o') = ⊎_elim (λ e. inl (ap Home e)) (λ ne. inr (λ e. ne (cc))) (nat_or o o')
view_or (Home o) (Loan l) = inr (λ e. cc)
view_or (Loan l) (Home o) = inr (λ e. cc)
view_or (Loan l) (Loan m) = ⊎_elim (λ e. inl (ap Loan e)) (λ ne. inr (λ e. ne (cc))) (nat_or l m)

pub place_or : (p q : Place) → (p ≡ q) ⊎ (p ≢ q)
place_or p q = ⊎_elim
    (λ e. ⊎_elim (λ f. inl (place_same e f)) (λ ne. inr (λ g. ne (ap (λ x. x.offset) g))) (nat_or p.offset q.offset))
    (λ ne. inr (λ g. ne (ap (λ x. x.view) g)))
    (view_or p.view q.view)

-- two tables of places that agree on the loans below a bound have the same chains from there
pub on_agree : (places' places : ℕ → ℕ → Place) (bound : ℕ) → ((l k : ℕ) → l < bound → places' l k ≡ places l k)
    → ((l k m : ℕ) → l < bound → (places' l k).view ≡ Loan m → m < l)
    → {p q : Place} → ((l : ℕ) → p.view ≡ Loan l → l < bound) → On places' p q → On places p q
on_agree places' places bound same older old Here = Here
on_agree places' places bound same older {p} {q} old (Below l e a) =
    let lt = old l e in
    Below l e (subst (λ x. On places x q) (same l p.offset lt)
    (on_agree places' places bound same older {p = places' l p.offset} (λ m f. let i = older l p.offset m lt f in omega arith) a))

module _ (place : ℕ → ℕ → Place) where
  -- the chain of a home byte is that byte
  pub home_chain : {p q : Place} → IsHome p.view → On place p q → p ≡ q
  home_chain h Here = refl
  home_chain h (Below l e a) = absurd (loan_no_home l e h)

  pub on_trans : {p q r : Place} → On place p q → On place q r → On place p r
  on_trans Here b = b
  on_trans (Below l e a) b = Below l e (on_trans a b)

  -- chains are linear
  pub linear : {p q r : Place} → On place p q → On place p r → On place q r ⊎ On place r q
  linear Here b = inl b
  linear (Below l e a) Here = inr (Below l e a)
  linear {p} {q} {r} (Below l e a) (Below m f b) =
      linear a (subst (λ n. On place (place n p.offset) r) (loan_same (sym f ∙ e)) b)

  -- what stands on a home byte through a view ends where the view's byte ends
  pub home_below : {p q h : Place} → On place p q → On place p h → IsHome h.view → On place q h
  home_below {p} {q} {h} a b i = ⊎_elim (λ c. c) (λ c. subst (λ x. On place q x) (sym (home_chain i c)) Here) (linear a b)

  -- the next byte below
  pub below : {p q : Place} (l : ℕ) → p.view ≡ Loan l → On place p q → (q ≡ p) ⊎ On place (place l p.offset) q
  below l e Here = inl refl
  below {p} {q} l e (Below m f a) = inr (subst (λ n. On place (place n p.offset) q) (loan_same (sym f ∙ e)) a)

  -- a chain ends at one home
  pub one_home : {p h i : Place} → On place p h → On place p i → IsHome h.view → IsHome i.view → h ≡ i
  one_home a b hh hi = home_chain hh (home_below a b hi)

  module _ (older : (l k m : ℕ) → (place l k).view ≡ Loan m → m < l) where
    -- loans in a chain go down
    pub descends : {p q : Place} (l m : ℕ) → On place p q → p.view ≡ Loan l → q.view ≡ Loan m → m ≤ l
    descends l m Here e f = let g : l ≡ m = loan_same (sym e ∙ f) in omega arith
    descends {p} {q} l m (Below n g a) e f = ⊎_elim
        (λ h. absurd (loan_no_home m f (subst (λ x. IsHome x.view) (home_chain h a) h)))
        (λ w. let i = descends w.0 m a w.1 f in let j = older n p.offset w.0 w.1 in let k : l ≡ n = loan_same (sym e ∙ g) in omega arith)
        (home_or_loan (place n p.offset).view)

    -- below a loan's byte stand only lower loans
    pub lower : (l k m n : ℕ) → On place (place l k) (at (Loan m) n) → m < l
    lower l k m n a = ⊎_elim
        (λ h. absurd (loan_no_home m refl (subst (λ x. IsHome x.view) (home_chain h a) h)))
        (λ w. let i = descends w.0 m a w.1 refl in let j = older l k w.0 w.1 in omega arith)
        (home_or_loan (place l k).view)

    -- no two bytes stand on one another
    pub both_ways : {p q : Place} → On place p q → On place q p → p ≡ q
    both_ways Here b = refl
    both_ways {p} {q} (Below l e a) b =
        let c = subst (λ x. On place (place l p.offset) x) (place_at e) (on_trans a b) in
        let lt = lower l p.offset l p.offset c in absurd (omega arith)

    -- two bytes over one home byte are one, if each is in the chain of the other where it is a loan's
    pub alone : {p q h : Place} → IsHome h.view → On place p h → On place q h
        → ((l : ℕ) → p.view ≡ Loan l → On place q (at (Loan l) p.offset))
        → ((l : ℕ) → q.view ≡ Loan l → On place p (at (Loan l) q.offset)) → p ≡ q
    alone {p} {q} {h} i a b pq qp = ⊎_elim
        (λ hp. ⊎_elim
        (λ hq. home_chain hp a ∙ sym (home_chain hq b))
        (λ (m, e). home_chain hp (qp m e) ∙ sym (place_at e))
        (home_or_loan q.view))
        (λ (l, e). ⊎_elim
        (λ hq. place_at e ∙ sym (home_chain hq (pq l e)))
        (λ (m, f). both_ways (subst (λ x. On place p x) (sym (place_at f)) (qp m f)) (subst (λ x. On place q x) (sym (place_at e)) (pq l e)))
        (home_or_loan q.view))
        (home_or_loan p.view)

    home_within : (bound : ℕ) (p : Place) → ((l : ℕ) → p.view ≡ Loan l → l < bound) → (h : Place) × IsHome h.view × On place p h
    home_within zero p b = ⊎_elim (λ h. (p, h, Here)) (λ w. let i = b w.0 w.1 in absurd (omega arith)) (home_or_loan p.view)
    home_within (suc bound) p b = ⊎_elim (λ h. (p, h, Here))
        (λ w. let r = home_within bound (place w.0 p.offset) (λ m e. let i = b w.0 w.1 in let j = older w.0 p.offset m e in omega arith) in
        (r.0, r.1, Below w.0 w.1 r.2))
        (home_or_loan p.view)

    -- each chain ends at a home
    pub home_of : (p : Place) → (h : Place) × IsHome h.view × On place p h
    home_of p = ⊎_elim (λ h. (p, h, Here))
        (λ w. home_within (w.0 + 1) p (λ l e. let f : l ≡ w.0 = loan_same (sym e ∙ w.1) in omega arith))
        (home_or_loan p.view)
