-- Through writable loans only one byte leads to a home byte, and after a write only one byte can be read there.
use Rattle.std.proofs.Common.{ℕ, ◌≡◌, ◌<◌, sym, ◌∙◌, subst, ⊎_elim}
use Rattle.std.specs.Prelude.{Bool, true, false}
use Rattle.std.proofs.lemmas.Bool.{cases_lt}
use Rattle.storage_model.specs.declared.cell.View.TheVariants.{Loan}
use Rattle.storage_model.specs.declared.cell.Place.{Place}
use Rattle.storage_model.specs.Storage.{at, Storage, places, On, Here, Below, IsHome, IsLive, size_of, is_memory, Good}
use Rattle.storage_relation.specs.Relation.{Written}
use Rattle.storage_relation.specs.Flat.{IsStorage}
use Rattle.storage_model.proofs.Chains.{loan_no_home, loan_same, home_or_loan, home_chain}

pub not_both : (b : Bool) → b ≡ true → b ≡ false → ⊥
not_both b t f = cc

module _ (s : Storage) (laws : IsStorage s) where
  -- an open loan was opened
  pub opened_if : (l : ℕ) → (s.loan l).is_open ≡ true → l < s.opened
  opened_if l o = ⊎_elim (λ lt. lt) (λ le. absurd (not_both (s.loan l).is_open o (laws.to_open l le))) (cases_lt l s.opened)

  -- a good byte in a loan: the loan is open, and the byte is one of its bytes
  pub open_of : {p : Place} (l : ℕ) → Good s p → p.view ≡ Loan l → (s.loan l).is_open ≡ true
  open_of l g e = subst (λ v. IsLive s v) e g.live

  pub within_of : {p : Place} (l : ℕ) → Good s p → p.view ≡ Loan l → p.offset < (s.loan l).bytes
  within_of {p} l g e = subst (λ v. p.offset < size_of s v) e g.within

  pub good_loan : (l k : ℕ) → (s.loan l).is_open ≡ true → k < (s.loan l).bytes → Good s (at (Loan l) k)
  good_loan l k o w = record { live = o; within = w }

  -- each byte of the chain of a good byte is good
  pub good_chain : {p q : Place} → Good s p → On (places s) p q → Good s q
  good_chain g Here = g
  good_chain {p} g (Below l e a) = good_chain (laws.grounded l p.offset (open_of l g e) (within_of l g e)) a

  -- below a byte of memory there is no descriptor
  pub memory_chain : {p q : Place} → Good s p → is_memory s p ≡ true → On (places s) p q → is_memory s q ≡ true
  memory_chain g m Here = m
  memory_chain {p} g m (Below l e a) =
      let o = open_of l g e in let b = within_of l g e in
      memory_chain (laws.grounded l p.offset o b) (laws.plain l p.offset o b) a

  -- each loan byte in the chain of a Written one is written
  pub written_chain : {p q : Place} (l m : ℕ) → p.view ≡ Loan l → q.view ≡ Loan m → On (places s) p q → Written s l p.offset → Written s m q.offset
  written_chain {p} l m e f Here w = subst (λ n. Written s n p.offset) (loan_same (sym e ∙ f)) w
  written_chain {p} {q} l m e f (Below n g a) w =
      let same : l ≡ n = loan_same (sym e ∙ g) in
      let wn = subst (λ x. Written s x p.offset) same w in
      ⊎_elim
      (λ h. absurd (loan_no_home m f (subst (λ x. IsHome x.view) (home_chain (places s) h a) h)))
      (λ (k, e'). written_chain {p = places s n p.offset} k m e' f a (laws.downward n p.offset k wn e'))
      (home_or_loan (places s n p.offset).view)
