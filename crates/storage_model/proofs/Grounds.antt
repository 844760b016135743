-- Under a good byte all bytes are good, and a chain goes down step by step.
use Rattle.std.proofs.Common.{ℕ, zero, suc, ◌≡◌, ◌<◌, refl, sym, ◌∙◌, ap, subst, inl, inr, arith, ⊎_elim, [], ◌∷◌}
use Rattle.std.specs.Prelude.{◌⊎◌, Bool, true, false}
use Rattle.std.specs.List.{list_all, list_any}
use Rattle.std.proofs.lemmas.Bool.{cases_lt, cond-true, cond-false, lt-ltb}
use Rattle.storage_model.specs.declared.cell.View.{View}
use Rattle.storage_model.specs.declared.cell.View.TheVariants.{Home, Loan}
use Rattle.storage_model.specs.declared.cell.Place.{Place}
use Rattle.storage_model.specs.Storage.{Storage, at, by_view, places, On, Here, Below, IsHome, IsLive, size_of, is_memory, Good, Meets}
use Rattle.storage_model.specs.Laws.{IsSound}
use Rattle.storage_model.specs.Chain.{same_place, chain, home, chain_of, home_of, in_range, passes}
use Rattle.storage_model.proofs.Chains.{one_home}
use Rattle.storage_model.proofs.Meanings.{all_chain, all_chain_from, any_chain, in_chain, home_found, chain_enough, home_enough, place_true}

pub not_both : (b : Bool) → b ≡ true → b ≡ false → ⊥
not_both b t f = cc

module _ (s : Storage) (laws : IsSound s) where
  -- an open loan was opened
  pub opened_if : (l : ℕ) → (s.loan l).is_open ≡ true → l < s.opened
  opened_if l o = ⊎_elim (λ lt. lt) (λ le. absurd (not_both (s.loan l).is_open o (laws.to_open l le))) (cases_lt l s.opened)

  -- a good byte in a loan: the loan is open, and the byte is one of its bytes
  pub open_of : {p : Place} (l : ℕ) → Good s p → p.view ≡ Loan l → (s.loan l).is_open ≡ true
  open_of l g e = subst (λ v. IsLive s v) e g.live

  pub within_of : {p : Place} (l : ℕ) → Good s p → p.view ≡ Loan l → p.offset < (s.loan l).bytes
  within_of {p} l g e = subst (λ v. p.offset < size_of s v) e g.within

  pub good_loan : (l k : ℕ) → (s.loan l).is_open ≡ true → k < (s.loan l).bytes → Good s (at (Loan l) k)
  good_loan l k o w = record { live = o; within = w }

  pub bound : {p : Place} → Good s p → (l : ℕ) → p.view ≡ Loan l → l < s.opened
  bound g l e = opened_if l (open_of l g e)

  -- the place of a good byte is good
  pub good_below : {p : Place} (l : ℕ) → Good s p → p.view ≡ Loan l → Good s (places s l p.offset)
  good_below {p} l g e = laws.grounded l p.offset (open_of l g e) (within_of l g e)

  -- each byte of the chain of a good byte is good
  pub good_chain : {p q : Place} → Good s p → On (places s) p q → Good s q
  good_chain g Here = g
  good_chain {p} g (Below l e a) = good_chain (good_below l g e) a

  -- below a byte of memory there is no descriptor
  pub memory_chain : {p q : Place} → Good s p → is_memory s p ≡ true → On (places s) p q → is_memory s q ≡ true
  memory_chain g m Here = m
  memory_chain {p} g m (Below l e a) =
      memory_chain (good_below l g e) (laws.plain l p.offset (open_of l g e) (within_of l g e)) a

  pub chain_good : (p : Place) → Good s p → chain_of s p ≡ chain (places s) s.opened p
  chain_good p g = cond-true (in_range s p) (chain (places s) s.opened p) (p ∷ []) (lt-ltb p.offset (size_of s p.view) g.within)

  -- what stands outside its view stands alone
  pub chain_outside : (p : Place) → in_range s p ≡ false → chain_of s p ≡ p ∷ []
  chain_outside p e = cond-false (in_range s p) (chain (places s) s.opened p) (p ∷ []) e

  pub chain_home : (p : Place) → IsHome p.view → chain_of s p ≡ p ∷ []
  chain_home p h = ⊎_elim
      (λ t. cond-true (in_range s p) (chain (places s) s.opened p) (p ∷ []) t ∙ go s.opened p.view refl h)
      (λ f. chain_outside p f)
      (bool_or (in_range s p))
    where
      bool_or : (b : Bool) → (b ≡ true) ⊎ (b ≡ false)
      bool_or true = inl refl
      bool_or false = inr refl

      go : (n : ℕ) (v : View) → p.view ≡ v → IsHome v → chain (places s) n p ≡ p ∷ []
      go zero v e i = refl
      go (suc n) (Home o) e i = ap (λ v. p ∷ by_view (λ o. []) (λ l. chain (places s) n (places s l p.offset)) v) e
      go (suc n) (Loan l) e i = absurd i

  pub home_home : (p : Place) → IsHome p.view → home_of s p ≡ p
  home_home p h = go s.opened p.view refl h
    where
      go : (n : ℕ) (v : View) → p.view ≡ v → IsHome v → home (places s) n p ≡ p
      go zero v e i = refl
      go (suc n) (Home o) e i = ap (by_view (λ o. p) (λ l. home (places s) n (places s l p.offset))) e
      go (suc n) (Loan l) e i = absurd i

  pub chain_loan : (p : Place) (l : ℕ) → Good s p → p.view ≡ Loan l → chain_of s p ≡ p ∷ chain_of s (places s l p.offset)
  chain_loan p l g e = chain_good p g
      ∙ chain_enough (places s) laws.older s.opened (suc s.opened) p (bound g) (λ m f. let h = bound g m f in omega arith)
      ∙ ap (λ v. p ∷ by_view (λ o. []) (λ m. chain (places s) s.opened (places s m p.offset)) v) e
      ∙ sym (ap (λ x. p ∷ x) (chain_good (places s l p.offset) (good_below l g e)))

  pub home_loan : (p : Place) (l : ℕ) → Good s p → p.view ≡ Loan l → home_of s p ≡ home_of s (places s l p.offset)
  home_loan p l g e =
      home_enough (places s) laws.older s.opened (suc s.opened) p (bound g) (λ m f. let h = bound g m f in omega arith)
      ∙ ap (by_view (λ o. p) (λ m. home (places s) s.opened (places s m p.offset))) e

  -- tests over the chain of a good byte
  pub chain_all : (test : Place → Bool) {p q : Place} → Good s p → list_all test (chain_of s p) ≡ true → On (places s) p q → test q ≡ true
  chain_all test {p} g e on = all_chain (places s) laws.older test s.opened (bound g) (subst (λ c. list_all test c ≡ true) (chain_good p g) e) on

  pub chain_all_from : (test : Place → Bool) (p : Place) → Good s p → ((q : Place) → On (places s) p q → test q ≡ true) → list_all test (chain_of s p) ≡ true
  chain_all_from test p g h = subst (λ c. list_all test c ≡ true) (sym (chain_good p g)) (all_chain_from (places s) laws.older test s.opened p h)

  pub passes_on : (p : Place) → Good s p → (l k : ℕ) → passes s p l k ≡ true → On (places s) p (at (Loan l) k)
  passes_on p g l k e =
      let r = any_chain (places s) laws.older (same_place (at (Loan l) k)) s.opened p (subst (λ c. list_any (same_place (at (Loan l) k)) c ≡ true) (chain_good p g) e) in
      subst (λ x. On (places s) p x) (sym (place_true (at (Loan l) k) r.0 r.2)) r.1

  pub on_passes : (p : Place) → Good s p → (l k : ℕ) → On (places s) p (at (Loan l) k) → passes s p l k ≡ true
  on_passes p g l k on = subst (λ c. list_any (same_place (at (Loan l) k)) c ≡ true) (sym (chain_good p g))
      (in_chain (places s) laws.older s.opened (bound g) on)

  pub home_on : (p : Place) → Good s p → IsHome (home_of s p).view × On (places s) p (home_of s p)
  home_on p g = home_found (places s) laws.older s.opened p (bound g)

  -- good bytes that meet have one home
  pub homes : (p q : Place) → Good s p → Good s q → Meets (places s) p q → home_of s p ≡ home_of s q
  homes p q g g' meets =
      let a = home_on p g in let b = home_on q g' in
      one_home (places s) a.1 meets.left a.0 meets.is_home ∙ sym (one_home (places s) b.1 meets.right b.0 meets.is_home)
