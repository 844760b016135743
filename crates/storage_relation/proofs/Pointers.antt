-- Pointers into different live objects have different addresses, and aligned bytes have aligned addresses.
use Rattle.std.proofs.Common.{ℕ, ◌+◌, ◌-◌, ◌%◌, ◌≡◌, ◌≢◌, ◌≤◌, ◌<◌, refl, sym, ◌∙◌, ap, subst, inl, inr, arith, ⊎_elim}
use Rattle.std.specs.Prelude.{◌⊎◌}
use Rattle.std.proofs.lemmas.Bool.{cases_lt}
use Rattle.storage_model.specs.declared.cell.View.{View}
use Rattle.storage_model.specs.declared.cell.View.TheVariants.{Home, Loan}
use Rattle.storage_model.specs.declared.cell.Place.{Place}
use Rattle.storage_model.specs.Storage.{at, Storage, places, On, Here, Below, IsHome, IsLive, size_of, Good}
use Rattle.storage_relation.specs.Flat.{IsStorage, Shows, Placement, HasRegion, address, room, IsViewOf, OneView}
use Rattle.storage_model.proofs.Chains.{loan_no_home, loan_same, place_at, home_chain, view_or, home_of, on_trans}
use Rattle.storage_relation.proofs.Alone.{open_of, within_of}
use Rattle.storage_relation.proofs.Root.{root_of}

module _ (s : Storage) (laws : IsStorage s) (one : OneView s) where
  -- the bytes of a view are in one object
  pub one_object : {p q h i : Place} → p.view ≡ q.view → IsHome p.view ⊎ (Good s p × Good s q) → IsHome h.view → IsHome i.view
      → On (places s) p h → On (places s) q i → h.view ≡ i.view
  one_object e g hh hi Here b = e ∙ ap (λ x. x.view) (home_chain (places s) (subst IsHome e hh) b)
  one_object e g hh hi (Below l f a) Here = absurd (loan_no_home l (sym e ∙ f) hi)
  one_object {p} {q} {h} {i} e g hh hi (Below l f a) (Below n f' b) = ⊎_elim
      (λ c. absurd (loan_no_home l f c))
      (λ (gp, gq).
      let same : n ≡ l = loan_same (sym f' ∙ sym e ∙ f) in
      let fq : q.view ≡ Loan l = sym e ∙ f in
      let b' = subst (λ x. On (places s) (places s x q.offset) i) same b in
      let o' = open_of s laws l gp f in
      let bp = within_of s laws l gp f in
      let bq = within_of s laws l gq fq in
      one_object {p = places s l p.offset} {q = places s l q.offset} (one.same l p.offset q.offset bp bq)
      (inr (laws.grounded l p.offset o' bp, laws.grounded l q.offset o' bq)) hh hi a b')
      g

  -- good bytes of a view, or the view is a home
  pub both_good : (v : View) (o m : ℕ) (a : IsViewOf s v o) (b : IsViewOf s v m) → IsHome v ⊎ (Good s (at v a.spot) × Good s (at v b.spot))
  both_good v o m a b = ⊎_elim inl (λ x. ⊎_elim inl (λ y. inr (record { live = a.live; within = x }, record { live = b.live; within = y })) b.good) a.good

  pub one_of : (v : View) (o m : ℕ) → IsViewOf s v o → IsViewOf s v m → o ≡ m
  one_of v o m a b =
      let e : Home o ≡ Home m = one_object {p = at v a.spot} {q = at v b.spot} refl (both_good v o m a b) tt tt a.on b.on in
      cc

region_home : (f : Placement) (v : View) → IsHome v → HasRegion f v
region_home f (Home o) h = tt
region_home f (Loan l) h = absurd h

-- where a pointer into a view points: in the region of a view of the same object
record Inside (s : Storage) (f : Placement) (a o : ℕ) : Type 0 where
  view : View
  of : IsViewOf s view o
  region : HasRegion f view
  above : f.start view ≤ a
  below : a < f.start view + room (size_of s view)

room_over : (s k : ℕ) → k ≤ s → k < room s
room_over s k h = omega arith

module _ (s : Storage) (f : Placement) (memory : ℕ → ℕ) (shows : Shows s f memory) (one : OneView s) where
  at_byte : (v : View) (o k d : ℕ) → IsViewOf s v o → IsLive s v → k < size_of s v → d ≤ 1 → Inside s f (f.start v + k + d) o
  at_byte v o k d of live b small =
      let g : Good s (at v k) = record { live = live; within = b } in
      let r = root_of s f memory shows (at v k) g in
      let h = home_of (places s) shows.laws.older r.root in
      let is : h.0.view ≡ Home o = one_object s shows.laws one {p = at v k} {q = at v of.spot} refl
      (⊎_elim inl (λ x. inr (g, record { live = live; within = x })) of.good) h.1 tt (on_trans (places s) r.on h.2) of.on in
      let same = r.same in
      let over = room_over (size_of s r.root.view) (r.root.offset + d) (let w = r.good.within in omega arith) in
      record {
        view = r.root.view;
        of = record {
          live = r.good.live;
          spot = r.root.offset;
          home = h.0.offset;
          on = subst (λ x. On (places s) r.root x) (place_at is) h.2;
          good = inr r.good.within;
        };
        region = r.region;
        above = omega arith;
        below = omega arith;
      }

  inside : (v : View) (o k : ℕ) → IsViewOf s v o → k ≤ size_of s v → Inside s f (f.start v + k) o
  inside v o k of b = ⊎_elim
      (λ lt. let e : f.start v + k + 0 ≡ f.start v + k = omega arith in subst (λ a. Inside s f a o) e (at_byte v o k 0 of of.live lt (omega arith)))
      (λ le. ⊎_elim
      (λ h. record { view = v; of = of; region = region_home f v h; above = omega arith; below = let r = room_over (size_of s v) k b in omega arith })
      (λ lt. let e : f.start v + (size_of s v - 1) + 1 ≡ f.start v + k = omega arith in
      subst (λ a. Inside s f a o) e (at_byte v o (size_of s v - 1) 1 of of.live (omega arith) (omega arith)))
      of.good)
      (cases_lt k (size_of s v))

  pub pointers_differ : (v w : View) (o m k j : ℕ) → IsViewOf s v o → IsViewOf s w m → o ≢ m → k ≤ size_of s v → j ≤ size_of s w
      → f.start v + k ≢ f.start w + j
  pointers_differ v w o m k j of of' ne b b' e =
      let x = inside v o k of b in
      let y = inside w m j of' b' in
      ⊎_elim
      (λ same. ne (one_of s shows.laws one y.view o m (subst (λ v. IsViewOf s v o) same x.of) y.of))
      (λ apart.
      let p = x.above in let q = x.below in let p' = y.above in let q' = y.below in
      ⊎_elim (λ h. omega (arith, e, h, p, q, p', q')) (λ h. omega (arith, e, h, p, q, p', q'))
      (shows.apart x.view y.view x.of.live y.of.live x.region y.region apart))
      (view_or x.view y.view)

module _ (s : Storage) (f : Placement) (memory : ℕ → ℕ) (shows : Shows s f memory) where
  -- where each offset of the chain is a multiple of a, so is the address
  pub aligned_address : (p : Place) (a : ℕ) → (a ≡ 1) ⊎ ((a ≡ 2) ⊎ ((a ≡ 4) ⊎ ((a ≡ 8) ⊎ (a ≡ 16)))) → Good s p
      → ((q : Place) → On (places s) p q → q.offset % a ≡ 0) → address f p % a ≡ 0
  aligned_address p a which g all =
      let r = root_of s f memory shows p g in
      let x = shows.aligned r.root.view r.good.live r.region in
      let y = all r.root r.on in
      ap (λ n. n % a) r.same ∙ sum (f.start r.root.view) r.root.offset a which x y
    where
      sum : (x y a : ℕ) → (a ≡ 1) ⊎ ((a ≡ 2) ⊎ ((a ≡ 4) ⊎ ((a ≡ 8) ⊎ (a ≡ 16)))) → x % 16 ≡ 0 → y % a ≡ 0 → (x + y) % a ≡ 0
      sum x y a which h i = grind (arith, which)
