-- Where the flat bytes are: two bytes at one address share a byte of a region.
use Rattle.std.proofs.Common.{ℕ, zero, suc, ◌+◌, ◌≡◌, ◌<◌, refl, sym, ◌∙◌, ap, subst, inl, inr, arith, ⊎_elim}
use Rattle.std.specs.Prelude.{◌⊎◌, Bool, true, false}
use Rattle.storage_model.specs.declared.cell.View.{View}
use Rattle.storage_model.specs.declared.cell.View.TheVariants.{Home, Loan}
use Rattle.storage_model.specs.declared.cell.Place.{Place}
use Rattle.storage_model.specs.Storage.{Storage, places, On, Here, Below, IsHome, size_of, Good, Meets}
use Rattle.storage_relation.specs.Flat.{Shows, Placement, HasRegion, address, room}
use Rattle.storage_model.proofs.Chains.{loan_no_home, loan_same, place_same, home_or_loan, on_trans, home_of, view_or}
use Rattle.storage_relation.proofs.Alone.{open_of, within_of}

-- the byte of a region that a byte is
pub record Root (s : Storage) (f : Placement) (p : Place) : Type 0 where
  pub root : Place
  pub good : Good s root
  pub region : HasRegion f root.view
  pub on : On (places s) p root
  pub same : address f p ≡ address f root

region_home : (f : Placement) (v : View) → IsHome v → HasRegion f v
region_home f (Home o) h = tt
region_home f (Loan l) h = absurd h

pub bool_or : (b : Bool) → (b ≡ true) ⊎ (b ≡ false)
bool_or true = inl refl
bool_or false = inr refl

pub in_room : (s k : ℕ) → k < s → k < room s
in_room s k h = omega arith

module _ (s : Storage) (f : Placement) (memory : ℕ → ℕ) (shows : Shows s f memory) where
  root_within : (bound : ℕ) (p : Place) → ((l : ℕ) → p.view ≡ Loan l → l < bound) → Good s p → Root s f p
  root_within zero p b g = ⊎_elim
      (λ h. record { root = p; good = g; region = region_home f p.view h; on = Here; same = refl })
      (λ w. let i = b w.0 w.1 in absurd (omega arith))
      (home_or_loan p.view)
  root_within (suc bound) p b g = ⊎_elim
      (λ h. record { root = p; good = g; region = region_home f p.view h; on = Here; same = refl })
      (λ (l, e). ⊎_elim
      (λ c. record { root = p; good = g; region = subst (λ v. HasRegion f v) (sym e) c; on = Here; same = refl })
      (λ c. let o = open_of s shows.laws l g e in let w = within_of s shows.laws l g e in
      let r = root_within bound (places s l p.offset)
      (λ m e'. let i = b l e in let j = shows.laws.older l p.offset m e' in omega arith)
      (shows.laws.grounded l p.offset o w) in
      record {
        root = r.root;
        good = r.good;
        region = r.region;
        on = Below l e r.on;
        same = ap (λ v. f.start v + p.offset) e ∙ shows.passed l p.offset o c w ∙ r.same;
      })
      (bool_or (f.copied l)))
      (home_or_loan p.view)

  pub root_of : (p : Place) → Good s p → Root s f p
  root_of p g = ⊎_elim
      (λ h. root_within 0 p (λ l e. absurd (loan_no_home l e h)) g)
      (λ w. root_within (w.0 + 1) p (λ l e. let i : l ≡ w.0 = loan_same (sym e ∙ w.1) in omega arith) g)
      (home_or_loan p.view)

  -- bytes of regions at one address are one
  pub region_same : (p q : Place) → Good s p → Good s q → HasRegion f p.view → HasRegion f q.view → address f p ≡ address f q → p ≡ q
  region_same p q g g' r r' e = ⊎_elim
      (λ v. place_same v (let w = ap f.start v in omega (arith, e, w)))
      (λ ne. let i = in_room (size_of s p.view) p.offset g.within in let j = in_room (size_of s q.view) q.offset g'.within in
      ⊎_elim (λ h. absurd (omega (arith, e, h, i, j))) (λ h. absurd (omega (arith, e, h, i, j)))
      (shows.apart p.view q.view g.live g'.live r r' ne))
      (view_or p.view q.view)

  -- a byte at the address of a byte of a region stands on it
  pub at_region : (p q : Place) → Good s p → Good s q → HasRegion f q.view → address f p ≡ address f q → On (places s) p q
  at_region p q g g' r e =
      let w = root_of p g in
      subst (λ x. On (places s) p x) (region_same w.root q w.good g' w.region r (sym w.same ∙ e)) w.on

  -- bytes at one address end at one home
  pub at_one : (p q : Place) → Good s p → Good s q → address f p ≡ address f q → Meets (places s) p q
  at_one p q g g' e =
      let w = root_of q g' in
      let a = at_region p w.root g w.good w.region (e ∙ w.same) in
      let h = home_of (places s) shows.laws.older w.root in
      record { home = h.0; is_home = h.1; left = on_trans (places s) a h.2; right = on_trans (places s) w.on h.2 }
