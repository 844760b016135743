-- Ending an object, and reading.
use Rattle.std.proofs.Common.{ℕ, ◌≡◌, ◌<◌, refl, sym, ◌∙◌, ap, subst, ⊎_elim}
use Rattle.std.specs.Prelude.{◌≢◌, Bool, true, false}
use Rattle.storage_model.specs.declared.cell.View.{View}
use Rattle.storage_model.specs.declared.cell.View.TheVariants.{Home, Loan}
use Rattle.storage_model.specs.declared.cell.Place.{Place}
use Rattle.storage_model.specs.Storage.{at, Storage, places, On, Here, Below, IsHome, IsLive, size_of, cell_at, Good, with_alive, with_read}
use Rattle.storage_relation.specs.Relation.{Readable, Ends}
use Rattle.storage_relation.specs.Flat.{Shows, Placement, Stands, address}
use Rattle.storage_model.proofs.Chains.{loan_no_home, place_at, home_chain, nat_or}
use Rattle.storage_relation.proofs.Alone.{not_both}

module _ (s : Storage) (f : Placement) (memory : ℕ → ℕ) (shows : Shows s f memory) where
  -- a read sees what the flat byte says
  pub read_sees : (p h : Place) → Good s p → Readable s p → IsHome h.view → On (places s) p h → Stands f (cell_at s h) (memory (address f p))
  read_sees = shows.cells

  -- a read changes marks that the relation doesn't speak of
  pub read_keeps : (marks : ℕ → ℕ → Bool) → Shows (with_read s marks) f memory
  read_keeps marks = let laws = shows.laws in record {
    laws = record {
      older = laws.older;
      to_open = laws.to_open;
      to_make = laws.to_make;
      grounded = λ l k o b. let g = laws.grounded l k o b in record { live = g.live; within = g.within };
      by_writable = laws.by_writable;
      downward = laws.downward;
      covering = laws.covering;
      known = laws.known;
      marked = laws.marked;
      plain = laws.plain;
      blank = laws.blank;
    };
    aligned = shows.aligned;
    apart = shows.apart;
    passed = shows.passed;
    begins = shows.begins;
    cells = λ p h g r. shows.cells p h (record { live = g.live; within = g.within }) (record { through = r.through });
    unwritten = shows.unwritten;
    fields = shows.fields;
  }

module _ (s : Storage) (f : Placement) (memory : ℕ → ℕ) (shows : Shows s f memory) (n : ℕ) (flags : ℕ → Bool) (ends : Ends s n flags) where
  live_back : (v : View) → IsLive (with_alive s flags) v → IsLive s v
  live_back (Home o) h = sym (ends.rest o (λ e. not_both (flags n) (subst (λ x. flags x ≡ true) e h) ends.off)) ∙ h
  live_back (Loan l) h = h

  live_on : (v : View) → v ≢ Home n → IsLive s v → IsLive (with_alive s flags) v
  live_on (Home o) ne h = ends.rest o (λ e. ne (ap Home e)) ∙ h
  live_on (Loan l) ne h = h

  pub end_keeps : Shows (with_alive s flags) f memory
  end_keeps = let laws = shows.laws in record {
    laws = record {
      older = laws.older;
      to_open = laws.to_open;
      to_make = λ o h. ⊎_elim (λ e. subst (λ x. flags x ≡ false) (sym e) ends.off) (λ ne. ends.rest o ne ∙ laws.to_make o h) (nat_or o n);
      grounded = λ l k o b. let g = laws.grounded l k o b in record {
        live = live_on (places s l k).view
            (λ e. let q = places s l k in
            let is : q ≡ at (Home n) q.offset = place_at e in
            let b' = subst (λ v. q.offset < size_of s v) e g.within in
            let t = (ends.free q.offset b').through l k o b tt (record {
              home = at (Home n) q.offset;
              is_home = tt;
              left = Here;
              right = Below l refl (subst (λ x. On (places s) q x) is Here);
            }) in
            loan_no_home l (ap (λ x. x.view) (home_chain (places s) tt t)) tt)
            g.live;
        within = g.within;
      };
      by_writable = laws.by_writable;
      downward = laws.downward;
      covering = laws.covering;
      known = laws.known;
      marked = laws.marked;
      plain = laws.plain;
      blank = laws.blank;
    };
    aligned = λ v h. shows.aligned v (live_back v h);
    apart = λ v w h i. shows.apart v w (live_back v h) (live_back w i);
    passed = shows.passed;
    begins = λ v h. shows.begins v (live_back v h);
    cells = λ p h g r. shows.cells p h (record { live = live_back p.view g.live; within = g.within }) (record { through = r.through });
    unwritten = shows.unwritten;
    fields = λ o i a. shows.fields o i (live_back (Home o) a);
  }
