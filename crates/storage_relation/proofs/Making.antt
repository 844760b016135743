-- Making an object.
use Rattle.std.proofs.Common.{ℕ, suc, ◌+◌, ◌%◌, ◌≡◌, ◌≤◌, ◌<◌, refl, sym, ◌∙◌, ap, subst, inl, inr, arith, ⊎_elim}
use Rattle.std.specs.Prelude.{◌≢◌, ◌⊎◌, true, false}
use Rattle.storage_model.specs.declared.cell.View.{View}
use Rattle.storage_model.specs.declared.cell.View.TheVariants.{Home, Loan}
use Rattle.storage_model.specs.declared.cell.Place.{Place}
use Rattle.storage_model.specs.Storage.{at, Object, Storage, places, by_view, On, IsHome, IsLive, size_of, cell_at, is_memory, has_cells, Good, with_object}
use Rattle.storage_model.specs.declared.cell.Cell.TheVariants.{Undefined}
use Rattle.storage_relation.specs.Relation.{Readable, MakesObject}
use Rattle.storage_relation.specs.Flat.{IsStorage, Shows, Placement, HasRegion, Stands, Known, IsMade, address, room, StartsObject, Fills}
use Rattle.storage_model.proofs.Chains.{place_at, home_chain, nat_or, view_or}
use Rattle.storage_relation.proofs.Alone.{good_loan, good_chain, not_both}
use Rattle.storage_relation.proofs.Root.{root_of, in_room}
use Rattle.storage_relation.proofs.Opening.{known_later, stands_later, known_at}

module _ (s : Storage) (f g : Placement) (memory after : ℕ → ℕ) (shows : Shows s f memory)
    (new : Object) (alive : new.alive ≡ true) (known : (i : ℕ) → Known s.made s.opened (new.cells i))
    (blank : (i : ℕ) → has_cells new.kind ≡ false → new.cells i ≡ Undefined)
    (objects : ℕ → Object) (makes : MakesObject s new objects) (starts : StartsObject s new f g) (fills : Fills s new g memory after) where
  not_new : (o : ℕ) → (s.object o).alive ≡ true → o ≢ s.made
  not_new o h e = not_both (s.object o).alive h (shows.laws.to_make o (omega (arith, e)))

  live_on : (v : View) → IsLive s v → IsLive (with_object s objects) v
  live_on (Home o) h = ap (λ x. x.alive) (makes.rest o (not_new o h)) ∙ h
  live_on (Loan l) h = h

  size_same : (v : View) → v ≢ Home s.made → size_of (with_object s objects) v ≡ size_of s v
  size_same (Home o) ne = ap (λ x. x.size) (makes.rest o (λ e. ne (ap Home e)))
  size_same (Loan l) ne = refl

  live_back : (v : View) → v ≢ Home s.made → IsLive (with_object s objects) v → IsLive s v
  live_back (Home o) ne h = sym (ap (λ x. x.alive) (makes.rest o (λ e. ne (ap Home e)))) ∙ h
  live_back (Loan l) ne h = h

  view_old : (v : View) → IsLive s v → v ≢ Home s.made
  view_old (Home o) h e = not_new o h (cc)
  view_old (Loan l) h e = cc

  good_on : {p : Place} → Good s p → Good (with_object s objects) p
  good_on {p} good = record { live = live_on p.view good.live; within = subst (λ n. p.offset < n) (sym (size_same p.view (view_old p.view good.live))) good.within }

  good_back : {p : Place} → p.view ≢ Home s.made → Good (with_object s objects) p → Good s p
  good_back {p} ne good = record { live = live_back p.view ne good.live; within = subst (λ n. p.offset < n) (size_same p.view ne) good.within }

  region_back : (v : View) → HasRegion g v → HasRegion f v
  region_back (Home o) h = h
  region_back (Loan l) h = sym (starts.copied l) ∙ h

  cell_old : (h : Place) → h.view ≢ Home s.made → cell_at (with_object s objects) h ≡ cell_at s h
  cell_old h ne = go h.view h.offset ne
    where
      go : (v : View) (k : ℕ) → v ≢ Home s.made → by_view (λ o. (objects o).cells k) (λ l. Undefined) v ≡ by_view (λ o. (s.object o).cells k) (λ l. Undefined) v
      go (Home o) k ne = ap (λ x. x.cells k) (makes.rest o (λ e. ne (ap Home e)))
      go (Loan l) k ne = refl

  memory_on : (p : Place) → Good s p → is_memory s p ≡ true → is_memory (with_object s objects) p ≡ true
  memory_on p good m = go p.view (view_old p.view good.live) m
    where
      go : (v : View) → v ≢ Home s.made → by_view (λ o. has_cells (s.object o).kind) (λ l. true) v ≡ true → by_view (λ o. has_cells (objects o).kind) (λ l. true) v ≡ true
      go (Home o) ne m = ap (λ x. has_cells x.kind) (makes.rest o (λ e. ne (ap Home e))) ∙ m
      go (Loan l) ne m = refl

  by_object : (P : ℕ → Object → Type 0) → P s.made new → ((o : ℕ) → o ≢ s.made → P o (s.object o)) → (o : ℕ) → P o (objects o)
  by_object P a b o = ⊎_elim
      (λ e. subst (λ x. P x (objects x)) (sym e) (subst (P s.made) (sym makes.fresh) a))
      (λ ne. subst (P o) (sym (makes.rest o ne)) (b o ne))
      (nat_or o s.made)

  laws' : IsStorage (with_object s objects)
  laws' = let laws = shows.laws in record {
    older = laws.older;
    to_open = laws.to_open;
    to_make = λ o h. let ne : o ≢ s.made = λ e. absurd (omega arith) in ap (λ x. x.alive) (makes.rest o ne) ∙ laws.to_make o (omega arith);
    marked = laws.marked;
    grounded = λ l k o b. good_on (laws.grounded l k o b);
    by_writable = laws.by_writable;
    downward = laws.downward;
    covering = laws.covering;
    plain = λ l k o b. memory_on (places s l k) (laws.grounded l k o b) (laws.plain l k o b);
    blank = λ o i. by_object (λ o x. has_cells x.kind ≡ false → x.cells i ≡ Undefined) (blank i) (λ o ne. laws.blank o i) o;
    known = λ o i. known_later s.made s.opened (suc s.made) s.opened (omega arith) (omega arith) ((objects o).cells i)
        (⊎_elim (λ e. subst (λ x. Known s.made s.opened (x.cells i)) (sym (ap objects e ∙ makes.fresh)) (known i))
        (λ ne. subst (λ x. Known s.made s.opened (x.cells i)) (sym (makes.rest o ne)) (shows.laws.known o i))
        (nat_or o s.made));
  }

  keeps : (p : Place) → Good s p → after (address f p) ≡ memory (address f p)
  keeps p good =
      let r = root_of s f memory shows p good in
      let same = r.same in
      let i = in_room (size_of s r.root.view) r.root.offset r.good.within in
      fills.rest (address f p) (⊎_elim (λ h. inl (omega (arith, h, i, same))) (λ h. inr (omega (arith, h, i, same)))
      (starts.apart r.root.view r.good.live r.region))

  same_address : (p : Place) → Good s p → address g p ≡ address f p
  same_address p good = ap (λ x. x + p.offset) (starts.start p.view (view_old p.view good.live))

  made_not_new : (v : View) → IsMade s.made s.opened v → v ≢ Home s.made
  made_not_new (Home o) h e = let x : o ≡ s.made = cc in absurd (omega arith)
  made_not_new (Loan l) h e = cc

  cells' : (p h : Place) → Good (with_object s objects) p → Readable (with_object s objects) p → IsHome h.view → On (places s) p h
      → Stands g (cell_at (with_object s objects) h) (after (address g p))
  cells' p h good r i a = ⊎_elim
      (λ e.
      let hp : p ≡ h = home_chain (places s) (subst IsHome (sym e) tt) a in
      let at_p : p ≡ at (Home s.made) p.offset = place_at e in
      let b : p.offset < new.size = subst (λ x. p.offset < x.size) makes.fresh (subst (λ v. p.offset < size_of (with_object s objects) v) e good.within) in
      subst (λ x. Stands g (cell_at (with_object s objects) x) (after (address g p))) (sym at_p ∙ hp)
      (subst (λ x. Stands g (x.cells p.offset) (after (address g p))) (sym makes.fresh)
      (subst (λ x. Stands g (new.cells p.offset) (after (address g x))) (sym at_p) (fills.shown p.offset b))))
      (λ ne.
      let good_p = good_back ne good in
      let home_old : h.view ≢ Home s.made = view_old h.view (good_chain s shows.laws good_p a).live in
      let full = shows.cells p h good_p (record { through = r.through }) i a in
      subst (λ c. Stands g c (after (address g p))) (sym (cell_old h home_old))
      (stands_later f g s.made s.opened (λ v m. starts.start v (made_not_new v m)) starts.code (cell_at s h) (known_at s shows.laws h) (after (address g p))
      (subst (λ x. Stands f (cell_at s h) x) (sym (ap after (same_address p good_p) ∙ keeps p good_p)) full)))
      (view_or p.view (Home s.made))

  apart_new : (v : View) → v ≢ Home s.made → IsLive (with_object s objects) v → HasRegion g v
      → (g.start v + room (size_of (with_object s objects) v) ≤ g.start (Home s.made)) ⊎ (g.start (Home s.made) + room (objects s.made).size ≤ g.start v)
  apart_new v ne h r =
      let e = starts.start v ne in let e'' = ap (λ x. x.size) makes.fresh in
      let big = ap room (size_same v ne) in let big' = ap room e'' in
      ⊎_elim (λ a. inl (omega (arith, a, e, big, big'))) (λ a. inr (omega (arith, a, e, big, big')))
      (starts.apart v (live_back v ne h) (region_back v r))

  apart'' : (v w : View) → IsLive (with_object s objects) v → IsLive (with_object s objects) w → HasRegion g v → HasRegion g w → v ≢ w
      → (g.start v + room (size_of (with_object s objects) v) ≤ g.start w) ⊎ (g.start w + room (size_of (with_object s objects) w) ≤ g.start v)
  apart'' v w h i r r' ne = ⊎_elim
      (λ e. ⊎_elim (λ e'. absurd (ne (e ∙ sym e')))
      (λ ne'. subst (λ x. (g.start x + room (size_of (with_object s objects) x) ≤ g.start w) ⊎ (g.start w + room (size_of (with_object s objects) w) ≤ g.start x)) (sym e)
      (⊎_elim inr inl (apart_new w ne' i r')))
      (view_or w (Home s.made)))
      (λ nv. ⊎_elim
      (λ e. subst (λ x. (g.start v + room (size_of (with_object s objects) v) ≤ g.start x) ⊎ (g.start x + room (size_of (with_object s objects) x) ≤ g.start v)) (sym e)
      (apart_new v nv h r))
      (λ nw.
      let e = starts.start v nv in let e' = starts.start w nw in
      let big = ap room (size_same v nv) in let big' = ap room (size_same w nw) in
      ⊎_elim (λ a. inl (omega (arith, a, e, e', big, big'))) (λ a. inr (omega (arith, a, e, e', big, big')))
      (shows.apart v w (live_back v nv h) (live_back w nw i) (region_back v r) (region_back w r') ne))
      (view_or w (Home s.made)))
      (view_or v (Home s.made))

  pub make_keeps : Shows (with_object s objects) g after
  make_keeps = record {
    laws = laws';
    aligned = λ v h r. ⊎_elim
        (λ e. ap (λ x. g.start x % 16) e ∙ starts.aligned)
        (λ ne. ap (λ x. x % 16) (starts.start v ne) ∙ shows.aligned v (live_back v ne h) (region_back v r))
        (view_or v (Home s.made));
    apart = apart'';
    passed = λ l k o c b.
        same_address (at (Loan l) k) (good_loan s shows.laws l k o b) ∙ shows.passed l k o (sym (starts.copied l) ∙ c) b
        ∙ sym (same_address (places s l k) (shows.laws.grounded l k o b));
    begins = λ v h. ⊎_elim (λ e. subst (λ x. 0 < g.start x) (sym e) starts.begins)
        (λ ne. subst (λ x. 0 < x) (sym (starts.start v ne)) (shows.begins v (live_back v ne h)))
        (view_or v (Home s.made));
    cells = cells';
    unwritten = λ l k o c b w.
        let good = good_loan s shows.laws l k o b in
        let good' = shows.laws.grounded l k o b in
        ap after (same_address (at (Loan l) k) good) ∙ keeps (at (Loan l) k) good
        ∙ shows.unwritten l k o (sym (starts.copied l) ∙ c) b w
        ∙ sym (ap after (same_address (places s l k) good') ∙ keeps (places s l k) good');
    fields = λ o i. by_object (λ o x. x.alive ≡ true → has_cells x.kind ≡ false → i < x.size → after (g.start (Home o) + i) ≡ g.fields o i)
        (λ a d b. fills.described i b d)
        (λ o ne a d b.
        let good : Good s (at (Home o) i) = record { live = a; within = b } in
        ap after (same_address (at (Home o) i) good) ∙ keeps (at (Home o) i) good ∙ shows.fields o i a d b ∙ sym (starts.fields o i ne))
        o;
  }
