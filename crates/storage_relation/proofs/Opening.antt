-- Opening a loan, passed or copied, over any views.
use Rattle.std.proofs.Common.{ℕ, suc, ◌+◌, ◌/◌, ◌%◌, ◌^◌, ◌≡◌, ◌≤◌, ◌<◌, refl, sym, ◌∙◌, ap, subst, inl, inr, arith, ⊎_elim}
use Rattle.std.specs.Prelude.{◌≢◌, ◌⊎◌, true, false}
use Rattle.std.proofs.lemmas.Bool.{cases_lt}
use Rattle.std.specs.Prelude.{pos, negsuc}
use Rattle.storage_model.specs.declared.cell.View.{View}
use Rattle.storage_model.specs.declared.cell.View.TheVariants.{Home, Loan}
use Rattle.storage_model.specs.declared.cell.Place.{Place}
use Rattle.storage_model.specs.Storage.{at, Lending, Storage, places, by_view, On, Below, IsHome, IsLive, size_of, cell_at, is_memory, Good, with_loan}
use Rattle.storage_model.specs.declared.cell.Pointer.TheVariants.{Null, At, Proc}
use Rattle.storage_model.specs.declared.cell.Cell.{Cell}
use Rattle.storage_model.specs.declared.cell.Cell.TheVariants.{Undefined, Byte, Part}
use Rattle.storage_relation.specs.Relation.{Readable, OpensLoan, MayOpen}
use Rattle.storage_relation.specs.Flat.{IsStorage, Shows, Placement, HasRegion, Stands, Known, IsMade, address, room, StartsLoan}
use Rattle.storage_model.proofs.Chains.{loan_no_home, loan_same, below, nat_or, view_or, on_agree}
use Rattle.storage_relation.proofs.Alone.{open_of, good_loan, opened_if, not_both}

pub known_later : (a b a' b' : ℕ) → a ≤ a' → b ≤ b' → (c : Cell) → Known a b c → Known a' b' c
known_later a b a' b' h i Undefined k = tt
known_later a b a' b' h i (Byte v) k = tt
known_later a b a' b' h i (Part Null n) k = tt
known_later a b a' b' h i (Part (At (Home o) x) n) k = omega (arith, k)
known_later a b a' b' h i (Part (At (Loan l) x) n) k = omega (arith, k)
known_later a b a' b' h i (Part (Proc x t) n) k = tt

-- a cell whose pointer was known is shown by the same byte
pub stands_later : (f g : Placement) (made opened : ℕ) → ((v : View) → IsMade made opened v → g.start v ≡ f.start v) → ((n : ℕ) → g.code n ≡ f.code n)
    → (c : Cell) → Known made opened c → (b : ℕ) → Stands f c b → Stands g c b
stands_later f g made opened same code Undefined k b s = tt
stands_later f g made opened same code (Byte v) k b s = s
stands_later f g made opened same code (Part Null n) k b s = s
stands_later f g made opened same code (Part (At v (negsuc x)) n) k b s = s
stands_later f g made opened same code (Part (At v (pos x)) n) k b s = s ∙ ap (λ a. (a + x) / 256 ^ n % 256) (sym (same v k))
stands_later f g made opened same code (Part (Proc x t) n) k b s = s ∙ ap (λ a. a / 256 ^ n % 256) (sym (code x))

pub known_at : (s : Storage) → IsStorage s → (h : Place) → Known s.made s.opened (cell_at s h)
known_at s laws h = go h.view h.offset
  where
    go : (v : View) (k : ℕ) → Known s.made s.opened (by_view (λ o. (s.object o).cells k) (λ l. Undefined) v)
    go (Home o) k = laws.known o k
    go (Loan l) k = tt

module _ (s : Storage) (f g : Placement) (memory after : ℕ → ℕ) (shows : Shows s f memory)
    (new : Lending) (may : MayOpen s new) (loans : ℕ → Lending) (opens : OpensLoan s new loans) (starts : StartsLoan s f g)
    (aligned' : g.copied s.opened ≡ true → g.start (Loan s.opened) % 16 ≡ 0)
    (apart' : g.copied s.opened ≡ true → (v : View) → IsLive s v → HasRegion f v
    → (f.start v + room (size_of s v) ≤ g.start (Loan s.opened)) ⊎ (g.start (Loan s.opened) + room new.bytes ≤ f.start v))
    (passed' : g.copied s.opened ≡ false → (k : ℕ) → k < new.bytes → g.start (Loan s.opened) + k ≡ address f (new.place k))
    (keeps : (p : Place) → Good s p → after (address f p) ≡ memory (address f p))
    (arrives : (k : ℕ) → k < new.bytes → after (g.start (Loan s.opened) + k) ≡ memory (address f (new.place k))) where
  by_loan : (P : ℕ → Lending → Type 0) → P s.opened new → ((l : ℕ) → l ≢ s.opened → P l (s.loan l)) → (l : ℕ) → P l (loans l)
  by_loan P a b l = ⊎_elim
      (λ e. subst (λ x. P x (loans x)) (sym e) (subst (P s.opened) (sym opens.fresh) a))
      (λ ne. subst (P l) (sym (opens.rest l ne)) (b l ne))
      (nat_or l s.opened)

  not_new : (l : ℕ) → l < s.opened → l ≢ s.opened
  not_new l lt e = absurd (omega arith)

  old_if : {p : Place} → Good s p → (l : ℕ) → p.view ≡ Loan l → l < s.opened
  old_if good l e = opened_if s shows.laws l (open_of s shows.laws l good e)

  live_on : (v : View) → IsLive s v → IsLive (with_loan s loans) v
  live_on (Home o) h = h
  live_on (Loan l) h = ap (λ x. x.is_open) (opens.rest l (not_new l (opened_if s shows.laws l h))) ∙ h

  size_on : (v : View) → v ≢ Loan s.opened → size_of (with_loan s loans) v ≡ size_of s v
  size_on (Home o) ne = refl
  size_on (Loan l) ne = ap (λ x. x.bytes) (opens.rest l (λ e. ne (ap Loan e)))

  live_back : (v : View) → v ≢ Loan s.opened → IsLive (with_loan s loans) v → IsLive s v
  live_back (Home o) ne h = h
  live_back (Loan l) ne h = sym (ap (λ x. x.is_open) (opens.rest l (λ e. ne (ap Loan e)))) ∙ h

  view_old : (v : View) → IsLive s v → v ≢ Loan s.opened
  view_old v h e = let o = opened_if s shows.laws s.opened (subst (λ v. IsLive s v) e h) in absurd (omega arith)

  good_on : {p : Place} → Good s p → Good (with_loan s loans) p
  good_on {p} good = record { live = live_on p.view good.live; within = subst (λ n. p.offset < n) (sym (size_on p.view (view_old p.view good.live))) good.within }

  good_back : {p : Place} → p.view ≢ Loan s.opened → Good (with_loan s loans) p → Good s p
  good_back {p} ne good = record { live = live_back p.view ne good.live; within = subst (λ n. p.offset < n) (size_on p.view ne) good.within }

  older' : (l k m : ℕ) → (places (with_loan s loans) l k).view ≡ Loan m → m < l
  older' l k m = by_loan (λ l x. (x.place k).view ≡ Loan m → m < l)
      (λ e. ⊎_elim (λ lt. old_if (may.grounded k lt) m e) (λ le. absurd (loan_no_home m e (may.beyond k le))) (cases_lt k new.bytes))
      (λ l ne. shows.laws.older l k m) l

  on_on : {p q : Place} → ((l : ℕ) → p.view ≡ Loan l → l < s.opened) → On (places s) p q → On (places (with_loan s loans)) p q
  on_on old a = on_agree (places s) (places (with_loan s loans)) s.opened (λ l k lt. sym (ap (λ x. x.place k) (opens.rest l (not_new l lt)))) (λ l k m lt. shows.laws.older l k m) old a

  on_back : {p q : Place} → ((l : ℕ) → p.view ≡ Loan l → l < s.opened) → On (places (with_loan s loans)) p q → On (places s) p q
  on_back old a = on_agree (places (with_loan s loans)) (places s) s.opened (λ l k lt. ap (λ x. x.place k) (opens.rest l (not_new l lt))) (λ l k m lt. older' l k m) old a

  old_loan : (l k m : ℕ) → l < s.opened → (at (Loan l) k).view ≡ Loan m → m < s.opened
  old_loan l k m lt e = let x : l ≡ m = loan_same e in omega arith

  old_written : (l k : ℕ) → (loans l).written k ≡ true → (l < s.opened) × ((s.loan l).written k ≡ true)
  old_written l k = by_loan (λ l x. x.written k ≡ true → (l < s.opened) × ((s.loan l).written k ≡ true))
      (λ w. absurd (not_both (new.written k) w (may.unwritten k)))
      (λ l ne w. (shows.laws.marked l k w, w)) l

  laws' : IsStorage (with_loan s loans)
  laws' = let laws = shows.laws in record {
    older = older';
    to_open = λ l h. let ne : l ≢ s.opened = λ e. absurd (omega arith) in ap (λ x. x.is_open) (opens.rest l ne) ∙ laws.to_open l (omega arith);
    to_make = laws.to_make;
    grounded = λ l k. by_loan (λ l x. x.is_open ≡ true → k < x.bytes → Good (with_loan s loans) (x.place k))
        (λ o b. good_on (may.grounded k b)) (λ l ne o b. good_on (laws.grounded l k o b)) l;
    by_writable = λ l k. by_loan (λ l x. x.written k ≡ true → x.writable ≡ true)
        (λ w. absurd (not_both (new.written k) w (may.unwritten k))) (λ l ne. laws.by_writable l k) l;
    marked = λ l k w. let h = old_written l k w in omega (arith, h.0);
    downward = λ l k m. by_loan (λ l x. x.written k ≡ true → (x.place k).view ≡ Loan m → (loans m).written (x.place k).offset ≡ true)
        (λ w. absurd (not_both (new.written k) w (may.unwritten k)))
        (λ l ne w e. let lt = laws.older l k m e in let lt' = laws.marked l k w in
        ap (λ x. x.written ((s.loan l).place k).offset) (opens.rest m (not_new m (omega arith))) ∙ laws.downward l k m w e) l;
    covering = λ l k m n o b w o' b' lt meets.
        let h = old_written l k w in
        let ne = not_new l h.0 in
        let ltm : m < s.opened = omega (arith, h.0) in
        let nem = not_new m ltm in
        let was = laws.covering l k m n
        (sym (ap (λ x. x.is_open) (opens.rest l ne)) ∙ o) (subst (λ x. k < x.bytes) (opens.rest l ne) b) h.1
        (sym (ap (λ x. x.is_open) (opens.rest m nem)) ∙ o') (subst (λ x. n < x.bytes) (opens.rest m nem) b') lt
        (record {
          home = meets.home;
          is_home = meets.is_home;
          left = on_back (λ j. old_loan l k j h.0) meets.left;
          right = on_back (λ j. old_loan m n j ltm) meets.right;
        }) in
        on_on (λ j. old_loan l k j h.0) was;
    plain = λ l k. by_loan (λ l x. x.is_open ≡ true → k < x.bytes → is_memory s (x.place k) ≡ true) (λ o b. may.plain k b) (λ l ne. laws.plain l k) l;
    blank = laws.blank;
    known = λ o i. known_later s.made s.opened s.made (suc s.opened) (omega arith) (omega arith) ((s.object o).cells i) (laws.known o i);
  }

  region_back : (v : View) → v ≢ Loan s.opened → HasRegion g v → HasRegion f v
  region_back (Home o) ne h = h
  region_back (Loan l) ne h = sym (starts.copied l (λ e. ne (ap Loan e))) ∙ h

  made_not_new : (v : View) → IsMade s.made s.opened v → v ≢ Loan s.opened
  made_not_new (Home o) h e = cc
  made_not_new (Loan l) h e = not_new l h (loan_same e)

  stands_on : (c : Cell) → Known s.made s.opened c → (b : ℕ) → Stands f c b → Stands g c b
  stands_on = stands_later f g s.made s.opened (λ v h. starts.start v (made_not_new v h)) starts.code

  -- a byte that could be read and still can
  readable_back : (p q : Place) → Good s q → Readable (with_loan s loans) p
      → ((h : Place) → On (places s) q h → On (places (with_loan s loans)) p h)
      → ((l k : ℕ) → l < s.opened → On (places (with_loan s loans)) p (at (Loan l) k) → On (places s) q (at (Loan l) k))
      → Readable s q
  readable_back p q good r on back = record {
    through = λ l k o b w meets.
        let lt = opened_if s shows.laws l o in
        let same = opens.rest l (not_new l lt) in
        let t = r.through l k (ap (λ x. x.is_open) same ∙ o) (subst (λ x. k < x.bytes) (sym same) b) (ap (λ x. x.written k) same ∙ w)
        (record { home = meets.home; is_home = meets.is_home; left = on meets.home meets.left; right = on_on (λ j. old_loan l k j lt) meets.right }) in
        back l k lt t;
  }

  cells' : (p h : Place) → Good (with_loan s loans) p → Readable (with_loan s loans) p → IsHome h.view → On (places (with_loan s loans)) p h
      → Stands g (cell_at s h) (after (address g p))
  cells' p h good r i a = stands_on (cell_at s h) (known_at s shows.laws h) (after (address g p)) (⊎_elim
      (λ e.
      let b : p.offset < new.bytes = subst (λ x. p.offset < x.bytes) opens.fresh (subst (λ v. p.offset < size_of (with_loan s loans) v) e good.within) in
      let q = new.place p.offset in
      let good_q = may.grounded p.offset b in
      let at_q : places (with_loan s loans) s.opened p.offset ≡ q = ap (λ x. x.place p.offset) opens.fresh in
      let go_back : (x : Place) → x ≢ p → On (places (with_loan s loans)) p x → On (places s) q x =
      λ x ne d. ⊎_elim (λ same. absurd (ne same))
      (λ d'. on_back (old_if good_q) (subst (λ y. On (places (with_loan s loans)) y x) at_q d'))
      (below (places (with_loan s loans)) s.opened e d) in
      let readable = readable_back p q good_q r
      (λ x d. Below s.opened e (subst (λ y. On (places (with_loan s loans)) y x) (sym at_q) (on_on (old_if good_q) d)))
      (λ l k lt. go_back (at (Loan l) k) (λ same. not_new l lt (loan_same (ap (λ x. x.view) same ∙ e)))) in
      let full = shows.cells q h good_q readable i (go_back h (λ same. loan_no_home s.opened (ap (λ x. x.view) same ∙ e) i) a) in
      subst (λ x. Stands f (cell_at s h) x) (sym (ap (λ v. after (g.start v + p.offset)) e ∙ arrives p.offset b)) full)
      (λ ne.
      let good_p = good_back ne good in
      let readable = readable_back p p good_p r (λ x. on_on (old_if good_p)) (λ l k lt. on_back (old_if good_p)) in
      let full = shows.cells p h good_p readable i (on_back (old_if good_p) a) in
      subst (λ x. Stands f (cell_at s h) x) (sym (ap (λ x. after (x + p.offset)) (starts.start p.view ne) ∙ keeps p good_p)) full)
      (view_or p.view (Loan s.opened)))

  same_address : (p : Place) → Good s p → address g p ≡ address f p
  same_address p good = ap (λ x. x + p.offset) (starts.start p.view (view_old p.view good.live))

  unwritten' : (l k : ℕ) → (loans l).is_open ≡ true → g.copied l ≡ true → k < (loans l).bytes → (loans l).written k ≡ false
      → after (g.start (Loan l) + k) ≡ after (address g ((loans l).place k))
  unwritten' l k = by_loan (λ l x. x.is_open ≡ true → g.copied l ≡ true → k < x.bytes → x.written k ≡ false
      → after (g.start (Loan l) + k) ≡ after (address g (x.place k)))
      (λ o c b w. let good = may.grounded k b in arrives k b ∙ sym (ap after (same_address (new.place k) good) ∙ keeps (new.place k) good))
      (λ l ne o c b w.
      let good = good_loan s shows.laws l k o b in
      let good' = shows.laws.grounded l k o b in
      ap after (same_address (at (Loan l) k) good) ∙ keeps (at (Loan l) k) good
      ∙ shows.unwritten l k o (sym (starts.copied l ne) ∙ c) b w
      ∙ sym (ap after (same_address (places s l k) good') ∙ keeps (places s l k) good'))
      l

  aligned'' : (v : View) → IsLive (with_loan s loans) v → HasRegion g v → g.start v % 16 ≡ 0
  aligned'' v h r = ⊎_elim
      (λ e. ap (λ x. g.start x % 16) e ∙ aligned' (subst (HasRegion g) e r))
      (λ ne. ap (λ x. x % 16) (starts.start v ne) ∙ shows.aligned v (live_back v ne h) (region_back v ne r))
      (view_or v (Loan s.opened))

  apart_new : (v : View) → v ≢ Loan s.opened → IsLive (with_loan s loans) v → HasRegion g v → g.copied s.opened ≡ true
      → (g.start v + room (size_of (with_loan s loans) v) ≤ g.start (Loan s.opened)) ⊎ (g.start (Loan s.opened) + room (loans s.opened).bytes ≤ g.start v)
  apart_new v ne h r c =
      let e = starts.start v ne in let e' = size_on v ne in let e'' = ap (λ x. x.bytes) opens.fresh in
      let big = ap room e' in let big' = ap room e'' in
      ⊎_elim (λ a. inl (omega (arith, a, e, big, big'))) (λ a. inr (omega (arith, a, e, big, big')))
      (apart' c v (live_back v ne h) (region_back v ne r))

  apart'' : (v w : View) → IsLive (with_loan s loans) v → IsLive (with_loan s loans) w → HasRegion g v → HasRegion g w → v ≢ w
      → (g.start v + room (size_of (with_loan s loans) v) ≤ g.start w) ⊎ (g.start w + room (size_of (with_loan s loans) w) ≤ g.start v)
  apart'' v w h i r r' ne = ⊎_elim
      (λ e. ⊎_elim (λ e'. absurd (ne (e ∙ sym e')))
      (λ ne'. subst (λ x. (g.start x + room (size_of (with_loan s loans) x) ≤ g.start w) ⊎ (g.start w + room (size_of (with_loan s loans) w) ≤ g.start x)) (sym e)
      (⊎_elim inr inl (apart_new w ne' i r' (subst (HasRegion g) e r))))
      (view_or w (Loan s.opened)))
      (λ nv. ⊎_elim
      (λ e. subst (λ x. (g.start v + room (size_of (with_loan s loans) v) ≤ g.start x) ⊎ (g.start x + room (size_of (with_loan s loans) x) ≤ g.start v)) (sym e)
      (apart_new v nv h r (subst (HasRegion g) e r')))
      (λ nw.
      let e = starts.start v nv in let e' = starts.start w nw in
      let big = ap room (size_on v nv) in let big' = ap room (size_on w nw) in
      ⊎_elim (λ a. inl (omega (arith, a, e, e', big, big'))) (λ a. inr (omega (arith, a, e, e', big, big')))
      (shows.apart v w (live_back v nv h) (live_back w nw i) (region_back v nv r) (region_back w nw r') ne))
      (view_or w (Loan s.opened)))
      (view_or v (Loan s.opened))

  passed'' : (l k : ℕ) → (loans l).is_open ≡ true → g.copied l ≡ false → k < (loans l).bytes → g.start (Loan l) + k ≡ address g ((loans l).place k)
  passed'' l k = by_loan (λ l x. x.is_open ≡ true → g.copied l ≡ false → k < x.bytes → g.start (Loan l) + k ≡ address g (x.place k))
      (λ o c b. passed' c k b ∙ sym (same_address (new.place k) (may.grounded k b)))
      (λ l ne o c b. same_address (at (Loan l) k) (good_loan s shows.laws l k o b) ∙ shows.passed l k o (sym (starts.copied l ne) ∙ c) b
      ∙ sym (same_address (places s l k) (shows.laws.grounded l k o b)))
      l

  pub opening_keeps : Shows (with_loan s loans) g after
  opening_keeps = record {
    laws = laws';
    aligned = aligned'';
    apart = apart'';
    passed = passed'';
    begins = λ v h. ⊎_elim (λ e. subst (λ x. 0 < g.start x) (sym e) starts.begins)
        (λ ne. subst (λ x. 0 < x) (sym (starts.start v ne)) (shows.begins v (live_back v ne h)))
        (view_or v (Loan s.opened));
    cells = cells';
    unwritten = unwritten';
    fields = λ o i a d b.
        let good : Good s (at (Home o) i) = record { live = a; within = b } in
        ap after (same_address (at (Home o) i) good) ∙ keeps (at (Home o) i) good ∙ shows.fields o i a d b ∙ sym (starts.fields o i);
  }
