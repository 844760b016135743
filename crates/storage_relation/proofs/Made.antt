-- The computed steps on objects and loans are steps.
use Rattle.std.proofs.Common.{ℕ, zero, suc, ◌+◌, ◌≡◌, ◌<◌, refl, sym, ap, subst, arith, List, [], ◌∷◌, get_or, map}
use Rattle.std.specs.List.{list_all}
use Rattle.std.specs.Prelude.{Bool, true, false, ◌==◌, None, if◌then◌else◌}
use Rattle.std.proofs.lemmas.Bool.{eq-eqb, ne_eqb, cond-true, cond-false}
use Rattle.storage_model.specs.declared.cell.View.TheVariants.{Loan}
use Rattle.storage_model.specs.declared.cell.Spot.{Spot}
use Rattle.storage_model.specs.declared.cell.Kind.{Kind}
use Rattle.storage_model.specs.declared.cell.Cell.{Cell}
use Rattle.storage_model.specs.declared.cell.Cell.TheVariants.{Undefined}
use Rattle.storage_model.specs.Tags.{V01, V02, V21}
use Rattle.storage_model.specs.Access.{first}
use Rattle.storage_model.specs.Listings.{fresh_byte, lent}
use Rattle.storage_model.proofs.Opening.{spots_good, lent_fresh}
use Rattle.storage_model.proofs.Steps.{get_or_past}
use Rattle.storage_model.specs.Storage.{Storage, Object, Lending, at, outside, is_live, is_memory, has_cells, IsHome, Good}
use Rattle.storage_model.specs.Ends.{check_end, make_one, end_one, new_object}
use Rattle.storage_model.specs.Loans.{check_open, spot_in_range, place_of, new_loan, open_one, close_one}
use Rattle.storage_relation.specs.Relation.{OpensLoan, MayOpen, MakesObject, Closes, IsLast, Ends}
use Rattle.storage_relation.specs.Flat.{IsStorage, Shows, Placement, address, closing, Passes, Copies, gather, StartsLoan, StartsObject, Fills, Known, AllKnown}
use Rattle.storage_relation.proofs.Checks.{sound_of, end_from, first_none}
use Rattle.storage_relation.proofs.Close.{close_keeps}
use Rattle.storage_relation.proofs.Ending.{end_keeps}
use Rattle.storage_relation.proofs.Open.{open_passed, open_copied}
use Rattle.storage_relation.proofs.Making.{make_keeps}

pub opens_one : (s : Storage) (new : Lending) → OpensLoan s new (λ l. if l == s.opened then new else s.loan l)
opens_one s new = record {
  fresh = cond-true (s.opened == s.opened) new (s.loan s.opened) (eq-eqb s.opened s.opened refl);
  rest = λ l ne. cond-false (l == s.opened) new (s.loan l) (ne_eqb l s.opened ne);
}

pub makes_one : (s : Storage) (new : Object) → MakesObject s new (λ o. if o == s.made then new else s.object o)
makes_one s new = record {
  fresh = cond-true (s.made == s.made) new (s.object s.made) (eq-eqb s.made s.made refl);
  rest = λ l ne. cond-false (l == s.made) new (s.object l) (ne_eqb l s.made ne);
}

pub closes_one : (s : Storage) (n : ℕ) → Closes s n (λ l. if l == n then false else (s.loan l).is_open)
closes_one s n = record {
  off = cond-true (n == n) false (s.loan n).is_open (eq-eqb n n refl);
  rest = λ l ne. cond-false (l == n) false (s.loan l).is_open (ne_eqb l n ne);
}

pub ends_one : (s : Storage) (f : Placement) (memory : ℕ → ℕ) → Shows s f memory → (n : ℕ) → check_end s n ≡ None → Ends s n (λ o. if o == n then false else (s.object o).alive)
ends_one s f memory shows n e = record {
  off = cond-true (n == n) false (s.object n).alive (eq-eqb n n refl);
  rest = λ o ne. cond-false (o == n) false (s.object o).alive (ne_eqb o n ne);
  free = end_from s (sound_of s shows.laws) n e;
}

-- the end of an object that may end keeps the relation
pub allowed_end : (s : Storage) (f : Placement) (memory : ℕ → ℕ) → Shows s f memory → (n : ℕ) → check_end s n ≡ None → Shows (end_one s n) f memory
allowed_end s f memory shows n e = end_keeps s f memory shows n _ (ends_one s f memory shows n e)

-- the end of the last loan keeps it
pub allowed_close : (s : Storage) (f : Placement) (memory : ℕ → ℕ) → Shows s f memory → (n : ℕ) → IsLast s n → Shows (close_one s n) f (closing s f n memory)
allowed_close s f memory shows n last = close_keeps s f memory shows n last _ (closes_one s n)

-- a loan over bytes in a row can be passed
pub passes_row : (s : Storage) (new : Lending) (f g : Placement) → g.copied s.opened ≡ false
    → ((k : ℕ) → k + 1 < new.bytes → new.place (k + 1) ≡ at (new.place k).view ((new.place k).offset + 1))
    → (0 < new.bytes → g.start (Loan s.opened) ≡ address f (new.place 0))
    → Passes s new f g
passes_row s new f g flag row begins = record { flag = flag; lies = lies }
  where
    lies : (k : ℕ) → k < new.bytes → g.start (Loan s.opened) + k ≡ address f (new.place k)
    lies zero h = let e = begins h in omega arith
    lies (suc k) h =
        let i : k + 1 < new.bytes = omega arith in
        let ih = lies k (omega arith) in
        let e = ap (address f) (row k i) in
        let same : suc k ≡ k + 1 = omega arith in
        subst (λ x. g.start (Loan s.opened) + x ≡ address f (new.place x)) (sym same) (omega arith)

-- where nothing stands against it, a loan may be opened over the places
pub may_open : (s : Storage) → IsStorage s → (spots : List Spot) (w : Bool) → check_open s spots ≡ None → MayOpen s (new_loan (map place_of spots) w)
may_open s laws spots w e =
    let a = first_none (list_all (λ p. is_live s p.view) spots) V02 (first (list_all (spot_in_range s) spots) V01 (first (list_all (λ p. is_memory s (place_of p)) spots) V21 None)) e in
    let b = first_none (list_all (spot_in_range s) spots) V01 (first (list_all (λ p. is_memory s (place_of p)) spots) V21 None) a.1 in
    let c = first_none (list_all (λ p. is_memory s (place_of p)) spots) V21 None b.1 in
    let good = spots_good s spots a.0 b.0 c.0 in
    let same : lent (map fresh_byte spots) w ≡ new_loan (map place_of spots) w = lent_fresh spots w in
    record {
      is_open = refl;
      unwritten = λ k. refl;
      grounded = subst (λ x. (k : ℕ) → k < x.bytes → Good s (x.place k)) same good.good;
      plain = subst (λ x. (k : ℕ) → k < x.bytes → is_memory s (x.place k) ≡ true) same good.plain;
      beyond = λ k h. subst (λ p. IsHome p.view) (sym (get_or_past (map place_of spots) k outside h)) tt;
    }

-- opening a loan that is passed asks nothing of the flat side
pub allowed_open_passed : (s : Storage) (f g : Placement) (memory : ℕ → ℕ) → Shows s f memory → (spots : List Spot) (w : Bool) → check_open s spots ≡ None
    → StartsLoan s f g → Passes s (new_loan (map place_of spots) w) f g → Shows (open_one s (new_loan (map place_of spots) w)) g memory
allowed_open_passed s f g memory shows spots w e starts passes =
    let new = new_loan (map place_of spots) w in
    open_passed s f g memory shows new (may_open s shows.laws spots w e) _ (opens_one s new) starts passes

-- opening one that is copied is a gather
pub allowed_open_copied : (s : Storage) (f g : Placement) (memory : ℕ → ℕ) → Shows s f memory → (spots : List Spot) (w : Bool) → check_open s spots ≡ None
    → StartsLoan s f g → Copies s (new_loan (map place_of spots) w) f g → Shows (open_one s (new_loan (map place_of spots) w)) g (gather s (new_loan (map place_of spots) w) f g memory)
allowed_open_copied s f g memory shows spots w e starts copies =
    let new = new_loan (map place_of spots) w in
    open_copied s f g memory shows new (may_open s shows.laws spots w e) _ (opens_one s new) starts copies

known_cells : (made opened : ℕ) (cs : List Cell) → AllKnown made opened cs → (i : ℕ) → Known made opened (get_or cs i Undefined)
known_cells made opened [] k i = tt
known_cells made opened (c ∷ cs) k zero = k.0
known_cells made opened (c ∷ cs) k (suc i) = known_cells made opened cs k.1 i

-- making an object fills its region
pub allowed_make : (s : Storage) (f g : Placement) (memory after : ℕ → ℕ) → Shows s f memory → (size : ℕ) (kind : Kind) (cells : List Cell)
    → (has_cells kind ≡ false → cells ≡ []) → AllKnown s.made s.opened cells
    → StartsObject s (new_object size kind cells) f g → Fills s (new_object size kind cells) g memory after → Shows (make_one s (new_object size kind cells)) g after
allowed_make s f g memory after shows size kind cells described known starts fills =
    let new = new_object size kind cells in
    make_keeps s f g memory after shows new refl (known_cells s.made s.opened cells known)
    (λ i h. ap (λ cs. get_or cs i Undefined) (described h)) _ (makes_one s new) starts fills
