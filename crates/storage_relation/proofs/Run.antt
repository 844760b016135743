-- Every run keeps the relation.
use Rattle.std.proofs.Common.{ℕ, sym, subst}
use Rattle.storage_model.specs.declared.cell.View.{View}
use Rattle.storage_model.specs.declared.cell.View.TheVariants.{Home, Loan}
use Rattle.storage_model.specs.declared.cell.Place.{Place}
use Rattle.storage_model.specs.Storage.{Storage, places, On, IsHome, IsLive, cell_at, Good}
use Rattle.storage_relation.specs.Relation.{Readable}
use Rattle.storage_relation.specs.Flat.{Shows, Placement, Stands, Known, address}
use Rattle.storage_relation.specs.Run.{State, Step, Reads, Writes, OpensPassed, OpensCopied, ClosesLoan, Makes, SetsDescriptor, EndsObject, Steps, Stays, Goes, IsEmpty}
use Rattle.storage_model.proofs.Chains.{loan_no_home}
use Rattle.storage_relation.proofs.Alone.{not_both}
use Rattle.storage_relation.proofs.Writing.{write_keeps}
use Rattle.storage_relation.proofs.Open.{open_passed, open_copied}
use Rattle.storage_relation.proofs.Close.{close_keeps}
use Rattle.storage_relation.proofs.Making.{make_keeps}
use Rattle.storage_relation.proofs.Describing.{describe_keeps}
use Rattle.storage_relation.proofs.Ending.{end_keeps, read_keeps}

pub step_keeps : (a b : State) → Step a b → Shows a.storage a.placement a.memory → Shows b.storage b.placement b.memory
step_keeps a _ (Reads p good may marks) h = read_keeps a.storage a.placement a.memory h marks
step_keeps a _ (Writes p good may c known cells puts marks sets after there rest) h =
    write_keeps a.storage a.placement a.memory after h p good may c known cells puts marks sets there rest
step_keeps a _ (OpensPassed new may loans opens placement starts passes) h =
    open_passed a.storage a.placement placement a.memory h new may loans opens starts passes
step_keeps a _ (OpensCopied new may loans opens placement starts copies) h =
    open_copied a.storage a.placement placement a.memory h new may loans opens starts copies
step_keeps a _ (ClosesLoan n last flags closes) h = close_keeps a.storage a.placement a.memory h n last flags closes
step_keeps a _ (Makes new alive known objects makes placement starts blank after fills) h =
    make_keeps a.storage a.placement placement a.memory after h new alive known blank objects makes starts fills
step_keeps a _ (SetsDescriptor n fields after sets) h = describe_keeps a.storage a.placement a.memory after h n fields sets
step_keeps a _ (EndsObject n flags ends) h = end_keeps a.storage a.placement a.memory h n flags ends

pub steps_keep : (a b : State) → Steps a b → Shows a.storage a.placement a.memory → Shows b.storage b.placement b.memory
steps_keep _ _ Stays h = h
steps_keep a b (Goes {b = c} x y) h = steps_keep c b y (step_keeps a c x h)

nothing_live : (s : Storage) → IsEmpty s → (v : View) → IsLive s v → ⊥
nothing_live s e (Home o) h = not_both (s.object o).alive h (e.dead o)
nothing_live s e (Loan l) h = not_both (s.loan l).is_open h (e.shut l)

pub empty_shows : (s : Storage) (f : Placement) (memory : ℕ → ℕ) → IsEmpty s → Shows s f memory
empty_shows s f memory e = record {
  laws = record {
    older = λ l k m i. absurd (loan_no_home m i (e.placeless l k));
    to_open = λ l h. e.shut l;
    to_make = λ o h. e.dead o;
    marked = λ l k w. absurd (not_both ((s.loan l).written k) w (e.unmarked l k));
    grounded = λ l k o b. absurd (not_both (s.loan l).is_open o (e.shut l));
    by_writable = λ l k w. absurd (not_both ((s.loan l).written k) w (e.unmarked l k));
    downward = λ l k m w. absurd (not_both ((s.loan l).written k) w (e.unmarked l k));
    covering = λ l k m n o. absurd (not_both (s.loan l).is_open o (e.shut l));
    plain = λ l k o. absurd (not_both (s.loan l).is_open o (e.shut l));
    blank = λ o i d. e.undefined o i;
    known = λ o i. subst (Known s.made s.opened) (sym (e.undefined o i)) tt;
  };
  aligned = λ v h. absurd (nothing_live s e v h);
  apart = λ v w h. absurd (nothing_live s e v h);
  passed = λ l k o. absurd (not_both (s.loan l).is_open o (e.shut l));
  begins = λ v h. absurd (nothing_live s e v h);
  cells = λ p h g. absurd (nothing_live s e p.view g.live);
  unwritten = λ l k o. absurd (not_both (s.loan l).is_open o (e.shut l));
  fields = λ o i a. absurd (nothing_live s e (Home o) a);
}

-- over any run from the start, each read sees its cell
pub run_sees : (a b : State) → IsEmpty a.storage → Steps a b → (p h : Place) → Good b.storage p → Readable b.storage p → IsHome h.view → On (places b.storage) p h
    → Stands b.placement (cell_at b.storage h) (b.memory (address b.placement p))
run_sees a b e x p h g r i on = (steps_keep a b x (empty_shows a.storage a.placement a.memory e)).cells p h g r i on
