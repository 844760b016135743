-- One more object.
use Rattle.std.proofs.Common.{ℕ, zero, suc, ◌≡◌, ◌≤◌, ◌<◌, ◌^◌, refl, sym, ◌∙◌, ap, subst, arith, ⊎_elim, List, [], ◌∷◌, ◌++◌, length, get_or}
use Rattle.std.specs.Prelude.{◌≢◌, true, ◌==◌, if◌then◌else◌}
use Rattle.std.specs.Global.{Vec}
use Rattle.std.proofs.lemmas.Bool.{eq-eqb, ne_eqb, cond-true, cond-false}
use Rattle.storage_model.specs.declared.cell.View.{View}
use Rattle.storage_model.specs.declared.cell.View.TheVariants.{Home, Loan}
use Rattle.storage_model.specs.declared.cell.Place.{Place}
use Rattle.storage_model.specs.declared.held.HeldObject.{HeldObject}
use Rattle.storage_model.specs.declared.held.HeldLoan.{HeldLoan}
use Rattle.storage_model.specs.declared.held.Cover.{Cover}
use Rattle.storage_model.specs.Storage.{Storage, Object, at, by_view, places, is_memory, has_cells, size_of, is_live, Good}
use Rattle.storage_model.specs.Laws.{IsSound}
use Rattle.storage_model.specs.Chain.{home_of}
use Rattle.storage_model.specs.Ends.{make_one}
use Rattle.storage_model.specs.Held.{IsHeld, facts, nth_object, object_of, nth_table, nth_stack, stack_at, in_stack, cell_count}
use Rattle.storage_model.proofs.Chains.{nat_or}
use Rattle.storage_model.proofs.Grounds.{not_both}

pub push_here : (xs : List HeldObject) (x : HeldObject) → nth_object (xs ++ x ∷ []) (length xs) ≡ object_of x
push_here [] x = refl
push_here (y ∷ ys) x = push_here ys x

pub push_else : (xs : List HeldObject) (x : HeldObject) (o : ℕ) → o ≢ length xs → nth_object (xs ++ x ∷ []) o ≡ nth_object xs o
push_else [] x zero ne = absurd (ne refl)
push_else [] x (suc o) ne = refl
push_else (y ∷ ys) x zero ne = refl
push_else (y ∷ ys) x (suc o) ne = push_else ys x o (λ e. ne (omega (arith, e)))

pub pushed_here : {A : Type 0} (xs : List A) (x d : A) → get_or (xs ++ x ∷ []) (length xs) d ≡ x
pushed_here [] x d = refl
pushed_here (y ∷ ys) x d = pushed_here ys x d

pub pushed_before : {A : Type 0} (xs : List A) (x d : A) (o : ℕ) → o < length xs → get_or (xs ++ x ∷ []) o d ≡ get_or xs o d
pushed_before [] x d o h = absurd (omega arith)
pushed_before (y ∷ ys) x d zero h = refl
pushed_before (y ∷ ys) x d (suc o) h = pushed_before ys x d o (omega arith)

length_pushed : {A : Type 0} (xs : List A) (x : A) → length (xs ++ x ∷ []) ≡ suc (length xs)
length_pushed [] x = refl
length_pushed (y ∷ ys) x = ap suc (length_pushed ys x)

pub push_at : (xs : List HeldObject) (x : HeldObject) (o : ℕ) → nth_object (xs ++ x ∷ []) o ≡ (if o == length xs then object_of x else nth_object xs o)
push_at xs x o = ⊎_elim
    (λ e. ap (nth_object (xs ++ x ∷ [])) e ∙ push_here xs x ∙ sym (cond-true (o == length xs) (object_of x) (nth_object xs o) (eq-eqb o (length xs) e)))
    (λ ne. push_else xs x o ne ∙ sym (cond-false (o == length xs) (object_of x) (nth_object xs o) (ne_eqb o (length xs) ne)))
    (nat_or o (length xs))

pub make_facts : (xs : List HeldObject) (x : HeldObject) (loans : List HeldLoan) → facts (xs ++ x ∷ []) loans ≡ make_one (facts xs loans) (object_of x)
make_facts xs x loans = λ i. record (facts xs loans) { made = length_pushed xs x i; object = λ o. push_at xs x o i }

module _ (s : Storage) (laws : IsSound s) (new : Object) where
  made_else : (o : ℕ) → o ≢ s.made → (if o == s.made then new else s.object o) ≡ s.object o
  made_else o ne = cond-false (o == s.made) new (s.object o) (ne_eqb o s.made ne)

  not_new : (o : ℕ) → (s.object o).alive ≡ true → o ≢ s.made
  not_new o h e = not_both (s.object o).alive h (laws.to_make o (omega (arith, e)))

  pub good_make : (p : Place) → Good s p → Good (make_one s new) p
  good_make p g = go p.view p.offset g.live g.within
    where
      go : (v : View) (k : ℕ) → is_live s v ≡ true → k < size_of s v → Good (make_one s new) (at v k)
      go (Home o) k live within = let e = made_else o (not_new o live) in
          record { live = ap (λ x. x.alive) e ∙ live; within = subst (λ x. k < x.size) (sym e) within }
      go (Loan l) k live within = record { live = live; within = within }

  memory_make : (p : Place) → Good s p → is_memory s p ≡ true → is_memory (make_one s new) p ≡ true
  memory_make p g m = go p.view g.live m
    where
      go : (v : View) → is_live s v ≡ true → is_memory s (at v 0) ≡ true → is_memory (make_one s new) (at v 0) ≡ true
      go (Home o) live m = ap (λ x. has_cells x.kind) (made_else o (not_new o live)) ∙ m
      go (Loan l) live m = m

  pub sound_make : IsSound (make_one s new)
  sound_make = record {
    older = laws.older;
    to_open = laws.to_open;
    to_make = λ o h. ap (λ x. x.alive) (made_else o (λ e. absurd (omega (arith, e, h)))) ∙ laws.to_make o (omega arith);
    grounded = λ l k o b. good_make (places s l k) (laws.grounded l k o b);
    plain = λ l k o b. memory_make (places s l k) (laws.grounded l k o b) (laws.plain l k o b);
  }

  small_make : new.size < 2 ^ 63 → ((v : View) → size_of s v < 2 ^ 63) → (v : View) → size_of (make_one s new) v < 2 ^ 63
  small_make h small (Home o) = ⊎_elim
      (λ e. subst (λ x. x.size < 2 ^ 63) (sym (cond-true (o == s.made) new (s.object o) (eq-eqb o s.made e))) h)
      (λ ne. subst (λ x. x.size < 2 ^ 63) (sym (made_else o ne)) (small (Home o)))
      (nat_or o s.made)
  small_make h small (Loan l) = small (Loan l)

-- one more table of lists, which are empty
table_same : (covers : List (Vec (Vec Cover))) (v : Vec (Vec Cover)) → v.items ≡ [] → (o : ℕ) → nth_table (covers ++ v ∷ []) o ≡ nth_table covers o
table_same [] v e zero = e
table_same [] v e (suc o) = refl
table_same (t ∷ ts) v e zero = refl
table_same (t ∷ ts) v e (suc o) = table_same ts v e o

pub held_table : (objects : List HeldObject) (loans : List HeldLoan) (covers : List (Vec (Vec Cover))) (v : Vec (Vec Cover)) → v.items ≡ [] → IsHeld objects loans covers
    → IsHeld objects loans (covers ++ v ∷ [])
held_table objects loans covers v e held = record {
  sound = held.sound;
  sized = held.sized;
  small = held.small;
  parallel = (let p = held.parallel in let q = length_pushed covers v in omega (arith, p, q));
  listed = λ l k o b. subst (λ xs. in_stack l k xs ≡ true) (sym (same (home_of (facts objects loans) (at (Loan l) k)))) (held.listed l k o b);
}
  where
    same : (h : Place) → stack_at (covers ++ v ∷ []) h ≡ stack_at covers h
    same h = λ i. by_view (λ o. nth_stack (table_same covers v e o i) h.offset) (λ l. []) h.view

pub held_make : (objects : List HeldObject) (loans : List HeldLoan) (covers : List (Vec (Vec Cover))) (x : HeldObject) → length objects < length covers
    → length x.cells.items ≡ cell_count x → x.size < 2 ^ 63 → IsHeld objects loans covers → IsHeld (objects ++ x ∷ []) loans covers
held_make objects loans covers x room sized small held =
    let e = make_facts objects x loans in
    let s = facts objects loans in
    record {
      sound = subst IsSound (sym e) (sound_make s held.sound (object_of x));
      sized = λ o y h is. ⊎_elim
          (λ at_end. let f : y ≡ x = is ∙ ap (λ n. get_or (objects ++ x ∷ []) n y) at_end ∙ pushed_here objects x y in
          subst (λ z. length z.cells.items ≡ cell_count z) (sym f) sized)
          (λ ne. let q = length_pushed objects x in let lt : o < length objects = before o (length objects) (omega (arith, h, q)) ne in
          held.sized o y lt (is ∙ pushed_before objects x y o lt))
          (nat_or o (length objects));
      small = subst (λ t. (v : View) → size_of t v < 2 ^ 63) (sym e) (small_make s held.sound (object_of x) small held.small);
      parallel = (let q = length_pushed objects x in omega (arith, q, room));
      listed = subst (λ t. (l k : ℕ) → (t.loan l).is_open ≡ true → k < (t.loan l).bytes → in_stack l k (stack_at covers (home_of t (at (Loan l) k))) ≡ true) (sym e) held.listed;
    }
  where
    before : (o n : ℕ) → o < suc n → o ≢ n → o < n
    before o n h ne = grind (arith, ne)

pub room_pushed : (objects : List HeldObject) (covers : List (Vec (Vec Cover))) (v : Vec (Vec Cover)) → length objects ≤ length covers → length objects < length (covers ++ v ∷ [])
room_pushed objects covers v h = let q = length_pushed covers v in omega (arith, q, h)
