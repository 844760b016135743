-- Where the unit begins that is open inside the file.
use Rattle.std.proofs.Common.{◌≡◌, ℕ, zero, suc, ◌+◌, nat_lt, List, [], ◌∷◌, ◌++◌, map, length, Option, Some, None, Result, Ok, Err, Bool, true, false, refl, sym, ap, subst, ◌∙◌, arith}
use Rattle.std.proofs.lemmas.List.{map-append, append_assoc}
use Rattle.jf_base.specs.declared.place.Place.{Place}
use Rattle.f_declaration_grammar.specs.Declarations.{Program, Module, Head}
use Rattle.f_statement_grammar.specs.Statements.{Statement, Executable, Declaring}
use Rattle.f_unit_grammar.specs.Units.{State, File, Role, stays, enters, leaves, none, role, counts, deepest}
use Rattle.f_unit_grammar.specs.Placing.{Open, at_file}
use Rattle.f_unit_grammar.specs.Rules.{Rule, Misplaced, TooNested, Cut, and_read, read_cut, read_cuts}
use Rattle.f_statement_cut.specs.Pieces.{Piece, cut_of, place_or}
use Rattle.f_file_read.specs.Reading.{Opened, open_of, Stop, stop, unless_deeper, entered, moved, placed, nowhere}
use Rattle.f_file_read.specs.BrokenAt.{IsInside, StaysInside}

-- ---- reading one behind the other

pub cuts_step : (o p : Open) (c : Cut) (cs : List Cut) → read_cut o c ≡ Ok p → read_cuts o (c ∷ cs) ≡ read_cuts p cs
unfolding read_cuts
cuts_step o p c cs e = rw e refl

pub cuts_stop : (o : Open) (r : Rule) (c : Cut) (cs : List Cut) → read_cut o c ≡ Err r → read_cuts o (c ∷ cs) ≡ Err (r, c ∷ cs)
unfolding read_cuts
cuts_stop o r c cs e = rw e refl

pub cuts_end : (o : Open) → read_cuts o [] ≡ Ok o
unfolding read_cuts
cuts_end o = refl

pub read_is : (o p : Open) → let a : Result Open (Rule × List Cut) = Ok o in let b : Result Open (Rule × List Cut) = Ok p in a ≡ b → o ≡ p
read_is o p e = cc

not_read : (x : Rule × List Cut) (p : Open) → let a : Result Open (Rule × List Cut) = Err x in let b : Result Open (Rule × List Cut) = Ok p in a ≡ b → ⊥
not_read x p e = cc

cut_is : (o p : Open) → let a : Result Open Rule = Ok o in let b : Result Open Rule = Ok p in a ≡ b → o ≡ p
cut_is o p e = cc

pub cuts_append : (cs more : List Cut) (o p : Open) → read_cuts o cs ≡ Ok p → read_cuts o (cs ++ more) ≡ read_cuts p more
unfolding read_cuts
cuts_append [] more o p e = ap (λ (q : Open). read_cuts q more) (read_is o p e)
cuts_append (c ∷ cs) more o p e = pick (λ q g. cuts_append cs more q p g) (read_cut o c) refl e
  where
    pick : ((q : Open) → read_cuts q cs ≡ Ok p → read_cuts q (cs ++ more) ≡ read_cuts p more) → (r : Result Open Rule) → read_cut o c ≡ r → and_read r (c ∷ cs) (λ q. read_cuts q cs) ≡ Ok p → read_cuts o (c ∷ cs ++ more) ≡ read_cuts p more
    pick on (Ok q) i g = cuts_step o q c (cs ++ more) i ∙ on q g
    pick on (Err r) i g = absurd (not_read (r, c ∷ cs) p g)

pub cuts_last : (cs : List Cut) (c : Cut) (o p q : Open) → read_cuts o cs ≡ Ok p → read_cut p c ≡ Ok q → read_cuts o (cs ++ c ∷ []) ≡ Ok q
cuts_last cs c o p q e f = cuts_append cs (c ∷ []) o p e ∙ cuts_step p q c [] f ∙ cuts_end q

stays_on : (o p q : Open) (cs : List Cut) (c : Cut) → StaysInside o cs → read_cuts o cs ≡ Ok p → read_cut p c ≡ Ok q → IsInside q → StaysInside o (cs ++ c ∷ [])
unfolding read_cuts
stays_on o p q [] c s e f i = (s, λ next g. subst IsInside (cut_is q next (sym f ∙ sym (ap (λ (x : Open). read_cut x c) (read_is o p e)) ∙ g)) i)
stays_on o p q (d ∷ cs) c s e f i = (s.0, λ next g. stays_on next p q cs c (s.1 next g) (sym (cuts_step o next d cs g) ∙ e) f i)

-- ---- what is open

no_cons : (x : State × ℕ) (xs : Open) → let a : Open = x ∷ xs in let b : Open = [] in a ≡ b → ⊥
no_cons x xs e = cc

tail_is : (x y : State × ℕ) (xs ys : Open) → x ∷ xs ≡ y ∷ ys → xs ≡ ys
tail_is x y xs ys e = cc

-- more is open than one
pub inside_two : (xs : List Opened) (u f : Opened) → IsInside (open_of (xs ++ u ∷ f ∷ []))
inside_two [] u f e = no_cons (f.0, f.1) [] (tail_is (u.0, u.1) (File, 0) ((f.0, f.1) ∷ []) [] e)
inside_two (x ∷ []) u f e = no_cons (u.0, u.1) ((f.0, f.1) ∷ []) (tail_is (x.0, x.1) (File, 0) ((u.0, u.1) ∷ (f.0, f.1) ∷ []) [] e)
inside_two (x ∷ y ∷ xs) u f e = no_cons (y.0, y.1) (open_of (xs ++ u ∷ f ∷ [])) (tail_is (x.0, x.1) (File, 0) ((y.0, y.1) ∷ open_of (xs ++ u ∷ f ∷ [])) [] e)

-- what a statement does outside of all units
data Outside (s : Statement) : Type 0 where
  has_none : role File s ≡ none → Outside s
  begins_unit : (inner : State) → role File s ≡ enters File inner → Outside s

does_outside : (s : Statement) → Outside s
unfolding role
does_outside (Executable l) = has_none refl
does_outside (Declaring (Program name)) = begins_unit _ refl
does_outside (Declaring (Module name)) = begins_unit _ refl
does_outside (Declaring (Head ps f name d ss)) = begins_unit _ refl
does_outside (Declaring _) = has_none refl

-- what a statement leaves open
pub data Moved (o : Opened) (at : Place) (rest next : List Opened) : Type 0 where
  stayed : (k : State) → next ≡ (k, o.1, o.2) ∷ rest → Moved o at rest next
  begun : (k inner : State) (d : ℕ) → next ≡ (inner, d, at) ∷ (k, o.1, o.2) ∷ rest → Moved o at rest next
  left : next ≡ rest → Moved o at rest next

ok_is : (xs ys : List Opened) → let a : Result (List Opened) Stop = Ok xs in let b : Result (List Opened) Stop = Ok ys in a ≡ b → ys ≡ xs
ok_is xs ys e = cc

not_ok : (e : Stop) (ys : List Opened) → let a : Result (List Opened) Stop = Err e in let b : Result (List Opened) Stop = Ok ys in a ≡ b → ⊥
not_ok e ys i = cc

moves : (o : Opened) (at : Place) (rest next : List Opened) (r : Role) → moved r o at rest ≡ Ok next → Moved o at rest next
moves o at rest next (stays k) e = stayed k (ok_is ((k, o.1, o.2) ∷ rest) next e)
moves o at rest next (enters k inner) e = deep (nat_lt deepest (o.1 + counts inner)) e
  where
    deep : (b : Bool) → entered k inner (unless_deeper b (o.1 + counts inner)) o.1 o.2 at rest ≡ Ok next → Moved o at rest next
    deep true e = absurd (not_ok (stop at TooNested) next e)
    deep false e = begun k inner (o.1 + counts inner) (ok_is ((inner, o.1 + counts inner, at) ∷ (k, o.1, o.2) ∷ rest) next e)
moves o at rest next leaves e = left (ok_is rest next e)
moves o at rest next none e = absurd (not_ok (stop at Misplaced) next e)

placed_moves : (o : Opened) (at : Place) (rest next : List Opened) (s : Statement) → placed (o ∷ rest) at s ≡ Ok next → Moved o at rest next
unfolding placed
placed_moves o at rest next s e = moves o at rest next (role o.0 s) e

moved_by : (o : Opened) (at : Place) (rest : List Opened) (s : Statement) (r : Role) → role o.0 s ≡ r → placed (o ∷ rest) at s ≡ moved r o at rest
unfolding placed
moved_by o at rest s r e = rw e refl

-- a unit that begins leaves the file open
pub file_moves : (f : Opened) (at : Place) (next : List Opened) (s : Statement) → f.0 ≡ File → placed (f ∷ []) at s ≡ Ok next → (inner : State) × (d : ℕ) × (next ≡ (inner, d, at) ∷ (File, f.1, f.2) ∷ [])
file_moves f at next s k e = pick (does_outside s)
  where
    deep : (inner : State) (b : Bool) → entered File inner (unless_deeper b (f.1 + counts inner)) f.1 f.2 at [] ≡ Ok next → (inner : State) × (d : ℕ) × (next ≡ (inner, d, at) ∷ (File, f.1, f.2) ∷ [])
    deep inner true e = absurd (not_ok (stop at TooNested) next e)
    deep inner false e = (inner, f.1 + counts inner, ok_is ((inner, f.1 + counts inner, at) ∷ (File, f.1, f.2) ∷ []) next e)

    pick : Outside s → (inner : State) × (d : ℕ) × (next ≡ (inner, d, at) ∷ (File, f.1, f.2) ∷ [])
    pick (has_none i) = absurd (not_ok (stop at Misplaced) next (sym (moved_by f at [] s none (ap (λ (x : State). role x s) k ∙ i)) ∙ e))
    pick (begins_unit inner i) = deep inner (nat_lt deepest (f.1 + counts inner)) (sym (moved_by f at [] s (enters File inner) (ap (λ (x : State). role x s) k ∙ i)) ∙ e)

-- ---- where the unit begins

pub record Unended (before : List Piece) (last : Open) (place : Place) : Type 0 where
  pub outside : List Piece
  pub beginning : Piece
  pub behind : List Piece
  pub parts : before ≡ outside ++ beginning ∷ behind
  pub placed : read_cuts at_file (map cut_of outside) ≡ Ok at_file
  pub inside : Open
  pub begun : read_cut at_file (cut_of beginning) ≡ Ok inside
  pub stays : StaysInside inside (map cut_of behind)
  pub read : read_cuts inside (map cut_of behind) ≡ Ok last
  pub there : place ≡ place_or nowhere beginning

unended_on : (before : List Piece) (o q : Open) (place : Place) (p : Piece) → Unended before o place → read_cut o (cut_of p) ≡ Ok q → IsInside q → Unended (before ++ p ∷ []) q place
unended_on before o q place p u e i = record {
  outside = u.outside;
  beginning = u.beginning;
  behind = u.behind ++ p ∷ [];
  parts = ap (λ (l : List Piece). l ++ p ∷ []) u.parts ∙ append_assoc u.outside (u.beginning ∷ u.behind) (p ∷ []);
  placed = u.placed;
  inside = u.inside;
  begun = u.begun;
  stays = subst (StaysInside u.inside) (sym (map-append cut_of u.behind (p ∷ []))) (stays_on u.inside o q (map cut_of u.behind) (cut_of p) u.stays u.read e i);
  read = ap (read_cuts u.inside) (map-append cut_of u.behind (p ∷ [])) ∙ cuts_last (map cut_of u.behind) (cut_of p) u.inside o q u.read e;
  there = u.there;
}

-- the file alone is open, or a unit that is in it
pub data Rooted (before : List Piece) (os : List Opened) : Type 0 where
  alone : (f : Opened) → os ≡ f ∷ [] → f.0 ≡ File → f.1 ≡ 0 → Rooted before os
  within : (xs : List Opened) (u f : Opened) → os ≡ xs ++ u ∷ f ∷ [] → f.0 ≡ File → f.1 ≡ 0 → Unended before (open_of os) u.2 → Rooted before os

pub alone_is : (f : Opened) → f.0 ≡ File → f.1 ≡ 0 → open_of (f ∷ []) ≡ at_file
alone_is f e1 e2 = rw (e1, e2) refl

module _ (before : List Piece) (p : Piece) (next : List Opened) (s : Statement) where
  from_file : (f : Opened) → f.0 ≡ File → f.1 ≡ 0 → read_cuts at_file (map cut_of before) ≡ Ok (open_of (f ∷ [])) → read_cut (open_of (f ∷ [])) (cut_of p) ≡ Ok (open_of next) → placed (f ∷ []) (place_or nowhere p) s ≡ Ok next → Rooted (before ++ p ∷ []) next
  from_file f k d r c e =
      let m = file_moves f (place_or nowhere p) next s k e in
      within [] (m.0, m.1, place_or nowhere p) (File, f.1, f.2) m.2 refl d (record {
        outside = before;
        beginning = p;
        behind = [];
        parts = refl;
        placed = r ∙ ap (λ (o : Open). Ok o) (alone_is f k d);
        inside = open_of next;
        begun = sym (ap (λ (o : Open). read_cut o (cut_of p)) (alone_is f k d)) ∙ c;
        stays = subst (λ (o : List Opened). IsInside (open_of o)) (sym m.2) (inside_two [] (m.0, m.1, place_or nowhere p) (File, f.1, f.2));
        read = cuts_end (open_of next);
        there = refl;
      })

  module _ (o : Open) (place : Place) (was : Unended before o place) (c : read_cut o (cut_of p) ≡ Ok (open_of next)) where
    still : (xs : List Opened) (u f : Opened) → next ≡ xs ++ u ∷ f ∷ [] → f.0 ≡ File → f.1 ≡ 0 → u.2 ≡ place → Rooted (before ++ p ∷ []) next
    still xs u f e k d t = within xs u f e k d (subst (Unended (before ++ p ∷ []) (open_of next)) (sym t) (unended_on before o (open_of next) place p was c (subst (λ (x : List Opened). IsInside (open_of x)) (sym e) (inside_two xs u f))))

    from_unit : (u f : Opened) → u.2 ≡ place → f.0 ≡ File → f.1 ≡ 0 → Moved u (place_or nowhere p) (f ∷ []) next → Rooted (before ++ p ∷ []) next
    from_unit u f t k d (stayed j e) = still [] (j, u.1, u.2) f e k d t
    from_unit u f t k d (begun j inner n e) = still ((inner, n, place_or nowhere p) ∷ []) (j, u.1, u.2) f e k d t
    from_unit u f t k d (left e) = alone f e k d

    from_inner : (x : Opened) (xs : List Opened) (u f : Opened) → u.2 ≡ place → f.0 ≡ File → f.1 ≡ 0 → Moved x (place_or nowhere p) (xs ++ u ∷ f ∷ []) next → Rooted (before ++ p ∷ []) next
    from_inner x xs u f t k d (stayed j e) = still ((j, x.1, x.2) ∷ xs) u f e k d t
    from_inner x xs u f t k d (begun j inner n e) = still ((inner, n, place_or nowhere p) ∷ (j, x.1, x.2) ∷ xs) u f e k d t
    from_inner x xs u f t k d (left e) = still xs u f e k d t

  from_within : (xs : List Opened) (u f : Opened) → f.0 ≡ File → f.1 ≡ 0 → Unended before (open_of (xs ++ u ∷ f ∷ [])) u.2 → read_cut (open_of (xs ++ u ∷ f ∷ [])) (cut_of p) ≡ Ok (open_of next) → placed (xs ++ u ∷ f ∷ []) (place_or nowhere p) s ≡ Ok next → Rooted (before ++ p ∷ []) next
  from_within [] u f k d w c e = from_unit (open_of (u ∷ f ∷ [])) u.2 w c u f refl k d (placed_moves u (place_or nowhere p) (f ∷ []) next s e)
  from_within (x ∷ xs) u f k d w c e = from_inner (open_of (x ∷ xs ++ u ∷ f ∷ [])) u.2 w c x xs u f refl k d (placed_moves x (place_or nowhere p) (xs ++ u ∷ f ∷ []) next s e)

  pub rooted_on : (os : List Opened) → Rooted before os → read_cuts at_file (map cut_of before) ≡ Ok (open_of os) → read_cut (open_of os) (cut_of p) ≡ Ok (open_of next) → placed os (place_or nowhere p) s ≡ Ok next → Rooted (before ++ p ∷ []) next
  rooted_on os (alone f i k d) r c e =
      from_file f k d (r ∙ ap (λ (x : List Opened). Ok (open_of x)) i) (sym (ap (λ (x : List Opened). read_cut (open_of x) (cut_of p)) i) ∙ c) (sym (ap (λ (x : List Opened). placed x (place_or nowhere p) s) i) ∙ e)
  rooted_on os (within xs u f i k d w) r c e =
      from_within xs u f k d (subst (λ (x : List Opened). Unended before (open_of x) u.2) i w) (sym (ap (λ (x : List Opened). read_cut (open_of x) (cut_of p)) i) ∙ c) (sym (ap (λ (x : List Opened). placed x (place_or nowhere p) s) i) ∙ e)
