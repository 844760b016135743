-- Names and their indices.
use Rattle.std.proofs.Common.{◌≡◌, ℕ, zero, suc, ◌+◌, ◌<◌, Bool, true, false, cond, not, ◌||◌, ltb, lt-ltb, List, [], ◌∷◌, ◌++◌, map, length, Option, Some, None, refl, sym, ap, ◌∙◌, arith, eqb}
use Rattle.std.specs.Prelude.{Vec, slice_get, Result, Ok, Err, OnOk, IfOk}
use Rattle.std.specs.declared.alloc.AllocError.{AllocError}
use Rattle.std.specs.declared.alloc.Global.{Global}
use Rattle.std.specs.List.{list_any, position, position_or_len}
use Rattle.std.specs.Str.{bytes_eq}
use Rattle.std.specs.Cmp.Lexicographic.{pointwise}
use Rattle.std.proofs.lemmas.Slice.Eq.{bytes_eq-Decides}
use Rattle.std.proofs.lemmas.Bool.{ltb-true, le-ltb, ltb-false}
use Rattle.c_words.specs.Words.{index_of}
use Rattle.c_words.specs.Making.{is_among, met}

pub same_bytes : (a b : List ℕ) → bytes_eq a b ≡ true → a ≡ b
same_bytes a b e = (bytes_eq-Decides a b).0 e

pub bytes_same : (a : List ℕ) → bytes_eq a a ≡ true
bytes_same a = (bytes_eq-Decides a a).1 refl

abbrev seen : Option ℕ → Option ℕ
seen None = None
seen (Some n) = Some (suc n)

first_place : {X : Type 0} (p : X → Bool) (x : X) (xs : List X) → position p (x ∷ xs) ≡ cond (p x) (Some 0) (seen (position p xs))
first_place p x xs = pick (p x)
  where
    more : (b : Bool) → ltb (position_or_len p xs) (length xs) ≡ b → cond (ltb (1 + position_or_len p xs) (length (x ∷ xs))) (Some (1 + position_or_len p xs)) None ≡ seen (cond b (Some (position_or_len p xs)) None)
    more true e =
        let lt = ltb-true (position_or_len p xs) (length xs) e in
        let one : 1 + position_or_len p xs ≡ suc (position_or_len p xs) = omega arith in
        let t : ltb (1 + position_or_len p xs) (length (x ∷ xs)) ≡ true = lt-ltb (1 + position_or_len p xs) (length (x ∷ xs)) (omega (arith, lt)) in
        rw t (ap Some one)
    more false e =
        let ge = ltb-false (position_or_len p xs) (length xs) e in
        let t : ltb (1 + position_or_len p xs) (length (x ∷ xs)) ≡ false = le-ltb (1 + position_or_len p xs) (length (x ∷ xs)) (omega (arith, ge)) in rw t refl

    pick : (b : Bool) → cond (ltb (cond (not b) (1 + position_or_len p xs) 0) (length (x ∷ xs))) (Some (cond (not b) (1 + position_or_len p xs) 0)) None ≡ cond b (Some 0) (seen (position p xs))
    pick true = let t : ltb 0 (length (x ∷ xs)) ≡ true = lt-ltb 0 (length (x ∷ xs)) (omega arith) in rw t refl
    pick false = more (ltb (position_or_len p xs) (length xs)) refl

abbrev pub named : List ℕ → Vec ℕ Global → Bool
named name k = pointwise eqb name k.items

abbrev pub spelled : List (Vec ℕ Global) → List (List ℕ)
spelled keys = map (λ v. v.items) keys

-- where the name is found
pub found_at : (keys : List (Vec ℕ Global)) (name : List ℕ) (n : ℕ) → position (λ (k : Vec ℕ Global). pointwise eqb name k.items) keys ≡ Some n → (is_among (map (λ v. v.items) keys) name ≡ true) × (n ≡ index_of (map (λ v. v.items) keys) name)
found_at [] name n e = absurd (cc)
found_at (k ∷ ks) name n e = pick (bytes_eq name k.items) (position (named name) ks) refl (sym (first_place (named name) k ks) ∙ e) (found_at ks name)
  where
    pick : (b : Bool) (o : Option ℕ) → position (named name) ks ≡ o → cond b (Some 0) (seen o) ≡ Some n
        → ((m : ℕ) → position (named name) ks ≡ Some m → (is_among (spelled ks) name ≡ true) × (m ≡ index_of (spelled ks) name))
        → (cond b true (is_among (spelled ks) name) ≡ true) × (n ≡ cond b 0 (suc (index_of (spelled ks) name)))
    pick true o oe e ih = (refl, cc)
    pick false None oe e ih = absurd (cc)
    pick false (Some m) oe e ih = let h = ih m oe in let s : n ≡ suc m = cc in (h.0, s ∙ ap suc h.1)

pub not_found : (keys : List (Vec ℕ Global)) (name : List ℕ) → position (λ (k : Vec ℕ Global). pointwise eqb name k.items) keys ≡ None → is_among (map (λ v. v.items) keys) name ≡ false
not_found [] name e = refl
not_found (k ∷ ks) name e = pick (bytes_eq name k.items) (position (named name) ks) refl (sym (first_place (named name) k ks) ∙ e) (not_found ks name)
  where
    pick : (b : Bool) (o : Option ℕ) → position (named name) ks ≡ o → cond b (Some 0) (seen o) ≡ None
        → (position (named name) ks ≡ None → is_among (spelled ks) name ≡ false) → cond b true (is_among (spelled ks) name) ≡ false
    pick true o oe e ih = absurd (cc)
    pick false None oe e ih = ih oe
    pick false (Some m) oe e ih = absurd (cc)

pub not_any : (keys : List (Vec ℕ Global)) (name : List ℕ) → is_among (map (λ v. v.items) keys) name ≡ false → list_any (λ (k : Vec ℕ Global). pointwise eqb name k.items) keys ≡ false
not_any [] name e = refl
not_any (k ∷ ks) name e = pick (bytes_eq name k.items) e (not_any ks name)
  where
    pick : (b : Bool) → cond b true (is_among (spelled ks) name) ≡ false → (is_among (spelled ks) name ≡ false → list_any (named name) ks ≡ false) → (b || list_any (named name) ks) ≡ false
    pick true e ih = absurd (cc)
    pick false e ih = ih e

-- ---- a name more

pub met_old : (names : List (List ℕ)) (s : List ℕ) → is_among names s ≡ true → names ≡ met names s
met_old names s e = rw e refl

pub met_new : (names : List (List ℕ)) (s : List ℕ) → is_among names s ≡ false → names ++ s ∷ [] ≡ met names s
met_new names s e = rw e refl

pub index_new : (names : List (List ℕ)) (s : List ℕ) → is_among names s ≡ false → length names ≡ index_of (names ++ s ∷ []) s
index_new [] s e = rw (bytes_same s) refl
index_new (k ∷ ks) s e = pick (bytes_eq s k) e (index_new ks s)
  where
    pick : (b : Bool) → cond b true (is_among ks s) ≡ false → (is_among ks s ≡ false → length ks ≡ index_of (ks ++ s ∷ []) s) → length (k ∷ ks) ≡ cond b 0 (suc (index_of (ks ++ s ∷ []) s))
    pick true e ih = absurd (cc)
    pick false e ih = ap suc (ih e)

pub index_old : (names more : List (List ℕ)) (s : List ℕ) → is_among names s ≡ true → index_of names s ≡ index_of (names ++ more) s
index_old [] more s e = absurd (cc)
index_old (k ∷ ks) more s e = pick (bytes_eq s k) e (index_old ks more s)
  where
    pick : (b : Bool) → cond b true (is_among ks s) ≡ true → (is_among ks s ≡ true → index_of ks s ≡ index_of (ks ++ more) s) → cond b 0 (suc (index_of ks s)) ≡ cond b 0 (suc (index_of (ks ++ more) s))
    pick true e ih = refl
    pick false e ih = ap suc (ih e)

-- the last name is among them
pub among_last : (names : List (List ℕ)) (s : List ℕ) → is_among (names ++ s ∷ []) s ≡ true
among_last [] s = rw (bytes_same s) refl
among_last (k ∷ ks) s = pick (bytes_eq s k) (among_last ks s)
  where
    pick : (b : Bool) → is_among (ks ++ s ∷ []) s ≡ true → cond b true (is_among (ks ++ s ∷ []) s) ≡ true
    pick true ih = refl
    pick false ih = ih

pub among_met : (names : List (List ℕ)) (s : List ℕ) → is_among (met names s) s ≡ true
among_met names s = pick (is_among names s) refl
  where
    pick : (b : Bool) → is_among names s ≡ b → is_among (cond b names (names ++ s ∷ [])) s ≡ true
    pick true e = e
    pick false e = among_last names s

-- a name is among more names than before where it was, or is the new one
pub among_more : (names : List (List ℕ)) (s x : List ℕ) → is_among (names ++ s ∷ []) x ≡ cond (is_among names x) true (bytes_eq x s)
among_more [] s x = pick (bytes_eq x s)
  where
    pick : (b : Bool) → cond b true false ≡ b
    pick true = refl
    pick false = refl
among_more (k ∷ ks) s x = pick (bytes_eq x k) (among_more ks s x)
  where
    pick : (b : Bool) → is_among (ks ++ s ∷ []) x ≡ cond (is_among ks x) true (bytes_eq x s) → cond b true (is_among (ks ++ s ∷ []) x) ≡ cond (cond b true (is_among ks x)) true (bytes_eq x s)
    pick true ih = refl
    pick false ih = ih

-- the name with its index
pub named_at : (names : List (List ℕ)) (s : List ℕ) → is_among names s ≡ true → slice_get names (index_of names s) ≡ Some s
named_at [] s e = absurd (cc)
named_at (k ∷ ks) s e = pick (bytes_eq s k) refl e (named_at ks s)
  where
    pick : (b : Bool) → bytes_eq s k ≡ b → cond b true (is_among ks s) ≡ true → (is_among ks s ≡ true → slice_get ks (index_of ks s) ≡ Some s) → slice_get (k ∷ ks) (cond b 0 (suc (index_of ks s))) ≡ Some s
    pick true b e ih = ap Some (sym (same_bytes s k b))
    pick false b e ih = ih e

-- ---- what is told of a name that is added

pub names_more : (r : Result ℕ AllocError) (names old : List (List ℕ)) (s : List ℕ) → is_among old s ≡ false → OnOk r (names ≡ old ++ s ∷ []) → OnOk r (names ≡ met old s)
names_more (Ok n) names old s e h = h ∙ met_new old s e
names_more (Err a) names old s e h = tt

pub number_more : (r : Result ℕ AllocError) (names old : List (List ℕ)) (s : List ℕ) → is_among old s ≡ false → OnOk r (names ≡ old ++ s ∷ []) → IfOk r (λ n. n ≡ length old) → IfOk r (λ n. n ≡ index_of names s)
number_more (Ok n) names old s e h k = k ∙ index_new old s e ∙ ap (λ l. index_of l s) (sym h)
number_more (Err a) names old s e h k = tt
