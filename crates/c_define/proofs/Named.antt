-- Names and their indices.
use Rattle.std.proofs.Common.{◌≡◌, ℕ, zero, suc, ◌+◌, ◌<◌, Bool, true, false, cond, not, ◌||◌, ltb, lt-ltb, List, [], ◌∷◌, ◌++◌, map, length, length-append, get_or, Option, Some, None, refl, sym, ap, ◌∙◌, arith, eqb}
use Rattle.std.specs.Prelude.{Vec}
use Rattle.std.specs.declared.alloc.Global.{Global}
use Rattle.std.specs.List.{list_any, position, position_or_len}
use Rattle.std.specs.Str.{bytes_eq}
use Rattle.std.specs.Cmp.Lexicographic.{pointwise}
use Rattle.std.proofs.lemmas.Slice.Eq.{bytes_eq-Decides}
use Rattle.std.proofs.lemmas.Bool.{ltb-true, le-ltb, ltb-false}
use Rattle.c_define.specs.Expansion.{seen}
use Rattle.c_define.specs.Numbers.{number_of, AreDistinct}

pub same_bytes : (a b : List ℕ) → bytes_eq a b ≡ true → a ≡ b
same_bytes a b e = (bytes_eq-Decides a b).0 e

pub bytes_same : (a : List ℕ) → bytes_eq a a ≡ true
bytes_same a = (bytes_eq-Decides a a).1 refl

first_place : {X : Type 0} (p : X → Bool) (x : X) (xs : List X) → position p (x ∷ xs) ≡ cond (p x) (Some 0) (seen (λ n. suc n) (position p xs))
first_place p x xs = pick (p x)
  where
    more : (b : Bool) → ltb (position_or_len p xs) (length xs) ≡ b → cond (ltb (1 + position_or_len p xs) (length (x ∷ xs))) (Some (1 + position_or_len p xs)) None ≡ seen (λ n. suc n) (cond b (Some (position_or_len p xs)) None)
    more true e =
        let lt = ltb-true (position_or_len p xs) (length xs) e in
        let one : 1 + position_or_len p xs ≡ suc (position_or_len p xs) = omega arith in
        let t : ltb (1 + position_or_len p xs) (length (x ∷ xs)) ≡ true = lt-ltb (1 + position_or_len p xs) (length (x ∷ xs)) (omega (arith, lt)) in
        rw t (ap Some one)
    more false e =
        let ge = ltb-false (position_or_len p xs) (length xs) e in
        let t : ltb (1 + position_or_len p xs) (length (x ∷ xs)) ≡ false = le-ltb (1 + position_or_len p xs) (length (x ∷ xs)) (omega (arith, ge)) in rw t refl

    pick : (b : Bool) → cond (ltb (cond (not b) (1 + position_or_len p xs) 0) (length (x ∷ xs))) (Some (cond (not b) (1 + position_or_len p xs) 0)) None ≡ cond b (Some 0) (seen (λ n. suc n) (position p xs))
    pick true = let t : ltb 0 (length (x ∷ xs)) ≡ true = lt-ltb 0 (length (x ∷ xs)) (omega arith) in rw t refl
    pick false = more (ltb (position_or_len p xs) (length xs)) refl

pub find_is : (keys : List (Vec ℕ Global)) (name : List ℕ) → position (λ (k : Vec ℕ Global). pointwise eqb name k.items) keys ≡ number_of (map (λ v. v.items) keys) name
unfolding number_of
find_is [] name = refl
find_is (k ∷ ks) name = first_place (λ (k : Vec ℕ Global). pointwise eqb name k.items) k ks ∙ ap (λ o. cond (bytes_eq name k.items) (Some 0) (seen (λ n. suc n) o)) (find_is ks name)

pub not_among : (keys : List (Vec ℕ Global)) (name : List ℕ) → number_of (map (λ v. v.items) keys) name ≡ None → list_any (λ (k : Vec ℕ Global). pointwise eqb name k.items) keys ≡ false
unfolding number_of
not_among [] name e = refl
not_among (k ∷ ks) name e = pick (bytes_eq name k.items) (number_of (map (λ v. v.items) ks) name) refl e (not_among ks name)
  where
    pick : (b : Bool) (o : Option ℕ) → number_of (map (λ v. v.items) ks) name ≡ o → cond b (Some 0) (seen (λ n. suc n) o) ≡ None → (number_of (map (λ v. v.items) ks) name ≡ None → list_any (λ (k : Vec ℕ Global). pointwise eqb name k.items) ks ≡ false)
        → (b || list_any (λ (k : Vec ℕ Global). pointwise eqb name k.items) ks) ≡ false
    pick true o oe e ih = cc
    pick false None oe e ih = ih oe
    pick false (Some n) oe e ih = cc

-- ---- a name more

pub number_old : (names more : List (List ℕ)) (x : List ℕ) (n : ℕ) → number_of names x ≡ Some n → number_of (names ++ more) x ≡ Some n
unfolding number_of
number_old [] more x n e = cc
number_old (k ∷ ks) more x n e = pick (bytes_eq x k) (number_of ks x) refl e (number_old ks more x)
  where
    pick : (b : Bool) (o : Option ℕ) → number_of ks x ≡ o → cond b (Some 0) (seen (λ n. suc n) o) ≡ Some n → ((m : ℕ) → number_of ks x ≡ Some m → number_of (ks ++ more) x ≡ Some m) → cond b (Some 0) (seen (λ n. suc n) (number_of (ks ++ more) x)) ≡ Some n
    pick true o oe e ih = e
    pick false None oe e ih = cc
    pick false (Some m) oe e ih = ap (seen (λ n. suc n)) (ih m oe) ∙ e

pub number_new : (names : List (List ℕ)) (x : List ℕ) → number_of names x ≡ None → number_of (names ++ x ∷ []) x ≡ Some (length names)
unfolding number_of
number_new [] x e = rw (bytes_same x) refl
number_new (k ∷ ks) x e = pick (bytes_eq x k) (number_of ks x) refl e (number_new ks x)
  where
    pick : (b : Bool) (o : Option ℕ) → number_of ks x ≡ o → cond b (Some 0) (seen (λ n. suc n) o) ≡ None → (number_of ks x ≡ None → number_of (ks ++ x ∷ []) x ≡ Some (length ks)) → cond b (Some 0) (seen (λ n. suc n) (number_of (ks ++ x ∷ []) x)) ≡ Some (length (k ∷ ks))
    pick true o oe e ih = cc
    pick false None oe e ih = ap (seen (λ n. suc n)) (ih oe)
    pick false (Some m) oe e ih = cc

pub number_within : (names : List (List ℕ)) (x : List ℕ) (n : ℕ) → number_of names x ≡ Some n → (n < length names) × (get_or names n [] ≡ x)
unfolding number_of
number_within [] x n e = cc
number_within (k ∷ ks) x n e = pick (bytes_eq x k) refl (number_of ks x) refl e (number_within ks x)
  where
    pick : (b : Bool) → bytes_eq x k ≡ b → (o : Option ℕ) → number_of ks x ≡ o → cond b (Some 0) (seen (λ n. suc n) o) ≡ Some n → ((m : ℕ) → number_of ks x ≡ Some m → (m < length ks) × (get_or ks m [] ≡ x)) → (n < length (k ∷ ks)) × (get_or (k ∷ ks) n [] ≡ x)
    pick true be o oe e ih = let z : 0 ≡ n = cc in rw (← z) (omega arith, sym (same_bytes x k be))
    pick false be None oe e ih = cc
    pick false be (Some m) oe e ih = let s : suc m ≡ n = cc in let h = ih m oe in rw (← s) (omega (arith, h.0), h.1)

pub get_old : {A : Type 0} (xs ys : List A) (n : ℕ) (d : A) → n < length xs → get_or (xs ++ ys) n d ≡ get_or xs n d
get_old [] ys n d lt = absurd (omega arith)
get_old (x ∷ xs) ys zero d lt = refl
get_old (x ∷ xs) ys (suc n) d lt = get_old xs ys n d (omega arith)

pub get_last : {A : Type 0} (xs : List A) (x d : A) (n : ℕ) → n ≡ length xs → get_or (xs ++ x ∷ []) n d ≡ x
get_last [] x d n e = rw e refl
get_last (y ∷ ys) x d zero e = absurd (omega arith)
get_last (y ∷ ys) x d (suc n) e = get_last ys x d n (omega arith)

pub distinct_more : (names : List (List ℕ)) (x : List ℕ) → number_of names x ≡ None → AreDistinct names → AreDistinct (names ++ x ∷ [])
distinct_more names x none d n lt = pick (ltb n (length names)) refl
  where
    pick : (b : Bool) → ltb n (length names) ≡ b → number_of (names ++ x ∷ []) (get_or (names ++ x ∷ []) n []) ≡ Some n
    pick true e = let less = ltb-true n (length names) e in ap (number_of (names ++ x ∷ [])) (get_old names (x ∷ []) n [] less) ∙ number_old names (x ∷ []) (get_or names n []) n (d n less)
    pick false e =
        let last : n ≡ length names = omega (arith, ltb-false n (length names) e, length-append names (x ∷ []), lt) in
        ap (number_of (names ++ x ∷ [])) (get_last names x [] n last) ∙ number_new names x none ∙ ap Some (sym last)
