-- Rows of offsets in 64 bits, and the exact offsets that they stand for.
use Rattle.std.proofs.Common.{◌≡◌, ℕ, ℤ, ◌+◌, ◌<◌, ◌≤◌, ◌+ℤ◌, ◌-ℤ◌, ◌*ℤ◌, List, [], ◌∷◌, ◌++◌, length, map, take, drop, get_or, ◌-◌, FitsSigned, w64, Vec, Global, Bool, true, false, ◌&&◌, ◌||◌, append_assoc, append-nil, refl, ap, sym, ◌∙◌, arith}
use Rattle.std.specs.Int.{int_wrap}
use Rattle.std.specs.List.{All, flat_map, list_all, list_any}
use Rattle.std.proofs.lemmas.Int.{int_wrap_fits, int_wrap-add_left}
use Rattle.std.proofs.lemmas.List.{map-append, take_more, take_all}
use Rattle.std.proofs.lemmas.List.Elements.{All-head, All-tail}
use Rattle.array_view.specs.declared.axes.AxisDim.{AxisDim}
use Rattle.array_view.specs.declared.subscript.Sub.{Sub}
use Rattle.array_view.specs.declared.subscript.Sub.TheVariants.{One, Triplet, Vector}
use Rattle.array_view.specs.Elements.{choices, element_offset, moved_in_64_bits, rows_in_64_bits, offsets_at, section_offsets}
use Rattle.array_view.specs.declared.view.ArrayView.{ArrayView}
use Rattle.array_view.specs.Sections.{IsSection}
use Rattle.array_view.specs.Subscripts.{are_designated, has_direction, has_no_subscript, subscripts_of}
use Rattle.array_view.proofs.Choosing.{map-choices}
use Rattle.array_view.proofs.Counting.{triplet_count-past}

pub row_more : (d : AxisDim) (o : ℤ) (ks start out after : List ℤ) (i : ℕ) (x e : ℤ) → i < length ks → out ≡ start ++ map (moved_in_64_bits d o) (take i ks) → after ≡ out ++ x ∷ [] → x ≡ moved_in_64_bits d o (get_or ks i e) → after ≡ start ++ map (moved_in_64_bits d o) (take (i + 1) ks)
row_more d o ks start out after i x e h p q r =
    rw (q, p, r, take_more ks i e h, map-append (moved_in_64_bits d o) (take i ks) (get_or ks i e ∷ []), append_assoc) refl

flat_map-append_one : {A : Type 0} (f : A → List ℤ) (xs : List A) (x : A) → flat_map f (xs ++ x ∷ []) ≡ flat_map f xs ++ f x
flat_map-append_one f [] x = append-nil (f x)
flat_map-append_one f (y ∷ ys) x = rw (flat_map-append_one f ys x) (sym (append_assoc (f y) (flat_map f ys) (f x)))

pub rows_more : (d : AxisDim) (ks offsets out after : List ℤ) (i : ℕ) (e : ℤ) → i < length offsets → out ≡ rows_in_64_bits d ks (take i offsets) → after ≡ out ++ map (moved_in_64_bits d (get_or offsets i e)) ks → after ≡ rows_in_64_bits d ks (take (i + 1) offsets)
rows_more d ks offsets out after i e h p q =
    rw (q, p, take_more offsets i e h) (sym (flat_map-append_one (λ o. map (moved_in_64_bits d o) ks) (take i offsets) (get_or offsets i e)))

moved_wraps : (d : AxisDim) (o k : ℤ) → int_wrap w64 (o +ℤ (k -ℤ d.lower) *ℤ d.sm) ≡ moved_in_64_bits d (int_wrap w64 o) k
unfolding moved_in_64_bits
moved_wraps d o k = sym (int_wrap-add_left w64 o ((k -ℤ d.lower) *ℤ d.sm))

map-map : {A : Type 0} (f : ℤ → ℤ) (g : A → ℤ) (xs : List A) → map f (map g xs) ≡ map (λ x. f (g x)) xs
map-map f g [] = refl
map-map f g (x ∷ xs) = ap (λ ys. f (g x) ∷ ys) (map-map f g xs)

-- a dimension more, in 64 bits
pub wrapped_more : (base : ℤ) (d : AxisDim) (ds : List AxisDim) (ks : List ℤ) (rest : List (List ℤ)) → rows_in_64_bits d ks (map (int_wrap w64) (offsets_at base ds rest)) ≡ map (int_wrap w64) (offsets_at base (d ∷ ds) (ks ∷ rest))
wrapped_more base d ds ks rest =
    sym (map-map (int_wrap w64) (element_offset base (d ∷ ds)) (choices (ks ∷ rest))
    ∙ map-choices (λ c. int_wrap w64 (element_offset base (d ∷ ds) c)) (moved_in_64_bits d) (λ c. int_wrap w64 (element_offset base ds c)) (λ k others. moved_wraps d (element_offset base ds others) k) ks (choices rest)
    ∙ ap (rows_in_64_bits d ks) (sym (map-map (int_wrap w64) (element_offset base ds) (choices rest))))

-- what fits is in 64 bits as it is
pub wrapped_fits : (xs : List ℤ) → All (FitsSigned w64) xs → map (int_wrap w64) xs ≡ xs
wrapped_fits [] h = refl
wrapped_fits (x ∷ xs) h = rw (int_wrap_fits w64 x (All-head (FitsSigned w64) x xs h), wrapped_fits xs (All-tail (FitsSigned w64) x xs h)) refl

empty_rows : (css : List (List ℤ)) → flat_map (λ (others : List ℤ). map (λ k. k ∷ others) []) css ≡ []
empty_rows [] = refl
empty_rows (c ∷ cs) = empty_rows cs

-- a dimension without subscripts leaves no choice
pub choices_empty_first : (ks : List ℤ) (rest : List (List ℤ)) → ks ≡ [] → choices (ks ∷ rest) ≡ []
choices_empty_first ks rest h = rw h (empty_rows (choices rest))

pub choices_empty_rest : (ks : List ℤ) (rest : List (List ℤ)) → choices rest ≡ [] → choices (ks ∷ rest) ≡ []
choices_empty_rest ks rest h = rw h refl

directed_cons : (a b c r : Bool) → (a && b && c) ≡ true → (c ≡ true → r ≡ true) → (a && r) ≡ true
directed_cons true true c r h f = f h
directed_cons true false c r h f = absurd (cc)
directed_cons false b c r h f = absurd (cc)

-- what is designated has a direction
pub directed : (ds : List AxisDim) (ss : List Sub) → length ss ≡ length ds → are_designated ds ss ≡ true → list_all has_direction ss ≡ true
directed [] [] e h = refl
directed [] (s ∷ ss) e h = absurd (omega arith)
directed (d ∷ ds) [] e h = refl
directed (d ∷ ds) (s ∷ ss) e h = directed_cons (has_direction s) _ _ _ h (λ k. directed ds ss (omega arith) k)

none_occurs : (s : Sub) → has_no_subscript s ≡ true → subscripts_of s ≡ []
none_occurs (One k) h = absurd (cc)
none_occurs (Triplet first last stride) h = rw (triplet_count-past first last stride h) refl
none_occurs (Vector []) h = refl
none_occurs (Vector (k ∷ ks)) h = absurd (grind arith)

none_at : (s : Sub) (ss : List Sub) (b : Bool) → has_no_subscript s ≡ b → (b || list_any has_no_subscript ss) ≡ true → (list_any has_no_subscript ss ≡ true → choices (map subscripts_of ss) ≡ []) → choices (map subscripts_of (s ∷ ss)) ≡ []
none_at s ss true e h f = choices_empty_first (subscripts_of s) (map subscripts_of ss) (none_occurs s e)
none_at s ss false e h f = choices_empty_rest (subscripts_of s) (map subscripts_of ss) (f h)

-- where no subscript occurs in some dimension, there is no choice
pub none_chosen : (ss : List Sub) → list_any has_no_subscript ss ≡ true → choices (map subscripts_of ss) ≡ []
none_chosen [] h = absurd (cc)
none_chosen (s ∷ ss) h = none_at s ss (has_no_subscript s) refl h (none_chosen ss)

pub row_all : (d : AxisDim) (o o' : ℤ) (ks start out : List ℤ) (i : ℕ) → o ≡ o' → length ks ≤ i → out ≡ start ++ map (moved_in_64_bits d o) (take i ks) → out ≡ start ++ map (moved_in_64_bits d o') ks
row_all d o o' ks start out i e h p = rw (e, take_all i ks h) at p

-- the rest of a list
rest_of : {A : Type 0} (x : A) (xs : List A) → take (length (x ∷ xs) - 1) (drop 1 (x ∷ xs)) ≡ xs
rest_of x xs = take_all (length (x ∷ xs) - 1) xs (omega arith)

-- a dimension more, at the heads of lists
pub wrapped_at : (base base' : ℤ) (dims : List AxisDim) (subs : List Sub) (z : AxisDim) (s : Sub) (offsets longer : List ℤ) → 1 ≤ length dims → 1 ≤ length subs → s ≡ get_or subs 0 s → base ≡ base' → offsets ≡ map (int_wrap w64) (offsets_at base (take (length dims - 1) (drop 1 dims)) (map subscripts_of (take (length subs - 1) (drop 1 subs)))) → longer ≡ rows_in_64_bits (get_or dims 0 z) (subscripts_of s) offsets → longer ≡ map (int_wrap w64) (offsets_at base' dims (map subscripts_of subs))
wrapped_at base base' [] subs z s offsets longer h k e b p q = absurd (omega arith)
wrapped_at base base' (d ∷ ds) [] z s offsets longer h k e b p q = absurd (omega arith)
wrapped_at base base' (d ∷ ds) (t ∷ ts) z s offsets longer h k e b p q =
    q ∙ ap (λ (x : Sub). rows_in_64_bits d (subscripts_of x) offsets) e
    ∙ ap (rows_in_64_bits d (subscripts_of t)) (rw (rest_of d ds, rest_of t ts, b) at p)
    ∙ wrapped_more base' d ds (subscripts_of t) (map subscripts_of ts)

pub rows_all : (d : AxisDim) (ks offsets out : List ℤ) (i : ℕ) → length offsets ≤ i → out ≡ rows_in_64_bits d ks (take i offsets) → out ≡ rows_in_64_bits d ks offsets
rows_all d ks offsets out i h p = rw (take_all i offsets h) at p

-- what was found is the section
pub section_is : (v : ArrayView) (subs : List Sub) (base : ℤ) (dims : List AxisDim) (out : Vec ℤ Global) → are_designated v.dims subs ≡ true → base ≡ v.base → dims ≡ v.dims → out.items ≡ map (int_wrap w64) (offsets_at base dims (map subscripts_of subs)) → IsSection v subs out
section_is v subs base dims out d e f p = record {
  designated = d;
  exact = λ h. (rw (e, f) at p) ∙ wrapped_fits (section_offsets v subs) h;
  wrapped = rw (e, f) at p;
}

-- no element is a section too
pub nothing_is : (v : ArrayView) (subs : List Sub) (out : Vec ℤ Global) → are_designated v.dims subs ≡ true → choices (map subscripts_of subs) ≡ [] → out.items ≡ [] → IsSection v subs out
nothing_is v subs out d c p = record {
  designated = d;
  exact = λ h. p ∙ sym (ap (λ (cs : List (List ℤ)). map (element_offset v.base v.dims) cs) c);
  wrapped = p ∙ sym (ap (λ (cs : List (List ℤ)). map (int_wrap w64) (map (element_offset v.base v.dims) cs)) c);
}
