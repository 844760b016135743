-- Places of units by where the units begin.
use Rattle.std.proofs.Common.{◌≡◌, ℕ, zero, suc, ◌+◌, ◌<◌, ◌≤◌, ◌⊎◌, inl, inr, List, [], ◌∷◌, ◌++◌, length, take, get_or, refl, sym, ◌∙◌, subst, arith}
use Rattle.std.specs.Prelude.{slice_get, Some}
use Rattle.std.proofs.lemmas.Option.{slice_get-get_or}
use Rattle.rv_assemble.specs.declared.object.ObjUnit.{ObjUnit}
use Rattle.rv_assemble.specs.declared.object.RelocationKind.{RelocationKind}
use Rattle.rv_assemble.specs.declared.object.RelocationKind.TheVariants.{Pair, Word}
use Rattle.linker.specs.declared.offsets.Start.{Start}
use Rattle.linker.specs.Layout.{codes, images, code_size, laid}
use Rattle.linker.specs.Starts.{IsStart, AreStarts}
use Rattle.linker.specs.Linked.{IsInside}
use Rattle.linker.proofs.Sites.{code_within, codes-fit, image_within, length-laid}

pub start_of : (units : List ObjUnit) (starts : List Start) (k : ℕ) (d : Start) → AreStarts units starts → k < length units → IsStart units k (get_or starts k d)
start_of units starts k d h lt = h.each k (get_or starts k d) (slice_get-get_or starts k d (let e = h.count in omega (arith, e, lt)))

pub code_small : (units : List ObjUnit) (k : ℕ) (u : ObjUnit) (s : Start) → length (laid units) < 2000000000 → IsStart units k s → slice_get units k ≡ Some u → s.code + length u.code < 2000000000
code_small units k u s small h g =
    let e = h.code in
    let a = code_within units k u g in
    let b = codes-fit units in
    let l = length-laid units in
    by s.code (length u.code) (length (codes (take k units))) (length (codes units)) (code_size units) (length (images units)) (length (laid units)) e a b l small
  where
    by : (code len before codes size images all : ℕ) → code ≡ before → before + len ≤ codes → codes ≤ size → all ≡ size + images → all < 2000000000 → code + len < 2000000000
    by code len before codes size images all e a b l small = omega arith

pub image_small : (units : List ObjUnit) (k : ℕ) (u : ObjUnit) (s : Start) → length (laid units) < 2000000000 → IsStart units k s → slice_get units k ≡ Some u → s.image + length u.image < 2000000000
image_small units k u s small h g =
    let e = h.image in
    let a = image_within units k u g in
    let l = length-laid units in
    by s.image (length u.image) (length (images (take k units))) (code_size units) (length (images units)) (length (laid units)) e a l small
  where
    by : (image len before size images all : ℕ) → image ≡ size + before → before + len ≤ images → all ≡ size + images → all < 2000000000 → image + len < 2000000000
    by image len before size images all e a l small = omega arith

pub inside_below : (u : ObjUnit) (at : ℕ) (kind : RelocationKind) → IsInside u at kind → at + 8 ≤ length u.code + length u.image
inside_below u at Pair h = omega arith
inside_below u at Word h = h.1

-- the starts with one more
pub starts-more : (units : List ObjUnit) (starts : List Start) (n : ℕ) (s : Start) → length starts ≡ n → ((k : ℕ) (t : Start) → slice_get starts k ≡ Some t → IsStart units k t) → IsStart units n s
    → (k : ℕ) (t : Start) → slice_get (starts ++ s ∷ []) k ≡ Some t → IsStart units k t
starts-more units starts n s count h one k t g = by (split starts k t g)
  where
    split : (xs : List Start) (k : ℕ) (t : Start) → slice_get (xs ++ s ∷ []) k ≡ Some t → (slice_get xs k ≡ Some t) ⊎ ((s ≡ t) × (k ≡ length xs))
    split [] zero t g = let e : s ≡ t = cc in inr (e, refl)
    split [] (suc k) t g = cc
    split (x ∷ xs) zero t g = inl g
    split (x ∷ xs) (suc k) t g = elim (split xs k t g) [ inl a ↦ inl a | inr a ↦ (let n = a.1 in inr (a.0, omega (arith, n))) ]

    by : (slice_get starts k ≡ Some t) ⊎ ((s ≡ t) × (k ≡ length starts)) → IsStart units k t
    by (inl a) = h k t a
    by (inr a) = subst (λ (x : Start). IsStart units k x) a.0 (subst (λ (m : ℕ). IsStart units m s) (sym (a.1 ∙ count)) one)
