-- Where units lie in an image, and their relocations apart.
use Rattle.std.proofs.Common.{◌≡◌, ℕ, zero, suc, ◌+◌, ◌-◌, ◌<◌, ◌≤◌, ◌⊎◌, inl, inr, List, [], ◌∷◌, ◌++◌, length, length-append, take, refl, ap, ◌∙◌, arith}
use Rattle.std.specs.Prelude.{slice_get, Some, Bool, true, false, nat_lt, if◌then◌else◌}
use Rattle.std.proofs.lemmas.Bool.{ltb-true}
use Rattle.rv_assemble.specs.declared.object.ObjUnit.{ObjUnit}
use Rattle.rv_assemble.specs.declared.object.RelocationKind.{RelocationKind}
use Rattle.rv_assemble.specs.declared.object.RelocationKind.TheVariants.{Pair, Word}
use Rattle.linker.specs.declared.offsets.Start.{Start}
use Rattle.linker.specs.Layout.{codes, images, zeros, code_size, laid, offset_of}
use Rattle.linker.specs.Starts.{IsStart, place_in}
use Rattle.linker.specs.Linked.{NameLies, IsInside}
use Rattle.linker.specs.Resolving.{StaysWithin}
use Rattle.linker.proofs.Joined.{codes-more, images-more}

abbrev pub code_before : List ObjUnit → ℕ → ℕ
code_before units k = length (codes (take k units))

abbrev pub image_before : List ObjUnit → ℕ → ℕ
image_before units k = length (images (take k units))

length-zeros : (n : ℕ) → length (zeros n) ≡ n
length-zeros zero = refl
length-zeros (suc n) = let r = length-zeros n in omega (arith, r)

pub codes-fit : (units : List ObjUnit) → length (codes units) ≤ code_size units
codes-fit units = omega arith

pub length-laid : (units : List ObjUnit) → length (laid units) ≡ code_size units + length (images units)
length-laid units =
    let a = length-append (codes units ++ zeros (code_size units - length (codes units))) (images units) in
    let b = length-append (codes units) (zeros (code_size units - length (codes units))) in
    let c = length-zeros (code_size units - length (codes units)) in
    let d = codes-fit units in
    joined (length (laid units)) (length (codes units ++ zeros (code_size units - length (codes units)))) (length (images units)) (length (codes units)) (length (zeros (code_size units - length (codes units)))) (code_size units) a b c d
  where
    joined : (all front images code gap size : ℕ) → all ≡ front + images → front ≡ code + gap → gap ≡ size - code → code ≤ size → all ≡ size + images
    joined all front images code gap size a b c d = omega arith

pub code_next : (units : List ObjUnit) (k : ℕ) (u : ObjUnit) → slice_get units k ≡ Some u → code_before units (k + 1) ≡ code_before units k + length u.code
code_next units k u g = ap (λ (b : List ℕ). length b) (codes-more k units u g) ∙ length-append (codes (take k units)) u.code

pub image_next : (units : List ObjUnit) (k : ℕ) (u : ObjUnit) → slice_get units k ≡ Some u → image_before units (k + 1) ≡ image_before units k + length u.image
image_next units k u g = ap (λ (b : List ℕ). length b) (images-more k units u g) ∙ length-append (images (take k units)) u.image

-- a unit's bytes end before those of a later unit, and among all
pub code_grows : (units : List ObjUnit) (k i : ℕ) → k ≤ i → code_before units k ≤ code_before units i
code_grows [] zero i le = omega arith
code_grows [] (suc k) zero le = absurd (omega arith)
code_grows [] (suc k) (suc i) le = omega arith
code_grows (u ∷ units) zero i le = omega arith
code_grows (u ∷ units) (suc k) zero le = absurd (omega arith)
code_grows (u ∷ units) (suc k) (suc i) le =
    let r = code_grows units k i (omega arith) in
    let a = length-append u.code (codes (take k units)) in
    let b = length-append u.code (codes (take i units)) in
    omega (arith, r, a, b)

pub image_grows : (units : List ObjUnit) (k i : ℕ) → k ≤ i → image_before units k ≤ image_before units i
image_grows [] zero i le = omega arith
image_grows [] (suc k) zero le = absurd (omega arith)
image_grows [] (suc k) (suc i) le = omega arith
image_grows (u ∷ units) zero i le = omega arith
image_grows (u ∷ units) (suc k) zero le = absurd (omega arith)
image_grows (u ∷ units) (suc k) (suc i) le =
    let r = image_grows units k i (omega arith) in
    let a = length-append u.image (images (take k units)) in
    let b = length-append u.image (images (take i units)) in
    omega (arith, r, a, b)

pub code_whole : (units : List ObjUnit) (k : ℕ) → code_before units k ≤ length (codes units)
code_whole [] zero = omega arith
code_whole [] (suc k) = omega arith
code_whole (u ∷ units) zero = omega arith
code_whole (u ∷ units) (suc k) =
    let r = code_whole units k in
    let a = length-append u.code (codes (take k units)) in
    let b = length-append u.code (codes units) in
    omega (arith, r, a, b)

pub image_whole : (units : List ObjUnit) (k : ℕ) → image_before units k ≤ length (images units)
image_whole [] zero = omega arith
image_whole [] (suc k) = omega arith
image_whole (u ∷ units) zero = omega arith
image_whole (u ∷ units) (suc k) =
    let r = image_whole units k in
    let a = length-append u.image (images (take k units)) in
    let b = length-append u.image (images units) in
    omega (arith, r, a, b)

pub code_within : (units : List ObjUnit) (k : ℕ) (u : ObjUnit) → slice_get units k ≡ Some u → code_before units k + length u.code ≤ length (codes units)
code_within units k u g = let n = code_next units k u g in let w = code_whole units (k + 1) in omega (arith, n, w)

pub image_within : (units : List ObjUnit) (k : ℕ) (u : ObjUnit) → slice_get units k ≡ Some u → image_before units k + length u.image ≤ length (images units)
image_within units k u g = let n = image_next units k u g in let w = image_whole units (k + 1) in omega (arith, n, w)

pub code_later : (units : List ObjUnit) (k i : ℕ) (u : ObjUnit) → slice_get units k ≡ Some u → k < i → code_before units k + length u.code ≤ code_before units i
code_later units k i u g lt = let n = code_next units k u g in let w = code_grows units (k + 1) i (omega arith) in omega (arith, n, w)

pub image_later : (units : List ObjUnit) (k i : ℕ) (u : ObjUnit) → slice_get units k ≡ Some u → k < i → image_before units k + length u.image ≤ image_before units i
image_later units k i u g lt = let n = image_next units k u g in let w = image_grows units (k + 1) i (omega arith) in omega (arith, n, w)

-- the offset of a place by its part
pub record Part (code image len offset place : ℕ) : Type 0 where
  pub is : ((place < len) × (offset ≡ code + place)) ⊎ ((len ≤ place) × (offset ≡ image + (place - len)))

part-by : (code image len place : ℕ) (b : Bool) → nat_lt place len ≡ b → Part code image len (if b then code + place else image + (place - len)) place
part-by code image len place true e = record { is = inl (ltb-true place len e, refl) }
part-by code image len place false e = record { is = inr (not_less place len e, refl) }
  where
    not_less : (a b : ℕ) → nat_lt a b ≡ false → b ≤ a
    not_less a b e = grind arith

pub part : (units : List ObjUnit) (k : ℕ) (u : ObjUnit) (place : ℕ) → Part (code_before units k) (code_size units + image_before units k) (length u.code) (offset_of units k u place) place
part units k u place = part-by (code_before units k) (code_size units + image_before units k) (length u.code) place (nat_lt place (length u.code)) refl

pub place_in-is : (units : List ObjUnit) (k : ℕ) (u : ObjUnit) (s : Start) (place : ℕ) → IsStart units k s → place_in u s place ≡ offset_of units k u place
place_in-is units k u s place h =
    ap (λ (c : ℕ). if nat_lt place (length u.code) then c + place else s.image + (place - length u.code)) h.code
    ∙ ap (λ (i : ℕ). if nat_lt place (length u.code) then code_before units k + place else i + (place - length u.code)) h.image

-- a place of a unit, or its end, lies in the image or at its end
place_below : (code image len size offset place all codes images : ℕ) → Part code (size + image) len offset place → place ≤ len + all
    → code + len ≤ codes → codes ≤ size → image + all ≤ images → offset ≤ size + images
place_below code image len size offset place all codes images p le a b c =
    elim p.is [ inl h ↦ (let e = h.1 in let l = h.0 in omega (arith, e, l)) | inr h ↦ (let e = h.1 in let l = h.0 in omega (arith, e, l)) ]

pub lies_below : (units : List ObjUnit) (name : List ℕ) (more offset : ℕ) → NameLies units name more offset → StaysWithin units name more → offset ≤ length (laid units)
lies_below units name more offset n s =
    let k = n.index in
    let u = n.unit in
    let g = n.defines.0 in
    let below = place_below (code_before units k) (image_before units k) (length u.code) (code_size units) (offset_of units k u (n.place + more)) (n.place + more) (length u.image) (length (codes units)) (length (images units))
    (part units k u (n.place + more)) (s k n.place u n.defines) (code_within units k u g) (codes-fit units) (image_within units k u g) in
    let e = n.offset_is in
    let l = length-laid units in
    omega (arith, below, e, l)

-- where a relocation stands
pub record Site (units : List ObjUnit) (k : ℕ) (u : ObjUnit) (at : ℕ) : Type 0 where
  pub is : ((offset_of units k u at ≡ code_before units k + at) × (at + 8 ≤ length u.code))
      ⊎ ((offset_of units k u at + length u.code ≡ code_size units + image_before units k + at) × (length u.code ≤ at) × (at + 8 ≤ length u.code + length u.image))

pub site : (units : List ObjUnit) (k : ℕ) (u : ObjUnit) (at : ℕ) (kind : RelocationKind) → IsInside u at kind → Site units k u at
site units k u at Pair h = elim (part units k u at).is [
  | inl p ↦ record { is = inl (p.1, h) }
  | inr p ↦ (let l = p.0 in absurd (omega (arith, l, h)))
]
site units k u at Word h = elim (part units k u at).is [
  | inl p ↦ (let l = p.0 in let m = h.0 in absurd (omega (arith, l, m)))
  | inr p ↦ (let l = p.0 in let e = p.1 in record { is = inr (omega (arith, l, e), h.0, h.1) })
]

pub site_within : (units : List ObjUnit) (k : ℕ) (u : ObjUnit) (at : ℕ) → slice_get units k ≡ Some u → Site units k u at → offset_of units k u at + 8 ≤ length (laid units)
site_within units k u at g s =
    let c = code_within units k u g in
    let f = codes-fit units in
    let i = image_within units k u g in
    let l = length-laid units in
    by (offset_of units k u at) (code_before units k) (image_before units k) (length u.code) (length u.image) (code_size units) (length (codes units)) (length (images units)) (length (laid units)) c f i l s.is
  where
    by : (o code image lc li size codes images all : ℕ) → code + lc ≤ codes → codes ≤ size → image + li ≤ images → all ≡ size + images
        → ((o ≡ code + at) × (at + 8 ≤ lc)) ⊎ ((o + lc ≡ size + image + at) × (lc ≤ at) × (at + 8 ≤ lc + li)) → o + 8 ≤ all
    by o code image lc li size codes images all c f i l (inl (e, h)) = omega arith
    by o code image lc li size codes images all c f i l (inr (e, h, m)) = omega arith

-- two relocations of different units, or of one, are apart
abbrev pub Apart : ℕ → ℕ → Type 0
Apart a b = (a + 8 ≤ b) ⊎ (b + 8 ≤ a)

pub apart_later : (units : List ObjUnit) (k i : ℕ) (u v : ObjUnit) (at to : ℕ) → slice_get units k ≡ Some u → slice_get units i ≡ Some v → k < i
    → Site units k u at → Site units i v to → Apart (offset_of units k u at) (offset_of units i v to)
apart_later units k i u v at to g h lt s t =
    by (offset_of units k u at) (offset_of units i v to) (code_before units k) (image_before units k) (length u.code) (length u.image)
    (code_before units i) (image_before units i) (length v.code) (length v.image) (code_size units) (length (codes units))
    (code_later units k i u g lt) (image_later units k i u g lt) (code_within units k u g) (code_within units i v h) (codes-fit units) s.is t.is
  where
    by : (o p code image lc li code' image' lc' li' size codes : ℕ) → code + lc ≤ code' → image + li ≤ image' → code + lc ≤ codes → code' + lc' ≤ codes → codes ≤ size
        → ((o ≡ code + at) × (at + 8 ≤ lc)) ⊎ ((o + lc ≡ size + image + at) × (lc ≤ at) × (at + 8 ≤ lc + li))
        → ((p ≡ code' + to) × (to + 8 ≤ lc')) ⊎ ((p + lc' ≡ size + image' + to) × (lc' ≤ to) × (to + 8 ≤ lc' + li')) → Apart o p
    by o p code image lc li code' image' lc' li' size codes a b c d e (inl (x, y)) (inl (z, w)) = inl (omega arith)
    by o p code image lc li code' image' lc' li' size codes a b c d e (inl (x, y)) (inr (z, w, q)) = inl (omega arith)
    by o p code image lc li code' image' lc' li' size codes a b c d e (inr (x, y, r)) (inl (z, w)) = inr (omega arith)
    by o p code image lc li code' image' lc' li' size codes a b c d e (inr (x, y, r)) (inr (z, w, q)) = inl (omega arith)

pub apart_same : (units : List ObjUnit) (k : ℕ) (u : ObjUnit) (at to : ℕ) → slice_get units k ≡ Some u → Apart at to
    → Site units k u at → Site units k u to → Apart (offset_of units k u at) (offset_of units k u to)
apart_same units k u at to g apart s t =
    by (offset_of units k u at) (offset_of units k u to) (code_before units k) (image_before units k) (length u.code) (length u.image)
    (code_size units) (length (codes units)) (code_within units k u g) (codes-fit units) apart s.is t.is
  where
    by : (o p code image lc li size codes : ℕ) → code + lc ≤ codes → codes ≤ size → Apart at to
        → ((o ≡ code + at) × (at + 8 ≤ lc)) ⊎ ((o + lc ≡ size + image + at) × (lc ≤ at) × (at + 8 ≤ lc + li))
        → ((p ≡ code + to) × (to + 8 ≤ lc)) ⊎ ((p + lc ≡ size + image + to) × (lc ≤ to) × (to + 8 ≤ lc + li)) → Apart o p
    by o p code image lc li size codes c e (inl a) (inl (x, y)) (inl (z, w)) = inl (omega arith)
    by o p code image lc li size codes c e (inr a) (inl (x, y)) (inl (z, w)) = inr (omega arith)
    by o p code image lc li size codes c e a (inl (x, y)) (inr (z, w, q)) = inl (omega arith)
    by o p code image lc li size codes c e a (inr (x, y, r)) (inl (z, w)) = inr (omega arith)
    by o p code image lc li size codes c e (inl a) (inr (x, y, r)) (inr (z, w, q)) = inl (omega arith)
    by o p code image lc li size codes c e (inr a) (inr (x, y, r)) (inr (z, w, q)) = inr (omega arith)
