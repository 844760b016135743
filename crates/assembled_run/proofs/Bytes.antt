-- Where the bytes of a unit's code stand in an image, and which of them stay as they were assembled.
use Rattle.std.proofs.Common.{◌≡◌, ℕ, zero, suc, ◌+◌, ◌-◌, ◌*◌, ◌<◌, ◌≤◌, ◌⊎◌, inl, inr, List, [], ◌∷◌, ◌++◌, length, take, refl, sym, ap, ◌∙◌, subst, arith, length-append}
use Rattle.std.specs.Prelude.{slice_get, slice_index, Some}
use Rattle.std.proofs.lemmas.List.{get_or_append_left, get_or-append-add}
use Rattle.jf_base.specs.Numbers.{number_low_first}
use Rattle.program_image.specs.declared.Image.{Image}
use Rattle.rv_assemble.specs.declared.object.ObjUnit.{ObjUnit}
use Rattle.rv_assemble.specs.declared.object.Relocation.{Relocation}
use Rattle.linker.specs.Layout.{codes, images, zeros, code_size, laid, offset_of}
use Rattle.linker.specs.Linked.{IsLinked, IsUntouched, AreLinkable}
use Rattle.linker.proofs.Sites.{code_before, image_before, code_within, codes-fit, code_later, length-laid}
use Rattle.linker.proofs.Done.{site_of}

-- a number of bytes that stand so much further on
pub number_shifted : (n at b : ℕ) (xs ys : List ℕ) → ((q : ℕ) → at ≤ q → q < at + n → slice_index xs (b + q) ≡ slice_index ys q) → number_low_first (b + at) n xs ≡ number_low_first at n ys
number_shifted zero at b xs ys h = refl
number_shifted (suc n) at b xs ys h =
    let e : suc (b + at) ≡ b + suc at = omega arith in
    ap (λ (x : ℕ). x + 256 * number_low_first (suc (b + at)) n xs) (h at (omega arith) (omega arith))
    ∙ ap (λ (x : ℕ). slice_index ys at + 256 * x) (ap (λ (m : ℕ). number_low_first m n xs) e ∙ number_shifted n (suc at) b xs ys (λ q l m. h q (omega arith) (omega arith)))

-- a byte of a unit's code among those of all
code_byte : (os : List ObjUnit) (i : ℕ) (o : ObjUnit) (q : ℕ) → slice_get os i ≡ Some o → q < length o.code → slice_index (codes os) (code_before os i + q) ≡ slice_index o.code q
code_byte [] i o q g lt = cc
code_byte (u ∷ os) zero o q g lt =
    let e : u ≡ o = same u o g in
    let lt' : q < length u.code = subst (λ (w : ObjUnit). q < length w.code) (sym e) lt in
    let z : code_before (u ∷ os) zero + q ≡ q = omega arith in
    ap (λ (n : ℕ). slice_index (u.code ++ codes os) n) z ∙ get_or_append_left u.code (codes os) 0 q lt' ∙ ap (λ (w : ObjUnit). slice_index w.code q) e
  where
    same : (a b : ObjUnit) → Some a ≡ Some b → a ≡ b
    same a b h = cc
code_byte (u ∷ os) (suc i) o q g lt =
    let l = length-append u.code (codes (take i os)) in
    let z : code_before (u ∷ os) (suc i) + q ≡ length u.code + (code_before os i + q) = omega (arith, l) in
    ap (λ (n : ℕ). slice_index (u.code ++ codes os) n) z ∙ get_or-append-add u.code (codes os) (code_before os i + q) 0 ∙ code_byte os i o q g lt

laid_byte : (os : List ObjUnit) (i : ℕ) (o : ObjUnit) (q : ℕ) → slice_get os i ≡ Some o → q < length o.code → slice_index (laid os) (code_before os i + q) ≡ slice_index o.code q
laid_byte os i o q g lt =
    let w = code_within os i o g in
    let gap = zeros (code_size os - length (codes os)) in
    let l = length-append (codes os) gap in
    get_or_append_left (codes os ++ gap) (images os) 0 (code_before os i + q) (omega (arith, w, l, lt))
    ∙ get_or_append_left (codes os) gap 0 (code_before os i + q) (omega (arith, w, lt))
    ∙ code_byte os i o q g lt

pub laid_number : (os : List ObjUnit) (i : ℕ) (o : ObjUnit) (n at : ℕ) → slice_get os i ≡ Some o → at + n ≤ length o.code → number_low_first (code_before os i + at) n (laid os) ≡ number_low_first at n o.code
laid_number os i o n at g le = number_shifted n at (code_before os i) (laid os) o.code (λ q l m. laid_byte os i o q g (omega (arith, le)))

-- no request of the unit lies over the byte
abbrev pub IsClear : ObjUnit → ℕ → Type 0
IsClear o q = (j : ℕ) (r : Relocation) → slice_get o.relocations j ≡ Some r → (q < r.at) ⊎ (r.at + 8 ≤ q)

module _ (os : List ObjUnit) (image : Image) (linkable : AreLinkable os) (linked : IsLinked os image) (i : ℕ) (o : ObjUnit) (is : slice_get os i ≡ Some o) where
  unit_same : (a b : ObjUnit) → Some a ≡ Some b → a ≡ b
  unit_same a b e = cc

  -- then none of any unit does
  untouched : (q : ℕ) → q < length o.code → IsClear o q → IsUntouched os (code_before os i + q)
  untouched q lt clear k j u r gu gr = by (site_of os linkable k j u r gu gr).is (order k i)
    where
      order : (x y : ℕ) → (x < y) ⊎ ((x ≡ y) ⊎ (y < x))
      order x y = grind arith

      here : k ≡ i → u ≡ o
      here e = unit_same u o (sym gu ∙ ap (λ (n : ℕ). slice_get os n) e ∙ is)

      own : k ≡ i → (q < r.at) ⊎ (r.at + 8 ≤ q)
      own e = clear j r (subst (λ (w : ObjUnit). slice_get w.relocations j ≡ Some r) (here e) gr)

      code_limit : code_before os i + length o.code ≤ code_size os
      code_limit = let w = code_within os i o is in let f = codes-fit os in omega (arith, w, f)

      by : ((offset_of os k u r.at ≡ code_before os k + r.at) × (r.at + 8 ≤ length u.code))
          ⊎ ((offset_of os k u r.at + length u.code ≡ code_size os + image_before os k + r.at) × (length u.code ≤ r.at) × (r.at + 8 ≤ length u.code + length u.image))
          → (k < i) ⊎ ((k ≡ i) ⊎ (i < k)) → (code_before os i + q < offset_of os k u r.at) ⊎ (offset_of os k u r.at + 8 ≤ code_before os i + q)
      by (inr s) d = let e = s.0 in let l = s.1 in let c = code_limit in inl (omega (arith, e, l, c, lt))
      by (inl s) (inl d) = let e = s.0 in let l = s.1 in let c = code_later os k i u gu d in inr (omega (arith, e, l, c))
      by (inl s) (inr (inr d)) = let e = s.0 in let c = code_later os i k o is d in inl (omega (arith, e, c, lt))
      by (inl s) (inr (inl d)) =
          let e = s.0 in
          let b = ap (λ (n : ℕ). code_before os n) d in
          elim (own d) [
            | inl h ↦ inl (omega (arith, e, b, h))
            | inr h ↦ inr (omega (arith, e, b, h))
          ]

  -- bytes over which no request of the unit lies are as assembled
  pub number_kept : (n at : ℕ) → at + n ≤ length o.code → ((q : ℕ) → at ≤ q → q < at + n → IsClear o q) → number_low_first (code_before os i + at) n image.bytes ≡ number_low_first at n o.code
  number_kept n at le clear = number_shifted n at (code_before os i) image.bytes o.code (λ q l m. (
      let w = code_within os i o is in
      let f = codes-fit os in
      let a = length-laid os in
      let c = linked.count in
      linked.others (code_before os i + q) (omega (arith, w, f, a, c, le, m)) (untouched q (omega (arith, le, m)) (clear q l m)) ∙ laid_byte os i o q is (omega (arith, le, m))))
