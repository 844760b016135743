-- The bytes of units, with one more unit.
use Rattle.std.proofs.Common.{◌≡◌, ℕ, zero, suc, ◌+◌, List, [], ◌∷◌, ◌++◌, take, refl, sym, ap, ◌∙◌, arith}
use Rattle.std.specs.Prelude.{slice_get, Some}
use Rattle.std.proofs.lemmas.List.{append_assoc, append-nil}
use Rattle.rv_assemble.specs.declared.object.ObjUnit.{ObjUnit}
use Rattle.linker.specs.Layout.{codes, images, zeros}

same_unit : (a b : ObjUnit) → Some a ≡ Some b → a ≡ b
same_unit a b e = cc

pub codes-more : (k : ℕ) (units : List ObjUnit) (u : ObjUnit) → slice_get units k ≡ Some u → codes (take (k + 1) units) ≡ codes (take k units) ++ u.code
codes-more k [] u g = cc
codes-more zero (v ∷ units) u g = append-nil v.code ∙ ap (λ (w : ObjUnit). w.code) (same_unit v u g)
codes-more (suc k) (v ∷ units) u g =
    let e : suc k + 1 ≡ suc (k + 1) = omega arith in
    ap (λ (m : ℕ). codes (take m (v ∷ units))) e ∙ ap (λ (b : List ℕ). v.code ++ b) (codes-more k units u g) ∙ sym (append_assoc v.code (codes (take k units)) u.code)

pub images-more : (k : ℕ) (units : List ObjUnit) (u : ObjUnit) → slice_get units k ≡ Some u → images (take (k + 1) units) ≡ images (take k units) ++ u.image
images-more k [] u g = cc
images-more zero (v ∷ units) u g = append-nil v.image ∙ ap (λ (w : ObjUnit). w.image) (same_unit v u g)
images-more (suc k) (v ∷ units) u g =
    let e : suc k + 1 ≡ suc (k + 1) = omega arith in
    ap (λ (m : ℕ). images (take m (v ∷ units))) e ∙ ap (λ (b : List ℕ). v.image ++ b) (images-more k units u g) ∙ sym (append_assoc v.image (images (take k units)) u.image)

pub zeros-more : (n : ℕ) → zeros n ++ 0 ∷ [] ≡ zeros (n + 1)
zeros-more zero = refl
zeros-more (suc n) = let e : suc n + 1 ≡ suc (n + 1) = omega arith in ap (λ (b : List ℕ). 0 ∷ b) (zeros-more n) ∙ ap (λ (m : ℕ). zeros m) (sym e)
