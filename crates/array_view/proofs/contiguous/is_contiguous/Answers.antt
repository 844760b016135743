use Rattle.std.proofs.Common.{◌≡◌, true, false, pos, to_z, of_z, sym, ◌∙◌, arith}
use Rattle.std.specs.Int.{w128}
use Rattle.std.proofs.lemmas.Int.{ints}
use Rattle.array_view.specs.Contiguous.{has_no_element, is_packed}
use Rattle.array_view.proofs.Packed.{packed_forth, packed_back, none_side}
use Rattle.array_view.proofs.contiguous.is_contiguous.Goals as goal

pub returns-then-has_no_element : goal.returns-then-has_no_element
returns-then-has_no_element c =
    let n : has_no_element c.args.v.now.dims ≡ true = sym (rw c.as_slice-dims.ensures at c.if-has_no_element.ensures) in
    ((λ _. none_side c.args.v.now.base (pos c.args.v.now.len) c.args.v.now.dims n), (λ _. c.if-has_no_element.true))

pub returns-else-has_no_element : goal.returns-else-has_no_element
returns-else-has_no_element c =
    let n : has_no_element c.args.v.now.dims ≡ false = sym (rw c.as_slice-dims.ensures at c.if-has_no_element.ensures) in
    let l : to_z w128 (of_z w128 c.from.result) ≡ pos c.args.v.now.len = omega (arith, ints) in
    let r : c.is_packed.result ≡ is_packed c.args.v.now.dims (pos c.args.v.now.len) = rw (c.as_slice-dims.ensures, l) at c.is_packed.ensures in
    ((λ h. packed_forth c.args.v.now.base c.args.v.now.dims (pos c.args.v.now.len) n (sym r ∙ h)), (λ h. r ∙ packed_back c.args.v.now.base c.args.v.now.dims (pos c.args.v.now.len) n h))
