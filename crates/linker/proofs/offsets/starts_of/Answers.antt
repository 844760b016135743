use Rattle.std.proofs.Common.{◌≡◌, List, [], ◌∷◌, ◌++◌, length, length-append, refl, ap, ◌∙◌, subst, arith}
use Rattle.std.specs.Prelude.{slice_get, Some}
use Rattle.std.proofs.lemmas.Option.{slice_get_read}
use Rattle.linker.specs.declared.offsets.Start.{Start}
use Rattle.linker.specs.Starts.{IsStart}
use Rattle.linker.proofs.Sites.{code_next, image_next}
use Rattle.linker.proofs.Placed.{code_small, image_small, starts-more}
use Rattle.linker.proofs.offsets.starts_of.Goals as goal

pub overflow_add-code : goal.overflow_add-code
overflow_add-code c =
    let units = c.args.units.now in
    let k = c.loop-u.u-index in
    let u = c.u-item.result in
    let g = slice_get_read units (length units) k u refl (omega arith) c.u-item.is in
    let s : Start = record { code = c.loop-u.code; image = c.loop-u.image } in
    let small = code_small units k u s c.requires.small (record { code = c.loop-u.invariant.code; image = c.loop-u.invariant.image }) g in
    let len = c.len.ensures in
    omega (arith, small, len)

pub overflow_add-image : goal.overflow_add-image
overflow_add-image c =
    let units = c.args.units.now in
    let k = c.loop-u.u-index in
    let u = c.u-item.result in
    let g = slice_get_read units (length units) k u refl (omega arith) c.u-item.is in
    let s : Start = record { code = c.loop-u.code; image = c.loop-u.image } in
    let small = image_small units k u s c.requires.small (record { code = c.loop-u.invariant.code; image = c.loop-u.invariant.image }) g in
    let len = c.len-in-loop-u.ensures in
    omega (arith, small, len)

pub loop-u-preserved : goal.loop-u-preserved
loop-u-preserved c =
    let units = c.args.units.now in
    let k = c.loop-u.u-index in
    let u = c.u-item.result in
    let g = slice_get_read units (length units) k u refl (omega arith) c.u-item.is in
    let s : Start = record { code = c.loop-u.code; image = c.loop-u.image } in
    let h : IsStart units k s = record { code = c.loop-u.invariant.code; image = c.loop-u.invariant.image } in
    let code = code_next units k u g in
    let image = image_next units k u g in
    let code_was = c.loop-u.invariant.code in
    let image_was = c.loop-u.invariant.image in
    let code_len = c.len.ensures in
    let image_len = c.len-in-loop-u.ensures in
    let items : c.push.new.self.items ≡ c.loop-u.starts.items ++ s ∷ [] = c.in_ok-push.ensures.items in
    let long = ap (λ (xs : List Start). length xs) items ∙ length-append c.loop-u.starts.items (s ∷ []) in
    let count = c.loop-u.invariant.count in
    record {
      code = omega (arith, code, code_was, code_len);
      image = omega (arith, image, image_was, image_len);
      count = omega (arith, long, count);
      each = λ n t e. starts-more units c.loop-u.starts.items k s count c.loop-u.invariant.each h n t (subst (λ (xs : List Start). slice_get xs n ≡ Some t) items e);
    }
