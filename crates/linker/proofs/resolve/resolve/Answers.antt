use Rattle.std.proofs.Common.{◌≡◌, ℕ, List, length, get_or, refl, sym, ap, ◌∙◌, subst, arith}
use Rattle.std.specs.Prelude.{Some}
use Rattle.std.proofs.lemmas.Option.{slice_get_read}
use Rattle.rv_assemble.specs.declared.object.ObjUnit.{ObjUnit}
use Rattle.linker.specs.declared.offsets.Start.{Start}
use Rattle.linker.specs.Starts.{place_in}
use Rattle.linker.specs.Patched.{IsSameOutside}
use Rattle.linker.specs.Linked.{Defines, NameLies, HasTarget}
use Rattle.linker.proofs.Sites.{place_in-is, site, site_within, lies_below}
use Rattle.linker.proofs.Placed.{start_of, code_small, image_small, inside_below}
use Rattle.linker.proofs.resolve.resolve.Goals as goal

same_unit : (a b : ObjUnit) → Some a ≡ Some b → a ≡ b
same_unit a b e = cc

pub target_of-target-requires-clause-within : goal.target_of-target-requires-clause-within
target_of-target-requires-clause-within c = λ k place v d. c.requires.can.within k place v (subst (λ (n : List ℕ). Defines c.args.units.now n k v place) c.as_str.ensures d)

pub offset_in-at-requires : goal.offset_in-at-requires
offset_in-at-requires c =
    let units = c.args.units.now in
    let k = c.args.k in
    let can = c.requires.can in
    let begin : Start = get_or c.args.starts.now k (record { code = 0; image = 0 }) in
    let s = start_of units c.args.starts.now k (record { code = 0; image = 0 }) c.requires.ready.begin c.requires.unit in
    let below = inside_below can.unit c.args.r.now.at c.args.r.now.kind can.inside in
    let code = code_small units k can.unit begin c.requires.ready.small s can.stands in
    let image = image_small units k can.unit begin c.requires.ready.small s can.stands in
    omega (arith, below, code, image)

pub put_target-requires-clause-at : goal.put_target-requires-clause-at
put_target-requires-clause-at c =
    let units = c.args.units.now in
    let k = c.args.k in
    let can = c.requires.can in
    let at = c.args.r.now.at in
    let u = c.index-units-k.result in
    let gu = slice_get_read units (length units) k u refl c.requires.unit c.index-units-k.is in
    let same : u ≡ can.unit = same_unit u can.unit (sym gu ∙ can.stands) in
    let begin : Start = get_or c.args.starts.now k (record { code = 0; image = 0 }) in
    let s = start_of units c.args.starts.now k (record { code = 0; image = 0 }) c.requires.ready.begin c.requires.unit in
    let is = c.offset_in-at.ensures ∙ ap (λ (w : ObjUnit). place_in w begin at) same ∙ place_in-is units k can.unit begin at s in
    let inside = site_within units k can.unit at can.stands (site units k can.unit at c.args.r.now.kind can.inside) in
    let len = c.requires.len in
    omega (arith, is, inside, len)

pub put_target-requires-clause-target : goal.put_target-requires-clause-target
put_target-requires-clause-target c =
    let units = c.args.units.now in
    let r = c.args.r.now in
    let lies = subst (λ (n : List ℕ). NameLies units n r.offset c.target_of-target.result) c.as_str.ensures c.target_of-target.ensures in
    let below = lies_below units r.name r.offset c.target_of-target.result lies c.requires.can.within in
    let len = c.requires.len in
    omega (arith, below, len)

pub returns : goal.returns
returns c = λ v g.
    let units = c.args.units.now in
    let k = c.args.k in
    let r = c.args.r.now in
    let u = c.index-units-k.result in
    let gu = slice_get_read units (length units) k u refl c.requires.unit c.index-units-k.is in
    let same : u ≡ v = same_unit u v (sym gu ∙ g) in
    let begin : Start = get_or c.args.starts.now k (record { code = 0; image = 0 }) in
    let s = start_of units c.args.starts.now k (record { code = 0; image = 0 }) c.requires.ready.begin c.requires.unit in
    let is = c.offset_in-at.ensures ∙ ap (λ (w : ObjUnit). place_in w begin r.at) same ∙ place_in-is units k v begin r.at s in
    record {
      target = c.target_of-target.result;
      lies = subst (λ (n : List ℕ). NameLies units n r.offset c.target_of-target.result) c.as_str.ensures c.target_of-target.ensures;
      has = subst (λ (at : ℕ). HasTarget c.args.bytes.now c.put_target.new.bytes at c.target_of-target.result r.kind) is c.put_target.ensures.has;
      same = subst (λ (at : ℕ). IsSameOutside c.args.bytes.now c.put_target.new.bytes at 8) is c.put_target.ensures.same;
    }
