use Rattle.std.proofs.Common.{◌≡◌, ◌+◌, length, get_or, refl, sym, ap, ◌∙◌, arith}
use Rattle.std.specs.Prelude.{Some}
use Rattle.std.proofs.lemmas.Option.{slice_get_read, slice_get_within}
use Rattle.rv_assemble.specs.declared.object.ObjUnit.{ObjUnit}
use Rattle.linker.specs.declared.offsets.Start.{Start}
use Rattle.linker.specs.Starts.{place_in}
use Rattle.linker.proofs.Sites.{place_in-is}
use Rattle.linker.proofs.Placed.{start_of, code_small, image_small}
use Rattle.linker.proofs.resolve.target_of.Goals as goal

same_unit : (a b : ObjUnit) → Some a ≡ Some b → a ≡ b
same_unit a b e = cc

pub overflow_add-definition : goal.overflow_add-definition
overflow_add-definition c =
    let units = c.args.units.now in
    let d = c.unwrap-definition.result in
    let k = d.unit in
    let def = c.requires.ready.defines c.args.name.now d (sym c.find.ensures ∙ c.unwrap-definition.ensures) in
    let v = def.0 in
    let g = def.1.0 in
    let s = start_of units c.args.starts.now k (record { code = 0; image = 0 }) c.requires.ready.begin (slice_get_within units k v g) in
    let within = c.requires.within k d.place v def.1 in
    let code = code_small units k v (get_or c.args.starts.now k (record { code = 0; image = 0 })) c.requires.ready.small s g in
    let image = image_small units k v (get_or c.args.starts.now k (record { code = 0; image = 0 })) c.requires.ready.small s g in
    omega (arith, within, code, image)

pub offset_in-requires : goal.offset_in-requires
offset_in-requires c =
    let units = c.args.units.now in
    let d = c.unwrap-definition.result in
    let k = d.unit in
    let def = c.requires.ready.defines c.args.name.now d (sym c.find.ensures ∙ c.unwrap-definition.ensures) in
    let v = def.0 in
    let g = def.1.0 in
    let s = start_of units c.args.starts.now k (record { code = 0; image = 0 }) c.requires.ready.begin (slice_get_within units k v g) in
    let within = c.requires.within k d.place v def.1 in
    let code = code_small units k v (get_or c.args.starts.now k (record { code = 0; image = 0 })) c.requires.ready.small s g in
    let image = image_small units k v (get_or c.args.starts.now k (record { code = 0; image = 0 })) c.requires.ready.small s g in
    omega (arith, within, code, image)

pub returns : goal.returns
returns c =
    let units = c.args.units.now in
    let d = c.unwrap-definition.result in
    let k = d.unit in
    let place = d.place + c.args.more in
    let def = c.requires.ready.defines c.args.name.now d (sym c.find.ensures ∙ c.unwrap-definition.ensures) in
    let v = def.0 in
    let g = def.1.0 in
    let lt = slice_get_within units k v g in
    let u = c.index-units-k.result in
    let gu = slice_get_read units (length units) k u refl lt c.index-units-k.is in
    let begin : Start = get_or c.args.starts.now k (record { code = 0; image = 0 }) in
    let s = start_of units c.args.starts.now k (record { code = 0; image = 0 }) c.requires.ready.begin lt in
    let same : u ≡ v = same_unit u v (sym gu ∙ g) in
    record {
      index = k;
      unit = v;
      place = d.place;
      defines = def.1;
      offset_is = c.offset_in.ensures ∙ ap (λ (w : ObjUnit). place_in w begin place) same ∙ place_in-is units k v begin place s;
    }
