use Rattle.std.proofs.Common.{◌≡◌, sym, ◌∙◌, ap, true, false, refl, Ok, Err}
use Rattle.c_define.specs.Numbers.{macros_of}
use Rattle.c_directives.specs.Texts.{Work}
use Rattle.c_directives.specs.Sorting.{work_of}
use Rattle.c_directives.proofs.Puts.{name_put, name_over, put_told, over_told}
use Rattle.c_directives.proofs.work.put_name.Goals as goal

pub returns-in-Ok-true-clause-says : goal.returns-in-Ok-true-clause-says
returns-in-Ok-true-clause-says c =
    let w : Work = work_of c.args.pre.now in
    let f = c.in-Ok-true.field-0-test in
    let same = ap macros_of (c.in-Ok-true.ensures.macros f) in
    name_put c.args.limit c.args.place w c.args.name.now c.expand.new.out.items (put_told w.macros c.args.name.now c.args.place c.args.limit c.in-Ok-true.field-0 w.out c.expand.new.out.items f c.in-Ok-true.ensures.tokens)
    ∙ ap (λ m. Ok (record { macros = m; out = c.expand.new.out.items })) (sym same)

pub returns-in-Ok-false-clause-says : goal.returns-in-Ok-false-clause-says
returns-in-Ok-false-clause-says c =
    let w : Work = work_of c.args.pre.now in
    over_told c.args.limit c.args.place w c.args.name.now c.in-Ok-false.field-0 c.expand.new.out.items c.in-Ok-false.field-0-test c.in-Ok-false.ensures.tokens c.breaks.result c.breaks.ensures _
