use Rattle.std.proofs.Common.{◌≡◌, ◌∙◌, sym, ap, Some}
use Rattle.c_macros.specs.Keeping.{State}
use Rattle.c_define.specs.Definitions.{undefined}
use Rattle.c_define.specs.Numbers.{Tables, macros_of, number_of}
use Rattle.c_define.proofs.Told.{unmade_some}
use Rattle.c_define.proofs.definitions.Definitions.undefine.Goals as goal

pub returns-in-Some : goal.returns-in-Some
returns-in-Some c =
    let t : Tables = record { names = c.self.inside.names; others = c.self.inside.others.items; written = c.self.inside.written.items; state = c.self.inside.macros } in
    let at : number_of t.names c.args.name.now ≡ Some c.in-Some.number = sym c.in-Some.ensures in
    let new : State → Tables = λ s. record t { state = s } in
    ap (λ s. macros_of (new s)) c.undefine.ensures ∙ unmade_some t c.args.name.now c.in-Some.number at ∙ ap (λ s. undefined (macros_of s) c.args.name.now) c.self.view_is
