use Rattle.std.proofs.Common.{◌≡◌, refl, ◌∙◌, ap, arith}
use Rattle.std.specs.Prelude.{Some}
use Rattle.c_define.specs.Definitions.{Macro, defined}
use Rattle.c_define.specs.Numbers.{Tables, macros_of, number_of}
use Rattle.c_define.proofs.Named.{number_old}
use Rattle.c_define.proofs.Wide.{wider_both, names_alone}
use Rattle.c_define.proofs.Told.{tables_kept, names_longer, defined_told, defined_tables, named_longer}
use Rattle.c_define.proofs.definitions.Definitions.define.Goals as goal

pub invariant_of-self : goal.invariant_of-self
invariant_of-self c =
    let w = names_alone c.self.inside.names c.number_of.new.names c.self.inside.others.items c.number_of.ensures.wider in
    let le = names_longer c.self.inside.names c.self.inside.others.items c.number_of.new.names c.self.inside.others.items w in
    let k = c.self.invariant.named in
    tables_kept c.self.inside.names c.self.inside.others.items c.self.inside.macros c.number_of.new.names c.self.inside.others.items c.self.inside.macros c.self.invariant w (λ n. refl) (omega arith)

pub invariant_of-self-in_err-tokens : goal.invariant_of-self-in_err-tokens
invariant_of-self-in_err-tokens c =
    let w = wider_both c.self.inside.names c.self.inside.others.items c.number_of.new.names c.self.inside.others.items c.numbered_all.new.names c.numbered_all.new.others.items
    (names_alone c.self.inside.names c.number_of.new.names c.self.inside.others.items c.number_of.ensures.wider) c.numbered_all.ensures.wider in
    let le = names_longer c.self.inside.names c.self.inside.others.items c.numbered_all.new.names c.numbered_all.new.others.items w in
    let k = c.self.invariant.named in
    tables_kept c.self.inside.names c.self.inside.others.items c.self.inside.macros c.numbered_all.new.names c.numbered_all.new.others.items c.self.inside.macros c.self.invariant w (λ n. refl) (omega arith)

pub invariant_of-self-in_err-put_written : goal.invariant_of-self-in_err-put_written
invariant_of-self-in_err-put_written c =
    let w = wider_both c.self.inside.names c.self.inside.others.items c.number_of.new.names c.self.inside.others.items c.numbered_all.new.names c.numbered_all.new.others.items
    (names_alone c.self.inside.names c.number_of.new.names c.self.inside.others.items c.number_of.ensures.wider) c.numbered_all.ensures.wider in
    let le = names_longer c.self.inside.names c.self.inside.others.items c.numbered_all.new.names c.numbered_all.new.others.items w in
    let k = c.self.invariant.named in
    tables_kept c.self.inside.names c.self.inside.others.items c.self.inside.macros c.numbered_all.new.names c.numbered_all.new.others.items c.self.inside.macros c.self.invariant w (λ n. refl) (omega arith)

pub invariant_of-self-in_err-define : goal.invariant_of-self-in_err-define
invariant_of-self-in_err-define c =
    let w = wider_both c.self.inside.names c.self.inside.others.items c.number_of.new.names c.self.inside.others.items c.numbered_all.new.names c.numbered_all.new.others.items
    (names_alone c.self.inside.names c.number_of.new.names c.self.inside.others.items c.number_of.ensures.wider) c.numbered_all.ensures.wider in
    let at : number_of c.numbered_all.new.names c.args.name.now ≡ Some c.in_ok-number.number = ap (λ l. number_of l c.args.name.now) c.numbered_all.ensures.wider.names_are ∙ number_old c.number_of.new.names c.numbered_all.ensures.wider.more_names c.args.name.now c.in_ok-number.number c.in_ok-number.ensures.number in
    tables_kept c.self.inside.names c.self.inside.others.items c.self.inside.macros c.numbered_all.new.names c.numbered_all.new.others.items c.define.new.self c.self.invariant w c.in_err-define.ensures.err
    (named_longer c.self.inside.names c.self.inside.others.items c.self.inside.macros c.numbered_all.new.names c.numbered_all.new.others.items c.define.new.self c.self.invariant w c.args.name.now c.in_ok-number.number at c.in_err-define.ensures.size)

pub invariant_of-self-2 : goal.invariant_of-self-2
invariant_of-self-2 c =
    let t : Tables = record { names = c.self.inside.names; others = c.self.inside.others.items; written = c.self.inside.written.items; state = c.self.inside.macros } in
    let new : Tables = record { names = c.numbered_all.new.names; others = c.numbered_all.new.others.items; written = c.put_written.new.written.items; state = c.define.new.self } in
    let w = wider_both c.self.inside.names c.self.inside.others.items c.number_of.new.names c.self.inside.others.items c.numbered_all.new.names c.numbered_all.new.others.items
    (names_alone c.self.inside.names c.number_of.new.names c.self.inside.others.items c.number_of.ensures.wider) c.numbered_all.ensures.wider in
    let at : number_of c.numbered_all.new.names c.args.name.now ≡ Some c.in_ok-number.number = ap (λ l. number_of l c.args.name.now) c.numbered_all.ensures.wider.names_are ∙ number_old c.number_of.new.names c.numbered_all.ensures.wider.more_names c.args.name.now c.in_ok-number.number c.in_ok-number.ensures.number in
    defined_tables t c.self.invariant new w c.args.name.now c.in_ok-number.number at c.in_ok-tokens.tokens.items c.args.body.items c.args.written c.in_ok-tokens.ensures.numbers c.in_ok-put_written.ensures c.in_ok-define.ensures.value
    (ap (λ (s : Tables). (macros_of s).of c.args.name.now) c.self.view_is ∙ c.requires)

pub returns : goal.returns
returns c =
    let t : Tables = record { names = c.self.inside.names; others = c.self.inside.others.items; written = c.self.inside.written.items; state = c.self.inside.macros } in
    let new : Tables = record { names = c.numbered_all.new.names; others = c.numbered_all.new.others.items; written = c.put_written.new.written.items; state = c.define.new.self } in
    let made : Macro = record { body = c.args.body.items; written = c.args.written } in
    let w = wider_both c.self.inside.names c.self.inside.others.items c.number_of.new.names c.self.inside.others.items c.numbered_all.new.names c.numbered_all.new.others.items
    (names_alone c.self.inside.names c.number_of.new.names c.self.inside.others.items c.number_of.ensures.wider) c.numbered_all.ensures.wider in
    let at : number_of c.numbered_all.new.names c.args.name.now ≡ Some c.in_ok-number.number = ap (λ l. number_of l c.args.name.now) c.numbered_all.ensures.wider.names_are ∙ number_old c.number_of.new.names c.numbered_all.ensures.wider.more_names c.args.name.now c.in_ok-number.number c.in_ok-number.ensures.number in
    defined_told t c.self.invariant new w c.args.name.now c.in_ok-number.number at c.in_ok-tokens.tokens.items c.args.body.items c.args.written c.in_ok-tokens.ensures.numbers c.in_ok-put_written.ensures c.in_ok-define.ensures.value
    (ap (λ (s : Tables). (macros_of s).of c.args.name.now) c.self.view_is ∙ c.requires)
    ∙ ap (λ (s : Tables). defined (macros_of s) c.args.name.now made) c.self.view_is
