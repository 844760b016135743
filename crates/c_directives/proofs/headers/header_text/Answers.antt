use Rattle.std.proofs.Common.{◌∙◌, ap, sym}
use Rattle.std.specs.Prelude.{Some}
use Rattle.c_directives.proofs.Values.{header_is, header_isnt}
use Rattle.c_directives.proofs.headers.header_text.Goals as goal

pub returns-in-None : goal.returns-in-None
returns-in-None c = header_isnt c.args.name.now c.in-None.ensures

pub returns-in-Some : goal.returns-in-Some
returns-in-Some c = header_is c.args.name.now c.in-Some.header c.in-Some.ensures ∙ ap Some (sym c.text_of.ensures)
