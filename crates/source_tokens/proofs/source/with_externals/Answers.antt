use Rattle.std.proofs.Common.{List, Err, refl, sym, subst}
use Rattle.c_token.specs.declared.token.CSpanned.{CSpanned}
use Rattle.c_read.specs.Views.{view_unit}
use Rattle.source_tokens.specs.declared.source.SourceFault.{SourceFault}
use Rattle.source_tokens.specs.Sources.{AreExternals}
use Rattle.source_tokens.specs.Reading.{source_fault, AreRecognized}
use Rattle.source_tokens.proofs.One.{recognized, unrecognized}
use Rattle.source_tokens.proofs.source.with_externals.Goals as goal

pub returns-in-Ok : goal.returns-in-Ok
returns-in-Ok c =
    let unit = view_unit c.in-Ok.unit in
    let P : List CSpanned → Type 0 = λ ts. AreExternals ts unit in
    (unit, refl, subst P c.as_slice.ensures.value (recognized c.args.text c.as_slice.result.now c.in-Ok.unit c.in-Ok.ensures.read))

pub returns-in-Err : goal.returns-in-Err
returns-in-Err c =
    let P : SourceFault → Type 0 = λ f. AreRecognized c.args.text c.args.tokens.items (Err f) in
    let Q : List CSpanned → Type 0 = λ ts. AreRecognized c.args.text ts (Err (source_fault c.in-Err.refusal)) in
    subst P (sym c.source_fault.ensures) (subst Q c.as_slice.ensures.value (unrecognized c.args.text c.as_slice.result.now c.in-Err.refusal c.in-Err.ensures.read))
