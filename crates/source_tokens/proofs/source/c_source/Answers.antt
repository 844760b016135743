use Rattle.std.proofs.Common.{◌≡◌, ℕ, List, Some, Err, sym, subst}
use Rattle.c_pre.specs.Files.{Tells}
use Rattle.source_tokens.specs.declared.source.SourceFault.{SourceFault}
use Rattle.source_tokens.specs.Sources.{Files}
use Rattle.source_tokens.specs.Reading.{preprocessing_fault, IsC}
use Rattle.source_tokens.proofs.One.{of_unexpanded, of_recognized}
use Rattle.source_tokens.proofs.source.c_source.Goals as goal

pub returns-in-Err-clause-read : goal.returns-in-Err-clause-read
returns-in-Err-clause-read g c =
    let told = c.expand.ensures in
    let P : SourceFault → Type 0 = λ f. IsC c.args.file c.args.before c.args.text (Err f)
    (record { listing = g.L.Library.files c.args.library.now; faults = g.L.Library.faults c.args.library.now; strays = g.L.Library.strays c.args.library.now })
    (record { listing = g.L.Library.files c.expand.new.library; faults = g.L.Library.faults c.expand.new.library; strays = g.L.Library.strays c.expand.new.library }) in
    let T : List ℕ → Type 0 = λ t. (files : Files) → g.L.Library.files c.args.library.now ≡ Some files → Tells c.expand.result files c.args.file c.args.before t in
    subst P (sym c.preprocessing_fault.ensures)
    (of_unexpanded c.args.file c.args.before c.args.text _ _ c.expand.result c.in-Err.fault c.in-Err.is told.cause told.strays (subst T c.as_slice.ensures told.gives) told.rule)

pub returns-in-Ok-clause-read : goal.returns-in-Ok-clause-read
returns-in-Ok-clause-read g c =
    let told = c.expand.ensures in
    let T : List ℕ → Type 0 = λ t. (files : Files) → g.L.Library.files c.args.library.now ≡ Some files → Tells c.expand.result files c.args.file c.args.before t in
    of_recognized c.args.file c.args.before c.args.text _ _ c.expand.result c.in-Ok.tokens c.with_externals.result c.in-Ok.is told.cause told.strays (subst T c.as_slice.ensures told.gives) c.in-Ok.ensures.room c.with_externals.ensures
