use Rattle.std.proofs.Common.{rules, ◌≡◌, ℕ, List, [], ◌∷◌, map, Err, subst, sym}
use Rattle.fcc_core.specs.declared.front.FrontFault.{FrontFault}
use Rattle.source_tokens.specs.declared.source.SourceFile.{SourceFile}
use Rattle.source_tokens.specs.Sources.{AreSources}
use Rattle.source_tokens.specs.Reading.{seen}
use Rattle.fcc_core.specs.Front.{IsFronted, IsReadAs}
use Rattle.fcc_core.proofs.Fronting.{not_read, misplaced_refused, fronted, two_items}
use Rattle.fcc_core.proofs.front.front.Goals as goal

pub returns-in-Err-clause-fronted : goal.returns-in-Err-clause-fronted
returns-in-Err-clause-fronted g c =
    let P : FrontFault → Type 0 = λ f. IsFronted c.args.names.now (Err f)
    (record { listing = g.L.Library.files c.args.library.now; faults = g.L.Library.faults c.args.library.now; strays = g.L.Library.strays c.args.library.now })
    (record { listing = g.L.Library.files c.read_sources.new.library; faults = g.L.Library.faults c.read_sources.new.library; strays = g.L.Library.strays c.read_sources.new.library }) in
    subst P (sym c.front_fault.ensures) (not_read c.args.names.now _ _ c.in-Err.fault c.in-Err.ensures.read)

pub returns-in-Some-clause-fronted : goal.returns-in-Some-clause-fronted
returns-in-Some-clause-fronted g c =
    let read = c.in-Ok.ensures.read in
    let P : FrontFault → Type 0 = λ f. IsFronted c.args.names.now (Err f)
    (record { listing = g.L.Library.files c.args.library.now; faults = g.L.Library.faults c.args.library.now; strays = g.L.Library.strays c.args.library.now })
    (record { listing = g.L.Library.files c.read_sources.new.library; faults = g.L.Library.faults c.read_sources.new.library; strays = g.L.Library.strays c.read_sources.new.library }) in
    subst P (sym c.not_built.ensures) (misplaced_refused c.args.names.now _ _ read.0 c.in-Some.file (map seen c.in-Ok.sources.items) (sym c.in-Some.ensures) read.2)

pub returns-clause-fronted : goal.returns-clause-fronted
returns-clause-fronted g c =
    let read = c.in-Ok.ensures.read in
    let fortran = c.fortran-item.result in
    let last = c.c-item.result in
    let two : c.in-Ok.sources.items ≡ fortran ∷ last ∷ [] = two_items c.in-Ok.sources.items fortran last (search rules) (search rules) (search rules) (search rules) in
    let F : List ℕ → Type 0 = λ t. IsReadAs t c.as_slice-in-len2-2.result.now c.read_program.result in
    let L : List ℕ → Type 0 = λ t. IsReadAs fortran.text t c.read_program.result in
    fronted c.args.names.now _ _ read.0 (seen fortran) (seen last) (sym c.in_default.ensures) (λ files told. (let P : List SourceFile → Type 0 = λ l. AreSources files 0 0 c.args.names.now (map seen l) in subst P two (read.2 files told)))
    c.read_program.result (subst L c.as_slice-in-len2-2.ensures (subst F c.as_slice-in-len2.ensures c.read_program.ensures))
