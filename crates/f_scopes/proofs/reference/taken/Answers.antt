use Rattle.std.proofs.Common.{ℕ, List, Option, slice_get, sym, ap, ◌∙◌, subst}
use Rattle.f_scope.specs.Program.{Outline}
use Rattle.f_scope.proofs.Scans.{some_one}
use Rattle.f_use.specs.Associated.{Found}
use Rattle.f_use.specs.Uses.{ModuleIn}
use Rattle.f_rules.specs.Standing.{IsIn}
use Rattle.f_scopes.specs.References.{IsReference}
use Rattle.f_scopes.proofs.Referring.{takes_none, takes}
use Rattle.f_scopes.proofs.reference.taken.Goals as goal

pub returns-in-None : goal.returns-in-None
returns-in-None c l at =
    let p = c.args.program.now.items in
    let k = c.args.place in
    let h = c.requires.at in
    let one = some_one (slice_get p k) l h.2 at h.3 in
    let item = ap (λ x. x.item) one ∙ h.4 in
    let M : Outline → Type 0 = λ v. ModuleIn v c.as_slice.result.now c.module_of.result in
    let N : List ℕ → Type 0 = λ n. ModuleIn c.args.program.now n c.module_of.result in
    let Q : Option ℕ → Type 0 = λ r. ModuleIn c.args.program.now c.args.«module».now r in
    let found = subst Q c.in-None.is (subst N c.as_slice.ensures (subst M (c.program.ensures ∙ c.stated.ensures) c.module_of.ensures)) in
    takes_none p c.requires.kept k l at c.args.«module».now h.0 c.args.used.now h.1 item found

pub entities_in-requires : goal.entities_in-requires
entities_in-requires c =
    let M : Outline → Type 0 = λ v. ModuleIn v c.as_slice.result.now c.module_of.result in
    let Q : Option ℕ → Type 0 = λ r. ModuleIn c.args.program.now c.as_slice.result.now r in
    (subst Q c.in-Some.is (subst M (c.program.ensures ∙ c.stated.ensures) c.module_of.ensures)).1

pub returns-in-Some : goal.returns-in-Some
returns-in-Some c l at =
    let p = c.args.program.now.items in
    let k = c.args.place in
    let h = c.requires.at in
    let one = some_one (slice_get p k) l h.2 at h.3 in
    let item = ap (λ x. x.item) one ∙ h.4 in
    let M : Outline → Type 0 = λ v. ModuleIn v c.as_slice.result.now c.module_of.result in
    let N : List ℕ → Type 0 = λ n. ModuleIn c.args.program.now n c.module_of.result in
    let Q : Option ℕ → Type 0 = λ r. ModuleIn c.args.program.now c.args.«module».now r in
    let found = subst Q c.in-Some.is (subst N c.as_slice.ensures (subst M (c.program.ensures ∙ c.stated.ensures) c.module_of.ensures)) in
    let E : List ℕ → Type 0 = λ n. Found (IsIn p c.in-Some.scope n) c.entities_in.result in
    let entities = subst E c.as_slice-in-Some.ensures c.entities_in.ensures in
    let R : Option ℕ → Type 0 = λ r. IsReference p k l r in
    subst R (sym c.first_of.ensures) (takes p c.requires.kept k l at c.args.«module».now h.0 c.args.used.now h.1 item c.in-Some.scope found.0 found.2 c.entities_in.result entities)
