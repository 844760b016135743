-- How a call answers: by the first broken point where one is broken.
use Rattle.std.specs.Prelude.{◌≡◌, Option, Some, None}
use Rattle.jf_base.specs.declared.tag.Tag.{Tag}
use Rattle.storage_model.specs.declared.cell.Did.{Did}
use Rattle.storage_model.specs.declared.cell.Did.TheVariants.{Done, Violation, Memory}

-- a violation is the point that is broken; with every other answer none is
abbrev pub Answers : {A : Type 0} → Did A → Option Tag → Type 0
Answers (Done x) broken = broken ≡ None
Answers (Violation t) broken = broken ≡ Some t
Answers Memory broken = broken ≡ None

-- the fact holds of the result, if there is one
abbrev pub IfDone : {A : Type 0} → Did A → (A → Type 0) → Type 0
IfDone (Done x) P = P x
IfDone (Violation t) P = Unit {0}
IfDone Memory P = Unit {0}

-- the fact holds where nothing was done
abbrev pub UnlessDone : {A : Type 0} → Did A → Type 0 → Type 0
UnlessDone (Done x) P = Unit {0}
UnlessDone (Violation t) P = P
UnlessDone Memory P = P

-- memory isn't wanting
abbrev pub WantsNothing : {A : Type 0} → Did A → Type 0
WantsNothing (Done x) = Unit {0}
WantsNothing (Violation t) = Unit {0}
WantsNothing Memory = ⊥
