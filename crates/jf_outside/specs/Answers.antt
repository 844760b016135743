-- What the answers of a source and a sink say.
use Rattle.std.specs.Prelude.{◌≡◌, ℕ, List, [], ◌∷◌, ◌++◌, take, Option, IfSome}
use Rattle.jf_outside.specs.declared.Taken.{Taken}
use Rattle.jf_outside.specs.declared.Taken.TheVariants as taken
use Rattle.jf_outside.specs.declared.Put.{Put}
use Rattle.jf_outside.specs.declared.Put.TheVariants as put
use Rattle.jf_outside.specs.Count.{Rose, counted}
use Rattle.jf_outside.specs.Contents.{grown}

-- the fault count over a call of `next`
abbrev pub TakenCounts : Taken → ℕ → ℕ → Type 0
TakenCounts (taken.Byte b) before now = now ≡ before
TakenCounts taken.End before now = now ≡ before
TakenCounts taken.Failed before now = Rose before now

-- the bytes that an answer took
abbrev pub taken_bytes : Taken → List ℕ
taken_bytes (taken.Byte b) = b ∷ []
taken_bytes taken.End = []
taken_bytes taken.Failed = []

-- the end is told only where no byte is left
abbrev pub EndsAt : Taken → Option (List ℕ) → Type 0
EndsAt (taken.Byte b) left = Unit {0}
EndsAt taken.End left = IfSome left (λ bytes. bytes ≡ [])
EndsAt taken.Failed left = Unit {0}

-- the fault count over a call of `put`
abbrev pub PutCounts : Put → ℕ → ℕ → Type 0
PutCounts put.Done before now = now ≡ before
PutCounts put.Failed before now = Rose before now

-- done appends the piece, and failed a prefix of it
abbrev pub PutLeaves : Put → Option (List ℕ) → Option (List ℕ) → List ℕ → Type 0
PutLeaves put.Done old new piece = new ≡ grown old piece
PutLeaves put.Failed old new piece = (n : ℕ) × (new ≡ grown old (take n piece))

-- a count that counts each failed `next`
abbrev pub faults_after_next : Taken → ℕ → ℕ
faults_after_next (taken.Byte b) faults = faults
faults_after_next taken.End faults = faults
faults_after_next taken.Failed faults = counted faults

-- a count that counts each failed `put`
abbrev pub faults_after_put : Put → ℕ → ℕ
faults_after_put put.Done faults = faults
faults_after_put put.Failed faults = counted faults

-- what is held after a `put` that appends the whole piece or nothing
abbrev pub held_after_put : Put → List ℕ → List ℕ → List ℕ
held_after_put put.Done held piece = held ++ piece
held_after_put put.Failed held piece = held
