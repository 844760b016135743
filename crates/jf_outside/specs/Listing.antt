-- A list of files by name, and what the answers of a library say of it.
use Rattle.std.specs.Prelude.{◌≡◌, ℕ, List, [], ◌∷◌, Option, Some, None, if◌then◌else◌, Result, Ok, Err, Vec}
use Rattle.std.specs.Str.{bytes_eq}
use Rattle.std.specs.declared.alloc.Global.{Global}
use Rattle.jf_outside.specs.declared.LibraryFault.{LibraryFault}
use Rattle.jf_outside.specs.declared.LibraryFault.TheVariants.{Memory, Failed}
use Rattle.jf_outside.specs.Count.{Rose, counted}

-- the bytes of the first entry of this name
abbrev pub listed : List (List ℕ × List ℕ) → List ℕ → Option (List ℕ)
listed [] name = None
listed (file ∷ files) name = if bytes_eq file.0 name then Some file.1 else listed files name

-- the fault count over a call of `read`
abbrev pub ReadCounts : Result (Vec ℕ Global) LibraryFault → ℕ → ℕ → Type 0
ReadCounts (Ok bytes) before now = now ≡ before
ReadCounts (Err Memory) before now = now ≡ before
ReadCounts (Err Failed) before now = Rose before now

-- a listed name that doesn't fail gives its bytes, and leaves the strays; an absent one fails and is a stray
abbrev pub ReadGives : Option (List ℕ) → Result (Vec ℕ Global) LibraryFault → ℕ → ℕ → Type 0
ReadGives (Some bytes) (Ok read) strays strays' = (read.items ≡ bytes) × (strays' ≡ strays)
ReadGives (Some bytes) (Err fault) strays strays' = strays' ≡ strays
ReadGives None (Ok read) strays strays' = ⊥
ReadGives None (Err Memory) strays strays' = ⊥
ReadGives None (Err Failed) strays strays' = Rose strays strays'

-- a count that counts each failed `read`
abbrev pub faults_after_read : Result (Vec ℕ Global) LibraryFault → ℕ → ℕ
faults_after_read (Ok bytes) faults = faults
faults_after_read (Err Memory) faults = faults
faults_after_read (Err Failed) faults = counted faults

-- a count that counts each name that isn't listed
abbrev pub strays_after_read : Option (List ℕ) → ℕ → ℕ
strays_after_read (Some bytes) strays = strays
strays_after_read None strays = counted strays
