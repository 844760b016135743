-- Reading that goes on or ends.
use Rattle.std.specs.Prelude.{◌≡◌, ℕ, List, Option, Some, None, Result, Ok, Err, String, string_bytes}
use Rattle.c_lines.specs.declared.rule.Rule.{Rule}
use Rattle.jf_base.specs.declared.place.Place.{Place}
use Rattle.c_directives.specs.declared.stop.Broken.{Broken}
use Rattle.c_directives.specs.declared.stop.Stop.{Stop}
use Rattle.c_directives.specs.declared.stop.Stop.TheVariants as stop

-- a rule is broken, or a file is asked for in vain
pub data End : Type 0 where
  At : (broken : Broken) → End
  Asks : (name : List ℕ) → End

abbrev pub Read : Type 0 → Type 0
Read A = Result A End

infixl 10 ◌>>=◌
abbrev pub ◌>>=◌ : {A B : Type 0} → Read A → (A → Read B) → Read B
(Ok x) >>= f = f x
(Err e) >>= f = Err e

abbrev pub broken : {A : Type 0} → Rule → Place → Read A
broken r p = Err (At (record { place = p; rule = r }))

-- what is told of something that reads no file: its value, or the rule that is broken; want of memory tells nothing
abbrev pub Says : {A B : Type 0} → Result A Stop → (A → B) → Read B → Type 0
Says (Ok x) view r = r ≡ Ok (view x)
Says (Err stop.Memory) view r = Unit {0}
Says (Err (stop.Library name)) view r = ⊥
Says (Err (stop.At f)) view r = r ≡ Err (At f)
