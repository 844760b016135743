-- Replacing where macros that give nothing are remembered.
use Rattle.std.specs.Prelude.{◌≡◌, ℕ, ◌+◌, ◌<◌, ◌≤◌, List, [], ◌∷◌, ◌++◌, map, length, take, Bool, true, false, if◌then◌else◌, slice_index_or, slice_set}
use Rattle.c_macros.specs.declared.token.Token.{Token}
use Rattle.c_macros.specs.declared.token.Token.TheVariants.{Name, Other}
use Rattle.jf_base.specs.declared.place.Place.{Place}
use Rattle.c_macros.specs.declared.token.Spanned.{Spanned}
use Rattle.c_macros.specs.declared.expander.Frame.{Frame}
use Rattle.c_macros.specs.declared.quick.Level.{Level}
use Rattle.c_macros.specs.declared.quick.Kind.{Kind}
use Rattle.c_macros.specs.declared.quick.Kind.TheVariants.{Void, Open, Plain}
use Rattle.c_macros.specs.Expansion.{Bodies, Macros}
use Rattle.c_macros.specs.Stack.{Running}
use Rattle.c_macros.specs.Void.{member, AllIn, AreVoid, AreOn}

abbrev pub kind_at : Macros → List Bool → Token → Kind
kind_at on void (Name n) = if slice_index_or void n false then Void else (if slice_index_or on n false then Open n else Plain)
kind_at on void (Other c) = Plain

abbrev pub wet : List Level → List Level
wet [] = []
wet (l ∷ ls) = record l { dry = false } ∷ ls

abbrev pub next : Level → Bool → Level
next l dry = record { name = l.name; at = l.at + 1; dry = dry }

abbrev pub opened : ℕ → Level
opened n = record { name = n; at = 0; dry = true }

abbrev pub Takes : Kind → Bool → ℕ → Token → Place → Level → Macros → List Level → List Spanned → Macros → List Level → List Spanned → Type 0
Takes Void true limit t p l on ls out on' ls' out' = (on' ≡ on) × (ls' ≡ next l l.dry ∷ ls) × (out' ≡ out)
Takes (Open n) true limit t p l on ls out on' ls' out' = (on' ≡ slice_set on n false) × (ls' ≡ opened n ∷ next l l.dry ∷ ls) × (out' ≡ out)
Takes Plain true limit t p l on ls out on' ls' out' = (on' ≡ on) × (ls' ≡ next l false ∷ ls) × (out' ≡ out ++ record { token = t; place = p } ∷ []) × (length out < limit)
Takes Plain false limit t p l on ls out on' ls' out' = limit ≤ length out
Takes Void false limit t p l on ls out on' ls' out' = ⊥
Takes (Open n) false limit t p l on ls out on' ls' out' = ⊥

-- the innermost first: where one has given nothing, each token that it took is void, or is the one inside it
abbrev pub Dry : Bodies → List ℕ → List Level → Type 0
Dry bodies names [] = Unit {0}
Dry bodies names (l ∷ ls) = l.dry ≡ true → AllIn (take l.at (slice_index_or bodies l.name [])) names × Dry bodies (l.name ∷ names) ls

abbrev pub InRange : ℕ → List Level → Type 0
InRange size [] = Unit {0}
InRange size (l ∷ ls) = (l.name < size) × InRange size ls

pub record Holds (bodies : Bodies) (on : Macros) (void : List Bool) (ls : List Level) : Type 0 where
  pub names : List ℕ
  pub are_void : AreVoid bodies names
  pub are_on : AreOn on names
  pub flags : (m : ℕ) → slice_index_or void m false ≡ member m names
  pub size : length on ≤ length void
  pub range : InRange (length on) ls
  pub dry : Dry bodies names ls

-- the flags tell names that are void
abbrev pub Remembers : Bodies → Macros → List Bool → Type 0
Remembers bodies on void = Holds bodies on void []

abbrev pub frame_of : Level → Frame
frame_of l = record { name = l.name; at = l.at }

abbrev pub frames : List Level → List Frame
frames ls = map frame_of ls

-- what holds while a token is replaced
pub record Live (bodies : Bodies) (limit : ℕ) (token : Token) (place : Place) (on0 : Macros) (out0 : List Spanned) (on : Macros) (void : List Bool) (ls : List Level) (out : List Spanned) : Type 0 where
  pub running : Running bodies limit token place on0 out0 on (frames ls) out
  pub holds : Holds bodies on void ls
